-- Names that are put into a map one by one. Assumes nothing.
use Rattle.std.proofs.Common.{◌≡◌, ℕ, ◌+◌, ◌<◌, Bool, true, false, cond, List, [], ◌∷◌, ◌++◌, length, get_or, take, Some, Option, string_bytes, String, refl, sym, ap, ◌∙◌}
use Rattle.std.proofs.lemmas.List.{take_more}
use Rattle.std.specs.Str.{bytes_eq}
use Rattle.std.specs.declared.alloc.Global.{Global}
use Rattle.lookup.specs.Asked.{asked}
use Rattle.lookup.specs.declared.sighting.Sighting.{Sighting}
use Rattle.lookup.specs.declared.sighting.Sighting.TheVariants.{Unlisted}

-- two tests for one value, in either order
either_order : (s t : Bool) (x o : Option Sighting) → cond s x (cond t x o) ≡ cond t x (cond s x o)
either_order true true x o = refl
either_order true false x o = refl
either_order false t x o = refl

push : (names : List (String Global)) (name : String Global) (bs : List ℕ) → asked (names ++ name ∷ []) bs ≡ cond (bytes_eq (string_bytes name) bs) (Some Unlisted) (asked names bs)
push [] name bs = refl
push (n ∷ names) name bs =
    ap (cond (bytes_eq (string_bytes n) bs) (Some Unlisted)) (push names name bs)
    ∙ either_order (bytes_eq (string_bytes n) bs) (bytes_eq (string_bytes name) bs) (Some Unlisted) (asked names bs)

-- one name more
pub one_more : (names : List (String Global)) (i : ℕ) (name : String Global) (bs : List ℕ) → i < length names → name ≡ get_or names i name → asked (take (i + 1) names) bs ≡ cond (bytes_eq (string_bytes name) bs) (Some Unlisted) (asked (take i names) bs)
one_more names i name bs lt is =
    ap (λ xs. asked xs bs) (take_more names i name lt ∙ ap (λ x. take i names ++ x ∷ []) (sym is)) ∙ push (take i names) name bs
