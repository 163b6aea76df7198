-- What rows hold, with one line more. Assumes nothing.
use Rattle.std.proofs.Common.{◌≡◌, ℕ, ◌<◌, ◌≤◌, min, cond, ltb, true, false, leb, List, [], ◌∷◌, ◌++◌, length, get_or, String, ap, sym, refl, subst, ◌∙◌, arith}
use Rattle.std.proofs.lemmas.Slice.Eq.{bytes_eq-Decides}
use Rattle.std.proofs.lemmas.Bool.{leb-true, le-leb, lt-ltb, le-ltb, cond-true, cond-false, and_parts, and_from, both_ways, cond_both}
use Rattle.std.specs.Str.{bytes_eq}
use Rattle.std.specs.declared.alloc.Global.{Global}
use Rattle.kallsyms.specs.Fields.{fields, field}
use Rattle.kallsyms.specs.Address.{address}
use Rattle.kallsyms.specs.Line.{number_after}
use Rattle.lookup.proofs.Saying.{stays, more}
use Rattle.lookup.specs.Rows.{lists, noted, name_at, Filled}
use Rattle.lookup.specs.Says.{Lists, Says}
use Rattle.lookup.specs.declared.sighting.Sighting.{Sighting}
use Rattle.lookup.specs.declared.sighting.Sighting.TheVariants.{Unlisted}

listed : (l name : List ℕ) → lists name l ≡ true → Lists name l
listed l name t =
    let parts = and_parts (leb 3 (length (fields 0 l))) (bytes_eq (field 2 l).bytes name) t in
    (leb-true 3 _ parts.0, (bytes_eq-Decides (field 2 l).bytes name).0 parts.1)

unlisted : (l name : List ℕ) → lists name l ≡ false → Lists name l → ⊥
unlisted l name f h =
    both_ways _ f (and_from (leb 3 (length (fields 0 l))) (bytes_eq (field 2 l).bytes name) (le-leb 3 _ h.0) ((bytes_eq-Decides (field 2 l).bytes name).1 h.1))

-- what is noted of one line more is what the lines then say
noted_says : (xs : List (List ℕ)) (l name : List ℕ) (s : Sighting) → Says xs name s → Says (xs ++ l ∷ []) name (noted (number_after (length xs)) l name s)
noted_says xs l name s y =
    cond_both (lists name l) _ _ (Says (xs ++ l ∷ []) name)
    (λ t. more xs l name (listed l name t) (address (field 0 l).bytes) refl s y)
    (λ f. stays xs l name s (λ h. absurd (unlisted l name f h)) y)

-- rows in which a line was noted hold what the lines with it say
pub rows_say : (names : List (String Global)) (old new : List Sighting) (xs : List (List ℕ)) (l : List ℕ) (n : ℕ)
    → n ≡ number_after (length xs)
    → length new ≡ length old
    → ((k : ℕ) → get_or new k Unlisted ≡ cond (ltb k (min (length names) (length old))) (noted n l (name_at names k) (get_or old k Unlisted)) (get_or old k Unlisted))
    → Filled names xs old
    → Filled names (xs ++ l ∷ []) new
rows_say names old new xs l n numbered len note held = record {
  says = λ k lt row.
      let both : k < min (length names) (length old) = omega arith in
      let before : k < length old = omega arith in
      let now : get_or new k Unlisted ≡ noted (number_after (length xs)) l (name_at names k) (get_or old k Unlisted) = note k ∙ cond-true _ _ _ (lt-ltb k _ both) ∙ ap (λ m. noted m l (name_at names k) (get_or old k Unlisted)) numbered in
      subst (Says (xs ++ l ∷ []) (name_at names k)) (sym now) (noted_says xs l (name_at names k) (get_or old k Unlisted) (held.says k lt before));
  spare = λ k ge.
      let past : min (length names) (length old) ≤ k = omega arith in
      note k ∙ cond-false _ _ _ (le-ltb k _ past) ∙ held.spare k ge;
}
