-- Why the lines of each kind of source are good. Assumes nothing.
use Rattle.std.specs.Prelude.{◌≡◌, ℕ, true, List, [], ◌∷◌, length, nat_lt, Ok, Err}
use Rattle.std.proofs.ByRecursion.{All-append}
use Rattle.std.proofs.lemmas.Bool.{ltb-true, ltb-false, and_parts, cond_both}
use Rattle.kallsyms.specs.Line.{Plain, GoodLine, GoodLines, number_after}
use Rattle.kallsyms.specs.Joins.{joined_lines}
use Rattle.kallsyms.specs.Cut.{plain, verdict, keep, kept}
use Rattle.kallsyms.specs.Ends.{End}

pub good_joined : (ls : List (List ℕ)) (e : End) (ms : List (List ℕ)) → GoodLines ls → GoodLines ms → GoodLines (joined_lines ls e ms)
good_joined ls (Ok tt) ms f g = All-append GoodLine ls ms f g
good_joined ls (Err x) ms f g = f

pub plain-Plain : (p : List ℕ) → plain p ≡ true → Plain p
plain-Plain [] e = tt
plain-Plain (b ∷ p) e =
    let parts = and_parts (nat_lt b 128) (plain p) e in
    (ltb-true b 128 parts.0, plain-Plain p parts.1)

good_keep : (n : ℕ) (p : List ℕ) (ls : List (List ℕ)) → GoodLines ls → GoodLines (keep (verdict n p) p ls)
good_keep n p ls f =
    cond_both (nat_lt 1024 (length p)) _ _ (λ v. GoodLines (keep v p ls)) (λ _. tt)
    (λ short. cond_both (plain p) _ _ (λ v. GoodLines (keep v p ls)) (λ e. ((ltb-false 1024 (length p) short, plain-Plain p e), f)) (λ _. tt))

pub good_kept : (n : ℕ) (ps : List (List ℕ)) → GoodLines (kept n ps)
good_kept n [] = tt
good_kept n (p ∷ ps) = good_keep n p (kept (number_after n) ps) (good_kept (number_after n) ps)
