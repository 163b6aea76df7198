-- What an answer of a source says of the lines before the call. Assumes nothing.
use Rattle.std.proofs.Common.{◌≡◌, ℕ, List, [], ◌∷◌, length, take, Option, Some, Ok, Err, sym, ap, ◌∙◌, arith}
use Rattle.std.proofs.lemmas.List.{take_at}
use Rattle.kallsyms.specs.Steps.{Steps, padded}
use Rattle.kallsyms.specs.Ends.{End, at_end}

-- an end is no line
not_line : (e : End) (o : Option ℕ) (n : ℕ) → o ≡ Some n → Ok o ≡ at_end e → ⊥
not_line (Ok tt) o n is h = let z : ◌≡◌ {A = ℕ} 0 1 = cc in omega arith
not_line (Err f) o n is h = let z : ◌≡◌ {A = ℕ} 0 1 = cc h in omega arith

-- a line of n bytes is the first that was left, and stands in the buffer
pub at_line : (ls : List (List ℕ)) (b : List ℕ) {e : End} {o : Option ℕ} {n : ℕ} {ls' : List (List ℕ)} {e' : End} {b' : List ℕ} → o ≡ Some n → Steps ls e b (Ok o) ls' e' b' → (l : List ℕ) × (ls ≡ l ∷ ls') × (n ≡ length l) × (e' ≡ e) × (b' ≡ padded l)
at_line [] b {e} {o} {n} is h = absurd (not_line e o n is h.0)
at_line (l ∷ ls) b is h = (l, cc h.1, cc (is, h.0), h.2, h.3)

-- the first n bytes of the buffer are the line
pub line_in : (l b : List ℕ) (n : ℕ) → n ≡ length l → b ≡ padded l → take n b ≡ l
line_in l b n e f = ap (take n) f ∙ take_at l _ n (sym e)
