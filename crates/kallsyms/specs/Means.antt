-- What a text means, said without cutting it: a relation between a text, its lines and its end. Assumes nothing.
use Rattle.std.specs.Prelude.{◌≡◌, ℕ, ◌<◌, ◌≤◌, ◌⊎◌, List, [], ◌∷◌, ◌++◌, length, ◌≢◌, Ok, Err}
use Rattle.std.specs.List.{AllByRecursion}
use Rattle.kallsyms.specs.Line.{Plain, GoodLines, number_after}
use Rattle.kallsyms.specs.declared.ends.Fault.{Fault}
use Rattle.kallsyms.specs.declared.ends.Fault.TheVariants.{LineTooLong, ByteTooLarge}
use Rattle.kallsyms.specs.Ends.{End}

-- no byte is 10
abbrev pub NoFeed : List ℕ → Type 0
NoFeed p = AllByRecursion (λ b. b ≢ 10) p

-- the last byte is not 13
abbrev pub NoReturn : List ℕ → Type 0
NoReturn p = (q : List ℕ) → p ≢ q ++ 13 ∷ []

-- a text is a piece, a byte 10, and the rest; and one byte 13 just before that byte 10 is not part of the piece
abbrev pub Ends : List ℕ → List ℕ → List ℕ → Type 0
Ends p bs rest = ((bs ≡ p ++ 10 ∷ rest) × NoReturn p) ⊎ (bs ≡ p ++ 13 ∷ 10 ∷ rest)

-- a text consists of these pieces, none of which has a byte 10; only the last may lack the byte 10 after it, if it is not empty
abbrev pub Consists : List (List ℕ) → List ℕ → Type 0
Consists [] bs = bs ≡ []
Consists (p ∷ ps) bs = NoFeed p × (((bs ≡ p) × (0 < length p) × (ps ≡ [])) ⊎ ((rest : List ℕ) × Ends p bs rest × Consists ps rest))

-- a piece that is the line of number n has this fault: it has more than 1024 bytes; or it has not, and some byte is 128 or more
abbrev pub Has : Fault → ℕ → List ℕ → Type 0
Has (LineTooLong m) n p = (m ≡ n) × (1024 < length p)
Has (ByteTooLarge m) n p = (m ≡ n) × (length p ≤ 1024) × (Plain p → ⊥)

-- a text means these lines and this end: it consists of lines; or of lines, a piece that has the fault, and more pieces
abbrev pub Means : List ℕ → List (List ℕ) → End → Type 0
Means bs ls (Ok tt) = Consists ls bs × GoodLines ls
Means bs ls (Err f) = (p : List ℕ) × (ps : List (List ℕ)) × Consists (ls ++ p ∷ ps) bs × GoodLines ls × Has f (number_after (length ls)) p

-- a text means these lines and this end, and no others
pub record OneMeaning (bs : List ℕ) (ls : List (List ℕ)) (e : End) : Type 0 where
  pub means : Means bs ls e
  pub alone : (ls' : List (List ℕ)) (e' : End) → Means bs ls' e' → (ls' ≡ ls) × (e' ≡ e)
