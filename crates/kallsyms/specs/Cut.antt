-- The lines of a text, and its end. Assumes nothing.
use Rattle.std.specs.Prelude.{ℕ, Bool, true, false, cond, ◌&&◌, List, [], ◌∷◌, length, ◌==◌, nat_lt, Ok, Err}
use Rattle.kallsyms.specs.Line.{number_after}
use Rattle.kallsyms.specs.Joins.{joined_end}
use Rattle.kallsyms.specs.declared.ends.Fault.TheVariants.{LineTooLong, ByteTooLarge}
use Rattle.kallsyms.specs.Ends.{End, clean}

-- whether the next byte is 10
abbrev pub feeds : List ℕ → Bool
feeds [] = false
feeds (b ∷ bs) = b == 10

-- a byte at the front of the first piece
abbrev pub onto : ℕ → List (List ℕ) → List (List ℕ)
onto b [] = (b ∷ []) ∷ []
onto b (p ∷ ps) = (b ∷ p) ∷ ps

-- a piece ends at a byte 10, and one byte 13 just before it is in no piece; what follows the last byte 10 is a piece if it is not empty
abbrev pub pieces : List ℕ → List (List ℕ)
pieces [] = []
pieces (b ∷ bs) = cond (b == 10) ([] ∷ pieces bs) (cond (b == 13 && feeds bs) (pieces bs) (onto b (pieces bs)))

-- whether each byte is below 128
abbrev pub plain : List ℕ → Bool
plain [] = true
plain (b ∷ bs) = nat_lt b 128 && plain bs

-- whether the piece at a line number is a line, or else its fault: too long is looked for before too large
abbrev pub verdict : ℕ → List ℕ → End
verdict n p = cond (nat_lt 1024 (length p)) (Err (LineTooLong n)) (cond (plain p) clean (Err (ByteTooLarge n)))

-- a piece before the lines after it, or no line where it has a fault
abbrev pub keep : End → List ℕ → List (List ℕ) → List (List ℕ)
keep (Ok tt) p ls = p ∷ ls
keep (Err f) p ls = []

-- the pieces before the first that has a fault
abbrev pub kept : ℕ → List (List ℕ) → List (List ℕ)
kept n [] = []
kept n (p ∷ ps) = keep (verdict n p) p (kept (number_after n) ps)

-- the first fault, or clean
abbrev pub ended : ℕ → List (List ℕ) → End
ended n [] = clean
ended n (p ∷ ps) = joined_end (verdict n p) (ended (number_after n) ps)

-- the lines of a text whose first line has number n
abbrev pub lines_from : ℕ → List ℕ → List (List ℕ)
lines_from n bs = kept n (pieces bs)

-- and its end
abbrev pub end_from : ℕ → List ℕ → End
end_from n bs = ended n (pieces bs)
