-- What a line is, and its number. Assumes nothing.
use Rattle.std.specs.Prelude.{ℕ, ◌+◌, ◌-◌, ◌^◌, ◌<◌, ◌≤◌, min, List, length}
use Rattle.std.specs.List.{AllByRecursion}

-- each byte is below 128
abbrev pub Plain : List ℕ → Type 0
Plain l = AllByRecursion (λ b. b < 128) l

-- a line has at most 1024 bytes, all below 128
abbrev pub GoodLine : List ℕ → Type 0
GoodLine l = (length l ≤ 1024) × Plain l

-- each of the lines is one
abbrev pub GoodLines : List (List ℕ) → Type 0
GoodLines ls = AllByRecursion GoodLine ls

-- the number of the line that comes after n others: lines are counted from 1, and the number stays at the greatest of 64 bits
abbrev pub number_after : ℕ → ℕ
number_after n = min (n + 1) (2 ^ 64 - 1)

-- how many lines there are, which stays at the greatest of 64 bits too
abbrev pub count_of : List (List ℕ) → ℕ
count_of ls = min (length ls) (2 ^ 64 - 1)
