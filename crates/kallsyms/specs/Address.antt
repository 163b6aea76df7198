-- The address that a field holds. Assumes nothing.
use Rattle.std.specs.Prelude.{ℕ, ◌+◌, ◌-◌, ◌*◌, ◌^◌, cond, ◌&&◌, List, [], ◌∷◌, Some, None, Option, ◌==◌, nat_le, nat_lt}

-- the value of a byte as a hexadecimal digit: 0 to 9, A to F or a to f
abbrev pub digit : ℕ → Option ℕ
digit b = cond (nat_le 48 b && nat_le b 57) (Some (b - 48)) (cond (nat_le 65 b && nat_le b 70) (Some (b - 55)) (cond (nat_le 97 b && nat_le b 102) (Some (b - 87)) None))

-- what a table of digits holds: the value, or 255 for none
abbrev pub entry : Option ℕ → ℕ
entry None = 255
entry (Some d) = d

-- what a step makes of a digit, if there is one
abbrev pub given : Option ℕ → (ℕ → Option ℕ) → Option ℕ
given None step = None
given (Some d) step = step d

-- digits after a number so far: each makes it 16 times as large and adds its value
abbrev pub digits : ℕ → List ℕ → Option ℕ
digits n [] = Some n
digits n (b ∷ bs) = given (digit b) (λ d. digits (n * 16 + d) bs)

-- one or more digits
abbrev pub number : List ℕ → Option ℕ
number [] = None
number (b ∷ bs) = digits 0 (b ∷ bs)

-- without one `+` at the front
abbrev pub unsigned : List ℕ → List ℕ
unsigned [] = []
unsigned (b ∷ bs) = cond (b == 43) bs (b ∷ bs)

-- at most 2 ^ 64 - 1
abbrev pub limited : Option ℕ → Option ℕ
limited o = given o (λ n. cond (nat_lt n (2 ^ 64)) (Some n) None)

-- an address is an optional `+` and then one or more digits, of a value below 2 ^ 64; any other bytes do not read
abbrev pub address : List ℕ → Option ℕ
address bs = limited (number (unsigned bs))
