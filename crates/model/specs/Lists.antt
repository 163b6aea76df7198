-- Lists of rows of any kind: what is in one, the lookup by key, and the first refusal. Assumes nothing.
use Rattle.std.specs.Prelude.{◌≡◌, ℕ, suc, Bool, true, cond, ◌&&◌, ◌||◌, ◌⊎◌, List, [], ◌∷◌, Some, None, Ok, Err, Option, Result, ◌==◌, nat_lt}
use Rattle.std.specs.Option.{option_or}

-- x is one of the list
abbrev pub In : {X : Type 0} → X → List X → Type 0
In x [] = ⊥
In x (y ∷ ys) = (y ≡ x) ⊎ In x ys

-- whether each of the list comes before the next
abbrev pub ascends : {X : Type 0} → (X → X → Bool) → List X → Bool
ascends before [] = true
ascends before (x ∷ []) = true
ascends before (x ∷ y ∷ ys) = before x y && ascends before (y ∷ ys)

-- a pair of numbers comes before another by the first, and by the second where the first are equal
abbrev pub earlier : ℕ × ℕ → ℕ × ℕ → Bool
earlier p q = nat_lt p.0 q.0 || (p.0 == q.0 && nat_lt p.1 q.1)

-- the lookup by key: the first row that has it, with its number, the rows being counted from n
abbrev pub lookup : {X : Type 0} → (X → Bool) → ℕ → List X → Option (ℕ × X)
lookup has n [] = None
lookup has n (x ∷ xs) = cond (has x) (Some (n, x)) (lookup has (suc n) xs)

-- the number alone
abbrev pub number_of : {X : Type 0} → Option (ℕ × X) → Option ℕ
number_of None = None
number_of (Some k) = Some k.0

-- a refusal that waits for the number of its row
abbrev pub numbered : {R : Type 0} → ℕ → Option (ℕ → R) → Option R
numbered n None = None
numbered n (Some f) = Some (f n)

-- the first refusal that a row meets, with the row's number, the rows being counted from n
abbrev pub first : {X R : Type 0} → (X → Option (ℕ → R)) → ℕ → List X → Option R
first why n [] = None
first why n (x ∷ xs) = option_or (numbered n (why x)) (first why (suc n) xs)

-- one grant before others
abbrev pub with_first : {X R : Type 0} → Result X R → Result (List X) R → Result (List X) R
with_first (Err e) rest = Err e
with_first (Ok x) (Err e) = Err e
with_first (Ok x) (Ok xs) = Ok (x ∷ xs)

-- what each of the list comes to, all of them granted, or the first refusal; they are counted from n
abbrev pub each : {X Y R : Type 0} → (ℕ → X → Result Y R) → ℕ → List X → Result (List Y) R
each f n [] = Ok []
each f n (x ∷ xs) = with_first (f n x) (each f (suc n) xs)

-- a relation holds of two lists' elements in turn, and the lists are as long
abbrev pub InTurn : {X Y : Type 0} → (X → Y → Type 0) → List X → List Y → Type 0
InTurn R [] [] = Unit {0}
InTurn R [] (y ∷ ys) = ⊥
InTurn R (x ∷ xs) [] = ⊥
InTurn R (x ∷ xs) (y ∷ ys) = R x y × InTurn R xs ys
