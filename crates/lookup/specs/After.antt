-- One line more that lists a name. Assumes nothing.
use Rattle.std.specs.Prelude.{ℕ, Bool, true, false, cond, Some, None, Option, ◌==◌}
use Rattle.lookup.specs.declared.sighting.Sighting.{Sighting}
use Rattle.lookup.specs.declared.sighting.Sighting.TheVariants.{Unlisted, OnlyZero, At, TwoAddresses, Unreadable}

-- what holds of a name after line n has given an address that reads, or does not
abbrev pub after : ℕ → Option ℕ → Sighting → Sighting
after n None Unlisted = Unreadable n
after n None (OnlyZero m) = Unreadable n
after n None (At m x) = Unreadable n
after n None (TwoAddresses m x k y) = TwoAddresses m x k y
after n None (Unreadable m) = Unreadable m
after n (Some a) Unlisted = cond (a == 0) (OnlyZero n) (At n a)
after n (Some a) (OnlyZero m) = cond (a == 0) (OnlyZero m) (At n a)
after n (Some a) (At m x) = cond (a == 0) (At m x) (cond (x == a) (At m x) (TwoAddresses m x n a))
after n (Some a) (TwoAddresses m x k y) = TwoAddresses m x k y
after n (Some a) (Unreadable m) = Unreadable m

-- whether the name has one nonzero address
abbrev pub is_found : Sighting → Bool
is_found Unlisted = false
is_found (OnlyZero n) = false
is_found (At n x) = true
is_found (TwoAddresses n x m y) = false
is_found (Unreadable n) = false
