-- Lines say at most one thing of a name. Assumes nothing.
use Rattle.std.proofs.Common.{◌≡◌, ℕ, ◌<◌, List, Some, None, Option, sym, refl, ap, ◌∙◌, subst, ⊎_elim, arith}
use Rattle.std.proofs.lemmas.Bool.{cases_order}
use Rattle.kallsyms.specs.Line.{number_after}
use Rattle.lookup.specs.Says.{Gives, Before, ZeroOr, SaysUnlisted, SaysOnlyZero, SaysAt, SaysTwo, SaysUnreadable, Says}
use Rattle.lookup.specs.declared.sighting.Sighting.{Sighting}
use Rattle.lookup.specs.declared.sighting.Sighting.TheVariants.{Unlisted, OnlyZero, At, TwoAddresses, Unreadable}

not_zero : {x : ℕ} → 0 < x → Some x ≡ Some 0 → ⊥
not_zero {x} pos e = let z : x ≡ 0 = cc in omega arith

not_none : {x : ℕ} → None ≡ Some x → ⊥
not_none e = cc

-- an address that is zero or x, and not zero, is x
is_other : (x : ℕ) {y : ℕ} → 0 < y → ZeroOr x (Some y) → y ≡ x
is_other x pos = ⊎_elim (λ e. absurd (not_zero pos e)) (λ e. cc)

not_read : (x : ℕ) → ZeroOr x None → ⊥
not_read x = ⊎_elim not_none not_none

module _ (ls : List (List ℕ)) (name : List ℕ) where
  -- two lines of which neither comes before the other are the same
  same_place : (k j : ℕ) → (k < j → ⊥) → (j < k → ⊥) → k ≡ j
  same_place k j f g = ⊎_elim (λ e. e) (⊎_elim (λ lt. absurd (f lt)) (λ lt. absurd (g lt))) (cases_order k j)

  same_number : (k j n m : ℕ) → k ≡ j → n ≡ number_after k → m ≡ number_after j → n ≡ m
  same_number k j n m e f g = f ∙ ap number_after e ∙ sym g

  -- one line gives one address
  same_address : (k j : ℕ) (a b : Option ℕ) → k ≡ j → Gives ls name k a → Gives ls name j b → a ≡ b
  same_address k j a b e g h = let moved = subst (λ i. Gives ls name i a) e g in sym moved.2 ∙ h.2

  -- the first line that gives an address that is not zero
  first_place : (k j x y : ℕ) → 0 < x → 0 < y → Gives ls name k (Some x) → Gives ls name j (Some y) → Before ls name k (λ a. a ≡ Some 0) → Before ls name j (λ a. a ≡ Some 0) → k ≡ j
  first_place k j x y px py g h f e =
      same_place k j (λ lt. not_zero px (e k (Some x) lt g)) (λ lt. not_zero py (f j (Some y) lt h))

  none_given : (k : ℕ) (a : Option ℕ) → SaysUnlisted ls name → Gives ls name k a → ⊥
  none_given k a y g = y k a g.0 g

  only_zero : (n k x : ℕ) → SaysOnlyZero ls name n → 0 < x → Gives ls name k (Some x) → ⊥
  only_zero n k x y pos g = not_zero pos (y.all k (Some x) g.0 g)

  zero_reads : (n m : ℕ) → SaysOnlyZero ls name n → SaysUnreadable ls name m → ⊥
  zero_reads n m y z = not_none (y.all z.at None z.gives.0 z.gives)

  at_reads : (n x m : ℕ) → SaysAt ls name n x → SaysUnreadable ls name m → ⊥
  at_reads n x m y z = not_read x (y.all z.at None z.gives.0 z.gives)

  at_one : (n x m v k w : ℕ) → SaysAt ls name n x → SaysTwo ls name m v k w → ⊥
  at_one n x m v k w y z =
      z.apart
      (is_other x z.nonzero (y.all z.at (Some v) z.gives.0 z.gives)
      ∙ sym (is_other x z.other_nonzero (y.all z.other (Some w) z.other_gives.0 z.other_gives)))

  -- the line with the first address comes before the line with the other
  two_order : (m v k w : ℕ) (z : SaysTwo ls name m v k w) → z.at < z.other
  two_order m v k w z =
      ⊎_elim
      (λ e. absurd (z.apart (let s = same_address z.at z.other (Some v) (Some w) e z.gives z.other_gives in cc)))
      (⊎_elim (λ lt. lt) (λ lt. absurd (not_zero z.other_nonzero (z.first z.other (Some w) lt z.other_gives))))
      (cases_order z.at z.other)

  two_read : (m v k w n : ℕ) → SaysTwo ls name m v k w → SaysUnreadable ls name n → ⊥
  two_read m v k w n z y =
      let order = two_order m v k w z in
      let one = y.one in
      ⊎_elim
      (λ e. not_none (sym (same_address z.other y.at (Some w) None e z.other_gives y.gives)))
      (⊎_elim
      (λ lt. z.apart (is_other one z.nonzero (y.before z.at (Some v) (omega arith) z.gives) ∙ sym (is_other one z.other_nonzero (y.before z.other (Some w) lt z.other_gives))))
      (λ lt. not_read v (z.before y.at None lt y.gives)))
      (cases_order z.other y.at)

  same_zero : (n m : ℕ) → SaysOnlyZero ls name n → SaysOnlyZero ls name m → n ≡ m
  same_zero n m y z =
      same_number y.at z.at n m (same_place y.at z.at (λ lt. z.first y.at (Some 0) lt y.gives) (λ lt. y.first z.at (Some 0) lt z.gives)) y.numbered z.numbered

  same_at : (n x m v : ℕ) → SaysAt ls name n x → SaysAt ls name m v → At n x ≡ At m v
  same_at n x m v y z =
      let place = first_place y.at z.at x v y.nonzero z.nonzero y.gives z.gives y.first z.first in
      let line = same_number y.at z.at n m place y.numbered z.numbered in
      let address = same_address y.at z.at (Some x) (Some v) place y.gives z.gives in
      let value : x ≡ v = cc in
      cc

  same_two : (n x m v n' x' m' v' : ℕ) → SaysTwo ls name n x m v → SaysTwo ls name n' x' m' v' → TwoAddresses n x m v ≡ TwoAddresses n' x' m' v'
  same_two n x m v n' x' m' v' y z =
      let place = first_place y.at z.at x x' y.nonzero z.nonzero y.gives z.gives y.first z.first in
      let line = same_number y.at z.at n n' place y.numbered z.numbered in
      let address = same_address y.at z.at (Some x) (Some x') place y.gives z.gives in
      let value : x ≡ x' = cc in
      let other =
      same_place y.other z.other
      (λ lt. y.apart (value ∙ sym (is_other x' y.other_nonzero (z.before y.other (Some v) lt y.other_gives))))
      (λ lt. z.apart (sym value ∙ sym (is_other x z.other_nonzero (y.before z.other (Some v') lt z.other_gives)))) in
      let other_line = same_number y.other z.other m m' other y.other_numbered z.other_numbered in
      let other_address = same_address y.other z.other (Some v) (Some v') other y.other_gives z.other_gives in
      let other_value : v ≡ v' = cc in
      cc

  same_unreadable : (n m : ℕ) → SaysUnreadable ls name n → SaysUnreadable ls name m → n ≡ m
  same_unreadable n m y z =
      same_number y.at z.at n m
      (same_place y.at z.at (λ lt. not_read z.one (z.before y.at None lt y.gives)) (λ lt. not_read y.one (y.before z.at None lt z.gives)))
      y.numbered z.numbered

  pub once : (s t : Sighting) → Says ls name s → Says ls name t → s ≡ t
  once Unlisted Unlisted y z = refl
  once Unlisted (OnlyZero m) y z = absurd (none_given _ _ y z.gives)
  once Unlisted (At m v) y z = absurd (none_given _ _ y z.gives)
  once Unlisted (TwoAddresses m v k w) y z = absurd (none_given _ _ y z.gives)
  once Unlisted (Unreadable m) y z = absurd (none_given _ _ y z.gives)
  once (OnlyZero n) Unlisted y z = absurd (none_given _ _ z y.gives)
  once (OnlyZero n) (OnlyZero m) y z = ap OnlyZero (same_zero n m y z)
  once (OnlyZero n) (At m v) y z = absurd (only_zero n _ v y z.nonzero z.gives)
  once (OnlyZero n) (TwoAddresses m v k w) y z = absurd (only_zero n _ v y z.nonzero z.gives)
  once (OnlyZero n) (Unreadable m) y z = absurd (zero_reads n m y z)
  once (At n x) Unlisted y z = absurd (none_given _ _ z y.gives)
  once (At n x) (OnlyZero m) y z = absurd (only_zero m _ x z y.nonzero y.gives)
  once (At n x) (At m v) y z = same_at n x m v y z
  once (At n x) (TwoAddresses m v k w) y z = absurd (at_one n x m v k w y z)
  once (At n x) (Unreadable m) y z = absurd (at_reads n x m y z)
  once (TwoAddresses n x j u) Unlisted y z = absurd (none_given _ _ z y.gives)
  once (TwoAddresses n x j u) (OnlyZero m) y z = absurd (only_zero m _ x z y.nonzero y.gives)
  once (TwoAddresses n x j u) (At m v) y z = absurd (at_one m v n x j u z y)
  once (TwoAddresses n x j u) (TwoAddresses m v k w) y z = same_two n x j u m v k w y z
  once (TwoAddresses n x j u) (Unreadable m) y z = absurd (two_read n x j u m y z)
  once (Unreadable n) Unlisted y z = absurd (none_given _ _ z y.gives)
  once (Unreadable n) (OnlyZero m) y z = absurd (zero_reads m n z y)
  once (Unreadable n) (At m v) y z = absurd (at_reads m v n z y)
  once (Unreadable n) (TwoAddresses m v k w) y z = absurd (two_read m v k w n z y)
  once (Unreadable n) (Unreadable m) y z = ap Unreadable (same_unreadable n m y z)
