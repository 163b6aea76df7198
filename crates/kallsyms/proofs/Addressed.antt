-- Digits read one by one. Assumes nothing.
use Rattle.std.proofs.Common.{◌≡◌, ℕ, ◌+◌, ◌*◌, ◌^◌, ◌<◌, ◌≤◌, List, [], ◌∷◌, length, get_or, drop, Some, None, Option, sym, refl, ap, ◌∙◌, ⊎_elim, arith}
use Rattle.std.proofs.lemmas.Bool.{lt-ltb, le-ltb, cond-true, cond-false, cases_lt}
use Rattle.std.proofs.lemmas.List.{at_drop_more}
use Rattle.kallsyms.specs.Address.{digit, given, digits, limited}

-- a number is limited to itself, or to none
fits : (n : ℕ) → n < 2 ^ 64 → limited (Some n) ≡ Some n
fits n lt = cond-true _ (Some n) None (lt-ltb n (2 ^ 64) lt)

passes : (n : ℕ) → 2 ^ 64 ≤ n → limited (Some n) ≡ None
passes n ge = cond-false _ (Some n) None (le-ltb n (2 ^ 64) ge)

none_passes : (n : ℕ) → limited (Some n) ≡ None → 2 ^ 64 ≤ n
none_passes n e = ⊎_elim (λ lt. let z : ◌≡◌ {A = ℕ} 0 1 = cc (fits n lt, e) in absurd (omega arith)) (λ ge. ge) (cases_lt n (2 ^ 64))

none_after : (bs : List ℕ) (n : ℕ) (o : Option ℕ) → ((d : ℕ) → limited (digits (n * 16 + d) bs) ≡ None) → limited (given o (λ x. digits (n * 16 + x) bs)) ≡ None
none_after bs n None f = refl
none_after bs n (Some d) f = f d

-- a number that has grown too large stays so
too_large : (bs : List ℕ) (n : ℕ) → 2 ^ 64 ≤ n → limited (digits n bs) ≡ None
too_large [] n h = passes n h
too_large (b ∷ bs) n h = none_after bs n (digit b) (λ d. too_large bs (n * 16 + d) (omega arith))

module _ (bs : List ℕ) (i n : ℕ) (lt : i < length bs) (o : Option ℕ) (e : o ≡ digit (get_or bs i 0)) where
  step : digits n (drop i bs) ≡ given o (λ d. digits (n * 16 + d) (drop (i + 1) bs))
  step = at_drop_more (digits n) bs i 0 lt ∙ ap (λ x. given x (λ d. digits (n * 16 + d) (drop (i + 1) bs))) (sym e)

  digit_step : (d : ℕ) → o ≡ Some d → digits n (drop i bs) ≡ digits (n * 16 + d) (drop (i + 1) bs)
  digit_step d z = step ∙ ap (λ x. given x (λ d. digits (n * 16 + d) (drop (i + 1) bs))) z

  -- a digit that makes the number too large
  pub no_room : (d : ℕ) → o ≡ Some d → limited (Some (n * 16 + d)) ≡ None → None ≡ limited (digits n (drop i bs))
  no_room d z f = sym (ap limited (digit_step d z) ∙ too_large (drop (i + 1) bs) (n * 16 + d) (none_passes (n * 16 + d) f))
