-- Which lines a resolution reads, and which line it is refused for.
use Rattle.std.proofs.Common.{rules, ◌≡◌, ℕ, suc, ◌+◌, Bool, true, false, not, ◌||◌, List, [], ◌∷◌, ◌++◌, map, length, is_some, Some, None, Option, sym, refl, ap, ◌∙◌, inl, inr, arith}
use Rattle.std.specs.Option.{option_or}
use Rattle.std.specs.List.{list_any}
use Rattle.std.proofs.lemmas.Bool.{cond-true, cond-false, or_left, or_right, true≢false, false_from_ne_true}
use Rattle.std.proofs.Math.Nat.{zero-add}
use Rattle.model.specs.Externs.{Extern}
use Rattle.model.specs.Lines.{Line, said}
use Rattle.model.specs.Lists.{In, first, numbered}
use Rattle.model.specs.ReadLaws.{Reads, LinesAreRead}
use Rattle.model.specs.Resolve.{typed_refusal, wanted, after_first}
use Rattle.model.specs.Tables.{Catalogue}
use Rattle.model.specs.declared.refusal.Reason.{Reason}
use Rattle.model.proofs.Lookups.{none_is}

module _ (stops : List ℕ → Bool) where
  after_none : (ls : List (List ℕ)) → ((l : List ℕ) → In l ls → stops l ≡ true → ⊥) → after_first stops ls ≡ []
  after_none [] h = refl
  after_none (l ∷ ls) h = cond-false (stops l) ls (after_first stops ls) (false_from_ne_true (stops l) (h l (inl refl))) ∙ after_none ls (λ k i. h k (inr i))

  after_one : (front : List (List ℕ)) (l : List ℕ) (back : List (List ℕ)) → ((k : List ℕ) → In k front → stops k ≡ true → ⊥) → stops l ≡ true → after_first stops (front ++ l ∷ back) ≡ back
  after_one [] l back h t = cond-true (stops l) back (after_first stops back) t
  after_one (k ∷ front) l back h t =
      cond-false (stops k) (front ++ l ∷ back) (after_first stops (front ++ l ∷ back)) (false_from_ne_true (stops k) (h k (inl refl))) ∙ after_one front l back (λ j i. h j (inr i)) t

-- whether a resolution reads no line
idle : (c : Option Catalogue) (xs : List Extern) → Reads c xs → (is_some (first (typed_refusal c) 0 xs) || not (list_any wanted xs)) ≡ false
idle c xs h = search rules

-- the first refusal is that of the first line that has one
module _ (why : Line → Option (ℕ → Reason)) where
  first_at : (n : ℕ) (front : List (List ℕ)) (l : List ℕ) (back : List (List ℕ))
      → ((k : List ℕ) → In k front → is_some (why (said k)) ≡ true → ⊥)
      → is_some (why (said l)) ≡ true
      → first why n (map said (front ++ l ∷ back)) ≡ numbered (n + length front) (why (said l))
  first_at n [] l back h t = here n (why (said l)) _ t
    where
      here : (n : ℕ) (o : Option (ℕ → Reason)) (r : Option Reason) → is_some o ≡ true → option_or (numbered n o) r ≡ numbered (n + 0) o
      here n None r t = absurd (true≢false (sym t))
      here n (Some f) r t = let e : n ≡ n + 0 = omega arith in ap (λ k. Some (f k)) e
  first_at n (k ∷ front) l back h t =
      let none = none_is (why (said k)) (false_from_ne_true (is_some (why (said k))) (h k (inl refl))) in
      let e : suc n + length front ≡ n + suc (length front) = omega arith in
      ap (λ o. option_or (numbered n o) (first why (suc n) (map said (front ++ l ∷ back)))) none
      ∙ first_at (suc n) front l back (λ j i. h j (inr i)) t
      ∙ ap (λ m. numbered m (why (said l))) e

some_first : (n : ℕ) (o : Option (ℕ → Reason)) (r : Option Reason) → is_some o ≡ true → option_or (numbered n o) r ≡ numbered n o
some_first n o r t = search rules

pub lines_are_read : LinesAreRead
lines_are_read = search (rules, or_left, or_right, after_none, after_one, first_at, some_first, zero-add)
