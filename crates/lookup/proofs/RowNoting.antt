-- A line that lists a name, and one that does not. Assumes nothing.
use Rattle.std.proofs.Common.{◌≡◌, ℕ, zero, suc, ◌+◌, ◌<◌, ◌≤◌, min, Bool, false, cond, ltb, leb, ◌≢◌, List, [], length, get_or, set, replicate, string_bytes, String, sym, refl, ap, ◌∙◌, ⊎_elim, arith}
use Rattle.std.proofs.lemmas.Slice.Eq.{bytes_eq-Decides}
use Rattle.std.proofs.lemmas.Bool.{le-leb, lt-leb, lt-ltb, le-ltb, and_from, and_left, and_right, cond-true, cond-false, cond_both, cases_Bool, cases_order}
use Rattle.std.proofs.lemmas.List.{get_or-set_same, get_or-set_other, set-get_or, get_or-map}
use Rattle.std.specs.Str.{bytes_eq}
use Rattle.std.specs.declared.alloc.Global.{Global}
use Rattle.kallsyms.specs.Fields.{fields, field}
use Rattle.kallsyms.specs.Address.{address}
use Rattle.lookup.specs.After.{after}
use Rattle.lookup.specs.Rows.{noted, name_at}
use Rattle.lookup.specs.declared.sighting.Sighting.{Sighting}
use Rattle.lookup.specs.declared.sighting.Sighting.TheVariants.{Unlisted}

-- two names that differ are told apart
apart : (xs ys : List ℕ) → (xs ≡ ys → ⊥) → bytes_eq xs ys ≡ false
apart xs ys h = ⊎_elim (λ t. absurd (h ((bytes_eq-Decides xs ys).0 t))) (λ f. f) (cases_Bool (bytes_eq xs ys))

module _ (n : ℕ) (l name : List ℕ) (s : Sighting) where
  pub noted_listed : 3 ≤ length (fields 0 l) → (field 2 l).bytes ≡ name → noted n l name s ≡ after n (address (field 0 l).bytes) s
  noted_listed three same =
      cond-true _ _ _ (and_from (leb 3 (length (fields 0 l))) (bytes_eq (field 2 l).bytes name) (le-leb 3 _ three) ((bytes_eq-Decides (field 2 l).bytes name).1 same))

  pub noted_other : ((field 2 l).bytes ≡ name → ⊥) → noted n l name s ≡ s
  noted_other other = cond-false _ _ _ (and_right (leb 3 (length (fields 0 l))) (bytes_eq (field 2 l).bytes name) (apart (field 2 l).bytes name other))

  pub noted_short : length (fields 0 l) < 3 → noted n l name s ≡ s
  noted_short few = cond-false _ _ _ (and_left (leb 3 (length (fields 0 l))) (bytes_eq (field 2 l).bytes name) (lt-leb 3 _ few))

-- the bytes of the name that was read
pub name_read : (names : List (String Global)) (i : ℕ) (x : String Global) → i < length names → x ≡ get_or names i x → name_at names i ≡ string_bytes x
name_read names i x lt e = get_or-map string_bytes names i x [] lt ∙ ap string_bytes (sym e)

module _ (i : ℕ) (old rows : List Sighting) (new : ℕ → Sighting) (before : (k : ℕ) → get_or rows k Unlisted ≡ cond (ltb k i) (new k) (get_or old k Unlisted)) where
  -- the row that is next is as it was
  pub row_same : get_or rows i Unlisted ≡ get_or old i Unlisted
  row_same = before i ∙ cond-false _ _ _ (le-ltb i i (omega arith))

  -- one row more is set
  pub row_more : (s : Sighting) → i < length rows → s ≡ new i → (k : ℕ) → get_or (set rows i s) k Unlisted ≡ cond (ltb k (i + 1)) (new k) (get_or old k Unlisted)
  row_more s lt e k =
      let here : k ≡ i → get_or (set rows i s) k Unlisted ≡ cond (ltb k (i + 1)) (new k) (get_or old k Unlisted) =
      λ z. ap (λ j. get_or (set rows i s) j Unlisted) z ∙ get_or-set_same rows i s Unlisted lt ∙ e ∙ ap new (sym z) ∙ sym (cond-true _ _ _ (lt-ltb k (i + 1) (omega arith))) in
      let below : k < i → get_or (set rows i s) k Unlisted ≡ cond (ltb k (i + 1)) (new k) (get_or old k Unlisted) =
      λ z. let ne : k ≢ i = omega arith in get_or-set_other rows i k s Unlisted ne ∙ before k ∙ cond-true _ _ _ (lt-ltb k i z) ∙ sym (cond-true _ _ _ (lt-ltb k (i + 1) (omega arith))) in
      let above : i < k → get_or (set rows i s) k Unlisted ≡ cond (ltb k (i + 1)) (new k) (get_or old k Unlisted) =
      λ z. let ne : k ≢ i = omega arith in get_or-set_other rows i k s Unlisted ne ∙ before k ∙ cond-false _ _ _ (le-ltb k i (omega arith)) ∙ sym (cond-false _ _ _ (le-ltb k (i + 1) (omega arith))) in
      ⊎_elim here (⊎_elim below above) (cases_order k i)

-- a row that a line says nothing of
pub row_kept : (t : Bool) (s r : Sighting) → s ≡ r → r ≡ cond t s r
row_kept t s r e = cond_both t s r (λ x. r ≡ x) (λ _. sym e) (λ _. refl)

-- rows that are all unlisted
pub all_unlisted : (n k : ℕ) → get_or (replicate n Unlisted) k Unlisted ≡ Unlisted
all_unlisted zero k = refl
all_unlisted (suc n) zero = refl
all_unlisted (suc n) (suc k) = all_unlisted n k

-- what a row whose name was looked at leaves of the rows
module _ (names : List (String Global)) (rows : List Sighting) (k n : ℕ) (l : List ℕ) where
  pub row_listed : (s : Sighting) → k < min (length names) (length rows) → noted n l (name_at names k) (get_or rows k Unlisted) ≡ s → set rows k s ≡ cond (ltb k (min (length names) (length rows))) (set rows k (noted n l (name_at names k) (get_or rows k Unlisted))) rows
  row_listed s lt e = ap (set rows k) (sym e) ∙ sym (cond-true _ _ _ (lt-ltb k _ lt))

  pub row_other : k < min (length names) (length rows) → noted n l (name_at names k) (get_or rows k Unlisted) ≡ get_or rows k Unlisted → rows ≡ cond (ltb k (min (length names) (length rows))) (set rows k (noted n l (name_at names k) (get_or rows k Unlisted))) rows
  row_other lt e = sym (set-get_or rows k Unlisted) ∙ row_listed (get_or rows k Unlisted) lt e

  pub row_none : min (length names) (length rows) ≤ k → rows ≡ cond (ltb k (min (length names) (length rows))) (set rows k (noted n l (name_at names k) (get_or rows k Unlisted))) rows
  row_none ge = sym (cond-false _ _ _ (le-ltb k _ ge))
