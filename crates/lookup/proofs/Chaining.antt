-- Names that have one spot, one after another. Assumes nothing.
use Rattle.std.proofs.Common.{◌≡◌, ◌≢◌, ℕ, ◌+◌, ◌<◌, ◌≤◌, List, [], ◌∷◌, ◌++◌, length, get_or, set, replicate, Some, None, Option, String, refl, sym, ap, subst, ◌∙◌, ⊎_elim, arith}
use Rattle.std.proofs.lemmas.Bool.{cases_order}
use Rattle.std.proofs.lemmas.List.{get_or-set_same, get_or-set_other, get_or-replicate, get_or_append_left, get_or_default, length-append, length-replicate, length-set}
use Rattle.std.proofs.Math.Seq.{get_or-append_seam}
use Rattle.std.specs.declared.alloc.Global.{Global}
use Rattle.lookup.specs.Rows.{name_at}
use Rattle.lookup.specs.Index.{spot_of, IsLast, Indexes}

-- the first i names, by so many spots
pub record Chained (names : List (String Global)) (spots i : ℕ) (lasts befores : List (Option ℕ)) : Type 0 where
  pub size : length lasts ≡ spots
  pub all : length befores ≡ i
  pub ends : (spot : ℕ) → spot < spots → IsLast names spots spot i (get_or lasts spot None)
  pub steps : (k : ℕ) → k < i → IsLast names spots (spot_of spots (name_at names k)) k (get_or befores k None)

none_is : (k : ℕ) → None ≡ Some k → ⊥
none_is k e = cc

some_is : (i k : ℕ) → Some i ≡ Some k → i ≡ k
some_is i k e = cc

module _ (names : List (String Global)) (spots : ℕ) where
  none_yet : (spot : ℕ) → IsLast names spots spot 0 None
  none_yet spot = record { some = λ k e. absurd (none_is k e); none = λ e j lt. absurd (omega arith) }

  pub chained_none : Chained names spots 0 (replicate spots None) []
  chained_none = record {
    size = length-replicate spots None;
    all = refl;
    ends = λ spot lt. subst (IsLast names spots spot 0) (sym (get_or-replicate spots spot None None lt)) (none_yet spot);
    steps = λ k lt. absurd (omega arith);
  }

  -- a name more at its spot
  last_now : (i : ℕ) → IsLast names spots (spot_of spots (name_at names i)) (i + 1) (Some i)
  last_now i = record {
    some = λ k e.
        let is : i ≡ k = some_is i k e in
        (omega (arith, is), ap (λ j. spot_of spots (name_at names j)) (sym is), λ j lt lt'. absurd (omega (arith, is)));
    none = λ e. absurd (none_is i (sym e));
  }

  -- a name more at another spot
  last_still : (spot i : ℕ) (o : Option ℕ) → spot_of spots (name_at names i) ≢ spot → IsLast names spots spot i o → IsLast names spots spot (i + 1) o
  last_still spot i o other was =
      let unlike : (m : ℕ) → ((j : ℕ) → m ≤ j → j < i → spot_of spots (name_at names j) ≢ spot) → (j : ℕ) → m ≤ j → j < i + 1 → spot_of spots (name_at names j) ≢ spot =
      λ m h j le lt.
      let below : j < i → spot_of spots (name_at names j) ≢ spot = λ z. h j le z in
      let here : j ≡ i → spot_of spots (name_at names j) ≢ spot = λ z. subst (λ x. spot_of spots (name_at names x) ≢ spot) (sym z) other in
      let above : i < j → spot_of spots (name_at names j) ≢ spot = λ z. absurd (omega arith) in
      ⊎_elim here (⊎_elim below above) (cases_order j i) in
      record {
        some = λ k e. let h = was.some k e in (omega (arith, h.0), h.1, λ j lt lt'. unlike (k + 1) (λ x le below. h.2 x (omega arith) below) j (omega arith) lt');
        none = λ e j lt. unlike 0 (λ x le below. was.none e x below) j (omega arith) lt;
      }

  module _ (i : ℕ) (lasts befores : List (Option ℕ)) (was : Chained names spots i lasts befores) (spot : ℕ) (o : Option ℕ)
      (is : spot ≡ spot_of spots (name_at names i)) (in_range : spot < spots) (there : o ≡ get_or lasts spot None) where
    spot_next : (at : ℕ) → at < spots → IsLast names spots at (i + 1) (get_or (set lasts spot (Some i)) at None)
    spot_next at lt =
        let small : spot < length lasts = omega (arith, was.size, in_range) in
        let here : at ≡ spot → IsLast names spots at (i + 1) (get_or (set lasts spot (Some i)) at None) =
        λ z.
        subst (λ x. IsLast names spots x (i + 1) (get_or (set lasts spot (Some i)) x None)) (sym z)
        (subst (IsLast names spots spot (i + 1)) (sym (get_or-set_same lasts spot (Some i) None small))
        (subst (λ x. IsLast names spots x (i + 1) (Some i)) (sym is) (last_now i))) in
        let there : at ≢ spot → IsLast names spots at (i + 1) (get_or (set lasts spot (Some i)) at None) =
        λ z.
        subst (IsLast names spots at (i + 1)) (sym (get_or-set_other lasts spot at (Some i) None z))
        (last_still at i (get_or lasts at None) (λ e. z (sym e ∙ sym is)) (was.ends at lt)) in
        ⊎_elim here (λ d. there (⊎_elim (λ x. let ne : at ≢ spot = omega arith in ne) (λ x. let ne : at ≢ spot = omega arith in ne) d)) (cases_order at spot)

    step_next : (k : ℕ) → k < i + 1 → IsLast names spots (spot_of spots (name_at names k)) k (get_or (befores ++ o ∷ []) k None)
    step_next k lt =
        let below : k < i → IsLast names spots (spot_of spots (name_at names k)) k (get_or (befores ++ o ∷ []) k None) =
        λ z. subst (IsLast names spots (spot_of spots (name_at names k)) k) (sym (get_or_append_left befores (o ∷ []) None k (omega (arith, was.all)))) (was.steps k z) in
        let last : IsLast names spots (spot_of spots (name_at names i)) i (get_or (befores ++ o ∷ []) i None) =
        subst (λ x. IsLast names spots (spot_of spots (name_at names i)) i (get_or (befores ++ o ∷ []) x None)) was.all
        (subst (IsLast names spots (spot_of spots (name_at names i)) i) (sym (get_or-append_seam befores o [] None))
        (subst (IsLast names spots (spot_of spots (name_at names i)) i) (sym there)
        (subst (λ x. IsLast names spots x i (get_or lasts spot None)) is (was.ends spot in_range)))) in
        let here : k ≡ i → IsLast names spots (spot_of spots (name_at names k)) k (get_or (befores ++ o ∷ []) k None) =
        λ z. subst (λ x. IsLast names spots (spot_of spots (name_at names x)) x (get_or (befores ++ o ∷ []) x None)) (sym z) last in
        ⊎_elim here (⊎_elim below (λ z. absurd (omega arith))) (cases_order k i)

    pub chained_more : Chained names spots (i + 1) (set lasts spot (Some i)) (befores ++ o ∷ [])
    chained_more = record {
      size = length-set lasts spot (Some i) ∙ was.size;
      all = length-append befores (o ∷ []) ∙ ap (λ n. n + 1) was.all;
      ends = spot_next;
      steps = step_next;
    }

  -- all the names
  pub chained_all : (n : ℕ) (lasts befores : List (Option ℕ)) → n ≡ length names → 0 < spots → Chained names spots n lasts befores → Indexes names lasts befores
  chained_all n lasts befores whole some h =
      let of_size : (P : ℕ → Type 0) → P spots → P (length lasts) = λ P p. subst P (sym h.size) p in
      let of_all : (P : ℕ → Type 0) → P n → P (length names) = λ P p. subst P whole p in
      record {
        spots = of_size (λ s. 0 < s) some;
        all = h.all ∙ whole;
        ends = of_size (λ s. (spot : ℕ) → spot < s → IsLast names s spot (length names) (get_or lasts spot None)) (of_all (λ m. (spot : ℕ) → spot < spots → IsLast names spots spot m (get_or lasts spot None)) h.ends);
        steps = of_size (λ s. (k : ℕ) → k < length names → IsLast names s (spot_of s (name_at names k)) k (get_or befores k None)) (of_all (λ m. (k : ℕ) → k < m → IsLast names spots (spot_of spots (name_at names k)) k (get_or befores k None)) h.steps);
      }

-- what stands at the spot of some bytes is the last name that has it
pub last_found : (names : List (String Global)) (lasts befores : List (Option ℕ)) (bytes : List ℕ) (spot : ℕ) (o : Option ℕ)
    → Indexes names lasts befores
    → spot ≡ spot_of (length lasts) bytes
    → spot < length lasts
    → o ≡ get_or lasts spot o
    → IsLast names (length lasts) (spot_of (length lasts) bytes) (length names) o
last_found names lasts befores bytes spot o indexes is in_range there =
    subst (IsLast names (length lasts) (spot_of (length lasts) bytes) (length names)) (sym (there ∙ get_or_default lasts spot o None in_range))
    (subst (λ x. IsLast names (length lasts) x (length names) (get_or lasts spot None)) is (indexes.ends spot in_range))

-- what stands before a name is the last one before it that has its spot
pub last_before : (names : List (String Global)) (lasts befores : List (Option ℕ)) (k : ℕ) (o : Option ℕ)
    → Indexes names lasts befores
    → k < length names
    → o ≡ get_or befores k o
    → IsLast names (length lasts) (spot_of (length lasts) (name_at names k)) k o
last_before names lasts befores k o indexes in_range there =
    subst (IsLast names (length lasts) (spot_of (length lasts) (name_at names k)) k) (sym (there ∙ get_or_default befores k o None (omega (arith, indexes.all, in_range))))
    (indexes.steps k in_range)
