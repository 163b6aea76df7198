-- The fields of a line, found by looking for separators. Assumes nothing.
use Rattle.std.proofs.Common.{◌≡◌, ℕ, zero, suc, ◌+◌, ◌-◌, ◌<◌, ◌≤◌, true, false, not, List, [], ◌∷◌, length, get_or, take, drop, Option, Some, None, MatchOption, unwrap_or, sym, ap, ◌∙◌, subst, ⊎_elim, add-zero, add-one, arith, length-drop}
use Rattle.std.proofs.lemmas.Bool.{cond-true, cond-false, both_ways, cases_lt}
use Rattle.std.proofs.lemmas.List.{length-take-le, get_or-drop, drop-drop, drop_all}
use Rattle.std.specs.List.{AllWithin, HoldsAt}
use Rattle.kallsyms.specs.Fields.{separates, extend, fields, Begins}

-- separators at the front are in no field
skip_front : (l : List ℕ) (n k : ℕ) → k ≤ length l → ((j : ℕ) → j < k → separates (get_or l j 0) ≡ true) → fields n l ≡ fields (n + k) (drop k l)
skip_front l n zero h f = ap (λ m. fields m l) (sym (add-zero n))
skip_front [] n (suc k) h f = absurd (omega arith)
skip_front (b ∷ l) n (suc k) h f =
    let z : suc n + k ≡ n + suc k = omega arith in
    cond-true _ _ _ (f 0 (omega arith)) ∙ skip_front l (suc n) k (omega arith) (λ j lt. f (suc j) (omega arith)) ∙ ap (λ m. fields m (drop k l)) z

-- bytes at the front that are no separators, up to a separator or the end, are the first field
pub take_front : (l : List ℕ) (n k : ℕ) → 0 < k → k ≤ length l → ((j : ℕ) → j < k → separates (get_or l j 0) ≡ false) → (k < length l → separates (get_or l k 0) ≡ true) → fields n l ≡ record { start = n; bytes = take k l } ∷ fields (n + k) (drop k l)
take_front l n zero z h f g = absurd (omega arith)
take_front [] n (suc k) z h f g = absurd (omega arith)
take_front (b ∷ []) n (suc zero) z h f g = cond-false _ _ _ (f 0 (omega arith))
take_front (b ∷ []) n (suc (suc k)) z h f g = absurd (omega arith)
take_front (b ∷ c ∷ l) n (suc zero) z h f g =
    let one : suc n ≡ n + 1 = sym (add-one n) in
    cond-false _ _ _ (f 0 (omega arith))
    ∙ cond-false _ _ _ (ap not (g (omega arith)))
    ∙ ap (λ m. record { start = n; bytes = b ∷ [] } ∷ fields m (c ∷ l)) one
take_front (b ∷ c ∷ l) n (suc (suc k)) z h f g =
    let m : suc n + suc k ≡ n + suc (suc k) = omega arith in
    cond-false _ _ _ (f 0 (omega arith))
    ∙ cond-true _ _ _ (ap not (f 1 (omega arith)))
    ∙ ap (extend n b) (take_front (c ∷ l) (suc n) (suc k) (omega arith) (omega arith) (λ j lt. f (suc j) (omega arith)) (λ lt. g (omega arith)))
    ∙ ap (λ i. record { start = n; bytes = b ∷ take (suc k) (c ∷ l) } ∷ fields i (drop (suc k) (c ∷ l))) m

-- bytes that are all separators
pub no_word : (l : List ℕ) (n : ℕ) → AllWithin (λ b. separates b ≡ true) l 0 (length l) → fields n l ≡ []
no_word l n f =
    skip_front l n (length l) (omega arith) (λ j lt. f j 0 (omega arith) lt) ∙ ap (fields (n + length l)) (drop_all (length l) l (omega arith))

-- how far a word goes: to the first separator, or to the end
abbrev EndsWord : List ℕ → ℕ → Type 0
EndsWord w n = AllWithin (λ b. separates b ≡ false) w 0 n × (n ≤ length w) × (n < length w → separates (get_or w n 0) ≡ true)

ended : (w : List ℕ) (r : Option ℕ) → MatchOption r (AllWithin (λ b. separates b ≡ false) w 0 (length w)) (λ i. (i < length w) × HoldsAt (λ b. separates b ≡ true) w i × AllWithin (λ b. separates b ≡ false) w 0 i) → EndsWord w (unwrap_or r (length w))
ended w None f = (f, omega arith, λ lt. absurd (omega arith))
ended w (Some i) f = (f.2, let lt = f.0 in omega arith, λ _. f.1 0)

pub ends_word : (w : List ℕ) (r : Option ℕ) (n : ℕ) → n ≡ unwrap_or r (length w) → MatchOption r (AllWithin (λ b. separates b ≡ false) w 0 (length w)) (λ i. (i < length w) × HoldsAt (λ b. separates b ≡ true) w i × AllWithin (λ b. separates b ≡ false) w 0 i) → EndsWord w n
ends_word w r n e f = subst (EndsWord w) (sym e) (ended w r f)

-- and so the field that is found begins there
pub begins : (l tail word : List ℕ) (from gap n : ℕ) → tail ≡ drop from l → word ≡ drop gap tail → from ≤ length l → gap < length tail → HoldsAt (λ b. separates b ≡ false) tail gap → AllWithin (λ b. separates b ≡ true) tail 0 gap → EndsWord word n → Begins l from (from + gap) (take n word)
begins l tail word from gap n e f h lt at before w =
    let size : length word ≡ length tail - gap = ap length f ∙ length-drop gap tail in
    let here : separates (get_or word 0 0) ≡ false = ap (λ x. separates (get_or x 0 0)) f ∙ ap separates (get_or-drop gap tail 0 0 ∙ ap (λ i. get_or tail i 0) (add-zero gap)) ∙ at 0 in
    let some : 0 < n = ⊎_elim (λ pos. pos) (λ z. let none : n ≡ 0 = omega arith in absurd (both_ways _ here (ap (λ i. separates (get_or word i 0)) (sym none) ∙ w.2 (omega arith)))) (cases_lt 0 n) in
    let bytes : length (take n word) ≡ n = length-take-le n word w.1 in
    let all : length tail ≡ length l - from = ap length e ∙ length-drop from l in
    let place : drop n word ≡ drop (from + gap + n) l = ap (drop n) (f ∙ ap (drop gap) e ∙ drop-drop gap from l) ∙ drop-drop n (from + gap) l in (
      ap (fields from) (sym e)
          ∙ skip_front tail from gap (omega arith) (λ j lt. before j 0 (omega arith) lt)
          ∙ ap (fields (from + gap)) (sym f)
          ∙ take_front word (from + gap) n some w.1 (λ j lt. w.0 j 0 (omega arith) lt) w.2
          ∙ ap (λ x. record { start = from + gap; bytes = take n word } ∷ fields (from + gap + n) x) place
          ∙ ap (λ i. record { start = from + gap; bytes = take n word } ∷ fields (from + gap + i) (drop (from + gap + i) l)) (sym bytes),
      omega arith,
    )
