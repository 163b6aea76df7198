-- A line splits into its fields, and into no other parts. Assumes nothing.
use Rattle.std.proofs.Common.{◌≡◌, ℕ, zero, suc, ◌+◌, ◌-◌, ◌<◌, ◌≤◌, true, false, List, [], ◌∷◌, ◌++◌, length, get_or, take, drop, sym, refl, ap, ◌∙◌, subst, add-zero, arith, length-append}
use native.Mathlib.Nat.{sub-zero}
use Rattle.std.proofs.ByRecursion.{All-get_or}
use Rattle.std.proofs.lemmas.Bool.{not-true, not-false, both_ways, cond-true, cond_both}
use Rattle.std.proofs.Math.Seq.{drop-append-add}
use Rattle.std.proofs.lemmas.List.{append-nil, append_assoc, get_or_append_left, get_or-append-add, take_at, drop_at}
use Rattle.kallsyms.specs.Fields.{Part, separates, goes_on, extend, fields, field}
use Rattle.kallsyms.specs.Splits.{Gap, Unbroken, Bounded, Splits}
use Rattle.kallsyms.specs.Laws.{LinesHaveOneListOfFields, FieldsAreParts, WordsAreFields}
use Rattle.kallsyms.proofs.Fielded.{take_front}

-- a gap is in no field
gap_skip : (n : ℕ) (g l : List ℕ) → Gap g → fields n (g ++ l) ≡ fields (n + length g) l
gap_skip n [] l h = ap (λ m. fields m l) (sym (add-zero n))
gap_skip n (b ∷ g) l h =
    let z : suc n + length g ≡ n + suc (length g) = omega arith in
    cond-true _ _ _ h.0 ∙ gap_skip (suc n) g l h.1 ∙ ap (λ m. fields m l) z

gap_none : (n : ℕ) (l : List ℕ) → Gap l → fields n l ≡ []
gap_none n l h = ap (fields n) (sym (append-nil l)) ∙ gap_skip n l [] h

-- a word at the front is the first field
bounded_at : (l : List ℕ) → Bounded l → 0 < length l → separates (get_or l 0 0) ≡ true
bounded_at [] b lt = absurd (omega arith)
bounded_at (x ∷ l) b lt = b

first_word : (n : ℕ) (w l : List ℕ) → Unbroken w → 0 < length w → Bounded l → fields n (w ++ l) ≡ record { start = n; bytes = w } ∷ fields (n + length w) l
first_word n w l u h b =
    let len = length-append w l in
    let at = get_or-append-add w l 0 0 in
    let z = add-zero (length w) in
    take_front (w ++ l) n (length w) h (omega arith)
    (λ j lt. ap separates (get_or_append_left w l 0 j lt) ∙ All-get_or (λ b. separates b ≡ false) w j 0 lt u)
    (λ lt. ap (λ i. separates (get_or (w ++ l) i 0)) (sym z) ∙ ap separates at ∙ bounded_at l b (omega arith))
    ∙ ap (λ x. record { start = n; bytes = x } ∷ fields (n + length w) (drop (length w) (w ++ l))) (take_at w l (length w) refl)
    ∙ ap (λ x. record { start = n; bytes = w } ∷ fields (n + length w) x) (drop_at w l (length w) refl)

-- so a line splits into its fields at most
alone : (n : ℕ) (ps : List Part) (l : List ℕ) → Splits n ps l → ps ≡ fields n l
alone n [] l h = sym (gap_none n l h)
alone n (p ∷ ps) l h =
    let rest = h.1 in
    ap (λ x. p ∷ x) (alone (p.start + length p.bytes) ps rest h.8)
    ∙ sym
    (ap (fields n) h.2
    ∙ gap_skip n h.0 (p.bytes ++ rest) h.3
    ∙ ap (λ m. fields m (p.bytes ++ rest)) (sym h.4)
    ∙ first_word p.start p.bytes rest h.6 h.5 h.7)

-- one byte before a line that splits: a separator
gap_onto : (n b : ℕ) (ps : List Part) (l : List ℕ) → separates b ≡ true → Splits (suc n) ps l → Splits n ps (b ∷ l)
gap_onto n b [] l e h = (e, h)
gap_onto n b (p ∷ ps) l e h =
    let at = h.4 in
    (b ∷ h.0, h.1, ap (λ x. b ∷ x) h.2, (e, h.3), omega arith, h.5, h.6, h.7, h.8)

-- a byte of a field of its own
bounds : (l : List ℕ) → goes_on l ≡ false → Bounded l
bounds [] e = tt
bounds (c ∷ l) e = not-false (separates c) e

part_onto : (n b : ℕ) (ps : List Part) (l : List ℕ) → separates b ≡ false → goes_on l ≡ false → Splits (suc n) ps l → Splits n (record { start = n; bytes = b ∷ [] } ∷ ps) (b ∷ l)
part_onto n b ps l e f h =
    let z : suc n ≡ n + 1 = omega arith in
    ([], l, refl, tt, sym (add-zero n), omega arith, (e, tt), bounds l f, subst (λ (m : ℕ). Splits m ps l) z h)

-- a byte of the first field
extend_at : (n b : ℕ) (p : Part) (ps : List Part) (l gap rest : List ℕ) → separates b ≡ false → goes_on l ≡ true → l ≡ gap ++ (p.bytes ++ rest) → Gap gap → p.start ≡ suc n + length gap → Unbroken p.bytes → Bounded rest → Splits (p.start + length p.bytes) ps rest → Splits n (record { start = n; bytes = b ∷ p.bytes } ∷ ps) (b ∷ l)
extend_at n b p ps l [] rest e f s g at u bound more =
    let z : p.start + length p.bytes ≡ n + suc (length p.bytes) = omega arith in
    ([], rest, ap (λ x. b ∷ x) s, tt, sym (add-zero n), omega arith, (e, u), bound, subst (λ (m : ℕ). Splits m ps rest) z more)
extend_at n b p ps l (c ∷ gap) rest e f s g at u bound more =
    absurd (both_ways (separates c) (not-true (separates c) (ap goes_on (sym s) ∙ f)) g.0)

extend_onto : (n b : ℕ) (ps : List Part) (l : List ℕ) → separates b ≡ false → goes_on l ≡ true → Splits (suc n) ps l → Splits n (extend n b ps) (b ∷ l)
extend_onto n b [] [] e f h = absurd (both_ways false refl f)
extend_onto n b [] (c ∷ l) e f h = absurd (both_ways (separates c) (not-true (separates c) f) h.0)
extend_onto n b (p ∷ ps) l e f h = extend_at n b p ps l h.0 h.1 e f h.2 h.3 h.4 h.6 h.7 h.8

-- and so a line splits into its fields
splits : (n : ℕ) (l : List ℕ) → Splits n (fields n l) l
splits n [] = tt
splits n (b ∷ l) =
    let rest = splits (suc n) l in
    cond_both (separates b) _ _ (λ ps. Splits n ps (b ∷ l))
    (λ e. gap_onto n b (fields (suc n) l) l e rest)
    (λ e. cond_both (goes_on l) _ _ (λ ps. Splits n ps (b ∷ l)) (λ f. extend_onto n b (fields (suc n) l) l e f rest) (λ f. part_onto n b (fields (suc n) l) l e f rest))

pub one_list : LinesHaveOneListOfFields
one_list l = (splits 0 l, λ ps h. alone 0 ps l h)

-- a part that a line splits into stands in it
part_at : (n : ℕ) (ps : List Part) (l : List ℕ) (k : ℕ) (d : Part) → Splits n ps l → k < length ps → (n ≤ (get_or ps k d).start) × (take (length (get_or ps k d).bytes) (drop ((get_or ps k d).start - n) l) ≡ (get_or ps k d).bytes) × (0 < length (get_or ps k d).bytes) × Unbroken (get_or ps k d).bytes
part_at n [] l k d h lt = absurd (omega arith)
part_at n (p ∷ ps) l zero d h lt =
    let at = h.4 in
    let z : p.start - n ≡ length h.0 = omega arith in (
      omega arith,
      ap (λ i. take (length p.bytes) (drop i l)) z
          ∙ ap (λ x. take (length p.bytes) (drop (length h.0) x)) h.2
          ∙ ap (take (length p.bytes)) (drop_at h.0 (p.bytes ++ h.1) (length h.0) refl)
          ∙ take_at p.bytes h.1 (length p.bytes) refl,
      h.5,
      h.6,
    )
part_at n (p ∷ ps) l (suc k) d h lt =
    let at = h.4 in
    let q = get_or ps k d in
    let next = p.start + length p.bytes in
    let more = part_at next ps h.1 k d h.8 (omega arith) in
    let less : next ≤ q.start = more.0 in
    let len = length-append h.0 p.bytes in
    let z : q.start - n ≡ length (h.0 ++ p.bytes) + (q.start - next) = omega arith in
    let whole = h.2 ∙ sym (append_assoc h.0 p.bytes h.1) in (
      omega arith,
      ap (λ i. take (length q.bytes) (drop i l)) z
          ∙ ap (λ x. take (length q.bytes) (drop (length (h.0 ++ p.bytes) + (q.start - next)) x)) whole
          ∙ ap (take (length q.bytes)) (drop-append-add (h.0 ++ p.bytes) h.1 (q.start - next))
          ∙ more.1,
      more.2,
      more.3,
    )

pub fields_parts : FieldsAreParts
fields_parts l k lt =
    let h = part_at 0 (fields 0 l) l k (record { start = 0; bytes = [] }) (splits 0 l) lt in
    let z = sub-zero (field k l).start in
    (ap (λ i. take (length (field k l).bytes) (drop i l)) (sym z) ∙ h.1, h.2, h.3)

pub words_fields : WordsAreFields
words_fields a t n s u es eu ua ut un ha ht hn =
    sym
    (alone 0 _ (a ++ (s ∷ (t ++ (u ∷ n)))) (
      [],
      s ∷ (t ++ (u ∷ n)),
      refl,
      tt,
      omega arith,
      ha,
      ua,
      es,
      (
        s ∷ [],
        u ∷ n,
        refl,
        (es, tt),
        omega arith,
        ht,
        ut,
        eu,
        (u ∷ [], [], ap (λ x. u ∷ x) (sym (append-nil n)), (eu, tt), omega arith, hn, un, tt, tt),
      ),
    ))
