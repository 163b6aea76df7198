-- Rows that a line finds, from the last to the first. Assumes nothing.
use Rattle.std.proofs.Common.{◌≡◌, ◌≢◌, ℕ, suc, ◌<◌, ◌≤◌, min, cond, ltb, List, length, get_or, set, Some, None, Option, String, refl, sym, ap, subst, ◌∙◌, ⊎_elim, arith}
use Rattle.std.proofs.lemmas.Bool.{cond-true, cond-false, cond_both, lt-ltb, le-ltb, ltb-true, ltb-false, cases_order, cases_lt}
use Rattle.std.proofs.lemmas.List.{get_or-set_same, get_or-set_other, length-set}
use Rattle.std.specs.declared.alloc.Global.{Global}
use Rattle.kallsyms.specs.Fields.{field}
use Rattle.lookup.specs.Rows.{noted, name_at}
use Rattle.lookup.specs.Index.{spot_of, IsLast}
use Rattle.lookup.proofs.RowNoting.{noted_other}
use Rattle.lookup.specs.declared.sighting.Sighting.{Sighting}
use Rattle.lookup.specs.declared.sighting.Sighting.TheVariants.{Unlisted}

-- how many names may still come
abbrev pub left : Option ℕ → ℕ
left None = 0
left (Some k) = suc k

pub left_less : (names : List (String Global)) (spots spot k : ℕ) (o : Option ℕ) → IsLast names spots spot k o → left o < left (Some k)
left_less names spots spot k None h = omega arith
left_less names spots spot k (Some m) h = let lt = (h.some m refl).0 in omega arith

module _ (names : List (String Global)) (spots n : ℕ) (l : List ℕ) (old : List Sighting) where
  -- what the row of an index holds after the line
  abbrev pub row_after : ℕ → Sighting
  row_after k = cond (ltb k (min (length names) (length old))) (noted n l (name_at names k) (get_or old k Unlisted)) (get_or old k Unlisted)

  -- a name of another spot is not the one that the line lists
  unlike : (k : ℕ) → spot_of spots (name_at names k) ≢ spot_of spots (field 2 l).bytes → row_after k ≡ get_or old k Unlisted
  unlike k other =
      cond_both (ltb k (min (length names) (length old))) _ _ (λ s. s ≡ get_or old k Unlisted)
      (λ _. noted_other n l (name_at names k) (get_or old k Unlisted) (λ e. other (ap (spot_of spots) (sym e)))) (λ _. refl)

  no_row : (k : ℕ) → min (length names) (length old) ≤ k → row_after k ≡ get_or old k Unlisted
  no_row k past = cond-false _ _ _ (le-ltb k _ past)

  -- the rows from an index on are as the line leaves them, the others as they were, and this is the last of those that has the spot
  pub record Walked (rows : List Sighting) (o : Option ℕ) : Type 0 where
    pub from : ℕ
    pub in_names : from ≤ length names
    pub rest : IsLast names spots (spot_of spots (field 2 l).bytes) from o
    pub len : length rows ≡ length old
    pub done : (k : ℕ) → from ≤ k → get_or rows k Unlisted ≡ row_after k
    pub kept : (k : ℕ) → k < from → get_or rows k Unlisted ≡ get_or old k Unlisted

  pub walk_start : (o : Option ℕ) → IsLast names spots (spot_of spots (field 2 l).bytes) (length names) o → Walked old o
  walk_start o last = record {
    from = length names;
    in_names = omega arith;
    rest = last;
    len = refl;
    done = λ k ge. sym (no_row k (omega arith));
    kept = λ k lt. refl;
  }

  module _ (rows : List Sighting) (k : ℕ) (was : Walked rows (Some k)) where
    at_row : (k < was.from) × (spot_of spots (name_at names k) ≡ spot_of spots (field 2 l).bytes) × ((j : ℕ) → k < j → j < was.from → spot_of spots (name_at names j) ≢ spot_of spots (field 2 l).bytes)
    at_row = was.rest.some k refl

    pub in_names : k < length names
    in_names = let lt = at_row.0 in let le = was.in_names in omega arith

    abbrev pub now : Sighting
    now = noted n l (name_at names k) (get_or rows k Unlisted)

    row_now : k < length rows → get_or (set rows k now) k Unlisted ≡ row_after k
    row_now lt =
        let both : k < min (length names) (length old) = let h = in_names in omega (arith, was.len, lt) in
        get_or-set_same rows k now Unlisted lt ∙ ap (noted n l (name_at names k)) (was.kept k at_row.0) ∙ sym (cond-true _ _ _ (lt-ltb k _ both))

    no_row_now : length rows ≤ k → get_or rows k Unlisted ≡ row_after k
    no_row_now ge = was.kept k at_row.0 ∙ sym (no_row k (omega (arith, was.len, ge)))

    row_past : (j : ℕ) → k < j → get_or rows j Unlisted ≡ row_after j
    row_past j lt = ⊎_elim (λ z. was.kept j z ∙ sym (unlike j (at_row.2 j lt z))) (was.done j) (cases_lt j was.from)

    row_before : (j : ℕ) → j < k → get_or rows j Unlisted ≡ get_or old j Unlisted
    row_before j lt = let far = at_row.0 in was.kept j (omega arith)

    module _ (o : Option ℕ) (last : IsLast names spots (spot_of spots (name_at names k)) k o) where
      walked : (new : List Sighting) → length new ≡ length rows → get_or new k Unlisted ≡ row_after k → ((j : ℕ) → j ≢ k → get_or new j Unlisted ≡ get_or rows j Unlisted) → Walked new o
      walked new len here others = record {
        from = k;
        in_names = let h = in_names in omega arith;
        rest = subst (λ s. IsLast names spots s k o) at_row.1 last;
        len = len ∙ was.len;
        done =
            λ j ge.
            let same : j ≡ k → get_or new j Unlisted ≡ row_after j = λ z. subst (λ x. get_or new x Unlisted ≡ row_after x) (sym z) here in
            let below : j < k → get_or new j Unlisted ≡ row_after j = λ z. absurd (omega arith) in
            let past : k < j → get_or new j Unlisted ≡ row_after j = λ z. let ne : j ≢ k = omega arith in others j ne ∙ row_past j z in
            ⊎_elim same (⊎_elim below past) (cases_order j k);
        kept = λ j lt. let ne : j ≢ k = omega arith in others j ne ∙ row_before j lt;
      }

      pub walk_more : Walked (cond (ltb k (min (length names) (length rows))) (set rows k now) rows) o
      walk_more =
          let h = in_names in
          cond_both (ltb k (min (length names) (length rows))) _ _ (λ r. Walked r o)
          (λ t. let lt = ltb-true k _ t in walked (set rows k now) (length-set rows k now) (row_now (omega arith)) (λ j ne. get_or-set_other rows k j now Unlisted ne))
          (λ f. let ge = ltb-false k _ f in walked rows refl (no_row_now (omega arith)) (λ j ne. refl))

  pub walk_end : (rows : List Sighting) → Walked rows None → (k : ℕ) → get_or rows k Unlisted ≡ row_after k
  walk_end rows was k = ⊎_elim (λ z. was.kept k z ∙ sym (unlike k (was.rest.none refl k z))) (was.done k) (cases_lt k was.from)
