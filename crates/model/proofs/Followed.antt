-- Spans that follow each other.
use Rattle.std.proofs.Common.{rules, ◌≡◌, ℕ, ◌+◌, ◌≤◌, Bool, true, false, cond, eqb, ◌↔◌, List, [], ◌∷◌, ◌++◌, sym, refl, ap, ◌∙◌, subst, inl, inr, ⊎_elim, arith}
use Rattle.std.proofs.lemmas.Bool.{and_from, leb-true, le-leb, eq-eqb, cond-true, cond-false, cond_both, cases_Bool}
use Rattle.model.specs.Kinds.{of_kind}
use Rattle.model.specs.Lists.{In}
use Rattle.model.specs.Relocate.{function_slots}
use Rattle.model.specs.Spans.{end_of, follow}
use Rattle.model.specs.TableLaws.{parts_of, slots_of, SpansFollow}
use Rattle.model.specs.Tables.{parts_of_kind}
use Rattle.model.specs.declared.btf.BtfType.{BtfType}
use Rattle.model.specs.declared.rows.Function.{Function}
use Rattle.model.specs.declared.rows.Span.{Span}

module _ (n : ℕ) where
  -- the first one, and the others
  follow_parts : (at : ℕ) (s : Span) (ss : List Span) → follow at (s ∷ ss) n ≡ true → (s.start ≡ at) × (follow (at + s.len) ss n ≡ true)
  follow_parts at s ss h = search rules

  follow_within : (at : ℕ) (ss : List Span) → follow at ss n ≡ true → at ≤ n
  follow_within at [] h = leb-true at n h
  follow_within at (s ∷ ss) h = let r = follow_within (at + s.len) ss (follow_parts at s ss h).1 in omega arith

  -- each lies inside the table
  pub follow_in : (at : ℕ) (ss : List Span) → follow at ss n ≡ true → (s : Span) → In s ss → end_of s ≤ n
  follow_in at [] h s i = absurd i
  follow_in at (r ∷ rs) h s (inl e) =
      let p = follow_parts at r rs h in
      let l = follow_within (at + r.len) rs p.1 in
      let q = p.0 in
      let here : end_of r ≤ n = omega arith in
      subst (λ (z : Span). end_of z ≤ n) e here
  follow_in at (r ∷ rs) h s (inr i) = follow_in (at + r.len) rs (follow_parts at r rs h).1 s i

-- rows of which some have a span: the spans of these in order, and how many parts they have together
module _ {X : Type 0} (takes : X → Bool) (span : X → Span) (spans : List X → List Span) (sum : List X → ℕ)
    (none : spans [] ≡ []) (nothing : sum [] ≡ 0)
    (more : (x : X) (xs : List X) → spans (x ∷ xs) ≡ cond (takes x) (span x ∷ spans xs) (spans xs))
    (adds : (x : X) (xs : List X) → sum (x ∷ xs) ≡ cond (takes x) ((span x).len + sum xs) (sum xs)) (n : ℕ) where
  -- a row that has one comes first, or another
  first_of : (at : ℕ) (x : X) (xs : List X) → takes x ≡ true → follow at (spans (x ∷ xs)) n ≡ true → ((span x).start ≡ at) × (follow (at + (span x).len) (spans xs) n ≡ true)
  first_of at x xs o h = follow_parts n at (span x) (spans xs) (subst (λ ss. follow at ss n ≡ true) (more x xs ∙ cond-true (takes x) _ _ o) h)

  other_of : (at : ℕ) (x : X) (xs : List X) → takes x ≡ false → follow at (spans (x ∷ xs)) n ≡ true → follow at (spans xs) n ≡ true
  other_of at x xs o h = subst (λ ss. follow at ss n ≡ true) (more x xs ∙ cond-false (takes x) _ _ o) h

  longer : (x : X) (xs : List X) → takes x ≡ true → sum (x ∷ xs) ≡ (span x).len + sum xs
  longer x xs o = adds x xs ∙ cond-true (takes x) _ _ o

  as_long : (x : X) (xs : List X) → takes x ≡ false → sum (x ∷ xs) ≡ sum xs
  as_long x xs o = adds x xs ∙ cond-false (takes x) _ _ o

  ends : (at : ℕ) (xs : List X) → follow at (spans xs) n ≡ true → at + sum xs ≤ n
  ends at [] h = let l = follow_within n at (spans []) h in omega (arith, nothing)
  ends at (x ∷ xs) h =
      ⊎_elim
      (λ o. let r = ends (at + (span x).len) xs (first_of at x xs o h).1 in let m = longer x xs o in omega arith)
      (λ o. let r = ends at xs (other_of at x xs o h) in let m = as_long x xs o in omega arith)
      (cases_Bool (takes x))

  starts : (at : ℕ) (front : List X) (x : X) (back : List X) → follow at (spans (front ++ x ∷ back)) n ≡ true → takes x ≡ true → (span x).start ≡ at + sum front
  starts at [] x back h o = let e = (first_of at x back o h).0 in omega (arith, nothing)
  starts at (f ∷ fs) x back h o =
      ⊎_elim
      (λ p. let r = starts (at + (span f).len) fs x back (first_of at f (fs ++ x ∷ back) p h).1 o in let m = longer f fs p in omega arith)
      (λ p. let r = starts at fs x back (other_of at f (fs ++ x ∷ back) p h) o in let m = as_long f fs p in omega arith)
      (cases_Bool (takes f))

  followed : (at : ℕ) (xs : List X) → ((front : List X) (x : X) (back : List X) → xs ≡ front ++ x ∷ back → takes x ≡ true → (span x).start ≡ at + sum front)
      → at + sum xs ≤ n → follow at (spans xs) n ≡ true
  followed at [] h l = subst (λ ss. follow at ss n ≡ true) (sym none) (le-leb at n (omega (arith, nothing)))
  followed at (x ∷ xs) h l =
      subst (λ ss. follow at ss n ≡ true) (sym (more x xs))
      (cond_both (takes x) _ _ (λ ss. follow at ss n ≡ true)
      (λ o.
      let first = h [] x xs refl o in
      let m = longer x xs o in
      and_from (eqb (span x).start at) _ (eq-eqb (span x).start at (omega (arith, nothing)))
      (followed (at + (span x).len) xs (λ front r back e q. let s = h (x ∷ front) r back (ap (λ rs. x ∷ rs) e) q in let w = longer x front o in omega arith) (omega arith)))
      (λ o.
      let m = as_long x xs o in
      followed at xs (λ front r back e q. let s = h (x ∷ front) r back (ap (λ rs. x ∷ rs) e) q in let w = as_long x front o in omega arith) (omega arith)))

  -- the test says that each starts where those before it end, and that the last one ends inside
  pub follow_is : (xs : List X) → (follow 0 (spans xs) n ≡ true)
      ↔ (((front : List X) (x : X) (back : List X) → xs ≡ front ++ x ∷ back → takes x ≡ true → (span x).start ≡ sum front) × (sum xs ≤ n))
  follow_is xs = search (rules, ends, starts, followed)

-- the rows of a kind
pub rows_follow : (n k : ℕ) (ts : List BtfType) → (follow 0 (parts_of_kind k ts) n ≡ true) ↔ SpansFollow k ts n
rows_follow n k ts =
    let is = follow_is (of_kind k) (λ t. t.parts) (parts_of_kind k) (parts_of k) refl refl (λ t us. refl) (λ t us. refl) n ts in
    (λ h. record { starts = (is.0 h).0; ends = (is.0 h).1 }, λ w. is.1 (w.starts, w.ends))

-- functions
pub slots_follow : (n : ℕ) (fs : List Function) → (follow 0 (function_slots fs) n ≡ true)
    ↔ (((front : List Function) (f : Function) (back : List Function) → fs ≡ front ++ f ∷ back → f.slots.start ≡ slots_of front) × (slots_of fs ≤ n))
slots_follow n fs =
    let is = follow_is (λ _. true) (λ f. f.slots) function_slots slots_of refl refl (λ f gs. refl) (λ f gs. refl) n fs in
    (λ h. (λ front f back e. (is.0 h).0 front f back e refl, (is.0 h).1), λ w. is.1 (λ front f back e _. w.0 front f back e, w.1))
