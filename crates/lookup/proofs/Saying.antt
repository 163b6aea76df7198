-- What lines say of a name, with one line more. Assumes nothing.
use Rattle.std.proofs.Common.{◌≡◌, ℕ, ◌<◌, ◌≤◌, eqb, List, [], ◌∷◌, ◌++◌, length, Some, None, Option, sym, refl, ap, ◌∙◌, subst, inl, inr, ◌⊎◌, ⊎_elim, arith, length-append}
use Rattle.std.proofs.lemmas.Slice.Eq.{bytes_eq-Decides}
use Rattle.std.proofs.lemmas.Bool.{eqb-true, eqb-false, cond_both, cases_lt, cases_Bool}
use Rattle.std.proofs.lemmas.Bool.Decides.{not_from_Decides}
use Rattle.std.proofs.lemmas.Option.{IfSome_then}
use Rattle.std.proofs.lemmas.List.{get_or_append_left, get_or_at}
use Rattle.std.specs.Option.{IfSome, option_map}
use Rattle.std.specs.Str.{bytes_eq}
use Rattle.kallsyms.specs.Fields.{fields, field}
use Rattle.kallsyms.specs.Address.{address}
use Rattle.lookup.specs.After.{after}
use Rattle.kallsyms.specs.Line.{number_after}
use Rattle.lookup.specs.Says.{Lists, Gives, Before, ZeroOr, Says}
use Rattle.lookup.specs.declared.sighting.Sighting.{Sighting}
use Rattle.lookup.specs.declared.sighting.Sighting.TheVariants.{Unlisted, OnlyZero, At, TwoAddresses, Unreadable}

-- what an address on one line more must be, so that the same is said of the name
abbrev Stays : Sighting → Option ℕ → Type 0
Stays Unlisted a = ⊥
Stays (OnlyZero n) a = a ≡ Some 0
Stays (At n x) a = ZeroOr x a
Stays (TwoAddresses n x m y) a = Unit {0}
Stays (Unreadable n) a = Unit {0}

-- a line lists the name with this address
abbrev Lines : List ℕ → Option ℕ → List ℕ → Type 0
Lines name a l = Lists name l × (address (field 0 l).bytes ≡ a)

module _ (xs : List (List ℕ)) (l name : List ℕ) where
  gives_on : (k : ℕ) (a : Option ℕ) → Gives xs name k a → Gives (xs ++ l ∷ []) name k a
  gives_on k a g =
      let same = get_or_append_left xs (l ∷ []) [] k g.0 in
      let len = length-append xs (l ∷ []) in
      let lines = subst (Lines name a) (sym same) (g.1, g.2) in
      (omega arith, lines.0, lines.1)

  gives_back : (k : ℕ) (a : Option ℕ) → k < length xs → Gives (xs ++ l ∷ []) name k a → Gives xs name k a
  gives_back k a lt g =
      let lines = subst (Lines name a) (get_or_append_left xs (l ∷ []) [] k lt) (g.1, g.2) in
      (lt, lines.0, lines.1)

  gives_last : (a : Option ℕ) → Lists name l → address (field 0 l).bytes ≡ a → Gives (xs ++ l ∷ []) name (length xs) a
  gives_last a h e =
      let len = length-append xs (l ∷ []) in
      let lines = subst (Lines name a) (sym (get_or_at xs l [] [] (length xs) refl)) (h, e) in
      (omega arith, lines.0, lines.1)

  last_gives : (a : Option ℕ) → Gives (xs ++ l ∷ []) name (length xs) a → Lines name a l
  last_gives a g = subst (Lines name a) (get_or_at xs l [] [] (length xs) refl) (g.1, g.2)

  before_on : (k : ℕ) (P : Option ℕ → Type 0) → k ≤ length xs → Before xs name k P → Before (xs ++ l ∷ []) name k P
  before_on k P le h j a lt g = h j a lt (gives_back j a (omega arith) g)

  before_more : (P : Option ℕ → Type 0) → Before xs name (length xs) P → (Lists name l → P (address (field 0 l).bytes)) → Before (xs ++ l ∷ []) name (length (xs ++ l ∷ [])) P
  before_more P h new j a lt g =
      let len = length-append xs (l ∷ []) in
      let last : length xs ≤ j → P a =
      λ ge. let z : j ≡ length xs = omega arith in let lines = last_gives a (subst (λ i. Gives (xs ++ l ∷ []) name i a) z g) in subst P lines.1 (new lines.0) in
      ⊎_elim (λ less. h j a less (gives_back j a less g)) last (cases_lt j (length xs))

  -- the same is said
  pub stays : (s : Sighting) → (Lists name l → Stays s (address (field 0 l).bytes)) → Says xs name s → Says (xs ++ l ∷ []) name s
  stays Unlisted new y = before_more _ y new
  stays (OnlyZero n) new y =
      let lt = y.gives.0 in
      record { at = y.at; numbered = y.numbered; gives = gives_on _ _ y.gives; first = before_on _ _ (omega arith) y.first; all = before_more _ y.all new }
  stays (At n x) new y =
      let lt = y.gives.0 in
      record { at = y.at; numbered = y.numbered; nonzero = y.nonzero; gives = gives_on _ _ y.gives; first = before_on _ _ (omega arith) y.first; all = before_more _ y.all new }
  stays (TwoAddresses n x m z) new y =
      let lt = y.gives.0 in
      let other_lt = y.other_gives.0 in
      record {
        at = y.at;
        numbered = y.numbered;
        nonzero = y.nonzero;
        gives = gives_on _ _ y.gives;
        first = before_on _ _ (omega arith) y.first;
        other = y.other;
        other_numbered = y.other_numbered;
        other_nonzero = y.other_nonzero;
        other_gives = gives_on _ _ y.other_gives;
        apart = y.apart;
        before = before_on _ _ (omega arith) y.before;
      }
  stays (Unreadable n) new y =
      let lt = y.gives.0 in
      record { at = y.at; numbered = y.numbered; gives = gives_on _ _ y.gives; one = y.one; before = before_on _ _ (omega arith) y.before }

  module _ (h : Lists name l) where
    -- the line's address does not read
    unreadable : (x : ℕ) → address (field 0 l).bytes ≡ None → Before xs name (length xs) (ZeroOr x) → Says (xs ++ l ∷ []) name (Unreadable (number_after (length xs)))
    unreadable x e y = record { at = length xs; numbered = refl; gives = gives_last None h e; one = x; before = before_on (length xs) (ZeroOr x) (omega arith) y }

    -- the line is the first to give an address that is not zero
    nonzero_first : (a : ℕ) → address (field 0 l).bytes ≡ Some a → 0 < a → Before xs name (length xs) (λ o. o ≡ Some 0) → Says (xs ++ l ∷ []) name (At (number_after (length xs)) a)
    nonzero_first a e pos y =
        record {
          at = length xs;
          numbered = refl;
          nonzero = pos;
          gives = gives_last (Some a) h e;
          first = before_on (length xs) (λ o. o ≡ Some 0) (omega arith) y;
          all = before_more (ZeroOr a) (λ j o lt g. inl (y j o lt g)) (λ _. inr e);
        }

    -- one line more that lists the name
    pub more : (o : Option ℕ) → address (field 0 l).bytes ≡ o → (s : Sighting) → Says xs name s → Says (xs ++ l ∷ []) name (after (number_after (length xs)) o s)
    more None e Unlisted y = unreadable 0 e (λ j o lt g. absurd (y j o lt g))
    more None e (OnlyZero n) y = unreadable 0 e (λ j o lt g. inl (y.all j o lt g))
    more None e (At n x) y = unreadable x e y.all
    more None e (TwoAddresses n x m z) y = stays (TwoAddresses n x m z) (λ _. tt) y
    more None e (Unreadable n) y = stays (Unreadable n) (λ _. tt) y
    more (Some a) e Unlisted y =
        cond_both (eqb a 0) _ _ (Says (xs ++ l ∷ []) name)
        (λ t.
        let zero = e ∙ ap Some (eqb-true a 0 t) in
        record {
          at = length xs;
          numbered = refl;
          gives = gives_last (Some 0) h zero;
          first = before_on (length xs) (λ _. ⊥) (omega arith) y;
          all = before_more (λ o. o ≡ Some 0) (λ j o lt g. absurd (y j o lt g)) (λ _. zero);
        })
        (λ t. let ne = eqb-false a 0 t in nonzero_first a e (omega arith) (λ j o lt g. absurd (y j o lt g)))
    more (Some a) e (OnlyZero n) y =
        cond_both (eqb a 0) _ _ (Says (xs ++ l ∷ []) name)
        (λ t. stays (OnlyZero n) (λ _. e ∙ ap Some (eqb-true a 0 t)) y)
        (λ t. let ne = eqb-false a 0 t in nonzero_first a e (omega arith) y.all)
    more (Some a) e (At n x) y =
        cond_both (eqb a 0) _ _ (Says (xs ++ l ∷ []) name)
        (λ t. stays (At n x) (λ _. inl (e ∙ ap Some (eqb-true a 0 t))) y)
        (λ t. cond_both (eqb x a) _ _ (Says (xs ++ l ∷ []) name)
        (λ u. stays (At n x) (λ _. inr (e ∙ ap Some (sym (eqb-true x a u)))) y)
        (λ u.
        let ne = eqb-false a 0 t in
        let lt = y.gives.0 in
        record {
          at = y.at;
          numbered = y.numbered;
          nonzero = y.nonzero;
          gives = gives_on _ _ y.gives;
          first = before_on _ _ (omega arith) y.first;
          other = length xs;
          other_numbered = refl;
          other_nonzero = omega arith;
          other_gives = gives_last (Some a) h e;
          apart = eqb-false x a u;
          before = before_on (length xs) (ZeroOr x) (omega arith) y.all;
        }))
    more (Some a) e (TwoAddresses n x m z) y = stays (TwoAddresses n x m z) (λ _. tt) y
    more (Some a) e (Unreadable n) y = stays (Unreadable n) (λ _. tt) y

-- a line lists a name, or does not
cases_Lists : (name l : List ℕ) → Lists name l ⊎ (Lists name l → ⊥)
cases_Lists name l =
    let same = bytes_eq-Decides (field 2 l).bytes name in
    ⊎_elim
    (λ few. inr (λ h. let three = h.0 in absurd (omega arith)))
    (λ three. ⊎_elim (λ t. inl (three, same.0 t)) (λ f. inr (λ h. not_from_Decides _ same f h.1)) (cases_Bool (bytes_eq (field 2 l).bytes name)))
    (cases_lt (length (fields 0 l)) 3)

IfSome-map : {X : Type 0} (P Q : X → Type 0) (f : X → X) (o : Option X) → IfSome o P → ((x : X) → P x → Q (f x)) → IfSome (option_map f o) Q
IfSome-map P Q f None h g = tt
IfSome-map P Q f (Some x) h g = g x h

-- where what is held of each name is what the lines say, it is so with one line more that was noted
pub notes_say : (xs : List (List ℕ)) (l : List ℕ) (n : ℕ) (old new : List ℕ → Option Sighting)
    → n ≡ number_after (length xs)
    → ((name : List ℕ) → Lists name l → new name ≡ option_map (after n (address (field 0 l).bytes)) (old name))
    → ((name : List ℕ) → ¬ Lists name l → new name ≡ old name)
    → ((name : List ℕ) → IfSome (old name) (Says xs name))
    → (name : List ℕ)
    → IfSome (new name) (Says (xs ++ l ∷ []) name)
notes_say xs l n old new numbered listed others says name =
    let P : Option Sighting → Type 0 = λ o. IfSome o (Says (xs ++ l ∷ []) name) in
    let now : Lists name l → new name ≡ option_map (after (number_after (length xs)) (address (field 0 l).bytes)) (old name) =
    λ h. subst (λ m. new name ≡ option_map (after m (address (field 0 l).bytes)) (old name)) numbered (listed name h) in
    ⊎_elim
    (λ h. subst P (sym (now h)) (IfSome-map (Says xs name) _ (after (number_after (length xs)) (address (field 0 l).bytes)) (old name) (says name) (more xs l name h (address (field 0 l).bytes) refl)))
    (λ no. subst P (sym (others name no)) (IfSome_then (old name) (says name) (λ s. stays xs l name s (λ h. absurd (no h)))))
    (cases_Lists name l)
