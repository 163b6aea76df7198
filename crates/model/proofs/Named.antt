-- The laws of names, of chains and of the lookup.
use Rattle.std.proofs.Common.{rules, ◌≡◌, ℕ, zero, suc, ◌+◌, ◌<◌, ◌≤◌, Bool, true, false, eqb, ltb, ◌⊎◌, ◌↔◌, List, [], ◌∷◌, ◌++◌, length, get_or, drop, Some, None, Ok, Err, Option, Result, refl, ap, ◌∙◌, subst, inl, inr, arith}
use Rattle.std.specs.Option.{option_map}
use Rattle.std.specs.List.{AllByRecursion}
use Rattle.std.proofs.lemmas.Bool.{cond_both, cond-true, cond-false, eqb-true, eqb-false, ne_eqb, ltb-true, ltb-false, lt-ltb, le-ltb}
use Rattle.model.specs.Chain.{type_at, chain}
use Rattle.model.specs.Kinds.{passes_on}
use Rattle.model.specs.Lists.{lookup}
use Rattle.model.specs.NameLaws.{NamesEndAtZero, EssentialNames, Leads, ChainsEnd, FindsTheFirst, LookupsFindTheFirst}
use Rattle.model.specs.Names.{to_zero, essential, bars}
use Rattle.model.specs.declared.btf.BtfType.{BtfType}
use Rattle.model.specs.declared.btf.ChainError.{ChainError}
use Rattle.model.specs.declared.btf.ChainError.TheVariants.{UnknownBtfType, MaximumTypeDepthReached}

-- ---- names: bytes that go on with n and a zero byte
abbrev Ends : List ℕ → List ℕ → Type 0
Ends bs n = AllByRecursion (λ b. b ≡ 0 → ⊥) n × ((rest : List ℕ) × (bs ≡ n ++ 0 ∷ rest))

-- what comes after a byte that is not zero
ends_more : (b : ℕ) (bs n : List ℕ) → (b ≡ 0 → ⊥) → (o : Option (List ℕ)) → ((m : List ℕ) → o ≡ Some m → Ends bs m) → option_map (λ m. b ∷ m) o ≡ Some n → Ends (b ∷ bs) n
ends_more b bs n ne None h e = absurd (grind arith)
ends_more b bs n ne (Some m) h e =
    let r = h m refl in
    let same : b ∷ m ≡ n = grind arith in
    subst (Ends (b ∷ bs)) same ((ne, r.0), (r.1.0, ap (λ l. b ∷ l) r.1.1))

to_zero_ends : (bs n : List ℕ) → to_zero bs ≡ Some n → Ends bs n
to_zero_ends [] n = λ e. absurd (grind arith)
to_zero_ends (b ∷ bs) n =
    cond_both (eqb b 0) (Some []) (option_map (λ m. b ∷ m) (to_zero bs)) (λ v. v ≡ Some n → Ends (b ∷ bs) n)
    (λ t e. let same : [] ≡ n = grind arith in subst (Ends (b ∷ bs)) same (tt, (bs, ap (λ x. x ∷ bs) (eqb-true b 0 t))))
    (λ t. ends_more b bs n (eqb-false b 0 t) (to_zero bs) (to_zero_ends bs))

to_zero_reads : (n rest : List ℕ) → AllByRecursion (λ b. b ≡ 0 → ⊥) n → to_zero (n ++ 0 ∷ rest) ≡ Some n
to_zero_reads [] rest h = refl
to_zero_reads (b ∷ n) rest h = cond-false _ _ _ (ne_eqb b 0 h.0) ∙ ap (option_map (λ m. b ∷ m)) (to_zero_reads n rest h.1)

pub names_end_at_zero : NamesEndAtZero
names_end_at_zero strings offset n = (to_zero_ends (drop offset strings) n, λ (h, (rest, e)). ap to_zero e ∙ to_zero_reads n rest h)

-- ---- essential names
front : (n : List ℕ) → (rest : List ℕ) × (n ≡ essential n ++ rest) × ((rest ≡ []) ⊎ (bars rest ≡ true))
front [] = ([], refl, inl refl)
front (b ∷ bs) =
    cond_both (bars (b ∷ bs)) [] (b ∷ essential bs) (λ v. (rest : List ℕ) × (b ∷ bs ≡ v ++ rest) × ((rest ≡ []) ⊎ (bars rest ≡ true)))
    (λ t. (b ∷ bs, refl, inr t)) (λ t. let r = front bs in (r.0, ap (λ l. b ∷ l) r.1, r.2))

first : (n : List ℕ) (k : ℕ) → k < length (essential n) → bars (drop k n) ≡ false
first [] k = λ h. absurd (omega arith)
first (b ∷ bs) zero = cond_both (bars (b ∷ bs)) [] (b ∷ essential bs) (λ v. 0 < length v → bars (b ∷ bs) ≡ false) (λ t h. absurd (omega arith)) (λ t h. t)
first (b ∷ bs) (suc k) =
    cond_both (bars (b ∷ bs)) [] (b ∷ essential bs) (λ v. suc k < length v → bars (drop k bs) ≡ false) (λ t h. absurd (omega arith)) (λ t h. first bs k (omega arith))

pub essential_names : EssentialNames
essential_names = record { front = front; first = first }

-- ---- chains: what an outcome says of up to m rows from an id on
abbrev Ended : ℕ → List BtfType → ℕ → Result ℕ ChainError → Type 0
Ended m ts id (Ok end) = (n : ℕ) × (n < m) × Leads n ts id end × (end < length ts) × (passes_on (type_at ts end) ≡ false)
Ended m ts id (Err UnknownBtfType) = (n : ℕ) × (end : ℕ) × (n < m) × Leads n ts id end × (length ts ≤ end)
Ended m ts id (Err MaximumTypeDepthReached) = (end : ℕ) × Leads m ts id end

ended_more : (m : ℕ) (ts : List BtfType) (id : ℕ) → id < length ts → passes_on (type_at ts id) ≡ true → (r : Result ℕ ChainError) → Ended m ts (type_at ts id).size_or_type r → Ended (suc m) ts id r
ended_more m ts id lt p (Ok end) (n, l, h, k, q) = (suc n, omega arith, (lt, p, h), k, q)
ended_more m ts id lt p (Err UnknownBtfType) (n, end, l, h, k) = (suc n, end, omega arith, (lt, p, h), k)
ended_more m ts id lt p (Err MaximumTypeDepthReached) (end, h) = (end, (lt, p, h))

ended : (m : ℕ) (ts : List BtfType) (id : ℕ) → Ended m ts id (chain m ts id)
unfolding chain
ended zero ts id = (id, refl)
ended (suc m) ts id =
    cond_both (ltb id (length ts)) _ _ (Ended (suc m) ts id)
    (λ t. let lt : id < length ts = ltb-true id (length ts) t in cond_both (passes_on (type_at ts id)) _ _ (Ended (suc m) ts id)
    (λ p. ended_more m ts id lt p (chain m ts (type_at ts id).size_or_type) (ended m ts (type_at ts id).size_or_type)) (λ p. (0, omega arith, refl, lt, p)))
    (λ t. (0, id, omega arith, refl, ltb-false id (length ts) t))

goes_on : (m : ℕ) (ts : List BtfType) (id : ℕ) → id < length ts → passes_on (type_at ts id) ≡ true → chain (suc m) ts id ≡ chain m ts (type_at ts id).size_or_type
unfolding chain
goes_on m ts id lt p = search rules

-- and the outcome is the one that this is said of
reached : (m : ℕ) (ts : List BtfType) (id : ℕ) (r : Result ℕ ChainError) → Ended m ts id r → chain m ts id ≡ r
unfolding chain
reached zero ts id (Ok end) (n, l, h, k, q) = absurd (omega arith)
reached zero ts id (Err UnknownBtfType) (n, end, l, h, k) = absurd (omega arith)
reached zero ts id (Err MaximumTypeDepthReached) h = refl
reached (suc m) ts id (Ok end) (zero, l, e, k, q) = ap (chain (suc m) ts) e ∙ cond-true _ _ _ (lt-ltb _ _ k) ∙ cond-false _ _ _ q
reached (suc m) ts id (Ok end) (suc n, l, (lt, p, h), k, q) = goes_on m ts id lt p ∙ reached m ts _ (Ok end) (n, omega arith, h, k, q)
reached (suc m) ts id (Err UnknownBtfType) (zero, end, l, e, k) = ap (chain (suc m) ts) e ∙ cond-false _ _ _ (le-ltb _ _ k)
reached (suc m) ts id (Err UnknownBtfType) (suc n, end, l, (lt, p, h), k) = goes_on m ts id lt p ∙ reached m ts _ (Err UnknownBtfType) (n, end, omega arith, h, k)
reached (suc m) ts id (Err MaximumTypeDepthReached) (end, (lt, p, h)) = goes_on m ts id lt p ∙ reached m ts _ (Err MaximumTypeDepthReached) (end, h)

outcome : (ts : List BtfType) (id : ℕ) (r : Result ℕ ChainError) → (chain 32 ts id ≡ r) ↔ Ended 32 ts id r
outcome ts id r = (λ e. subst (Ended 32 ts id) e (ended 32 ts id), reached 32 ts id r)

pub chains_end : ChainsEnd
chains_end = record { row = λ ts id end. outcome ts id (Ok end); unknown = λ ts id. outcome ts id (Err UnknownBtfType); deep = λ ts id. outcome ts id (Err MaximumTypeDepthReached) }

-- ---- the lookup: what it says of rows counted from n
module _ {X : Type 0} (has : X → Bool) (d : X) where
  abbrev First : List X → ℕ → X → Type 0
  First xs k x = (k < length xs) × (get_or xs k d ≡ x) × (has x ≡ true) × ((j : ℕ) → j < k → has (get_or xs j d) ≡ false)

  abbrev Looked : ℕ → List X → Option (ℕ × X) → Type 0
  Looked n xs None = (j : ℕ) → j < length xs → has (get_or xs j d) ≡ false
  Looked n xs (Some (k, x)) = (j : ℕ) × (n + j ≡ k) × First xs j x

  -- a row before those that do not have the key
  none_more : (x : X) (xs : List X) (k : ℕ) → has x ≡ false → ((j : ℕ) → j < k → has (get_or xs j d) ≡ false) → (j : ℕ) → j < suc k → has (get_or (x ∷ xs) j d) ≡ false
  none_more x xs k t h j l = search rules

  looked_more : (n : ℕ) (x : X) (xs : List X) → has x ≡ false → (o : Option (ℕ × X)) → Looked (suc n) xs o → Looked n (x ∷ xs) o
  looked_more n x xs t None h = none_more x xs (length xs) t h
  looked_more n x xs t (Some (k, y)) (j, e, (l, g, p, h)) = (suc j, omega arith, (omega arith, g, p, none_more x xs j t h))

  looked : (n : ℕ) (xs : List X) → Looked n xs (lookup has n xs)
  looked n [] = λ j h. absurd (omega arith)
  looked n (x ∷ xs) =
      cond_both (has x) (Some (n, x)) (lookup has (suc n) xs) (Looked n (x ∷ xs))
      (λ t. (0, omega arith, (omega arith, refl, t, λ j h. absurd (omega arith)))) (λ t. looked_more n x xs t (lookup has (suc n) xs) (looked (suc n) xs))

  none_has : (n : ℕ) (xs : List X) → ((j : ℕ) → j < length xs → has (get_or xs j d) ≡ false) → lookup has n xs ≡ None
  none_has n [] h = refl
  none_has n (x ∷ xs) h = cond-false _ _ _ (h 0 (omega arith)) ∙ none_has (suc n) xs (λ j l. h (suc j) (omega arith))

  first_row : (xs : List X) (k : ℕ) (x : X) → Looked 0 xs (Some (k, x)) → First xs k x
  first_row xs k x h = search rules

pub finds_the_first : (X : Type 0) → FindsTheFirst X
finds_the_first X =
    record {
      row = λ has xs k x d e. first_row has d xs k x (subst (Looked has d 0 xs) e (looked has d 0 xs));
      none = λ has xs d. (λ e. subst (Looked has d 0 xs) e (looked has d 0 xs), none_has has d 0 xs);
    }

pub lookups_find_the_first : LookupsFindTheFirst
lookups_find_the_first = search (rules, finds_the_first)
