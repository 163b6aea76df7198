-- Options, results, tests of lists, the first refusal, the lookup, and names.
use Rattle.std.proofs.Common.{rules, ◌≡◌, ℕ, suc, Bool, true, false, cond, ◌⊎◌, List, [], ◌∷◌, map, is_some, Some, None, Ok, Err, Option, Result, sym, refl, ap, ◌∙◌, subst, inl, inr, ⊎_elim}
use Rattle.std.specs.Option.{option_or}
use Rattle.std.specs.List.{list_any, list_all}
use Rattle.std.specs.Str.{bytes_eq}
use Rattle.std.proofs.lemmas.Bool.{cond-true, cond-false, false≢true, cases_Bool, and_parts, and_from, or_from, or_left, or_right, or_cases, or_parts}
use Rattle.std.proofs.lemmas.Option.{none-some}
use Rattle.model.specs.Lists.{In, lookup, numbered, first}
use Rattle.model.specs.Names.{reads_as}

-- ---- tests, options and results
pub ok_same : {X R : Type 0} (x y : X) → ◌≡◌ {A = Result X R} (Ok x) (Ok y) → x ≡ y
ok_same x y e = cc

pub err_not : {X R : Type 0} (e : R) (x : X) → ◌≡◌ {A = Result X R} (Err e) (Ok x) → ⊥
err_not e x h = search rules

pub some_is : {X : Type 0} (o : Option X) → (o ≡ None) ⊎ ((x : X) × (o ≡ Some x))
some_is None = inl refl
some_is (Some x) = inr (x, refl)

pub none_is : {X : Type 0} (o : Option X) → is_some o ≡ false → o ≡ None
none_is o e = search rules

pub option_or_parts : {X : Type 0} (x y : Option X) → option_or x y ≡ None → (x ≡ None) × (y ≡ None)
option_or_parts x y e = search rules

pub option_or_from : {X : Type 0} (x y : Option X) → x ≡ None → y ≡ None → option_or x y ≡ None
option_or_from x y p q = search rules

-- a test before a refusal
pub test_parts : {X : Type 0} (b : Bool) (x : Option X) (y : X) → cond b x (Some y) ≡ None → (b ≡ true) × (x ≡ None)
test_parts b x y e = search rules

-- a refusal under a test
pub when_parts : {X : Type 0} (b : Bool) (x : Option X) → cond b x None ≡ None → b ≡ true → x ≡ None
when_parts b x e t = search rules

-- ---- the first refusal
numbered_none : {R : Type 0} (n : ℕ) (o : Option (ℕ → R)) → numbered n o ≡ None → o ≡ None
numbered_none n o e = search rules

module _ {X R : Type 0} (why : X → Option (ℕ → R)) where
  pub first_none : (n : ℕ) (xs : List X) → ((x : X) → In x xs → why x ≡ None) → first why n xs ≡ None
  first_none n [] h = refl
  first_none n (x ∷ xs) h = option_or_from _ _ (ap (numbered n) (h x (inl refl))) (first_none (suc n) xs (λ y i. h y (inr i)))

  pub none_first : (n : ℕ) (xs : List X) → first why n xs ≡ None → (x : X) → In x xs → why x ≡ None
  none_first n [] e x i = absurd i
  none_first n (y ∷ ys) e x (inl p) = subst (λ z. why z ≡ None) p (numbered_none n (why y) (option_or_parts _ _ e).0)
  none_first n (y ∷ ys) e x (inr i) = none_first (suc n) ys (option_or_parts _ _ e).1 x i

-- ---- tests of each and of some
module _ {X : Type 0} (p : X → Bool) where
  pub all_in : (xs : List X) → list_all p xs ≡ true → (x : X) → In x xs → p x ≡ true
  all_in [] h x i = absurd i
  all_in (y ∷ ys) h x (inl e) = ap p (sym e) ∙ (and_parts (p y) (list_all p ys) h).0
  all_in (y ∷ ys) h x (inr i) = all_in ys (and_parts (p y) (list_all p ys) h).1 x i

  pub in_all : (xs : List X) → ((x : X) → In x xs → p x ≡ true) → list_all p xs ≡ true
  in_all [] h = refl
  in_all (x ∷ xs) h = and_from (p x) (list_all p xs) (h x (inl refl)) (in_all xs (λ y i. h y (inr i)))

  pub any_in : (xs : List X) (x : X) → In x xs → p x ≡ true → list_any p xs ≡ true
  any_in [] x i t = absurd i
  any_in (y ∷ ys) x (inl q) t = or_left (p y) (list_any p ys) (ap p q ∙ t)
  any_in (y ∷ ys) x (inr i) t = or_right (p y) (list_any p ys) (any_in ys x i t)

  pub none_any : (xs : List X) → ((x : X) → In x xs → p x ≡ false) → list_any p xs ≡ false
  none_any [] h = refl
  none_any (x ∷ xs) h = or_from (p x) (list_any p xs) (h x (inl refl)) (none_any xs (λ y i. h y (inr i)))

  pub any_none : (xs : List X) → list_any p xs ≡ false → (x : X) → In x xs → p x ≡ false
  any_none [] h x i = absurd i
  any_none (y ∷ ys) h x (inl e) = ap p (sym e) ∙ (or_parts (p y) (list_any p ys) h).0
  any_none (y ∷ ys) h x (inr i) = any_none ys (or_parts (p y) (list_any p ys) h).1 x i

  pub any_some : (xs : List X) → list_any p xs ≡ true → (x : X) × In x xs × (p x ≡ true)
  any_some [] e = absurd (false≢true e)
  any_some (x ∷ xs) e = ⊎_elim (λ t. (x, inl refl, t)) (λ t. let r = any_some xs t in (r.0, inr r.1, r.2)) (or_cases (p x) (list_any p xs) e)

-- ---- the lookup
abbrev pub mapped : {X : Type 0} → (X → X) → Option (ℕ × X) → Option (ℕ × X)
mapped f None = None
mapped f (Some k) = Some (k.0, f k.1)

module _ {X : Type 0} (p : X → Bool) where
  pub lookup_in : (n : ℕ) (xs : List X) (k : ℕ × X) → lookup p n xs ≡ Some k → In k.1 xs × (p k.1 ≡ true)
  lookup_in n [] k e = absurd (none-some k e)
  lookup_in n (x ∷ xs) k e =
      ⊎_elim
      (λ t. let q : (n, x) ≡ k = let s = sym (cond-true (p x) (Some (n, x)) (lookup p (suc n) xs) t) ∙ e in cc in
      (inl (ap (λ z. z.1) q), ap (λ z. p z.1) (sym q) ∙ t))
      (λ t. let r = lookup_in (suc n) xs k (sym (cond-false (p x) (Some (n, x)) (lookup p (suc n) xs) t) ∙ e) in (inr r.0, r.1))
      (cases_Bool (p x))

  pub lookup_none : (n : ℕ) (xs : List X) → lookup p n xs ≡ None → (x : X) → In x xs → p x ≡ false
  lookup_none n [] e x i = absurd i
  lookup_none n (y ∷ ys) e x i =
      ⊎_elim
      (λ t. absurd (none-some (n, y) (sym e ∙ cond-true (p y) (Some (n, y)) (lookup p (suc n) ys) t)))
      (λ t. ⊎_elim (λ q. ap p (sym q) ∙ t) (λ j. lookup_none (suc n) ys (sym (cond-false (p y) (Some (n, y)) (lookup p (suc n) ys) t) ∙ e) x j) i)
      (cases_Bool (p y))

  -- rows changed in what the lookup does not see
  pub lookup_map : (f : X → X) → ((x : X) → p (f x) ≡ p x) → (n : ℕ) (xs : List X) → lookup p n (map f xs) ≡ mapped f (lookup p n xs)
  lookup_map f h n [] = refl
  lookup_map f h n (x ∷ xs) =
      ⊎_elim
      (λ t. cond-true (p (f x)) _ _ (h x ∙ t) ∙ sym (ap (mapped f) (cond-true (p x) (Some (n, x)) (lookup p (suc n) xs) t)))
      (λ t. cond-false (p (f x)) _ _ (h x ∙ t) ∙ lookup_map f h (suc n) xs ∙ sym (ap (mapped f) (cond-false (p x) (Some (n, x)) (lookup p (suc n) xs) t)))
      (cases_Bool (p x))

-- ---- membership in a list of images
pub in_map : {X Y : Type 0} (f : X → Y) (xs : List X) (x : X) → In x xs → In (f x) (map f xs)
in_map f [] x i = absurd i
in_map f (y ∷ ys) x (inl q) = inl (ap f q)
in_map f (y ∷ ys) x (inr i) = inr (in_map f ys x i)

pub map_in : {X Y : Type 0} (f : X → Y) (xs : List X) (y : Y) → In y (map f xs) → (x : X) × In x xs × (f x ≡ y)
map_in f [] y i = absurd i
map_in f (x ∷ xs) y (inl q) = (x, inl refl, q)
map_in f (x ∷ xs) y (inr i) = let r = map_in f xs y i in (r.0, inr r.1, r.2)

-- ---- names
pub not_same : (m n : List ℕ) → (m ≡ n → ⊥) → bytes_eq m n ≡ false
not_same m n h = search rules

pub reads_is : (o : Option (List ℕ)) (n : List ℕ) → reads_as o n ≡ true → o ≡ Some n
reads_is o n e = search rules

pub is_read : (o : Option (List ℕ)) (n : List ℕ) → o ≡ Some n → reads_as o n ≡ true
is_read o n e = search rules
