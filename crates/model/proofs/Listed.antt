-- The first nonzero address of a name among lines.
use Rattle.std.proofs.Common.{rules, ◌≡◌, ℕ, not, ◌&&◌, eqb, List, [], ◌∷◌, Some, Option, unwrap_or, sym, refl, ap, ◌∙◌, inl, inr, ⊎_elim}
use Rattle.std.proofs.lemmas.Bool.{cond-true, cond-false, cond_both, both_ways, cases_Bool, eqb-false, ne_eqb, and_parts, and_from, not-true}
use Rattle.std.specs.Str.{bytes_eq}
use Rattle.std.proofs.lemmas.Slice.Eq.{bytes_eq-Decides}
use Rattle.model.specs.Lists.{In}
use Rattle.model.specs.Lines.{Line, first_address}
use Rattle.model.specs.Lines.Line.{line, short}

-- a line among these has that nonzero address for the name
abbrev pub Tells : List Line → List ℕ → ℕ → Type 0
Tells ls n a = In (line n (Some a)) ls × (a ≡ 0 → ⊥)

value_some : (o : Option ℕ) → (unwrap_or o 0 ≡ 0 → ⊥) → o ≡ Some (unwrap_or o 0)
value_some o h = search rules

line_is : (m n : List ℕ) (o p : Option ℕ) → m ≡ n → o ≡ p → line m o ≡ line n p
line_is m n o p e f = λ i. line (e i) (f i)

line_name : (m n : List ℕ) (o p : Option ℕ) → line m o ≡ line n p → m ≡ n
line_name m n o p e = cc

pub line_address : (m n : List ℕ) (o p : Option ℕ) → line m o ≡ line n p → o ≡ p
line_address m n o p e = cc

pub short_not : (n : List ℕ) (o : Option ℕ) → short ≡ line n o → ⊥
short_not n o e = search rules

pub found_in : (n : List ℕ) (ls : List Line) → (first_address n ls ≡ 0 → ⊥) → In (line n (Some (first_address n ls))) ls
found_in n [] h = absurd (h refl)
found_in n (line m o ∷ ls) h =
    cond_both (bytes_eq n m && not (eqb (unwrap_or o 0) 0)) (unwrap_or o 0) (first_address n ls) (λ v. (v ≡ 0 → ⊥) → In (line n (Some v)) (line m o ∷ ls))
    (λ t k. inl (line_is m n o (Some (unwrap_or o 0)) (sym ((bytes_eq-Decides n m).0 (and_parts _ _ t).0)) (value_some o k)))
    (λ t k. inr (found_in n ls k))
    h
found_in n (short ∷ ls) h = inr (found_in n ls h)

pub in_found : (n : List ℕ) (ls : List Line) (a : ℕ) → Tells ls n a → first_address n ls ≡ 0 → ⊥
in_found n [] a i z = i.0
in_found n (line m o ∷ ls) a (i, h) z =
    ⊎_elim
    (λ t. eqb-false (unwrap_or o 0) 0 (not-true _ (and_parts _ _ t).1) (sym (cond-true _ _ _ t) ∙ z))
    (λ t. ⊎_elim
    (λ q. both_ways _ t (and_from _ _ ((bytes_eq-Decides n m).1 (sym (line_name m n o (Some a) q))) (ap not (ne_eqb _ 0 (λ w. h (sym (ap (λ x. unwrap_or x 0) (line_address m n o (Some a) q)) ∙ w))))))
    (λ j. in_found n ls a (j, h) (sym (cond-false (bytes_eq n m && not (eqb (unwrap_or o 0) 0)) (unwrap_or o 0) (first_address n ls) t) ∙ z)) i)
    (cases_Bool (bytes_eq n m && not (eqb (unwrap_or o 0) 0)))
in_found n (short ∷ ls) a (i, h) z = ⊎_elim (λ q. short_not n (Some a) q) (λ j. in_found n ls a (j, h) z) i
