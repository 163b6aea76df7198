-- The pieces of a text, and what a scan of it finds. Assumes nothing.
use Rattle.std.proofs.Common.{◌≡◌, ℕ, zero, suc, ◌+◌, ◌-◌, ◌<◌, ◌≤◌, true, false, cond, ◌&&◌, eqb, ltb, List, [], ◌∷◌, length, get_or, take, drop, None, sym, refl, ap, ◌∙◌, ⊎_elim, add-one, arith}
use Rattle.std.proofs.lemmas.Bool.{eq-eqb, ne_eqb, eqb-true, lt-ltb, le-ltb, ltb-true, and_left, and_right, and_from, and_parts, both_ways, cases_Bool, cond-true, cond-false, cond_both}
use Rattle.std.proofs.lemmas.List.{drop_all, take_rest}
use Rattle.std.specs.Str.{IsAscii}
use Rattle.memchr.specs.Find.{IsFirstByte, is_byte}
use Rattle.kallsyms.specs.Cut.{plain, feeds, onto, pieces}
use Rattle.kallsyms.specs.Pieces.{returns, bare}

-- without a byte 13 at the end, byte by byte
abbrev pub trim : List ℕ → List ℕ
trim [] = []
trim (b ∷ []) = cond (eqb b 13) [] (b ∷ [])
trim (b ∷ c ∷ bs) = b ∷ trim (c ∷ bs)

trim_13 : (p : List ℕ) → 0 < length p → get_or p (length p - 1) 0 ≡ 13 → take (length p - 1) p ≡ trim p
trim_13 [] h e = absurd (omega arith)
trim_13 (b ∷ []) h e = sym (cond-true _ [] (b ∷ []) (eq-eqb b 13 e))
trim_13 (b ∷ c ∷ p) h e =
    let z : suc (suc (length p)) - 1 ≡ suc (suc (length p) - 1) = omega arith in
    ap (λ n. take n (b ∷ c ∷ p)) z ∙ ap (λ l. b ∷ l) (trim_13 (c ∷ p) (omega arith) (ap (λ n. get_or (b ∷ c ∷ p) n 0) (sym z) ∙ e))

trim_else : (p : List ℕ) → (0 < length p → get_or p (length p - 1) 0 ≡ 13 → ⊥) → p ≡ trim p
trim_else [] e = refl
trim_else (b ∷ []) e = sym (cond-false _ [] (b ∷ []) (ne_eqb b 13 (e (omega arith))))
trim_else (b ∷ c ∷ p) e =
    let z : suc (suc (length p)) - 1 ≡ suc (suc (length p) - 1) = omega arith in
    ap (λ l. b ∷ l) (trim_else (c ∷ p) (λ h f. e (omega arith) (ap (λ n. get_or (b ∷ c ∷ p) n 0) z ∙ f)))

-- both are the same
pub bare_trim : (p : List ℕ) → bare p ≡ trim p
bare_trim p =
    let last = get_or p (length p - 1) 0 in
    cond_both (returns p) (take (length p - 1) p) p (λ q. q ≡ trim p)
    (λ t. let parts = and_parts (ltb 0 (length p)) (eqb last 13) t in trim_13 p (ltb-true 0 (length p) parts.0) (eqb-true last 13 parts.1))
    (λ f. trim_else p (λ h e. both_ways _ f (and_from (ltb 0 (length p)) (eqb last 13) (lt-ltb 0 (length p) h) (eq-eqb last 13 e))))

-- one byte that is not 10, before a text whose first piece is known
step : (b : ℕ) (bs : List ℕ) → (b ≡ 10 → ⊥) → pieces (b ∷ bs) ≡ cond (eqb b 13 && feeds bs) (pieces bs) (onto b (pieces bs))
step b bs h = cond-false _ _ _ (ne_eqb b 10 h)

-- a text without a byte 10 is one piece
pub last_piece : (bs : List ℕ) → 0 < length bs → ((k : ℕ) → k < length bs → get_or bs k 0 ≡ 10 → ⊥) → pieces bs ≡ bs ∷ []
last_piece [] h f = absurd (omega arith)
last_piece (b ∷ []) h f = step b [] (f 0 (omega arith)) ∙ cond-false _ _ _ (and_right (eqb b 13) false refl)
last_piece (b ∷ c ∷ bs) h f =
    step b (c ∷ bs) (f 0 (omega arith))
    ∙ cond-false _ _ _ (and_right (eqb b 13) (eqb c 10) (ne_eqb c 10 (f 1 (omega arith))))
    ∙ ap (onto b) (last_piece (c ∷ bs) (omega arith) (λ k l. f (suc k) (omega arith)))

-- a text whose first byte 10 stands at i
pub first_piece : (bs : List ℕ) (i : ℕ) → i < length bs → ((k : ℕ) → k < i → get_or bs k 0 ≡ 10 → ⊥) → get_or bs i 0 ≡ 10 → pieces bs ≡ trim (take i bs) ∷ pieces (drop (suc i) bs)
first_piece [] i h f e = absurd (omega arith)
first_piece (b ∷ bs) zero h f e = cond-true _ _ _ (eq-eqb b 10 e)
first_piece (b ∷ []) (suc i) h f e = absurd (omega arith)
first_piece (b ∷ c ∷ bs) (suc zero) h f e =
    let feed : eqb c 10 ≡ true = eq-eqb c 10 e in
    let tail : pieces (c ∷ bs) ≡ [] ∷ pieces bs = cond-true _ _ _ feed in
    step b (c ∷ bs) (f 0 (omega arith))
    ∙ ⊎_elim
    (λ t. cond-true _ _ _ (and_from (eqb b 13) (eqb c 10) t feed) ∙ tail ∙ ap (λ l. l ∷ pieces bs) (sym (cond-true _ [] (b ∷ []) t)))
    (λ t. cond-false _ _ _ (and_left (eqb b 13) (eqb c 10) t) ∙ ap (onto b) tail ∙ ap (λ l. l ∷ pieces bs) (sym (cond-false _ [] (b ∷ []) t)))
    (cases_Bool (eqb b 13))
first_piece (b ∷ c ∷ bs) (suc (suc i)) h f e =
    step b (c ∷ bs) (f 0 (omega arith))
    ∙ cond-false _ _ _ (and_right (eqb b 13) (eqb c 10) (ne_eqb c 10 (f 1 (omega arith))))
    ∙ ap (onto b) (first_piece (c ∷ bs) (suc i) (omega arith) (λ k l. f (suc k) (omega arith)) e)

-- the two ways of `first_piece`
pub piece_found : (bs s : List ℕ) (i : ℕ) → i < length bs → ((k : ℕ) → k < i → get_or bs k 0 ≡ 10 → ⊥) → get_or bs i 0 ≡ 10 → s ≡ bare (take i bs) → pieces bs ≡ s ∷ pieces (take (length bs - (i + 1)) (drop (i + 1) bs))
piece_found bs s i h f e g =
    let first = first_piece bs i h f e in
    let same = bare_trim (take i bs) in
    let rest = take_rest bs (i + 1) in
    let one = add-one i in
    cc

pub piece_last : (bs : List ℕ) → 0 < length bs → IsFirstByte (is_byte 10) bs None → pieces bs ≡ bs ∷ pieces (take (length bs - length bs) (drop (length bs) bs))
piece_last bs h f =
    last_piece bs h (λ k l e. f k (omega arith) l (eq-eqb (get_or bs k 0) 10 e))
    ∙ ap (λ l. bs ∷ pieces l) (sym (take_rest bs (length bs) ∙ drop_all (length bs) bs (omega arith)))

-- bytes that are all below 128, and bytes that are not
pub ascii_plain : (bs : List ℕ) → IsAscii bs → plain bs ≡ true
ascii_plain [] h = refl
ascii_plain (b ∷ bs) h = and_from (ltb b 128) (plain bs) (lt-ltb b 128 (h 0)) (ascii_plain bs (λ i. h (suc i)))

pub not_plain : (bs : List ℕ) (i : ℕ) → 128 ≤ get_or bs i 0 → plain bs ≡ false
not_plain [] i h = absurd (omega arith)
not_plain (b ∷ bs) zero h = and_left (ltb b 128) (plain bs) (le-ltb b 128 h)
not_plain (b ∷ bs) (suc i) h = and_right (ltb b 128) (plain bs) (not_plain bs i h)
