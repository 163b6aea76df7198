-- Digits that the library writes, with zeros before them. Assumes nothing.
use Rattle.std.proofs.Common.{◌≡◌, ℕ, zero, suc, ◌+◌, ◌-◌, ◌/◌, ◌%◌, ◌^◌, ◌<◌, false, eqb, List, [], ◌∷◌, ◌++◌, length, replicate, sym, refl, ap, ◌∙◌, ⊎_elim, append_assoc, append-nil, add-one, pow-suc, arith}
use Rattle.std.proofs.lemmas.Bool.{eq-eqb, ne_eqb, lt-ltb, le-ltb, cond-true, cond-false, cases_lt, cases_Bool, eqb-true, eqb-false}
use Rattle.std.proofs.lemmas.List.{replicate-append-replicate}
use Rattle.std.specs.Fmt.{digit_glyph, digits_onto, digits, padded_integral, format_spec, char_count}
use Rattle.texts.specs.Hex.{hex_digit, hex_digits, hex16}

glyph_is : (d : ℕ) → digit_glyph false d ≡ hex_digit d
glyph_is d =
    ⊎_elim
    (λ lt. cond-true _ _ _ (lt-ltb d 10 lt) ∙ sym (cond-true _ _ _ (lt-ltb d 10 lt)))
    (λ ge. let same : 87 + d ≡ 97 + (d - 10) = omega arith in cond-false _ _ _ (le-ltb d 10 ge) ∙ same ∙ sym (cond-false _ _ _ (le-ltb d 10 ge)))
    (cases_lt d 10)

zeros : (k : ℕ) → hex_digits k 0 ≡ replicate k 48
zeros zero = refl
zeros (suc k) = ap (λ l. l ++ (48 ∷ [])) (zeros k) ∙ replicate-append-replicate k 1 48 ∙ ap (λ m. replicate m 48) (add-one k)

module _ (n : ℕ) (acc : List ℕ) where
  last : (i : ℕ) → n / 16 ≡ 0 → digits_onto (suc i) 16 false n acc ≡ hex_digit (n % 16) ∷ acc
  last i e = cond-true _ _ _ (eq-eqb (n / 16) 0 e) ∙ ap (λ g. g ∷ acc) (glyph_is (n % 16))

  more : (i : ℕ) → (n / 16 ≡ 0 → ⊥) → digits_onto (suc i) 16 false n acc ≡ digits_onto i 16 false (n / 16) (hex_digit (n % 16) ∷ acc)
  more i e = cond-false _ _ _ (ne_eqb (n / 16) 0 e) ∙ ap (λ g. digits_onto i 16 false (n / 16) (g ∷ acc)) (glyph_is (n % 16))

-- zeros up to k digits
abbrev filled : ℕ → List ℕ → List ℕ → List ℕ
filled k acc ds = replicate (k + length acc - length ds) 48 ++ ds

fills : (k i n : ℕ) (acc : List ℕ) → k < i → n < 16 ^ suc k → filled (suc k) acc (digits_onto i 16 false n acc) ≡ hex_digits (suc k) n ++ acc
fills k zero n acc le lt = absurd (omega arith)
fills zero (suc i) n acc le lt =
    let digit = hex_digit (n % 16) in
    let none : n / 16 ≡ 0 = let p = pow-suc 16 0 in omega arith in
    let short : 1 + length acc - length (digit ∷ acc) ≡ 0 = omega arith in
    ap (filled 1 acc) (last n acc i none) ∙ ap (λ m. replicate m 48 ++ (digit ∷ acc)) short
fills (suc k) (suc i) n acc le lt =
    let digit = hex_digit (n % 16) in
    let front = hex_digits (suc k) (n / 16) in
    ⊎_elim
    (λ t.
    let none = eqb-true (n / 16) 0 t in
    let short : suc (suc k) + length acc - length (digit ∷ acc) ≡ suc k = omega arith in
    ap (filled (suc (suc k)) acc) (last n acc i none)
    ∙ ap (λ m. replicate m 48 ++ (digit ∷ acc)) short
    ∙ ap (λ l. l ++ (digit ∷ acc)) (sym (zeros (suc k)) ∙ ap (hex_digits (suc k)) (sym none))
    ∙ sym (append_assoc front (digit ∷ []) acc))
    (λ f.
    let written = digits_onto i 16 false (n / 16) (digit ∷ acc) in
    let same : suc (suc k) + length acc ≡ suc k + length (digit ∷ acc) = omega arith in
    let less : n / 16 < 16 ^ suc k = let p = pow-suc 16 (suc k) in omega arith in
    ap (filled (suc (suc k)) acc) (more n acc i (eqb-false (n / 16) 0 f))
    ∙ ap (λ m. replicate (m - length written) 48 ++ written) same
    ∙ fills k i (n / 16) (digit ∷ acc) (omega arith) less
    ∙ sym (append_assoc front (digit ∷ []) acc))
    (cases_Bool (eqb (n / 16) 0))

-- what `{:016x}` writes of 64 bits
zeros_before : (ds : List ℕ) → padded_integral (format_spec 32 0 4 16 (2 ^ 64 - 1)) false [] ds ≡ replicate (16 - length ds) 48 ++ ds
unfolding padded_integral char_count
zeros_before ds =
    let all : 16 - length ds - 0 - 0 ≡ 16 - length ds = omega arith in
    ap (λ m. replicate m 48 ++ (ds ++ [])) all ∙ ap (λ l. replicate (16 - length ds) 48 ++ l) (append-nil ds)

pub sixteen : (n : ℕ) → n < 2 ^ 64 → padded_integral (format_spec 32 0 4 16 (2 ^ 64 - 1)) false [] (digits 16 false n) ≡ hex16 n
unfolding digits hex16
sixteen n lt = zeros_before (digits_onto 64 16 false n []) ∙ fills 15 64 n [] (omega arith) lt ∙ append-nil (hex_digits 16 n)
