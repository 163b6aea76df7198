-- A text means the lines that it is cut into, and its end, and no others. Assumes nothing.
use Rattle.std.proofs.Common.{◌≡◌, ℕ, suc, ◌+◌, ◌-◌, ◌^◌, ◌≤◌, min, true, false, ◌&&◌, eqb, ltb, List, [], ◌∷◌, ◌++◌, length, drop, sym, refl, ap, ◌∙◌, subst, inl, inr, ⊎_elim, add-one, arith, length-append, Ok, Err}
use Rattle.std.specs.List.{AllByRecursion}
use Rattle.std.proofs.ByRecursion.{All-get_or, All-push, All-weaker}
use Rattle.std.proofs.lemmas.Bool.{eq-eqb, ne_eqb, eqb-true, eqb-false, ltb-true, ltb-false, lt-ltb, le-ltb, and_parts, and_cases, and_from, both_ways, cases_Bool, cond-true, cond-false, cond_both}
use Rattle.std.proofs.Math.Seq.{drop-append-add}
use Rattle.std.proofs.lemmas.List.{append-nil, append_assoc, get_or_append_left, get_or_at, take_at}
use Rattle.kallsyms.specs.Line.{Plain, GoodLine, GoodLines, number_after}
use Rattle.kallsyms.specs.Cut.{feeds, onto, pieces, plain, verdict, keep, kept, ended, lines_from, end_from}
use Rattle.kallsyms.specs.Joins.{joined_end}
use Rattle.kallsyms.specs.Goodness.{plain-Plain}
use Rattle.kallsyms.specs.Means.{NoFeed, NoReturn, Ends, Consists, Has, Means, OneMeaning}
use Rattle.kallsyms.specs.Laws.{written, WrittenLinesAreRead, ReturnedLinesAreRead}
use Rattle.kallsyms.specs.declared.ends.Fault.{Fault}
use Rattle.kallsyms.specs.declared.ends.Fault.TheVariants.{LineTooLong, ByteTooLarge}
use Rattle.kallsyms.specs.Ends.{End}
use Rattle.kallsyms.proofs.Pieced.{trim, first_piece, last_piece}

-- a byte 13 at the end is what `trim` takes away
trim_kept : (p : List ℕ) → NoReturn p → trim p ≡ p
trim_kept [] h = refl
trim_kept (b ∷ []) h = cond-false _ _ _ (ne_eqb b 13 (λ e. h [] (ap (λ x. x ∷ []) e)))
trim_kept (b ∷ c ∷ p) h = ap (λ l. b ∷ l) (trim_kept (c ∷ p) (λ q e. h (b ∷ q) (ap (λ l. b ∷ l) e)))

trim_taken : (p : List ℕ) → trim (p ++ 13 ∷ []) ≡ p
trim_taken [] = refl
trim_taken (b ∷ []) = refl
trim_taken (b ∷ c ∷ p) = ap (λ l. b ∷ l) (trim_taken (c ∷ p))

-- a piece and its byte 10 come before the pieces of the rest
pieces_fed : (p bs : List ℕ) → NoFeed p → pieces (p ++ 10 ∷ bs) ≡ trim p ∷ pieces bs
pieces_fed p bs f =
    let len = length-append p (10 ∷ bs) in
    first_piece (p ++ 10 ∷ bs) (length p) (omega arith)
    (λ k lt e. All-get_or (λ b. b ≡ 10 → ⊥) p k 0 lt f (sym (get_or_append_left p (10 ∷ bs) 0 k lt) ∙ e))
    (get_or_at p 10 bs 0 (length p) refl)
    ∙ ap (λ l. trim l ∷ pieces (drop (suc (length p)) (p ++ 10 ∷ bs))) (take_at p (10 ∷ bs) (length p) refl)
    ∙ ap (λ l. trim p ∷ pieces l) (ap (λ n. drop n (p ++ 10 ∷ bs)) (sym (add-one (length p))) ∙ drop-append-add p (10 ∷ bs) 1)

pieces_ended : (p bs rest : List ℕ) → NoFeed p → Ends p bs rest → pieces bs ≡ p ∷ pieces rest
pieces_ended p bs rest f =
    ⊎_elim
    (λ x. ap pieces x.0 ∙ pieces_fed p rest f ∙ ap (λ l. l ∷ pieces rest) (trim_kept p x.1))
    (λ e. ap pieces (e ∙ sym (append_assoc p (13 ∷ []) (10 ∷ rest)))
    ∙ pieces_fed (p ++ 13 ∷ []) rest (All-push (λ b. b ≡ 10 → ⊥) p 13 f (λ e. omega arith))
    ∙ ap (λ l. l ∷ pieces rest) (trim_taken p))

-- so a text consists of its pieces at most
consists_pieces : (ps : List (List ℕ)) (bs : List ℕ) → Consists ps bs → pieces bs ≡ ps
consists_pieces [] bs e = ap pieces e
consists_pieces (p ∷ ps) bs c =
    ⊎_elim
    (λ x. ap pieces x.0 ∙ last_piece p x.1 (λ k lt. All-get_or (λ b. b ≡ 10 → ⊥) p k 0 lt c.0) ∙ ap (λ l. p ∷ l) (sym x.2))
    (λ x. pieces_ended p bs x.0 c.0 x.1 ∙ ap (λ l. p ∷ l) (consists_pieces ps x.0 x.2))
    c.1

-- one byte before a text goes before its first piece, unless it is 10, or 13 before a 10
no_return_onto : (b : ℕ) (p bs rest : List ℕ) → (b ≡ 13 → feeds bs ≡ false) → bs ≡ p ++ 10 ∷ rest → NoReturn p → NoReturn (b ∷ p)
no_return_onto b p bs rest f e g [] x =
    let b_is : b ≡ 13 = cc in
    let p_is : p ≡ [] = cc in
    let fed : feeds bs ≡ true = ap feeds (e ∙ ap (λ l. l ++ 10 ∷ rest) p_is) in
    both_ways _ (f b_is) fed
no_return_onto b p bs rest f e g (y ∷ q) x = let same : p ≡ q ++ 13 ∷ [] = cc in g q same

ends_onto : (b : ℕ) (p bs rest : List ℕ) → (b ≡ 13 → feeds bs ≡ false) → Ends p bs rest → Ends (b ∷ p) (b ∷ bs) rest
ends_onto b p bs rest f =
    ⊎_elim
    (λ x. inl (ap (λ l. b ∷ l) x.0, no_return_onto b p bs rest f x.0 x.1))
    (λ e. inr (ap (λ l. b ∷ l) e))

consists_onto : (b : ℕ) (ps : List (List ℕ)) (bs : List ℕ) → (b ≡ 10 → ⊥) → (b ≡ 13 → feeds bs ≡ false) → Consists ps bs → Consists (onto b ps) (b ∷ bs)
consists_onto b [] bs h f e = ((h, tt), inl (ap (λ l. b ∷ l) e, omega arith, refl))
consists_onto b (p ∷ ps) bs h f c =
    ((h, c.0), ⊎_elim (λ x. inl (ap (λ l. b ∷ l) x.0, omega arith, x.2)) (λ x. inr (x.0, ends_onto b p bs x.0 f x.1, x.2)) c.1)

-- a byte 10 ends an empty piece, with a byte 13 before it or without
no_return_empty : NoReturn []
no_return_empty [] x = let z : ◌≡◌ {A = ℕ} 0 1 = cc in omega arith
no_return_empty (y ∷ q) x = let z : ◌≡◌ {A = ℕ} 0 1 = cc in omega arith

consists_feed : (b : ℕ) (bs : List ℕ) → b ≡ 10 → Consists (pieces bs) bs → Consists ([] ∷ pieces bs) (b ∷ bs)
consists_feed b bs e c = (tt, inr (bs, inl (ap (λ x. x ∷ bs) e, no_return_empty), c))

consists_return : (b c : ℕ) (bs : List ℕ) → b ≡ 13 → c ≡ 10 → Consists (pieces bs) bs → Consists (pieces (c ∷ bs)) (b ∷ c ∷ bs)
consists_return b c bs e f h =
    let made : Consists ([] ∷ pieces bs) (b ∷ c ∷ bs) = (tt, inr (bs, inr (cc), h)) in
    subst (λ ps. Consists ps (b ∷ c ∷ bs)) (sym (cond-true _ _ _ (eq-eqb c 10 f))) made

-- and at least
pieces_consist : (bs : List ℕ) → Consists (pieces bs) bs
pieces_consist [] = refl
pieces_consist (b ∷ []) =
    cond_both (eqb b 10) _ _ (λ ps. Consists ps (b ∷ []))
    (λ e. consists_feed b [] (eqb-true b 10 e) refl)
    (λ ne. cond_both (eqb b 13 && false) _ _ (λ ps. Consists ps (b ∷ []))
    (λ e. absurd (both_ways _ refl (and_parts (eqb b 13) false e).1))
    (λ _. consists_onto b [] [] (eqb-false b 10 ne) (λ _. refl) refl))
pieces_consist (b ∷ c ∷ bs) =
    cond_both (eqb b 10) _ _ (λ ps. Consists ps (b ∷ c ∷ bs))
    (λ e. consists_feed b (c ∷ bs) (eqb-true b 10 e) (pieces_consist (c ∷ bs)))
    (λ ne. cond_both (eqb b 13 && eqb c 10) _ _ (λ ps. Consists ps (b ∷ c ∷ bs))
    (λ e. let both = and_parts (eqb b 13) (eqb c 10) e in consists_return b c bs (eqb-true b 13 both.0) (eqb-true c 10 both.1) (pieces_consist bs))
    (λ e. consists_onto b (pieces (c ∷ bs)) (c ∷ bs) (eqb-false b 10 ne)
    (λ is. ⊎_elim (λ l. absurd (both_ways _ l (eq-eqb b 13 is))) (λ r. r) (and_cases (eqb b 13) (eqb c 10) e))
    (pieces_consist (c ∷ bs))))

-- the verdict on a piece that is a line, and on one that has a fault
Plain-plain : (p : List ℕ) → Plain p → plain p ≡ true
Plain-plain [] h = refl
Plain-plain (b ∷ p) h = and_from (ltb b 128) (plain p) (lt-ltb b 128 h.0) (Plain-plain p h.1)

not-Plain : (p : List ℕ) → (Plain p → ⊥) → plain p ≡ false
not-Plain p h = ⊎_elim (λ e. absurd (h (plain-Plain p e))) (λ e. e) (cases_Bool (plain p))

good_verdict : (n : ℕ) (p : List ℕ) → GoodLine p → verdict n p ≡ Ok tt
good_verdict n p g = cond-false _ _ _ (le-ltb 1024 (length p) g.0) ∙ cond-true _ _ _ (Plain-plain p g.1)

bad_verdict : (f : Fault) (n : ℕ) (p : List ℕ) → Has f n p → verdict n p ≡ Err f
bad_verdict (LineTooLong m) n p h = cond-true _ _ _ (lt-ltb 1024 (length p) h.1) ∙ ap (λ i. Err (LineTooLong i)) (sym h.0)
bad_verdict (ByteTooLarge m) n p h =
    cond-false _ _ _ (le-ltb 1024 (length p) h.1) ∙ cond-false _ _ _ (not-Plain p h.2) ∙ ap (λ i. Err (ByteTooLarge i)) (sym h.0)

-- the number of the line after lines of which the first has number n
abbrev count : ℕ → List (List ℕ) → ℕ
count n [] = n
count n (l ∷ ls) = count (number_after n) ls

count_is : (n : ℕ) (ls : List (List ℕ)) → n ≤ 2 ^ 64 - 1 → count n ls ≡ min (length ls + n) (2 ^ 64 - 1)
count_is n [] h = omega arith
count_is n (l ∷ ls) h = let e = count_is (number_after n) ls (omega arith) in omega arith

-- pieces, of which the first has number n, are lines up to an end
abbrev Split : ℕ → List (List ℕ) → List (List ℕ) → End → Type 0
Split n ps ls (Ok tt) = (ps ≡ ls) × GoodLines ls
Split n ps ls (Err f) = (p : List ℕ) × (qs : List (List ℕ)) × (ps ≡ ls ++ p ∷ qs) × GoodLines ls × Has f (count n ls) p

split_more : (n : ℕ) (p : List ℕ) (ps ls : List (List ℕ)) (e : End) → GoodLine p → Split (number_after n) ps ls e → Split n (p ∷ ps) (p ∷ ls) e
split_more n p ps ls (Ok tt) g s = (ap (λ l. p ∷ l) s.0, (g, s.1))
split_more n p ps ls (Err f) g s = (s.0, s.1, ap (λ l. p ∷ l) s.2, (g, s.3), s.4)

split_at : (n : ℕ) (ps : List (List ℕ)) → Split n ps (kept n ps) (ended n ps)
split_at n [] = (refl, tt)
split_at n (p ∷ ps) =
    let ls = kept (number_after n) ps in
    let e = ended (number_after n) ps in
    cond_both (ltb 1024 (length p)) _ _ (λ v. Split n (p ∷ ps) (keep v p ls) (joined_end v e))
    (λ long. (p, ps, refl, tt, (refl, ltb-true 1024 (length p) long)))
    (λ short. cond_both (plain p) _ _ (λ v. Split n (p ∷ ps) (keep v p ls) (joined_end v e))
    (λ good. split_more n p ps ls e (ltb-false 1024 (length p) short, plain-Plain p good) (split_at (number_after n) ps))
    (λ bad. (p, ps, refl, tt, (refl, ltb-false 1024 (length p) short, λ h. both_ways _ bad (Plain-plain p h)))))

-- lines at the front stay, and so no other lines and end will do
good_front : (n : ℕ) (ls ps : List (List ℕ)) → GoodLines ls → (kept n (ls ++ ps) ≡ ls ++ kept (count n ls) ps) × (ended n (ls ++ ps) ≡ ended (count n ls) ps)
good_front n [] ps g = (refl, refl)
good_front n (l ∷ ls) ps g =
    let v = good_verdict n l g.0 in
    let rest = good_front (number_after n) ls ps g.1 in (
      ap (λ x. keep x l (kept (number_after n) (ls ++ ps))) v ∙ ap (λ x. l ∷ x) rest.0,
      ap (λ x. joined_end x (ended (number_after n) (ls ++ ps))) v ∙ rest.1,
    )

split_alone : (n : ℕ) (ps ls : List (List ℕ)) (e : End) → Split n ps ls e → (ls ≡ kept n ps) × (e ≡ ended n ps)
split_alone n ps ls (Ok tt) s =
    let front = good_front n ls [] s.1 in
    let nil = append-nil ls in
    let same : ps ≡ ls ++ [] = s.0 ∙ sym nil in
    (sym (ap (kept n) same ∙ front.0 ∙ nil), sym (ap (ended n) same ∙ front.1))
split_alone n ps ls (Err f) s =
    let p = s.0 in
    let qs = s.1 in
    let m = count n ls in
    let front = good_front n ls (p ∷ qs) s.3 in
    let v = bad_verdict f m p s.4 in (
      sym (ap (kept n) s.2 ∙ front.0 ∙ ap (λ x. ls ++ keep x p (kept (number_after m) qs)) v ∙ append-nil ls),
      sym (ap (ended n) s.2 ∙ front.1 ∙ ap (λ x. joined_end x (ended (number_after m) qs)) v),
    )

-- a text means lines and an end where its pieces are split so
split_means : (bs : List ℕ) (ls : List (List ℕ)) (e : End) → Split 1 (pieces bs) ls e → Means bs ls e
split_means bs ls (Ok tt) s = (subst (λ x. Consists x bs) s.0 (pieces_consist bs), s.1)
split_means bs ls (Err f) s =
    (s.0, s.1, subst (λ x. Consists x bs) s.2 (pieces_consist bs), s.3, subst (λ n. Has f n s.0) (count_is 1 ls (omega arith)) s.4)

means_split : (bs : List ℕ) (ls : List (List ℕ)) (e : End) → Means bs ls e → Split 1 (pieces bs) ls e
means_split bs ls (Ok tt) m = (consists_pieces ls bs m.0, m.1)
means_split bs ls (Err f) m =
    (m.0, m.1, consists_pieces (ls ++ m.0 ∷ m.1) bs m.2, m.3, subst (λ n. Has f n m.0) (sym (count_is 1 ls (omega arith))) m.4)

pub one_meaning : (bs : List ℕ) → OneMeaning bs (lines_from 1 bs) (end_from 1 bs)
one_meaning bs =
    record {
      means = split_means bs _ _ (split_at 1 (pieces bs));
      alone = λ ls e m. split_alone 1 (pieces bs) ls e (means_split bs ls e m);
    }

-- what is written as lines is read as those lines
read_back : (ls : List (List ℕ)) (bs : List ℕ) → Consists ls bs → GoodLines ls → (lines_from 1 bs ≡ ls) × (end_from 1 bs ≡ Ok tt)
read_back ls bs c g = let only = (one_meaning bs).alone ls (Ok tt) (c, g) in (sym only.0, sym only.1)

fed_consist : (ls : List (List ℕ)) → AllByRecursion (λ l. GoodLine l × NoFeed l × NoReturn l) ls → Consists ls (written (10 ∷ []) ls)
fed_consist [] h = refl
fed_consist (l ∷ ls) h = (h.0.1, inr (written (10 ∷ []) ls, inl (refl, h.0.2), fed_consist ls h.1))

pub written_read : WrittenLinesAreRead
written_read ls h = read_back ls (written (10 ∷ []) ls) (fed_consist ls h) (All-weaker (λ l. GoodLine l × NoFeed l × NoReturn l) GoodLine (λ l g. g.0) ls h)

returned_consist : (ls : List (List ℕ)) → AllByRecursion (λ l. GoodLine l × NoFeed l) ls → Consists ls (written (13 ∷ 10 ∷ []) ls)
returned_consist [] h = refl
returned_consist (l ∷ ls) h = (h.0.1, inr (written (13 ∷ 10 ∷ []) ls, inr refl, returned_consist ls h.1))

pub returned_read : ReturnedLinesAreRead
returned_read ls h = read_back ls (written (13 ∷ 10 ∷ []) ls) (returned_consist ls h) (All-weaker (λ l. GoodLine l × NoFeed l) GoodLine (λ l g. g.0) ls h)
