-- A text that tells what was looked up. Assumes nothing.
use Rattle.std.proofs.Common.{◌≡◌, ℕ, List, [], map, length, get_or, All, string_bytes, String, sym, ap, ◌∙◌, subst, arith}
use Rattle.std.proofs.lemmas.List.{get_or-map, length-map}
use Rattle.std.specs.declared.alloc.Global.{Global}
use Rattle.kallsyms.specs.Cut.{lines_from, end_from}
use Rattle.kallsyms.specs.Line.{count_of}
use Rattle.lookup.specs.Rows.{name_at, Filled}
use Rattle.lookup.specs.Says.{Says}
use Rattle.lookup.specs.declared.scan.Reading.{Reading}
use Rattle.lookup.specs.declared.sighting.Sighting.{Sighting}
use Rattle.lookup.specs.declared.sighting.Sighting.TheVariants.{Unlisted}
use Rattle.ksyms.specs.Answers.{answer_text, Answers}
use Rattle.ksyms.specs.Tells.{Tells, Finds}
use Rattle.ksyms.specs.declared.summary.Told.{Told}

-- what is told is what the lines say, where each row holds what they say of its name
says_told : (names : List (String Global)) (rows : List Sighting) (tolds : List Told) (ls : List (List ℕ))
    → Tells names rows tolds
    → length rows ≡ length names
    → Filled names ls rows
    → All (λ t. Says ls t.name.now t.sighting) tolds
says_told names rows tolds ls tells all held k t lt =
    let told : Told = get_or tolds k t in
    let count : length tolds ≡ length names = sym (length-map tolds (λ t. t.name.now)) ∙ ap length tells.named ∙ length-map names string_bytes in
    let name : name_at names k ≡ told.name.now = ap (λ ns. get_or ns k []) (sym tells.named) ∙ get_or-map (λ t. t.name.now) tolds k t [] lt in
    let said : get_or rows k Unlisted ≡ told.sighting = ap (λ ss. get_or ss k Unlisted) (sym tells.said) ∙ get_or-map (λ t. t.sighting) tolds k t Unlisted lt in
    subst (λ s. Says ls told.name.now s) said (subst (λ n. Says ls n (get_or rows k Unlisted)) name (held.says k (omega (arith, count, lt)) (omega (arith, count, all, lt))))

-- what a lookup in these bytes, from line 1 on, has left and answered
pub finds : (bytes : List ℕ) (names : List (String Global)) (n : ℕ) (rest : List ℕ) (rows : List Sighting) (reading : Reading) (tolds : List Told)
    → rest ≡ bytes
    → n ≡ 1
    → length rows ≡ length names
    → Filled names (lines_from n rest) rows
    → reading.lines ≡ count_of (lines_from n rest)
    → reading.end ≡ end_from n rest
    → Tells names rows tolds
    → Finds bytes names tolds reading
finds bytes names n rest rows reading tolds whole first all held count end tells =
    let From : (ℕ → List ℕ → Type 0) → Type 0 = λ P. P n rest → P 1 bytes in
    let from : (P : ℕ → List ℕ → Type 0) → From P = λ P p. subst (λ r. P 1 r) whole (subst (λ k. P k rest) first p) in
    record {
      named = tells.named;
      says = says_told names rows tolds (lines_from 1 bytes) tells all (from (λ k r. Filled names (lines_from k r) rows) held);
      count = from (λ k r. reading.lines ≡ count_of (lines_from k r)) count;
      end = from (λ k r. reading.end ≡ end_from k r) end;
    }

-- the text of what was found
pub answered : (bytes : List ℕ) (names : List (String Global)) (reading : Reading) (tolds ts : List Told) (text : List ℕ)
    → Finds bytes names tolds reading
    → ts ≡ tolds
    → text ≡ answer_text ts reading.lines reading.end
    → Answers bytes names text
answered bytes names reading tolds ts text found same written = record {
  tolds = tolds;
  named = found.named;
  says = found.says;
  written = written ∙ ap (λ ts. answer_text ts reading.lines reading.end) same ∙ ap (λ lines. answer_text tolds lines reading.end) found.count ∙ ap (answer_text tolds _) found.end;
}
