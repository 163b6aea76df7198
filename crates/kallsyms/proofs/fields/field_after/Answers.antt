-- Tried without: the check leaves these goals open.
use Rattle.std.proofs.Common.{◌≡◌, ◌-◌, length, take, drop, true, false, sym, ap, ◌∙◌, rules, tests}
use Rattle.std.proofs.lemmas.List.{take_rest}
use Rattle.std.proofs.lemmas.Option.{MatchOption-at_none}
use Rattle.std.proofs.lemmas.Iterator.{IsFirst-from_position, YieldsList-from_slice}
use Rattle.std.proofs.option.Match.{if_some}
use Rattle.kallsyms.specs.Fields.{separates, fields}
use Rattle.kallsyms.proofs.Fielded.{no_word, ends_word, begins}
use Rattle.kallsyms.proofs.fields.field_after.Goals as goal

pub returns-in_err-gap : goal.returns-in_err-gap
returns-in_err-gap c =
    let from = c.args.from in
    let first = IsFirst-from_position _ _ _ (λ b. separates b ≡ false) (λ b. separates b ≡ true) c.position.ensures.ran (YieldsList-from_slice _ c.iter.ensures.rest) (λ x q k. search (rules, tests)) (λ x q k. search (rules, tests)) in
    rw c.from_residual.ensures (ap (fields from) (sym (take_rest c.args.line.now from)) ∙ no_word _ from (MatchOption-at_none _ _ c.in_err-gap.was first))

pub returns : goal.returns
returns c =
    let l = c.args.line.now in
    let from = c.args.from in
    let gap = c.in_ok-gap.gap in
    let tail = take (length l - from) (drop from l) in
    let first = if_some _ _ _ c.in_ok-gap.was (IsFirst-from_position _ _ _ (λ b. separates b ≡ false) (λ b. separates b ≡ true) c.position.ensures.ran (YieldsList-from_slice _ c.iter.ensures.rest) (λ x q k. search (rules, tests)) (λ x q k. search (rules, tests))) in
    let word = ends_word _ _ _ c.unwrap_or-len.ensures (IsFirst-from_position _ _ _ (λ b. separates b ≡ true) (λ b. separates b ≡ false) c.position-2.ensures.ran (YieldsList-from_slice _ c.iter-2.ensures.rest) (λ x q k. search (rules, tests)) (λ x q k. search (rules, tests))) in
    begins l tail _ from gap _ (take_rest l from) (take_rest tail gap) c.requires first.0 first.1 first.2 word
