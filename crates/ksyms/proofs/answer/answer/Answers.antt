-- Tried without: the check leaves this goal open.
use Rattle.std.proofs.Common.{◌≡◌, string_bytes}
use Rattle.std.proofs.lemmas.Result.{IfOk-weaker}
use Rattle.ksyms.specs.Answers.{answer_text, Answers}
use Rattle.ksyms.proofs.Answered.{answered}
use Rattle.ksyms.proofs.answer.answer.Goals as goal

pub returns : goal.returns
returns c =
    let bytes = c.args.bytes.now in
    let names = c.args.names.now in
    let reading = c.in_ok-tolds.reading in
    IfOk-weaker c.answer_text.result (λ s. string_bytes s ≡ answer_text c.deref.result.now reading.lines reading.end) (λ s. Answers bytes names (string_bytes s))
    (λ s written. answered bytes names reading c.in_ok-tolds.tolds.items c.deref.result.now (string_bytes s) c.in_ok-tolds.ensures c.deref.ensures.value written)
    c.answer_text.ensures
