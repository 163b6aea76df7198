-- Tried without: the check leaves these goals open.
use Rattle.std.proofs.Common.{sym, ◌∙◌}
use Rattle.kallsyms.proofs.Addressed.{no_room}
use Rattle.kallsyms.proofs.address.read_address.Goals as goal

pub returns-in_err-value : goal.returns-in_err-value
returns-in_err-value c =
    c.from_residual-in_err-value.ensures
    ∙ no_room c.unsigned-digits.result.now c.loop-b.b-index c.loop-b.value c.loop-b-test.true c.digit.result c.digit.ensures c.in_ok-digit.field-0 c.in_ok-digit.was (sym c.with_digit.ensures ∙ c.in_err-value.was)
    ∙ c.loop-b.invariant.0
