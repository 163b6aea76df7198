-- Tried without: the check leaves these goals open.
use Rattle.model.proofs.Named.{names_end_at_zero}
use Rattle.model.proofs.laws.names_end_at_zero.Goals as goal

pub returns : goal.returns
returns c = names_end_at_zero
