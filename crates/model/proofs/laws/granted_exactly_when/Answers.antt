-- Tried without: the check leaves these goals open.
use Rattle.model.proofs.Whole.{granted_exactly_when}
use Rattle.model.proofs.laws.granted_exactly_when.Goals as goal

pub returns : goal.returns
returns c = granted_exactly_when
