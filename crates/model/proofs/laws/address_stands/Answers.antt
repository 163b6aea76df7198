-- Tried without: the check leaves these goals open.
use Rattle.model.proofs.Whole.{address_stands}
use Rattle.model.proofs.laws.address_stands.Goals as goal

pub returns : goal.returns
returns c = address_stands
