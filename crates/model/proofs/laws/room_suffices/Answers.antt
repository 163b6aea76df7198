-- Tried without: the check leaves these goals open.
use Rattle.model.proofs.Whole.{room_suffices}
use Rattle.model.proofs.laws.room_suffices.Goals as goal

pub returns : goal.returns
returns c = room_suffices
