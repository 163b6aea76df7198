-- Tried without: the check leaves these goals open.
use Rattle.model.proofs.Fixes.{fixup_leaves_other_rows}
use Rattle.model.proofs.laws.fixup_leaves_other_rows.Goals as goal

pub returns : goal.returns
returns c = fixup_leaves_other_rows
