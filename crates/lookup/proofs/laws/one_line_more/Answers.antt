-- Tried without: the check leaves these goals open.
use Rattle.std.proofs.Common.{refl}
use Rattle.kallsyms.specs.Address.{address}
use Rattle.kallsyms.specs.Fields.{field}
use Rattle.lookup.proofs.Saying.{more}
use Rattle.lookup.proofs.laws.one_line_more.Goals as goal

pub returns : goal.returns
returns c ls l name s h y = more ls l name h (address (field 0 l).bytes) refl s y
