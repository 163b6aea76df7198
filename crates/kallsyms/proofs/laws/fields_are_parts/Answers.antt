-- Tried without: the check leaves these goals open.
use Rattle.kallsyms.proofs.FieldLaws.{fields_parts}
use Rattle.kallsyms.proofs.laws.fields_are_parts.Goals as goal

pub returns : goal.returns
returns c = fields_parts
