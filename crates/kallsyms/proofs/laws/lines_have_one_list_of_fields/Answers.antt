-- Tried without: the check leaves these goals open.
use Rattle.kallsyms.proofs.FieldLaws.{one_list}
use Rattle.kallsyms.proofs.laws.lines_have_one_list_of_fields.Goals as goal

pub returns : goal.returns
returns c = one_list
