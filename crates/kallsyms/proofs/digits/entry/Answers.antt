-- Tried without: the check leaves these goals open.
use Rattle.std.proofs.Common.{arith}
use Rattle.std.proofs.lemmas.List.FromFn.{get_or-map-range_with_len}
use Rattle.kallsyms.specs.Address.{digit, entry}
use Rattle.kallsyms.proofs.digits.entry.Goals as goal

-- the whole table is the rule at 0 to 255
pub returns : goal.returns
returns c = get_or-map-range_with_len (λ b. entry (digit b)) 0 256 c.args.b c.args.b 0 (omega arith) (omega arith)
