use Rattle.std.proofs.Common.{◌≡◌, ◌^◌, ◌<◌, drop}
use Rattle.kallsyms.specs.Address.{digits, limited, address}
use Rattle.kallsyms.proofs.address.read_address.Given as goal

abbrev pub invariant-loop-b : goal.invariant-loop-b
invariant-loop-b l =
    (limited (digits l.value (drop l.b-index l.digits)) ≡ address l.field)
    × (l.value < 2 ^ 64)
