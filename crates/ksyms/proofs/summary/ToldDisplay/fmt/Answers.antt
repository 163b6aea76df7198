-- Tried without: the check leaves these goals open.
use Rattle.ksyms.proofs.summary.ToldDisplay.fmt.Goals as goal

pub returns-in-TwoAddresses-clause-writes : goal.returns-in-TwoAddresses-clause-writes
returns-in-TwoAddresses-clause-writes g c = simp c.in-TwoAddresses.is c.write-in-TwoAddresses.ensures.writes

pub returns-in-Unreadable-clause-writes : goal.returns-in-Unreadable-clause-writes
returns-in-Unreadable-clause-writes g c = simp c.in-Unreadable.is c.write-in-Unreadable.ensures.writes
