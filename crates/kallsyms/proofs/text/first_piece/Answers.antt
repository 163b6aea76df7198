-- Tried without: the check leaves these goals open.
use Rattle.std.proofs.Common.{arith}
use Rattle.std.proofs.lemmas.Bool.{eq-eqb, eqb-true}
use Rattle.kallsyms.proofs.Pieced.{piece_found}
use Rattle.kallsyms.proofs.text.first_piece.Goals as goal

pub returns-in-Some : goal.returns-in-Some
returns-in-Some c =
    let first = c.in-Some.ensures in
    record { cut = piece_found _ _ _ first.0.high (λ k lt e. first.0.before k (omega arith) lt (eq-eqb _ 10 e)) (eqb-true _ 10 first.1) c.stripped.ensures }
