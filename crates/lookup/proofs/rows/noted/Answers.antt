-- Tried without: the check leaves these goals open.
use Rattle.std.proofs.Common.{sym, ap, ◌∙◌}
use Rattle.std.proofs.lemmas.Slice.Eq.{slice_eq-Decides}
use Rattle.std.proofs.lemmas.Bool.Decides.{not_from_Decides, Decides-eqb}
use Rattle.kallsyms.specs.Address.{address}
use Rattle.lookup.specs.After.{after}
use Rattle.lookup.proofs.RowNoting.{noted_listed, noted_other}
use Rattle.lookup.proofs.rows.noted.Goals as goal

pub returns-then-eq : goal.returns-then-eq
returns-then-eq c =
    let same = (slice_eq-Decides Decides-eqb _ _ _ c.eq.ensures).0 c.if-eq.true in
    c.after.ensures
    ∙ ap (λ a. after c.args.line_number a c.args.sighting) (c.read_address.ensures ∙ ap address c.address.ensures.shown.1)
    ∙ sym (noted_listed c.args.line_number c.args.fields.now.line.now c.args.name.now c.args.sighting c.requires (sym (same ∙ c.name.ensures.shown.1)))

pub returns-else-eq : goal.returns-else-eq
returns-else-eq c =
    sym (noted_other c.args.line_number c.args.fields.now.line.now c.args.name.now c.args.sighting (λ e. not_from_Decides _ (slice_eq-Decides Decides-eqb _ _ _ c.eq.ensures) c.if-eq.false (sym (c.name.ensures.shown.1 ∙ e))))
