-- Tried without: the check leaves this goal open.
use Rattle.std.proofs.Common.{◌≡◌, length, ap, subst, ◌∙◌}
use Rattle.std.proofs.lemmas.List.{length-replicate}
use Rattle.kallsyms.specs.Cut.{lines_from}
use Rattle.lookup.specs.Rows.{Filled}
use Rattle.lookup.specs.declared.sighting.Sighting.TheVariants.{Unlisted}
use Rattle.ksyms.specs.Tells.{Tells}
use Rattle.ksyms.proofs.Answered.{finds}
use Rattle.ksyms.proofs.answer.found_of.Goals as goal

pub returns : goal.returns
returns c =
    let names = c.args.names.now in
    let found = c.look_up-reading.ensures.found in
    let made = c.in_ok-rows.ensures in
    let rows = c.look_up-reading.new.names.sightings.items in
    let all : length rows ≡ length names = found.names.rows ∙ ap length made.sightings ∙ length-replicate (length names) Unlisted in
    let held = subst (λ ns. Filled ns (lines_from c.new.result.line c.new.result.rest.now) rows) (found.names.names ∙ made.names) found.says in
    finds c.args.bytes.now names c.new.result.line c.new.result.rest.now rows c.look_up-reading.result c.in_ok-tolds.tolds.items
    c.new.ensures.rest c.new.ensures.line all held found.count found.end (subst (λ ss. Tells names ss c.in_ok-tolds.tolds.items) (c.deref.ensures.value ∙ c.into_sightings-sightings.ensures) c.in_ok-tolds.ensures)
