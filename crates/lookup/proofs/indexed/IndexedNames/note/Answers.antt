-- Tried without: the check leaves this goal open.
use Rattle.std.proofs.Common.{◌≡◌, ℕ, min, cond, ltb, List, [], ◌∷◌, ◌++◌, length, get_or, sym, ap, subst, ◌∙◌}
use Rattle.std.proofs.lemmas.List.{with_items_is}
use Rattle.lookup.specs.Rows.{noted, name_at, Filled}
use Rattle.lookup.specs.declared.sighting.Sighting.{Sighting}
use Rattle.lookup.specs.declared.sighting.Sighting.TheVariants.{Unlisted}
use Rattle.lookup.proofs.RowSaying.{rows_say}
use Rattle.lookup.proofs.indexed.IndexedNames.note.Goals as goal

pub returns-clause-says : goal.returns-clause-says
returns-clause-says c ls n held =
    let names = c.args.self.now.index.names.now in
    let old = c.args.self.now.sightings in
    let new = c.note_found.new.sightings in
    let Notes : List Sighting → Type 0 =
    λ xs. (k : ℕ) → get_or new k Unlisted ≡ cond (ltb k (min (length names) (length xs))) (noted c.args.line_number c.args.line.now (name_at names k) (get_or xs k Unlisted)) (get_or xs k Unlisted) in
    let len : length new ≡ length old.items = c.note_found.ensures.len ∙ ap length c.deref_mut.ensures.value in
    subst (Filled names (ls ++ c.args.line.now ∷ [])) (sym (with_items_is old new (c.note_found.ensures.len ∙ c.deref_mut.ensures.len)))
    (rows_say names old.items new ls c.args.line.now c.args.line_number n len (subst Notes c.deref_mut.ensures.value c.note_found.ensures.noted) held)
