use Rattle.std.proofs.Common.{◌≡◌, ℕ, cond, ltb, get_or}
use Rattle.lookup.specs.Rows.{noted, name_at}
use Rattle.lookup.specs.declared.sighting.Sighting.TheVariants.{Unlisted}
use Rattle.lookup.proofs.rows.note_rows.Given as goal

abbrev pub invariant-loop-i : goal.invariant-loop-i
invariant-loop-i l =
    (k : ℕ)
    → get_or l.sightings k Unlisted ≡ cond (ltb k l.i) (noted l.line_number l.line (name_at l.names k) (get_or l.initial.sightings k Unlisted)) (get_or l.initial.sightings k Unlisted)
