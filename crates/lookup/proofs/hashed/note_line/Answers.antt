-- Tried without: the check leaves these goals open.
use Rattle.std.proofs.Common.{◌≡◌, rules}
use Rattle.kallsyms.specs.Address.{address}
use Rattle.kallsyms.specs.Fields.{field}
use Rattle.lookup.specs.After.{after}
use Rattle.lookup.proofs.Noting.{hash_notes_from_update}
use Rattle.lookup.proofs.hashed.note_line.Goals as goal

pub returns-in-Some-get_mut : goal.returns-in-Some-get_mut
returns-in-Some-get_mut c =
    let said = c.in-Some-get_mut.sighting.now in
    let written = c.get_mut.follows.holds c.after.result in
    let name : c.name.result.bytes.now ≡ (field 2 c.args.line.now).bytes = rw (← c.in-Some.ensures.1) c.name.ensures.shown.1 in
    let noted : c.after.result ≡ after c.args.line_number (address (field 0 c.args.line.now).bytes) said = cc (c.address.ensures.shown.1, c.in-Some.ensures.1) in
    hash_notes_from_update c.args.line_number c.args.line.now c.name.result.bytes.now said c.args.sightings.now (c.get_mut.follows.lender c.after.result)
    c.in-Some.ensures.0 name (cc c.in-Some-get_mut.ensures.value) written.1 (rw (← noted) (written.3 (search rules)))
