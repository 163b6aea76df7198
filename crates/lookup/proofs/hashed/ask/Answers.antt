-- Tried without: the check leaves these goals open.
use Rattle.std.proofs.lemmas.Map.Text.{hash_map_updates_str}
use Rattle.lookup.proofs.hashed.ask.Goals as goal

pub returns : goal.returns
returns c = hash_map_updates_str c.args.name.now c.args.sightings.now c.insert.new.self _ c.in_ok-insert.ensures.updates
