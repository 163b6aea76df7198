-- Tried without: the check leaves these goals open.
use Rattle.std.proofs.Common.{rules}
use Rattle.std.proofs.lemmas.Map.Made.{map_same_pairs}
use Rattle.lookup.specs.declared.sighting.Sighting.TheVariants.{Unlisted}
use Rattle.lookup.proofs.Noting.{all_unlisted_in}
use Rattle.lookup.proofs.hashed.unlist.Goals as goal

pub returns : goal.returns
returns c =
    let entries = map_same_pairs _ (λ _. Unlisted) _ (λ k v b w f' t. search rules) c.args.sightings.now.entries c.retain.new.self.entries c.retain.ensures.filtered in
    let cleared = all_unlisted_in c.args.sightings.now c.retain.new.self entries in
    record { names = cleared.0; says = cleared.1 }
