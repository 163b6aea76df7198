-- Tried without: the check leaves this goal open.
use Rattle.std.proofs.Common.{◌≡◌, length, ap, ◌∙◌, arith}
use Rattle.lookup.specs.Index.{spot_of}
use Rattle.lookup.proofs.Chaining.{last_found}
use Rattle.lookup.proofs.index.Index.last_like.Goals as goal

pub returns : goal.returns
returns c =
    let index = c.args.self.now in
    let whole : c.len.result ≡ length index.last.items = c.len.ensures ∙ index.last.ok.0 in
    last_found index.names.now index.last.items index.before.items c.args.name.now c.spot.result c.index.result.now index.indexes
    (c.spot.ensures.value ∙ ap (λ n. spot_of n c.args.name.now) whole) (omega (arith, c.spot.ensures.bound, whole)) c.index.ensures
