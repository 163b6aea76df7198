-- Tried without: the check leaves these goals open.
use Rattle.std.proofs.Common.{rules, ◌≡◌, None, length, replicate, get_or, sym, ap, ◌∙◌, arith}
use Rattle.std.proofs.lemmas.List.{get_or_default}
use Rattle.lookup.proofs.RowNoting.{name_read}
use Rattle.lookup.proofs.Chaining.{chained_none, chained_more, chained_all}
use Rattle.lookup.specs.Index.{spot_of}
use Rattle.lookup.specs.Rows.{name_at}
use Rattle.lookup.proofs.index.Index.of.Goals as goal

pub loop-i-init : goal.loop-i-init
loop-i-init c =
    let spots = c.spots_for-spots.result in
    let none : c.in_ok-last.last.items ≡ replicate spots None = c.in_ok-last.ensures.items_if_clones_equal (λ y h. search rules) in
    rw none (rw c.in_ok-before.ensures.items (chained_none c.args.names.now spots))

pub loop-i-preserved : goal.loop-i-preserved
loop-i-preserved c =
    let names = c.args.names.now in
    let spots = c.spots_for-spots.result in
    let i = c.loop-i.i in
    let name = c.as_bytes.ensures.value ∙ sym (name_read names i c.index-names-i.result c.loop-i-test.true c.index-names-i.is) in
    let is : c.spot-spot.result ≡ spot_of spots (name_at names i) = c.spot-spot.ensures.value ∙ ap (spot_of spots) name in
    let there : c.index.result.now ≡ get_or c.loop-i.last.items c.spot-spot.result None = c.index.ensures ∙ get_or_default c.loop-i.last.items c.spot-spot.result c.index.result.now None (omega (arith, c.loop-i.invariant.size, c.spot-spot.ensures.bound)) in
    rw c.in_ok-push.ensures.items (chained_more names spots i c.loop-i.last.items c.loop-i.before.items c.loop-i.invariant c.spot-spot.result c.index.result.now is c.spot-spot.ensures.bound there)

pub invariant_of-result : goal.invariant_of-result
invariant_of-result c =
    let ends : c.loop-i.i ≡ length c.args.names.now = omega (arith, c.loop-i-test.false, c.loop-i.auto.i-end) in
    record { indexes = chained_all c.args.names.now c.spots_for-spots.result c.loop-i.i c.loop-i.last.items c.loop-i.before.items ends c.spots_for-spots.ensures c.loop-i.invariant }
