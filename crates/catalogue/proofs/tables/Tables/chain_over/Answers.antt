use Rattle.std.proofs.Common.{refl, ap, ◌∙◌}
use mathlib.Core.List.Memᴰ
use Rattle.scale.specs.Order.{lower}
use Rattle.logic.specs.Derivations.{link, by_chain}
use Rattle.catalogue.specs.Climbing.{held}
use Rattle.catalogue.proofs.Rising.{within_stays, turns_raised}
use Rattle.catalogue.proofs.tables.Tables.chain_over.Goals as goal

pub loop-z-preserved : goal.loop-z-preserved
loop-z-preserved g c =
    let C = g.S.Scale.order in
    let a = c.args in
    let t = c.loop-z in
    let (x, y) = c.requires.terms in
    let (hr, hq, hs) = c.requires.inside in
    let z = c.loop-z-test.true in
    let still = t.invariant.raises.stays in
    let near = link a.x a.r a.y in
    let far = link a.y a.q t.z in
    turns_raised g.met.S.Scale.laws (λ u. lower C (lower C (held C u near) (held C u far)) a.mark) (link a.x a.s t.z) t.z (λ u h. h) t.invariant
    (c.lower.ensures.value ∙ ap (λ m. lower C m a.mark) (c.lower-known.ensures.value ∙ λ i. lower C (c.look-near.ensures i) (c.look-far.ensures i)))
    (x, hs, z) (λ axioms i d. by_chain (i _ (Memᴰ.head refl)) (d near (within_stays near still (x, hr, y))) (d far (within_stays far still (y, hq, z)))) c.raise-rose.ensures
