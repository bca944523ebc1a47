use Rattle.std.proofs.Common.{refl, arith}
use mathlib.Core.List.Memᴰ
use Rattle.scale.specs.Order.{lower}
use Rattle.logic.specs.Axioms.{under}
use Rattle.logic.specs.Derivations.{link, by_under}
use Rattle.catalogue.specs.Climbing.{held}
use Rattle.catalogue.proofs.Rising.{within_stays, terms_stay, turns_raised}
use Rattle.catalogue.proofs.Applying.{applies_one}
use Rattle.catalogue.proofs.tables.Tables.apply_under.Goals as goal

pub loop-y-preserved : goal.loop-y-preserved
loop-y-preserved g c =
    let C = g.S.Scale.order in
    let a = c.args in
    let t = c.loop-y in
    let x = c.requires.term in
    let (hr, hs) = c.requires.inside in
    let y = c.loop-y-test.true in
    let from = link a.x a.r t.y in
    turns_raised g.met.S.Scale.laws (λ z. lower C (held C z from) a.mark) (link a.x a.s t.y) t.y (λ z h. h) t.invariant refl (x, hs, y)
    (λ axioms i d. by_under (i _ (Memᴰ.head refl)) (d from (within_stays from t.invariant.raises.stays (x, hr, y)))) c.carry-rose.ensures

pub returns : goal.returns
returns g c =
    let a = c.args in
    let t = c.loop-y.invariant in
    applies_one g.met.S.Scale.laws (under a.r a.s a.mark) a.x t.raises (λ e y h. let n = terms_stay t.raises.stays in t.met e y (omega arith))
