use Rattle.std.proofs.Common.{refl}
use Rattle.scale.specs.Order.{lower}
use Rattle.logic.specs.Axioms.{from}
use Rattle.logic.specs.Derivations.{pair, link, by_from}
use Rattle.catalogue.specs.Climbing.{held}
use Rattle.catalogue.proofs.Applying.{rule}
use Rattle.catalogue.proofs.tables.Tables.apply_from.Goals as goal

pub returns : goal.returns
returns g c =
    let C = g.S.Scale.order in
    let a = c.args in
    let x = c.requires.term in
    let (hr, ha, hb) = c.requires.inside in
    rule g.met.S.Scale.laws (from a.r a.a a.b a.mark) a.x (λ t. lower C (held C t (link a.x a.r a.a)) a.mark) (pair a.x a.b) (λ t h. h) refl (x, hb) (λ axioms i d. by_from i (d (link a.x a.r a.a) (x, hr, ha))) c.carry.ensures
