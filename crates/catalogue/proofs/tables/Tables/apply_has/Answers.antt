use Rattle.std.proofs.Common.{refl}
use Rattle.scale.specs.Order.{lower}
use Rattle.logic.specs.Axioms.{has}
use Rattle.logic.specs.Derivations.{pair, link, by_has}
use Rattle.catalogue.specs.Climbing.{held}
use Rattle.catalogue.proofs.Applying.{rule}
use Rattle.catalogue.proofs.tables.Tables.apply_has.Goals as goal

pub returns : goal.returns
returns g c =
    let C = g.S.Scale.order in
    let a = c.args in
    let x = c.requires.term in
    let (ha, hr, hb) = c.requires.inside in
    rule g.met.S.Scale.laws (has a.a a.r a.b a.mark) a.x (λ t. lower C (held C t (pair a.x a.a)) a.mark) (link a.x a.r a.b) (λ t h. h) refl (x, hr, hb) (λ axioms i d. by_has i (d (pair a.x a.a) (x, ha))) c.carry.ensures
