use Rattle.std.proofs.Common.{refl}
use Rattle.scale.specs.Order.{lower}
use Rattle.logic.specs.Axioms.{is}
use Rattle.logic.specs.Derivations.{pair, by_is}
use Rattle.catalogue.specs.Climbing.{held}
use Rattle.catalogue.proofs.Applying.{rule}
use Rattle.catalogue.proofs.tables.Tables.apply_is.Goals as goal

pub returns : goal.returns
returns g c =
    let C = g.S.Scale.order in
    let a = c.args in
    let x = c.requires.term in
    let (ha, hb) = c.requires.inside in
    rule g.met.S.Scale.laws (is a.a a.b a.mark) a.x (λ t. lower C (held C t (pair a.x a.a)) a.mark) (pair a.x a.b) (λ t h. h) refl (x, hb) (λ axioms i d. by_is i (d (pair a.x a.a) (x, ha))) c.carry.ensures
