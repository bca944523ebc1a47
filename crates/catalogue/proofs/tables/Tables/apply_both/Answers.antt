use Rattle.std.proofs.Common.{ap, ◌∙◌}
use Rattle.scale.specs.Order.{lower}
use Rattle.logic.specs.Axioms.{both}
use Rattle.logic.specs.Derivations.{pair, by_both}
use Rattle.catalogue.specs.Climbing.{held}
use Rattle.catalogue.proofs.Applying.{rule}
use Rattle.catalogue.proofs.tables.Tables.apply_both.Goals as goal

pub returns : goal.returns
returns g c =
    let C = g.S.Scale.order in
    let a = c.args in
    let x = c.requires.term in
    let (ha, hb, hc) = c.requires.inside in
    rule g.met.S.Scale.laws (both a.a a.b a.c a.mark) a.x (λ t. lower C (lower C (held C t (pair a.x a.a)) (held C t (pair a.x a.b))) a.mark) (pair a.x a.c) (λ t h. h)
    (c.lower.ensures.value ∙ ap (λ m. lower C m a.mark) (c.lower-known.ensures.value ∙ λ i. lower C (c.look-first.ensures i) (c.look-second.ensures i)))
    (x, hc)
    (λ axioms i d. by_both i (d (pair a.x a.a) (x, ha)) (d (pair a.x a.b) (x, hb))) c.raise.ensures
