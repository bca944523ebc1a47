use Rattle.std.proofs.Common.{[], ap}
use Rattle.scale.specs.Order.{lower}
use Rattle.logic.specs.Derivations.{pair, link, widen}
use Rattle.catalogue.specs.Climbing.{held}
use Rattle.catalogue.proofs.Rising.{raises_none, raises_one}
use Rattle.catalogue.proofs.tables.Tables.widen_to.Goals as goal

pub returns-then-z : goal.returns-then-z
returns-then-z g c = record { raises = raises_none g.met.S.Scale.laws [] c.args.self.now; met = λ e ne. absurd (ne c.if-z.true) }

pub returns : goal.returns
returns g c =
    let C = g.S.Scale.order in
    let a = c.args in
    let (hx, hr, hy) = c.requires.link in
    let hz = c.requires.term in
    let known = link a.x a.r a.y in
    let one = raises_one g.met.S.Scale.laws [] (λ t. lower C (held C t known) (held C t (pair a.y a.z))) (link a.x a.r a.z)
    (ap (λ m. lower C (held C a.self.now known) m) c.look-above.ensures) (hx, hr, hz) (λ axioms i d. widen c.if-z.false (d known (hx, hr, hy)) (d (pair a.y a.z) (hy, hz))) c.carry.ensures in
    record { raises = one.0; met = λ e ne. one.1 e }
