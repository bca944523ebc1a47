use Rattle.std.proofs.Common.{[], sym, ap, subst, arith}
use Rattle.std.proofs.lemmas.Bool.{or_parts}
use Rattle.scale.specs.Order.{AtMost, lower}
use Rattle.logic.specs.Axioms.{none}
use Rattle.logic.specs.Derivations.{pair, link, fall}
use Rattle.catalogue.specs.Climbing.{held}
use Rattle.catalogue.proofs.Rising.{terms_stay, raises_one, raises_more}
use Rattle.catalogue.proofs.tables.Tables.spread_at.Goals as goal

pub returns : goal.returns
returns g c =
    let C = g.S.Scale.order in
    let laws = g.met.S.Scale.laws in
    let a = c.args in
    let (hx, hr, hy) = c.requires in
    let two = a.self.now.size.limits.0 in
    let known = link a.x a.r a.y in
    let rose = c.carry-rose in
    let wide = c.widen-widened in
    let one = raises_one laws [] (λ t. lower C (held C t known) (held C t (pair a.y none))) (pair a.x none) (ap (λ m. lower C (held C a.self.now known) m) c.look-impossible.ensures) (hx, two)
    (λ axioms i d. fall (d known (hx, hr, hy)) (d (pair a.y none) (hy, two))) rose.ensures in
    record {
      raises = raises_more laws one.0 wide.ensures.raises;
      met = λ e.
          let (er, ew) = or_parts rose.result wide.result e in
          record {
            widens = λ z h. wide.ensures.met ew z (let n = terms_stay wide.ensures.raises.stays in omega arith);
            falls = subst (λ t. AtMost C (lower C (held C t known) (held C t (pair a.y none))) (held C t (pair a.x none))) (sym (wide.ensures.raises.still ew)) (one.1 er);
          };
    }
