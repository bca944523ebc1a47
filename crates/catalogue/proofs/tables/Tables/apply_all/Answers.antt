use Rattle.std.proofs.Common.{◌≡◌, sym, ◌∙◌, subst, arith}
use Rattle.std.proofs.lemmas.List.{get_or_read}
use Rattle.logic.specs.Axioms.{In, AllInRange}
use Rattle.logic.specs.Records.{says}
use Rattle.logic.specs.Tables.{Asks}
use Rattle.logic.proofs.Saying.{said_at, all_said}
use Rattle.catalogue.specs.Climbing.{held}
use Rattle.catalogue.proofs.Rising.{terms_stay, raises_fewer, turns_more}
use Rattle.catalogue.proofs.tables.Tables.apply_all.Goals as goal

pub apply-rose-requires : goal.apply-rose-requires
apply-rose-requires g c =
    let t = c.loop-card in
    let card = c.card-item in
    record { ranges = subst (λ s. AllInRange s.n s.k (says card.result)) (sym t.invariant.raises.stays.size) (λ a i. c.args.self.now.ranges a (said_at c.args.self.now.cards.now t.card-index card.result c.loop-card-test.true card.is a i)) }

pub loop-card-preserved : goal.loop-card-preserved
loop-card-preserved g c =
    let t = c.loop-card in
    let card = c.card-item in
    let up = c.apply-rose.ensures in
    turns_more g.met.S.Scale.laws t.invariant (raises_fewer g.met.S.Scale.laws (said_at c.args.self.now.cards.now t.card-index card.result c.loop-card-test.true card.is) up.raises)
    (λ e d at a i x h.
    let same : d ≡ card.result = at ∙ sym (get_or_read c.args.self.now.cards.now t.card-index card.result c.loop-card-test.true card.is d) in
    let n = terms_stay up.raises.stays in up.met e a (subst (λ z. In a (says z)) same i) x (omega arith))

pub returns : goal.returns
returns g c =
    let t = c.loop-card in
    record {
      raises = t.invariant.raises;
      met = λ e a i x h.
          let n = terms_stay t.invariant.raises.stays in
          all_said (λ b. Asks g.S.Scale.order t.self.size.n (held g.S.Scale.order t.self) b x) c.args.self.now.cards.now (λ j card lt at b s. t.invariant.met e j (omega arith) card at b s x (omega arith)) a i;
    }
