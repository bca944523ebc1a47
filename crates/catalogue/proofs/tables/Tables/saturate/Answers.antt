use Rattle.std.proofs.Common.{sym, ◌∙◌, subst}
use Rattle.logic.specs.Axioms.{AllInRange}
use Rattle.logic.specs.Records.{axioms}
use Rattle.logic.specs.Tables.{Saturated}
use Rattle.catalogue.specs.Climbing.{held, Derived, Settled}
use Rattle.catalogue.proofs.Rising.{stays_more}
use Rattle.catalogue.proofs.Settling.{swept, settled_saturated}
use Rattle.catalogue.proofs.tables.Tables.saturate.Goals as goal

pub loop-preserved : goal.loop-preserved
loop-preserved g c =
    let t = c.loop.invariant in
    let up = c.sweep.ensures.raises in
    let (rise, tops) = swept g.met.S.Scale.laws c.start.new.self.cards.now t.stays.cards up t.derived t.tops in
    record { stays = stays_more t.stays up.stays; derived = rise.derived; tops = tops }

pub loop-smaller : goal.loop-smaller
loop-smaller g c =
    let t = c.loop.invariant in
    (swept g.met.S.Scale.laws c.start.new.self.cards.now t.stays.cards c.sweep.ensures.raises t.derived t.tops).0.falls c.loop-test.true

pub returns-clause-saturated : goal.returns-clause-saturated
returns-clause-saturated g c =
    let C = g.S.Scale.order in
    let t = c.loop.invariant in
    let up = c.sweep.ensures.raises in
    let new = c.sweep.new.self in
    let cards = t.stays.cards ∙ c.start.ensures.stays.cards in
    let (rise, tops) = swept g.met.S.Scale.laws c.start.new.self.cards.now t.stays.cards up t.derived t.tops in
    let derived = subst (λ l. Derived C (axioms l) new) c.start.ensures.stays.cards rise.derived in
    let settled = subst (λ l. Settled C (axioms l) new) cards (c.sweep.ensures.settled c.loop-test.false) in
    let size = up.stays.size ∙ t.stays.size ∙ c.start.ensures.stays.size in
    let all = axioms c.args.self.now.cards.now in
    let ranges = subst (λ s. AllInRange s.n s.k all) (sym size) c.args.self.now.ranges in
    subst (λ s. Saturated C s.n s.k all (held C new)) size (settled_saturated g.met.S.Scale.laws new ranges derived tops settled)
