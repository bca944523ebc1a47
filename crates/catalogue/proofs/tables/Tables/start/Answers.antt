use Rattle.std.proofs.Common.{sym, subst, arith}
use Rattle.logic.specs.Derivations.{Derives, start}
use Rattle.catalogue.proofs.Rising.{stays_not, terms_stay}
use Rattle.catalogue.proofs.Starting.{started_more}
use Rattle.catalogue.proofs.tables.Tables.start.Goals as goal

pub loop-x-init : goal.loop-x-init
loop-x-init g c =
    let t = c.clear.new.self in
    (stays_not t, λ axioms d h. subst (Derives g.S.Scale.order t.size.n t.size.k axioms d) (sym (c.clear.ensures.lowest d h)) (start d h), λ X h. absurd (omega arith))

pub loop-x-preserved : goal.loop-x-preserved
loop-x-preserved g c =
    started_more g.met.S.Scale.laws c.clear.new.self c.loop-x.self c.raise.new.self c.raise-in-loop-x.new.self c.loop-x.x c.highest.result c.highest-in-loop-x.result c.raise.result c.raise-in-loop-x.result
    (let n = terms_stay c.clear.ensures.stays in let h = c.loop-x-test.true in omega arith) c.highest.ensures c.highest-in-loop-x.ensures c.raise.ensures c.raise-in-loop-x.ensures c.loop-x.invariant
