use Rattle.std.proofs.Common.{arith}
use Rattle.logic.specs.Axioms.{chain}
use Rattle.catalogue.proofs.Rising.{terms_stay, turns_more}
use Rattle.catalogue.proofs.Applying.{applies_one}
use Rattle.catalogue.proofs.tables.Tables.apply_chain.Goals as goal

pub loop-y-preserved : goal.loop-y-preserved
loop-y-preserved g c =
    let up = c.chain_over-rose.ensures in
    turns_more g.met.S.Scale.laws c.loop-y.invariant up.raises (λ e z h. let n = terms_stay up.raises.stays in up.met e z (omega arith))

pub returns : goal.returns
returns g c =
    let a = c.args in
    let t = c.loop-y.invariant in
    applies_one g.met.S.Scale.laws (chain a.r a.q a.s a.mark) a.x t.raises (λ e y h. let n = terms_stay t.raises.stays in t.met e y (omega arith))
