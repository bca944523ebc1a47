use Rattle.std.proofs.Common.{arith}
use Rattle.catalogue.proofs.Rising.{terms_stay, turns_more}
use Rattle.catalogue.proofs.tables.Tables.spread_term.Goals as goal

pub loop-r-preserved : goal.loop-r-preserved
loop-r-preserved g c =
    let up = c.spread_link-rose.ensures in
    turns_more g.met.S.Scale.laws c.loop-r.invariant up.raises (λ e y h. let n = terms_stay up.raises.stays in up.met e y (omega arith))
