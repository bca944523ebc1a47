use Rattle.catalogue.proofs.Rising.{turns_more}
use Rattle.catalogue.proofs.tables.Tables.spread_link.Goals as goal

pub loop-y-preserved : goal.loop-y-preserved
loop-y-preserved g c = turns_more g.met.S.Scale.laws c.loop-y.invariant c.spread_at-rose.ensures.raises c.spread_at-rose.ensures.met
