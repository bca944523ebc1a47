use Rattle.catalogue.proofs.Rising.{turns_more}
use Rattle.catalogue.proofs.tables.Tables.widen.Goals as goal

pub loop-z-preserved : goal.loop-z-preserved
loop-z-preserved g c = turns_more g.met.S.Scale.laws c.loop-z.invariant c.widen_to-rose.ensures.raises c.widen_to-rose.ensures.met
