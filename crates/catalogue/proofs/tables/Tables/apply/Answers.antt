use Rattle.catalogue.proofs.Rising.{turns_more}
use Rattle.catalogue.proofs.tables.Tables.apply.Goals as goal

pub loop-x-preserved : goal.loop-x-preserved
loop-x-preserved g c = turns_more g.met.S.Scale.laws c.loop-x.invariant c.apply_at-rose.ensures.raises c.apply_at-rose.ensures.met
