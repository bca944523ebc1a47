use mathlib.Core.List.Memᴰ
use Rattle.catalogue.proofs.Rising.{raises_more, raises_fewer}
use Rattle.catalogue.proofs.tables.Tables.sweep.Goals as goal

pub returns-clause-raises : goal.returns-clause-raises
returns-clause-raises g c =
    let laws = g.met.S.Scale.laws in
    raises_more laws c.apply_all-applied.ensures.raises (raises_fewer laws (λ a i. absurd (Memᴰ.not-nil i)) c.spread-spread.ensures.raises)
