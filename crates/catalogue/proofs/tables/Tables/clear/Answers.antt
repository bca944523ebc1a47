use Rattle.std.proofs.Common.{replicate, ap, ◌∙◌}
use Rattle.catalogue.proofs.Starting.{all_low}
use Rattle.catalogue.proofs.tables.Tables.clear.Goals as goal

pub returns-clause-lowest : goal.returns-clause-lowest
returns-clause-lowest g c =
    let t = c.args.self.now in
    all_low g.S.Scale.order t.size.n t.size.k _ _ c.lowest.result c.lowest-2.result c.lowest.ensures c.lowest-2.ensures
    (c.fill.ensures ∙ ap (λ n. replicate n c.lowest.result) t.pairs_fit) (c.fill-2.ensures ∙ ap (λ n. replicate n c.lowest-2.result) t.links_fit)
