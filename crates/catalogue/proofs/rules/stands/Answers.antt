use Rattle.std.proofs.Common.{◌||◌, refl, ◌∙◌, rules, tests}
use Rattle.std.specs.List.{list_any}
use Rattle.std.proofs.lemmas.Iterator.{YieldsList-from_slice}
use Rattle.std.proofs.lemmas.Iterator.Search.{any_from_yields_List}
use Rattle.std.proofs.lemmas.List.Recursion.{same_from_clauses}
use Rattle.logic.specs.Statements.{statement_of, same, stands}
use Rattle.catalogue.proofs.rules.stands.Goals as goal

pub returns : goal.returns
returns g c =
    let s = c.args.statement in
    any_from_yields_List (λ card. same s (statement_of card)) _ _ _ c.any.ensures.ran (YieldsList-from_slice c.args.standing.now cc) (λ x b q k. search (rules, tests))
    ∙ same_from_clauses (list_any (λ card. same s (statement_of card))) (stands s) (λ card found. same s (statement_of card) || found) refl (λ _ _. refl) (λ _ _. refl) c.args.standing.now
