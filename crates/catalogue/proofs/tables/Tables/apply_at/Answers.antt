use Rattle.std.proofs.Common.{refl}
use mathlib.Core.List.Memᴰ
use Rattle.logic.specs.declared.cards.Form.TheVariants.{Is, Both, Has, From, Under, Chain}
use Rattle.catalogue.proofs.Applying.{ranges_by_form}
use Rattle.catalogue.proofs.tables.Tables.apply_at.Goals as goal

pub apply_is-requires-clause-inside : goal.apply_is-requires-clause-inside
apply_is-requires-clause-inside g c =
    ranges_by_form c.args.card.now c.in-Ok.form Is c.from-first.result c.from-second.result c.from-third.result c.in-Ok.ensures c.in-Is.is c.from-first.ensures c.from-second.ensures c.from-third.ensures
    c.requires.ranges _ (Memᴰ.head refl)

pub apply_both-requires-clause-inside : goal.apply_both-requires-clause-inside
apply_both-requires-clause-inside g c =
    ranges_by_form c.args.card.now c.in-Ok.form Both c.from-first.result c.from-second.result c.from-third.result c.in-Ok.ensures c.in-Both.is c.from-first.ensures c.from-second.ensures c.from-third.ensures
    c.requires.ranges _ (Memᴰ.head refl)

pub apply_has-requires-clause-inside : goal.apply_has-requires-clause-inside
apply_has-requires-clause-inside g c =
    ranges_by_form c.args.card.now c.in-Ok.form Has c.from-first.result c.from-second.result c.from-third.result c.in-Ok.ensures c.in-Has.is c.from-first.ensures c.from-second.ensures c.from-third.ensures
    c.requires.ranges _ (Memᴰ.head refl)

pub apply_from-requires-clause-inside : goal.apply_from-requires-clause-inside
apply_from-requires-clause-inside g c =
    ranges_by_form c.args.card.now c.in-Ok.form From c.from-first.result c.from-second.result c.from-third.result c.in-Ok.ensures c.in-From.is c.from-first.ensures c.from-second.ensures c.from-third.ensures
    c.requires.ranges _ (Memᴰ.head refl)

pub apply_under-requires-clause-inside : goal.apply_under-requires-clause-inside
apply_under-requires-clause-inside g c =
    ranges_by_form c.args.card.now c.in-Ok.form Under c.from-first.result c.from-second.result c.from-third.result c.in-Ok.ensures c.in-Under.is c.from-first.ensures c.from-second.ensures c.from-third.ensures
    c.requires.ranges _ (Memᴰ.head refl)

pub apply_chain-requires-clause-inside : goal.apply_chain-requires-clause-inside
apply_chain-requires-clause-inside g c =
    ranges_by_form c.args.card.now c.in-Ok.form Chain c.from-first.result c.from-second.result c.from-third.result c.in-Ok.ensures c.in-Chain.is c.from-first.ensures c.from-second.ensures c.from-third.ensures
    c.requires.ranges _ (Memᴰ.head refl)
