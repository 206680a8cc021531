use Rattle.std.proofs.Common.{w64, SFits}
use Rattle.std.proofs.lemmas.Int.{to_z-of_z}
use Rattle.ak_base.specs.declared.cards.Card.{Card}
use Rattle.ak_study.proofs.AskedKeepers.{begun_checked, begun_told, can_of, cannot_listed, caused_by_card, tested_told}
use Rattle.ak_study.proofs.answers.answerable_card.Goals as goal

pub returns-clause-ok : goal.returns-clause-ok
returns-clause-ok g c =
    let fits : SFits w64 c.args.id = c.ranges.id in
    begun_told (g.K.Lookup.keeping c.args.keeper.now) c.args.begun c.args.id c.in_ok-held.held c.answerable.result (rw c.card.ensures at c.answerable.ensures.ok)
    (rw (to_z-of_z w64 c.args.id fits) at c.in_ok-held.ensures.ok)

pub returns-clause-checked : goal.returns-clause-checked
returns-clause-checked g c = begun_checked c.args.begun c.in_ok-held.held c.answerable.result (rw c.card.ensures at c.answerable.ensures.ok) c.in_ok-held.ensures.checked

pub returns-clause-refused : goal.returns-clause-refused
returns-clause-refused g c =
    let fits : SFits w64 c.args.id = c.ranges.id in
    tested_told Card (g.K.Lookup.keeping c.args.keeper.now) c.args.begun c.args.id c.in_ok-held.held c.in_ok-held.held c.answerable.result (rw c.card.ensures at c.answerable.ensures.ok) (rw c.card.ensures at c.answerable.ensures.err)
    (rw (to_z-of_z w64 c.args.id fits) at c.in_ok-held.ensures.ok) (rw (to_z-of_z w64 c.args.id fits) at c.in_ok-held.ensures.refused)

pub returns-clause-cause : goal.returns-clause-cause
returns-clause-cause g c =
    caused_by_card (g.K.Lookup.health c.args.keeper.now) (g.K.Lookup.health c.held_card.new.keeper) c.args.begun c.in_ok-held.held c.answerable.result c.in_ok-held.ensures.cause.goes (rw c.card.ensures at c.answerable.ensures.err)

pub returns-clause-can : goal.returns-clause-can
returns-clause-can g c = can_of c.args.begun c.in_ok-held.held c.answerable.result (rw c.card.ensures at c.answerable.ensures.ok)

pub returns-clause-listed : goal.returns-clause-listed
returns-clause-listed g c =
    cannot_listed c.args.id c.args.begun c.in_ok-held.held c.answerable.result (rw c.card.ensures at c.answerable.ensures.err)
