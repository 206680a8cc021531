use Rattle.std.proofs.lemmas.Result.{err_from_is_err_and}
use Rattle.ak_notes.proofs.Needing.{told_answer, told_refusal}
use Rattle.ak_notes.specs.LackingNotes.{RefusesMissingIds}
use Rattle.ak_notes.specs.declared.lacking_notes.MissingCards.{MissingCards}
use Rattle.ak_notes.specs.declared.new_cards.MadeCards.{MadeCards}
use Rattle.ak_notes.proofs.lacking_notes.missing_cards.Goals as goal

pub returns-clause-refused : goal.returns-clause-refused
returns-clause-refused g c =
    let made : MissingCards = record { cards = c.in_ok-made.made.cards; next = record { first = c.in_ok-made.made.next; conf = c.conf_after-conf.result } } in
    told_answer (g.K.Lookup.keeping c.args.keeper.now) (RefusesMissingIds c.args.lacking.now c.args.next) c.in_ok-made.made made
    (rw c.in_ok-ords.ensures at c.in_ok-made.ensures.refused)

pub returns-in_err-made-clause-refused : goal.returns-in_err-made-clause-refused
returns-in_err-made-clause-refused g c =
    let p = err_from_is_err_and c.from_residual-in_err-made.result c.from_residual-in_err-made.ensures.1 in
    rw (p.1, p.2) (told_refusal MadeCards MissingCards (g.K.Lookup.keeping c.args.keeper.now) (RefusesMissingIds c.args.lacking.now c.args.next) c.in_err-made.field-0.0 (rw c.in_ok-ords.ensures at c.in_err-made.ensures.refused))
