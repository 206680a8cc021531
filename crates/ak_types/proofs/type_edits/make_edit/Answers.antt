use Rattle.std.proofs.Common.{w64, SFits}
use Rattle.std.proofs.lemmas.Int.{to_z-of_z}
use Rattle.ak_faults.proofs.Healths.{goes_further}
use Rattle.ak_notes.specs.declared.lacking_notes.MissingCards.{MissingCards}
use Rattle.ak_edit.specs.declared.desk_faults.DeskFault.{DeskFault}
use Rattle.std.specs.Prelude.{Result, Ok, Err}
use Rattle.std.proofs.lemmas.Result.{err_from_is_err_and}
use Rattle.ak_types.proofs.Listing.{id_in}
use Rattle.ak_edit_calls.proofs.Taking.{cause_too, later_cause}
use Rattle.ak_types.proofs.TypeEditing.{all_made, cards_pass, cards_refuse, seen_of}
use Rattle.ak_types.proofs.type_edits.make_edit.Goals as goal

pub returns-clause-made : goal.returns-clause-made
returns-clause-made g c =
    let k = g.K.Lookup.keeping c.args.keeper.now in
    let at : SFits w64 c.args.at = c.ranges.at in
    let read = c.in_ok-next.ensures.reads.same in
    let walked = c.in_ok-notes.ensures.same in
    let made : Result MissingCards DeskFault = Ok c.in_ok-made.made in
    all_made k c.args.at c.args.given.now c.args.old.now c.in_ok-notes.notes c.in_ok-next.next made c.in_ok-made.made c.in_ok-put_edit.field-0
    (seen_of k c.args.at c.args.given.now c.args.old.now c.in_ok-notes.notes c.in_ok-next.next made (rw read at c.in_ok-notes.ensures.made) (rw (to_z-of_z w64 c.args.at at) at c.in_ok-next.ensures.reads.told)
    (rw (walked, read) at c.in_ok-made.ensures.refused))
    (rw (walked, read) at c.in_ok-made.ensures.made) c.in_ok-put_edit.ensures

pub returns-clause-refused : goal.returns-clause-refused
returns-clause-refused g c =
    let k = g.K.Lookup.keeping c.args.keeper.now in
    let at : SFits w64 c.args.at = c.ranges.at in
    let read = c.in_ok-next.ensures.reads.same in
    let walked = c.in_ok-notes.ensures.same in
    let made : Result MissingCards DeskFault = Ok c.in_ok-made.made in
    cards_pass k c.args.at c.args.given.now c.args.old.now c.in_ok-notes.notes c.in_ok-next.next c.in_ok-made.made c.in_ok-put_edit.field-0
    (seen_of k c.args.at c.args.given.now c.args.old.now c.in_ok-notes.notes c.in_ok-next.next made (rw read at c.in_ok-notes.ensures.made) (rw (to_z-of_z w64 c.args.at at) at c.in_ok-next.ensures.reads.told)
    (rw (walked, read) at c.in_ok-made.ensures.refused))

pub returns-clause-cause : goal.returns-clause-cause
returns-clause-cause g c = record {
  goes = goes_further (goes_further c.in_ok-next.ensures.reads.cause.goes c.in_ok-notes.ensures.cause.goes) c.in_ok-made.ensures.cause.goes;
  failed = λ is. absurd (cc);
  unfailed = λ _ is. absurd (cc);
}

pub returns-in_err-made-clause-refused : goal.returns-in_err-made-clause-refused
returns-in_err-made-clause-refused g c =
    let p = err_from_is_err_and c.from_residual-in_err-made.result c.from_residual-in_err-made.ensures.1 in
    let k = g.K.Lookup.keeping c.args.keeper.now in
    let at : SFits w64 c.args.at = c.ranges.at in
    let read = c.in_ok-next.ensures.reads.same in
    let walked = c.in_ok-notes.ensures.same in
    let refused : Result MissingCards DeskFault = Err c.in_err-made.field-0.0 in
    rw (p.1, p.2) (cards_refuse k c.args.at c.args.given.now c.args.old.now c.in_ok-notes.notes c.in_ok-next.next c.in_err-made.field-0.0
    (seen_of k c.args.at c.args.given.now c.args.old.now c.in_ok-notes.notes c.in_ok-next.next refused (rw read at c.in_ok-notes.ensures.made) (rw (to_z-of_z w64 c.args.at at) at c.in_ok-next.ensures.reads.told)
    (rw (walked, read) at c.in_err-made.ensures.refused)))

pub returns-in_err-made-clause-cause : goal.returns-in_err-made-clause-cause
returns-in_err-made-clause-cause g c =
    let p = err_from_is_err_and c.from_residual-in_err-made.result c.from_residual-in_err-made.ensures.1 in
    rw (p.1, p.2) (cause_too _ _ c.in_err-made.field-0.0
    (later_cause _ _ _ (let r : Result MissingCards DeskFault = Err c.in_err-made.field-0.0 in r) (goes_further c.in_ok-next.ensures.reads.cause.goes c.in_ok-notes.ensures.cause.goes) c.in_err-made.ensures.cause))

pub returns-in_err-made-clause-listed : goal.returns-in_err-made-clause-listed
returns-in_err-made-clause-listed g c =
    let p = err_from_is_err_and c.from_residual-in_err-made.result c.from_residual-in_err-made.ensures.1 in
    rw (p.1, p.2) (id_in c.args.given.now.note_type.id c.in_err-made.field-0.0 c.in_err-made.ensures.listed)
