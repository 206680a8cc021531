use Rattle.std.proofs.lemmas.Result.{err_from_is_err_and}
use Rattle.std.proofs.Common.{ℤ, ap, rules, w64, SFits}
use Rattle.std.proofs.lemmas.Int.{to_z-of_z}
use Rattle.ak_faults.proofs.Healths.{goes_further}
use Rattle.ak_notes.proofs.AddedNotes.{id_listed, later_cause, ok_cause}
use Rattle.ak_notes.proofs.EditedNotes.{lacked_pass, lacked_refuse, of_parts}
use Rattle.ak_notes.specs.declared.lacking_notes.NextCards.{NextCards}
use Rattle.ak_notes.specs.declared.made_notes.MadeNote.{MadeNote}
use Rattle.ak_notes.proofs.note_edits.make_shown.Goals as goal

pub returns-in_err-made-clause-refused : goal.returns-in_err-made-clause-refused
returns-in_err-made-clause-refused g c =
    let at : ℤ = c.args.editing.now.at in
    let fits : SFits w64 at = search rules in
    let id : ℤ = c.args.editing.now.given.now.note in
    let there : SFits w64 id = search rules in
    let p = err_from_is_err_and c.from_residual-in_err-made.result c.from_residual-in_err-made.ensures.1 in
    rw (p.1, p.2) (lacked_refuse (g.K.Lookup.keeping c.args.keeper.now) at c.args.editing.now.given.now c.args.shown c.in_ok-lacking.lacking c.in_ok-next.next c.in_err-made.field-0.0
    (rw (to_z-of_z w64 at fits) at c.in_ok-next.ensures.first) (rw (to_z-of_z w64 id there) at c.in_ok-lacking.ensures.reads.told)
    (rw (c.in_ok-next.ensures.reads.same, c.in_ok-lacking.ensures.reads.same) at c.in_err-made.ensures.refused))

pub returns-in_err-made-clause-listed : goal.returns-in_err-made-clause-listed
returns-in_err-made-clause-listed g c =
    let p = err_from_is_err_and c.from_residual-in_err-made.result c.from_residual-in_err-made.ensures.1 in
    rw (p.1, p.2) (id_listed c.in_err-made.field-0.0 c.in_err-made.ensures.listed)

pub returns-in_err-made-clause-cause : goal.returns-in_err-made-clause-cause
returns-in_err-made-clause-cause g c =
    let p = err_from_is_err_and c.from_residual-in_err-made.result c.from_residual-in_err-made.ensures.1 in
    rw (p.1, p.2) (later_cause _ _ _ c.in_err-made.field-0.0 (goes_further c.in_ok-lacking.ensures.reads.cause.goes c.in_ok-next.ensures.reads.cause.goes) c.in_err-made.ensures.cause)

pub returns-clause-refused : goal.returns-clause-refused
returns-clause-refused g c =
    let at : ℤ = c.args.editing.now.at in
    let fits : SFits w64 at = search rules in
    let id : ℤ = c.args.editing.now.given.now.note in
    let there : SFits w64 id = search rules in
    let made : MadeNote = record { note = c.in_ok-changed.changed; cards = c.in_ok-made.made.cards; conf = c.in_ok-made.made.next.conf } in
    lacked_pass (g.K.Lookup.keeping c.args.keeper.now) at c.args.editing.now.given.now c.args.shown c.in_ok-lacking.lacking c.in_ok-next.next c.in_ok-made.made made
    (rw (to_z-of_z w64 at fits) at c.in_ok-next.ensures.first) (rw (to_z-of_z w64 id there) at c.in_ok-lacking.ensures.reads.told)
    (rw (c.in_ok-next.ensures.reads.same, c.in_ok-lacking.ensures.reads.same) at c.in_ok-made.ensures.refused)

pub returns-clause-made : goal.returns-clause-made
returns-clause-made g c =
    let e = c.args.editing.now in
    let at : ℤ = c.args.editing.now.at in
    let fits : SFits w64 at = search rules in
    let id : ℤ = c.args.editing.now.given.now.note in
    let there : SFits w64 id = search rules in
    of_parts (g.K.Lookup.keeping c.args.keeper.now) at c.args.note e.note_type.now e.given.now c.args.shown c.in_ok-lacking.lacking c.in_ok-next.next c.in_ok-made.made c.in_ok-changed.changed
    (rw (to_z-of_z w64 id there) at c.in_ok-lacking.ensures.reads.told)
    (rw (c.in_ok-lacking.ensures.reads.same, to_z-of_z w64 at fits) at c.in_ok-next.ensures.reads.told)
    (rw (c.in_ok-next.ensures.reads.same, c.in_ok-lacking.ensures.reads.same) at c.in_ok-made.ensures.made)
    c.in_ok-changed.ensures (ap (λ (n : NextCards). n.conf) c.in_ok-made.ensures.next)

pub returns-clause-cause : goal.returns-clause-cause
returns-clause-cause g c =
    let made : MadeNote = record { note = c.in_ok-changed.changed; cards = c.in_ok-made.made.cards; conf = c.in_ok-made.made.next.conf } in
    ok_cause (g.K.Lookup.health c.args.keeper.now) (g.K.Lookup.health c.missing_cards.new.keeper) made
    (goes_further (goes_further c.in_ok-lacking.ensures.reads.cause.goes c.in_ok-next.ensures.reads.cause.goes) c.in_ok-made.ensures.cause.goes)
