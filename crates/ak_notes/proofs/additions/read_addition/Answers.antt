use Rattle.std.proofs.lemmas.Int.{to_z-of_z}
use Rattle.std.proofs.Common.{ℤ, rules, w64, SFits}
use Rattle.std.proofs.lemmas.Result.{err_from_is_err_and}
use Rattle.ak_base.specs.declared.names.Table.TheVariants as tables
use Rattle.ak_keep.specs.Lookups.{note_type_at}
use Rattle.ak_merge.specs.Holdings.{name_in}
use Rattle.ak_keep.specs.Keepers.{WhereTold}
use Rattle.ak_notes.proofs.AddedNotes.{if_ok-map, of_type}
use Rattle.ak_notes.proofs.Needing.{needs_answer, needs_none}
use Rattle.ak_notes.specs.Additions.{IsMadeFor, IsMadeOf, RefusesForDeck}
use Rattle.ak_notes.specs.declared.made_notes.MadeNote.{MadeNote}
use Rattle.ak_notes.proofs.additions.read_addition.Goals as goal

pub returns-in_err-note_type-clause-refused : goal.returns-in_err-note_type-clause-refused
returns-in_err-note_type-clause-refused g c =
    let id : ℤ = c.args.new.now.note_type in
    let fits : SFits w64 id = search rules in
    let p = err_from_is_err_and c.from_residual.result c.from_residual.ensures.1 in
    rw (p.1, p.2) (needs_none MadeNote (g.K.Lookup.keeping c.args.keeper.now) (λ rows. note_type_at rows id) (name_in tables.NoteType id)
    (λ rows note_type. RefusesForDeck c.args.at c.args.new.now note_type rows) c.in_err-note_type.field-0.0 (rw (to_z-of_z w64 id fits) at c.in_err-note_type.ensures.missing))

pub returns-clause-refused : goal.returns-clause-refused
returns-clause-refused g c =
    let id : ℤ = c.args.new.now.note_type in
    let fits : SFits w64 id = search rules in
    let at : SFits w64 c.args.at = c.ranges.at in
    needs_answer (g.K.Lookup.keeping c.args.keeper.now) (λ rows. note_type_at rows id) c.in_ok-note_type.note_type (name_in tables.NoteType id)
    (λ rows note_type. RefusesForDeck c.args.at c.args.new.now note_type rows) c.read_for_type.result (rw (to_z-of_z w64 id fits) at c.in_ok-note_type.ensures.found)
    (rw (c.held_type.ensures.same, to_z-of_z w64 c.args.at at) at c.read_for_type.ensures.refused)

pub returns-clause-made : goal.returns-clause-made
returns-clause-made g c =
    let k = g.K.Lookup.keeping c.args.keeper.now in
    let id : ℤ = c.args.new.now.note_type in
    let fits : SFits w64 id = search rules in
    let at : SFits w64 c.args.at = c.ranges.at in
    if_ok-map c.read_for_type.result (λ made. WhereTold k (IsMadeFor c.args.at c.in_ok-note_type.note_type c.args.new.now made)) (λ made. WhereTold k (IsMadeOf c.args.at c.args.new.now made))
    (λ made. of_type k c.args.at c.args.new.now c.in_ok-note_type.note_type made (rw (to_z-of_z w64 id fits) at c.in_ok-note_type.ensures.found))
    (rw (c.held_type.ensures.same, to_z-of_z w64 c.args.at at) at c.read_for_type.ensures.made)
