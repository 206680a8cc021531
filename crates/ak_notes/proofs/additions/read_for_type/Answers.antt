use Rattle.std.proofs.lemmas.Int.{to_z-of_z}
use Rattle.std.proofs.Common.{ℤ, rules, w64, SFits}
use Rattle.std.proofs.lemmas.Result.{err_from_is_err_and}
use Rattle.ak_base.specs.declared.names.Table.TheVariants as tables
use Rattle.ak_keep.specs.Lookups.{deck_at}
use Rattle.ak_merge.specs.Holdings.{name_in}
use Rattle.ak_notes.proofs.Needing.{needs_answer, needs_none}
use Rattle.ak_notes.specs.Additions.{RefusesOfType}
use Rattle.ak_notes.specs.declared.made_notes.MadeNote.{MadeNote}
use Rattle.ak_notes.proofs.additions.read_for_type.Goals as goal

pub returns-in_err-deck-clause-refused : goal.returns-in_err-deck-clause-refused
returns-in_err-deck-clause-refused g c =
    let id : ℤ = c.args.new.now.deck in
    let fits : SFits w64 id = search rules in
    let p = err_from_is_err_and c.from_residual.result c.from_residual.ensures.1 in
    rw (p.1, p.2) (needs_none MadeNote (g.K.Lookup.keeping c.args.keeper.now) (λ rows. deck_at rows id) (name_in tables.Deck id)
    (λ rows _. RefusesOfType c.args.at c.args.new.now c.args.note_type.now rows) c.in_err-deck.field-0.0 (rw (to_z-of_z w64 id fits) at c.in_err-deck.ensures.missing))

pub returns-clause-refused : goal.returns-clause-refused
returns-clause-refused g c =
    let id : ℤ = c.args.new.now.deck in
    let fits : SFits w64 id = search rules in
    let at : SFits w64 c.args.at = c.ranges.at in
    needs_answer (g.K.Lookup.keeping c.args.keeper.now) (λ rows. deck_at rows id) c.in_ok-deck.deck (name_in tables.Deck id)
    (λ rows _. RefusesOfType c.args.at c.args.new.now c.args.note_type.now rows) c.read_for_deck.result (rw (to_z-of_z w64 id fits) at c.in_ok-deck.ensures.found)
    (rw (c.held_deck.ensures.same, to_z-of_z w64 c.args.at at) at c.read_for_deck.ensures.refused)
