use Rattle.std.specs.List.{All}
use Rattle.std.specs.Prelude.{List, ◌++◌, map}
use Rattle.std.proofs.Common.{sym, subst, rules, w64, SFits}
use Rattle.std.proofs.lemmas.Int.{to_z-of_z}
use Rattle.ak_base.specs.Rows.{IsChecked}
use Rattle.ak_base.specs.declared.decks.Deck.{Deck}
use Rattle.ak_base.specs.declared.note_types.NoteType.{NoteType}
use Rattle.ak_base.specs.declared.option_groups.Options.{Options}
use Rattle.ak_base.specs.declared.rows.Row.TheVariants as rows
use Rattle.ak_sync_rows.proofs.Parted.{if_ok, of_first, of_last, of_more}
use Rattle.ak_sync_rows.proofs.Taken.{taken_thrice}
use Rattle.ak_sync_rows.proofs.takings.take_changed_rows.Goals as goal

pub take_types-requires-clause-checked : goal.take_types-requires-clause-checked
take_types-requires-clause-checked g c =
    subst (λ (came : List NoteType). All (λ row. IsChecked (rows.NoteType row)) came) (sym c.as_slice.ensures)
    (of_first IsChecked rows.NoteType c.args.came.now.models (map rows.Deck c.args.came.now.decks ++ map rows.Options c.args.came.now.options) c.requires.checked)

pub take_decks-requires-clause-checked : goal.take_decks-requires-clause-checked
take_decks-requires-clause-checked g c =
    subst (λ (came : List Deck). All (λ row. IsChecked (rows.Deck row)) came) (sym c.as_slice-2.ensures)
    (of_first IsChecked rows.Deck c.args.came.now.decks (map rows.Options c.args.came.now.options)
    (of_more IsChecked rows.NoteType c.args.came.now.models (map rows.Deck c.args.came.now.decks ++ map rows.Options c.args.came.now.options) c.requires.checked))

pub take_options-requires-clause-checked : goal.take_options-requires-clause-checked
take_options-requires-clause-checked g c =
    subst (λ (came : List Options). All (λ row. IsChecked (rows.Options row)) came) (sym c.as_slice-3.ensures)
    (of_last IsChecked rows.Options c.args.came.now.options
    (of_more IsChecked rows.Deck c.args.came.now.decks (map rows.Options c.args.came.now.options)
    (of_more IsChecked rows.NoteType c.args.came.now.models (map rows.Deck c.args.came.now.decks ++ map rows.Options c.args.came.now.options) c.requires.checked)))

pub returns-clause-ok : goal.returns-clause-ok
returns-clause-ok g c =
    let usn : SFits w64 c.args.usn = search rules in
    if_ok c.take_options.result _ _
    (taken_thrice c.args.side c.args.usn (map rows.NoteType c.args.came.now.models) (map rows.Deck c.args.came.now.decks) (map rows.Options c.args.came.now.options)
    (g.K.Lookup.keeping c.args.keeper.now) (g.K.Lookup.keeping c.take_types.new.keeper) (g.K.Lookup.keeping c.take_decks.new.keeper) (g.K.Lookup.keeping c.take_options.new.keeper)
    (rw (to_z-of_z w64 c.args.usn usn, c.as_slice.ensures) at c.in_ok-take_types.ensures.ok) (rw (to_z-of_z w64 c.args.usn usn, c.as_slice-2.ensures) at c.in_ok-take_decks.ensures.ok))
    (rw (to_z-of_z w64 c.args.usn usn, c.as_slice-3.ensures) at c.take_options.ensures.ok)
