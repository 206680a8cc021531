use Rattle.std.specs.List.{All}
use Rattle.std.specs.Prelude.{ℤ, pos, List, ◌++◌, map}
use Rattle.std.proofs.Common.{sym, subst, rules, w64, SFits}
use Rattle.std.proofs.lemmas.Int.{to_z-of_z}
use Rattle.ak_base.specs.Rows.{IsChecked}
use Rattle.ak_session.specs.Messages.{grave_with}
use Rattle.ak_sync_rows.proofs.Parted.{if_ok, of_first, of_last, of_more}
use Rattle.ak_sync_rows.proofs.Taken.{taken_thrice}
use Rattle.ak_sync_rows.proofs.takings.take_given_graves.Goals as goal

pub take_graves-requires-clause-checked : goal.take_graves-requires-clause-checked
take_graves-requires-clause-checked g c =
    subst (λ (came : List ℤ). All (λ id. IsChecked (grave_with (pos 1) id)) came) (sym c.as_slice.ensures)
    (of_first IsChecked (grave_with (pos 1)) c.args.ids.now.notes (map (grave_with (pos 0)) c.args.ids.now.cards ++ map (grave_with (pos 2)) c.args.ids.now.decks) c.requires.checked)

pub take_graves-requires-2-clause-checked : goal.take_graves-requires-2-clause-checked
take_graves-requires-2-clause-checked g c =
    subst (λ (came : List ℤ). All (λ id. IsChecked (grave_with (pos 0) id)) came) (sym c.as_slice-2.ensures)
    (of_first IsChecked (grave_with (pos 0)) c.args.ids.now.cards (map (grave_with (pos 2)) c.args.ids.now.decks)
    (of_more IsChecked (grave_with (pos 1)) c.args.ids.now.notes (map (grave_with (pos 0)) c.args.ids.now.cards ++ map (grave_with (pos 2)) c.args.ids.now.decks) c.requires.checked))

pub take_graves-requires-3-clause-checked : goal.take_graves-requires-3-clause-checked
take_graves-requires-3-clause-checked g c =
    subst (λ (came : List ℤ). All (λ id. IsChecked (grave_with (pos 2) id)) came) (sym c.as_slice-3.ensures)
    (of_last IsChecked (grave_with (pos 2)) c.args.ids.now.decks
    (of_more IsChecked (grave_with (pos 0)) c.args.ids.now.cards (map (grave_with (pos 2)) c.args.ids.now.decks)
    (of_more IsChecked (grave_with (pos 1)) c.args.ids.now.notes (map (grave_with (pos 0)) c.args.ids.now.cards ++ map (grave_with (pos 2)) c.args.ids.now.decks) c.requires.checked)))

pub returns-clause-ok : goal.returns-clause-ok
returns-clause-ok g c =
    let usn : SFits w64 c.args.usn = search rules in
    if_ok c.take_graves-3.result _ _
    (taken_thrice c.args.side c.args.usn (map (grave_with (pos 1)) c.args.ids.now.notes) (map (grave_with (pos 0)) c.args.ids.now.cards) (map (grave_with (pos 2)) c.args.ids.now.decks)
    (g.K.Lookup.keeping c.args.keeper.now) (g.K.Lookup.keeping c.take_graves.new.keeper) (g.K.Lookup.keeping c.take_graves-2.new.keeper) (g.K.Lookup.keeping c.take_graves-3.new.keeper)
    (rw (to_z-of_z w64 c.args.usn usn, c.as_slice.ensures) at c.in_ok-take_graves.ensures.ok) (rw (to_z-of_z w64 c.args.usn usn, c.as_slice-2.ensures) at c.in_ok-take_graves-2.ensures.ok))
    (rw (to_z-of_z w64 c.args.usn usn, c.as_slice-3.ensures) at c.take_graves-3.ensures.ok)
