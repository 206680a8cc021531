use Rattle.std.proofs.Common.{w64, SFits}
use Rattle.std.proofs.lemmas.Int.{to_z-of_z}
use Rattle.std.proofs.lemmas.Result.{on_ok_weaker}
use Rattle.ak_deck_paths.proofs.RenamedDecks.{move_answered, move_done, ready}
use Rattle.ak_deck_paths.proofs.deck_renames.move_tree.Goals as goal

pub returns-clause-ok : goal.returns-clause-ok
returns-clause-ok g c =
    let k = g.K.Lookup.keeping c.args.keeper.now in
    let m = c.args.change.now in
    let at : SFits w64 c.args.at = c.ranges.at in
    let read = c.read_changed.ensures.same in
    on_ok_weaker c.finish.result
    (λ finished. move_done k (g.K.Lookup.keeping c.finish.new.keeper) c.args.at m.deck m.old.now m.new.now c.in_ok-decks.decks c.in_ok-edit.edit c.args.steps.now c.finish.new.steps
    (ready k c.args.at m.deck m.old.now m.new.now c.in_ok-decks.decks (rw (to_z-of_z w64 c.args.at at) at c.in_ok-decks.ensures.changed) (rw (to_z-of_z w64 c.args.at at) at c.in_ok-decks.ensures.refused)
    (rw read at c.finish.ensures.known)) c.in_ok-edit.ensures finished)
    (rw (read, to_z-of_z w64 c.args.at at) at c.finish.ensures.ok)

pub returns-clause-refused : goal.returns-clause-refused
returns-clause-refused g c =
    let k = g.K.Lookup.keeping c.args.keeper.now in
    let m = c.args.change.now in
    let at : SFits w64 c.args.at = c.ranges.at in
    let read = c.read_changed.ensures.same in
    move_answered k c.args.at m.deck m.old.now m.new.now c.in_ok-decks.decks c.in_ok-edit.edit _ c.in_ok-edit.ensures
    (ready k c.args.at m.deck m.old.now m.new.now c.in_ok-decks.decks (rw (to_z-of_z w64 c.args.at at) at c.in_ok-decks.ensures.changed) (rw (to_z-of_z w64 c.args.at at) at c.in_ok-decks.ensures.refused)
    (rw read at c.finish.ensures.known)) (rw (read, to_z-of_z w64 c.args.at at) at c.finish.ensures.refused)
