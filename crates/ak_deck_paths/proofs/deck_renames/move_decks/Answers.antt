use Rattle.std.proofs.Common.{w64, SFits}
use Rattle.std.proofs.lemmas.Int.{to_z-of_z}
use Rattle.std.proofs.lemmas.Result.{err_from_is_err_and}
use Rattle.ak_deck_paths.proofs.Ending.{use_cause}
use Rattle.ak_deck_paths.proofs.RenamedDecks.{move_in_use, move_lacks, move_passes}
use Rattle.ak_deck_paths.specs.declared.changed_decks.ChangedDecks.{ChangedDecks}
use Rattle.ak_deck_paths.proofs.deck_renames.move_decks.Goals as goal

pub returns-in_err-check_place-clause-refused : goal.returns-in_err-check_place-clause-refused
returns-in_err-check_place-clause-refused g c =
    let m = c.args.change.now in
    let p = err_from_is_err_and c.from_residual-in_err-check_place.result c.from_residual-in_err-check_place.ensures.1 in
    rw (p.1, p.2)
    (move_in_use (g.K.Lookup.keeping c.args.keeper.now) c.args.at m.deck m.old.now m.new.now c.in_ok-decks.decks c.in_err-check_place.field-0.0 c.in_ok-decks.ensures.reads.told
    (rw c.as_slice-2.ensures at c.in_err-check_place.ensures.refused))

pub returns-in_err-check_place-clause-cause : goal.returns-in_err-check_place-clause-cause
returns-in_err-check_place-clause-cause g c =
    let p = err_from_is_err_and c.from_residual-in_err-check_place.result c.from_residual-in_err-check_place.ensures.1 in
    rw (p.1, p.2) (use_cause _ _ c.in_err-check_place.field-0.0 c.in_ok-decks.ensures.reads.cause.goes c.in_err-check_place.ensures.listed)

pub returns-clause-refused : goal.returns-clause-refused
returns-clause-refused g c =
    let m = c.args.change.now in
    let at : SFits w64 c.args.at = c.ranges.at in
    let changed : ChangedDecks = record { moved = c.in_ok-moved.moved; made = c.in_ok-made.made } in
    move_passes (g.K.Lookup.keeping c.args.keeper.now) c.args.at m.deck m.old.now m.new.now c.in_ok-decks.decks c.in_ok-made.made changed tt c.in_ok-decks.ensures.reads.told
    (rw c.as_slice-2.ensures at c.in_ok-check_place.ensures.refused)
    (rw (c.read_decks.ensures.reads.same, c.in_ok-paths.ensures, c.as_slice-4.ensures, to_z-of_z w64 c.args.at at) at c.in_ok-made.ensures.refused)

pub returns-in_err-made-clause-refused : goal.returns-in_err-made-clause-refused
returns-in_err-made-clause-refused g c =
    let m = c.args.change.now in
    let at : SFits w64 c.args.at = c.ranges.at in
    let p = err_from_is_err_and c.from_residual-in_err-made.result c.from_residual-in_err-made.ensures.1 in
    rw (p.1, p.2)
    (move_lacks (g.K.Lookup.keeping c.args.keeper.now) c.args.at m.deck m.old.now m.new.now c.in_ok-decks.decks tt c.in_err-made.field-0.0 c.in_ok-decks.ensures.reads.told
    (rw c.as_slice-2.ensures at c.in_ok-check_place.ensures.refused)
    (rw (c.read_decks.ensures.reads.same, c.in_ok-paths.ensures, c.as_slice-4.ensures, to_z-of_z w64 c.args.at at) at c.in_err-made.ensures.refused))
