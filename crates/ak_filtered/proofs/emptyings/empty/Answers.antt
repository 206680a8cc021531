use Rattle.std.proofs.Common.{w64, SFits}
use Rattle.std.proofs.lemmas.Int.{to_z-of_z}
use Rattle.std.proofs.lemmas.Result.{err_from_is_err_and}
use Rattle.ak_filtered.proofs.EmptiedDecks.{empty_accepts, empty_done, empty_first, empty_refuses}
use Rattle.ak_filtered.proofs.emptyings.empty.Goals as goal

pub returns-in_err-filtered_deck-clause-refused : goal.returns-in_err-filtered_deck-clause-refused
returns-in_err-filtered_deck-clause-refused g c =
    let id : SFits w64 c.args.deck = c.ranges.deck in
    let p = err_from_is_err_and c.from_residual.result c.from_residual.ensures.1 in
    rw (p.1, p.2) (empty_first (g.K.Lookup.keeping c.args.keeper.now) c.args.at c.args.deck c.in_err-filtered_deck.field-0.0 (rw (to_z-of_z w64 c.args.deck id) at c.in_err-filtered_deck.ensures.refused))

pub returns-in-Ok-clause-ok : goal.returns-in-Ok-clause-ok
returns-in-Ok-clause-ok g c =
    let at : SFits w64 c.args.at = c.ranges.at in
    let id : SFits w64 c.args.deck = c.ranges.deck in
    empty_done (g.K.Lookup.keeping c.args.keeper.now) (g.K.Lookup.keeping c.empty_deck.new.keeper) c.args.at c.args.deck c.empty_deck.new.steps c.in-Ok.count
    (rw (c.in_ok-filtered_deck.ensures.same, to_z-of_z w64 c.args.deck id) at c.in-Ok.ensures.count)
    (rw (c.in_ok-filtered_deck.ensures.same, to_z-of_z w64 c.args.at at, to_z-of_z w64 c.args.deck id) at c.in-Ok.ensures.ends.done)

pub returns-in-Ok-clause-refused : goal.returns-in-Ok-clause-refused
returns-in-Ok-clause-refused g c =
    let at : SFits w64 c.args.at = c.ranges.at in
    let id : SFits w64 c.args.deck = c.ranges.deck in
    empty_accepts (g.K.Lookup.keeping c.args.keeper.now) c.args.at c.args.deck c.in_ok-filtered_deck.field-0 c.in-Ok.count (rw (to_z-of_z w64 c.args.deck id) at c.in_ok-filtered_deck.ensures.refused)
    (rw (c.in_ok-filtered_deck.ensures.same, to_z-of_z w64 c.args.at at, to_z-of_z w64 c.args.deck id) at c.in-Ok.ensures.ends.answers)

pub returns-in-Err-clause-refused : goal.returns-in-Err-clause-refused
returns-in-Err-clause-refused g c =
    let at : SFits w64 c.args.at = c.ranges.at in
    let id : SFits w64 c.args.deck = c.ranges.deck in
    rw c.from.ensures
    (empty_refuses (g.K.Lookup.keeping c.args.keeper.now) c.args.at c.args.deck c.in_ok-filtered_deck.field-0 c.in-Err.fault (rw (to_z-of_z w64 c.args.deck id) at c.in_ok-filtered_deck.ensures.refused)
    (rw (c.in_ok-filtered_deck.ensures.same, to_z-of_z w64 c.args.at at, to_z-of_z w64 c.args.deck id) at c.in-Err.ensures.ends.answers))
