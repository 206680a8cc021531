use Rattle.std.proofs.Common.{w64, SFits}
use Rattle.std.proofs.lemmas.Int.{to_z-of_z}
use Rattle.std.proofs.lemmas.Result.{err_from_is_err_and}
use Rattle.ak_deck_paths.proofs.AddedDecks.{decks_pass_tests}
use Rattle.ak_deck_paths.proofs.Ending.{use_cause}
use Rattle.ak_deck_paths.specs.Additions.{RefusesFirst, added_paths}
use Rattle.ak_deck_paths.specs.DeckPaths.{has_path}
use Rattle.ak_deck_paths.specs.NewDecks.{RefusesIds}
use Rattle.ak_deck_paths.proofs.deck_additions.make_decks.Goals as goal

pub returns-in_err-check_free-clause-cause : goal.returns-in_err-check_free-clause-cause
returns-in_err-check_free-clause-cause g c =
    let p = err_from_is_err_and c.from_residual-in_err-check_free.result c.from_residual-in_err-check_free.ensures.1 in
    rw (p.1, p.2) (use_cause _ _ c.in_err-check_free.field-0.0 c.in_ok-decks.ensures.reads.cause.goes c.in_err-check_free.ensures.listed)

pub returns-clause-refused : goal.returns-clause-refused
returns-clause-refused g c =
    let at : SFits w64 c.args.at = c.ranges.at in
    decks_pass_tests (g.K.Lookup.keeping c.args.keeper.now) c.in_ok-decks.decks (RefusesFirst (has_path c.args.path.now)) (λ ds rows. RefusesIds c.args.at (added_paths ds c.args.path.now) rows) tt _
    c.in_ok-decks.ensures.reads.told (rw c.as_slice.ensures at c.in_ok-check_free.ensures.refused)
    (rw (c.read_decks.ensures.reads.same, c.in_ok-paths.ensures.paths, c.as_slice-2.ensures, to_z-of_z w64 c.args.at at) at c.new_decks.ensures.refused)
