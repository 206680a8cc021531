use Rattle.std.proofs.Common.{w64, SFits}
use Rattle.std.proofs.lemmas.Int.{to_z-of_z}
use Rattle.ak_keep.specs.Collections.{Holding}
use Rattle.ak_deck_paths.proofs.AddedDecks.{given_passes}
use Rattle.ak_deck_paths.specs.Additions.{RefusesToMake}
use Rattle.ak_deck_paths.proofs.deck_additions.read_addition.Goals as goal

pub returns-clause-refused : goal.returns-clause-refused
returns-clause-refused g c =
    let at : SFits w64 c.args.at = c.ranges.at in
    given_passes (g.K.Lookup.keeping c.args.keeper.now) c.args.path.now (λ (h : Holding). RefusesToMake c.args.at c.args.path.now h.rows) tt c.make_decks.result c.in_ok-check_path.ensures.refused
    (rw (to_z-of_z w64 c.args.at at) at c.make_decks.ensures.refused)
