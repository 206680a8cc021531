use Rattle.std.proofs.Common.{w64, SFits}
use Rattle.std.proofs.lemmas.Int.{to_z-of_z}
use Rattle.ak_keep.specs.Collections.{Holding}
use Rattle.ak_deck_paths.proofs.AddedDecks.{given_passes}
use Rattle.ak_deck_paths.specs.Renames.{RefusesToMove}
use Rattle.ak_deck_paths.proofs.deck_renames.read_changed.Goals as goal

pub returns-clause-refused : goal.returns-clause-refused
returns-clause-refused g c =
    let m = c.args.change.now in
    let at : SFits w64 c.args.at = c.ranges.at in
    given_passes (g.K.Lookup.keeping c.args.keeper.now) m.new.now (λ (h : Holding). RefusesToMove c.args.at m.deck m.old.now m.new.now h.rows) tt c.move_decks.result c.in_ok-check_path.ensures.refused
    (rw (to_z-of_z w64 c.args.at at) at c.move_decks.ensures.refused)
