use Rattle.std.proofs.Common.{ℤ, rules, w64, SFits}
use Rattle.std.proofs.lemmas.Int.{to_z-of_z}
use Rattle.ak_deck_paths.proofs.RenamedDecks.{rename_answered}
use Rattle.ak_deck_paths.proofs.deck_renames.rename_deck.Goals as goal

pub returns-clause-refused : goal.returns-clause-refused
returns-clause-refused g c =
    let id : ℤ = c.args.rename.now.deck in
    let fits : SFits w64 id = search rules in
    let at : SFits w64 c.args.at = c.ranges.at in
    rename_answered (g.K.Lookup.keeping c.args.keeper.now) c.args.at id c.args.rename.now.path.now c.in_ok-row.row c.move_tree.result
    (rw (c.deck_name.ensures, to_z-of_z w64 id fits) at c.in_ok-row.ensures.held) (rw (c.deck_name.ensures, to_z-of_z w64 id fits) at c.in_ok-row.ensures.refused)
    (rw (c.held_row.ensures.same, c.path_of.ensures, to_z-of_z w64 id fits, to_z-of_z w64 c.args.at at) at c.move_tree.ensures.refused)
