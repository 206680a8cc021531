use Rattle.std.proofs.Common.{rules, refl, w64, SFits}
use Rattle.std.proofs.lemmas.Int.{to_z-of_z}
use Rattle.ak_deck_trees.specs.DeckDeletions.{RefusesDeckDeletion, deck_deletion}
use Rattle.ak_desk_lines.proofs.EndedLines.{edit_line}
use Rattle.ak_desk_lines.specs.DeskStates.{state_of}
use Rattle.ak_desk_language.specs.declared.desk_lines.DeskLine.TheVariants as lines
use Rattle.ak_desk_lines.proofs.deck_lines.delete_deck.Goals as goal

pub returns-clause-ends : goal.returns-clause-ends
returns-clause-ends g c =
    let deck : SFits w64 c.args.deck = c.ranges.deck in
    let at : SFits w64 c.args.turn.at = search rules in
    let was = state_of g.K.Lookup c.args.desk.now in
    let now = state_of g.K.Lookup c.delete_deck.new.self in
    rw (c.finished.ensures)
    (edit_line (lines.DeleteDeck c.args.deck) c.args.turn was now (deck_deletion c.args.deck) (RefusesDeckDeletion c.args.turn.at c.args.deck) c.delete_deck.result
    (λ d is. (is, refl)) (λ d result by. by) (λ fault same. same) tt refl c.delete_deck.ensures.listed
    (rw (to_z-of_z w64 c.args.deck deck, to_z-of_z w64 c.args.turn.at at) at c.delete_deck.ensures.edits))
