use Rattle.std.proofs.Common.{rules, refl, w64, SFits}
use Rattle.std.proofs.lemmas.Int.{to_z-of_z}
use Rattle.ak_deck_paths.specs.Renames.{RefusesRename}
use Rattle.ak_desk_lines.proofs.EndedLines.{call_line, done_by}
use Rattle.ak_desk_lines.specs.Accepted.{RenamesDeck, done_answer}
use Rattle.ak_desk_lines.specs.DeskStates.{state_of}
use Rattle.ak_desk_language.specs.declared.desk_lines.DeskLine.TheVariants as lines
use Rattle.ak_desk_lines.proofs.deck_lines.rename_deck.Goals as goal

pub returns-clause-ends : goal.returns-clause-ends
returns-clause-ends g c =
    let deck : SFits w64 c.args.deck = c.ranges.deck in
    let at : SFits w64 c.args.turn.at = search rules in
    let was = state_of g.K.Lookup c.args.desk.now in
    let now = state_of g.K.Lookup c.rename_deck.new.self in
    rw (c.finished.ensures)
    (call_line _ (lines.RenameDeck c.args.deck c.args.name.now) c.args.turn was now c.rename_deck.result done_answer
    (λ _ d. RenamesDeck c.args.turn.at c.args.deck c.args.name.now d was now) (RefusesRename c.args.turn.at c.args.deck c.args.name.now)
    (λ _ d is. (is, refl)) (λ d result by. by) (λ fault same. same) tt (λ _. refl) (rw (to_z-of_z w64 c.args.deck deck) at c.rename_deck.ensures.listed)
    (done_by was.keeping (λ d. RenamesDeck c.args.turn.at c.args.deck c.args.name.now d was now) c.rename_deck.result (rw (c.as_str.ensures, to_z-of_z w64 c.args.deck deck, to_z-of_z w64 c.args.turn.at at) at c.rename_deck.ensures.ok))
    (rw (c.as_str.ensures, to_z-of_z w64 c.args.deck deck, to_z-of_z w64 c.args.turn.at at) at c.rename_deck.ensures.refused)
    c.rename_deck.ensures.err c.rename_deck.ensures.kept c.rename_deck.ensures.stays)
