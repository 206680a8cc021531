use Rattle.std.proofs.Common.{rules, refl, w64, SFits}
use Rattle.std.proofs.lemmas.Int.{to_z-of_z}
use Rattle.ak_desk_lines.specs.DeskStates.{state_of}
use Rattle.ak_desk_language.specs.declared.desk_lines.DeskLine.TheVariants as lines
use Rattle.ak_desk_texts.specs.declared.answers.DeskAnswer.TheVariants as answers
use Rattle.ak_deck_paths.specs.Additions.{IsAdded, RefusesAddition}
use Rattle.ak_desk_lines.proofs.EndedLines.{call_line}
use Rattle.ak_desk_lines.proofs.deck_lines.add_deck.Goals as goal

pub returns-clause-ends : goal.returns-clause-ends
returns-clause-ends g c =
    let at : SFits w64 c.args.turn.at = search rules in
    let was = state_of g.K.Lookup c.args.desk.now in
    let now = state_of g.K.Lookup c.add_deck.new.self in
    rw (c.added_deck.ensures)
    (call_line _ (lines.AddDeck c.args.name.now) c.args.turn was now c.add_deck.result answers.AddedDeck
    (λ id d. IsAdded c.args.turn.at c.args.name.now d was.keeping now.keeping was.steps now.steps id) (RefusesAddition c.args.turn.at c.args.name.now)
    (λ id d is. (id, is, refl)) (λ d result by. by) (λ fault same. same) tt (λ id. (id, refl)) c.add_deck.ensures.listed
    (rw (c.as_str.ensures, to_z-of_z w64 c.args.turn.at at) at c.add_deck.ensures.ok)
    (rw (c.as_str.ensures, to_z-of_z w64 c.args.turn.at at) at c.add_deck.ensures.refused)
    c.add_deck.ensures.err c.add_deck.ensures.kept c.add_deck.ensures.stays)
