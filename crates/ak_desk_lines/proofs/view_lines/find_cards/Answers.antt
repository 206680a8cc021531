use Rattle.std.proofs.Common.{rules, refl, w64, SFits}
use Rattle.std.proofs.lemmas.Int.{to_z-of_z}
use Rattle.ak_desk_language.specs.declared.desk_lines.DeskLine.TheVariants as lines
use Rattle.ak_desk_lines.proofs.EndedLines.{read_line}
use Rattle.ak_desk_lines.proofs.FoundDays.{found_held}
use Rattle.ak_desk_lines.specs.Accepted.{AreFound}
use Rattle.ak_desk_lines.specs.DeskStates.{state_of}
use Rattle.ak_desk_texts.specs.declared.answers.DeskAnswer.TheVariants as answers
use Rattle.std.specs.Prelude.{IfSome}
use Rattle.ak_desk_lines.proofs.view_lines.find_cards.Goals as goal

pub returns-clause-ends : goal.returns-clause-ends
returns-clause-ends g c =
    let at : SFits w64 c.args.turn.at = search rules in
    let was = state_of g.K.Lookup c.args.desk.now in
    rw (c.found.ensures)
    (read_line (lines.Find c.args.search.now) c.args.turn was _ c.found_at.result answers.Found
    (λ ids h. IfSome h.head (λ head. AreFound c.args.turn.at c.args.search.now h.rows head ids)) (λ ids d. AreFound c.args.turn.at c.args.search.now d.rows d.head ids)
    (λ ids h head some is. found_held c.args.turn.at c.args.search.now ids h head some is) (λ ids d is. (ids, is, refl)) (λ d result by. by) (λ fault same. same) (λ same. same) (λ ids. (ids, refl)) c.found_at.ensures.listed
    (rw (to_z-of_z w64 c.args.turn.at at) at c.found_at.ensures.told) c.found_at.ensures.listed c.found_at.ensures.same refl)
