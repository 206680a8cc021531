use Rattle.std.specs.Prelude.{◌≡◌}
use Rattle.std.proofs.Common.{ap, refl}
use Rattle.ak_desk_lines.proofs.EndedLines.{read_line}
use Rattle.ak_desk_lines.specs.DeskStates.{state_of}
use Rattle.ak_desk_language.specs.declared.desk_lines.DeskLine.TheVariants as lines
use Rattle.ak_merge.specs.Soundness.{first_fault}
use Rattle.ak_desk_texts.specs.declared.answers.DeskAnswer.TheVariants as answers
use Rattle.ak_desk_lines.proofs.collection_lines.check_all.Goals as goal

pub returns-clause-ends : goal.returns-clause-ends
returns-clause-ends g c =
    let was = state_of g.K.Lookup c.args.desk.now in
    let now = state_of g.K.Lookup c.check.new.self in
    rw (c.checked.ensures)
    (read_line lines.Check c.args.turn was now c.check.result answers.Checked (λ fault h. fault ≡ first_fault h.rows) (λ fault d. fault ≡ first_fault d.rows)
    (λ fault h head _ is. is) (λ fault d is. ap answers.Checked is) (λ d result by. by) (λ fault same. same) (λ same. same) (λ fault. (fault, refl)) c.check.ensures.listed
    c.check.ensures.told c.check.ensures.listed c.check.ensures.same c.check.ensures.kept)
