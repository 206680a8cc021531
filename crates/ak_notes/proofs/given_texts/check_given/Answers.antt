use Rattle.std.proofs.lemmas.Result.{err_from_is_err_and}
use Rattle.ak_edit_calls.proofs.Answering.{passed_first, refused_first}
use Rattle.ak_notes.specs.GivenTexts.{RefusesCount, RefusesTexts}
use Rattle.ak_notes.proofs.given_texts.check_given.Goals as goal

pub returns-in_err-check_count-clause-refused : goal.returns-in_err-check_count-clause-refused
returns-in_err-check_count-clause-refused c =
    let p = err_from_is_err_and c.from_residual.result c.from_residual.ensures.1 in
    rw (p.1, p.2) (refused_first (RefusesCount c.args.note_type.now c.args.fields.now) (RefusesTexts c.args.fields.now c.args.tags.now) c.in_err-check_count.field-0.0 c.in_err-check_count.ensures.refused)

pub returns-clause-refused : goal.returns-clause-refused
returns-clause-refused c =
    passed_first (RefusesCount c.args.note_type.now c.args.fields.now) (RefusesTexts c.args.fields.now c.args.tags.now) tt c.check_texts.result c.in_ok-check_count.ensures.refused c.check_texts.ensures.refused
