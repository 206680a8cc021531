use Rattle.ak_session.proofs.AnswerLaws.{form_fits, chunks_fit, replies_take}
use Rattle.ak_session.proofs.answer_laws.answers_have_their_form.Goals as goal

pub returns : goal.returns
returns c = record { give = form_fits; chunk = chunks_fit; rows = replies_take }
