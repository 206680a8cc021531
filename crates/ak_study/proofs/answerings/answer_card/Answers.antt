use Rattle.std.proofs.Common.{ℤ, sym, subst, w64, to_z, of_z}
use Rattle.ak_base.specs.declared.cards.Card.{Card}
use Rattle.ak_keep.proofs.Causing.{cause-ok}
use Rattle.ak_sched.specs.Answers.{IsAnswer}
use Rattle.ak_study.proofs.answerings.answer_card.Goals as goal

pub returns-clause-reads : goal.returns-clause-reads
returns-clause-reads g c = record {
  kept = c.in_ok-options.ensures.reads.kept;
  same = c.in_ok-options.ensures.reads.same;
  cause = cause-ok _ c.in_ok-options.ensures.reads.cause.goes;
  told = c.in_ok-options.ensures.reads.told;
}

pub returns-clause-only : goal.returns-clause-only
returns-clause-only g c = λ other told is.
    c.answer-answered.ensures.only other told
    (subst (λ (m : Card). IsAnswer m c.in_ok-options.options c.args.given.now.button c.args.key.day c.args.given.now.word c.args.given.now.taken (to_z w64 (of_z w64 c.args.key.review)) other told) (sym c.in_ok-made.ensures)
    (subst (λ (i : ℤ). IsAnswer c.args.card c.in_ok-options.options c.args.given.now.button c.args.key.day c.args.given.now.word c.args.given.now.taken i other told) c.answer-answered.ensures.row.id is))
