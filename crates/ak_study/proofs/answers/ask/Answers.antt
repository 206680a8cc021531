use Rattle.std.proofs.Common.{rules, w64, SFits}
use Rattle.std.proofs.lemmas.Int.{to_z-of_z}
use Rattle.std.proofs.lemmas.Result.{err_from_is_err_and}
use Rattle.ak_base.specs.declared.cards.Card.{Card}
use Rattle.ak_edit.specs.DeskFaults.{of_keep_fault}
use Rattle.ak_faults.proofs.Healths.{goes_further}
use Rattle.ak_study.proofs.AnswerFaults.{card_is_asked, cause_of_end, cause_ok, from_keeper, later_cause, outside_told}
use Rattle.ak_study.proofs.AskedKeepers.{ask_accepted, asked_told, card_refused, review_refused}
use Rattle.ak_study.specs.Answers.{RefusesAsked}
use Rattle.ak_study.specs.declared.answers.Asked.{Asked}
use Rattle.ak_study.proofs.answers.ask.Goals as goal

pub returns-in_err-prepared-clause-refused : goal.returns-in_err-prepared-clause-refused
returns-in_err-prepared-clause-refused g c =
    let p = err_from_is_err_and c.from_residual.result c.from_residual.ensures.1 in
    rw (p.1, p.2) (outside_told Asked (g.K.Lookup.keeping c.args.keeper.now) (RefusesAsked c.args.at c.args.id) (of_keep_fault c.in_err-prepared.field-0.0) (from_keeper c.in_err-prepared.field-0.0))

pub returns-in_err-card-clause-refused : goal.returns-in_err-card-clause-refused
returns-in_err-card-clause-refused g c =
    let at : SFits w64 c.args.at = c.ranges.at in
    let id : SFits w64 c.args.id = c.ranges.id in
    let p = err_from_is_err_and c.from_residual-in_err-card.result c.from_residual-in_err-card.ensures.1 in
    rw (p.1, p.2)
    (card_refused Card Asked (g.K.Lookup.keeping c.args.keeper.now) c.args.at c.args.id c.in_ok-prepared.prepared c.in_err-card.field-0.0
    (rw (to_z-of_z w64 c.args.at at) at c.in_ok-prepared.ensures.reads.told)
    (rw (c.in_ok-prepared.ensures.reads.same, to_z-of_z w64 c.args.id id) at c.in_err-card.ensures.refused))

pub returns-clause-ok : goal.returns-clause-ok
returns-clause-ok g c =
    let at : SFits w64 c.args.at = c.ranges.at in
    let id : SFits w64 c.args.id = c.ranges.id in
    let review : SFits w64 c.in_ok-review.review = search rules in
    rw (to_z-of_z w64 c.in_ok-review.review review)
    (asked_told (g.K.Lookup.keeping c.args.keeper.now) c.args.at c.args.id c.in_ok-prepared.prepared c.in_ok-card.card c.in_ok-review.review c.in_ok-review.ensures.some c.in_ok-review.ensures.ok
    (rw (to_z-of_z w64 c.args.at at) at c.in_ok-prepared.ensures.reads.told)
    (rw (c.in_ok-prepared.ensures.reads.same, to_z-of_z w64 c.args.id id) at c.in_ok-card.ensures.ok))

pub returns-clause-refused : goal.returns-clause-refused
returns-clause-refused g c =
    let at : SFits w64 c.args.at = c.ranges.at in
    let id : SFits w64 c.args.id = c.ranges.id in
    ask_accepted Card Asked (g.K.Lookup.keeping c.args.keeper.now) c.args.at c.args.id c.in_ok-prepared.prepared c.in_ok-card.card _ c.in_ok-review.ensures.some
    (rw (to_z-of_z w64 c.args.at at) at c.in_ok-prepared.ensures.reads.told)
    (rw (c.in_ok-prepared.ensures.reads.same, to_z-of_z w64 c.args.id id) at c.in_ok-card.ensures.refused)

pub returns-in_err-review-clause-refused : goal.returns-in_err-review-clause-refused
returns-in_err-review-clause-refused g c =
    let at : SFits w64 c.args.at = c.ranges.at in
    let id : SFits w64 c.args.id = c.ranges.id in
    let p = err_from_is_err_and c.from_residual-in_err-review.result c.from_residual-in_err-review.ensures.1 in
    rw (p.1, p.2)
    (review_refused Card Asked (g.K.Lookup.keeping c.args.keeper.now) c.args.at c.args.id c.in_ok-prepared.prepared c.in_ok-card.card c.in_err-review.field-0.0 c.in_err-review.ensures.err.0 c.in_err-review.ensures.err.1
    (rw (to_z-of_z w64 c.args.at at) at c.in_ok-prepared.ensures.reads.told)
    (rw (c.in_ok-prepared.ensures.reads.same, to_z-of_z w64 c.args.id id) at c.in_ok-card.ensures.refused))

pub returns-in_err-card-clause-cause : goal.returns-in_err-card-clause-cause
returns-in_err-card-clause-cause g c =
    let p = err_from_is_err_and c.from_residual-in_err-card.result c.from_residual-in_err-card.ensures.1 in
    rw (p.1, p.2) (later_cause _ _ _ _ _ c.in_err-card.field-0.0 c.in_ok-prepared.ensures.reads.cause.goes c.in_err-card.ensures.cause)

pub returns-in_err-card-clause-listed : goal.returns-in_err-card-clause-listed
returns-in_err-card-clause-listed g c =
    let id : SFits w64 c.args.id = c.ranges.id in
    let p = err_from_is_err_and c.from_residual-in_err-card.result c.from_residual-in_err-card.ensures.1 in
    rw (p.1, p.2) (card_is_asked c.args.id c.in_err-card.field-0.0 (rw (to_z-of_z w64 c.args.id id) at c.in_err-card.ensures.listed))

pub returns-clause-cause : goal.returns-clause-cause
returns-clause-cause g c = cause_ok _ (goes_further c.in_ok-prepared.ensures.reads.cause.goes c.in_ok-card.ensures.cause.goes)

pub returns-in_err-review-clause-cause : goal.returns-in_err-review-clause-cause
returns-in_err-review-clause-cause g c =
    let p = err_from_is_err_and c.from_residual-in_err-review.result c.from_residual-in_err-review.ensures.1 in
    rw (p.1, p.2) (cause_of_end _ _ _ c.in_err-review.field-0.0 c.in_err-review.ensures.err.1 (goes_further c.in_ok-prepared.ensures.reads.cause.goes c.in_ok-card.ensures.cause.goes))
