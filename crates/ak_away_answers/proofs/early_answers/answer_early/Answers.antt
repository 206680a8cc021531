use Rattle.std.proofs.Common.{◌≡◌, inl, inr, refl, rules, w64, SFits}
use Rattle.std.proofs.lemmas.Int.{to_z-of_z}
use Rattle.std.proofs.lemmas.Result.{err_from_is_err_and}
use Rattle.ak_away_answers.proofs.EarlyEnds.{IsReady, early_done, early_no_id, early_outside, early_refused, ready}
use Rattle.ak_base.specs.Columns.{id_fault}
use Rattle.ak_base.specs.Reviews.{IsCheckedReview}
use Rattle.ak_edit_calls.proofs.Ids.{id_fits}
use Rattle.ak_edit.specs.DeskFaults.{of_keep_fault}
use Rattle.ak_edit.specs.Ends.{IsHeldRightly}
use Rattle.ak_edit.specs.declared.desk_faults.DeskFault.TheVariants as faults
use Rattle.ak_faults.proofs.Healths.{goes_further}
use Rattle.ak_keep.specs.Keepers.{WhereHeld}
use Rattle.ak_study.proofs.AnswerFaults.{cause_ok, from_keeper, later_cause}
use Rattle.ak_away_answers.proofs.early_answers.answer_early.Goals as goal

pub returns-in_err-name-clause-ends : goal.returns-in_err-name-clause-ends
returns-in_err-name-clause-ends g c =
    let at : SFits w64 c.args.at = c.ranges.at in
    let p = err_from_is_err_and c.from_residual.result c.from_residual.ensures.1 in
    rw (p.1, p.2, c.in_err-name.ensures.same)
    (early_no_id (g.K.Lookup.keeping c.args.keeper.now) c.args.at c.args.given.now c.args.asked.now c.args.steps.now c.in_err-name.field-0.0 (rw (to_z-of_z w64 c.args.at at) at c.in_err-name.ensures.refused))

pub returns-in_err-name-clause-listed : goal.returns-in_err-name-clause-listed
returns-in_err-name-clause-listed g c =
    let p = err_from_is_err_and c.from_residual.result c.from_residual.ensures.1 in
    rw (p.1, p.2) (inl c.in_err-name.ensures.listed)

pub returns-in_err-early-clause-ends : goal.returns-in_err-early-clause-ends
returns-in_err-early-clause-ends g c =
    let p = err_from_is_err_and c.from_residual-in_err-early.result c.from_residual-in_err-early.ensures.1 in
    rw (p.1, p.2, c.in_err-early.ensures.reads.same, c.in_ok-name.ensures.same)
    (early_outside (g.K.Lookup.keeping c.args.keeper.now) c.args.at c.args.given.now c.args.asked.now c.args.steps.now (of_keep_fault c.in_err-early.field-0.0) (from_keeper c.in_err-early.field-0.0))

pub returns-in_err-change-clause-ends : goal.returns-in_err-change-clause-ends
returns-in_err-change-clause-ends g c =
    let p = err_from_is_err_and c.from_residual-in_err-change.result c.from_residual-in_err-change.ensures.1 in
    rw (p.1, p.2, c.in_ok-early.ensures.reads.same, c.in_ok-name.ensures.same)
    (early_outside (g.K.Lookup.keeping c.args.keeper.now) c.args.at c.args.given.now c.args.asked.now c.args.steps.now faults.Memory (inr refl))

pub returns-clause-ends : goal.returns-clause-ends
returns-clause-ends g c =
    let at : SFits w64 c.args.at = c.ranges.at in
    let id : SFits w64 c.in_ok-name.name.id = search rules in
    let known : WhereHeld (g.K.Lookup.keeping c.args.keeper.now) IsHeldRightly = rw (c.in_ok-early.ensures.reads.same, c.in_ok-name.ensures.same) at c.in_ok-finish_cleared.ensures.known in
    let is : WhereHeld (g.K.Lookup.keeping c.args.keeper.now) (IsReady c.args.at c.args.given.now c.args.asked.now c.in_ok-name.name c.in_ok-early.early) =
    ready (g.K.Lookup.keeping c.args.keeper.now) c.args.at c.args.given.now c.args.asked.now c.in_ok-name.name c.in_ok-early.early known c.requires.asked (rw (to_z-of_z w64 c.args.at at) at c.in_ok-name.ensures.new)
    (rw (to_z-of_z w64 c.args.at at) at c.in_ok-name.ensures.refused) (rw (c.in_ok-name.ensures.same, to_z-of_z w64 c.in_ok-name.name.id id) at c.in_ok-early.ensures.reads.told) in
    let review : IsCheckedReview c.in_ok-early.early.review = (rw (to_z-of_z w64 c.in_ok-name.name.id id) at c.in_ok-early.ensures.review) (id_fits c.in_ok-name.name.id c.in_ok-name.ensures.range) in
    early_done (g.K.Lookup.keeping c.args.keeper.now) (g.K.Lookup.keeping c.finish_cleared.new.keeper) c.args.at c.args.given.now c.args.asked.now c.in_ok-name.name c.in_ok-early.early c.in_ok-change.change c.args.steps.now
    c.finish_cleared.new.steps tt c.in_ok-name.ensures.table c.in_ok-change.ensures c.in_ok-early.ensures.card review is
    (rw (c.in_ok-early.ensures.reads.same, c.in_ok-name.ensures.same, to_z-of_z w64 c.args.at at) at c.in_ok-finish_cleared.ensures.ok)
    (rw (c.in_ok-early.ensures.reads.same, c.in_ok-name.ensures.same, to_z-of_z w64 c.args.at at) at c.in_ok-finish_cleared.ensures.refused)

pub returns-in_err-finish_cleared-clause-ends : goal.returns-in_err-finish_cleared-clause-ends
returns-in_err-finish_cleared-clause-ends g c =
    let at : SFits w64 c.args.at = c.ranges.at in
    let id : SFits w64 c.in_ok-name.name.id = search rules in
    let known : WhereHeld (g.K.Lookup.keeping c.args.keeper.now) IsHeldRightly = rw (c.in_ok-early.ensures.reads.same, c.in_ok-name.ensures.same) at c.in_err-finish_cleared.ensures.known in
    let is : WhereHeld (g.K.Lookup.keeping c.args.keeper.now) (IsReady c.args.at c.args.given.now c.args.asked.now c.in_ok-name.name c.in_ok-early.early) =
    ready (g.K.Lookup.keeping c.args.keeper.now) c.args.at c.args.given.now c.args.asked.now c.in_ok-name.name c.in_ok-early.early known c.requires.asked (rw (to_z-of_z w64 c.args.at at) at c.in_ok-name.ensures.new)
    (rw (to_z-of_z w64 c.args.at at) at c.in_ok-name.ensures.refused) (rw (c.in_ok-name.ensures.same, to_z-of_z w64 c.in_ok-name.name.id id) at c.in_ok-early.ensures.reads.told) in
    let review : IsCheckedReview c.in_ok-early.early.review = (rw (to_z-of_z w64 c.in_ok-name.name.id id) at c.in_ok-early.ensures.review) (id_fits c.in_ok-name.name.id c.in_ok-name.ensures.range) in
    let p = err_from_is_err_and c.from_residual-in_err-finish_cleared.result c.from_residual-in_err-finish_cleared.ensures.1 in
    rw (p.1, p.2, c.in_err-finish_cleared.ensures.err, c.in_ok-early.ensures.reads.same, c.in_ok-name.ensures.same, c.in_err-finish_cleared.ensures.kept)
    (early_refused (g.K.Lookup.keeping c.args.keeper.now) c.args.at c.args.given.now c.args.asked.now c.in_ok-name.name c.in_ok-early.early c.in_ok-change.change c.args.steps.now c.in_err-finish_cleared.field-0.0 c.in_ok-name.ensures.table
    c.in_ok-change.ensures c.in_ok-early.ensures.card review is (rw (c.in_ok-early.ensures.reads.same, c.in_ok-name.ensures.same, to_z-of_z w64 c.args.at at) at c.in_err-finish_cleared.ensures.refused))

pub returns-in_err-finish_cleared-clause-listed : goal.returns-in_err-finish_cleared-clause-listed
returns-in_err-finish_cleared-clause-listed g c =
    let p = err_from_is_err_and c.from_residual-in_err-finish_cleared.result c.from_residual-in_err-finish_cleared.ensures.1 in
    rw (p.1, p.2) (inr c.in_err-finish_cleared.ensures.listed)

pub returns-clause-cause : goal.returns-clause-cause
returns-clause-cause g c =
    cause_ok _ (goes_further c.in_ok-name.ensures.cause.goes (goes_further c.in_ok-early.ensures.reads.cause.goes c.in_ok-finish_cleared.ensures.cause.goes))

pub returns-in_err-finish_cleared-clause-cause : goal.returns-in_err-finish_cleared-clause-cause
returns-in_err-finish_cleared-clause-cause g c =
    let p = err_from_is_err_and c.from_residual-in_err-finish_cleared.result c.from_residual-in_err-finish_cleared.ensures.1 in
    rw (p.1, p.2) (later_cause _ _ _ _ _ c.in_err-finish_cleared.field-0.0 (goes_further c.in_ok-name.ensures.cause.goes c.in_ok-early.ensures.reads.cause.goes) c.in_err-finish_cleared.ensures.cause)
