use Rattle.std.proofs.Common.{◌≡◌, true, false, rules, w64, SFits}
use Rattle.std.proofs.lemmas.Int.{to_z-of_z}
use Rattle.std.proofs.lemmas.Result.{err_from_is_err_and}
use Rattle.ak_edit.specs.DeskFaults.{of_keep_fault}
use Rattle.ak_filtered.proofs.Sendings.{none_sent, outside_sent, refused_sent, some_sent}
use Rattle.ak_study.proofs.AnswerFaults.{from_keeper}
use Rattle.ak_filtered.proofs.home_decks.send_home.Goals as goal

pub returns-clause-ends : goal.returns-clause-ends
returns-clause-ends g c =
    let fits : SFits w64 c.args.at = c.ranges.at in
    let went : c.in_ok-sending.sending.went ≡ true = search rules in
    some_sent (g.K.Lookup.keeping c.args.keeper.now) (g.K.Lookup.keeping c.finish_cleared.new.keeper) c.args.at c.args.cards.now c.in_ok-sending.sending c.args.steps.now c.finish_cleared.new.steps tt went
    c.in_ok-sending.ensures.reads.told
    (rw (c.in_ok-sending.ensures.reads.same, to_z-of_z w64 c.args.at fits) at c.in_ok-finish_cleared.ensures.ok) (rw (c.in_ok-sending.ensures.reads.same, to_z-of_z w64 c.args.at fits) at c.in_ok-finish_cleared.ensures.refused)

pub returns-in_err-finish_cleared-clause-ends : goal.returns-in_err-finish_cleared-clause-ends
returns-in_err-finish_cleared-clause-ends g c =
    let fits : SFits w64 c.args.at = c.ranges.at in
    let went : c.in_ok-sending.sending.went ≡ true = search rules in
    let p = err_from_is_err_and c.from_residual-in_err-finish_cleared.result c.from_residual-in_err-finish_cleared.ensures.1 in
    rw (p.1, p.2, c.in_err-finish_cleared.ensures.err, c.in_ok-sending.ensures.reads.same, c.in_err-finish_cleared.ensures.kept)
    (refused_sent (g.K.Lookup.keeping c.args.keeper.now) c.args.at c.args.cards.now c.in_ok-sending.sending c.args.steps.now c.in_err-finish_cleared.field-0.0 went c.in_ok-sending.ensures.reads.told
    (rw c.in_ok-sending.ensures.reads.same at c.in_err-finish_cleared.ensures.known) (rw (c.in_ok-sending.ensures.reads.same, to_z-of_z w64 c.args.at fits) at c.in_err-finish_cleared.ensures.refused))

pub returns-in_err-sending-clause-ends : goal.returns-in_err-sending-clause-ends
returns-in_err-sending-clause-ends g c =
    let p = err_from_is_err_and c.from_residual.result c.from_residual.ensures.1 in
    rw (c.in_err-sending.ensures.reads.same, p.1, p.2)
    (outside_sent (g.K.Lookup.keeping c.args.keeper.now) c.args.at c.args.cards.now c.args.steps.now (of_keep_fault c.in_err-sending.field-0.0) (from_keeper c.in_err-sending.field-0.0))

pub returns-then-not-went-clause-ends : goal.returns-then-not-went-clause-ends
returns-then-not-went-clause-ends g c =
    let stays : c.in_ok-sending.sending.went ≡ false = search rules in
    rw c.in_ok-sending.ensures.reads.same (none_sent (g.K.Lookup.keeping c.args.keeper.now) c.args.at c.args.cards.now c.in_ok-sending.sending c.args.steps.now stays c.in_ok-sending.ensures.reads.told)
