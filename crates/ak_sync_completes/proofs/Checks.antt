-- What a bad sanity check of a sync shows: the first fault of the join.
use Rattle.std.specs.FinMap.{get}
use Rattle.std.specs.Option.{option_map_or}
use Rattle.std.specs.Prelude.{◌≡◌, Bool, true, false, not, if◌then◌else◌, List, Option, Some, None, IfSome, option_and_then, Result, Ok, Err}
use Rattle.std.proofs.Common.{refl, sym, ap, subst, ◌∙◌, arith}
use Rattle.std.proofs.lemmas.Option.{none-some}
use Rattle.ak_client_wire.specs.Forms.{shows_cause, verdict_in}
use Rattle.ak_exchange.specs.Stops.{check_stop, verdict_of}
use Rattle.ak_exchange.specs.declared.stops.Stop.{Stop}
use Rattle.ak_exchange.specs.declared.stops.Stop.TheVariants as stops
use Rattle.ak_keep.specs.Collections.{Collection, Rows}
use Rattle.ak_merge.specs.Holdings.{row_under}
use Rattle.ak_merge.specs.Joins.{joined_under}
use Rattle.ak_merge.specs.Soundness.{IsLeastFault, fault_id}
use Rattle.ak_merge.specs.declared.checks.CheckFault.{CheckFault}
use Rattle.ak_messages.specs.declared.replies.Give.TheVariants as gives
use Rattle.ak_messages.specs.declared.replies.SanityReply.{SanityReply}
use Rattle.ak_messages.specs.declared.requests.Ask.TheVariants as asks
use Rattle.ak_messages.specs.declared.requests.Request.{Request}
use Rattle.ak_session.proofs.CheckLaws.{folds_hold_the_join, sync_check_told}
use Rattle.ak_session.specs.Answers.{counts_of}
use Rattle.ak_session.specs.Asks.{asks_of}
use Rattle.ak_session.specs.Contents.{answer, ends, folded}
use Rattle.ak_session.specs.Plans.{device_rows, planned_pushes}
use Rattle.ak_session.specs.Refusals.{is_id}
use Rattle.ak_session.specs.Sessions.{MaySync}
use Rattle.ak_sync_completes.proofs.Faults.{first_by_content}
use Rattle.ak_sync_completes.proofs.Metas.{one_of}

-- the reply that was shown is the one that was given
given_is : (own reply : SanityReply) → verdict_in (gives.Sanity own) ≡ Some reply → own ≡ reply
given_is own reply = by (option_map_or (λ (fault : CheckFault). is_id (fault_id fault)) own.fault true)
  where
    by : (b : Bool) → option_and_then (λ (r : SanityReply). if shows_cause r then Some r else None) (if b then Some own else None) ≡ Some reply → own ≡ reply
    by true is = one_of (shows_cause own) own reply is
    by false is = absurd (none-some reply is)

-- a reply that stops a sync at a bad row is bad, and has that fault
bad_row_shown : (reply : SanityReply) (fault : CheckFault) → verdict_of reply ≡ Err (stops.BadRow fault) → (reply.good ≡ false) × (reply.fault ≡ Some fault)
bad_row_shown reply fault = by reply.good reply.fault
  where
    by : (good : Bool) (o : Option CheckFault)
        → (let found : Result (Unit {0}) Stop = if good then Ok (tt {0}) else Err (check_stop o reply.client reply.server) in found ≡ Err (stops.BadRow fault))
        → (good ≡ false) × (o ≡ Some fault)
    by true o is = absurd (grind (arith, is))
    by false None is = absurd (grind (arith, is))
    by false (Some found) is = (refl, grind (arith, is))

is_over : (b : Bool) → not b ≡ false → b ≡ true
is_over true is = refl
is_over false is = grind (arith, is)

-- the fault that a bad check of a sync shows is the first of the join
pub first_fault_shown : (c s : Collection) (accepted : List Request) (check : Request) (fault : CheckFault) (reply : SanityReply) → MaySync c s
    → asks_of accepted ≡ planned_pushes c s → check.ask ≡ asks.SanityCheck2 (counts_of (device_rows c s (planned_pushes c s)))
    → verdict_in (answer s accepted check) ≡ Some reply → verdict_of reply ≡ Err (stops.BadRow fault)
    → IsLeastFault (joined_under (row_under c) (row_under s)) fault
first_fault_shown c s accepted check fault reply may asked is shown bad =
    let held : Rows = (folded s accepted).rows in
    let told = sync_check_told c s accepted check may asked is in
    let own : told.0 ≡ reply = given_is told.0 reply (ap verdict_in (sym told.1) ∙ shown) in
    let row = bad_row_shown reply fault bad in
    let over : ends s accepted check ≡ true =
    is_over (ends s accepted check) (sym told.2.good ∙ ap (λ (r : SanityReply). r.good) own ∙ row.0) in
    let least : IsLeastFault (get held) fault =
    subst (λ (o : Option CheckFault). IfSome o (IsLeastFault (get held))) (ap (λ (r : SanityReply). r.fault) own ∙ row.1) (told.2.fault over) in
    first_by_content (get held) (joined_under (row_under c) (row_under s)) (folds_hold_the_join c s accepted may asked).rows fault least
