-- Why a request is refused, as the program says it.
use Rattle.std.specs.Option.{option_map}
use Rattle.std.specs.Ordering.{int_eq}
use Rattle.std.specs.Prelude.{if◌then◌else◌, Option, Some, None}
use Rattle.ak_keep.specs.Collections.{Collection}
use Rattle.ak_keep.specs.declared.keepers.KeepFault.{KeepFault}
use Rattle.ak_keep.specs.declared.keepers.KeepFault.TheVariants as keep_faults
use Rattle.ak_messages.specs.declared.replies.Reply.{Reply}
use Rattle.ak_messages.specs.declared.requests.Request.{Request}
use Rattle.ak_protocol.specs.Replies.{Refusal, PastBase, NoSession, WrongStep, Objected, declined, keeper_failed, out_of_memory}
use Rattle.ak_protocol.specs.Serving.{Setback, KeeperFault, OutOfMemory}
use Rattle.ak_server_rules.specs.Serving.{objection_to, session_of, has_next_step}
use Rattle.ak_server_rules.specs.Summaries.{SessionSummary}
use Rattle.ak_server_rules.specs.declared.decisions.Declined.{Declined}
use Rattle.ak_server_rules.specs.declared.objections.Cause.{Cause}
use Rattle.ak_server_rules.specs.declared.objections.Cause.TheVariants as causes
use Rattle.ak_session.specs.Objections.{Objection, MayNotCome, WrongUsn, NoNumber, TooManyRows, WrongRow, WrongNewer}

-- the objection of a cause
abbrev pub objection_in : Cause → Objection
objection_in causes.Method = MayNotCome
objection_in causes.Usn = WrongUsn
objection_in causes.Sequence = NoNumber
objection_in causes.Rows = TooManyRows
objection_in causes.Row = WrongRow
objection_in causes.Newer = WrongNewer

-- ---- the decision
-- why a request over the committed moment is refused, by the live session of its key
abbrev pub refusal_in : Collection → Option SessionSummary → Request → Option Refusal
refusal_in committed None request = Some NoSession
refusal_in committed (Some live) request =
    if has_next_step live request
    then option_map (λ (why : Objection). Objected why live.last committed.head.usn) (objection_to committed live request.ask)
    else Some (WrongStep live.last)

-- why an account refuses a request that is no meta and no repeat, if it does: the first test that finds fault
abbrev pub refusal_of : Collection → Option SessionSummary → Request → Option Refusal
refusal_of committed live request =
    if int_eq request.base committed.head.moment then refusal_in committed (session_of live request) request
    else Some (PastBase committed.head.moment)

-- the reply to a request that is refused so
abbrev pub declined_so : Declined → Reply
declined_so why = declined why.status why.word why.seen

-- ---- setbacks
-- what came in between, by the fault that a call answered
abbrev pub setback_of : KeepFault → Setback
setback_of keep_faults.Failed = KeeperFault
setback_of keep_faults.Memory = OutOfMemory

-- the reply after a setback
abbrev pub setback_reply : KeepFault → Reply
setback_reply keep_faults.Failed = keeper_failed
setback_reply keep_faults.Memory = out_of_memory
