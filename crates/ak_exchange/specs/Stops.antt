-- Why a sync stops.
use Rattle.std.specs.Prelude.{Bool, true, false, if◌then◌else◌, Option, Some, None, Result, Ok, Err}
use Rattle.ak_client_wire.specs.declared.asks.Unanswered.{Unanswered}
use Rattle.ak_client_wire.specs.declared.asks.Unanswered.TheVariants as unanswered
use Rattle.ak_exchange.specs.declared.stops.Stop.{Stop}
use Rattle.ak_exchange.specs.declared.stops.Stop.TheVariants as stops
use Rattle.ak_keep.specs.declared.keepers.KeepFault.{KeepFault}
use Rattle.ak_keep.specs.declared.keepers.KeepFault.TheVariants as faults
use Rattle.ak_merge.specs.declared.checks.CheckFault.{CheckFault}
use Rattle.ak_messages.specs.declared.replies.SanityReply.{SanityReply}
use Rattle.ak_messages.specs.declared.requests.SanityCounts.{SanityCounts}

-- why a sync stops if the keeper refused
abbrev pub keep_stop : KeepFault → Stop
keep_stop faults.Failed = stops.Keep
keep_stop faults.Memory = stops.Memory

-- why it stops if a request was not granted
abbrev pub wire_stop : Unanswered → Stop
wire_stop unanswered.Lost = stops.Lost
wire_stop unanswered.BadReply = stops.BadReply
wire_stop (unanswered.Refused status word seen) = stops.Refused status word seen
wire_stop unanswered.Memory = stops.Memory

-- whether a sync that stops so has not asked its finish. A request that is not granted may be the finish, and so may one that there is no
-- memory for
abbrev pub comes_before_finish : Stop → Bool
comes_before_finish (stops.BadRow fault) = true
comes_before_finish (stops.BadCounts client server) = true
comes_before_finish (stops.Refused status word seen) = false
comes_before_finish stops.Lost = false
comes_before_finish stops.BadReply = false
comes_before_finish stops.TooManyChunks = true
comes_before_finish stops.Keep = true
comes_before_finish stops.Memory = false

-- what a bad sanity check shows: a fault, or else counts that differ
abbrev pub check_stop : Option CheckFault → SanityCounts → SanityCounts → Stop
check_stop None client server = stops.BadCounts client server
check_stop (Some fault) client server = stops.BadRow fault

-- what a sanity check found
abbrev pub verdict_of : SanityReply → Result (Unit {0}) Stop
verdict_of reply = if reply.good then Ok tt else Err (check_stop reply.fault reply.client reply.server)

-- whether a sync stops at a bad sanity check
abbrev pub shows_bad_check : Stop → Bool
shows_bad_check (stops.BadRow fault) = true
shows_bad_check (stops.BadCounts client server) = true
shows_bad_check stop = false

-- whether a sync stops because the keeper failed
abbrev pub is_keep : Stop → Bool
is_keep stops.Keep = true
is_keep stop = false

-- whether a sync stops because the keeper failed or memory ran out
abbrev pub is_keep_or_memory : Stop → Bool
is_keep_or_memory stops.Keep = true
is_keep_or_memory stops.Memory = true
is_keep_or_memory stop = false
