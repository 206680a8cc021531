-- What a wire counts of its calls.
use Rattle.std.specs.Prelude.{ℕ, None, Result, Ok, Err}
use Rattle.ak_faults.specs.Causes.{one_more}
use Rattle.ak_call_counts.specs.declared.call_counts.CallCounts.{CallCounts}
use Rattle.ak_messages.specs.declared.replies.Reply.{Reply}
use Rattle.ak_messages.specs.declared.requests.Request.{Request}
use Rattle.ak_client_wire.specs.Wires.{said_after, silence_after}
use Rattle.ak_client_wire.specs.declared.wires.WireEnd.{WireEnd}
use Rattle.ak_client_wire.specs.declared.wires.WireEnd.TheVariants as ends

-- no call was made
abbrev pub no_calls : CallCounts
no_calls = record { calls = 0; faults = 0; silent = 0; said = None }

-- how many calls failed, once so many did before this call
abbrev pub faults_after : ℕ → Result Reply WireEnd → ℕ
faults_after before (Err ends.Failed) = one_more before
faults_after before (Err ends.BadReply) = before
faults_after before (Err ends.Memory) = before
faults_after before (Ok reply) = before

-- the counts after a call that was answered so
abbrev pub counts_after : CallCounts → Request → Result Reply WireEnd → CallCounts
counts_after c request answer = record {
  calls = one_more c.calls;
  faults = faults_after c.faults answer;
  silent = silence_after c.silent answer;
  said = said_after request answer;
}
