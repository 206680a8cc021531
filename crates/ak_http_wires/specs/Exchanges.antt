-- One request and one answer over one link.
use Rattle.std.specs.Prelude.{◌≡◌, ℕ, List, Option, Result, Ok, Err, OnOk, OnErr}
use Rattle.std.specs.Io.KnownBytes.{Appends}
use Rattle.ak_faults.specs.Causes.{Health, HasCause, HasCauseOf}
use Rattle.ak_io.specs.Scripts.{AppendsPart}
use Rattle.ak_io.specs.declared.traits.Failed.{Failed}
use Rattle.ak_messages.specs.declared.methods.Method.{Method}
use Rattle.ak_messages.specs.declared.replies.Reply.{Reply}
use Rattle.ak_client_wire.specs.declared.wires.WireEnd.{WireEnd}
use Rattle.ak_client_wire.specs.declared.wires.WireEnd.TheVariants as ends
use Rattle.ak_http_wires.specs.Answers.{ReadsAnswerFrom}
use Rattle.ak_http_wires.specs.declared.answers.AnswerFault.{AnswerFault}
use Rattle.ak_http_wires.specs.declared.answers.AnswerFault.TheVariants as faults

-- what comes of an answer without a reading: that it is bad, if the whole request was written, and else that there is none
abbrev pub unread_after : Result (Unit {0}) Failed → WireEnd
unread_after (Ok done) = ends.BadReply
unread_after (Err failed) = ends.Failed

-- what a call of the wire answers, by how the writing and the reading ended
abbrev pub answer_after : Result (Unit {0}) Failed → Result Reply AnswerFault → Result Reply WireEnd
answer_after sent (Ok reply) = Ok reply
answer_after sent (Err faults.Unreadable) = Err (unread_after sent)
answer_after sent (Err faults.Failed) = Err ends.Failed
answer_after sent (Err faults.Memory) = Err ends.Memory

-- the text was written to a link and nothing else, or a front of it and then the writing failed; and the bytes that were to be
-- read then were read as an answer
pub record Exchanges {L : Type 0} (left written : L → Option (List ℕ)) (health : L → Health) (method : Method) (text : List ℕ)
    (opened ended : L) (result : Result Reply WireEnd) : Type 0 where
  -- the link between the writing and the reading
  pub between : L
  pub sent : Result (Unit {0}) Failed
  pub whole : OnOk sent (Appends (written opened) (written ended) text)
  pub part : OnErr sent (AppendsPart (written opened) (written ended) text)
  pub unsent : HasCause (health opened) (health between) sent
  pub answer : Result Reply AnswerFault
  pub read : ReadsAnswerFrom method (left between) answer
  pub unread : HasCauseOf faults.Failed (health between) (health ended) answer
  pub is : result ≡ answer_after sent answer
