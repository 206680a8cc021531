-- What one exchange over a link comes to.
use Rattle.std.proofs.Common.{◌≡◌, inr, ℕ, List, Option, Result, sym, subst}
use Rattle.std.specs.Prelude.{OnOk, OnErr}
use Rattle.std.specs.Io.KnownBytes.{Appends}
use Rattle.ak_faults.specs.Causes.{Health, HasCause, HasCauseOf}
use Rattle.ak_io.specs.Scripts.{AppendsPart}
use Rattle.ak_io.specs.declared.traits.Failed.{Failed}
use Rattle.ak_links.specs.Dials.{GivesFirst}
use Rattle.ak_messages.specs.declared.methods.Method.{Method}
use Rattle.ak_messages.specs.declared.replies.Reply.{Reply}
use Rattle.ak_client_wire.specs.declared.wires.WireEnd.{WireEnd}
use Rattle.ak_http_wires.specs.Answers.{ReadsAnswerFrom}
use Rattle.ak_http_wires.specs.Exchanges.{Exchanges, answer_after}
use Rattle.ak_http_wires.specs.HttpWires.{CallsOnce}
use Rattle.ak_http_wires.specs.declared.answers.AnswerFault.{AnswerFault}
use Rattle.ak_http_wires.specs.declared.answers.AnswerFault.TheVariants as faults

-- the bytes were written to the link, and then what was left was read
pub exchanged : {L : Type 0} (left written : L → Option (List ℕ)) (health : L → Health) (method : Method) (text bytes : List ℕ)
    (opened between ended : L) (sent : Result (Unit {0}) Failed) (answer : Result Reply AnswerFault) (result : Result Reply WireEnd)
    → bytes ≡ text → written ended ≡ written between → OnOk sent (Appends (written opened) (written between) bytes)
    → OnErr sent (AppendsPart (written opened) (written between) bytes) → HasCause (health opened) (health between) sent
    → ReadsAnswerFrom method (left between) answer → HasCauseOf faults.Failed (health between) (health ended) answer
    → result ≡ answer_after sent answer → Exchanges left written health method text opened ended result
exchanged left written health method text bytes opened between ended sent answer result same apart whole part unsent read unread is = record {
  between = between;
  sent = sent;
  whole = subst (λ w. OnOk sent (Appends (written opened) w text)) (sym apart)
      (subst (λ l. OnOk sent (Appends (written opened) (written between) l)) same whole);
  part = subst (λ w. OnErr sent (AppendsPart (written opened) w text)) (sym apart)
      (subst (λ l. OnErr sent (AppendsPart (written opened) (written between) l)) same part);
  unsent = unsent;
  answer = answer;
  read = read;
  unread = unread;
  is = is;
}

-- the dial gave a link, and the exchange was made over it
pub carried : {D L : Type 0} (to_come : D → Option (List L)) (dialling : D → Health) (left written : L → Option (List ℕ)) (health : L → Health)
    (method made : Method) (text shown : List ℕ) (old new : D) (opened ended : L) (result : Result Reply WireEnd)
    → made ≡ method → shown ≡ text → GivesFirst (to_come old) (to_come new) opened
    → Exchanges left written health made shown opened ended result → CallsOnce to_come dialling left written health method text old new result
carried to_come dialling left written health method made text shown old new opened ended result is_method is_text gives exchanges = inr (inr (record {
  opened = opened;
  ended = ended;
  gives = gives;
  exchanges = subst (λ m. Exchanges left written health m text opened ended result) is_method
      (subst (λ l. Exchanges left written health made l opened ended result) is_text exchanges);
}))
