use Rattle.std.proofs.Common.{refl, inl, inr}
use Rattle.ak_protocol.proofs.growth_laws.others_may_come.Goals as goal

pub returns : goal.returns
returns c = record {
  views = λ past request host. tt;
  again = λ past request now setback timely. (timely, λ host session. inl refl);
  sessions = λ past request other now setback timely differs. (timely, λ host session. absurd (differs session));
  accounts = λ past request other now setback timely differs. (timely, λ host session. absurd (differs host));
  earlier = λ past request other now setback timely asked. (timely, λ host session. inr asked);
}
