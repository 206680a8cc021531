use Rattle.ak_protocol.proofs.ContentLaws.{opened_lawful, lawful_served, lawful_stays_lawful, servers_stay_lawful}
use Rattle.ak_protocol.proofs.content_laws.lawful_stays_lawful.Goals as goal

pub returns : goal.returns
returns c = record {
  opening = opened_lawful;
  served = λ s request now setback timely lawful. lawful_served s request now timely lawful setback;
  account = lawful_stays_lawful;
  server = servers_stay_lawful;
}
