use Rattle.ak_filtered.proofs.candidates.add_if_card.Goals as goal

pub returns-in-Card : goal.returns-in-Card
returns-in-Card g c = rw c.in-Card.is (record { reads = c.add_card.ensures.reads })
