use Rattle.ak_keep.proofs.CardIds.{cards_of-in_range}
use Rattle.ak_memory.proofs.collections.MarkedCollection.cards_of.Goals as goal

pub returns-clause-range : goal.returns-clause-range
returns-clause-range c = cards_of-in_range _ (record { rows = c.self.inside.rows.current; head = c.self.inside.head.current }) c.in_ok-ids.ids c.self.invariant.current c.in_ok-ids.ensures.cards
