-- Cards that are set aside, and the queues that they come back to.
use Rattle.std.specs.Prelude.{ℤ, pos, negsuc, Bool, ◌||◌, if◌then◌else◌, int_lt}
use Rattle.std.specs.Ordering.{int_eq}
use Rattle.ak_base.specs.declared.cards.Card.{Card}
use Rattle.ak_queue.specs.Burials.{restored_queue}

-- a card in this queue
abbrev pub queued : ℤ → Card → Card
queued queue card = record card { queue = queue }

-- a card in the queue that it goes back to
abbrev pub restored : Card → Card
restored card = queued (restored_queue card) card

-- a suspended card: its queue is -1
abbrev pub suspended : Card → Card
suspended = queued (negsuc 0)

-- a card that is suspended no more
abbrev pub unsuspended : Card → Card
unsuspended card = if int_eq card.queue (negsuc 0) then restored card else card

-- a card that was buried by hand, unless it is set aside already: its queue is -3
abbrev pub buried_by_hand : Card → Card
buried_by_hand card = if int_lt card.queue (pos 0) then card else queued (negsuc 2) card

-- whether a card is buried: as a sibling in queue -2, by hand in queue -3
abbrev pub lies_buried : Card → Bool
lies_buried card = int_eq card.queue (negsuc 1) || int_eq card.queue (negsuc 2)

-- a card that is buried no more
abbrev pub unburied : Card → Card
unburied card = if lies_buried card then restored card else card
