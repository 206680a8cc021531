use Rattle.std.proofs.Common.{◌≡◌, length}
use Rattle.ak_keep.specs.WaitingCards.{AscendsAfter, last_place}
use Rattle.ak_keep.proofs.WaitingCards.{IsAhead}
use Rattle.ak_keep.proofs.queue_walks.QueueWalk.go_past.Given as goal

-- the last of the cards that are left is the last of all, and nothing else changes
abbrev pub invariant-loop-card : goal.invariant-loop-card
invariant-loop-card l = record {
  last : record l.self { waiting = record l.self.waiting { past = last_place l.self.waiting.past l.rest } } ≡ record l.fn.self { waiting = record l.fn.self.waiting { past = last_place l.fn.self.waiting.past l.cards } };
  ahead : AscendsAfter l.fn.self.waiting.past l.cards → IsAhead l.fn.self.waiting.past l.cards l.self.waiting.past l.rest;
}

abbrev pub decreases-loop-card : goal.decreases-loop-card
decreases-loop-card l = length l.rest
