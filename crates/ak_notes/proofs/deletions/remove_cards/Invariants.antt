use Rattle.std.proofs.Common.{◌≡◌, drop}
use Rattle.ak_notes.specs.Deletions.{without_cards}
use Rattle.ak_notes.proofs.deletions.remove_cards.Given as goal

-- what the rest makes of the changes so far is what all make of those at first
abbrev pub invariant-loop-id : goal.invariant-loop-id
invariant-loop-id l = without_cards (drop l.id-index l.cards) l.change ≡ without_cards l.cards l.fn.change
