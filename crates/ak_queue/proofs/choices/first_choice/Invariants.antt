use Rattle.ak_queue.proofs.Rooming.{Chooses}
use Rattle.ak_queue.proofs.choices.first_choice.Given as goal

-- the cards so far, with what those that are left add, are the choice
abbrev pub invariant-loop-path : goal.invariant-loop-path
invariant-loop-path l = Chooses l.limits l.cards.keys l.path-iterator l.ids l.rooms.items
