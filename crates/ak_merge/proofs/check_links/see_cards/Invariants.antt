use Rattle.std.proofs.Common.{◌≡◌, map}
use Rattle.ak_keep.specs.Collections.{Rows}
use Rattle.ak_merge.specs.CheckLinks.{AreKnown, forgotten}
use Rattle.ak_merge.proofs.check_links.see_cards.Given as goal

-- the links are what they were but for what is known of them, and that is true
abbrev pub invariant-loop-card : goal.invariant-loop-card
invariant-loop-card l = record {
  cards : map forgotten l.cards ≡ map forgotten l.fn.cards;
  notes : map forgotten l.notes ≡ map forgotten l.fn.notes;
  known : (held : Rows) → AreKnown held l.types l.fn.notes l.fn.cards → AreKnown held l.types l.notes l.cards;
}
