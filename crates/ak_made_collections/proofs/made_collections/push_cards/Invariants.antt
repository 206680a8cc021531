use Rattle.std.proofs.Common.{◌≡◌, ◌++◌}
use Rattle.ak_made_collections.specs.MadeLists.{card_rows}
use Rattle.ak_made_collections.proofs.made_collections.push_cards.Given as goal

-- those so far are at the end
abbrev pub invariant-loop-number : goal.invariant-loop-number
invariant-loop-number l = l.rows.items ≡ l.fn.rows.items ++ card_rows l.seed l.number
