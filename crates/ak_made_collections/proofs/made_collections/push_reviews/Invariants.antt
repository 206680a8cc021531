use Rattle.std.proofs.Common.{◌≡◌, ◌++◌}
use Rattle.ak_made_collections.specs.MadeLists.{review_rows}
use Rattle.ak_made_collections.proofs.made_collections.push_reviews.Given as goal

-- those so far are at the end
abbrev pub invariant-loop-number : goal.invariant-loop-number
invariant-loop-number l = l.rows.items ≡ l.fn.rows.items ++ review_rows l.seed l.number
