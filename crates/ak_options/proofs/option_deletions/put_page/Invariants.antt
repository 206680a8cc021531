use Rattle.std.proofs.Common.{◌≡◌}
use Rattle.ak_options.specs.OptionDeletions.{put_defaults}
use Rattle.ak_options.proofs.option_deletions.put_page.Given as goal

-- what the rest makes of the changes so far is what all make of those at first
abbrev pub invariant-loop-row : goal.invariant-loop-row
invariant-loop-row l = put_defaults l.deleted.options l.row-iterator.rest.items l.change ≡ put_defaults l.deleted.options l.fn.rows.items l.fn.change
