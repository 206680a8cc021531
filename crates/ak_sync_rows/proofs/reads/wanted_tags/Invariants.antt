use Rattle.std.proofs.Common.{◌≡◌, ◌++◌, drop}
use Rattle.ak_merge.specs.Exchanges.{wanted_tags}
use Rattle.ak_sync_rows.proofs.reads.wanted_tags.Given as goal

-- the names so far and those of the tags that are left are those of all
abbrev pub invariant-loop-tag : goal.invariant-loop-tag
invariant-loop-tag l = l.names ++ wanted_tags l.fn.want (drop l.tag-index l.fn.tags) ≡ wanted_tags l.fn.want l.fn.tags
