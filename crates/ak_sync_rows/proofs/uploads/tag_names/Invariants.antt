use Rattle.std.proofs.Common.{◌≡◌, ◌++◌, drop}
use Rattle.ak_base.specs.Heads.{tag_names}
use Rattle.ak_sync_rows.proofs.uploads.tag_names.Given as goal

-- the names so far and those of the tags that are left are those of all
abbrev pub invariant-loop-tag : goal.invariant-loop-tag
invariant-loop-tag l = l.names ++ tag_names (drop l.tag-index l.tags) ≡ tag_names l.tags
