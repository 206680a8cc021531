use Rattle.std.proofs.Common.{◌≡◌, drop}
use Rattle.serde_json.specs.Data.{no_members}
use Rattle.serde_json.specs.View.{members_view}
use Rattle.ak_journal_rows.proofs.TagObjects.{put_tags}
use Rattle.ak_journal_rows.proofs.heads.write_tags.Given as goal

-- the members so far, and then those of the tags that are left
abbrev pub invariant-loop-tag : goal.invariant-loop-tag
invariant-loop-tag l = put_tags (drop l.tag-index l.tags) (members_view l.members.entries) ≡ put_tags l.tags no_members
