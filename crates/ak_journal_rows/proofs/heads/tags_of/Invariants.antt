use Rattle.std.proofs.Common.{◌≡◌, List}
use Rattle.std.specs.List.{All}
use Rattle.serde_json.specs.View.{members_view}
use Rattle.ak_base.specs.Heads.{IsTagInRange}
use Rattle.ak_base.specs.declared.heads.Tag.{Tag}
use Rattle.ak_journal_rows.specs.Texts.{tag_members}
use Rattle.ak_journal_rows.proofs.TagObjects.{IsReadTo}
use Rattle.ak_journal_rows.proofs.heads.tags_of.Given as goal

-- of tags whose members these are, those so far are read, and the members of the others are left
abbrev pub invariant-loop-name : goal.invariant-loop-name
invariant-loop-name l =
    (tags : List Tag) → All IsTagInRange tags → members_view l.members.entries ≡ tag_members tags → IsReadTo tags l.tags (members_view l.name-iterator)
