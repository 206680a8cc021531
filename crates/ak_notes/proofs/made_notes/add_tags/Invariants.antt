use Rattle.std.proofs.Common.{◌≡◌, drop}
use Rattle.std.specs.List.{AllByRecursion}
use Rattle.ak_merge.specs.Tags.{IsTagName}
use Rattle.ak_notes.specs.MadeNotes.{tags_over}
use Rattle.ak_notes.proofs.made_notes.add_tags.Given as goal

-- with the other tags, the changes so far are those of all
abbrev pub invariant-loop-tag : goal.invariant-loop-tag
invariant-loop-tag l = record {
  over : tags_over (drop l.tag-index l.tags) l.change ≡ tags_over l.tags l.fn.change;
  names : AllByRecursion IsTagName (drop l.tag-index l.tags);
}
