use Rattle.std.proofs.Common.{◌≡◌, ◌++◌, drop, filter, map}
use Rattle.ak_base.specs.NoteTexts.{is_tag, tags_in}
use Rattle.ak_base.proofs.notes.Note.tag_list.Given as goal

-- the tags so far, and those among the words that are left, are all
abbrev pub invariant-loop-word : goal.invariant-loop-word
invariant-loop-word l =
    map (λ tag. tag.now) l.tags.items ++ filter is_tag (map (λ word. word.now) (drop l.word-index l.word-items)) ≡ tags_in l.fn.self.tags
