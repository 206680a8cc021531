-- The tag of a card that was forgotten too often.
use Rattle.std.specs.Prelude.{ℕ, if◌then◌else◌, List, [], ◌∷◌, ◌++◌, codes}
use Rattle.ak_base.specs.NoteTexts.{tags_in}
use Rattle.ak_base.specs.declared.notes.Note.{Note}
use Rattle.ak_edit_calls.specs.NoteTags.{stored_tags}
use Rattle.ak_merge.specs.Tags.{has_name}

-- the tag
abbrev pub leech_tag : List ℕ
leech_tag = codes "leech"

-- the tags of a note, as it stores them, with the tag of a leech: they are put into order, if it is new
abbrev pub with_leech : List ℕ → List ℕ
with_leech tags =
    if has_name (tags_in tags) leech_tag then tags
    else stored_tags (tags_in tags ++ leech_tag ∷ [])

-- a note with the tag
abbrev pub leech_tagged : Note → Note
leech_tagged note = record note { tags = with_leech note.tags }
