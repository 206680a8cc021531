use Rattle.std.proofs.Common.{◌≡◌, ◌++◌, drop}
use Rattle.std.specs.String.{string_bytes}
use Rattle.ak_edit_calls.specs.NoteTags.{spaced}
use Rattle.ak_edit_calls.proofs.note_tags.add_names.Given as goal

-- with the other names, the text so far is all
abbrev pub invariant-loop-tag : goal.invariant-loop-tag
invariant-loop-tag l = string_bytes l.text ++ spaced (drop l.tag-index l.tags) ≡ string_bytes l.fn.text ++ spaced l.tags
