use Rattle.std.proofs.Common.{◌≡◌, ◌++◌, drop, map}
use Rattle.ak_base.specs.NoteTexts.{fields_in}
use Rattle.ak_types.specs.RetypedRows.{moved_field, moved_fields}
use Rattle.ak_types.proofs.retyped_notes.moved_fields.Given as goal

-- with those of the other entries, the fields so far are all
abbrev pub invariant-loop-from : goal.invariant-loop-from
invariant-loop-from l = l.fields ++ map (moved_field (fields_in l.note.flds)) (drop l.from-index l.given.from_fields) ≡ moved_fields l.given l.note
