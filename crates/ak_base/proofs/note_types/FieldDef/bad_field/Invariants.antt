use Rattle.std.proofs.Common.{◌≡◌, drop}
use Rattle.ak_base.specs.NoteTypes.{bad_field}
use Rattle.ak_base.proofs.note_types.FieldDef.bad_field.Given as goal

-- no field so far has a fault
abbrev pub invariant-loop-field : goal.invariant-loop-field
invariant-loop-field l = bad_field (drop l.field-index l.fields) ≡ bad_field l.fields
