use Rattle.std.proofs.Common.{◌≡◌, ◌++◌, drop, map}
use Rattle.serde_json.specs.View.{view}
use Rattle.ak_json.specs.NoteTypes.{fields_json}
use Rattle.ak_json.proofs.note_types.write_fields.Given as goal

-- the objects so far, and then those of the fields that are left
abbrev pub invariant-loop-place : goal.invariant-loop-place
invariant-loop-place l = map view l.values.items ++ fields_json l.place (drop l.place l.fields) ≡ fields_json 0 l.fields
