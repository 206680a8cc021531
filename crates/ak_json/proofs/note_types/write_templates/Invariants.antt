use Rattle.std.proofs.Common.{◌≡◌, ◌++◌, drop, map}
use Rattle.serde_json.specs.View.{view}
use Rattle.ak_json.specs.NoteTypes.{templates_json}
use Rattle.ak_json.proofs.note_types.write_templates.Given as goal

-- the objects so far, and then those of the templates that are left
abbrev pub invariant-loop-place : goal.invariant-loop-place
invariant-loop-place l = map view l.values.items ++ templates_json l.place (drop l.place l.templates) ≡ templates_json 0 l.templates
