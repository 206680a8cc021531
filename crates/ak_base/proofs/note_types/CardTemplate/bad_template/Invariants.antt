use Rattle.std.proofs.Common.{◌≡◌, drop}
use Rattle.ak_base.specs.NoteTypes.{bad_template}
use Rattle.ak_base.proofs.note_types.CardTemplate.bad_template.Given as goal

-- no template so far has a fault
abbrev pub invariant-loop-template : goal.invariant-loop-template
invariant-loop-template l = bad_template (drop l.template-index l.templates) ≡ bad_template l.templates
