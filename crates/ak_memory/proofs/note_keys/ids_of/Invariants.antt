use Rattle.std.proofs.Common.{◌≡◌, ◌++◌, filter, map}
use Rattle.ak_base.specs.declared.names.Name.{Name}
use Rattle.ak_memory.specs.NoteCards.{keys_from, names_run}
use Rattle.ak_memory.specs.NoteKeys.{is_note}
use Rattle.ak_memory.specs.Places.{note_under}
use Rattle.ak_memory.specs.declared.versions.Version.TheVariants.{Now}
use Rattle.ak_memory.proofs.note_keys.ids_of.Given as goal

-- the ids so far and those of the run that is left are all
abbrev pub invariant-loop-other : goal.invariant-loop-other
invariant-loop-other l =
    l.ids ++ map (λ (name : Name). name.id) (filter (λ (name : Name). is_note l.note (note_under Now l.places.entries name)) (names_run l.note l.other-iterator))
    ≡ map (λ (name : Name). name.id) (filter (λ (name : Name). is_note l.note (note_under Now l.places.entries name)) (names_run l.note (keys_from l.note l.keys.keys)))
