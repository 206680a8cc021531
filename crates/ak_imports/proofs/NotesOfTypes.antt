-- The notes of a type among rows.
use Rattle.std.specs.Prelude.{◌≡◌, ℤ, true, false, if◌then◌else◌, [], ◌∷◌, Some, None}
use Rattle.std.proofs.Common.{refl}
use Rattle.std.specs.List.{filter_map}
use Rattle.std.specs.Ordering.{int_eq}
use Rattle.ak_base.specs.declared.notes.Note.{Note}
use Rattle.ak_base.specs.declared.rows.Row.TheVariants as rows
use Rattle.ak_imports.specs.NotesOfTypes.{note_of_type}

-- a note is one of the type or not
pub one_note : (note_type : ℤ) (note : Note) → filter_map (note_of_type note_type) (rows.Note note ∷ []) ≡ (if int_eq note.mid note_type then note ∷ [] else [])
one_note note_type note =
    elim (int_eq note.mid note_type) as (λ b. filter_map (λ (row : Note). if b then Some row else None) (note ∷ []) ≡ (if b then note ∷ [] else [])) [ true ↦ refl | false ↦ refl ]
