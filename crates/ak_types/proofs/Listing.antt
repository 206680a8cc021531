-- What an edit of a note type may answer, by its parts.
use Rattle.std.specs.Prelude.{ℤ, Option, Result, Ok, Err, IfErr}
use Rattle.std.proofs.Common.{refl, sym, subst, inl, inr}
use Rattle.ak_base.specs.declared.names.Table.TheVariants as tables
use Rattle.ak_edit.specs.Refusals.{IsEndFault, IsFromOutside}
use Rattle.ak_edit.specs.declared.desk_faults.DeskFault.{DeskFault}
use Rattle.ak_keep.specs.Collections.{Rows}
use Rattle.ak_keep.specs.Keepers.{Keeping}
use Rattle.ak_merge.specs.Holdings.{name_in}
use Rattle.ak_notes.specs.MadeNotes.{IsMissingIn}
use Rattle.ak_edit_calls.specs.NewNames.{IsIdFault}
use Rattle.ak_types.specs.TypeEdits.{IsAskedFault, IsFormFault, IsTestFault, IsTypeEditFault}

pub outside_in : (id : ℤ) (fault : DeskFault) → IsFromOutside fault → IsTypeEditFault id fault
outside_in id fault outside = elim outside [ inl is ↦ subst (IsTypeEditFault id) (sym is) tt | inr is ↦ subst (IsTypeEditFault id) (sym is) tt ]

form_in : (id : ℤ) (fault : DeskFault) → IsFormFault fault → IsTypeEditFault id fault
form_in id fault either = elim either [
  | inl is ↦ subst (IsTypeEditFault id) (sym is) tt
  | inr more ↦ elim more [ inl is ↦ subst (IsTypeEditFault id) (sym is.1) tt | inr is ↦ subst (IsTypeEditFault id) (sym is.1) tt ]
]

asked_in : (id : ℤ) (fault : DeskFault) → IsAskedFault fault → IsTypeEditFault id fault
asked_in id fault either = elim either [
  | inl is ↦ subst (IsTypeEditFault id) (sym is) tt
  | inr more ↦ elim more [ inl is ↦ subst (IsTypeEditFault id) (sym is.1) tt | inr is ↦ subst (IsTypeEditFault id) (sym is) tt ]
]

pub test_in : (id : ℤ) (fault : DeskFault) → IsTestFault id fault → IsTypeEditFault id fault
test_in id fault either = elim either [
  | inl outside ↦ outside_in id fault outside
  | inr more ↦ elim more [
    | inl used ↦ subst (IsTypeEditFault id) (sym used) refl
    | inr others ↦ elim others [ inl form ↦ form_in id fault form | inr asked ↦ asked_in id fault asked ]
  ]
]

pub end_in : (id : ℤ) (fault : DeskFault) → IsEndFault fault → IsTypeEditFault id fault
end_in id fault either = elim either [
  | inl outside ↦ outside_in id fault outside
  | inr more ↦ elim more [ inl is ↦ subst (IsTypeEditFault id) (sym is.1) tt | inr is ↦ subst (IsTypeEditFault id) (sym is) tt ]
]

pub id_in : (id : ℤ) (fault : DeskFault) → IsIdFault fault → IsTypeEditFault id fault
id_in id fault either = elim either [ inl outside ↦ outside_in id fault outside | inr is ↦ subst (IsTypeEditFault id) (sym is) tt ]

pub missing_in : {A : Type 0} (k : Keeping) (row : Rows → Option A) (id : ℤ) (fault : DeskFault) → IsMissingIn k row (name_in tables.NoteType id) fault → IsTypeEditFault id fault
missing_in k row id fault either = elim either [ inl outside ↦ outside_in id fault outside | inr is ↦ subst (IsTypeEditFault id) (sym is.1) refl ]

pub all_in : {T : Type 0} (id : ℤ) (result : Result T DeskFault) (P : DeskFault → Type 0) → ((fault : DeskFault) → P fault → IsTypeEditFault id fault) → IfErr result P → IfErr result (IsTypeEditFault id)
all_in id (Ok value) P step is = tt
all_in id (Err fault) P step is = step fault is
