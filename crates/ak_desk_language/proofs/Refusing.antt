-- Faults, and memory that runs out beside them.
use Rattle.std.proofs.Common.{◌≡◌, Option, Some, None, option_map, inr, sym, ap, subst, ◌∙◌}
use Rattle.std.specs.Option.{MatchOption}
use Rattle.serde_json.specs.Data.{Data}
use Rattle.ak_base.specs.declared.names.Table.TheVariants as tables
use Rattle.ak_base.specs.declared.note_types.NoteType.{NoteType}
use Rattle.ak_base.specs.declared.rows.Row.TheVariants as rows
use Rattle.ak_desk_language.specs.Contents.{part_of, parts_fault, RefusesMaps, RefusesParts, RefusesTypeWithMaps}
use Rattle.ak_desk_language.specs.Faults.{OrMemory}
use Rattle.ak_desk_language.specs.FilterPlans.{RefusesEntries, RefusesFilterPlan, four_fault}
use Rattle.ak_desk_language.specs.declared.line_faults.LineFault.{LineFault}
use Rattle.ak_desk_language.specs.declared.line_faults.LineFault.TheVariants as faults
use Rattle.ak_json.specs.Rows.{ReadsRow}
use Rattle.ak_json.specs.declared.faults.JsonFault.{JsonFault}

-- faults of one kind are of another
pub each_is : (these those : LineFault → Type 0) → ((fault : LineFault) → these fault → those fault) → (fault : LineFault) → OrMemory these fault → OrMemory those fault
each_is these those goes faults.BadLine h = goes faults.BadLine h
each_is these those goes (faults.Json fault) h = goes (faults.Json fault) h
each_is these those goes (faults.Search fault) h = goes (faults.Search fault) h
each_is these those goes faults.Memory h = tt

-- the fault that there is
pub told : (first : Option JsonFault) (json : JsonFault) (fault : LineFault) → first ≡ Some json → OrMemory (λ f. f ≡ faults.Json json) fault → OrMemory (λ f. option_map faults.Json first ≡ Some f) fault
told first json fault is h =
    each_is (λ f. f ≡ faults.Json json) (λ f. option_map faults.Json first ≡ Some f) (λ f e. ap (option_map faults.Json) is ∙ ap Some (sym e)) fault h

-- a fault of the maps, where there is no other
pub maps_told : (d : Data) (note_type : NoteType) (fault : LineFault) → parts_fault d ≡ None → ReadsRow tables.NoteType (part_of 0 d) (rows.NoteType note_type)
    → OrMemory (RefusesMaps d) fault → OrMemory (RefusesTypeWithMaps d) fault
maps_told d note_type fault three reads h =
    each_is (RefusesMaps d) (RefusesTypeWithMaps d) (λ f m. let P : Option JsonFault → Type 0 = λ o. MatchOption o (RefusesParts d f) (λ first. f ≡ faults.Json first) in subst P (sym three) (inr ((note_type, reads), m))) fault h

-- a fault of the entries of a `filter` line, where there is no other
pub entries_told : (d : Data) (fault : LineFault) → four_fault d ≡ None → OrMemory (RefusesEntries d) fault → OrMemory (RefusesFilterPlan d) fault
entries_told d fault four h =
    each_is (RefusesEntries d) (RefusesFilterPlan d) (λ f m. let P : Option JsonFault → Type 0 = λ o. MatchOption o (RefusesEntries d f) (λ first. f ≡ faults.Json first) in subst P (sym four) m) fault h
