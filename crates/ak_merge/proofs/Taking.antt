-- A taken row, upon a keeper.
use Rattle.ak_keep.specs.Marks as marks
use Rattle.ak_keep.specs.Marks.{WithMark}
use Rattle.ak_base.specs.Tables.{graves_of, grave_name}
use Rattle.ak_base.specs.Rows.{buried_of, name_of, stamp_of, with_usn}
use Rattle.std.specs.Prelude.{◌≡◌, ℤ, true, false, cond, Option, Some, None, IfSome, is_some}
use Rattle.std.proofs.Common.{refl, ap, ◌∙◌}
use Rattle.std.specs.FinMap.{get, insert, remove}
use Rattle.std.specs.Option.{option_map, option_map_or, option_and_then}
use Rattle.ak_base.specs.declared.names.Name.{Name}
use Rattle.ak_base.specs.declared.names.Table.{Table}
use Rattle.ak_base.specs.declared.rows.Row.{Row}
use Rattle.ak_keep.specs.Collections.{Holding, with_row, without}
use Rattle.ak_keep.specs.Keepers.{Keeping, WhereTold, changed}
use Rattle.ak_base.proofs.RowFacts.{name_of-with_usn}
use Rattle.ak_keep.specs.Graves.{RowsByName, is_dead}
use Rattle.ak_merge.specs.declared.sides.Side.{Side}
use Rattle.ak_merge.specs.Takings.{buried, without_buried, with_taken, takes}

dead_in : (at : RowsByName) (graves : Option Table) (name : Name) → option_map_or (λ (n : Name). is_some (at n)) (option_map (λ (graves : Table). record { table = graves; id = name.id }) graves) false ≡ is_some (option_and_then (λ (graves : Table). at (record { table = graves; id = name.id })) graves)
dead_in at None name = refl
dead_in at (Some graves) name = refl

pub dead_by_name : (at : RowsByName) (name : Name) → option_map_or (λ (n : Name). is_some (at n)) (grave_name name) false ≡ is_dead at name
dead_by_name at name = dead_in at (graves_of name.table) name

-- a row is held where its stamp is told
pub stamped_if_held : (row : Option Row) → is_some (option_map stamp_of row) ≡ is_some row
stamped_if_held None = refl
stamped_if_held (Some row) = refl

-- a keeper changed in what it tells
told_anew : (k : Keeping) (one other : Holding → Holding) → option_map (marks.changed one) k.told ≡ option_map (marks.changed other) k.told → changed one k ≡ changed other k
told_anew k one other is = ap (λ told. record { headed = k.headed; told = told }) is

pub unburied : (k : Keeping) (row : Row) → None ≡ buried_of row → k ≡ changed (without_buried row) k
unburied k row none = ap (λ told. record { headed = k.headed; told = told }) (same k.told)
  where
    same : (told : Option (WithMark Holding)) → told ≡ option_map (marks.changed (without_buried row)) told
    same None = refl
    same (Some w) = ap (λ (n : Option Name). Some (record { current = record w.current { rows = option_map_or (λ (name : Name). remove w.current.rows name) n w.current.rows }; mark = w.mark })) none

pub buried_here : (k : Keeping) (row : Row) (name : Name) → Some name ≡ buried_of row → changed (without name) k ≡ changed (without_buried row) k
buried_here k row name is = told_anew k _ _ (ap (λ (n : Option Name). option_map (λ (w : WithMark Holding). record { current = record w.current { rows = option_map_or (λ (name : Name). remove w.current.rows name) n w.current.rows }; mark = w.mark }) k.told) is)

over : (side : Side) (row : Row) (usn : ℤ) (told : Option (WithMark Holding)) → IfSome told (λ w. false ≡ takes side (get w.current.rows) row)
    → option_map (marks.changed (without_buried row)) told ≡ option_map (marks.changed (with_taken side usn row)) told
over side row usn None is = refl
over side row usn (Some w) is =
    ap (λ b. Some (record { current = record w.current { rows = cond b (insert (buried row w.current.rows) (name_of row) (with_usn row usn)) (buried row w.current.rows) }; mark = w.mark })) is

pub passed_over : (side : Side) (k : Keeping) (row : Row) (usn : ℤ) → WhereTold k (λ h. false ≡ takes side (get h.rows) row) → changed (without_buried row) k ≡ changed (with_taken side usn row) k
passed_over side k row usn is = told_anew k _ _ (over side row usn k.told is)

stored : (side : Side) (row : Row) (usn : ℤ) (told : Option (WithMark Holding)) → IfSome told (λ w. true ≡ takes side (get w.current.rows) row)
    → option_map (marks.changed (with_row (with_usn row usn))) (option_map (marks.changed (without_buried row)) told) ≡ option_map (marks.changed (with_taken side usn row)) told
stored side row usn None is = refl
stored side row usn (Some w) is =
    ap (λ (name : Name). Some (record { current = record w.current { rows = insert (buried row w.current.rows) name (with_usn row usn) }; mark = w.mark })) (name_of-with_usn row usn)
    ∙ ap (λ b. Some (record { current = record w.current { rows = cond b (insert (buried row w.current.rows) (name_of row) (with_usn row usn)) (buried row w.current.rows) }; mark = w.mark })) is

pub put_there : (side : Side) (k : Keeping) (row : Row) (usn : ℤ) → WhereTold k (λ h. true ≡ takes side (get h.rows) row) → changed (with_row (with_usn row usn)) (changed (without_buried row) k) ≡ changed (with_taken side usn row) k
put_there side k row usn is = ap (λ told. record { headed = k.headed; told = told }) (stored side row usn k.told is)
