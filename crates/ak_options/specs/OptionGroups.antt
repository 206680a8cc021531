-- Groups of options that a call puts in place of others, or adds.
use Rattle.std.specs.Prelude.{◌≡◌, ◌⊎◌, ℤ, pos, negsuc, Err}
use Rattle.ak_base.specs.Rows.{check_of}
use Rattle.ak_base.specs.declared.errors.RowFault.{RowFault}
use Rattle.ak_base.specs.declared.names.Table.TheVariants as tables
use Rattle.ak_base.specs.declared.option_groups.Options.{Options}
use Rattle.ak_base.specs.declared.rows.Row.TheVariants as rows
use Rattle.ak_edit.specs.Ends.{RefusesStamp}
use Rattle.ak_edit.specs.Refusals.{IsEndFault, OrElse, Refusal}
use Rattle.ak_edit.specs.declared.desk_faults.DeskFault.{DeskFault}
use Rattle.ak_edit.specs.declared.desk_faults.DeskFault.TheVariants as faults
use Rattle.ak_edit_calls.specs.Additions.{Addition, RefusesNewStamp}
use Rattle.ak_edit_calls.specs.Calls.{RefusesAbsent}
use Rattle.ak_edit_calls.specs.NewNames.{RefusesId}
use Rattle.ak_edit_calls.specs.RowEdits.{row_edit}
use Rattle.ak_keep.specs.Collections.{Collection}
use Rattle.ak_merge.specs.Edits.{Edit}
use Rattle.ak_merge.specs.Holdings.{name_in, row_under}

-- a group as a call takes it: its stamp and its usn are not looked at, since the edit gives it others
abbrev pub as_given : Options → Options
as_given options = record options { stamp = pos 0; usn = negsuc 0 }

-- a group with this id
abbrev pub with_id : ℤ → Options → Options
with_id id options = record options { id = id }

-- a group that was given is out of its ranges: its first fault
abbrev pub RefusesGiven : Options → Refusal
RefusesGiven group fault = (given : RowFault) × (check_of (rows.Options group) ≡ Err given) × (fault ≡ faults.Row given)

-- ---- a group in place of another
-- the edit that puts this group in place of the one of its id
abbrev pub options_change : Options → Collection → Edit
options_change options = row_edit (rows.Options (as_given options))

-- no group of this id is held
abbrev pub RefusesNoGroup : ℤ → Collection → Refusal
RefusesNoGroup id c = RefusesAbsent (row_under c) (name_in tables.Options id)

-- the tests of that edit: no group of this id is held, the given one is out of its ranges, or a stamp or the moment ends
abbrev pub RefusesChange : ℤ → Options → Collection → Refusal
RefusesChange at options c =
    OrElse (RefusesNoGroup options.id c)
    (OrElse (RefusesGiven (as_given options)) (RefusesStamp at c (options_change options c)))

-- what it may answer
abbrev pub IsChangeFault : ℤ → DeskFault → Type 0
IsChangeFault id fault = (fault ≡ faults.NoSuch (name_in tables.Options id)) ⊎ IsEndFault fault

-- ---- a new group
-- the edit that adds this group under this id
abbrev pub group_addition : Options → ℤ → Collection → Edit
group_addition group id = row_edit (rows.Options (with_id id group))

-- the same of a group that was given
abbrev pub options_addition : Options → ℤ → Collection → Edit
options_addition options = group_addition (as_given options)

-- the tests of a group that is in its ranges: no id is free, or a stamp or the moment ends
abbrev pub RefusesNewGroup : ℤ → Options → Collection → Refusal
RefusesNewGroup at group c = OrElse (RefusesId at tables.Options (row_under c)) (RefusesNewStamp at tables.Options (group_addition group) c)

-- the tests of that edit: the given group is out of its ranges, whatever its id is, or those of one that is in them
abbrev pub RefusesAddition : ℤ → Options → Collection → Refusal
RefusesAddition at options c = OrElse (RefusesGiven (with_id (pos 1) (as_given options))) (RefusesNewGroup at (as_given options) c)

-- what is added of a group that is in its ranges, at this moment
abbrev pub new_group : ℤ → Options → Addition
new_group at group = record { at = at; table = tables.Options; rule = group_addition group; tests = RefusesNewGroup at group }

-- the same of a group that was given
abbrev pub given_group : ℤ → Options → Addition
given_group at options = record { at = at; table = tables.Options; rule = options_addition options; tests = RefusesAddition at options }

-- what it may answer
abbrev pub IsAdditionFault : DeskFault → Type 0
IsAdditionFault fault = (fault ≡ faults.IdEnd) ⊎ IsEndFault fault
