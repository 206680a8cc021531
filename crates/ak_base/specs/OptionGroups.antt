-- The ranges of an option group's columns.
use Rattle.std.specs.Prelude.{ℕ, ℤ, pos, negsuc, Option, List, [], ◌∷◌, ◌++◌, length, None, ◌≡◌, Ok, false, codes}
use Rattle.std.specs.Option.{option_or}
use Rattle.ak_base.specs.Columns.{id_fault, stamp_fault, code_fault, long_fault, first_fault}
use Rattle.ak_base.specs.Limits.{last_usn}
use Rattle.ak_base.specs.declared.errors.RowFault.{RowFault}
use Rattle.ak_base.specs.declared.option_groups.Options.{Options}

-- the fault of the first step that is not from 1 to the longest
abbrev pub bad_step : ℤ → ℕ → List ℤ → Option RowFault
bad_step longest column [] = None
bad_step longest column (step ∷ steps) = option_or (code_fault column step (pos 1) longest) (bad_step longest column steps)

-- at most 50 steps, each from 1 to the longest
abbrev pub steps_fault : ℤ → ℕ → List ℤ → Option RowFault
steps_fault longest column steps = option_or (long_fault column (length steps) 50) (bad_step longest column steps)

-- what the group is called, when it was changed, and what serves every card
unfoldable pub general_faults : Options → List (Option RowFault)
general_faults o =
    id_fault o.id
    ∷ stamp_fault o.stamp
    ∷ code_fault 2 o.usn (negsuc 0) last_usn
    ∷ long_fault 3 (length o.name) 512
    ∷ code_fault 4 o.max_taken (pos 0) (pos 86_400)
    ∷ []

-- what serves new cards, but for their steps
abbrev pub first_interval_faults : Options → List (Option RowFault)
first_interval_faults o =
    code_fault 6 o.grad_ivl (pos 1) (pos 100_000)
    ∷ code_fault 7 o.easy_ivl (pos 1) (pos 100_000)
    ∷ code_fault 8 o.initial_factor (pos 1_300) (pos 100_000)
    ∷ code_fault 9 o.new_per_day (pos 0) (pos 999_999)
    ∷ []

-- what serves new cards. A step has at most 60,000,000 seconds
unfoldable pub new_faults : Options → List (Option RowFault)
new_faults o = steps_fault (pos 60_000_000) 5 o.new_steps ∷ first_interval_faults o

-- what serves reviews
unfoldable pub rev_faults : Options → List (Option RowFault)
rev_faults o =
    code_fault 11 o.rev_per_day (pos 0) (pos 999_999)
    ∷ code_fault 12 o.ease4 (pos 1) (pos 100_000)
    ∷ code_fault 13 o.ivl_fct (pos 1) (pos 100_000)
    ∷ code_fault 14 o.max_ivl (pos 1) (pos 100_000)
    ∷ code_fault 15 o.hard_factor (pos 1) (pos 100_000)
    ∷ []

-- what serves cards that were forgotten, but for their steps, and the rest
abbrev pub lapse_interval_faults : Options → List (Option RowFault)
lapse_interval_faults o =
    code_fault 18 o.mult (pos 0) (pos 1_000)
    ∷ code_fault 19 o.min_int (pos 1) (pos 100_000)
    ∷ code_fault 20 o.leech_fails (pos 0) (pos 999_999)
    ∷ code_fault 21 o.leech_action (pos 0) (pos 1)
    ∷ long_fault 22 (length o.rest.text) 262_144
    ∷ []

-- what serves cards that were forgotten, and the rest. A step has at most 60,000,000 seconds
unfoldable pub lapse_faults : Options → List (Option RowFault)
lapse_faults o = steps_fault (pos 60_000_000) 17 o.lapse_steps ∷ lapse_interval_faults o

-- the fault of each column, in the order of the fields; a truth value has none
abbrev pub options_faults : Options → List (Option RowFault)
options_faults o = general_faults o ++ (new_faults o ++ (rev_faults o ++ lapse_faults o))

-- what serves new cards, with steps of at most the longest
unfoldable pub new_faults_by : ℤ → Options → List (Option RowFault)
new_faults_by longest o = steps_fault longest 5 o.new_steps ∷ first_interval_faults o

-- what serves cards that were forgotten, with steps of at most the longest, and the rest
unfoldable pub lapse_faults_by : ℤ → Options → List (Option RowFault)
lapse_faults_by longest o = steps_fault longest 17 o.lapse_steps ∷ lapse_interval_faults o

-- the same faults where the steps are counted in another unit, of which the longest step has that many
abbrev pub options_faults_by : ℤ → Options → List (Option RowFault)
options_faults_by longest o = general_faults o ++ (new_faults_by longest o ++ (rev_faults o ++ lapse_faults_by longest o))

-- an option group passes its check: every column is in its range
abbrev pub IsCheckedOptions : Options → Type 0
IsCheckedOptions o = first_fault (options_faults o) ≡ Ok tt

-- the options that a collection opens with, which serve too where no others are held: group 1, changed at this second, not sent yet
pub record AreOpeningOptions (second : ℤ) (o : Options) : Type 0 where
  pub id : o.id ≡ pos 1
  pub stamp : o.stamp ≡ second
  pub usn : o.usn ≡ negsuc 0
  pub name : o.name ≡ codes "Default"
  pub max_taken : o.max_taken ≡ pos 60
  -- new cards: steps of 60 and 600 seconds, then 1 day, or 4 after Easy
  pub new_steps : o.new_steps ≡ pos 60 ∷ pos 600 ∷ []
  pub grad_ivl : o.grad_ivl ≡ pos 1
  pub easy_ivl : o.easy_ivl ≡ pos 4
  pub initial_factor : o.initial_factor ≡ pos 2_500
  pub new_per_day : o.new_per_day ≡ pos 20
  pub new_bury : o.new_bury ≡ false
  -- reviews
  pub rev_per_day : o.rev_per_day ≡ pos 200
  pub ease4 : o.ease4 ≡ pos 1_300
  pub ivl_fct : o.ivl_fct ≡ pos 1_000
  pub max_ivl : o.max_ivl ≡ pos 36_500
  pub hard_factor : o.hard_factor ≡ pos 1_200
  pub rev_bury : o.rev_bury ≡ false
  -- cards that were forgotten: a step of 600 seconds, then 1 day; at 8 lapses a leech is suspended
  pub lapse_steps : o.lapse_steps ≡ pos 600 ∷ []
  pub mult : o.mult ≡ pos 0
  pub min_int : o.min_int ≡ pos 1
  pub leech_fails : o.leech_fails ≡ pos 8
  pub leech_action : o.leech_action ≡ pos 0
  pub rest : o.rest.text ≡ codes "{}"
