-- The two versions in which option groups are written. Only the second is written; both are read.
use Rattle.std.specs.Prelude.{ℤ, pos, ◌*ℤ◌, map, Bool, if◌then◌else◌, option_and_then, codes}
use Rattle.std.specs.Option.{is_some}
use Rattle.serde_json.specs.Data.{Data}
use Rattle.serde_json.specs.Find.{get}
use Rattle.ak_base.specs.declared.option_groups.Options.{Options}
use Rattle.ak_json.specs.Forms.{options_form, new_form, rev_form, lapse_form, old_options_form, old_new_form, old_rev_form, old_lapse_form}
use Rattle.ak_json.specs.Members.{Form}
use Rattle.ak_json.specs.declared.versions.Version.{Version}
use Rattle.ak_json.specs.declared.versions.Version.TheVariants.{First, Second}

-- a document of version 1: `new` is an object with the key `delays`
abbrev pub is_old : Data → Bool
is_old d = is_some (option_and_then (get (codes "delays")) (get (codes "new") d))

-- the version of a document
abbrev pub version_of : Data → Version
version_of d = if is_old d then First else Second

-- the columns of an option group
abbrev pub whole_form : Version → Form
whole_form First = old_options_form
whole_form Second = options_form

-- those inside `new`
abbrev pub new_form_of : Version → Form
new_form_of First = old_new_form
new_form_of Second = new_form

-- those inside `rev`
abbrev pub rev_form_of : Version → Form
rev_form_of First = old_rev_form
rev_form_of Second = rev_form

-- those inside `lapse`
abbrev pub lapse_form_of : Version → Form
lapse_form_of First = old_lapse_form
lapse_form_of Second = lapse_form

-- the longest step: of version 1 in minutes, of version 2 in seconds
abbrev pub longest_step : Version → ℤ
longest_step First = pos 1_000_000
longest_step Second = pos 60_000_000

-- the seconds of a step in minutes
abbrev pub seconds_of : ℤ → ℤ
seconds_of minutes = minutes *ℤ pos 60

-- the option group with its steps in seconds
abbrev pub in_seconds : Version → Options → Options
in_seconds First o = record o { new_steps = map seconds_of o.new_steps; lapse_steps = map seconds_of o.lapse_steps }
in_seconds Second o = o
