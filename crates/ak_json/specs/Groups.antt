-- Option groups as objects, with objects inside.
use Rattle.std.specs.Prelude.{◌≡◌, ℕ, List, [], ◌∷◌, option_and_then, unwrap_or}
use Rattle.serde_json.specs.Data.{Data, boolean, string, object, Members, no_members, member, put}
use Rattle.serde_json.specs.Find.{get, as_object}
use Rattle.serde_json.specs.Written.{compact_text}
use Rattle.ak_json.specs.Cells.{integer_at, permille_at, text_at, bool_at, part_at, steps_at, inner_at}
use Rattle.ak_json.specs.Keys.{key_text}
use Rattle.ak_json.specs.Members.{Form}
use Rattle.ak_json.specs.Objects.{put_cells}
use Rattle.ak_json.specs.Rests.{kept, rest_members, object_json}
use Rattle.ak_json.specs.Versions.{version_of, new_form_of, rev_form_of, lapse_form_of}
use Rattle.ak_json.specs.Written.{integer, factor, pair, steps_json}
use Rattle.ak_json.specs.declared.keys.Key.{Key}
use Rattle.ak_json.specs.declared.keys.Key.TheVariants as keys
use Rattle.ak_json.specs.declared.versions.Version.{Version}
use Rattle.ak_json.specs.Forms.{options_form, new_form, rev_form, lapse_form}
use Rattle.ak_base.specs.declared.option_groups.Options.{Options}

-- the members with what a group keeps under its key, if it keeps anything
abbrev pub put_group : Key → Members → Members → Members
put_group own no_members ms = ms
put_group own (member k d group) ms = put (key_text own) (object (member k d group)) ms

-- what is inside `new`
abbrev pub new_in : Data → Data
new_in d = inner_at options_form 5 d

-- what is inside `rev`
abbrev pub rev_in : Data → Data
rev_in d = inner_at options_form 6 d

-- what is inside `lapse`
abbrev pub lapse_in : Data → Data
lapse_in d = inner_at options_form 7 d

-- the unknown members of an option group of the version, those inside `new`, `rev` and `lapse` under these
abbrev pub options_kept_by : Version → Data → Members
options_kept_by v d =
    put_group keys.Lapse (kept (lapse_form_of v) (lapse_in d))
    (put_group keys.Rev (kept (rev_form_of v) (rev_in d)) (put_group keys.New (kept (new_form_of v) (new_in d)) (kept options_form d)))

-- the unknown members of an option group
abbrev pub options_kept : Data → Members
options_kept d = options_kept_by (version_of d) d

-- the option group is that of an object of the version, its steps in the unit of the version
pub record IsOptionsBy (v : Version) (d : Data) (o : Options) : Type 0 where
  pub id : o.id ≡ integer_at options_form 0 d
  pub stamp : o.stamp ≡ integer_at options_form 1 d
  pub usn : o.usn ≡ integer_at options_form 2 d
  pub name : o.name ≡ text_at options_form 3 d
  pub max_taken : o.max_taken ≡ integer_at options_form 4 d
  pub new_steps : o.new_steps ≡ steps_at (new_form_of v) 0 (new_in d)
  pub grad_ivl : o.grad_ivl ≡ part_at (new_form_of v) 1 0 (new_in d)
  pub easy_ivl : o.easy_ivl ≡ part_at (new_form_of v) 1 1 (new_in d)
  pub initial_factor : o.initial_factor ≡ integer_at (new_form_of v) 2 (new_in d)
  pub new_per_day : o.new_per_day ≡ integer_at (new_form_of v) 3 (new_in d)
  pub new_bury : o.new_bury ≡ bool_at (new_form_of v) 4 (new_in d)
  pub rev_per_day : o.rev_per_day ≡ integer_at (rev_form_of v) 0 (rev_in d)
  pub ease4 : o.ease4 ≡ permille_at (rev_form_of v) 1 (rev_in d)
  pub ivl_fct : o.ivl_fct ≡ permille_at (rev_form_of v) 2 (rev_in d)
  pub max_ivl : o.max_ivl ≡ integer_at (rev_form_of v) 3 (rev_in d)
  pub hard_factor : o.hard_factor ≡ permille_at (rev_form_of v) 4 (rev_in d)
  pub rev_bury : o.rev_bury ≡ bool_at (rev_form_of v) 5 (rev_in d)
  pub lapse_steps : o.lapse_steps ≡ steps_at (lapse_form_of v) 0 (lapse_in d)
  pub mult : o.mult ≡ permille_at (lapse_form_of v) 1 (lapse_in d)
  pub min_int : o.min_int ≡ integer_at (lapse_form_of v) 2 (lapse_in d)
  pub leech_fails : o.leech_fails ≡ integer_at (lapse_form_of v) 3 (lapse_in d)
  pub leech_action : o.leech_action ≡ integer_at (lapse_form_of v) 4 (lapse_in d)
  pub rest : o.rest.text ≡ compact_text (object (options_kept_by v d))

-- the option group is that of an object of its form, its steps in the unit of its version
abbrev pub IsOptions : Data → Options → Type 0
IsOptions d o = IsOptionsBy (version_of d) d o

-- the members that a rest keeps under the key of a group
abbrev pub group_members : Key → Data → Members
group_members own rest = unwrap_or (option_and_then as_object (get (key_text own) rest)) no_members

-- the object of a group: these cells, and the members that the rest keeps for it
abbrev pub group_json : Key → Form → List Data → Data → Data
group_json own form cells rest = object (put_cells form cells (group_members own rest))

-- what is written into the columns for new cards
abbrev pub new_cells : Options → List Data
new_cells o =
    steps_json o.new_steps ∷ pair (record { day = o.grad_ivl; count = o.easy_ivl }) ∷ integer o.initial_factor ∷ integer o.new_per_day ∷ boolean o.new_bury ∷ []

-- what is written under `new`
abbrev pub new_json : Options → Data → Data
new_json o rest = group_json keys.New new_form (new_cells o) rest

-- what is written into the columns for reviews
abbrev pub rev_cells : Options → List Data
rev_cells o = integer o.rev_per_day ∷ factor o.ease4 ∷ factor o.ivl_fct ∷ integer o.max_ivl ∷ factor o.hard_factor ∷ boolean o.rev_bury ∷ []

-- what is written under `rev`
abbrev pub rev_json : Options → Data → Data
rev_json o rest = group_json keys.Rev rev_form (rev_cells o) rest

-- what is written into the columns for cards that were forgotten
abbrev pub lapse_cells : Options → List Data
lapse_cells o = steps_json o.lapse_steps ∷ factor o.mult ∷ integer o.min_int ∷ integer o.leech_fails ∷ integer o.leech_action ∷ []

-- what is written under `lapse`
abbrev pub lapse_json : Options → Data → Data
lapse_json o rest = group_json keys.Lapse lapse_form (lapse_cells o) rest

-- the object of the members that a rest keeps
abbrev pub rest_object : List ℕ → Data
rest_object rest = object (rest_members rest)

-- what is written into the columns of an option group
abbrev pub options_cells : Options → Data → List Data
options_cells o rest =
    integer o.id ∷ integer o.stamp ∷ integer o.usn ∷ string o.name ∷ integer o.max_taken ∷ new_json o rest ∷ rev_json o rest ∷ lapse_json o rest ∷ []

-- the object of an option group
abbrev pub options_json : Options → Data
options_json o = object_json options_form (options_cells o (rest_object o.rest.text)) o.rest.text
