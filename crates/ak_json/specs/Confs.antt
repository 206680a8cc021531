-- The settings of a collection as an object.
use Rattle.std.specs.Prelude.{◌≡◌, List, [], ◌∷◌, Option, None, option_map}
use Rattle.std.specs.Option.{option_or}
use Rattle.serde_json.specs.Data.{Data, boolean}
use Rattle.ak_json.specs.Cells.{integer_at, bool_at}
use Rattle.ak_json.specs.Faults.{told}
use Rattle.ak_json.specs.Objects.{object_form_fault}
use Rattle.ak_json.specs.Rests.{rest_text, deep_key, object_json}
use Rattle.ak_json.specs.Written.{integer}
use Rattle.ak_json.specs.declared.faults.JsonFault.{JsonFault}
use Rattle.ak_json.specs.Forms.{conf_form}
use Rattle.ak_base.specs.declared.heads.Conf.{Conf}

-- the fault of an object of the settings: of the first known key that has one, else of an unknown one
abbrev pub conf_fault : Data → Option JsonFault
conf_fault d = option_or (option_map told (object_form_fault conf_form d)) (deep_key conf_form d)

-- the object has their form, and the settings are those that stand there
pub record ReadsConf (d : Data) (c : Conf) : Type 0 where
  pub form : conf_fault d ≡ None
  pub new_spread : c.new_spread ≡ integer_at conf_form 0 d
  pub collapse : c.collapse ≡ integer_at conf_form 1 d
  pub day_learn_first : c.day_learn_first ≡ bool_at conf_form 2 d
  pub next_pos : c.next_pos ≡ integer_at conf_form 3 d
  pub last_unburied : c.last_unburied ≡ integer_at conf_form 4 d
  pub rest : c.rest.text ≡ rest_text conf_form d

-- what is written into the columns of the settings
abbrev pub conf_cells : Conf → List Data
conf_cells c =
    integer c.new_spread ∷ integer c.collapse ∷ boolean c.day_learn_first ∷ integer c.next_pos ∷ integer c.last_unburied ∷ []

-- the object of the settings
abbrev pub conf_json : Conf → Data
conf_json c = object_json conf_form (conf_cells c) c.rest.text
