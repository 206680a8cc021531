-- Note types as objects, and the objects of their fields and templates.
use Rattle.std.specs.Prelude.{◌≡◌, ℕ, ◌+◌, pos, List, [], ◌∷◌, map, unwrap_or, option_and_then}
use Rattle.std.specs.Ordering.{int_eq}
use Rattle.serde_json.specs.Data.{Data, string, number, unsigned, array, Items, no_items, item}
use Rattle.serde_json.specs.Find.{as_array}
use Rattle.serde_json.specs.View.{items_of}
use Rattle.ak_json.specs.Cells.{cell_at, integer_at, text_at}
use Rattle.ak_json.specs.Rests.{rest_text, object_json}
use Rattle.ak_json.specs.Written.{integer, bit}
use Rattle.ak_json.specs.Forms.{note_type_form, field_form, template_form}
use Rattle.ak_base.specs.declared.note_types.FieldDef.{FieldDef}
use Rattle.ak_base.specs.declared.note_types.CardTemplate.{CardTemplate}
use Rattle.ak_base.specs.declared.note_types.NoteType.{NoteType}

-- a field's name and rest
abbrev pub field_of : FieldDef → List ℕ × List ℕ
field_of f = (f.name, f.rest.text)

-- the same of the object of a field
abbrev pub field_in : Data → List ℕ × List ℕ
field_in d = (text_at field_form 0 d, rest_text field_form d)

-- of each object of a list of fields
abbrev pub fields_in : Items → List (List ℕ × List ℕ)
fields_in no_items = []
fields_in (item d ds) = field_in d ∷ fields_in ds

-- a template's name, its two sides and its rest
abbrev pub template_of : CardTemplate → List ℕ × List ℕ × List ℕ × List ℕ
template_of t = (t.name, t.front, t.back, t.rest.text)

-- the same of the object of a template
abbrev pub template_in : Data → List ℕ × List ℕ × List ℕ × List ℕ
template_in d = (text_at template_form 0 d, text_at template_form 1 d, text_at template_form 2 d, rest_text template_form d)

-- of each object of a list of templates
abbrev pub templates_in : Items → List (List ℕ × List ℕ × List ℕ × List ℕ)
templates_in no_items = []
templates_in (item d ds) = template_in d ∷ templates_in ds

-- the list in a column of lists
abbrev pub items_at : ℕ → Data → Items
items_at n d = unwrap_or (option_and_then as_array (cell_at note_type_form n d)) no_items

-- the note type is that of an object of its form
pub record IsNoteType (d : Data) (n : NoteType) : Type 0 where
  pub id : n.id ≡ integer_at note_type_form 0 d
  pub stamp : n.stamp ≡ integer_at note_type_form 1 d
  pub usn : n.usn ≡ integer_at note_type_form 2 d
  pub name : n.name ≡ text_at note_type_form 3 d
  pub cloze : n.cloze ≡ int_eq (integer_at note_type_form 4 d) (pos 1)
  pub sortf : n.sortf ≡ integer_at note_type_form 5 d
  pub fields : map field_of n.fields ≡ fields_in (items_at 6 d)
  pub templates : map template_of n.templates ≡ templates_in (items_at 7 d)
  pub rest : n.rest.text ≡ rest_text note_type_form d

-- the objects of fields, from that place on
abbrev pub fields_json : ℕ → List FieldDef → List Data
fields_json n [] = []
fields_json n (f ∷ fs) = object_json field_form (string f.name ∷ number (unsigned n) ∷ []) f.rest.text ∷ fields_json (n + 1) fs

-- the objects of templates, from that place on
abbrev pub templates_json : ℕ → List CardTemplate → List Data
templates_json n [] = []
templates_json n (t ∷ ts) =
    object_json template_form (string t.name ∷ string t.front ∷ string t.back ∷ number (unsigned n) ∷ []) t.rest.text ∷ templates_json (n + 1) ts

-- what is written into the columns of a note type
abbrev pub note_type_cells : NoteType → List Data
note_type_cells n =
    integer n.id ∷ integer n.stamp ∷ integer n.usn ∷ string n.name ∷ bit n.cloze ∷ integer n.sortf ∷ array (items_of (fields_json 0 n.fields))
    ∷ array (items_of (templates_json 0 n.templates)) ∷ []

-- the object of a note type
abbrev pub note_type_json : NoteType → Data
note_type_json n = object_json note_type_form (note_type_cells n) n.rest.text
