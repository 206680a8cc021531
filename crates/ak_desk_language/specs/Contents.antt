-- The texts that end desk lines: what their JSON stands for, and why it is refused.
use Rattle.std.specs.Prelude.{◌≡◌, ◌⊎◌, ℕ, nat_le, pos, Bool, true, false, if◌then◌else◌, List, [], ◌∷◌, Option, Some, None, option_and_then, option_map, unwrap_or, codes}
use Rattle.std.specs.Option.{MatchOption, is_some, option_map_or}
use Rattle.std.specs.Ordering.{int_eq}
use Rattle.serde_json.specs.Data.{Data, null, boolean, number, string, array, object, Items, no_items, item, put}
use Rattle.serde_json.specs.Find.{get, at, as_null, as_str, as_number, as_u64, as_array, as_object}
use Rattle.serde_json.specs.Read.{read}
use Rattle.ak_base.specs.declared.names.Table.{Table}
use Rattle.ak_base.specs.declared.names.Table.TheVariants as tables
use Rattle.ak_base.specs.declared.note_types.NoteType.{NoteType}
use Rattle.ak_base.specs.declared.option_groups.Options.{Options}
use Rattle.ak_base.specs.declared.rows.Row.TheVariants as rows
use Rattle.ak_json.specs.Kinds.{integer_of}
use Rattle.ak_json.specs.Rows.{ReadsRow, RefusesRow}
use Rattle.ak_json.specs.Written.{integer}
use Rattle.ak_json.specs.declared.faults.JsonFault.{JsonFault}
use Rattle.ak_json.specs.declared.faults.JsonFault.TheVariants as jsons
use Rattle.ak_search.specs.Grammar.{ReadsSearch, first_fault, pieces_in}
use Rattle.ak_search.specs.Trees.{Tree, pieces_of}
use Rattle.ak_search.specs.declared.parses.Expr.{Expr}
use Rattle.ak_desk_language.specs.declared.line_faults.LineFault.{LineFault}
use Rattle.ak_desk_language.specs.declared.line_faults.LineFault.TheVariants as faults
use Rattle.ak_desk_language.specs.Verbs.{Content, Plain, ListOfTexts, OptionGroup, TypeAlone, TypeWithMaps, Searching}

-- the text is the JSON of a value of which this holds
abbrev pub InJson : List ℕ → (Data → Type 0) → Type 0
InJson text holds = MatchOption (read text) ⊥ holds

-- the text is no JSON, or it is the JSON of a value that has this fault
abbrev pub RefusesJson : (Data → LineFault → Type 0) → List ℕ → LineFault → Type 0
RefusesJson refuses text fault = MatchOption (read text) (fault ≡ faults.Json jsons.NotJson) (λ d. refuses d fault)

-- a fault of JSON as one of a line
abbrev pub json_line : Option JsonFault → Option LineFault
json_line fault = option_map faults.Json fault

-- a value is of another form; the text tells where, and is empty if it is the whole value
abbrev pub wrong_kind : List ℕ → LineFault
wrong_kind place = faults.Json (jsons.WrongKind place)

-- ---- lists
-- what each value of a list stands for; nothing, if one stands for nothing
abbrev pub each_of : {A : Type 0} → (Data → Option A) → Items → Option (List A)
each_of means no_items = Some []
each_of means (item d ds) =
    option_and_then (λ first. option_map (λ others. first ∷ others) (each_of means ds)) (means d)

-- the texts of an array of texts
abbrev pub texts_in_array : Data → Option (List (List ℕ))
texts_in_array d = option_and_then (each_of as_str) (as_array d)

-- the value is not an array of texts
abbrev pub RefusesTexts : Data → LineFault → Type 0
RefusesTexts d fault = (texts_in_array d ≡ None) × (fault ≡ wrong_kind [])

-- a place in a list of fields or templates, from 0
abbrev pub place_in : ℕ → Option ℕ
place_in place = if nat_le place 65_535 then Some place else None

-- the place that a value is: a whole number
abbrev pub place_of : Data → Option ℕ
place_of d = option_and_then place_in (option_and_then as_u64 (as_number d))

-- the entry of a map: null for a field or template that is new, else the place of the old one
abbrev pub entry_of : Data → Option (Option ℕ)
entry_of d = if is_some (as_null d) then Some None else option_map Some (place_of d)

-- the entries of a map
abbrev pub map_of : Data → Option (List (Option ℕ))
map_of d = option_and_then (each_of entry_of) (as_array d)

-- ---- rows
-- the value is not that of a row of the table
abbrev pub RefusesRowValue : Table → Data → LineFault → Type 0
RefusesRowValue table d (faults.Json jsons.Memory) = ⊥
RefusesRowValue table d (faults.Json fault) = RefusesRow table d fault
RefusesRowValue table d fault = ⊥

-- the id of the object is 0: the option group is to be added
abbrev pub has_id_zero : Data → Bool
has_id_zero d = option_map_or (int_eq (pos 0)) (option_and_then integer_of (get (codes "id") d)) false

-- the object with the id 1
abbrev pub with_id_one : Data → Data
with_id_one (object members) = object (put (codes "id") (integer (pos 1)) members)
with_id_one null = null
with_id_one (boolean b) = boolean b
with_id_one (number n) = number n
with_id_one (string s) = string s
with_id_one (array ds) = array ds

-- an option group with the id 0 is read as if its id were 1
abbrev pub options_value : Data → Data
options_value d = if has_id_zero d then with_id_one d else d

-- an option group of an object; the truth value says whether its id is 0
abbrev pub IsGroup : Bool → Options → Data → Type 0
IsGroup zero options d = (has_id_zero d ≡ zero) × ReadsRow tables.Options (options_value d) (rows.Options options)

-- ---- a note type with the maps of its fields and templates: an array of these three
-- the value at a place of the array; the array itself, if it is too short
abbrev pub part_of : ℕ → Data → Data
part_of place d = unwrap_or (at place d) d

-- the value is no array of three: no array, too short, or too long
abbrev pub parts_fault : Data → Option JsonFault
parts_fault d =
    if is_some (as_array d) then
    (if is_some (at 0 d) then
    (if is_some (at 1 d) then
    (if is_some (at 2 d) then
    (if is_some (at 3 d) then Some (jsons.WrongKind (codes "3")) else None)
    else Some (jsons.Missing (codes "2")))
    else Some (jsons.Missing (codes "1")))
    else Some (jsons.Missing (codes "0")))
    else Some (jsons.WrongKind [])

-- the map of the templates is no array of nulls and places
abbrev pub RefusesTemplates : Data → LineFault → Type 0
RefusesTemplates d fault = (map_of (part_of 2 d) ≡ None) × (fault ≡ wrong_kind (codes "2"))

-- the map of the fields is none, or else that of the templates
abbrev pub RefusesMaps : Data → LineFault → Type 0
RefusesMaps d fault =
    MatchOption (map_of (part_of 1 d)) (fault ≡ wrong_kind (codes "1")) (λ fields. RefusesTemplates d fault)

-- the first value is that of a note type
abbrev pub BeginsWithType : Data → Type 0
BeginsWithType d = (note_type : NoteType) × ReadsRow tables.NoteType (part_of 0 d) (rows.NoteType note_type)

-- of an array of three: the fault of its note type, else of its maps
abbrev pub RefusesParts : Data → LineFault → Type 0
RefusesParts d fault = RefusesRowValue tables.NoteType (part_of 0 d) fault ⊎ (BeginsWithType d × RefusesMaps d fault)

-- the first fault
abbrev pub RefusesTypeWithMaps : Data → LineFault → Type 0
RefusesTypeWithMaps d fault = MatchOption (parts_fault d) (RefusesParts d fault) (λ first. fault ≡ faults.Json first)

-- the note type and its two maps
pub record IsTypeWithMaps (d : Data) (note_type : NoteType) (fields templates : List (Option ℕ)) : Type 0 where
  pub three : parts_fault d ≡ None
  pub row : ReadsRow tables.NoteType (part_of 0 d) (rows.NoteType note_type)
  pub field_places : map_of (part_of 1 d) ≡ Some fields
  pub template_places : map_of (part_of 2 d) ≡ Some templates

-- ---- searches
-- the search of a text
abbrev pub IsSearch : List ℕ → Expr → Type 0
IsSearch text search = (tree : Tree) × ReadsSearch text tree × (pieces_in search.tokens.items ≡ pieces_of tree)

-- ---- the text at the end of a line
-- the text has this fault
abbrev pub RefusesContent : Content → List ℕ → LineFault → Type 0
RefusesContent Plain text fault = ⊥
RefusesContent ListOfTexts text fault = RefusesJson RefusesTexts text fault
RefusesContent OptionGroup text fault = RefusesJson (λ d. RefusesRowValue tables.Options (options_value d)) text fault
RefusesContent TypeAlone text fault = RefusesJson (RefusesRowValue tables.NoteType) text fault
RefusesContent TypeWithMaps text fault = RefusesJson RefusesTypeWithMaps text fault
RefusesContent Searching text fault = MatchOption (first_fault text) ⊥ (λ first. fault ≡ faults.Search first)
