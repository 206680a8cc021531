-- What was written of a note type in its ranges is read again.
use Rattle.std.proofs.Common.{◌≡◌, ℕ, ◌+◌, ◌≤◌, ◌-◌, ℤ, pos, negsuc, List, [], ◌∷◌, length, map, Bool, true, false, not, ◌&&◌, ◌||◌, Option, Some, None, Ok, refl, sym, ap, ◌∙◌, arith}
use Rattle.ak_base.proofs.Optional.{first_none, second_none}
use Rattle.std.specs.Prelude.{if◌then◌else◌, unwrap_or, option_and_then}
use Rattle.std.specs.Option.{option_or}
use Rattle.serde_json.specs.Data.{Data, string, number, unsigned, array, Items, no_items, Members, no_members, member}
use Rattle.serde_json.specs.Find.{as_array}
use Rattle.serde_json.specs.View.{items_of}
use Rattle.ak_base.specs.Columns.{long_fault, first_fault}
use Rattle.ak_base.specs.NoteTypes.{place_fault, entries_fault, bad_field, note_type_faults, title_faults, form_faults}
use Rattle.ak_base.specs.declared.errors.RowFault.{RowFault}
use Rattle.ak_base.specs.declared.note_types.FieldDef.{FieldDef}
use Rattle.ak_base.specs.declared.note_types.CardTemplate.{CardTemplate}
use Rattle.ak_base.specs.declared.note_types.NoteType.{NoteType}
use Rattle.ak_json.specs.Cells.{cell_at, text_at}
use Rattle.ak_json.specs.Depths.{is_shallow}
use Rattle.ak_json.specs.FormFaults.{plain_form_fault, inner_form_fault, part_form_fault, parts_form_fault, column_form_fault, first_form_fault}
use Rattle.ak_json.specs.Members.{Form, knows, unknown, deep_member, has_deep}
use Rattle.ak_json.specs.NoteTypes.{field_of, field_in, fields_in, template_of, template_in, templates_in, items_at, IsNoteType, fields_json, templates_json, note_type_cells, note_type_json}
use Rattle.ak_json.specs.Objects.{object_form_fault, put_cells}
use Rattle.ak_json.specs.Rests.{rest_members, rest_text, deep_key, object_json}
use Rattle.ak_json.specs.declared.form_faults.FormFault.TheVariants as form_faults
use Rattle.ak_json.specs.Forms.{note_type_form, field_form, template_form}
use Rattle.ak_json.proofs.Again.{IsReadAgain, AllNone, all_none, at_most, id_again, stamp_again, code_again}
use Rattle.ak_json.proofs.DecksAgain.{whole_found, words_found, bit_found, bit_holds}
use Rattle.ak_json.proofs.ObjectForms.{AllFound, all_hold, IsObjectAgain, object_again}

-- ---- an object inside a row

both_none : {T : Type 0} (a b : Option T) → a ≡ None → b ≡ None → option_or a b ≡ None
both_none a b h k = ap (λ o. option_or o b) h ∙ k

-- an object with no fault has none of its columns alone
pub inner_none : (form : Form) (d : Data) → first_form_fault form d ≡ None → inner_form_fault form d ≡ None
inner_none [] d h = refl
inner_none (column ∷ columns) d h =
    both_none _ _
    (first_none (plain_form_fault column d) _ (first_none (column_form_fault column d) (first_form_fault columns d) h))
    (inner_none columns d (second_none (column_form_fault column d) (first_form_fault columns d) h))

-- where none of those that are kept is deep, no unknown member is
no_deep : (form : Form) (ms : Members) → deep_member (unknown form ms) ≡ None → has_deep form ms ≡ false
no_deep form no_members h = refl
no_deep form (member k d ms) h = one (knows form k) (is_shallow 63 d) (unknown form ms) refl h (no_deep form ms)
  where
    one : (known shallow : Bool) (later : Members) → is_shallow 63 d ≡ shallow → deep_member (if known then later else member k d later) ≡ None
        → (deep_member later ≡ None → has_deep form ms ≡ false) → ((not known && not shallow) || has_deep form ms) ≡ false
    one true shallow later e h i = i h
    one false true later e h i = i (sym (ap (λ (b : Bool). if b then deep_member later else Some k) e) ∙ h)
    one false false later e h i = let deep : Some k ≡ None = sym (ap (λ (b : Bool). if b then deep_member later else Some k) e) ∙ h in cc

-- it has no fault as an object of a list
part_again : (form : Form) (cells : List Data) (text : List ℕ) → IsObjectAgain form cells text → part_form_fault form (object_json form cells text) ≡ None
part_again form cells text o =
    both_none _ _
    (inner_none form (object_json form cells text) o.fault)
    (ap (λ (b : Bool). if b then Some form_faults.WholeValue else None) (no_deep form (put_cells form cells (rest_members text)) o.shallow))

-- ---- the fields and the templates

abbrev field_cells : ℕ → FieldDef → List Data
field_cells n f = string f.name ∷ number (unsigned n) ∷ []

field_again : (n : ℕ) (f : FieldDef) → IsObjectAgain field_form (field_cells n f) f.rest.text
field_again n f = object_again field_form (field_cells n f) f.rest.text refl refl f.rest.unknown refl

fields_good : (n : ℕ) (fs : List FieldDef) → parts_form_fault field_form (items_of (fields_json n fs)) ≡ None
fields_good n [] = refl
fields_good n (f ∷ fs) = both_none _ _ (part_again field_form (field_cells n f) f.rest.text (field_again n f)) (fields_good (n + 1) fs)

field_read : (n : ℕ) (f : FieldDef) → field_of f ≡ field_in (object_json field_form (field_cells n f) f.rest.text)
field_read n f =
    let d : Data = object_json field_form (field_cells n f) f.rest.text in
    let o : IsObjectAgain field_form (field_cells n f) f.rest.text = field_again n f in
    ap (λ (name : List ℕ). (name, f.rest.text)) (words_found field_form 0 d f.name o.found.0) ∙ ap (λ (rest : List ℕ). (text_at field_form 0 d, rest)) o.rest

fields_read : (n : ℕ) (fs : List FieldDef) → map field_of fs ≡ fields_in (items_of (fields_json n fs))
fields_read n [] = refl
fields_read n (f ∷ fs) = ap (λ first. first ∷ map field_of fs) (field_read n f) ∙ ap (λ later. field_in (object_json field_form (field_cells n f) f.rest.text) ∷ later) (fields_read (n + 1) fs)

abbrev template_cells : ℕ → CardTemplate → List Data
template_cells n t = string t.name ∷ string t.front ∷ string t.back ∷ number (unsigned n) ∷ []

template_again : (n : ℕ) (t : CardTemplate) → IsObjectAgain template_form (template_cells n t) t.rest.text
template_again n t = object_again template_form (template_cells n t) t.rest.text refl refl t.rest.unknown refl

templates_good : (n : ℕ) (ts : List CardTemplate) → parts_form_fault template_form (items_of (templates_json n ts)) ≡ None
templates_good n [] = refl
templates_good n (t ∷ ts) = both_none _ _ (part_again template_form (template_cells n t) t.rest.text (template_again n t)) (templates_good (n + 1) ts)

template_read : (n : ℕ) (t : CardTemplate) → template_of t ≡ template_in (object_json template_form (template_cells n t) t.rest.text)
template_read n t =
    let d : Data = object_json template_form (template_cells n t) t.rest.text in
    let o : IsObjectAgain template_form (template_cells n t) t.rest.text = template_again n t in
    ap (λ (name : List ℕ). (name, t.front, t.back, t.rest.text)) (words_found template_form 0 d t.name o.found.0)
    ∙ (ap (λ (front : List ℕ). (text_at template_form 0 d, front, t.back, t.rest.text)) (words_found template_form 1 d t.front o.found.1.0)
    ∙ (ap (λ (back : List ℕ). (text_at template_form 0 d, text_at template_form 1 d, back, t.rest.text)) (words_found template_form 2 d t.back o.found.1.1.0)
    ∙ ap (λ (rest : List ℕ). (text_at template_form 0 d, text_at template_form 1 d, text_at template_form 2 d, rest)) o.rest))

templates_read : (n : ℕ) (ts : List CardTemplate) → map template_of ts ≡ templates_in (items_of (templates_json n ts))
templates_read n [] = refl
templates_read n (t ∷ ts) =
    ap (λ first. first ∷ map template_of ts) (template_read n t)
    ∙ ap (λ later. template_in (object_json template_form (template_cells n t) t.rest.text) ∷ later) (templates_read (n + 1) ts)

items_found : (n : ℕ) (d : Data) (ds : Items) → cell_at note_type_form n d ≡ Some (array ds) → ds ≡ items_at n d
items_found n d ds e = sym (ap (λ (o : Option Data). unwrap_or (option_and_then as_array o) no_items) e)

-- ---- a note type

not_long : (long : Bool) (fault : RowFault) → (if long then Some fault else None) ≡ None → long ≡ false
not_long true fault h = cc
not_long false fault h = refl

few_or_none : (none long : Bool) (fault other : RowFault) → (if none then Some fault else (if long then Some other else None)) ≡ None → long ≡ false
few_or_none true long fault other h = cc
few_or_none false long fault other h = not_long long other h

few : (column n : ℕ) → entries_fault column n ≡ None → n ≤ 100
unfolding entries_fault long_fault
few column n h = at_most 100 n (few_or_none _ _ _ _ h)

place_again : (column : ℕ) (place : ℤ) (entries : ℕ) → entries ≤ 100 → place_fault column place entries ≡ None → IsReadAgain place
unfolding place_fault
place_again column place entries h e = code_again column (entries - 1) place (pos 0) (omega (arith, h)) e

-- the numbers of a note type are read as they were written
record AreRead (n : NoteType) : Type 0 where
  id : IsReadAgain n.id
  stamp : IsReadAgain n.stamp
  usn : IsReadAgain n.usn
  sortf : IsReadAgain n.sortf

are_read : (n : NoteType) → AllNone (note_type_faults n) → AreRead n
unfolding title_faults form_faults
are_read n all =
    let fields : entries_fault 6 (length n.fields) ≡ None = first_none _ (bad_field n.fields) all.1.1.1.1.1.0 in
    record {
      id = id_again n.id all.0;
      stamp = stamp_again n.stamp all.1.0;
      usn = code_again 2 2_147_483_647 n.usn (negsuc 0) (omega arith) all.1.1.0;
      sortf = place_again 5 n.sortf (length n.fields) (few 6 (length n.fields) fields) all.1.1.1.1.0;
    }

note_type_holds : (n : NoteType) → AreRead n → all_hold note_type_form (note_type_cells n) ≡ true
note_type_holds n r = rw (r.id, r.stamp, r.usn, bit_holds n.cloze, r.sortf, fields_good 0 n.fields, templates_good 0 n.templates) refl

note_type_found : (n : NoteType) (d : Data) → AllFound note_type_form (note_type_cells n) d → AreRead n → n.rest.text ≡ rest_text note_type_form d → IsNoteType d n
note_type_found n d f r rest =
    record {
      id = whole_found note_type_form 0 d n.id f.0 r.id;
      stamp = whole_found note_type_form 1 d n.stamp f.1.0 r.stamp;
      usn = whole_found note_type_form 2 d n.usn f.1.1.0 r.usn;
      name = words_found note_type_form 3 d n.name f.1.1.1.0;
      cloze = bit_found note_type_form 4 d n.cloze f.1.1.1.1.0;
      sortf = whole_found note_type_form 5 d n.sortf f.1.1.1.1.1.0 r.sortf;
      fields = fields_read 0 n.fields ∙ ap fields_in (items_found 6 d (items_of (fields_json 0 n.fields)) f.1.1.1.1.1.1.0);
      templates = templates_read 0 n.templates ∙ ap templates_in (items_found 7 d (items_of (templates_json 0 n.templates)) f.1.1.1.1.1.1.1.0);
      rest = rest;
    }

-- the object has the form, and its note type is the one that was written
pub record IsNoteTypeAgain (n : NoteType) : Type 0 where
  pub fault : object_form_fault note_type_form (note_type_json n) ≡ None
  pub deep : deep_key note_type_form (note_type_json n) ≡ None
  pub row : IsNoteType (note_type_json n) n

pub note_type_again : (n : NoteType) (good : Unit {0}) → first_fault (note_type_faults n) ≡ Ok good → IsNoteTypeAgain n
note_type_again n good e =
    let r : AreRead n = are_read n (all_none (note_type_faults n) good e) in
    let o : IsObjectAgain note_type_form (note_type_cells n) n.rest.text = object_again note_type_form (note_type_cells n) n.rest.text refl refl n.rest.unknown (note_type_holds n r) in
    record {
      fault = o.fault;
      deep = o.deep;
      row = note_type_found n (note_type_json n) o.found r o.rest;
    }
