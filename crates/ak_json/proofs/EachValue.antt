-- Each orderly value, as those are that were read from a text, is read as a row, or refused by a fault other than out of memory.
use Rattle.std.proofs.Common.{◌≡◌, ℕ, pos, List, [], ◌∷◌, map, Bool, true, false, ◌&&◌, Option, Some, None, IfSome, Result, Ok, Err, ◌⊎◌, inl, inr, Ordering, Less, Equal, Greater, nat_cmp, refl, ap₂, subst}
use Rattle.ak_base.proofs.Optional.{first_none, second_none, none_mapped}
use Rattle.std.specs.Prelude.{if◌then◌else◌, unwrap_or, option_map, option_and_then}
use Rattle.std.specs.Option.{option_or}
use Rattle.std.specs.List.{list_all}
use Rattle.std.specs.Cmp.Lexicographic.{slice_cmp}
use Rattle.std.specs.Ordering.{match_ordering, int_eq}
use Rattle.serde_json.specs.Data.{Data, null, boolean, number, string, array, object, Items, no_items, item, Members, no_members, member}
use Rattle.serde_json.specs.Find.{get, get_member, as_array, as_object}
use Rattle.serde_json.specs.Written.{compact_text}
use Rattle.ak_base.specs.Rests.{is_plain, is_rest, lacks, lacks_options, field_keys, template_keys, note_type_keys, deck_keys, conf_keys}
use Rattle.ak_base.specs.declared.decks.Deck.{Deck}
use Rattle.ak_base.specs.declared.errors.RowFault.{RowFault}
use Rattle.ak_base.specs.declared.heads.Conf.{Conf}
use Rattle.ak_base.specs.declared.names.Table.{Table}
use Rattle.ak_base.specs.declared.names.Table.TheVariants as tables
use Rattle.ak_base.specs.declared.note_types.CardTemplate.{CardTemplate}
use Rattle.ak_base.specs.declared.note_types.FieldDef.{FieldDef}
use Rattle.ak_base.specs.declared.note_types.NoteType.{NoteType}
use Rattle.ak_base.specs.declared.option_groups.Options.{Options}
use Rattle.ak_base.specs.declared.rows.Row.{Row}
use Rattle.ak_base.specs.declared.rows.Row.TheVariants as rows
use Rattle.ak_base.proofs.Resting.{members_of-written, plain_value, written_is_rest}
use Rattle.ak_json.specs.Arrays.{note_at, card_at, review_at, grave_at}
use Rattle.ak_json.specs.Cells.{integer_at, permille_at, text_at, bool_at, part_at, count_at, steps_at}
use Rattle.ak_json.specs.Confs.{ReadsConf, conf_fault}
use Rattle.ak_json.specs.Decks.{IsDeck}
use Rattle.ak_json.specs.Faults.{told, Tells, SomeFault}
use Rattle.ak_json.specs.FormFaults.{part_form_fault, parts_form_fault}
use Rattle.ak_json.specs.Groups.{IsOptionsBy, put_group, new_in, rev_in, lapse_in, options_kept, options_kept_by}
use Rattle.ak_json.specs.Versions.{version_of, new_form_of, rev_form_of, lapse_form_of}
use Rattle.ak_json.specs.declared.versions.Version.{Version}
use Rattle.ak_json.specs.Keys.{key_text}
use Rattle.ak_json.specs.Members.{Form, knows, unknown, deep_member}
use Rattle.ak_json.specs.NoteTypes.{IsNoteType, field_of, field_in, fields_in, template_of, template_in, templates_in, items_at}
use Rattle.ak_json.specs.Objects.{object_form_fault}
use Rattle.ak_json.specs.Rests.{kept, rest_text, deep_fault, deep_key}
use Rattle.ak_json.specs.Rows.{row_form_fault, deep_in, form_refusal, IsRow, stored_check, kept_row, ReadsRow, RefusesRow}
use Rattle.ak_json.specs.declared.faults.JsonFault.{JsonFault}
use Rattle.ak_json.specs.declared.faults.JsonFault.TheVariants as faults
use Rattle.ak_json.specs.declared.form_faults.FormFault.{FormFault}
use Rattle.ak_json.specs.declared.form_faults.FormFault.TheVariants as form_faults
use Rattle.ak_json.specs.Forms.{conf_form, deck_form, note_type_form, field_form, template_form, options_form}
use Rattle.ak_json.specs.declared.keys.Key.{Key}
use Rattle.ak_json.specs.declared.keys.Key.TheVariants as keys
use Rattle.ak_json.proofs.Kept.{lacks_known, plain_kept}
use Rattle.ak_json.proofs.OptionRests.{options_ignored}
use Rattle.ak_json.proofs.Orderly.{IsOrderly, AreOrderly, HaveOrderly, AreMembers, unasked, mapped, put_members, text_reads}
use Rattle.ak_json.proofs.Parts.{of_object}
use Rattle.ak_json.proofs.RowForms.{fields_faultless, kept_stands, templates_faultless}
use Rattle.ak_json.proofs.Sorted.{unknown_behind}

-- ---- what stands in an orderly value is orderly

member_orderly : (k : List ℕ) (ms : Members) → HaveOrderly ms → IfSome (get_member k ms) IsOrderly
member_orderly k no_members h = tt
member_orderly k (member l d ms) h = one (slice_cmp nat_cmp k l) (member_orderly k ms h.1)
  where
    one : (o : Ordering) → IfSome (get_member k ms) IsOrderly → IfSome (match_ordering o (get_member k ms) (Some d) (get_member k ms)) IsOrderly
    one Less later = later
    one Equal later = h.0
    one Greater later = later

pub get_orderly : (k : List ℕ) (d : Data) → IsOrderly d → IfSome (get k d) IsOrderly
get_orderly k null h = tt
get_orderly k (boolean b) h = tt
get_orderly k (number n) h = tt
get_orderly k (string s) h = tt
get_orderly k (array ds) h = tt
get_orderly k (object ms) h = member_orderly k ms h.1

pub found_or : (o : Option Data) (d : Data) → IfSome o IsOrderly → IsOrderly d → IsOrderly (unwrap_or o d)
found_or None d h k = k
found_or (Some e) d h k = h

array_orderly : (d : Data) → IsOrderly d → AreOrderly (unwrap_or (as_array d) no_items)
array_orderly null h = tt
array_orderly (boolean b) h = tt
array_orderly (number n) h = tt
array_orderly (string s) h = tt
array_orderly (array ds) h = h
array_orderly (object ms) h = tt

pub list_orderly : (o : Option Data) → IfSome o IsOrderly → AreOrderly (unwrap_or (option_and_then as_array o) no_items)
list_orderly None h = tt
list_orderly (Some d) h = array_orderly d h

object_members : (d : Data) → IsOrderly d → AreMembers (unwrap_or (as_object d) no_members)
object_members null h = (tt, tt)
object_members (boolean b) h = (tt, tt)
object_members (number n) h = (tt, tt)
object_members (string s) h = (tt, tt)
object_members (array ds) h = (tt, tt)
object_members (object ms) h = h

unknown_members : (form : Form) (ms : Members) → AreMembers ms → AreMembers (unknown form ms)
unknown_members form no_members h = h
unknown_members form (member k d ms) h = one (knows form k) (unknown_members form ms (h.0.1, h.1.1))
  where
    one : (known : Bool) → AreMembers (unknown form ms) → AreMembers (if known then unknown form ms else member k d (unknown form ms))
    one true later = later
    one false later = ((unknown_behind form k ms h.0.0, later.0), (h.1.0, later.1))

kept_members : (form : Form) (d : Data) → IsOrderly d → AreMembers (kept form d)
kept_members form d h = unknown_members form (unwrap_or (as_object d) no_members) (object_members d h)

group_members : (own : Key) (group ms : Members) → AreMembers group → AreMembers ms → AreMembers (put_group own group ms)
group_members own no_members ms g h = h
group_members own (member k d group) ms g h = put_members (key_text own) (object (member k d group)) ms g h

options_members : (v : Version) (d : Data) → IsOrderly d → AreMembers (options_kept_by v d)
options_members v d h =
    let new = kept_members (new_form_of v) (new_in d) (found_or (get (key_text keys.New) d) d (get_orderly (key_text keys.New) d h) h) in
    let rev = kept_members (rev_form_of v) (rev_in d) (found_or (get (key_text keys.Rev) d) d (get_orderly (key_text keys.Rev) d h) h) in
    let lapse = kept_members (lapse_form_of v) (lapse_in d) (found_or (get (key_text keys.Lapse) d) d (get_orderly (key_text keys.Lapse) d h) h) in
    group_members keys.Lapse _ _ lapse (group_members keys.Rev _ _ rev (group_members keys.New _ _ new (kept_members options_form d h)))

-- ---- the rest of an orderly value

-- the text of orderly members that are not deep is a rest
text_is_rest : (passes : Members → Bool) (ms : Members) → AreMembers ms → deep_member ms ≡ None → passes ms ≡ true → is_rest passes (compact_text (object ms)) ≡ true
text_is_rest passes ms h shallow ignored =
    let good : (is_plain ms && passes ms) ≡ true = plain_kept passes ms shallow ignored in
    let plain = plain_value (object ms) passes good in
    written_is_rest (compact_text (object ms)) (object ms) passes good
    (members_of-written (compact_text (object ms)) (object ms) (text_reads (object ms) h plain.0 plain.1) refl)

kept_is_rest : (keys : List (List ℕ)) (form : Form) (d : Data) → list_all (knows form) keys ≡ true → IsOrderly d → deep_member (kept form d) ≡ None → is_rest (lacks keys) (rest_text form d) ≡ true
kept_is_rest keys form d known h shallow = text_is_rest (lacks keys) (kept form d) (kept_members form d h) shallow (lacks_known keys form _ known)

-- ---- the row of an orderly value of its form

deck_made : (d : Data) → IsOrderly d → deep_key deck_form d ≡ None → (k : Deck) × IsDeck d k
deck_made d h shallow = (
  record {
    id = integer_at deck_form 0 d;
    stamp = integer_at deck_form 1 d;
    usn = integer_at deck_form 2 d;
    name = text_at deck_form 3 d;
    options = integer_at deck_form 4 d;
    filtered = int_eq (integer_at deck_form 5 d) (pos 1);
    new_today = count_at deck_form 6 d;
    rev_today = count_at deck_form 7 d;
    rest = record { text = rest_text deck_form d; owner = record {}; unknown = kept_is_rest deck_keys deck_form d refl h (none_mapped faults.WrongKind _ shallow) };
  },
  record { id = refl; stamp = refl; usn = refl; name = refl; options = refl; filtered = refl; new_today = refl; rev_today = refl; rest = refl },
)

field_made : (d : Data) → IsOrderly d → part_form_fault field_form d ≡ None → (f : FieldDef) × (field_of f ≡ field_in d)
field_made d h e = (
  record {
    name = text_at field_form 0 d;
    rest = record { text = rest_text field_form d; owner = record {}; unknown = kept_is_rest field_keys field_form d refl h (of_object field_form d (as_object d) e) };
  },
  refl,
)

fields_made : (ds : Items) → AreOrderly ds → parts_form_fault field_form ds ≡ None → (fs : List FieldDef) × (map field_of fs ≡ fields_in ds)
fields_made no_items h e = ([], refl)
fields_made (item d ds) h e =
    let first = field_made d h.0 (first_none (part_form_fault field_form d) _ e) in
    let later = fields_made ds h.1 (second_none (part_form_fault field_form d) _ e) in (first.0 ∷ later.0, ap₂ (λ f fs. f ∷ fs) first.1 later.1)

template_made : (d : Data) → IsOrderly d → part_form_fault template_form d ≡ None → (t : CardTemplate) × (template_of t ≡ template_in d)
template_made d h e = (
  record {
    name = text_at template_form 0 d;
    front = text_at template_form 1 d;
    back = text_at template_form 2 d;
    rest = record { text = rest_text template_form d; owner = record {}; unknown = kept_is_rest template_keys template_form d refl h (of_object template_form d (as_object d) e) };
  },
  refl,
)

templates_made : (ds : Items) → AreOrderly ds → parts_form_fault template_form ds ≡ None → (ts : List CardTemplate) × (map template_of ts ≡ templates_in ds)
templates_made no_items h e = ([], refl)
templates_made (item d ds) h e =
    let first = template_made d h.0 (first_none (part_form_fault template_form d) _ e) in
    let later = templates_made ds h.1 (second_none (part_form_fault template_form d) _ e) in (first.0 ∷ later.0, ap₂ (λ t ts. t ∷ ts) first.1 later.1)

note_type_made : (d : Data) → IsOrderly d → row_form_fault tables.NoteType d ≡ None → deep_key note_type_form d ≡ None → (n : NoteType) × IsNoteType d n
note_type_made d h faultless shallow =
    let fields = fields_made (items_at 6 d) (list_orderly (get (key_text keys.Flds) d) (get_orderly (key_text keys.Flds) d h)) (fields_faultless tables.NoteType d refl faultless) in
    let templates = templates_made (items_at 7 d) (list_orderly (get (key_text keys.Tmpls) d) (get_orderly (key_text keys.Tmpls) d h)) (templates_faultless tables.NoteType d refl faultless) in (
      record {
        id = integer_at note_type_form 0 d;
        stamp = integer_at note_type_form 1 d;
        usn = integer_at note_type_form 2 d;
        name = text_at note_type_form 3 d;
        cloze = int_eq (integer_at note_type_form 4 d) (pos 1);
        sortf = integer_at note_type_form 5 d;
        fields = fields.0;
        templates = templates.0;
        rest = record { text = rest_text note_type_form d; owner = record {}; unknown = kept_is_rest note_type_keys note_type_form d refl h (none_mapped faults.WrongKind _ shallow) };
      },
      record { id = refl; stamp = refl; usn = refl; name = refl; cloze = refl; sortf = refl; fields = fields.1; templates = templates.1; rest = refl },
    )

options_made : (v : Version) (d : Data) → IsOrderly d → deep_fault (options_kept_by v d) ≡ None → (o : Options) × IsOptionsBy v d o
options_made v d h shallow = (
  record {
    id = integer_at options_form 0 d;
    stamp = integer_at options_form 1 d;
    usn = integer_at options_form 2 d;
    name = text_at options_form 3 d;
    max_taken = integer_at options_form 4 d;
    new_steps = steps_at (new_form_of v) 0 (new_in d);
    grad_ivl = part_at (new_form_of v) 1 0 (new_in d);
    easy_ivl = part_at (new_form_of v) 1 1 (new_in d);
    initial_factor = integer_at (new_form_of v) 2 (new_in d);
    new_per_day = integer_at (new_form_of v) 3 (new_in d);
    new_bury = bool_at (new_form_of v) 4 (new_in d);
    rev_per_day = integer_at (rev_form_of v) 0 (rev_in d);
    ease4 = permille_at (rev_form_of v) 1 (rev_in d);
    ivl_fct = permille_at (rev_form_of v) 2 (rev_in d);
    max_ivl = integer_at (rev_form_of v) 3 (rev_in d);
    hard_factor = permille_at (rev_form_of v) 4 (rev_in d);
    rev_bury = bool_at (rev_form_of v) 5 (rev_in d);
    lapse_steps = steps_at (lapse_form_of v) 0 (lapse_in d);
    mult = permille_at (lapse_form_of v) 1 (lapse_in d);
    min_int = integer_at (lapse_form_of v) 2 (lapse_in d);
    leech_fails = integer_at (lapse_form_of v) 3 (lapse_in d);
    leech_action = integer_at (lapse_form_of v) 4 (lapse_in d);
    rest = record {
      text = compact_text (object (options_kept_by v d));
      owner = record {};
      unknown = text_is_rest lacks_options (options_kept_by v d) (options_members v d h) (none_mapped faults.WrongKind _ shallow) (options_ignored v d);
    };
  },
  record {
    id = refl;
    stamp = refl;
    usn = refl;
    name = refl;
    max_taken = refl;
    new_steps = refl;
    grad_ivl = refl;
    easy_ivl = refl;
    initial_factor = refl;
    new_per_day = refl;
    new_bury = refl;
    rev_per_day = refl;
    ease4 = refl;
    ivl_fct = refl;
    max_ivl = refl;
    hard_factor = refl;
    rev_bury = refl;
    lapse_steps = refl;
    mult = refl;
    min_int = refl;
    leech_fails = refl;
    leech_action = refl;
    rest = refl;
  },
)

row_made : (table : Table) (d : Data) → IsOrderly d → row_form_fault table d ≡ None → deep_in table d ≡ None → (row : Row) × IsRow table d row
row_made tables.Note d h faultless shallow = (rows.Note (note_at d), (tt, refl))
row_made tables.Card d h faultless shallow = (rows.Card (card_at d), (tt, refl))
row_made tables.Review d h faultless shallow = (rows.Review (review_at d), (tt, refl))
row_made tables.NoteType d h faultless shallow = let made = note_type_made d h faultless shallow in (rows.NoteType made.0, (tt, made.1))
row_made tables.Deck d h faultless shallow = let made = deck_made d h shallow in (rows.Deck made.0, (tt, made.1))
row_made tables.Options d h faultless shallow = let made = options_made (version_of d) d h shallow in (rows.Options made.0, (tt, made.1))
row_made tables.NoteGrave d h faultless shallow = (rows.Grave (grave_at d), (tt, refl))
row_made tables.CardGrave d h faultless shallow = (rows.Grave (grave_at d), (tt, refl))
row_made tables.DeckGrave d h faultless shallow = (rows.Grave (grave_at d), (tt, refl))

-- ---- the fault of a form

abbrev IsOfForm : JsonFault → Type 0
IsOfForm faults.NotJson = ⊥
IsOfForm (faults.Missing text) = Unit {0}
IsOfForm (faults.WrongKind text) = Unit {0}
IsOfForm (faults.Row fault) = ⊥
IsOfForm faults.Memory = ⊥

form_fault_of_form : (fault : FormFault) → IsOfForm (told fault)
form_fault_of_form form_faults.WholeValue = tt
form_fault_of_form (form_faults.Missing place) = tt
form_fault_of_form (form_faults.WrongKind place) = tt

deep_of_form : (ms : Members) → IfSome (deep_fault ms) IsOfForm
deep_of_form ms = mapped (λ _. Unit {0}) IsOfForm faults.WrongKind (λ k _. tt) (deep_member ms) (unasked _)

key_of_form : (table : Table) (d : Data) → IfSome (deep_in table d) IsOfForm
key_of_form tables.NoteType d = deep_of_form (kept note_type_form d)
key_of_form tables.Deck d = deep_of_form (kept deck_form d)
key_of_form tables.Options d = deep_of_form (options_kept d)
key_of_form table d = tt

either_of_form : (a b : Option JsonFault) → IfSome a IsOfForm → IfSome b IsOfForm → IfSome (option_or a b) IsOfForm
either_of_form None b h k = k
either_of_form (Some fault) b h k = h

fault_of_form : (table : Table) (d : Data) → IfSome (form_refusal table d) IsOfForm
fault_of_form table d =
    either_of_form _ _ (mapped (λ _. Unit {0}) IsOfForm told (λ fault _. form_fault_of_form fault) (row_form_fault table d) (unasked _)) (key_of_form table d)

-- ---- each value

-- a row that the value is read as, or a fault that refuses it
abbrev IsDecided : Table → Data → Type 0
IsDecided table d = ((row : Row) × ReadsRow table d row) ⊎ SomeFault (RefusesRow table d)

of_row : (table : Table) (d : Data) (row : Row) → form_refusal table d ≡ None → IsRow table d row → (checked : Result (Unit {0}) RowFault) → stored_check table d row ≡ checked → IsDecided table d
of_row table d row form is (Ok good) e = inl (kept_row d row, record { form = form; stands = kept_stands table d row is.0; stored = row; is = is; good = e; kept = refl })
of_row table d row form is (Err fault) e = inr (faults.Row fault, (row, record { form = form; is = is; bad = e }), λ m. cc)

of_fault : (table : Table) (d : Data) (fault : JsonFault) → IsOfForm fault → form_refusal table d ≡ Some fault → IsDecided table d
of_fault table d faults.NotJson h e = absurd h
of_fault table d (faults.Missing text) h e = inr (faults.Missing text, e, λ m. cc)
of_fault table d (faults.WrongKind text) h e = inr (faults.WrongKind text, e, λ m. cc)
of_fault table d (faults.Row fault) h e = absurd h
of_fault table d faults.Memory h e = absurd h

-- each orderly value is read as a row, or refused
pub each_value : (table : Table) (d : Data) → IsOrderly d → ((row : Row) × ReadsRow table d row) ⊎ SomeFault (RefusesRow table d)
each_value table d h = one (form_refusal table d) refl
  where
    one : (o : Option JsonFault) → form_refusal table d ≡ o → IsDecided table d
    one None e =
        let faultless : row_form_fault table d ≡ None = none_mapped told (row_form_fault table d) (first_none _ (deep_in table d) e) in
        let shallow : deep_in table d ≡ None = second_none (option_map told (row_form_fault table d)) _ e in
        let made = row_made table d h faultless shallow in
        of_row table d made.0 e made.1 (stored_check table d made.0) refl
    one (Some fault) e = of_fault table d fault (subst (λ (o : Option JsonFault). IfSome o IsOfForm) e (fault_of_form table d)) e

-- ---- the same of the settings

conf_made : (d : Data) → IsOrderly d → conf_fault d ≡ None → (c : Conf) × ReadsConf d c
conf_made d h e = (
  record {
    new_spread = integer_at conf_form 0 d;
    collapse = integer_at conf_form 1 d;
    day_learn_first = bool_at conf_form 2 d;
    next_pos = integer_at conf_form 3 d;
    last_unburied = integer_at conf_form 4 d;
    rest = record {
      text = rest_text conf_form d;
      owner = record {};
      unknown = kept_is_rest conf_keys conf_form d refl h (none_mapped faults.WrongKind _ (second_none (option_map told (object_form_fault conf_form d)) _ e));
    };
  },
  record { form = e; new_spread = refl; collapse = refl; day_learn_first = refl; next_pos = refl; last_unburied = refl; rest = refl },
)

-- settings that the value is read as, or a fault that refuses it
abbrev IsConfDecided : Data → Type 0
IsConfDecided d = ((c : Conf) × ReadsConf d c) ⊎ SomeFault (Tells (conf_fault d))

conf_told : (d : Data) (fault : JsonFault) → IsOfForm fault → conf_fault d ≡ Some fault → IsConfDecided d
conf_told d faults.NotJson h e = absurd h
conf_told d (faults.Missing text) h e = inr (faults.Missing text, e, λ m. cc)
conf_told d (faults.WrongKind text) h e = inr (faults.WrongKind text, e, λ m. cc)
conf_told d (faults.Row fault) h e = absurd h
conf_told d faults.Memory h e = absurd h

fault_of_conf : (d : Data) → IfSome (conf_fault d) IsOfForm
fault_of_conf d =
    either_of_form _ _ (mapped (λ _. Unit {0}) IsOfForm told (λ fault _. form_fault_of_form fault) (object_form_fault conf_form d) (unasked _)) (deep_of_form (kept conf_form d))

-- each orderly value is read as settings, or refused
pub each_conf : (d : Data) → IsOrderly d → ((c : Conf) × ReadsConf d c) ⊎ SomeFault (Tells (conf_fault d))
each_conf d h = one (conf_fault d) refl
  where
    one : (o : Option JsonFault) → conf_fault d ≡ o → IsConfDecided d
    one None e = inl (conf_made d h e)
    one (Some fault) e = conf_told d fault (subst (λ (o : Option JsonFault). IfSome o IsOfForm) e (fault_of_conf d)) e
