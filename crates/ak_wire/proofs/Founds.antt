-- What an object of a form holds under the form's keys.
use Rattle.std.proofs.Common.{◌≡◌, ℕ, ℤ, pos, negsuc, List, [], ◌∷◌, Bool, true, false, if◌then◌else◌, ◌&&◌, ◌||◌, Option, Some, None, refl, sym, ap, ◌∙◌, subst, codes, option_and_then, unwrap_or}
use Rattle.std.specs.Cmp.{first_so, second_so}
use Rattle.std.specs.Option.{is_some, option_map, option_map_or, option_or}
use Rattle.serde_json.specs.Data.{Data, null, boolean, number, string, array, object, Items, no_items, item, Members, no_members, member}
use Rattle.serde_json.specs.Find.{get, at, as_bool, as_str, as_array, as_object, as_number, as_u64}
use Rattle.ak_base.specs.declared.heads.Tag.{Tag}
use Rattle.ak_json.specs.Cells.{integers}
use Rattle.ak_json.specs.Kinds.{integer_of, is_number_within}
use Rattle.ak_wire.specs.Faults.{ReadsEach}
use Rattle.ak_wire.specs.Forms.{Form}
use Rattle.ak_wire.specs.Found.{HasInteger, HasBool, HasText, HasWord, Under, AtPlace, ReadsList, IsInteger, IsText, ReadsMembers, ReadsTags}
use Rattle.ak_messages.specs.declared.replies.Word.TheVariants as words
use Rattle.ak_wire.specs.Keys.{key_text}
use Rattle.ak_wire.specs.Words.{word_of}
use Rattle.ak_wire.specs.Kinds.{holds, is_status, is_list, is_after, ids_after, are_tag_names, are_tags}
use Rattle.ak_base.specs.Heads.{is_tag_name}
use Rattle.ak_wire.specs.Values.{found_fault, key_fault, first_key_fault, object_key_fault, told, first_fault, object_fault, integer_under, bool_under, text_under, value_under, items_of, items_under, ids_under, texts, tags_of, tags_under}
use Rattle.ak_wire.specs.declared.keys.Key.{Key}
use Rattle.ak_wire.specs.declared.kinds.Kind.{Kind}
use Rattle.ak_wire.specs.declared.kinds.Kind.TheVariants as kinds
use Rattle.ak_wire.specs.declared.objects.KeyFault.{KeyFault}
use Rattle.ak_wire.specs.declared.objects.KeyFault.TheVariants as key_faults
use Rattle.ak_wire.specs.declared.wire_faults.WireFault.{WireFault}

-- ---- options and tests

pub some_is : {A : Type 0} (o : Option A) (other : A) → is_some o ≡ true → o ≡ Some (unwrap_or o other)
some_is None other h = cc
some_is (Some x) other h = refl

or_none : {A : Type 0} (o others : Option A) → option_or o others ≡ None → (o ≡ None) × (others ≡ None)
or_none None others h = (refl, h)
or_none (Some x) others h = cc

pub first_none : {A : Type 0} (o others : Option A) → option_or o others ≡ None → o ≡ None
first_none o others h = (or_none o others h).0

pub later_none : {A : Type 0} (o others : Option A) → option_or o others ≡ None → others ≡ None
later_none o others h = (or_none o others h).1

map_none : {A B : Type 0} (f : A → B) (o : Option A) → option_map f o ≡ None → o ≡ None
map_none f None h = refl
map_none f (Some x) h = cc

held : {A : Type 0} (b : Bool) (x : A) → (if b then None else Some x) ≡ None → b ≡ true
held true x h = refl
held false x h = cc

chosen_none : {A : Type 0} (b : Bool) (o : Option A) (x : A) → (if b then o else Some x) ≡ None → o ≡ None
chosen_none true o x h = h
chosen_none false o x h = cc

-- ---- each key of a form holds what the form says

-- a value of the kind is held under the key
abbrev pub IsHeld : Key × Kind → Data → Type 0
IsHeld column d = (value : Data) × (get (key_text column.0) d ≡ Some value) × (holds column.1 value ≡ true)

-- so it is under each key of a form
abbrev pub AreHeld : Form → Data → Type 0
AreHeld [] d = Unit {0}
AreHeld (column ∷ columns) d = IsHeld column d × AreHeld columns d

found_in : (column : Key × Kind) (o : Option Data) → found_fault column o ≡ None → (value : Data) × (o ≡ Some value) × (holds column.1 value ≡ true)
found_in column None h = cc
found_in column (Some value) h = (value, refl, held (holds column.1 value) _ h)

keys_held : (form : Form) (d : Data) → first_key_fault form d ≡ None → AreHeld form d
keys_held [] d h = tt
keys_held (column ∷ columns) d h =
    (found_in column (get (key_text column.0) d) (first_none (key_fault column d) (first_key_fault columns d) h), keys_held columns d (later_none (key_fault column d) (first_key_fault columns d) h))

pub first_held : (form : Form) (d : Data) → first_fault form d ≡ None → AreHeld form d
first_held form d h = keys_held form d (map_none told (first_key_fault form d) h)

pub form_held : (form : Form) (d : Data) → object_fault form d ≡ None → AreHeld form d
form_held form d h = keys_held form d (chosen_none (is_some (as_object d)) (first_key_fault form d) key_faults.NoObject (map_none told (object_key_fault form d) h))

-- ---- what is taken of a value is what it holds

within_some : (least most : ℤ) (o : Option ℤ) → is_number_within least most o ≡ true → is_some o ≡ true
within_some least most None h = cc
within_some least most (Some z) h = refl

bool_is : (v : Data) → is_some (as_bool v) ≡ true → v ≡ boolean (unwrap_or (as_bool v) false)
bool_is null h = cc
bool_is (boolean b) h = refl
bool_is (number n) h = cc
bool_is (string s) h = cc
bool_is (array ds) h = cc
bool_is (object ms) h = cc

pub text_is : (v : Data) → is_some (as_str v) ≡ true → v ≡ string (unwrap_or (as_str v) [])
text_is null h = cc
text_is (boolean b) h = cc
text_is (number n) h = cc
text_is (string s) h = refl
text_is (array ds) h = cc
text_is (object ms) h = cc

pub list_is : (v : Data) → is_some (as_array v) ≡ true → v ≡ array (unwrap_or (as_array v) no_items)
list_is null h = cc
list_is (boolean b) h = cc
list_is (number n) h = cc
list_is (string s) h = cc
list_is (array ds) h = refl
list_is (object ms) h = cc

object_is : (v : Data) → is_some (as_object v) ≡ true → v ≡ object (unwrap_or (as_object v) no_members)
object_is null h = cc
object_is (boolean b) h = cc
object_is (number n) h = cc
object_is (string s) h = cc
object_is (array ds) h = cc
object_is (object ms) h = refl

pub map_or_some : {A : Type 0} (test : A → Bool) (o : Option A) → option_map_or test o false ≡ true → is_some o ≡ true
map_or_some test None h = cc
map_or_some test (Some x) h = refl

map_or_holds : {A : Type 0} (test : A → Bool) (o : Option A) (other : A) → option_map_or test o false ≡ true → test (unwrap_or o other) ≡ true
map_or_holds test None other h = cc
map_or_holds test (Some x) other h = h

-- ---- what is taken under a key

module _ (key : List ℕ) (d : Data) where
  -- the value that is held
  abbrev pub IsHeldAs : Kind → Type 0
  IsHeldAs kind = (value : Data) × (get key d ≡ Some value) × (holds kind value ≡ true)

  some_integer : (v : Data) → get key d ≡ Some v → is_some (integer_of v) ≡ true → HasInteger key d (integer_under key d)
  some_integer v is h = some_is (option_and_then integer_of (get key d)) (pos 0) (subst (λ (o : Option Data). is_some (option_and_then integer_of o) ≡ true) (sym is) h)

  pub integer_held : IsHeldAs kinds.Integer → HasInteger key d (integer_under key d)
  integer_held h = some_integer h.0 h.1 h.2

  pub within_held : (least most : ℤ) → IsHeldAs (kinds.Within least most) → HasInteger key d (integer_under key d)
  within_held least most h = some_integer h.0 h.1 (within_some least most (integer_of h.0) h.2)

  pub bool_held : IsHeldAs kinds.Bool → HasBool key d (bool_under key d)
  bool_held h =
      h.1 ∙ ap Some (bool_is h.0 h.2) ∙ ap (λ (o : Option Data). Some (boolean (unwrap_or (option_and_then as_bool o) false))) (sym h.1)

  some_text : (v : Data) → get key d ≡ Some v → is_some (as_str v) ≡ true → HasText key d (text_under key d)
  some_text v is h =
      is ∙ ap Some (text_is v h) ∙ ap (λ (o : Option Data). Some (string (unwrap_or (option_and_then as_str o) []))) (sym is)

  pub text_held : IsHeldAs kinds.Text → HasText key d (text_under key d)
  text_held h = some_text h.0 h.1 h.2

  pub status_held : IsHeldAs kinds.Status → HasText key d (text_under key d)
  status_held h = some_text h.0 h.1 (map_or_some _ (as_str h.0) h.2)

  pub status_text : IsHeldAs kinds.Status → is_status (text_under key d) ≡ true
  status_text h =
      map_or_holds is_status (option_and_then as_str (get key d)) [] (subst (λ (o : Option Data). option_map_or is_status (option_and_then as_str o) false ≡ true) (sym h.1) h.2)

  -- the value under a key is the one that is held
  pub value_is : (v : Data) → get key d ≡ Some v → value_under key d ≡ v
  value_is v is = ap (λ (o : Option Data). unwrap_or o d) is

  pub under_held : {A : Type 0} (reads : Data → A → Type 0) (made : A) (kind : Kind) → IsHeldAs kind → reads (value_under key d) made → Under key reads d made
  under_held reads made kind h read = (h.0, h.1, subst (λ (v : Data). reads v made) (value_is h.0 h.1) read)

  pub items_is : (v : Data) → get key d ≡ Some v → is_some (as_array v) ≡ true → v ≡ array (items_under key d)
  items_is v is h = list_is v h ∙ ap (λ (o : Option Data). array (unwrap_or (option_and_then as_array o) no_items)) (sym is)

  pub list_held : {A : Type 0} (reads : Data → A → Type 0) (parts : List A) → IsHeldAs kinds.Values → ReadsEach reads (items_under key d) parts → Under key (ReadsList reads) d parts
  list_held reads parts h each = (h.0, h.1, (items_under key d, items_is h.0 h.1 h.2, each))

-- ---- lists of ids and of texts, and tags

id_then : (before : Option ℤ) (d : Data) (ds : Items) (o : Option ℤ) → integer_of d ≡ o → ((z : ℤ) → ids_after (Some z) ds ≡ true → ReadsEach IsInteger ds (integers ds))
    → option_map_or (λ id. is_after before id && ids_after (Some id) ds) o false ≡ true → ReadsEach IsInteger (item d ds) (integers (item d ds))
id_then before d ds None is later h = cc
id_then before d ds (Some z) is later h = (some_is (integer_of d) (pos 0) (ap (λ (o : Option ℤ). is_some o) is), later z (second_so (is_after before z) _ h))

each_id : (before : Option ℤ) (ds : Items) → ids_after before ds ≡ true → ReadsEach IsInteger ds (integers ds)
each_id before no_items h = tt
each_id before (item d ds) h = id_then before d ds (integer_of d) refl (λ z k. each_id (Some z) ds k) h

pub ids_held : (key : List ℕ) (d : Data) → IsHeldAs key d kinds.Ids → Under key (ReadsList IsInteger) d (ids_under key d)
ids_held key d h =
    let is : h.0 ≡ array (items_under key d) = items_is key d h.0 h.1 (map_or_some _ (as_array h.0) h.2) in
    let ids : ids_after None (items_under key d) ≡ true = subst (λ (v : Data). option_map_or (λ ds. ids_after None ds) (as_array v) false ≡ true) is h.2 in
    (h.0, h.1, (items_under key d, is, each_id None (items_under key d) ids))

each_text : (ds : Items) → are_tag_names ds ≡ true → ReadsEach IsText ds (texts ds)
each_text no_items h = tt
each_text (item d ds) h =
    (text_is d (map_or_some is_tag_name (as_str d) (first_so (option_map_or is_tag_name (as_str d) false) _ h)), each_text ds (second_so (option_map_or is_tag_name (as_str d) false) _ h))

pub texts_held : (key : List ℕ) (d : Data) → IsHeldAs key d kinds.TagNames → Under key (ReadsList IsText) d (texts (items_under key d))
texts_held key d h =
    let is : h.0 ≡ array (items_under key d) = items_is key d h.0 h.1 (map_or_some _ (as_array h.0) h.2) in
    let names : are_tag_names (items_under key d) ≡ true = subst (λ (v : Data). option_map_or are_tag_names (as_array v) false ≡ true) is h.2 in
    (h.0, h.1, (items_under key d, is, each_text (items_under key d) names))

each_tag : (ms : Members) → are_tags ms ≡ true → ReadsMembers ms (tags_of ms)
each_tag no_members h = tt
each_tag (member k d ms) h =
    let rest = second_so (is_tag_name k) _ h in
    let within = first_so (is_number_within (negsuc 0) (pos 2_147_483_647) (integer_of d)) _ rest in
    (refl, some_is (integer_of d) (pos 0) (within_some (negsuc 0) (pos 2_147_483_647) (integer_of d) within), each_tag ms (second_so (is_number_within (negsuc 0) (pos 2_147_483_647) (integer_of d)) _ rest))

pub tags_held : (key : List ℕ) (d : Data) → IsHeldAs key d kinds.Tags → Under key ReadsTags d (tags_under key d)
tags_held key d h =
    let ms : Members = unwrap_or (option_and_then as_object (get key d)) no_members in
    let is : h.0 ≡ object ms = object_is h.0 (map_or_some _ (as_object h.0) h.2) ∙ ap (λ (o : Option Data). object (unwrap_or (option_and_then as_object o) no_members)) (sym h.1) in
    let tags : are_tags ms ≡ true = subst (λ (v : Data). option_map_or are_tags (as_object v) false ≡ true) is h.2 in
    (h.0, h.1, (ms, is, each_tag ms tags))

-- ---- a list at a place, and words

list_in : (o : Option Data) → is_some (option_and_then as_array o) ≡ true → (e : Data) × (o ≡ Some e) × (e ≡ array (items_of o))
list_in None h = cc
list_in (Some e) h = (e, refl, list_is e h)

pub place_held : {A : Type 0} (place : ℕ) (reads : Data → A → Type 0) (v : Data) (parts : List A) → is_list place v ≡ true → ReadsEach reads (items_of (at place v)) parts → AtPlace place (ReadsList reads) v parts
place_held place reads v parts h each = let found = list_in (at place v) h in (found.0, found.1, (items_of (at place v), found.2, each))

word_in : (o : Option (List ℕ)) → is_some (option_and_then word_of o) ≡ true → option_and_then word_of o ≡ Some (unwrap_or (word_of (unwrap_or o [])) words.Ok)
word_in None h = cc
word_in (Some text) h = some_is (word_of text) words.Ok h

pub word_held : (key : List ℕ) (d : Data) → IsHeldAs key d kinds.Word → HasWord key d (unwrap_or (word_of (text_under key d)) words.Ok)
word_held key d h =
    word_in (option_and_then as_str (get key d)) (subst (λ (o : Option Data). is_some (option_and_then word_of (option_and_then as_str o)) ≡ true) (sym h.1) h.2)
