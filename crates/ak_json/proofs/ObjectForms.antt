-- What was put where the columns of a form stand is found there, and the other members stay.
use Rattle.std.proofs.Common.{◌≡◌, ℕ, suc, ◌-◌, ◌≤◌, List, [], ◌∷◌, Bool, true, false, not, ◌&&◌, ◌==◌, Option, Some, None, is_none, Ordering, Less, Equal, Greater, is_eq, nat_cmp, refl, sym, ap, ◌∙◌, arith}
use Rattle.std.specs.Cmp.{first_so, second_so}
use Rattle.std.proofs.lemmas.Bool.{and_from, or_from, or_parts}
use Rattle.std.specs.Prelude.{if◌then◌else◌, nat_lt, nat_le, unwrap_or, option_and_then, option_map}
use Rattle.std.specs.Option.{option_or, option_map_or}
use Rattle.std.proofs.lemmas.Bool.Decides.{nat_tests}
use Rattle.std.proofs.lemmas.Map.Text.{is_eq-slice_cmp}
use Rattle.std.proofs.lemmas.Slice.Eq.{bytes_eq-Decides}
use Rattle.std.specs.Cmp.Lexicographic.{slice_cmp, pointwise}
use Rattle.std.specs.Ordering.{match_ordering}
use Rattle.serde_json.specs.Data.{Data, null, boolean, number, string, array, object, Items, no_items, item, Members, no_members, member, put, depth, items_depth, members_depth}
use Rattle.serde_json.specs.Find.{get_member, as_object}
use Rattle.serde_json.specs.Read.{read}
use Rattle.serde_json.specs.Written.{compact_text, has_float, items_have_float, members_have_float}
use Rattle.serde_json.proofs.Views.{get_member-put, get_member-put_other}
use Rattle.ak_base.specs.Rests.{is_written_as, members_of, lacks, is_plain, is_rest}
use Rattle.ak_base.proofs.Resting.{same_bytes}
use Rattle.ak_json.specs.Depths.{is_shallow, are_shallow, have_shallow}
use Rattle.ak_json.specs.FormFaults.{found_form_fault, form_fault_inside, told_at, form_fault_within, column_form_fault, first_form_fault}
use Rattle.ak_json.specs.Keys.{key_text, find}
use Rattle.ak_json.specs.Kinds.{holds}
use Rattle.ak_json.specs.Members.{Form, is_place, knows, unknown, deep_member}
use Rattle.ak_json.specs.Objects.{put_at, put_cells}
use Rattle.ak_json.specs.Rests.{rest_members, rest_text, deep_key, object_json}
use Rattle.ak_json.specs.declared.faults.JsonFault.TheVariants as faults
use Rattle.ak_json.specs.declared.form_faults.FormFault.{FormFault}
use Rattle.ak_json.specs.declared.form_faults.FormFault.TheVariants.{WrongKind}
use Rattle.ak_json.specs.declared.keys.Place.{Place}
use Rattle.ak_json.specs.declared.keys.Place.TheVariants as places
use Rattle.ak_json.specs.declared.kinds.Kind.{Kind}
use Rattle.ak_json.proofs.Kept.{same_key, not_true}

-- each cell stands where its column does
abbrev pub AllFound : Form → List Data → Data → Type 0
AllFound [] cells d = Unit {0}
AllFound (column ∷ columns) [] d = Unit {0}
AllFound (column ∷ columns) (cell ∷ cells) d = (find column.0 d ≡ Some cell) × AllFound columns cells d

-- the place is a member of which no column is one
abbrev pub is_new : Form → Place → Bool
is_new columns (places.Key word) = not (knows columns (key_text word))
is_new columns (places.At place) = false

-- no two columns are the same member
abbrev pub are_apart : Form → Bool
are_apart [] = true
are_apart (column ∷ columns) = is_new columns column.0 && are_apart columns

unlike : (a b : List ℕ) → pointwise ◌==◌ a b ≡ false → b ≡ a → ⊥
unlike a b h e = let same : pointwise ◌==◌ a b ≡ pointwise ◌==◌ a a = ap (λ (x : List ℕ). pointwise ◌==◌ a x) e in let k : pointwise ◌==◌ a a ≡ true = same_bytes a in cc

-- what is put at one place leaves the others
put_other : (place : Place) (k : List ℕ) (x : Data) (ms : Members) → is_place place k ≡ false → get_member k (put_at place x ms) ≡ get_member k ms
put_other (places.Key word) k x ms h = get_member-put_other k (key_text word) x ms (unlike (key_text word) k h)
put_other (places.At place) k x ms h = refl

pub stays : (columns : Form) (cells : List Data) (k : List ℕ) (ms : Members) → knows columns k ≡ false → get_member k (put_cells columns cells ms) ≡ get_member k ms
stays [] cells k ms h = refl
stays (column ∷ columns) [] k ms h = refl
stays (column ∷ columns) (cell ∷ cells) k ms h =
    stays columns cells k (put_at column.0 cell ms) (((or_parts (is_place column.0 k) _ h).1)) ∙ put_other column.0 k cell ms (((or_parts _ _ h).0))

found_here : (columns : Form) (cells : List Data) (place : Place) (x : Data) (ms : Members) → is_new columns place ≡ true → find place (object (put_cells columns cells (put_at place x ms))) ≡ Some x
found_here columns cells (places.Key word) x ms h =
    stays columns cells (key_text word) (put (key_text word) x ms) (not_true _ h) ∙ get_member-put (key_text word) x ms
found_here columns cells (places.At place) x ms h = cc

pub found_all : (form : Form) (cells : List Data) (ms : Members) → are_apart form ≡ true → AllFound form cells (object (put_cells form cells ms))
found_all [] cells ms h = tt
found_all (column ∷ columns) [] ms h = tt
found_all (column ∷ columns) (cell ∷ cells) ms h =
    (found_here columns cells column.0 cell ms (first_so _ _ h), found_all columns cells (put_at column.0 cell ms) (second_so (is_new columns column.0) _ h))

-- ---- the unknown members

unknown_put : (form : Form) (k : List ℕ) (d : Data) (ms : Members) → knows form k ≡ true → unknown form (put k d ms) ≡ unknown form ms
unknown_put form k d no_members h = rw h refl
unknown_put form k d (member l e ms) h = one (slice_cmp nat_cmp k l) refl (unknown_put form k d ms h)
  where
    one : (o : Ordering) → slice_cmp nat_cmp k l ≡ o → unknown form (put k d ms) ≡ unknown form ms
        → unknown form (match_ordering o (member k d (member l e ms)) (member l d ms) (member l e (put k d ms))) ≡ unknown form (member l e ms)
    one Less is later = rw h refl
    one Equal is later = let same : knows form l ≡ true = sym (ap (knows form) (same_key k l is)) ∙ h in rw same refl
    one Greater is later = rw later refl

-- the member of each column is one that the form knows
abbrev pub knows_place : Form → Place → Bool
knows_place form (places.Key word) = knows form (key_text word)
knows_place form (places.At place) = true

abbrev pub knows_all : Form → Form → Bool
knows_all form [] = true
knows_all form (column ∷ columns) = knows_place form column.0 && knows_all form columns

unknown_at : (form : Form) (place : Place) (x : Data) (ms : Members) → knows_place form place ≡ true → unknown form (put_at place x ms) ≡ unknown form ms
unknown_at form (places.Key word) x ms h = unknown_put form (key_text word) x ms h
unknown_at form (places.At place) x ms h = refl

pub unknown_cells : (form columns : Form) (cells : List Data) (ms : Members) → knows_all form columns ≡ true → unknown form (put_cells columns cells ms) ≡ unknown form ms
unknown_cells form [] cells ms h = refl
unknown_cells form (column ∷ columns) [] ms h = refl
unknown_cells form (column ∷ columns) (cell ∷ cells) ms h =
    unknown_cells form columns cells (put_at column.0 cell ms) (second_so (knows_place form column.0) _ h) ∙ unknown_at form column.0 cell ms (first_so _ _ h)

-- ---- members of which no column is one

abbrev pub place_keys : Place → List (List ℕ) → List (List ℕ)
place_keys (places.Key word) keys = key_text word ∷ keys
place_keys (places.At place) keys = keys

-- the keys of a form's columns
abbrev pub keys_of : Form → List (List ℕ)
keys_of [] = []
keys_of (column ∷ columns) = place_keys column.0 (keys_of columns)

pub none_later : (o : Ordering) (x : Option Data) (d : Data) → is_none (match_ordering o x (Some d) x) ≡ true → is_none x ≡ true
none_later Less x d h = h
none_later Equal x d h = cc
none_later Greater x d h = h

pub unequal : (o : Ordering) (x : Option Data) (d : Data) → is_none (match_ordering o x (Some d) x) ≡ true → is_eq o ≡ false
unequal Less x d h = refl
unequal Equal x d h = cc
unequal Greater x d h = refl

lacks_later : (keys : List (List ℕ)) (l : List ℕ) (d : Data) (ms : Members) → lacks keys (member l d ms) ≡ true → lacks keys ms ≡ true
lacks_later [] l d ms h = refl
lacks_later (k ∷ keys) l d ms h =
    and_from _ _
    (none_later (slice_cmp nat_cmp k l) (get_member k ms) d (first_so _ _ h))
    (lacks_later keys l d ms (second_so (is_none (get_member k (member l d ms))) _ h))

-- texts that are one compare as equal
pub differs : (a l : List ℕ) → is_eq (slice_cmp nat_cmp a l) ≡ false → pointwise ◌==◌ a l ≡ false
differs a l h = sym (is_eq-slice_cmp a l) ∙ h

absent_at : (place : Place) (l : List ℕ) (d : Data) (ms : Members) (keys : List (List ℕ)) → lacks (place_keys place keys) (member l d ms) ≡ true → is_place place l ≡ false
absent_at (places.Key word) l d ms keys h = differs (key_text word) l (unequal (slice_cmp nat_cmp (key_text word) l) (get_member (key_text word) ms) d (first_so _ _ h))
absent_at (places.At place) l d ms keys h = refl

lacks_others : (place : Place) (keys : List (List ℕ)) (ms : Members) → lacks (place_keys place keys) ms ≡ true → lacks keys ms ≡ true
lacks_others (places.Key word) keys ms h = second_so (is_none (get_member (key_text word) ms)) _ h
lacks_others (places.At place) keys ms h = h

absent : (form : Form) (l : List ℕ) (d : Data) (ms : Members) → lacks (keys_of form) (member l d ms) ≡ true → knows form l ≡ false
absent [] l d ms h = refl
absent (column ∷ columns) l d ms h =
    or_from _ _ (absent_at column.0 l d ms (keys_of columns) h) (absent columns l d ms (lacks_others column.0 (keys_of columns) (member l d ms) h))

-- members that lack the keys of a form are all unknown to it
pub all_unknown : (form : Form) (ms : Members) → lacks (keys_of form) ms ≡ true → unknown form ms ≡ ms
all_unknown form no_members h = refl
all_unknown form (member l d ms) h =
    let new : knows form l ≡ false = absent form l d ms h in
    rw new (ap (member l d) (all_unknown form ms (lacks_later (keys_of form) l d ms h)))

-- ---- what a rest keeps

pub record IsKept (passes : Members → Bool) (text : List ℕ) (ms : Members) : Type 0 where
  pub plain : is_plain ms ≡ true
  pub unknown : passes ms ≡ true
  pub written : compact_text (object ms) ≡ text

pub no_rest : {A : Type 0} → false ≡ true → A
no_rest h = cc

kept_in : (passes : Members → Bool) (text : List ℕ) (value : Data) (written : Bool) → is_written_as text value ≡ written
    → option_map_or (λ ms. is_plain ms && passes ms) (if written then as_object value else None) false ≡ true
    → IsKept passes text (unwrap_or (if written then as_object value else None) no_members)
kept_in passes text value false w h = no_rest h
kept_in passes text null true w h = no_rest h
kept_in passes text (boolean b) true w h = no_rest h
kept_in passes text (number n) true w h = no_rest h
kept_in passes text (string s) true w h = no_rest h
kept_in passes text (array ds) true w h = no_rest h
kept_in passes text (object ms) true w h =
    record { plain = first_so _ _ h; unknown = second_so (is_plain ms) _ h; written = (bytes_eq-Decides (compact_text (object ms)) text).0 w }

of_read : (passes : Members → Bool) (text : List ℕ) (o : Option Data)
    → option_map_or (λ ms. is_plain ms && passes ms) (option_and_then (λ value. if is_written_as text value then as_object value else None) o) false ≡ true
    → IsKept passes text (unwrap_or (option_and_then (λ value. if is_written_as text value then as_object value else None) o) no_members)
of_read passes text None h = no_rest h
of_read passes text (Some value) h = kept_in passes text value (is_written_as text value) refl h

pub rest_kept : (passes : Members → Bool) (text : List ℕ) → is_rest passes text ≡ true → IsKept passes text (rest_members text)
unfolding is_rest members_of
rest_kept passes text h = of_read passes text (read text) h

-- ---- what is found again has no fault

abbrev pub all_hold : Form → List Data → Bool
all_hold [] cells = true
all_hold (column ∷ columns) [] = false
all_hold (column ∷ columns) (cell ∷ cells) = holds column.1 cell && (is_none (form_fault_inside column.1 cell) && all_hold columns cells)

pub none_of : {T : Type 0} (o : Option T) → is_none o ≡ true → o ≡ None
none_of None h = refl
none_of (Some x) h = cc

faultless_column : (column : Place × Kind) (cell d : Data) → find column.0 d ≡ Some cell → holds column.1 cell ≡ true → form_fault_inside column.1 cell ≡ None → column_form_fault column d ≡ None
faultless_column column cell d e h i =
    ap (λ (o : Option Data). option_or (found_form_fault column o) (form_fault_within column o)) e
    ∙ (ap (λ (b : Bool). option_or (if b then None else Some (WrongKind column.0)) (form_fault_within column (Some cell))) h ∙ ap (told_at column.0) i)

pub faultless : (form : Form) (cells : List Data) (d : Data) → AllFound form cells d → all_hold form cells ≡ true → first_form_fault form d ≡ None
faultless [] cells d f h = refl
faultless (column ∷ columns) [] d f h = no_rest h
faultless (column ∷ columns) (cell ∷ cells) d f h =
    let inside = second_so (holds column.1 cell) _ h in
    let here : column_form_fault column d ≡ None = faultless_column column cell d f.0 (first_so _ _ h) (none_of _ (first_so _ _ inside)) in
    ap (λ (o : Option FormFault). option_or o (first_form_fault columns d)) here ∙ faultless columns cells d f.1 (second_so (is_none (form_fault_inside column.1 cell)) _ inside)

-- ---- plain members are not deep

pub nat_most : (n m : ℕ) → nat_le n m ≡ true → n ≤ m
nat_most n m h = grind (arith, nat_tests)

shallower : (inner most : ℕ) → suc inner ≤ most → nat_lt 0 most ≡ true
shallower inner most h = grind (arith, nat_tests)

mutual
  shallow_inside : (most : ℕ) (d : Data) → depth d ≤ most → has_float d ≡ false → is_shallow most d ≡ true
  shallow_inside most null h f = refl
  shallow_inside most (boolean b) h f = refl
  shallow_inside most (number n) h f = ap not f
  shallow_inside most (string s) h f = refl
  shallow_inside most (array ds) h f = and_from _ _ (shallower (items_depth ds) most h) (all_shallow (most - 1) ds (omega (arith, h)) f)
  shallow_inside most (object ms) h f = and_from _ _ (shallower (members_depth ms) most h) (members_shallow (most - 1) ms (omega (arith, h)) f)

  all_shallow : (most : ℕ) (ds : Items) → items_depth ds ≤ most → items_have_float ds ≡ false → are_shallow most ds ≡ true
  all_shallow most no_items h f = refl
  all_shallow most (item d ds) h f =
      and_from _ _ (shallow_inside most d (omega (arith, h)) (((or_parts _ _ f).0))) (all_shallow most ds (omega (arith, h)) (((or_parts (has_float d) _ f).1)))

  members_shallow : (most : ℕ) (ms : Members) → members_depth ms ≤ most → members_have_float ms ≡ false → have_shallow most ms ≡ true
  members_shallow most no_members h f = refl
  members_shallow most (member k d ms) h f =
      and_from _ _ (shallow_inside most d (omega (arith, h)) (((or_parts _ _ f).0))) (members_shallow most ms (omega (arith, h)) (((or_parts (has_float d) _ f).1)))

never_deep : (ms : Members) → have_shallow 63 ms ≡ true → deep_member ms ≡ None
never_deep no_members h = refl
never_deep (member k d ms) h = let e : is_shallow 63 d ≡ true = first_so _ _ h in rw e (never_deep ms (second_so (is_shallow 63 d) _ h))

pub plain_is_shallow : (ms : Members) → is_plain ms ≡ true → deep_member ms ≡ None
plain_is_shallow ms h =
    let n : suc (members_depth ms) ≤ 64 = nat_most _ _ (first_so _ _ h) in
    never_deep ms (members_shallow 63 ms (omega (arith, n)) (not_true _ (second_so (nat_le (suc (members_depth ms)) 64) _ h)))

-- ---- an object of cells and a rest

-- the object has the form, its cells and its rest
pub record IsObjectAgain (form : Form) (cells : List Data) (text : List ℕ) : Type 0 where
  pub found : AllFound form cells (object_json form cells text)
  pub fault : first_form_fault form (object_json form cells text) ≡ None
  pub shallow : deep_member (unknown form (put_cells form cells (rest_members text))) ≡ None
  pub deep : deep_key form (object_json form cells text) ≡ None
  pub rest : text ≡ rest_text form (object_json form cells text)

pub object_again : (form : Form) (cells : List Data) (text : List ℕ) → are_apart form ≡ true → knows_all form form ≡ true → is_rest (lacks (keys_of form)) text ≡ true
    → all_hold form cells ≡ true → IsObjectAgain form cells text
object_again form cells text apart known rest holds =
    let ms : Members = rest_members text in
    let kept : IsKept (lacks (keys_of form)) text ms = rest_kept (lacks (keys_of form)) text rest in
    let found : AllFound form cells (object_json form cells text) = found_all form cells ms apart in
    let same : unknown form (put_cells form cells ms) ≡ ms = unknown_cells form form cells ms known ∙ all_unknown form ms kept.unknown in
    let shallow : deep_member (unknown form (put_cells form cells ms)) ≡ None = ap deep_member same ∙ plain_is_shallow ms kept.plain in
    record {
      found = found;
      fault = faultless form cells (object_json form cells text) found holds;
      shallow = shallow;
      deep = ap (λ (o : Option (List ℕ)). option_map faults.WrongKind o) shallow;
      rest = sym (ap (λ (m : Members). compact_text (object m)) same ∙ kept.written);
    }
