-- What is written for a row holds whole numbers alone.
use Rattle.std.proofs.Common.{◌≡◌, ℕ, ◌+◌, ℤ, pos, negsuc, List, [], ◌∷◌, map, Bool, true, false, not, ◌&&◌, Option, Some, None, IfSome, Ordering, Less, Equal, Greater, refl, sym}
use Rattle.std.specs.Cmp.{first_so, second_so}
use Rattle.std.proofs.lemmas.Bool.{or_from, or_parts}
use Rattle.std.specs.List.{AllByRecursion}
use Rattle.std.specs.Option.{option_map_or, option_and_then, unwrap_or}
use Rattle.std.specs.Cmp.Lexicographic.{slice_cmp}
use Rattle.std.specs.Ordering.{nat_cmp, match_ordering}
use Rattle.serde_json.specs.Data.{Data, null, boolean, number, unsigned, string, array, object, Members, no_members, member, put}
use Rattle.serde_json.specs.Find.{as_object, get_member}
use Rattle.serde_json.specs.View.{items_of}
use Rattle.serde_json.specs.Written.{has_float, items_have_float, members_have_float}
use Rattle.ak_base.specs.Rests.{is_plain, is_rest, lacks, lacks_options, deck_keys, note_type_keys, members_of}
use Rattle.ak_base.specs.declared.cards.Card.{Card}
use Rattle.ak_base.specs.declared.decks.Count.{Count}
use Rattle.ak_base.specs.declared.decks.Deck.{Deck}
use Rattle.ak_base.specs.declared.graves.Grave.{Grave}
use Rattle.ak_base.specs.declared.note_types.CardTemplate.{CardTemplate}
use Rattle.ak_base.specs.declared.note_types.FieldDef.{FieldDef}
use Rattle.ak_base.specs.declared.note_types.NoteType.{NoteType}
use Rattle.ak_base.specs.declared.notes.Note.{Note}
use Rattle.ak_base.specs.declared.option_groups.Options.{Options}
use Rattle.ak_base.specs.declared.reviews.Review.{Review}
use Rattle.ak_base.specs.declared.rows.Row.{Row}
use Rattle.ak_base.specs.declared.rows.Row.TheVariants as rows
use Rattle.ak_json.specs.Decks.{deck_cells}
use Rattle.ak_json.specs.Groups.{new_cells, rev_cells, lapse_cells, options_cells, group_members, rest_object}
use Rattle.ak_json.specs.Keys.{key_text}
use Rattle.ak_json.specs.Members.{Form}
use Rattle.ak_json.specs.NoteTypes.{note_type_cells, fields_json, templates_json}
use Rattle.ak_json.specs.Objects.{put_at, put_cells}
use Rattle.ak_json.specs.Rests.{rest_members, object_json}
use Rattle.ak_json.specs.Rows.{row_json}
use Rattle.ak_json.specs.Written.{integer, factor, bit, pair, steps_json, note_cells, card_cells, review_cells, grave_cells}
use Rattle.ak_json.specs.Forms.{note_type_form, field_form, template_form, deck_form, options_form, new_form, rev_form, lapse_form}
use Rattle.ak_json.specs.declared.keys.Place.{Place}
use Rattle.ak_json.specs.declared.keys.Place.TheVariants as places
use Rattle.ak_json.specs.declared.keys.Key.{Key}
use Rattle.ak_json.specs.declared.keys.Key.TheVariants as keys

-- the value holds whole numbers alone
abbrev IsWhole : Data → Type 0
IsWhole d = has_float d ≡ false

abbrev AreWhole : List Data → Type 0
AreWhole ds = AllByRecursion IsWhole ds

number_whole : (z : ℤ) → IsWhole (integer z)
number_whole (pos n) = refl
number_whole (negsuc n) = refl

items_whole : (ds : List Data) → AreWhole ds → items_have_float (items_of ds) ≡ false
items_whole [] h = refl
items_whole (d ∷ ds) h = or_from _ _ h.0 (items_whole ds h.1)

steps_whole : (steps : List ℤ) → AreWhole (map integer steps)
steps_whole [] = tt
steps_whole (step ∷ steps) = (number_whole step, steps_whole steps)

-- a whole value put among whole ones
put_whole : (key : List ℕ) (d : Data) (ms : Members) → IsWhole d → members_have_float ms ≡ false → members_have_float (put key d ms) ≡ false
put_whole key d no_members h k = or_from _ _ h refl
put_whole key d (member l e ms) h k =
    at_place (λ rest. put_whole key d ms h rest) (slice_cmp nat_cmp key l)
  where
    at_place : (members_have_float ms ≡ false → members_have_float (put key d ms) ≡ false) → (o : Ordering) → members_have_float (match_ordering o (member key d (member l e ms)) (member l d ms) (member l e (put key d ms))) ≡ false
    at_place later Less = or_from _ _ h k
    at_place later Equal = or_from _ _ h (((or_parts (has_float e) _ k).1))
    at_place later Greater = or_from _ _ (((or_parts (has_float e) _ k).0)) (later (((or_parts (has_float e) _ k).1)))

place_whole : (place : Place) (d : Data) (ms : Members) → IsWhole d → members_have_float ms ≡ false → members_have_float (put_at place d ms) ≡ false
place_whole (places.Key own) d ms h k = put_whole _ d ms h k
place_whole (places.At n) d ms h k = k

cells_whole : (form : Form) (cells : List Data) (ms : Members) → AreWhole cells → members_have_float ms ≡ false → members_have_float (put_cells form cells ms) ≡ false
cells_whole [] cells ms h k = k
cells_whole (column ∷ columns) [] ms h k = k
cells_whole (column ∷ columns) (cell ∷ cells) ms h k = cells_whole columns cells (put_at column.0 cell ms) h.1 (place_whole column.0 cell ms h.0 k)

none_float : (floats : Bool) → not floats ≡ true → floats ≡ false
none_float true is = sym is
none_float false is = refl

-- a rest holds whole numbers alone
rest_whole : (passes : Members → Bool) (text : List ℕ) → is_rest passes text ≡ true → members_have_float (rest_members text) ≡ false
unfolding is_rest
rest_whole passes text is = among (members_of text) is
  where
    among : (found : Option Members) → option_map_or (λ members. is_plain members && passes members) found false ≡ true → members_have_float (unwrap_or found no_members) ≡ false
    among None is = refl
    among (Some ms) is = none_float _ (second_so _ _ (first_so (is_plain ms) (passes ms) is))

object_whole : (form : Form) (cells : List Data) (passes : Members → Bool) (text : List ℕ) → AreWhole cells → is_rest passes text ≡ true → IsWhole (object_json form cells text)
object_whole form cells passes text h is = cells_whole form cells (rest_members text) h (rest_whole passes text is)

-- what stands under a key of whole members is whole
found_whole : (key : List ℕ) (ms : Members) → members_have_float ms ≡ false → IfSome (get_member key ms) IsWhole
found_whole key no_members h = tt
found_whole key (member l e ms) h = at_place (found_whole key ms (((or_parts (has_float e) _ h).1))) (slice_cmp nat_cmp key l)
  where
    at_place : IfSome (get_member key ms) IsWhole → (o : Ordering) → IfSome (match_ordering o (get_member key ms) (Some e) (get_member key ms)) IsWhole
    at_place later Less = later
    at_place later Equal = ((or_parts (has_float e) _ h).0)
    at_place later Greater = later

inner_whole : (d : Data) → IsWhole d → members_have_float (unwrap_or (as_object d) no_members) ≡ false
inner_whole null h = refl
inner_whole (boolean b) h = refl
inner_whole (number n) h = refl
inner_whole (string s) h = refl
inner_whole (array ds) h = refl
inner_whole (object ms) h = h

group_whole : (own : Key) (ms : Members) → members_have_float ms ≡ false → members_have_float (group_members own (object ms)) ≡ false
group_whole own ms h = among (get_member (key_text own) ms) (found_whole (key_text own) ms h)
  where
    among : (found : Option Data) → IfSome found IsWhole → members_have_float (unwrap_or (option_and_then as_object found) no_members) ≡ false
    among None k = refl
    among (Some d) k = inner_whole d k

fields_whole : (n : ℕ) (fields : List FieldDef) → AreWhole (fields_json n fields)
fields_whole n [] = tt
fields_whole n (f ∷ fs) = (object_whole field_form (string f.name ∷ number (unsigned n) ∷ []) _ f.rest.text (refl, (refl, tt)) f.rest.unknown, fields_whole (n + 1) fs)

templates_whole : (n : ℕ) (templates : List CardTemplate) → AreWhole (templates_json n templates)
templates_whole n [] = tt
templates_whole n (t ∷ ts) = (object_whole template_form (string t.name ∷ string t.front ∷ string t.back ∷ number (unsigned n) ∷ []) _ t.rest.text (refl, (refl, (refl, (refl, tt)))) t.rest.unknown, templates_whole (n + 1) ts)

bit_whole : (b : Bool) → IsWhole (bit b)
bit_whole true = refl
bit_whole false = refl

pair_whole : (c : Count) → IsWhole (pair c)
pair_whole c = or_from _ _ (number_whole c.day) (or_from _ _ (number_whole c.count) refl)

note_type_whole : (t : NoteType) → AreWhole (note_type_cells t)
note_type_whole t =
    (number_whole t.id, (number_whole t.stamp, (number_whole t.usn, (refl, (bit_whole t.cloze, (number_whole t.sortf, (items_whole _ (fields_whole 0 t.fields), (items_whole _ (templates_whole 0 t.templates), tt))))))))

new_whole : (o : Options) → AreWhole (new_cells o)
new_whole o = (items_whole _ (steps_whole o.new_steps), (pair_whole (record { day = o.grad_ivl; count = o.easy_ivl }), (number_whole o.initial_factor, (number_whole o.new_per_day, (refl, tt)))))

rev_whole : (o : Options) → AreWhole (rev_cells o)
rev_whole o = (number_whole o.rev_per_day, (refl, (refl, (number_whole o.max_ivl, (refl, (refl, tt))))))

lapse_whole : (o : Options) → AreWhole (lapse_cells o)
lapse_whole o = (items_whole _ (steps_whole o.lapse_steps), (refl, (number_whole o.min_int, (number_whole o.leech_fails, (number_whole o.leech_action, tt)))))

options_whole : (o : Options) → AreWhole (options_cells o (rest_object o.rest.text))
options_whole o =
    let members = rest_members o.rest.text in
    let kept : Key → Members = λ own. group_members own (object members) in
    let rest = rest_whole lacks_options o.rest.text o.rest.unknown in
    let n = number_whole in
    (n o.id, (n o.stamp, (n o.usn, (refl, (n o.max_taken, (cells_whole new_form (new_cells o) (kept keys.New) (new_whole o) (group_whole keys.New members rest), (cells_whole rev_form (rev_cells o) (kept keys.Rev) (rev_whole o) (group_whole keys.Rev members rest), (cells_whole lapse_form (lapse_cells o) (kept keys.Lapse) (lapse_whole o) (group_whole keys.Lapse members rest), tt))))))))

deck_whole : (k : Deck) → AreWhole (deck_cells k)
deck_whole k =
    let n = number_whole in
    (n k.id, (n k.stamp, (n k.usn, (refl, (n k.options, (bit_whole k.filtered, (pair_whole k.new_today, (pair_whole k.rev_today, tt))))))))

note_whole : (n : Note) → AreWhole (note_cells n)
unfolding note_cells
note_whole n =
    (number_whole n.id, (refl, (number_whole n.mid, (number_whole n.stamp, (number_whole n.usn, (refl, (refl, (refl, (number_whole n.csum, (number_whole n.flags, (refl, tt)))))))))))

card_whole : (c : Card) → AreWhole (card_cells c)
unfolding card_cells
card_whole c =
    let n = number_whole in
    (n c.id, (n c.nid, (n c.did, (n c.ord, (n c.stamp, (n c.usn, (n c.kind, (n c.queue, (n c.due, (n c.ivl, (n c.factor, (n c.reps, (n c.lapses, (n c.left, (n c.odue, (n c.odid, (n c.flags, (refl, tt))))))))))))))))))

review_whole : (r : Review) → AreWhole (review_cells r)
unfolding review_cells
review_whole r =
    let n = number_whole in
    (n r.id, (n r.cid, (n r.usn, (n r.ease, (n r.ivl, (n r.last_ivl, (n r.factor, (n r.time, (n r.kind, tt)))))))))

grave_whole : (g : Grave) → AreWhole (grave_cells g)
unfolding grave_cells
grave_whole g = (number_whole g.usn, (number_whole g.oid, (number_whole g.kind, tt)))

-- so a row has one text
pub written_whole : (row : Row) → has_float (row_json row) ≡ false
written_whole (rows.Note n) = items_whole _ (note_whole n)
written_whole (rows.Card c) = items_whole _ (card_whole c)
written_whole (rows.Review r) = items_whole _ (review_whole r)
written_whole (rows.NoteType t) = object_whole note_type_form (note_type_cells t) (lacks note_type_keys) t.rest.text (note_type_whole t) t.rest.unknown
written_whole (rows.Deck k) = object_whole deck_form (deck_cells k) (lacks deck_keys) k.rest.text (deck_whole k) k.rest.unknown
written_whole (rows.Options o) = object_whole options_form (options_cells o (rest_object o.rest.text)) lacks_options o.rest.text (options_whole o) o.rest.unknown
written_whole (rows.Grave g) = items_whole _ (grave_whole g)
