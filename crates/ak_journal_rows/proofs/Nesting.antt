-- What is written for a change holds whole numbers alone, and nests at most 69 deep: a row at most 66.
use Rattle.std.proofs.Common.{◌≡◌, ℕ, suc, ◌+◌, ◌≤◌, ℤ, pos, negsuc, List, [], ◌∷◌, map, Bool, true, false, not, ◌&&◌, Option, Some, None, IfSome, Ordering, Less, Equal, Greater, refl, sym, ap, ◌∙◌, subst, codes, arith}
use Rattle.std.specs.Cmp.{first_so, second_so}
use Rattle.std.specs.Prelude.{nat_le}
use Rattle.std.proofs.lemmas.Bool.{or_from, or_parts}
use Rattle.std.proofs.lemmas.Bool.Decides.{nat_tests}
use Rattle.std.specs.List.{AllByRecursion}
use Rattle.std.specs.Option.{option_map_or, option_and_then, unwrap_or}
use Rattle.std.specs.Cmp.Lexicographic.{slice_cmp}
use Rattle.std.specs.Ordering.{nat_cmp, match_ordering}
use Rattle.serde_json.specs.Data.{Data, null, boolean, number, unsigned, string, array, object, Members, no_members, member, put, depth, items_depth, members_depth}
use Rattle.serde_json.specs.Find.{as_object, get_member}
use Rattle.serde_json.specs.View.{items_of}
use Rattle.std.specs.Str.{IsUtf8}
use Rattle.serde_json.specs.Read.{max_depth, read}
use Rattle.serde_json.specs.Written.{compact_text, has_float, members_have_float}
use Rattle.ak_base.specs.Names.{table_place}
use Rattle.ak_base.specs.Rows.{name_of}
use Rattle.ak_base.specs.Rests.{is_plain, is_rest, lacks, lacks_options, conf_keys, deck_keys, note_type_keys, members_of}
use Rattle.ak_base.specs.declared.cards.Card.{Card}
use Rattle.ak_base.specs.declared.decks.Count.{Count}
use Rattle.ak_base.specs.declared.decks.Deck.{Deck}
use Rattle.ak_base.specs.declared.graves.Grave.{Grave}
use Rattle.ak_base.specs.declared.heads.Conf.{Conf}
use Rattle.ak_base.specs.declared.heads.Head.{Head}
use Rattle.ak_base.specs.declared.heads.Tag.{Tag}
use Rattle.ak_base.specs.declared.names.Name.{Name}
use Rattle.ak_base.specs.declared.note_types.CardTemplate.{CardTemplate}
use Rattle.ak_base.specs.declared.note_types.FieldDef.{FieldDef}
use Rattle.ak_base.specs.declared.note_types.NoteType.{NoteType}
use Rattle.ak_base.specs.declared.notes.Note.{Note}
use Rattle.ak_base.specs.declared.option_groups.Options.{Options}
use Rattle.ak_base.specs.declared.reviews.Review.{Review}
use Rattle.ak_base.specs.declared.rows.Row.{Row}
use Rattle.ak_base.specs.declared.rows.Row.TheVariants as rows
use Rattle.ak_json.specs.Confs.{conf_json}
use Rattle.ak_json.specs.Decks.{deck_json}
use Rattle.ak_json.specs.Groups.{lapse_json, new_json, options_json, rev_json}
use Rattle.ak_json.specs.NoteTypes.{fields_json, note_type_json, templates_json}
use Rattle.ak_json.specs.Rests.{rest_members}
use Rattle.ak_json.specs.Rows.{row_json}
use Rattle.ak_json.specs.Written.{bit, card_cells, factor, grave_cells, integer, note_cells, pair, review_cells, steps_json}
use Rattle.ak_journal_rows.specs.Changes.{IsOfForm}
use Rattle.ak_journal_rows.specs.Texts.{IsPayloadOf, both, change_json, entry_json, head_json, list_json, name_json, some_head_json, table_json, tag_members}
use Rattle.ak_journal_rows.specs.declared.changes.Change.{Change}

-- the value holds whole numbers alone, and nests at most so deep
abbrev IsPlain : ℕ → Data → Type 0
IsPlain most d = (has_float d ≡ false) × (depth d ≤ most)

abbrev ArePlain : ℕ → List Data → Type 0
ArePlain most ds = AllByRecursion (IsPlain most) ds

abbrev HavePlain : ℕ → Members → Type 0
HavePlain most ms = (members_have_float ms ≡ false) × (members_depth ms ≤ most)

-- ---- parts
none : (most : ℕ) → 0 ≤ most
none most = omega arith

deeper : (less most : ℕ) (d : Data) → less ≤ most → IsPlain less d → IsPlain most d
deeper less most d room h = let k : depth d ≤ less = h.1 in (h.0, omega arith)

text_plain : (most : ℕ) (s : List ℕ) → IsPlain most (string s)
text_plain most s = (refl, none most)

truth_plain : (most : ℕ) (b : Bool) → IsPlain most (boolean b)
truth_plain most b = (refl, none most)

count_plain : (most n : ℕ) → IsPlain most (number (unsigned n))
count_plain most n = (refl, none most)

integer_plain : (most : ℕ) (z : ℤ) → IsPlain most (integer z)
integer_plain most (pos n) = (refl, none most)
integer_plain most (negsuc n) = (refl, none most)

factor_plain : (most : ℕ) (permille : ℤ) → IsPlain most (factor permille)
factor_plain most permille = (refl, none most)

bit_plain : (most : ℕ) (b : Bool) → IsPlain most (bit b)
bit_plain most true = (refl, none most)
bit_plain most false = (refl, none most)

items_plain : (most : ℕ) (ds : List Data) → ArePlain most ds → IsPlain (suc most) (array (items_of ds))
items_plain most [] h = (refl, omega arith)
items_plain most (d ∷ ds) h =
    let rest : IsPlain (suc most) (array (items_of ds)) = items_plain most ds h.1 in
    let first : depth d ≤ most = h.0.1 in
    let others : suc (items_depth (items_of ds)) ≤ suc most = rest.1 in
    (or_from _ _ h.0.0 rest.0, omega arith)

pair_plain : (c : Count) → IsPlain 1 (pair c)
pair_plain c = items_plain 0 (integer c.day ∷ integer c.count ∷ []) (integer_plain 0 c.day, (integer_plain 0 c.count, tt))

integers_plain : (most : ℕ) (zs : List ℤ) → ArePlain most (map integer zs)
integers_plain most [] = tt
integers_plain most (z ∷ zs) = (integer_plain most z, integers_plain most zs)

put_plain : (most : ℕ) (key : List ℕ) (d : Data) (ms : Members) → IsPlain most d → HavePlain most ms → HavePlain most (put key d ms)
put_plain most key d no_members h k = let own : depth d ≤ most = h.1 in (or_from _ _ h.0 refl, omega arith)
put_plain most key d (member l e ms) h k =
    let own : depth d ≤ most = h.1 in
    let deep : members_depth (member l e ms) ≤ most = k.1 in
    at_place (put_plain most key d ms h (((or_parts (has_float e) _ k.0).1), omega arith)) (slice_cmp nat_cmp key l)
  where
    at_place : HavePlain most (put key d ms) → (o : Ordering) → HavePlain most (match_ordering o (member key d (member l e ms)) (member l d ms) (member l e (put key d ms)))
    at_place later Less =
        let own : depth d ≤ most = h.1 in
        let deep : members_depth (member l e ms) ≤ most = k.1 in
        (or_from _ _ h.0 k.0, omega arith)
    at_place later Equal =
        let own : depth d ≤ most = h.1 in
        let deep : members_depth (member l e ms) ≤ most = k.1 in
        (or_from _ _ h.0 (((or_parts (has_float e) _ k.0).1)), omega arith)
    at_place later Greater =
        let deep : members_depth (member l e ms) ≤ most = k.1 in
        let rest : members_depth (put key d ms) ≤ most = later.1 in
        (or_from _ _ (((or_parts (has_float e) _ k.0).0)) later.0, omega arith)

-- these members with others
abbrev with_members : List (List ℕ × Data) → Members → Members
with_members [] ms = ms
with_members (pair ∷ pairs) ms = with_members pairs (put pair.0 pair.1 ms)

abbrev PairsPlain : ℕ → List (List ℕ × Data) → Type 0
PairsPlain most pairs = AllByRecursion (λ pair. IsPlain most pair.1) pairs

pairs_plain : (most : ℕ) (pairs : List (List ℕ × Data)) (ms : Members) → PairsPlain most pairs → HavePlain most ms → HavePlain most (with_members pairs ms)
pairs_plain most [] ms h k = k
pairs_plain most (pair ∷ pairs) ms h k = pairs_plain most pairs (put pair.0 pair.1 ms) h.1 (put_plain most pair.0 pair.1 ms h.0 k)

members_plain : (most : ℕ) (ms : Members) → HavePlain most ms → IsPlain (suc most) (object ms)
members_plain most ms h = let deep : members_depth ms ≤ most = h.1 in (h.0, omega arith)

-- ---- rests
none_float : (floats : Bool) → not floats ≡ true → floats ≡ false
none_float true is = sym is
none_float false is = refl

within_64 : (inner : ℕ) → nat_le (suc inner) 64 ≡ true → inner ≤ 63
within_64 inner h = grind (arith, nat_tests)

rest_plain : (passes : Members → Bool) (text : List ℕ) → is_rest passes text ≡ true → HavePlain 63 (rest_members text)
unfolding is_rest
rest_plain passes text is = among (members_of text) is
  where
    among : (found : Option Members) → option_map_or (λ members. is_plain members && passes members) found false ≡ true → HavePlain 63 (unwrap_or found no_members)
    among None is = (refl, none 63)
    among (Some ms) is = (none_float _ (second_so _ _ (first_so (is_plain ms) (passes ms) is)), within_64 (members_depth ms) (first_so _ _ (first_so (is_plain ms) (passes ms) is)))

members_deeper : (less most : ℕ) (ms : Members) → less ≤ most → HavePlain less ms → HavePlain most ms
members_deeper less most ms room h = let k : members_depth ms ≤ less = h.1 in (h.0, omega arith)

-- the object of these members and those of a rest
object_plain : (most : ℕ) (pairs : List (List ℕ × Data)) (passes : Members → Bool) (text : List ℕ) → 63 ≤ most → PairsPlain most pairs → is_rest passes text ≡ true
    → IsPlain (suc most) (object (with_members pairs (rest_members text)))
object_plain most pairs passes text room h is =
    members_plain most _ (pairs_plain most pairs (rest_members text) h (members_deeper 63 most _ room (rest_plain passes text is)))

-- ---- what a rest keeps inside a group
found_plain : (most : ℕ) (key : List ℕ) (ms : Members) → HavePlain most ms → IfSome (get_member key ms) (IsPlain most)
found_plain most key no_members h = tt
found_plain most key (member l e ms) h =
    let deep : members_depth (member l e ms) ≤ most = h.1 in
    at_place (found_plain most key ms (((or_parts (has_float e) _ h.0).1), omega arith)) (slice_cmp nat_cmp key l)
  where
    at_place : IfSome (get_member key ms) (IsPlain most) → (o : Ordering) → IfSome (match_ordering o (get_member key ms) (Some e) (get_member key ms)) (IsPlain most)
    at_place later Less = later
    at_place later Equal = let deep : members_depth (member l e ms) ≤ most = h.1 in (((or_parts (has_float e) _ h.0).0), omega arith)
    at_place later Greater = later

inner_plain : (most : ℕ) (d : Data) → IsPlain most d → HavePlain most (unwrap_or (as_object d) no_members)
inner_plain most null h = (refl, none most)
inner_plain most (boolean b) h = (refl, none most)
inner_plain most (number n) h = (refl, none most)
inner_plain most (string s) h = (refl, none most)
inner_plain most (array ds) h = (refl, none most)
inner_plain most (object ms) h = let deep : suc (members_depth ms) ≤ most = h.1 in (h.0, omega arith)

-- the members that a rest keeps under a key
abbrev kept_under : List ℕ → Members → Members
kept_under key ms = unwrap_or (option_and_then as_object (get_member key ms)) no_members

kept_plain : (key : List ℕ) (ms : Members) → HavePlain 63 ms → HavePlain 63 (kept_under key ms)
kept_plain key ms h = among (get_member key ms) (found_plain 63 key ms h)
  where
    among : (found : Option Data) → IfSome found (IsPlain 63) → HavePlain 63 (unwrap_or (option_and_then as_object found) no_members)
    among None k = (refl, none 63)
    among (Some d) k = inner_plain 63 d k

-- the object of these members and those that a rest keeps under a key
group_plain : (pairs : List (List ℕ × Data)) (key : List ℕ) (ms : Members) → PairsPlain 63 pairs → HavePlain 63 ms → IsPlain 64 (object (with_members pairs (kept_under key ms)))
group_plain pairs key ms h k = members_plain 63 _ (pairs_plain 63 pairs (kept_under key ms) h (kept_plain key ms k))

-- ---- rows
fields_plain : (n : ℕ) (fields : List FieldDef) → ArePlain 64 (fields_json n fields)
fields_plain n [] = tt
fields_plain n (f ∷ fs) =
    (object_plain 63 ((codes "name", string f.name) ∷ (codes "ord", number (unsigned n)) ∷ []) _ f.rest.text (omega arith) (text_plain 63 f.name, (count_plain 63 n, tt)) f.rest.unknown, fields_plain (n + 1) fs)

templates_plain : (n : ℕ) (templates : List CardTemplate) → ArePlain 64 (templates_json n templates)
templates_plain n [] = tt
templates_plain n (t ∷ ts) = (
  object_plain 63 ((codes "name", string t.name) ∷ (codes "qfmt", string t.front) ∷ (codes "afmt", string t.back) ∷ (codes "ord", number (unsigned n)) ∷ []) _ t.rest.text (omega arith)
      (text_plain 63 t.name, (text_plain 63 t.front, (text_plain 63 t.back, (count_plain 63 n, tt)))) t.rest.unknown,
  templates_plain (n + 1) ts,
)

note_type_plain : (t : NoteType) → IsPlain 66 (note_type_json t)
note_type_plain t =
    let n = integer_plain 65 in
    object_plain 65 ((codes "id", integer t.id) ∷ (codes "mod", integer t.stamp) ∷ (codes "usn", integer t.usn) ∷ (codes "name", string t.name) ∷ (codes "type", bit t.cloze)
    ∷ (codes "sortf", integer t.sortf) ∷ (codes "flds", array (items_of (fields_json 0 t.fields))) ∷ (codes "tmpls", array (items_of (templates_json 0 t.templates))) ∷ []) (lacks note_type_keys) t.rest.text (omega arith)
    (n t.id, (n t.stamp, (n t.usn, (text_plain 65 t.name, (bit_plain 65 t.cloze, (n t.sortf, (items_plain 64 _ (fields_plain 0 t.fields), (items_plain 64 _ (templates_plain 0 t.templates), tt)))))))) t.rest.unknown

pair_low : (most : ℕ) (c : Count) → 1 ≤ most → IsPlain most (pair c)
pair_low most c room = deeper 1 most (pair c) room (pair_plain c)

new_plain : (o : Options) (ms : Members) → HavePlain 63 ms → IsPlain 64 (new_json o (object ms))
new_plain o ms h =
    let n = integer_plain 63 in
    group_plain ((codes "steps", steps_json o.new_steps) ∷ (codes "ints", pair (record { day = o.grad_ivl; count = o.easy_ivl })) ∷ (codes "initialFactor", integer o.initial_factor)
    ∷ (codes "perDay", integer o.new_per_day) ∷ (codes "bury", boolean o.new_bury) ∷ []) (codes "new") ms
    (items_plain 62 _ (integers_plain 62 o.new_steps), (pair_low 63 (record { day = o.grad_ivl; count = o.easy_ivl }) (omega arith), (n o.initial_factor, (n o.new_per_day, (truth_plain 63 o.new_bury, tt))))) h

rev_plain : (o : Options) (ms : Members) → HavePlain 63 ms → IsPlain 64 (rev_json o (object ms))
rev_plain o ms h =
    let n = integer_plain 63 in
    group_plain ((codes "perDay", integer o.rev_per_day) ∷ (codes "ease4", factor o.ease4) ∷ (codes "ivlFct", factor o.ivl_fct) ∷ (codes "maxIvl", integer o.max_ivl)
    ∷ (codes "hardFactor", factor o.hard_factor) ∷ (codes "bury", boolean o.rev_bury) ∷ []) (codes "rev") ms
    (n o.rev_per_day, (factor_plain 63 o.ease4, (factor_plain 63 o.ivl_fct, (n o.max_ivl, (factor_plain 63 o.hard_factor, (truth_plain 63 o.rev_bury, tt)))))) h

lapse_plain : (o : Options) (ms : Members) → HavePlain 63 ms → IsPlain 64 (lapse_json o (object ms))
lapse_plain o ms h =
    let n = integer_plain 63 in
    group_plain ((codes "steps", steps_json o.lapse_steps) ∷ (codes "mult", factor o.mult) ∷ (codes "minInt", integer o.min_int) ∷ (codes "leechFails", integer o.leech_fails)
    ∷ (codes "leechAction", integer o.leech_action) ∷ []) (codes "lapse") ms
    (items_plain 62 _ (integers_plain 62 o.lapse_steps), (factor_plain 63 o.mult, (n o.min_int, (n o.leech_fails, (n o.leech_action, tt))))) h

options_plain : (o : Options) → IsPlain 66 (options_json o)
options_plain o =
    let members : Members = rest_members o.rest.text in
    let rest : HavePlain 63 members = rest_plain lacks_options o.rest.text o.rest.unknown in
    let new : IsPlain 65 (new_json o (object members)) = deeper 64 65 (new_json o (object members)) (omega arith) (new_plain o members rest) in
    let rev : IsPlain 65 (rev_json o (object members)) = deeper 64 65 (rev_json o (object members)) (omega arith) (rev_plain o members rest) in
    let lapse : IsPlain 65 (lapse_json o (object members)) = deeper 64 65 (lapse_json o (object members)) (omega arith) (lapse_plain o members rest) in
    let n = integer_plain 65 in
    let pairs : List (List ℕ × Data) =
    (codes "id", integer o.id) ∷ (codes "mod", integer o.stamp) ∷ (codes "usn", integer o.usn) ∷ (codes "name", string o.name) ∷ (codes "maxTaken", integer o.max_taken)
    ∷ (codes "new", new_json o (object members)) ∷ (codes "rev", rev_json o (object members)) ∷ (codes "lapse", lapse_json o (object members)) ∷ [] in
    object_plain 65 pairs lacks_options o.rest.text (omega arith) (n o.id, (n o.stamp, (n o.usn, (text_plain 65 o.name, (n o.max_taken, (new, (rev, (lapse, tt)))))))) o.rest.unknown

deck_plain : (k : Deck) → IsPlain 66 (deck_json k)
deck_plain k =
    let n = integer_plain 65 in
    object_plain 65 ((codes "id", integer k.id) ∷ (codes "mod", integer k.stamp) ∷ (codes "usn", integer k.usn) ∷ (codes "name", string k.name) ∷ (codes "conf", integer k.options)
    ∷ (codes "dyn", bit k.filtered) ∷ (codes "newToday", pair k.new_today) ∷ (codes "revToday", pair k.rev_today) ∷ []) (lacks deck_keys) k.rest.text (omega arith)
    (n k.id, (n k.stamp, (n k.usn, (text_plain 65 k.name, (n k.options, (bit_plain 65 k.filtered, (pair_low 65 k.new_today (omega arith), (pair_low 65 k.rev_today (omega arith), tt)))))))) k.rest.unknown

note_plain : (n : Note) → ArePlain 65 (note_cells n)
unfolding note_cells
note_plain n =
    let i = integer_plain 65 in
    let t = text_plain 65 in
    (i n.id, (t n.guid, (i n.mid, (i n.stamp, (i n.usn, (t n.tags, (t n.flds, (t n.sfld, (i n.csum, (i n.flags, (t n.extra, tt)))))))))))

card_plain : (c : Card) → ArePlain 65 (card_cells c)
unfolding card_cells
card_plain c =
    let n = integer_plain 65 in
    (n c.id, (n c.nid, (n c.did, (n c.ord, (n c.stamp, (n c.usn, (n c.kind, (n c.queue, (n c.due, (n c.ivl, (n c.factor, (n c.reps, (n c.lapses, (n c.left, (n c.odue, (n c.odid, (n c.flags, (text_plain 65 c.extra, tt))))))))))))))))))

review_plain : (r : Review) → ArePlain 65 (review_cells r)
unfolding review_cells
review_plain r =
    let n = integer_plain 65 in
    (n r.id, (n r.cid, (n r.usn, (n r.ease, (n r.ivl, (n r.last_ivl, (n r.factor, (n r.time, (n r.kind, tt)))))))))

grave_plain : (g : Grave) → ArePlain 65 (grave_cells g)
unfolding grave_cells
grave_plain g = let n = integer_plain 65 in (n g.usn, (n g.oid, (n g.kind, tt)))

row_plain : (row : Row) → IsPlain 66 (row_json row)
row_plain (rows.Note n) = items_plain 65 _ (note_plain n)
row_plain (rows.Card c) = items_plain 65 _ (card_plain c)
row_plain (rows.Review r) = items_plain 65 _ (review_plain r)
row_plain (rows.NoteType t) = note_type_plain t
row_plain (rows.Deck k) = deck_plain k
row_plain (rows.Options o) = options_plain o
row_plain (rows.Grave g) = items_plain 65 _ (grave_plain g)

-- ---- a head
conf_plain : (c : Conf) → IsPlain 64 (conf_json c)
conf_plain c =
    let n = integer_plain 63 in
    object_plain 63 ((codes "newSpread", integer c.new_spread) ∷ (codes "collapseTime", integer c.collapse) ∷ (codes "dayLearnFirst", boolean c.day_learn_first)
    ∷ (codes "nextPos", integer c.next_pos) ∷ (codes "lastUnburied", integer c.last_unburied) ∷ []) (lacks conf_keys) c.rest.text (omega arith)
    (n c.new_spread, (n c.collapse, (truth_plain 63 c.day_learn_first, (n c.next_pos, (n c.last_unburied, tt))))) c.rest.unknown

-- these members, in their order
abbrev members_from : List (List ℕ × Data) → Members
members_from [] = no_members
members_from (pair ∷ pairs) = member pair.0 pair.1 (members_from pairs)

from_plain : (most : ℕ) (pairs : List (List ℕ × Data)) → PairsPlain most pairs → HavePlain most (members_from pairs)
from_plain most [] h = (refl, none most)
from_plain most (pair ∷ pairs) h =
    let rest : HavePlain most (members_from pairs) = from_plain most pairs h.1 in
    let own : depth pair.1 ≤ most = h.0.1 in
    let others : members_depth (members_from pairs) ≤ most = rest.1 in
    (or_from _ _ h.0.0 rest.0, omega arith)

tags_plain : (tags : List Tag) → HavePlain 0 (tag_members tags)
tags_plain [] = (refl, none 0)
tags_plain (tag ∷ tags) =
    let rest : HavePlain 0 (tag_members tags) = tags_plain tags in
    let own : IsPlain 0 (integer tag.usn) = integer_plain 0 tag.usn in
    let number : depth (integer tag.usn) ≤ 0 = own.1 in
    let others : members_depth (tag_members tags) ≤ 0 = rest.1 in
    (or_from _ _ own.0 rest.0, omega arith)

some_head_plain : (head : Head) → IsPlain 65 (some_head_json head)
some_head_plain head =
    let n = integer_plain 64 in
    let tags : IsPlain 64 (object (tag_members head.tags)) =
    deeper 1 64 (object (tag_members head.tags)) (omega arith) (members_plain 0 (tag_members head.tags) (tags_plain head.tags)) in
    let pairs : List (List ℕ × Data) =
    (codes "conf", conf_json head.conf) ∷ (codes "crt", integer head.crt) ∷ (codes "ls", integer head.last_sync) ∷ (codes "mod", integer head.moment) ∷ (codes "scm", integer head.schema)
    ∷ (codes "tags", object (tag_members head.tags)) ∷ (codes "usn", integer head.usn) ∷ [] in
    members_plain 64 (members_from pairs) (from_plain 64 pairs (conf_plain head.conf, (n head.crt, (n head.last_sync, (n head.moment, (n head.schema, (tags, (n head.usn, tt))))))))

head_plain : (head : Option Head) → IsPlain 65 (head_json head)
head_plain None = (refl, none 65)
head_plain (Some head) = some_head_plain head

-- ---- a change
both_plain : (most : ℕ) (one other : Data) → IsPlain most one → IsPlain most other → IsPlain (suc most) (both one other)
both_plain most one other h k = items_plain most (one ∷ other ∷ []) (h, (k, tt))

names_plain : (names : List Name) → ArePlain 67 (map name_json names)
names_plain [] = tt
names_plain (name ∷ names) =
    (both_plain 66 (table_json name.table) (integer name.id) (count_plain 66 (table_place name.table)) (integer_plain 66 name.id), names_plain names)

entries_plain : (put : List Row) → ArePlain 67 (map entry_json put)
entries_plain [] = tt
entries_plain (row ∷ put) =
    (both_plain 66 (table_json (name_of row).table) (row_json row) (count_plain 66 (table_place (name_of row).table)) (row_plain row), entries_plain put)

change_plain : (change : Change) → IsPlain 69 (change_json change)
change_plain change =
    let cut : IsPlain 68 (list_json name_json change.cut) = items_plain 67 (map name_json change.cut) (names_plain change.cut) in
    let head : IsPlain 68 (head_json change.head) = deeper 65 68 (head_json change.head) (omega arith) (head_plain change.head) in
    let put : IsPlain 68 (list_json entry_json change.put) = items_plain 67 (map entry_json change.put) (entries_plain change.put) in
    let pairs : List (List ℕ × Data) =
    (codes "all", boolean change.all) ∷ (codes "cut", list_json name_json change.cut) ∷ (codes "head", head_json change.head) ∷ (codes "put", list_json entry_json change.put) ∷ [] in
    members_plain 68 (members_from pairs) (from_plain 68 pairs (truth_plain 68 change.all, (cut, (head, (put, tt)))))

-- bytes that are the text of a change's value are its payload
pub payload_of : (change : Change) (d : Data) (bytes text : List ℕ) → IsOfForm change → d ≡ change_json change → IsUtf8 text → (has_float d ≡ false → text ≡ compact_text d)
    → (depth d ≤ max_depth → read text ≡ Some d) → bytes ≡ text → IsPayloadOf bytes change
payload_of change d bytes text formed is utf8 compact reads same =
    let plain : IsPlain 69 d = subst (IsPlain 69) (sym is) (change_plain change) in
    let deep : depth d ≤ 69 = plain.1 in
    record {
      formed = formed;
      utf8 = subst IsUtf8 (sym same) utf8;
      reads = ap read same ∙ (reads (omega arith) ∙ ap Some is);
      compact = same ∙ (compact plain.0 ∙ ap compact_text is);
    }
