-- How deep what is written nests: a row at most 66 deep, a body at most 70.
use Rattle.std.proofs.Common.{◌≡◌, ℕ, suc, ◌+◌, ◌≤◌, max, ℤ, pos, negsuc, List, [], ◌∷◌, map, Bool, true, false, not, ◌&&◌, Option, Some, None, IfSome, Ordering, Less, Equal, Greater, codes, ◌++◌, filter, ◌==◌, if◌then◌else◌, arith}
use Rattle.std.specs.Cmp.{first_so, second_so}
use Rattle.std.specs.Prelude.{nat_le}
use Rattle.std.proofs.lemmas.Bool.Decides.{nat_tests}
use Rattle.std.specs.List.{AllByRecursion}
use Rattle.std.specs.Option.{option_map_or, option_and_then, unwrap_or}
use Rattle.std.specs.Cmp.Lexicographic.{slice_cmp}
use Rattle.std.specs.Ordering.{nat_cmp, match_ordering}
use Rattle.serde_json.specs.Data.{Data, null, boolean, number, unsigned, string, array, object, Members, no_members, member, put, depth, items_depth, members_depth}
use Rattle.serde_json.specs.Find.{as_object, get_member}
use Rattle.serde_json.specs.View.{items_of}
use Rattle.ak_base.specs.Rests.{is_plain, is_rest, lacks, lacks_options, conf_keys, deck_keys, note_type_keys, members_of}
use Rattle.ak_base.specs.declared.cards.Card.{Card}
use Rattle.ak_base.specs.declared.decks.Count.{Count}
use Rattle.ak_base.specs.declared.decks.Deck.{Deck}
use Rattle.ak_base.specs.declared.graves.Grave.{Grave}
use Rattle.ak_base.specs.declared.note_types.CardTemplate.{CardTemplate}
use Rattle.ak_base.specs.declared.note_types.FieldDef.{FieldDef}
use Rattle.ak_base.specs.declared.note_types.NoteType.{NoteType}
use Rattle.ak_base.specs.declared.notes.Note.{Note}
use Rattle.ak_base.specs.declared.option_groups.Options.{Options}
use Rattle.ak_base.specs.declared.reviews.Review.{Review}
use Rattle.ak_base.specs.declared.rows.Row.{Row}
use Rattle.ak_base.specs.declared.rows.Row.TheVariants as rows
use Rattle.ak_base.specs.declared.heads.Conf.{Conf}
use Rattle.ak_base.specs.declared.heads.Tag.{Tag}
use Rattle.ak_merge.specs.declared.checks.CheckFault.{CheckFault}
use Rattle.ak_merge.specs.declared.checks.CheckFault.TheVariants as checks
use Rattle.ak_messages.specs.declared.replies.Give.{Give}
use Rattle.ak_messages.specs.declared.replies.Give.TheVariants as gives
use Rattle.ak_messages.specs.declared.replies.MetaReply.{MetaReply}
use Rattle.ak_messages.specs.declared.replies.Reply.{Reply}
use Rattle.ak_messages.specs.declared.replies.SanityReply.{SanityReply}
use Rattle.ak_messages.specs.declared.requests.Ask.{Ask}
use Rattle.ak_messages.specs.declared.requests.Ask.TheVariants as asks
use Rattle.ak_messages.specs.declared.requests.Changes.{Changes}
use Rattle.ak_messages.specs.declared.requests.Chunk.{Chunk}
use Rattle.ak_messages.specs.declared.requests.GraveIds.{GraveIds}
use Rattle.ak_messages.specs.declared.requests.Newer.{Newer}
use Rattle.ak_messages.specs.declared.requests.SanityCounts.{SanityCounts}
use Rattle.ak_messages.specs.declared.requests.Whole.{Whole}
use Rattle.ak_wire.specs.Written.{with_members, object_of, array_of, ids_json, graves_json, chunk_json, newer_pairs, decks_json, changes_json, count_json, counts_json, is_under, rows_under, tag_pairs, tags_json, whole_pairs, upload_json, download_json, ask_json, meta_json, check_json, sanity_json, give_json, reply_json}
use Rattle.ak_wire.specs.Words.{word_text}
use Rattle.ak_wire.specs.declared.keys.Key.TheVariants as columns
use Rattle.ak_json.specs.Confs.{conf_json}
use Rattle.ak_json.specs.Decks.{deck_json}
use Rattle.ak_json.specs.Groups.{options_json, new_json, rev_json, lapse_json, rest_object}
use Rattle.ak_json.specs.NoteTypes.{note_type_json, fields_json, templates_json}
use Rattle.ak_json.specs.Rests.{rest_members}
use Rattle.ak_json.specs.Rows.{row_json}
use Rattle.ak_json.specs.Written.{integer, factor, bit, pair, steps_json, note_cells, card_cells, review_cells, grave_cells}

-- the value nests at most so deep
abbrev Nests : ℕ → Data → Type 0
Nests most d = depth d ≤ most

abbrev Nest : ℕ → List Data → Type 0
Nest most ds = AllByRecursion (Nests most) ds

abbrev PairsNest : ℕ → List (List ℕ × Data) → Type 0
PairsNest most pairs = AllByRecursion (λ pair. Nests most pair.1) pairs

none : (most : ℕ) → 0 ≤ most
none most = omega arith

items_nest : (most : ℕ) (ds : List Data) → Nest most ds → items_depth (items_of ds) ≤ most
items_nest most [] h = omega arith
items_nest most (d ∷ ds) h = let first : depth d ≤ most = h.0 in let rest : items_depth (items_of ds) ≤ most = items_nest most ds h.1 in omega arith

ordered : (most : ℕ) (a b c : Members) (o : Ordering) → members_depth a ≤ most → members_depth b ≤ most → members_depth c ≤ most → members_depth (match_ordering o a b c) ≤ most
ordered most a b c Less p q r = p
ordered most a b c Equal p q r = q
ordered most a b c Greater p q r = r

put_nests : (most : ℕ) (key : List ℕ) (d : Data) (ms : Members) → Nests most d → members_depth ms ≤ most → members_depth (put key d ms) ≤ most
put_nests most key d no_members h k = omega arith
put_nests most key d (member l e ms) h k =
    ordered most (member key d (member l e ms)) (member l d ms) (member l e (put key d ms)) _ (omega arith) (omega arith) (omega (arith, put_nests most key d ms h (omega arith)))

pairs_nest : (most : ℕ) (pairs : List (List ℕ × Data)) (ms : Members) → PairsNest most pairs → members_depth ms ≤ most → members_depth (with_members pairs ms) ≤ most
pairs_nest most [] ms h k = k
pairs_nest most (pair ∷ pairs) ms h k = pairs_nest most pairs (put pair.0 pair.1 ms) h.1 (put_nests most pair.0 pair.1 ms h.0 k)

plain_most : (inner : ℕ) → nat_le (suc inner) 64 ≡ true → inner ≤ 63
plain_most inner h = grind (arith, nat_tests)

-- a rest nests at most 64 deep, itself counted
rest_nests : (passes : Members → Bool) (text : List ℕ) → is_rest passes text ≡ true → members_depth (rest_members text) ≤ 63
unfolding is_rest
rest_nests passes text is = among (members_of text) is
  where
    among : (found : Option Members) → option_map_or (λ members. is_plain members && passes members) found false ≡ true → members_depth (unwrap_or found no_members) ≤ 63
    among None is = none 63
    among (Some ms) is = plain_most (members_depth ms) (first_so _ _ (first_so (is_plain ms) (passes ms) is))

-- the object of these members and those of a rest
object_nests : (most : ℕ) (pairs : List (List ℕ × Data)) (passes : Members → Bool) (text : List ℕ) → 63 ≤ most → PairsNest most pairs → is_rest passes text ≡ true
    → Nests (suc most) (object (with_members pairs (rest_members text)))
object_nests most pairs passes text room h is =
    let rest : members_depth (rest_members text) ≤ 63 = rest_nests passes text is in
    let inner : members_depth (with_members pairs (rest_members text)) ≤ most = pairs_nest most pairs (rest_members text) h (omega arith) in
    omega arith

numbers_nest : (most : ℕ) (zs : List ℤ) → Nest most (map integer zs)
numbers_nest most [] = tt
numbers_nest most (z ∷ zs) = (none most, numbers_nest most zs)

array_nests : (most : ℕ) (ds : List Data) → Nest most ds → Nests (suc most) (array (items_of ds))
array_nests most ds h = let inner : items_depth (items_of ds) ≤ most = items_nest most ds h in omega arith

fields_nest : (n : ℕ) (fields : List FieldDef) → Nest 64 (fields_json n fields)
fields_nest n [] = tt
fields_nest n (f ∷ fs) = (object_nests 63 ((codes "name", string f.name) ∷ (codes "ord", number (unsigned n)) ∷ []) _ f.rest.text (omega arith) (none 63, (none 63, tt)) f.rest.unknown, fields_nest (n + 1) fs)

templates_nest : (n : ℕ) (templates : List CardTemplate) → Nest 64 (templates_json n templates)
templates_nest n [] = tt
templates_nest n (t ∷ ts) =
    (object_nests 63 ((codes "name", string t.name) ∷ (codes "qfmt", string t.front) ∷ (codes "afmt", string t.back) ∷ (codes "ord", number (unsigned n)) ∷ []) _ t.rest.text (omega arith) (none 63, (none 63, (none 63, (none 63, tt)))) t.rest.unknown, templates_nest (n + 1) ts)

pair_nests : (c : Count) → Nests 65 (pair c)
pair_nests c = omega arith

note_type_nests : (t : NoteType) → Nests 66 (note_type_json t)
note_type_nests t =
    let n = none 65 in
    object_nests 65 ((codes "id", integer t.id) ∷ (codes "mod", integer t.stamp) ∷ (codes "usn", integer t.usn) ∷ (codes "name", string t.name) ∷ (codes "type", bit t.cloze)
    ∷ (codes "sortf", integer t.sortf) ∷ (codes "flds", array (items_of (fields_json 0 t.fields))) ∷ (codes "tmpls", array (items_of (templates_json 0 t.templates))) ∷ [])
    (lacks note_type_keys) t.rest.text (omega arith)
    (n, (n, (n, (n, (n, (n, (array_nests 64 (fields_json 0 t.fields) (fields_nest 0 t.fields), (array_nests 64 (templates_json 0 t.templates) (templates_nest 0 t.templates), tt)))))))) t.rest.unknown

-- what stands under a key nests less deep than the members
found_nests : (most : ℕ) (key : List ℕ) (ms : Members) → members_depth ms ≤ most → IfSome (get_member key ms) (Nests most)
found_nests most key no_members h = tt
found_nests most key (member l e ms) h = at_place (found_nests most key ms (omega arith)) (slice_cmp nat_cmp key l)
  where
    at_place : IfSome (get_member key ms) (Nests most) → (o : Ordering) → IfSome (match_ordering o (get_member key ms) (Some e) (get_member key ms)) (Nests most)
    at_place later Less = later
    at_place later Equal = omega (arith, h)
    at_place later Greater = later

inner_nests : (most : ℕ) (d : Data) → Nests most d → members_depth (unwrap_or (as_object d) no_members) ≤ most
inner_nests most null h = none most
inner_nests most (boolean b) h = none most
inner_nests most (number n) h = none most
inner_nests most (string s) h = none most
inner_nests most (array ds) h = none most
inner_nests most (object ms) h = omega (arith, h)

-- the members that a rest keeps under a key
abbrev kept_under : List ℕ → Members → Members
kept_under key ms = unwrap_or (option_and_then as_object (get_member key ms)) no_members

kept_nests : (most : ℕ) (key : List ℕ) (ms : Members) → members_depth ms ≤ most → members_depth (kept_under key ms) ≤ most
kept_nests most key ms h = among (get_member key ms) (found_nests most key ms h)
  where
    among : (found : Option Data) → IfSome found (Nests most) → members_depth (unwrap_or (option_and_then as_object found) no_members) ≤ most
    among None k = none most
    among (Some d) k = inner_nests most d k

-- the object of these members and those that a rest keeps under a key
group_nests : (pairs : List (List ℕ × Data)) (key : List ℕ) (ms : Members) → PairsNest 63 pairs → members_depth ms ≤ 63 → Nests 65 (object (with_members pairs (kept_under key ms)))
group_nests pairs key ms h k =
    let inner : members_depth (with_members pairs (kept_under key ms)) ≤ 63 = pairs_nest 63 pairs (kept_under key ms) h (kept_nests 63 key ms k) in
    omega arith

new_nests : (o : Options) (ms : Members) → members_depth ms ≤ 63 → Nests 65 (new_json o (object ms))
new_nests o ms h =
    let n = none 63 in
    group_nests ((codes "steps", steps_json o.new_steps) ∷ (codes "ints", pair (record { day = o.grad_ivl; count = o.easy_ivl })) ∷ (codes "initialFactor", integer o.initial_factor)
    ∷ (codes "perDay", integer o.new_per_day) ∷ (codes "bury", boolean o.new_bury) ∷ []) (codes "new") ms
    (array_nests 62 (map integer o.new_steps) (numbers_nest 62 o.new_steps), (omega arith, (n, (n, (n, tt))))) h

rev_nests : (o : Options) (ms : Members) → members_depth ms ≤ 63 → Nests 65 (rev_json o (object ms))
rev_nests o ms h =
    let n = none 63 in
    group_nests ((codes "perDay", integer o.rev_per_day) ∷ (codes "ease4", factor o.ease4) ∷ (codes "ivlFct", factor o.ivl_fct) ∷ (codes "maxIvl", integer o.max_ivl)
    ∷ (codes "hardFactor", factor o.hard_factor) ∷ (codes "bury", boolean o.rev_bury) ∷ []) (codes "rev") ms (n, (n, (n, (n, (n, (n, tt)))))) h

lapse_nests : (o : Options) (ms : Members) → members_depth ms ≤ 63 → Nests 65 (lapse_json o (object ms))
lapse_nests o ms h =
    let n = none 63 in
    group_nests ((codes "steps", steps_json o.lapse_steps) ∷ (codes "mult", factor o.mult) ∷ (codes "minInt", integer o.min_int) ∷ (codes "leechFails", integer o.leech_fails)
    ∷ (codes "leechAction", integer o.leech_action) ∷ []) (codes "lapse") ms (array_nests 62 (map integer o.lapse_steps) (numbers_nest 62 o.lapse_steps), (n, (n, (n, (n, tt))))) h

options_nest : (o : Options) → Nests 66 (options_json o)
options_nest o =
    let members : Members = rest_members o.rest.text in
    let rest : members_depth members ≤ 63 = rest_nests lacks_options o.rest.text o.rest.unknown in
    let n = none 65 in
    object_nests 65 ((codes "id", integer o.id) ∷ (codes "mod", integer o.stamp) ∷ (codes "usn", integer o.usn) ∷ (codes "name", string o.name) ∷ (codes "maxTaken", integer o.max_taken)
    ∷ (codes "new", new_json o (rest_object o.rest.text)) ∷ (codes "rev", rev_json o (rest_object o.rest.text)) ∷ (codes "lapse", lapse_json o (rest_object o.rest.text)) ∷ [])
    lacks_options o.rest.text (omega arith) (n, (n, (n, (n, (n, (new_nests o members rest, (rev_nests o members rest, (lapse_nests o members rest, tt)))))))) o.rest.unknown

deck_nests : (k : Deck) → Nests 66 (deck_json k)
deck_nests k =
    let n = none 65 in
    object_nests 65 ((codes "id", integer k.id) ∷ (codes "mod", integer k.stamp) ∷ (codes "usn", integer k.usn) ∷ (codes "name", string k.name) ∷ (codes "conf", integer k.options)
    ∷ (codes "dyn", bit k.filtered) ∷ (codes "newToday", pair k.new_today) ∷ (codes "revToday", pair k.rev_today) ∷ [])
    (lacks deck_keys) k.rest.text (omega arith) (n, (n, (n, (n, (n, (n, (pair_nests k.new_today, (pair_nests k.rev_today, tt)))))))) k.rest.unknown

note_nest : (n : Note) → Nest 65 (note_cells n)
unfolding note_cells
note_nest n = let z = none 65 in (z, (z, (z, (z, (z, (z, (z, (z, (z, (z, (z, tt)))))))))))

card_nest : (c : Card) → Nest 65 (card_cells c)
unfolding card_cells
card_nest c = let z = none 65 in (z, (z, (z, (z, (z, (z, (z, (z, (z, (z, (z, (z, (z, (z, (z, (z, (z, (z, tt))))))))))))))))))

review_nest : (r : Review) → Nest 65 (review_cells r)
unfolding review_cells
review_nest r = let z = none 65 in (z, (z, (z, (z, (z, (z, (z, (z, (z, tt)))))))))

grave_nest : (g : Grave) → Nest 65 (grave_cells g)
unfolding grave_cells
grave_nest g = let z = none 65 in (z, (z, (z, tt)))

row_nests : (row : Row) → Nests 66 (row_json row)
row_nests (rows.Note n) = array_nests 65 _ (note_nest n)
row_nests (rows.Card c) = array_nests 65 _ (card_nest c)
row_nests (rows.Review r) = array_nests 65 _ (review_nest r)
row_nests (rows.NoteType t) = note_type_nests t
row_nests (rows.Deck k) = deck_nests k
row_nests (rows.Options o) = options_nest o
row_nests (rows.Grave g) = array_nests 65 _ (grave_nest g)

conf_nests : (c : Conf) → Nests 64 (conf_json c)
conf_nests c =
    let n = none 63 in
    object_nests 63 ((codes "newSpread", integer c.new_spread) ∷ (codes "collapseTime", integer c.collapse) ∷ (codes "dayLearnFirst", boolean c.day_learn_first)
    ∷ (codes "nextPos", integer c.next_pos) ∷ (codes "lastUnburied", integer c.last_unburied) ∷ [])
    (lacks conf_keys) c.rest.text (omega arith) (n, (n, (n, (n, (n, tt))))) c.rest.unknown

-- ---- messages

members_nest : (most : ℕ) (pairs : List (List ℕ × Data)) → PairsNest most pairs → Nests (suc most) (object_of pairs)
members_nest most pairs h = let inner : members_depth (with_members pairs no_members) ≤ most = pairs_nest most pairs no_members h (none most) in omega arith

both_nest : (most : ℕ) (front back : List (List ℕ × Data)) → PairsNest most front → PairsNest most back → PairsNest most (front ++ back)
both_nest most [] back h k = k
both_nest most (pair ∷ pairs) back h k = (h.0, both_nest most pairs back h.1 k)

texts_nest : (most : ℕ) (texts : List (List ℕ)) → Nest most (map string texts)
texts_nest most [] = tt
texts_nest most (text ∷ texts) = (none most, texts_nest most texts)

module _ {A : Type 0} (row_of : A → Row) where
  each_nests : (parts : List A) → Nest 66 (map (λ part. row_json (row_of part)) parts)
  each_nests [] = tt
  each_nests (part ∷ parts) = (row_nests (row_of part), each_nests parts)

  -- the list of rows of a kind
  list_nests : (parts : List A) → Nests 68 (array_of (map (λ part. row_json (row_of part)) parts))
  list_nests parts = let inner : depth (array_of (map (λ part. row_json (row_of part)) parts)) ≤ 67 = array_nests 66 _ (each_nests parts) in omega arith

rows_nest : (parts : List Row) → Nest 66 (map row_json parts)
rows_nest [] = tt
rows_nest (part ∷ parts) = (row_nests part, rows_nest parts)

ids_nest : (ids : List ℤ) → Nests 68 (ids_json ids)
ids_nest ids = array_nests 67 (map integer ids) (numbers_nest 67 ids)

graves_nest : (g : GraveIds) → Nests 69 (graves_json g)
graves_nest g =
    members_nest 68 ((codes "cards", ids_json g.cards) ∷ (codes "decks", ids_json g.decks) ∷ (codes "notes", ids_json g.notes) ∷ []) (ids_nest g.cards, (ids_nest g.decks, (ids_nest g.notes, tt)))

chunk_nests : (c : Chunk) → Nests 69 (chunk_json c)
chunk_nests c =
    members_nest 68 ((codes "cards", array_of (map (λ card. row_json (rows.Card card)) c.cards)) ∷ (codes "done", boolean c.done)
    ∷ (codes "notes", array_of (map (λ note. row_json (rows.Note note)) c.notes))
    ∷ (codes "revlog", array_of (map (λ review. row_json (rows.Review review)) c.reviews)) ∷ [])
    (list_nests (λ x. rows.Card x) c.cards, (none 68, (list_nests (λ x. rows.Note x) c.notes, (list_nests (λ x. rows.Review x) c.reviews, tt))))

conf_low : (c : Conf) → Nests 68 (conf_json c)
conf_low c = let inner : depth (conf_json c) ≤ 64 = conf_nests c in omega arith

newer_nests : (newer : Option Newer) → PairsNest 68 (newer_pairs newer)
newer_nests None = tt
newer_nests (Some newer) = (conf_low newer.conf, (none 68, tt))

decks_nest : (c : Changes) → Nests 68 (decks_json c)
decks_nest c =
    array_nests 67 (array_of (map (λ deck. row_json (rows.Deck deck)) c.decks) ∷ array_of (map (λ options. row_json (rows.Options options)) c.options) ∷ [])
    (array_nests 66 _ (each_nests (λ x. rows.Deck x) c.decks), (array_nests 66 _ (each_nests (λ x. rows.Options x) c.options), tt))

changes_nest : (c : Changes) → Nests 69 (changes_json c)
changes_nest c =
    members_nest 68 _ (both_nest 68 (newer_pairs c.newer) ((codes "decks", decks_json c)
    ∷ (codes "models", array_of (map (λ note_type. row_json (rows.NoteType note_type)) c.models)) ∷ (codes "tags", array_of (map string c.tags)) ∷ []) (newer_nests c.newer)
    (decks_nest c, (list_nests (λ x. rows.NoteType x) c.models, (array_nests 67 (map string c.tags) (texts_nest 67 c.tags), tt))))

tags_nest : (tags : List Tag) → PairsNest 67 (tag_pairs tags)
tags_nest [] = tt
tags_nest (tag ∷ tags) = (none 67, tags_nest tags)

under_nests : (is_wanted : Row → Bool) (all : List Row) → Nests 68 (array_of (map row_json (filter is_wanted all)))
under_nests is_wanted all =
    let inner : depth (array_of (map row_json (filter is_wanted all))) ≤ 67 = array_nests 66 _ (rows_nest (filter is_wanted all)) in
    omega arith

parts_nest : (w : Whole) → PairsNest 68 (whole_pairs w)
parts_nest w =
    let n = none 68 in (
      under_nests (is_under columns.Cards) w.rows,
      (
        conf_low w.conf,
        (
          n,
          (
            under_nests (is_under columns.Decks) w.rows,
            (
              n,
              (
                under_nests (is_under columns.Models) w.rows,
                (
                  under_nests (is_under columns.Notes) w.rows,
                  (
                    under_nests (is_under columns.Options) w.rows,
                    (under_nests (is_under columns.Revlog) w.rows, (n, (members_nest 67 (tag_pairs w.tags) (tags_nest w.tags), tt))),
                  ),
                ),
              ),
            ),
          ),
        ),
      ),
    )

download_nests : (w : Whole) → Nests 69 (download_json w)
download_nests w =
    members_nest 68 (whole_pairs w ++ (codes "graves", rows_under columns.Graves w.rows) ∷ (codes "usn", integer w.usn) ∷ [])
    (both_nest 68 (whole_pairs w) ((codes "graves", rows_under columns.Graves w.rows) ∷ (codes "usn", integer w.usn) ∷ []) (parts_nest w)
    (under_nests (is_under columns.Graves) w.rows, (none 68, tt)))

-- a body with one key
one_nests : (key : List ℕ) (d : Data) → Nests 69 d → Nests 127 (object_of ((key, d) ∷ []))
one_nests key d h = let inner : depth (object_of ((key, d) ∷ [])) ≤ 70 = members_nest 69 ((key, d) ∷ []) (h, tt) in omega arith

pub ask_nests : (ask : Ask) → Nests 127 (ask_json ask)
ask_nests asks.Meta = omega arith
ask_nests (asks.Start min_usn lmod) = omega arith
ask_nests (asks.ApplyGraves ids) = one_nests (codes "chunk") (graves_json ids) (graves_nest ids)
ask_nests (asks.ApplyChanges changes) = one_nests (codes "changes") (changes_json changes) (changes_nest changes)
ask_nests asks.Chunk = omega arith
ask_nests (asks.ApplyChunk chunk) = one_nests (codes "chunk") (chunk_json chunk) (chunk_nests chunk)
ask_nests (asks.SanityCheck2 counts) = omega arith
ask_nests asks.Finish = omega arith
ask_nests (asks.Upload whole) = let inner : depth (upload_json whole) ≤ 69 = members_nest 68 (whole_pairs whole) (parts_nest whole) in omega arith
ask_nests asks.Download = omega arith

meta_nests : (m : MetaReply) → Nests 69 (meta_json m)
meta_nests m = omega arith

check_nests : (fault : Option CheckFault) → Nests 68 (check_json fault)
check_nests None = none 68
check_nests (Some (checks.CardNoNote id)) = omega arith
check_nests (Some (checks.NoteNoCard id)) = omega arith
check_nests (Some (checks.NoteNoType id)) = omega arith
check_nests (Some (checks.CardNoTemplate id)) = omega arith

chosen_nests : (most : ℕ) (b : Bool) (x y : Data) → Nests most x → Nests most y → Nests most (if b then x else y)
chosen_nests most true x y h k = h
chosen_nests most false x y h k = k

counts_nest : (c : SanityCounts) → Nests 68 (counts_json c)
counts_nest c = omega arith

sanity_nests : (s : SanityReply) → Nests 69 (sanity_json s)
sanity_nests s =
    chosen_nests 69 s.good _ _ (members_nest 68 ((codes "status", string (codes "ok")) ∷ []) (none 68, tt))
    (members_nest 68 ((codes "c", counts_json s.client) ∷ (codes "row", check_json s.fault) ∷ (codes "s", counts_json s.server) ∷ (codes "status", string (codes "bad")) ∷ [])
    (counts_nest s.client, (check_nests s.fault, (counts_nest s.server, (none 68, tt)))))

give_nests : (give : Give) → Nests 69 (give_json give)
give_nests gives.Nothing = omega arith
give_nests (gives.Meta m) = meta_nests m
give_nests (gives.Graves ids) = graves_nest ids
give_nests (gives.Changes changes) = changes_nest changes
give_nests (gives.Chunk chunk) = chunk_nests chunk
give_nests (gives.Sanity sanity) = sanity_nests sanity
give_nests (gives.Moment moment) = omega arith
give_nests (gives.Uploaded moment schema) = omega arith
give_nests (gives.Whole whole) = download_nests whole

pub reply_nests : (r : Reply) → Nests 127 (reply_json r)
reply_nests r =
    let inner : depth (reply_json r) ≤ 69 =
    chosen_nests 69 (r.status == 200) _ _ (give_nests r.give)
    (members_nest 68 ((codes "seen", integer r.seen) ∷ (codes "word", string (word_text r.word)) ∷ []) (none 68, (none 68, tt))) in
    omega arith
