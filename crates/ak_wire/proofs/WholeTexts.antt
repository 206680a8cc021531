-- What is written for a message holds whole numbers alone, so it has one compact text.
use Rattle.std.proofs.Common.{◌≡◌, ℕ, ◌==◌, ℤ, pos, negsuc, List, [], ◌∷◌, ◌++◌, map, filter, Bool, true, false, not, ◌&&◌, if◌then◌else◌, Option, Some, None, Ordering, Less, Equal, Greater, String, string_bytes, IsUtf8, refl, sym, subst, codes}
use Rattle.std.specs.Cmp.{first_so, second_so}
use Rattle.std.proofs.lemmas.Bool.{or_from, or_parts}
use Rattle.std.specs.List.{AllByRecursion}
use Rattle.std.specs.Option.{option_map_or, unwrap_or}
use Rattle.std.specs.Cmp.Lexicographic.{slice_cmp}
use Rattle.std.specs.Ordering.{nat_cmp, match_ordering}
use Rattle.serde_json.specs.Data.{Data, boolean, number, unsigned, string, array, object, Members, no_members, member, put}
use Rattle.std.proofs.lemmas.Str.{IsUtf8-string_bytes}
use Rattle.serde_json.specs.Read.{read}
use Rattle.serde_json.specs.View.{items_of}
use Rattle.serde_json.specs.Written.{has_float, items_have_float, members_have_float}
use Rattle.ak_base.specs.Rests.{is_plain, is_rest, lacks, members_of}
use Rattle.ak_base.specs.declared.heads.Conf.{Conf}
use Rattle.ak_base.specs.declared.heads.Tag.{Tag}
use Rattle.ak_base.specs.declared.rows.Row.{Row}
use Rattle.ak_base.specs.declared.rows.Row.TheVariants as rows
use Rattle.ak_json.proofs.WholeNumbers.{written_whole}
use Rattle.ak_json.specs.Confs.{conf_json}
use Rattle.ak_json.specs.Rests.{rest_members}
use Rattle.ak_json.specs.Rows.{row_json}
use Rattle.ak_json.specs.Written.{integer}
use Rattle.ak_merge.specs.declared.checks.CheckFault.{CheckFault}
use Rattle.ak_merge.specs.declared.checks.CheckFault.TheVariants as checks
use Rattle.ak_messages.specs.declared.replies.Give.{Give}
use Rattle.ak_messages.specs.declared.replies.Give.TheVariants as gives
use Rattle.ak_messages.specs.declared.replies.MetaReply.{MetaReply}
use Rattle.ak_messages.specs.declared.replies.Reply.{Reply}
use Rattle.ak_messages.specs.declared.replies.SanityReply.{SanityReply}
use Rattle.ak_messages.specs.declared.requests.Ask.{Ask}
use Rattle.ak_messages.specs.declared.requests.Ask.TheVariants as asks
use Rattle.ak_messages.specs.declared.requests.Changes.{Changes}
use Rattle.ak_messages.specs.declared.requests.Chunk.{Chunk}
use Rattle.ak_messages.specs.declared.requests.GraveIds.{GraveIds}
use Rattle.ak_messages.specs.declared.requests.Newer.{Newer}
use Rattle.ak_messages.specs.declared.requests.SanityCounts.{SanityCounts}
use Rattle.ak_messages.specs.declared.requests.Whole.{Whole}
use Rattle.ak_wire.specs.Requests.{IsJsonOf}
use Rattle.ak_wire.specs.Written.{with_members, object_of, array_of, ids_json, graves_json, chunk_json, newer_pairs, decks_json, changes_json, count_json, counts_json, is_under, rows_under, tag_pairs, tags_json, whole_pairs, upload_json, download_json, ask_json, meta_json, check_json, sanity_json, give_json, reply_json}
use Rattle.ak_wire.specs.Words.{word_text}
use Rattle.ak_wire.specs.declared.keys.Key.TheVariants as keys

-- the value holds whole numbers alone
abbrev IsWhole : Data → Type 0
IsWhole d = has_float d ≡ false

abbrev AreWhole : List Data → Type 0
AreWhole ds = AllByRecursion IsWhole ds

abbrev ArePairsWhole : List (List ℕ × Data) → Type 0
ArePairsWhole pairs = AllByRecursion (λ pair. IsWhole pair.1) pairs

number_whole : (z : ℤ) → IsWhole (integer z)
number_whole (pos n) = refl
number_whole (negsuc n) = refl

items_whole : (ds : List Data) → AreWhole ds → items_have_float (items_of ds) ≡ false
items_whole [] h = refl
items_whole (d ∷ ds) h = or_from _ _ h.0 (items_whole ds h.1)

put_whole : (key : List ℕ) (d : Data) (ms : Members) → IsWhole d → members_have_float ms ≡ false → members_have_float (put key d ms) ≡ false
put_whole key d no_members h k = or_from _ _ h refl
put_whole key d (member l e ms) h k =
    at_place (λ rest. put_whole key d ms h rest) (slice_cmp nat_cmp key l)
  where
    at_place : (members_have_float ms ≡ false → members_have_float (put key d ms) ≡ false) → (o : Ordering) → members_have_float (match_ordering o (member key d (member l e ms)) (member l d ms) (member l e (put key d ms))) ≡ false
    at_place later Less = or_from _ _ h k
    at_place later Equal = or_from _ _ h (((or_parts (has_float e) _ k).1))
    at_place later Greater = or_from _ _ (((or_parts (has_float e) _ k).0)) (later (((or_parts (has_float e) _ k).1)))

pairs_whole : (pairs : List (List ℕ × Data)) (ms : Members) → ArePairsWhole pairs → members_have_float ms ≡ false → members_have_float (with_members pairs ms) ≡ false
pairs_whole [] ms h k = k
pairs_whole (pair ∷ pairs) ms h k = pairs_whole pairs (put pair.0 pair.1 ms) h.1 (put_whole pair.0 pair.1 ms h.0 k)

object_whole : (pairs : List (List ℕ × Data)) → ArePairsWhole pairs → IsWhole (object_of pairs)
object_whole pairs h = pairs_whole pairs no_members h refl

both_whole : (front back : List (List ℕ × Data)) → ArePairsWhole front → ArePairsWhole back → ArePairsWhole (front ++ back)
both_whole [] back h k = k
both_whole (pair ∷ pairs) back h k = (h.0, both_whole pairs back h.1 k)

ids_whole : (ids : List ℤ) → AreWhole (map integer ids)
ids_whole [] = tt
ids_whole (id ∷ ids) = (number_whole id, ids_whole ids)

texts_whole : (texts : List (List ℕ)) → AreWhole (map string texts)
texts_whole [] = tt
texts_whole (text ∷ texts) = (refl, texts_whole texts)

-- rows as they stand in lists of their kind
module _ {A : Type 0} (row_of : A → Row) where
  each_whole : (parts : List A) → AreWhole (map (λ part. row_json (row_of part)) parts)
  each_whole [] = tt
  each_whole (part ∷ parts) = (written_whole (row_of part), each_whole parts)

rows_whole : (parts : List Row) → AreWhole (map row_json parts)
rows_whole [] = tt
rows_whole (part ∷ parts) = (written_whole part, rows_whole parts)

graves_whole : (g : GraveIds) → IsWhole (graves_json g)
graves_whole g =
    object_whole ((codes "cards", ids_json g.cards) ∷ (codes "decks", ids_json g.decks) ∷ (codes "notes", ids_json g.notes) ∷ [])
    (items_whole _ (ids_whole g.cards), (items_whole _ (ids_whole g.decks), (items_whole _ (ids_whole g.notes), tt)))

chunk_whole : (c : Chunk) → IsWhole (chunk_json c)
chunk_whole c =
    object_whole ((codes "cards", array_of (map (λ card. row_json (rows.Card card)) c.cards)) ∷ (codes "done", boolean c.done)
    ∷ (codes "notes", array_of (map (λ note. row_json (rows.Note note)) c.notes))
    ∷ (codes "revlog", array_of (map (λ review. row_json (rows.Review review)) c.reviews)) ∷ [])
    (items_whole _ (each_whole (λ x. rows.Card x) c.cards), (refl, (items_whole _ (each_whole (λ x. rows.Note x) c.notes), (items_whole _ (each_whole (λ x. rows.Review x) c.reviews), tt))))

none_float : (floats : Bool) → not floats ≡ true → floats ≡ false
none_float true is = sym is
none_float false is = refl

rest_whole : (passes : Members → Bool) (text : List ℕ) → is_rest passes text ≡ true → members_have_float (rest_members text) ≡ false
unfolding is_rest
rest_whole passes text is = among (members_of text) is
  where
    among : (found : Option Members) → option_map_or (λ members. is_plain members && passes members) found false ≡ true → members_have_float (unwrap_or found no_members) ≡ false
    among None is = refl
    among (Some ms) is = none_float _ (second_so _ _ (first_so (is_plain ms) (passes ms) is))

conf_whole : (c : Conf) → IsWhole (conf_json c)
conf_whole c =
    pairs_whole ((codes "newSpread", integer c.new_spread) ∷ (codes "collapseTime", integer c.collapse) ∷ (codes "dayLearnFirst", boolean c.day_learn_first)
    ∷ (codes "nextPos", integer c.next_pos) ∷ (codes "lastUnburied", integer c.last_unburied) ∷ []) (rest_members c.rest.text)
    (number_whole c.new_spread, (number_whole c.collapse, (refl, (number_whole c.next_pos, (number_whole c.last_unburied, tt)))))
    (rest_whole _ c.rest.text c.rest.unknown)

newer_whole : (newer : Option Newer) → ArePairsWhole (newer_pairs newer)
newer_whole None = tt
newer_whole (Some newer) = (conf_whole newer.conf, (number_whole newer.crt, tt))

decks_whole : (c : Changes) → IsWhole (decks_json c)
decks_whole c =
    items_whole (array_of (map (λ deck. row_json (rows.Deck deck)) c.decks) ∷ array_of (map (λ options. row_json (rows.Options options)) c.options) ∷ [])
    (items_whole _ (each_whole (λ x. rows.Deck x) c.decks), (items_whole _ (each_whole (λ x. rows.Options x) c.options), tt))

changes_whole : (c : Changes) → IsWhole (changes_json c)
changes_whole c =
    object_whole _ (both_whole (newer_pairs c.newer) ((codes "decks", decks_json c)
    ∷ (codes "models", array_of (map (λ note_type. row_json (rows.NoteType note_type)) c.models)) ∷ (codes "tags", array_of (map string c.tags)) ∷ []) (newer_whole c.newer)
    (decks_whole c, (items_whole _ (each_whole (λ x. rows.NoteType x) c.models), (items_whole _ (texts_whole c.tags), tt))))

tags_whole : (tags : List Tag) → ArePairsWhole (tag_pairs tags)
tags_whole [] = tt
tags_whole (tag ∷ tags) = (number_whole tag.usn, tags_whole tags)

under_whole : (is_wanted : Row → Bool) (all : List Row) → IsWhole (array_of (map row_json (filter is_wanted all)))
under_whole is_wanted all = items_whole _ (rows_whole (filter is_wanted all))

parts_whole : (w : Whole) → ArePairsWhole (whole_pairs w)
parts_whole w = (
  under_whole _ w.rows,
  (
    conf_whole w.conf,
    (
      number_whole w.crt,
      (
        under_whole _ w.rows,
        (
          number_whole w.moment,
          (
            under_whole _ w.rows,
            (under_whole _ w.rows, (under_whole _ w.rows, (under_whole _ w.rows, (number_whole w.schema, (object_whole _ (tags_whole w.tags), tt))))),
          ),
        ),
      ),
    ),
  ),
)

download_whole : (w : Whole) → IsWhole (download_json w)
download_whole w =
    object_whole (whole_pairs w ++ (codes "graves", rows_under keys.Graves w.rows) ∷ (codes "usn", integer w.usn) ∷ [])
    (both_whole (whole_pairs w) ((codes "graves", rows_under keys.Graves w.rows) ∷ (codes "usn", integer w.usn) ∷ []) (parts_whole w)
    (under_whole (is_under keys.Graves) w.rows, (number_whole w.usn, tt)))

one_whole : (key : List ℕ) (d : Data) → IsWhole d → IsWhole (object_of ((key, d) ∷ []))
one_whole key d h = object_whole ((key, d) ∷ []) (h, tt)

two_whole : (key other : List ℕ) (d e : Data) → IsWhole d → IsWhole e → IsWhole (object_of ((key, d) ∷ (other, e) ∷ []))
two_whole key other d e h k = object_whole ((key, d) ∷ (other, e) ∷ []) (h, (k, tt))

pub ask_whole : (ask : Ask) → has_float (ask_json ask) ≡ false
ask_whole asks.Meta = refl
ask_whole (asks.Start min_usn lmod) = two_whole (codes "lmod") (codes "minUsn") (integer lmod) (integer min_usn) (number_whole lmod) (number_whole min_usn)
ask_whole (asks.ApplyGraves ids) = one_whole (codes "chunk") (graves_json ids) (graves_whole ids)
ask_whole (asks.ApplyChanges changes) = one_whole (codes "changes") (changes_json changes) (changes_whole changes)
ask_whole asks.Chunk = refl
ask_whole (asks.ApplyChunk chunk) = one_whole (codes "chunk") (chunk_json chunk) (chunk_whole chunk)
ask_whole (asks.SanityCheck2 counts) = refl
ask_whole asks.Finish = refl
ask_whole (asks.Upload whole) = object_whole (whole_pairs whole) (parts_whole whole)
ask_whole asks.Download = refl

meta_whole : (m : MetaReply) → IsWhole (meta_json m)
meta_whole m =
    let n = number_whole in
    object_whole ((codes "cont", boolean m.cont) ∷ (codes "mod", integer m.moment) ∷ (codes "msg", string m.msg) ∷ (codes "musn", integer m.musn)
    ∷ (codes "scm", integer m.scm) ∷ (codes "ts", integer m.ts) ∷ (codes "usn", integer m.usn) ∷ [])
    (refl, (n m.moment, (refl, (n m.musn, (n m.scm, (n m.ts, (n m.usn, tt)))))))

pair_whole : (first second : ℤ) → IsWhole (array_of (integer first ∷ integer second ∷ []))
pair_whole first second = items_whole (integer first ∷ integer second ∷ []) (number_whole first, (number_whole second, tt))

check_whole : (fault : Option CheckFault) → IsWhole (check_json fault)
check_whole None = refl
check_whole (Some (checks.CardNoNote id)) = pair_whole (pos 1) id
check_whole (Some (checks.NoteNoCard id)) = pair_whole (pos 2) id
check_whole (Some (checks.NoteNoType id)) = pair_whole (pos 3) id
check_whole (Some (checks.CardNoTemplate id)) = pair_whole (pos 4) id

chosen_whole : (b : Bool) (x y : Data) → IsWhole x → IsWhole y → IsWhole (if b then x else y)
chosen_whole true x y h k = h
chosen_whole false x y h k = k

bad_whole : (s : SanityReply) → IsWhole (object_of ((codes "c", counts_json s.client) ∷ (codes "row", check_json s.fault) ∷ (codes "s", counts_json s.server)
    ∷ (codes "status", string (codes "bad")) ∷ []))
bad_whole s =
    object_whole ((codes "c", counts_json s.client) ∷ (codes "row", check_json s.fault) ∷ (codes "s", counts_json s.server) ∷ (codes "status", string (codes "bad")) ∷ [])
    (refl, (check_whole s.fault, (refl, (refl, tt))))

sanity_whole : (s : SanityReply) → IsWhole (sanity_json s)
sanity_whole s = chosen_whole s.good _ _ (one_whole (codes "status") (string (codes "ok")) refl) (bad_whole s)

give_whole : (give : Give) → IsWhole (give_json give)
give_whole gives.Nothing = refl
give_whole (gives.Meta m) = meta_whole m
give_whole (gives.Graves ids) = graves_whole ids
give_whole (gives.Changes changes) = changes_whole changes
give_whole (gives.Chunk chunk) = chunk_whole chunk
give_whole (gives.Sanity sanity) = sanity_whole sanity
give_whole (gives.Moment moment) = one_whole (codes "mod") (integer moment) (number_whole moment)
give_whole (gives.Uploaded moment schema) = two_whole (codes "mod") (codes "scm") (integer moment) (integer schema) (number_whole moment) (number_whole schema)
give_whole (gives.Whole whole) = download_whole whole

pub reply_whole : (r : Reply) → has_float (reply_json r) ≡ false
reply_whole r =
    chosen_whole (r.status == 200) _ _ (give_whole r.give)
    (two_whole (codes "seen") (codes "word") (integer r.seen) (string (word_text r.word)) (number_whole r.seen) refl)

-- ---- the bytes of a text

-- a text made of a string is UTF-8
pub string_utf8 : {Z : Type 0} (s : String Z) (text : List ℕ) → text ≡ string_bytes s → IsUtf8 text
string_utf8 s text is = subst IsUtf8 (sym is) (IsUtf8-string_bytes s)

-- UTF-8 that reads as a value is the JSON of it
pub is_json : (text : List ℕ) (d : Data) → IsUtf8 text → read text ≡ Some d → IsJsonOf text d
is_json text d utf8 reads = record { utf8 = utf8; reads = reads }
