-- A session accepts what a sync asks: what the sync brings is in its ranges.
use Rattle.std.specs.Prelude.{◌≡◌, ℕ, ◌+◌, ◌*◌, ◌≤◌, ℤ, pos, negsuc, ◌≤ℤ◌, ◌<ℤ◌, ◌&&◌, ◌||◌, Bool, true, false, not, is_ok, int_lt, int_le, nat_lt, nat_le, if◌then◌else◌, List, [], ◌∷◌, ◌++◌, map, length, drop, Some, None}
use Rattle.std.specs.Bool.{Decides}
use Rattle.std.specs.Cmp.{first_so, second_so}
use Rattle.std.specs.List.{AllByRecursion, list_all}
use Rattle.std.specs.Option.{option_map, option_map_or}
use Rattle.std.specs.Ordering.{int_eq}
use Rattle.std.proofs.Common.{refl, ap, ◌∙◌, arith}
use Rattle.std.proofs.lemmas.Int.{ints}
use Rattle.std.proofs.lemmas.List.{length-append, length-map, length-take}
use Rattle.std.proofs.lemmas.List.Folds.{list_all-append}
use Rattle.ak_base.specs.Columns.{id_fault}
use Rattle.ak_base.specs.Graves.{grave_faults}
use Rattle.ak_base.specs.Heads.{IsWithin, IsConfInRange, IsHeadInRange, IsTagInRange, is_tag_name, is_within}
use Rattle.ak_base.specs.Limits.{last_id, last_usn, last_head_usn, last_stamp, last_moment}
use Rattle.ak_base.specs.Rows.{IsChecked}
use Rattle.ak_base.specs.declared.errors.RowFault.TheVariants.{IdRange}
use Rattle.ak_base.specs.declared.heads.Conf.{Conf}
use Rattle.ak_base.specs.declared.heads.Head.{Head}
use Rattle.ak_base.specs.declared.heads.Tag.{Tag}
use Rattle.ak_base.specs.declared.rows.Row.{Row}
use Rattle.ak_base.specs.declared.rows.Row.TheVariants as rows
use Rattle.ak_merge.proofs.CheckedRows.{faultless_of}
use Rattle.ak_merge.proofs.Finding.{not_none}
use Rattle.ak_merge.specs.Exchanges.{settings_sent}
use Rattle.ak_merge.specs.Tags.{IsTagName}
use Rattle.ak_messages.specs.MessageForms.{chunk_entries, grave_entries}
use Rattle.ak_messages.specs.declared.requests.GraveIds.{GraveIds}
use Rattle.ak_session.specs.Messages.{grave_ids, grave_with, graves_from, chunk_of, chunk_rows, newer_of}
use Rattle.ak_session.specs.Objections.{Objection}
use Rattle.ak_session.specs.Refusals.{is_id, is_checked, is_conf_in_range, is_newer_in_range, is_tag_in_range, has_no_next, test, first_objection}
use Rattle.ak_session.specs.Slices.{slice}
use Rattle.ak_session.proofs.Ranges.{all_front, all_rest, within, passed, tag_named, settings_fit}

-- ---- tests that find no fault
pub both_pass : (a : Bool) (why : Objection) (b : Bool) (other : Objection) → a ≡ false → b ≡ false → first_objection (test a why ∷ test b other ∷ []) ≡ None
both_pass a why b other one two = rw (one, two) refl

-- ---- ranges
pub between : (least most number : ℤ) → IsWithin least most number → is_within least most number ≡ true
between least most number own =
    let low : int_le least number ≡ true = grind (arith, ints, own.low) in
    let high : int_le number most ≡ true = grind (arith, ints, own.high) in
    rw (low, high) refl

pub checked_row : (row : Row) → IsChecked row → is_checked row ≡ true
checked_row row own = ap is_ok own

pub all_true : {X : Type 0} (P : X → Type 0) (test : X → Bool) → ((x : X) → P x → test x ≡ true) → (xs : List X) → AllByRecursion P xs → list_all test xs ≡ true
all_true P test so [] all = refl
all_true P test so (x ∷ xs) all = rw (so x all.0) (all_true P test so xs all.1)

pub named_tag : (name : List ℕ) → IsTagName name → is_tag_name name ≡ true
named_tag name own =
    let some : nat_le 1 (length name) ≡ true = grind (arith, own.some) in
    let short : nat_le (length name) 512 ≡ true = grind (arith, own.short) in
    rw (some, short) refl

pub conf_fits : (conf : Conf) → IsConfInRange conf → is_conf_in_range conf ≡ true
conf_fits conf own =
    let short : nat_le (length conf.rest.text) 262_144 ≡ true = grind (arith, own.rest) in
    rw (between (pos 0) (pos 2) conf.new_spread own.numbers.new_spread, between (pos 0) (pos 86_400) conf.collapse own.numbers.collapse, between (pos 0) (pos 2_147_483_647) conf.next_pos own.numbers.next_pos, between (negsuc 9_999_999) (pos 100_000_000) conf.last_unburied own.numbers.last_unburied, short) refl

pub sent_settings_fit : (device server : Head) → IsHeadInRange device → option_map_or is_newer_in_range (option_map newer_of (settings_sent device server)) true ≡ true
sent_settings_fit device server own =
    elim (int_lt server.moment device.moment) as (λ b. option_map_or is_newer_in_range (option_map newer_of (if b then Some (record { conf = device.conf; crt = device.crt }) else None)) true ≡ true) [
      | true ↦ rw (conf_fits device.conf own.conf, between (pos 0) last_stamp device.crt own.crt) refl
      | false ↦ refl
    ]

-- ---- graves
fault_free : (b : Bool) → (if b then Some IdRange else None) ≡ None → b ≡ false
fault_free true is = absurd (not_none is)
fault_free false is = refl

id_fits : (id : ℤ) → id_fault id ≡ None → is_id id ≡ true
unfolding id_fault
id_fits id none =
    let out : (int_lt id (pos 1) || int_lt last_id id) ≡ false = fault_free (int_lt id (pos 1) || int_lt last_id id) none in
    let low : int_le (pos 1) id ≡ true = grind (arith, ints, out) in
    let high : int_le id last_id ≡ true = grind (arith, ints, out) in
    rw (low, high) refl

grave_id : (kind id : ℤ) → IsChecked (grave_with kind id) → is_id id ≡ true
grave_id kind id own = id_fits id (faultless_of (grave_faults (record { usn = negsuc 0; oid = id; kind = kind })) own).1.0

ids_of : (kind : ℤ) (list : List ℤ) → AllByRecursion IsChecked (map (grave_with kind) list) → list_all is_id list ≡ true
ids_of kind [] all = refl
ids_of kind (id ∷ more) all = rw (grave_id kind id all.0) (ids_of kind more all.1)

pub ids_fit : (ids : GraveIds) → AllByRecursion IsChecked (graves_from ids) → list_all is_id (ids.cards ++ (ids.notes ++ ids.decks)) ≡ true
ids_fit ids all =
    let notes : List Row = map (grave_with (pos 1)) ids.notes in
    let cards : List Row = map (grave_with (pos 0)) ids.cards in
    let decks : List Row = map (grave_with (pos 2)) ids.decks in
    let rest = all_rest IsChecked (map (grave_with (pos 1)) ids.notes) (map (grave_with (pos 0)) ids.cards ++ map (grave_with (pos 2)) ids.decks) all in
    list_all-append is_id ids.cards (ids.notes ++ ids.decks)
    ∙ ap (λ b. list_all is_id ids.cards && b) (list_all-append is_id ids.notes ids.decks)
    ∙ rw (ids_of (pos 0) ids.cards (all_front IsChecked (map (grave_with (pos 0)) ids.cards) (map (grave_with (pos 2)) ids.decks) rest), ids_of (pos 1) ids.notes (all_front IsChecked (map (grave_with (pos 1)) ids.notes) (map (grave_with (pos 0)) ids.cards ++ map (grave_with (pos 2)) ids.decks) all), ids_of (pos 2) ids.decks (all_rest IsChecked (map (grave_with (pos 0)) ids.cards) (map (grave_with (pos 2)) ids.decks) rest)) refl

pub slice_short : (k : ℕ) (list : List Row) → length (slice k list) ≤ 250
slice_short k list = let long = length-take 250 (drop (250 * k) list) in omega (arith, long)

pub graves_few : (part : List Row) → graves_from (grave_ids part) ≡ part → length part ≤ 250 → nat_lt 250 (grave_entries (grave_ids part)) ≡ false
graves_few part keeps short =
    let ids : GraveIds = grave_ids part in
    let one = length-append (map (grave_with (pos 1)) ids.notes) (map (grave_with (pos 0)) ids.cards ++ map (grave_with (pos 2)) ids.decks) in
    let two = length-append (map (grave_with (pos 0)) ids.cards) (map (grave_with (pos 2)) ids.decks) in
    let a = length-map ids.notes (grave_with (pos 1)) in
    let b = length-map ids.cards (grave_with (pos 0)) in
    let d = length-map ids.decks (grave_with (pos 2)) in
    let same : length (graves_from (grave_ids part)) ≡ length part = ap length keeps in
    let few : length ids.cards + length ids.notes + length ids.decks ≤ 250 = omega (arith, one, two, a, b, d, same, short) in
    grind (arith, few)

pub rows_few : (part : List Row) → chunk_rows (chunk_of part) ≡ part → length part ≤ 250 → nat_lt 250 (chunk_entries (chunk_of part)) ≡ false
rows_few part keeps short =
    let one = length-append (map rows.Review (chunk_of part).reviews) (map rows.Card (chunk_of part).cards ++ map rows.Note (chunk_of part).notes) in
    let two = length-append (map rows.Card (chunk_of part).cards) (map rows.Note (chunk_of part).notes) in
    let a = length-map (chunk_of part).reviews rows.Review in
    let b = length-map (chunk_of part).cards rows.Card in
    let d = length-map (chunk_of part).notes rows.Note in
    let same : length (chunk_rows (chunk_of part)) ≡ length part = ap length keeps in
    let few : length (chunk_of part).reviews + length (chunk_of part).cards + length (chunk_of part).notes ≤ 250 = omega (arith, one, two, a, b, d, same, short) in
    grind (arith, few)

-- ---- the start
pub has_next : (moment : ℤ) → moment <ℤ last_moment → has_no_next moment ≡ false
has_next moment below = grind (arith, ints, below)

pub start_passes : (usn min_usn moment lmod : ℤ) → pos 0 ≤ℤ min_usn → min_usn ≤ℤ usn → usn <ℤ last_head_usn → moment <ℤ last_moment → lmod <ℤ last_moment
    → (not (is_within (pos 0) usn min_usn) ≡ false) × ((int_eq usn last_head_usn || has_no_next moment || has_no_next lmod) ≡ false)
start_passes usn min_usn moment lmod low high room one two =
    let differ : int_eq usn last_head_usn ≡ false = grind (arith, ints, room) in
    (ap not (between (pos 0) usn min_usn (record { low = low; high = high })), rw (differ, has_next moment one, has_next lmod two) refl)

-- ---- each test finds exactly what is in its range
pub number_decides : (least most number : ℤ) → Decides (is_within least most number) (IsWithin least most number)
number_decides least most number = (within least most number, between least most number)

pub row_decides : (row : Row) → Decides (is_checked row) (IsChecked row)
row_decides row = (passed row, checked_row row)

pub conf_decides : (conf : Conf) → Decides (is_conf_in_range conf) (IsConfInRange conf)
conf_decides conf = (settings_fit conf, conf_fits conf)

pub name_decides : (name : List ℕ) → Decides (is_tag_name name) (IsTagName name)
name_decides name = (tag_named name, named_tag name)

pub tag_decides : (tag : Tag) → Decides (is_tag_in_range tag) (IsTagInRange tag)
tag_decides tag = (
  (λ is.
      let named : IsTagName tag.name = tag_named tag.name (first_so (is_tag_name tag.name) (is_within (negsuc 0) last_usn tag.usn) is) in
      record { some = named.some; short = named.short; usn = within (negsuc 0) last_usn tag.usn (second_so (is_tag_name tag.name) (is_within (negsuc 0) last_usn tag.usn) is) }),
  (λ own. rw (named_tag tag.name (record { some = own.some; short = own.short }), between (negsuc 0) last_usn tag.usn own.usn) refl),
)
