-- Which requests a session refuses: the first test that finds fault with one, in this order.
use Rattle.std.specs.Prelude.{ℕ, ℤ, pos, negsuc, ◌+ℤ◌, ◌&&◌, ◌||◌, ◌==◌, Bool, true, false, not, is_some, is_ok, int_lt, nat_lt, nat_le, List, [], ◌∷◌, ◌++◌, length, find, if◌then◌else◌, Option}
use Rattle.std.specs.Cmp.Lexicographic.{pointwise}
use Rattle.std.specs.List.{list_any, list_all}
use Rattle.std.specs.Option.{option_map, option_map_or}
use Rattle.std.specs.Ordering.{int_eq, eq_by_cmp}
use Rattle.ak_base.specs.Heads.{is_tag_name, is_within}
use Rattle.ak_base.specs.Limits.{last_id, last_usn, last_head_usn, last_stamp, last_moment}
use Rattle.ak_base.specs.Names.{name_cmp}
use Rattle.ak_base.specs.Rows.{check_of, name_of}
use Rattle.ak_base.specs.declared.heads.Conf.{Conf}
use Rattle.ak_base.specs.declared.heads.Tag.{Tag}
use Rattle.ak_base.specs.declared.rows.Row.{Row}
use Rattle.ak_keep.specs.Collections.{Collection}
use Rattle.ak_messages.specs.MessageForms.{chunk_entries, grave_entries}
use Rattle.ak_messages.specs.declared.requests.Ask.{Ask}
use Rattle.ak_messages.specs.declared.requests.Ask.TheVariants as asks
use Rattle.ak_messages.specs.declared.requests.Changes.{Changes}
use Rattle.ak_messages.specs.declared.requests.Chunk.{Chunk}
use Rattle.ak_messages.specs.declared.requests.GraveIds.{GraveIds}
use Rattle.ak_messages.specs.declared.requests.Newer.{Newer}
use Rattle.ak_messages.specs.declared.requests.Whole.{Whole}
use Rattle.ak_session.specs.Answers.{is_device_newer}
use Rattle.ak_session.specs.Messages.{chunk_rows, change_rows}
use Rattle.ak_session.specs.NextMethods.{may_come}
use Rattle.ak_session.specs.Objections.{Objection, MayNotCome, WrongUsn, NoNumber, TooManyRows, WrongRow, WrongNewer}

-- ---- ranges
-- an id of a row
abbrev pub is_id : ℤ → Bool
is_id = is_within (pos 1) last_id

-- a row passes its check: each column is in its range
abbrev pub is_checked : Row → Bool
is_checked row = is_ok (check_of row)

-- a tag with a name and a usn in their ranges
abbrev pub is_tag_in_range : Tag → Bool
is_tag_in_range tag = is_tag_name tag.name && is_within (negsuc 0) last_usn tag.usn

-- settings whose numbers are in their ranges, and whose other keys have at most 262,144 bytes
abbrev pub is_conf_in_range : Conf → Bool
is_conf_in_range conf =
    is_within (pos 0) (pos 2) conf.new_spread
    && is_within (pos 0) (pos 86_400) conf.collapse
    && is_within (pos 0) (pos 2_147_483_647) conf.next_pos
    && is_within (negsuc 9_999_999) (pos 100_000_000) conf.last_unburied
    && nat_le (length conf.rest.text) 262_144

-- a second of a collection's creation
abbrev pub is_crt_in_range : ℤ → Bool
is_crt_in_range = is_within (pos 0) last_stamp

-- the moment after this one is past the last one, in milliseconds
abbrev pub has_no_next : ℤ → Bool
has_no_next moment = int_lt last_moment (moment +ℤ pos 1)

-- ---- names
-- whether two of these are the same
abbrev pub has_twins : {X : Type 0} → (X → X → Bool) → List X → Bool
has_twins same [] = false
has_twins same (x ∷ more) = list_any (same x) more || has_twins same more

-- whether two rows share a name
abbrev pub same_names : Row → Row → Bool
same_names one other = eq_by_cmp name_cmp (name_of one) (name_of other)

-- whether two tags share a name
abbrev pub same_tags : Tag → Tag → Bool
same_tags one other = pointwise ◌==◌ one.name other.name

-- ---- what is tested of each request
-- a test of a request: whether it finds fault, and why the request is refused then
pub record Test : Type 0 where
  pub finds : Bool
  pub why : Objection

-- a test that finds fault if this holds
abbrev pub test : Bool → Objection → Test
test finds why = record { finds = finds; why = why }

-- a start: its usn is from 0 to the server's. The server's usn is not the last one, and neither side's moment is
abbrev pub start_tests : Collection → ℤ → ℤ → List Test
start_tests committed min_usn lmod =
    test (not (is_within (pos 0) committed.head.usn min_usn)) WrongUsn
    ∷ test (int_eq committed.head.usn last_head_usn || has_no_next committed.head.moment || has_no_next lmod) NoNumber
    ∷ []

-- graves: they have at most 250 ids, each in its range
abbrev pub grave_tests : GraveIds → List Test
grave_tests ids =
    test (nat_lt 250 (grave_entries ids)) TooManyRows
    ∷ test (not (list_all is_id (ids.cards ++ (ids.notes ++ ids.decks)))) WrongRow
    ∷ []

-- whether the settings and the second of creation are in their ranges
abbrev pub is_newer_in_range : Newer → Bool
is_newer_in_range newer = is_conf_in_range newer.conf && is_crt_in_range newer.crt

-- what changes hold is in its ranges: rows, tags, and settings if there are some
abbrev pub are_changes_in_range : Changes → Bool
are_changes_in_range changes =
    list_all is_checked (change_rows changes)
    && list_all is_tag_name changes.tags
    && option_map_or is_newer_in_range changes.newer true

-- the settings are there though the device is not the newer side, or are missing though it is
abbrev pub wrong_newer : Bool → Changes → Bool
wrong_newer device_newer changes = if device_newer then not (is_some changes.newer) else is_some changes.newer

-- changes: what they hold is in its ranges, and the settings are there exactly if the device is the newer side
abbrev pub change_tests : Bool → Changes → List Test
change_tests device_newer changes =
    test (not (are_changes_in_range changes)) WrongRow
    ∷ test (wrong_newer device_newer changes) WrongNewer
    ∷ []

-- a chunk: it has at most 250 rows, each of which passes its check
abbrev pub chunk_tests : Chunk → List Test
chunk_tests chunk =
    test (nat_lt 250 (chunk_entries chunk)) TooManyRows
    ∷ test (not (list_all is_checked (chunk_rows chunk))) WrongRow
    ∷ []

-- a moment or a schema moment of either side is the last one
abbrev pub has_last_moment : Collection → Whole → Bool
has_last_moment committed whole =
    has_no_next committed.head.moment
    || has_no_next committed.head.schema
    || has_no_next whole.moment
    || has_no_next whole.schema

-- what an upload holds is in its ranges: rows, tags, settings, and the second of creation
abbrev pub is_whole_in_range : Whole → Bool
is_whole_in_range whole =
    list_all is_checked whole.rows
    && list_all is_tag_in_range whole.tags
    && is_conf_in_range whole.conf
    && is_crt_in_range whole.crt

-- an upload: no moment is the last one, what it holds is in its ranges, and no two rows and no two tags share a name
abbrev pub upload_tests : Collection → Whole → List Test
upload_tests committed whole =
    test (has_last_moment committed whole) NoNumber
    ∷ test (not (is_whole_in_range whole)) WrongRow
    ∷ test (has_twins same_names whole.rows || has_twins same_tags whole.tags) WrongRow
    ∷ []

-- the tests of what a request holds
abbrev pub tests_of : Collection → List Ask → Ask → List Test
tests_of committed accepted (asks.Start min_usn lmod) = start_tests committed min_usn lmod
tests_of committed accepted (asks.ApplyGraves ids) = grave_tests ids
tests_of committed accepted (asks.ApplyChanges changes) = change_tests (is_device_newer committed accepted) changes
tests_of committed accepted (asks.ApplyChunk chunk) = chunk_tests chunk
tests_of committed accepted (asks.Upload whole) = upload_tests committed whole
tests_of committed accepted ask = []

-- ---- the objection
-- the objection of the first test that finds fault
abbrev pub first_objection : List Test → Option Objection
first_objection tests = option_map (λ (t : Test). t.why) (find (λ (t : Test). t.finds) tests)

-- why a request is refused after these, if it is: its method may not come, or what it holds is at fault
abbrev pub objection_to : Collection → List Ask → Ask → Option Objection
objection_to committed accepted ask =
    first_objection (test (not (may_come committed accepted ask)) MayNotCome ∷ tests_of committed accepted ask)
