-- What the tests of requests find is in its ranges.
use Rattle.std.specs.Prelude.{◌≡◌, ℕ, ℤ, pos, negsuc, ◌+ℤ◌, ◌≤ℤ◌, ◌<ℤ◌, ◌&&◌, Bool, true, false, not, is_ok, int_lt, int_le, nat_le, List, [], ◌∷◌, ◌++◌, map, length, nat_lt, find, if◌then◌else◌, Option, Some, None, Result, Ok, Err, IfSome, T}
use Rattle.std.specs.Int.{int_max}
use Rattle.std.specs.List.{AllByRecursion, list_all}
use Rattle.std.specs.Option.{option_map, option_map_or, option_or}
use Rattle.std.proofs.Common.{refl, sym, subst, ◌∙◌, arith}
use Rattle.std.proofs.lemmas.Int.{ints, int_max_is}
use Rattle.std.proofs.lemmas.Option.{none-some}
use Rattle.std.specs.Cmp.{first_so, second_so}
use Rattle.ak_base.specs.Heads.{IsWithin, IsMoment, IsConfInRange, is_tag_name, is_within}
use Rattle.ak_base.specs.Limits.{last_stamp, last_id, last_moment}
use Rattle.ak_base.specs.Columns.{id_fault, code_fault}
use Rattle.ak_base.specs.Rows.{IsChecked, check_of}
use Rattle.ak_base.specs.declared.errors.RowFault.{RowFault}
use Rattle.ak_base.specs.declared.heads.Conf.{Conf}
use Rattle.ak_base.specs.declared.rows.Row.{Row}
use Rattle.ak_merge.specs.Commits.{Settings, Received}
use Rattle.ak_merge.specs.Tags.{IsTagName}
use Rattle.ak_messages.specs.declared.requests.Ask.{Ask}
use Rattle.ak_messages.specs.declared.requests.Ask.TheVariants as asks
use Rattle.ak_messages.specs.declared.requests.Changes.{Changes}
use Rattle.ak_messages.specs.declared.requests.GraveIds.{GraveIds}
use Rattle.ak_messages.specs.declared.requests.Newer.{Newer}
use Rattle.ak_keep.specs.Collections.{Collection}
use Rattle.ak_session.specs.Asks.{nothing, brought, and_then}
use Rattle.ak_session.specs.Closings.{moment_past}
use Rattle.ak_session.specs.Messages.{grave_with, graves_from, chunk_rows, change_rows, settings_in}
use Rattle.ak_session.specs.Answers.{is_device_newer}
use Rattle.ak_session.specs.Objections.{Objection, TooManyRows, WrongRow, WrongNewer}
use Rattle.ak_messages.specs.MessageForms.{chunk_entries, grave_entries}
use Rattle.ak_session.specs.Refusals.{is_id, is_checked, is_conf_in_range, is_crt_in_range, is_newer_in_range, has_no_next, Test, test, are_changes_in_range, wrong_newer, first_objection, tests_of}

-- ---- tests
pub not_both : {b : Bool} → b ≡ true → b ≡ false → ⊥
not_both so other = subst T (sym so ∙ other) tt

-- a list of tests without an objection: the first finds no fault, and the others have no objection
none_by : (finds : Bool) (why : Objection) (rest : Option Test) → option_map (λ (t : Test). t.why) (if finds then Some (test finds why) else rest) ≡ None
    → (finds ≡ false) × (option_map (λ (t : Test). t.why) rest ≡ None)
none_by true why rest none = absurd (none-some why (sym none))
none_by false why rest none = (refl, none)

pub none_first : (finds : Bool) (why : Objection) (more : List Test) → first_objection (test finds why ∷ more) ≡ None → finds ≡ false
none_first finds why more none = (none_by finds why (find (λ (t : Test). t.finds) more) none).0

pub none_rest : (finds : Bool) (why : Objection) (more : List Test) → first_objection (test finds why ∷ more) ≡ None → first_objection more ≡ None
none_rest finds why more none = (none_by finds why (find (λ (t : Test). t.finds) more) none).1

pub none_of_two : (finds : Bool) (why : Objection) (also : Bool) (other : Objection) (more : List Test) → first_objection (test finds why ∷ test also other ∷ more) ≡ None → (finds ≡ false) × (also ≡ false)
none_of_two finds why also other more none =
    (none_first finds why (test also other ∷ more) none, none_first also other more (none_rest finds why (test also other ∷ more) none))

pub untrue : {b : Bool} → not b ≡ false → b ≡ true
untrue {b = true} is = refl
untrue {b = false} is = absurd (not_both refl is)

-- ---- lists
pub all_append : {X : Type 0} (P : X → Type 0) (xs ys : List X) → AllByRecursion P xs → AllByRecursion P ys → AllByRecursion P (xs ++ ys)
all_append P [] ys one other = other
all_append P (x ∷ xs) ys one other = (one.0, all_append P xs ys one.1 other)

pub all_pass : {X : Type 0} (P : X → Type 0) (test : X → Bool) → ((x : X) → test x ≡ true → P x) → (xs : List X) → list_all test xs ≡ true → AllByRecursion P xs
all_pass P test so [] is = tt
all_pass P test so (x ∷ xs) is = (so x (first_so _ _ is), all_pass P test so xs (second_so _ _ is))

pub all_mapped : {X Y : Type 0} (P : Y → Type 0) (Q : X → Type 0) (f : X → Y) → ((x : X) → Q x → P (f x)) → (xs : List X) → AllByRecursion Q xs → AllByRecursion P (map f xs)
all_mapped P Q f so [] all = tt
all_mapped P Q f so (x ∷ xs) all = (so x all.0, all_mapped P Q f so xs all.1)

pub all_front : {X : Type 0} (P : X → Type 0) (xs ys : List X) → AllByRecursion P (xs ++ ys) → AllByRecursion P xs
all_front P [] ys all = tt
all_front P (x ∷ xs) ys all = (all.0, all_front P xs ys all.1)

pub all_rest : {X : Type 0} (P : X → Type 0) (xs ys : List X) → AllByRecursion P (xs ++ ys) → AllByRecursion P ys
all_rest P [] ys all = all
all_rest P (x ∷ xs) ys all = all_rest P xs ys all.1

-- ---- ranges
pub within : (least most number : ℤ) → is_within least most number ≡ true → IsWithin least most number
within least most number is =
    let low : int_le least number ≡ true = first_so _ _ is in
    let high : int_le number most ≡ true = second_so _ _ is in
    record { low = grind (arith, ints, low); high = grind (arith, ints, high) }

checked_by : (r : Result (Unit {0}) RowFault) → is_ok r ≡ true → r ≡ Ok tt
checked_by (Ok u) is = refl
checked_by (Err fault) is = absurd (not_both refl (sym is))

pub passed : (row : Row) → is_checked row ≡ true → IsChecked row
passed row is = checked_by (check_of row) is

pub tag_named : (name : List ℕ) → is_tag_name name ≡ true → IsTagName name
tag_named name is =
    let some : nat_le 1 (length name) ≡ true = first_so _ _ is in
    let short : nat_le (length name) 512 ≡ true = second_so _ _ is in
    record { some = grind (arith, some); short = grind (arith, short) }

pub settings_fit : (conf : Conf) → is_conf_in_range conf ≡ true → IsConfInRange conf
settings_fit conf is =
    let spread : Bool = is_within (pos 0) (pos 2) conf.new_spread in
    let collapse : Bool = is_within (pos 0) (pos 86_400) conf.collapse in
    let next : Bool = is_within (pos 0) (pos 2_147_483_647) conf.next_pos in
    let unburied : Bool = is_within (negsuc 9_999_999) (pos 100_000_000) conf.last_unburied in
    let rest : Bool = nat_le (length conf.rest.text) 262_144 in
    let four : (spread && collapse && next && unburied) ≡ true = first_so (spread && collapse && next && unburied) rest is in
    let three : (spread && collapse && next) ≡ true = first_so (spread && collapse && next) unburied four in
    let two : (spread && collapse) ≡ true = first_so (spread && collapse) next three in
    let short : nat_le (length conf.rest.text) 262_144 ≡ true = second_so (spread && collapse && next && unburied) rest is in
    record {
      numbers = record {
        new_spread = within (pos 0) (pos 2) conf.new_spread (first_so spread collapse two);
        collapse = within (pos 0) (pos 86_400) conf.collapse (second_so spread collapse two);
        next_pos = within (pos 0) (pos 2_147_483_647) conf.next_pos (second_so (spread && collapse) next three);
        last_unburied = within (negsuc 9_999_999) (pos 100_000_000) conf.last_unburied (second_so (spread && collapse && next) unburied four);
      };
      rest = grind (arith, short);
    }

-- ---- moments
pub past_both : (now one other : ℤ) → ((one +ℤ pos 1) ≤ℤ moment_past now one other) × ((other +ℤ pos 1) ≤ℤ moment_past now one other)
past_both now one other =
    let inner = int_max_is (one +ℤ pos 1) (other +ℤ pos 1) in
    let outer = int_max_is now (int_max (one +ℤ pos 1) (other +ℤ pos 1)) in
    (omega (arith, ints, inner, outer), omega (arith, ints, inner, outer))

pub past_first : (now one other : ℤ) → one <ℤ moment_past now one other
past_first now one other = let past = (past_both now one other).0 in omega (arith, ints, past)

pub past_second : (now one other : ℤ) → other <ℤ moment_past now one other
past_second now one other = let past = (past_both now one other).1 in omega (arith, ints, past)

pub moment_fits : (now one other : ℤ) → IsMoment now → has_no_next one ≡ false → has_no_next other ≡ false → IsMoment (moment_past now one other)
moment_fits now one other timely first second =
    let inner = int_max_is (one +ℤ pos 1) (other +ℤ pos 1) in
    let outer = int_max_is now (int_max (one +ℤ pos 1) (other +ℤ pos 1)) in
    let low = timely.low in
    let high = timely.high in
    let one_in : (one +ℤ pos 1) ≤ℤ last_moment = grind (arith, ints, first) in
    let other_in : (other +ℤ pos 1) ≤ℤ last_moment = grind (arith, ints, second) in
    record { low = omega (arith, ints, inner, outer, low); high = omega (arith, ints, inner, outer, high, one_in, other_in) }

-- ---- what requests bring
-- settings and a second of creation in their ranges
pub record SettingsFit (settings : Settings) : Type 0 where
  pub conf : IsConfInRange settings.conf
  pub crt : IsWithin (pos 0) last_stamp settings.crt

-- what came is in its ranges
pub record Fits (came : Received) : Type 0 where
  pub rows : AllByRecursion IsChecked came.rows
  pub tags : AllByRecursion IsTagName came.tags
  pub settings : IfSome came.settings SettingsFit

pub nothing_fits : Fits nothing
nothing_fits = record { rows = tt; tags = tt; settings = tt }

later_fits : (later first : Option Settings) → IfSome later SettingsFit → IfSome first SettingsFit → IfSome (option_or later first) SettingsFit
later_fits None first one other = other
later_fits (Some s) first one other = one

pub both_fit : (first more : Received) → Fits first → Fits more → Fits (and_then first more)
both_fit first more one other = record {
  rows = all_append IsChecked first.rows more.rows one.rows other.rows;
  tags = all_append IsTagName first.tags more.tags one.tags other.tags;
  settings = later_fits more.settings first.settings other.settings one.settings;
}

-- the grave of an id in its range passes its check
grave_passes : (kind id : ℤ) → IsWithin (pos 0) (pos 2) kind → is_id id ≡ true → IsChecked (grave_with kind id)
unfolding code_fault id_fault
grave_passes kind id kinds is =
    let fits : IsWithin (pos 1) last_id id = within (pos 1) last_id id is in
    let id_low : int_lt id (pos 1) ≡ false = grind (arith, ints, fits.low) in
    let id_high : int_lt last_id id ≡ false = grind (arith, ints, fits.high) in
    let low : int_lt kind (pos 0) ≡ false = grind (arith, ints, kinds.low) in
    let high : int_lt (pos 2) kind ≡ false = grind (arith, ints, kinds.high) in
    rw (id_low, id_high, low, high) refl

graves_pass : (ids : GraveIds) → list_all is_id (ids.cards ++ (ids.notes ++ ids.decks)) ≡ true → AllByRecursion IsChecked (graves_from ids)
graves_pass ids is =
    let all : AllByRecursion (λ (id : ℤ). is_id id ≡ true) (ids.cards ++ (ids.notes ++ ids.decks)) =
    all_pass (λ (id : ℤ). is_id id ≡ true) is_id (λ id own. own) (ids.cards ++ (ids.notes ++ ids.decks)) is in
    let rest : AllByRecursion (λ (id : ℤ). is_id id ≡ true) (ids.notes ++ ids.decks) = all_rest (λ (id : ℤ). is_id id ≡ true) ids.cards (ids.notes ++ ids.decks) all in
    all_append IsChecked (map (grave_with (pos 1)) ids.notes) (map (grave_with (pos 0)) ids.cards ++ map (grave_with (pos 2)) ids.decks)
    (of_kind (pos 1) (record { low = omega (arith, ints); high = omega (arith, ints) }) ids.notes (all_front (λ (id : ℤ). is_id id ≡ true) ids.notes ids.decks rest))
    (all_append IsChecked (map (grave_with (pos 0)) ids.cards) (map (grave_with (pos 2)) ids.decks)
    (of_kind (pos 0) (record { low = omega (arith, ints); high = omega (arith, ints) }) ids.cards (all_front (λ (id : ℤ). is_id id ≡ true) ids.cards (ids.notes ++ ids.decks) all))
    (of_kind (pos 2) (record { low = omega (arith, ints); high = omega (arith, ints) }) ids.decks (all_rest (λ (id : ℤ). is_id id ≡ true) ids.notes ids.decks rest)))
  where
    of_kind : (kind : ℤ) → IsWithin (pos 0) (pos 2) kind → (list : List ℤ) → AllByRecursion (λ (id : ℤ). is_id id ≡ true) list → AllByRecursion IsChecked (map (grave_with kind) list)
    of_kind kind kinds list own = all_mapped IsChecked (λ (id : ℤ). is_id id ≡ true) (grave_with kind) (λ id one. grave_passes kind id kinds one) list own

newer_fits : (newer : Option Newer) → option_map_or is_newer_in_range newer true ≡ true → IfSome (option_map settings_in newer) SettingsFit
newer_fits None is = tt
newer_fits (Some newer) is = record {
  conf = settings_fit newer.conf (first_so (is_conf_in_range newer.conf) (is_crt_in_range newer.crt) is);
  crt = within (pos 0) last_stamp newer.crt (second_so (is_conf_in_range newer.conf) (is_crt_in_range newer.crt) is);
}

changes_fit : (changes : Changes) → are_changes_in_range changes ≡ true
    → Fits (brought (asks.ApplyChanges changes))
changes_fit changes is =
    let rows : Bool = list_all is_checked (change_rows changes) in
    let tags : Bool = list_all is_tag_name changes.tags in
    let newer : Bool = option_map_or is_newer_in_range changes.newer true in
    let two : (rows && tags) ≡ true = first_so (rows && tags) newer is in
    record {
      rows = all_pass IsChecked is_checked passed (change_rows changes) (first_so rows tags two);
      tags = all_pass IsTagName is_tag_name tag_named changes.tags (second_so rows tags two);
      settings = newer_fits changes.newer (second_so (rows && tags) newer is);
    }

-- what a request brings that no test finds fault with is in its ranges
pub brought_fits : (c : Collection) (before : List Ask) (ask : Ask) → first_objection (tests_of c before ask) ≡ None → Fits (brought ask)
brought_fits c before asks.Meta none = nothing_fits
brought_fits c before (asks.Start min_usn lmod) none = nothing_fits
brought_fits c before (asks.ApplyGraves ids) none =
    record { rows = graves_pass ids (untrue (none_of_two (nat_lt 250 (grave_entries ids)) TooManyRows (not (list_all is_id (ids.cards ++ (ids.notes ++ ids.decks)))) WrongRow [] none).1); tags = tt; settings = tt }
brought_fits c before (asks.ApplyChanges changes) none = changes_fit changes (untrue (none_of_two (not (are_changes_in_range changes)) WrongRow (wrong_newer (is_device_newer c before) changes) WrongNewer [] none).0)
brought_fits c before asks.Chunk none = nothing_fits
brought_fits c before (asks.ApplyChunk chunk) none = record { rows = all_pass IsChecked is_checked passed (chunk_rows chunk) (untrue (none_of_two (nat_lt 250 (chunk_entries chunk)) TooManyRows (not (list_all is_checked (chunk_rows chunk))) WrongRow [] none).1); tags = tt; settings = tt }
brought_fits c before (asks.SanityCheck2 counts) none = nothing_fits
brought_fits c before asks.Finish none = nothing_fits
brought_fits c before (asks.Upload whole) none = nothing_fits
brought_fits c before asks.Download none = nothing_fits
