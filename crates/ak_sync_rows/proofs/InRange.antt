-- What came may be taken if it passed its test.
use Rattle.std.specs.Cmp.{first_so, second_so}
use Rattle.std.specs.List.{AllByRecursion, list_all}
use Rattle.std.specs.Option.{option_map, option_map_or}
use Rattle.std.specs.Prelude.{◌≡◌, ℤ, pos, ◌&&◌, Bool, true, false, int_lt, List, [], ◌++◌, map, Option, Some, None, IfSome}
use Rattle.std.proofs.Common.{refl, arith}
use Rattle.std.proofs.lemmas.Int.{ints}
use Rattle.std.proofs.lemmas.List.Elements.{All-from_recursion}
use Rattle.ak_base.specs.Columns.{id_fault, code_fault}
use Rattle.ak_base.specs.Heads.{IsConfInRange, IsWithin, is_tag_name}
use Rattle.ak_base.specs.Limits.{last_id, last_stamp}
use Rattle.ak_base.specs.Rows.{IsChecked}
use Rattle.ak_base.specs.declared.rows.Row.{Row}
use Rattle.ak_merge.specs.Commits.{Settings}
use Rattle.ak_merge.specs.Tags.{IsTagName}
use Rattle.ak_messages.specs.declared.replies.Give.TheVariants as gives
use Rattle.ak_messages.specs.declared.requests.Changes.{Changes}
use Rattle.ak_messages.specs.declared.requests.Chunk.{Chunk}
use Rattle.ak_messages.specs.declared.requests.GraveIds.{GraveIds}
use Rattle.ak_messages.specs.declared.requests.Newer.{Newer}
use Rattle.ak_session.proofs.Ranges.{all_append, all_front, all_mapped, all_pass, all_rest, passed, settings_fit, tag_named, within}
use Rattle.ak_session.specs.Messages.{change_rows, chunk_rows, grave_with, graves_from, settings_in}
use Rattle.ak_session.specs.Refusals.{are_changes_in_range, is_checked, is_conf_in_range, is_crt_in_range, is_id, is_newer_in_range}
use Rattle.ak_session.specs.Replies.{replied}
use Rattle.ak_sync_rows.specs.Takes.{MayBeTaken}

-- ---- graves
grave_passes : (kind id : ℤ) → IsWithin (pos 0) (pos 2) kind → is_id id ≡ true → IsChecked (grave_with kind id)
unfolding code_fault id_fault
grave_passes kind id kinds is =
    let fits : IsWithin (pos 1) last_id id = within (pos 1) last_id id is in
    let id_low : int_lt id (pos 1) ≡ false = grind (arith, ints, fits.low) in
    let id_high : int_lt last_id id ≡ false = grind (arith, ints, fits.high) in
    let low : int_lt kind (pos 0) ≡ false = grind (arith, ints, kinds.low) in
    let high : int_lt (pos 2) kind ≡ false = grind (arith, ints, kinds.high) in
    rw (id_low, id_high, low, high) refl

-- an id in its range
abbrev IsId : ℤ → Type 0
IsId id = is_id id ≡ true

of_kind : (kind : ℤ) → IsWithin (pos 0) (pos 2) kind → (ids : List ℤ) → AllByRecursion IsId ids → AllByRecursion IsChecked (map (grave_with kind) ids)
of_kind kind kinds ids own = all_mapped IsChecked IsId (grave_with kind) (λ id one. grave_passes kind id kinds one) ids own

pub graves_may : (ids : GraveIds) → list_all is_id (ids.cards ++ (ids.notes ++ ids.decks)) ≡ true → MayBeTaken (replied (gives.Graves ids))
graves_may ids is =
    let all : AllByRecursion IsId (ids.cards ++ (ids.notes ++ ids.decks)) = all_pass IsId is_id (λ id own. own) (ids.cards ++ (ids.notes ++ ids.decks)) is in
    let rest : AllByRecursion IsId (ids.notes ++ ids.decks) = all_rest IsId ids.cards (ids.notes ++ ids.decks) all in
    let notes : List Row = map (grave_with (pos 1)) ids.notes in
    let cards : List Row = map (grave_with (pos 0)) ids.cards in
    let decks : List Row = map (grave_with (pos 2)) ids.decks in
    record {
      rows = All-from_recursion IsChecked (graves_from ids)
          (all_append IsChecked notes (cards ++ decks)
          (of_kind (pos 1) (record { low = omega (arith, ints); high = omega (arith, ints) }) ids.notes (all_front IsId ids.notes ids.decks rest))
          (all_append IsChecked cards decks
          (of_kind (pos 0) (record { low = omega (arith, ints); high = omega (arith, ints) }) ids.cards (all_front IsId ids.cards (ids.notes ++ ids.decks) all))
          (of_kind (pos 2) (record { low = omega (arith, ints); high = omega (arith, ints) }) ids.decks (all_rest IsId ids.notes ids.decks rest))));
      tags = All-from_recursion IsTagName [] tt;
      conf = tt;
      crt = tt;
    }

-- ---- a chunk
pub chunk_may : (chunk : Chunk) → list_all is_checked (chunk_rows chunk) ≡ true → MayBeTaken (replied (gives.Chunk chunk))
chunk_may chunk is = record {
  rows = All-from_recursion IsChecked (chunk_rows chunk) (all_pass IsChecked is_checked passed (chunk_rows chunk) is);
  tags = All-from_recursion IsTagName [] tt;
  conf = tt;
  crt = tt;
}

-- ---- changes
newer_conf : (newer : Option Newer) → option_map_or is_newer_in_range newer true ≡ true
    → IfSome (option_map settings_in newer) (λ (s : Settings). IsConfInRange s.conf)
newer_conf None is = tt
newer_conf (Some newer) is = settings_fit newer.conf (first_so (is_conf_in_range newer.conf) (is_crt_in_range newer.crt) is)

newer_crt : (newer : Option Newer) → option_map_or is_newer_in_range newer true ≡ true
    → IfSome (option_map settings_in newer) (λ (s : Settings). IsWithin (pos 0) last_stamp s.crt)
newer_crt None is = tt
newer_crt (Some newer) is = within (pos 0) last_stamp newer.crt (second_so (is_conf_in_range newer.conf) (is_crt_in_range newer.crt) is)

pub changes_may : (changes : Changes) → are_changes_in_range changes ≡ true → MayBeTaken (replied (gives.Changes changes))
changes_may changes is =
    let rows : Bool = list_all is_checked (change_rows changes) in
    let tags : Bool = list_all is_tag_name changes.tags in
    let newer : Bool = option_map_or is_newer_in_range changes.newer true in
    let two : (rows && tags) ≡ true = first_so (rows && tags) newer is in
    record {
      rows = All-from_recursion IsChecked (change_rows changes) (all_pass IsChecked is_checked passed (change_rows changes) (first_so rows tags two));
      tags = All-from_recursion IsTagName changes.tags (all_pass IsTagName is_tag_name tag_named changes.tags (second_so rows tags two));
      conf = newer_conf changes.newer (second_so (rows && tags) newer is);
      crt = newer_crt changes.newer (second_so (rows && tags) newer is);
    }
