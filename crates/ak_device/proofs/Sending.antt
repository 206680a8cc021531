-- What a device sends is what it held.
use Rattle.std.specs.List.{filter_map}
use Rattle.std.specs.Option.{option_map}
use Rattle.std.specs.Prelude.{◌≡◌, ℕ, ℤ, ◌-◌, ◌≤◌, false, nat_lt, min, List, [], ◌∷◌, length, take, drop, Option, Some, None, IfSome}
use Rattle.std.proofs.Common.{refl, sym, ap, subst, ◌∙◌, arith}
use Rattle.std.proofs.lemmas.List.{length-drop, take_min}
use Rattle.ak_base.proofs.Burials.{grave_table_by}
use Rattle.ak_base.specs.declared.decks.Deck.{Deck}
use Rattle.ak_base.specs.declared.heads.Head.{Head}
use Rattle.ak_base.specs.declared.note_types.NoteType.{NoteType}
use Rattle.ak_base.specs.declared.names.Table.{Table}
use Rattle.ak_base.specs.declared.option_groups.Options.{Options}
use Rattle.ak_base.specs.declared.rows.Row.{Row}
use Rattle.ak_base.specs.declared.rows.Row.TheVariants as rows
use Rattle.ak_device.specs.Devices.{IsFullIfMore, changes_from, changes_to_send, settings_since}
use Rattle.ak_keep.specs.Collections.{Holding}
use Rattle.ak_keep.specs.Keepers.{Keeping, WhereTold}
use Rattle.ak_keep.specs.Lookups.{as_note_type, as_deck, as_options}
use Rattle.ak_keep.specs.Marks.{WithMark}
use Rattle.ak_keep.specs.declared.keepers.Wanted.TheVariants.{Unsent}
use Rattle.ak_merge.specs.Exchanges.{wanted_tags}
use Rattle.ak_messages.specs.MessageForms.{chunk_entries}
use Rattle.ak_messages.specs.declared.requests.Changes.{Changes}
use Rattle.ak_messages.specs.declared.requests.Chunk.{Chunk}
use Rattle.ak_messages.specs.declared.requests.Newer.{Newer}
use Rattle.ak_sync_rows.specs.Chunks.{AreChunked, is_chunked}
use Rattle.ak_session.proofs.Ranges.{not_both}
use Rattle.ak_session.specs.Messages.{chunk_of, newer_of}
use Rattle.ak_session.specs.Slices.{wanted_changes}

-- the rows from a place on, at most 250, are the slice there
pub part_is : {X : Type 0} (from most : ℕ) (list : List X) → most ≡ min (length list - from) 250 → take most (drop from list) ≡ take 250 (drop from list)
part_is {X = X} from most list is =
    ap (λ (n : ℕ). take n (drop from list)) (is ∙ flip (length list - from) (length (drop from list)) (sym (length-drop from list)))
    ∙ take_min 250 (drop from list)
  where
    flip : (a b : ℕ) → a ≡ b → min a 250 ≡ min 250 b
    flip a b same = grind (arith, same)

-- ---- changes
abbrev parts_of : List NoteType → List Deck → List Options → List (List ℕ) → Option Newer → Changes
parts_of models decks options tags newer = record { models = models; decks = decks; options = options; tags = tags; newer = newer }

-- changes of these parts are the changes of the rows and the head
pub changes_are : (moment : ℤ) (rows : List Row) (head : Head) (models : List NoteType) (decks : List Deck) (options : List Options)
    (tags : List (List ℕ)) (newer : Option Newer) → models ≡ filter_map as_note_type rows → decks ≡ filter_map as_deck rows
    → options ≡ filter_map as_options rows → tags ≡ wanted_tags Unsent head.tags → newer ≡ option_map newer_of (settings_since moment head)
    → parts_of models decks options tags newer ≡ changes_from moment rows head
changes_are moment rows head models decks options tags newer m d o t n =
    ap (λ (x : List NoteType). parts_of x decks options tags newer) m
    ∙ ap (λ (x : List Deck). parts_of (filter_map as_note_type rows) x options tags newer) d
    ∙ ap (λ (x : List Options). parts_of (filter_map as_note_type rows) (filter_map as_deck rows) x tags newer) o
    ∙ ap (λ (x : List (List ℕ)). parts_of (filter_map as_note_type rows) (filter_map as_deck rows) (filter_map as_options rows) x newer) t
    ∙ ap (parts_of (filter_map as_note_type rows) (filter_map as_deck rows) (filter_map as_options rows) (wanted_tags Unsent head.tags)) n

changes_held : (moment : ℤ) (head : Head) (rows : List Row) (made : Changes) (t : Option (WithMark Holding))
    → IfSome t (λ w. w.current.head ≡ Some head) → IfSome t (λ w. rows ≡ wanted_changes Unsent w.current.rows)
    → made ≡ changes_from moment rows head
    → IfSome t (λ w. IfSome w.current.head (λ own. made ≡ changes_to_send moment w.current.rows own))
changes_held moment head rows made None is list so = tt
changes_held moment head rows made (Some w) is list so =
    subst (λ (o : Option Head). IfSome o (λ own. made ≡ changes_to_send moment w.current.rows own)) (sym is)
    (so ∙ ap (λ (l : List Row). changes_from moment l head) list)

-- the head that was read, and then the rows
pub changes_told : (moment : ℤ) (head : Head) (rows : List Row) (made : Changes) (k0 k1 : Keeping) → k1 ≡ k0
    → WhereTold k0 (λ h. h.head ≡ Some head) → WhereTold k1 (λ h. rows ≡ wanted_changes Unsent h.rows) → made ≡ changes_from moment rows head
    → WhereTold k0 (λ h. IfSome h.head (λ own. made ≡ changes_to_send moment h.rows own))
changes_told moment head rows made k0 k1 same is list so =
    changes_held moment head rows made k0.told is
    (subst (λ (k : Keeping). WhereTold k (λ h. rows ≡ wanted_changes Unsent h.rows)) same list) so

-- ---- chunks
-- the chunk of rows that go in chunks has each of them
entries_are : (list : List Row) → AreChunked list → chunk_entries (chunk_of list) ≡ length list
entries_are [] all = refl
entries_are (rows.Review r ∷ more) all = let rest = entries_are more all.1 in omega (arith, rest)
entries_are (rows.Card c ∷ more) all = let rest = entries_are more all.1 in omega (arith, rest)
entries_are (rows.Note n ∷ more) all = let rest = entries_are more all.1 in omega (arith, rest)
entries_are (rows.NoteType t ∷ more) all = absurd (not_both all.0 refl)
entries_are (rows.Deck d ∷ more) all = absurd (not_both all.0 refl)
entries_are (rows.Options o ∷ more) all = absurd (not_both all.0 refl)
entries_are (rows.Grave g ∷ more) all =
    absurd (not_both all.0 (grave_table_by (λ (table : Table). is_chunked table ≡ false) refl refl refl g.kind))

-- at most 250 rows that go in chunks: their chunk has 250 if it is not the last one
pub full_if_more : (list : List Row) (chunk : Chunk) → chunk ≡ chunk_of list → length list ≤ 250 → AreChunked list → IsFullIfMore chunk
full_if_more list chunk is short all unfinished =
    let long : nat_lt (length list) 250 ≡ false = sym (ap (λ (x : Chunk). x.done) is) ∙ unfinished in
    let full : length list ≡ 250 = grind (arith, short, long) in
    ap chunk_entries is ∙ entries_are list all ∙ full
