-- The keys by which cards are found: by their notes, and by the queues that they wait in.
use Rattle.std.specs.Prelude.{◌≡◌, Bool, true, false, ◌&&◌, Option, Some, None}
use Rattle.std.specs.Option.{option_and_then}
use Rattle.std.specs.Ordering.{int_eq}
use Rattle.ak_base.specs.declared.names.Name.{Name}
use Rattle.ak_base.specs.declared.rows.Row.{Row}
use Rattle.ak_memory.specs.FoundBy.{found_by}
use Rattle.ak_memory.specs.NoteKeys.{NoteKey, has_key}
use Rattle.ak_memory.specs.QueueKeys.{QueueKey, has_queue_key}
use Rattle.ak_memory.specs.declared.card_keys.CardKeys.{CardKeys}
use Rattle.ak_memory.specs.declared.held_rows.FoundBy.{FoundBy}

-- the key of a card of this name by its note
abbrev pub note_key : FoundBy → Name → NoteKey
note_key card name = (card.note, Some name)

-- its key by the queue that it waits in
abbrev pub queue_key : FoundBy → Name → QueueKey
queue_key card name = (card.queue, Some (card.due, name))

-- whether there is a card, and it is of the same note
abbrev pub shares_note : Option FoundBy → FoundBy → Bool
shares_note None card = false
shares_note (Some other) card = int_eq other.note card.note

-- whether there is a card, and it waits at the same place of the same queue
abbrev pub shares_place : Option FoundBy → FoundBy → Bool
shares_place None card = false
shares_place (Some other) card = int_eq other.queue card.queue && int_eq other.due card.due

-- a card of this name has both keys
pub record HasKeys (keys : CardKeys) (card : FoundBy) (name : Name) : Type 0 where
  pub note : has_key keys.notes.keys (note_key card name) ≡ true
  pub queue : has_queue_key keys.queues.keys (queue_key card name) ≡ true

-- each card among these rows has its keys; there may be other keys
abbrev pub HaveKeys : CardKeys → (Name → Option Row) → Type 0
HaveKeys keys rows = (name : Name) (card : FoundBy) → option_and_then found_by (rows name) ≡ Some card → HasKeys keys card name

-- each key that was there is still there
pub record KeepsKeys (old new : CardKeys) : Type 0 where
  pub notes : (key : NoteKey) → has_key old.notes.keys key ≡ true → has_key new.notes.keys key ≡ true
  pub queues : (key : QueueKey) → has_queue_key old.queues.keys key ≡ true → has_queue_key new.queues.keys key ≡ true

-- each key of a card is gone, unless one of these two cards of its name has the same
pub record AreForgotten (keys : CardKeys) (now mark : Option FoundBy) (was : FoundBy) (name : Name) : Type 0 where
  pub note : shares_note now was ≡ false → shares_note mark was ≡ false → has_key keys.notes.keys (note_key was name) ≡ false
  pub queue : shares_place now was ≡ false → shares_place mark was ≡ false → has_queue_key keys.queues.keys (queue_key was name) ≡ false
