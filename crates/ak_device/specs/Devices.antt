-- What a device holds while it syncs, and what it sends.
use Rattle.std.specs.FinMap.{get}
use Rattle.std.specs.Int.{int_min}
use Rattle.std.specs.Option.{option_map}
use Rattle.std.specs.Prelude.{◌≡◌, ℤ, false, int_lt, if◌then◌else◌, List, Option, Some, None}
use Rattle.ak_base.specs.Limits.{last_moment}
use Rattle.ak_base.specs.declared.heads.Head.{Head}
use Rattle.ak_base.specs.declared.names.Name.{Name}
use Rattle.ak_base.specs.declared.rows.Row.{Row}
use Rattle.ak_keep.specs.Collections.{Rows, Holding}
use Rattle.ak_keep.specs.Keepers.{Keeping, changed}
use Rattle.ak_keep.specs.declared.keepers.Wanted.TheVariants.{Unsent}
use Rattle.ak_merge.specs.Commits.{Received, Settings, settings_of}
use Rattle.ak_merge.specs.Edits.{advanced}
use Rattle.ak_merge.specs.Exchanges.{settled, settled_tags, wanted_tags}
use Rattle.ak_merge.specs.Takings.{all_taken}
use Rattle.ak_messages.specs.MessageForms.{chunk_entries}
use Rattle.ak_messages.specs.declared.requests.Changes.{Changes}
use Rattle.ak_messages.specs.declared.requests.Chunk.{Chunk}
use Rattle.ak_sync_rows.specs.Chunks.{IsSlice, ahead_of}
use Rattle.ak_sync_rows.specs.Takes.{head_with}
use Rattle.ak_session.specs.Messages.{changes_of, chunk_of}
use Rattle.ak_session.specs.Slices.{wanted_changes}
use Rattle.ak_merge.specs.declared.sides.Side.TheVariants.{Device}

-- ---- what comes to a device
-- what a device holds once this came: each row, one after the other, is taken with the server's usn, and so are tags and settings
abbrev pub received : ℤ → Received → Holding → Holding
received usn came h = record { rows = all_taken Device usn came.rows h.rows; head = option_map (head_with usn came) h.head }

-- ---- what a device sends
-- the settings of a head that was changed after this moment
abbrev pub settings_since : ℤ → Head → Option Settings
settings_since moment head = if int_lt moment head.moment then Some (settings_of head) else None

-- the changes of these rows, with the tags of a head that were not sent yet, and its settings if it was changed after this moment
abbrev pub changes_from : ℤ → List Row → Head → Changes
changes_from moment rows head =
    changes_of (record { rows = rows; tags = wanted_tags Unsent head.tags; settings = settings_since moment head })

-- a device's changes, over a server that was changed last at this moment: its note types, decks, options and tags that were not sent
-- yet, and its settings if it was changed last
abbrev pub changes_to_send : ℤ → Rows → Head → Changes
changes_to_send moment rows = changes_from moment (wanted_changes Unsent rows)

-- the next chunk that a device sends, from one place to the next: a slice of its reviews, cards and notes that were not sent yet
pub record IsNextToSend (rows : Rows) (from : Name) (chunk : Chunk) (next : Name) : Type 0 where
  pub part : List Row
  pub slice : IsSlice (ahead_of Unsent from rows) part (ahead_of Unsent next rows)
  pub chunk_is : chunk ≡ chunk_of part

-- a chunk that is not the last one has 250 rows
abbrev pub IsFullIfMore : Chunk → Type 0
IsFullIfMore chunk = chunk.done ≡ false → chunk_entries chunk ≡ 250

-- ---- what was sent is settled
-- each row and each tag that was not sent yet has this usn, and the rest is as it was
pub record IsSettledTo (usn : ℤ) (before after : Holding) : Type 0 where
  pub rows : (name : Name) → get after.rows name ≡ option_map (settled usn) (get before.rows name)
  pub head : after.head ≡ option_map (λ (head : Head). record head { tags = settled_tags usn head.tags }) before.head

-- ---- after a bad sanity check
-- a moment that is advanced: the greater of this one and the moment after the old one. The last moment stays
abbrev pub advanced_moment : ℤ → ℤ → ℤ
advanced_moment at old = int_min (advanced at old) last_moment

-- the collection that is told has both moments raised, and all else stays
abbrev pub moments_raised : ℤ → Holding → Holding
moments_raised at h =
    record h { head = option_map (λ (head : Head). record head { moment = advanced_moment at head.moment; schema = advanced_moment at head.schema }) h.head }

-- a keeper whose collection has both moments advanced_moment at this moment
abbrev pub RaisesMoments : ℤ → Keeping → Keeping → Type 0
RaisesMoments at before now = now ≡ changed (moments_raised at) before
