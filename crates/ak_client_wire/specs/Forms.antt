-- The forms of what is given: what a device takes from a reply with status 200.
use Rattle.std.specs.Prelude.{ℤ, pos, ◌&&◌, ◌||◌, Bool, true, not, is_some, nat_le, nat_lt, if◌then◌else◌, ◌++◌, Option, Some, None, option_and_then}
use Rattle.std.specs.List.{list_all}
use Rattle.std.specs.Option.{option_map_or}
use Rattle.ak_base.specs.Heads.{is_within}
use Rattle.ak_base.specs.Limits.{last_head_usn, last_moment}
use Rattle.ak_client_wire.specs.declared.wires.MetaSaid.{MetaSaid}
use Rattle.ak_merge.specs.Soundness.{fault_id}
use Rattle.ak_messages.specs.MessageForms.{chunk_entries}
use Rattle.ak_messages.specs.declared.replies.Give.{Give}
use Rattle.ak_messages.specs.declared.replies.Give.TheVariants as gives
use Rattle.ak_messages.specs.declared.replies.MetaReply.{MetaReply}
use Rattle.ak_messages.specs.declared.replies.SanityReply.{SanityReply}
use Rattle.ak_messages.specs.declared.requests.Changes.{Changes}
use Rattle.ak_messages.specs.declared.requests.Chunk.{Chunk}
use Rattle.ak_messages.specs.declared.requests.GraveIds.{GraveIds}
use Rattle.ak_session.specs.Answers.{same_counts}
use Rattle.ak_session.specs.Messages.{chunk_rows}
use Rattle.ak_session.specs.Refusals.{is_checked, is_id, are_changes_in_range}

-- a moment in milliseconds
abbrev pub is_moment : ℤ → Bool
is_moment = is_within (pos 0) last_moment

-- ---- a meta
-- both moments and the usn of a meta are in the ranges of a head
abbrev pub is_meta_in_range : MetaReply → Bool
is_meta_in_range meta = is_moment meta.scm && is_moment meta.moment && is_within (pos 0) last_head_usn meta.usn

-- what a meta says of the server
abbrev pub meta_told : MetaReply → MetaSaid
meta_told meta =
    record { cont = meta.cont; ts = meta.ts; moment = meta.moment; scm = meta.scm; usn = meta.usn }

-- what the reply to a meta gives
abbrev pub meta_in : Give → Option MetaSaid
meta_in (gives.Meta meta) = if is_meta_in_range meta then Some (meta_told meta) else None
meta_in give = None

-- ---- what a session is given
-- the ids of graves, each in its range. The graves that a start is given may be any number
abbrev pub graves_in : Give → Option GraveIds
graves_in (gives.Graves ids) = if list_all is_id (ids.cards ++ (ids.notes ++ ids.decks)) then Some ids else None
graves_in give = None

-- nothing: what graves and a chunk that came are given
abbrev pub nothing_in : Give → Option (Unit {0})
nothing_in gives.Nothing = Some tt
nothing_in give = None

-- changes, all of which are in their ranges
abbrev pub changes_in : Give → Option Changes
changes_in (gives.Changes changes) = if are_changes_in_range changes then Some changes else None
changes_in give = None

-- a chunk has at most 250 rows, each passes its check, and one without a row is the last one
abbrev pub is_chunk_in_form : Chunk → Bool
is_chunk_in_form chunk =
    nat_le (chunk_entries chunk) 250
    && (list_all is_checked (chunk_rows chunk) && (chunk.done || nat_lt 0 (chunk_entries chunk)))

-- a chunk of this form
abbrev pub chunk_in : Give → Option Chunk
chunk_in (gives.Chunk chunk) = if is_chunk_in_form chunk then Some chunk else None
chunk_in give = None

-- ---- a sanity check
-- the reply to a sanity check: a fault, if it has one, names an id of a row
abbrev pub sanity_in : Give → Option SanityReply
sanity_in (gives.Sanity reply) =
    if option_map_or (λ fault. is_id (fault_id fault)) reply.fault true then Some reply else None
sanity_in give = None

-- it is good, or shows a fault or two counts that differ
abbrev pub shows_cause : SanityReply → Bool
shows_cause reply = reply.good || (is_some reply.fault || not (same_counts reply.client reply.server))

-- the reply to a sanity check, if a bad one shows why
abbrev pub verdict_in : Give → Option SanityReply
verdict_in give =
    option_and_then (λ (reply : SanityReply). if shows_cause reply then Some reply else None) (sanity_in give)

-- ---- a finish
-- the new moment
abbrev pub moment_in : Give → Option ℤ
moment_in (gives.Moment moment) = if is_moment moment then Some moment else None
moment_in give = None
