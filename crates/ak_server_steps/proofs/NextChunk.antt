-- The next chunk of a session, from the rows that were read.
use Rattle.std.specs.Prelude.{◌≡◌, List}
use Rattle.std.proofs.Common.{sym, ap, subst, ◌∙◌}
use Rattle.ak_base.specs.declared.names.Name.{Name}
use Rattle.ak_base.specs.declared.rows.Row.{Row}
use Rattle.ak_keep.specs.Collections.{Rows}
use Rattle.ak_keep.specs.declared.keepers.Wanted.TheVariants.{From}
use Rattle.ak_server_rules.specs.declared.sessions.Session.{Session}
use Rattle.ak_messages.specs.declared.replies.Give.TheVariants as gives
use Rattle.ak_messages.specs.declared.requests.Chunk.{Chunk}
use Rattle.ak_sync_rows.specs.Chunks.{IsSlice, ahead_of}
use Rattle.ak_session.specs.Messages.{chunk_of}
use Rattle.ak_server_steps.specs.Answers.{IsNextChunk}
use Rattle.ak_server_steps.specs.declared.answers.Answered.{Answered}

-- a chunk of a slice is the next one
pub next_chunk : (rows : Rows) (live : Session) (part : List Row) (chunk : Chunk) (given : Name) (it : Answered) → chunk ≡ chunk_of part
    → it ≡ record { give = gives.Chunk chunk; done = chunk.done; given = given }
    → IsSlice (ahead_of (From live.least_usn) live.given rows) part (ahead_of (From live.least_usn) given rows)
    → IsNextChunk rows live it
next_chunk rows live part chunk given it is so slice = record {
  part = part;
  slice = subst (λ (place : Name). IsSlice (ahead_of (From live.least_usn) live.given rows) part (ahead_of (From live.least_usn) place rows)) (sym (ap (λ (a : Answered). a.given) so)) slice;
  give = ap (λ (a : Answered). a.give) so ∙ ap (λ (c : Chunk). gives.Chunk c) is;
  done = ap (λ (a : Answered). a.done) so ∙ ap (λ (c : Chunk). c.done) is;
}
