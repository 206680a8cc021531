-- The reply to a commit has its status and its form.
use Rattle.std.specs.Prelude.{◌≡◌, ℤ, pos, Bool, true, if◌then◌else◌, is_some, Some, None}
use Rattle.std.proofs.Common.{refl, ap, ◌∙◌, inl, inr}
use Rattle.ak_base.specs.Heads.{IsHeadInRange}
use Rattle.ak_base.specs.Limits.{last_moment}
use Rattle.ak_base.specs.declared.heads.Head.{Head}
use Rattle.ak_client_wire.specs.Forms.{is_moment, moment_in}
use Rattle.ak_lab_joins.proofs.TriesTold.{QuietOrBoth, shows_commit}
use Rattle.ak_lab_joins.proofs.Worlds.{StaysQuiet}
use Rattle.ak_messages.specs.declared.replies.Give.TheVariants as gives
use Rattle.ak_messages.specs.declared.replies.Reply.{Reply}
use Rattle.ak_messages.specs.declared.requests.Ask.{Ask}
use Rattle.ak_messages.specs.declared.requests.Ask.TheVariants as asks
use Rattle.ak_protocol.proofs.Commits.{not_both}
use Rattle.ak_protocol.proofs.Replies.{commit_is_granted}
use Rattle.ak_protocol.specs.Logs.{World}
use Rattle.ak_protocol.specs.Serving.{commit_reply}
use Rattle.ak_session.proofs.Accepting.{between}
use Rattle.ak_session.specs.Requests.{asks_commit}
use Rattle.ak_transfers.specs.Forms.{uploaded_in}

moment_shown : (moment : ℤ) → is_moment moment ≡ true → is_some (moment_in (gives.Moment moment)) ≡ true
moment_shown moment is = ap (λ (b : Bool). is_some (if b then Some moment else None)) is

both_shown : (moment schema : ℤ) → is_moment moment ≡ true → is_moment schema ≡ true → is_some (uploaded_in (gives.Uploaded moment schema)) ≡ true
both_shown moment schema one other = rw (one, other) refl

-- a head in its ranges is shown by the reply to the commit of it
commit_shown : (ask : Ask) (head : Head) → asks_commit ask ≡ true → IsHeadInRange head → shows_commit ask (commit_reply ask head).give ≡ true
commit_shown asks.Finish head commits own = moment_shown head.moment (between (pos 0) last_moment head.moment own.moment)
commit_shown (asks.Upload whole) head commits own =
    both_shown head.moment head.schema (between (pos 0) last_moment head.moment own.moment) (between (pos 0) last_moment head.schema own.schema)
commit_shown asks.Meta head commits own = absurd (not_both commits refl)
commit_shown (asks.Start min_usn lmod) head commits own = absurd (not_both commits refl)
commit_shown (asks.ApplyGraves ids) head commits own = absurd (not_both commits refl)
commit_shown (asks.ApplyChanges changes) head commits own = absurd (not_both commits refl)
commit_shown asks.Chunk head commits own = absurd (not_both commits refl)
commit_shown (asks.ApplyChunk chunk) head commits own = absurd (not_both commits refl)
commit_shown (asks.SanityCheck2 counts) head commits own = absurd (not_both commits refl)
commit_shown asks.Download head commits own = absurd (not_both commits refl)

-- so no such reply grants none
pub only_quiet : (before after : World) → IsHeadInRange after.state.committed.head → QuietOrBoth before after → StaysQuiet before after
only_quiet before after own (inl quiet) = quiet
only_quiet before after own (inr (ask, reply, commits, inl other, is)) =
    absurd (other (ap (λ (r : Reply). r.status) is ∙ commit_is_granted ask after.state.committed.head))
only_quiet before after own (inr (ask, reply, commits, inr wrong, is)) =
    absurd (not_both (ap (λ (r : Reply). shows_commit ask r.give) is ∙ commit_shown ask after.state.committed.head commits own) wrong)
