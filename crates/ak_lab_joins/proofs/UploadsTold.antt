-- The outcome of an upload tells whether the server committed in it.
use Rattle.std.specs.List.{AllByRecursion}
use Rattle.std.specs.Prelude.{◌≡◌, ◌≢◌, ◌⊎◌, ◌==◌, ◌+ℤ◌, ℕ, suc, ℤ, pos, Bool, true, false, if◌then◌else◌, is_some, List, [], ◌∷◌, Option, Some, None, Result, Ok, Err, ok_or}
use Rattle.std.proofs.Common.{refl, sym, ap, subst, ◌∙◌, inl, inr, arith}
use Rattle.ak_call_counts.specs.CallCounts.{no_calls}
use Rattle.ak_client.specs.Greetings.{clock_stop}
use Rattle.ak_client.specs.declared.outcomes.Outcome.{Outcome}
use Rattle.ak_client.specs.declared.outcomes.Outcome.TheVariants as outcomes
use Rattle.ak_client_wire.specs.Tries.{granted_in, in_form}
use Rattle.ak_client_wire.specs.Wires.{WireKind, WireState}
use Rattle.ak_client_wire.specs.declared.asks.Unanswered.{Unanswered}
use Rattle.ak_client_wire.specs.declared.asks.Unanswered.TheVariants as unanswered
use Rattle.ak_client_wire.specs.declared.wires.MetaSaid.{MetaSaid}
use Rattle.ak_client_wire.specs.declared.wires.WireEnd.{WireEnd}
use Rattle.ak_client_wire.specs.declared.wires.WireEnd.TheVariants as ends
use Rattle.ak_exchange.specs.Asked.{AreTried, TriedAsk, answers_in, asker}
use Rattle.ak_exchange.specs.declared.envelopes.Ids.{Ids}
use Rattle.ak_faults.specs.Causes.{one_more}
use Rattle.ak_keep.specs.Keepers.{Keeping}
use Rattle.ak_lab.specs.LabStates.{LabState}
use Rattle.ak_lab.specs.LabSyncs.{server_met, with_fails}
use Rattle.ak_lab_devices.specs.Devices.{given_outside, keeping_of}
use Rattle.ak_lab_joins.proofs.Alone.{EndsAlone}
use Rattle.ak_lab_joins.proofs.CommitsShown.{only_quiet}
use Rattle.ak_lab_joins.proofs.Here as here
use Rattle.ak_lab_joins.proofs.Transferred as transferred
use Rattle.ak_lab_joins.proofs.TriesTold.{IsMild, QuietOrBoth, ShowsNone, StandsIdle, session_goes}
use Rattle.ak_lab_joins.proofs.Worlds.{StaysQuiet}
use Rattle.ak_lab_joins.specs.LabJoins.{HasSession, IsLinkedDevice, IsLinkedLab, IsLinkedServer, KeepsCommitted, lab_world, world_in}
use Rattle.ak_lab_lines.specs.declared.lab_lines.Direction.TheVariants as directions
use Rattle.ak_lab_wires.specs.CrossedSyncs.{CrossesAt, crosses_nothing}
use Rattle.ak_lab_wires.specs.LabSessions.{before_calls, sent_by}
use Rattle.ak_lab_wires.specs.declared.lab_sessions.SessionKind.{SessionKind}
use Rattle.ak_lab_wires.specs.declared.lab_sessions.SessionKind.TheVariants as kinds
use Rattle.ak_merge.specs.Edits.{second_of}
use Rattle.ak_messages.specs.declared.replies.Reply.{Reply}
use Rattle.ak_messages.specs.declared.requests.Ask.{Ask}
use Rattle.ak_messages.specs.declared.requests.Ask.TheVariants as asks
use Rattle.ak_protocol.specs.Accounts.{AccountState}
use Rattle.ak_sync_in_memory.specs.Entries.{LoggedState}
use Rattle.ak_sync_in_memory.specs.LoopWires.{health_over, inside_with, loop_kind, state_of_loop}
use Rattle.ak_transfers.specs.Forms.{uploaded_in}
use Rattle.ak_transfers.specs.Greetings.{Line, TransferOutside}
use Rattle.ak_transfers.specs.Transfers.{AsksNothing, AsksOnce, Continues, Follows, IsTransfer, MayAsk, TransferEnds, upload_errand}
use Rattle.ak_transfers.specs.declared.asks.UploadMoments.{UploadMoments}

-- ---- what an upload tried
-- these were tried after a meta, one after the other, and all of them are mild
record TriesMild {kind : WireKind} (ids : Ids) (was now : Line kind) : Type 0 where
  pub moment : ℤ
  pub meta : Result Reply WireEnd
  pub tries : List TriedAsk
  pub tried : AreTried (sent_by ids moment tries) (meta ∷ answers_in tries) was.health now.health was.wire now.wire
  pub mild : AllByRecursion (IsMild []) tries

module _ {kind : WireKind} (k k' : Keeping) (ids : Ids) (asked : List Ask) (was now : TransferOutside kind) (outcome : Outcome)
    (transfer : IsTransfer (upload_errand true k k') ids asked was now outcome) (other : outcome ≢ outcomes.Finished) (unkept : outcome ≢ outcomes.Keep)
    (unlost : outcome ≢ outcomes.Lost) where
  abbrev met : Line kind
  met = transfer.met

  -- nothing was tried after the meta
  nothing_more : AsksNothing asked met now.line → TriesMild ids was.line now.line
  nothing_more nothing = subst (TriesMild ids was.line) (sym nothing.same) (record {
    moment = pos 0;
    meta = transfer.meta.answer;
    tries = [];
    tried = (met.health, met.wire, transfer.meta.tried, (refl, refl));
    mild = tt;
  })

  -- what came was not what ends it well
  never_ends : (ask : Ask) (given : UploadMoments) → TransferEnds (upload_errand true k k') ask (Ok given) outcome → ⊥
  never_ends ask given (inl (whole, is, finished, put)) = other finished
  never_ends ask given (inr (inl kept)) = unkept kept
  never_ends ask given (inr (inr (memory, spared))) = grind (arith, spared)

  module _ (moment : ℤ) (once : AsksOnce (upload_errand true k k') ids moment asked met now.line outcome) where
    ends_as : (a : Result Reply WireEnd) → once.heard.answer ≡ a → TransferEnds (upload_errand true k k') once.ask (in_form uploaded_in (granted_in a)) outcome
    ends_as a is =
        subst (λ (r : Result UploadMoments Unanswered). TransferEnds (upload_errand true k k') once.ask r outcome)
        (once.heard.came ∙ ap (λ (x : Result Reply WireEnd). in_form uploaded_in (granted_in x)) is) once.ends

    -- a reply with status 200 has not the form of what an upload is given
    granted_none : (reply : Reply) → TransferEnds (upload_errand true k k') once.ask (ok_or (uploaded_in reply.give) unanswered.BadReply) outcome
        → is_some (uploaded_in reply.give) ≡ false
    granted_none reply = by (uploaded_in reply.give)
      where
        by : (found : Option UploadMoments) → TransferEnds (upload_errand true k k') once.ask (ok_or found unanswered.BadReply) outcome → is_some found ≡ false
        by None so = refl
        by (Some given) so = absurd (never_ends once.ask given so)

    reply_none : (reply : Reply) → TransferEnds (upload_errand true k k') once.ask (in_form uploaded_in (granted_in (Ok reply))) outcome
        → (reply.status ≢ 200) ⊎ (is_some (uploaded_in reply.give) ≡ false)
    reply_none reply = by (reply.status == 200) refl
      where
        by : (ok : Bool) → (reply.status == 200) ≡ ok
            → TransferEnds (upload_errand true k k') once.ask
            (in_form uploaded_in (if ok then Ok reply.give else Err (unanswered.Refused reply.status reply.word reply.seen))) outcome
            → (reply.status ≢ 200) ⊎ (is_some (uploaded_in reply.give) ≡ false)
        by true is so = inr (granted_none reply so)
        by false is so = inl (λ same. grind (arith, same, is))

    mild_by : (a : Result Reply WireEnd) → once.heard.answer ≡ a → ShowsNone [] (asks.Upload once.may.whole) a
    mild_by (Ok reply) is = (reply_none reply (ends_as (Ok reply) is), inl refl)
    mild_by (Err ends.Failed) is = absurd (unlost (ends_as (Err ends.Failed) is))
    mild_by (Err ends.BadReply) is = tt
    mild_by (Err ends.Memory) is = refl

    once_more : TriesMild ids was.line now.line
    once_more = record {
      moment = moment;
      meta = transfer.meta.answer;
      tries = record { ask = once.ask; answer = once.heard.answer } ∷ [];
      tried = (met.health, met.wire, transfer.meta.tried, (now.line.health, now.line.wire, once.heard.tried, (refl, refl)));
      mild = (inr (subst (λ (ask : Ask). ShowsNone [] ask once.heard.answer) (sym once.may.is) (mild_by once.heard.answer refl)), tt);
    }

  may_more : (moment : ℤ) → MayAsk (upload_errand true k k') ids moment asked met now.line outcome → TriesMild ids was.line now.line
  may_more moment (inl nothing) = nothing_more nothing.0
  may_more moment (inr once) = once_more moment once

  continued : (said : MetaSaid) (why : Option Outcome) → Continues (upload_errand true k k') ids said why asked met now.line outcome → TriesMild ids was.line now.line
  continued said (Some why) goes = nothing_more goes.0
  continued said None goes = may_more said.moment goes

  followed : (answer : Result MetaSaid Unanswered) → Follows (upload_errand true k k') ids answer asked (record was { line = met }) now outcome
      → TriesMild ids was.line now.line
  followed (Err why) goes = nothing_more goes.0
  followed (Ok said) (at, given, goes) = continued said (clock_stop said (second_of at)) goes

  tries_mild : TriesMild ids was.line now.line
  tries_mild = followed transfer.answer transfer.follows

-- ---- an upload
module _ (account : AccountState) (name : List ℕ) (s t : LabState) (outcome : Outcome) (linked : IsLinkedLab account s) (room : HasSession s)
    (ends_so : EndsAlone (kinds.Transfer directions.Upload) name s t outcome) where
  abbrev kind : SessionKind
  kind = kinds.Transfer directions.Upload

  server_here : IsLinkedServer ends_so.session.ids.host.digits account s.sessions (server_met kind s)
  server_here = here.server_here kind account name s t outcome linked ends_so

  abbrev device_here : IsLinkedDevice (world_in ends_so.session.ids.host.digits account s.server).state.committed ends_so.d
  device_here = here.device_here kind account name s t outcome linked ends_so

  server_now : IsLinkedServer ends_so.session.ids.host.digits account (one_more s.sessions) (with_fails ends_so.fails_left t.server)
  server_now =
      transferred.server_now directions.Upload account s.sessions s.clock (s.clock +ℤ ends_so.d.shift) ends_so.d ends_so.made (server_met kind s)
      (with_fails ends_so.fails_left t.server) outcome room ends_so.session server_here device_here

  abbrev first : WireState (loop_kind CrossesAt crosses_nothing)
  first = state_of_loop CrossesAt crosses_nothing (inside_with (server_met kind s) ends_so.session.was s.clock [] no_calls)

  abbrev last : WireState (loop_kind CrossesAt crosses_nothing)
  last = state_of_loop CrossesAt crosses_nothing ends_so.session.end

  stands : StandsIdle CrossesAt crosses_nothing account (asker ends_so.session.ids) [] first.inside
  stands = record {
    alone = ends_so.session.alone;
    opens = (server_here.unused (suc s.sessions) (omega arith)).opening;
    same = refl;
    clear = inl refl;
  }

  pub upload_commits_nothing : outcome ≢ outcomes.Finished → KeepsCommitted (lab_world account s) (lab_world account t)
  upload_commits_nothing other = (quiet.committed, quiet.commits)
    where
      tries : TriesMild ends_so.session.ids (record { health = health_over no_calls []; wire = first }) (record { health = ends_so.session.health; wire = last })
      tries =
          tries_mild (keeping_of ends_so.d) (keeping_of ends_so.made) ends_so.session.ids ends_so.session.ended.asked
          (before_calls CrossesAt crosses_nothing (server_met kind s) ends_so.session.was s.clock [] ((s.clock +ℤ ends_so.d.shift) ∷ []))
          (given_outside ends_so.session.health last ends_so.session.to_come) outcome ends_so.session.ended.transfer other (ends_so.session.unfailed refl)
          (ends_so.session.unlost refl)

      both : QuietOrBoth (world_in ends_so.session.ids.host.digits account s.server) (world_in ends_so.session.ids.host.digits account ends_so.session.end.server)
      both =
          session_goes CrossesAt crosses_nothing account (asker ends_so.session.ids) [] ends_so.session.ids tries.moment tries.meta tries.tries
          (health_over no_calls []) ends_so.session.health first last refl stands tries.mild tries.tried

      here_quiet : StaysQuiet (world_in ends_so.session.ids.host.digits account s.server) (world_in ends_so.session.ids.host.digits account t.server)
      here_quiet =
          only_quiet (world_in ends_so.session.ids.host.digits account s.server) (world_in ends_so.session.ids.host.digits account t.server) server_now.lawful.committed.head
          (subst (λ (z : LoggedState). QuietOrBoth (world_in ends_so.session.ids.host.digits account s.server) (world_in ends_so.session.ids.host.digits account z))
          ends_so.session.server both)

      quiet : StaysQuiet (lab_world account s) (lab_world account t)
      quiet = subst (λ (h : List ℕ). StaysQuiet (world_in h account s.server) (world_in h account t.server)) ends_so.session.of.host here_quiet
