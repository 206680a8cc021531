-- Worked examples: what the machine makes of small logs. Each computes from any account whose committed collection has the moment 5 and the
-- number 12, whatever its rows are.
use Rattle.std.specs.Cmp.{signed_Decides, second_so}
use Rattle.std.specs.Cmp.Derive.{both_true}
use Rattle.std.specs.FinMap.{entries}
use Rattle.std.specs.Ordering.{int_eq}
use Rattle.std.specs.Prelude.{◌≡◌, ℕ, ℤ, Bool, pos, ◌<ℤ◌, false, true, if◌then◌else◌, List, [], ◌∷◌, Option, Some, None, ◌+◌, ◌≤◌, ◌<◌, ◌==◌, ◌&&◌, not, is_some, ◌++◌, nat_le, length, map}
use Rattle.std.proofs.Common.{refl, sym, ap, ◌∙◌, arith, inl, inr}
use Rattle.std.proofs.lemmas.Bool.{eq-eqb, le-leb, leb-true}
use Rattle.std.proofs.lemmas.Int.{ints}
use Rattle.ak_base.specs.declared.heads.Head.{Head}
use Rattle.ak_base.specs.declared.keys.HostKey.{HostKey}
use Rattle.ak_keep.specs.Collections.{Rows, Collection}
use Rattle.ak_merge.specs.Soundness.{first_fault}
use Rattle.ak_merge.specs.declared.checks.CheckFault.{CheckFault}
use Rattle.ak_session.specs.Answers.{counts_of, same_counts}
use Rattle.ak_messages.specs.declared.methods.Method.TheVariants as methods
use Rattle.ak_messages.specs.declared.replies.Give.TheVariants as gives
use Rattle.ak_messages.specs.declared.replies.Reply.{Reply}
use Rattle.ak_messages.specs.declared.replies.Word.{Word}
use Rattle.ak_messages.specs.declared.replies.Word.TheVariants as words
use Rattle.ak_messages.specs.declared.requests.Ask.{Ask}
use Rattle.ak_messages.specs.declared.requests.Ask.TheVariants as asks
use Rattle.ak_messages.specs.declared.requests.Changes.{Changes}
use Rattle.ak_messages.specs.declared.requests.Chunk.{Chunk}
use Rattle.ak_messages.specs.declared.requests.GraveIds.{GraveIds}
use Rattle.ak_messages.specs.declared.requests.Request.{Request}
use Rattle.ak_messages.specs.declared.requests.SanityCounts.{SanityCounts}
use Rattle.ak_messages.specs.declared.requests.Whole.{Whole}
use Rattle.ak_protocol.specs.Accounts.{SessionState, KeptReply, AccountState}
use Rattle.ak_session.specs.Contents.{answer, refusal, ends, closed}
use Rattle.ak_protocol.specs.Commits.{HasFreshSchema}
use Rattle.ak_protocol.specs.Logs.{Log, IsTimely, IsReplyIn, with_growth, server_after, Event, View, Asked, Commit, World, opened, world_next, world_served, world_after}
use Rattle.ak_protocol.specs.Replies.{granted, meta_reply, whole_of, PastBase, NoSession, WrongStep, Objected, refused, download_reply}
use Rattle.ak_session.specs.Objections.{Objection, MayNotCome, WrongUsn, NoNumber, TooManyRows, WrongRow, WrongNewer}
use Rattle.ak_session.specs.Requests.{asked_method, is_meta, is_download, asks_commit}
use Rattle.ak_protocol.specs.Servers.{by_account, same_host, server_served}
use Rattle.ak_protocol.specs.Serving.{begun, refuses, kept_of, reply_to, by_repeat, ended, went_on, has_next_step, Undisturbed, KeeperFault, OutOfMemory, Served, served, finished, unchanged, by_refusal, by_session, commit_reply}
use Rattle.ak_protocol.specs.Syncs.{IsOpened}
use Rattle.ak_protocol.proofs.Calls.{metas_open_syncs}
use Rattle.ak_session.proofs.CommitLaws.{commits_are_later}
use Rattle.ak_protocol.proofs.Isolation.{account_after, same_as_itself}
use Rattle.ak_protocol.proofs.Syncs.{own_first}

-- a collection with the moment 5 and the number 12
abbrev at_5 : Collection → Collection
at_5 c = record c { head = record c.head { moment = pos 5; usn = pos 12 } }

-- an account whose committed collection has the moment 5 and the number 12
abbrev account : Collection → Option SessionState → Option KeptReply → AccountState
account c live kept = record { committed = at_5 c; live = live; kept = kept }

-- a start of a device with the number 3, which was changed last at the moment 4
abbrev starts : Ask
starts = asks.Start (pos 3) (pos 4)

-- no changes, and no settings, since the server was changed later
abbrev changes_nothing : Ask
changes_nothing = asks.ApplyChanges (record { models = []; decks = []; options = []; tags = []; newer = None })

-- the last chunk, with no rows
abbrev pushes_nothing : Ask
pushes_nothing = asks.ApplyChunk (record { done = true; reviews = []; cards = []; notes = [] })

-- a request of a session, over a moment
abbrev request_of : HostKey → ℕ → ℕ → ℤ → Ask → Request
request_of host key step base ask = record { host = host; session = record { 0 = key }; step = step; base = base; ask = ask }

-- the reply to a request, undisturbed, once these events came
abbrev reply_after : AccountState → List Event → Request → Reply
reply_after s events request = (served (world_after (opened s) events).state request (pos 9) Undisturbed).reply

-- a request served undisturbed at the moment 9
abbrev came : Request → Event
came request = Asked request (pos 9) Undisturbed

-- ---- a sync crossed by another one
-- The device 7 synced over the moment 4, and its sync was committed at 5; the device 8 begins a sync over 5, and is at its step 3 when all
-- requests of 7 come again. The meta of 7 drops the session of 8, and the others are refused, since their base is past: so 8 is
-- refused since there is no session, and nothing is committed.
module _ (host : HostKey) (c : Collection) (live : Option SessionState) (kept : Option KeptReply) (least lmod : ℤ) (changes : Changes) (chunk : Chunk) (counts : SanityCounts) where
  abbrev all_of : ℕ → ℤ → List Event
  all_of key base =
      came (request_of host key 0 (pos 0) asks.Meta)
      ∷ came (request_of host key 1 base (asks.Start least lmod))
      ∷ came (request_of host key 2 base (asks.ApplyChanges changes))
      ∷ came (request_of host key 3 base asks.Chunk)
      ∷ came (request_of host key 4 base (asks.ApplyChunk chunk))
      ∷ came (request_of host key 5 base (asks.SanityCheck2 counts))
      ∷ came (request_of host key 6 base asks.Finish)
      ∷ []

  pub a_replayed_sync_drops_the_other : reply_after (account c live kept) (all_of 7 (pos 4)) (request_of host 8 3 (pos 5) asks.Chunk) ≡ refused NoSession
  a_replayed_sync_drops_the_other = refl

  pub a_replayed_sync_commits_nothing : (world_after (opened (account c live kept)) (all_of 7 (pos 4))).commits ≡ []
  a_replayed_sync_commits_nothing = refl

  -- the requests of 7 are told the committed moment, the start as well as the finish
  pub a_replayed_start_is_told_the_moment : reply_after (account c live kept) (came (request_of host 7 0 (pos 0) asks.Meta) ∷ []) (request_of host 7 1 (pos 4) (asks.Start least lmod))
      ≡ refused (PastBase (pos 5))
  a_replayed_start_is_told_the_moment = refl

-- ---- a step too far, and a view
module _ (host : HostKey) (c : Collection) (live : Option SessionState) (kept : Option KeptReply) (least lmod : ℤ) where
  meta : Event
  meta = came (request_of host 7 0 (pos 0) asks.Meta)

  -- a request that leaves a step out is told the last step
  pub a_skipped_step_is_refused : reply_after (account c live kept) (came (request_of host 7 0 (pos 0) asks.Meta) ∷ []) (request_of host 7 2 (pos 5) asks.Chunk)
      ≡ refused (WrongStep 0)
  a_skipped_step_is_refused = refl

  -- a view ends the session
  pub a_view_ends_the_session : reply_after (account c live kept) (came (request_of host 7 0 (pos 0) asks.Meta) ∷ View host.digits ∷ []) (request_of host 7 1 (pos 5) (asks.Start least lmod))
      ≡ refused NoSession
  a_view_ends_the_session = refl

  -- a fault of the keeper ends the session too
  pub a_fault_ends_the_session : reply_after (account c live kept)
      (came (request_of host 7 0 (pos 0) asks.Meta) ∷ Asked (request_of host 7 1 (pos 5) (asks.Start least lmod)) (pos 9) KeeperFault ∷ []) (request_of host 7 1 (pos 5) (asks.Start least lmod))
      ≡ refused NoSession
  a_fault_ends_the_session = refl

-- ---- a session that its requests revive
-- The sync of 7 had its start and its changes accepted when the meta of 8 dropped its session, and nothing was committed. Its meta, start and
-- changes come again: its session holds the two again, over the same collection, each is given what it was given, and its step 3 is next.
module _ (host : HostKey) (c : Collection) where
  abbrev start : Request
  start = request_of host 7 1 (pos 5) starts

  abbrev sends : Request
  sends = request_of host 7 2 (pos 5) changes_nothing

  abbrev held : Collection
  held = at_5 c

  start_allowed : refusal held [] start ≡ None
  unfolding refusal
  start_allowed = refl

  start_goes_on : ends held [] start ≡ false
  unfolding ends
  start_goes_on = refl

  sends_allowed : refusal held (start ∷ []) sends ≡ None
  unfolding refusal
  sends_allowed = refl

  sends_goes_on : ends held (start ∷ []) sends ≡ false
  unfolding ends
  sends_goes_on = refl

  abbrev idle : AccountState
  idle = account c None None

  abbrev first_time : List Event
  first_time = came (request_of host 7 0 (pos 0) asks.Meta) ∷ came start ∷ came sends ∷ []

  -- the account once the meta of 8 dropped the session
  abbrev dropped : AccountState
  dropped = account c (Some (record { key = 8; accepted = [] })) None

  -- the account once a meta of 7 came
  abbrev met : AccountState
  met = account c (Some (record { key = 7; accepted = [] })) None

  start_is : served met start (pos 9) Undisturbed ≡ went_on met (record { key = 7; accepted = [] }) start
  start_is = rw (start_allowed, start_goes_on) refl

  -- the account once the start of 7 was accepted
  abbrev started : AccountState
  started = account c (Some (record { key = 7; accepted = start ∷ [] })) (Some (kept_of start (reply_to held [] start)))

  sends_is : served started sends (pos 9) Undisturbed ≡ went_on started (record { key = 7; accepted = start ∷ [] }) sends
  sends_is = rw (sends_allowed, sends_goes_on) refl

  -- the world once the three of 7 came to an account that was met or dropped
  three_come : (s : AccountState) (before : List Commit) → (world_next (record { state = s; commits = before }) (came (request_of host 7 0 (pos 0) asks.Meta))) ≡ record { state = met; commits = before }
      → world_after (record { state = s; commits = before }) first_time ≡ record { state = (went_on started (record { key = 7; accepted = start ∷ [] }) sends).next; commits = before }
  three_come s before meta =
      ap (λ (w : World). world_after w (came start ∷ came sends ∷ [])) meta
      ∙ ap (λ (it : Served). world_after (world_served (record { state = met; commits = before }) start it) (came sends ∷ [])) start_is
      ∙ ap (λ (it : Served). world_served (record { state = started; commits = before }) sends it) sends_is

  pub replays_revive_a_session : let w = world_after (world_next (world_after (opened idle) first_time) (came (request_of host 8 0 (pos 0) asks.Meta))) first_time in
      (w.state.live ≡ Some (record { key = 7; accepted = start ∷ sends ∷ [] })) × (w.state.committed ≡ held) × (w.commits ≡ [])
  replays_revive_a_session =
      let at_first : world_after (opened idle) first_time ≡ record { state = (went_on started (record { key = 7; accepted = start ∷ [] }) sends).next; commits = [] } =
      three_come idle [] refl in
      let again : world_after (world_next (world_after (opened idle) first_time) (came (request_of host 8 0 (pos 0) asks.Meta))) first_time
      ≡ record { state = (went_on started (record { key = 7; accepted = start ∷ [] }) sends).next; commits = [] } =
      ap (λ (w : World). world_after (world_next w (came (request_of host 8 0 (pos 0) asks.Meta))) first_time) at_first
      ∙ three_come dropped [] refl in
      (ap (λ (w : World). w.state.live) again, ap (λ (w : World). w.state.committed) again, ap (λ (w : World). w.commits) again)

  -- its start is given again what it was given at first
  pub a_revived_start_is_told_the_same : let w = world_next (world_after (opened idle) first_time) (came (request_of host 8 0 (pos 0) asks.Meta)) in
      (served (world_next w (came (request_of host 7 0 (pos 0) asks.Meta))).state start (pos 9) Undisturbed).reply
      ≡ (served (world_next (opened idle) (came (request_of host 7 0 (pos 0) asks.Meta))).state start (pos 9) Undisturbed).reply
  a_revived_start_is_told_the_same =
      ap (λ (w : World). (served (world_next (world_next w (came (request_of host 8 0 (pos 0) asks.Meta))) (came (request_of host 7 0 (pos 0) asks.Meta))).state start (pos 9) Undisturbed).reply)
      (three_come idle [] refl)

  -- and its step 3 is next: step 4 is refused with the last step 2
  pub a_revived_session_has_its_last_step : let w = world_after (world_next (world_after (opened idle) first_time) (came (request_of host 8 0 (pos 0) asks.Meta))) first_time in
      (served w.state (request_of host 7 4 (pos 5) asks.Chunk) (pos 9) Undisturbed).reply ≡ refused (WrongStep 2)
  a_revived_session_has_its_last_step =
      ap (λ (w : World). (served (world_after (world_next w (came (request_of host 8 0 (pos 0) asks.Meta))) first_time).state (request_of host 7 4 (pos 5) asks.Chunk) (pos 9) Undisturbed).reply)
      (three_come idle [] refl)
      ∙ ap (λ (w : World). (served w.state (request_of host 7 4 (pos 5) asks.Chunk) (pos 9) Undisturbed).reply)
      (three_come dropped [] refl)

-- ---- a finish whose reply was lost
-- The sync of 7 had five requests accepted, the last of them its sanity check. So its finish is accepted.
not_again : (m : ℤ) → pos 5 <ℤ m → int_eq (pos 5) m ≡ false
not_again m later =
    elim (int_eq (pos 5) m) as (λ b. int_eq (pos 5) m ≡ b → b ≡ false) [
      | true ↦ λ e. absurd (grind (arith, ints, later, (signed_Decides (pos 5) m).0 e))
      | false ↦ λ e. refl
    ] refl

module _ (host : HostKey) (c : Collection) (r1 r2 r3 r4 : Request) (counts : SanityCounts) (sanity : Reply) where
  abbrev before : Collection
  before = at_5 c

  abbrev accepted : List Request
  accepted = r1 ∷ r2 ∷ r3 ∷ r4 ∷ request_of host 7 5 (pos 5) (asks.SanityCheck2 counts) ∷ []

  abbrev finish : Request
  finish = request_of host 7 6 (pos 5) asks.Finish

  abbrev after : Collection
  after = closed before accepted finish (pos 9)

  abbrev checked : AccountState
  checked = account c (Some (record { key = 7; accepted = accepted })) (Some (record { key = 7; step = 5; method = methods.SanityCheck2; reply = Some sanity }))

  abbrev record_of : Collection → Option SessionState → Option KeptReply → AccountState
  record_of c live kept = record { committed = c; live = live; kept = kept }

  finish_allowed : refusal before accepted finish ≡ None
  unfolding refusal
  finish_allowed = refl

  is_accepted : served checked finish (pos 9) Undisturbed ≡ finished checked (record { key = 7; accepted = accepted }) finish (pos 9)
  is_accepted = ap (λ (o : Option Objection). by_refusal o checked (record { key = 7; accepted = accepted }) finish (pos 9)) finish_allowed

  -- asked again it gives the same reply
  pub a_lost_finish_is_answered_again : reply_after checked (came finish ∷ []) finish ≡ commit_reply asks.Finish after.head
  a_lost_finish_is_answered_again = ap (λ (it : Served). (served it.next finish (pos 9) Undisturbed).reply) is_accepted

  -- and commits once, however often it comes
  pub a_finish_commits_once : (world_after (opened checked) (came finish ∷ came finish ∷ came finish ∷ [])).commits ≡ record { key = 7; before = before; after = after } ∷ []
  a_finish_commits_once =
      ap (λ (it : Served). (world_after (world_served (opened checked) finish it) (came finish ∷ came finish ∷ [])).commits) is_accepted

  -- one that comes before its sanity check is told the last step, and commits nothing. Its session goes on
  abbrev begun_only : AccountState
  begun_only = account c (Some (record { key = 7; accepted = request_of host 7 1 (pos 5) starts ∷ [] })) None

  abbrev early : Request
  early = request_of host 7 2 (pos 5) asks.Finish

  early_is_refused : refusal before (request_of host 7 1 (pos 5) starts ∷ []) early ≡ Some MayNotCome
  unfolding refusal
  early_is_refused = refl

  pub a_finish_before_its_check_is_refused : served begun_only early (pos 9) Undisturbed
      ≡ record { reply = record { status = 409; word = words.Step; seen = pos 1; give = gives.Nothing }; next = begun_only; is_commit = false }
  a_finish_before_its_check_is_refused =
      ap (λ (o : Option Objection). by_refusal o begun_only (record { key = 7; accepted = request_of host 7 1 (pos 5) starts ∷ [] }) early (pos 9)) early_is_refused

  -- after a meta of its session came again, its reply is forgotten, and its base is past
  pub a_finish_after_its_meta_is_refused : reply_after checked (came finish ∷ came (request_of host 7 0 (pos 0) asks.Meta) ∷ []) finish ≡ refused (PastBase after.head.moment)
  a_finish_after_its_meta_is_refused =
      let meta = came (request_of host 7 0 (pos 0) asks.Meta) in
      ap (λ (it : Served). (served (world_next (world_served (opened checked) finish it) meta).state finish (pos 9) Undisturbed).reply) is_accepted
      ∙ ap (λ (b : Bool). (if b then by_session (Some (record { key = 7; accepted = [] })) (record_of after (Some (record { key = 7; accepted = [] })) None) finish (pos 9) else unchanged (record_of after (Some (record { key = 7; accepted = [] })) None) (refused (PastBase after.head.moment))).reply) (not_again after.head.moment (commits_are_later before accepted finish (pos 9)))

  -- a view after it leaves the reply
  pub a_view_leaves_the_kept_reply : reply_after checked (came finish ∷ View host.digits ∷ []) finish ≡ commit_reply asks.Finish after.head
  a_view_leaves_the_kept_reply =
      ap (λ (it : Served). (served (world_next (world_served (opened checked) finish it) (View host.digits)).state finish (pos 9) Undisturbed).reply) is_accepted

-- ---- two devices and a replay
-- The device 7 had five requests accepted over the moment 5, from its start to its sanity check, so its finish is accepted. The device 8 greets and starts over what was
-- committed then. All seven requests of 7 come again: the meta drops the session of 8, the others are refused. The next request of 8 is refused
-- since there is no session, and there is one commit, of 7.
module _ (host : HostKey) (c : Collection) (r2 r3 r4 : Request) (sanity : Reply) (changes : Changes) (chunk : Chunk) (counts : SanityCounts) where
  abbrev base : Collection
  base = at_5 c

  abbrev list_of_7 : List Request
  list_of_7 = request_of host 7 1 (pos 5) starts ∷ r2 ∷ r3 ∷ r4 ∷ request_of host 7 5 (pos 5) (asks.SanityCheck2 counts) ∷ []

  abbrev finish_of_7 : Request
  finish_of_7 = request_of host 7 6 (pos 5) asks.Finish

  abbrev made_by_7 : Collection
  made_by_7 = closed base list_of_7 finish_of_7 (pos 9)

  abbrev moment_of_7 : ℤ
  moment_of_7 = made_by_7.head.moment

  abbrev commit_of_7 : Commit
  commit_of_7 = record { key = 7; before = base; after = made_by_7 }

  abbrev ready : World
  ready = opened (account c (Some (record { key = 7; accepted = list_of_7 })) (Some (record { key = 7; step = 5; method = methods.SanityCheck2; reply = Some sanity })))

  -- a world over what 7 committed
  abbrev over_7 : Option SessionState → Option KeptReply → World
  over_7 live kept = record { state = record { committed = made_by_7; live = live; kept = kept }; commits = commit_of_7 ∷ [] }

  abbrev start_of_8 : Request
  start_of_8 = request_of host 8 1 moment_of_7 starts

  abbrev greeted : ℕ → World
  greeted key = over_7 (Some (record { key = key; accepted = [] })) None

  finish_of_7_allowed : refusal base list_of_7 finish_of_7 ≡ None
  unfolding refusal
  finish_of_7_allowed = refl

  start_of_8_allowed : refusal made_by_7 [] start_of_8 ≡ None
  unfolding refusal closed
  start_of_8_allowed = refl

  start_of_8_goes_on : ends made_by_7 [] start_of_8 ≡ false
  unfolding ends
  start_of_8_goes_on = refl

  finish_comes : world_next ready (came finish_of_7) ≡ over_7 None (Some (kept_of finish_of_7 (commit_reply asks.Finish made_by_7.head)))
  finish_comes = ap (λ (o : Option Objection). world_served ready finish_of_7 (by_refusal o ready.state (record { key = 7; accepted = list_of_7 }) finish_of_7 (pos 9))) finish_of_7_allowed

  start_comes : world_next (greeted 8) (came start_of_8) ≡ over_7 (Some (record { key = 8; accepted = start_of_8 ∷ [] })) (Some (kept_of start_of_8 (reply_to made_by_7 [] start_of_8)))
  start_comes =
      ap (λ (b : Bool). world_served (greeted 8) start_of_8 (if b then by_session (Some (record { key = 8; accepted = [] })) (greeted 8).state start_of_8 (pos 9) else refuses (greeted 8).state (PastBase moment_of_7))) ((signed_Decides moment_of_7 moment_of_7).1 refl)
      ∙ ap (λ (o : Option Objection). world_served (greeted 8) start_of_8 (by_refusal o (greeted 8).state (record { key = 8; accepted = [] }) start_of_8 (pos 9))) start_of_8_allowed
      ∙ ap (λ (b : Bool). world_served (greeted 8) start_of_8 (if b then ended (greeted 8).state (record { key = 8; accepted = [] }) start_of_8 else went_on (greeted 8).state (record { key = 8; accepted = [] }) start_of_8)) start_of_8_goes_on

  -- each of the six requests of 7 after its meta is refused, since its base is past
  past_base : (step : ℕ) (ask : Ask) → is_meta ask ≡ false → world_next (greeted 7) (came (request_of host 7 step (pos 5) ask)) ≡ greeted 7
  past_base step ask later =
      let request = request_of host 7 step (pos 5) ask in
      ap (λ (b : Bool). world_served (greeted 7) request (if b then begun (greeted 7).state request (pos 9) else by_repeat None (greeted 7).state request (pos 9))) later
      ∙ ap (λ (b : Bool). world_served (greeted 7) request (if b then by_session (Some (record { key = 7; accepted = [] })) (greeted 7).state request (pos 9) else refuses (greeted 7).state (PastBase moment_of_7)))
      (not_again moment_of_7 (commits_are_later base list_of_7 finish_of_7 (pos 9)))

  abbrev all_of_7 : List Event
  all_of_7 =
      came (request_of host 7 0 (pos 0) asks.Meta)
      ∷ came (request_of host 7 1 (pos 5) starts)
      ∷ came (request_of host 7 2 (pos 5) (asks.ApplyChanges changes))
      ∷ came (request_of host 7 3 (pos 5) asks.Chunk)
      ∷ came (request_of host 7 4 (pos 5) (asks.ApplyChunk chunk))
      ∷ came (request_of host 7 5 (pos 5) (asks.SanityCheck2 counts))
      ∷ came finish_of_7
      ∷ []

  abbrev world_after_rest : List Event → World → World
  world_after_rest events w = world_after w events

  all_come_again : (live : Option SessionState) (kept : Option KeptReply) → world_after (over_7 live kept) all_of_7 ≡ greeted 7
  all_come_again live kept =
      ap (world_after_rest (came (request_of host 7 2 (pos 5) (asks.ApplyChanges changes)) ∷ came (request_of host 7 3 (pos 5) asks.Chunk) ∷ came (request_of host 7 4 (pos 5) (asks.ApplyChunk chunk)) ∷ came (request_of host 7 5 (pos 5) (asks.SanityCheck2 counts)) ∷ came finish_of_7 ∷ [])) (past_base 1 starts refl)
      ∙ ap (world_after_rest (came (request_of host 7 3 (pos 5) asks.Chunk) ∷ came (request_of host 7 4 (pos 5) (asks.ApplyChunk chunk)) ∷ came (request_of host 7 5 (pos 5) (asks.SanityCheck2 counts)) ∷ came finish_of_7 ∷ [])) (past_base 2 (asks.ApplyChanges changes) refl)
      ∙ ap (world_after_rest (came (request_of host 7 4 (pos 5) (asks.ApplyChunk chunk)) ∷ came (request_of host 7 5 (pos 5) (asks.SanityCheck2 counts)) ∷ came finish_of_7 ∷ [])) (past_base 3 asks.Chunk refl)
      ∙ ap (world_after_rest (came (request_of host 7 5 (pos 5) (asks.SanityCheck2 counts)) ∷ came finish_of_7 ∷ [])) (past_base 4 (asks.ApplyChunk chunk) refl)
      ∙ ap (world_after_rest (came finish_of_7 ∷ [])) (past_base 5 (asks.SanityCheck2 counts) refl)
      ∙ past_base 6 asks.Finish refl

  abbrev crossed : World
  crossed = world_after (world_next (world_next (world_next ready (came finish_of_7)) (came (request_of host 8 0 (pos 0) asks.Meta))) (came start_of_8)) all_of_7

  crossed_is : crossed ≡ greeted 7
  crossed_is =
      ap (λ (w : World). world_after (world_next (world_next w (came (request_of host 8 0 (pos 0) asks.Meta))) (came start_of_8)) all_of_7) finish_comes
      ∙ ap (λ (w : World). world_after w all_of_7) start_comes
      ∙ all_come_again (Some (record { key = 8; accepted = start_of_8 ∷ [] })) (Some (kept_of start_of_8 (reply_to made_by_7 [] start_of_8)))

  -- the next request of 8 finds no session
  pub a_crossed_sync_is_refused : (served crossed.state (request_of host 8 2 moment_of_7 (asks.ApplyChanges changes)) (pos 9) Undisturbed).reply ≡ refused NoSession
  a_crossed_sync_is_refused =
      let next = request_of host 8 2 moment_of_7 (asks.ApplyChanges changes) in
      ap (λ (w : World). (served w.state next (pos 9) Undisturbed).reply) crossed_is
      ∙ ap (λ (b : Bool). (if b then refuses (greeted 7).state NoSession else refuses (greeted 7).state (PastBase moment_of_7)).reply) ((signed_Decides moment_of_7 moment_of_7).1 refl)

  -- and there is one commit, of 7
  pub a_replay_commits_nothing_more : crossed.commits ≡ commit_of_7 ∷ []
  a_replay_commits_nothing_more = ap (λ (w : World). w.commits) crossed_is

-- The next sync begins after another meta, of 9. Once its sanity check is accepted, its finish commits over what 7 committed.
module _ (host : HostKey) (c : Collection) (r1 r2 r3 r4 r5 q1 q2 q3 q4 : Request) (counts : SanityCounts) where
  abbrev left_by_7 : Collection
  left_by_7 = closed (at_5 c) (r1 ∷ r2 ∷ r3 ∷ r4 ∷ r5 ∷ []) (request_of host 7 6 (pos 5) asks.Finish) (pos 9)

  abbrev list_of_9 : List Request
  list_of_9 = q1 ∷ q2 ∷ q3 ∷ q4 ∷ request_of host 9 5 left_by_7.head.moment (asks.SanityCheck2 counts) ∷ []

  abbrev finish_of_9 : Request
  finish_of_9 = request_of host 9 6 left_by_7.head.moment asks.Finish

  abbrev session_of_9 : SessionState
  session_of_9 = record { key = 9; accepted = list_of_9 }

  abbrev after_7 : Option SessionState → World
  after_7 live = record {
    state = record { committed = left_by_7; live = live; kept = None };
    commits = record { key = 7; before = at_5 c; after = left_by_7 } ∷ [];
  }

  pub another_meta_begins_anew : (live : Option SessionState) → world_next (after_7 live) (came (request_of host 9 0 (pos 0) asks.Meta)) ≡ after_7 (Some (record { key = 9; accepted = [] }))
  another_meta_begins_anew live = refl

  finish_of_9_allowed : refusal left_by_7 list_of_9 finish_of_9 ≡ None
  unfolding refusal
  finish_of_9_allowed = refl

  pub the_next_sync_commits_over_it : (world_next (after_7 (Some session_of_9)) (came finish_of_9)).commits
      ≡ record { key = 9; before = left_by_7; after = closed left_by_7 list_of_9 finish_of_9 (pos 9) } ∷ (after_7 None).commits
  the_next_sync_commits_over_it =
      let w = after_7 (Some session_of_9) in
      ap (λ (b : Bool). (world_served w finish_of_9 (if b then by_session (Some session_of_9) w.state finish_of_9 (pos 9) else refuses w.state (PastBase left_by_7.head.moment))).commits)
      ((signed_Decides left_by_7.head.moment left_by_7.head.moment).1 refl)
      ∙ ap (λ (o : Option Objection). (world_served w finish_of_9 (by_refusal o w.state session_of_9 finish_of_9 (pos 9))).commits) finish_of_9_allowed

-- ---- replies, number by number
module _ (host : HostKey) (c : Collection) (live : Option SessionState) (kept : Option KeptReply) where
  -- a meta at the moment 1,700,000,001,999 of an account whose head has these numbers
  abbrev numbered : Collection
  numbered = record c { head = record c.head { moment = pos 5; schema = pos 3; usn = pos 12 } }

  pub a_meta_tells_the_head :
      (served (record { committed = numbered; live = live; kept = kept }) (request_of host 7 0 (pos 0) asks.Meta) (pos 1_700_000_001_999) Undisturbed).reply
      ≡ record {
        status = 200;
        word = words.Ok;
        seen = pos 0;
        give = gives.Meta (record { scm = pos 3; ts = pos 1_700_000_001; moment = pos 5; usn = pos 12; musn = pos 0; msg = []; cont = true });
      }
  a_meta_tells_the_head = refl

  -- a host key that is no account's
  pub a_strange_key_is_refused : (server_served (λ _. None) (request_of host 7 0 (pos 0) asks.Meta) (pos 9) KeeperFault).reply
      ≡ record { status = 403; word = words.Key; seen = pos 0; give = gives.Nothing }
  a_strange_key_is_refused = refl

  -- a base that is past, and a session that isn't live
  pub a_past_base_is_refused : reply_after (account c live None) [] (request_of host 7 1 (pos 4) asks.Download)
      ≡ record { status = 409; word = words.Base; seen = pos 5; give = gives.Nothing }
  a_past_base_is_refused = refl

  pub a_session_is_needed : reply_after (account c None None) [] (request_of host 7 1 (pos 5) asks.Download)
      ≡ record { status = 409; word = words.NoSession; seen = pos 0; give = gives.Nothing }
  a_session_is_needed = refl

  -- the session of another key is none
  pub another_session_is_none : reply_after (account c (Some (record { key = 8; accepted = [] })) None) [] (request_of host 7 1 (pos 5) asks.Download)
      ≡ record { status = 409; word = words.NoSession; seen = pos 0; give = gives.Nothing }
  another_session_is_none = refl

  -- a step that was accepted before, whose reply is no longer kept
  pub an_old_step_is_refused : (r1 r2 : Request) → reply_after (account c (Some (record { key = 7; accepted = r1 ∷ r2 ∷ [] })) None) [] (request_of host 7 2 (pos 5) asks.Chunk)
      ≡ record { status = 409; word = words.Step; seen = pos 2; give = gives.Nothing }
  an_old_step_is_refused r1 r2 = refl

  -- setbacks of a meta: no session, and no kept reply
  pub a_meta_with_a_fault : served (account c live kept) (request_of host 7 0 (pos 0) asks.Meta) (pos 9) KeeperFault
      ≡ record { reply = record { status = 503; word = words.Keeper; seen = pos 0; give = gives.Nothing }; next = account c None None; is_commit = false }
  a_meta_with_a_fault = refl

  -- setbacks of another request: no session, and the kept reply stays
  pub a_chunk_without_memory : served (account c live kept) (request_of host 7 4 (pos 5) asks.Chunk) (pos 9) OutOfMemory
      ≡ record { reply = record { status = 500; word = words.Memory; seen = pos 0; give = gives.Nothing }; next = account c None kept; is_commit = false }
  a_chunk_without_memory = refl

  -- a download that is asked again reads what is committed by then
  pub a_download_reads_again :
      reply_after (account c live (Some (record { key = 7; step = 1; method = methods.Download; reply = None }))) [] (request_of host 7 1 (pos 4) asks.Download)
      ≡ download_reply (at_5 c)
  a_download_reads_again = refl

  -- another method at the kept step is no repeat
  pub another_method_is_no_repeat : (reply : Reply)
      → reply_after (account c live (Some (record { key = 7; step = 1; method = methods.Start; reply = Some reply }))) [] (request_of host 7 1 (pos 4) asks.Download)
      ≡ record { status = 409; word = words.Base; seen = pos 5; give = gives.Nothing }
  another_method_is_no_repeat reply = refl

-- ---- a download
module _ (host : HostKey) (c : Collection) where
  abbrev read_from : Collection
  read_from = at_5 c

  abbrev reads : Request
  reads = request_of host 7 1 (pos 5) asks.Download

  abbrev begun_now : AccountState
  begun_now = account c (Some (record { key = 7; accepted = [] })) None

  reads_allowed : refusal read_from [] reads ≡ None
  unfolding refusal
  reads_allowed = refl

  reads_goes_on : ends read_from [] reads ≡ false
  unfolding ends
  reads_goes_on = refl

  -- it is added to the session like any other, and its reply is kept without the collection
  pub a_download_is_added : served begun_now reads (pos 9) Undisturbed ≡ record {
    reply = download_reply read_from;
    next = account c (Some (record { key = 7; accepted = reads ∷ [] })) (Some (record { key = 7; step = 1; method = methods.Download; reply = None }));
    is_commit = false;
  }
  a_download_is_added = rw (reads_allowed, reads_goes_on) refl

  -- so another request has its step no more
  pub a_step_is_taken_once : reply_after begun_now (came reads ∷ []) (request_of host 7 1 (pos 5) asks.Chunk) ≡ refused (WrongStep 1)
  a_step_is_taken_once =
      ap (λ (it : Served). (served it.next (request_of host 7 1 (pos 5) asks.Chunk) (pos 9) Undisturbed).reply) a_download_is_added

-- ---- a sanity check
-- Nothing was pushed, so the session holds what is committed, and the check compares its counts with those of that.
module _ (host : HostKey) (c : Collection) (counts : SanityCounts) where
  abbrev checked_over : Collection
  checked_over = at_5 c

  abbrev pushed_list : List Request
  pushed_list =
      request_of host 7 1 (pos 5) starts ∷ request_of host 7 2 (pos 5) changes_nothing ∷ request_of host 7 3 (pos 5) asks.Chunk
      ∷ request_of host 7 4 (pos 5) pushes_nothing ∷ []

  abbrev check : Request
  check = request_of host 7 5 (pos 5) (asks.SanityCheck2 counts)

  abbrev session_pushed : SessionState
  session_pushed = record { key = 7; accepted = pushed_list }

  abbrev pushed : AccountState
  pushed = account c (Some session_pushed) None

  check_allowed : refusal checked_over pushed_list check ≡ None
  unfolding refusal
  check_allowed = refl

  untrue : (b : Bool) → not (b && false) ≡ true
  untrue true = refl
  untrue false = refl

  -- other counts than those of the rows that it holds are bad
  other_counts_are_bad : same_counts counts (counts_of c.rows) ≡ false → ends checked_over pushed_list check ≡ true
  unfolding ends
  other_counts_are_bad other = ap (λ (b : Bool). not (not (is_some (first_fault c.rows)) && b)) other ∙ untrue (not (is_some (first_fault c.rows)))

  right_counts_are_good : same_counts counts (counts_of c.rows) ≡ true → first_fault c.rows ≡ None → ends checked_over pushed_list check ≡ false
  unfolding ends
  right_counts_are_good same sound = ap (λ (b : Bool). not (not (is_some (first_fault c.rows)) && b)) same ∙ ap (λ (fault : Option CheckFault). not (not (is_some fault) && true)) sound

  -- a bad check ends the session, commits nothing, and its reply is kept
  pub a_bad_check_ends_the_session : same_counts counts (counts_of c.rows) ≡ false
      → (served pushed check (pos 9) Undisturbed).next
      ≡ account c None (Some (record { key = 7; step = 5; method = methods.SanityCheck2; reply = Some (granted (answer checked_over pushed_list check)) }))
  a_bad_check_ends_the_session other =
      ap (λ (o : Option Objection). (by_refusal o pushed session_pushed check (pos 9)).next) check_allowed
      ∙ ap (λ (b : Bool). (if b then ended pushed session_pushed check else went_on pushed session_pushed check).next) (other_counts_are_bad other)

  -- a good one is added to the session
  pub a_good_check_is_added : same_counts counts (counts_of c.rows) ≡ true → first_fault c.rows ≡ None
      → (served pushed check (pos 9) Undisturbed).next.live ≡ Some (record { key = 7; accepted = pushed_list ++ check ∷ [] })
  a_good_check_is_added same sound =
      ap (λ (o : Option Objection). (by_refusal o pushed session_pushed check (pos 9)).next.live) check_allowed
      ∙ ap (λ (b : Bool). (if b then ended pushed session_pushed check else went_on pushed session_pushed check).next.live) (right_counts_are_good same sound)

-- ---- an upload and the schema moment of another device
-- The committed collection has the schema moment 3. A device changed its schema at 7, and did not sync since. Another device uploads a
-- collection of the schema moment 6 at the moment 2: what is committed has the schema moment 7. So it is not fresh for the first.
module _ (host : HostKey) (c d : Collection) where
  abbrev schema_3 : Collection
  schema_3 = record c { head = record c.head { moment = pos 5; schema = pos 3; usn = pos 12 } }

  abbrev schema_7 : Collection
  schema_7 = record d { head = record d.head { schema = pos 7 } }

  abbrev uploads : Request
  uploads = request_of host 7 1 (pos 5) (asks.Upload (record { rows = []; crt = pos 0; moment = pos 4; schema = pos 6; usn = pos 0; conf = c.head.conf; tags = [] }))

  uploaded_schema : (closed schema_3 [] uploads (pos 2)).head.schema ≡ pos 7
  unfolding closed
  uploaded_schema = refl

  pub an_upload_may_meet_a_schema : HasFreshSchema schema_7 (record { key = 7; before = schema_3; after = closed schema_3 [] uploads (pos 2) }) → ⊥
  an_upload_may_meet_a_schema (inl same) = grind (arith, ints, same, uploaded_schema)
  an_upload_may_meet_a_schema (inr differ) = differ (sym uploaded_schema)

-- ---- the methods of what is asked
module _ (least lmod : ℤ) (ids : GraveIds) (changes : Changes) (chunk : Chunk) (counts : SanityCounts) (whole : Whole) where
  abbrev all_asks : List Ask
  all_asks =
      asks.Meta ∷ asks.Start least lmod ∷ asks.ApplyGraves ids ∷ asks.ApplyChanges changes ∷ asks.Chunk
      ∷ asks.ApplyChunk chunk ∷ asks.SanityCheck2 counts ∷ asks.Finish ∷ asks.Upload whole ∷ asks.Download ∷ []

  pub each_ask_has_its_method : map asked_method all_asks
      ≡ methods.Meta ∷ methods.Start ∷ methods.ApplyGraves ∷ methods.ApplyChanges ∷ methods.Chunk
      ∷ methods.ApplyChunk ∷ methods.SanityCheck2 ∷ methods.Finish ∷ methods.Upload ∷ methods.Download ∷ []
  each_ask_has_its_method = refl

  pub a_meta_alone_begins : map is_meta all_asks ≡ true ∷ false ∷ false ∷ false ∷ false ∷ false ∷ false ∷ false ∷ false ∷ false ∷ []
  a_meta_alone_begins = refl

  pub two_asks_commit : map asks_commit all_asks ≡ false ∷ false ∷ false ∷ false ∷ false ∷ false ∷ false ∷ true ∷ true ∷ false ∷ []
  two_asks_commit = refl

  pub a_download_alone_reads : map is_download all_asks ≡ false ∷ false ∷ false ∷ false ∷ false ∷ false ∷ false ∷ false ∷ false ∷ true ∷ []
  a_download_alone_reads = refl

-- ---- what is given, number by number
pub a_finish_tells_the_moment : (head : Head) → commit_reply asks.Finish head ≡ record { status = 200; word = words.Ok; seen = pos 0; give = gives.Moment head.moment }
a_finish_tells_the_moment head = refl

pub an_upload_tells_both_moments : (whole : Whole) (head : Head)
    → commit_reply (asks.Upload whole) head ≡ record { status = 200; word = words.Ok; seen = pos 0; give = gives.Uploaded head.moment head.schema }
an_upload_tells_both_moments whole head = refl

pub a_whole_collection_has_its_head : (rows : Rows) (head : Head)
    → whole_of (record { rows = rows; head = record head { crt = pos 1; moment = pos 2; schema = pos 3; usn = pos 4; last_sync = pos 5 } })
    ≡ record { rows = map (λ entry. entry.1) (entries rows); crt = pos 1; moment = pos 2; schema = pos 3; usn = pos 4; conf = head.conf; tags = head.tags }
a_whole_collection_has_its_head rows head = refl

-- ---- the edge of steps
pub a_step_is_next_up_to_the_last : (session : SessionState) (request : Request) → request.step ≡ length session.accepted + 1 → request.step ≤ 9_223_372_036_854_775_807
    → has_next_step session request ≡ true
a_step_is_next_up_to_the_last session request next in_range =
    both_true (eq-eqb request.step (length session.accepted + 1) next) (le-leb request.step 9_223_372_036_854_775_807 in_range)

pub a_step_past_the_last_is_refused : (session : SessionState) (request : Request) → 9_223_372_036_854_775_807 < request.step → has_next_step session request ≡ false
a_step_past_the_last_is_refused session request past =
    elim (has_next_step session request) as (λ b. has_next_step session request ≡ b → b ≡ false) [
      | true ↦ λ e. absurd (omega (arith, past, leb-true request.step 9_223_372_036_854_775_807 (second_so (request.step == length session.accepted + 1) (nat_le request.step 9_223_372_036_854_775_807) e)))
      | false ↦ λ e. refl
    ] refl

-- ---- refusals, number by number
abbrev told : ℕ → Word → ℤ → Reply
told status word seen = record { status = status; word = word; seen = seen; give = gives.Nothing }

pub each_refusal_is_told :
    map refused (
    PastBase (pos 5) ∷ NoSession ∷ WrongStep 3 ∷ Objected MayNotCome 3 (pos 12) ∷ Objected WrongUsn 3 (pos 12) ∷ Objected NoNumber 3 (pos 12)
    ∷ Objected TooManyRows 3 (pos 12) ∷ Objected WrongRow 3 (pos 12) ∷ Objected WrongNewer 3 (pos 12) ∷ []
    )
    ≡ told 409 words.Base (pos 5) ∷ told 409 words.NoSession (pos 0) ∷ told 409 words.Step (pos 3) ∷ told 409 words.Step (pos 3) ∷ told 409 words.Usn (pos 12) ∷ told 409 words.Sequence (pos 12)
    ∷ told 400 words.Rows (pos 0) ∷ told 400 words.Row (pos 0) ∷ told 400 words.Newer (pos 0) ∷ []
each_refusal_is_told = refl

-- ---- a sync that begins
-- The wire of the device 7 leads to a server with this account and nothing else. Its meta comes twice, and the second reply arrives: it
-- tells the head, and the sync is under way.
module _ (host : HostKey) (c : Collection) where
  abbrev own : AccountState
  own = account c None None

  abbrev greets : Request
  greets = request_of host 7 0 (pos 0) asks.Meta

  abbrev opening : Log
  opening = record { opening = λ other. if same_host other host.digits then Some own else None; events = [] }

  abbrev twice : List Event
  twice = came greets ∷ came greets ∷ []

  abbrev heard : Reply
  heard = granted (gives.Meta (meta_reply own.committed.head (pos 9)))

  is_there : opening.opening host.digits ≡ Some own
  is_there = ap (λ (b : Bool). if b then Some own else None) (same_as_itself host.digits)

  -- what the wire promises of that reply: it is the one at the second place
  is_heard : IsReplyIn opening twice greets heard
  is_heard = record {
    before = came greets ∷ [];
    after = [];
    now = pos 9;
    setback = Undisturbed;
    place = refl;
    is = ap (λ (o : Option AccountState). (by_account o (server_after opening.opening (came greets ∷ [])) greets (pos 9) Undisturbed).reply)
        (account_after host.digits opening.opening (opened own) (came greets ∷ []) is_there
        ∙ ap (λ (events : List Event). Some (world_after (opened own) events).state) (own_first host.digits (came greets) [] (same_as_itself host.digits)));
  }

  -- the last moment that a clock may tell
  pub the_last_moment_is_timely : IsTimely (Asked greets (pos 4_294_967_294_999) Undisturbed)
  the_last_moment_is_timely = record { low = grind (arith, ints); high = grind (arith, ints) }

  pub one_moment_more_is_not : IsTimely (Asked greets (pos 4_294_967_295_000) Undisturbed) → ⊥
  one_moment_more_is_not is = let high = is.high in grind (arith, ints, high)

  timely : IsTimely (came greets)
  timely = record { low = grind (arith, ints); high = grind (arith, ints) }

  pub a_sync_begins : IsOpened greets own (with_growth opening twice) heard
  a_sync_begins =
      metas_open_syncs greets own opening twice ((timely, λ _ _. inl refl), ((timely, λ _ _. inl refl), tt)) heard is_heard is_there
      (record { opening = is_there; fresh = record { live = tt; kept = tt; commits = refl }; metas = tt }) refl refl
