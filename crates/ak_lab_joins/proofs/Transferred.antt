-- What an upload and a download of a lab leave on both sides, and that all devices are linked with the server then.
use Rattle.std.specs.FinMap.{get}
use Rattle.std.specs.List.{AllByRecursion}
use Rattle.std.specs.Prelude.{◌≡◌, ◌≢◌, ◌⊎◌, ℕ, ℤ, pos, ◌<◌, ◌<ℤ◌, true, List, [], ◌∷◌, ◌++◌, length, Option, Some, None, Result, Ok, Err}
use Rattle.std.proofs.Common.{refl, sym, ap, subst, ◌∙◌, inl, inr, append_assoc, append-nil, length-append, arith}
use Rattle.std.proofs.lemmas.Int.{ints}
use Rattle.std.proofs.lemmas.List.{append_cancel_right}
use Rattle.std.proofs.lemmas.List.Elements.{All-weaker}
use Rattle.std.proofs.lemmas.Option.{same_Some}
use Rattle.ak_client.proofs.Alone.{commits_alone, requests_are_of}
use Rattle.ak_client.proofs.Growing.{commits_grown, lawful_grown, linked_grown, world_grown}
use Rattle.ak_client.specs.Greetings.{clock_stop}
use Rattle.ak_client.specs.Outcomes.{outcome_at}
use Rattle.ak_client.specs.Syncs.{CommitsAlone, world_at}
use Rattle.ak_client.specs.declared.outcomes.Outcome.{Outcome}
use Rattle.ak_client.specs.declared.outcomes.Outcome.TheVariants as outcomes
use Rattle.ak_edit.specs.Steps.{reversals_in}
use Rattle.ak_exchange.specs.Asked.{answers_in, asker, asks_in}
use Rattle.ak_exchange.specs.Phases.{holding}
use Rattle.ak_exchange.specs.Stops.{wire_stop}
use Rattle.ak_exchange.specs.declared.envelopes.Ids.{Ids}
use Rattle.ak_faults.specs.Causes.{one_more}
use Rattle.ak_keep.specs.Collections.{Collection, Rows}
use Rattle.ak_keep.specs.Keepers.{Keeping}
use Rattle.ak_lab_wires.proofs.Transferring.{TriesInTurn, transfer_tried}
use Rattle.ak_lab_joins.proofs.Alone.{IsAlone}
use Rattle.ak_lab_wires.specs.CrossedSyncs.{CrossesAt, crosses_nothing}
use Rattle.ak_lab_wires.specs.LabSessions.{EndsByKind, before_calls, moment_told, sent_by}
use Rattle.ak_lab_wires.specs.declared.lab_sessions.SessionKind.TheVariants as kinds
use Rattle.ak_lab_devices.specs.Devices.{keeping_of, given_outside}
use Rattle.ak_lab_devices.specs.declared.devices.Device.{Device}
use Rattle.ak_lab_joins.proofs.Synced.{kept_is, known_is, next_over, nothing_to_undo, single_of, unused_next}
use Rattle.ak_lab_joins.proofs.Worlds.{GrowsSo, IsOfSession, StaysQuiet, commit_as, grows_so, requests_of_session}
use Rattle.ak_lab_joins.specs.LabJoins.{IsLinkedDevice, IsLinkedServer, may_have_uploaded, world_in}
use Rattle.ak_lab_lines.specs.declared.lab_lines.Direction.{Direction}
use Rattle.ak_lab_lines.specs.declared.lab_lines.Direction.TheVariants as directions
use Rattle.ak_lab_devices.specs.RestingKeepers.{kept_of}
use Rattle.ak_sync_in_memory.specs.Entries.{LoggedState, log_in}
use Rattle.ak_sync_in_memory.specs.LoopWires.{state_of_loop}
use Rattle.ak_sync_in_memory.specs.declared.mishaps.Mishap.{Mishap}
use Rattle.ak_merge.proofs.FirstLinks.{copies_are_linked}
use Rattle.ak_merge.specs.Commits.{IsCommitted, IsCopyOf}
use Rattle.ak_merge.specs.Edits.{Reversal, second_of}
use Rattle.ak_merge.specs.Holdings.{AreNamed, IsSingle, row_under}
use Rattle.ak_merge.specs.Links.{AreLinked}
use Rattle.ak_merge.specs.Undoing.{StepFits}
use Rattle.ak_messages.specs.declared.replies.Reply.{Reply}
use Rattle.ak_messages.specs.declared.requests.Ask.{Ask}
use Rattle.ak_protocol.proofs.ContentLaws.{fits_stay}
use Rattle.ak_protocol.specs.Accounts.{AccountState}
use Rattle.ak_protocol.specs.Commits.{CommitsGrow, EachNewer, HasFreshSchema, Leads}
use Rattle.ak_protocol.specs.LawfulServers.{IsLawfulAccount}
use Rattle.ak_protocol.specs.Logs.{Asked, Commit, Event, IsTimely, Log, World, commits_of, events_of, with_growth, world_after}
use Rattle.ak_transfers.specs.Greetings.{Line, TransferOutside}
use Rattle.ak_transfers.specs.Transfers.{Continues, Downloaded, Follows, HoldsUpload, IsServedOver, IsTransfer, MayTransfer, StaysUnlessFinished, TransferEnds, Uploaded, UploadedAt, UploadsAtMostOnce, download_errand, upload_errand}
use Rattle.ak_transfers.specs.declared.asks.UploadMoments.{UploadMoments}
use Rattle.ak_client_wire.specs.Wires.{WireKind}
use Rattle.ak_client_wire.specs.declared.asks.Unanswered.{Unanswered}
use Rattle.ak_client_wire.specs.declared.asks.Unanswered.TheVariants as unanswered
use Rattle.ak_client_wire.specs.declared.wires.MetaSaid.{MetaSaid}
use Rattle.ak_client_wire.specs.declared.wires.WireEnd.{WireEnd}

-- ---- what is committed
-- what is committed is as it was; or the session committed once, the upload
abbrev pub CommitsNoneOrUpload : ℕ → Collection → World → World → Type 0
CommitsNoneOrUpload key c before after =
    StaysQuiet before after
    ⊎ (after.commits ≡ commit_as key before.state.committed after.state.committed ∷ before.commits)
    × HoldsUpload c before.state.committed after.state.committed

-- by its direction: an upload that finished committed once, and a download commits nothing
abbrev pub ToldBy : Direction → ℕ → Collection → Outcome → World → World → Type 0
ToldBy directions.Upload key c outcome before after = outcome ≡ outcomes.Finished
    → (after.commits ≡ commit_as key before.state.committed after.state.committed ∷ before.commits)
    × HoldsUpload c before.state.committed after.state.committed
ToldBy directions.Download key c outcome before after = StaysQuiet before after

-- how an upload may end that asked more than its meta
abbrev pub EndsAfterAsk : Outcome → Type 0
EndsAfterAsk outcome = (may_have_uploaded outcome ≡ true) ⊎ ((outcome ≡ outcomes.Finished) ⊎ ((outcome ≡ outcomes.Lost) ⊎ (outcome ≡ outcomes.Keep)))

-- what a session tells that nothing else came between: its requests came at moments of a clock; it committed at most once; and if it finished, the device
-- holds a copy of what is committed then
pub record TransferTold (direction : Direction) (key : ℕ) (ids : Ids) (c : Collection) (account : AccountState) (old now : Log) (left : Keeping) (outcome : Outcome) : Type 0 where
  pub grows : GrowsSo (IsOfSession key) old now
  pub growth : List Event
  pub grown : now ≡ with_growth old growth
  pub timely : AllByRecursion IsTimely growth
  pub committed : CommitsNoneOrUpload key c (world_at (asker ids) account old) (world_at (asker ids) account now)
  pub early : StaysQuiet (world_at (asker ids) account old) (world_at (asker ids) account now) ⊎ EndsAfterAsk outcome
  pub by_direction : ToldBy direction key c outcome (world_at (asker ids) account old) (world_at (asker ids) account now)
  pub finished : outcome ≡ outcomes.Finished → (device : Collection) × (left ≡ holding device) × IsCopyOf (world_at (asker ids) account now).state.committed device

-- ---- how an upload ends
module _ {kind : WireKind} (k k' : Keeping) (ids : Ids) (asked : List Ask) (was now : TransferOutside kind) (outcome : Outcome)
    (transfer : IsTransfer (upload_errand true k k') ids asked was now outcome) where
  not_given : (why : Unanswered) → outcome ≡ outcome_at (wire_stop why) → EndsAfterAsk outcome
  not_given unanswered.Lost is = inr (inr (inl is))
  not_given unanswered.BadReply is = inl (ap may_have_uploaded is)
  not_given (unanswered.Refused status word seen) is = inl (ap may_have_uploaded is)
  not_given unanswered.Memory is = inl (ap may_have_uploaded is)

  came : (ask : Ask) (result : Result UploadMoments Unanswered) → TransferEnds (upload_errand true k k') ask result outcome → EndsAfterAsk outcome
  came ask (Err why) is = not_given why is
  came ask (Ok given) (inl (whole, is, finished, put)) = inr (inl finished)
  came ask (Ok given) (inr (inl kept)) = inr (inr (inr kept))
  came ask (Ok given) (inr (inr (memory, spared))) = inl (ap may_have_uploaded memory)

  continued : (said : MetaSaid) (why : Option Outcome) → Continues (upload_errand true k k') ids said why asked transfer.met now.line outcome
      → (asked ≡ []) ⊎ EndsAfterAsk outcome
  continued said (Some why) goes = inl goes.0.none
  continued said None (inl goes) = inl goes.0.none
  continued said None (inr once) = inr (came once.ask once.answer once.ends)

  followed : (answer : Result MetaSaid Unanswered) → Follows (upload_errand true k k') ids answer asked (record was { line = transfer.met }) now outcome
      → (asked ≡ []) ⊎ EndsAfterAsk outcome
  followed (Err why) goes = inl goes.0.none
  followed (Ok said) (at, given, goes) = continued said (clock_stop said (second_of at)) goes

  asked_ends : (asked ≡ []) ⊎ EndsAfterAsk outcome
  asked_ends = followed transfer.answer transfer.follows

-- ---- where a download was served
-- the account after a growth
world_is : (ids : Ids) (account : AccountState) (old now : Log) (growth : List Event) → now ≡ with_growth old growth
    → world_at (asker ids) account now ≡ world_after (world_at (asker ids) account old) (events_of ids.host.digits growth)
world_is ids account old now growth grown = ap (world_at (asker ids) account) grown ∙ world_grown (asker ids) account old growth

-- nothing comes before a list that is the whole
none_before : (xs ys zs : List Commit) → zs ≡ xs ++ (ys ++ zs) → xs ≡ []
none_before [] ys zs is = refl
none_before (x ∷ xs) ys zs is = absurd (omega (arith, ap length is, length-append xs (ys ++ zs), length-append ys zs))

-- if nothing was committed, what was committed at a place is what is committed now
served_here : (ids : Ids) (account : AccountState) (old now : Log) (base : Collection) → IsServedOver (asker ids) account old now base
    → (world_at (asker ids) account now).commits ≡ (world_at (asker ids) account old).commits → base ≡ (world_at (asker ids) account now).state.committed
served_here ids account old now base served quiet =
    let later : List Event = Asked served.request served.at served.setback ∷ served.rest in
    let mid : Log = with_growth old served.front in
    let same : now ≡ with_growth mid later =
    served.grown ∙ ap (λ (events : List Event). record old { events = events }) (sym (append_assoc old.events served.front later)) in
    let first = commits_grown (asker ids) account old served.front in
    let second : CommitsGrow (world_at (asker ids) account mid) (world_at (asker ids) account now) =
    subst (λ (log : Log). CommitsGrow (world_at (asker ids) account mid) (world_at (asker ids) account log)) (sym same) (commits_grown (asker ids) account mid later) in
    let none : second.newer ≡ [] =
    none_before second.newer first.newer (world_at (asker ids) account old).commits
    (sym quiet ∙ second.grown ∙ ap (λ (l : List Commit). second.newer ++ l) first.grown) in
    let led : Leads (world_at (asker ids) account mid).state.committed [] (world_at (asker ids) account now).state.committed =
    subst (λ (l : List Commit). Leads (world_at (asker ids) account mid).state.committed l (world_at (asker ids) account now).state.committed) none second.lead in
    sym served.place ∙ sym led

-- a session finished, or did not
pub finished_or_not : (outcome : Outcome) → (outcome ≡ outcomes.Finished) ⊎ (outcome ≢ outcomes.Finished)
finished_or_not outcomes.Finished = inl refl
finished_or_not outcome = inr (λ is. grind (arith, is))

-- a device is as it was unless the transfer finished
pub kept_if : (outcome : Outcome) (before left : Keeping) → outcome ≢ outcomes.Finished → StaysUnlessFinished before left outcome → left ≡ before
kept_if outcomes.Finished before left other stays = absurd (other refl)
kept_if outcome before left other stays = stays

module _ {kind : WireKind} (ids : Ids) (account : AccountState) (old now : Log) (asked : List Ask) (moment : ℤ) (meta : Result Reply WireEnd) (was is : Line kind)
    (tries : TriesInTurn ids moment meta asked was is)
    (alone : was.wire.alone ≡ true) (told : was.wire.log ≡ Some old) (told_now : is.wire.log ≡ Some now) (may : MayTransfer (asker ids) account old) where
  abbrev key : ℕ
  key = ids.session.0

  abbrev before : World
  before = world_at (asker ids) account old

  abbrev after : World
  after = world_at (asker ids) account now

  pub own_growth : GrowsSo (IsOfSession ids.session.0) old now
  own_growth =
      grows_so (IsOfSession key) (sent_by ids moment tries.tries) (meta ∷ answers_in tries.tries) was.health is.health was.wire is.wire old now tries.tried
      ((λ at setback. refl), requests_of_session (asker ids) moment 1 (asks_in tries.tries)) alone told told_now

  commits : CommitsAlone (asker ids) account old now
  commits =
      commits_alone (asker ids) (sent_by ids moment tries.tries) (meta ∷ answers_in tries.tries) was.health is.health was.wire is.wire tries.tried
      (refl, requests_are_of (asker ids) moment 1 (asks_in tries.tries)) alone old now account told told_now may.unused

  -- it committed nothing
  pub quiet_if : commits_of ids.session.0 (world_at (asker ids) account now).commits ≡ []
      → StaysQuiet (world_at (asker ids) account old) (world_at (asker ids) account now)
  quiet_if none = record {
    committed = commits.stays none;
    commits = commits.commits ∙ ap (λ (l : List Commit). l ++ before.commits) none;
  }

  -- or the upload, over what was committed before it
  pub once_if : (c base : Collection) → (it : UploadedAt ids.session.0 c base (world_at (asker ids) account now).commits)
      → ((world_at (asker ids) account now).commits
      ≡ commit_as ids.session.0 (world_at (asker ids) account old).state.committed (world_at (asker ids) account now).state.committed ∷ (world_at (asker ids) account old).commits)
      × HoldsUpload c (world_at (asker ids) account old).state.committed (world_at (asker ids) account now).state.committed
      × (it.after ≡ (world_at (asker ids) account now).state.committed)
  once_if c base it =
      let one = commits.one (commit_as key base it.after) it.only in (
        commits.commits ∙ ap (λ (l : List Commit). l ++ before.commits) it.only
            ∙ ap (λ (s : Collection). commit_as key s it.after ∷ before.commits) one.0
            ∙ ap (λ (t : Collection). commit_as key before.state.committed t ∷ before.commits) one.1,
        subst (λ (t : Collection). HoldsUpload c before.state.committed t) one.1 (subst (λ (s : Collection). HoldsUpload c s it.after) one.0 it.holds),
        one.1,
      )

  none_or_upload : (c base : Collection) → UploadsAtMostOnce key c base after.commits → CommitsNoneOrUpload key c before after
  none_or_upload c base (inl none) = inl (quiet_if none)
  none_or_upload c base (inr it) = let one = once_if c base it in inr (one.0, one.1)

  -- nothing later is needed for what holds later
  same_later : with_growth now [] ≡ now
  same_later = ap (λ (events : List Event). record now { events = events }) (append-nil now.events)

  pub uploaded : (c : Collection) (left : Keeping) (outcome : Outcome) → Uploaded (asker ids) asked c account old now left outcome
      → (asked ≡ []) ⊎ EndsAfterAsk outcome → TransferTold directions.Upload ids.session.0 ids c account old now left outcome
  uploaded c left outcome it ends = record {
    grows = own_growth;
    growth = it.growth;
    grown = it.grew.grown;
    timely = it.grew.timely;
    committed = none_or_upload c it.base
        (subst (λ (log : Log). UploadsAtMostOnce key c it.base (world_at (asker ids) account log).commits) same_later (it.once [] tt tt));
    early = early_by ends;
    by_direction = λ is. let once = once_if c it.base (it.finished is).committed in (once.0, once.1);
    finished = λ is. let up = it.finished is in (
      up.device,
      up.holds,
      subst (λ (t : Collection). IsCopyOf t up.device) (once_if c it.base up.committed).2 up.copy,
    );
  }
    where
      early_by : (asked ≡ []) ⊎ EndsAfterAsk outcome → StaysQuiet before after ⊎ EndsAfterAsk outcome
      early_by (inl none) = inl (quiet_if (it.unasked none))
      early_by (inr ended) = inr ended

  -- what was committed where a download was served is what is committed now, as nothing was committed
  pub downloaded : (c : Collection) (left : Keeping) (outcome : Outcome) → Downloaded (asker ids) asked account old now left outcome
      → TransferTold directions.Download ids.session.0 ids c account old now left outcome
  downloaded c left outcome it = record {
    grows = own_growth;
    growth = it.growth;
    grown = it.grew.grown;
    timely = it.grew.timely;
    committed = inl (quiet_if never);
    early = inl (quiet_if never);
    by_direction = quiet_if never;
    finished = λ is. let down = it.finished is in (
      down.device,
      down.holds,
      subst (λ (t : Collection). IsCopyOf t down.device) (here down.base down.place) down.copy,
    );
  }
    where
      never : commits_of key after.commits ≡ []
      never = subst (λ (log : Log). commits_of key (world_at (asker ids) account log).commits ≡ []) same_later (it.never [] tt tt)

      here : (base : Collection) → IsServedOver (asker ids) account old now base → base ≡ after.state.committed
      here base place = served_here ids account old now base place (quiet_if never).commits

-- ---- the session
transfer_told : {kind : WireKind} (direction : Direction) (ids : Ids) (account : AccountState) (met new : LoggedState) (was is : TransferOutside kind)
    (k k' : Keeping) (outcome : Outcome) (c : Collection) → k ≡ holding c → was.line.wire.alone ≡ true → was.line.wire.log ≡ Some (log_in met) → is.line.wire.log ≡ Some (log_in new)
    → MayTransfer (asker ids) account (log_in met) → EndsByKind (kinds.Transfer direction) ids k k' was is outcome
    → TransferTold direction ids.session.0 ids c account (log_in met) (log_in new) k' outcome
transfer_told directions.Upload ids account met new was is k k' outcome c known alone begins log may ended =
    let tries = transfer_tried (upload_errand true k k') ids ended.asked was is outcome ended.transfer in
    let it = ended.told (log_in met) begins in
    uploaded ids account (log_in met) (log_in new) ended.asked (moment_told ended.transfer.answer) ended.transfer.meta.answer was.line is.line tries alone begins log may c k' outcome
    (subst (λ (now : Log). Uploaded (asker ids) ended.asked c account (log_in met) now k' outcome) (same_Some it.0 (log_in new) (sym it.1 ∙ log)) (it.2 c account known may))
    (asked_ends k k' ids ended.asked was is outcome ended.transfer)
transfer_told directions.Download ids account met new was is k k' outcome c known alone begins log may ended =
    let tries = transfer_tried (download_errand k k') ids ended.asked was is outcome ended.transfer in
    let it = ended.told (log_in met) begins in
    downloaded ids account (log_in met) (log_in new) ended.asked (moment_told ended.transfer.answer) ended.transfer.meta.answer was.line is.line tries alone begins log may c k' outcome
    (subst (λ (now : Log). Downloaded (asker ids) ended.asked account (log_in met) now k' outcome) (same_Some it.0 (log_in new) (sym it.1 ∙ log)) (it.2 c account known may))

module _ {mishaps : List Mishap} (direction : Direction) (account : AccountState) (sessions : ℕ) (at device_at : ℤ) (d made : Device) (met new : LoggedState) (outcome : Outcome)
    (room : sessions < 18_446_744_073_709_551_615) (session : IsAlone (kinds.Transfer direction) (one_more sessions) at device_at mishaps d made met new outcome)
    (server : IsLinkedServer session.ids.host.digits account sessions met)
    (linked : IsLinkedDevice (world_in session.ids.host.digits account met).state.committed d) where
  abbrev pub host : List ℕ
  host = session.ids.host.digits

  abbrev pub was : World
  was = world_in host account met

  abbrev pub is_now : World
  is_now = world_in host account new

  abbrev pub c : Collection
  c = linked.c

  abbrev known : keeping_of d ≡ holding c
  known = known_is d c linked.holds

  may : MayTransfer (asker session.ids) account (log_in met)
  may = record {
    unused = server.unused session.ids.session.0 (subst (λ (key : ℕ). sessions < key) (sym session.of.session) (next_over sessions room));
    lawful = server.lawful;
  }

  pub told : TransferTold direction session.ids.session.0 session.ids c account (log_in met) (log_in new) (keeping_of made) outcome
  told =
      transfer_told direction session.ids account met new (before_calls CrossesAt crosses_nothing met session.was at mishaps (device_at ∷ []))
      (given_outside session.health (state_of_loop CrossesAt crosses_nothing session.end) session.to_come) (keeping_of d) (keeping_of made) outcome c known session.alone refl
      (ap (λ (z : LoggedState). Some (log_in z)) session.server) may session.ended

  -- ---- the server
  lawful_now : IsLawfulAccount is_now.state
  lawful_now =
      subst (λ (log : Log). IsLawfulAccount (world_at (asker session.ids) account log).state) (sym told.grown)
      (lawful_grown (asker session.ids) account (log_in met) told.growth told.timely server.lawful)

  number_by : CommitsNoneOrUpload session.ids.session.0 c was is_now → pos 0 <ℤ is_now.state.committed.head.usn
  number_by (inl quiet) = subst (λ (s : Collection). pos 0 <ℤ s.head.usn) (sym quiet.committed) server.number
  number_by (inr (one, upload)) = first is_now.state.committed.head.usn upload.replaces.usn
    where
      first : (a : ℤ) → a ≡ pos 1 → pos 0 <ℤ a
      first a is = omega (arith, ints, is)

  pub server_now : IsLinkedServer session.ids.host.digits account (one_more sessions) new
  server_now = record {
    host_is = session.host ∙ server.host_is;
    unused = unused_next host account sessions session.ids.session.0 (log_in met) (log_in new) room session.of.session server.unused told.grows;
    lawful = lawful_now;
    number = number_by told.committed;
  }

  -- ---- who was linked is linked, if the server's schema moment is as it was, or is another than theirs
  abbrev pub KeepsApart : Collection → Type 0
  KeepsApart e = (is_now.state.committed.head.schema ≡ was.state.committed.head.schema) ⊎ (e.head.schema ≢ is_now.state.committed.head.schema)

  each_fresh : (e : Collection) → KeepsApart e → CommitsNoneOrUpload session.ids.session.0 c was is_now → EachNewer (HasFreshSchema e) was is_now
  each_fresh e apart (inl quiet) newer is =
      subst (AllByRecursion (HasFreshSchema e)) (append_cancel_right [] newer was.commits (sym quiet.commits ∙ is)) tt
  each_fresh e apart (inr (one, upload)) newer is =
      subst (AllByRecursion (HasFreshSchema e))
      (append_cancel_right (commit_as session.ids.session.0 was.state.committed is_now.state.committed ∷ []) newer was.commits (sym one ∙ is))
      (apart, tt)

  linked_now : (e : Collection) → KeepsApart e → AreLinked e was.state.committed → AreLinked e is_now.state.committed
  linked_now e apart is =
      subst (λ (log : Log). AreLinked e (world_at (asker session.ids) account log).state.committed) (sym told.grown)
      (linked_grown (asker session.ids) account (log_in met) told.growth told.timely server.lawful e
      (subst (λ (log : Log). EachNewer (HasFreshSchema e) was (world_at (asker session.ids) account log)) told.grown (each_fresh e apart told.committed)) is)

  grown_world : is_now ≡ world_after was (events_of host told.growth)
  grown_world = world_is session.ids account (log_in met) (log_in new) told.growth told.grown

  fits_now : (e : Collection) (step : Reversal) → KeepsApart e → StepFits e step was.state.committed → StepFits e step is_now.state.committed
  fits_now e step apart fits =
      subst (λ (w : World). StepFits e step w.state.committed) (sym grown_world)
      (fits_stay was (events_of host told.growth) e step (subst (EachNewer (HasFreshSchema e) was) grown_world (each_fresh e apart told.committed)) fits)

  -- the same of what a device holds
  abbrev pub HoldsApart : Device → Type 0
  HoldsApart e = (held : Collection) → e.collection ≡ kept_of held → KeepsApart held

  pub others_now : (e : Device) → IsLinkedDevice (world_in session.ids.host.digits account met).state.committed e → HoldsApart e
      → IsLinkedDevice (world_in session.ids.host.digits account new).state.committed e
  others_now e it holds_apart = let apart : KeepsApart it.c = holds_apart it.c it.holds in record {
    c = it.c;
    holds = it.holds;
    named = it.named;
    links = record {
      linked = linked_now it.c apart it.links.linked;
      fit = All-weaker (λ step. StepFits it.c step was.state.committed) (λ step. StepFits it.c step is_now.state.committed)
          (λ step. fits_now it.c step apart) (reversals_in e.undo) it.links.fit;
    };
    suits = it.suits;
  }

  -- ---- the device
  undone : made.undo ≡ []
  undone = ap (λ (x : Device). x.undo) session.rest

  -- it is as it was
  pub kept : outcome ≢ outcomes.Finished → keeping_of made ≡ keeping_of d
  kept other = kept_if outcome (keeping_of d) (keeping_of made) other session.device

  stayed : KeepsApart c → keeping_of made ≡ keeping_of d → IsLinkedDevice is_now.state.committed made
  stayed apart is =
      nothing_to_undo is_now.state.committed c made (kept_is made c (is ∙ known)) undone linked.named (single_of (reversals_in d.undo) (row_under c) c.head.tags linked.suits)
      (linked_now c apart linked.links.linked)

  -- or holds a copy of what is committed
  copied : (device : Collection) → keeping_of made ≡ holding device → IsCopyOf is_now.state.committed device → IsLinkedDevice is_now.state.committed made
  copied device holds copy =
      let lawful : IsCommitted is_now.state.committed = lawful_now.committed in
      nothing_to_undo is_now.state.committed device made (kept_is made device holds) undone
      (subst (λ (rows : Rows). AreNamed (get rows)) (sym copy.rows) lawful.named) (subst (λ (rows : Rows). IsSingle (get rows)) (sym copy.rows) lawful.single)
      (inr (copies_are_linked is_now.state.committed device lawful copy))

  pub made_now : HoldsApart d → IsLinkedDevice (world_in session.ids.host.digits account new).state.committed made
  made_now holds_apart = by (finished_or_not outcome)
    where
      by : (outcome ≡ outcomes.Finished) ⊎ (outcome ≢ outcomes.Finished) → IsLinkedDevice is_now.state.committed made
      by (inl is) = let it = told.finished is in copied it.0 it.1 it.2
      by (inr other) = stayed (holds_apart c linked.holds) (kept other)
