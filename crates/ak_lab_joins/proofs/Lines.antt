-- Each accepted line of a lab's script leaves its devices linked with the server.
use Rattle.std.specs.Prelude.{◌≡◌, ◌≢◌, ◌⊎◌, ℕ, ℤ, ◌+◌, ◌+ℤ◌, true, List, [], ◌∷◌, Some, Result, Ok}
use Rattle.std.proofs.Common.{refl, sym, ap, subst, ◌∙◌, inl, inr, arith}
use Rattle.std.proofs.lemmas.List.Elements.{All-nil}
use Rattle.std.proofs.lemmas.Option.{none-some, same_Some}
use Rattle.ak_any_lines.specs.AnyEnds.{EndsAnyLine}
use Rattle.ak_any_lines.specs.LineSeries.{IsInSteps}
use Rattle.ak_client.specs.declared.outcomes.Outcome.{Outcome}
use Rattle.ak_client.specs.declared.outcomes.Outcome.TheVariants as client_outcomes
use Rattle.ak_desk_lines.specs.DeskStates.{DeskState}
use Rattle.ak_desk_lines.specs.declared.turns.Turn.{Turn}
use Rattle.ak_exchange.specs.Phases.{holding}
use Rattle.ak_faults.specs.Causes.{one_more}
use Rattle.ak_io.specs.declared.lines.Line.{Line}
use Rattle.ak_keep.specs.Collections.{Collection}
use Rattle.ak_keep.specs.Keepers.{Keeping, WhereHeld}
use Rattle.ak_lab_joins.proofs.Alone.{EndsAlone, sync_alone, transfer_alone}
use Rattle.ak_lab_joins.proofs.Counts.{all_room, fresh_goes, line_room}
use Rattle.ak_lab_joins.proofs.CrossedLab.{any_crossed_linked}
use Rattle.ak_lab_joins.proofs.Resent.{resent_linked}
use Rattle.ak_lab_joins.proofs.Devices.{changed_or_old, new_or_old}
use Rattle.ak_lab_joins.proofs.Edits.{finished_so, reviews_are_admitted, reviews_keep_schema, series_so}
use Rattle.ak_lab_joins.proofs.Here as here
use Rattle.ak_lab_joins.proofs.Here.{changed_holds, here_holds}
use Rattle.ak_lab_joins.proofs.Names.{added_unlike, changed_unlike}
use Rattle.ak_lab_joins.proofs.Servers.{committed_is, fails_unset, opened_server, viewed_grows, viewed_server, views_stay_quiet}
use Rattle.ak_lab_joins.proofs.Synced as synced
use Rattle.ak_lab_joins.proofs.Synced.{device_linked, known_is, linked_device}
use Rattle.ak_lab_joins.proofs.Transfers.{download_keeps_schema, transfer_linked}
use Rattle.ak_lab.specs.LabPlans.{Plans, PlansBreak, with_act, with_break, with_mishap}
use Rattle.ak_lab.specs.LabDesks.{EndsDo, EndsReview, desk_of, turn_of}
use Rattle.ak_lab_joins.specs.LabJoins.{AllGoFresh, HasFreshCheck, HasFreshDevice, HasOtherSchema, HasSession, IsAloneFresh, IsLevelFresh, IsLinkedDevice, IsLinkedLab, IsLinkedServer, TakesFreshSchema, TakesFreshSchemas, world_in}
use Rattle.ak_lab.specs.LabRuns.{IsLabOpening}
use Rattle.ak_lab.specs.LabStates.{LabState, at_line, opened_lab, with_changed}
use Rattle.ak_lab.specs.LabSyncs.{EndsSync, server_met, with_fails}
use Rattle.ak_lab_wires.specs.LabSessions.{lab_host}
use Rattle.ak_lab.specs.LabSteps.{Accepts, AddsDevice, Shifts, SideHolds, plan_of}
use Rattle.ak_lab.specs.LineOutcomes.{EndsAs, Says}
use Rattle.ak_lab_wires.specs.declared.lab_sessions.SessionKind.TheVariants as kinds
use Rattle.ak_lab_devices.specs.Devices.{as_downloaded, device_of, keeping_of, new_device}
use Rattle.ak_lab_devices.specs.declared.devices.Device.{Device}
use Rattle.ak_lab_devices.specs.declared.plans.Act.{Act}
use Rattle.ak_lab_devices.specs.declared.plans.Act.TheVariants as acts
use Rattle.ak_line_runs.specs.LineRuns.{Accepted}
use Rattle.ak_line_runs.specs.LineTexts.{is_skipped_line}
use Rattle.ak_sync_in_memory.specs.Copies.{IsViewed}
use Rattle.ak_sync_in_memory.specs.declared.mishaps.What.{What}
use Rattle.ak_lab_lines.specs.LabLines.{lab_line_of}
use Rattle.ak_lab_lines.specs.declared.lab_lines.Direction.TheVariants as directions
use Rattle.ak_lab_lines.specs.declared.lab_lines.LabLine.{LabLine}
use Rattle.ak_lab_lines.specs.declared.lab_lines.LabLine.TheVariants as lines
use Rattle.ak_lab_lines.specs.declared.lab_lines.Side.{Side}
use Rattle.ak_lab_lines.specs.declared.lab_lines.Side.TheVariants as sides
use Rattle.ak_lab_devices.specs.NewReviews.{EndsReviews, with_reviews}
use Rattle.ak_desk_language.specs.declared.any_lines.AnyLine.{AnyLine}
use Rattle.ak_sync_in_memory.specs.Entries.{LoggedState, account_opened}
use Rattle.ak_merge.proofs.EditBuildingLaws.{unedited_is_admitted}
use Rattle.ak_merge.proofs.FirstLinks.{copies_are_linked}
use Rattle.ak_merge.specs.Commits.{IsCommitted}
use Rattle.ak_merge.specs.EditBuilding.{unedited}
use Rattle.ak_merge.specs.Undoing.{StepFits}
use Rattle.ak_openings.specs.declared.whole_collections.Opening.{Opening}
use Rattle.ak_outcomes.specs.OutcomeTexts.{outcome_text}
use Rattle.ak_protocol.specs.Accounts.{AccountState}
use Rattle.ak_desk_texts.specs.declared.answers.DeskAnswer.{DeskAnswer}
use Rattle.ak_desk_texts.specs.declared.line_refusals.LineRefusal.{LineRefusal}

-- a line of the desk is a series of steps
abbrev pub LinesStep : Type 0
LinesStep = (line : AnyLine) (t : Turn) (was now : DeskState) (result : Result DeskAnswer LineRefusal)
    → EndsAnyLine line t was now result → WhereHeld was.keeping (λ c. IsInSteps t.at c was now)

-- what the server of a lab committed
abbrev pub base_of : AccountState → LabState → Collection
base_of account s = (world_in lab_host account s.server).state.committed

-- ---- the lab that is opened
pub opened_linked : (opening : Opening) → IsLabOpening opening → IsLinkedLab (account_opened opening) (opened_lab opening)
opened_linked opening is = record {
  server = opened_server opening is;
  names = tt;
  devices = λ name d found. absurd (none-some d found);
}

-- ---- views
-- the devices are linked with the server once it was viewed
module _ (account : AccountState) (s : LabState) (server : LoggedState) (linked : IsLinkedLab account s) (viewed : IsViewed s.server server) where
  pub server_viewed : IsLinkedServer lab_host account s.sessions server
  server_viewed = viewed_server lab_host account s.server server (viewed_grows s.server server viewed) s.sessions linked.server

  pub base_viewed : (world_in lab_host account server).state.committed ≡ base_of account s
  base_viewed = (views_stay_quiet lab_host account s.server server (viewed_grows s.server server viewed)).committed

  pub device_viewed : (d : Device) → IsLinkedDevice (base_of account s) d → IsLinkedDevice (world_in lab_host account server).state.committed d
  device_viewed d is = subst (λ (base : Collection). IsLinkedDevice base d) (sym base_viewed) is

  pub lab_viewed : IsLinkedLab account (record s { server = server })
  lab_viewed = record { server = server_viewed; names = linked.names; devices = λ name d found. device_viewed d (linked.devices name d found) }

-- ---- a device that was changed
pub changed_linked : (account : AccountState) (s : LabState) (made : Device) → IsLinkedLab account s → IsLinkedDevice (base_of account s) made
    → IsLinkedLab account (with_changed made s)
changed_linked account s made linked is = record {
  server = linked.server;
  names = changed_unlike made s.devices linked.names;
  devices = λ name d found. by name d (changed_or_old made s.devices name d found);
}
  where
    by : (name : List ℕ) (d : Device) → (made ≡ d) ⊎ (device_of name s.devices ≡ Some d) → IsLinkedDevice (base_of account s) d
    by name d (inl same) = subst (λ (x : Device). IsLinkedDevice (base_of account s) x) same is
    by name d (inr found) = linked.devices name d found

-- ---- a new device
copy_linked : (base : Collection) (name : List ℕ) → IsCommitted base → IsLinkedDevice base (new_device name base)
copy_linked base name lawful = record {
  c = as_downloaded base;
  holds = refl;
  named = lawful.named;
  links = record {
    linked = inr (copies_are_linked base (as_downloaded base) lawful (record { rows = refl; head = refl }));
    fit = All-nil (λ step. StepFits (as_downloaded base) step base);
  };
  suits = lawful.single;
}

device_added : (account : AccountState) (name : List ℕ) (s t : LabState) → IsLinkedLab account s → AddsDevice name s t → IsLinkedLab account t
device_added account name s t linked adds =
    let base : Collection = base_of account s in
    let same : adds.committed ≡ base =
    same_Some adds.committed base (sym adds.is ∙ committed_is lab_host account s.sessions s.server linked.server) in
    subst (IsLinkedLab account) (sym adds.left) (record {
      server = server_viewed account s t.server linked adds.read;
      names = added_unlike s.devices (new_device name adds.committed) linked.names adds.new;
      devices = λ other d found. by same other d (new_or_old (new_device name adds.committed) s.devices other d found);
    })
  where
    by : adds.committed ≡ base_of account s → (other : List ℕ) (d : Device) → (new_device name adds.committed ≡ d) ⊎ (device_of other s.devices ≡ Some d)
        → IsLinkedDevice (world_in lab_host account t.server).state.committed d
    by same other d (inl is) =
        device_viewed account s t.server linked adds.read d
        (subst (λ (x : Device). IsLinkedDevice (base_of account s) x) (ap (new_device name) (sym same) ∙ is)
        (copy_linked (base_of account s) name linked.server.lawful.committed))
    by same other d (inr found) = device_viewed account s t.server linked adds.read d (linked.devices other d found)

-- ---- another clock
shifted : (account : AccountState) (name : List ℕ) (by : ℤ) (s t : LabState) → IsLinkedLab account s → Shifts name by s t → IsLinkedLab account t
shifted account name by s t linked shifts =
    let it = linked.devices name shifts.d shifts.found in
    subst (IsLinkedLab account) (sym shifts.left)
    (changed_linked account s (record shifts.d { shift = by }) linked
    (record { c = it.c; holds = it.holds; named = it.named; links = it.links; suits = it.suits }))

-- ---- what is planned for a device is no part of what it holds
planned : (account : AccountState) (name : List ℕ) (change : Device → Device) (s t : LabState) → IsLinkedLab account s → Plans name change s t
    → ((d : Device) → IsLinkedDevice (base_of account s) d → IsLinkedDevice (base_of account s) (change d)) → IsLinkedLab account t
planned account name change s t linked plans keeps =
    subst (IsLinkedLab account) (sym plans.left) (changed_linked account s (change plans.d) linked (keeps plans.d (linked.devices name plans.d plans.found)))

disturbed : (base : Collection) (call : ℕ) (what : What) (d : Device) → IsLinkedDevice base d → IsLinkedDevice base (with_mishap call what d)
disturbed base call what d it = record { c = it.c; holds = it.holds; named = it.named; links = it.links; suits = it.suits }

acted : (base : Collection) (call line : ℕ) (act : Act) (d : Device) → IsLinkedDevice base d → IsLinkedDevice base (with_act call line act d)
acted base call line act d it = record { c = it.c; holds = it.holds; named = it.named; links = it.links; suits = it.suits }

broken : (base : Collection) (d : Device) → IsLinkedDevice base d → IsLinkedDevice base (with_break d)
broken base d it = record { c = it.c; holds = it.holds; named = it.named; links = it.links; suits = it.suits }

break_planned : (account : AccountState) (side : Side) (s t : LabState) → IsLinkedLab account s → PlansBreak side s t → IsLinkedLab account t
break_planned account sides.Server s t linked left = subst (IsLinkedLab account) (sym left) (record { server = linked.server; names = linked.names; devices = linked.devices })
break_planned account (sides.Device name) s t linked plans = planned account name with_break s t linked plans (broken (base_of account s))

-- ---- new reviews, and lines of the desk
reviewed : (account : AccountState) (name : List ℕ) (card ease : ℤ) (count : ℕ) (s t : LabState) → IsLinkedLab account s
    → EndsReview name (plan_of card ease count) s t (Ok tt) → IsLinkedLab account t
reviewed account name card ease count s t linked ends =
    let it = device_linked (base_of account s) ends.d (linked.devices name ends.d ends.found) in
    let at : EndsReviews (s.clock +ℤ ends.d.shift) (plan_of card ease count) (holding it.c) (keeping_of ends.made) ends.d.undo ends.made.undo (Ok tt) =
    subst (λ (k : Keeping). EndsReviews (s.clock +ℤ ends.d.shift) (plan_of card ease count) k (keeping_of ends.made) ends.d.undo ends.made.undo (Ok tt)) it.holds ends.ends in
    let adds = at.done in
    subst (IsLinkedLab account) (sym ends.left)
    (changed_linked account s ends.made linked
    (linked_device (base_of account s) ends.made
    (finished_so (s.clock +ℤ ends.d.shift) it.c (base_of account s) (with_reviews adds.reviews (unedited it.c)) (keeping_of ends.made) ends.d.undo ends.made.undo
    (reviews_are_admitted it.c (plan_of card ease count) _ count adds.reviews (unedited it.c) refl adds.planned (unedited_is_admitted it.c it.linked.named))
    adds.done it.linked (inl (reviews_keep_schema (s.clock +ℤ ends.d.shift) it.c adds.reviews (keeping_of ends.made) ends.d.undo ends.made.undo adds.done)))))

obeyed : LinesStep → (account : AccountState) (name text : List ℕ) (s t : LabState) (result : Result DeskAnswer LineRefusal) → IsLinkedLab account s
    → EndsDo name text s t result → HasFreshDevice account name s t → IsLinkedLab account t
obeyed steps account name text s t result linked ends fresh =
    let it = device_linked (base_of account s) ends.d (linked.devices name ends.d ends.found) in
    let at : ℤ = s.clock +ℤ ends.d.shift in
    let step : IsInSteps at it.c (desk_of ends.d) (desk_of ends.made) =
    subst (λ (k : Keeping). WhereHeld k (λ c. IsInSteps at c (desk_of ends.d) (desk_of ends.made))) it.holds
    (steps ends.said (turn_of at ends.d) (desk_of ends.d) (desk_of ends.made) result ends.ends) in
    subst (IsLinkedLab account) (sym ends.left)
    (changed_linked account s ends.made linked
    (linked_device (base_of account s) ends.made (series_so at it.c (base_of account s) (desk_of ends.d) (desk_of ends.made) it.holds step it.linked
    (λ after held. fresh it.c after (here_holds name s ends.d it.c ends.found it.holds)
    (changed_holds name s t ends.d ends.made after (ap (λ (x : LabState). x.devices) ends.left) ends.found (ap (λ (x : Device). x.name) ends.rest) held)))))

-- ---- what is looked at
looked : (account : AccountState) (side : Side) (s t : LabState) (c : Collection) → IsLinkedLab account s → SideHolds side s t c → IsLinkedLab account t
looked account sides.Server s t c linked (committed, reads) =
    subst (IsLinkedLab account) (sym reads.left) (lab_viewed account s t.server linked reads.viewed)
looked account (sides.Device name) s t c linked holds = subst (IsLinkedLab account) (sym holds.0) linked

-- ---- a sync
-- a sync that is told has an outcome with a text
pub told_enough : (outcome : Outcome) (text : List ℕ) → outcome_text outcome ≡ Some text → outcome ≢ client_outcomes.Memory
told_enough outcome text told is = none-some text (sym (ap outcome_text is) ∙ told)

module _ (account : AccountState) (name : List ℕ) (s t : LabState) (outcome : Outcome) (linked : IsLinkedLab account s) (room : HasSession s)
    (ends : EndsAlone kinds.Sync name s t outcome) (enough : outcome ≢ client_outcomes.Memory) where
  abbrev pub same_host : lab_host ≡ ends.session.ids.host.digits
  same_host = here.same_host kinds.Sync account name s t outcome linked ends

  pub server_here : IsLinkedServer ends.session.ids.host.digits account s.sessions (server_met kinds.Sync s)
  server_here = here.server_here kinds.Sync account name s t outcome linked ends

  abbrev pub device_here : IsLinkedDevice (world_in ends.session.ids.host.digits account s.server).state.committed ends.d
  device_here = here.device_here kinds.Sync account name s t outcome linked ends

  server_left : IsLinkedServer lab_host account (one_more s.sessions) t.server
  server_left =
      subst (λ (h : List ℕ). IsLinkedServer h account (one_more s.sessions) t.server) (sym same_host)
      (fails_unset ends.session.ids.host.digits account (one_more s.sessions) t.server ends.fails_left
      (synced.server_now account s.sessions s.clock (s.clock +ℤ ends.d.shift) ends.d ends.made (server_met kinds.Sync s) (with_fails ends.fails_left t.server) outcome room ends.session server_here device_here))

  -- the schema moment of a device whose sanity check was bad is not the server's
  other_here : HasOtherSchema account name s t → synced.HasOther account s.sessions s.clock (s.clock +ℤ ends.d.shift) ends.d ends.made (server_met kinds.Sync s) (with_fails ends.fails_left t.server) outcome room ends.session server_here device_here
  other_here other left kept is =
      other left (here.left_holds kinds.Sync account name s t outcome linked ends left (known_is ends.made left kept))
      (is ∙ ap (λ (base : Collection). base.head.schema) (here.base_here kinds.Sync account name s t outcome linked ends))

  pub check_here : HasFreshCheck account name s t outcome
      → synced.HasOtherAt account s.sessions s.clock (s.clock +ℤ ends.d.shift) ends.d ends.made (server_met kinds.Sync s) (with_fails ends.fails_left t.server) outcome room ends.session server_here device_here outcome
  check_here fresh bad = other_here (fresh bad)

  made_left : HasFreshCheck account name s t outcome → IsLinkedDevice (world_in lab_host account t.server).state.committed ends.made
  made_left fresh =
      subst (λ (h : List ℕ). IsLinkedDevice (world_in h account t.server).state.committed ends.made) (sym same_host)
      (synced.device_now account s.sessions s.clock (s.clock +ℤ ends.d.shift) ends.d ends.made (server_met kinds.Sync s) (with_fails ends.fails_left t.server) outcome room ends.session server_here device_here (check_here fresh))

  other_left : (e : Device) → IsLinkedDevice (base_of account s) e → IsLinkedDevice (world_in lab_host account t.server).state.committed e
  other_left e it =
      subst (λ (h : List ℕ). IsLinkedDevice (world_in h account t.server).state.committed e) (sym same_host)
      (synced.others_now account s.sessions s.clock (s.clock +ℤ ends.d.shift) ends.d ends.made (server_met kinds.Sync s) (with_fails ends.fails_left t.server) outcome room ends.session server_here device_here
      e (here.linked_here kinds.Sync account name s t outcome linked ends e it))

  pub sync_linked : HasFreshCheck account name s t outcome → IsLinkedLab account t
  sync_linked fresh =
      subst (IsLinkedLab account) (sym ends.left) (record {
        server = server_left;
        names = changed_unlike ends.made s.devices linked.names;
        devices = λ other d found. by other d (changed_or_old ends.made s.devices other d found);
      })
    where
      by : (other : List ℕ) (d : Device) → (ends.made ≡ d) ⊎ (device_of other s.devices ≡ Some d) → IsLinkedDevice (world_in lab_host account t.server).state.committed d
      by other d (inl is) = subst (λ (x : Device). IsLinkedDevice (world_in lab_host account t.server).state.committed x) is (made_left fresh)
      by other d (inr found) = other_left d (linked.devices other d found)

-- a sync between whose calls something may come
synced_linked : (account : AccountState) (name : List ℕ) (s t : LabState) (crossed : List (List ℕ)) (outcome : Outcome) → IsLinkedLab account s → HasSession s
    → EndsSync name s t crossed outcome → outcome ≢ client_outcomes.Memory → IsAloneFresh account name s t ⊎ IsLevelFresh account s t → IsLinkedLab account t
synced_linked account name s t crossed outcome linked room ends enough (inl alone) =
    sync_linked account name s t outcome linked room (sync_alone name s t crossed outcome ends alone.0) enough (alone.1 crossed outcome ends)
synced_linked account name s t crossed outcome linked room ends enough (inr level) = any_crossed_linked account name s t crossed outcome linked room ends level

-- ---- a line
said_linked : LinesStep → (account : AccountState) (said : LabLine) (s t : LabState) (printed : List (List ℕ)) → IsLinkedLab account s → HasSession s
    → Accepts said s t printed → TakesFreshSchema account said s t → IsLinkedLab account t
said_linked steps account (lines.Clock at) s t printed linked room (in_time, left, none) fresh =
    subst (IsLinkedLab account) (sym left) (record { server = linked.server; names = linked.names; devices = linked.devices })
said_linked steps account (lines.Device name) s t printed linked room (adds, none) fresh = device_added account name s t linked adds
said_linked steps account (lines.Shift name by) s t printed linked room (shifts, none) fresh = shifted account name by s t linked shifts
said_linked steps account (lines.Review name card ease count) s t printed linked room (ends, none) fresh = reviewed account name card ease count s t linked ends
said_linked steps account (lines.Do name text) s t printed linked room (answer, ends, is) fresh = obeyed steps account name text s t (Ok answer) linked ends fresh
said_linked steps account (lines.Sync name) s t printed linked room (outcome, text, crossed, ends, told, is) fresh =
    synced_linked account name s t crossed outcome linked room ends (told_enough outcome text told) fresh
said_linked steps account (lines.Disturb name call what) s t printed linked room (plans, none) fresh = planned account name (with_mishap call what) s t linked plans (disturbed (base_of account s) call what)
said_linked steps account (lines.Cross name call other) s t printed linked room (o, found, plans, none) fresh =
    planned account name (with_act call s.server.line (acts.Cross other)) s t linked plans (acted (base_of account s) call s.server.line (acts.Cross other))
said_linked steps account (lines.Replay name call from count) s t printed linked room (has, plans, none) fresh =
    planned account name (with_act call s.server.line (acts.Replay from count)) s t linked plans (acted (base_of account s) call s.server.line (acts.Replay from count))
said_linked steps account (lines.Resend from count) s t printed linked room resends fresh = resent_linked account from count s t printed linked resends fresh
said_linked steps account (lines.Break side) s t printed linked room (plans, none) fresh = break_planned account side s t linked plans
said_linked steps account (lines.Transfer directions.Upload name) s t printed linked room (outcome, text, ends, told, is) fresh =
    transfer_linked account directions.Upload name s t outcome linked room (transfer_alone directions.Upload name s t outcome ends) fresh
said_linked steps account (lines.Transfer directions.Download name) s t printed linked room (outcome, text, ends, told, is) fresh =
    let alone = transfer_alone directions.Download name s t outcome ends in
    transfer_linked account directions.Download name s t outcome linked room alone
    (inl (download_keeps_schema account name s t outcome linked room alone))
said_linked steps account (lines.Show side what) s t printed linked room (c, holds, is) fresh = looked account side s t c linked holds
said_linked steps account (lines.Count side) s t printed linked room (c, holds, is) fresh = looked account side s t c linked holds
said_linked steps account (lines.Requests name) s t printed linked room is fresh = subst (IsLinkedLab account) (sym is.0) linked

-- a line says one thing
pub says_one : (line : Line) (one other : LabLine) → Says line one → Says line other → one ≡ other
says_one line one other (goes, text, is, said) (goes', text', is', said') =
    let same : text ≡ text' = same_Some text text' (sym is ∙ is') in
    same_Some one other (sym said ∙ ap lab_line_of same ∙ said')

pub skips_nothing : (line : Line) (said : LabLine) → Says line said → is_skipped_line line ≡ true → ⊥
skips_nothing line said says skipped = let at = says.0 in grind (arith, at, skipped)

-- what comes to the server later is written down with another line
pub at_line_linked : (account : AccountState) (number : ℕ) (s : LabState) → IsLinkedLab account s → IsLinkedLab account (at_line number s)
at_line_linked account number s linked = record {
  server = record {
    host_is = linked.server.host_is;
    unused = linked.server.unused;
    lawful = linked.server.lawful;
    number = linked.server.number;
  };
  names = linked.names;
  devices = linked.devices;
}

pub line_linked : LinesStep → (account : AccountState) (number : ℕ) (line : Line) (s t : LabState) (printed : List (List ℕ)) → IsLinkedLab account s → HasSession s
    → EndsAs number line s t (Accepted printed) → TakesFreshSchemas account number line s t → IsLinkedLab account t
line_linked steps account number line s t printed linked room (inl nothing) fresh =
    subst (IsLinkedLab account) (sym nothing.0) (at_line_linked account number s linked)
line_linked steps account number line s t printed linked room (inr (said, says, accepts)) fresh =
    said_linked steps account said (at_line number s) t printed (at_line_linked account number s linked) room accepts (fresh said says)

-- ---- all lines
pub all_linked : LinesStep → (account : AccountState) (number : ℕ) (all : List Line) (s t : LabState) (printed : List (List ℕ)) → IsLinkedLab account s
    → HasSession t → AllGoFresh account number all s t printed → IsLinkedLab account t
all_linked steps account number [] s t printed linked room (same, none) = subst (IsLinkedLab account) (sym same) linked
all_linked steps account number (line ∷ more) s t printed linked room (mid, first, others, ends, fresh, goes, is) =
    let there : HasSession mid = all_room (number + 1) more mid t others (fresh_goes account (number + 1) more mid t others goes) room in
    all_linked steps account (number + 1) more mid t others
    (line_linked steps account number line s mid first linked (line_room number line s mid first ends there) ends fresh) room goes
