-- As long as nothing is uploaded in a lab, the schema moment of each device is at least the server's, and each new one is fresh.
use Rattle.std.specs.List.{AllByRecursion}
use Rattle.std.specs.Prelude.{◌≡◌, ◌≢◌, ◌⊎◌, ℕ, ℤ, ◌+◌, ◌≤ℤ◌, ◌<ℤ◌, ◌+ℤ◌, Bool, true, false, if◌then◌else◌, List, [], ◌∷◌, ◌++◌, Some, Result, Ok}
use Rattle.std.proofs.Common.{refl, sym, ap, subst, ◌∙◌, inl, inr, arith}
use Rattle.std.proofs.lemmas.Int.{ints}
use Rattle.std.proofs.lemmas.Option.{none-some, same_Some}
use Rattle.ak_client.specs.Syncs.{HasRaised, KeepsDevice}
use Rattle.ak_client.specs.declared.outcomes.Outcome.{Outcome}
use Rattle.ak_client.specs.declared.outcomes.Outcome.TheVariants as outcomes
use Rattle.ak_desk_lines.specs.DeskStates.{DeskState}
use Rattle.ak_any_lines.specs.LineSeries.{IsInSteps}
use Rattle.ak_desk_lines.specs.LineSteps.{IsOneStep}
use Rattle.ak_device.specs.Devices.{advanced_moment, moments_raised}
use Rattle.ak_base.specs.Limits.{last_moment}
use Rattle.ak_base.specs.declared.heads.Head.{Head}
use Rattle.ak_edit.specs.Ends.{IsFinished}
use Rattle.ak_edit.specs.Undos.{IsLatestUndone}
use Rattle.ak_exchange.specs.Phases.{holding}
use Rattle.ak_io.specs.declared.lines.Line.{Line}
use Rattle.ak_keep.specs.Collections.{Collection, Holding}
use Rattle.ak_keep.specs.Keepers.{Keeping, WhereHeld, changed}
use Rattle.ak_keep.specs.Marks.{WithMark}
use Rattle.ak_lab.specs.LabPlans.{Plans, Resends, with_act, with_break, with_mishap}
use Rattle.ak_lab_wires.specs.declared.lab_sessions.SessionKind.TheVariants as kinds
use Rattle.ak_lab.specs.LabDesks.{EndsDo, EndsReview, desk_of, turn_of}
use Rattle.ak_lab.specs.LabRuns.{IsLabOpening}
use Rattle.ak_lab.specs.LabStates.{LabState, at_line, opened_lab}
use Rattle.ak_lab.specs.LabSyncs.{server_met, with_fails}
use Rattle.ak_lab_wires.specs.LabSessions.{lab_host}
use Rattle.ak_lab.specs.LabSteps.{Accepts, AddsDevice, SideHolds, plan_of}
use Rattle.ak_lab.specs.LineOutcomes.{EndsAs}
use Rattle.ak_lab_devices.proofs.Places.{found_has_name}
use Rattle.ak_lab_devices.specs.Devices.{as_downloaded, device_of, keeping_of, new_device, with_device}
use Rattle.ak_lab_devices.specs.declared.devices.Device.{Device}
use Rattle.ak_lab_devices.specs.declared.plans.Act.TheVariants as acts
use Rattle.ak_lab_joins.proofs.Alone.{EndsAlone, sync_alone, transfer_alone}
use Rattle.ak_lab_joins.proofs.Counts.{all_room, line_room}
use Rattle.ak_lab_joins.proofs.CrossedLab.{any_crossed_ordered, sync_finishes}
use Rattle.ak_lab_joins.proofs.NoUploads.{resent_fresh, resent_schema}
use Rattle.ak_lab_joins.proofs.Unloaded.{line_none}
use Rattle.ak_lab_joins.proofs.Plain.{at_line_plans, line_plans, says_no_act}
use Rattle.ak_lab_joins.proofs.Devices.{changed_found, changed_or_old, new_or_old}
use Rattle.ak_lab_joins.proofs.Edits.{reviews_keep_schema, through_holds}
use Rattle.ak_lab_joins.proofs.Lines as law_lines
use Rattle.ak_lab_joins.proofs.Lines.{LinesStep, at_line_linked, base_viewed, line_linked, opened_linked, says_one, skips_nothing, told_enough}
use Rattle.ak_lab_joins.proofs.Servers.{committed_is, opened_schema}
use Rattle.ak_lab_joins.proofs.Synced as synced
use Rattle.ak_lab_joins.proofs.Synced.{held_once, holds_is, kept_is, known_is, raised_past}
use Rattle.ak_lab_joins.proofs.Transferred.{finished_or_not}
use Rattle.ak_lab_joins.proofs.Transfers.{copies, download_keeps_schema, held_still}
use Rattle.ak_lab_joins.specs.LabJoins.{AllGoFresh, DeviceHolds, HasFreshCheck, HasFreshDevice, HasNoPlans, HasNoUpload, HasOrderedSchemas, HasSession, IsFreshSchema, IsLevelFresh, IsLinkedDevice, IsLinkedLab, IsPlain, SaysNoUpload, SaysPlain, TakesFreshSchema, TakesFreshSchemas, UploadsNothing, committed_of, ends_at_check, world_in}
use Rattle.ak_lab_devices.specs.RestingKeepers.{Holds, kept_of}
use Rattle.ak_lab_lines.specs.declared.lab_lines.Direction.TheVariants as directions
use Rattle.ak_lab_lines.specs.declared.lab_lines.LabLine.{LabLine}
use Rattle.ak_lab_lines.specs.declared.lab_lines.LabLine.TheVariants as lines
use Rattle.ak_lab_lines.specs.declared.lab_lines.Side.{Side}
use Rattle.ak_lab_lines.specs.declared.lab_lines.Side.TheVariants as sides
use Rattle.ak_lab_devices.specs.NewReviews.{EndsReviews}
use Rattle.ak_line_runs.specs.LineRuns.{Accepted, AllGo}
use Rattle.ak_sync_in_memory.specs.Entries.{account_opened}
use Rattle.ak_merge.proofs.EditFacts.{advanced_past}
use Rattle.ak_merge.specs.Edits.{advanced}
use Rattle.ak_openings.specs.declared.whole_collections.Opening.{Opening}
use Rattle.ak_protocol.specs.Accounts.{AccountState}
use Rattle.ak_desk_texts.specs.declared.answers.DeskAnswer.{DeskAnswer}
use Rattle.ak_desk_texts.specs.declared.line_refusals.LineRefusal.{LineRefusal}

-- ---- what is held
-- a keeper holds one collection
one_held : (kept : WithMark Holding) (one other : Collection) → Holds kept one → Holds kept other → one ≡ other
one_held kept one other is so = same_Some one other (sym is ∙ so)

at_least : (a b : ℤ) → a ≡ b → b ≤ℤ a
at_least a b is = omega (arith, ints, is)

-- what the device of a name holds
held_there : (name : List ℕ) (s : LabState) (d : Device) (c : Collection) → device_of name s.devices ≡ Some d → DeviceHolds name s c → Holds d.collection c
held_there name s d c found (other, is, holds) = subst (λ (x : Device). Holds x.collection c) (same_Some other d (sym is ∙ found)) holds

-- ---- the order
module _ (account : AccountState) (s t : LabState) (ordered : HasOrderedSchemas account s)
    (same : (committed_of account t).head.schema ≡ (committed_of account s).head.schema) where
  -- it stays if each device's moment is at least the server's
  ordered_by : ((name : List ℕ) (c : Collection) → DeviceHolds name t c → (committed_of account s).head.schema ≤ℤ c.head.schema) → HasOrderedSchemas account t
  ordered_by each = record {
    server = subst (λ (schema : ℤ). schema <ℤ last_moment) (sym same) ordered.server;
    devices = λ name c held. subst (λ (schema : ℤ). schema ≤ℤ c.head.schema) (sym same) (each name c held);
  }

  -- and if one device was changed, that one's
  changed_ordered : (made : Device) → t.devices ≡ with_device made s.devices
      → ((c : Collection) → Holds made.collection c → (committed_of account s).head.schema ≤ℤ c.head.schema) → HasOrderedSchemas account t
  changed_ordered made left low = ordered_by each
    where
      by : (name : List ℕ) (d : Device) (c : Collection) → Holds d.collection c → (made ≡ d) ⊎ (device_of name s.devices ≡ Some d)
          → (committed_of account s).head.schema ≤ℤ c.head.schema
      by name d c holds (inl is) = low c (subst (λ (x : Device). Holds x.collection c) (sym is) holds)
      by name d c holds (inr found) = ordered.devices name c (d, found, holds)

      each : (name : List ℕ) (c : Collection) → DeviceHolds name t c → (committed_of account s).head.schema ≤ℤ c.head.schema
      each name c (d, found, holds) = by name d c holds (changed_or_old made s.devices name d (sym (ap (device_of name) left) ∙ found))

pub opened_ordered : (opening : Opening) → IsLabOpening opening → HasOrderedSchemas (account_opened opening) (opened_lab opening)
opened_ordered opening is = record {
  server = opened_schema opening is;
  devices = λ name c held. absurd (none-some held.0 held.1);
}

pub at_line_ordered : (account : AccountState) (number : ℕ) (s : LabState) → HasOrderedSchemas account s → HasOrderedSchemas account (at_line number s)
at_line_ordered account number s ordered = record { server = ordered.server; devices = ordered.devices }

-- the device of a name has at least the server's moment
own_low : (account : AccountState) (name : List ℕ) (s : LabState) (d : Device) (c : Collection) → HasOrderedSchemas account s → device_of name s.devices ≡ Some d
    → d.collection ≡ kept_of c → (committed_of account s).head.schema ≤ℤ c.head.schema
own_low account name s d c ordered found holds = ordered.devices name c (d, found, holds_is d c holds)

-- ---- a line of the desk
by_flag : (b : Bool) (at s c after : ℤ) → after ≡ (if b then advanced at c else c) → s ≤ℤ c → ((after ≡ c) ⊎ (after ≢ s)) × (s ≤ℤ after)
by_flag true at s c after is low =
    let up : s <ℤ advanced at c = advanced_past s at c low in
    (inr (λ same. absurd (over s (advanced at c) up (sym is ∙ same))), least s after (subst (λ (m : ℤ). s <ℤ m) (sym is) up))
  where
    over : (a b : ℤ) → a <ℤ b → b ≡ a → ⊥
    over a b up is = omega (arith, ints, up, is)

    least : (a b : ℤ) → a <ℤ b → a ≤ℤ b
    least a b up = omega (arith, ints, up)
by_flag false at s c after is low = (inl is, subst (λ (m : ℤ). s ≤ℤ m) (sym is) low)

-- what is known of a device's collection after a step
abbrev StaysOver : (s c after : Collection) → Type 0
StaysOver s c after = IsFreshSchema s c after × (s.head.schema ≤ℤ after.head.schema)

kept_over : (s c after : Collection) → s.head.schema ≤ℤ c.head.schema → after.head.schema ≡ c.head.schema → StaysOver s c after
kept_over s c after low is = (inl is, subst (λ (m : ℤ). s.head.schema ≤ℤ m) (sym is) low)

-- what a step leaves of it
record LeavesOver (s c : Collection) (now : Keeping) : Type 0 where
  pub after : Collection
  pub held : now ≡ holding after
  pub over : StaysOver s c after

step_over : (at : ℤ) (s c : Collection) (was now : DeskState) → was.keeping ≡ holding c → IsOneStep at c was now → s.head.schema ≤ℤ c.head.schema
    → LeavesOver s c now.keeping
step_over at s c was now holds (inl same) low = record {
  after = c;
  held = ap (λ (n : DeskState). n.keeping) same ∙ holds;
  over = kept_over s c c low refl;
}
step_over at s c was now holds (inr (inl (edit, admits, done))) low =
    let it = subst (λ (k : Keeping). IsFinished at c edit k now.keeping was.steps now.steps) holds done in
    record { after = it.after; held = it.held; over = by_flag edit.schema at s.head.schema c.head.schema it.after.head.schema it.edited.schema low }
step_over at s c was now holds (inr (inr undone)) low =
    let it = subst (λ (k : Keeping). IsLatestUndone at c k now.keeping was.steps now.steps) holds undone in
    record { after = it.after; held = it.held; over = kept_over s c it.after low it.undone.schema }

-- the schema moment was the same before
fresh_before : (s c d after : Collection) → d.head.schema ≡ c.head.schema → IsFreshSchema s d after → IsFreshSchema s c after
fresh_before s c d after same (inl is) = inl (is ∙ same)
fresh_before s c d after same (inr differs) = inr differs

series_over : (at : ℤ) (s c : Collection) (was now : DeskState) → was.keeping ≡ holding c → IsInSteps at c was now → s.head.schema ≤ℤ c.head.schema
    → LeavesOver s c now.keeping
series_over at s c was now holds series low =
    let came = through_holds at series.through c series.between was series.last holds series.clears in
    let over = step_over at s series.between series.last now came.0 series.step (subst (λ (m : ℤ). s.head.schema ≤ℤ m) (sym came.1) low) in
    record { after = over.after; held = over.held; over = (fresh_before s c series.between over.after came.1 over.over.0, over.over.1) }

module _ (steps : LinesStep) (account : AccountState) (name text : List ℕ) (s t : LabState) (result : Result DeskAnswer LineRefusal) (linked : IsLinkedLab account s)
    (ordered : HasOrderedSchemas account s) (ends : EndsDo name text s t result) where
  abbrev done_of : IsLinkedDevice (committed_of account s) ends.d
  done_of = linked.devices name ends.d ends.found

  left_over : LeavesOver (committed_of account s) done_of.c (keeping_of ends.made)
  left_over =
      let known : keeping_of ends.d ≡ holding done_of.c = known_is ends.d done_of.c done_of.holds in
      series_over (s.clock +ℤ ends.d.shift) (committed_of account s) done_of.c (desk_of ends.d) (desk_of ends.made) known
      (subst (λ (k : Keeping). WhereHeld k (λ c. IsInSteps (s.clock +ℤ ends.d.shift) c (desk_of ends.d) (desk_of ends.made))) known
      (steps ends.said (turn_of (s.clock +ℤ ends.d.shift) ends.d) (desk_of ends.d) (desk_of ends.made) result ends.ends))
      (own_low account name s ends.d done_of.c ordered ends.found done_of.holds)

  after_do : (now : Collection) → Holds ends.made.collection now → StaysOver (committed_of account s) done_of.c now
  after_do now holds =
      subst (StaysOver (committed_of account s) done_of.c)
      (sym (held_once ends.made left_over.after now (kept_is ends.made left_over.after left_over.held) holds)) left_over.over

  do_fresh : HasFreshDevice account name s t
  do_fresh c now was is =
      subst (λ (x : Collection). IsFreshSchema (committed_of account s) x now)
      (one_held ends.d.collection done_of.c c (holds_is ends.d done_of.c done_of.holds) (held_there name s ends.d c ends.found was))
      (after_do now (held_there name t ends.made now now_found is)).0
    where
      now_found : device_of name t.devices ≡ Some ends.made
      now_found =
          ap (λ (x : LabState). device_of name x.devices) ends.left
          ∙ changed_found ends.made ends.d s.devices name (ap (λ (x : Device). x.name) ends.rest ∙ found_has_name name s.devices ends.d ends.found) ends.found

  do_ordered : HasOrderedSchemas account t
  do_ordered =
      changed_ordered account s t ordered (ap (λ (x : LabState). (committed_of account x).head.schema) ends.left) ends.made
      (ap (λ (x : LabState). x.devices) ends.left) (λ now holds. (after_do now holds).1)

-- ---- new reviews
module _ (account : AccountState) (name : List ℕ) (card ease : ℤ) (count : ℕ) (s t : LabState) (linked : IsLinkedLab account s) (ordered : HasOrderedSchemas account s)
    (ends : EndsReview name (plan_of card ease count) s t (Ok tt)) where
  abbrev reviewed_of : IsLinkedDevice (committed_of account s) ends.d
  reviewed_of = linked.devices name ends.d ends.found

  abbrev at : ℤ
  at = s.clock +ℤ ends.d.shift

  ended : EndsReviews at (plan_of card ease count) (holding reviewed_of.c) (keeping_of ends.made) ends.d.undo ends.made.undo (Ok tt)
  ended =
      subst (λ (k : Keeping). EndsReviews at (plan_of card ease count) k (keeping_of ends.made) ends.d.undo ends.made.undo (Ok tt)) (known_is ends.d reviewed_of.c reviewed_of.holds) ends.ends

  reviewed_low : (now : Collection) → Holds ends.made.collection now → (committed_of account s).head.schema ≤ℤ now.head.schema
  reviewed_low now holds =
      let done = ended.done.done in
      subst (λ (x : Collection). (committed_of account s).head.schema ≤ℤ x.head.schema) (sym (held_once ends.made done.after now (kept_is ends.made done.after done.held) holds))
      (subst (λ (schema : ℤ). (committed_of account s).head.schema ≤ℤ schema)
      (sym (reviews_keep_schema at reviewed_of.c ended.done.reviews (keeping_of ends.made) ends.d.undo ends.made.undo done))
      (own_low account name s ends.d reviewed_of.c ordered ends.found reviewed_of.holds))

  reviewed_ordered : HasOrderedSchemas account t
  reviewed_ordered =
      changed_ordered account s t ordered (ap (λ (x : LabState). (committed_of account x).head.schema) ends.left) ends.made (ap (λ (x : LabState). x.devices) ends.left) reviewed_low

-- ---- a sync
module _ (account : AccountState) (name : List ℕ) (s t : LabState) (outcome : Outcome) (linked : IsLinkedLab account s) (room : HasSession s)
    (ordered : HasOrderedSchemas account s) (ends : EndsAlone kinds.Sync name s t outcome) (enough : outcome ≢ outcomes.Memory) where
  abbrev synced_of : IsLinkedDevice (committed_of account s) ends.d
  synced_of = linked.devices name ends.d ends.found

  abbrev base_synced : Collection
  base_synced = committed_of account s

  low : base_synced.head.schema ≤ℤ synced_of.c.head.schema
  low = own_low account name s ends.d synced_of.c ordered ends.found synced_of.holds

  -- the schema moment after it: at least the server's, and past it after a bad sanity check
  abbrev IsOver : Outcome → Collection → Type 0
  IsOver o now = (base_synced.head.schema ≤ℤ now.head.schema) × (ends_at_check o ≡ true → now.head.schema ≢ base_synced.head.schema)

  stays_over : (o : Outcome) → ends_at_check o ≡ false → (left : Collection) → ends.made.collection ≡ kept_of left → left.head.schema ≡ synced_of.c.head.schema
      → (now : Collection) → Holds ends.made.collection now → IsOver o now
  stays_over o good left kept same now holds = (
    subst (λ (schema : ℤ). base_synced.head.schema ≤ℤ schema) (sym (ap (λ (x : Collection). x.head.schema) (held_once ends.made left now kept holds) ∙ same)) low,
    λ bad. absurd (not_both bad good),
  )
    where
      not_both : {b : Bool} → b ≡ true → b ≡ false → ⊥
      not_both one other = grind (arith, one, other)

  as_it_was : (o : Outcome) → ends_at_check o ≡ false → keeping_of ends.made ≡ keeping_of ends.d → (now : Collection) → Holds ends.made.collection now → IsOver o now
  as_it_was o good same =
      stays_over o good synced_of.c (kept_is ends.made synced_of.c (same ∙ known_is ends.d synced_of.c synced_of.holds)) refl

  raised_over : (o : Outcome) → HasRaised 1 (keeping_of ends.d) (keeping_of ends.made) (Some ((s.clock +ℤ ends.d.shift) ∷ [])) ends.session.to_come
      → (now : Collection) → Holds ends.made.collection now → IsOver o now
  raised_over o raised now holds =
      let left : Collection = record synced_of.c {
        head = record synced_of.c.head { moment = advanced_moment raised.at synced_of.c.head.moment; schema = advanced_moment raised.at synced_of.c.head.schema };
      } in
      let kept : ends.made.collection ≡ kept_of left =
      kept_is ends.made left (raised.raises ∙ ap (changed (moments_raised raised.at)) (known_is ends.d synced_of.c synced_of.holds)) in
      let past : base_synced.head.schema <ℤ now.head.schema =
      subst (λ (x : Collection). base_synced.head.schema <ℤ x.head.schema) (sym (held_once ends.made left now kept holds))
      (raised_past raised.at synced_of.c.head.schema base_synced.head.schema low ordered.server) in
      (least base_synced.head.schema now.head.schema past, λ bad same. other base_synced.head.schema now.head.schema past same)
    where
      least : (a b : ℤ) → a <ℤ b → a ≤ℤ b
      least a b up = omega (arith, ints, up)

      other : (a b : ℤ) → a <ℤ b → b ≡ a → ⊥
      other a b up is = omega (arith, ints, up, is)

  over_by : (o : Outcome) → outcome ≡ o → KeepsDevice 1 (keeping_of ends.d) (keeping_of ends.made) (Some ((s.clock +ℤ ends.d.shift) ∷ [])) ends.session.to_come o
      → (now : Collection) → Holds ends.made.collection now → IsOver o now
  over_by outcomes.Finished is keeps now holds =
      let it = synced.finished_now account s.sessions s.clock (s.clock +ℤ ends.d.shift) ends.d ends.made (server_met kinds.Sync s) (with_fails ends.fails_left t.server) outcome room ends.session
      (law_lines.server_here account name s t outcome linked room ends enough) (law_lines.device_here account name s t outcome linked room ends enough) is in
      stays_over outcomes.Finished refl it.device it.kept it.schema now holds
  over_by (outcomes.BadRow fault) is keeps now holds = raised_over (outcomes.BadRow fault) keeps now holds
  over_by (outcomes.BadCounts client server) is keeps now holds = raised_over (outcomes.BadCounts client server) keeps now holds
  over_by outcomes.NoChanges is keeps now holds = as_it_was outcomes.NoChanges refl keeps now holds
  over_by (outcomes.FullSchema device server) is keeps now holds = as_it_was (outcomes.FullSchema device server) refl keeps now holds
  over_by (outcomes.FullSequence usn) is keeps now holds = as_it_was (outcomes.FullSequence usn) refl keeps now holds
  over_by (outcomes.ClockOff device server) is keeps now holds = as_it_was (outcomes.ClockOff device server) refl keeps now holds
  over_by (outcomes.OwnCheck fault) is keeps now holds = as_it_was (outcomes.OwnCheck fault) refl keeps now holds
  over_by outcomes.Stopped is keeps now holds = as_it_was outcomes.Stopped refl keeps now holds
  over_by (outcomes.Refused status word seen) is keeps now holds = as_it_was (outcomes.Refused status word seen) refl keeps now holds
  over_by outcomes.Lost is keeps now holds = as_it_was outcomes.Lost refl keeps now holds
  over_by outcomes.BadReply is keeps now holds = as_it_was outcomes.BadReply refl keeps now holds
  over_by outcomes.TooManyChunks is keeps now holds = as_it_was outcomes.TooManyChunks refl keeps now holds
  over_by outcomes.Keep is keeps now holds = as_it_was outcomes.Keep refl keeps now holds
  over_by outcomes.Memory is keeps now holds = as_it_was outcomes.Memory refl keeps now holds

  over : (now : Collection) → Holds ends.made.collection now → IsOver outcome now
  over = over_by outcome refl ends.session.device

  pub sync_fresh : HasFreshCheck account name s t outcome
  sync_fresh bad now held = (over now (held_there name t ends.made now now_found held)).1 bad
    where
      now_found : device_of name t.devices ≡ Some ends.made
      now_found =
          ap (λ (x : LabState). device_of name x.devices) ends.left
          ∙ changed_found ends.made ends.d s.devices name (ap (λ (x : Device). x.name) ends.session.rest ∙ found_has_name name s.devices ends.d ends.found) ends.found

  same_schema : (committed_of account t).head.schema ≡ base_synced.head.schema
  same_schema =
      subst (λ (h : List ℕ). (world_in h account t.server).state.committed.head.schema ≡ (world_in h account s.server).state.committed.head.schema) ends.session.of.host
      (synced.schema_stays account s.sessions s.clock (s.clock +ℤ ends.d.shift) ends.d ends.made (server_met kinds.Sync s) (with_fails ends.fails_left t.server) outcome room ends.session
      (law_lines.server_here account name s t outcome linked room ends enough) (law_lines.device_here account name s t outcome linked room ends enough))

  pub sync_ordered : HasOrderedSchemas account t
  sync_ordered = changed_ordered account s t ordered same_schema ends.made (ap (λ (x : LabState). x.devices) ends.left) (λ now holds. (over now holds).0)

-- ---- a download
module _ (account : AccountState) (name : List ℕ) (s t : LabState) (outcome : Outcome) (linked : IsLinkedLab account s) (room : HasSession s)
    (ordered : HasOrderedSchemas account s) (ends : EndsAlone (kinds.Transfer directions.Download) name s t outcome) where
  abbrev downloaded_of : IsLinkedDevice (committed_of account s) ends.d
  downloaded_of = linked.devices name ends.d ends.found

  abbrev base_downloaded : Collection
  base_downloaded = committed_of account s

  same : (committed_of account t).head.schema ≡ base_downloaded.head.schema
  same = download_keeps_schema account name s t outcome linked room ends

  held_is : (it now : Collection) → DeviceHolds name t it → Holds ends.made.collection now → it ≡ now
  held_is it now held holds = one_held ends.made.collection it now (held_there name t ends.made it now_found held) holds
    where
      now_found : device_of name t.devices ≡ Some ends.made
      now_found =
          ap (λ (x : LabState). device_of name x.devices) ends.left
          ∙ changed_found ends.made ends.d s.devices name (ap (λ (x : Device). x.name) ends.session.rest ∙ found_has_name name s.devices ends.d ends.found) ends.found

  still_low : outcome ≢ outcomes.Finished → (now : Collection) → Holds ends.made.collection now → base_downloaded.head.schema ≤ℤ now.head.schema
  still_low other now holds =
      subst (λ (x : Collection). base_downloaded.head.schema ≤ℤ x.head.schema)
      (held_is downloaded_of.c now (held_still account directions.Download name s t outcome linked room ends other) holds)
      (own_low account name s ends.d downloaded_of.c ordered ends.found downloaded_of.holds)

  download_low : (outcome ≡ outcomes.Finished) ⊎ (outcome ≢ outcomes.Finished) → (now : Collection) → Holds ends.made.collection now → base_downloaded.head.schema ≤ℤ now.head.schema
  download_low (inl is) now holds =
      let copy = copies account directions.Download name s t outcome linked room ends is in
      at_least now.head.schema base_downloaded.head.schema
      (sym (ap (λ (x : Collection). x.head.schema) (held_is copy.device now copy.holds holds)) ∙ ap (λ (h : Head). h.schema) copy.copy.head ∙ same)
  download_low (inr other) now holds = still_low other now holds

  download_ordered : HasOrderedSchemas account t
  download_ordered = changed_ordered account s t ordered same ends.made (ap (λ (x : LabState). x.devices) ends.left) (download_low (finished_or_not outcome))

-- ---- what is planned for a device
planned_ordered : (account : AccountState) (name : List ℕ) (change : Device → Device) (s t : LabState) → HasOrderedSchemas account s → Plans name change s t
    → ((d : Device) → (change d).collection ≡ d.collection) → HasOrderedSchemas account t
planned_ordered account name change s t ordered plan same =
    changed_ordered account s t ordered (ap (λ (x : LabState). (committed_of account x).head.schema) plan.left) (change plan.d) (ap (λ (x : LabState). x.devices) plan.left)
    (λ c holds. ordered.devices name c (plan.d, plan.found, subst (λ (k : WithMark Holding). Holds k c) (same plan.d) holds))

-- ---- a new device, and what is looked at
module _ (account : AccountState) (name : List ℕ) (s t : LabState) (linked : IsLinkedLab account s) (ordered : HasOrderedSchemas account s) (adds : AddsDevice name s t) where
  abbrev there : LabState
  there = record s { server = t.server; devices = s.devices ++ new_device name adds.committed ∷ [] }

  is_base : adds.committed ≡ committed_of account s
  is_base = same_Some adds.committed (committed_of account s) (sym adds.is ∙ committed_is lab_host account s.sessions s.server linked.server)

  added_low : (other : List ℕ) (d : Device) (c : Collection) → Holds d.collection c → (new_device name adds.committed ≡ d) ⊎ (device_of other s.devices ≡ Some d)
      → (committed_of account s).head.schema ≤ℤ c.head.schema
  added_low other d c holds (inl is) =
      let own : as_downloaded adds.committed ≡ c = same_Some (as_downloaded adds.committed) c (subst (λ (x : Device). Holds x.collection c) (sym is) holds) in
      at_least c.head.schema (committed_of account s).head.schema
      (sym (ap (λ (x : Collection). x.head.schema) own) ∙ ap (λ (x : Collection). x.head.schema) is_base)
  added_low other d c holds (inr found) = ordered.devices other c (d, found, holds)

  added_ordered : HasOrderedSchemas account t
  added_ordered =
      subst (HasOrderedSchemas account) (sym adds.left)
      (ordered_by account s there ordered (ap (λ (c : Collection). c.head.schema) (base_viewed account s t.server linked adds.read))
      (λ other c held. added_low other held.0 c held.2 (new_or_old (new_device name adds.committed) s.devices other held.0 held.1)))

looked_ordered : (account : AccountState) (side : Side) (s t : LabState) (c : Collection) → IsLinkedLab account s → HasOrderedSchemas account s → SideHolds side s t c
    → HasOrderedSchemas account t
looked_ordered account sides.Server s t c linked ordered (committed, reads) =
    subst (HasOrderedSchemas account) (sym reads.left)
    (ordered_by account s (record s { server = t.server }) ordered (ap (λ (x : Collection). x.head.schema) (base_viewed account s t.server linked reads.viewed)) ordered.devices)
looked_ordered account (sides.Device name) s t c linked ordered holds = subst (HasOrderedSchemas account) (sym holds.0) ordered

-- ---- a line
-- what a line that uploads nothing takes and leaves
abbrev StaysOrdered : AccountState → LabLine → LabState → LabState → Type 0
StaysOrdered account said s t = TakesFreshSchema account said s t × HasOrderedSchemas account t

-- an end at a sanity check has a text
at_check : (outcome : Outcome) → ends_at_check outcome ≡ true → outcome ≢ outcomes.Memory
at_check outcome bad is = not_true (sym (ap ends_at_check is) ∙ bad)
  where
    not_true : false ≡ true → ⊥
    not_true is = grind (arith, is)

pub any_sync_fresh : (account : AccountState) (name : List ℕ) (s t : LabState) (outcome : Outcome) → IsLinkedLab account s → HasSession s → HasOrderedSchemas account s
    → EndsAlone kinds.Sync name s t outcome → HasFreshCheck account name s t outcome
any_sync_fresh account name s t outcome linked room ordered ends bad = sync_fresh account name s t outcome linked room ordered ends (at_check outcome bad) bad

-- why it takes none: nothing is planned and it is plain, or nothing was uploaded and it does not upload
abbrev IsOrderly : LabLine → LabState → Type 0
IsOrderly said s = HasNoPlans s × IsPlain said ⊎ HasNoUpload s.server × UploadsNothing said

-- requests that are sent again where nothing was uploaded
resent_ordered : (account : AccountState) (from count : ℕ) (s t : LabState) (printed : List (List ℕ)) → IsLinkedLab account s → HasOrderedSchemas account s → HasNoUpload s.server
    → Resends from count s t printed → HasOrderedSchemas account t
resent_ordered account from count s t printed linked ordered none resends =
    subst (HasOrderedSchemas account) (sym resends.left)
    (ordered_by account s (record s { server = t.server }) ordered (resent_schema account from count s t printed linked none resends) ordered.devices)

said_ordered : LinesStep → (account : AccountState) (said : LabLine) (s t : LabState) (printed : List (List ℕ)) → IsLinkedLab account s → HasSession s → HasOrderedSchemas account s
    → IsOrderly said s → Accepts said s t printed → StaysOrdered account said s t
said_ordered steps account (lines.Clock moment) s t printed linked room ordered why (in_time, left, none) =
    (tt, subst (HasOrderedSchemas account) (sym left) (record { server = ordered.server; devices = ordered.devices }))
said_ordered steps account (lines.Device name) s t printed linked room ordered why (adds, none) = (tt, added_ordered account name s t linked ordered adds)
said_ordered steps account (lines.Shift name by) s t printed linked room ordered why (shifts, none) = (
  tt,
  changed_ordered account s t ordered (ap (λ (x : LabState). (committed_of account x).head.schema) shifts.left) (record shifts.d { shift = by })
      (ap (λ (x : LabState). x.devices) shifts.left) (λ c holds. ordered.devices name c (shifts.d, shifts.found, holds)),
)
said_ordered steps account (lines.Review name card ease count) s t printed linked room ordered why (ends, none) =
    (tt, reviewed_ordered account name card ease count s t linked ordered ends)
said_ordered steps account (lines.Do name text) s t printed linked room ordered why (answer, ends, is) =
    (do_fresh steps account name text s t (Ok answer) linked ordered ends, do_ordered steps account name text s t (Ok answer) linked ordered ends)
said_ordered steps account (lines.Sync name) s t printed linked room ordered (inl (plans, plain)) (outcome, text, crossed, ends, told, is) = (
  inl (plans name, λ others other ended. any_sync_fresh account name s t other linked room ordered (sync_alone name s t others other ended (plans name))),
  sync_ordered account name s t outcome linked room ordered (sync_alone name s t crossed outcome ends (plans name)) (told_enough outcome text told),
)
said_ordered steps account (lines.Sync name) s t printed linked room ordered (inr (none, quiet)) (outcome, text, crossed, ends, told, is) =
    let fresh : IsLevelFresh account s t = (ordered.server, sync_finishes account false name s t crossed outcome ends linked none) in
    (inr fresh, any_crossed_ordered account name s t crossed outcome linked room ends fresh ordered)
said_ordered steps account (lines.Disturb name call what) s t printed linked room ordered why (plan, none) =
    (tt, planned_ordered account name (with_mishap call what) s t ordered plan (λ d. refl))
said_ordered steps account (lines.Cross name call other) s t printed linked room ordered why (o, found, plan, none) =
    (tt, planned_ordered account name (with_act call s.server.line (acts.Cross other)) s t ordered plan (λ d. refl))
said_ordered steps account (lines.Replay name call from count) s t printed linked room ordered why (has, plan, none) =
    (tt, planned_ordered account name (with_act call s.server.line (acts.Replay from count)) s t ordered plan (λ d. refl))
said_ordered steps account (lines.Resend from count) s t printed linked room ordered (inl (plans, plain)) resends = absurd plain
said_ordered steps account (lines.Resend from count) s t printed linked room ordered (inr (none, quiet)) resends =
    (resent_fresh account from count s t printed linked none resends, resent_ordered account from count s t printed linked ordered none resends)
said_ordered steps account (lines.Break sides.Server) s t printed linked room ordered why (left, none) =
    (tt, subst (HasOrderedSchemas account) (sym left) (record { server = ordered.server; devices = ordered.devices }))
said_ordered steps account (lines.Break (sides.Device name)) s t printed linked room ordered why (plan, none) =
    (tt, planned_ordered account name with_break s t ordered plan (λ d. refl))
said_ordered steps account (lines.Transfer directions.Upload name) s t printed linked room ordered (inl (plans, plain)) accepts = absurd plain
said_ordered steps account (lines.Transfer directions.Upload name) s t printed linked room ordered (inr (none, quiet)) accepts = absurd quiet
said_ordered steps account (lines.Transfer directions.Download name) s t printed linked room ordered why (outcome, text, ends, told, is) =
    (tt, download_ordered account name s t outcome linked room ordered (transfer_alone directions.Download name s t outcome ends))
said_ordered steps account (lines.Show side what) s t printed linked room ordered why (c, holds, is) = (tt, looked_ordered account side s t c linked ordered holds)
said_ordered steps account (lines.Count side) s t printed linked room ordered why (c, holds, is) = (tt, looked_ordered account side s t c linked ordered holds)
said_ordered steps account (lines.Requests name) s t printed linked room ordered why is = (tt, subst (HasOrderedSchemas account) (sym is.0) ordered)

pub line_ordered : LinesStep → (account : AccountState) (number : ℕ) (line : Line) (s t : LabState) (printed : List (List ℕ)) → IsLinkedLab account s → HasSession s
    → HasOrderedSchemas account s → HasNoPlans s → SaysPlain line → EndsAs number line s t (Accepted printed)
    → TakesFreshSchemas account number line s t × HasOrderedSchemas account t × HasNoPlans t
line_ordered steps account number line s t printed linked room ordered plans plain (inl nothing) = (
  λ said says. absurd (skips_nothing line said says nothing.1.0),
  subst (HasOrderedSchemas account) (sym nothing.0) (at_line_ordered account number s ordered),
  line_plans number line s t printed plans (says_no_act line plain) (inl nothing),
)
line_ordered steps account number line s t printed linked room ordered plans plain (inr (said, says, accepts)) =
    let it = said_ordered steps account said (at_line number s) t printed (at_line_linked account number s linked) room (at_line_ordered account number s ordered)
    (inl (at_line_plans number s plans, plain said says)) accepts in (
      λ other again. subst (λ (l : LabLine). TakesFreshSchema account l (at_line number s) t) (says_one line said other says again) it.0,
      it.1,
      line_plans number line s t printed plans (says_no_act line plain) (inr (said, says, accepts)),
    )

-- the same where nothing was uploaded, of a line that does not upload
pub line_unloaded : LinesStep → (account : AccountState) (number : ℕ) (line : Line) (s t : LabState) (printed : List (List ℕ)) → IsLinkedLab account s → HasSession s
    → HasOrderedSchemas account s → HasNoUpload s.server → SaysNoUpload line → EndsAs number line s t (Accepted printed)
    → TakesFreshSchemas account number line s t × HasOrderedSchemas account t × HasNoUpload t.server
line_unloaded steps account number line s t printed linked room ordered none quiet (inl nothing) = (
  λ said says. absurd (skips_nothing line said says nothing.1.0),
  subst (HasOrderedSchemas account) (sym nothing.0) (at_line_ordered account number s ordered),
  line_none account number line s t printed quiet (inl nothing) none,
)
line_unloaded steps account number line s t printed linked room ordered none quiet (inr (said, says, accepts)) =
    let it = said_ordered steps account said (at_line number s) t printed (at_line_linked account number s linked) room (at_line_ordered account number s ordered)
    (inr (none, quiet said says)) accepts in (
      λ other again. subst (λ (l : LabLine). TakesFreshSchema account l (at_line number s) t) (says_one line said other says again) it.0,
      it.1,
      line_none account number line s t printed quiet (inr (said, says, accepts)) none,
    )

-- ---- all lines
all_unloaded : LinesStep → (account : AccountState) (number : ℕ) (all : List Line) (s t : LabState) (printed : List (List ℕ)) → IsLinkedLab account s → HasOrderedSchemas account s
    → HasNoUpload s.server → HasSession t → AllByRecursion SaysNoUpload all → AllGo EndsAs number all s t printed
    → AllGoFresh account number all s t printed × HasOrderedSchemas account t × HasNoUpload t.server
all_unloaded steps account number [] s t printed linked ordered none room quiet (same, nothing) =
    ((same, nothing), subst (HasOrderedSchemas account) (sym same) ordered, subst (λ (x : LabState). HasNoUpload x.server) (sym same) none)
all_unloaded steps account number (line ∷ more) s t printed linked ordered none room quiet (mid, first, others, ends, goes, is) =
    let there : HasSession s = line_room number line s mid first ends (all_room (number + 1) more mid t others goes room) in
    let here = line_unloaded steps account number line s mid first linked there ordered none quiet.0 ends in
    let rest = all_unloaded steps account (number + 1) more mid t others
    (line_linked steps account number line s mid first linked there ends here.0) here.1 here.2 room quiet.1 goes in
    ((mid, first, others, ends, here.0, rest.0, is), rest.1, rest.2)

pub run_unloaded : LinesStep → (opening : Opening) (all : List Line) (s : LabState) (printed : List (List ℕ)) → IsLabOpening opening
    → HasSession s → AllByRecursion SaysNoUpload all → AllGo EndsAs 1 all (opened_lab opening) s printed
    → AllGoFresh (account_opened opening) 1 all (opened_lab opening) s printed × HasOrderedSchemas (account_opened opening) s × HasNoUpload s.server
run_unloaded steps opening all s printed opens room quiet goes =
    all_unloaded steps (account_opened opening) 1 all (opened_lab opening) s printed (opened_linked opening opens) (opened_ordered opening opens) tt room quiet goes
