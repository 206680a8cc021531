-- What a sync of a lab leaves on both sides, and that all devices are linked with the server then.
use Rattle.std.specs.List.{All}
use Rattle.std.specs.Prelude.{◌≡◌, ◌≢◌, ℕ, suc, ℤ, pos, ◌+ℤ◌, ◌<◌, ◌≤ℤ◌, ◌<ℤ◌, true, List, [], ◌∷◌, ◌++◌, length, Option, Some}
use Rattle.std.proofs.Common.{refl, sym, ap, subst, ◌∙◌, inl, inr, arith}
use Rattle.std.proofs.lemmas.Int.{ints}
use Rattle.std.proofs.lemmas.List.Elements.{All-nil, All-weaker}
use Rattle.std.proofs.lemmas.Option.{same_Some}
use Rattle.ak_base.specs.Limits.{last_moment}
use Rattle.ak_base.specs.declared.heads.Head.{Head}
use Rattle.ak_base.specs.declared.heads.Tag.{Tag}
use Rattle.ak_client.specs.Syncs.{EndsBecause, GivesAfter, HasRaised, KeepsDevice, MayBegin, ends_before_finish}
use Rattle.ak_client.specs.declared.outcomes.Outcome.{Outcome}
use Rattle.ak_client.specs.declared.outcomes.Outcome.TheVariants as outcomes
use Rattle.ak_device.specs.Devices.{advanced_moment, moments_raised}
use Rattle.ak_edit.specs.Steps.{reversals_in}
use Rattle.ak_edit.specs.Undos.{SuitsNow}
use Rattle.ak_exchange.specs.Asked.{asker, asks_in}
use Rattle.ak_exchange.specs.Phases.{holding}
use Rattle.ak_faults.specs.Causes.{one_more}
use Rattle.ak_io.specs.Arrivals.{GivesNext}
use Rattle.ak_keep.specs.Collections.{Collection, Holding, collection_of}
use Rattle.ak_keep.specs.Keepers.{Keeping, all_known, changed}
use Rattle.ak_keep.specs.Marks.{WithMark}
use Rattle.ak_lab_joins.proofs.Alone.{IsAlone}
use Rattle.ak_lab_joins.proofs.Edits.{HoldsLinked}
use Rattle.ak_lab_joins.proofs.Syncs as syncs
use Rattle.ak_lab_joins.proofs.Syncs.{CommitsNoneOrJoin}
use Rattle.ak_lab_joins.proofs.Worlds.{GrowsSo, IsOfSession, commit_as, StaysQuiet, others_of_session}
use Rattle.ak_lab_joins.specs.LabJoins.{HasRisen, ends_at_check, IsLinkedDevice, IsLinkedServer, StillHolds, world_in}
use Rattle.ak_lab_devices.specs.Devices.{keeping_of}
use Rattle.ak_lab_devices.specs.declared.devices.Device.{Device}
use Rattle.ak_lab_devices.specs.RestingKeepers.{Holds, kept_of}
use Rattle.ak_sync_in_memory.specs.Entries.{LoggedState, log_in}
use Rattle.ak_call_counts.specs.CallCounts.{no_calls}
use Rattle.ak_sync_in_memory.specs.LoopWires.{health_over, inside_with, loop_kind, state_of_loop}
use Rattle.ak_sync_in_memory.specs.declared.mishaps.Mishap.{Mishap}
use Rattle.ak_lab_wires.specs.CrossedSyncs.{CrossesAt, crosses_nothing}
use Rattle.ak_lab_wires.specs.declared.lab_sessions.SessionKind.TheVariants as kinds
use Rattle.ak_merge.specs.Edits.{Reversal}
use Rattle.ak_merge.specs.Exchanges.{AreExchanged}
use Rattle.ak_keep.specs.Graves.{RowsByName}
use Rattle.ak_merge.specs.Holdings.{AreNamed, IsSingle, SameContent, content_of, row_under}
use Rattle.ak_merge.specs.Links.{AreLinked}
use Rattle.ak_merge.specs.Undoing.{StepFits, StepsSuit}
use Rattle.ak_messages.specs.declared.requests.Ask.{Ask}
use Rattle.ak_protocol.proofs.ContentLaws.{some_of_all}
use Rattle.ak_protocol.proofs.Syncs.{events_leave_unused}
use Rattle.ak_protocol.specs.Accounts.{AccountState}
use Rattle.ak_protocol.specs.Logs.{Commit, Log, World}
use Rattle.ak_protocol.specs.Sessions.{IsMetaOrOther}
use Rattle.ak_protocol.specs.Syncs.{IsUnused}
use Rattle.ak_session.specs.Plans.{planned}
use Rattle.ak_undo.specs.declared.steps.Step.{Step}
use Rattle.ak_client_wire.specs.Wires.{WireState}

-- ---- what a device holds
-- what a device's keeper is known to hold
pub kept_is : (d : Device) (c : Collection) → keeping_of d ≡ holding c → d.collection ≡ kept_of c
kept_is d c is = same_Some d.collection (kept_of c) (ap (λ (k : Keeping). k.told) is)

pub known_is : (d : Device) (c : Collection) → d.collection ≡ kept_of c → keeping_of d ≡ holding c
known_is d c is = ap all_known is

pub holds_is : (d : Device) (c : Collection) → d.collection ≡ kept_of c → Holds d.collection c
holds_is d c is = ap (λ (k : WithMark Holding). collection_of k.current) is

-- the collection of a device is one
pub held_once : (d : Device) (c other : Collection) → d.collection ≡ kept_of c → Holds d.collection other → other ≡ c
held_once d c other is holds = same_Some other c (sym holds ∙ holds_is d c is)

pub linked_device : (s : Collection) (d : Device) → HoldsLinked s (keeping_of d) d.undo → IsLinkedDevice s d
linked_device s d it = record {
  c = it.c;
  holds = kept_is d it.c it.holds;
  named = it.linked.named;
  links = it.linked.links;
  suits = it.linked.suits;
}

pub device_linked : (s : Collection) (d : Device) → IsLinkedDevice s d → HoldsLinked s (keeping_of d) d.undo
device_linked s d it = record {
  c = it.c;
  holds = known_is d it.c it.holds;
  linked = record { named = it.named; links = it.links; suits = it.suits };
}

-- no row stands beside its own grave where an undo list suits
pub single_of : (steps : List Reversal) (at : RowsByName) (tags : List Tag) → StepsSuit steps at tags → IsSingle at
single_of [] at tags suits = suits
single_of (step ∷ steps) at tags suits = suits.0

-- a device with nothing to undo
pub nothing_to_undo : (s c : Collection) (d : Device) → d.collection ≡ kept_of c → d.undo ≡ [] → AreNamed (row_under c) → IsSingle (row_under c) → AreLinked c s
    → IsLinkedDevice s d
nothing_to_undo s c d holds none named single linked = record {
  c = c;
  holds = holds;
  named = named;
  links = record { linked = linked; fit = subst (λ (steps : List Step). All (λ step. StepFits c step s) (reversals_in steps)) (sym none) (All-nil (λ step. StepFits c step s)) };
  suits = subst (λ (steps : List Step). SuitsNow steps c) (sym none) single;
}

-- ---- the session keys
-- the keys past the next one stay unused, if nothing but requests of that one came
pub unused_next : (host : List ℕ) (account : AccountState) (sessions session : ℕ) (old now : Log) → sessions < 18_446_744_073_709_551_615 → session ≡ one_more sessions
    → ((key : ℕ) → sessions < key → IsUnused host key account old) → GrowsSo (IsOfSession session) old now
    → (key : ℕ) → one_more sessions < key → IsUnused host key account now
unused_next host account sessions session old now room own unused grows key over =
    subst (λ (log : Log). IsUnused host key account log) (sym grows.grown)
    (events_leave_unused host key account old (unused key (further sessions key room over)) grows.growth
    (some_of_all (IsMetaOrOther key) host grows.growth
    (others_of_session session key grows.growth (λ same. never (one_more sessions) key over (sym own ∙ same)) grows.all)))
  where
    further : (n key : ℕ) → n < 18_446_744_073_709_551_615 → one_more n < key → n < key
    further n key low high = omega (arith, low, high)

    never : (a b : ℕ) → a < b → a ≡ b → ⊥
    never a b low is = omega (arith, low, is)

-- the next key is past the last one
pub next_over : (n : ℕ) → n < 18_446_744_073_709_551_615 → n < one_more n
next_over n low = omega (arith, low)

-- a list is not one longer than itself
not_one_more : (one : Commit) (commits : List Commit) → commits ≡ one ∷ commits → ⊥
not_one_more one commits is = over (length commits) (ap length is)
  where
    over : (n : ℕ) → n ≡ suc n → ⊥
    over n is = omega (arith, is)

-- ---- a moment that rises
pub raised_past : (at c s : ℤ) → s ≤ℤ c → s <ℤ last_moment → s <ℤ advanced_moment at c
raised_past at c s low early = grind (arith, ints, low, early)

-- a clock that stands still gives one moment
pub stands_still : (device_at at : ℤ) (to_come : Option (List ℤ)) → GivesAfter 1 (Some (device_at ∷ [])) to_come at → at ≡ device_at
stands_still device_at at to_come (mid, earlier, first, next) =
    let given : GivesNext (Some (device_at ∷ [])) to_come at = subst (λ (m : Option (List ℤ)). GivesNext m to_come at) first.1 next in
    given.0

-- ---- the sync
module _ {mishaps : List Mishap} (account : AccountState) (sessions : ℕ) (at device_at : ℤ) (d made : Device) (met new : LoggedState) (outcome : Outcome) (room : sessions < 18_446_744_073_709_551_615)
    (sync : IsAlone kinds.Sync (one_more sessions) at device_at mishaps d made met new outcome)
    (server : IsLinkedServer sync.ids.host.digits account sessions met)
    (linked : IsLinkedDevice (world_in sync.ids.host.digits account met).state.committed d) where
  abbrev pub host : List ℕ
  host = sync.ids.host.digits

  abbrev pub was : World
  was = world_in host account met

  abbrev pub is_now : World
  is_now = world_in host account new

  abbrev pub c : Collection
  c = linked.c

  -- what is known of the wire before the first call and after the last one
  abbrev first : WireState (loop_kind CrossesAt crosses_nothing)
  first = state_of_loop CrossesAt crosses_nothing (inside_with met sync.was at mishaps no_calls)

  abbrev last : WireState (loop_kind CrossesAt crosses_nothing)
  last = state_of_loop CrossesAt crosses_nothing sync.end

  log_now : last.log ≡ Some (log_in new)
  log_now = ap (λ (z : LoggedState). Some (log_in z)) sync.server

  below_next : sessions < one_more sessions
  below_next = next_over sessions room

  abbrev pub known : keeping_of d ≡ holding c
  known = known_is d c linked.holds

  pub may : MayBegin (asker sync.ids) c account (log_in met)
  may = record {
    unused = server.unused sync.ids.session.0 (subst (λ (key : ℕ). sessions < key) (sym sync.of.session) below_next);
    lawful = server.lawful;
    linked = linked.links.linked;
  }

  abbrev ended : EndsBecause sync.ended.ended.sync.asked.meta sync.ended.ended.sync.asked.moment sync.ended.ended.sync.asked.tries (keeping_of d) (Some (device_at ∷ [])) outcome
  ended = sync.ended.ended.because

  -- what was committed
  pub committed : CommitsNoneOrJoin sync.ids.session.0 c was is_now
  committed =
      syncs.committed sync.ids account (log_in met) (log_in new) (keeping_of d) (keeping_of made) (health_over no_calls mishaps) sync.health first last
      (Some (device_at ∷ [])) outcome c sync.alone refl log_now known sync.ended.ended.sync ended may

  pub schema_stays : is_now.state.committed.head.schema ≡ was.state.committed.head.schema
  schema_stays =
      syncs.schema_stays sync.ids account (log_in met) (log_in new) (keeping_of d) (keeping_of made) (health_over no_calls mishaps) sync.health first last
      (Some (device_at ∷ [])) outcome c sync.alone refl log_now known sync.ended.ended.sync ended may server.number

  linked_now : (e : Collection) → AreLinked e was.state.committed → AreLinked e is_now.state.committed
  linked_now e is =
      syncs.linked_now sync.ids account (log_in met) (log_in new) (keeping_of d) (keeping_of made) (health_over no_calls mishaps) sync.health first last
      (Some (device_at ∷ [])) outcome c sync.alone refl log_now known sync.ended.ended.sync ended may server.number e is

  fits_now : (e : Collection) (step : Reversal) → StepFits e step was.state.committed → StepFits e step is_now.state.committed
  fits_now e step is =
      syncs.fits_now sync.ids account (log_in met) (log_in new) (keeping_of d) (keeping_of made) (health_over no_calls mishaps) sync.health first last
      (Some (device_at ∷ [])) outcome c sync.alone refl log_now known sync.ended.ended.sync ended may server.number e step is

  abbrev own_growth : GrowsSo (IsOfSession sync.ids.session.0) (log_in met) (log_in new)
  own_growth =
      syncs.own_growth sync.ids account (log_in met) (log_in new) (keeping_of d) (keeping_of made) (health_over no_calls mishaps) sync.health first last
      (Some (device_at ∷ [])) outcome c sync.alone refl log_now known sync.ended.ended.sync ended may

  -- ---- the server
  pub server_now : IsLinkedServer host account (one_more sessions) new
  server_now = record {
    host_is = sync.host ∙ server.host_is;
    unused = unused_next host account sessions sync.ids.session.0 (log_in met) (log_in new) room sync.of.session server.unused own_growth;
    lawful =
        syncs.lawful_now sync.ids account (log_in met) (log_in new) (keeping_of d) (keeping_of made) (health_over no_calls mishaps) sync.health first last
        (Some (device_at ∷ [])) outcome c sync.alone refl log_now known sync.ended.ended.sync ended may server.number;
    number =
        syncs.number_stays sync.ids account (log_in met) (log_in new) (keeping_of d) (keeping_of made) (health_over no_calls mishaps) sync.health first last
        (Some (device_at ∷ [])) outcome c sync.alone refl log_now known sync.ended.ended.sync ended may server.number;
  }

  -- ---- the other devices
  pub others_now : (e : Device) → IsLinkedDevice was.state.committed e → IsLinkedDevice is_now.state.committed e
  others_now e it = record {
    c = it.c;
    holds = it.holds;
    named = it.named;
    links = record {
      linked = linked_now it.c it.links.linked;
      fit = All-weaker (λ step. StepFits it.c step was.state.committed) (λ step. StepFits it.c step is_now.state.committed)
          (λ step. fits_now it.c step) (reversals_in e.undo) it.links.fit;
    };
    suits = it.suits;
  }

  -- ---- the device
  undone : made.undo ≡ []
  undone = ap (λ (x : Device). x.undo) sync.rest

  single : IsSingle (row_under c)
  single = single_of (reversals_in d.undo) (row_under c) c.head.tags linked.suits

  -- a device that is as it was
  same_now : keeping_of made ≡ keeping_of d → IsLinkedDevice is_now.state.committed made × Holds made.collection c
  same_now is =
      let kept : made.collection ≡ kept_of c = kept_is made c (is ∙ known) in (
        nothing_to_undo is_now.state.committed c made kept undone linked.named single (linked_now c linked.links.linked),
        holds_is made c kept,
      )

  -- the schema moment that the device has then is not the server's
  abbrev pub HasOther : Type 0
  HasOther = (left : Collection) → made.collection ≡ kept_of left → left.head.schema ≢ was.state.committed.head.schema

  -- so it is after a bad sanity check
  abbrev pub HasOtherAt : Outcome → Type 0
  HasOtherAt o = ends_at_check o ≡ true → HasOther

  -- a device whose moments have risen, to the one at which its clock stands
  raised_now : (after : Option (List ℤ)) → HasRaised 1 (keeping_of d) (keeping_of made) (Some (device_at ∷ [])) after → HasOther
      → IsLinkedDevice is_now.state.committed made × HasRisen device_at c made
  raised_now after raised other =
      let head : Head = record c.head { moment = advanced_moment raised.at c.head.moment; schema = advanced_moment raised.at c.head.schema } in
      let left : Collection = record c { head = head } in
      let kept : made.collection ≡ kept_of left =
      kept_is made left (raised.raises ∙ ap (changed (moments_raised raised.at)) known) in (
        nothing_to_undo is_now.state.committed left made kept undone linked.named single (inl (λ is. other left kept (is ∙ schema_stays))),
        subst (λ (m : ℤ). HasRisen m c made) (stands_still device_at raised.at after raised.given) (holds_is made left kept),
      )

  -- what a sync that finished leaves
  pub record FinishedSo : Type 0 where
    pub device : Collection
    pub kept : made.collection ≡ kept_of device
    pub schema : device.head.schema ≡ c.head.schema
    pub exchanged : AreExchanged c was.state.committed device is_now.state.committed
    pub moment : device.head.moment ≡ is_now.state.committed.head.moment
    pub once : is_now.commits ≡ commit_as sync.ids.session.0 was.state.committed is_now.state.committed ∷ was.commits
    pub device_number : device.head.usn ≡ was.state.committed.head.usn +ℤ pos 1
    pub server_number : is_now.state.committed.head.usn ≡ was.state.committed.head.usn +ℤ pos 1
    pub linked_made : IsLinkedDevice is_now.state.committed made

  -- the number after a commit
  next_number : is_now.commits ≡ commit_as sync.ids.session.0 was.state.committed is_now.state.committed ∷ was.commits → CommitsNoneOrJoin sync.ids.session.0 c was is_now
      → is_now.state.committed.head.usn ≡ was.state.committed.head.usn +ℤ pos 1
  next_number one (inl quiet) =
      absurd (not_one_more (commit_as sync.ids.session.0 was.state.committed is_now.state.committed) was.commits (sym quiet.commits ∙ one))
  next_number one (inr joined) = joined.1.usn

  pub finished_now : outcome ≡ outcomes.Finished → FinishedSo
  finished_now is =
      let it = syncs.finished sync.ids account (log_in met) (log_in new) (keeping_of d) (keeping_of made) (health_over no_calls mishaps) sync.health first last
      (Some (device_at ∷ [])) outcome c sync.alone refl log_now known sync.ended.ended.sync ended may is in
      let device : Collection = it.0.device in
      let kept : made.collection ≡ kept_of device = kept_is made device it.0.holds in
      record {
        device = device;
        kept = kept;
        schema = it.0.schema;
        exchanged = it.1;
        moment = it.2;
        once = it.3;
        device_number = it.5;
        server_number = next_number it.3 committed;
        linked_made = nothing_to_undo is_now.state.committed device made kept undone it.1.named it.1.linked.own_single it.4;
      }

  -- the device after any end
  device_by : (o : Outcome) → outcome ≡ o → KeepsDevice 1 (keeping_of d) (keeping_of made) (Some (device_at ∷ [])) sync.to_come o → HasOtherAt o
      → IsLinkedDevice is_now.state.committed made × (o ≢ outcomes.Finished → StillHolds device_at c o made)
  device_by outcomes.Finished is keeps new = ((finished_now is).linked_made, λ other. absurd (other refl))
  device_by (outcomes.BadRow fault) is keeps new = let it = raised_now sync.to_come keeps (new refl) in (it.0, λ _. it.1)
  device_by (outcomes.BadCounts client server) is keeps new = let it = raised_now sync.to_come keeps (new refl) in (it.0, λ _. it.1)
  device_by outcomes.NoChanges is keeps new = let it = same_now keeps in (it.0, λ _. it.1)
  device_by (outcomes.FullSchema device server) is keeps new = let it = same_now keeps in (it.0, λ _. it.1)
  device_by (outcomes.FullSequence usn) is keeps new = let it = same_now keeps in (it.0, λ _. it.1)
  device_by (outcomes.ClockOff device server) is keeps new = let it = same_now keeps in (it.0, λ _. it.1)
  device_by (outcomes.OwnCheck fault) is keeps new = let it = same_now keeps in (it.0, λ _. it.1)
  device_by outcomes.Stopped is keeps new = let it = same_now keeps in (it.0, λ _. it.1)
  device_by (outcomes.Refused status word seen) is keeps new = let it = same_now keeps in (it.0, λ _. it.1)
  device_by outcomes.Lost is keeps new = let it = same_now keeps in (it.0, λ _. it.1)
  device_by outcomes.BadReply is keeps new = let it = same_now keeps in (it.0, λ _. it.1)
  device_by outcomes.TooManyChunks is keeps new = let it = same_now keeps in (it.0, λ _. it.1)
  device_by outcomes.Keep is keeps new = let it = same_now keeps in (it.0, λ _. it.1)
  device_by outcomes.Memory is keeps new = let it = same_now keeps in (it.0, λ _. it.1)

  pub device_now : HasOtherAt outcome → IsLinkedDevice is_now.state.committed made
  device_now new = (device_by outcome refl sync.device new).0

  pub still_holds : HasOtherAt outcome → outcome ≢ outcomes.Finished → StillHolds device_at c outcome made
  still_holds new other = (device_by outcome refl sync.device new).1 other

  -- a device that found nothing to sync has the content of what is committed
  pub agreed_now : outcome ≡ outcomes.NoChanges → SameContent (content_of c) (content_of was.state.committed)
  agreed_now is =
      syncs.agreed sync.ids account (log_in met) (log_in new) (keeping_of d) (keeping_of made) (health_over no_calls mishaps) sync.health first last
      (Some (device_at ∷ [])) outcome c sync.alone refl log_now known sync.ended.ended.sync ended may is

  -- an end before the finish leaves what is committed
  pub early_quiet : ends_before_finish outcome ≡ true → StaysQuiet was is_now
  early_quiet early =
      syncs.quiet_if_early sync.ids account (log_in met) (log_in new) (keeping_of d) (keeping_of made) (health_over no_calls mishaps) sync.health first last
      (Some (device_at ∷ [])) outcome c sync.alone refl log_now known sync.ended.ended.sync ended may early

  -- what it asked is a front of its plan with a collection
  pub asked_front : (base : Collection) × (rest : List Ask) × (asks_in sync.ended.ended.sync.asked.tries ++ rest ≡ planned c base)
  asked_front =
      let it = syncs.synced sync.ids account (log_in met) (log_in new) (keeping_of d) (keeping_of made) (health_over no_calls mishaps) sync.health first last
      (Some (device_at ∷ [])) outcome c sync.alone refl log_now known sync.ended.ended.sync ended may in
      (it.base, it.front.0, it.front.1)
