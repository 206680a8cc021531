-- A session meets no fault of a keeper that is not to fail, whatever comes between its calls.
use Rattle.std.specs.Prelude.{◌≡◌, ◌≢◌, ℕ, ℤ, Bool, true, List, [], ◌∷◌, ◌++◌}
use Rattle.std.proofs.Common.{refl, sym, ap, ◌∙◌, inl, inr, append_assoc, append-nil}
use Rattle.ak_client.specs.declared.outcomes.Outcome.{Outcome}
use Rattle.ak_client.specs.declared.outcomes.Outcome.TheVariants as outcomes
use Rattle.ak_faults.specs.Calls.{names_none}
use Rattle.ak_lab.specs.LabPlans.{Resends}
use Rattle.ak_lab.specs.LabStates.{LabState}
use Rattle.ak_lab.specs.LabSyncs.{EndsLabSession}
use Rattle.ak_lab_devices.specs.declared.devices.Device.{Device}
use Rattle.ak_lab_devices.specs.declared.plans.Act.{Act}
use Rattle.ak_lab_devices.specs.declared.plans.Act.TheVariants as acts
use Rattle.ak_lab_joins.specs.LabBreaks.{HasBreak}
use Rattle.ak_lab_joins.specs.LabMishaps.{AreFaultless, MeetsNoFault}
use Rattle.ak_lab_wires.proofs.Kept.{Any, all_any, any_calls}
use Rattle.ak_lab_wires.proofs.Keeping.{KeepsOn, all_served_keep, calls_keep, turns_keep}
use Rattle.ak_lab_wires.specs.CrossedSyncs.{ActsBy, ActsOnce, CrossState, CrossedSync, CrossesAt, SyncsCrossed, cross_state, crosses_nothing}
use Rattle.ak_lab_wires.specs.LabSessions.{IsSessionOver, fails_in}
use Rattle.ak_lab_wires.specs.Replaying.{ReplaysAt, ReplaysBy, ReplaysOne, replays_nothing}
use Rattle.ak_lab_wires.specs.Servings.{AreServed, ServesAgain, named_from, requests_in, with_line}
use Rattle.ak_lab_wires.specs.Turns.{due}
use Rattle.ak_lab_wires.specs.declared.crossed_syncs.Crossings.{Crossings}
use Rattle.ak_lab_wires.specs.declared.lab_sessions.SessionKind.{SessionKind}
use Rattle.ak_lab_wires.specs.declared.lab_sessions.SessionKind.TheVariants as kinds
use Rattle.ak_lab_wires.specs.declared.replayed_requests.Replays.{Replays}
use Rattle.ak_sync_in_memory.specs.Betweens.{ActEnd, Acting}
use Rattle.ak_sync_in_memory.specs.Entries.{LoggedState, entry_of, health_in}
use Rattle.ak_sync_in_memory.specs.LoggedServers.{IsServed}
use Rattle.ak_sync_in_memory.specs.declared.logs.Entry.{Entry}
use Rattle.ak_sync_in_memory.specs.declared.logs.Logged.TheVariants as logged
use Rattle.ak_sync_in_memory.specs.declared.mishaps.Mishap.{Mishap}
use Rattle.ak_messages.specs.declared.replies.Reply.{Reply}
use Rattle.ak_messages.specs.declared.requests.Request.{Request}

-- ---- what is kept
-- entries were added. A keeper that is not to fail is not at fault, and stays so
pub record StaysUnfailed (old new : LoggedState) : Type 0 where
  pub added : List Entry
  pub entries : new.entries ≡ old.entries ++ added
  pub calm : (health_in old).calm ≡ true → (health_in new).calm ≡ true
  pub met : (health_in old).calm ≡ true → AreFaultless added

pub nothing_met : (old new : LoggedState) → (health_in new).calm ≡ (health_in old).calm → new.entries ≡ old.entries → StaysUnfailed old new
nothing_met old new same entries =
    record { added = []; entries = entries ∙ sym (append-nil old.entries); calm = λ is. same ∙ is; met = λ is. tt }

pub nothing_came : (old new : LoggedState) → new ≡ old → StaysUnfailed old new
nothing_came old new same = nothing_met old new (ap (λ (s : LoggedState). (health_in s).calm) same) (ap (λ (s : LoggedState). s.entries) same)

both : (a b : List Entry) → AreFaultless a → AreFaultless b → AreFaultless (a ++ b)
both [] b one two = two
both (entry ∷ a) b one two = (one.0, both a b one.1 two)

further : (a b c : LoggedState) → StaysUnfailed a b → StaysUnfailed b c → StaysUnfailed a c
further a b c one two = record {
  added = one.added ++ two.added;
  entries = two.entries ∙ ap (λ (l : List Entry). l ++ two.added) one.entries ∙ append_assoc a.entries one.added two.added;
  calm = λ is. two.calm (one.calm is);
  met = λ is. both one.added two.added (one.met is) (two.met (one.calm is));
}

abbrev Unfailed : {X : Type 0} → X → X → LoggedState → LoggedState → Type 0
Unfailed x y old new = StaysUnfailed old new

keeps_unfailed : {X : Type 0} → KeepsOn (Unfailed {X = X})
keeps_unfailed = record { same = λ x s. nothing_came s s refl; further = λ x y z a b c one two. further a b c one two }

served_unfailed : {X : Type 0} (at : ℤ) (x : X) (a b : LoggedState) (request : Request) (reply : Reply) → Any request → IsServed a b request at reply → Unfailed x x a b
served_unfailed at x a b request reply any is = record {
  added = entry_of a.line (logged.Served request at is.trouble) ∷ [];
  entries = ap (λ (s : LoggedState). s.entries) is.adds;
  calm = is.goes.calm;
  met = λ calm. (is.unfailed calm, tt);
}

pub all_unfailed : (requests : List Request) (replies : List Reply) (at : ℤ) (old new : LoggedState) → AreServed requests at old new replies → StaysUnfailed old new
all_unfailed requests replies at old new are =
    all_served_keep (Unfailed {X = ℤ}) keeps_unfailed Any at (served_unfailed at) requests replies at old new (all_any requests) are

-- ---- what comes between
-- a line is set and set back
with_lines : (line : ℕ) (old reached new : LoggedState) → StaysUnfailed (with_line line old) reached → new ≡ with_line old.line reached → StaysUnfailed old new
with_lines line old reached new stays back = record {
  added = stays.added;
  entries = ap (λ (s : LoggedState). s.entries) back ∙ stays.entries;
  calm = λ is. ap (λ (s : LoggedState). (health_in s).calm) back ∙ stays.calm is;
  met = stays.met;
}

again_unfailed : (from count line : ℕ) (at : ℤ) (old new : LoggedState) (came : ActEnd) → ServesAgain from count line at old new came → StaysUnfailed old new
again_unfailed from count line at old new came (inl nothing) = nothing_came old new nothing.0
again_unfailed from count line at old new came (inr it) =
    with_lines line old it.reached new (all_unfailed it.front.served it.front.replies at (with_line line old) it.reached it.front.serves) it.back

replay_unfailed : (act : Act) (line : ℕ) (at : ℤ) (old new : LoggedState) (came : ActEnd) → ReplaysBy act line at old new came → StaysUnfailed old new
replay_unfailed (acts.Cross name) line at old new came it = nothing_came old new it.0
replay_unfailed (acts.Replay from count) line at old new came it = again_unfailed from count line at old new came it

replays_unfailed : (call session : ℕ) (x y : Replays) (a b : LoggedState) (came : ActEnd) → ReplaysAt call session x y a b came → StaysUnfailed a b
replays_unfailed call session x y a b came it =
    turns_keep (Unfailed {X = ℤ}) keeps_unfailed ReplaysOne (λ one p q c d end acted. replay_unfailed one.act one.line p c d end acted.1)
    (due call x.acts) x.at x.at a b came it.1

session_unfailed : {X : Type 0} (acts : Acting X) (idle : X → Bool) → ((call session : ℕ) (x y : X) (a b : LoggedState) (came : ActEnd) → acts call session x y a b came → StaysUnfailed a b)
    → (kind : SessionKind) (key : ℕ) (at : ℤ) (moments : List ℤ) (mishaps : List Mishap) (d made : Device) (was became : X) (old new : LoggedState) (outcome : Outcome)
    → IsSessionOver acts idle kind key at moments mishaps d made was became old new outcome → StaysUnfailed old new
session_unfailed acts idle acted kind key at moments mishaps d made was became old new outcome ran =
    calls_keep Unfailed keeps_unfailed Any at (served_unfailed at) acts idle acted mishaps 0 ran.calls was became old new (any_calls ran.calls) ran.come

crossed_unfailed : (name : List ℕ) (line session : ℕ) (was now : CrossState) (old new : LoggedState) (came : ActEnd) → CrossedSync name line session was now old new came
    → StaysUnfailed old new
crossed_unfailed name line session was now old new came it =
    let sync = it.sync.sync in
    with_lines line old sync.reached new
    (session_unfailed ReplaysAt replays_nothing replays_unfailed _ _ _ _ _ _ _ sync.replays sync.replays_left (with_line line old) sync.reached it.outcome sync.session) sync.back

act_unfailed : (act : Act) (line session : ℕ) (was now : CrossState) (old new : LoggedState) (came : ActEnd) → ActsBy act line session was now old new came → StaysUnfailed old new
act_unfailed (acts.Cross name) line session was now old new came (inl nothing) = nothing_came old new nothing.1.0
act_unfailed (acts.Cross name) line session was now old new came (inr it) = crossed_unfailed name line session was now old new came it
act_unfailed (acts.Replay from count) line session was now old new came it = again_unfailed from count line was.clock old new came it.1

crosses_unfailed : (call session : ℕ) (x y : Crossings) (a b : LoggedState) (came : ActEnd) → CrossesAt call session x y a b came → StaysUnfailed a b
crosses_unfailed call session x y a b came it =
    turns_keep (Unfailed {X = CrossState}) keeps_unfailed (ActsOnce session) (λ one p q c d end acted. act_unfailed one.act one.line session p q c d end acted)
    (due call x.acts) (cross_state x.lab) (cross_state y.lab) a b came it.1

-- ---- the laws
-- what came in a session: it met no fault if no call of the server's keeper is to fail in it
pub record SessionMeets (kind : SessionKind) (s t : LabState) : Type 0 where
  pub added : List Entry
  pub entries : t.server.entries ≡ s.server.entries ++ added
  pub met : names_none (fails_in kind s.fails) ≡ true → AreFaultless added

pub session_meets : (kind : SessionKind) (name : List ℕ) (s t : LabState) (crossed : List (List ℕ)) (outcome : Outcome) → EndsLabSession kind name s t crossed outcome
    → SessionMeets kind s t
session_meets kind name s t crossed outcome ended =
    let runs = ended.runs in
    let stays = session_unfailed CrossesAt crosses_nothing crosses_unfailed kind _ _ _ _ _ runs.made runs.was runs.became _ _ outcome runs.session in
    record { added = stays.added; entries = stays.entries; met = stays.met }

pub sessions_meet_no_fault : (kind : SessionKind) (name : List ℕ) (s t : LabState) (crossed : List (List ℕ)) (outcome : Outcome)
    → names_none (fails_in kind s.fails) ≡ true → EndsLabSession kind name s t crossed outcome → MeetsNoFault s.server t.server
sessions_meet_no_fault kind name s t crossed outcome none ended =
    let it = session_meets kind name s t crossed outcome ended in
    record { added = it.added; entries = it.entries; each = it.met none }

pub resends_meet_no_fault : (from count : ℕ) (s t : LabState) (printed : List (List ℕ)) → (health_in s.server).calm ≡ true → Resends from count s t printed
    → MeetsNoFault s.server t.server
resends_meet_no_fault from count s t printed calm resends =
    let it = all_unfailed (named_from from count (requests_in s.server.entries)) resends.replies s.clock s.server t.server resends.serves in
    record { added = it.added; entries = it.entries; each = it.met calm }

-- a keeper failed in a session of a device: it is a sync, and a call of that keeper was to fail
pub failed_by_break : (kind : SessionKind) (name : List ℕ) (s t : LabState) (crossed : List (List ℕ)) → EndsLabSession kind name s t crossed outcomes.Keep
    → (kind ≡ kinds.Sync) × HasBreak name s
failed_by_break kinds.Sync name s t crossed ended =
    let runs = ended.runs in
    (refl, (runs.d, ended.is.held runs.d runs.at, λ none. runs.session.unfailed (ap names_none none) refl))
failed_by_break (kinds.Transfer direction) name s t crossed ended = absurd (ended.runs.session.unfailed refl refl)

pub crossed_by_break : (line key : ℕ) (at : ℤ) (moments : List ℤ) (d made : Device) (old new : LoggedState) → SyncsCrossed line key at moments d made old new outcomes.Keep
    → d.fails ≢ []
crossed_by_break line key at moments d made old new sync none = sync.session.unfailed (ap names_none none) refl
