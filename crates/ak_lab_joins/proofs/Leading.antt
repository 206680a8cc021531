-- What is committed in a lab is committed over what was committed before, whatever lines come.
use Rattle.std.specs.Prelude.{◌≡◌, ◌+◌, ℕ, ℤ, Bool, List, [], ◌∷◌, ◌++◌, replicate}
use Rattle.std.proofs.Common.{refl, sym, ap, subst, ◌∙◌, inl, inr, append_assoc, append-nil}
use Rattle.ak_client.specs.declared.outcomes.Outcome.{Outcome}
use Rattle.ak_io.specs.declared.lines.Line.{Line}
use Rattle.ak_keep.specs.Collections.{Collection}
use Rattle.ak_lab.specs.LabStates.{LabState, at_line}
use Rattle.ak_lab.specs.LabSteps.{Accepts, SideHolds}
use Rattle.ak_lab.specs.LabSyncs.{EndsLabSession}
use Rattle.ak_lab.specs.LineOutcomes.{EndsAs}
use Rattle.ak_lab_devices.specs.declared.devices.Device.{Device}
use Rattle.ak_lab_devices.specs.declared.plans.Act.{Act}
use Rattle.ak_lab_devices.specs.declared.plans.Act.TheVariants as acts
use Rattle.ak_lab_joins.proofs.Worlds.{world_grown}
use Rattle.ak_lab_joins.specs.LabCrossings.{LeadsOn}
use Rattle.ak_lab_joins.specs.LabJoins.{lab_world}
use Rattle.ak_lab_lines.specs.declared.lab_lines.LabLine.{LabLine}
use Rattle.ak_lab_lines.specs.declared.lab_lines.LabLine.TheVariants as lines
use Rattle.ak_lab_lines.specs.declared.lab_lines.Side.{Side}
use Rattle.ak_lab_lines.specs.declared.lab_lines.Side.TheVariants as sides
use Rattle.ak_lab_wires.proofs.Kept.{Any, all_any, any_calls}
use Rattle.ak_lab_wires.proofs.Keeping.{KeepsOn, all_served_keep, calls_keep, turns_keep}
use Rattle.ak_lab_wires.specs.CrossedSyncs.{ActsBy, ActsOnce, CrossState, CrossedSync, CrossesAt, cross_state, crosses_nothing}
use Rattle.ak_lab_wires.specs.LabSessions.{IsSessionOver, lab_host}
use Rattle.ak_lab_wires.specs.Replaying.{ReplaysAt, ReplaysBy, ReplaysOne, replays_nothing}
use Rattle.ak_lab_wires.specs.Servings.{AreServed, ServesAgain, named_from, requests_in, with_line}
use Rattle.ak_lab_wires.specs.Turns.{due}
use Rattle.ak_lab_wires.specs.declared.crossed_syncs.Crossings.{Crossings}
use Rattle.ak_lab_wires.specs.declared.lab_sessions.SessionKind.{SessionKind}
use Rattle.ak_lab_wires.specs.declared.lab_sessions.SessionKind.TheVariants as kinds
use Rattle.ak_lab_wires.specs.declared.replayed_requests.Replays.{Replays}
use Rattle.ak_line_runs.specs.LineRuns.{Accepted, AllGo}
use Rattle.ak_sync_in_memory.proofs.Logging.{events_append}
use Rattle.ak_sync_in_memory.specs.Betweens.{ActEnd, Acting}
use Rattle.ak_sync_in_memory.specs.Copies.{IsViewed}
use Rattle.ak_sync_in_memory.specs.Entries.{LoggedState, entry_of, events_in, log_in, log_with}
use Rattle.ak_sync_in_memory.specs.LoggedServers.{IsServed}
use Rattle.ak_sync_in_memory.specs.declared.logs.Entry.{Entry}
use Rattle.ak_sync_in_memory.specs.declared.logs.Logged.TheVariants as logged
use Rattle.ak_sync_in_memory.specs.declared.mishaps.Mishap.{Mishap}
use Rattle.ak_messages.specs.declared.replies.Reply.{Reply}
use Rattle.ak_messages.specs.declared.requests.Request.{Request}
use Rattle.ak_protocol.proofs.Commits.{commits_lead_on}
use Rattle.ak_protocol.specs.Accounts.{AccountState}
use Rattle.ak_protocol.specs.Commits.{CommitsGrow}
use Rattle.ak_protocol.specs.Logs.{Event, Log, World, events_of, with_growth}
use Rattle.ak_protocol.specs.Syncs.{world_of}

-- ---- a log that grows
-- some events came after those that came
pub record LogGrows (old new : LoggedState) : Type 0 where
  pub growth : List Event
  pub grown : log_in new ≡ with_growth (log_in old) growth

nothing_came : (old new : LoggedState) → new ≡ old → LogGrows old new
nothing_came old new same = record { growth = []; grown = ap log_in same ∙ ap (log_with old.host old.opening) (sym (append-nil (events_in old.host old.entries))) }

further : (a b c : LoggedState) → LogGrows a b → LogGrows b c → LogGrows a c
further a b c one two = record {
  growth = one.growth ++ two.growth;
  grown = two.grown ∙ ap (λ (log : Log). with_growth log two.growth) one.grown
      ∙ ap (λ (events : List Event). record (log_in a) { events = events }) (append_assoc (log_in a).events one.growth two.growth);
}

-- entries were added
entries_came : (old new : LoggedState) (added : List Entry) → log_in new ≡ log_with old.host old.opening (events_in old.host (old.entries ++ added)) → LogGrows old new
entries_came old new added is = record {
  growth = events_in old.host added;
  grown = is ∙ ap (log_with old.host old.opening) (events_append old.host old.entries added);
}

abbrev Grows : {X : Type 0} → X → X → LoggedState → LoggedState → Type 0
Grows x y old new = LogGrows old new

keeps_growing : {X : Type 0} → KeepsOn (Grows {X = X})
keeps_growing = record { same = λ x s. nothing_came s s refl; further = λ x y z a b c one two. further a b c one two }

served_grows : {X : Type 0} (at : ℤ) (x : X) (a b : LoggedState) (request : Request) (reply : Reply) → Any request → IsServed a b request at reply → Grows x x a b
served_grows at x a b request reply any is = entries_came a b (entry_of a.line (logged.Served request at is.trouble) ∷ []) (ap log_in is.adds)

all_grow : (requests : List Request) (replies : List Reply) (at : ℤ) (old new : LoggedState) → AreServed requests at old new replies → LogGrows old new
all_grow requests replies at old new are =
    all_served_keep (Grows {X = ℤ}) keeps_growing Any at (served_grows at) requests replies at old new (all_any requests) are

-- ---- what comes between
-- a line is set and set back
with_lines : (line : ℕ) (old reached new : LoggedState) → LogGrows (with_line line old) reached → new ≡ with_line old.line reached → LogGrows old new
with_lines line old reached new grows back = record { growth = grows.growth; grown = ap log_in back ∙ grows.grown }

again_grows : (from count line : ℕ) (at : ℤ) (old new : LoggedState) (came : ActEnd) → ServesAgain from count line at old new came → LogGrows old new
again_grows from count line at old new came (inl nothing) = nothing_came old new nothing.0
again_grows from count line at old new came (inr it) =
    with_lines line old it.reached new (all_grow it.front.served it.front.replies at (with_line line old) it.reached it.front.serves) it.back

replay_grows : (act : Act) (line : ℕ) (at : ℤ) (old new : LoggedState) (came : ActEnd) → ReplaysBy act line at old new came → LogGrows old new
replay_grows (acts.Cross name) line at old new came it = nothing_came old new it.0
replay_grows (acts.Replay from count) line at old new came it = again_grows from count line at old new came it

replays_grow : (call session : ℕ) (x y : Replays) (a b : LoggedState) (came : ActEnd) → ReplaysAt call session x y a b came → LogGrows a b
replays_grow call session x y a b came it =
    turns_keep (Grows {X = ℤ}) keeps_growing ReplaysOne (λ one p q c d end acted. replay_grows one.act one.line p c d end acted.1)
    (due call x.acts) x.at x.at a b came it.1

session_grows : {X : Type 0} (acts : Acting X) (idle : X → Bool) → ((call session : ℕ) (x y : X) (a b : LoggedState) (came : ActEnd) → acts call session x y a b came → LogGrows a b)
    → (kind : SessionKind) (key : ℕ) (at : ℤ) (moments : List ℤ) (mishaps : List Mishap) (d made : Device) (was became : X) (old new : LoggedState) (outcome : Outcome)
    → IsSessionOver acts idle kind key at moments mishaps d made was became old new outcome → LogGrows old new
session_grows acts idle acted kind key at moments mishaps d made was became old new outcome ran =
    calls_keep Grows keeps_growing Any at (served_grows at) acts idle acted mishaps 0 ran.calls was became old new (any_calls ran.calls) ran.come

crossed_grows : (name : List ℕ) (line session : ℕ) (was now : CrossState) (old new : LoggedState) (came : ActEnd) → CrossedSync name line session was now old new came
    → LogGrows old new
crossed_grows name line session was now old new came it =
    let sync = it.sync.sync in
    with_lines line old sync.reached new
    (session_grows ReplaysAt replays_nothing replays_grow _ _ _ _ _ _ _ sync.replays sync.replays_left (with_line line old) sync.reached it.outcome sync.session) sync.back

act_grows : (act : Act) (line session : ℕ) (was now : CrossState) (old new : LoggedState) (came : ActEnd) → ActsBy act line session was now old new came → LogGrows old new
act_grows (acts.Cross name) line session was now old new came (inl nothing) = nothing_came old new nothing.1.0
act_grows (acts.Cross name) line session was now old new came (inr it) = crossed_grows name line session was now old new came it
act_grows (acts.Replay from count) line session was now old new came it = again_grows from count line was.clock old new came it.1

crosses_grow : (call session : ℕ) (x y : Crossings) (a b : LoggedState) (came : ActEnd) → CrossesAt call session x y a b came → LogGrows a b
crosses_grow call session x y a b came it =
    turns_keep (Grows {X = CrossState}) keeps_growing (ActsOnce session) (λ one p q c d end acted. act_grows one.act one.line session p q c d end acted)
    (due call x.acts) (cross_state x.lab) (cross_state y.lab) a b came it.1

pub lab_session_grows : (kind : SessionKind) (name : List ℕ) (s t : LabState) (crossed : List (List ℕ)) (outcome : Outcome) → EndsLabSession kind name s t crossed outcome
    → LogGrows s.server t.server
lab_session_grows kind name s t crossed outcome ended =
    let runs = ended.runs in
    let grows = session_grows CrossesAt crosses_nothing crosses_grow kind _ _ _ _ _ runs.made runs.was runs.became _ _ outcome runs.session in
    record { growth = grows.growth; grown = grows.grown }

-- ---- a line
same_server : (s t : LabState) → t.server ≡ s.server → LogGrows s.server t.server
same_server s t same = nothing_came s.server t.server same

viewed_grows : (old new : LoggedState) → IsViewed old new → LogGrows old new
viewed_grows old new viewed = entries_came old new (replicate viewed.views (entry_of old.line logged.Viewed)) (ap log_in viewed.adds)

looked_grows : (side : Side) (s t : LabState) (c : Collection) → SideHolds side s t c → LogGrows s.server t.server
looked_grows sides.Server s t c (committed, reads) = viewed_grows s.server t.server reads.viewed
looked_grows (sides.Device name) s t c holds = same_server s t (ap (λ (x : LabState). x.server) holds.0)

said_grows : (said : LabLine) (s t : LabState) (printed : List (List ℕ)) → Accepts said s t printed → LogGrows s.server t.server
said_grows (lines.Clock at) s t printed (in_time, left, none) = same_server s t (ap (λ (x : LabState). x.server) left)
said_grows (lines.Device name) s t printed (adds, none) = viewed_grows s.server t.server adds.read
said_grows (lines.Shift name by) s t printed (shifts, none) = same_server s t (ap (λ (x : LabState). x.server) shifts.left)
said_grows (lines.Review name card ease count) s t printed (done, none) = same_server s t (ap (λ (x : LabState). x.server) done.left)
said_grows (lines.Do name text) s t printed (answer, done, is) = same_server s t (ap (λ (x : LabState). x.server) done.left)
said_grows (lines.Sync name) s t printed (outcome, text, crossed, ended, told, is) = lab_session_grows kinds.Sync name s t crossed outcome ended
said_grows (lines.Disturb name call what) s t printed (plan, none) = same_server s t (ap (λ (x : LabState). x.server) plan.left)
said_grows (lines.Cross name call other) s t printed (o, found, plan, none) = same_server s t (ap (λ (x : LabState). x.server) plan.left)
said_grows (lines.Replay name call from count) s t printed (has, plan, none) = same_server s t (ap (λ (x : LabState). x.server) plan.left)
said_grows (lines.Resend from count) s t printed resends =
    all_grow (named_from from count (requests_in s.server.entries)) resends.replies s.clock s.server t.server resends.serves
said_grows (lines.Break sides.Server) s t printed (left, none) = same_server s t (ap (λ (x : LabState). x.server) left)
said_grows (lines.Break (sides.Device name)) s t printed (plan, none) = same_server s t (ap (λ (x : LabState). x.server) plan.left)
said_grows (lines.Transfer direction name) s t printed (outcome, text, ended, told, is) = lab_session_grows (kinds.Transfer direction) name s t [] outcome ended
said_grows (lines.Show side what) s t printed (c, holds, is) = looked_grows side s t c holds
said_grows (lines.Count side) s t printed (c, holds, is) = looked_grows side s t c holds
said_grows (lines.Requests name) s t printed is = same_server s t (ap (λ (x : LabState). x.server) is.0)

-- the line of the entries to come is no part of what came
lined : (number : ℕ) (s : LabState) (t : LoggedState) → LogGrows (at_line number s).server t → LogGrows s.server t
lined number s t grows = record { growth = grows.growth; grown = grows.grown }

pub line_grows : (number : ℕ) (line : Line) (s t : LabState) (printed : List (List ℕ)) → EndsAs number line s t (Accepted printed) → LogGrows s.server t.server
line_grows number line s t printed (inl nothing) =
    lined number s t.server (nothing_came (at_line number s).server t.server (ap (λ (x : LabState). x.server) nothing.0))
line_grows number line s t printed (inr (said, says, accepts)) = lined number s t.server (said_grows said (at_line number s) t printed accepts)

pub all_go_grow : (number : ℕ) (all : List Line) (s t : LabState) (printed : List (List ℕ)) → AllGo EndsAs number all s t printed → LogGrows s.server t.server
all_go_grow number [] s t printed (same, nothing) = same_server s t (ap (λ (x : LabState). x.server) same)
all_go_grow number (line ∷ more) s t printed (mid, first, others, ended, goes, is) =
    further s.server mid.server t.server (line_grows number line s mid first ended) (all_go_grow (number + 1) more mid t others goes)

-- ---- what is committed
leads_on : (account : AccountState) (s t : LabState) → LogGrows s.server t.server → LeadsOn account s t
leads_on account s t grows =
    let was : World = lab_world account s in
    subst (λ (w : World). CommitsGrow was w)
    (sym (ap (world_of lab_host account) grows.grown ∙ world_grown lab_host account (log_in s.server) grows.growth))
    (commits_lead_on was (events_of lab_host grows.growth))

pub lines_lead : (account : AccountState) (number : ℕ) (line : Line) (s t : LabState) (printed : List (List ℕ)) → EndsAs number line s t (Accepted printed) → LeadsOn account s t
lines_lead account number line s t printed ended = leads_on account s t (line_grows number line s t printed ended)

pub runs_lead : (account : AccountState) (number : ℕ) (all : List Line) (s t : LabState) (printed : List (List ℕ)) → AllGo EndsAs number all s t printed → LeadsOn account s t
runs_lead account number all s t printed goes = leads_on account s t (all_go_grow number all s t printed goes)
