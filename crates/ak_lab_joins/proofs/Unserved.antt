-- Where no finish and no upload was served, nothing was committed.
use Rattle.std.specs.List.{AllByRecursion}
use Rattle.std.specs.Prelude.{◌≡◌, ℕ, false, List, [], ◌∷◌, ◌++◌, length, ⊤}
use Rattle.std.proofs.Common.{sym, ap, subst, ◌∙◌, arith}
use Rattle.std.proofs.lemmas.List.{length-map}
use Rattle.ak_client.specs.declared.outcomes.Outcome.{Outcome}
use Rattle.ak_io.specs.declared.lines.Line.{Line}
use Rattle.ak_lab.specs.LabStates.{LabState}
use Rattle.ak_lab.specs.LabSyncs.{EndsLabSession}
use Rattle.ak_lab.specs.LineOutcomes.{EndsAs}
use Rattle.ak_lab_joins.proofs.Leading.{LogGrows, all_go_grow, lab_session_grows, line_grows}
use Rattle.ak_lab_joins.proofs.ServingsTold.{nothing_new, plain_serving, quiet_then}
use Rattle.ak_lab_joins.proofs.Worlds.{StaysQuiet, world_grown}
use Rattle.ak_lab_joins.specs.LabJoins.{KeepsCommitted, lab_world}
use Rattle.ak_lab_joins.specs.LabWords.{AsksNoCommit, ServesNoCommit}
use Rattle.ak_lab_wires.specs.LabSessions.{lab_host}
use Rattle.ak_lab_wires.specs.declared.lab_sessions.SessionKind.{SessionKind}
use Rattle.ak_line_runs.specs.LineRuns.{Accepted, AllGo}
use Rattle.ak_protocol.proofs.ContentLaws.{some_of_all}
use Rattle.ak_protocol.specs.Accounts.{AccountState}
use Rattle.ak_protocol.specs.Logs.{Asked, Event, Log, View, World, events_of, world_after, world_next}
use Rattle.ak_protocol.specs.Syncs.{world_of}
use Rattle.ak_session.specs.Requests.{asks_commit}
use Rattle.ak_sync_in_memory.proofs.Logging.{events_append}
use Rattle.ak_sync_in_memory.specs.Entries.{event_of, events_in, log_in}
use Rattle.ak_sync_in_memory.specs.declared.logs.Entry.{Entry}
use Rattle.ak_sync_in_memory.specs.declared.logs.Logged.{Logged}
use Rattle.ak_sync_in_memory.specs.declared.logs.Logged.TheVariants as logged

-- an event is no finish and no upload
abbrev IsPlain : Event → Type 0
IsPlain (View host) = ⊤
IsPlain (Asked request now setback) = asks_commit request.ask ≡ false

events_plain : (host : List ℕ) (entries : List Entry) → AllByRecursion (λ (entry : Entry). AsksNoCommit entry.what) entries
    → AllByRecursion IsPlain (events_in host entries)
events_plain host [] all = tt
events_plain host (entry ∷ entries) all = (by entry.what all.0, events_plain host entries all.1)
  where
    by : (what : Logged) → AsksNoCommit what → IsPlain (event_of host what)
    by (logged.Served request now trouble) plain = plain
    by logged.Viewed plain = tt

plain_after : (w : World) (events : List Event) → AllByRecursion IsPlain events → StaysQuiet w (world_after w events)
plain_after w [] all = nothing_new w
plain_after w (View host ∷ events) all =
    let rest = plain_after (world_next w (View host)) events all.1 in
    record { committed = rest.committed; commits = rest.commits }
plain_after w (Asked request now setback ∷ events) all =
    let next : World = world_next w (Asked request now setback) in
    quiet_then w next (world_after next events) (plain_serving w request now setback all.0) (plain_after next events all.1)

-- after two lists of one length the others are the same
same_rest : (a b c d : List Event) → length a ≡ length b → a ++ c ≡ b ++ d → c ≡ d
same_rest [] [] c d long is = is
same_rest [] (y ∷ b) c d long is = absurd (omega (arith, long))
same_rest (x ∷ a) [] c d long is = absurd (omega (arith, long))
same_rest (x ∷ a) (y ∷ b) c d long is =
    let shorter : length a ≡ length b = omega (arith, long) in
    let tails : a ++ c ≡ b ++ d = grind (arith, is) in
    same_rest a b c d shorter tails

-- the log grew by what was written down since
growth_is : (s t : LabState) (grows : LogGrows s.server t.server) (added : List Entry) → t.server.entries ≡ s.server.entries ++ added
    → grows.growth ≡ events_in t.server.host added
growth_is s t grows added entries =
    same_rest (events_in s.server.host s.server.entries) (events_in t.server.host s.server.entries) grows.growth (events_in t.server.host added)
    (length-map s.server.entries (λ (entry : Entry). event_of s.server.host entry.what)
    ∙ sym (length-map s.server.entries (λ (entry : Entry). event_of t.server.host entry.what)))
    (sym (ap (λ (log : Log). log.events) grows.grown)
    ∙ ap (events_in t.server.host) entries
    ∙ events_append t.server.host s.server.entries added)

commits_nothing : (account : AccountState) (s t : LabState) → LogGrows s.server t.server → ServesNoCommit s.server t.server
    → KeepsCommitted (lab_world account s) (lab_world account t)
commits_nothing account s t grows serves = (quiet.committed, quiet.commits)
  where
    plain : AllByRecursion IsPlain grows.growth
    plain = subst (AllByRecursion IsPlain) (sym (growth_is s t grows serves.added serves.entries)) (events_plain t.server.host serves.added serves.each)

    quiet : StaysQuiet (lab_world account s) (lab_world account t)
    quiet =
        subst (λ (w : World). StaysQuiet (lab_world account s) w)
        (sym (ap (world_of lab_host account) grows.grown ∙ world_grown lab_host account (log_in s.server) grows.growth))
        (plain_after (lab_world account s) (events_of lab_host grows.growth) (some_of_all IsPlain lab_host grows.growth plain))

-- ---- the laws
pub unserved_sessions : (account : AccountState) (kind : SessionKind) (name : List ℕ) (s t : LabState) (crossed : List (List ℕ)) (outcome : Outcome)
    → EndsLabSession kind name s t crossed outcome → ServesNoCommit s.server t.server → KeepsCommitted (lab_world account s) (lab_world account t)
unserved_sessions account kind name s t crossed outcome ended = commits_nothing account s t (lab_session_grows kind name s t crossed outcome ended)

pub unserved_lines : (account : AccountState) (number : ℕ) (line : Line) (s t : LabState) (printed : List (List ℕ)) → EndsAs number line s t (Accepted printed)
    → ServesNoCommit s.server t.server → KeepsCommitted (lab_world account s) (lab_world account t)
unserved_lines account number line s t printed ended = commits_nothing account s t (line_grows number line s t printed ended)

pub unserved_runs : (account : AccountState) (number : ℕ) (all : List Line) (s t : LabState) (printed : List (List ℕ)) → AllGo EndsAs number all s t printed
    → ServesNoCommit s.server t.server → KeepsCommitted (lab_world account s) (lab_world account t)
unserved_runs account number all s t printed goes = commits_nothing account s t (all_go_grow number all s t printed goes)
