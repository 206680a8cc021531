-- How the count of sessions rises in a lab.
use Rattle.std.specs.List.{AllByRecursion}
use Rattle.std.specs.Prelude.{◌≡◌, ℕ, suc, ◌+◌, ◌<◌, ◌≤◌, List, [], ◌∷◌, length}
use Rattle.std.proofs.Common.{sym, ap, subst, inl, inr, arith}
use Rattle.ak_client.specs.declared.outcomes.Outcome.{Outcome}
use Rattle.ak_faults.specs.Causes.{one_more}
use Rattle.ak_io.specs.declared.lines.Line.{Line}
use Rattle.ak_lab.specs.LabStates.{LabState, at_line}
use Rattle.ak_lab.specs.LabSteps.{Accepts}
use Rattle.ak_lab.specs.LabSyncs.{EndsLabSession}
use Rattle.ak_lab.specs.LineOutcomes.{EndsAs, Says}
use Rattle.ak_lab_joins.proofs.Alone.{sync_alone, transfer_alone}
use Rattle.ak_lab_joins.specs.LabJoins.{AllGoFresh, AllGoUncrossed, HasNoPlans, HasSession, IsUncrossed, SaysNoAct}
use Rattle.ak_lab_joins.proofs.Plain.{at_line_plans, line_plans}
use Rattle.ak_lab_lines.specs.declared.lab_lines.LabLine.{LabLine}
use Rattle.ak_lab_lines.specs.declared.lab_lines.LabLine.TheVariants as lines
use Rattle.ak_lab_lines.specs.declared.lab_lines.Side.TheVariants as sides
use Rattle.ak_lab_wires.proofs.Kept.{StaysLab, session_lab}
use Rattle.ak_lab_wires.specs.CrossedSyncs.{CrossState, cross_state}
use Rattle.ak_lab_wires.specs.declared.lab_sessions.SessionKind.{SessionKind}
use Rattle.ak_lab_wires.specs.declared.lab_sessions.SessionKind.TheVariants as kinds
use Rattle.ak_line_runs.specs.LineRuns.{Accepted, AllGo}
use Rattle.ak_protocol.specs.Accounts.{AccountState}

-- ---- it never falls: if there is a key after a line, there was one before it
session_count : (kind : SessionKind) (name : List ℕ) (s t : LabState) (crossed : List (List ℕ)) (outcome : Outcome) → EndsLabSession kind name s t crossed outcome
    → one_more s.sessions ≤ t.sessions
session_count kind name s t crossed outcome ends =
    let runs = ends.runs in
    let stays : StaysLab (cross_state runs.was.lab) (cross_state runs.became.lab) =
    session_lab kind _ _ _ _ _ runs.made runs.was runs.became _ _ outcome runs.session in
    by (one_more s.sessions) (cross_state runs.was.lab).sessions (cross_state runs.became.lab).sessions t.sessions
    (ap (λ (x : CrossState). x.sessions) runs.begins.lab) stays.later (ap (λ (x : LabState). x.sessions) runs.left)
  where
    by : (a b c e : ℕ) → b ≡ a → b ≤ c → e ≡ c → a ≤ e
    by a b c e same low is = omega (arith, same, low, is)

session_room : (kind : SessionKind) (name : List ℕ) (s t : LabState) (crossed : List (List ℕ)) (outcome : Outcome) → EndsLabSession kind name s t crossed outcome
    → HasSession t → HasSession s
session_room kind name s t crossed outcome ends room = by s.sessions t.sessions (session_count kind name s t crossed outcome ends) room
  where
    by : (a b : ℕ) → one_more a ≤ b → b < 18_446_744_073_709_551_615 → a < 18_446_744_073_709_551_615
    by a b low high = omega (arith, low, high)

same_room : (s t : LabState) → t.sessions ≡ s.sessions → HasSession t → HasSession s
same_room s t same room = subst (λ (n : ℕ). n < 18_446_744_073_709_551_615) same room

said_room : (said : LabLine) (s t : LabState) (printed : List (List ℕ)) → Accepts said s t printed → HasSession t → HasSession s
said_room (lines.Clock at) s t printed (in_time, left, none) room = same_room s t (ap (λ (x : LabState). x.sessions) left) room
said_room (lines.Device name) s t printed (adds, none) room = same_room s t (ap (λ (x : LabState). x.sessions) adds.left) room
said_room (lines.Shift name by) s t printed (shifts, none) room = same_room s t (ap (λ (x : LabState). x.sessions) shifts.left) room
said_room (lines.Review name card ease count) s t printed (ends, none) room = same_room s t (ap (λ (x : LabState). x.sessions) ends.left) room
said_room (lines.Do name text) s t printed (answer, ends, is) room = same_room s t (ap (λ (x : LabState). x.sessions) ends.left) room
said_room (lines.Sync name) s t printed (outcome, text, crossed, ends, told, is) room = session_room kinds.Sync name s t crossed outcome ends room
said_room (lines.Disturb name call what) s t printed (plans, none) room = same_room s t (ap (λ (x : LabState). x.sessions) plans.left) room
said_room (lines.Cross name call other) s t printed (o, found, plans, none) room = same_room s t (ap (λ (x : LabState). x.sessions) plans.left) room
said_room (lines.Replay name call from count) s t printed (has, plans, none) room = same_room s t (ap (λ (x : LabState). x.sessions) plans.left) room
said_room (lines.Resend from count) s t printed resends room = same_room s t (ap (λ (x : LabState). x.sessions) resends.left) room
said_room (lines.Break sides.Server) s t printed (left, none) room = same_room s t (ap (λ (x : LabState). x.sessions) left) room
said_room (lines.Break (sides.Device name)) s t printed (plans, none) room = same_room s t (ap (λ (x : LabState). x.sessions) plans.left) room
said_room (lines.Transfer direction name) s t printed (outcome, text, ends, told, is) room = session_room (kinds.Transfer direction) name s t [] outcome ends room
said_room (lines.Show sides.Server what) s t printed (c, holds, is) room = same_room s t (ap (λ (x : LabState). x.sessions) holds.1.left) room
said_room (lines.Show (sides.Device name) what) s t printed (c, holds, is) room = same_room s t (ap (λ (x : LabState). x.sessions) holds.0) room
said_room (lines.Count sides.Server) s t printed (c, holds, is) room = same_room s t (ap (λ (x : LabState). x.sessions) holds.1.left) room
said_room (lines.Count (sides.Device name)) s t printed (c, holds, is) room = same_room s t (ap (λ (x : LabState). x.sessions) holds.0) room
said_room (lines.Requests name) s t printed is room = same_room s t (ap (λ (x : LabState). x.sessions) is.0) room

pub line_room : (number : ℕ) (line : Line) (s t : LabState) (printed : List (List ℕ)) → EndsAs number line s t (Accepted printed) → HasSession t → HasSession s
line_room number line s t printed (inl nothing) room = same_room s t (ap (λ (x : LabState). x.sessions) nothing.0) room
line_room number line s t printed (inr (said, says, accepts)) room = said_room said (at_line number s) t printed accepts room

pub all_room : (number : ℕ) (all : List Line) (s t : LabState) (printed : List (List ℕ)) → AllGo EndsAs number all s t printed → HasSession t → HasSession s
all_room number [] s t printed (same, none) room = same_room s t (ap (λ (x : LabState). x.sessions) same) room
all_room number (line ∷ more) s t printed (mid, first, others, ends, goes, is) room =
    line_room number line s mid first ends (all_room (number + 1) more mid t others goes room)

-- lines that took fresh schema moments went
pub fresh_goes : (account : AccountState) (number : ℕ) (all : List Line) (s t : LabState) (printed : List (List ℕ)) → AllGoFresh account number all s t printed
    → AllGo EndsAs number all s t printed
fresh_goes account number [] s t printed goes = goes
fresh_goes account number (line ∷ more) s t printed (mid, first, others, ends, takes, goes, is) =
    (mid, first, others, ends, fresh_goes account (number + 1) more mid t others goes, is)

-- ---- it rises by at most one in a line that nothing crosses
one_at_most : (n : ℕ) → one_more n ≤ n + 1
one_at_most n = omega arith

same_count : (s t : LabState) → t.sessions ≡ s.sessions → t.sessions ≤ s.sessions + 1
same_count s t same = no_more t.sessions s.sessions same
  where
    no_more : (a b : ℕ) → a ≡ b → a ≤ b + 1
    no_more a b is = omega (arith, is)

said_count : (said : LabLine) (s t : LabState) (printed : List (List ℕ)) → Accepts said s t printed → IsUncrossed said s → t.sessions ≤ s.sessions + 1
said_count (lines.Clock at) s t printed (in_time, left, none) alone = same_count s t (ap (λ (x : LabState). x.sessions) left)
said_count (lines.Device name) s t printed (adds, none) alone = same_count s t (ap (λ (x : LabState). x.sessions) adds.left)
said_count (lines.Shift name by) s t printed (shifts, none) alone = same_count s t (ap (λ (x : LabState). x.sessions) shifts.left)
said_count (lines.Review name card ease count) s t printed (ends, none) alone = same_count s t (ap (λ (x : LabState). x.sessions) ends.left)
said_count (lines.Do name text) s t printed (answer, ends, is) alone = same_count s t (ap (λ (x : LabState). x.sessions) ends.left)
said_count (lines.Sync name) s t printed (outcome, text, crossed, ends, told, is) alone =
    subst (λ (n : ℕ). n ≤ s.sessions + 1) (sym (ap (λ (x : LabState). x.sessions) (sync_alone name s t crossed outcome ends alone).left)) (one_at_most s.sessions)
said_count (lines.Disturb name call what) s t printed (plans, none) alone = same_count s t (ap (λ (x : LabState). x.sessions) plans.left)
said_count (lines.Cross name call other) s t printed (o, found, plans, none) alone = same_count s t (ap (λ (x : LabState). x.sessions) plans.left)
said_count (lines.Replay name call from count) s t printed (has, plans, none) alone = same_count s t (ap (λ (x : LabState). x.sessions) plans.left)
said_count (lines.Resend from count) s t printed resends alone = same_count s t (ap (λ (x : LabState). x.sessions) resends.left)
said_count (lines.Break sides.Server) s t printed (left, none) alone = same_count s t (ap (λ (x : LabState). x.sessions) left)
said_count (lines.Break (sides.Device name)) s t printed (plans, none) alone = same_count s t (ap (λ (x : LabState). x.sessions) plans.left)
said_count (lines.Transfer direction name) s t printed (outcome, text, ends, told, is) alone =
    subst (λ (n : ℕ). n ≤ s.sessions + 1)
    (sym (ap (λ (x : LabState). x.sessions) (transfer_alone direction name s t outcome ends).left)) (one_at_most s.sessions)
said_count (lines.Show sides.Server what) s t printed (c, holds, is) alone = same_count s t (ap (λ (x : LabState). x.sessions) holds.1.left)
said_count (lines.Show (sides.Device name) what) s t printed (c, holds, is) alone = same_count s t (ap (λ (x : LabState). x.sessions) holds.0)
said_count (lines.Count sides.Server) s t printed (c, holds, is) alone = same_count s t (ap (λ (x : LabState). x.sessions) holds.1.left)
said_count (lines.Count (sides.Device name)) s t printed (c, holds, is) alone = same_count s t (ap (λ (x : LabState). x.sessions) holds.0)
said_count (lines.Requests name) s t printed is alone = same_count s t (ap (λ (x : LabState). x.sessions) is.0)

line_count : (number : ℕ) (line : Line) (s t : LabState) (printed : List (List ℕ)) → EndsAs number line s t (Accepted printed)
    → ((said : LabLine) → Says line said → IsUncrossed said (at_line number s)) → t.sessions ≤ s.sessions + 1
line_count number line s t printed (inl nothing) alone = same_count s t (ap (λ (x : LabState). x.sessions) nothing.0)
line_count number line s t printed (inr (said, says, accepts)) alone = said_count said (at_line number s) t printed accepts (alone said says)

all_count : (number : ℕ) (all : List Line) (s t : LabState) (printed : List (List ℕ)) → AllGoUncrossed number all s t printed → t.sessions ≤ s.sessions + length all
all_count number [] s t printed (same, none) = still t.sessions s.sessions (ap (λ (x : LabState). x.sessions) same)
  where
    still : (a b : ℕ) → a ≡ b → a ≤ b + 0
    still a b is = omega (arith, is)
all_count number (line ∷ more) s t printed (mid, first, others, ends, alone, goes, is) =
    sum s.sessions mid.sessions t.sessions (length more) (line_count number line s mid first ends alone) (all_count (number + 1) more mid t others goes)
  where
    sum : (a b e n : ℕ) → b ≤ a + 1 → e ≤ b + n → e ≤ a + suc n
    sum a b e n first rest = omega (arith, first, rest)

-- so fewer lines than session keys leave one
pub few_lines_leave_room : (all : List Line) (s t : LabState) (printed : List (List ℕ)) → s.sessions ≡ 0 → length all < 18_446_744_073_709_551_615
    → AllGoUncrossed 1 all s t printed → HasSession t
few_lines_leave_room all s t printed none few goes = by s.sessions t.sessions (length all) none (all_count 1 all s t printed goes) few
  where
    by : (a b n : ℕ) → a ≡ 0 → b ≤ a + n → n < 18_446_744_073_709_551_615 → b < 18_446_744_073_709_551_615
    by a b n none most few = omega (arith, none, most, few)

-- ---- nothing crosses a sync if nothing was planned
uncrossed : (said : LabLine) (s : LabState) → HasNoPlans s → IsUncrossed said s
uncrossed (lines.Sync name) s plans = plans name
uncrossed said s plans = tt

pub all_uncrossed : (number : ℕ) (all : List Line) (s t : LabState) (printed : List (List ℕ)) → HasNoPlans s → AllByRecursion SaysNoAct all → AllGo EndsAs number all s t printed
    → AllGoUncrossed number all s t printed
all_uncrossed number [] s t printed plans none goes = goes
all_uncrossed number (line ∷ more) s t printed plans none (mid, first, others, ends, goes, is) = (
  mid,
  first,
  others,
  ends,
  λ said says. uncrossed said (at_line number s) (at_line_plans number s plans),
  all_uncrossed (number + 1) more mid t others (line_plans number line s mid first plans none.0 ends) none.1 goes,
  is,
)
