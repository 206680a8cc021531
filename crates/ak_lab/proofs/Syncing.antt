-- A session of the device at a place is one of the device of its name.
use Rattle.std.proofs.Common.{◌≡◌, ℕ, ℤ, ◌+ℤ◌, List, [], ◌∷◌, ◌++◌, Some, None, Result, Ok, Err, refl, sym, ap, subst, ◌∙◌, inl, inr, slice_get, slice_set}
use Rattle.ak_client.specs.declared.outcomes.Outcome.{Outcome}
use Rattle.ak_faults.specs.Causes.{one_more}
use Rattle.ak_lab.proofs.Coming.{stopped_at_once}
use Rattle.ak_lab.proofs.Shifting.{ready_after}
use Rattle.ak_lab.specs.LabStates.{IsReady, LabState}
use Rattle.ak_lab.specs.LabStops.{PrintsOutcome}
use Rattle.ak_lab.specs.LabSyncs.{EndsLabSession, RunsAt, mishaps_for, planned_for, server_met, session_line, with_fails, without_plan_for}
use Rattle.ak_lab.specs.LineStops.{CameOut}
use Rattle.ak_lab_devices.specs.Devices.{IsPlaceOf, device_of}
use Rattle.ak_lab_devices.specs.declared.devices.Device.{Device}
use Rattle.ak_lab_lines.specs.LabTexts.{direction_word, ending_text, no_device_text}
use Rattle.ak_lab_lines.specs.declared.lab_lines.Direction.{Direction}
use Rattle.ak_lab_lines.specs.declared.lab_lines.LabLine.TheVariants as lines
use Rattle.ak_lab_wires.proofs.Alone.{lab_stays}
use Rattle.ak_lab_wires.specs.CrossedSyncs.{CrossState, CrossesAt, cross_state, crosses_nothing}
use Rattle.ak_lab_wires.specs.LabSessions.{IsSessionOver, fails_after}
use Rattle.ak_lab_wires.specs.declared.crossed_syncs.Crossings.{Crossings}
use Rattle.ak_lab_wires.specs.declared.lab_sessions.SessionKind.{SessionKind}
use Rattle.ak_lab_wires.specs.declared.lab_sessions.SessionKind.TheVariants as kinds
use Rattle.ak_line_runs.specs.LineStops.{IsStopBy}
use Rattle.ak_line_runs.specs.declared.line_stops.LineStop.{LineStop}
use Rattle.ak_line_runs.specs.declared.line_stops.LineStop.TheVariants as stops
use Rattle.ak_sync_in_memory.specs.Entries.{LoggedState}
use Rattle.ak_sync_in_memory.specs.declared.mishaps.Mishap.{Mishap}

-- the lab after a session of the device at a place
abbrev pub synced_at : ℕ → Device → LoggedState → Crossings → List ℕ → LabState → LabState
synced_at place made server became fails s =
    record s { server = server; sessions = became.lab.sessions; fails = fails; devices = slice_set became.lab.devices.items place made }

-- the lab in which others sync meanwhile, field by field
pub cross_begins : (s : LabState) (x : CrossState) (place : ℕ) (stand_in : Device) → x.clock ≡ s.clock → x.sessions ≡ one_more s.sessions
    → x.devices ≡ slice_set s.devices place stand_in → x.printed ≡ []
    → x ≡ (let y : CrossState = record { clock = s.clock; sessions = one_more s.sessions; devices = slice_set s.devices place stand_in; printed = [] } in y)
cross_begins s x place stand_in clock sessions devices printed =
    ap (λ (z : ℤ). let y : CrossState = record x { clock = z } in y) clock
    ∙ ap (λ (n : ℕ). let y : CrossState = record x { clock = s.clock; sessions = n } in y) sessions
    ∙ ap (λ (l : List Device). let y : CrossState = record x { clock = s.clock; sessions = one_more s.sessions; devices = l } in y) devices
    ∙ ap (λ (l : List (List ℕ)). let y : CrossState = record {
      clock = s.clock;
      sessions = one_more s.sessions;
      devices = slice_set s.devices place stand_in;
      printed = l;
    } in y) printed

-- a session over a wire that was made with the server, and with what others do between its calls. The calls of the server's keeper that are to fail
-- were set before it, and none is set after it
pub runs_there : (kind : SessionKind) (place key : ℕ) (s t : LabState) (d taken made stand_in : Device) (at : ℤ) (moments : List ℤ) (mishaps : List Mishap) (was became : Crossings)
    (old new rested : LoggedState) (fails : List ℕ) (crossed : List (List ℕ)) (outcome : Outcome) → slice_get s.devices place ≡ Some d → stand_in.name ≡ [] → stand_in.shift ≡ d.shift
    → was.acts ≡ planned_for kind d
    → cross_state was.lab ≡ (let x : CrossState = record { clock = s.clock; sessions = one_more s.sessions; devices = slice_set s.devices place stand_in; printed = [] } in x)
    → key ≡ one_more s.sessions → at ≡ s.clock → moments ≡ (s.clock +ℤ d.shift) ∷ [] → mishaps ≡ mishaps_for kind d → taken ≡ without_plan_for kind d → old ≡ server_met kind s
    → IsSessionOver CrossesAt crosses_nothing kind key at moments mishaps taken made was became old new outcome
    → rested ≡ with_fails [] new → fails ≡ fails_after kind s.fails → t ≡ synced_at place made rested became fails s → crossed ≡ became.lab.printed → RunsAt kind place s t crossed outcome
runs_there kind place key s t d taken made stand_in at moments mishaps was became old new rested fails crossed outcome there nameless shift acts lab next clock gives mishaps_are taken_is server ran rests fails_are left told =
    let handed : t.server ≡ with_fails [] new = ap (λ (x : LabState). x.server) left ∙ rests in
    record {
      d = d;
      made = made;
      at = there;
      was = was;
      became = became;
      begins = record { stand_in = stand_in; nameless = nameless; shift = shift; acts = acts; lab = lab };
      fails_left = new.fails;
      session = subst (λ (x : LoggedState). IsSessionOver CrossesAt crosses_nothing kind (one_more s.sessions) s.clock ((s.clock +ℤ d.shift) ∷ []) (mishaps_for kind d) (without_plan_for kind d) made was became (server_met kind s) x outcome)
          (sym (ap (with_fails new.fails) handed))
          (rw (next, clock, gives, mishaps_are, taken_is, server) at ran);
      rests = ap (λ (x : LoggedState). x.fails) handed;
      left = left ∙ ap (λ (x : LoggedState). synced_at place made x became fails s) (sym (ap (λ (x : LabState). x.server) left))
          ∙ ap (λ (l : List ℕ). synced_at place made t.server became l s) fails_are;
      told = told;
    }

-- the clock of a device is no part of its plan
pub unplanned_shift : (kind : SessionKind) (d : Device) → (without_plan_for kind d).shift ≡ d.shift
unplanned_shift kinds.Sync d = refl
unplanned_shift (kinds.Transfer direction) d = refl

-- the clocks stand as they did, and the keeper does not fail
pub session_ready : (kind : SessionKind) (place : ℕ) (s t : LabState) (crossed : List (List ℕ)) (outcome : Outcome) → RunsAt kind place s t crossed outcome → IsReady s → IsReady t
session_ready kind place s t crossed outcome runs ready =
    ready_after kind place s t crossed outcome runs (ap (λ (x : Device). x.shift) runs.session.rest ∙ unplanned_shift kind runs.d) ready

-- the session of the device at a place
pub ends_session : (kind : SessionKind) (name : List ℕ) (s t : LabState) (place : ℕ) (crossed : List (List ℕ)) (outcome : Outcome) → IsPlaceOf name s.devices place
    → RunsAt kind place s t crossed outcome → EndsLabSession kind name s t crossed outcome
ends_session kind name s t place crossed outcome is runs = record {
  place = place;
  is = is;
  runs = runs;
}

-- nothing crosses an upload and a download
uncrossed : (direction : Direction) (name : List ℕ) (s t : LabState) (crossed : List (List ℕ)) (outcome : Outcome) → EndsLabSession (kinds.Transfer direction) name s t crossed outcome
    → crossed ≡ []
uncrossed direction name s t crossed outcome ends =
    let runs = ends.runs in
    runs.told
    ∙ ap (λ (x : CrossState). x.printed)
    ((lab_stays (kinds.Transfer direction) _ _ _ _ _ runs.made runs.was runs.became _ _ outcome runs.session runs.begins.acts).1 ∙ runs.begins.lab)

-- the outcome is printed, if memory suffices for it
pub session_printed : (kind : SessionKind) (name : List ℕ) (s t : LabState) (crossed : List (List ℕ)) (outcome : Outcome) (result : Result (List (List ℕ)) LineStop)
    → PrintsOutcome kind name crossed outcome result → EndsLabSession kind name s t crossed outcome → CameOut (session_line kind name) s t result
session_printed kinds.Sync name s t crossed outcome (Ok printed) (text, is, said) ends = (outcome, text, crossed, ends, is, said)
session_printed (kinds.Transfer direction) name s t crossed outcome (Ok printed) (text, is, said) ends =
    let none = uncrossed direction name s t crossed outcome ends in (
      outcome,
      text,
      subst (λ (l : List (List ℕ)). EndsLabSession (kinds.Transfer direction) name s t l outcome) none ends,
      is,
      said ∙ ap (λ (l : List (List ℕ)). l ++ ending_text (direction_word direction) name text ∷ []) none,
    )
session_printed kind name s t crossed outcome (Err stop) out ends =
    subst (λ (stop : LineStop). CameOut (session_line kind name) s t (Err stop)) (sym out) (short_of kind ends)
  where
    short_of : (it : SessionKind) → EndsLabSession it name s t crossed outcome → CameOut (session_line it name) s t (Err stops.Memory)
    short_of kinds.Sync ended = inr (crossed, outcome, ended)
    short_of (kinds.Transfer direction) ended =
        inr (outcome, subst (λ (l : List (List ℕ)). EndsLabSession (kinds.Transfer direction) name s t l outcome) (uncrossed direction name s t crossed outcome ended) ended)

-- memory ran out before the session began
pub session_unbegun : (kind : SessionKind) (name : List ℕ) (s t : LabState) → t ≡ s → CameOut (session_line kind name) s t (Err stops.Memory)
session_unbegun kinds.Sync name s t same = inl same
session_unbegun (kinds.Transfer direction) name s t same = inl same

-- it names no device
pub session_unnamed : (kind : SessionKind) (name : List ℕ) (s : LabState) (stop : LineStop) → IsStopBy (no_device_text name) stop
    → device_of name s.devices ≡ None → CameOut (session_line kind name) s s (Err stop)
session_unnamed kinds.Sync name s stop is none = stopped_at_once (lines.Sync name) s (no_device_text name) stop is (refl, none, refl)
session_unnamed (kinds.Transfer direction) name s stop is none =
    stopped_at_once (lines.Transfer direction name) s (no_device_text name) stop is (refl, none, refl)
