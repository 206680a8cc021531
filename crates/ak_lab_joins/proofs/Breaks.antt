-- An entry of a run of a lab met a fault of the server's keeper only in a sync for which a break of the server stood.
use Rattle.std.specs.Prelude.{◌≡◌, ◌+◌, ℕ, zero, suc, Bool, true, false, not, List, [], ◌∷◌, ◌++◌, length, Option, replicate}
use Rattle.std.proofs.Common.{refl, sym, ap, ◌∙◌, inl, inr, append-nil}
use Rattle.ak_faults.specs.Calls.{names_none}
use Rattle.ak_io.specs.declared.lines.Line.{Line}
use Rattle.ak_keep.specs.Collections.{Collection}
use Rattle.ak_lab.specs.LabRuns.{RunsLab}
use Rattle.ak_lab.specs.LabStates.{LabState, at_line, opened_lab}
use Rattle.ak_lab.specs.LabSteps.{Accepts, RefusesWith, RunsShort, SideHolds}
use Rattle.ak_lab.specs.LineOutcomes.{EndsAs, Says}
use Rattle.ak_lab_joins.proofs.Unfailed.{SessionMeets, StaysUnfailed, all_unfailed, nothing_came, session_meets}
use Rattle.ak_lab_joins.specs.LabBreaks.{FaultsByBreak, FaultsInLine, GoByBreaks, HasCalmServer, LastFaultsByBreak, RunFaultsByBreaks, StandsSo, stands_after}
use Rattle.ak_lab_joins.specs.LabMishaps.{AreFaultless}
use Rattle.ak_lab_lines.specs.declared.lab_lines.LabLine.{LabLine}
use Rattle.ak_lab_lines.specs.declared.lab_lines.LabLine.TheVariants as lines
use Rattle.ak_lab_lines.specs.declared.lab_lines.Side.{Side}
use Rattle.ak_lab_lines.specs.declared.lab_lines.Side.TheVariants as sides
use Rattle.ak_lab_wires.specs.Servings.{named_from, requests_in}
use Rattle.ak_lab_wires.specs.declared.lab_sessions.SessionKind.TheVariants as kinds
use Rattle.ak_line_runs.specs.LineRuns.{Accepted, AllGo, Failed, IsNext, NextEnds, OutOfMemory, Outcome, Refused, Stops}
use Rattle.ak_line_runs.specs.declared.command_ends.CommandEnd.{CommandEnd}
use Rattle.ak_line_runs.specs.declared.command_ends.CommandEnd.TheVariants as ends
use Rattle.ak_openings.specs.declared.whole_collections.Opening.{Opening}
use Rattle.ak_sync_in_memory.specs.Copies.{IsViewed}
use Rattle.ak_sync_in_memory.specs.Entries.{LoggedState, entry_of, health_in}
use Rattle.ak_sync_in_memory.specs.declared.logs.Entry.{Entry}
use Rattle.ak_sync_in_memory.specs.declared.logs.Logged.TheVariants as logged

-- ---- views
views_meet_none : (line views : ℕ) → AreFaultless (replicate views (entry_of line logged.Viewed))
views_meet_none line zero = tt
views_meet_none line (suc views) = (tt, views_meet_none line views)

viewed_stays : (old new : LoggedState) → IsViewed old new → (health_in new).calm ≡ true → StaysUnfailed old new
viewed_stays old new viewed calm = record {
  added = replicate viewed.views (entry_of old.line logged.Viewed);
  entries = ap (λ (s : LoggedState). s.entries) viewed.adds;
  calm = λ is. calm;
  met = λ is. views_meet_none old.line viewed.views;
}

-- ---- a line
no_fault_meets : (said : LabLine) (stood : Bool) (entries : List Entry) → AreFaultless entries → FaultsByBreak said stood entries
no_fault_meets (lines.Sync name) true entries met = tt
no_fault_meets (lines.Sync name) false entries met = met
no_fault_meets said stood entries met = met

-- what came to the server in a line that says this
record Comes (said : LabLine) (stood : Bool) (s t : LabState) : Type 0 where
  pub added : List Entry
  pub entries : t.server.entries ≡ s.server.entries ++ added
  pub meet : FaultsByBreak said stood added

-- and what is planned then
record Goes (said : LabLine) (stood : Bool) (s t : LabState) : Type 0 where
  pub comes : Comes said stood s t
  pub calm : HasCalmServer t
  pub stands : StandsSo (stands_after said stood) t

-- a line in which no keeper fails
comes_unfailed : (said : LabLine) (stood : Bool) (s t : LabState) → HasCalmServer s → StaysUnfailed s.server t.server → Comes said stood s t
comes_unfailed said stood s t calm stays =
    record { added = stays.added; entries = stays.entries; meet = no_fault_meets said stood stays.added (stays.met calm) }

-- one that plans nothing for the server
goes_unfailed : (said : LabLine) (stood : Bool) (s t : LabState) → stands_after said stood ≡ stood → StandsSo stood s → HasCalmServer s → t.fails ≡ s.fails
    → StaysUnfailed s.server t.server → Goes said stood s t
goes_unfailed said stood s t still stands calm same stays = record {
  comes = comes_unfailed said stood s t calm stays;
  calm = stays.calm calm;
  stands = ap names_none same ∙ stands ∙ ap not (sym still);
}

-- the server is the same
same_server : (s t : LabState) → t.server ≡ s.server → StaysUnfailed s.server t.server
same_server s t same = nothing_came s.server t.server same

-- a sync
sync_comes : (name : List ℕ) (s t : LabState) (stood : Bool) → StandsSo stood s → SessionMeets kinds.Sync s t → Comes (lines.Sync name) stood s t
sync_comes name s t true stands it = record { added = it.added; entries = it.entries; meet = tt }
sync_comes name s t false stands it = record { added = it.added; entries = it.entries; meet = it.met stands }

looked_goes : (said : LabLine) (stood : Bool) (side : Side) (s t : LabState) (c : Collection) → stands_after said stood ≡ stood → StandsSo stood s → HasCalmServer s
    → SideHolds side s t c → Goes said stood s t
looked_goes said stood sides.Server s t c still stands calm (committed, reads) =
    goes_unfailed said stood s t still stands calm (ap (λ (x : LabState). x.fails) reads.left) (viewed_stays s.server t.server reads.viewed reads.calm)
looked_goes said stood (sides.Device name) s t c still stands calm holds =
    goes_unfailed said stood s t still stands calm (ap (λ (x : LabState). x.fails) holds.0) (same_server s t (ap (λ (x : LabState). x.server) holds.0))

said_goes : (said : LabLine) (s t : LabState) (printed : List (List ℕ)) (stood : Bool) → StandsSo stood s → HasCalmServer s → Accepts said s t printed → Goes said stood s t
said_goes (lines.Clock at) s t printed stood stands calm (in_time, left, none) =
    goes_unfailed (lines.Clock at) stood s t refl stands calm (ap (λ (x : LabState). x.fails) left) (same_server s t (ap (λ (x : LabState). x.server) left))
said_goes (lines.Device name) s t printed stood stands calm (adds, none) =
    goes_unfailed (lines.Device name) stood s t refl stands calm (ap (λ (x : LabState). x.fails) adds.left) (viewed_stays s.server t.server adds.read adds.calm)
said_goes (lines.Shift name by) s t printed stood stands calm (shifts, none) =
    goes_unfailed (lines.Shift name by) stood s t refl stands calm (ap (λ (x : LabState). x.fails) shifts.left) (same_server s t (ap (λ (x : LabState). x.server) shifts.left))
said_goes (lines.Review name card ease count) s t printed stood stands calm (done, none) =
    goes_unfailed (lines.Review name card ease count) stood s t refl stands calm (ap (λ (x : LabState). x.fails) done.left) (same_server s t (ap (λ (x : LabState). x.server) done.left))
said_goes (lines.Do name text) s t printed stood stands calm (answer, done, is) =
    goes_unfailed (lines.Do name text) stood s t refl stands calm (ap (λ (x : LabState). x.fails) done.left) (same_server s t (ap (λ (x : LabState). x.server) done.left))
said_goes (lines.Sync name) s t printed stood stands calm (outcome, text, crossed, ended, told, is) = record {
  comes = sync_comes name s t stood stands (session_meets kinds.Sync name s t crossed outcome ended);
  calm = ap names_none ended.runs.rests;
  stands = ap (λ (x : LabState). names_none x.fails) ended.runs.left;
}
said_goes (lines.Disturb name call what) s t printed stood stands calm (plan, none) =
    goes_unfailed (lines.Disturb name call what) stood s t refl stands calm (ap (λ (x : LabState). x.fails) plan.left) (same_server s t (ap (λ (x : LabState). x.server) plan.left))
said_goes (lines.Cross name call other) s t printed stood stands calm (o, found, plan, none) =
    goes_unfailed (lines.Cross name call other) stood s t refl stands calm (ap (λ (x : LabState). x.fails) plan.left) (same_server s t (ap (λ (x : LabState). x.server) plan.left))
said_goes (lines.Replay name call from count) s t printed stood stands calm (has, plan, none) =
    goes_unfailed (lines.Replay name call from count) stood s t refl stands calm (ap (λ (x : LabState). x.fails) plan.left) (same_server s t (ap (λ (x : LabState). x.server) plan.left))
said_goes (lines.Resend from count) s t printed stood stands calm resends =
    goes_unfailed (lines.Resend from count) stood s t refl stands calm (ap (λ (x : LabState). x.fails) resends.left)
    (all_unfailed (named_from from count (requests_in s.server.entries)) resends.replies s.clock s.server t.server resends.serves)
said_goes (lines.Break sides.Server) s t printed stood stands calm (left, none) =
    let stays = same_server s t (ap (λ (x : LabState). x.server) left) in
    record {
      comes = comes_unfailed (lines.Break sides.Server) stood s t calm stays;
      calm = stays.calm calm;
      stands = ap (λ (x : LabState). names_none x.fails) left;
    }
said_goes (lines.Break (sides.Device name)) s t printed stood stands calm (plan, none) =
    goes_unfailed (lines.Break (sides.Device name)) stood s t refl stands calm (ap (λ (x : LabState). x.fails) plan.left) (same_server s t (ap (λ (x : LabState). x.server) plan.left))
said_goes (lines.Transfer direction name) s t printed stood stands calm (outcome, text, ended, told, is) =
    let it = session_meets (kinds.Transfer direction) name s t [] outcome ended in
    record {
      comes = record { added = it.added; entries = it.entries; meet = it.met refl };
      calm = ap names_none ended.runs.rests;
      stands = ap (λ (x : LabState). names_none x.fails) ended.runs.left ∙ stands;
    }
said_goes (lines.Show side what) s t printed stood stands calm (c, holds, is) = looked_goes (lines.Show side what) stood side s t c refl stands calm holds
said_goes (lines.Count side) s t printed stood stands calm (c, holds, is) = looked_goes (lines.Count side) stood side s t c refl stands calm holds
said_goes (lines.Requests name) s t printed stood stands calm is =
    goes_unfailed (lines.Requests name) stood s t refl stands calm (ap (λ (x : LabState). x.fails) is.0) (same_server s t (ap (λ (x : LabState). x.server) is.0))

-- a line of a script: it says nothing, or what it says goes so
record LineGoes (line : Line) (stood : Bool) (s t : LabState) : Type 0 where
  pub stands : Bool
  pub faults : FaultsInLine line stood stands s t
  pub after : StandsSo stands t
  pub calm : HasCalmServer t

line_goes : (number : ℕ) (line : Line) (s t : LabState) (printed : List (List ℕ)) (stood : Bool) → StandsSo stood s → HasCalmServer s
    → EndsAs number line s t (Accepted printed) → LineGoes line stood s t
line_goes number line s t printed stood stands calm (inl nothing) = record {
  stands = stood;
  faults = record {
    added = [];
    entries = ap (λ (x : LabState). x.server.entries) nothing.0 ∙ sym (append-nil s.server.entries);
    meet = inl (nothing.1.0, refl, refl);
  };
  after = ap (λ (x : LabState). names_none x.fails) nothing.0 ∙ stands;
  calm = ap (λ (x : LabState). (health_in x.server).calm) nothing.0 ∙ calm;
}
line_goes number line s t printed stood stands calm (inr (said, says, accepts)) =
    let it = said_goes said (at_line number s) t printed stood stands calm accepts in
    record {
      stands = stands_after said stood;
      faults = record { added = it.comes.added; entries = it.comes.entries; meet = inr (said, says, refl, it.comes.meet) };
      after = it.stands;
      calm = it.calm;
    }

pub line_meets : (number : ℕ) (line : Line) (s t : LabState) (printed : List (List ℕ)) (stood : Bool) → StandsSo stood s → HasCalmServer s
    → EndsAs number line s t (Accepted printed) → (stands : Bool) × FaultsInLine line stood stands s t × StandsSo stands t × HasCalmServer t
line_meets number line s t printed stood stands calm ends =
    let it = line_goes number line s t printed stood stands calm ends in (it.stands, it.faults, it.after, it.calm)

-- ---- lines that went
pub all_meet : (number : ℕ) (all : List Line) (s t : LabState) (printed : List (List ℕ)) (stood : Bool) → StandsSo stood s → HasCalmServer s
    → AllGo EndsAs number all s t printed → GoByBreaks number all stood s t printed
all_meet number [] s t printed stood stands calm (same, nothing) = record {
  stands = stood;
  goes = (refl, same, nothing);
  after = ap (λ (x : LabState). names_none x.fails) same ∙ stands;
  calm = ap (λ (x : LabState). (health_in x.server).calm) same ∙ calm;
}
all_meet number (line ∷ more) s t printed stood stands calm (mid, first, others, ends, goes, is) =
    let one = line_goes number line s mid first stood stands calm ends in
    let rest = all_meet (number + 1) more mid t others one.stands one.after one.calm goes in
    record {
      stands = rest.stands;
      goes = (mid, one.stands, first, others, ends, one.faults, rest.goes, is);
      after = rest.after;
      calm = rest.calm;
    }

-- ---- the line at which a run stops
-- a line that is refused
refused_unfailed : (said : LabLine) (s t : LabState) (why : List ℕ) → RefusesWith said s t why → StaysUnfailed s.server t.server
refused_unfailed (lines.Clock at) s t why is = same_server s t (ap (λ (x : LabState). x.server) is.0)
refused_unfailed (lines.Device name) s t why is = same_server s t (ap (λ (x : LabState). x.server) is.0)
refused_unfailed (lines.Shift name by) s t why (inl none) = same_server s t (ap (λ (x : LabState). x.server) none.0)
refused_unfailed (lines.Shift name by) s t why (inr is) = same_server s t (ap (λ (x : LabState). x.server) is.0)
refused_unfailed (lines.Review name card ease count) s t why (inl none) = same_server s t (ap (λ (x : LabState). x.server) none.0)
refused_unfailed (lines.Review name card ease count) s t why (inr is) = same_server s t (ap (λ (x : LabState). x.server) is.1.left)
refused_unfailed (lines.Do name text) s t why (inl none) = same_server s t (ap (λ (x : LabState). x.server) none.0)
refused_unfailed (lines.Do name text) s t why (inr (inl unsaid)) = same_server s t (ap (λ (x : LabState). x.server) unsaid.left)
refused_unfailed (lines.Do name text) s t why (inr (inr is)) = same_server s t (ap (λ (x : LabState). x.server) is.1.left)
refused_unfailed (lines.Sync name) s t why none = same_server s t (ap (λ (x : LabState). x.server) none.0)
refused_unfailed (lines.Disturb name call what) s t why none = same_server s t (ap (λ (x : LabState). x.server) none.0)
refused_unfailed (lines.Cross name call other) s t why (inl none) = same_server s t (ap (λ (x : LabState). x.server) none.0)
refused_unfailed (lines.Cross name call other) s t why (inr is) = same_server s t (ap (λ (x : LabState). x.server) is.2.0)
refused_unfailed (lines.Replay name call from count) s t why (inl none) = same_server s t (ap (λ (x : LabState). x.server) none.0)
refused_unfailed (lines.Replay name call from count) s t why (inr is) = same_server s t (ap (λ (x : LabState). x.server) is.2.0)
refused_unfailed (lines.Resend from count) s t why is = same_server s t (ap (λ (x : LabState). x.server) is.0)
refused_unfailed (lines.Break (sides.Device name)) s t why none = same_server s t (ap (λ (x : LabState). x.server) none.0)
refused_unfailed (lines.Break sides.Server) s t why none = absurd none
refused_unfailed (lines.Transfer direction name) s t why none = same_server s t (ap (λ (x : LabState). x.server) none.0)
refused_unfailed (lines.Show (sides.Device name) what) s t why none = same_server s t (ap (λ (x : LabState). x.server) none.0)
refused_unfailed (lines.Show sides.Server what) s t why none = absurd none
refused_unfailed (lines.Count (sides.Device name)) s t why none = same_server s t (ap (λ (x : LabState). x.server) none.0)
refused_unfailed (lines.Count sides.Server) s t why none = absurd none
refused_unfailed (lines.Requests name) s t why none = same_server s t (ap (λ (x : LabState). x.server) none.0)

-- a line in which memory ran out, whose server is not used any more
comes_same : (said : LabLine) (stood : Bool) (s t : LabState) → HasCalmServer s → t ≡ s → Comes said stood s t
comes_same said stood s t calm same = comes_unfailed said stood s t calm (same_server s t (ap (λ (x : LabState). x.server) same))

comes_viewed : (said : LabLine) (stood : Bool) (s t : LabState) → IsViewed s.server t.server → Comes said stood s t
comes_viewed said stood s t viewed =
    let views = replicate viewed.views (entry_of s.server.line logged.Viewed) in
    record {
      added = views;
      entries = ap (λ (x : LoggedState). x.entries) viewed.adds;
      meet = no_fault_meets said stood views (views_meet_none s.server.line viewed.views);
    }

short_comes : (said : LabLine) (s t : LabState) (stood : Bool) → StandsSo stood s → HasCalmServer s → RunsShort said s t → Comes said stood s t
short_comes (lines.Clock at) s t stood stands calm same = comes_same (lines.Clock at) stood s t calm same
short_comes (lines.Device name) s t stood stands calm (inl same) = comes_same (lines.Device name) stood s t calm same
short_comes (lines.Device name) s t stood stands calm (inr (room, only)) = comes_viewed (lines.Device name) stood s t only.0
short_comes (lines.Shift name by) s t stood stands calm same = comes_same (lines.Shift name by) stood s t calm same
short_comes (lines.Review name card ease count) s t stood stands calm (inl same) = comes_same (lines.Review name card ease count) stood s t calm same
short_comes (lines.Review name card ease count) s t stood stands calm (inr (result, done)) =
    comes_unfailed (lines.Review name card ease count) stood s t calm (same_server s t (ap (λ (x : LabState). x.server) done.left))
short_comes (lines.Do name text) s t stood stands calm (inl same) = comes_same (lines.Do name text) stood s t calm same
short_comes (lines.Do name text) s t stood stands calm (inr (result, done)) =
    comes_unfailed (lines.Do name text) stood s t calm (same_server s t (ap (λ (x : LabState). x.server) done.left))
short_comes (lines.Sync name) s t stood stands calm (inl same) = comes_same (lines.Sync name) stood s t calm same
short_comes (lines.Sync name) s t stood stands calm (inr (crossed, outcome, ended)) =
    sync_comes name s t stood stands (session_meets kinds.Sync name s t crossed outcome ended)
short_comes (lines.Disturb name call what) s t stood stands calm same = comes_same (lines.Disturb name call what) stood s t calm same
short_comes (lines.Cross name call other) s t stood stands calm same = comes_same (lines.Cross name call other) stood s t calm same
short_comes (lines.Replay name call from count) s t stood stands calm same = comes_same (lines.Replay name call from count) stood s t calm same
short_comes (lines.Resend from count) s t stood stands calm (inl same) = comes_same (lines.Resend from count) stood s t calm same
short_comes (lines.Resend from count) s t stood stands calm (inr some) =
    comes_unfailed (lines.Resend from count) stood s t calm (all_unfailed some.serves.served some.serves.replies s.clock s.server t.server some.serves.serves)
short_comes (lines.Break side) s t stood stands calm same = comes_same (lines.Break side) stood s t calm same
short_comes (lines.Transfer direction name) s t stood stands calm (inl same) = comes_same (lines.Transfer direction name) stood s t calm same
short_comes (lines.Transfer direction name) s t stood stands calm (inr (outcome, ended)) =
    let it = session_meets (kinds.Transfer direction) name s t [] outcome ended in
    record { added = it.added; entries = it.entries; meet = it.met refl }
short_comes (lines.Show sides.Server what) s t stood stands calm only = comes_viewed (lines.Show sides.Server what) stood s t only.0
short_comes (lines.Show (sides.Device name) what) s t stood stands calm same = comes_same (lines.Show (sides.Device name) what) stood s t calm same
short_comes (lines.Count sides.Server) s t stood stands calm only = comes_viewed (lines.Count sides.Server) stood s t only.0
short_comes (lines.Count (sides.Device name)) s t stood stands calm same = comes_same (lines.Count (sides.Device name)) stood s t calm same
short_comes (lines.Requests name) s t stood stands calm same = comes_same (lines.Requests name) stood s t calm same

-- nothing came, or it came in the next line
same_last : (left : Option (List Line)) (number : ℕ) (stood : Bool) (s t : LabState) → t ≡ s → LastFaultsByBreak left number stood s t
same_last left number stood s t same = inl (ap (λ (x : LabState). x.server.entries) same)

-- the line of the entries to come is no part of what came
said_last : (left : Option (List Line)) (line : Line) (said : LabLine) (number : ℕ) (stood : Bool) (s t : LabState) (outcome : Outcome) → IsNext left line
    → Says line said → EndsAs number line s t outcome → Comes said stood (at_line number s) t → LastFaultsByBreak left number stood s t
said_last left line said number stood s t outcome is says ends comes = inr (
  line,
  outcome,
  stands_after said stood,
  is,
  ends,
  record { added = comes.added; entries = comes.entries; meet = inr (said, says, refl, comes.meet) },
)

next_comes : (left : Option (List Line)) (number : ℕ) (s t : LabState) (outcome : Outcome) (stood : Bool) → StandsSo stood s → HasCalmServer s
    → NextEnds EndsAs left number s t outcome → LastFaultsByBreak left number stood s t
next_comes left number s t outcome stood stands calm (line, is, inl nothing) = inl (ap (λ (x : LabState). x.server.entries) nothing.0)
next_comes left number s t (Accepted printed) stood stands calm (line, is, inr (said, says, accepts)) =
    said_last left line said number stood s t (Accepted printed) is says (inr (said, says, accepts))
    (said_goes said (at_line number s) t printed stood stands calm accepts).comes
next_comes left number s t (Refused why) stood stands calm (line, is, inr (said, says, refuses)) =
    said_last left line said number stood s t (Refused why) is says (inr (said, says, refuses))
    (comes_unfailed said stood (at_line number s) t calm (refused_unfailed said (at_line number s) t why refuses))
next_comes left number s t Failed stood stands calm (line, is, inr (said, says, nothing)) = absurd nothing
next_comes left number s t OutOfMemory stood stands calm (line, is, inr (said, says, short)) =
    said_last left line said number stood s t OutOfMemory is says (inr (said, says, short)) (short_comes said (at_line number s) t stood stands calm short)

stops_comes : (end : CommandEnd) (left : Option (List Line)) (number : ℕ) (s t : LabState) (more : List ℕ) (stood : Bool) → StandsSo stood s → HasCalmServer s
    → Stops EndsAs end left number s t more → LastFaultsByBreak left number stood s t
stops_comes ends.Done left number s t more stood stands calm (none, same, nothing) = same_last left number stood s t same
stops_comes ends.Refused left number s t more stood stands calm (why, next, is) = next_comes left number s t (Refused why) stood stands calm next
stops_comes ends.ReadFailed left number s t more stood stands calm (same, nothing) = same_last left number stood s t same
stops_comes ends.WriteFailed left number s t more stood stands calm (inl (printed, next, part)) = next_comes left number s t (Accepted printed) stood stands calm next
stops_comes ends.WriteFailed left number s t more stood stands calm (inr (why, next, part)) = next_comes left number s t (Refused why) stood stands calm next
stops_comes ends.KeeperFailed left number s t more stood stands calm (next, nothing) = next_comes left number s t Failed stood stands calm next
stops_comes ends.Memory left number s t more stood stands calm (nothing, inl same) = same_last left number stood s t same
stops_comes ends.Memory left number s t more stood stands calm (nothing, inr (inl next)) = next_comes left number s t OutOfMemory stood stands calm next
stops_comes ends.Memory left number s t more stood stands calm (nothing, inr (inr (why, next))) = next_comes left number s t (Refused why) stood stands calm next

-- ---- a run
pub opened_meets : (opening : Opening) → StandsSo false (opened_lab opening) × HasCalmServer (opened_lab opening)
opened_meets opening = (refl, refl)

pub runs_meet_by_breaks : (end : CommandEnd) (all : Option (List Line)) (entries : List Entry) (old new : Option (List ℕ)) → (it : RunsLab end all entries old new)
    → RunFaultsByBreaks it.run.gone it.run.left (opened_lab it.opening) it.run.reached it.last it.run.printed
runs_meet_by_breaks end all entries old new it =
    let run = it.run in
    let opened : LabState = opened_lab it.opening in
    let gone : GoByBreaks 1 run.gone false opened run.reached run.printed =
    all_meet 1 run.gone opened run.reached run.printed false (opened_meets it.opening).0 (opened_meets it.opening).1 run.goes in
    record {
      stands = gone.stands;
      goes = gone.goes;
      stops = stops_comes end run.left (length run.gone + 1) run.reached it.last run.more gone.stands gone.after gone.calm run.stops;
    }
