-- What comes of lines that make a keeper fail: a device's, or the server's.
use Rattle.std.specs.List.{AllByRecursion}
use Rattle.std.specs.Prelude.{◌≡◌, ◌≢◌, ◌⊎◌, ◌+◌, ℕ, Bool, true, false, not, List, [], ◌∷◌, ◌++◌, length, Option, Some, ⊤}
use Rattle.ak_client.specs.declared.outcomes.Outcome.TheVariants as outcomes
use Rattle.ak_faults.specs.Calls.{names_none}
use Rattle.ak_io.specs.declared.lines.Line.{Line}
use Rattle.ak_lab.specs.LabStates.{LabState}
use Rattle.ak_lab.specs.LineOutcomes.{EndsAs, Says}
use Rattle.ak_lab_devices.specs.Devices.{device_of}
use Rattle.ak_lab_devices.specs.declared.devices.Device.{Device}
use Rattle.ak_lab_joins.specs.EachCrossed.{SaidOfCrossed}
use Rattle.ak_lab_joins.specs.LabMishaps.{AreFaultless}
use Rattle.ak_lab_lines.specs.declared.lab_lines.LabLine.{LabLine}
use Rattle.ak_lab_lines.specs.declared.lab_lines.LabLine.TheVariants as lines
use Rattle.ak_lab_lines.specs.declared.lab_lines.Side.TheVariants as sides
use Rattle.ak_line_runs.specs.LineRuns.{Accepted, IsNext, Outcome}
use Rattle.ak_line_runs.specs.LineTexts.{is_skipped_line}
use Rattle.ak_sync_in_memory.specs.Entries.{health_in}
use Rattle.ak_sync_in_memory.specs.declared.logs.Entry.{Entry}

-- ---- a device's keeper
-- a break of the device of this name stands: a call of its keeper is to fail in its next sync
abbrev pub HasBreak : List ℕ → LabState → Type 0
HasBreak name s = (d : Device) × (device_of name s.devices ≡ Some d) × (d.fails ≢ [])

-- none of these devices has this name and a call of its keeper that is to fail
abbrev pub HasNoBreakIn : List ℕ → List Device → Type 0
HasNoBreakIn name devices = AllByRecursion (λ (d : Device). d.name ≡ name → d.fails ≡ []) devices

-- no break of a device of this name stands
abbrev pub HasNoBreak : List ℕ → LabState → Type 0
HasNoBreak name s = HasNoBreakIn name s.devices

-- a line does not break the keeper of the device of this name
abbrev pub BreaksNot : List ℕ → Line → Type 0
BreaksNot name line = Says line (lines.Break (sides.Device name)) → ⊥

-- a sync that crossed a session did not end because a keeper failed, if it is one of the device of this name
abbrev pub FailsNot : List ℕ → SaidOfCrossed
FailsNot name other line session was now old new came it = other ≡ name → it.outcome ≢ outcomes.Keep

-- ---- the server's keeper
-- whether a break of the server stands: whether a call of its keeper is to fail in the next sync
abbrev pub StandsSo : Bool → LabState → Type 0
StandsSo stood s = names_none s.fails ≡ not stood

-- between two lines no call of the server's keeper is to fail
abbrev pub HasCalmServer : LabState → Type 0
HasCalmServer s = (health_in s.server).calm ≡ true

-- whether a break of the server stands after a line that says this, if one stood before it or not: `break server` plans it, and a sync uses it up
abbrev pub stands_after : LabLine → Bool → Bool
stands_after (lines.Break sides.Server) stood = true
stands_after (lines.Sync name) stood = false
stands_after said stood = stood

-- what came in a line that says this met a fault of the server's keeper only if the line is a sync for which a break of the server stood
abbrev pub FaultsByBreak : LabLine → Bool → List Entry → Type 0
FaultsByBreak (lines.Sync name) true entries = ⊤
FaultsByBreak said stood entries = AreFaultless entries

-- the same of a line of a script, and whether a break stands after it
abbrev pub LineFaultsByBreak : Line → Bool → Bool → List Entry → Type 0
LineFaultsByBreak line stood stands entries = (is_skipped_line line ≡ true) × (stands ≡ stood) × (entries ≡ [])
    ⊎ (said : LabLine) × Says line said × (stands ≡ stands_after said stood) × FaultsByBreak said stood entries

-- the same of what came to the server of a lab from before a line to after it
pub record FaultsInLine (line : Line) (stood stands : Bool) (s t : LabState) : Type 0 where
  pub added : List Entry
  pub entries : t.server.entries ≡ s.server.entries ++ added
  pub meet : LineFaultsByBreak line stood stands added

-- lines go one after another, the first of them with this number, and print what each prints; and it is so of what came in each
abbrev pub AllGoByBreaks : ℕ → List Line → Bool → Bool → LabState → LabState → List (List ℕ) → Type 0
AllGoByBreaks number [] stood stands s t printed = (stands ≡ stood) × (t ≡ s) × (printed ≡ [])
AllGoByBreaks number (line ∷ more) stood stands s t printed =
    (mid : LabState) × (here : Bool) × (first : List (List ℕ)) × (others : List (List ℕ)) × EndsAs number line s mid (Accepted first)
    × FaultsInLine line stood here s mid × AllGoByBreaks (number + 1) more here stands mid t others × (printed ≡ first ++ others)

-- the same, and whether a break of the server stands then is known; between two lines no call of its keeper is to fail then too
pub record GoByBreaks (number : ℕ) (all : List Line) (stood : Bool) (s t : LabState) (printed : List (List ℕ)) : Type 0 where
  pub stands : Bool
  pub goes : AllGoByBreaks number all stood stands s t printed
  pub after : StandsSo stands t
  pub calm : HasCalmServer t

-- nothing came to the server after these lines, or it came in the next one, of this number, and it is so of what came in that
abbrev pub LastFaultsByBreak : Option (List Line) → ℕ → Bool → LabState → LabState → Type 0
LastFaultsByBreak left number stood s t = (t.server.entries ≡ s.server.entries)
    ⊎ (line : Line) × (outcome : Outcome) × (stands : Bool) × IsNext left line × EndsAs number line s t outcome × FaultsInLine line stood stands s t

-- a run of a lab that was opened so, of these lines that went and those that were left: it is so of what came to the server in each line, up to
-- the one at which the run stopped
pub record RunFaultsByBreaks (gone : List Line) (left : Option (List Line)) (opened reached last : LabState) (printed : List (List ℕ)) : Type 0 where
  pub stands : Bool
  pub goes : AllGoByBreaks 1 gone false stands opened reached printed
  pub stops : LastFaultsByBreak left (length gone + 1) stands reached last
