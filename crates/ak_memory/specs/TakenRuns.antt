-- The ids of each table that were found to be taken.
use Rattle.std.specs.Prelude.{ℤ, pos, List, Bool, ◌&&◌, int_le, int_lt, if◌then◌else◌}
use Rattle.ak_base.specs.declared.names.Name.{Name}
use Rattle.ak_base.specs.declared.names.Table.{Table}
use Rattle.ak_base.specs.declared.names.Table.TheVariants as tables
use Rattle.ak_keep.specs.FreeNames.{AreTakenBefore, is_used}
use Rattle.ak_memory.specs.Places.{row_under}
use Rattle.ak_memory.specs.declared.places.Place.{Place}
use Rattle.ak_memory.specs.declared.taken_runs.TakenRun.{TakenRun}
use Rattle.ak_memory.specs.declared.taken_runs.TakenRuns.{TakenRuns}
use Rattle.ak_memory.specs.declared.versions.Version.TheVariants.{Now}

-- whether a new row may not have a name: a row or a grave of it is held now
abbrev pub is_used_under : List (Name × Place) → Name → Bool
is_used_under places = is_used (row_under Now places)

-- ---- one run
-- the run of no ids
abbrev pub no_run : TakenRun
no_run = record { from = pos 0; end = pos 0 }

-- a run that this id is in or comes right after: the one there was, or none yet, from the id on
abbrev pub run_reaching : ℤ → TakenRun → TakenRun
run_reaching id run = if int_le run.from id && int_le id run.end then run else record { from = id; end = id }

-- a run, ended before this id if it has it
abbrev pub run_before : ℤ → TakenRun → TakenRun
run_before id run = if int_le run.from id && int_lt id run.end then record { from = run.from; end = id } else run

-- each id of the run is taken in this table
abbrev pub IsRun : (Name → Bool) → Table → TakenRun → Type 0
IsRun taken table run = AreTakenBefore taken (record { table = table; id = run.from }) run.end

-- ---- the runs of all tables
-- no ids in any table
abbrev pub no_runs : TakenRuns
no_runs = record { note = no_run; card = no_run; review = no_run; note_type = no_run; deck = no_run; options = no_run }

-- the run of a table; of a table of graves there is none
abbrev pub run_of : Table → TakenRuns → TakenRun
run_of tables.Note runs = runs.note
run_of tables.Card runs = runs.card
run_of tables.Review runs = runs.review
run_of tables.NoteType runs = runs.note_type
run_of tables.Deck runs = runs.deck
run_of tables.Options runs = runs.options
run_of tables.NoteGrave runs = no_run
run_of tables.CardGrave runs = no_run
run_of tables.DeckGrave runs = no_run

-- with this run of a table; of a table of graves it is not kept
abbrev pub with_run : Table → TakenRun → TakenRuns → TakenRuns
with_run tables.Note run runs = record runs { note = run }
with_run tables.Card run runs = record runs { card = run }
with_run tables.Review run runs = record runs { review = run }
with_run tables.NoteType run runs = record runs { note_type = run }
with_run tables.Deck run runs = record runs { deck = run }
with_run tables.Options run runs = record runs { options = run }
with_run tables.NoteGrave run runs = runs
with_run tables.CardGrave run runs = runs
with_run tables.DeckGrave run runs = runs

-- with this run of a table, if it has an id; one without any leaves the run that is known
abbrev pub kept_run : Table → TakenRun → TakenRuns → TakenRuns
kept_run table run runs = if int_lt run.from run.end then with_run table run runs else runs

-- each run, ended before this id if it has it
abbrev pub runs_before : ℤ → TakenRuns → TakenRuns
runs_before id runs = record {
  note = run_before id runs.note;
  card = run_before id runs.card;
  review = run_before id runs.review;
  note_type = run_before id runs.note_type;
  deck = run_before id runs.deck;
  options = run_before id runs.options;
}

-- in each table, each id of its run is taken
pub record AreRuns (taken : Name → Bool) (runs : TakenRuns) : Type 0 where
  pub note : IsRun taken tables.Note runs.note
  pub card : IsRun taken tables.Card runs.card
  pub review : IsRun taken tables.Review runs.review
  pub note_type : IsRun taken tables.NoteType runs.note_type
  pub deck : IsRun taken tables.Deck runs.deck
  pub options : IsRun taken tables.Options runs.options
