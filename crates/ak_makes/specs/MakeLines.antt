-- The line that is printed of a collection that was made of a seed, and how `make` ends.
use Rattle.std.specs.Prelude.{◌≡◌, ◌⊎◌, ℕ, ◌+◌, ◌*◌, ◌/◌, ◌==◌, ◌||◌, Bool, List, ◌++◌, Option, Some, codes, decimal}
use Rattle.std.specs.Io.KnownBytes.{Keeps}
use Rattle.ak_client.specs.declared.outcomes.Outcome.TheVariants as outcomes
use Rattle.ak_makes.specs.Days.{answer_count}
use Rattle.ak_made_collections.specs.RowNumbers.{cards_before}
use Rattle.ak_makes.specs.Measures.{IsMeasured}
use Rattle.ak_makes.specs.declared.measures.Measured.{Measured}
use Rattle.ak_outcomes.specs.OutcomeTexts.{outcome_text}
use Rattle.ak_sync_runs.specs.SyncRuns.{EndsPrinting}

-- ---- what it comes to
-- how many calls the sync makes: seven, and one more for each 250 rows that the device sends in chunks, which are a card and a review of each
-- answer, and a card of each new note and the note
abbrev pub call_count : ℕ → ℕ
call_count size = 7 + (2 * answer_count size + 24) / 250

-- what was measured is what a collection of so many notes comes to: the sync is finished, and the server holds the notes and cards that were
-- made and 12 new ones of each, and four reviews of each card that was made and one of each answer
pub record IsExpected (size : ℕ) (m : Measured) : Type 0 where
  pub finished : m.outcome ≡ outcomes.Finished
  pub notes : m.counts.notes ≡ size + 12
  pub cards : m.counts.cards ≡ cards_before size + 12
  pub reviews : m.counts.reviews ≡ 4 * cards_before size + answer_count size
  pub calls : m.calls ≡ call_count size

-- ---- what is printed
-- three counts, the calls and a text
abbrev pub counts_text : ℕ → ℕ → ℕ → ℕ → List ℕ → List ℕ
counts_text notes cards reviews calls outcome =
    codes "notes " ++ decimal notes ++ codes " cards " ++ decimal cards ++ codes " reviews " ++ decimal reviews ++ codes " requests "
    ++ decimal calls ++ codes " " ++ outcome

-- what was measured, if its sync has this text
abbrev pub measured_text : Measured → List ℕ → List ℕ
measured_text m outcome = counts_text m.counts.notes m.counts.cards m.counts.reviews m.calls outcome

-- a text shows what was measured, and its sync by the text of its outcome
abbrev pub Shows : Measured → List ℕ → Type 0
Shows m text = (outcome : List ℕ) × (outcome_text m.outcome ≡ Some outcome) × (text ≡ measured_text m outcome)

-- the line for a collection of so many notes, without a line feed
abbrev pub make_text : ℕ → List ℕ
make_text size =
    counts_text (size + 12) (cards_before size + 12) (4 * cards_before size + answer_count size) (call_count size) (codes "finished")

-- ---- how it ends
-- how `make` ends for a seed and so many notes: its collection was measured, that came to what the size says, and the line is printed; or
-- nothing is printed, and the status is 8: memory ran out, or it came to something else. Nothing excludes the latter
abbrev pub EndsMake : ℕ → ℕ → ℕ → Option (List ℕ) → Option (List ℕ) → Type 0
EndsMake seed size status old new =
    ((m : Measured) × IsMeasured seed size m × IsExpected size m × EndsPrinting (make_text size) 0 status old new)
    ⊎ (status ≡ 8) × Keeps old new

-- the same of what was measured
abbrev pub TellsMeasured : ℕ → Measured → ℕ → Option (List ℕ) → Option (List ℕ) → Type 0
TellsMeasured size m status old new =
    IsExpected size m × EndsPrinting (make_text size) 0 status old new ⊎ (status ≡ 8) × Keeps old new

-- the statuses with which `make` ends
abbrev pub is_make_status : ℕ → Bool
is_make_status status = (status == 0) || (status == 5) || (status == 8)
