-- How the outcome of a sync is told: a text, and the status of a program that ends with it.
use Rattle.std.specs.Prelude.{ℕ, Bool, true, false, List, ◌++◌, Option, Some, None, codes, decimal}
use Rattle.std.specs.Fmt.{signed_decimal}
use Rattle.ak_client.specs.declared.outcomes.Outcome.{Outcome}
use Rattle.ak_client.specs.declared.outcomes.Outcome.TheVariants as outcomes
use Rattle.ak_desk_texts.specs.AnswerTexts.{check_fault_text}
use Rattle.ak_messages.specs.declared.requests.SanityCounts.{SanityCounts}
use Rattle.ak_wire.specs.Words.{word_text}

-- how many rows of each kind a side has, in the order of a sanity check, with commas between
abbrev pub counts_text : SanityCounts → List ℕ
counts_text counts =
    decimal counts.cards ++ codes "," ++ decimal counts.notes ++ codes "," ++ decimal counts.reviews ++ codes ","
    ++ decimal counts.graves ++ codes "," ++ decimal counts.models ++ codes "," ++ decimal counts.decks ++ codes ","
    ++ decimal counts.options

-- what is printed of an outcome, without a line feed. Where memory was wanting there is no text
abbrev pub outcome_text : Outcome → Option (List ℕ)
outcome_text outcomes.Finished = Some (codes "finished")
outcome_text outcomes.NoChanges = Some (codes "no changes")
outcome_text (outcomes.FullSchema device server) =
    Some (codes "full needed: schema " ++ signed_decimal device ++ codes " " ++ signed_decimal server)
outcome_text (outcomes.FullSequence usn) = Some (codes "full needed: sequence " ++ signed_decimal usn)
outcome_text (outcomes.BadRow fault) = Some (codes "sanity failed: " ++ check_fault_text fault)
outcome_text (outcomes.BadCounts client server) =
    Some (codes "sanity failed: counts " ++ counts_text client ++ codes " " ++ counts_text server)
outcome_text (outcomes.ClockOff device server) =
    Some (codes "clock off: " ++ signed_decimal device ++ codes " " ++ signed_decimal server)
outcome_text (outcomes.OwnCheck fault) = Some (codes "own check failed: " ++ check_fault_text fault)
outcome_text outcomes.Stopped = Some (codes "stopped")
outcome_text (outcomes.Refused status word seen) =
    Some (codes "refused " ++ decimal status ++ codes " " ++ word_text word)
outcome_text outcomes.Lost = Some (codes "lost")
outcome_text outcomes.BadReply = Some (codes "bad reply")
outcome_text outcomes.TooManyChunks = Some (codes "too many chunks")
outcome_text outcomes.Keep = Some (codes "keeper failed")
outcome_text outcomes.Memory = None

-- whether the text of an outcome is always the same: it has no number, word or fault of this one sync in it
abbrev pub has_fixed_text : Outcome → Bool
has_fixed_text outcomes.Finished = true
has_fixed_text outcomes.NoChanges = true
has_fixed_text (outcomes.FullSchema device server) = false
has_fixed_text (outcomes.FullSequence usn) = false
has_fixed_text (outcomes.BadRow fault) = false
has_fixed_text (outcomes.BadCounts client server) = false
has_fixed_text (outcomes.ClockOff device server) = false
has_fixed_text (outcomes.OwnCheck fault) = false
has_fixed_text outcomes.Stopped = true
has_fixed_text (outcomes.Refused status word seen) = false
has_fixed_text outcomes.Lost = true
has_fixed_text outcomes.BadReply = true
has_fixed_text outcomes.TooManyChunks = true
has_fixed_text outcomes.Keep = true
has_fixed_text outcomes.Memory = false

-- the status of a program that ends with this outcome
abbrev pub outcome_status : Outcome → ℕ
outcome_status outcomes.Finished = 0
outcome_status outcomes.NoChanges = 0
outcome_status (outcomes.FullSchema device server) = 10
outcome_status (outcomes.FullSequence usn) = 10
outcome_status (outcomes.BadRow fault) = 11
outcome_status (outcomes.BadCounts client server) = 11
outcome_status (outcomes.ClockOff device server) = 12
outcome_status (outcomes.OwnCheck fault) = 14
outcome_status outcomes.Stopped = 15
outcome_status (outcomes.Refused status word seen) = 13
outcome_status outcomes.Lost = 7
outcome_status outcomes.BadReply = 15
outcome_status outcomes.TooManyChunks = 15
outcome_status outcomes.Keep = 6
outcome_status outcomes.Memory = 8
