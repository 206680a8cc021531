use Rattle.std.proofs.Common.{◌≡◌, length}
use Rattle.ak_search.specs.ByNote.{ask_notes_alone}
use Rattle.ak_search.specs.Grammar.{pieces_in}
use Rattle.ak_search.proofs.by_note.ask_notes_alone.Given as goal

-- what is left decides
abbrev pub invariant-loop-token : goal.invariant-loop-token
invariant-loop-token l = ask_notes_alone (pieces_in l.rest) ≡ ask_notes_alone (pieces_in l.tokens)

abbrev pub decreases-loop-token : goal.decreases-loop-token
decreases-loop-token l = length l.rest
