use Rattle.std.proofs.Common.{◌≡◌, ◌++◌, length, string_bytes}
use denote.Text.{Utf8}
use denote.Shadow.{shadow}
use Rattle.ak_base.specs.Paths.{ancestors_from}
use Rattle.ak_deck_paths.proofs.PathFacts.{missing_of}
use Rattle.ak_deck_paths.specs.DeckPaths.{all_but_last, missing_above}
use Rattle.ak_deck_paths.proofs.deck_paths.missing_above.Given as goal

-- the paths so far, and those that are missing of what is left, are all
abbrev pub invariant-loop-part : goal.invariant-loop-part
invariant-loop-part l =
    shadow (Utf8 l.rest) × (l.missing ++ missing_of l.decks (all_but_last (ancestors_from 0 (string_bytes l.above) l.rest)) ≡ missing_above l.decks l.path)

abbrev pub decreases-loop-part : goal.decreases-loop-part
decreases-loop-part l = length l.rest
