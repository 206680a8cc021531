-- What is known of a card at once, before its note or its deck is looked up.
use Rattle.std.specs.Prelude.{ℕ, suc, ◌-◌, ◌==◌, Bool, not, ◌&&◌, ◌||◌, if◌then◌else◌, List, [], ◌∷◌, None}
use Rattle.ak_base.specs.declared.cards.Card.{Card}
use Rattle.ak_base.specs.declared.days.Day.{Day}
use Rattle.ak_search.specs.Holds.{holds}
use Rattle.ak_search.specs.Meanings.{negated_by}
use Rattle.ak_search.specs.Passes.{needs_deck, needs_note, seen_by}
use Rattle.ak_search.specs.declared.answers.Answers.{Answers}
use Rattle.ak_search.specs.declared.related.Related.{Related}
use Rattle.ak_search.specs.declared.terms.Term.{Term}
use Rattle.ak_search.specs.declared.tokens.Piece.{Piece}
use Rattle.ak_search.specs.declared.tokens.Piece.TheVariants.{Test, BadValue, Open, Close, Or, And, OpenQuote}

-- nothing was looked up
abbrev pub unseen : Related
unseen = record { note = None; note_type = None; deck = None }

-- whether a term needs neither the note of a card nor its deck: it asks for the card's own numbers, or for answers, which were read before
abbrev pub is_known_at_once : Term → Bool
is_known_at_once term = not (needs_note term) && not (needs_deck term)

-- whether a term holds of a card by its own numbers and the answers: no term does that needs more
abbrev pub holds_at_once : Day → Answers → Card → Term → Bool
holds_at_once day answers c term = holds day (seen_by answers c unseen) term

-- whether a term, which may be negated, needs no more and fails
abbrev pub fails_at_once : Day → Answers → Card → Bool → Term → Bool
fails_at_once day answers c negated term = is_known_at_once term && not (negated_by negated (holds_at_once day answers c term))

-- whether no `or` stands outside all groups, some term there fails, and each group is closed. The number says how many groups are open,
-- the truth value whether a term failed before
abbrev pub some_term_fails : (Bool → Term → Bool) → ℕ → Bool → List Piece → Bool
some_term_fails fails depth failed [] = (depth == 0) && failed
some_term_fails fails depth failed (Test negated term ∷ ps) = if depth == 0 then some_term_fails fails depth (failed || fails negated term) ps else some_term_fails fails depth failed ps
some_term_fails fails depth failed (BadValue ∷ ps) = some_term_fails fails depth failed ps
some_term_fails fails depth failed (Open negated ∷ ps) = some_term_fails fails (suc depth) failed ps
some_term_fails fails depth failed (Close ∷ ps) = some_term_fails fails (depth - 1) failed ps
some_term_fails fails depth failed (Or ∷ ps) = not (depth == 0) && some_term_fails fails depth failed ps
some_term_fails fails depth failed (And ∷ ps) = some_term_fails fails depth failed ps
some_term_fails fails depth failed (OpenQuote ∷ ps) = some_term_fails fails depth failed ps
