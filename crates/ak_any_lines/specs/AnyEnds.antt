-- How any line ends at the desk, accepted or refused.
use Rattle.std.specs.Prelude.{◌≡◌, ℕ, ℤ, List, Option, Some, None, Result, Ok, Err}
use Rattle.std.specs.Option.{MatchOption}
use Rattle.ak_any_lines.specs.FilteredCalls.{EndsAnswering, EndsBuilding, EndsEmptying, EndsMaking}
use Rattle.ak_any_lines.specs.FirstThings.{GoesFirst}
use Rattle.ak_any_lines.specs.LineResults.{by_call, by_desk}
use Rattle.ak_base.specs.declared.cards.Card.{Card}
use Rattle.ak_desk.specs.declared.desks.Desk.{Desk}
use Rattle.ak_desk_language.specs.declared.any_lines.AnyLine.{AnyLine}
use Rattle.ak_desk_language.specs.declared.any_lines.AnyLine.TheVariants as anys
use Rattle.ak_desk_language.specs.declared.desk_lines.DeskLine.{DeskLine}
use Rattle.ak_desk_language.specs.declared.desk_lines.DeskLine.TheVariants as lines
use Rattle.ak_desk_lines.specs.Accepted.{answer_with, card_answer, given_answer}
use Rattle.ak_desk_lines.specs.DeskStates.{DeskState, state_of}
use Rattle.ak_desk_lines.specs.LineEnds.{AppliesFilters, EndsLine}
use Rattle.ak_desk_lines.specs.declared.turns.Turn.{Turn}
use Rattle.ak_desk_texts.specs.declared.answers.DeskAnswer.{DeskAnswer}
use Rattle.ak_desk_texts.specs.declared.answers.DeskAnswer.TheVariants as answers
use Rattle.ak_desk_texts.specs.declared.line_refusals.LineRefusal.{LineRefusal}
use Rattle.ak_edit.specs.declared.desk_faults.DeskFault.{DeskFault}
use Rattle.ak_filtered.specs.declared.deck_makings.NewFiltered.{NewFiltered}
use Rattle.ak_filtered.specs.declared.faults.FilteredFault.{FilteredFault}
use Rattle.ak_filters.specs.Meanings.{Meaning}
use Rattle.ak_keep.specs.Keepers.{Keeping}
use Rattle.ak_keep.specs.declared.readables.Lookup.{Ghosts}
use Rattle.ak_study.specs.declared.answers.CardAnswer.{CardAnswer}

-- ---- lines that are one call
-- the answer that a line gives in its turn, if it is one
abbrev pub given_in : DeskLine → Turn → Option CardAnswer
given_in (lines.Answer card button taken) t = Some (given_answer t card button taken)
given_in line t = None

-- a card was answered, at home or away, and where it is then is answered; or that was refused
abbrev pub AnswersGiven : ℤ → CardAnswer → DeskState → DeskState → Result DeskAnswer DeskFault → Type 0
AnswersGiven at given before after own =
    (made : Result Card DeskFault) × EndsAnswering at given before after made × (own ≡ answer_with card_answer made)

-- after what came before it the line ended as it does alone; if that was refused, so was the line, and what was done of it stays
abbrev pub ThenEnds : Result (Unit {0}) DeskFault → DeskLine → Turn → DeskState → DeskState
    → Result DeskAnswer DeskFault → Type 0
ThenEnds (Ok done) line t mid after own = EndsLine line t mid after own
ThenEnds (Err fault) line t mid after own = (after ≡ mid) × (own ≡ Err fault)

-- what goes first came, and then the line
abbrev pub EndsAfterFirst : DeskLine → Turn → DeskState → DeskState → Result DeskAnswer DeskFault → Type 0
EndsAfterFirst line t before after own =
    (mid : DeskState) × (first : Result (Unit {0}) DeskFault) × GoesFirst line t.at before mid first
    × ThenEnds first line t mid after own

-- how a line that is one call ended where cards may be away
abbrev pub EndsSingle : DeskLine → Turn → DeskState → DeskState → Result DeskAnswer DeskFault → Type 0
EndsSingle line t before after own =
    MatchOption (given_in line t) (EndsAfterFirst line t before after own) (λ given. AnswersGiven t.at given before after own)

-- ---- all lines
-- what the making of a filtered deck is given
pub record IsPlanGiven (given : NewFiltered) (name search : List ℕ) (limit order : ℤ) : Type 0 where
  pub path : given.path.now ≡ name
  pub search_is : given.search.now ≡ search
  pub limit_is : given.limit ≡ limit
  pub order_is : given.order ≡ order

-- how a line ended at a desk, by its state before and after it
abbrev pub EndsAnyLine : AnyLine → Turn → DeskState → DeskState → Result DeskAnswer LineRefusal → Type 0
EndsAnyLine (anys.Single line) t before after result =
    (own : Result DeskAnswer DeskFault) × EndsSingle line t before after own × (result ≡ by_desk own)
EndsAnyLine (anys.Filter name search limit order) t before after result =
    (given : NewFiltered) × (made : Result ℤ FilteredFault) × IsPlanGiven given name search limit order
    × EndsMaking t.at given before after made × (result ≡ by_call answers.AddedDeck made)
EndsAnyLine (anys.Build deck) t before after result =
    (made : Result ℕ FilteredFault) × EndsBuilding t.at deck before after made × (result ≡ by_call answers.Built made)
EndsAnyLine (anys.Empty deck) t before after result =
    (made : Result ℕ FilteredFault) × EndsEmptying t.at deck before after made × (result ≡ by_call answers.Emptied made)

-- the same of a desk, as it was and as it is
abbrev pub EndsAnyAt : {K : Type 0} → Ghosts K → AnyLine → Turn → Desk K → Desk K → Result DeskAnswer LineRefusal → Type 0
EndsAnyAt K line t was now result = EndsAnyLine line t (state_of K was) (state_of K now) result

-- ---- filters
-- what a line makes of the filters: one that is one call what it does alone, and one about filtered decks nothing
abbrev pub AppliesToAny : AnyLine → Keeping → List Meaning → List Meaning → Result DeskAnswer LineRefusal → Type 0
AppliesToAny (anys.Single line) held filters turned result =
    (own : Result DeskAnswer DeskFault) × AppliesFilters line held filters turned own × (result ≡ by_desk own)
AppliesToAny line held filters turned result = turned ≡ filters
