-- What comes before a line where cards are away from home: in edits of their own, which stay whatever comes of the line.
use Rattle.std.specs.Prelude.{◌≡◌, ℤ, Bool, List, Option, Some, None, Result, Ok, IfErr, OnErr}
use Rattle.std.specs.Option.{MatchOption}
use Rattle.ak_any_lines.specs.LineResults.{without_value}
use Rattle.ak_desk_language.specs.declared.desk_lines.DeskLine.{DeskLine}
use Rattle.ak_desk_language.specs.declared.desk_lines.DeskLine.TheVariants as lines
use Rattle.ak_desk_lines.specs.DeskStates.{DeskState}
use Rattle.ak_edit.specs.Refusals.{IsEndFault}
use Rattle.ak_edit.specs.declared.desk_faults.DeskFault.{DeskFault}
use Rattle.ak_filtered.specs.Emptyings.{EndsEmptied, filtered_below}
use Rattle.ak_filtered.specs.HomeGoings.{EndsSending}
use Rattle.ak_keep.specs.Keepers.{WhereHeld}

-- each filtered deck in the subtree of a deck was emptied, by ascending id, until one was refused; those emptied by then stay so
pub record EmptiesFirst (at deck : ℤ) (before mid : DeskState) (first : Result (Unit {0}) DeskFault) : Type 0 where
  pub ends : WhereHeld before.keeping
      (λ c. EndsEmptied at (filtered_below deck c.rows) before.keeping mid.keeping before.steps mid.steps first)
  pub listed : IfErr first IsEndFault
  -- whether a head is held, and whether there is a mark, stays, told or not
  pub stays : mid.keeping.headed ≡ before.keeping.headed

-- those of these cards that are held and away went home in one edit, if there were any
pub record SendsFirst (at : ℤ) (cards : List ℤ) (before mid : DeskState) (first : Result (Unit {0}) DeskFault) : Type 0 where
  pub sent : Result Bool DeskFault
  pub told : first ≡ without_value sent
  pub ends : WhereHeld before.keeping (λ c. EndsSending at cards c before.keeping mid.keeping before.steps mid.steps sent)
  -- a refusal leaves all as it was, told or not
  pub left : OnErr sent (mid ≡ before)
  pub listed : IfErr first IsEndFault
  pub stays : mid.keeping.headed ≡ before.keeping.headed

-- ---- what a line has before it
-- the deck that a line drops, if it does
abbrev pub dropped_deck : DeskLine → Option ℤ
dropped_deck (lines.DeleteDeck deck) = Some deck
dropped_deck line = None

-- the cards that a line moves, if it does
abbrev pub moved_cards : DeskLine → Option (List ℤ)
moved_cards (lines.MoveCards deck cards) = Some cards
moved_cards line = None

-- before a line that moves cards they are sent home, and before another comes nothing
abbrev pub SendsIfMoved : DeskLine → ℤ → DeskState → DeskState → Result (Unit {0}) DeskFault → Type 0
SendsIfMoved line at before mid first =
    MatchOption (moved_cards line) ((mid ≡ before) × (first ≡ Ok tt)) (λ cards. SendsFirst at cards before mid first)

-- what came before a line ended so: before `drop` decks are emptied, before `move` cards are sent home, and before any other line
-- comes nothing
abbrev pub GoesFirst : DeskLine → ℤ → DeskState → DeskState → Result (Unit {0}) DeskFault → Type 0
GoesFirst line at before mid first =
    MatchOption (dropped_deck line) (SendsIfMoved line at before mid first) (λ deck. EmptiesFirst at deck before mid first)
