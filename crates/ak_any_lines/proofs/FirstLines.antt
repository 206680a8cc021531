-- What goes before a line, by what the line says.
use Rattle.std.specs.Prelude.{◌≡◌, ◌⊎◌, ℤ, List, Option, Some, None, Result, Ok, Err}
use Rattle.std.specs.Option.{MatchOption}
use Rattle.std.proofs.Common.{refl, sym, subst, inl, inr, ◌∙◌}
use Rattle.std.proofs.lemmas.Option.{none-some}
use Rattle.ak_any_lines.specs.AnyEnds.{AnswersGiven, AppliesToAny, EndsAfterFirst, EndsAnyLine, EndsSingle, given_in}
use Rattle.ak_any_lines.specs.FirstThings.{EmptiesFirst, GoesFirst, SendsFirst, SendsIfMoved, dropped_deck, moved_cards}
use Rattle.ak_desk_language.specs.declared.any_lines.AnyLine.{AnyLine}
use Rattle.ak_desk_language.specs.declared.desk_lines.DeskLine.{DeskLine}
use Rattle.ak_desk_language.specs.declared.desk_lines.DeskLine.TheVariants as lines
use Rattle.ak_desk_lines.specs.DeskStates.{DeskState}
use Rattle.ak_desk_lines.specs.LineEnds.{AppliesFilters}
use Rattle.ak_desk_lines.specs.declared.turns.Turn.{Turn}
use Rattle.ak_desk_texts.specs.declared.answers.DeskAnswer.{DeskAnswer}
use Rattle.ak_desk_texts.specs.declared.line_refusals.LineRefusal.{LineRefusal}
use Rattle.ak_edit.specs.declared.desk_faults.DeskFault.{DeskFault}
use Rattle.ak_filters.specs.Meanings.{Meaning}
use Rattle.ak_keep.specs.Keepers.{Keeping}
use Rattle.ak_study.specs.declared.answers.CardAnswer.{CardAnswer}

-- a line that drops a deck
pub first_dropped : (line : DeskLine) (at : ℤ) (before mid : DeskState) (first : Result (Unit {0}) DeskFault) (deck : ℤ) → dropped_deck line ≡ Some deck
    → EmptiesFirst at deck before mid first → GoesFirst line at before mid first
first_dropped line at before mid first deck is empties =
    subst (λ (o : Option ℤ). MatchOption o (SendsIfMoved line at before mid first) (λ deck. EmptiesFirst at deck before mid first)) (sym is) empties

-- a line that drops none
pub first_other : (line : DeskLine) (at : ℤ) (before mid : DeskState) (first : Result (Unit {0}) DeskFault) → dropped_deck line ≡ None
    → SendsIfMoved line at before mid first → GoesFirst line at before mid first
first_other line at before mid first is sends =
    subst (λ (o : Option ℤ). MatchOption o (SendsIfMoved line at before mid first) (λ deck. EmptiesFirst at deck before mid first)) (sym is) sends

-- nothing comes before a line that drops none and moves none
nothing_first : (line : DeskLine) (at : ℤ) (before mid : DeskState) (first : Result (Unit {0}) DeskFault) → dropped_deck line ≡ None → moved_cards line ≡ None
    → GoesFirst line at before mid first → (mid ≡ before) × (first ≡ Ok tt)
nothing_first line at before mid first drops moves goes =
    subst (λ (o : Option (List ℤ)). MatchOption o ((mid ≡ before) × (first ≡ Ok tt)) (λ cards. SendsFirst at cards before mid first)) moves
    (subst (λ (o : Option ℤ). MatchOption o (SendsIfMoved line at before mid first) (λ deck. EmptiesFirst at deck before mid first)) drops goes)

-- a line that moves cards
pub sends_moved : (line : DeskLine) (at : ℤ) (before mid : DeskState) (first : Result (Unit {0}) DeskFault) (cards : List ℤ) → moved_cards line ≡ Some cards
    → SendsFirst at cards before mid first → SendsIfMoved line at before mid first
sends_moved line at before mid first cards is sends =
    subst (λ (o : Option (List ℤ)). MatchOption o ((mid ≡ before) × (first ≡ Ok tt)) (λ cards. SendsFirst at cards before mid first)) (sym is) sends

-- a line that moves none
pub sends_none : (line : DeskLine) (at : ℤ) (before : DeskState) → moved_cards line ≡ None → SendsIfMoved line at before before (Ok tt)
sends_none line at before is =
    subst (λ (o : Option (List ℤ)). MatchOption o ((before ≡ before) × (◌≡◌ {A = Result (Unit {0}) DeskFault} (Ok tt) (Ok tt))) (λ cards. SendsFirst at cards before before (Ok tt))) (sym is) (refl, refl)

-- ---- lines that are one call
-- an answer
pub single_given : (line : DeskLine) (t : Turn) (before after : DeskState) (own : Result DeskAnswer DeskFault) (given : CardAnswer) → given_in line t ≡ Some given
    → AnswersGiven t.at given before after own → EndsSingle line t before after own
single_given line t before after own given is answers =
    subst (λ (o : Option CardAnswer). MatchOption o (EndsAfterFirst line t before after own) (λ given. AnswersGiven t.at given before after own)) (sym is) answers

-- any other
pub single_other : (line : DeskLine) (t : Turn) (before after : DeskState) (own : Result DeskAnswer DeskFault) → given_in line t ≡ None
    → EndsAfterFirst line t before after own → EndsSingle line t before after own
single_other line t before after own is ends =
    subst (λ (o : Option CardAnswer). MatchOption o (EndsAfterFirst line t before after own) (λ given. AnswersGiven t.at given before after own)) (sym is) ends

-- ---- a line that is known to be one of its kind
pub any_ends_as : (line given : AnyLine) (t : Turn) (was now : DeskState) (result : Result DeskAnswer LineRefusal) → line ≡ given
    → EndsAnyLine given t was now result → EndsAnyLine line t was now result
any_ends_as line given t was now result is ends = subst (λ (l : AnyLine). EndsAnyLine l t was now result) (sym is) ends

pub any_filters_as : (line given : AnyLine) (held : Keeping) (filters turned : List Meaning) (result : Result DeskAnswer LineRefusal) → line ≡ given
    → AppliesToAny given held filters turned result → AppliesToAny line held filters turned result
any_filters_as line given held filters turned result is applies = subst (λ (l : AnyLine). AppliesToAny l held filters turned result) (sym is) applies

-- nothing comes before a line with these ends, so it was not refused
refused_first : {A : Type 0} (fault : DeskFault) → ◌≡◌ {A = Result (Unit {0}) DeskFault} (Err fault) (Ok tt) → A
refused_first fault is = cc

-- ---- filters
-- nothing comes before the line, and it is no answer
abbrev StandsAlone : DeskLine → Type 0
StandsAlone line = (dropped_deck line ≡ None) × (moved_cards line ≡ None) × ((t : Turn) → given_in line t ≡ None)

-- the line does nothing with the filters
abbrev LeavesFilters : DeskLine → Type 0
LeavesFilters line = (held : Keeping) (filters turned : List Meaning) (own : Result DeskAnswer DeskFault)
    → (AppliesFilters line held filters turned own → turned ≡ filters) × (turned ≡ filters → AppliesFilters line held filters turned own)

-- a page and `mute` do something with them: both stand alone
alone_or_leaves : (line : DeskLine) → StandsAlone line ⊎ LeavesFilters line
alone_or_leaves (lines.AddNote note_type deck fields) = inr (λ held filters turned own. (λ is. is, λ is. is))
alone_or_leaves (lines.SetFields note fields) = inr (λ held filters turned own. (λ is. is, λ is. is))
alone_or_leaves (lines.SetTags note tags) = inr (λ held filters turned own. (λ is. is, λ is. is))
alone_or_leaves (lines.DeleteNotes notes) = inr (λ held filters turned own. (λ is. is, λ is. is))
alone_or_leaves (lines.DeleteDeck deck) = inr (λ held filters turned own. (λ is. is, λ is. is))
alone_or_leaves (lines.RenameDeck deck name) = inr (λ held filters turned own. (λ is. is, λ is. is))
alone_or_leaves (lines.MoveCards deck cards) = inr (λ held filters turned own. (λ is. is, λ is. is))
alone_or_leaves (lines.UseOptions deck options) = inr (λ held filters turned own. (λ is. is, λ is. is))
alone_or_leaves (lines.SetSpread spread) = inr (λ held filters turned own. (λ is. is, λ is. is))
alone_or_leaves (lines.AddDeck name) = inr (λ held filters turned own. (λ is. is, λ is. is))
alone_or_leaves (lines.AddOptions options) = inr (λ held filters turned own. (λ is. is, λ is. is))
alone_or_leaves (lines.SetOptions options) = inr (λ held filters turned own. (λ is. is, λ is. is))
alone_or_leaves (lines.AddType note_type) = inr (λ held filters turned own. (λ is. is, λ is. is))
alone_or_leaves (lines.EditType allow note_type fields templates) = inr (λ held filters turned own. (λ is. is, λ is. is))
alone_or_leaves (lines.DeleteType allow note_type) = inr (λ held filters turned own. (λ is. is, λ is. is))
alone_or_leaves (lines.DeleteOptions allow options) = inr (λ held filters turned own. (λ is. is, λ is. is))
alone_or_leaves (lines.Answer card button taken) = inr (λ held filters turned own. (λ is. is, λ is. is))
alone_or_leaves (lines.Next deck) = inr (λ held filters turned own. (λ is. is, λ is. is))
alone_or_leaves (lines.Counts deck) = inr (λ held filters turned own. (λ is. is, λ is. is))
alone_or_leaves (lines.Find search) = inr (λ held filters turned own. (λ is. is, λ is. is))
alone_or_leaves (lines.Page card back) = inl (refl, refl, λ t. refl)
alone_or_leaves (lines.Mute filter) = inl (refl, refl, λ t. refl)
alone_or_leaves (lines.Suspend cards) = inr (λ held filters turned own. (λ is. is, λ is. is))
alone_or_leaves (lines.Unsuspend cards) = inr (λ held filters turned own. (λ is. is, λ is. is))
alone_or_leaves (lines.Bury cards) = inr (λ held filters turned own. (λ is. is, λ is. is))
alone_or_leaves (lines.Flag value cards) = inr (λ held filters turned own. (λ is. is, λ is. is))
alone_or_leaves lines.Undo = inr (λ held filters turned own. (λ is. is, λ is. is))
alone_or_leaves lines.Check = inr (λ held filters turned own. (λ is. is, λ is. is))

-- a line before which something was refused leaves them
pub stopped_filters : (line : DeskLine) (at : ℤ) (before mid : DeskState) (fault : DeskFault) (filters : List Meaning) → GoesFirst line at before mid (Err fault)
    → AppliesFilters line before.keeping filters filters (Err fault)
stopped_filters line at before mid fault filters goes =
    elim (alone_or_leaves line) [
      | inl alone ↦ refused_first fault (nothing_first line at before mid (Err fault) alone.0 alone.1 goes).1
      | inr leaves ↦ (leaves before.keeping filters filters (Err fault)).1 refl
    ]

-- a line before which something was done makes of them what it does alone
pub filters_then : (line : DeskLine) (at : ℤ) (before mid : DeskState) (filters turned : List Meaning) (own : Result DeskAnswer DeskFault) → GoesFirst line at before mid (Ok tt)
    → AppliesFilters line mid.keeping filters turned own → AppliesFilters line before.keeping filters turned own
filters_then line at before mid filters turned own goes applies =
    elim (alone_or_leaves line) [
      | inl alone ↦ subst (λ (s : DeskState). AppliesFilters line s.keeping filters turned own) (nothing_first line at before mid (Ok tt) alone.0 alone.1 goes).0 applies
      | inr leaves ↦ (leaves before.keeping filters turned own).1 ((leaves mid.keeping filters turned own).0 applies)
    ]

-- an answer does nothing with them
pub answer_filters : (line : DeskLine) (t : Turn) (given : CardAnswer) (held : Keeping) (filters : List Meaning) (own : Result DeskAnswer DeskFault) → given_in line t ≡ Some given
    → AppliesFilters line held filters filters own
answer_filters line t given held filters own is =
    elim (alone_or_leaves line) [
      | inl alone ↦ absurd (none-some given (sym (alone.2 t) ∙ is))
      | inr leaves ↦ (leaves held filters filters own).1 refl
    ]
