-- How a line ends, accepted or refused.
use Rattle.std.specs.Prelude.{◌≡◌, ◌⊎◌, ⊤, ℕ, ◌+◌, ◌-◌, ◌^◌, min, ℤ, Bool, true, false, List, Option, Result, IfErr, IfOk, OnOk}
use Rattle.ak_base.specs.declared.names.Table.TheVariants as tables
use Rattle.ak_desk.specs.declared.desks.Desk.{Desk}
use Rattle.ak_desk_language.specs.declared.desk_lines.DeskLine.{DeskLine}
use Rattle.ak_desk_language.specs.declared.desk_lines.DeskLine.TheVariants as lines
use Rattle.ak_desk_lines.specs.Accepted.{Does, Starts}
use Rattle.ak_desk_lines.specs.DeskStates.{DeskState, state_of}
use Rattle.ak_desk_lines.specs.Refused.{MayRefuse, Refuses}
use Rattle.ak_desk_lines.specs.declared.turns.Turn.{Turn}
use Rattle.ak_desk_texts.specs.declared.answers.DeskAnswer.{DeskAnswer}
use Rattle.ak_desk_texts.specs.declared.answers.DeskAnswer.TheVariants as answers
use Rattle.ak_edit.specs.Refusals.{AnswersBy, IsFromOutside}
use Rattle.ak_edit.specs.declared.desk_faults.DeskFault.{DeskFault}
use Rattle.ak_edit.specs.declared.desk_faults.DeskFault.TheVariants as faults
use Rattle.ak_filters.specs.Lists.{has_filter, without_filter}
use Rattle.ak_filters.specs.Meanings.{Meaning}
use Rattle.ak_keep.specs.Collections.{Collection}
use Rattle.ak_keep.specs.Keepers.{Keeping, WhereHeld, WhereTold}
use Rattle.ak_keep.specs.declared.readables.Lookup.{Ghosts}
use Rattle.ak_merge.specs.Holdings.{name_in}
use Rattle.ak_merge.specs.declared.checks.CheckFault.{CheckFault}
use Rattle.ak_pages.specs.CardPages.{RefusesCard, ShowsCard}
use Rattle.ak_template.specs.Pages.{kinds}
use Rattle.ak_undo.specs.declared.steps.Step.{Step}

-- how many answers were accepted after this answer to a line, if it was that many before: at its last value the number
-- stays
abbrev pub counted : DeskAnswer → ℕ → ℕ
counted (answers.Answered queue due interval) done = min (done + 1) (2 ^ 64 - 1)
counted answer done = done

-- what a line that asks for the queue of a deck leaves if it is refused with this fault: all as it was if the day's start is
-- refused, the day started if the deck is not held, and one of the two if the fault comes from outside
pub record IsLeftAsking (t : Turn) (deck : ℤ) (fault : DeskFault) (before after : DeskState) : Type 0 where
  pub unstarted : fault ≡ faults.StampEnd → after ≡ before
  pub started : fault ≡ faults.NoSuch (name_in tables.Deck deck)
      → WhereHeld before.keeping (λ c. Starts t.at c before after)
  pub either : IsFromOutside fault → (after ≡ before) ⊎ WhereHeld before.keeping (λ c. Starts t.at c before after)

-- what a line leaves at the desk that is refused with this fault: all as it was, but for the start of the day
abbrev pub IsLeft : DeskLine → Turn → DeskFault → DeskState → DeskState → Type 0
IsLeft (lines.Next deck) t fault before after = IsLeftAsking t deck fault before after
IsLeft (lines.Counts deck) t fault before after = IsLeftAsking t deck fault before after
IsLeft line t fault before after = after ≡ before

-- a line is accepted if none of its tests refuses it, and else the first one that does is told, but for what comes from
-- outside. Why a page is refused, or a line that drops a filter, is said apart
abbrev pub AnswersLine : DeskLine → Turn → Collection → List Step → Result DeskAnswer DeskFault → Type 0
AnswersLine (lines.Page card back) t c steps result = ⊤
AnswersLine (lines.Mute filter) t c steps result = ⊤
AnswersLine line t c steps result = AnswersBy (Refuses line t c steps) result

-- a line that only reads, or drops a filter, leaves all as it was
abbrev pub KeepsIfReading : DeskLine → DeskState → DeskState → Type 0
KeepsIfReading (lines.Find search) before after = after ≡ before
KeepsIfReading (lines.Page card back) before after = after ≡ before
KeepsIfReading (lines.Mute filter) before after = after ≡ before
KeepsIfReading lines.Check before after = after ≡ before
KeepsIfReading line before after = ⊤

-- an answer has the form that the line asks for
abbrev pub HasAnswerForm : DeskLine → DeskAnswer → Type 0
HasAnswerForm (lines.AddNote note_type deck fields) answer =
    (note : ℤ) × (cards : List ℤ) × (answer ≡ answers.AddedNote note cards)
HasAnswerForm (lines.AddDeck name) answer = (id : ℤ) × (answer ≡ answers.AddedDeck id)
HasAnswerForm (lines.AddOptions options) answer = (id : ℤ) × (answer ≡ answers.PutOptions id)
HasAnswerForm (lines.SetOptions options) answer = answer ≡ answers.PutOptions options.id
HasAnswerForm (lines.AddType note_type) answer = (id : ℤ) × (answer ≡ answers.AddedType id)
HasAnswerForm (lines.Answer card button taken) answer =
    (queue : ℤ) × (due : ℤ) × (interval : ℤ) × (answer ≡ answers.Answered queue due interval)
HasAnswerForm (lines.Next deck) answer = (card : Option ℤ) × (answer ≡ answers.Next card)
HasAnswerForm (lines.Counts deck) answer =
    (new_cards : ℕ) × (learning : ℕ) × (reviews : ℕ) × (answer ≡ answers.Counts new_cards learning reviews)
HasAnswerForm (lines.Find search) answer = (cards : List ℤ) × (answer ≡ answers.Found cards)
HasAnswerForm (lines.Page card back) answer = (text : List ℕ) × (answer ≡ answers.Page text)
HasAnswerForm lines.Check answer = (fault : Option CheckFault) × (answer ≡ answers.Checked fault)
HasAnswerForm line answer = answer ≡ answers.Done

-- how a line ended at a desk, by its state before and after it. A page also has an end of its own, with the filters
pub record EndsLine (line : DeskLine) (t : Turn) (before after : DeskState)
    (result : Result DeskAnswer DeskFault) : Type 0 where
  pub does : IfOk result (λ answer. WhereHeld before.keeping (λ c. Does line t c before after answer))
  pub answers : WhereHeld before.keeping (λ c. AnswersLine line t c before.steps result)
  -- the rest is so also where it is not told what is held, but that nothing is known then of the start of a day
  pub left : IfErr result (λ fault. IsLeft line t fault before after)
  pub listed : IfErr result (MayRefuse line t)
  pub reads : OnOk result (KeepsIfReading line before after)
  pub form : IfOk result (HasAnswerForm line)
  -- whether a head is held, and whether there is a mark, stays
  pub stays : after.keeping.headed ≡ before.keeping.headed

-- the same of a desk, as it was and as it is
abbrev pub EndsAt : {K : Type 0} → Ghosts K → DeskLine → Turn → Desk K → Desk K → Result DeskAnswer DeskFault
    → Type 0
EndsAt K line t was now result = EndsLine line t (state_of K was) (state_of K now) result

-- ---- pages
-- the page of this side of a card is answered, where it is told what is held, and the filters are as it leaves them
abbrev pub ShowsPage : Keeping → ℤ → Bool → List Meaning → List Meaning → DeskAnswer → Type 0
ShowsPage held card back filters turned answer =
    (text : List ℕ) × (answer ≡ answers.Page text)
    × WhereTold held (λ h. ShowsCard h.rows card back filters turned text)

-- the page is refused for its first fault, where it is told what is held, and the filters are as far as it came
abbrev pub RefusesPage : Keeping → ℤ → Bool → List Meaning → List Meaning → DeskFault → Type 0
RefusesPage held card back filters turned fault =
    WhereTold held (λ h. RefusesCard h.rows card back filters turned fault)

-- how a page ended: the filters are the same, in the same order
pub record EndsPage (held : Keeping) (card : ℤ) (back : Bool) (filters turned : List Meaning)
    (result : Result DeskAnswer DeskFault) : Type 0 where
  pub shows : IfOk result (ShowsPage held card back filters turned)
  pub refused : IfErr result (RefusesPage held card back filters turned)
  pub same : kinds turned ≡ kinds filters

-- ---- filters
-- how a line ended that drops the first filter of this name: it is refused if there is none
pub record EndsMute (name : List ℕ) (filters after : List Meaning) (result : Result DeskAnswer DeskFault) : Type 0 where
  pub dropped : IfOk result (λ answer. has_filter name filters ≡ true)
  pub refused : IfErr result (λ fault. has_filter name filters ≡ false)
  pub left : after ≡ without_filter name filters

-- what a line makes of the filters: a page applies them, `mute` drops one, and other lines do nothing with them
abbrev pub AppliesFilters : DeskLine → Keeping → List Meaning → List Meaning → Result DeskAnswer DeskFault → Type 0
AppliesFilters (lines.Page card back) held filters turned result = EndsPage held card back filters turned result
AppliesFilters (lines.Mute filter) held filters turned result = EndsMute filter filters turned result
AppliesFilters line held filters turned result = turned ≡ filters
