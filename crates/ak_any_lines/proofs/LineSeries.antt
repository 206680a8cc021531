-- Any line is a series of steps.
use Rattle.std.specs.Prelude.{◌≡◌, ℤ, false, Bool, if◌then◌else◌, List, [], ◌∷◌, Option, Some, None, Result, Ok, Err}
use Rattle.std.specs.Option.{MatchOption, option_map}
use Rattle.std.proofs.Common.{inl, inr, refl, sym, ap, subst, ◌∙◌}
use Rattle.std.proofs.lemmas.List.Elements.{All-nil}
use Rattle.ak_any_lines.specs.AnyEnds.{AnswersGiven, EndsAfterFirst, EndsAnyLine, EndsSingle, ThenEnds, given_in}
use Rattle.ak_any_lines.specs.FilteredCalls.{EndsCall}
use Rattle.ak_any_lines.specs.FirstThings.{EmptiesFirst, GoesFirst, SendsFirst, SendsIfMoved, dropped_deck, moved_cards}
use Rattle.ak_any_lines.specs.LineSeries.{Clears, ClearsThrough, IsInSteps}
use Rattle.ak_away_answers.specs.AwayAnswers.{EndsAnswer, EndsAnyAnswer, EndsAway, EndsEarly, EndsFromHome, IsRefusedAsWas}
use Rattle.ak_away_answers.specs.EarlyAnswers.{IsEarly, early_edit}
use Rattle.ak_base.specs.declared.cards.Card.{Card}
use Rattle.ak_base.specs.declared.days.Day.{Day}
use Rattle.ak_base.specs.declared.decks.Deck.{Deck}
use Rattle.ak_base.specs.declared.heads.Tag.{Tag}
use Rattle.ak_base.specs.declared.reviews.Review.{Review}
use Rattle.ak_base.specs.declared.rows.Row.TheVariants as rows
use Rattle.ak_deck_paths.specs.Additions.{addition}
use Rattle.ak_deck_paths.specs.ChangedDecks.{with_decks}
use Rattle.ak_desk_lines.proofs.EndedLines.{held_at, same_state}
use Rattle.ak_desk_lines.proofs.KeptLinks.{step_keeps}
use Rattle.ak_desk_lines.proofs.LineStepping.{suits_after}
use Rattle.ak_desk_lines.specs.DeskStates.{DeskState}
use Rattle.ak_desk_lines.specs.LineEnds.{EndsLine}
use Rattle.ak_desk_lines.specs.LineSteps.{IsOneStep, KeepsLinks, LinksWith}
use Rattle.ak_desk_lines.specs.declared.turns.Turn.{Turn}
use Rattle.ak_edit.proofs.Finishing.{where_held}
use Rattle.ak_edit.specs.Ends.{holding_now}
use Rattle.ak_edit.specs.Steps.{reversals_in}
use Rattle.ak_edit.specs.Undos.{SuitsNow}
use Rattle.ak_edit.specs.declared.desk_faults.DeskFault.{DeskFault}
use Rattle.ak_filtered.proofs.ClearedOnes.{keeps_all}
use Rattle.ak_filtered.specs.Builds.{building}
use Rattle.ak_filtered.specs.ClearedEdits.{IsCleared}
use Rattle.ak_filtered.specs.Emptyings.{AreEmptied, EndsEmptied, RefusesEmptying, emptying, filtered_below}
use Rattle.ak_filtered.specs.HomeDecks.{sending_home}
use Rattle.ak_filtered.specs.HomeGoings.{EndsSending}
use Rattle.ak_filtered.specs.MadeDecks.{ArePut}
use Rattle.ak_filtered.specs.declared.deck_makings.NewFiltered.{NewFiltered}
use Rattle.ak_filtered.specs.declared.faults.FilteredFault.{FilteredFault}
use Rattle.ak_keep.specs.Collections.{Collection, Holding}
use Rattle.ak_keep.specs.Graves.{RowsByName}
use Rattle.ak_keep.specs.Keepers.{Keeping, WhereHeld}
use Rattle.ak_keep.specs.Marks as marks
use Rattle.ak_keep.specs.Marks.{WithMark}
use Rattle.ak_desk_language.specs.declared.any_lines.AnyLine.TheVariants as anys
use Rattle.ak_desk_language.specs.declared.any_lines.AnyLine.{AnyLine}
use Rattle.ak_desk_language.specs.declared.desk_lines.DeskLine.{DeskLine}
use Rattle.ak_merge.specs.EditBuilding.{unedited, with_row}
use Rattle.ak_merge.specs.Edits.{Admits, Edit, Reversal, advanced}
use Rattle.ak_merge.specs.Holdings.{AreNamed, IsSingle, row_under}
use Rattle.ak_merge.specs.Undoing.{KeepsAll, StepFits, StepsSuit}
use Rattle.ak_study.proofs.AdmittedAnswers.{answers_are_admitted}
use Rattle.ak_study.specs.Answers.{answer_edit}
use Rattle.ak_study.specs.declared.answers.CardAnswer.{CardAnswer}
use Rattle.ak_desk_texts.specs.declared.answers.DeskAnswer.{DeskAnswer}
use Rattle.ak_desk_texts.specs.declared.line_refusals.LineRefusal.{LineRefusal}
use Rattle.ak_undo.specs.declared.steps.Step.{Step}

-- ---- the laws of the calls
-- what is admitted of the edits of filtered decks
pub record AreAdmitted : Type 0 where
  pub home : (cards : List ℤ) (c : Collection) → AreNamed (row_under c) → Admits c (sending_home cards c)
  pub emptied : (deck : ℤ) (c : Collection) → AreNamed (row_under c) → Admits c (emptying deck c)
  pub built : (deck : ℤ) (chosen : List ℤ) (c : Collection) → AreNamed (row_under c) → Admits c (building deck chosen c)
  pub made : (at : ℤ) (given : NewFiltered) (decks : List Deck) (c : Collection) → AreNamed (row_under c) → ArePut at given c.rows decks → Admits c (addition decks c)
  pub early : (at : ℤ) (given : CardAnswer) (day : Day) (made : Card) (review : Review) (c : Collection) → AreNamed (row_under c) → IsEarly at given day c made review
      → Admits c (early_edit made review c)
  pub single : (line : DeskLine) (t : Turn) (was now : DeskState) (result : Result DeskAnswer DeskFault) → EndsLine line t was now result
      → WhereHeld was.keeping (λ c. IsOneStep t.at c was now)

-- ---- what a keeper tells
-- it tells this collection
pub record IsTold (k : Keeping) (c : Collection) : Type 0 where
  pub w : WithMark Holding
  pub told : k.told ≡ Some w
  pub head : w.current.head ≡ Some c.head
  pub is : c ≡ (let d : Collection = record { rows = w.current.rows; head = c.head } in d)

-- what is true where a collection is told is true of it
pub told_here : (k : Keeping) (c : Collection) (P : Collection → Type 0) → IsTold k c → WhereHeld k P → P c
told_here k c P told held = subst P (sym told.is) (held_at k P told.w c.head told.told told.head held)

-- what it tells next
told_after : (k now : Keeping) (c d : Collection) → IsTold k c → now ≡ holding_now d k → IsTold now d
told_after k now c d told held = record {
  w = marks.changed (λ (h : Holding). record { rows = d.rows; head = Some d.head }) told.w;
  told =
      ap (λ (n : Keeping). n.told) held
      ∙ ap (option_map (marks.changed (λ (h : Holding). record { rows = d.rows; head = Some d.head }))) told.told;
  head = refl;
  is = refl;
}

-- ---- one series
-- a line that cleared through these states came to this
record CameThrough (at : ℤ) (c : Collection) (was last : DeskState) : Type 0 where
  pub through : List DeskState
  pub between : Collection
  pub clears : ClearsThrough at through c was between last
  pub told : IsTold last.keeping between

-- nothing was cleared
abbrev unmoved : (at : ℤ) (c : Collection) (was now : DeskState) → IsTold was.keeping c → now ≡ was → CameThrough at c was now
unmoved at c was now told same = record {
  through = [];
  between = c;
  clears = (refl, same);
  told = subst (λ (s : DeskState). IsTold s.keeping c) (sym same) told;
}

-- one edit cleared
abbrev cleared_once : (at : ℤ) (c : Collection) (was now : DeskState) (edit : Edit) → IsTold was.keeping c → Admits c edit → edit.schema ≡ false
    → IsCleared at c edit was.keeping now.keeping now.steps → CameThrough at c was now
cleared_once at c was now edit told admits schema is = record {
  through = now ∷ [];
  between = is.after;
  clears = (record { edit = edit; admits = admits; schema = schema; cleared = is }, (refl, refl));
  told = told_after was.keeping now.keeping c is.after told is.held;
}

-- one edit cleared, and then more
cleared_before : (at : ℤ) (c : Collection) (was mid now : DeskState) (edit : Edit) → Admits c edit → edit.schema ≡ false
    → (is : IsCleared at c edit was.keeping mid.keeping mid.steps) → CameThrough at is.after mid now → CameThrough at c was now
cleared_before at c was mid now edit admits schema is more = record {
  through = mid ∷ more.through;
  between = more.between;
  clears = (record { edit = edit; admits = admits; schema = schema; cleared = is }, more.clears);
  told = more.told;
}

-- the last step after it
and_then : (at : ℤ) (c : Collection) (was last now : DeskState) (came : CameThrough at c was last) → IsOneStep at came.between last now → IsInSteps at c was now
and_then at c was last now came step = record {
  through = came.through;
  between = came.between;
  last = last;
  clears = came.clears;
  step = step;
}

and_nothing : (at : ℤ) (c : Collection) (was now : DeskState) → CameThrough at c was now → IsInSteps at c was now
and_nothing at c was now came = and_then at c was now now came (inl refl)

-- ---- decks that are emptied
came_empty : (laws : AreAdmitted) (at : ℤ) (decks : List Deck) (c : Collection) (was now : DeskState) → IsTold was.keeping c
    → AreEmptied at decks was.keeping now.keeping was.steps now.steps → CameThrough at c was now
came_empty laws at [] c was now told (same, kept) = unmoved at c was now told (same_state was now same kept)
came_empty laws at (deck ∷ decks) c was now told (mid, is, rest) =
    let here = told_here was.keeping c (λ d. IsCleared at d (emptying deck.id d) was.keeping mid [] × ((fault : DeskFault) → RefusesEmptying at deck.id d fault → ⊥)) told is in
    cleared_before at c was (record { keeping = mid; steps = [] }) now (emptying deck.id c) (laws.emptied deck.id c here.0.rightly.named) refl here.0
    (came_empty laws at decks here.0.after (record { keeping = mid; steps = [] }) now (told_after was.keeping mid c here.0.after told here.0.held) rest)

emptied_first : (laws : AreAdmitted) (at : ℤ) (decks : List Deck) (c : Collection) (was mid : DeskState) (first : Result (Unit {0}) DeskFault) → IsTold was.keeping c
    → EndsEmptied at decks was.keeping mid.keeping was.steps mid.steps first → CameThrough at c was mid
emptied_first laws at decks c was mid (Ok done) told ends = came_empty laws at decks c was mid told ends.done
emptied_first laws at decks c was mid (Err fault) told ends =
    elim ends.refused as (λ _. CameThrough at c was mid) [
      | inl cut ↦ came_empty laws at cut.1.first c was mid told cut.1.emptied
      | inr stopped ↦ came_empty laws at stopped.first c was mid told stopped.emptied
    ]

-- ---- cards that go home
sent_first : (laws : AreAdmitted) (at : ℤ) (cards : List ℤ) (c : Collection) (was mid : DeskState) (sent : Result Bool DeskFault) → IsTold was.keeping c
    → EndsSending at cards c was.keeping mid.keeping was.steps mid.steps sent → CameThrough at c was mid
sent_first laws at cards c was mid sent told (inl none) = unmoved at c was mid told (same_state was mid none.same none.kept)
sent_first laws at cards c was mid sent told (inr (inl some)) =
    cleared_once at c was mid (sending_home cards c) told (laws.home cards c some.cleared.rightly.named) refl some.cleared
sent_first laws at cards c was mid sent told (inr (inr refused)) = unmoved at c was mid told (same_state was mid refused.same refused.kept)

-- ---- what goes first
sent_if_moved : (laws : AreAdmitted) (line : DeskLine) (at : ℤ) (c : Collection) (was mid : DeskState) (first : Result (Unit {0}) DeskFault) → IsTold was.keeping c
    → SendsIfMoved line at was mid first → CameThrough at c was mid
sent_if_moved laws line at c was mid first told sends =
    elim (moved_cards line) as (λ (o : Option (List ℤ)). MatchOption o ((mid ≡ was) × (first ≡ Ok tt)) (λ cards. SendsFirst at cards was mid first) → CameThrough at c was mid) [
      | None ↦ λ nothing. unmoved at c was mid told nothing.0
      | Some cards ↦ λ goes. sent_first laws at cards c was mid goes.sent told
          (told_here was.keeping c (λ d. EndsSending at cards d was.keeping mid.keeping was.steps mid.steps goes.sent) told goes.ends)
    ] sends

came_first : (laws : AreAdmitted) (line : DeskLine) (at : ℤ) (c : Collection) (was mid : DeskState) (first : Result (Unit {0}) DeskFault) → IsTold was.keeping c
    → GoesFirst line at was mid first → CameThrough at c was mid
came_first laws line at c was mid first told goes =
    elim (dropped_deck line) as (λ (o : Option ℤ). MatchOption o (SendsIfMoved line at was mid first) (λ deck. EmptiesFirst at deck was mid first) → CameThrough at c was mid) [
      | None ↦ λ sends. sent_if_moved laws line at c was mid first told sends
      | Some deck ↦ λ empties. emptied_first laws at (filtered_below deck c.rows) c was mid first told
          (told_here was.keeping c (λ d. EndsEmptied at (filtered_below deck d.rows) was.keeping mid.keeping was.steps mid.steps first) told empties.ends)
    ] goes

-- ---- answers
-- the answer of a card at home
home_step : (at : ℤ) (given : CardAnswer) (c : Collection) (was now : DeskState) (made : Result Card DeskFault)
    → EndsAnswer at given c was.keeping now.keeping was.steps now.steps made → IsOneStep at c was now
home_step at given c was now (Ok card) ends =
    inr (inl (answer_edit ends.done.day ends.done.answering c, answers_are_admitted at given ends.done.day ends.done.answering c ends.done.finished.named ends.done.is_answering, ends.done.finished))
home_step at given c was now (Err fault) ends = inl (same_state was now ends.same ends.kept)

refused_as_was : {P : DeskFault → Type 0} (at : ℤ) (c : Collection) (was now : DeskState) (made : Result Card DeskFault) → IsTold was.keeping c
    → IsRefusedAsWas was.keeping now.keeping was.steps now.steps made P → IsInSteps at c was now
refused_as_was at c was now made told is = and_nothing at c was now (unmoved at c was now told (same_state was now is.same is.kept))

early_steps : (laws : AreAdmitted) (at : ℤ) (given : CardAnswer) (day : Day) (c : Collection) (was now : DeskState) (made : Result Card DeskFault) → IsTold was.keeping c
    → EndsEarly at given day c was.keeping now.keeping was.steps now.steps made → IsInSteps at c was now
early_steps laws at given day c was now (Ok card) told ends =
    let done = ends.done in
    and_nothing at c was now
    (cleared_once at c was now (early_edit card done.review c) told (laws.early at given day card done.review c done.cleared.rightly.named done.is_early) refl done.cleared)
early_steps laws at given day c was now (Err fault) told ends = and_nothing at c was now (unmoved at c was now told (same_state was now ends.same ends.kept))

from_home_steps : (laws : AreAdmitted) (at : ℤ) (given : CardAnswer) (c : Collection) (was now : DeskState) (made : Result Card DeskFault) → IsTold was.keeping c
    → EndsFromHome at given c was.keeping now.keeping now.steps made → IsInSteps at c was now
from_home_steps laws at given c was now made told ends =
    let mid : DeskState = record { keeping = ends.between; steps = [] } in
    let came = cleared_once at c was mid (sending_home (given.card ∷ []) c) told (laws.home (given.card ∷ []) c ends.home.rightly.named) refl ends.home in
    and_then at c was mid now came (home_step at given ends.home.after mid now made ends.ends)

away_steps : (laws : AreAdmitted) (at : ℤ) (given : CardAnswer) (day : Day) (card : Card) (c : Collection) (was now : DeskState) (made : Result Card DeskFault) → IsTold was.keeping c
    → EndsAway at given day card c was.keeping now.keeping was.steps now.steps made → IsInSteps at c was now
away_steps laws at given day card c was now made told (inl early) = early_steps laws at given day c was now made told early.1
away_steps laws at given day card c was now made told (inr (late, inl refused)) = refused_as_was at c was now made told refused
away_steps laws at given day card c was now made told (inr (late, inr from_home)) = from_home_steps laws at given c was now made told from_home

answer_steps : (laws : AreAdmitted) (at : ℤ) (given : CardAnswer) (c : Collection) (was now : DeskState) (made : Result Card DeskFault) → IsTold was.keeping c
    → EndsAnyAnswer at given c was.keeping now.keeping was.steps now.steps made → IsInSteps at c was now
answer_steps laws at given c was now made told (inl refused) = refused_as_was at c was now made told refused
answer_steps laws at given c was now made told (inr (inl (card, held, away, refused))) = refused_as_was at c was now made told refused
answer_steps laws at given c was now made told (inr (inr (inl (card, can, day, is_day, ends)))) = away_steps laws at given day card c was now made told ends
answer_steps laws at given c was now made told (inr (inr (inr (home, ends)))) =
    and_then at c was was now (unmoved at c was was told refl) (home_step at given c was now made ends)

-- ---- lines that are one call
then_steps : (laws : AreAdmitted) (line : DeskLine) (t : Turn) (c : Collection) (was mid now : DeskState) (first : Result (Unit {0}) DeskFault) (own : Result DeskAnswer DeskFault)
    → CameThrough t.at c was mid → ThenEnds first line t mid now own → IsInSteps t.at c was now
then_steps laws line t c was mid now (Ok done) own came ends =
    and_then t.at c was mid now came
    (told_here mid.keeping came.between (λ d. IsOneStep t.at d mid now) came.told (laws.single line t mid now own ends))
then_steps laws line t c was mid now (Err fault) own came ends =
    and_then t.at c was mid now came (inl ends.0)

after_first_steps : (laws : AreAdmitted) (line : DeskLine) (t : Turn) (c : Collection) (was now : DeskState) (own : Result DeskAnswer DeskFault) → IsTold was.keeping c
    → EndsAfterFirst line t was now own → IsInSteps t.at c was now
after_first_steps laws line t c was now own told (mid, first, goes, ends) =
    then_steps laws line t c was mid now first own (came_first laws line t.at c was mid first told goes) ends

single_steps : (laws : AreAdmitted) (line : DeskLine) (t : Turn) (c : Collection) (was now : DeskState) (own : Result DeskAnswer DeskFault) → IsTold was.keeping c
    → EndsSingle line t was now own → IsInSteps t.at c was now
single_steps laws line t c was now own told =
    elim (given_in line t) as (λ o. MatchOption o (EndsAfterFirst line t was now own) (λ given. AnswersGiven t.at given was now own) → IsInSteps t.at c was now) [
      | None ↦ λ ends. after_first_steps laws line t c was now own told ends
      | Some given ↦ λ ends. answer_steps laws t.at given c was now ends.0 told
          (told_here was.keeping c (λ d. EndsAnyAnswer t.at given d was.keeping now.keeping was.steps now.steps ends.0) told ends.1.ends)
    ]

-- ---- lines about filtered decks
-- decks that are put leave the schema
decks_leave_schema : (decks : List Deck) (edit : Edit) → (with_decks decks edit).schema ≡ edit.schema
decks_leave_schema [] edit = refl
decks_leave_schema (deck ∷ decks) edit = decks_leave_schema decks (with_row (rows.Deck deck) edit)

-- a call that clears or leaves all as it was
call_steps : {T : Type 0} (at : ℤ) (c : Collection) (was now : DeskState) (IsDone : Collection → T → Type 0) (Tells : Collection → Result T FilteredFault → Type 0) (May : FilteredFault → Type 0) (made : Result T FilteredFault)
    → IsTold was.keeping c → ((value : T) → IsDone c value → CameThrough at c was now) → EndsCall IsDone Tells May was now made → IsInSteps at c was now
call_steps at c was now IsDone Tells May (Ok value) told came ends =
    and_nothing at c was now (came value (told_here was.keeping c (λ d. IsDone d value) told ends.done))
call_steps at c was now IsDone Tells May (Err fault) told came ends = and_nothing at c was now (unmoved at c was now told ends.left)

-- ---- all lines
steps_of : (laws : AreAdmitted) (line : AnyLine) (t : Turn) (c : Collection) (was now : DeskState) (result : Result DeskAnswer LineRefusal) → IsTold was.keeping c
    → EndsAnyLine line t was now result → IsInSteps t.at c was now
steps_of laws (anys.Single line) t c was now result told (own, ends, is) = single_steps laws line t c was now own told ends
steps_of laws (anys.Filter name search limit order) t c was now result told (given, made, is_given, ends, is) =
    call_steps t.at c was now _ _ _ made told
    (λ id done. cleared_once t.at c was now (addition done.decks c) told (laws.made t.at given done.decks c done.cleared.rightly.named done.are)
    (decks_leave_schema done.decks (unedited c)) done.cleared) ends
steps_of laws (anys.Build deck) t c was now result told (made, ends, is) =
    call_steps t.at c was now _ _ _ made told
    (λ count done. cleared_once t.at c was now (building deck done.chosen c) told (laws.built deck done.chosen c done.cleared.rightly.named) refl done.cleared) ends
steps_of laws (anys.Empty deck) t c was now result told (made, ends, is) =
    call_steps t.at c was now _ _ _ made told
    (λ count done. cleared_once t.at c was now (emptying deck c) told (laws.emptied deck c done.cleared.rightly.named) refl done.cleared) ends

pub line_steps : AreAdmitted → (line : AnyLine) (t : Turn) (was now : DeskState) (result : Result DeskAnswer LineRefusal) → EndsAnyLine line t was now result
    → WhereHeld was.keeping (λ c. IsInSteps t.at c was now)
line_steps laws line t was now result ends =
    where_held was.keeping (λ c. IsInSteps t.at c was now)
    (λ w head told is_head. steps_of laws line t (record { rows = w.current.rows; head = head }) was now result
    (record { w = w; told = told; head = is_head; is = refl }) ends)

-- ---- what a series keeps
-- what is known of a collection and its undo list between two steps
record IsKept (c d : Collection) (was last : DeskState) : Type 0 where
  pub told : IsTold last.keeping d
  pub suits : SuitsNow was.steps c → SuitsNow last.steps d
  pub schema : d.head.schema ≡ c.head.schema
  pub links : (s : Collection) → LinksWith c was.steps s → LinksWith d last.steps s

-- an edit that clears
pub clears_keep : (at : ℤ) (c : Collection) (was now : DeskState) (is : Clears at c was now) → KeepsAll at c is.edit is.cleared.after
clears_keep at c was now is = keeps_all at c is.edit was.keeping now.keeping now.steps is.cleared is.admits

pub cleared_links : (at : ℤ) (c s : Collection) (was now : DeskState) (is : Clears at c was now) → LinksWith c was.steps s → LinksWith is.cleared.after now.steps s
cleared_links at c s was now is links =
    let keeps = clears_keep at c was now is in
    subst (λ (left : List Step). LinksWith is.cleared.after left s) (sym is.cleared.list) (record {
      linked = keeps.linked s is.schema links.linked;
      fit = All-nil (λ step. StepFits is.cleared.after step s);
    })

pub cleared_schema : (at : ℤ) (c : Collection) (was now : DeskState) (is : Clears at c was now) → is.cleared.after.head.schema ≡ c.head.schema
cleared_schema at c was now is = is.cleared.edited.schema ∙ ap (λ (b : Bool). if b then advanced at c.head.schema else c.head.schema) is.schema

-- where a list suits, no row stands beside its grave
single_now : (steps : List Reversal) (at : RowsByName) (tags : List Tag) → StepsSuit steps at tags → IsSingle at
single_now [] at tags suits = suits
single_now (step ∷ steps) at tags suits = suits.0

pub cleared_suits : (at : ℤ) (c : Collection) (was now : DeskState) (is : Clears at c was now) → SuitsNow was.steps c → SuitsNow now.steps is.cleared.after
cleared_suits at c was now is suits =
    let keeps = clears_keep at c was now is in
    subst (λ (left : List Step). SuitsNow left is.cleared.after) (sym is.cleared.list) (keeps.single (single_now (reversals_in was.steps) (row_under c) c.head.tags suits))

kept_through : (at : ℤ) (through : List DeskState) (c d : Collection) (was last : DeskState) → IsTold was.keeping c → ClearsThrough at through c was d last
    → IsKept c d was last
kept_through at [] c d was last told (same, stays) = record {
  told = subst (λ (s : DeskState). IsTold s.keeping d) (sym stays) (subst (IsTold was.keeping) (sym same) told);
  suits = λ suits. subst (λ (s : DeskState). SuitsNow s.steps d) (sym stays) (subst (SuitsNow was.steps) (sym same) suits);
  schema = ap (λ (e : Collection). e.head.schema) same;
  links = λ s links. subst (λ (n : DeskState). LinksWith d n.steps s) (sym stays) (subst (λ (e : Collection). LinksWith e was.steps s) (sym same) links);
}
kept_through at (mid ∷ through) c d was last told (first, rest) =
    let more = kept_through at through first.cleared.after d mid last (told_after was.keeping mid.keeping c first.cleared.after told first.cleared.held) rest in
    record {
      told = more.told;
      suits = λ suits. more.suits (cleared_suits at c was mid first suits);
      schema = more.schema ∙ cleared_schema at c was mid first;
      links = λ s links. more.links s (cleared_links at c s was mid first links);
    }

-- the undo list suits
list_suits : (at : ℤ) (c : Collection) (was now : DeskState) → IsTold was.keeping c → IsInSteps at c was now → SuitsNow was.steps c
    → WhereHeld now.keeping (SuitsNow now.steps)
list_suits at c was now told series suits =
    let kept = kept_through at series.through c series.between was series.last told series.clears in
    let here = kept.told in
    suits_after at series.last now here.w series.between.head here.told here.head
    (subst (λ (d : Collection). IsOneStep at d series.last now) here.is series.step)
    (subst (SuitsNow series.last.steps) here.is (kept.suits suits))

pub lists_suit : ((line : AnyLine) (t : Turn) (was now : DeskState) (result : Result DeskAnswer LineRefusal) → EndsAnyLine line t was now result → WhereHeld was.keeping (λ c. IsInSteps t.at c was now))
    → (line : AnyLine) (t : Turn) (was now : DeskState) (result : Result DeskAnswer LineRefusal) → EndsAnyLine line t was now result
    → WhereHeld was.keeping (λ c. SuitsNow was.steps c → WhereHeld now.keeping (SuitsNow now.steps))
lists_suit steps line t was now result ends =
    where_held was.keeping (λ c. SuitsNow was.steps c → WhereHeld now.keeping (SuitsNow now.steps))
    (λ w head told is_head suits. list_suits t.at (record { rows = w.current.rows; head = head }) was now (record { w = w; told = told; head = is_head; is = refl })
    (held_at was.keeping (λ c. IsInSteps t.at c was now) w head told is_head (steps line t was now result ends)) suits)

-- links stay
links_stay : (at : ℤ) (c : Collection) (was now : DeskState) → IsTold was.keeping c → IsInSteps at c was now → SuitsNow was.steps c → KeepsLinks c was now
links_stay at c was now told series suits s links =
    let kept = kept_through at series.through c series.between was series.last told series.clears in
    let here = kept.told in
    let keeps : KeepsLinks (record { rows = here.w.current.rows; head = series.between.head }) series.last now =
    step_keeps at series.last now here.w series.between.head here.told here.head
    (subst (λ (d : Collection). IsOneStep at d series.last now) here.is series.step)
    (subst (SuitsNow series.last.steps) here.is (kept.suits suits)) in
    subst (λ (schema : ℤ). WhereHeld now.keeping (λ d. d.head.schema ≡ schema → LinksWith d now.steps s)) kept.schema
    (keeps s (subst (λ (d : Collection). LinksWith d series.last.steps s) here.is (kept.links s links)))

pub lines_keep : ((line : AnyLine) (t : Turn) (was now : DeskState) (result : Result DeskAnswer LineRefusal) → EndsAnyLine line t was now result → WhereHeld was.keeping (λ c. IsInSteps t.at c was now))
    → (line : AnyLine) (t : Turn) (was now : DeskState) (result : Result DeskAnswer LineRefusal) → EndsAnyLine line t was now result
    → WhereHeld was.keeping (λ c. SuitsNow was.steps c → KeepsLinks c was now)
lines_keep steps line t was now result ends =
    where_held was.keeping (λ c. SuitsNow was.steps c → KeepsLinks c was now)
    (λ w head told is_head suits. links_stay t.at (record { rows = w.current.rows; head = head }) was now (record { w = w; told = told; head = is_head; is = refl })
    (held_at was.keeping (λ c. IsInSteps t.at c was now) w head told is_head (steps line t was now result ends)) suits)
