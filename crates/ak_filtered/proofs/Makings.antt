-- A filtered deck that is made: what it leaves, and why it is refused.
use Rattle.std.specs.Prelude.{◌≡◌, ◌⊎◌, ◌<◌, ℕ, ℤ, pos, List, [], ◌∷◌, ◌++◌, length, Option, Some, None, Result, Ok, Err}
use Rattle.std.proofs.Common.{refl, sym, ap, subst, ◌∙◌, inl, inr, arith}
use Rattle.std.proofs.lemmas.Int.{ints}
use Rattle.std.proofs.lemmas.Option.{none-some}
use Rattle.ak_base.specs.declared.decks.Deck.{Deck}
use Rattle.ak_deck_paths.proofs.PuttingDecks.{addition_asked}
use Rattle.ak_deck_paths.specs.Additions.{AreAdded, IsUseFault, RefusesFirst, added_paths, addition, id_of_last}
use Rattle.ak_deck_paths.specs.ChangedDecks.{IsPathFault, decks_over}
use Rattle.ak_deck_paths.specs.DeckPaths.{has_path}
use Rattle.ak_deck_paths.specs.GivenPaths.{IsRowFault, RefusesPath}
use Rattle.ak_deck_paths.specs.NewDecks.{AreNewDecks, RefusesIds}
use Rattle.ak_edit.specs.Ends.{AnswersEnd, RefusesEnd}
use Rattle.ak_edit.specs.Overlays.{Overlay, edit_of, unchanged}
use Rattle.ak_edit.specs.Refusals.{AnswersBy, IsEndFault}
use Rattle.ak_edit.specs.declared.desk_faults.DeskFault.{DeskFault}
use Rattle.ak_edit.specs.declared.desk_faults.DeskFault.TheVariants as desk
use Rattle.ak_edit_calls.proofs.Telling.{where_always, where_held-both, where_held-map, where_rows_held, where_told-both}
use Rattle.ak_edit_calls.specs.NewNames.{IsIdFault}
use Rattle.ak_faults.proofs.Healths.{goes_nowhere}
use Rattle.ak_faults.specs.Causes.{GoesOn, Health}
use Rattle.ak_filtered.proofs.DeckTests.{bad_search, search_inside}
use Rattle.ak_filtered.proofs.FilteredTells.{KeepsWord, desk_passed, desk_told, end_word, ended_first, ended_last, ended_outside, ended_well, outside_of, told_by, told_first, told_others, told_outside, word_of}
use Rattle.ak_filtered.proofs.Told.{held_always, held_pair}
use Rattle.ak_filtered.specs.ClearedEdits.{ClearedBy, IsCleared}
use Rattle.ak_filtered.specs.FilteredFaults.{ByDesk, FilteredCause, FirstOf, IsOutside, TellsBy, TellsToEnd, of_desk_fault, of_search_fault}
use Rattle.ak_filtered.specs.MadeDecks.{ArePlanned, ArePut, IsMade, RefusesGiven, RefusesGivenPlan, RefusesGivenSearch, RefusesMaking, RefusesToMake, given_plan}
use Rattle.ak_filtered.specs.MakingFaults.{IsGivenFault, IsMakingFault}
use Rattle.ak_filtered.specs.declared.deck_makings.NewFiltered.{NewFiltered}
use Rattle.ak_filtered.specs.declared.faults.FilteredFault.{FilteredFault}
use Rattle.ak_filtered.specs.declared.faults.FilteredFault.TheVariants as faults
use Rattle.ak_filtered.specs.declared.plans.Plan.{Plan}
use Rattle.ak_keep.proofs.Told.{where_told-map}
use Rattle.ak_keep.specs.Collections.{Collection, Holding, IsId, Rows}
use Rattle.ak_keep.specs.Keepers.{Keeping, WhereHeld, WhereTold}
use Rattle.ak_keep.specs.Lookups.{decks_in}
use Rattle.ak_merge.specs.Edits.{Edit}
use Rattle.ak_search.specs.Grammar.{first_fault}
use Rattle.ak_search.specs.declared.faults.SearchFault.{SearchFault}
use Rattle.ak_search.specs.declared.faults.SearchFault.TheVariants as searches
use Rattle.ak_undo.specs.declared.steps.Step.{Step}

-- ---- what it leaves
edit_is : (decks : List Deck) (o : Overlay) (c : Collection) → o ≡ decks_over decks unchanged → edit_of o c ≡ addition decks c
edit_is decks o c is = ap (λ (p : Overlay). edit_of p c) is ∙ addition_asked decks c

pub made_done : (k now : Keeping) (at : ℤ) (given : NewFiltered) (decks : List Deck) (o : Overlay) (left : List Step) (id : ℤ) (value : Unit {0}) → o ≡ decks_over decks unchanged
    → id ≡ id_of_last (pos 0) decks → WhereTold k (λ h. ArePut at given h.rows decks) → ClearedBy at o k now left → AnswersEnd at o k (Ok value) → WhereHeld k (λ c. IsMade at given c k now left id)
made_done k now at given decks o left id value over last put cleared answers =
    where_held-both k (λ c. ArePut at given c.rows decks)
    (λ c. IsCleared at c (edit_of o c) k now left × AnswersBy {T = Unit {0}} (RefusesEnd at c (edit_of o c)) (Ok value)) (λ c. IsMade at given c k now left id)
    (λ c are both. record {
      decks = decks;
      are = are;
      is_id = last;
      passes = λ fault refuses. both.1.accepted fault (subst (λ (e : Edit). RefusesEnd at c e fault) (sym (edit_is decks o c over)) refuses);
      cleared = subst (λ (e : Edit). IsCleared at c e k now left) (edit_is decks o c over) both.0;
    })
    (where_rows_held k (λ rows. ArePut at given rows decks) put)
    (held_pair k (λ c. IsCleared at c (edit_of o c) k now left) (λ c. AnswersBy {T = Unit {0}} (RefusesEnd at c (edit_of o c)) (Ok value)) cleared answers)

-- ---- why it is refused at its end
pub made_tells : (k : Keeping) (at : ℤ) (given : NewFiltered) (decks : List Deck) (id : ℤ) → WhereTold k (λ h. TellsBy {T = List Deck} (RefusesToMake at given h.rows) (Ok decks))
    → WhereHeld k (λ c. TellsToEnd {T = ℤ} (RefusesToMake at given c.rows) (RefusesMaking at given c) (Ok id))
made_tells k at given decks id told =
    where_held-map k (λ c. TellsBy {T = List Deck} (RefusesToMake at given c.rows) (Ok decks)) (λ c. TellsToEnd {T = ℤ} (RefusesToMake at given c.rows) (RefusesMaking at given c) (Ok id))
    (λ c tells. ended_well (RefusesToMake at given c.rows) (RefusesMaking at given c) decks id tells)
    (where_rows_held k (λ rows. TellsBy {T = List Deck} (RefusesToMake at given rows) (Ok decks)) told)

pub made_first : (k : Keeping) (at : ℤ) (given : NewFiltered) (fault : FilteredFault) → WhereTold k (λ h. TellsBy {T = List Deck} (RefusesToMake at given h.rows) (Err fault))
    → WhereHeld k (λ c. TellsToEnd {T = ℤ} (RefusesToMake at given c.rows) (RefusesMaking at given c) (Err fault))
made_first k at given fault told =
    where_held-map k (λ c. TellsBy {T = List Deck} (RefusesToMake at given c.rows) (Err fault)) (λ c. TellsToEnd {T = ℤ} (RefusesToMake at given c.rows) (RefusesMaking at given c) (Err fault))
    (λ c tells. ended_first (RefusesToMake at given c.rows) (RefusesMaking at given c) fault tells)
    (where_rows_held k (λ rows. TellsBy {T = List Deck} (RefusesToMake at given rows) (Err fault)) told)

pub made_refused : (k : Keeping) (at : ℤ) (given : NewFiltered) (decks : List Deck) (o : Overlay) (own : DeskFault) → o ≡ decks_over decks unchanged → WhereTold k (λ h. ArePut at given h.rows decks)
    → WhereTold k (λ h. TellsBy {T = List Deck} (RefusesToMake at given h.rows) (Ok decks)) → AnswersEnd {T = Unit {0}} at o k (Err own)
    → WhereHeld k (λ c. TellsToEnd {T = ℤ} (RefusesToMake at given c.rows) (RefusesMaking at given c) (Err (of_desk_fault own)))
made_refused k at given decks o own over put told answers =
    where_held-both k (λ c. ArePut at given c.rows decks × TellsBy {T = List Deck} (RefusesToMake at given c.rows) (Ok decks))
    (λ c. AnswersBy {T = Unit {0}} (RefusesEnd at c (edit_of o c)) (Err own))
    (λ c. TellsToEnd {T = ℤ} (RefusesToMake at given c.rows) (RefusesMaking at given c) (Err (of_desk_fault own)))
    (λ c both answer. ended_last (RefusesToMake at given c.rows) (RefusesMaking at given c) own decks (RefusesEnd at c (edit_of o c)) both.1 answer
    (λ refuses.
    let last : RefusesEnd at c (addition decks c) own = subst (λ (e : Edit). RefusesEnd at c e own) (edit_is decks o c over) refuses in
    (decks, both.0, (own, last, end_word at c (addition decks c) own last))))
    (held_pair k (λ c. ArePut at given c.rows decks) (λ c. TellsBy {T = List Deck} (RefusesToMake at given c.rows) (Ok decks))
    (where_rows_held k (λ rows. ArePut at given rows decks) put) (where_rows_held k (λ rows. TellsBy {T = List Deck} (RefusesToMake at given rows) (Ok decks)) told)) answers

-- ---- what was given
pub path_word : (path : List ℕ) → KeepsWord (RefusesPath path)
path_word path own is = word_of own (desk.Row is.0) is.2 refl

pub use_word : (path : List ℕ) (decks : List Deck) → KeepsWord (RefusesFirst (has_path path) decks)
use_word path decks own is = subst (λ (f : DeskFault). of_desk_fault f ≡ faults.Desk f) (sym is.2) refl

ids_word : (at : ℤ) (paths : List (List ℕ)) (held : Rows) → KeepsWord (RefusesIds at paths held)
ids_word at paths held own is = word_of own desk.IdEnd is.1 refl

-- a deck has the path
pub given_used : (U : Type 0) (decks : List Deck) (given : NewFiltered) (own : DeskFault) → AnswersBy {T = Unit {0}} (RefusesFirst (has_path given.path.now) decks) (Err own)
    → TellsBy {T = U} (RefusesGiven decks given) (Err (of_desk_fault own))
given_used U decks given own answers =
    told_first {T = U} (ByDesk (RefusesFirst (has_path given.path.now) decks)) (FirstOf (RefusesGivenPlan given) (RefusesGivenSearch given)) (of_desk_fault own)
    (desk_told (RefusesFirst (has_path given.path.now) decks) own (use_word given.path.now decks) answers)

-- none has, and the plan or its search is tested
given_free : {U : Type 0} (decks : List Deck) (given : NewFiltered) (value : Unit {0}) (result : Result U FilteredFault) → AnswersBy (RefusesFirst (has_path given.path.now) decks) (Ok value)
    → TellsBy (FirstOf (RefusesGivenPlan given) (RefusesGivenSearch given)) result → TellsBy (RefusesGiven decks given) result
given_free decks given value result passes tells =
    told_others (ByDesk (RefusesFirst (has_path given.path.now) decks)) (FirstOf (RefusesGivenPlan given) (RefusesGivenSearch given)) value result
    (desk_passed (RefusesFirst (has_path given.path.now) decks) value value passes) tells

pub given_bad_plan : (U : Type 0) (decks : List Deck) (given : NewFiltered) (value : Unit {0}) → AnswersBy (RefusesFirst (has_path given.path.now) decks) (Ok value) → given_plan given ≡ None
    → TellsBy {T = U} (RefusesGiven decks given) (Err (faults.BadPlan (pos 0)))
given_bad_plan U decks given value passes none =
    given_free decks given value (Err (faults.BadPlan (pos 0))) passes
    (told_first {T = U} (RefusesGivenPlan given) (RefusesGivenSearch given) (faults.BadPlan (pos 0)) (told_by (RefusesGivenPlan given) (faults.BadPlan (pos 0)) (none, refl)))

has_plan : {U : Type 0} (given : NewFiltered) (plan : Plan) (value : U) → given_plan given ≡ Some plan → TellsBy (RefusesGivenPlan given) (Ok value)
has_plan given plan value has = record { accepted = λ fault bad. none-some plan (sym bad.0 ∙ has); refused = tt }

pub given_bad_search : (U : Type 0) (decks : List Deck) (given : NewFiltered) (plan : Plan) (value : Unit {0}) (own : SearchFault) → AnswersBy (RefusesFirst (has_path given.path.now) decks) (Ok value)
    → given_plan given ≡ Some plan → (own ≡ searches.Memory) ⊎ (first_fault given.search.now ≡ Some own) → TellsBy {T = U} (RefusesGiven decks given) (Err (of_search_fault own))
given_bad_search U decks given plan value own passes has bad =
    elim (bad_search given.search.now own bad) [
      | inl memory ↦ told_outside (RefusesGiven decks given) (of_search_fault own) (inr memory)
      | inr fault ↦
          given_free decks given value (Err (of_search_fault own)) passes
          (told_others {U = U} (RefusesGivenPlan given) (RefusesGivenSearch given) value (Err (of_search_fault own)) (has_plan given plan value has)
          (told_by (RefusesGivenSearch given) (of_search_fault own) (own, fault.0, fault.1)))
    ]

pub given_good : {U : Type 0} (decks : List Deck) (given : NewFiltered) (plan : Plan) (value : Unit {0}) (result : U) → AnswersBy (RefusesFirst (has_path given.path.now) decks) (Ok value)
    → given_plan given ≡ Some plan → first_fault given.search.now ≡ None → TellsBy (RefusesGiven decks given) (Ok result)
given_good decks given plan value result passes has none =
    given_free decks given value (Ok result) passes
    (told_others (RefusesGivenPlan given) (RefusesGivenSearch given) value (Ok result) (has_plan given plan value has)
    (record { accepted = λ fault bad. none-some bad.0 (sym none ∙ bad.1); refused = tt }))

-- ---- before the end
-- the path is bad
pub path_told : (U : Type 0) (k : Keeping) (at : ℤ) (given : NewFiltered) (own : DeskFault) → AnswersBy {T = Unit {0}} (RefusesPath given.path.now) (Err own)
    → WhereTold k (λ h. TellsBy {T = U} (RefusesToMake at given h.rows) (Err (of_desk_fault own)))
path_told U k at given own answers =
    where_always k (λ h. TellsBy {T = U} (RefusesToMake at given h.rows) (Err (of_desk_fault own)))
    (λ h. told_first {T = U} (ByDesk (RefusesPath given.path.now)) (FirstOf (RefusesGiven (decks_in h.rows) given) (ByDesk (RefusesIds at (added_paths (decks_in h.rows) given.path.now) h.rows))) (of_desk_fault own)
    (desk_told (RefusesPath given.path.now) own (path_word given.path.now) answers))

-- what else was given is bad
pub given_told : (U : Type 0) (k : Keeping) (at : ℤ) (given : NewFiltered) (decks : List Deck) (value : Unit {0}) (fault : FilteredFault) → AnswersBy (RefusesPath given.path.now) (Ok value)
    → WhereTold k (λ h. decks ≡ decks_in h.rows) → TellsBy {T = Plan} (RefusesGiven decks given) (Err fault) → WhereTold k (λ h. TellsBy {T = U} (RefusesToMake at given h.rows) (Err fault))
given_told U k at given decks value fault passes held tells =
    where_told-map k (λ h. decks ≡ decks_in h.rows) (λ h. TellsBy {T = U} (RefusesToMake at given h.rows) (Err fault))
    (λ h is. told_others {U = U} (ByDesk (RefusesPath given.path.now)) (FirstOf (RefusesGiven (decks_in h.rows) given) (ByDesk (RefusesIds at (added_paths (decks_in h.rows) given.path.now) h.rows))) value (Err fault)
    (desk_passed (RefusesPath given.path.now) value value passes)
    (told_first {T = Plan} {U = U} (RefusesGiven (decks_in h.rows) given) (ByDesk (RefusesIds at (added_paths (decks_in h.rows) given.path.now) h.rows)) fault
    (subst (λ (ds : List Deck). TellsBy {T = Plan} (RefusesGiven ds given) (Err fault)) is tells))) held

-- the ids are looked for
pub ids_told : {U : Type 0} (k : Keeping) (at : ℤ) (given : NewFiltered) (decks : List Deck) (plan : Plan) (value : Unit {0}) (result : Result U FilteredFault) → AnswersBy (RefusesPath given.path.now) (Ok value)
    → WhereTold k (λ h. decks ≡ decks_in h.rows) → TellsBy {T = Plan} (RefusesGiven decks given) (Ok plan)
    → WhereTold k (λ h. TellsBy (ByDesk (RefusesIds at (added_paths decks given.path.now) h.rows)) result) → WhereTold k (λ h. TellsBy (RefusesToMake at given h.rows) result)
ids_told k at given decks plan value result passes held tells =
    where_told-both k (λ h. decks ≡ decks_in h.rows) (λ h. TellsBy (ByDesk (RefusesIds at (added_paths decks given.path.now) h.rows)) result) (λ h. TellsBy (RefusesToMake at given h.rows) result)
    (λ h is ids. subst (λ (ds : List Deck). TellsBy (FirstOf (ByDesk (RefusesPath given.path.now)) (FirstOf (RefusesGiven ds given) (ByDesk (RefusesIds at (added_paths ds given.path.now) h.rows)))) result) is
    (told_others (ByDesk (RefusesPath given.path.now)) (FirstOf (RefusesGiven decks given) (ByDesk (RefusesIds at (added_paths decks given.path.now) h.rows))) value result
    (desk_passed (RefusesPath given.path.now) value value passes)
    (told_others (RefusesGiven decks given) (ByDesk (RefusesIds at (added_paths decks given.path.now) h.rows)) plan result tells ids))) held

pub ids_lack : (T U : Type 0) (k : Keeping) (at : ℤ) (paths : List (List ℕ)) (own : DeskFault) → WhereTold k (λ h. AnswersBy {T = T} (RefusesIds at paths h.rows) (Err own))
    → WhereTold k (λ h. TellsBy {T = U} (ByDesk (RefusesIds at paths h.rows)) (Err (of_desk_fault own)))
ids_lack T U k at paths own =
    where_told-map k (λ h. AnswersBy {T = T} (RefusesIds at paths h.rows) (Err own)) (λ h. TellsBy {T = U} (ByDesk (RefusesIds at paths h.rows)) (Err (of_desk_fault own)))
    (λ h answers. desk_told (RefusesIds at paths h.rows) own (ids_word at paths h.rows) answers)

pub ids_suffice : {T U : Type 0} (k : Keeping) (at : ℤ) (paths : List (List ℕ)) (value : T) (other : U) → WhereTold k (λ h. AnswersBy (RefusesIds at paths h.rows) (Ok value))
    → WhereTold k (λ h. TellsBy (ByDesk (RefusesIds at paths h.rows)) (Ok other))
ids_suffice k at paths value other =
    where_told-map k (λ h. AnswersBy (RefusesIds at paths h.rows) (Ok value)) (λ h. TellsBy (ByDesk (RefusesIds at paths h.rows)) (Ok other))
    (λ h answers. desk_passed (RefusesIds at paths h.rows) value other answers)

-- what is put
pub put_told : (k : Keeping) (at : ℤ) (given : NewFiltered) (decks made planned : List Deck) (plan : Plan) → given_plan given ≡ Some plan → ArePlanned plan made planned
    → WhereTold k (λ h. decks ≡ decks_in h.rows) → WhereTold k (λ h. AreNewDecks at (added_paths decks given.path.now) h.rows made) → WhereTold k (λ h. ArePut at given h.rows planned)
put_told k at given decks made planned plan has are held new =
    where_told-both k (λ h. decks ≡ decks_in h.rows) (λ h. AreNewDecks at (added_paths decks given.path.now) h.rows made) (λ h. ArePut at given h.rows planned)
    (λ h is news. record {
      plan = plan;
      is_plan = has;
      made = made;
      are_added = subst (λ (ds : List Deck). AreNewDecks at (added_paths ds given.path.now) h.rows made) is news;
      are_planned = are;
    }) held new

-- the id of the last deck is that of the plain one
pub last_id : (plan : Plan) (made planned : List Deck) → ArePlanned plan made planned → id_of_last (pos 0) planned ≡ id_of_last (pos 0) made
last_id plan made planned are =
    ap (id_of_last (pos 0)) are.planned_are ∙ last_of are.above (pos 0) are.deck ∙ ap (λ (d : Deck). d.id) are.is_planned.same ∙ sym (last_of are.above (pos 0) are.plain) ∙ ap (id_of_last (pos 0)) (sym are.made_are)
  where
    last_of : (above : List Deck) (id : ℤ) (deck : Deck) → id_of_last id (above ++ deck ∷ []) ≡ deck.id
    last_of [] id deck = refl
    last_of (first ∷ above) id deck = last_of above first.id deck

-- ---- what was given is not refused for the keeper's failing
use_inside : (own : DeskFault) → IsUseFault own → of_desk_fault own ≡ faults.Desk desk.Failed → ⊥
use_inside own is failed = cc (ap of_desk_fault is.1, failed)

given_inside : (fault : FilteredFault) → IsGivenFault fault → fault ≡ faults.Desk desk.Failed → ⊥
given_inside fault (inl memory) is = cc (memory, is)
given_inside fault (inr (inl used)) is = use_inside used.0 used.1 (sym used.2 ∙ is)
given_inside fault (inr (inr (inl plan))) is = cc (plan, is)
given_inside fault (inr (inr (inr search))) is = search_inside search.0 (sym search.1 ∙ is)

pub given_cause : {T : Type 0} (before now : Health) (fault : FilteredFault) → IsGivenFault fault → GoesOn before now → FilteredCause {T = T} before now (Err fault)
given_cause before now fault given goes = record {
  goes = goes;
  failed = λ is.
      let same : fault ≡ faults.Desk desk.Failed = cc is in
      absurd (given_inside fault given same);
  unfailed = λ _ is.
      let same : fault ≡ faults.Desk desk.Failed = cc is in
      given_inside fault given same;
}

use_path : (own : DeskFault) → IsUseFault own → IsPathFault own
use_path own is = subst IsPathFault (sym is.1) refl

pub given_listed : (fault : FilteredFault) → IsGivenFault fault → IsMakingFault fault
given_listed fault (inl memory) = inl (inr memory)
given_listed fault (inr (inl used)) = inr (inl (used.0, use_path used.0 used.1, used.2))
given_listed fault (inr (inr (inl plan))) = inr (inr (inl plan))
given_listed fault (inr (inr (inr search))) = inr (inr (inr search))

-- ---- some deck is made
pub some_made : (made : List Deck) → IsId (id_of_last (pos 0) made) → 0 < length made
some_made [] is = absurd (omega (arith, ints, is.low))
some_made (deck ∷ decks) is = omega arith

-- ---- a path is bad, or ids are missing
path_of_row : (own : DeskFault) → IsRowFault own → IsPathFault own
path_of_row own is = subst IsPathFault (sym is.1) tt

path_of_id : (own : DeskFault) → IsIdFault own → IsPathFault own
path_of_id own (inl (inl failed)) = subst IsPathFault (sym failed) tt
path_of_id own (inl (inr memory)) = subst IsPathFault (sym memory) tt
path_of_id own (inr end) = subst IsPathFault (sym end) tt

pub row_listed : (own : DeskFault) → IsRowFault own → IsMakingFault (of_desk_fault own)
row_listed own is = inr (inl (own, path_of_row own is, refl))

pub id_listed : (own : DeskFault) → IsIdFault own → IsMakingFault (of_desk_fault own)
id_listed own is = inr (inl (own, path_of_id own is, refl))

row_inside : (own : DeskFault) → IsRowFault own → of_desk_fault own ≡ faults.Desk desk.Failed → ⊥
row_inside own is failed = cc (ap of_desk_fault is.1, failed)

pub row_cause : (T : Type 0) (a : Health) (own : DeskFault) → IsRowFault own → FilteredCause {T = T} a a (Err (of_desk_fault own))
row_cause T a own row = record {
  goes = goes_nowhere a;
  failed = λ is.
      let same : of_desk_fault own ≡ faults.Desk desk.Failed = cc is in
      absurd (row_inside own row same);
  unfailed = λ _ is.
      let same : of_desk_fault own ≡ faults.Desk desk.Failed = cc is in
      row_inside own row same;
}

-- a fault of the end
pub end_listed : (own : DeskFault) → IsEndFault own → IsMakingFault (of_desk_fault own)
end_listed own (inl outside) = inl (outside_of own outside)
end_listed own (inr (inl row)) = inr (inl (own, subst IsPathFault (sym row.1) tt, refl))
end_listed own (inr (inr stamp)) = inr (inl (own, subst IsPathFault (sym stamp) tt, refl))

-- what comes from outside
pub made_outside : (k : Keeping) (at : ℤ) (given : NewFiltered) (fault : FilteredFault) → IsOutside fault → WhereHeld k (λ c. TellsToEnd {T = ℤ} (RefusesToMake at given c.rows) (RefusesMaking at given c) (Err fault))
made_outside k at given fault outside =
    held_always k (λ c. TellsToEnd {T = ℤ} (RefusesToMake at given c.rows) (RefusesMaking at given c) (Err fault))
    (λ c. ended_outside (RefusesToMake at given c.rows) (RefusesMaking at given c) fault outside)

pub tests_outside : (U : Type 0) (k : Keeping) (at : ℤ) (given : NewFiltered) (fault : FilteredFault) → IsOutside fault → WhereTold k (λ h. TellsBy {T = U} (RefusesToMake at given h.rows) (Err fault))
tests_outside U k at given fault outside =
    where_always k (λ h. TellsBy {T = U} (RefusesToMake at given h.rows) (Err fault)) (λ h. told_outside (RefusesToMake at given h.rows) fault outside)
