-- The tests of the deck, its plan and its search.
use Rattle.std.specs.Prelude.{◌≡◌, ◌⊎◌, ℕ, ℤ, true, false, List, Option, Some, None, IfSome, Result, Ok, Err, option_and_then}
use Rattle.std.proofs.Common.{refl, sym, ap, subst, ◌∙◌, inl, inr}
use Rattle.std.proofs.lemmas.Option.{none-some, same_Some}
use Rattle.std.specs.FinMap.{get}
use Rattle.ak_base.specs.declared.decks.Deck.{Deck}
use Rattle.ak_base.specs.declared.names.Name.{Name}
use Rattle.ak_base.specs.declared.names.Table.TheVariants as tables
use Rattle.ak_base.specs.declared.rows.Row.{Row}
use Rattle.ak_base.specs.declared.rows.Row.TheVariants as rows
use Rattle.ak_edit.specs.Refusals.{AnswersBy, DeskCause, IsFromOutside}
use Rattle.ak_edit.specs.declared.desk_faults.DeskFault.{DeskFault}
use Rattle.ak_edit.specs.declared.desk_faults.DeskFault.TheVariants as desk
use Rattle.ak_edit_calls.proofs.Telling.{where_held-both, where_held-map, where_rows_held}
use Rattle.ak_edit_calls.specs.Calls.{RefusesAbsent}
use Rattle.ak_faults.specs.Causes.{GoesOn, Health}
use Rattle.ak_filtered.proofs.FilteredTells.{KeepsWord, desk_passed, desk_told, outside_of, told_by, told_first, told_others, told_outside, word_of}
use Rattle.ak_filtered.proofs.Told.{held_pair}
use Rattle.ak_filtered.specs.Builds.{RefusesPlan, RefusesSearch, RefusesToBuild, plan_at}
use Rattle.ak_filtered.specs.Emptyings.{RefusesDeck, RefusesPlain}
use Rattle.ak_filtered.specs.FilteredDecks.{IsDeckFault, IsFilteredAt}
use Rattle.ak_filtered.specs.FilteredFaults.{ByDesk, FilteredCause, FirstOf, TellsBy, Test, of_desk_fault, of_search_fault}
use Rattle.ak_filtered.specs.Plans.{plan_of}
use Rattle.ak_filtered.specs.declared.faults.FilteredFault.{FilteredFault}
use Rattle.ak_filtered.specs.declared.faults.FilteredFault.TheVariants as faults
use Rattle.ak_filtered.specs.declared.plans.Plan.{Plan}
use Rattle.ak_keep.proofs.Told.{where_told-map}
use Rattle.ak_keep.specs.Collections.{Collection, Rows}
use Rattle.ak_keep.specs.Graves.{RowsByName}
use Rattle.ak_keep.specs.Keepers.{Keeping, WhereHeld, WhereTold}
use Rattle.ak_keep.specs.Lookups.{as_deck, deck_at}
use Rattle.ak_merge.proofs.EditFacts.{true_false}
use Rattle.ak_merge.specs.Holdings.{name_in, row_under}
use Rattle.ak_search.proofs.Faulting.{of_text}
use Rattle.ak_search.specs.Grammar.{first_fault}
use Rattle.ak_search.specs.declared.faults.SearchFault.{SearchFault}
use Rattle.ak_search.specs.declared.faults.SearchFault.TheVariants as searches

-- ---- the deck
pub absent_word : (at : RowsByName) (name : Name) → KeepsWord (RefusesAbsent at name)
absent_word at name own is = word_of own (desk.NoSuch name) is.1 refl

pub deck_absent : (U : Type 0) (k : Keeping) (id : ℤ) (own : DeskFault) → WhereTold k (λ h. AnswersBy {T = Row} (RefusesAbsent (get h.rows) (name_in tables.Deck id)) (Err own))
    → WhereHeld k (λ c. TellsBy {T = U} (RefusesDeck id c) (Err (of_desk_fault own)))
deck_absent U k id own told =
    where_held-map k (λ c. AnswersBy {T = Row} (RefusesAbsent (row_under c) (name_in tables.Deck id)) (Err own)) (λ c. TellsBy {T = U} (RefusesDeck id c) (Err (of_desk_fault own)))
    (λ c answers. told_first {T = U} (ByDesk (RefusesAbsent (row_under c) (name_in tables.Deck id))) (RefusesPlain id c.rows) (of_desk_fault own)
    (desk_told (RefusesAbsent (row_under c) (name_in tables.Deck id)) own (absent_word (row_under c) (name_in tables.Deck id)) answers))
    (where_rows_held k (λ rows. AnswersBy {T = Row} (RefusesAbsent (get rows) (name_in tables.Deck id)) (Err own)) told)

-- what is known of a deck that is held
record IsFound (id : ℤ) (row : Row) (held : Rows) : Type 0 where
  is_held : get held (name_in tables.Deck id) ≡ Some row
  passes : AnswersBy {T = Row} (RefusesAbsent (get held) (name_in tables.Deck id)) (Ok row)

found : (k : Keeping) (id : ℤ) (row : Row) → WhereTold k (λ h. get h.rows (name_in tables.Deck id) ≡ Some row)
    → WhereTold k (λ h. AnswersBy {T = Row} (RefusesAbsent (get h.rows) (name_in tables.Deck id)) (Ok row)) → WhereHeld k (λ c. IsFound id row c.rows)
found k id row held passes =
    where_held-both k (λ c. row_under c (name_in tables.Deck id) ≡ Some row) (λ c. AnswersBy {T = Row} (RefusesAbsent (row_under c) (name_in tables.Deck id)) (Ok row)) (λ c. IsFound id row c.rows)
    (λ c one other. record { is_held = one; passes = other })
    (where_rows_held k (λ rows. get rows (name_in tables.Deck id) ≡ Some row) held)
    (where_rows_held k (λ rows. AnswersBy {T = Row} (RefusesAbsent (get rows) (name_in tables.Deck id)) (Ok row)) passes)

deck_is : (held : Rows) (id : ℤ) (deck : Deck) → get held (name_in tables.Deck id) ≡ Some (rows.Deck deck) → deck_at held id ≡ Some deck
deck_is held id deck is = ap (option_and_then as_deck) is

pub deck_plain : (U : Type 0) (k : Keeping) (id : ℤ) (deck : Deck) → deck.filtered ≡ false → WhereTold k (λ h. get h.rows (name_in tables.Deck id) ≡ Some (rows.Deck deck))
    → WhereTold k (λ h. AnswersBy {T = Row} (RefusesAbsent (get h.rows) (name_in tables.Deck id)) (Ok (rows.Deck deck))) → WhereHeld k (λ c. TellsBy {T = U} (RefusesDeck id c) (Err (faults.NotFiltered id)))
deck_plain U k id deck plain held passes =
    where_held-map k (λ c. IsFound id (rows.Deck deck) c.rows) (λ c. TellsBy {T = U} (RefusesDeck id c) (Err (faults.NotFiltered id)))
    (λ c is. told_others {U = U} (ByDesk (RefusesAbsent (row_under c) (name_in tables.Deck id))) (RefusesPlain id c.rows) id (Err (faults.NotFiltered id))
    (desk_passed (RefusesAbsent (row_under c) (name_in tables.Deck id)) (rows.Deck deck) id is.passes)
    (told_by (RefusesPlain id c.rows) (faults.NotFiltered id) (deck, deck_is c.rows id deck is.is_held, plain, refl)))
    (found k id (rows.Deck deck) held passes)

pub deck_filtered : {U : Type 0} (k : Keeping) (id : ℤ) (deck : Deck) (value : U) → deck.filtered ≡ true → WhereTold k (λ h. get h.rows (name_in tables.Deck id) ≡ Some (rows.Deck deck))
    → WhereTold k (λ h. AnswersBy {T = Row} (RefusesAbsent (get h.rows) (name_in tables.Deck id)) (Ok (rows.Deck deck))) → WhereHeld k (λ c. TellsBy (RefusesDeck id c) (Ok value))
deck_filtered k id deck value filtered held passes =
    where_held-map k (λ c. IsFound id (rows.Deck deck) c.rows) (λ c. TellsBy (RefusesDeck id c) (Ok value))
    (λ c is. told_others (ByDesk (RefusesAbsent (row_under c) (name_in tables.Deck id))) (RefusesPlain id c.rows) value (Ok value)
    (desk_passed (RefusesAbsent (row_under c) (name_in tables.Deck id)) (rows.Deck deck) value is.passes)
    (record {
      accepted = λ fault plain.
          let same : deck ≡ plain.0 = same_Some deck plain.0 (sym (deck_is c.rows id deck is.is_held) ∙ plain.1) in
          true_false (sym filtered ∙ ap (λ (d : Deck). d.filtered) same ∙ plain.2);
      refused = tt;
    }))
    (found k id (rows.Deck deck) held passes)

-- it is held
pub filtered_told : (k : Keeping) (id : ℤ) (deck : Deck) → deck.filtered ≡ true → WhereTold k (λ h. get h.rows (name_in tables.Deck id) ≡ Some (rows.Deck deck)) → WhereTold k (IsFilteredAt id deck)
filtered_told k id deck filtered =
    where_told-map k (λ h. get h.rows (name_in tables.Deck id) ≡ Some (rows.Deck deck)) (IsFilteredAt id deck) (λ h is. record { held = deck_is h.rows id deck is; filtered = filtered })

-- a deck that is not held is told as a fault of it
pub absent_listed : (id : ℤ) (own : DeskFault) → IsFromOutside own ⊎ (own ≡ desk.NoSuch (name_in tables.Deck id)) → IsDeckFault id (of_desk_fault own)
absent_listed id own (inl outside) = inl (outside_of own outside)
absent_listed id own (inr absent) = inr (inl (ap of_desk_fault absent))

-- ---- causes
fault_failed : (own : DeskFault) → of_desk_fault own ≡ faults.Desk desk.Failed → own ≡ desk.Failed
fault_failed (desk.NoSuch name) is = absurd (cc)
fault_failed (desk.FieldCount want got) is = absurd (cc)
fault_failed (desk.DefaultKept name) is = absurd (cc)
fault_failed desk.StampEnd is = absurd (cc)
fault_failed desk.IdEnd is = absurd (cc)
fault_failed (desk.Row row) is = absurd (cc)
fault_failed (desk.Template template) is = absurd (cc)
fault_failed (desk.NotAnswerable queue) is = absurd (cc)
fault_failed desk.NothingToUndo is = absurd (cc)
fault_failed desk.SchemaAsk is = absurd (cc)
fault_failed (desk.InUse name) is = absurd (cc)
fault_failed desk.Failed is = refl
fault_failed (desk.BadMap place) is = absurd (cc)
fault_failed (desk.Page page) is = absurd (cc)
fault_failed desk.Memory is = absurd (cc)

-- a cause in the desk's word is one in this word
pub desk_cause : (T U : Type 0) (a b : Health) (own : DeskFault) → DeskCause {T = T} a b (Err own) → FilteredCause {T = U} a b (Err (of_desk_fault own))
desk_cause T U a b own cause = record {
  goes = cause.goes;
  failed = λ is.
      let same : of_desk_fault own ≡ faults.Desk desk.Failed = cc is in
      cause.failed (ap Err (fault_failed own same));
  unfailed = λ calm is.
      let same : of_desk_fault own ≡ faults.Desk desk.Failed = cc is in
      cause.unfailed calm (ap Err (fault_failed own same));
}

-- a search is not refused for the keeper's failing
pub search_inside : (own : SearchFault) → of_search_fault own ≡ faults.Desk desk.Failed → ⊥
search_inside (searches.OpenQuote place) is = cc is
search_inside (searches.OpenGroup place) is = cc is
search_inside (searches.EmptyGroup place) is = cc is
search_inside (searches.LoneOr place) is = cc is
search_inside (searches.BadValue place) is = cc is
search_inside (searches.TooDeep place) is = cc is
search_inside searches.Memory is = cc is

pub search_cause : (T : Type 0) (a b : Health) (own : SearchFault) → GoesOn a b → FilteredCause {T = T} a b (Err (of_search_fault own))
search_cause T a b own goes = record {
  goes = goes;
  failed = λ is.
      let same : of_search_fault own ≡ faults.Desk desk.Failed = cc is in
      absurd (search_inside own same);
  unfailed = λ _ is.
      let same : of_search_fault own ≡ faults.Desk desk.Failed = cc is in
      search_inside own same;
}

-- ---- the plan
-- the deck passed its tests
record IsDeckHeld (id : ℤ) (deck : Deck) (c : Collection) : Type 0 where
  is_held : deck_at c.rows id ≡ Some deck
  passes : TellsBy {T = Deck} (RefusesDeck id c) (Ok deck)

abbrev IsFilteredIn : ℤ → Deck → Rows → Type 0
IsFilteredIn id deck held = (deck_at held id ≡ Some deck) × (deck.filtered ≡ true)

deck_held : (k : Keeping) (id : ℤ) (deck : Deck) → WhereTold k (IsFilteredAt id deck) → WhereHeld k (λ c. TellsBy {T = Deck} (RefusesDeck id c) (Ok deck)) → WhereHeld k (IsDeckHeld id deck)
deck_held k id deck held passes =
    where_held-both k (λ c. IsFilteredIn id deck c.rows) (λ c. TellsBy {T = Deck} (RefusesDeck id c) (Ok deck)) (IsDeckHeld id deck) (λ c one other. record { is_held = one.0; passes = other })
    (where_rows_held k (IsFilteredIn id deck) (where_told-map k (IsFilteredAt id deck) (λ h. IsFilteredIn id deck h.rows) (λ h is. (is.held, is.filtered)) held)) passes

plan_is : (c : Collection) (id : ℤ) (deck : Deck) → deck_at c.rows id ≡ Some deck → plan_at c.rows id ≡ plan_of deck.rest.text
plan_is c id deck is = ap (option_and_then (λ (d : Deck). plan_of d.rest.text)) is

-- the deck has no plan
pub plan_bad : (U : Type 0) (k : Keeping) (id : ℤ) (deck : Deck) → plan_of deck.rest.text ≡ None → WhereTold k (IsFilteredAt id deck)
    → WhereHeld k (λ c. TellsBy {T = Deck} (RefusesDeck id c) (Ok deck)) → WhereHeld k (λ c. TellsBy {T = U} (RefusesToBuild id c) (Err (faults.BadPlan id)))
plan_bad U k id deck none held passes =
    where_held-map k (IsDeckHeld id deck) (λ c. TellsBy {T = U} (RefusesToBuild id c) (Err (faults.BadPlan id)))
    (λ c is. told_others {U = U} (RefusesDeck id c) (FirstOf (RefusesPlan id c.rows) (RefusesSearch id c.rows)) deck (Err (faults.BadPlan id)) is.passes
    (told_first {T = U} (RefusesPlan id c.rows) (RefusesSearch id c.rows) (faults.BadPlan id) (told_by (RefusesPlan id c.rows) (faults.BadPlan id) (deck, is.is_held, none, refl))))
    (deck_held k id deck held passes)

-- it has one
plan_passes : {U : Type 0} (c : Collection) (id : ℤ) (deck : Deck) (plan : Plan) (value : U) → deck_at c.rows id ≡ Some deck → plan_of deck.rest.text ≡ Some plan → TellsBy (RefusesPlan id c.rows) (Ok value)
plan_passes c id deck plan value is has = record {
  accepted = λ fault bad.
      let same : deck ≡ bad.0 = same_Some deck bad.0 (sym is ∙ bad.1) in
      none-some plan (sym bad.2 ∙ ap (λ (d : Deck). plan_of d.rest.text) (sym same) ∙ has);
  refused = tt;
}

-- ---- the search
-- a fault of a text is never that memory ran out
search_word : (text : List ℕ) (own : SearchFault) → first_fault text ≡ Some own → of_search_fault own ≡ faults.Search own
search_word text (searches.OpenQuote place) is = refl
search_word text (searches.OpenGroup place) is = refl
search_word text (searches.EmptyGroup place) is = refl
search_word text (searches.LoneOr place) is = refl
search_word text (searches.BadValue place) is = refl
search_word text (searches.TooDeep place) is = refl
search_word text searches.Memory is = absurd (subst (λ (o : Option SearchFault). IfSome o (λ fault. fault ≡ searches.Memory → ⊥)) is (of_text text) refl)

-- what a search that can't be read is called
pub bad_search : (text : List ℕ) (own : SearchFault) → (own ≡ searches.Memory) ⊎ (first_fault text ≡ Some own)
    → (of_search_fault own ≡ faults.Memory) ⊎ ((first_fault text ≡ Some own) × (of_search_fault own ≡ faults.Search own))
bad_search text own (inl memory) = inl (ap of_search_fault memory)
bad_search text own (inr is) = inr (is, search_word text own is)

pub search_bad : (U : Type 0) (k : Keeping) (id : ℤ) (deck : Deck) (plan : Plan) (own : SearchFault) → plan_of deck.rest.text ≡ Some plan → (own ≡ searches.Memory) ⊎ (first_fault plan.search ≡ Some own)
    → WhereTold k (IsFilteredAt id deck) → WhereHeld k (λ c. TellsBy {T = Deck} (RefusesDeck id c) (Ok deck)) → WhereHeld k (λ c. TellsBy {T = U} (RefusesToBuild id c) (Err (of_search_fault own)))
search_bad U k id deck plan own has bad held passes =
    where_held-map k (IsDeckHeld id deck) (λ c. TellsBy {T = U} (RefusesToBuild id c) (Err (of_search_fault own)))
    (λ c is. elim (bad_search plan.search own bad) [
      | inl memory ↦ told_outside (RefusesToBuild id c) (of_search_fault own) (inr memory)
      | inr fault ↦
          told_others {U = U} (RefusesDeck id c) (FirstOf (RefusesPlan id c.rows) (RefusesSearch id c.rows)) deck (Err (of_search_fault own)) is.passes
          (told_others {U = U} (RefusesPlan id c.rows) (RefusesSearch id c.rows) deck (Err (of_search_fault own)) (plan_passes c id deck plan deck is.is_held has)
          (told_by (RefusesSearch id c.rows) (of_search_fault own) (plan, plan_is c id deck is.is_held ∙ has, own, fault.0, fault.1)))
    ])
    (deck_held k id deck held passes)

pub plan_good : {U : Type 0} (k : Keeping) (id : ℤ) (deck : Deck) (plan : Plan) (value : U) → plan_of deck.rest.text ≡ Some plan → first_fault plan.search ≡ None
    → WhereTold k (IsFilteredAt id deck) → WhereHeld k (λ c. TellsBy {T = Deck} (RefusesDeck id c) (Ok deck)) → WhereHeld k (λ c. TellsBy (RefusesToBuild id c) (Ok value))
plan_good k id deck plan value has none held passes =
    where_held-map k (IsDeckHeld id deck) (λ c. TellsBy (RefusesToBuild id c) (Ok value))
    (λ c is. told_others (RefusesDeck id c) (FirstOf (RefusesPlan id c.rows) (RefusesSearch id c.rows)) deck (Ok value) is.passes
    (told_others (RefusesPlan id c.rows) (RefusesSearch id c.rows) deck (Ok value) (plan_passes c id deck plan deck is.is_held has)
    (record {
      accepted = λ fault refuses.
          let same : plan ≡ refuses.0 = same_Some plan refuses.0 (sym (plan_is c id deck is.is_held ∙ has) ∙ refuses.1) in
          none-some refuses.2 (sym none ∙ ap (λ (p : Plan). first_fault p.search) same ∙ refuses.3);
      refused = tt;
    })))
    (deck_held k id deck held passes)
