-- A deck that is built: what it leaves, and why it is refused.
use Rattle.std.specs.Prelude.{◌≡◌, ◌≤◌, ◌≤ℤ◌, ◌<ℤ◌, ◌+ℤ◌, ℕ, ℤ, pos, negsuc, true, false, if◌then◌else◌, List, [], ◌∷◌, ◌++◌, length, map, min, take, option_and_then, Option, Some, None, IfSome, Result, Ok, Err}
use Rattle.std.proofs.Common.{refl, sym, ap, subst, ◌∙◌, arith}
use Rattle.std.proofs.lemmas.Option.{none-some, same_Some}
use Rattle.std.proofs.lemmas.List.{length-take}
use Rattle.std.proofs.lemmas.Int.{ints}
use Rattle.std.specs.Option.{option_map}
use Rattle.std.specs.Ordering.{int_eq}
use Rattle.ak_base.specs.Columns.{id_fault}
use Rattle.ak_base.specs.Days.{IsDayOf}
use Rattle.ak_base.specs.Decks.{taken_faults, title_faults}
use Rattle.ak_base.specs.declared.days.Day.{Day}
use Rattle.ak_base.specs.declared.decks.Deck.{Deck}
use Rattle.ak_base.specs.declared.heads.Head.{Head}
use Rattle.ak_base.specs.declared.names.Name.{Name}
use Rattle.ak_base.specs.declared.names.Table.TheVariants as tables
use Rattle.ak_base.specs.declared.rows.Row.{Row}
use Rattle.ak_base.specs.declared.rows.Row.TheVariants as rows
use Rattle.ak_edit.specs.Ends.{AnswersEnd, IsHeldRightly, RefusesEnd, RefusesRow, RefusesStamp}
use Rattle.ak_edit.specs.Overlays.{Overlay, edit_of, unchanged}
use Rattle.ak_edit.specs.Refusals.{AnswersBy}
use Rattle.ak_edit.specs.declared.desk_faults.DeskFault.{DeskFault}
use Rattle.ak_edit_calls.proofs.Answering.{never_first}
use Rattle.ak_edit_calls.proofs.Telling.{where_held-both, where_held-map, where_rows_held}
use Rattle.ak_filtered.proofs.FilteredTells.{ended_first, ended_last, ended_well, stamp_word}
use Rattle.ak_filtered.proofs.GoneHome.{IsMoveIn}
use Rattle.ak_filtered.proofs.PlanTexts.{limit_high, plan_range}
use Rattle.ak_filtered.proofs.RefilledRows.{refill_edit, refilled_rows_pass}
use Rattle.ak_filtered.proofs.Told.{held_pair}
use Rattle.ak_filtered.specs.Building.{IsDayRead, IsFilled, IsReadPlan}
use Rattle.ak_filtered.specs.Builds.{AreChosen, IsBuilt, RefusesBuilding, RefusesToBuild, building, cards_emptied, due_from, due_in, plan_at}
use Rattle.ak_filtered.specs.Candidates.{CardKey, candidates}
use Rattle.ak_filtered.specs.ClearedEdits.{ClearedBy, IsCleared}
use Rattle.ak_filtered.specs.FilteredFaults.{TellsBy, TellsToEnd, of_desk_fault}
use Rattle.ak_filtered.specs.HomeDecks.{filtered_at}
use Rattle.ak_filtered.specs.Plans.{IsPlan, is_limit, plan_of}
use Rattle.ak_filtered.specs.declared.builds.Filled.{Filled}
use Rattle.ak_filtered.specs.declared.builds.ReadPlan.{ReadPlan}
use Rattle.ak_filtered.specs.declared.faults.FilteredFault.{FilteredFault}
use Rattle.ak_filtered.specs.declared.plans.Plan.{Plan}
use Rattle.ak_keep.proofs.Told.{where_told-map}
use Rattle.ak_keep.specs.Collections.{Collection, Holding, collection_of}
use Rattle.ak_keep.specs.Keepers.{Keeping, WhereHeld, WhereTold}
use Rattle.ak_keep.specs.Lookups.{as_deck, deck_at}
use Rattle.ak_merge.proofs.CheckedRows.{faultless_of}
use Rattle.ak_merge.specs.Edits.{Edit}
use Rattle.ak_merge.specs.Holdings.{name_in, row_under}
use Rattle.ak_undo.specs.declared.steps.Step.{Step}

-- ---- the day
day_in : (at : ℤ) (day : Day) (h : Holding) → IsDayRead at h day → IfSome (collection_of h) (λ c. IsDayOf c.head.crt at day)
day_in at day h read =
    elim h.head as (λ (x : Option Head). h.head ≡ x → IfSome (option_map (λ (head : Head). let c : Collection = record { rows = h.rows; head = head } in c) x) (λ c. IsDayOf c.head.crt at day)) [
      | None ↦ λ _. tt
      | Some head ↦ λ is. subst (λ (x : Head). IsDayOf x.crt at day) (same_Some read.head head (sym read.is_head ∙ is)) read.is_day
    ] refl

pub day_held : (k : Keeping) (at : ℤ) (day : Day) → WhereTold k (λ h. IsDayRead at h day) → WhereHeld k (λ c. IsDayOf c.head.crt at day)
day_held k at day = where_told-map k (λ h. IsDayRead at h day) (λ h. IfSome (collection_of h) (λ c. IsDayOf c.head.crt at day)) (λ h read. day_in at day h read)

-- ---- what is known before the end
pub record IsReady (at : ℤ) (deck : ℤ) (planned : ReadPlan) (filled : Filled) (c : Collection) : Type 0 where
  pub rightly : IsHeldRightly c
  pub plan : IsReadPlan deck planned c.rows
  pub day : IsDayOf c.head.crt at filled.day
  pub filled_is : IsFilled deck planned c.rows filled

pub ready : (k : Keeping) (at deck : ℤ) (planned : ReadPlan) (filled : Filled) → WhereHeld k IsHeldRightly → WhereTold k (λ h. IsReadPlan deck planned h.rows)
    → WhereTold k (λ h. IsDayRead at h filled.day × IsFilled deck planned h.rows filled) → WhereHeld k (IsReady at deck planned filled)
ready k at deck planned filled rightly plan both =
    where_held-both k (λ c. IsHeldRightly c × IsReadPlan deck planned c.rows) (λ c. IsDayOf c.head.crt at filled.day × IsFilled deck planned c.rows filled) (IsReady at deck planned filled)
    (λ c one other. record { rightly = one.0; plan = one.1; day = other.0; filled_is = other.1 })
    (held_pair k IsHeldRightly (λ c. IsReadPlan deck planned c.rows) rightly (where_rows_held k (λ rows. IsReadPlan deck planned rows) plan))
    (held_pair k (λ c. IsDayOf c.head.crt at filled.day) (λ c. IsFilled deck planned c.rows filled)
    (day_held k at filled.day (where_told-map k (λ h. IsDayRead at h filled.day × IsFilled deck planned h.rows filled) (λ h. IsDayRead at h filled.day) (λ h pair. pair.0) both))
    (where_rows_held k (λ rows. IsFilled deck planned rows filled)
    (where_told-map k (λ h. IsDayRead at h filled.day × IsFilled deck planned h.rows filled) (λ h. IsFilled deck planned h.rows filled) (λ h pair. pair.1) both)))

chosen_are : (at deck : ℤ) (planned : ReadPlan) (filled : Filled) (c : Collection) → IsReady at deck planned filled c → AreChosen at deck c filled.chosen
chosen_are at deck planned filled c is = record {
  plan = planned.plan;
  is_plan = is.plan.plan;
  day = filled.day;
  is_day = is.day;
  tree = is.plan.tree;
  reads = is.plan.reads;
  are = is.filled_is.are is.plan.tree is.plan.pieces;
}

edit_is : (at deck : ℤ) (planned : ReadPlan) (filled : Filled) (c : Collection) → IsReady at deck planned filled c → edit_of filled.change c ≡ building deck filled.chosen c
edit_is at deck planned filled c is =
    ap (λ (o : Overlay). edit_of o c) is.filled_is.change
    ∙ refill_edit deck (filtered_at c.rows) (due_in filled.chosen) c is.rightly.named is.rightly.checked

-- ---- no row that it makes breaks its check
due_within : (due : ℤ) (ids : List ℤ) (id found : ℤ) → due_from due ids id ≡ Some found → (due ≤ℤ found) × (found <ℤ (due +ℤ pos (length ids)))
due_within due [] id found is = absurd (none-some found is)
due_within due (first ∷ others) id found is =
    elim (int_eq first id) as (λ b. (if b then Some due else due_from (due +ℤ pos 1) others id) ≡ Some found → (due ≤ℤ found) × (found <ℤ (due +ℤ pos (length (first ∷ others))))) [
      | true ↦ λ is. let same : due ≡ found = same_Some due found is in (omega (arith, ints, same), omega (arith, ints, same))
      | false ↦ λ is. let more = due_within (due +ℤ pos 1) others id found is in (omega (arith, ints, more.0, more.1), omega (arith, ints, more.0, more.1))
    ] is

-- at most as many cards as a plan takes
pub few_chosen : (at deck : ℤ) (c : Collection) (chosen : List ℤ) → AreChosen at deck c chosen → length chosen ≤ 99_999
few_chosen at deck c chosen are =
    let ids : List ℤ = map (λ (key : CardKey). key.2) (candidates c.rows are.day are.tree are.plan.order (cards_emptied deck c.rows)) in
    let most : length (take are.plan.limit ids) ≡ min are.plan.limit (length ids) = length-take are.plan.limit ids in
    let limit : is_limit are.plan.limit ≡ true = plan_limit c deck are.plan are.is_plan in
    let high : are.plan.limit ≤ 99_999 = limit_high are.plan.limit limit in
    subst (λ (xs : List ℤ). length xs ≤ 99_999) (sym are.are) (omega (arith, most, high))
  where
    held_limit : (o : Option Deck) (plan : Plan) → option_and_then (λ (d : Deck). plan_of d.rest.text) o ≡ Some plan → is_limit plan.limit ≡ true
    held_limit None plan is = absurd (none-some plan is)
    held_limit (Some d) plan is = subst (λ (o : Option Plan). IfSome o IsPlan) is (plan_range d.rest.text)

    plan_limit : (c : Collection) (deck : ℤ) (plan : Plan) → plan_at c.rows deck ≡ Some plan → is_limit plan.limit ≡ true
    plan_limit c deck plan is = held_limit (deck_at c.rows deck) plan is

deck_of : (c : Collection) (deck : ℤ) (plan : Plan) (x : Option Row) → row_under c (name_in tables.Deck deck) ≡ x → IsHeldRightly c
    → option_and_then (λ (d : Deck). plan_of d.rest.text) (option_and_then as_deck x) ≡ Some plan → id_fault deck ≡ None
unfolding title_faults taken_faults
deck_of c deck plan None held rightly is = absurd (none-some plan is)
deck_of c deck plan (Some (rows.Deck d)) held rightly is =
    let bears : d.id ≡ deck = ap (λ (n : Name). n.id) (rightly.named (name_in tables.Deck deck) (rows.Deck d) held) in
    subst (λ (id : ℤ). id_fault id ≡ None) bears (faultless_of (title_faults d ++ taken_faults d) (rightly.checked (name_in tables.Deck deck) (rows.Deck d) held)).0
deck_of c deck plan (Some (rows.Card card)) held rightly is = absurd (none-some plan is)
deck_of c deck plan (Some (rows.Note note)) held rightly is = absurd (none-some plan is)
deck_of c deck plan (Some (rows.Review review)) held rightly is = absurd (none-some plan is)
deck_of c deck plan (Some (rows.NoteType note_type)) held rightly is = absurd (none-some plan is)
deck_of c deck plan (Some (rows.Options options)) held rightly is = absurd (none-some plan is)
deck_of c deck plan (Some (rows.Grave grave)) held rightly is = absurd (none-some plan is)

moves_in : (at deck : ℤ) (c : Collection) (chosen : List ℤ) (id due : ℤ) → IsHeldRightly c → AreChosen at deck c chosen → due_in chosen id ≡ Some due → IsMoveIn deck due
moves_in at deck c chosen id due rightly are is =
    let within = due_within (negsuc 99_999) chosen id due is in
    let few : length chosen ≤ 99_999 = few_chosen at deck c chosen are in
    record {
      deck_is = deck_of c deck are.plan (row_under c (name_in tables.Deck deck)) refl rightly are.is_plan;
      due_is = record { low = within.0; high = omega (arith, ints, within.1, few) };
    }

-- the answer at its end is one of stamps alone
stamps_answer : (at deck : ℤ) (planned : ReadPlan) (filled : Filled) (c : Collection) (result : Result (Unit {0}) DeskFault) → IsReady at deck planned filled c
    → AnswersBy (RefusesEnd at c (edit_of filled.change c)) result → AnswersBy (RefusesStamp at c (building deck filled.chosen c)) result
stamps_answer at deck planned filled c result is answers =
    never_first (RefusesRow c (building deck filled.chosen c)) (RefusesStamp at c (building deck filled.chosen c)) result
    (refilled_rows_pass deck (filtered_at c.rows) (due_in filled.chosen) c is.rightly (λ id due found. moves_in at deck c filled.chosen id due is.rightly (chosen_are at deck planned filled c is) found))
    (subst (λ (e : Edit). AnswersBy (RefusesEnd at c e) result) (edit_is at deck planned filled c is) answers)

-- ---- what it leaves
pub built_done : (k now : Keeping) (at deck : ℤ) (planned : ReadPlan) (filled : Filled) (left : List Step) (count : ℕ) (value : Unit {0}) → count ≡ length filled.chosen
    → WhereHeld k (IsReady at deck planned filled) → ClearedBy at filled.change k now left → AnswersEnd at filled.change k (Ok value) → WhereHeld k (λ c. IsBuilt at deck c k now left count)
built_done k now at deck planned filled left count value counts is cleared answers =
    where_held-both k (IsReady at deck planned filled)
    (λ c. IsCleared at c (edit_of filled.change c) k now left × AnswersBy {T = Unit {0}} (RefusesEnd at c (edit_of filled.change c)) (Ok value)) (λ c. IsBuilt at deck c k now left count)
    (λ c one both.
    let same : edit_of filled.change c ≡ building deck filled.chosen c = edit_is at deck planned filled c one in
    record {
      chosen = filled.chosen;
      are = chosen_are at deck planned filled c one;
      count_is = counts;
      passes = (stamps_answer at deck planned filled c (Ok value) one both.1).accepted;
      cleared = subst (λ (e : Edit). IsCleared at c e k now left) same both.0;
    }) is
    (held_pair k (λ c. IsCleared at c (edit_of filled.change c) k now left) (λ c. AnswersBy {T = Unit {0}} (RefusesEnd at c (edit_of filled.change c)) (Ok value)) cleared answers)

-- ---- why it is refused
pub built_tells : (k : Keeping) (at deck : ℤ) (planned : ReadPlan) (count : ℕ) → WhereHeld k (λ c. TellsBy {T = ReadPlan} (RefusesToBuild deck c) (Ok planned))
    → WhereHeld k (λ c. TellsToEnd {T = ℕ} (RefusesToBuild deck c) (RefusesBuilding at deck c) (Ok count))
built_tells k at deck planned count =
    where_held-map k (λ c. TellsBy {T = ReadPlan} (RefusesToBuild deck c) (Ok planned)) (λ c. TellsToEnd {T = ℕ} (RefusesToBuild deck c) (RefusesBuilding at deck c) (Ok count))
    (λ c tells. ended_well (RefusesToBuild deck c) (RefusesBuilding at deck c) planned count tells)

pub built_first : (k : Keeping) (at deck : ℤ) (fault : FilteredFault) → WhereHeld k (λ c. TellsBy {T = ReadPlan} (RefusesToBuild deck c) (Err fault))
    → WhereHeld k (λ c. TellsToEnd {T = ℕ} (RefusesToBuild deck c) (RefusesBuilding at deck c) (Err fault))
built_first k at deck fault =
    where_held-map k (λ c. TellsBy {T = ReadPlan} (RefusesToBuild deck c) (Err fault)) (λ c. TellsToEnd {T = ℕ} (RefusesToBuild deck c) (RefusesBuilding at deck c) (Err fault))
    (λ c tells. ended_first (RefusesToBuild deck c) (RefusesBuilding at deck c) fault tells)

pub built_refused : (k : Keeping) (at deck : ℤ) (planned : ReadPlan) (filled : Filled) (own : DeskFault) → WhereHeld k (IsReady at deck planned filled)
    → WhereHeld k (λ c. TellsBy {T = ReadPlan} (RefusesToBuild deck c) (Ok planned)) → AnswersEnd {T = Unit {0}} at filled.change k (Err own)
    → WhereHeld k (λ c. TellsToEnd {T = ℕ} (RefusesToBuild deck c) (RefusesBuilding at deck c) (Err (of_desk_fault own)))
built_refused k at deck planned filled own is tells answers =
    where_held-both k (λ c. IsReady at deck planned filled c × TellsBy {T = ReadPlan} (RefusesToBuild deck c) (Ok planned))
    (λ c. AnswersBy {T = Unit {0}} (RefusesEnd at c (edit_of filled.change c)) (Err own))
    (λ c. TellsToEnd {T = ℕ} (RefusesToBuild deck c) (RefusesBuilding at deck c) (Err (of_desk_fault own)))
    (λ c both answer.
    ended_last (RefusesToBuild deck c) (RefusesBuilding at deck c) own planned (RefusesStamp at c (building deck filled.chosen c)) both.1
    (stamps_answer at deck planned filled c (Err own) both.0 answer)
    (λ refuses. (filled.chosen, chosen_are at deck planned filled c both.0, (own, refuses, stamp_word at c (building deck filled.chosen c) own refuses))))
    (held_pair k (IsReady at deck planned filled) (λ c. TellsBy {T = ReadPlan} (RefusesToBuild deck c) (Ok planned)) is tells) answers
