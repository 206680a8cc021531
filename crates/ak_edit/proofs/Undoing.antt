-- What the writes of an undo leave is what an undo of the step leaves, and the tests that they meet.
use Rattle.std.proofs.Common.{◌≡◌, inl, inr, ℕ, suc, ◌+◌, ◌<◌, ℤ, pos, Bool, true, false, not, ◌&&◌, ◌||◌, int_lt, length, drop, drop-cons, add-one, get_or, List, [], ◌∷◌, ◌++◌, map, IfSome, Option, Some, None, Result, Ok, Err, slice_get, if◌then◌else◌, refl, sym, ap, subst, ◌∙◌, arith}
use Rattle.std.proofs.lemmas.Int.{ints}
use Rattle.std.proofs.lemmas.List.Elements.{recursion_from_All}
use Rattle.std.proofs.lemmas.Map.Keys.{IsDistinct-head, IsDistinct-tail}
use Rattle.std.proofs.lemmas.Option.{same_Some}
use Rattle.std.specs.Cmp.{eq_by_cmp_equiv}
use Rattle.std.specs.FinMap.{get}
use Rattle.std.specs.List.{AllByRecursion, IsDistinct}
use Rattle.std.specs.Option.{option_map}
use Rattle.std.specs.Ordering.{eq_by_cmp}
use Rattle.std.specs.Result.{IsErrAnd}
use Rattle.ak_base.specs.Heads.{IsHeadInRange, IsMoment, IsWithin}
use Rattle.ak_base.specs.Limits.{last_stamp}
use Rattle.ak_base.specs.Names.{name_cmp, names_total}
use Rattle.ak_base.specs.Rows.{IsChecked, name_of, with_stamp}
use Rattle.ak_base.specs.declared.errors.RowFault.{RowFault}
use Rattle.ak_base.specs.declared.heads.Head.{Head}
use Rattle.ak_base.specs.declared.names.Name.{Name}
use Rattle.ak_base.specs.declared.rows.Row.{Row}
use Rattle.ak_base.specs.declared.rows.Row.TheVariants as rows
use Rattle.ak_keep.proofs.RowsByName.{same_of_tied}
use Rattle.ak_keep.specs.Collections.{Holding, Rows, is_headed}
use Rattle.ak_keep.specs.Keepers.{IsRightlyKnown, Keeping, WhereTold, committed, head_set, is_marked, marked_here}
use Rattle.ak_keep.specs.Marks as marks
use Rattle.ak_keep.specs.Marks.{WithMark}
use Rattle.ak_merge.proofs.EditFacts.{edited_name, held_none, none_held, true_false}
use Rattle.ak_merge.specs.Edits.{advanced, edited, second_of}
use Rattle.ak_keep.specs.Graves.{RowsByName}
use Rattle.ak_merge.specs.Undoing.{IsUndone, undone_row, undone_stamp}
use Rattle.ak_undo.specs.Steps.{IsBeforeInRange, IsStepInRange}
use Rattle.ak_undo.specs.declared.steps.Before.{Before}
use Rattle.ak_undo.specs.declared.steps.Step.{Step}
use Rattle.ak_edit.proofs.Finishing.{head_is, headed_at, held_rightly, told_at, where_held}
use Rattle.ak_edit.proofs.Planning.{where_both}
use Rattle.ak_edit.proofs.Stepping.{stamp_outside, stamp_within}
use Rattle.ak_edit.proofs.Writing.{is_written, stamped}
use Rattle.ak_edit.proofs.Written.{Leaves, all_leave, carried_out, collection_left, rows_written}
use Rattle.ak_edit.specs.Carrying.{HasEnded, MadeRefusal}
use Rattle.ak_edit.specs.Ends.{IsHeldRightly}
use Rattle.ak_edit.specs.MadeRows.{check_of_rows, check_of_write, first_of, have_stamps_left, is_stamp_left}
use Rattle.ak_edit.specs.Refusals.{AnswersBy, IsFromOutside}
use Rattle.ak_edit.specs.Steps.{before_at, reversal_in}
use Rattle.ak_edit.specs.Stores.{all_written}
use Rattle.ak_edit.specs.UndoPlans.{IsUndoPlan, undo_head, undo_stamp, undo_write, undo_writes}
use Rattle.ak_edit.specs.Undos.{AnswersUndo, IsLatestUndone, IsUndoAtLastStamp, RefusesUndo, UndoneBy}
use Rattle.ak_edit.specs.declared.desk_faults.DeskFault.{DeskFault}
use Rattle.ak_edit.specs.declared.desk_faults.DeskFault.TheVariants as faults
use Rattle.ak_edit.specs.declared.ends.Plan.{Plan}
use Rattle.ak_edit.specs.declared.plans.Moment.{Moment}
use Rattle.ak_edit.specs.declared.plans.Write.{Write}

-- ---- the entries of a step
abbrev names_before : List Before → List Name
names_before = map (λ (before : Before). before.name)

there_behind : (b : Before) (all others : List Before) → AllByRecursion (λ (y : Name). eq_by_cmp name_cmp b.name y ≡ false) (names_before others)
    → AllByRecursion (λ (o : Before). before_at all o.name ≡ Some o.row) others → AllByRecursion (λ (o : Before). before_at (b ∷ all) o.name ≡ Some o.row) others
there_behind b all [] apart there = tt
there_behind b all (o ∷ others) apart there = (
  ap (λ (t : Bool). if t then Some b.row else before_at all o.name) ((eq_by_cmp_equiv names_total).symm o.name b.name ∙ apart.0) ∙ there.0,
  there_behind b all others apart.1 there.1,
)

-- each entry is what the step has under its name, since no name comes twice
all_there : (befores : List Before) → IsDistinct (eq_by_cmp name_cmp) (names_before befores) → AllByRecursion (λ (o : Before). before_at befores o.name ≡ Some o.row) befores
all_there [] distinct = tt
all_there (b ∷ befores) distinct = (
  ap (λ (t : Bool). if t then Some b.row else before_at befores b.name) ((eq_by_cmp_equiv names_total).refl b.name),
  there_behind b befores befores (IsDistinct-head (eq_by_cmp name_cmp) b.name (names_before befores) distinct)
      (all_there befores (IsDistinct-tail (eq_by_cmp name_cmp) b.name (names_before befores) distinct)),
)

-- ---- one write

row_put_back : (second : ℤ) (before present : Option Row) → option_map (λ (row : Row). with_stamp row (undo_stamp second before present)) (option_map (edited (pos 0)) before) ≡ undone_row second (Some before) present
row_put_back second None present = refl
row_put_back second (Some row) present = ap (λ (r : Row). Some r) (stamped (undone_stamp second row present) row)

named_back : (name : Name) (before : Option Row) → IfSome before (λ row. (name_of row ≡ name) × IsChecked row) → IfSome (option_map (edited (pos 0)) before) (λ row. name_of row ≡ name)
named_back name None range = tt
named_back name (Some row) range = edited_name (pos 0) row ∙ range.0

-- ---- all writes
all_put_back : (second : ℤ) (at : RowsByName) (f : Name → Option (Option Row)) (befores : List Before) → AllByRecursion IsBeforeInRange befores → AllByRecursion (λ (o : Before). f o.name ≡ Some o.row) befores
    → AllByRecursion (Leaves (λ (q : Name). undone_row second (f q) (at q))) (undo_writes second at befores)
all_put_back second at f [] range there = tt
all_put_back second at f (b ∷ befores) range there = (
  record {
    row = row_put_back second b.row (at b.name) ∙ ap (λ (o : Option (Option Row)). undone_row second o (at b.name)) (sym there.0);
    named = named_back b.name b.row range.0;
  },
  all_put_back second at f befores range.1 there.1,
)

left_alone : (second : ℤ) (at : RowsByName) (q : Name) (befores : List Before) → is_written q (undo_writes second at befores) ≡ false → before_at befores q ≡ None
left_alone second at q [] away = refl
left_alone second at q (b ∷ befores) away =
    elim (eq_by_cmp name_cmp q b.name) as (λ t. t || is_written q (undo_writes second at befores) ≡ false → (if t then Some b.row else before_at befores q) ≡ None) [
      | true ↦ λ is. true_false is
      | false ↦ λ is. left_alone second at q befores is
    ] away

undone_rows : (second : ℤ) (step : Step) (rows : Rows) (q : Name) → IsStepInRange step → get (rows_written (undo_writes second (get rows) step.rows) rows) q ≡ undone_row second (before_at step.rows q) (get rows q)
undone_rows second step rows q range =
    all_leave (λ (n : Name). undone_row second (before_at step.rows n) (get rows n)) (undo_writes second (get rows) step.rows) rows q
    (all_put_back second (get rows) (before_at step.rows) step.rows (recursion_from_All IsBeforeInRange step.rows range.rows) (all_there step.rows range.distinct))
    (λ away. sym (ap (λ (o : Option (Option Row)). undone_row second o (get rows q)) (left_alone second (get rows) q step.rows away)))

-- ---- stamps that end
-- a row of the step whose stamp is out of its range
pub record StampEnds (second : ℤ) (at : RowsByName) (f : Name → Option (Option Row)) : Type 0 where
  pub name : Name
  pub before : Row
  pub there : f name ≡ Some (Some before)
  pub ends : IsWithin (pos 0) last_stamp (undone_stamp second before (at name)) → ⊥

one_ends : (second : ℤ) (at : RowsByName) (f : Name → Option (Option Row)) (name : Name) (before : Option Row) → f name ≡ Some before
    → (not (int_lt (undo_stamp second before (at name)) (pos 0)) && not (int_lt last_stamp (undo_stamp second before (at name)))) ≡ false → StampEnds second at f
one_ends second at f name None there out = true_false out
one_ends second at f name (Some row) there out = record { name = name; before = row; there = there; ends = stamp_outside (undone_stamp second row (at name)) out }

some_ends : (second : ℤ) (at : RowsByName) (f : Name → Option (Option Row)) (befores : List Before) → AllByRecursion (λ (o : Before). f o.name ≡ Some o.row) befores
    → have_stamps_left (undo_writes second at befores) ≡ false → StampEnds second at f
some_ends second at f [] there out = true_false out
some_ends second at f (b ∷ befores) there out =
    elim (is_stamp_left (undo_write second at b)) as (λ t. is_stamp_left (undo_write second at b) ≡ t → (t && have_stamps_left (undo_writes second at befores)) ≡ false → StampEnds second at f) [
      | true ↦ λ _ later. some_ends second at f befores there.1 later
      | false ↦ λ here _. one_ends second at f b.name b.row there.0 here
    ] refl out

one_within : (second : ℤ) (at : RowsByName) (name : Name) (before : Row) (b : Before) (others : Option (Option Row)) → is_stamp_left (undo_write second at b) ≡ true
    → (others ≡ Some (Some before) → IsWithin (pos 0) last_stamp (undone_stamp second before (at name))) → (t : Bool) → eq_by_cmp name_cmp name b.name ≡ t → (if t then Some b.row else others) ≡ Some (Some before)
    → IsWithin (pos 0) last_stamp (undone_stamp second before (at name))
one_within second at name before b others here later true same is =
    subst (λ (n : Name). IsWithin (pos 0) last_stamp (undone_stamp second before (at n))) (sym (same_of_tied name b.name same))
    (stamp_within (undone_stamp second before (at b.name))
    (subst (λ (o : Option Row). (not (int_lt (undo_stamp second o (at b.name)) (pos 0)) && not (int_lt last_stamp (undo_stamp second o (at b.name)))) ≡ true) (same_Some b.row (Some before) is) here))
one_within second at name before b others here later false _ is = later is

all_within : (second : ℤ) (at : RowsByName) (name : Name) (before : Row) (befores : List Before) → have_stamps_left (undo_writes second at befores) ≡ true → before_at befores name ≡ Some (Some before)
    → IsWithin (pos 0) last_stamp (undone_stamp second before (at name))
all_within second at name before [] left there = none_held there
all_within second at name before (b ∷ befores) left there =
    elim (is_stamp_left (undo_write second at b)) as (λ t. is_stamp_left (undo_write second at b) ≡ t → (t && have_stamps_left (undo_writes second at befores)) ≡ true → IsWithin (pos 0) last_stamp (undone_stamp second before (at name))) [
      | true ↦ λ here later. one_within second at name before b (before_at befores name) here (all_within second at name before befores later) (eq_by_cmp name_cmp name b.name) refl there
      | false ↦ λ _ out. true_false (sym out)
    ] refl left

-- ---- the write of one entry
abbrev write_of : Name → Option Row → Option Row → ℤ → Write
write_of name before row stamp = record { name = name; before = before; row = row; stamp = stamp }

pub write_so : (second : ℤ) (at : RowsByName) (before : Before) (present row : Option Row) (stamp : ℤ) → present ≡ at before.name → row ≡ option_map (edited (pos 0)) before.row
    → stamp ≡ undo_stamp second before.row present → write_of before.name present row stamp ≡ undo_write second at before
write_so second at before present row stamp held made stamped =
    ap (write_of before.name present row) stamped ∙ ap (λ (r : Option Row). write_of before.name present r (undo_stamp second before.row present)) made
    ∙ ap (λ (p : Option Row). write_of before.name p (option_map (edited (pos 0)) before.row) (undo_stamp second before.row p)) held

-- ---- one write more passes its check
passes_further : (r later more : Result (Unit {0}) RowFault) → (later ≡ Ok tt → more ≡ Ok tt) → first_of r later ≡ Ok tt → first_of r more ≡ Ok tt
passes_further (Ok one) later more step passes = step passes
passes_further (Err fault) later more step passes = absurd (grind (arith, passes))

pub passes_on : (ws : List Write) (w : Write) → check_of_rows ws ≡ Ok tt → check_of_write w ≡ Ok tt → check_of_rows (ws ++ w ∷ []) ≡ Ok tt
passes_on [] w so_far one = ap (λ (r : Result (Unit {0}) RowFault). first_of r (Ok tt)) one
passes_on (v ∷ ws) w so_far one = passes_further (check_of_write v) (check_of_rows ws) (check_of_rows (ws ++ w ∷ [])) (λ rest. passes_on ws w rest one) so_far

-- ---- one entry more
pub put_back_on : (second : ℤ) (at : RowsByName) (all befores : List Before) (b : Before) (ws vs : List Write) → ws ++ undo_writes second at (b ∷ befores) ≡ undo_writes second at all
    → vs ≡ ws ++ undo_write second at b ∷ [] → vs ++ undo_writes second at befores ≡ undo_writes second at all
put_back_on second at all befores b ws vs so_far is = ap (λ (us : List Write). us ++ undo_writes second at befores) is ∙ one_further ws ∙ so_far
  where
    one_further : (us : List Write) → (us ++ undo_write second at b ∷ []) ++ undo_writes second at befores ≡ us ++ undo_write second at b ∷ undo_writes second at befores
    one_further [] = refl
    one_further (u ∷ us) = ap (λ (xs : List Write). u ∷ xs) (one_further us)

-- the entries that are left, the next one apart
pub entries_left : (befores : List Before) (i : ℕ) (b : Before) → i < length befores → b ≡ get_or befores i b → drop i befores ≡ b ∷ drop (i + 1) befores
entries_left befores i b within is = drop-cons befores i b within ∙ subst (λ (first : Before). first ∷ drop (suc i) befores ≡ b ∷ drop (i + 1) befores) is (rw add-one refl)

-- the same where it is told
pub put_back_told : (k : Keeping) (second : ℤ) (befores : List Before) (i : ℕ) (b : Before) (w : Write) (ws vs : List Write) → i < length befores → b ≡ get_or befores i b
    → WhereTold k (λ h. ws ++ undo_writes second (get h.rows) (drop i befores) ≡ undo_writes second (get h.rows) befores) → WhereTold k (λ h. w ≡ undo_write second (get h.rows) b) → vs ≡ ws ++ w ∷ []
    → WhereTold k (λ h. vs ++ undo_writes second (get h.rows) (drop (i + 1) befores) ≡ undo_writes second (get h.rows) befores)
put_back_told k second befores i b w ws vs within is so_far one more =
    where_both k (λ h. ws ++ undo_writes second (get h.rows) (drop i befores) ≡ undo_writes second (get h.rows) befores) (λ h. w ≡ undo_write second (get h.rows) b)
    (λ h. vs ++ undo_writes second (get h.rows) (drop (i + 1) befores) ≡ undo_writes second (get h.rows) befores)
    (λ h so here. put_back_on second (get h.rows) befores (drop (i + 1) befores) b ws vs
    (ap (λ (bs : List Before). ws ++ undo_writes second (get h.rows) bs) (sym (entries_left befores i b within is)) ∙ so) (more ∙ ap (λ (v : Write). ws ++ v ∷ []) here)) so_far one

-- ---- the list
pub latest_first : (steps : List Step) (step : Step) → slice_get steps 0 ≡ Some step → steps ≡ step ∷ drop 1 steps
latest_first [] step is = none_held is
latest_first (x ∷ xs) step is = ap (λ (s : Step). s ∷ xs) (same_Some x step is)

pub none_latest : (steps : List Step) → slice_get steps 0 ≡ None → steps ≡ []
none_latest [] is = refl
none_latest (x ∷ xs) is = held_none is

-- ---- upon a keeper
rightly_at : (k : Keeping) (w : WithMark Holding) (head : Head) → k.told ≡ Some w → w.current.head ≡ Some head → IsRightlyKnown k → IsHeldRightly (record { rows = w.current.rows; head = head })
rightly_at k w head told held known =
    subst (λ (o : Option Head). IfSome (option_map (λ (h : Head). record { rows = w.current.rows; head = h }) o) IsHeldRightly) held
    (subst (λ (t : Option (WithMark Holding)). IfSome t (λ (v : WithMark Holding). IfSome (option_map (λ (h : Head). record { rows = v.current.rows; head = h }) v.current.head) IsHeldRightly)) told (held_rightly k known))

module _ (at : ℤ) (now : Moment) (step : Step) (plan : Plan) (in_ms : now.at ≡ at) (in_seconds : now.second ≡ second_of at) (range : IsStepInRange step) (after : plan.after ≡ undo_head now.at step plan.before) where
  undone_so : (h : Holding) → IsUndoPlan now step h plan → IsUndone at (record { rows = h.rows; head = plan.before }) (reversal_in step) (collection_left plan.writes.items plan.after h.rows)
  undone_so h planned = record {
    rows = λ q.
        ap (λ (ws : List Write). get (rows_written ws h.rows) q) planned.writes ∙ undone_rows now.second step h.rows q range
        ∙ ap (λ (s : ℤ). undone_row s (before_at step.rows q) (get h.rows q)) in_seconds;
    conf = ap (λ (head : Head). head.conf) after;
    tags = ap (λ (head : Head). head.tags) after;
    moment = ap (λ (head : Head). head.moment) after ∙ ap (λ (m : ℤ). advanced m plan.before.moment) in_ms;
    schema = ap (λ (head : Head). head.schema) after;
    usn = ap (λ (head : Head). head.usn) after;
    last_sync = ap (λ (head : Head). head.last_sync) after;
    crt = ap (λ (head : Head). head.crt) after;
  }

  -- the latest step was undone
  pub undone : (k l : Keeping) (steps left : List Step) → is_marked k ≡ false → k.headed.current ≡ true → IsRightlyKnown k → WhereTold k (λ h. IsUndoPlan now step h plan)
      → l ≡ committed (head_set plan.after (all_written plan.writes.items (marked_here k))) → steps ≡ step ∷ left → UndoneBy at k l steps left
  undone k l steps left unmarked is_held known planned becomes list =
      where_held k (λ c. IsLatestUndone at c k l steps left) (λ w head told held_there.
      let here = told_at k (λ h. IsUndoPlan now step h plan) w told planned in
      let one = head_is w.current head plan.before held_there here.head in
      record {
        named = (rightly_at k w head told held_there known).named;
        step = step;
        list = list;
        after = collection_left plan.writes.items plan.after w.current.rows;
        undone = subst (λ (h : Head). IsUndone at (record { rows = w.current.rows; head = h }) (reversal_in step) (collection_left plan.writes.items plan.after w.current.rows)) one (undone_so w.current here);
        held = becomes ∙ carried_out plan.writes.items plan.after k w told unmarked is_held (headed_at k w told known);
      })

  -- a stamp or the moment ended
  ended_at : (h : Holding) → IsUndoPlan now step h plan → IsHeadInRange plan.before → HasEnded plan.writes.items plan.after → IsUndoAtLastStamp at (record { rows = h.rows; head = plan.before }) step
  ended_at h planned held (inl stamps) =
      let ends = some_ends now.second (get h.rows) (before_at step.rows) step.rows (all_there step.rows range.distinct) (ap have_stamps_left (sym planned.writes) ∙ stamps) in
      inl (ends.name, ends.before, ends.there, λ within. ends.ends (subst (λ (s : ℤ). IsWithin (pos 0) last_stamp (undone_stamp s ends.before (get h.rows ends.name))) (sym in_seconds) within))
  ended_at h planned held (inr (inl moment)) =
      inr (λ within. moment (subst IsMoment (sym (ap (λ (head : Head). head.moment) after ∙ ap (λ (m : ℤ). advanced m plan.before.moment) in_ms)) within))
  ended_at h planned held (inr (inr schema)) = absurd (schema (subst IsMoment (sym (ap (λ (head : Head). head.schema) after)) held.schema))

  never_ended_at : (h : Holding) → IsUndoPlan now step h plan → have_stamps_left plan.writes.items ≡ true → IsMoment plan.after.moment → IsUndoAtLastStamp at (record { rows = h.rows; head = plan.before }) step → ⊥
  never_ended_at h planned stamps moment (inl ends) =
      ends.3 (subst (λ (s : ℤ). IsWithin (pos 0) last_stamp (undone_stamp s ends.1 (get h.rows ends.0))) in_seconds
      (all_within now.second (get h.rows) ends.0 ends.1 step.rows (ap have_stamps_left (sym planned.writes) ∙ stamps) ends.2))
  never_ended_at h planned stamps moment (inr ends) = ends (subst IsMoment (ap (λ (head : Head). head.moment) after ∙ ap (λ (m : ℤ). advanced m plan.before.moment) in_ms) moment)

  some_step : (steps left : List Step) → steps ≡ step ∷ left → steps ≡ [] → ⊥
  some_step steps left is none = list_not_none (sym is ∙ none)
    where
      list_not_none : {x : Step} {xs : List Step} → x ∷ xs ≡ [] → ⊥
      list_not_none e = absurd (grind (arith, e))

  -- it is refused for that
  pub ended : (k : Keeping) (steps left : List Step) → IsHeadInRange plan.before → WhereTold k (λ h. IsUndoPlan now step h plan) → HasEnded plan.writes.items plan.after → steps ≡ step ∷ left
      → AnswersUndo {T = Unit {0}} at k steps (Err faults.StampEnd)
  ended k steps left held planned ends list =
      where_held k (λ c. AnswersBy {T = Unit {0}} (RefusesUndo at c steps) (Err faults.StampEnd)) (λ w head told held_there.
      let here = told_at k (λ h. IsUndoPlan now step h plan) w told planned in
      let one = head_is w.current head plan.before held_there here.head in
      subst (λ (h : Head). AnswersBy {T = Unit {0}} (RefusesUndo at (record { rows = w.current.rows; head = h }) steps) (Err faults.StampEnd)) one
      (subst (λ (ss : List Step). AnswersBy {T = Unit {0}} (RefusesUndo at (record { rows = w.current.rows; head = plan.before }) ss) (Err faults.StampEnd)) (sym list)
      (record { accepted = tt; refused = inr (inr ((λ any none. some_step (step ∷ left) left refl none.1), (refl, ended_at w.current here held ends))) })))

  -- so it is refused for that alone, by what the tests say: its rows pass
  pub refused : (k : Keeping) (steps left : List Step) (fault : DeskFault) → IsHeadInRange plan.before → WhereTold k (λ h. IsUndoPlan now step h plan) → check_of_rows plan.writes.items ≡ Ok tt
      → MadeRefusal plan.writes.items plan.after fault → steps ≡ step ∷ left → AnswersUndo {T = Unit {0}} at k steps (Err fault)
  refused k steps left fault held planned passing (inl row) list = absurd (grind (arith, passing, row.2))
  refused k steps left fault held planned passing (inr ends) list =
      subst (λ (f : DeskFault). AnswersUndo {T = Unit {0}} at k steps (Err f)) (sym ends.0) (ended k steps left held planned ends.2 list)

  -- an undo that was done has no refusal
  pub accepted : (k : Keeping) (steps left : List Step) (answer : Unit {0}) → WhereTold k (λ h. IsUndoPlan now step h plan) → have_stamps_left plan.writes.items ≡ true → IsMoment plan.after.moment → steps ≡ step ∷ left
      → AnswersUndo {T = Unit {0}} at k steps (Ok answer)
  accepted k steps left answer planned stamps moment list =
      where_held k (λ c. AnswersBy {T = Unit {0}} (RefusesUndo at c steps) (Ok answer)) (λ w head told held_there.
      let here = told_at k (λ h. IsUndoPlan now step h plan) w told planned in
      let one = head_is w.current head plan.before held_there here.head in
      subst (λ (h : Head). AnswersBy {T = Unit {0}} (RefusesUndo at (record { rows = w.current.rows; head = h }) steps) (Ok answer)) one
      (subst (λ (ss : List Step). AnswersBy {T = Unit {0}} (RefusesUndo at (record { rows = w.current.rows; head = plan.before }) ss) (Ok answer)) (sym list)
      (record { accepted = λ fault tests. no_test w.current here fault tests; refused = tt })))
    where
      no_test : (h : Holding) → IsUndoPlan now step h plan → (fault : DeskFault) → RefusesUndo at (record { rows = h.rows; head = plan.before }) (step ∷ left) fault → ⊥
      no_test h here fault (inl none) = some_step (step ∷ left) left refl none.1
      no_test h here fault (inr others) = never_ended_at h here stamps moment others.1.1

-- ---- other answers
-- what comes from outside may come at any place
pub outside : (at : ℤ) (k : Keeping) (steps : List Step) (fault : DeskFault) → IsFromOutside fault → AnswersUndo {T = Unit {0}} at k steps (Err fault)
outside at k steps fault is = where_held k (λ c. AnswersBy {T = Unit {0}} (RefusesUndo at c steps) (Err fault)) (λ w head told held_there. record { accepted = tt; refused = inl is })

-- what is true of the answer with a fault is true of an answer that has it
pub answered : (at : ℤ) (k : Keeping) (steps : List Step) (r : Result (Unit {0}) DeskFault) (fault : DeskFault) → IsErrAnd r (λ f. f ≡ fault) → AnswersUndo {T = Unit {0}} at k steps (Err fault) → AnswersUndo at k steps r
answered at k steps (Ok one) fault is answers = absurd is
answered at k steps (Err f) fault is answers = subst (λ (g : DeskFault). AnswersUndo {T = Unit {0}} at k steps (Err g)) (sym is) answers

-- a list without steps
pub nothing : (at : ℤ) (k : Keeping) (steps : List Step) → steps ≡ [] → AnswersUndo {T = Unit {0}} at k steps (Err faults.NothingToUndo)
nothing at k steps none = where_held k (λ c. AnswersBy {T = Unit {0}} (RefusesUndo at c steps) (Err faults.NothingToUndo)) (λ w head told held_there. record { accepted = tt; refused = inr (inl (refl, none)) })
