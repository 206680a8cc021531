-- The edit of new reviews: what it asks for, and when it is refused.
use Rattle.std.specs.Prelude.{◌≡◌, ℕ, zero, suc, ℤ, pos, ◌≤ℤ◌, ◌+ℤ◌, Bool, true, false, cond, List, [], ◌∷◌, Option, Some, None, Result, Ok, Err}
use Rattle.std.proofs.Common.{refl, sym, ap, subst, inl, inr, ◌∙◌, arith}
use Rattle.std.proofs.lemmas.Int.{ints}
use Rattle.std.proofs.lemmas.Option.{same_Some}
use Rattle.std.specs.FinMap.{get}
use Rattle.std.specs.List.{AllByRecursion}
use Rattle.std.specs.Ordering.{eq_by_cmp}
use Rattle.ak_base.specs.Columns.{code_fault, first_fault, id_fault}
use Rattle.ak_base.specs.Heads.{IsWithin}
use Rattle.ak_base.specs.Names.{name_cmp, next_name}
use Rattle.ak_base.specs.Rows.{IsChecked, name_of}
use Rattle.ak_base.specs.declared.names.Name.{Name}
use Rattle.ak_base.specs.declared.names.Table.TheVariants as tables
use Rattle.ak_base.specs.declared.reviews.Review.{Review}
use Rattle.ak_base.specs.declared.rows.Row.{Row}
use Rattle.ak_base.specs.declared.rows.Row.TheVariants as rows
use Rattle.ak_edit_calls.proofs.Answering.{never_first, passed_first, refused_first}
use Rattle.ak_edit_calls.proofs.CheckedEdits.{edited_rows_pass}
use Rattle.ak_edit_calls.proofs.CheckedRows.{checked_edited}
use Rattle.ak_edit_calls.proofs.Telling.{where_held-both, where_held-map, where_rows_held}
use Rattle.ak_keep.specs.FreeNames.{is_used}
use Rattle.ak_edit.proofs.Building.{nothing_asked, put_asked}
use Rattle.ak_edit.specs.Ends.{AnswersEnd, FinishedBy, IsFinished, IsHeldRightly, RefusesEnd, RefusesRow, RefusesStamp}
use Rattle.ak_edit_calls.specs.NewNames.{RefusesIdsFrom, first_name}
use Rattle.ak_edit.specs.Overlays.{Overlay, edit_of, put_over, unchanged}
use Rattle.ak_edit.specs.Refusals.{AnswersBy}
use Rattle.ak_edit.specs.declared.desk_faults.DeskFault.{DeskFault}
use Rattle.ak_keep.specs.Collections.{Collection, IsId, Rows}
use Rattle.ak_keep.specs.Keepers.{Keeping, WhereHeld, WhereTold}
use Rattle.ak_lab_devices.proofs.NewReviews.{lacks_none, reviews_once}
use Rattle.ak_lab_devices.specs.NewReviews.{AddsReviews, AreNewReviews, ArePlanned, RefusesIds, RefusesMoment, RefusesReviews, new_review, with_reviews}
use Rattle.ak_lab_devices.specs.ReviewChanges.{reviews_over}
use Rattle.ak_lab_devices.specs.declared.new_reviews.ReviewPlan.{ReviewPlan}
use Rattle.ak_merge.specs.EditBuilding.{unedited, with_row}
use Rattle.ak_merge.specs.Edits.{Edit, edited}
use Rattle.ak_merge.specs.Holdings.{row_under}
use Rattle.ak_undo.specs.declared.steps.Step.{Step}

-- ---- what is asked for
asked_over : (reviews : List Review) (o : Overlay) (c : Collection) → edit_of (reviews_over reviews o) c ≡ with_reviews reviews (edit_of o c)
asked_over [] o c = refl
asked_over (review ∷ reviews) o c = asked_over reviews (put_over (rows.Review review) o) c ∙ ap (with_reviews reviews) (put_asked c o (rows.Review review))

-- the changes ask for the edit of the reviews
pub reviews_asked : (reviews : List Review) (o : Overlay) (c : Collection) → o ≡ reviews_over reviews unchanged → edit_of o c ≡ with_reviews reviews (unedited c)
reviews_asked reviews o c is = ap (λ (p : Overlay). edit_of p c) is ∙ asked_over reviews unchanged c ∙ ap (with_reviews reviews) (nothing_asked c)

-- ---- the rows
id_free : (id : ℤ) → IsId id → id_fault id ≡ None
unfolding id_fault
id_free id within = grind (arith, ints, within.low, within.high)

ease_free : (ease : ℤ) → IsWithin (pos 0) (pos 4) ease → code_fault 3 ease (pos 0) (pos 4) ≡ None
unfolding code_fault
ease_free ease within = grind (arith, ints, within.low, within.high)

-- what the reviews of a plan need to pass their check
pub record IsPlanInRange (plan : ReviewPlan) : Type 0 where
  pub card : IsId plan.card
  pub ease : IsWithin (pos 0) (pos 4) plan.ease

review_checked : (plan : ReviewPlan) (id : ℤ) → IsPlanInRange plan → IsId id → IsChecked (rows.Review (new_review plan id))
unfolding code_fault
review_checked plan id fits within = rw (id_free id within, id_free plan.card fits.card) (ap (λ fault. first_fault (fault ∷ None ∷ None ∷ None ∷ None ∷ None ∷ [])) (ease_free plan.ease fits.ease))

abbrev ReviewPasses : Review → Type 0
ReviewPasses review = IsChecked (rows.Review review)

reviews_checked : (used : Name → Bool) (plan : ReviewPlan) (first : Name) (count : ℕ) (reviews : List Review) → IsPlanInRange plan → pos 1 ≤ℤ first.id
    → AreNewReviews used plan first count reviews → AllByRecursion ReviewPasses reviews
reviews_checked used plan first zero reviews fits start made = subst (AllByRecursion ReviewPasses) (sym made) tt
reviews_checked used plan first (suc count) reviews fits start made =
    let low : pos 1 ≤ℤ made.0.id = grind (arith, ints, start, made.1.from) in
    let id : IsId made.0.id = record { low = low; high = made.1.within } in
    let next : pos 1 ≤ℤ (made.0.id +ℤ pos 1) = grind (arith, ints, low) in
    subst (AllByRecursion ReviewPasses) (sym made.3)
    (review_checked plan made.0.id fits id, reviews_checked used plan (next_name made.0) count made.2 fits next made.4)

row_passes : (b : Bool) (row other : Row) (x : Option Row) → IsChecked row → ((r : Row) → x ≡ Some r → IsChecked (edited (pos 0) r)) → cond b (Some row) x ≡ Some other → IsChecked (edited (pos 0) other)
row_passes true row other x checked held is = checked_edited other (subst IsChecked (same_Some row other is) checked)
row_passes false row other x checked held is = held other is

abbrev EditPasses : Edit → Type 0
EditPasses edit = (name : Name) (row : Row) → edit.rows name ≡ Some row → IsChecked (edited (pos 0) row)

edit_passes : (reviews : List Review) (edit : Edit) → AllByRecursion ReviewPasses reviews → EditPasses edit → EditPasses (with_reviews reviews edit)
edit_passes [] edit checked passes = passes
edit_passes (review ∷ reviews) edit checked passes =
    edit_passes reviews (with_row (rows.Review review) edit) checked.1
    (λ name row is. row_passes (eq_by_cmp name_cmp name (name_of (rows.Review review))) (rows.Review review) row (edit.rows name) checked.0 (passes name) is)

-- no row is refused
rows_pass : (at : ℤ) (plan : ReviewPlan) (c : Collection) (reviews : List Review) (fault : DeskFault) → IsPlanInRange plan → IsHeldRightly c → ArePlanned at plan c reviews
    → RefusesRow c (with_reviews reviews (unedited c)) fault → ⊥
rows_pass at plan c reviews fault fits rightly planned =
    let start : pos 1 ≤ℤ (first_name tables.Review at).id = grind (arith, ints) in
    edited_rows_pass c (with_reviews reviews (unedited c)) fault
    (edit_passes reviews (unedited c) (reviews_checked (is_used (row_under c)) plan (first_name tables.Review at) plan.count reviews fits start planned)
    (λ name row is. checked_edited row (rightly.checked name row is)))

-- ---- what it leaves
pub planned_held : (k : Keeping) (at : ℤ) (plan : ReviewPlan) (reviews : List Review)
    → WhereTold k (λ h. AreNewReviews (is_used (get h.rows)) plan (first_name tables.Review at) plan.count reviews) → WhereHeld k (λ c. ArePlanned at plan c reviews)
planned_held k at plan reviews = where_rows_held k (λ held. AreNewReviews (is_used (get held)) plan (first_name tables.Review at) plan.count reviews)

pub reviews_done : (k now : Keeping) (at : ℤ) (plan : ReviewPlan) (reviews : List Review) (o : Overlay) (steps left : List Step) → o ≡ reviews_over reviews unchanged
    → WhereHeld k (λ c. ArePlanned at plan c reviews) → FinishedBy at o k now steps left → WhereHeld k (λ c. AddsReviews at plan c k now steps left)
reviews_done k now at plan reviews o steps left is =
    where_held-both k (λ c. ArePlanned at plan c reviews) (λ c. IsFinished at c (edit_of o c) k now steps left) (λ c. AddsReviews at plan c k now steps left)
    (λ c planned finished. record {
      reviews = reviews;
      planned = planned;
      done = subst (λ (e : Edit). IsFinished at c e k now steps left) (reviews_asked reviews o c is) finished;
    })

-- ---- what it answers
moment_answer : {T : Type 0} (at : ℤ) (plan : ReviewPlan) (c : Collection) (reviews : List Review) (result : Result T DeskFault) → ArePlanned at plan c reviews
    → AnswersBy (RefusesStamp at c (with_reviews reviews (unedited c))) result → AnswersBy (RefusesMoment at plan c) result
moment_answer at plan c reviews (Ok value) planned answers = record {
  accepted = λ fault refuses.
      answers.accepted fault (subst (λ (rs : List Review). RefusesStamp at c (with_reviews rs (unedited c)) fault)
      (reviews_once (is_used (row_under c)) plan (first_name tables.Review at) plan.count refuses.0 reviews refuses.1 planned) refuses.2);
  refused = tt;
}
moment_answer at plan c reviews (Err fault) planned answers = record {
  accepted = tt;
  refused = elim answers.refused [ inl outside ↦ inl outside | inr is ↦ inr (reviews, planned, is) ];
}

end_answer : (at : ℤ) (plan : ReviewPlan) (c : Collection) (reviews : List Review) (o : Overlay) (result : Result (Unit {0}) DeskFault) → IsPlanInRange plan → o ≡ reviews_over reviews unchanged
    → ArePlanned at plan c reviews → IsHeldRightly c → AnswersBy (RefusesEnd at c (edit_of o c)) result → AnswersBy (RefusesReviews at plan c) result
end_answer at plan c reviews o result fits is planned rightly answers =
    let edit : Edit = with_reviews reviews (unedited c) in
    let none : AnswersBy {T = Unit {0}} (RefusesIds at plan c) (Ok tt) = record {
      accepted = λ fault refuses. lacks_none (is_used (row_under c)) plan (first_name tables.Review at) plan.count reviews planned refuses.0;
      refused = tt;
    } in
    passed_first (RefusesIds at plan c) (RefusesMoment at plan c) tt result none
    (moment_answer at plan c reviews result planned
    (never_first (RefusesRow c edit) (RefusesStamp at c edit) result (λ fault. rows_pass at plan c reviews fault fits rightly planned)
    (subst (λ (e : Edit). AnswersBy (RefusesEnd at c e) result) (reviews_asked reviews o c is) answers)))

record IsReadyToEnd (at : ℤ) (plan : ReviewPlan) (reviews : List Review) (c : Collection) : Type 0 where
  planned : ArePlanned at plan c reviews
  rightly : IsHeldRightly c

pub reviews_answered : (k : Keeping) (at : ℤ) (plan : ReviewPlan) (reviews : List Review) (o : Overlay) (result : Result (Unit {0}) DeskFault) → IsPlanInRange plan → o ≡ reviews_over reviews unchanged
    → WhereHeld k (λ c. ArePlanned at plan c reviews) → WhereHeld k IsHeldRightly → AnswersEnd at o k result → WhereHeld k (λ c. AnswersBy (RefusesReviews at plan c) result)
reviews_answered k at plan reviews o result fits is planned rightly =
    where_held-both k (IsReadyToEnd at plan reviews) (λ c. AnswersBy (RefusesEnd at c (edit_of o c)) result) (λ c. AnswersBy (RefusesReviews at plan c) result)
    (λ c ready answers. end_answer at plan c reviews o result fits is ready.planned ready.rightly answers)
    (where_held-both k (λ c. ArePlanned at plan c reviews) IsHeldRightly (IsReadyToEnd at plan reviews) (λ c p r. record { planned = p; rightly = r }) planned rightly)

-- ids that lack refuse it
pub ids_refused : (T : Type 0) (k : Keeping) (at : ℤ) (plan : ReviewPlan) (fault : DeskFault)
    → WhereTold k (λ h. AnswersBy {T = T} (RefusesIdsFrom (first_name tables.Review at) plan.count (get h.rows)) (Err fault))
    → WhereHeld k (λ c. AnswersBy {T = Unit {0}} (RefusesReviews at plan c) (Err fault))
ids_refused T k at plan fault told =
    where_held-map k (λ c. AnswersBy {T = T} (RefusesIds at plan c) (Err fault)) (λ c. AnswersBy {T = Unit {0}} (RefusesReviews at plan c) (Err fault))
    (λ c answers. refused_first {T = T} (RefusesIds at plan c) (RefusesMoment at plan c) fault answers)
    (where_rows_held k (λ (held : Rows). AnswersBy {T = T} (RefusesIdsFrom (first_name tables.Review at) plan.count (get held)) (Err fault)) told)
