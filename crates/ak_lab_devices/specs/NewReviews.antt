-- New reviews of a card, as one edit of a collection, and why they are refused.
use Rattle.std.specs.Prelude.{◌≡◌, ℕ, zero, suc, ℤ, pos, negsuc, Bool, List, [], ◌∷◌, Result, OnErr, OnOk}
use Rattle.ak_base.specs.declared.names.Name.{Name}
use Rattle.ak_base.specs.declared.names.Table.TheVariants as tables
use Rattle.ak_base.specs.declared.reviews.Review.{Review}
use Rattle.ak_base.specs.declared.rows.Row.TheVariants as rows
use Rattle.ak_keep.specs.FreeNames.{IsFree, is_used}
use Rattle.ak_edit.specs.Ends.{IsFinished, RefusesStamp}
use Rattle.ak_edit_calls.specs.NewNames.{RefusesIdsFrom, first_name}
use Rattle.ak_edit.specs.Refusals.{AnswersBy, OrElse, Refusal}
use Rattle.ak_edit.specs.declared.desk_faults.DeskFault.{DeskFault}
use Rattle.ak_keep.specs.Collections.{Collection}
use Rattle.ak_keep.specs.Keepers.{Keeping, WhereHeld}
use Rattle.ak_lab_devices.specs.declared.new_reviews.ReviewPlan.{ReviewPlan}
use Rattle.ak_merge.specs.EditBuilding.{unedited, with_row}
use Rattle.ak_merge.specs.Edits.{Edit}
use Rattle.ak_merge.specs.Holdings.{row_under}
use Rattle.ak_base.specs.Names.{next_name}
use Rattle.ak_undo.specs.declared.steps.Step.{Step}

-- a review of this id, not sent yet, with zeros where the plan says nothing
abbrev pub new_review : ReviewPlan → ℤ → Review
new_review plan id = record {
  id = id;
  cid = plan.card;
  usn = negsuc 0;
  ease = plan.ease;
  ivl = pos 0;
  last_ivl = pos 0;
  factor = pos 0;
  time = pos 0;
  kind = pos 0;
}

-- so many new reviews: each has the first free id after the one before
abbrev pub AreNewReviews : (Name → Bool) → ReviewPlan → Name → ℕ → List Review → Type 0
AreNewReviews used plan first zero reviews = reviews ≡ []
AreNewReviews used plan first (suc count) reviews =
    (name : Name) × IsFree used first name × (others : List Review) × (reviews ≡ new_review plan name.id ∷ others)
    × AreNewReviews used plan (next_name name) count others

-- the reviews that a plan adds to a collection at a moment: their ids begin at the moment's
abbrev pub ArePlanned : ℤ → ReviewPlan → Collection → List Review → Type 0
ArePlanned at plan c reviews =
    AreNewReviews (is_used (row_under c)) plan (first_name tables.Review at) plan.count reviews

-- the edit with these reviews
abbrev pub with_reviews : List Review → Edit → Edit
with_reviews [] edit = edit
with_reviews (review ∷ reviews) edit = with_reviews reviews (with_row (rows.Review review) edit)

-- there are too few free ids for the plan
abbrev pub RefusesIds : ℤ → ReviewPlan → Collection → Refusal
RefusesIds at plan c = RefusesIdsFrom (first_name tables.Review at) plan.count (row_under c)

-- the moment can't rise
abbrev pub RefusesMoment : ℤ → ReviewPlan → Collection → Refusal
RefusesMoment at plan c fault =
    (reviews : List Review) × ArePlanned at plan c reviews × RefusesStamp at c (with_reviews reviews (unedited c)) fault

-- the tests of new reviews, in their order
abbrev pub RefusesReviews : ℤ → ReviewPlan → Collection → Refusal
RefusesReviews at plan c = OrElse (RefusesIds at plan c) (RefusesMoment at plan c)

-- the reviews of the plan were added at this moment, as one edit
pub record AddsReviews (at : ℤ) (plan : ReviewPlan) (c : Collection) (before now : Keeping) (steps left : List Step) : Type 0 where
  pub reviews : List Review
  pub planned : ArePlanned at plan c reviews
  pub done : IsFinished at c (with_reviews reviews (unedited c)) before now steps left

-- how the addition of a plan's reviews ended: they were added, or it was refused and all is as it was
pub record EndsReviews (at : ℤ) (plan : ReviewPlan) (before now : Keeping) (steps left : List Step) (result : Result (Unit {0}) DeskFault) : Type 0 where
  pub done : OnOk result (WhereHeld before (λ c. AddsReviews at plan c before now steps left))
  pub same : OnErr result (now ≡ before)
  pub kept : OnErr result (left ≡ steps)
  pub stays : now.headed ≡ before.headed
  pub answers : WhereHeld before (λ c. AnswersBy (RefusesReviews at plan c) result)
