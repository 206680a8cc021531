-- New reviews made one by one.
use Rattle.std.specs.Prelude.{◌≡◌, ℕ, zero, suc, Bool, List, [], ◌∷◌, ◌++◌, None, Ok, Err}
use Rattle.std.proofs.Common.{refl, sym, ap, subst, inl, inr, ◌∙◌, append_assoc, append-nil}
use Rattle.std.specs.FinMap.{get}
use Rattle.ak_base.specs.declared.names.Name.{Name}
use Rattle.ak_base.specs.declared.reviews.Review.{Review}
use Rattle.ak_edit_calls.proofs.Telling.{where_always, where_told-both}
use Rattle.ak_keep.specs.FreeNames.{IsFirstFree, IsFree, is_used}
use Rattle.ak_edit.specs.Refusals.{AnswersBy}
use Rattle.ak_edit.specs.declared.desk_faults.DeskFault.{DeskFault}
use Rattle.ak_keep.proofs.Told.{where_told-map}
use Rattle.ak_keep.specs.Collections.{Rows}
use Rattle.ak_keep.specs.Keepers.{Keeping, WhereTold}
use Rattle.ak_lab_devices.specs.NewReviews.{AreNewReviews, new_review}
use Rattle.ak_lab_devices.specs.declared.new_reviews.ReviewPlan.{ReviewPlan}
use Rattle.ak_edit_calls.proofs.FreeIds.{free_once, none_free}
use Rattle.ak_base.specs.Names.{next_name}
use Rattle.ak_edit_calls.specs.NewNames.{IsFreeIn, IsNoneFreeFrom, LacksIds, RefusesIdsFrom}

-- the new reviews are the only ones
pub reviews_once : (used : Name → Bool) (plan : ReviewPlan) (first : Name) (count : ℕ) (x y : List Review)
    → AreNewReviews used plan first count x → AreNewReviews used plan first count y → x ≡ y
reviews_once used plan first zero x y one other = one ∙ sym other
reviews_once used plan first (suc count) x y one other =
    let name : one.0 ≡ other.0 = free_once used first one.0 other.0 one.1 other.1 in
    let there : AreNewReviews used plan (next_name one.0) count other.2 = subst (λ (n : Name). AreNewReviews used plan (next_name n) count other.2) (sym name) other.4 in
    let rest : one.2 ≡ other.2 = reviews_once used plan (next_name one.0) count one.2 other.2 one.4 there in
    one.3 ∙ ap (λ (n : Name). new_review plan n.id ∷ one.2) name ∙ ap (λ (reviews : List Review). new_review plan other.0.id ∷ reviews) rest ∙ sym other.3

-- there are ids for them
pub lacks_none : (used : Name → Bool) (plan : ReviewPlan) (first : Name) (count : ℕ) (reviews : List Review) → AreNewReviews used plan first count reviews → LacksIds used first count → ⊥
lacks_none used plan first zero reviews made lacks = lacks
lacks_none used plan first (suc count) reviews made lacks =
    elim lacks [
      | inl none ↦ none_free used first made.0 made.1 none
      | inr more ↦
          let name : more.0 ≡ made.0 = free_once used first more.0 made.0 more.1 made.1 in
          lacks_none used plan (next_name made.0) count made.2 made.4 (subst (λ (n : Name). LacksIds used (next_name n) count) name more.2)
    ]

-- what is made of those that are left from this name on goes on with these reviews to what is made of all, and if ids lack for them, they
-- lack for all
pub record MakesMore (held : Rows) (plan : ReviewPlan) (start : Name) (count left : ℕ) (first : Name) (reviews : List Review) : Type 0 where
  pub made : (more : List Review) → AreNewReviews (is_used (get held)) plan first left more → AreNewReviews (is_used (get held)) plan start count (reviews ++ more)
  pub lacks : LacksIds (is_used (get held)) first left → LacksIds (is_used (get held)) start count

-- at first
pub makes_all : (k : Keeping) (plan : ReviewPlan) (start : Name) (count : ℕ) → WhereTold k (λ h. MakesMore h.rows plan start count count start [])
makes_all k plan start count = where_always k (λ h. MakesMore h.rows plan start count count start []) (λ h. record { made = λ more are. are; lacks = λ lacks. lacks })

one_more : (held : Rows) (plan : ReviewPlan) (start : Name) (count left : ℕ) (first name : Name) (reviews : List Review) (review : Review)
    → review ≡ new_review plan name.id → IsFree (is_used (get held)) first name
    → MakesMore held plan start count (suc left) first reviews → MakesMore held plan start count left (next_name name) (reviews ++ review ∷ [])
one_more held plan start count left first name reviews review is free so_far = record {
  made = λ more are.
      let with_one : AreNewReviews (is_used (get held)) plan first (suc left) (review ∷ more) = (name, free, more, ap (λ (r : Review). r ∷ more) is, are) in
      subst (AreNewReviews (is_used (get held)) plan start count) (sym (append_assoc reviews (review ∷ []) more)) (so_far.made (review ∷ more) with_one);
  lacks = λ lacks. so_far.lacks (inr (name, free, lacks));
}

-- one review more
pub makes_one : (k : Keeping) (plan : ReviewPlan) (start : Name) (count before left : ℕ) (first name : Name) (reviews : List Review) (review : Review) → before ≡ suc left
    → review ≡ new_review plan name.id → WhereTold k (IsFreeIn first name)
    → WhereTold k (λ h. MakesMore h.rows plan start count before first reviews) → WhereTold k (λ h. MakesMore h.rows plan start count left (next_name name) (reviews ++ review ∷ []))
makes_one k plan start count before left first name reviews review less is =
    where_told-both k (IsFreeIn first name) (λ h. MakesMore h.rows plan start count before first reviews) (λ h. MakesMore h.rows plan start count left (next_name name) (reviews ++ review ∷ []))
    (λ h free so_far. one_more h.rows plan start count left first name reviews review is free (subst (λ (n : ℕ). MakesMore h.rows plan start count n first reviews) less so_far))

-- at the end
pub made_all : (k : Keeping) (plan : ReviewPlan) (start : Name) (count left : ℕ) (first : Name) (reviews : List Review) → left ≡ 0
    → WhereTold k (λ h. MakesMore h.rows plan start count left first reviews) → WhereTold k (λ h. AreNewReviews (is_used (get h.rows)) plan start count reviews)
made_all k plan start count left first reviews none =
    where_told-map k (λ h. MakesMore h.rows plan start count left first reviews) (λ h. AreNewReviews (is_used (get h.rows)) plan start count reviews)
    (λ h so_far.
    let ended : MakesMore h.rows plan start count zero first reviews = subst (λ (n : ℕ). MakesMore h.rows plan start count n first reviews) none so_far in
    subst (AreNewReviews (is_used (get h.rows)) plan start count) (append-nil reviews) (ended.made [] refl))

-- what was made is not refused
pub made_answers : (T : Type 0) (k : Keeping) (plan : ReviewPlan) (start : Name) (count : ℕ) (reviews : List Review) (made : T)
    → WhereTold k (λ h. AreNewReviews (is_used (get h.rows)) plan start count reviews)
    → WhereTold k (λ h. AnswersBy {T = T} (RefusesIdsFrom start count (get h.rows)) (Ok made))
made_answers T k plan start count reviews made =
    where_told-map k (λ h. AreNewReviews (is_used (get h.rows)) plan start count reviews) (λ h. AnswersBy {T = T} (RefusesIdsFrom start count (get h.rows)) (Ok made))
    (λ h are. record { accepted = λ fault refuses. lacks_none (is_used (get h.rows)) plan start count reviews are refuses.0; refused = tt })

one_lack : (held : Rows) (plan : ReviewPlan) (start : Name) (count left : ℕ) (first : Name) (reviews : List Review) → IsFirstFree (is_used (get held)) first None
    → MakesMore held plan start count (suc left) first reviews → LacksIds (is_used (get held)) start count
one_lack held plan start count left first reviews none so_far = so_far.lacks (inl none)

-- an id lacks, or the fault comes from outside
pub one_lacks : (T : Type 0) (k : Keeping) (plan : ReviewPlan) (start : Name) (count before left : ℕ) (first : Name) (reviews : List Review) (fault : DeskFault) → before ≡ suc left
    → IsNoneFreeFrom k first fault → WhereTold k (λ h. MakesMore h.rows plan start count before first reviews)
    → WhereTold k (λ h. AnswersBy {T = T} (RefusesIdsFrom start count (get h.rows)) (Err fault))
one_lacks T k plan start count before left first reviews fault less none so_far =
    elim none [
      | inl outside ↦ where_always k (λ h. AnswersBy {T = T} (RefusesIdsFrom start count (get h.rows)) (Err fault)) (λ h. record { accepted = tt; refused = inl outside })
      | inr is ↦
          where_told-both k (λ h. IsFirstFree (is_used (get h.rows)) first None) (λ h. MakesMore h.rows plan start count before first reviews)
          (λ h. AnswersBy {T = T} (RefusesIdsFrom start count (get h.rows)) (Err fault))
          (λ h lack more. record {
            accepted = tt;
            refused = inr (one_lack h.rows plan start count left first reviews lack (subst (λ (n : ℕ). MakesMore h.rows plan start count n first reviews) less more), is.1);
          }) is.0 so_far
    ]
