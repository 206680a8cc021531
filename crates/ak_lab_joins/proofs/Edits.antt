-- A line of the desk and new reviews leave a device linked with the server.
use Rattle.std.specs.List.{All}
use Rattle.std.specs.Prelude.{◌≡◌, ◌||◌, ◌≢◌, ◌⊎◌, ℕ, zero, suc, ℤ, pos, ◌+ℤ◌, ◌≤ℤ◌, ◌<ℤ◌, Bool, false, if◌then◌else◌, is_some, List, [], ◌∷◌, Option, Some, None}
use Rattle.std.proofs.Common.{refl, sym, ap, subst, ◌∙◌, inl, inr, arith, rules}
use Rattle.std.proofs.lemmas.Int.{ints}
use Rattle.std.proofs.lemmas.List.Elements.{All-cons, All-head, All-nil, All-tail, All-take, All-weaker}
use Rattle.ak_base.specs.Rows.{name_of}
use Rattle.ak_base.specs.declared.names.Name.{Name}
use Rattle.ak_base.specs.declared.names.Table.TheVariants as tables
use Rattle.ak_base.specs.declared.reviews.Review.{Review}
use Rattle.ak_base.specs.declared.rows.Row.{Row}
use Rattle.ak_base.specs.declared.rows.Row.TheVariants as rows
use Rattle.ak_keep.specs.FreeNames.{IsFree, is_used}
use Rattle.ak_any_lines.proofs.LineSeries.{cleared_links, cleared_schema, cleared_suits, clears_keep}
use Rattle.ak_any_lines.specs.LineSeries.{Clears, ClearsThrough, IsInSteps}
use Rattle.ak_desk_lines.specs.DeskStates.{DeskState}
use Rattle.ak_desk_lines.specs.LineSteps.{IsOneStep, LinksWith}
use Rattle.ak_edit.proofs.UndoneLists.{undo_keeps_all}
use Rattle.ak_edit.specs.Ends.{IsFinished, holding_now}
use Rattle.ak_edit.specs.Steps.{reversal_in, reversals_in}
use Rattle.ak_edit.specs.Undos.{IsLatestUndone, SuitsNow}
use Rattle.ak_exchange.specs.Phases.{holding}
use Rattle.ak_keep.specs.Collections.{Collection}
use Rattle.ak_keep.specs.Keepers.{Keeping}
use Rattle.ak_lab_joins.specs.LabJoins.{IsFreshSchema}
use Rattle.ak_lab_devices.specs.NewReviews.{AreNewReviews, new_review, with_reviews}
use Rattle.ak_lab_devices.specs.declared.new_reviews.ReviewPlan.{ReviewPlan}
use Rattle.ak_merge.proofs.EditBuildingLaws.{edits_keep_all, puts_are_admitted}
use Rattle.ak_merge.proofs.EditFacts.{advanced_past}
use Rattle.ak_merge.proofs.Sweeps.{lists_after_suit}
use Rattle.ak_merge.specs.EditBuilding.{MayPut, unedited, with_row}
use Rattle.ak_merge.specs.Edits.{Admits, Edit, GivesFreshSchema, Reversal, advanced, reversal_of}
use Rattle.ak_keep.specs.Graves.{RowsByName, is_dead}
use Rattle.ak_merge.specs.Holdings.{AreNamed, name_in, row_under}
use Rattle.ak_merge.specs.Links.{AreLinked}
use Rattle.ak_merge.specs.Undoing.{IsEdit, IsListAfter, StepFits}
use Rattle.ak_merge.specs.Undoing as undoing
use Rattle.ak_undo.specs.declared.steps.Step.{Step}

-- ---- a device's collection, its undo list and a server's committed one
-- they are linked as a lab's are
pub record AreLinkedSo (s c : Collection) (steps : List Step) : Type 0 where
  pub named : AreNamed (row_under c)
  pub links : LinksWith c steps s
  pub suits : SuitsNow steps c

-- a keeper holds such a collection
pub record HoldsLinked (s : Collection) (keeping : Keeping) (steps : List Step) : Type 0 where
  pub c : Collection
  pub holds : keeping ≡ holding c
  pub linked : AreLinkedSo s c steps

-- ---- an edit
-- a schema moment that rises is another
rises : (at c : ℤ) → advanced at c ≡ c → ⊥
rises at c is = let up : c <ℤ advanced at c = advanced_past c at c (itself c) in omega (arith, ints, up, is)
  where
    itself : (a : ℤ) → a ≤ℤ a
    itself a = omega (arith, ints)

pub risen_is_fresh : (at s c after : ℤ) → after ≡ advanced at c → (after ≡ c) ⊎ (after ≢ s) → advanced at c ≡ s → ⊥
risen_is_fresh at s c after up (inl same) is = rises at c (sym up ∙ same)
risen_is_fresh at s c after up (inr differs) is = differs (up ∙ is)

module _ (at : ℤ) (c after s : Collection) (edit : Edit) (steps left : List Step) (is : IsEdit at c edit after) (linked : AreLinkedSo s c steps)
    (new : IsFreshSchema s c after) where
  abbrev keeps : undoing.KeepsAll at c edit after
  keeps = edits_keep_all at c after edit is linked.named

  edited_links : IsListAfter c edit after (reversals_in steps) (reversals_in left) → LinksWith after left s
  edited_links (inl kept) = record {
    linked = subst (λ (d : Collection). AreLinked d s) (sym kept.unchanged) linked.links.linked;
    fit =
        subst (λ (d : Collection). All (λ step. StepFits d step s) (reversals_in left)) (sym kept.unchanged)
        (subst (λ (list : List Reversal). All (λ step. StepFits c step s) list) (sym kept.list) linked.links.fit);
  }
  edited_links (inr (inl emptied)) =
      let up : after.head.schema ≡ advanced at c.head.schema =
      is.leaves.schema ∙ ap (λ (b : Bool). if b then advanced at c.head.schema else c.head.schema) emptied.schema in
      let fresh : GivesFreshSchema at c s = risen_is_fresh at s.head.schema c.head.schema after.head.schema up new in
      record {
        linked = keeps.parted s emptied.schema fresh;
        fit = subst (λ (list : List Reversal). All (λ step. StepFits after step s) list) (sym emptied.list) (All-nil (λ step. StepFits after step s));
      }
  edited_links (inr (inr pushed)) = record {
    linked = keeps.linked s pushed.schema linked.links.linked;
    fit =
        subst (λ (list : List Reversal). All (λ step. StepFits after step s) list) (sym pushed.list)
        (All-take (λ step. StepFits after step s) 30 (reversal_of c edit ∷ reversals_in steps)
        (All-cons (λ step. StepFits after step s) (reversal_of c edit) (reversals_in steps) (keeps.fits s pushed.schema linked.links.linked)
        (All-weaker (λ step. StepFits c step s) (λ step. StepFits after step s) (λ step. keeps.older s step pushed.schema) (reversals_in steps) linked.links.fit)));
  }

  edited_so : IsListAfter c edit after (reversals_in steps) (reversals_in left) → AreLinkedSo s after left
  edited_so list = record {
    named = keeps.named;
    links = edited_links list;
    suits = lists_after_suit at c after edit (reversals_in steps) (reversals_in left) is linked.named list linked.suits;
  }

pub finished_so : (at : ℤ) (c s : Collection) (edit : Edit) (now : Keeping) (steps left : List Step) → Admits c edit
    → (done : IsFinished at c edit (holding c) now steps left) → AreLinkedSo s c steps → IsFreshSchema s c done.after → HoldsLinked s now left
finished_so at c s edit now steps left admits done linked new = record {
  c = done.after;
  holds = done.held;
  linked = edited_so at c done.after s edit steps left (record { admits = admits; leaves = done.edited }) linked new done.list;
}

-- ---- an undo
undone_so : (at : ℤ) (c s : Collection) (now : Keeping) (steps left : List Step) → IsLatestUndone at c (holding c) now steps left
    → AreLinkedSo s c steps → HoldsLinked s now left
undone_so at c s now steps left undone linked =
    let keeps = undo_keeps_all at c (holding c) now steps left undone linked.suits in
    let fit : All (λ step. StepFits c step s) (reversal_in undone.step ∷ reversals_in left) =
    subst (λ (all : List Step). All (λ step. StepFits c step s) (reversals_in all)) undone.list linked.links.fit in
    record {
      c = undone.after;
      holds = undone.held;
      linked = record {
        named = keeps.named;
        links = record {
          linked = keeps.linked s (All-head (λ step. StepFits c step s) (reversal_in undone.step) (reversals_in left) fit) linked.links.linked;
          fit =
              All-weaker (λ step. StepFits c step s) (λ step. StepFits undone.after step s) (λ other. keeps.older s other) (reversals_in left)
              (All-tail (λ step. StepFits c step s) (reversal_in undone.step) (reversals_in left) fit);
        };
        suits = keeps.suits;
      };
    }

-- ---- a step of a line
stepped_so : (at : ℤ) (c s : Collection) (was now : DeskState) → was.keeping ≡ holding c → IsOneStep at c was now
    → AreLinkedSo s c was.steps → ((after : Collection) → now.keeping ≡ holding after → IsFreshSchema s c after) → HoldsLinked s now.keeping now.steps
stepped_so at c s was now holds (inl same) linked new =
    subst (λ (n : DeskState). HoldsLinked s n.keeping n.steps) (sym same) (record { c = c; holds = holds; linked = linked })
stepped_so at c s was now holds (inr (inl (edit, admits, done))) linked new =
    let same = subst (λ (k : Keeping). IsFinished at c edit k now.keeping was.steps now.steps) holds done in
    finished_so at c s edit now.keeping was.steps now.steps admits same linked (new same.after same.held)
stepped_so at c s was now holds (inr (inr undone)) linked new =
    undone_so at c s now.keeping was.steps now.steps
    (subst (λ (k : Keeping). IsLatestUndone at c k now.keeping was.steps now.steps) holds undone) linked

-- ---- a series of steps
-- what an edit holds that clears the undo list
cleared_holds : (at : ℤ) (c : Collection) (was now : DeskState) (is : Clears at c was now) → was.keeping ≡ holding c → now.keeping ≡ holding is.cleared.after
cleared_holds at c was now is holds = is.cleared.held ∙ ap (holding_now is.cleared.after) holds

-- what is linked stays so
cleared_so : (at : ℤ) (c s : Collection) (was now : DeskState) (is : Clears at c was now) → AreLinkedSo s c was.steps → AreLinkedSo s is.cleared.after now.steps
cleared_so at c s was now is linked =
    let keeps = clears_keep at c was now is in
    record {
      named = keeps.named;
      links = cleared_links at c s was now is linked.links;
      suits = cleared_suits at c was now is linked.suits;
    }

-- such edits one after another: what is held, at the same schema moment
pub through_holds : (at : ℤ) (through : List DeskState) (c d : Collection) (was last : DeskState) → was.keeping ≡ holding c → ClearsThrough at through c was d last
    → (last.keeping ≡ holding d) × (d.head.schema ≡ c.head.schema)
through_holds at [] c d was last holds (same, stays) =
    (ap (λ (s : DeskState). s.keeping) stays ∙ holds ∙ ap holding (sym same), ap (λ (e : Collection). e.head.schema) same)
through_holds at (mid ∷ through) c d was last holds (first, rest) =
    let more = through_holds at through first.cleared.after d mid last (cleared_holds at c was mid first holds) rest in
    (more.0, more.1 ∙ cleared_schema at c was mid first)

-- and what is linked
through_so : (at : ℤ) (through : List DeskState) (c d s : Collection) (was last : DeskState) → ClearsThrough at through c was d last → AreLinkedSo s c was.steps
    → AreLinkedSo s d last.steps
through_so at [] c d s was last (same, stays) linked =
    subst (λ (n : DeskState). AreLinkedSo s d n.steps) (sym stays) (subst (λ (e : Collection). AreLinkedSo s e was.steps) (sym same) linked)
through_so at (mid ∷ through) c d s was last (first, rest) linked =
    through_so at through first.cleared.after d s mid last rest (cleared_so at c s was mid first linked)

-- a moment that is fresh after c is fresh after what has the same schema moment
fresh_after : (s c d after : Collection) → d.head.schema ≡ c.head.schema → IsFreshSchema s c after → IsFreshSchema s d after
fresh_after s c d after same (inl is) = inl (is ∙ sym same)
fresh_after s c d after same (inr differs) = inr differs

pub series_so : (at : ℤ) (c s : Collection) (was now : DeskState) → was.keeping ≡ holding c → IsInSteps at c was now
    → AreLinkedSo s c was.steps → ((after : Collection) → now.keeping ≡ holding after → IsFreshSchema s c after) → HoldsLinked s now.keeping now.steps
series_so at c s was now holds series linked new =
    let came = through_holds at series.through c series.between was series.last holds series.clears in
    stepped_so at series.between s series.last now came.0 series.step (through_so at series.through c series.between s was series.last series.clears linked)
    (λ after held. fresh_after s c series.between after came.1 (new after held))

-- ---- new reviews
-- they leave the schema
reviews_leave_schema : (reviews : List Review) (edit : Edit) → (with_reviews reviews edit).schema ≡ edit.schema
reviews_leave_schema [] edit = refl
reviews_leave_schema (review ∷ reviews) edit = reviews_leave_schema reviews (with_row (rows.Review review) edit)

pub reviews_keep_schema : (at : ℤ) (c : Collection) (reviews : List Review) (now : Keeping) (steps left : List Step)
    → (done : IsFinished at c (with_reviews reviews (unedited c)) (holding c) now steps left) → done.after.head.schema ≡ c.head.schema
reviews_keep_schema at c reviews now steps left done =
    done.edited.schema ∙ ap (λ (b : Bool). if b then advanced at c.head.schema else c.head.schema) (reviews_leave_schema reviews (unedited c))

unused_is_none : (at : RowsByName) (name : Name) → is_used at name ≡ false → at name ≡ None
unused_is_none at name free = by (at name) (is_dead at name) free
  where
    by : (o : Option Row) (dead : Bool) → (is_some o || dead) ≡ false → o ≡ None
    by None dead is = refl
    by (Some row) dead is = absurd (search (is, rules))

-- a review of a new name may be put
may_put_review : (c : Collection) (plan : ReviewPlan) (first name : Name) → first.table ≡ tables.Review → IsFree (is_used (row_under c)) first name
    → MayPut c (rows.Review (new_review plan name.id))
may_put_review c plan first name of_reviews is =
    let own : name_of (rows.Review (new_review plan name.id)) ≡ name =
    ap (λ (table : _). let n : Name = record { table = table; id = name.id } in n) (sym (is.table ∙ of_reviews)) in
    record {
      free = λ _. refl;
      review = λ _. ap (row_under c) own ∙ unused_is_none (row_under c) name is.free;
    }

pub reviews_are_admitted : (c : Collection) (plan : ReviewPlan) (first : Name) (count : ℕ) (reviews : List Review) (edit : Edit) → first.table ≡ tables.Review
    → AreNewReviews (is_used (row_under c)) plan first count reviews → Admits c edit → Admits c (with_reviews reviews edit)
reviews_are_admitted c plan first zero reviews edit of_reviews are admits =
    subst (λ (list : List Review). Admits c (with_reviews list edit)) (sym are) admits
reviews_are_admitted c plan first (suc count) reviews edit of_reviews (name, free, others, are, rest) admits =
    subst (λ (list : List Review). Admits c (with_reviews list edit)) (sym are)
    (reviews_are_admitted c plan (name_in name.table (name.id +ℤ pos 1)) count others (with_row (rows.Review (new_review plan name.id)) edit) (free.table ∙ of_reviews) rest
    (puts_are_admitted c edit (rows.Review (new_review plan name.id)) admits (may_put_review c plan first name of_reviews free)))
