-- What a run of calls leaves, one after the other.
use Rattle.std.proofs.Common.{◌⊎◌, inl, inr, ⊎_elim, ℕ, ◌≤◌, List, arith}
use Rattle.ak_journals.proofs.Moments.{elapses_weaker}
use Rattle.ak_journals.specs.Moments.{LeavesOnly}
use Rattle.ak_journals.specs.declared.journals.Journal.{Journal}
use Rattle.ak_tables.specs.Tables.{CrashLeaves}

-- what the calls of a disk leave is what those of the journal over it do
pub crash_leaves : {D : Type 0} (moment : D → ℕ) (may_have_left : D → ℕ → List ℕ → Type 0) (old new : Journal D) (P Q : List ℕ → Type 0)
    → LeavesOnly moment may_have_left old.disk new.disk P → ((image : List ℕ) → P image → Q image)
    → CrashLeaves (λ (j : Journal D). moment j.disk) (λ (j : Journal D). may_have_left j.disk) old new Q
crash_leaves moment may_have_left old new P Q leaves into = record {
  each = λ image left. into image (leaves.each image left);
  later = leaves.time.later;
  others = λ since image le left. ⊎_elim (λ was. inl was) (λ now. inr (into image now)) (leaves.time.nothing_else since image le left);
}

-- nothing was called
pub crash_leaves_nothing : {D : Type 0} (moment : D → ℕ) (may_have_left : D → ℕ → List ℕ → Type 0) (old : Journal D) (P : List ℕ → Type 0)
    → ((image : List ℕ) → may_have_left old.disk (moment old.disk) image → P image)
    → CrashLeaves (λ (j : Journal D). moment j.disk) (λ (j : Journal D). may_have_left j.disk) old old P
crash_leaves_nothing moment may_have_left old P now = record { each = now; later = omega arith; others = λ since image le left. inl left }

pub leaves_weaker : {D : Type 0} (moment : D → ℕ) (may_have_left : D → ℕ → List ℕ → Type 0) (old new : D) (P Q : List ℕ → Type 0)
    → LeavesOnly moment may_have_left old new P → ((image : List ℕ) → P image → Q image) → LeavesOnly moment may_have_left old new Q
leaves_weaker moment may_have_left old new P Q leaves into = record {
  each = λ image left. into image (leaves.each image left);
  time = elapses_weaker leaves.time into;
}

-- calls that leave what might have been left before, and then others
pub leaves_next : {D : Type 0} (moment : D → ℕ) (may_have_left : D → ℕ → List ℕ → Type 0) (may_leave : D → List ℕ → Type 0) (one mid end : D) (P Q : List ℕ → Type 0)
    → ((since : ℕ) (image : List ℕ) → since ≤ moment mid → may_leave mid image → may_have_left mid since image)
    → LeavesOnly moment may_have_left one mid (may_leave one) → LeavesOnly moment may_have_left mid end (λ image. may_leave mid image ⊎ P image)
    → ((image : List ℕ) → P image → Q image) → LeavesOnly moment may_have_left one end (λ image. may_leave one image ⊎ Q image)
leaves_next moment may_have_left may_leave one mid end P Q counts first then into = record {
  each = λ image left. ⊎_elim (λ between. inl (first.each image between)) (λ after. from_first image after) (then.time.nothing_else (moment one) image first.time.later left);
  time = record {
    later = omega (arith, first.time.later, then.time.later);
    nothing_else = λ since image le left.
        ⊎_elim
        (λ between. ⊎_elim (λ was. inl was) (λ now. inr (inl now)) (first.time.nothing_else since image le between))
        (λ after. inr (from_first image after)) (then.time.nothing_else since image (omega (arith, le, first.time.later)) left);
    keeps = λ since image le left. then.time.keeps since image (omega (arith, le, first.time.later)) (first.time.keeps since image le left);
  };
}
  where
    from_first : (image : List ℕ) → may_leave mid image ⊎ P image → may_leave one image ⊎ Q image
    from_first image after = ⊎_elim (λ left. inl (first.each image (counts (moment one) image first.time.later left))) (λ holds. inr (into image holds)) after
