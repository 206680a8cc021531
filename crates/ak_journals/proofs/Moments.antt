-- How a run of calls goes on.
use Rattle.std.proofs.Common.{inl, inr, ⊎_elim, ℕ, List, arith}
use Rattle.ak_disks.specs.Disks.{Elapses}
use Rattle.ak_journals.specs.Moments.{LeavesOnly}

pub elapses_weaker : {before now : ℕ} {past since : ℕ → List ℕ → Type 0} {P Q : List ℕ → Type 0} → Elapses before now past since P → ((image : List ℕ) → P image → Q image) → Elapses before now past since Q
elapses_weaker time into = record {
  later = time.later;
  nothing_else = λ t image le left. ⊎_elim (λ was. inl was) (λ now. inr (into image now)) (time.nothing_else t image le left);
  keeps = time.keeps;
}

pub elapses_next : {before mid now : ℕ} {past between since : ℕ → List ℕ → Type 0} {P Q : List ℕ → Type 0} → Elapses before mid past between P → Elapses mid now between since Q → ((image : List ℕ) → Q image → P image) → Elapses before now past since P
elapses_next first then into = record {
  later = omega (arith, first.later, then.later);
  nothing_else = λ t image le left. ⊎_elim (λ was. first.nothing_else t image le was) (λ now. inr (into image now)) (then.nothing_else t image (omega (arith, le, first.later)) left);
  keeps = λ t image le left. then.keeps t image (omega (arith, le, first.later)) (first.keeps t image le left);
}

pub elapses_not : {now : ℕ} {past : ℕ → List ℕ → Type 0} {P : List ℕ → Type 0} → Elapses now now past past P
elapses_not = record { later = omega arith; nothing_else = λ t image le left. inl left; keeps = λ t image le left. left }

-- what may be left as the run begins has P too
pub leaves_only : {D : Type 0} (moment : D → ℕ) (may_have_left : D → ℕ → List ℕ → Type 0) (may_leave : List ℕ → Type 0) (old new : D) (P : List ℕ → Type 0)
    → ((image : List ℕ) → may_have_left old (moment old) image → may_leave image) → Elapses (moment old) (moment new) (may_have_left old) (may_have_left new) P → ((image : List ℕ) → may_leave image → P image) → LeavesOnly moment may_have_left old new P
leaves_only moment may_have_left may_leave old new P only_now time first = record {
  each = λ image left. ⊎_elim (λ was. first image (only_now image was)) (λ now. now) (time.nothing_else (moment old) image (omega arith) left);
  time = time;
}
