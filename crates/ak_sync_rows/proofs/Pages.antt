-- Pages of what is wanted, one after the other.
use Rattle.std.specs.Prelude.{◌≡◌, List, ◌++◌, Option, Some, None, IfSome}
use Rattle.std.proofs.Common.{sym, ap, subst, ◌∙◌, append_assoc}
use Rattle.ak_base.specs.declared.rows.Row.{Row}
use Rattle.ak_keep.specs.Collections.{Holding}
use Rattle.ak_keep.specs.Keepers.{Keeping, WhereTold}
use Rattle.ak_keep.specs.Marks.{WithMark}

-- what is true of what is told follows from two things that are
pub both : (told : Option (WithMark Holding)) (P Q R : Holding → Type 0) → ((h : Holding) → P h → Q h → R h)
    → IfSome told (λ w. P w.current) → IfSome told (λ w. Q w.current) → IfSome told (λ w. R w.current)
both None P Q R so p q = tt
both (Some w) P Q R so p q = so w.current p q

-- the rows so far with one page more, and what is ahead after it, are all
pub next_page : (k : Keeping) (so_far page : List Row) (before after all : Holding → List Row)
    → WhereTold k (λ h. so_far ++ before h ≡ all h) → WhereTold k (λ h. before h ≡ page ++ after h)
    → WhereTold k (λ h. (so_far ++ page) ++ after h ≡ all h)
next_page k so_far page before after all have next =
    both k.told (λ h. so_far ++ before h ≡ all h) (λ h. before h ≡ page ++ after h) (λ h. (so_far ++ page) ++ after h ≡ all h)
    (λ h is more. append_assoc so_far page (after h) ∙ sym (ap (λ (rows : List Row). so_far ++ rows) more) ∙ is) have next

-- what is told of three reads in a row
pub told_thrice : (k k1 k2 : Keeping) (P Q R S : Holding → Type 0) → k1 ≡ k → k2 ≡ k1
    → ((h : Holding) → P h → Q h → R h → S h) → WhereTold k P → WhereTold k1 Q → WhereTold k2 R → WhereTold k S
told_thrice k k1 k2 P Q R S one two so p q r =
    by k.told p (subst (λ (other : Keeping). WhereTold other Q) one q) (subst (λ (other : Keeping). WhereTold other R) (two ∙ one) r)
  where
    by : (t : Option (WithMark Holding)) → IfSome t (λ w. P w.current) → IfSome t (λ w. Q w.current) → IfSome t (λ w. R w.current) → IfSome t (λ w. S w.current)
    by None p q r = tt
    by (Some w) p q r = so w.current p q r
