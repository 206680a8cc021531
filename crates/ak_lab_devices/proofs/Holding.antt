-- A keeper that holds a head holds a collection; and what is read of its rows and its head is what is shown of that.
use Rattle.std.proofs.Common.{◌≡◌, ap, sym, ◌∙◌, subst, ℕ, List, Option, Some, Result, Ok, Err, IfOk}
use Rattle.std.specs.Option.{option_map}
use Rattle.ak_base.specs.declared.heads.Head.{Head}
use Rattle.ak_keep.specs.Collections.{Collection, Holding as Held}
use Rattle.ak_keep.specs.Marks.{WithMark}
use Rattle.ak_lab_devices.specs.RestingKeepers.{Holds}
use Rattle.ak_lab_devices.specs.Shows.{shown_lines}
use Rattle.ak_lab_lines.specs.declared.lab_lines.Shown.{Shown}

-- the rows that are held, with a head
abbrev pub with_head : WithMark Held → Head → Collection
with_head kept head = record { rows = kept.current.rows; head = head }

pub holds_it : (kept : WithMark Held) (head : Head) → kept.current.head ≡ Some head → Holds kept (with_head kept head)
holds_it kept head is = ap (option_map (λ (head : Head). with_head kept head)) is

-- lines that are those of the rows and the head
pub shows_lines : {E : Type 0} (kept : WithMark Held) (head : Head) (what kind : Shown) (result : Result (List (List ℕ)) E)
    → kept.current.head ≡ Some head → what ≡ kind
    → IfOk result (λ lines. lines ≡ shown_lines kind (with_head kept head))
    → IfOk result (λ lines. (c : Collection) × Holds kept c × (lines ≡ shown_lines what c))
shows_lines kept head what kind (Err fault) is same lines = tt
shows_lines kept head what kind (Ok found) is same lines =
    (with_head kept head, holds_it kept head is, lines ∙ ap (λ (it : Shown). shown_lines it (with_head kept head)) (sym same))

-- the same of what was read of a keeper that kept the same, if a fault of it is told in another way
pub shows_read : {E F : Type 0} (kept now : WithMark Held) (head : Head) (what kind : Shown)
    (read : Result (List (List ℕ)) F) (result : Result (List (List ℕ)) E)
    → kept.current.head ≡ Some head → now ≡ kept → what ≡ kind
    → IfOk read (λ lines. lines ≡ shown_lines kind (with_head now head))
    → IfOk result (λ lines. read ≡ Ok lines)
    → IfOk result (λ lines. (c : Collection) × Holds kept c × (lines ≡ shown_lines what c))
shows_read kept now head what kind read (Err fault) is same kind_is lines told = tt
shows_read {E = E} {F = F} kept now head what kind read (Ok found) is same kind_is lines told =
    shows_lines {E = E} kept head what kind (Ok found) is kind_is
    (subst (λ (w : WithMark Held). found ≡ shown_lines kind (with_head w head)) same
    (subst (λ (it : Result (List (List ℕ)) F). IfOk it (λ lines. lines ≡ shown_lines kind (with_head now head))) told lines))
