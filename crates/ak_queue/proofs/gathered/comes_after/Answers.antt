use Rattle.std.proofs.Common.{◌≡◌, ◌==◌, true, Ordering, Less, Equal, Greater, arith, refl, sym, ◌∙◌, true≢false}
use Rattle.std.specs.Ordering.{ordering_index}
use Rattle.ak_queue.proofs.FirstKeys.{left_out}
use Rattle.ak_queue.proofs.Sorting.{due_total}
use Rattle.ak_queue.specs.Orders.{due_cmp}
use Rattle.ak_queue.proofs.gathered.comes_after.Goals as goal

is_less : (r : Ordering) → (ordering_index r == 0) ≡ true → r ≡ Less
is_less Less h = refl
is_less Equal h = absurd (true≢false (sym h))
is_less Greater h = absurd (true≢false (sym h))

pub returns-then-most-len : goal.returns-then-most-len
returns-then-most-len c before =
    left_out due_cmp due_total c.args.most c.in-Some.last.now c.args.key.now c.args.keys.now.keys (omega (arith, c.if-most-len.true, c.len.ensures.len))
    (sym c.cmp.ensures ∙ is_less c.cmp.result (sym c.eq.ensures ∙ before)) c.in-Some.ensures.all_up_to
