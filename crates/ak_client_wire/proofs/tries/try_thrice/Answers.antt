use Rattle.std.proofs.Common.{sym, ◌∙◌}
use Rattle.ak_client_wire.proofs.Trying.{first_try, second_try, third_try}
use Rattle.ak_client_wire.proofs.tries.try_thrice.Goals as goal

pub returns-then-not-is_failed : goal.returns-then-not-is_failed
returns-then-not-is_failed g c = record {
  tried = first_try c.args.request.now _ _ _ _ _ c.call-first.ensures.called (sym c.is_failed.ensures ∙ c.if-not-is_failed.true);
}

pub returns-then-not-is_failed-2 : goal.returns-then-not-is_failed-2
returns-then-not-is_failed-2 g c = record {
  tried = second_try c.args.request.now _ _ _ _ _ _ _ _ c.call-first.ensures.called (sym c.is_failed.ensures ∙ c.if-not-is_failed.false)
      c.call-second.ensures.called (sym c.is_failed-2.ensures ∙ c.if-not-is_failed-2.true);
}

pub returns : goal.returns
returns g c = record {
  tried = third_try c.args.request.now _ _ _ _ _ _ _ _ _ _ _ c.call-first.ensures.called (sym c.is_failed.ensures ∙ c.if-not-is_failed.false)
      c.call-second.ensures.called (sym c.is_failed-2.ensures ∙ c.if-not-is_failed-2.false) c.call.ensures.called;
}
