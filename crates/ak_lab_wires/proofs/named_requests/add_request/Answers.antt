use Rattle.std.proofs.Common.{◌++◌, ap, arith}
use Rattle.ak_lab_wires.proofs.Named.{added_next, added_none, named_passed}
use Rattle.ak_lab_wires.proofs.named_requests.add_request.Goals as goal

pub returns-then-wanted-gt0 : goal.returns-then-wanted-gt0
returns-then-wanted-gt0 c = λ others.
    ap (λ l. c.args.made.now ++ l) (named_passed c.args.wanted.passed c.args.wanted.named c.args.request.now others (omega arith))

pub returns-then-wanted-eq0 : goal.returns-then-wanted-eq0
returns-then-wanted-eq0 c = λ others. added_none c.args.made.now c.args.wanted.passed c.args.wanted.named c.args.request.now others (omega (arith, c.if-wanted-eq0.true))

pub returns : goal.returns
returns c = λ others. added_next c.args.made.now c.push.new.self c.args.wanted.passed c.args.wanted.named c.in_ok-request.request c.args.request.now others (omega arith) (omega arith)
    c.in_ok-push.ensures.ok c.in_ok-request.ensures
