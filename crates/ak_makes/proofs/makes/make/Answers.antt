use Rattle.ak_makes.proofs.Lines.{ends}
use Rattle.ak_makes.proofs.makes.make.Goals as goal

pub returns-clause-ends : goal.returns-clause-ends
returns-clause-ends g c =
    ends c.args.plan.seed c.args.plan.size.notes c.in-Ok.measured c.tell_measured.result (g.O.Sink.written c.args.out.now) (g.O.Sink.written c.tell_measured.new.out)
    c.in-Ok.ensures c.tell_measured.ensures.told
