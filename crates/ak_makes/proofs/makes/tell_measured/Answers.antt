use Rattle.std.proofs.Common.{rules}
use Rattle.ak_makes.proofs.Lines.{told}
use Rattle.ak_makes.proofs.makes.tell_measured.Goals as goal

pub returns-in-Ok-clause-told : goal.returns-in-Ok-clause-told
returns-in-Ok-clause-told g c =
    told c.args.plan.size.notes c.args.measured.now c.in-Ok.text c.as_str.result.now c.print_ending.result (g.O.Sink.written c.args.out.now) (g.O.Sink.written c.print_ending.new.out)
    (c.is_expected.ensures.0 (search rules)) c.in-Ok.ensures c.as_str.ensures c.print_ending.ensures.printed
