use Rattle.ak_server.proofs.Settling.{stays_asked}
use Rattle.ak_server.proofs.serving.accept.Goals as goal

pub go_on-requires-clause-stays : goal.go_on-requires-clause-stays
go_on-requires-clause-stays g c = stays_asked c.args.request.now.ask c.in_default.not-Finish c.in_default.not-Upload

pub returns-in_default : goal.returns-in_default
returns-in_default g c = record {
  right = c.go_on.ensures.right;
  same = c.go_on.ensures.same;
  does = c.go_on.ensures.does c.args.now;
  status = c.go_on.ensures.status;
  err = c.go_on.ensures.err;
  cause = c.go_on.ensures.cause;
  spares = λ _ is. absurd (c.in_default.not-Finish is);
}
