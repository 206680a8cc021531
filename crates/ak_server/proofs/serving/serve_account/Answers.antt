use Rattle.std.proofs.Common.{inr}
use Rattle.ak_server.proofs.Beginning.{does_so_struck, struck_since}
use Rattle.ak_server.proofs.Settling.{set_back}
use Rattle.ak_server.proofs.serving.serve_account.Goals as goal

pub returns-in-Err-clause-serves : goal.returns-in-Err-clause-serves
returns-in-Err-clause-serves g c =
    does_so_struck g.K.Lookup.keeping c.args.account.now c.strike.new.account c.args.request.now c.requires.right
    (struck_since g.K.Lookup.keeping c.args.account.now c.attempt.new.account c.strike.new.account c.args.request.now c.in-Err.ensures.err c.strike.ensures.struck)
    c.args.now c.in-Err.fault c.setback_reply.result c.setback_reply.ensures

pub returns-in-Err-clause-replies : goal.returns-in-Err-clause-replies
returns-in-Err-clause-replies g c = inr (set_back c.in-Err.fault c.setback_reply.result c.setback_reply.ensures)
