use Rattle.std.proofs.Common.{rules, ◌≡◌, ◌<◌, ◌^◌, is_ok, false}
use Rattle.ak_faults.proofs.Healths.{goes_further}
use Rattle.ak_server_runs.proofs.ServedSoFar.{none_came, none_served, one_served}
use Rattle.ak_server_runs.proofs.doors.serve_door.Goals as goal

pub returns-in_err-listen-clause-serves : goal.returns-in_err-listen-clause-serves
returns-in_err-listen-clause-serves g c =
    let failed : is_ok c.from_residual.result ≡ false = search rules in
    let fits : (g.D.Door.state c.args.door.now).accepted < 2 ^ 64 = search rules in
    none_came _ c.args.turns (g.D.Door.state c.args.door.now) (g.D.Door.state c.listen.new.self) _ _ fits c.in_err-listen.ensures.state failed

pub loop-turn-init : goal.loop-turn-init
loop-turn-init g c =
    let fits : (g.D.Door.state c.args.door.now).accepted < 2 ^ 64 = search rules in
    record {
      so_far = none_served _ (g.D.Door.state c.args.door.now) (g.D.Door.state c.listen.new.self) _ fits c.in_ok-listen.ensures.state;
      goes = c.in_ok-listen.ensures.cause.goes;
    }

pub loop-turn-preserved : goal.loop-turn-preserved
loop-turn-preserved g c =
    let accepts = c.in_ok-link.ensures.ok in
    record {
      so_far = one_served _ c.loop-turn._turn (g.D.Door.state c.args.door.now) (g.D.Door.state c.loop-turn.door) (g.D.Door.state c.accept.new.self)
          (g.D.Door.state c.serve_turn.new.door) _ _ _ c.in-Some.link c.loop-turn.invariant.so_far (rw c.in-Some.is at accepts) c.serve_turn.ensures.turn;
      goes = goes_further (goes_further c.loop-turn.invariant.goes c.in_ok-link.ensures.cause.goes) c.serve_turn.ensures.goes;
    }
