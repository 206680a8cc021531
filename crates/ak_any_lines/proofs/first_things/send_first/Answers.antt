use Rattle.std.proofs.Common.{w64, SFits}
use Rattle.std.proofs.lemmas.Int.{to_z-of_z}
use Rattle.ak_any_lines.proofs.CalledEnds.{left_as_was, listed_without, valueless_cause}
use Rattle.ak_desk_lines.specs.DeskStates.{state_of}
use Rattle.ak_edit.specs.Refusals.{IsEndFault}
use Rattle.ak_any_lines.proofs.first_things.send_first.Goals as goal

pub returns-clause-sends : goal.returns-clause-sends
returns-clause-sends g c =
    let at : SFits w64 c.args.at = c.ranges.at in
    record {
      sent = c.send_home.result;
      told = c.sent.ensures;
      ends = rw (to_z-of_z w64 c.args.at at) at c.send_home.ensures.ends;
      left = left_as_was (state_of g.K.Lookup c.args.desk.now) _ c.send_home.result c.send_home.ensures.err c.send_home.ensures.kept;
      listed = rw (c.sent.ensures) (listed_without c.send_home.result IsEndFault c.send_home.ensures.listed);
      stays = c.send_home.ensures.stays;
    }

pub returns-clause-cause : goal.returns-clause-cause
returns-clause-cause g c = rw (c.sent.ensures) (valueless_cause c.send_home.result _ _ c.send_home.ensures.cause)
