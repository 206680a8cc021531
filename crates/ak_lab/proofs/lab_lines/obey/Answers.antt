use Rattle.ak_lab.proofs.Numbers.{clock_came, lines_came, lines_ready, ready_then, review_came, shift_came}
use Rattle.std.proofs.Common.{refl, subst}
use Rattle.ak_lab_lines.specs.Written.{IsLabLine}
use Rattle.ak_lab.proofs.lab_lines.obey.Goals as goal

pub returns-in-Clock-clause-ends : goal.returns-in-Clock-clause-ends
returns-in-Clock-clause-ends c =
    lines_came _ _ _ _ _ c.as_lines.result refl c.as_lines.ensures
    (clock_came c.in-Clock.at _ _ _ _ c.in-Clock.is c.requires.line c.set_clock-came.ensures.ends)

pub returns-in-Shift-clause-ends : goal.returns-in-Shift-clause-ends
returns-in-Shift-clause-ends c =
    lines_came _ _ _ _ _ c.as_lines-in-Shift.result refl c.as_lines-in-Shift.ensures
    (shift_came c.in-Shift.device c.in-Shift.by _ _ _ _ c.in-Shift.is c.requires.line c.shift-came.ensures.ends)

pub returns-in-Review-clause-ends : goal.returns-in-Review-clause-ends
returns-in-Review-clause-ends c =
    lines_came _ _ _ _ _ c.as_lines-in-Review.result refl c.as_lines-in-Review.ensures
    (review_came c.in-Review.device c.in-Review.card c.in-Review.ease c.in-Review.count _ _ _ _
    c.in-Review.is c.requires.line c.review-came.ensures.ends)

pub returns-in-Device-clause-ends : goal.returns-in-Device-clause-ends
returns-in-Device-clause-ends c = lines_came _ _ _ _ _ c.as_lines-in-Device.result c.in-Device.is c.as_lines-in-Device.ensures c.add_device-came.ensures.ends

pub returns-in-Sync-clause-ends : goal.returns-in-Sync-clause-ends
returns-in-Sync-clause-ends c = lines_came _ _ _ _ _ c.as_lines-in-Sync.result c.in-Sync.is c.as_lines-in-Sync.ensures c.run_session-lab.ensures.ends

pub returns-in-Transfer-clause-ends : goal.returns-in-Transfer-clause-ends
returns-in-Transfer-clause-ends c = lines_came _ _ _ _ _ c.as_lines-in-Transfer.result c.in-Transfer.is c.as_lines-in-Transfer.ensures c.run_session-lab-in-Transfer.ensures.ends

pub returns-in-Disturb-clause-ends : goal.returns-in-Disturb-clause-ends
returns-in-Disturb-clause-ends c = lines_came _ _ _ _ _ c.as_lines-in-Disturb.result c.in-Disturb.is c.as_lines-in-Disturb.ensures c.plan_mishap-came.ensures.ends

pub returns-in-Cross-clause-ends : goal.returns-in-Cross-clause-ends
returns-in-Cross-clause-ends c = lines_came _ _ _ _ _ c.as_lines-in-Cross.result c.in-Cross.is c.as_lines-in-Cross.ensures c.plan_crossing-came.ensures.ends

pub returns-in-Replay-clause-ends : goal.returns-in-Replay-clause-ends
returns-in-Replay-clause-ends c = lines_came _ _ _ _ _ c.as_lines-in-Replay.result c.in-Replay.is c.as_lines-in-Replay.ensures c.plan_replay-came.ensures.ends

pub returns-in-Resend-clause-ends : goal.returns-in-Resend-clause-ends
returns-in-Resend-clause-ends c = lines_came _ _ _ _ _ c.as_lines-in-Resend.result c.in-Resend.is c.as_lines-in-Resend.ensures c.resend-came.ensures.ends

pub returns-in-Break-clause-ends : goal.returns-in-Break-clause-ends
returns-in-Break-clause-ends c = lines_came _ _ _ _ _ c.as_lines-in-Break.result c.in-Break.is c.as_lines-in-Break.ensures c.plan_break-came.ensures.ends

pub returns-in-Show-clause-ends : goal.returns-in-Show-clause-ends
returns-in-Show-clause-ends c = lines_came _ _ _ _ _ c.as_lines-in-Show.result c.in-Show.is c.as_lines-in-Show.ensures c.show-came.ensures.ends

pub returns-in-Count-clause-ends : goal.returns-in-Count-clause-ends
returns-in-Count-clause-ends c = lines_came _ _ _ _ _ c.as_lines-in-Count.result c.in-Count.is c.as_lines-in-Count.ensures c.count-came.ensures.ends

pub returns-in-Requests-clause-ends : goal.returns-in-Requests-clause-ends
returns-in-Requests-clause-ends c = lines_came _ _ _ _ _ c.as_lines-in-Requests.result c.in-Requests.is c.as_lines-in-Requests.ensures c.requests-came.ensures.ends

pub returns-in-Sync-clause-ready : goal.returns-in-Sync-clause-ready
returns-in-Sync-clause-ready c = lines_ready _ _ c.as_lines-in-Sync.result c.as_lines-in-Sync.ensures c.run_session-lab.ensures.ready

pub returns-in-Transfer-clause-ready : goal.returns-in-Transfer-clause-ready
returns-in-Transfer-clause-ready c = lines_ready _ _ c.as_lines-in-Transfer.result c.as_lines-in-Transfer.ensures c.run_session-lab-in-Transfer.ensures.ready

pub returns-in-Clock-clause-ready : goal.returns-in-Clock-clause-ready
returns-in-Clock-clause-ready c = ready_then _ _ c.set_clock-came.ensures.ready

pub returns-in-Shift-clause-ready : goal.returns-in-Shift-clause-ready
returns-in-Shift-clause-ready c = ready_then _ _ c.shift-came.ensures.ready

pub returns-in-Review-clause-ready : goal.returns-in-Review-clause-ready
returns-in-Review-clause-ready c = ready_then _ _ c.review-came.ensures.ready

pub returns-in-Device-clause-ready : goal.returns-in-Device-clause-ready
returns-in-Device-clause-ready c = ready_then _ _ c.add_device-came.ensures.ready

pub returns-in-Disturb-clause-ready : goal.returns-in-Disturb-clause-ready
returns-in-Disturb-clause-ready c = ready_then _ _ c.plan_mishap-came.ensures.ready

pub returns-in-Cross-clause-ready : goal.returns-in-Cross-clause-ready
returns-in-Cross-clause-ready c = ready_then _ _ c.plan_crossing-came.ensures.ready

pub returns-in-Replay-clause-ready : goal.returns-in-Replay-clause-ready
returns-in-Replay-clause-ready c = ready_then _ _ c.plan_replay-came.ensures.ready

pub returns-in-Resend-clause-ready : goal.returns-in-Resend-clause-ready
returns-in-Resend-clause-ready c = ready_then _ _ c.resend-came.ensures.ready

pub returns-in-Break-clause-ready : goal.returns-in-Break-clause-ready
returns-in-Break-clause-ready c = ready_then _ _ c.plan_break-came.ensures.ready

pub returns-in-Show-clause-ready : goal.returns-in-Show-clause-ready
returns-in-Show-clause-ready c = ready_then _ _ c.show-came.ensures.ready

pub returns-in-Count-clause-ready : goal.returns-in-Count-clause-ready
returns-in-Count-clause-ready c = ready_then _ _ c.count-came.ensures.ready

pub returns-in-Requests-clause-ready : goal.returns-in-Requests-clause-ready
returns-in-Requests-clause-ready c = ready_then _ _ c.requests-came.ensures.ready

pub plan_replay-came-requires-clause-from : goal.plan_replay-came-requires-clause-from
plan_replay-came-requires-clause-from c = (subst IsLabLine c.in-Replay.is c.requires.line).1.from_fits

pub plan_replay-came-requires-clause-count : goal.plan_replay-came-requires-clause-count
plan_replay-came-requires-clause-count c = (subst IsLabLine c.in-Replay.is c.requires.line).1.count_fits

pub resend-came-requires-clause-from : goal.resend-came-requires-clause-from
resend-came-requires-clause-from c = (subst IsLabLine c.in-Resend.is c.requires.line).0

pub resend-came-requires-clause-count : goal.resend-came-requires-clause-count
resend-came-requires-clause-count c = (subst IsLabLine c.in-Resend.is c.requires.line).1
