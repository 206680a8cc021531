use Rattle.std.specs.Prelude.{Some}
use Rattle.std.proofs.Common.{refl, sym, ap, ◌∙◌}
use Rattle.ak_server.proofs.GoingOn.{brought_right, ending_accepts, ending_right, going_accepts, going_right, marked_right, step_right}
use Rattle.ak_server.specs.declared.accounts.Account.{Account}
use Rattle.ak_server.proofs.serving.go_on.Goals as goal

pub answer-requires-clause-marked : goal.answer-requires-clause-marked
answer-requires-clause-marked g c = marked_right g.K.Lookup.keeping c.args.account.now c.args.basis c.args.request.now c.requires.right c.requires.accepted

pub answer-requires-clause-taken : goal.answer-requires-clause-taken
answer-requires-clause-taken g c = brought_right g.K.Lookup.keeping c.args.account.now c.args.basis c.args.request.now c.requires.right c.requires.accepted

pub with-requires-clause-room : goal.with-requires-clause-room
with-requires-clause-room g c = step_right g.K.Lookup.keeping c.args.account.now c.args.basis c.args.request.now c.requires.right c.requires.accepted

pub returns-then-ends-clause-right : goal.returns-then-ends-clause-right
returns-then-ends-clause-right g c =
    let new : Account g.row.K.Denot = record {
      name = c.end_session.new.account.name;
      host = c.end_session.new.account.host;
      keeper = c.end_session.new.account.keeper;
      live = c.end_session.new.account.live;
      kept = Some c.in_ok-kept.kept;
    } in
    ending_right g.K.Lookup.keeping c.args.account.now c.args.basis c.args.request.now c.requires.right c.requires.accepted new c.in_ok-give.field-0 c.granted-reply.result c.requires.stays
    (c.end_session.ensures.back ∙ c.in_ok-give.ensures.committed) c.in_ok-give.ensures.told c.granted-reply.ensures (ap Some c.in_ok-kept.ensures.kept) c.end_session.ensures.live

pub returns-then-ends-clause-does : goal.returns-then-ends-clause-does
returns-then-ends-clause-does g c = λ now.
    let new : Account g.row.K.Denot = record {
      name = c.end_session.new.account.name;
      host = c.end_session.new.account.host;
      keeper = c.end_session.new.account.keeper;
      live = c.end_session.new.account.live;
      kept = Some c.in_ok-kept.kept;
    } in
    ending_accepts g.K.Lookup.keeping c.args.account.now c.args.basis c.args.request.now c.requires.right c.requires.accepted new c.in_ok-give.field-0 c.granted-reply.result c.requires.stays
    (c.end_session.ensures.back ∙ c.in_ok-give.ensures.committed) c.in_ok-give.ensures.told c.granted-reply.ensures (ap Some c.in_ok-kept.ensures.kept) c.end_session.ensures.live
    (sym c.is_bad-ends.ensures ∙ c.if-ends.true) now

pub returns-clause-right : goal.returns-clause-right
returns-clause-right g c =
    going_right g.K.Lookup.keeping c.args.account.now c.args.basis c.args.request.now c.requires.right c.requires.accepted _ c.in_ok-give.field-0 c.with.result c.granted-reply.result c.requires.stays
    c.in_ok-give.ensures.ok c.in_ok-give.ensures.committed c.in_ok-give.ensures.told c.granted-reply.ensures (ap Some c.in_ok-kept.ensures.kept)
    refl c.with.ensures.summary c.with.ensures.given c.in_ok-give.ensures.given

pub returns-clause-does : goal.returns-clause-does
returns-clause-does g c = λ now.
    let new : Account g.row.K.Denot = record {
      name = c.args.account.now.name;
      host = c.args.account.now.host;
      keeper = c.answer.new.keeper;
      live = Some c.with.result;
      kept = Some c.in_ok-kept.kept;
    } in
    going_accepts g.K.Lookup.keeping c.args.account.now c.args.basis c.args.request.now c.requires.right c.requires.accepted new c.in_ok-give.field-0 c.with.result c.granted-reply.result c.requires.stays
    c.in_ok-give.ensures.ok c.in_ok-give.ensures.committed c.in_ok-give.ensures.told c.granted-reply.ensures (ap Some c.in_ok-kept.ensures.kept)
    refl c.with.ensures.summary c.with.ensures.given c.in_ok-give.ensures.given (sym c.is_bad-ends.ensures ∙ c.if-ends.false) now
