use Rattle.std.specs.Prelude.{◌≡◌}
use Rattle.std.proofs.Common.{ap, ◌∙◌, w64}
use Rattle.std.proofs.lemmas.Int.{to_z-of_z}
use Rattle.ak_server_steps.specs.Closings.{finished_moment, finished_usn}
use Rattle.ak_faults.proofs.Healths.{cause_after}
use Rattle.ak_keep.specs.Keepers.{Keeping, moments_set}
use Rattle.ak_messages.specs.MessageForms.{is_given_to}
use Rattle.ak_messages.specs.declared.methods.Method.TheVariants as methods
use Rattle.ak_messages.specs.declared.replies.Reply.{Reply}
use Rattle.ak_messages.specs.declared.requests.Ask.TheVariants as asks
use Rattle.ak_protocol.specs.Replies.{granted}
use Rattle.ak_server.proofs.Closing.{closed_accepts, closed_right, finish_gives, finish_reply, finish_tables, marked_for, room_for_finish}
use Rattle.ak_server.proofs.Faulting.{err_so, if_ok, ok_so, on_ok}
use Rattle.ak_session.specs.Requests.{asks_commit}
use Rattle.ak_server.proofs.serving.close_sync.Goals as goal

pub finish-requires-clause-marked : goal.finish-requires-clause-marked
finish-requires-clause-marked g c =
    marked_for g.K.Lookup.keeping c.args.account.now c.args.basis c.args.request.now c.requires.right c.requires.accepted asks.Finish c.requires.asked

pub finish-requires-clause-next : goal.finish-requires-clause-next
finish-requires-clause-next g c =
    room_for_finish g.K.Lookup.keeping c.args.account.now c.args.basis c.args.request.now c.requires.right c.requires.accepted c.requires.asked

pub returns-clause-right : goal.returns-clause-right
returns-clause-right g c =
    on_ok c.commit.result _ _ _ _
    (λ ok live kept. closed_right g.K.Lookup.keeping c.args.account.now c.args.basis c.args.request.now c.requires.right c.requires.accepted c.commit.new.account c.args.now
    (g.K.Lookup.keeping c.finish.new.keeper) c.granted.result ok live kept
    (ap (λ (k : Keeping). k.headed.current) c.in_ok-give.ensures.ok ∙ c.requires.right.keeper.held) (ap (λ (r : Reply). r.status) c.granted.ensures)
    (finish_gives c.args.request.now c.granted.result _ c.requires.asked (c.granted.ensures ∙ ap granted c.in_ok-give.ensures.gives)))
    c.commit.ensures.ok c.commit.ensures.live c.commit.ensures.kept

pub returns-clause-does : goal.returns-clause-does
returns-clause-does g c =
    let made : g.K.Lookup.keeping c.finish.new.keeper ≡ moments_set (finished_moment c.args.basis c.args.now) c.args.basis.numbers.schema (finished_usn c.args.basis) c.args.basis.numbers.last_sync (g.K.Lookup.keeping c.args.account.now.keeper) =
    rw (to_z-of_z w64 c.args.now c.ranges.now) at c.in_ok-give.ensures.ok in
    let given = c.granted.ensures ∙ ap granted (rw (to_z-of_z w64 c.args.now c.ranges.now) at c.in_ok-give.ensures.gives) in
    if_ok c.commit.result c.granted.result _ _ _ _
    (λ ok live kept. closed_accepts g.K.Lookup.keeping c.args.account.now c.args.basis c.args.request.now c.requires.right c.requires.accepted c.commit.new.account c.args.now
    (g.K.Lookup.keeping c.finish.new.keeper) c.granted.result ok live kept (ap asks_commit c.requires.asked)
    (λ s own. finish_tables g.K.Lookup.keeping c.args.account.now c.args.basis c.args.request.now c.requires.right c.requires.accepted s own c.args.now
    (g.K.Lookup.keeping c.finish.new.keeper) c.granted.result c.requires.clock c.requires.asked made)
    (λ s own. finish_reply g.K.Lookup.keeping c.args.account.now c.args.basis c.args.request.now c.requires.right c.requires.accepted s own c.args.now
    (g.K.Lookup.keeping c.finish.new.keeper) c.granted.result c.requires.clock c.requires.asked given))
    c.commit.ensures.reply c.commit.ensures.ok c.commit.ensures.live c.commit.ensures.kept

pub returns-clause-status : goal.returns-clause-status
returns-clause-status g c =
    ok_so c.commit.result (λ (x : Reply). x ≡ c.granted.result) (λ (x : Reply). x.status ≡ 200)
    (λ x is. ap (λ (r : Reply). r.status) (is ∙ c.granted.ensures)) c.commit.ensures.reply

pub returns-clause-err : goal.returns-clause-err
returns-clause-err g c = err_so c.commit.result _ _ (λ leaves. record { committed = leaves.committed ∙ c.in_ok-give.ensures.committed; kept = leaves.kept }) c.commit.ensures.err

pub returns-clause-cause : goal.returns-clause-cause
returns-clause-cause g c = cause_after c.in_ok-give.ensures.cause.goes c.commit.ensures.cause

pub returns-clause-spares : goal.returns-clause-spares
returns-clause-spares g c = λ spares.
    c.commit.ensures.spares spares (ap (λ (r : Reply). is_given_to methods.Finish r.give) (c.granted.ensures ∙ ap granted c.in_ok-give.ensures.gives))
