use Rattle.std.specs.Prelude.{◌≡◌}
use Rattle.std.proofs.Common.{ap, ◌∙◌, w64}
use Rattle.std.proofs.lemmas.Int.{to_z-of_z}
use Rattle.ak_server_steps.specs.Closings.{uploaded_head}
use Rattle.ak_faults.proofs.Healths.{cause_after}
use Rattle.ak_keep.proofs.HeadNumbers.{some_collection}
use Rattle.ak_keep.specs.Keepers.{Keeping, marked_here, replaced}
use Rattle.ak_merge.specs.Commits.{uploaded_rows}
use Rattle.ak_messages.specs.declared.methods.Method.TheVariants as methods
use Rattle.ak_messages.specs.declared.replies.Reply.{Reply}
use Rattle.ak_messages.specs.declared.requests.Ask.{Ask}
use Rattle.ak_messages.specs.declared.requests.Ask.TheVariants as asks
use Rattle.ak_protocol.specs.Replies.{granted}
use Rattle.ak_server.proofs.Closing.{closed_accepts, closed_right, marked_for, upload_fits, upload_reply, upload_tables}
use Rattle.ak_server.proofs.Faulting.{err_so, if_ok, ok_so, on_ok}
use Rattle.ak_session.proofs.Ranges.{not_both}
use Rattle.ak_session.specs.Requests.{asked_method, asks_commit, same_method}
use Rattle.ak_server.proofs.serving.close_upload.Goals as goal

pub upload-requires-clause-unmarked : goal.upload-requires-clause-unmarked
upload-requires-clause-unmarked g c =
    marked_for g.K.Lookup.keeping c.args.account.now c.args.basis c.args.request.now c.requires.right c.requires.accepted (asks.Upload c.args.whole.now) c.requires.asked

pub upload-requires-clause-range : goal.upload-requires-clause-range
upload-requires-clause-range g c =
    (upload_fits g.K.Lookup.keeping c.args.account.now c.args.basis c.args.request.now c.requires.right c.requires.accepted c.args.whole.now c.requires.asked some_collection).range

pub upload-requires-clause-distinct : goal.upload-requires-clause-distinct
upload-requires-clause-distinct g c =
    (upload_fits g.K.Lookup.keeping c.args.account.now c.args.basis c.args.request.now c.requires.right c.requires.accepted c.args.whole.now c.requires.asked some_collection).names

pub upload-requires-clause-next : goal.upload-requires-clause-next
upload-requires-clause-next g c = λ k.
    (upload_fits g.K.Lookup.keeping c.args.account.now c.args.basis c.args.request.now c.requires.right c.requires.accepted c.args.whole.now c.requires.asked k).next

pub returns-clause-right : goal.returns-clause-right
returns-clause-right g c =
    on_ok c.commit.result _ _ _ _
    (λ ok live kept. closed_right g.K.Lookup.keeping c.args.account.now c.args.basis c.args.request.now c.requires.right c.requires.accepted c.commit.new.account c.args.now
    (g.K.Lookup.keeping c.upload.new.keeper) c.granted.result ok live kept
    (ap (λ (k : Keeping). k.headed.current) c.in_ok-give.ensures.ok) (ap (λ (r : Reply). r.status) c.granted.ensures)
    (λ finish. absurd (not_both finish (ap (λ (ask : Ask). same_method (asked_method ask) methods.Finish) c.requires.asked))))
    c.commit.ensures.ok c.commit.ensures.live c.commit.ensures.kept

pub returns-clause-does : goal.returns-clause-does
returns-clause-does g c =
    let made : g.K.Lookup.keeping c.upload.new.keeper ≡ replaced (uploaded_rows c.args.whole.now.rows) (uploaded_head c.args.basis.numbers c.args.whole.now c.args.now) (marked_here (g.K.Lookup.keeping c.args.account.now.keeper)) =
    rw (to_z-of_z w64 c.args.now c.ranges.now) at c.in_ok-give.ensures.ok in
    let given = c.granted.ensures ∙ ap granted (rw (to_z-of_z w64 c.args.now c.ranges.now) at c.in_ok-give.ensures.gives) in
    if_ok c.commit.result c.granted.result _ _ _ _
    (λ ok live kept. closed_accepts g.K.Lookup.keeping c.args.account.now c.args.basis c.args.request.now c.requires.right c.requires.accepted c.commit.new.account c.args.now
    (g.K.Lookup.keeping c.upload.new.keeper) c.granted.result ok live kept (ap asks_commit c.requires.asked)
    (λ s own. upload_tables g.K.Lookup.keeping c.args.account.now c.args.basis c.args.request.now c.requires.right c.requires.accepted s own c.args.now
    (g.K.Lookup.keeping c.upload.new.keeper) c.granted.result c.args.whole.now c.requires.asked made)
    (λ s own. upload_reply g.K.Lookup.keeping c.args.account.now c.args.basis c.args.request.now c.requires.right c.requires.accepted s own c.args.now
    (g.K.Lookup.keeping c.upload.new.keeper) c.granted.result c.args.whole.now c.requires.asked given))
    c.commit.ensures.reply c.commit.ensures.ok c.commit.ensures.live c.commit.ensures.kept

pub returns-clause-status : goal.returns-clause-status
returns-clause-status g c =
    ok_so c.commit.result (λ (x : Reply). x ≡ c.granted.result) (λ (x : Reply). x.status ≡ 200)
    (λ x is. ap (λ (r : Reply). r.status) (is ∙ c.granted.ensures)) c.commit.ensures.reply

pub returns-clause-err : goal.returns-clause-err
returns-clause-err g c = err_so c.commit.result _ _ (λ leaves. record { committed = leaves.committed ∙ c.in_ok-give.ensures.committed; kept = leaves.kept }) c.commit.ensures.err

pub returns-clause-cause : goal.returns-clause-cause
returns-clause-cause g c = cause_after c.in_ok-give.ensures.cause.goes c.commit.ensures.cause
