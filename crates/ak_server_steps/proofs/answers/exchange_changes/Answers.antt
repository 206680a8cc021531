use Rattle.std.specs.Prelude.{◌≡◌}
use Rattle.std.proofs.Common.{refl, ap, subst, ◌∙◌, rules, w64, SFits}
use Rattle.std.proofs.lemmas.Int.{to_z-of_z}
use Rattle.ak_base.specs.declared.heads.Head.{Head}
use Rattle.ak_keep.specs.Keepers.{Keeping, WhereTold, changed, head_set}
use Rattle.ak_merge.specs.declared.sides.Side.TheVariants.{Server}
use Rattle.ak_messages.specs.declared.requests.Ask.TheVariants as asks
use Rattle.ak_session.specs.Asks.{brought}
use Rattle.ak_session.specs.Messages.{change_rows}
use Rattle.ak_sync_rows.specs.Takes.{head_with, with_all_taken}
use Rattle.ak_server_steps.specs.Answers.{changes_given, tables_of}
use Rattle.ak_server_steps.proofs.Answering.{changes_of_head}
use Rattle.ak_server_steps.proofs.Receiving.{changes_received}
use Rattle.ak_server_steps.proofs.answers.exchange_changes.Goals as goal

pub returns-clause-told : goal.returns-clause-told
returns-clause-told g c =
    changes_of_head c.args.live (g.K.Lookup.keeping c.args.keeper.now) c.in_ok-head.head c.in_ok-given.given c.in_ok-head.ensures.reads.told
    (subst (λ (keeping : Keeping). WhereTold keeping (λ h. c.in_ok-given.given ≡ changes_given (tables_of c.in_ok-head.head h) c.args.live)) c.in_ok-head.ensures.reads.same c.in_ok-given.ensures.reads.told)

pub returns-clause-ok : goal.returns-clause-ok
returns-clause-ok g c =
    let head : Head = c.in_ok-head.head in
    let usn : SFits w64 head.usn = search rules in
    let k = g.K.Lookup.keeping c.args.keeper.now in
    let taken = λ (held : Keeping). changed (with_all_taken Server head.usn (change_rows c.args.came.now)) held in
    let made : Head = head_with head.usn (brought (asks.ApplyChanges c.args.came.now)) head in
    changes_received (brought (asks.ApplyChanges c.args.came.now)) head made k (taken k) (g.K.Lookup.keeping c.take_changes.new.keeper)
    c.requires.held c.in_ok-head.ensures.reads.told (λ h. refl) refl
    ((rw (to_z-of_z w64 head.usn usn) at c.in_ok-take_changes.ensures.ok)
    ∙ ap (λ (held : Keeping). head_set made (taken held)) (c.in_ok-given.ensures.reads.same ∙ c.in_ok-head.ensures.reads.same))
