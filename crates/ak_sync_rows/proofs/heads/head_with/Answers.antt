use Rattle.std.specs.Option.{option_map, unwrap_or}
use Rattle.std.specs.Prelude.{◌≡◌}
use Rattle.std.proofs.Common.{sym, subst, ◌∙◌, rules, w64, SFits}
use Rattle.std.proofs.lemmas.Int.{to_z-of_z}
use Rattle.ak_base.specs.Heads.{IsHeadInRange}
use Rattle.ak_merge.specs.Commits.{settings_of}
use Rattle.ak_session.specs.Messages.{settings_in}
use Rattle.ak_sync_rows.proofs.MadeHeads.{head_is, stamp_holds}
use Rattle.ak_sync_rows.proofs.TakenHeads.{head_fits}
use Rattle.ak_sync_rows.specs.Takes.{head_with, received_in}
use Rattle.ak_sync_rows.proofs.heads.head_with.Goals as goal

pub returns-clause-ok : goal.returns-clause-ok
returns-clause-ok c =
    let own : SFits w64 c.args.head.crt = search rules in
    let moment : SFits w64 c.args.head.moment = search rules in
    let schema : SFits w64 c.args.head.schema = search rules in
    let number : SFits w64 c.args.head.usn = search rules in
    let sync : SFits w64 c.args.head.last_sync = search rules in
    let usn : SFits w64 c.args.usn = search rules in
    let is : c.in_ok-conf.crt ≡ (unwrap_or (option_map settings_in c.args.came.now.newer) (settings_of c.args.head)).crt = rw (to_z-of_z w64 c.args.head.crt own) at c.in_ok-conf.ensures.crt in
    let crt : SFits w64 c.in_ok-conf.crt = subst (SFits w64) (sym is)
    (stamp_holds (unwrap_or (option_map settings_in c.args.came.now.newer) (settings_of c.args.head)).crt
    (head_fits c.args.usn (received_in c.args.came.now) c.args.head c.requires.range c.requires.taken c.requires.usn).crt) in
    head_is (head_with c.args.usn (received_in c.args.came.now) c.args.head) _ _ _ _ _ c.in_ok-conf.conf c.in_ok-tags.tags
    (to_z-of_z w64 c.in_ok-conf.crt crt ∙ is)
    (to_z-of_z w64 c.args.head.moment moment)
    (to_z-of_z w64 c.args.head.schema schema)
    (to_z-of_z w64 c.args.head.usn number)
    (to_z-of_z w64 c.args.head.last_sync sync)
    (rw (to_z-of_z w64 c.args.head.crt own) at c.in_ok-conf.ensures.conf)
    (rw (to_z-of_z w64 c.args.usn usn, c.as_slice.ensures) at c.in_ok-tags.ensures)

pub returns-clause-range : goal.returns-clause-range
returns-clause-range c =
    subst IsHeadInRange (sym (returns-clause-ok c))
    (head_fits c.args.usn (received_in c.args.came.now) c.args.head c.requires.range c.requires.taken c.requires.usn)
