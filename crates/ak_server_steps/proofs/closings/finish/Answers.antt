use Rattle.std.specs.Prelude.{ℤ}
use Rattle.std.proofs.Common.{ap, ◌∙◌, rules, w64, SFits}
use Rattle.std.proofs.lemmas.Int.{to_z-of_z}
use Rattle.ak_keep.proofs.Causing.{cause-ok}
use Rattle.ak_messages.specs.declared.replies.Give.TheVariants as gives
use Rattle.ak_server_steps.specs.Closings.{finished_moment, finished_usn}
use Rattle.ak_server_steps.proofs.Finishing.{finished_fits, same_set}
use Rattle.ak_server_steps.proofs.Uploading.{at_most_last}
use Rattle.ak_server_steps.proofs.closings.finish.Goals as goal

pub finished_moment-moment-requires-clause-other : goal.finished_moment-moment-requires-clause-other
finished_moment-moment-requires-clause-other g c = at_most_last c.args.basis.live.moment c.requires.next

pub set_moments-requires-clause-range : goal.set_moments-requires-clause-range
set_moments-requires-clause-range g c =
    let moment : SFits w64 c.finished_moment-moment.result = search rules in
    let schema : SFits w64 c.args.basis.numbers.schema = search rules in
    let usn : SFits w64 c.finished_usn-usn.result = search rules in
    let sync : SFits w64 c.args.basis.numbers.last_sync = search rules in
    finished_fits c.args.basis c.args.now _ _ _ _
    (to_z-of_z w64 c.finished_moment-moment.result moment ∙ (rw (to_z-of_z w64 c.args.now c.ranges.now) at c.finished_moment-moment.ensures))
    (to_z-of_z w64 c.args.basis.numbers.schema schema)
    (to_z-of_z w64 c.finished_usn-usn.result usn ∙ c.finished_usn-usn.ensures)
    (to_z-of_z w64 c.args.basis.numbers.last_sync sync)
    c.requires.clock c.requires.held.range

pub returns-clause-gives : goal.returns-clause-gives
returns-clause-gives g c =
    let moment : SFits w64 c.finished_moment-moment.result = search rules in
    ap (λ (x : ℤ). gives.Moment x) (to_z-of_z w64 c.finished_moment-moment.result moment ∙ (rw (to_z-of_z w64 c.args.now c.ranges.now) at c.finished_moment-moment.ensures))

pub returns-clause-ok : goal.returns-clause-ok
returns-clause-ok g c =
    let moment : SFits w64 c.finished_moment-moment.result = search rules in
    let schema : SFits w64 c.args.basis.numbers.schema = search rules in
    let usn : SFits w64 c.finished_usn-usn.result = search rules in
    let sync : SFits w64 c.args.basis.numbers.last_sync = search rules in
    same_set _ _ _ _ (finished_moment c.args.basis c.args.now) c.args.basis.numbers.schema (finished_usn c.args.basis) c.args.basis.numbers.last_sync
    (g.K.Lookup.keeping c.args.keeper.now) (g.K.Lookup.keeping c.set_moments.new.self)
    (to_z-of_z w64 c.finished_moment-moment.result moment ∙ (rw (to_z-of_z w64 c.args.now c.ranges.now) at c.finished_moment-moment.ensures))
    (to_z-of_z w64 c.args.basis.numbers.schema schema)
    (to_z-of_z w64 c.finished_usn-usn.result usn ∙ c.finished_usn-usn.ensures)
    (to_z-of_z w64 c.args.basis.numbers.last_sync sync)
    c.in_ok-set_moments.ensures.ok

pub returns-clause-cause : goal.returns-clause-cause
returns-clause-cause g c = cause-ok (gives.Moment _) c.set_moments.ensures.cause.goes
