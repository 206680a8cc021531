use Rattle.std.specs.Prelude.{◌≡◌, pos}
use Rattle.std.proofs.Common.{sym, subst, rules, w64, SFits}
use Rattle.std.proofs.lemmas.Int.{to_z-of_z}
use Rattle.ak_base.specs.Heads.{IsMoment, IsWithin}
use Rattle.ak_base.specs.Limits.{last_head_usn}
use Rattle.ak_device.specs.Devices.{advanced_moment}
use Rattle.ak_device.proofs.closings.commit_raised.Goals as goal

pub commit_moments-requires-clause-range : goal.commit_moments-requires-clause-range
commit_moments-requires-clause-range g c =
    let moment : SFits w64 c.advanced_moment-moment.result = search rules in
    let schema : SFits w64 c.advanced_moment-schema.result = search rules in
    let usn : SFits w64 c.args.numbers.usn = search rules in
    let sync : SFits w64 c.args.numbers.last_sync = search rules in
    record {
      moment = subst IsMoment (sym (to_z-of_z w64 c.advanced_moment-moment.result moment)) c.advanced_moment-moment.ensures.range;
      schema = subst IsMoment (sym (to_z-of_z w64 c.advanced_moment-schema.result schema)) c.advanced_moment-schema.ensures.range;
      usn = subst (IsWithin (pos 0) last_head_usn) (sym (to_z-of_z w64 c.args.numbers.usn usn)) c.requires.range.moments.usn;
      last_sync = subst IsMoment (sym (to_z-of_z w64 c.args.numbers.last_sync sync)) c.requires.range.moments.last_sync;
    }

pub returns-clause-ok : goal.returns-clause-ok
returns-clause-ok g c =
    let moment : SFits w64 c.advanced_moment-moment.result = search rules in
    let schema : SFits w64 c.advanced_moment-schema.result = search rules in
    let usn : SFits w64 c.args.numbers.usn = search rules in
    let sync : SFits w64 c.args.numbers.last_sync = search rules in
    let own_moment : SFits w64 c.args.numbers.moment = search rules in
    let own_schema : SFits w64 c.args.numbers.schema = search rules in
    let m : c.advanced_moment-moment.result ≡ advanced_moment c.args.at c.args.numbers.moment = rw (to_z-of_z w64 c.args.at c.ranges.at, to_z-of_z w64 c.args.numbers.moment own_moment) at c.advanced_moment-moment.ensures.advanced in
    let s : c.advanced_moment-schema.result ≡ advanced_moment c.args.at c.args.numbers.schema = rw (to_z-of_z w64 c.args.at c.ranges.at, to_z-of_z w64 c.args.numbers.schema own_schema) at c.advanced_moment-schema.ensures.advanced in
    rw (to_z-of_z w64 c.advanced_moment-moment.result moment, to_z-of_z w64 c.advanced_moment-schema.result schema, to_z-of_z w64 c.args.numbers.usn usn, to_z-of_z w64 c.args.numbers.last_sync sync, m, s) at c.commit_moments.ensures.ok
