use Rattle.std.proofs.Common.{◌≡◌, ◌∙◌, ap, false, true, IfSome, Option, rules, subst, w64, SFits}
use Rattle.std.proofs.lemmas.Int.{to_z-of_z}
use Rattle.ak_base.specs.Heads.{IsHeadInRange}
use Rattle.ak_base.specs.declared.heads.Conf.{Conf}
use Rattle.ak_base.specs.declared.heads.Head.{Head}
use Rattle.ak_edit.specs.Overlays.{conf_over}
use Rattle.ak_faults.proofs.Healths.{goes_further}
use Rattle.ak_keep.proofs.Causing.{cause-ok}
use Rattle.ak_study.proofs.DayBeginnings.{begins, begun_before}
use Rattle.ak_study.specs.DayStarts.{is_new_day}
use Rattle.ak_study.proofs.day_starts.begin_day.Goals as goal

pub returns-then-head-day-clause-reads : goal.returns-then-head-day-clause-reads
returns-then-head-day-clause-reads g c =
    let at : SFits w64 c.args.at = c.ranges.at in
    let crt : SFits w64 c.in-Some.head.crt = search rules in
    let old : is_new_day c.of-day.result c.in-Some.head.conf ≡ false = search rules in
    record {
      kept = c.in_ok-head.ensures.reads.kept;
      same = c.in_ok-head.ensures.reads.same;
      cause = cause-ok _ c.in_ok-head.ensures.reads.cause.goes;
      told = begun_before (g.K.Lookup.keeping c.args.keeper.now).told c.args.at c.in-Some.head c.in_ok-head.field-0 c.of-day.result c.args.change.now c.in-Some.is c.in_ok-head.ensures.reads.told
          (rw (to_z-of_z w64 c.in-Some.head.crt crt, to_z-of_z w64 c.args.at at) at c.of-day.ensures.day) old;
    }

pub begun_on-requires-clause-range : goal.begun_on-requires-clause-range
begun_on-requires-clause-range g c =
    let range : IsHeadInRange c.in-Some.head = subst (λ (o : Option Head). IfSome o IsHeadInRange) c.in-Some.is (c.in_ok-head.ensures.range c.marked-checks.ensures.checks) in
    range.conf

pub returns-clause-reads : goal.returns-clause-reads
returns-clause-reads g c =
    let at : SFits w64 c.args.at = c.ranges.at in
    let crt : SFits w64 c.in-Some.head.crt = search rules in
    let new : is_new_day c.of-day.result c.in-Some.head.conf ≡ true = search rules in
    record {
      kept = c.in_ok-bring_back.ensures.reads.kept ∙ c.in_ok-head.ensures.reads.kept;
      same = c.in_ok-bring_back.ensures.reads.same ∙ c.in_ok-head.ensures.reads.same;
      cause = cause-ok _ (goes_further c.in_ok-head.ensures.reads.cause.goes c.in_ok-bring_back.ensures.reads.cause.goes);
      told = begins (g.K.Lookup.keeping c.args.keeper.now).told c.args.at c.in-Some.head c.in_ok-head.field-0 c.of-day.result c.args.change.now c.bring_back.new.change c.set_conf.new.self
          c.in-Some.is c.in_ok-head.ensures.reads.told
          (rw (to_z-of_z w64 c.in-Some.head.crt crt, to_z-of_z w64 c.args.at at) at c.of-day.ensures.day) new
          (rw c.in_ok-head.ensures.reads.same at c.in_ok-bring_back.ensures.reads.told)
          (c.set_conf.ensures ∙ ap (λ (conf : Conf). conf_over conf c.bring_back.new.change) c.begun_on.ensures.conf);
    }
