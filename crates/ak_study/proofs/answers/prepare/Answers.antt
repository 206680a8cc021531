use Rattle.std.proofs.Common.{◌∙◌, w64, SFits}
use Rattle.std.proofs.lemmas.Int.{to_z-of_z}
use Rattle.ak_faults.proofs.Healths.{goes_further}
use Rattle.ak_keep.proofs.Causing.{cause-ok}
use Rattle.ak_study.proofs.PreparedAnswers.{prepared_told}
use Rattle.ak_study.proofs.answers.prepare.Goals as goal

pub returns-clause-reads : goal.returns-clause-reads
returns-clause-reads g c =
    let at : SFits w64 c.args.at = c.ranges.at in
    let free = c.in_ok-free.ensures.reads in
    let begun = c.in_ok-begun.ensures.reads in
    record {
      kept = begun.kept ∙ free.kept;
      same = begun.same ∙ free.same;
      cause = cause-ok _ (goes_further free.cause.goes begun.cause.goes);
      told = prepared_told (g.K.Lookup.keeping c.args.keeper.now) c.args.at (record { change = c.begin_day.new.change; begun = c.in_ok-begun.begun; free = c.in_ok-free.free })
          (rw (c.first_name.ensures.name, to_z-of_z w64 c.args.at at) at free.told)
          (rw (free.same, c.new-change.ensures, to_z-of_z w64 c.args.at at) at begun.told);
    }
