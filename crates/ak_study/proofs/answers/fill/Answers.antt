use Rattle.std.proofs.Common.{◌∙◌, refl, rules, w64, SFits}
use Rattle.std.proofs.lemmas.Int.{to_z-of_z}
use Rattle.ak_faults.proofs.Healths.{goes_further}
use Rattle.ak_keep.proofs.Causing.{cause-ok}
use Rattle.ak_study.proofs.AskedKeepers.{filled_told}
use Rattle.ak_study.proofs.answers.fill.Goals as goal

pub returns-clause-reads : goal.returns-clause-reads
returns-clause-reads g c =
    let review : SFits w64 c.args.asked.review = search rules in
    let made = c.in_ok-answering.ensures in
    let puts = c.in_ok-put_answering.ensures.reads in
    record {
      kept = puts.kept ∙ made.reads.kept;
      same = puts.same ∙ made.reads.same;
      cause = cause-ok _ (goes_further made.reads.cause.goes puts.cause.goes);
      told = filled_told (g.K.Lookup.keeping c.args.keeper.now) c.args.asked c.args.given.now
          (record { begun = c.args.asked.begun; change = c.put_answering.new.change; answering = c.in_ok-answering.answering }) refl made.was (rw (to_z-of_z w64 c.args.asked.review review) at made.id) made.scheduled made.reads.told
          (rw made.reads.same at puts.told);
    }

pub returns-clause-only : goal.returns-clause-only
returns-clause-only g c = record { only = c.in_ok-answering.ensures.only; same = c.in_ok-answering.ensures.same }
