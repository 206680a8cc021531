use Rattle.std.proofs.Common.{◌∙◌}
use Rattle.ak_faults.proofs.Healths.{goes_further}
use Rattle.ak_keep.proofs.Causing.{cause-ok}
use Rattle.ak_study.proofs.PreparedAnswers.{put_told}
use Rattle.ak_study.proofs.answers.put_answering.Goals as goal

pub returns : goal.returns
returns g c =
    let K = g.K.Lookup in
    let listed = c.in_ok-siblings.ensures.reads in
    let buried = c.in_ok-bury_siblings.ensures.reads in
    let counted = c.in_ok-count_answer.ensures.reads in
    let tagged = c.in_ok-tag_leech.ensures.reads in
    record {
      reads = record {
        kept = tagged.kept ∙ counted.kept ∙ buried.kept ∙ listed.kept;
        same = tagged.same ∙ counted.same ∙ buried.same ∙ listed.same;
        cause = cause-ok _ (goes_further (goes_further (goes_further listed.cause.goes buried.cause.goes) counted.cause.goes) tagged.cause.goes);
        told = put_told (K.keeping c.args.keeper.now) c.args.day c.args.answering.now c.in_ok-siblings.siblings c.args.change.now c.bury_siblings.new.change c.put_made.new.change c.count_answer.new.change c.tag_leech.new.change
            listed.told (rw (c.as_slice.ensures, listed.same) at buried.told) c.in_ok-put_made.ensures
            (rw (buried.same ∙ listed.same) at counted.told) (rw (counted.same ∙ buried.same ∙ listed.same) at tagged.told);
      };
    }
