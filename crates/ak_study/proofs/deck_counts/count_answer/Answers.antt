use Rattle.std.proofs.Common.{◌≡◌, ◌∙◌, ◌&&◌, not, false, pos, rules, w64, SFits}
use Rattle.std.proofs.lemmas.Int.{to_z-of_z}
use Rattle.std.specs.Ordering.{int_eq}
use Rattle.ak_faults.proofs.Healths.{goes_further}
use Rattle.ak_keep.proofs.Causing.{cause-ok}
use Rattle.ak_study.proofs.PreparedAnswers.{counts_told}
use Rattle.ak_study.proofs.deck_counts.count_answer.Goals as goal

pub returns-in_ok-count_in-in-Some : goal.returns-in_ok-count_in-in-Some
returns-in_ok-count_in-in-Some g c =
    let queue : SFits w64 c.args.card.now.queue = search rules in
    let counted : (not (int_eq c.args.card.now.queue (pos 0)) && not (int_eq c.args.card.now.queue (pos 2))) ≡ false = search rules in
    let home = c.in_ok-home.ensures.reads in
    let counts = c.in_ok-count_in-in-Some.ensures.reads in
    record {
      reads = record {
        kept = counts.kept ∙ home.kept;
        same = counts.same ∙ home.same;
        cause = cause-ok _ (goes_further home.cause.goes counts.cause.goes);
        told = counts_told (g.R.Lookup.keeping c.args.from.now) c.args.day c.args.card.now c.in-Some.home c.in_ok-home.field-0 c.args.change.now c.count_in.new.change counted c.in-Some.is
            home.told (rw (home.same, to_z-of_z w64 c.args.card.now.queue queue) at counts.told);
      };
    }
