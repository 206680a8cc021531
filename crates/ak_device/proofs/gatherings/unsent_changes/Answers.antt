use Rattle.std.proofs.Common.{◌∙◌, rules, w64, SFits}
use Rattle.std.proofs.lemmas.Int.{to_z-of_z}
use Rattle.ak_faults.proofs.Healths.{goes_further}
use Rattle.ak_keep.proofs.Causing.{cause-ok}
use Rattle.ak_device.proofs.Sending.{changes_told}
use Rattle.ak_device.proofs.gatherings.unsent_changes.Goals as goal

pub returns : goal.returns
returns g c =
    let moment : SFits w64 c.args.moment = search rules in
    record {
      reads = record {
        kept = c.in_ok-rows.ensures.reads.kept ∙ c.in_ok-head.ensures.reads.kept;
        same = c.in_ok-rows.ensures.reads.same ∙ c.in_ok-head.ensures.reads.same;
        cause = cause-ok _ (goes_further c.in_ok-head.ensures.reads.cause.goes c.in_ok-rows.ensures.reads.cause.goes);
        told = changes_told c.args.moment c.in_ok-head.head c.in_ok-rows.rows.items _ (g.K.Lookup.keeping c.args.keeper.now)
            (g.K.Lookup.keeping c.head_of.new.keeper) c.in_ok-head.ensures.reads.same c.in_ok-head.ensures.reads.told c.in_ok-rows.ensures.reads.told
            (rw (to_z-of_z w64 c.args.moment moment) at c.in_ok-changes_from.ensures);
      };
    }
