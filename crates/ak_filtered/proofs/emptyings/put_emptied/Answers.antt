use Rattle.std.proofs.Common.{◌≡◌, ◌∙◌, w64, SFits}
use Rattle.std.proofs.lemmas.Int.{to_z-of_z}
use Rattle.ak_faults.proofs.Healths.{goes_further}
use Rattle.ak_filtered.proofs.RefilledRows.{refill_told}
use Rattle.ak_filtered.specs.Refills.{no_dues}
use Rattle.ak_keep.proofs.Causing.{cause-ok}
use Rattle.ak_filtered.proofs.emptyings.put_emptied.Goals as goal

pub returns : goal.returns
returns g c =
    let fits : SFits w64 c.args.deck = c.ranges.deck in
    record {
      reads = record {
        kept = c.in_ok-put_refilled.ensures.reads.kept ∙ c.in_ok-decks.ensures.reads.kept;
        same = c.in_ok-put_refilled.ensures.reads.same ∙ c.in_ok-decks.ensures.reads.same;
        cause = cause-ok _ (goes_further c.in_ok-decks.ensures.reads.cause.goes c.in_ok-put_refilled.ensures.reads.cause.goes);
        told = refill_told (g.K.Lookup.keeping c.args.keeper.now) c.args.deck c.in_ok-decks.decks c.none-dues.result no_dues c.args.change.now c.put_refilled.new.change c.none-dues.ensures c.in_ok-decks.ensures.reads.told
            (rw (c.in_ok-decks.ensures.reads.same, to_z-of_z w64 c.args.deck fits) at c.in_ok-put_refilled.ensures.reads.told);
      };
    }
