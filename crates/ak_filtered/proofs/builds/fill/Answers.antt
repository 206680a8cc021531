use Rattle.std.proofs.Common.{◌≡◌, ◌∙◌, ap, w64, SFits}
use Rattle.std.proofs.lemmas.Int.{to_z-of_z}
use Rattle.ak_faults.proofs.Healths.{goes_further}
use Rattle.ak_filtered.proofs.Filling.{few_enough, filled_told}
use Rattle.ak_filtered.specs.Builds.{due_in}
use Rattle.ak_keep.proofs.Causing.{cause-ok}
use Rattle.ak_filtered.proofs.builds.fill.Goals as goal

pub of-requires : goal.of-requires
of-requires g c = rw c.as_slice.ensures (few_enough c.args.planned.now.plan c.in_ok-chosen.chosen c.requires.range c.in_ok-chosen.ensures.few)

pub returns : goal.returns
returns g c =
    let at : SFits w64 c.args.at = c.ranges.at in
    let id : SFits w64 c.args.deck = c.ranges.deck in
    record {
      reads = record {
        kept = c.in_ok-put_refilled.ensures.reads.kept ∙ c.in_ok-chosen.ensures.reads.kept ∙ c.in_ok-day.ensures.reads.kept ∙ c.in_ok-decks.ensures.reads.kept;
        same = c.in_ok-put_refilled.ensures.reads.same ∙ c.in_ok-chosen.ensures.reads.same ∙ c.in_ok-day.ensures.reads.same ∙ c.in_ok-decks.ensures.reads.same;
        cause = cause-ok _ (goes_further c.in_ok-decks.ensures.reads.cause.goes (goes_further c.in_ok-day.ensures.reads.cause.goes
            (goes_further c.in_ok-chosen.ensures.reads.cause.goes c.in_ok-put_refilled.ensures.reads.cause.goes)));
        told = filled_told (g.K.Lookup.keeping c.args.keeper.now) c.args.at c.args.deck c.in_ok-decks.decks c.args.planned.now c.in_ok-dues.dues
            (record { day = c.in_ok-day.day; change = c.put_refilled.new.change; chosen = c.in_ok-chosen.chosen }) (c.in_ok-dues.ensures ∙ ap due_in c.as_slice.ensures)
            c.in_ok-decks.ensures.reads.told
            (rw (c.in_ok-decks.ensures.reads.same, to_z-of_z w64 c.args.at at) at c.in_ok-day.ensures.reads.told)
            (rw (c.in_ok-day.ensures.reads.same, c.in_ok-decks.ensures.reads.same, to_z-of_z w64 c.args.deck id) at c.in_ok-chosen.ensures.reads.told)
            (rw (c.in_ok-chosen.ensures.reads.same, c.in_ok-day.ensures.reads.same, c.in_ok-decks.ensures.reads.same, to_z-of_z w64 c.args.deck id, c.new-change.ensures) at c.in_ok-put_refilled.ensures.reads.told);
      };
    }
