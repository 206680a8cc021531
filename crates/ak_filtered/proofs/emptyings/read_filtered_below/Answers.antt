use Rattle.std.proofs.Common.{◌≡◌, ◌∙◌, w64, SFits}
use Rattle.std.proofs.lemmas.Int.{to_z-of_z}
use Rattle.ak_base.specs.declared.decks.Deck.{Deck}
use Rattle.ak_faults.proofs.Healths.{cause_after}
use Rattle.ak_filtered.proofs.EmptiedSubtrees.{below_told}
use Rattle.ak_filtered.proofs.Told.{ok_map}
use Rattle.ak_filtered.proofs.emptyings.read_filtered_below.Goals as goal

pub returns-in-Some : goal.returns-in-Some
returns-in-Some g c =
    let fits : SFits w64 c.args.id = c.ranges.id in
    record {
      reads = record {
        kept = c.read_filtered_under.ensures.reads.kept ∙ c.in_ok-root.ensures.reads.kept;
        same = c.read_filtered_under.ensures.reads.same ∙ c.in_ok-root.ensures.reads.same;
        cause = cause_after c.in_ok-root.ensures.reads.cause.goes c.read_filtered_under.ensures.reads.cause;
        told = ok_map c.read_filtered_under.result _ _ (λ below. below_told (g.K.Lookup.keeping c.args.keeper.now) c.args.id c.in-Some.root c.in_ok-root.field-0 below c.in-Some.is
            (rw (to_z-of_z w64 c.args.id fits) at c.in_ok-root.ensures.reads.told))
            (rw (c.in_ok-root.ensures.reads.same, c.as_str.ensures) at c.read_filtered_under.ensures.reads.told);
      };
    }
