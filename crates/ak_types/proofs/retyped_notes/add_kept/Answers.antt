use Rattle.std.proofs.Common.{ℤ, rules, w64, SFits}
use Rattle.std.proofs.lemmas.Int.{to_z-of_z}
use Rattle.ak_types.proofs.NoteParts.{card_kept}
use Rattle.ak_types.proofs.retyped_notes.add_kept.Goals as goal

pub returns-in_ok-add_with : goal.returns-in_ok-add_with
returns-in_ok-add_with g c =
    let fits : SFits w64 c.args.id = c.ranges.id in
    let ord : ℤ = c.in-Some.card.ord in
    let there : SFits w64 ord = search rules in
    record {
      reads = record {
        kept = c.in_ok-card.ensures.reads.kept;
        same = c.in_ok-card.ensures.reads.same;
        cause = record {
          goes = c.in_ok-card.ensures.reads.cause.goes;
          failed = λ is. absurd (cc);
          unfailed = λ _ is. absurd (cc);
        };
        told = card_kept (g.K.Lookup.keeping c.args.keeper.now) c.args.retyping.now.given.now c.args.retyping.now.old.now c.args.id c.in_ok-card.field-0 c.in-Some.card c.args.kept.now c.add_with.new.kept
            (rw (to_z-of_z w64 c.args.id fits) at c.in_ok-card.ensures.reads.told) c.in-Some.is (rw (c.ord_after-ord.ensures, to_z-of_z w64 ord there) at c.in_ok-add_with.ensures);
      };
    }
