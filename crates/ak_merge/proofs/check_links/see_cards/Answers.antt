use Rattle.std.proofs.Common.{◌<◌, ◌∙◌, length, pos, false, slice_index_or, arith}
use Rattle.ak_merge.proofs.CheckedLinks.{kept_by_set, known_more, known_one}
use Rattle.ak_merge.specs.declared.check_links.Link.{Link}
use Rattle.ak_merge.proofs.check_links.see_cards.Goals as goal

none : Link
none = record { id = pos 0; to = pos 0; ord = pos 0; good = false }

pub loop-card-preserved : goal.loop-card-preserved
unfolding none
loop-card-preserved c =
    let at : Link = slice_index_or c.loop-card.cards c.loop-card.card-index none in
    let inside : c.loop-card.card-index < length c.loop-card.cards = omega (arith, c.loop-card-test.true, c.loop-card.auto) in
    record {
      cards = kept_by_set c.loop-card.cards c.loop-card.card-index none c.see_card-near.new.card c.see_card-near.ensures.card ∙ c.loop-card.invariant.cards;
      notes = c.see_card-near.ensures.notes ∙ c.loop-card.invariant.notes;
      known = λ held known.
          let before = c.loop-card.invariant.known held known in
          known_more held c.args.types.now c.loop-card.notes c.see_card-near.new.notes c.loop-card.cards c.loop-card.card-index c.see_card-near.new.card before
          (c.see_card-near.ensures.known held (known_one held c.args.types.now c.loop-card.notes c.loop-card.cards c.loop-card.card-index none inside before));
    }
