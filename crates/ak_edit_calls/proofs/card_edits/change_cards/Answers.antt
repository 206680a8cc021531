use Rattle.std.proofs.Common.{ℤ, pos, get_or, ◌∙◌, rules, w64, SFits}
use Rattle.std.proofs.lemmas.Int.{to_z-of_z}
use Rattle.ak_base.specs.declared.names.Table.TheVariants as tables
use Rattle.ak_faults.proofs.Healths.{goes_further}
use Rattle.ak_edit_calls.proofs.CardRules.{put_one}
use Rattle.ak_edit_calls.proofs.Missing.{passed_one}
use Rattle.ak_edit_calls.proofs.card_edits.change_cards.Goals as goal

pub loop-id-preserved : goal.loop-id-preserved
loop-id-preserved g c =
    let K = g.K.Lookup in
    let id : ℤ = get_or c.args.cards.now c.loop-id.id-index (pos 0) in
    let fits : SFits w64 id = search rules in
    record {
      same = c.in_ok-change_card.ensures.same ∙ c.loop-id.invariant.same;
      put = put_one (K.keeping c.args.keeper.now) (g.C.CardChange.change c.args.by.now) c.args.cards.now c.loop-id.id-index c.args.change.now c.loop-id.change c.change_card.new.change c.loop-id-test.true
          c.loop-id.invariant.put (rw c.loop-id.invariant.same at (rw (to_z-of_z w64 id fits) at c.in_ok-change_card.ensures.ok));
      missing = passed_one (K.keeping c.args.keeper.now) tables.Card c.args.cards.now c.loop-id.id-index c.in_ok-change_card.field-0 c.loop-id-test.true
          c.loop-id.invariant.missing (rw c.loop-id.invariant.same at (rw (to_z-of_z w64 id fits) at c.in_ok-change_card.ensures.refused));
      goes = goes_further c.loop-id.invariant.goes c.in_ok-change_card.ensures.cause.goes;
    }
