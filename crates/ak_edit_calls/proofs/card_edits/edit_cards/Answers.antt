use Rattle.std.proofs.Common.{w64, SFits}
use Rattle.std.proofs.lemmas.Int.{to_z-of_z}
use Rattle.ak_edit_calls.proofs.Answering.{on_ok-map}
use Rattle.ak_edit_calls.proofs.CardRules.{card_edit_answered, card_edit_done}
use Rattle.ak_edit_calls.specs.Calls.{DoesEdit}
use Rattle.ak_edit_calls.specs.CardEdits.{card_edit}
use Rattle.ak_edit.specs.Ends.{FinishedBy}
use Rattle.ak_edit_calls.proofs.card_edits.edit_cards.Goals as goal

pub returns-clause-edits : goal.returns-clause-edits
returns-clause-edits g c =
    let k = g.K.Lookup.keeping c.args.keeper.now in
    let change = g.C.CardChange.change c.args.edit.now.by.now in
    let cards = c.args.edit.now.cards.now in
    let o = c.change_cards.new.change in
    let fits : SFits w64 c.args.at = c.ranges.at in
    let now = g.K.Lookup.keeping c.finish.new.keeper in
    record {
      done = on_ok-map c.finish.result (FinishedBy c.args.at o k now c.args.steps.now c.finish.new.steps) (DoesEdit c.args.at (card_edit change cards) k now c.args.steps.now c.finish.new.steps)
          (card_edit_done k now c.args.at change cards o c.args.steps.now c.finish.new.steps c.requires.keeps
          (rw c.new-change.ensures at c.in_ok-change_cards.ensures.ok)) (rw (c.change_cards.ensures.same, to_z-of_z w64 c.args.at fits) at c.finish.ensures.ok);
      same = rw c.change_cards.ensures.same at c.finish.ensures.err;
      kept = c.finish.ensures.kept;
      stays = rw c.change_cards.ensures.same at c.finish.ensures.stays;
      answers = card_edit_answered k c.args.at change cards c.change_cards.new.change c.in_ok-change_cards.field-0 c.finish.result c.requires.keeps
          (rw c.new-change.ensures at c.in_ok-change_cards.ensures.ok) c.in_ok-change_cards.ensures.refused
          (rw c.change_cards.ensures.same at c.finish.ensures.known) (rw (c.change_cards.ensures.same, to_z-of_z w64 c.args.at fits) at c.finish.ensures.refused);
    }
