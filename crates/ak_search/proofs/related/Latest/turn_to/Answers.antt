use Rattle.std.proofs.Common.{refl, sym, ◌∙◌}
use Rattle.std.proofs.lemmas.Result.{IfOk-weaker}
use Rattle.ak_faults.proofs.Healths.{goes_nowhere}
use Rattle.ak_keep.proofs.Causing.{cause-ok}
use Rattle.ak_search.proofs.Telling.{deck_suits, none_suits, note_suits, texts_suit}
use Rattle.ak_search.proofs.related.Latest.turn_to.Goals as goal

pub returns-then-needs_texts : goal.returns-then-needs_texts
returns-then-needs_texts g c =
    let turned = c.turn_to_texts.ensures.reads in
    record {
      reads = record {
        kept = turned.kept;
        same = turned.same;
        cause = turned.cause;
        told = IfOk-weaker c.turn_to_texts.result _ _
            (λ _. texts_suit (g.R.Lookup.keeping c.args.from.now).told c.args.self.now c.turn_to_texts.new.self c.args.card.now c.args.term.now (sym c.needs_texts.ensures ∙ c.if-needs_texts.true))
            turned.told;
      };
    }

pub returns-then-needs_note : goal.returns-then-needs_note
returns-then-needs_note g c =
    let turned = c.turn_to_note.ensures.reads in
    record {
      reads = record {
        kept = turned.kept;
        same = turned.same;
        cause = turned.cause;
        told = IfOk-weaker c.turn_to_note.result _ _
            (λ _. note_suits (g.R.Lookup.keeping c.args.from.now).told c.args.self.now c.turn_to_note.new.self c.args.card.now c.args.term.now (sym c.needs_texts.ensures ∙ c.if-needs_texts.false) (sym c.needs_note.ensures ∙ c.if-needs_note.true))
            turned.told;
      };
    }

pub returns-then-needs_deck : goal.returns-then-needs_deck
returns-then-needs_deck g c =
    let turned = c.turn_to_deck.ensures.reads in
    record {
      reads = record {
        kept = turned.kept;
        same = turned.same;
        cause = turned.cause;
        told = IfOk-weaker c.turn_to_deck.result _ _
            (λ _. deck_suits (g.R.Lookup.keeping c.args.from.now).told c.args.self.now c.turn_to_deck.new.self c.args.card.now c.args.term.now (sym c.needs_texts.ensures ∙ c.if-needs_texts.false) (sym c.needs_note.ensures ∙ c.if-needs_note.false))
            turned.told;
      };
    }

pub returns : goal.returns
returns g c = record {
  reads = record {
    kept = refl;
    same = refl;
    cause = cause-ok tt (goes_nowhere (g.R.Lookup.health c.args.from.now));
    told = none_suits (g.R.Lookup.keeping c.args.from.now).told c.args.self.now c.args.card.now c.args.term.now (sym c.needs_texts.ensures ∙ c.if-needs_texts.false) (sym c.needs_note.ensures ∙ c.if-needs_note.false) (sym c.needs_deck.ensures ∙ c.if-needs_deck.false);
  };
}
