use Rattle.std.proofs.Common.{sym, ◌∙◌}
use Rattle.ak_filtered.proofs.deck_makings.planned.Goals as goal

pub returns : goal.returns
returns c = record {
  above = c.pop.new.self.items;
  plain = c.in-Some.plain;
  deck = c.in_ok-deck.deck;
  made_are = sym c.into_vec-decks.ensures ∙ c.in-Some.ensures.items;
  planned_are = c.of.ensures ∙ c.in_ok-push.ensures.items;
  is_planned = c.in_ok-deck.ensures;
}
