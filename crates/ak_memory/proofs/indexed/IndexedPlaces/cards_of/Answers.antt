use Rattle.std.proofs.Common.{◌∙◌}
use Rattle.ak_memory.proofs.CardRuns.{run-cards}
use Rattle.ak_memory.proofs.indexed.IndexedPlaces.cards_of.Goals as goal

pub returns : goal.returns
returns c = c.in_ok-ids.ensures.ids ∙ run-cards c.args.note.now c.args.self.now.cards c.args.self.now.places.entries c.in_ok-ids.ensures.ordered c.requires.keys
