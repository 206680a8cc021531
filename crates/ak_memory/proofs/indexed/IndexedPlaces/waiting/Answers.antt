use Rattle.ak_memory.proofs.QueueRuns.{run_page}
use Rattle.ak_memory.proofs.indexed.IndexedPlaces.waiting.Goals as goal

pub returns : goal.returns
returns c =
    run_page c.args.self.now.cards c.args.self.now.places.entries c.args.waiting.now c.args.limit c.in_ok-page.page c.requires.current.named c.requires.keys c.in_ok-page.ensures.ordered
    c.in_ok-page.ensures.cards
