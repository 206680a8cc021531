use Rattle.ak_deck_paths.proofs.PathFacts.{subtree_front}
use Rattle.ak_deck_paths.proofs.deck_paths.behind.Goals as goal

pub unreachable-requires : goal.unreachable-requires
unreachable-requires c = let front = subtree_front c.args.old.now c.args.path.now c.requires in (c.in-None.ensures).cases front.0 front.1
