use Rattle.std.proofs.Common.{◌≡◌, ◌++◌, drop, map}
use Rattle.std.specs.Option.{option_map}
use Rattle.ak_search.specs.Terms.{wholes}
use Rattle.ak_search.proofs.ids.read_ids.Given as goal

abbrev pub invariant-loop-text : goal.invariant-loop-text
invariant-loop-text l = option_map (λ ids. l.ids ++ ids) (wholes (map (λ text. text.now) (drop l.text-index l.texts))) ≡ wholes (map (λ text. text.now) l.texts)
