use Rattle.std.proofs.Common.{rules}
use Rattle.ak_json.specs.Arrays.{card_at}
use Rattle.ak_json.proofs.arrays.card_of.Goals as goal

pub returns : goal.returns
unfolding card_at
returns c = search rules fits 20000 depth 80
