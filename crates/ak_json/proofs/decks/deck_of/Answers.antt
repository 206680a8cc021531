use Rattle.std.proofs.Common.{refl}
use Rattle.ak_base.specs.Rests.{deck_keys}
use Rattle.ak_json.proofs.Kept.{lacks_known}
use Rattle.ak_json.specs.Forms.{deck_form}
use Rattle.ak_json.proofs.decks.deck_of.Goals as goal

pub read_rest-requires : goal.read_rest-requires
read_rest-requires c = λ members. lacks_known deck_keys deck_form members refl
