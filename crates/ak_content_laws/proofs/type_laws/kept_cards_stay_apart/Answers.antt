use Rattle.ak_content_laws.proofs.CardsApart.{cards_apart}
use Rattle.ak_content_laws.proofs.type_laws.kept_cards_stay_apart.Goals as goal

pub returns : goal.returns
returns c = λ at given held before now steps left passes is whole. cards_apart at given held before now steps left passes is whole
