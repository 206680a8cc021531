use Rattle.ak_filters.proofs.Reading.{first_reading}
use Rattle.ak_filters.proofs.laws.a_reading_is_shown.Goals as goal

pub returns : goal.returns
returns c = first_reading
