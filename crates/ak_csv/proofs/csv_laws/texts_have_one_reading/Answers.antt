use Rattle.ak_csv.proofs.OneReading.{one_reading}
use Rattle.ak_csv.proofs.csv_laws.texts_have_one_reading.Goals as goal

pub returns : goal.returns
returns c = one_reading
