use Rattle.ak_lab_joins.proofs.Reviews.{line_reviews_stay, run_reviews_stay}
use Rattle.ak_lab_joins.proofs.lab_laws.committed_reviews_stay.Goals as goal

pub returns : goal.returns
returns c = record { lines = line_reviews_stay; runs = run_reviews_stay }
