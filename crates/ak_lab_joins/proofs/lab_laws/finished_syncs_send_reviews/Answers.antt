use Rattle.ak_lab_joins.proofs.Reviews.{reviews_sent}
use Rattle.ak_lab_joins.proofs.lab_laws.finished_syncs_send_reviews.Goals as goal

pub returns : goal.returns
returns c = λ key d made before now over. reviews_sent over.c over.base over.device over.after over.joined
