use Rattle.ak_session.proofs.CheckLaws.{folds_hold_the_join, counts_agree, seven_counts_agree, sync_check_told, checks_test}
use Rattle.ak_session.proofs.sync_laws.checks_test_the_join.Goals as goal

pub returns : goal.returns
returns c = record { content = folds_hold_the_join; counts = counts_agree; same_counts = seven_counts_agree; told = sync_check_told; check = checks_test }
