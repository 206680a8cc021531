use Rattle.ak_sync_in_memory.proofs.Growing.{comes_further, comes_nothing, comes_request, comes_view}
use Rattle.ak_sync_in_memory.proofs.between_laws.others_may_act.Goals as goal

pub returns : goal.returns
returns c = record { nothing = comes_nothing; view = comes_view; request = comes_request; further = comes_further }
