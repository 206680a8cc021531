use Rattle.ak_sync_in_memory.proofs.Viewing.{collection_stays}
use Rattle.ak_sync_in_memory.proofs.copies.views_keep_the_collection.Goals as goal

pub returns : goal.returns
returns c = collection_stays
