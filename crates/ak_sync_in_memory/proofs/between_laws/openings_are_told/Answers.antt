use Rattle.ak_sync_in_memory.proofs.Growing.{collection_told, host_told}
use Rattle.ak_sync_in_memory.proofs.between_laws.openings_are_told.Goals as goal

pub returns : goal.returns
returns c = record { host = host_told; collection = collection_told }
