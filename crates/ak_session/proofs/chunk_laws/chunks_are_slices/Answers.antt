use Rattle.ak_session.proofs.ChunkLaws.{next_slice, same_fold, more_chunks}
use Rattle.ak_session.proofs.chunk_laws.chunks_are_slices.Goals as goal

pub returns : goal.returns
returns c = record { next = next_slice; same = same_fold; count = more_chunks }
