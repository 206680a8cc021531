use Rattle.ak_session.proofs.ChunkLaws.{start_given, changes_given}
use Rattle.ak_session.proofs.chunk_laws.starts_and_changes_are_given.Goals as goal

pub returns : goal.returns
returns c = record { start = start_given; changes = changes_given }
