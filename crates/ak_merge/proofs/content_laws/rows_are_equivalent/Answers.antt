use Rattle.ak_merge.proofs.ContentLaws.{rows-itself, rows-turned, rows-through}
use Rattle.ak_merge.proofs.content_laws.rows_are_equivalent.Goals as goal

pub returns : goal.returns
returns c = record { itself = rows-itself; turned = rows-turned; through = rows-through }
