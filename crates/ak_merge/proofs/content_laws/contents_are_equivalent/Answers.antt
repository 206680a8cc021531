use Rattle.ak_merge.proofs.ContentLaws.{content-itself, content-turned, content-through}
use Rattle.ak_merge.proofs.content_laws.contents_are_equivalent.Goals as goal

pub returns : goal.returns
returns c = record { itself = content-itself; turned = content-turned; through = content-through }
