use Rattle.ak_merge.proofs.ContentLaws.{sound_by_content}
use Rattle.ak_merge.proofs.content_laws.sound_by_content.Goals as goal

pub returns : goal.returns
returns c = sound_by_content
