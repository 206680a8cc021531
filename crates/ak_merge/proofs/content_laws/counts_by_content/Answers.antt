use Rattle.ak_merge.proofs.ContentLaws.{counts_by_content}
use Rattle.ak_merge.proofs.content_laws.counts_by_content.Goals as goal

pub returns : goal.returns
returns c = counts_by_content
