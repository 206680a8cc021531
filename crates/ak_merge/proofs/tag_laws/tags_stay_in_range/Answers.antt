use Rattle.ak_merge.proofs.TagLaws.{tags_stay_in_range}
use Rattle.ak_merge.proofs.tag_laws.tags_stay_in_range.Goals as goal

pub returns : goal.returns
returns c = tags_stay_in_range
