use Rattle.ak_merge.proofs.TagLists.{unsent_listed, from_listed, wanted_in_range}
use Rattle.ak_merge.proofs.tag_laws.wanted_tags_are_listed.Goals as goal

pub returns : goal.returns
returns c = record { unsent = unsent_listed; from = from_listed; in_range = wanted_in_range }
