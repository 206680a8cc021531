use Rattle.ak_merge.proofs.ExchangeLaws.{settled_tag_usn}
use Rattle.ak_merge.proofs.TagLists.{settled_names, settled_order, settled_in_range}
use Rattle.ak_merge.proofs.tag_laws.settled_tags_stay_lawful.Goals as goal

pub returns : goal.returns
returns c = record { names = settled_names; ordered = settled_order; in_range = settled_in_range; numbers = settled_tag_usn }
