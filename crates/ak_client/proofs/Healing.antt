-- What was joined is joined once.
use Rattle.ak_keep.specs.Collections.{Collection}
use Rattle.ak_merge.proofs.JoinLaws.{join_once}
use Rattle.ak_merge.proofs.ContentLaws.{content-through}
use Rattle.ak_merge.specs.Exchanges.{HoldsJoin}
use Rattle.ak_merge.specs.Holdings.{Content, SameContent, content_of}
use Rattle.ak_merge.specs.Joins.{join}

pub joined_once : (c s t : Collection) (content : Content) → HoldsJoin c s t → SameContent content (join c t) → SameContent content (join c s)
joined_once c s t content joined same =
    content-through content (content_of t) (join c s)
    (content-through content (join c t) (content_of t) same (join_once c s t joined.content joined.past_device))
    joined.content
