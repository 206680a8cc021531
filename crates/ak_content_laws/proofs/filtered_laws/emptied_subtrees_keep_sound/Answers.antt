use Rattle.ak_content_laws.proofs.CallEnds.{subtree_emptied}
use Rattle.ak_content_laws.proofs.Keepings.{where_told}
use Rattle.ak_filtered.specs.Emptyings.{EndsEmptied, filtered_below}
use Rattle.ak_content_laws.proofs.filtered_laws.emptied_subtrees_keep_sound.Goals as goal

pub returns : goal.returns
returns c = λ at deck before now steps left result ends held. subtree_emptied at (filtered_below deck held.c.rows) before now steps left result held
    (where_told before held.c (λ c. EndsEmptied at (filtered_below deck c.rows) before now steps left result) held.told ends)
