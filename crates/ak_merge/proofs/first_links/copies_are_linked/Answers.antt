use Rattle.ak_merge.proofs.FirstLinks.{copies_are_linked, copies_have_content}
use Rattle.ak_merge.proofs.first_links.copies_are_linked.Goals as goal

pub returns : goal.returns
returns c = record { linked = copies_are_linked; content = copies_have_content }
