use Rattle.serde_json.specs.View.{view}
use Rattle.ak_wire.proofs.ReadForms.{chunk_made}
use Rattle.ak_wire.proofs.bodies.read_chunk.Goals as goal

pub returns-clause-ok : goal.returns-clause-ok
returns-clause-ok c =
    chunk_made (view c.args.value.now) _ _ _ _ c.in_ok-check_chunk.ensures.ok c.bool_under.ensures c.items_under.ensures c.in_ok-cards.ensures.ok c.items_under-2.ensures c.in_ok-notes.ensures.ok
    c.items_under-3.ensures c.in_ok-reviews.ensures.ok
