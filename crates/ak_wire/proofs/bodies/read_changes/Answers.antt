use Rattle.serde_json.specs.View.{view}
use Rattle.ak_wire.proofs.ReadForms.{changes_made}
use Rattle.ak_wire.proofs.bodies.read_changes.Goals as goal

pub returns-clause-ok : goal.returns-clause-ok
returns-clause-ok c =
    changes_made (view c.args.value.now) _ _ _ _ _ _ c.in_ok-check_changes.ensures.ok c.in_ok-newer.ensures.ok c.value_under-lists.ensures c.items_at.ensures c.in_ok-decks.ensures.ok
    c.items_at-2.ensures c.in_ok-options.ensures.ok c.items_under.ensures c.in_ok-models.ensures.ok c.items_under-2.ensures c.in_ok-tags.ensures
