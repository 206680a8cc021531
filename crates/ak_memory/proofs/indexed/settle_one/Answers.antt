use Rattle.std.proofs.Common.{Option, IfSome, subst}
use Rattle.ak_memory.specs.CardKeys.{AreForgotten}
use Rattle.ak_memory.specs.Places.{found_under}
use Rattle.ak_memory.specs.declared.held_rows.FoundBy.{FoundBy}
use Rattle.ak_memory.specs.declared.versions.Version.TheVariants.{Mark, Now}
use Rattle.ak_memory.proofs.Keys.{keys-same, keys-settled}
use Rattle.ak_memory.proofs.indexed.settle_one.Goals as goal

pub forget-requires : goal.forget-requires
forget-requires c =
    keys-same c.args.cards.now c.settle_under-card.new.places.entries c.drop_empty.new.places.entries c.drop_empty.ensures.rows
    (keys-settled c.args.cards.now c.args.places.now.entries c.settle_under-card.new.places.entries c.args.name c.args.version c.settle_under-card.ensures.rows c.requires)

pub returns-clause-gone : goal.returns-clause-gone
returns-clause-gone c =
    let es = c.drop_empty.new.places.entries in
    let name = c.args.name in
    subst (λ (o : Option FoundBy). IfSome o (λ was. AreForgotten c.forget.new.self (found_under Now es name) (found_under Mark es name) was name)) c.settle_under-card.ensures.card c.forget.ensures.gone
