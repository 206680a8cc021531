use Rattle.std.proofs.Common.{◌≡◌, [], ◌∷◌, ◌++◌, ◌∙◌, List, rules, refl, sym, ap, append_assoc}
use Rattle.ak_base.specs.declared.cards.Card.{Card}
use Rattle.ak_queue.specs.Scopes.{scope_seen}
use Rattle.ak_queue.proofs.Gatherings.{both_parts, no_part}
use Rattle.ak_queue.proofs.gathered.Gathered.add_cards.Goals as goal

pub loop-card-init : goal.loop-card-init
loop-card-init c = ([], no_part (scope_seen c.args.scope.now) c.args.self.now, refl)

pub loop-card-preserved : goal.loop-card-preserved
loop-card-preserved c =
    let rest : c.loop-card.rest.now ≡ c.in-Some.card.now ∷ c.in-Some.others.now = search rules in
    let passed : List Card = c.loop-card.invariant.0 in (
      passed ++ c.in-Some.card.now ∷ [],
      both_parts (scope_seen c.args.scope.now) passed (c.in-Some.card.now ∷ []) c.args.self.now c.loop-card.self c.add_card.new.self c.loop-card.invariant.1 c.in_ok-add_card.ensures,
      c.loop-card.invariant.2 ∙ ap (λ (cards : List Card). passed ++ cards) rest ∙ sym (append_assoc passed (c.in-Some.card.now ∷ []) c.in-Some.others.now),
    )
