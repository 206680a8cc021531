use Rattle.std.proofs.Common.{◌≡◌, ◌∷◌, ◌∙◌, List, rules, refl, sym, ap, arith}
use Rattle.ak_base.specs.declared.cards.Card.{Card}
use Rattle.ak_keep.specs.WaitingCards.{last_place}
use Rattle.ak_keep.specs.declared.queue_walks.QueueWalk.{QueueWalk}
use Rattle.ak_keep.proofs.WaitingCards.{next_ahead}
use Rattle.ak_keep.proofs.queue_walks.QueueWalk.go_past.Goals as goal

pub loop-card-init : goal.loop-card-init
loop-card-init c = record { last = refl; ahead = λ ascends. record { ascends = ascends; fewer = omega arith } }

pub loop-card-preserved : goal.loop-card-preserved
loop-card-preserved c =
    let rest : c.loop-card.rest.now ≡ c.in-Some.card.now ∷ c.in-Some.others.now = search rules in
    let one = c.go_past_one.ensures.past in
    record {
      last = ap (λ (w : QueueWalk). record w { waiting = record w.waiting { past = last_place w.waiting.past c.in-Some.others.now } }) one
          ∙ ap (λ (cards : List Card). record c.loop-card.self { waiting = record c.loop-card.self.waiting { past = last_place c.loop-card.self.waiting.past cards } }) (sym rest)
          ∙ c.loop-card.invariant.last;
      ahead = λ ascends. next_ahead _ c.loop-card.self.waiting.past c.args.cards.now c.in-Some.others.now c.in-Some.card.now _ (ap (λ (w : QueueWalk). w.waiting.past) one) c.go_past_one.ensures.fewer
          (rw rest at c.loop-card.invariant.ahead ascends);
    }
