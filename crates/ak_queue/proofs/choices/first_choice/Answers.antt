use Rattle.std.proofs.Common.{◌≡◌, ◌++◌, ◌∷◌, [], true, false, List, rules, sym, subst}
use Rattle.ak_queue.specs.Orders.{NewKey}
use Rattle.ak_queue.specs.Rooms.{has_room, less_one}
use Rattle.ak_queue.proofs.Rooming.{Chooses, none_chosen, none_more, one_chosen}
use Rattle.ak_queue.proofs.choices.first_choice.Goals as goal

pub loop-path-init : goal.loop-path-init
loop-path-init c =
    let gives : c.into_iter-path-iterator.result ≡ c.args.cards.now.keys = search rules in
    subst (λ (rest : List NewKey). Chooses c.args.limits.now c.args.cards.now.keys rest c.new-ids.result c.in_ok-rooms.rooms.items) (sym gives)
    (none_chosen c.args.limits.now c.args.cards.now.keys c.new-ids.result c.in_ok-rooms.rooms.items c.new-ids.ensures c.in_ok-rooms.ensures)

pub loop-path-preserved-in-Continue-branch-3 : goal.loop-path-preserved-in-Continue-branch-3
loop-path-preserved-in-Continue-branch-3 c =
    let card : NewKey = c.in-Some.field-0.now in
    let so_far : Chooses c.args.limits.now c.args.cards.now.keys (card ∷ c.next.new.self) c.loop-path.ids c.loop-path.rooms.items =
    subst (λ (rest : List NewKey). Chooses c.args.limits.now c.args.cards.now.keys rest c.loop-path.ids c.loop-path.rooms.items) c.in-Some.ensures.steps c.loop-path.invariant in
    let room : has_room c.args.limits.now c.loop-path.rooms.items card.0 ≡ true = search rules in
    let less : c.in_ok-rooms-2.rooms.items ≡ less_one c.args.limits.now c.loop-path.rooms.items card.0 = search rules in
    let step : c.push.new.self ≡ c.loop-path.ids ++ card.2 ∷ [] = search rules in
    one_chosen c.args.limits.now c.args.cards.now.keys c.next.new.self card c.loop-path.ids c.push.new.self c.loop-path.rooms.items c.in_ok-rooms-2.rooms.items so_far room less step

pub loop-path-preserved : goal.loop-path-preserved
loop-path-preserved c =
    let card : NewKey = c.in-Some.field-0.now in
    let so_far : Chooses c.args.limits.now c.args.cards.now.keys (card ∷ c.next.new.self) c.loop-path.ids c.loop-path.rooms.items =
    subst (λ (rest : List NewKey). Chooses c.args.limits.now c.args.cards.now.keys rest c.loop-path.ids c.loop-path.rooms.items) c.in-Some.ensures.steps c.loop-path.invariant in
    let room : has_room c.args.limits.now c.loop-path.rooms.items card.0 ≡ false = search rules in
    none_more c.args.limits.now c.args.cards.now.keys c.next.new.self card c.loop-path.ids c.loop-path.rooms.items so_far room
