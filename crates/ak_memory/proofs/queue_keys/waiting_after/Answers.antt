use Rattle.std.proofs.Common.{◌≡◌, ◌<◌, ◌≤◌, ◌-◌, true, cond, List, [], ◌∷◌, ◌++◌, length, take, sym, ap, subst, ◌∙◌, arith}
use Rattle.std.specs.Option.{option_to_list}
use Rattle.ak_base.specs.declared.cards.Card.{Card}
use Rattle.ak_memory.specs.QueueKeys.{QueueKey, card_of_key, is_asked, keys_after, queue_run}
use Rattle.ak_memory.proofs.QueueRuns.{one_fits, run_ends, takes_one}
use Rattle.ak_memory.proofs.queue_keys.waiting_after.Goals as goal

pub loop-key-preserved : goal.loop-key-preserved
loop-key-preserved c =
    let limit = c.args.limit in
    let w = c.args.waiting.now in
    let places = c.args.places.now.entries in
    let page : List Card = c.loop-key.page in
    let key : QueueKey = c.in-Some.key.now in
    let o = card_of_key places key in
    let left : List Card = queue_run w places c.next.new.self in
    let all : List Card = take limit (queue_run w places (keys_after c.args.start.now c.args.keys.now.keys)) in
    let read : c.as_slice.result.now ≡ page = c.as_slice.ensures in
    let room : length page < limit = omega (arith, c.loop-key.invariant.fits, c.if-as_slice-limit.false, ap length read) in
    let asked : is_asked w key ≡ true = sym c.is_asked.ensures ∙ c.if-not-is_asked.false in
    let before : page ++ take (limit - length page) (queue_run w places (key ∷ c.next.new.self)) ≡ all =
    subst (λ (keys : List QueueKey). page ++ take (limit - length page) (queue_run w places keys) ≡ all) c.in-Some.ensures.steps c.loop-key.invariant.whole in
    let after = takes_one limit page all left o (ap (λ b. page ++ take (limit - length page) (cond b (option_to_list o ++ left) [])) (sym asked) ∙ before) room in
    let pushed : c.push_waiting.new.page ≡ page ++ option_to_list o = c.in_ok-push_waiting.ensures in
    record {
      whole = subst (λ (cards : List Card). cards ++ take (limit - length cards) left ≡ all) (sym pushed) after;
      fits = subst (λ (cards : List Card). length cards ≤ limit) (sym pushed) (one_fits limit page o room);
    }

pub returns-then-not-is_asked-clause-cards : goal.returns-then-not-is_asked-clause-cards
returns-then-not-is_asked-clause-cards c =
    let limit = c.args.limit in
    let w = c.args.waiting.now in
    let places = c.args.places.now.entries in
    let page : List Card = c.loop-key.page in
    let all : List Card = take limit (queue_run w places (keys_after c.args.start.now c.args.keys.now.keys)) in
    run_ends w places limit page all c.in-Some.key.now c.next.new.self
    (subst (λ (keys : List QueueKey). page ++ take (limit - length page) (queue_run w places keys) ≡ all) c.in-Some.ensures.steps c.loop-key.invariant.whole) (sym c.is_asked.ensures ∙ c.if-not-is_asked.true)
