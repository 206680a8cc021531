use Rattle.std.proofs.Common.{rules, ◌≡◌, ◌∷◌, arith}
use Rattle.ak_account_keepers.proofs.OpenedLists.{next_opened}
use Rattle.ak_account_keepers.proofs.accounts.open_listed.Goals as goal

pub loop-account-preserved : goal.loop-account-preserved
loop-account-preserved g c =
    let items : c.loop-account.account-iterator.rest.items ≡ c.in-Some.account ∷ c.next.new.self.rest.items = search (rules, c.in-Some.ensures.steps) in
    let later = c.in_ok-open_account.ensures.made.later in
    record {
      so_far = next_opened g.M.Keeper.Lookup.keeping c.args.listed _ c.in-Some.account _ (g.M.MakeKeeper.to_come c.args.maker.now) _ _ _ _ _ items
          c.loop-account.invariant.so_far c.in_ok-open_account.ensures.ok;
      later = omega (arith, c.loop-account.invariant.later, later);
    }
