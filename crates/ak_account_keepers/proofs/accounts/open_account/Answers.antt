use Rattle.std.proofs.Common.{arith}
use Rattle.ak_account_keepers.proofs.OpenedLists.{one_more_rose, rose_from_none}
use Rattle.ak_account_keepers.proofs.accounts.open_account.Goals as goal

pub returns-in-Err-clause-made : goal.returns-in-Err-clause-made
returns-in-Err-clause-made g c =
    let made = c.in_ok-keeper.ensures.cause.goes.later in
    record {
      later = omega (arith, made, c.give_back.ensures.later);
      failed = λ is. one_more_rose (g.M.End.health c.args.maker.now) (g.M.End.health c.make.new.self) (g.M.End.health c.give_back.new.self) made
          (c.give_back.ensures.failed (rose_from_none (g.M.Keeper.Lookup.health c.in_ok-keeper.keeper) (g.M.Keeper.Lookup.health c.fill_if_empty.new.keeper)
          c.in_ok-keeper.ensures.faultless (c.in-Err.ensures.cause.failed is)));
    }
