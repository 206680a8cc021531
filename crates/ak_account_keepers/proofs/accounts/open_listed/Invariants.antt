use Rattle.std.proofs.Common.{◌≤◌}
use Rattle.ak_account_keepers.proofs.OpenedLists.{HasOpened}
use Rattle.ak_account_keepers.proofs.accounts.open_listed.Given as goal

abbrev pub invariant-loop-account : goal.invariant-loop-account
invariant-loop-account g l = record {
  so_far : HasOpened g.M.Keeper.Lookup.keeping l.fn.listed l.account-iterator.rest.items (g.M.MakeKeeper.to_come l.fn.maker) (g.M.MakeKeeper.to_come l.maker)
      (record { accounts = l.fn.server; moments = g.C.Clock.to_come l.fn.clock }) (record { accounts = l.server; moments = g.C.Clock.to_come l.clock });
  later : (g.M.End.health l.fn.maker).faults ≤ (g.M.End.health l.maker).faults;
}
