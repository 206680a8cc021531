use Rattle.ak_makes.proofs.ServerCopies.{counted}
use Rattle.ak_makes.proofs.made_servers.counts_on.Goals as goal

pub returns : goal.returns
returns c = record {
  counted = counted c.args.server.now c.in_ok-opening.opening c.in_ok-keeper.keeper.kept c.in_ok-counts.counts c.in_ok-opening.ensures.copy
      c.in_ok-keeper.ensures.kept c.in_ok-counts.ensures.reads.told;
}
