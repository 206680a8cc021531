use Rattle.std.specs.List.{AllByRecursion}
use Rattle.std.proofs.Common.{subst}
use Rattle.ak_sync_in_memory.proofs.Logging.{stays_lawful}
use Rattle.ak_sync_in_memory.specs.Entries.{LoggedState, collection_in, log_in, server_in}
use Rattle.ak_sync_in_memory.specs.LoggedServers.{state_of}
use Rattle.ak_merge.specs.Commits.{IsCommitted}
use Rattle.ak_protocol.specs.LawfulServers.{IsLawful}
use Rattle.ak_protocol.specs.Logs.{IsTimely}
use Rattle.ak_sync_in_memory.proofs.logged_servers.LoggedServer.recall.Goals as goal

pub returns : goal.returns
returns c = record {
  opening = subst (λ (s : LoggedState). IsCommitted (collection_in s.opening)) c.self.view_is c.self.invariant.lawful;
  lawful = subst (λ (s : LoggedState). IsLawful (server_in s)) c.self.view_is
      (stays_lawful c.self.inside.server (state_of c.self.inside.server c.self.inside.host.digits c.self.inside.opening c.self.inside.line c.self.inside.entries.items)
      c.self.invariant);
  timely = subst (λ (s : LoggedState). AllByRecursion IsTimely (log_in s).events) c.self.view_is c.self.invariant.timely;
}
