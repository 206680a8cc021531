use Rattle.cases_accounts.proofs.Empty.{is_committed}
use Rattle.cases_accounts.proofs.empty_accounts.opening_of.Goals as goal

pub returns-clause-committed : goal.returns-clause-committed
returns-clause-committed c =
    is_committed c.new.result c.args.head c.new.ensures (c.is_in_range.ensures.0 c.if-not-is_in_range.false) c.requires
