use Rattle.ak_sync_completes.proofs.Disturbed.{first, unread}
use Rattle.ak_sync_completes.proofs.causes.told_ends_have_causes.Goals as goal

pub returns-clause-unread : goal.returns-clause-unread
returns-clause-unread g c = unread

pub returns-clause-first : goal.returns-clause-first
returns-clause-first g c = first
