use Rattle.ak_protocol.proofs.Kept.{idle_events_keep_replies}
use Rattle.ak_protocol.proofs.kept_laws.idle_events_keep_replies.Goals as goal

pub returns : goal.returns
returns c = idle_events_keep_replies
