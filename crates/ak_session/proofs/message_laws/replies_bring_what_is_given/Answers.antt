use Rattle.ak_session.proofs.MessageLaws.{same_rows, same_tags, same_settings}
use Rattle.ak_session.proofs.message_laws.replies_bring_what_is_given.Goals as goal

pub returns : goal.returns
returns c = record { rows = same_rows; tags = same_tags; settings = same_settings }
