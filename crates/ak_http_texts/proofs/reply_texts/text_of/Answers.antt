use Rattle.std.proofs.Common.{◌∙◌, append_assoc, refl}
use Rattle.ak_http_texts.proofs.reply_texts.text_of.Goals as goal

pub returns : goal.returns
returns c = c.from.ensures ∙ simp append_assoc (c.in_ok-text.ensures.ok ∙ rw (c.reason_of-reason.ensures) refl)
