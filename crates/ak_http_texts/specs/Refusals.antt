-- The refusals that come before a request is served.
use Rattle.std.specs.Prelude.{ℕ, pos, List}
use Rattle.ak_messages.specs.declared.replies.Give.TheVariants as gives
use Rattle.ak_messages.specs.declared.replies.Reply.{Reply}
use Rattle.ak_messages.specs.declared.replies.Word.{Word}
use Rattle.ak_messages.specs.declared.replies.Word.TheVariants as words
use Rattle.ak_http_texts.specs.declared.refusals.Refusal.{Refusal}
use Rattle.ak_http_texts.specs.declared.refusals.Refusal.TheVariants as refusals

-- the status of a refusal
abbrev pub status_of : Refusal → ℕ
status_of refusals.Head = 400
status_of refusals.Route = 404
status_of refusals.Method = 405
status_of refusals.Length = 411
status_of refusals.Large = 413
status_of refusals.Compressed = 415
status_of refusals.Headers = 400
status_of refusals.Cut = 400
status_of refusals.Body = 400
status_of refusals.Memory = 500

-- its word
abbrev pub word_of : Refusal → Word
word_of refusals.Head = words.Head
word_of refusals.Route = words.Route
word_of refusals.Method = words.Method
word_of refusals.Length = words.Length
word_of refusals.Large = words.Large
word_of refusals.Compressed = words.Compressed
word_of refusals.Headers = words.Headers
word_of refusals.Cut = words.Cut
word_of refusals.Body = words.Body
word_of refusals.Memory = words.Memory

-- the reply that tells it: the server has seen nothing
abbrev pub refusal_reply : Refusal → Reply
refusal_reply refusal = record { status = status_of refusal; word = word_of refusal; seen = pos 0; give = gives.Nothing }
