-- What is written of a message is read again as it, whatever the method.
use Rattle.std.proofs.Common.{Bool, true, false, if◌then◌else◌, ◌==◌, refl}
use Rattle.ak_messages.specs.declared.methods.Method.{Method}
use Rattle.ak_messages.specs.declared.methods.Method.TheVariants as methods
use Rattle.ak_messages.specs.declared.replies.Give.{Give}
use Rattle.ak_messages.specs.declared.replies.Give.TheVariants as gives
use Rattle.ak_messages.specs.declared.replies.Reply.{Reply}
use Rattle.ak_messages.specs.declared.requests.Ask.{Ask}
use Rattle.ak_messages.specs.declared.requests.Ask.TheVariants as asks
use Rattle.ak_wire.specs.Forms.{holds_chunk_form, holds_changes_form, holds_counts_form}
use Rattle.ak_wire.specs.Replies.{ReadsGive, ReadsEither, ReadsReplyIn}
use Rattle.ak_wire.specs.Requests.{ReadsAsk}
use Rattle.ak_wire.specs.Sent.{IsSent, IsGiven, IsEitherSent, IsReplySent}
use Rattle.ak_wire.specs.Written.{chunk_json, changes_json, counts_json, ask_json, give_json, reply_json}
use Rattle.ak_wire.proofs.ReadAgain.{none_in, changes_again, chunk_again, counts_hold, counts_read, start_again, graves_asked, graves_again, meta_again, sanity_again, moment_again, uploaded_again, refusal_json, refused_again}
use Rattle.ak_wire.proofs.WholesAgain.{upload_again, download_again}

pub ask_again : (method : Method) (ask : Ask) → IsSent method ask → ReadsAsk method (ask_json ask) ask
ask_again methods.Meta asks.Meta h = (refl, refl)
ask_again methods.Start (asks.Start min_usn lmod) h = start_again min_usn lmod h
ask_again methods.ApplyGraves (asks.ApplyGraves ids) h = graves_asked ids h
ask_again methods.ApplyChanges (asks.ApplyChanges changes) h =
    (none_in holds_changes_form (ask_json (asks.ApplyChanges changes)) refl ((changes_json changes, refl, refl), tt), (changes_json changes, refl, changes_again changes h))
ask_again methods.Chunk asks.Chunk h = (refl, refl)
ask_again methods.ApplyChunk (asks.ApplyChunk chunk) h = (none_in holds_chunk_form (ask_json (asks.ApplyChunk chunk)) refl ((chunk_json chunk, refl, refl), tt), (chunk_json chunk, refl, chunk_again chunk h))
ask_again methods.SanityCheck2 (asks.SanityCheck2 counts) h =
    (none_in holds_counts_form (ask_json (asks.SanityCheck2 counts)) refl ((counts_json counts, refl, counts_hold counts h), tt), (counts_json counts, refl, counts_read counts))
ask_again methods.Finish asks.Finish h = (refl, refl)
ask_again methods.Upload (asks.Upload whole) h = upload_again whole h
ask_again methods.Download asks.Download h = (refl, refl)
ask_again method ask h = absurd h

pub give_again : (method : Method) (give : Give) → IsGiven method give → ReadsGive method (give_json give) give
give_again methods.Meta (gives.Meta m) h = meta_again m h
give_again methods.Start (gives.Graves ids) h = graves_again ids h
give_again methods.ApplyGraves gives.Nothing h = (refl, refl)
give_again methods.ApplyChanges (gives.Changes changes) h = changes_again changes h
give_again methods.Chunk (gives.Chunk chunk) h = chunk_again chunk h
give_again methods.ApplyChunk gives.Nothing h = (refl, refl)
give_again methods.SanityCheck2 (gives.Sanity s) h = sanity_again s h
give_again methods.Finish (gives.Moment moment) h = moment_again moment h
give_again methods.Upload (gives.Uploaded moment schema) h = uploaded_again moment schema h
give_again methods.Download (gives.Whole whole) h = download_again whole h
give_again method give h = absurd h

either_again : (granted : Bool) (method : Method) (r : Reply) → IsEitherSent granted method r → ReadsEither granted method (if granted then give_json r.give else refusal_json r) r
either_again true method r h = record { word = h.word; seen = h.seen; give = give_again method r.give h.give }
either_again false method r h = refused_again r h

pub reply_again : (method : Method) (r : Reply) → IsReplySent method r → ReadsReplyIn r.status method (reply_json r) r
reply_again method r h = either_again (r.status == 200) method r h
