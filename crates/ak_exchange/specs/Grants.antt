-- What was granted, and why a sync stopped at what it tried last.
use Rattle.std.specs.List.{AllByRecursion}
use Rattle.std.specs.Option.{option_map_or}
use Rattle.std.specs.Prelude.{◌≡◌, ◌≢◌, ◌≤◌, ◌==◌, ◌&&◌, Bool, false, true, not, is_some, List, [], ◌∷◌, ◌++◌, filter, count_by, Some, Result, Ok, Err, ◌⊎◌, ⊤}
use Rattle.ak_client_wire.specs.Forms.{changes_in, chunk_in, graves_in, meta_in, moment_in, nothing_in, verdict_in}
use Rattle.ak_client_wire.specs.Wires.{WireKind, WireState}
use Rattle.ak_client_wire.specs.declared.asks.Unanswered.{Unanswered}
use Rattle.ak_client_wire.specs.declared.asks.Unanswered.TheVariants as unanswered
use Rattle.ak_client_wire.specs.declared.wires.Said.{Said}
use Rattle.ak_client_wire.specs.declared.wires.WireEnd.{WireEnd}
use Rattle.ak_client_wire.specs.declared.wires.WireEnd.TheVariants as ends
use Rattle.ak_device.specs.Devices.{IsFullIfMore}
use Rattle.ak_exchange.specs.Asked.{TriedAsk, asks_chunk, asks_in, sends_unfinished}
use Rattle.ak_exchange.specs.Stops.{verdict_of, wire_stop}
use Rattle.ak_exchange.specs.declared.stops.Stop.{Stop}
use Rattle.ak_exchange.specs.declared.stops.Stop.TheVariants as stops
use Rattle.ak_messages.specs.declared.replies.Give.{Give}
use Rattle.ak_messages.specs.declared.replies.Reply.{Reply}
use Rattle.ak_messages.specs.declared.replies.SanityReply.{SanityReply}
use Rattle.ak_messages.specs.declared.requests.Ask.{Ask}
use Rattle.ak_messages.specs.declared.requests.Ask.TheVariants as asks
use Rattle.ak_messages.specs.declared.requests.Chunk.{Chunk}
use Rattle.ak_messages.specs.declared.requests.SanityCounts.{SanityCounts}

-- ---- what was granted
-- whether what is given has the form of what was asked. A sync asks for no whole collection
abbrev pub is_in_form : Ask → Give → Bool
is_in_form asks.Meta give = is_some (meta_in give)
is_in_form (asks.Start usn moment) give = is_some (graves_in give)
is_in_form (asks.ApplyGraves ids) give = is_some (nothing_in give)
is_in_form (asks.ApplyChanges changes) give = is_some (changes_in give)
is_in_form asks.Chunk give = is_some (chunk_in give)
is_in_form (asks.ApplyChunk chunk) give = is_some (nothing_in give)
is_in_form (asks.SanityCheck2 counts) give = is_some (verdict_in give)
is_in_form asks.Finish give = is_some (moment_in give)
is_in_form (asks.Upload whole) give = false
is_in_form asks.Download give = false

-- what was asked was granted: the answer is a reply with status 200, and it has the form of what was asked
pub record IsGranted (it : TriedAsk) : Type 0 where
  pub reply : Reply
  pub is : it.answer ≡ Ok reply
  pub status : reply.status ≡ 200
  pub form : is_in_form it.ask reply.give ≡ true

-- whether an answer grants what was asked
abbrev pub grants : Ask → Result Reply WireEnd → Bool
grants ask (Ok reply) = (reply.status == 200) && is_in_form ask reply.give
grants ask (Err end) = false

-- those of these that were granted
abbrev pub granted_of : List TriedAsk → List TriedAsk
granted_of tries = filter (λ (it : TriedAsk). grants it.ask it.answer) tries

-- whether all of these were granted
abbrev pub are_granted : List TriedAsk → Bool
are_granted [] = true
are_granted (it ∷ more) = grants it.ask it.answer && are_granted more

-- each of these was granted
abbrev pub AllGranted : List TriedAsk → Type 0
AllGranted tries = AllByRecursion IsGranted tries

-- each but the last was granted before the next was asked
abbrev pub AllGrantedButLast : List TriedAsk → Type 0
AllGrantedButLast [] = ⊤
AllGrantedButLast (one ∷ []) = ⊤
AllGrantedButLast (one ∷ next ∷ more) = IsGranted one × AllGrantedButLast (next ∷ more)

-- each was granted if the part that asked them went well, and otherwise each but the last
abbrev pub AreGranted : {T E : Type 0} → List TriedAsk → Result T E → Type 0
AreGranted tries (Ok it) = AllGranted tries
AreGranted tries (Err stop) = AllGrantedButLast tries

-- ---- chunks that are sent
-- no collection is uploaded, and a chunk that is sent and is not the last one has 250 rows
abbrev pub SendsRows : Ask → Type 0
SendsRows (asks.Upload whole) = ⊥
SendsRows (asks.ApplyChunk chunk) = IsFullIfMore chunk
SendsRows ask = ⊤

-- ---- why a sync stopped
-- this was tried last
abbrev pub IsLast : TriedAsk → List TriedAsk → Type 0
IsLast it tries = (before : List TriedAsk) × (tries ≡ before ++ it ∷ [])

-- why something was not granted: each of three tries got no answer; the answer could not be read, or had not the form of what was asked; or
-- it had another status
abbrev pub IsNotGranted : TriedAsk → Unanswered → Type 0
IsNotGranted it unanswered.Lost = it.answer ≡ Err ends.Failed
IsNotGranted it unanswered.BadReply = (it.answer ≡ Err ends.BadReply)
    ⊎ ((reply : Reply) × (it.answer ≡ Ok reply) × (reply.status ≡ 200) × (is_in_form it.ask reply.give ≡ false))
IsNotGranted it (unanswered.Refused status word seen) = (reply : Reply) × (it.answer ≡ Ok reply) × (reply.status ≢ 200)
    × (status ≡ reply.status) × (word ≡ reply.word) × (seen ≡ reply.seen)
IsNotGranted it unanswered.Memory = it.answer ≡ Err ends.Memory

-- the last that was tried was not granted, for this reason
abbrev pub EndsUnanswered : List TriedAsk → Unanswered → Type 0
EndsUnanswered tries why = (it : TriedAsk) × IsLast it tries × IsNotGranted it why

-- a part stopped because the last that was tried was not granted
abbrev pub StopsUnanswered : List TriedAsk → Stop → Type 0
StopsUnanswered tries stop = (why : Unanswered) × (stop ≡ wire_stop why) × EndsUnanswered tries why

-- the last that was tried is a sanity check, and this is what its reply showed
pub record IsCheckedLast {kind : WireKind} (tries : List TriedAsk) (stop : Stop) (wire : WireState kind) : Type 0 where
  pub it : TriedAsk
  pub last : IsLast it tries
  pub counts : SanityCounts
  pub asks : it.ask ≡ asks.SanityCheck2 counts
  pub granted : IsGranted it
  pub reply : SanityReply
  pub gave : verdict_in granted.reply.give ≡ Some reply
  pub said : Said
  pub is : wire.said ≡ Some said
  pub found : said.sanity ≡ Some reply
  pub verdict : verdict_of reply ≡ Err stop

-- whether an answer gives a chunk that is not the last one
abbrev pub brings_unfinished : Result Reply WireEnd → Bool
brings_unfinished (Ok reply) = option_map_or (λ (chunk : Chunk). not chunk.done) (chunk_in reply.give) false
brings_unfinished (Err end) = false

-- whether a chunk came that is not the last one
abbrev pub came_unfinished : TriedAsk → Bool
came_unfinished it = asks_chunk it.ask && brings_unfinished it.answer

-- 40,000 chunks came that are not the last one, or 39,999 were sent that are not
abbrev pub AreTooMany : List TriedAsk → Type 0
AreTooMany tries = (40_000 ≤ count_by came_unfinished tries) ⊎ (39_999 ≤ count_by sends_unfinished (asks_in tries))

-- memory ran out in what the device does itself, so all that was tried was granted; or in the last call of the wire
abbrev pub EndsForMemory : List TriedAsk → Type 0
EndsForMemory tries = AllGranted tries ⊎ EndsUnanswered tries unanswered.Memory

-- why an exchange stopped, by what was tried. The keeper fails only in what the device does itself, so all that was tried was granted
abbrev pub StopsFor : {kind : WireKind} → List TriedAsk → WireState kind → Stop → Type 0
StopsFor tries wire (stops.BadRow fault) = IsCheckedLast tries (stops.BadRow fault) wire
StopsFor tries wire (stops.BadCounts client server) = IsCheckedLast tries (stops.BadCounts client server) wire
StopsFor tries wire (stops.Refused status word seen) = EndsUnanswered tries (unanswered.Refused status word seen)
StopsFor tries wire stops.Lost = EndsUnanswered tries unanswered.Lost
StopsFor tries wire stops.BadReply = EndsUnanswered tries unanswered.BadReply
StopsFor tries wire stops.TooManyChunks = AreTooMany tries
StopsFor tries wire stops.Keep = AllGranted tries
StopsFor tries wire stops.Memory = EndsForMemory tries
