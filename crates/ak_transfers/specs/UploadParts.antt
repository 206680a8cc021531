-- What a device reads of its own collection for an upload, and what it puts in its place.
use Rattle.std.specs.FinMap.{entries}
use Rattle.std.specs.List.{All, AllByRecursion, IsDistinct}
use Rattle.std.specs.Ordering.{eq_by_cmp}
use Rattle.std.specs.Prelude.{◌≡◌, ℕ, ℤ, ◌<◌, pos, List, [], filter, map, Result, Ok, Err, IsErrAnd, ◌⊎◌}
use Rattle.ak_base.specs.Heads.{tag_names}
use Rattle.ak_base.specs.Names.{name_cmp, table_place}
use Rattle.ak_base.specs.Rows.{IsChecked, name_of}
use Rattle.ak_base.specs.declared.heads.Head.{Head}
use Rattle.ak_base.specs.declared.rows.Row.{Row}
use Rattle.ak_client.specs.Outcomes.{outcome_at}
use Rattle.ak_client.specs.declared.outcomes.Outcome.{Outcome}
use Rattle.ak_exchange.specs.Asked.{asker, request_at}
use Rattle.ak_exchange.specs.Stops.{keep_stop, wire_stop}
use Rattle.ak_exchange.specs.declared.envelopes.Ids.{Ids}
use Rattle.ak_keep.specs.Collections.{Rows}
use Rattle.ak_keep.specs.Keepers.{Keeping, WhereHeld, replaced}
use Rattle.ak_keep.specs.declared.keepers.KeepFault.{KeepFault}
use Rattle.ak_merge.specs.Commits.{uploaded_rows}
use Rattle.ak_merge.specs.Tags.{tags_taken}
use Rattle.ak_messages.specs.declared.requests.Ask.TheVariants as asks
use Rattle.ak_messages.specs.declared.requests.Whole.{Whole}
use Rattle.ak_session.specs.Uploads.{is_plain, whole_to_send}
use Rattle.ak_transfers.specs.Forms.{uploaded_in}
use Rattle.ak_transfers.specs.Greetings.{Line}
use Rattle.ak_transfers.specs.declared.asks.UploadMoments.{UploadMoments}
use Rattle.ak_client_wire.specs.Tries.{Answered}
use Rattle.ak_client_wire.specs.declared.asks.Unanswered.{Unanswered}
use Rattle.ak_client_wire.specs.Wires.{WireKind}

-- all rows that are held, by table and id
abbrev pub all_rows : Rows → List Row
all_rows held = map (λ entry. entry.1) (entries held)

-- those of them that are no graves
abbrev pub plain_rows : Rows → List Row
plain_rows held = filter is_plain (all_rows held)

-- rows that a keeper may put in place of all others: each passes its check, and no two share a name
pub record MayBePut (rows : List Row) : Type 0 where
  pub checked : All IsChecked rows
  pub distinct : IsDistinct (eq_by_cmp name_cmp) (map name_of rows)

-- the same of rows that are all of tables before this place in the order of tables
pub record MayBePutBefore (place : ℕ) (rows : List Row) : Type 0 where
  pub may : MayBePut rows
  pub before : AllByRecursion (λ row. table_place (name_of row).table < place) rows

-- what is sent of these rows and this head
abbrev pub whole_sent_with : List Row → Head → Whole
whole_sent_with rows head = record {
  rows = rows;
  crt = head.crt;
  moment = head.moment;
  schema = head.schema;
  usn = pos 0;
  conf = head.conf;
  tags = head.tags;
}

-- the head that an upload of this whole collection leaves on the device, once the server told the moments. The last sync is at the new moment
abbrev pub uploaded_device_head : Whole → UploadMoments → Head
uploaded_device_head whole told = record {
  crt = whole.crt;
  moment = told.moment;
  schema = told.schema;
  usn = pos 1;
  last_sync = told.moment;
  conf = whole.conf;
  tags = tags_taken (pos 0) (tag_names whole.tags) [];
}

-- the moments of a whole collection itself: those that stand until the server told its own
abbrev pub own_moments : Whole → UploadMoments
own_moments whole = record { moment = whole.moment; schema = whole.schema }

-- the head that stands until then, of a device with this head
abbrev pub prepared_head : Head → Head
prepared_head head = uploaded_device_head (whole_sent_with [] head) (own_moments (whole_sent_with [] head))

-- a keeper in which what an upload of this whole collection leaves was put in the place of all that it held, but for the moments
abbrev pub prepared : Whole → Keeping → Keeping
prepared whole = replaced (uploaded_rows whole.rows) (uploaded_device_head whole (own_moments whole))

-- ---- the request
-- what the answer to an upload comes to, for the transfer
abbrev pub wired : {T : Type 0} → Result T Unanswered → Result T Outcome
wired (Ok given) = Ok given
wired (Err why) = Err (outcome_at (wire_stop why))

-- an upload was asked, with the device's collection without its graves; what it leaves, but for the moments, was put in place before
pub record SendsOnce {kind : WireKind} (ids : Ids) (moment : ℤ) (before left : Keeping) (was now : Line kind) (result : Result UploadMoments Outcome) : Type 0 where
  pub whole : Whole
  pub sent : WhereHeld before (λ c. whole ≡ whole_to_send c)
  pub put : left ≡ prepared whole before
  pub answer : Result UploadMoments Unanswered
  pub heard : Answered was.health now.health was.wire now.wire (request_at (asker ids) moment 1 (asks.Upload whole)) uploaded_in answer
  pub came : result ≡ wired answer

-- the keeper refused before it was asked, or it was asked
abbrev pub Sends : {kind : WireKind} → Ids → ℤ → Keeping → Keeping → Line kind → Line kind → Result UploadMoments Outcome → Type 0
Sends ids moment before left was now result =
    ((now ≡ was) × IsErrAnd result (λ (outcome : Outcome). (fault : KeepFault) × (outcome ≡ outcome_at (keep_stop fault))))
    ⊎ SendsOnce ids moment before left was now result
