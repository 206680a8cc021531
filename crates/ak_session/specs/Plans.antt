-- What a sync asks: its plan, as a function of the device's collection c and the committed one s.
use Rattle.std.specs.Prelude.{◌≡◌, ℕ, ℤ, ◌+◌, false, List, [], ◌∷◌, ◌++◌, map, length}
use Rattle.ak_base.specs.declared.keys.HostKey.{HostKey}
use Rattle.ak_base.specs.declared.keys.SessionKey.{SessionKey}
use Rattle.ak_base.specs.declared.rows.Row.{Row}
use Rattle.ak_keep.specs.Collections.{Rows, Collection}
use Rattle.ak_keep.specs.declared.keepers.Wanted.TheVariants.{Unsent}
use Rattle.ak_merge.specs.Commits.{Received}
use Rattle.ak_merge.specs.Exchanges.{wanted_tags, settings_sent}
use Rattle.ak_merge.specs.Takings.{all_taken}
use Rattle.ak_messages.specs.declared.requests.Ask.{Ask}
use Rattle.ak_messages.specs.declared.requests.Ask.TheVariants as asks
use Rattle.ak_messages.specs.declared.requests.Request.{Request}
use Rattle.ak_session.specs.Answers.{all_given, server_rows, counts_of}
use Rattle.ak_session.specs.Asks.{all_brought}
use Rattle.ak_session.specs.Messages.{grave_ids, chunk_of, changes_of}
use Rattle.ak_session.specs.Requests.{is_meta, is_download}
use Rattle.ak_session.specs.Slices.{wanted_graves, wanted_changes, wanted_in_chunks, filled_slices, slices_until_short}
use Rattle.ak_merge.specs.declared.sides.Side.TheVariants.{Device}

-- ---- the device in between
-- the rows that the device holds once it took what the server gave for these requests, with the server's usn
abbrev pub device_rows : Collection → Collection → List Ask → Rows
device_rows c s asked = all_taken Device s.head.usn (all_given s asked).rows c.rows

-- ---- the parts, each with all that comes before it
-- the start: the device's usn and the moment of its last change
abbrev pub planned_start : Collection → List Ask
planned_start c = asks.Start c.head.usn c.head.moment ∷ []

-- graves, 250 a request
abbrev pub graves_to_send : List Row → List Ask
graves_to_send list = map (λ (part : List Row). asks.ApplyGraves (grave_ids part)) (filled_slices list)

-- then the device's graves that were not sent yet, once it took those that the server gave for the start
abbrev pub planned_graves : Collection → Collection → List Ask
planned_graves c s = planned_start c ++ graves_to_send (wanted_graves Unsent (device_rows c s (planned_start c)))

-- the device's changes: its rows and tags that were not sent yet, and its settings if it was changed last
abbrev pub device_changes : Collection → Collection → Received
device_changes c s = record {
  rows = wanted_changes Unsent (device_rows c s (planned_graves c s));
  tags = wanted_tags Unsent c.head.tags;
  settings = settings_sent c.head s.head;
}

-- then its changes
abbrev pub planned_changes : Collection → Collection → List Ask
planned_changes c s = planned_graves c s ++ asks.ApplyChanges (changes_of (device_changes c s)) ∷ []

-- a chunk for each slice of these rows, up to the first that is not full
abbrev pub chunks_to_ask : List Row → List Ask
chunks_to_ask list = map (λ (part : List Row). asks.Chunk) (slices_until_short list)

-- then chunks of what the server has, until one is not full
abbrev pub planned_chunks : Collection → Collection → List Ask
planned_chunks c s = planned_changes c s ++ chunks_to_ask (server_rows s (planned_changes c s))

-- rows in chunks, until one is not full
abbrev pub rows_to_send : List Row → List Ask
rows_to_send list = map (λ (part : List Row). asks.ApplyChunk (chunk_of part)) (slices_until_short list)

-- then the device's other rows that were not sent yet, once it took those chunks
abbrev pub planned_pushes : Collection → Collection → List Ask
planned_pushes c s = planned_chunks c s ++ rows_to_send (wanted_in_chunks Unsent (device_rows c s (planned_chunks c s)))

-- then the sanity check, with the device's counts
abbrev pub planned_check : Collection → Collection → List Ask
planned_check c s = planned_pushes c s ++ asks.SanityCheck2 (counts_of (device_rows c s (planned_pushes c s))) ∷ []

-- then the finish: all that a sync asks after its meta
abbrev pub planned : Collection → Collection → List Ask
planned c s = planned_check c s ++ asks.Finish ∷ []

-- ---- what both sides give
-- all that the server gives in a sync
abbrev pub given_by_sync : Collection → Collection → Received
given_by_sync c s = all_given s (planned_check c s)

-- all that the device sends in a sync
abbrev pub sent_by_sync : Collection → Collection → Received
sent_by_sync c s = all_brought (planned_check c s)

-- ---- the requests
-- who asks: the account and the session
pub record Asker : Type 0 where
  pub host : HostKey
  pub session : SessionKey

-- the requests of these asks over this base, from this step on
abbrev pub requests_from : Asker → ℤ → ℕ → List Ask → List Request
requests_from who base step [] = []
requests_from who base step (ask ∷ more) =
    record { host = who.host; session = who.session; step = step; base = base; ask = ask }
    ∷ requests_from who base (step + 1) more

-- the plan of a sync: its requests after the meta, whose step is 0, over the committed moment
abbrev pub plan : Asker → Collection → Collection → List Request
plan who c s = requests_from who s.head.moment 1 (planned c s)

-- a request of a plan with these before it: its step is its place after the meta, and it is no meta and no download
pub record IsPlanned (who : Asker) (base : ℤ) (before : List Request) (request : Request) : Type 0 where
  pub host : request.host ≡ who.host
  pub session : request.session ≡ who.session
  pub step : request.step ≡ length before + 1
  pub base_is : request.base ≡ base
  pub later : is_meta request.ask ≡ false
  pub reads_nothing : is_download request.ask ≡ false
