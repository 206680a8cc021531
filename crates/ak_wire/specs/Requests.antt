-- The bodies of requests.
use Rattle.std.specs.Prelude.{◌≡◌, ◌⊎◌, ℕ, List, [], codes, Option, Some, None}
use Rattle.std.specs.Option.{option_or}
use Rattle.std.specs.Str.{IsUtf8}
use Rattle.serde_json.specs.Data.{Data}
use Rattle.serde_json.specs.Read.{read}
use Rattle.ak_json.specs.declared.faults.JsonFault.TheVariants as faults
use Rattle.ak_messages.specs.declared.methods.Method.{Method}
use Rattle.ak_messages.specs.declared.methods.Method.TheVariants as methods
use Rattle.ak_messages.specs.declared.requests.Ask.{Ask}
use Rattle.ak_messages.specs.declared.requests.Ask.TheVariants as asks
use Rattle.ak_messages.specs.declared.requests.Envelope.{Envelope}
use Rattle.ak_messages.specs.declared.requests.Request.{Request}
use Rattle.ak_wire.specs.Bodies.{too_many, graves_fault, grave_values, ReadsGraves, ReadsChunk, ChunkFault, ReadsChanges, ChangesFault}
use Rattle.ak_wire.specs.Faults.{OrMemory, Is, First}
use Rattle.ak_wire.specs.Forms.{start_form, holds_chunk_form, holds_changes_form, holds_counts_form, upload_form}
use Rattle.ak_wire.specs.Found.{HasInteger, Under, ReadsCounts}
use Rattle.ak_wire.specs.Values.{object_fault, value_under}
use Rattle.ak_wire.specs.Wholes.{upload_tables, ReadsUpload, WholeFault}
use Rattle.ak_wire.specs.declared.wire_faults.WireFault.{WireFault}
use Rattle.ak_wire.specs.declared.wire_faults.WireFault.TheVariants as wires

-- what the body of a request holds under `chunk`
abbrev pub chunk_in : Data → Data
chunk_in d = value_under (codes "chunk") d

-- the first fault of a body of ids of graves: of its key, of the ids' keys, then of their number
abbrev pub apply_graves_fault : Data → Option WireFault
apply_graves_fault d = option_or (object_fault holds_chunk_form d) (option_or (graves_fault (chunk_in d)) (too_many (grave_values (chunk_in d))))

-- a request of a method asks this, by its body
abbrev pub ReadsAsk : Method → Data → Ask → Type 0
ReadsAsk methods.Meta d ask = (object_fault [] d ≡ None) × (ask ≡ asks.Meta)
ReadsAsk methods.Start d (asks.Start min_usn lmod) =
    (object_fault start_form d ≡ None) × HasInteger (codes "minUsn") d min_usn × HasInteger (codes "lmod") d lmod
ReadsAsk methods.ApplyGraves d (asks.ApplyGraves ids) = (apply_graves_fault d ≡ None) × Under (codes "chunk") ReadsGraves d ids
ReadsAsk methods.ApplyChanges d (asks.ApplyChanges changes) =
    (object_fault holds_changes_form d ≡ None) × Under (codes "changes") ReadsChanges d changes
ReadsAsk methods.Chunk d ask = (object_fault [] d ≡ None) × (ask ≡ asks.Chunk)
ReadsAsk methods.ApplyChunk d (asks.ApplyChunk chunk) = (object_fault holds_chunk_form d ≡ None) × Under (codes "chunk") ReadsChunk d chunk
ReadsAsk methods.SanityCheck2 d (asks.SanityCheck2 counts) =
    (object_fault holds_counts_form d ≡ None) × Under (codes "client") ReadsCounts d counts
ReadsAsk methods.Finish d ask = (object_fault [] d ≡ None) × (ask ≡ asks.Finish)
ReadsAsk methods.Upload d (asks.Upload whole) = ReadsUpload d whole
ReadsAsk methods.Download d ask = (object_fault [] d ≡ None) × (ask ≡ asks.Download)
ReadsAsk method d ask = ⊥

-- the first fault of the body of a request of a method
abbrev pub AskFault : Method → Data → WireFault → Type 0
AskFault methods.Meta d = Is (object_fault [] d)
AskFault methods.Start d = Is (object_fault start_form d)
AskFault methods.ApplyGraves d = Is (apply_graves_fault d)
AskFault methods.ApplyChanges d = First (object_fault holds_changes_form d) (ChangesFault (value_under (codes "changes") d))
AskFault methods.Chunk d = Is (object_fault [] d)
AskFault methods.ApplyChunk d = First (object_fault holds_chunk_form d) (ChunkFault (chunk_in d))
AskFault methods.SanityCheck2 d = Is (object_fault holds_counts_form d)
AskFault methods.Finish d = Is (object_fault [] d)
AskFault methods.Upload d = WholeFault upload_form upload_tables d
AskFault methods.Download d = Is (object_fault [] d)

-- the bytes are the JSON of a value
pub record IsJsonOf (body : List ℕ) (d : Data) : Type 0 where
  pub utf8 : IsUtf8 body
  pub reads : read body ≡ Some d

-- the bytes are no JSON
abbrev pub IsNoJson : List ℕ → Type 0
IsNoJson body = IsUtf8 body → read body ≡ None

-- the body has no JSON, or its value has one of these faults, or memory was out
abbrev pub RefusesBody : (Data → WireFault → Type 0) → List ℕ → WireFault → Type 0
RefusesBody faults_of body =
    OrMemory (λ fault. (IsNoJson body × (fault ≡ wires.Json faults.NotJson)) ⊎ ((d : Data) × IsJsonOf body d × faults_of d fault))

-- the request is that of an envelope, a method and a body
pub record ReadsRequest (e : Envelope) (method : Method) (body : List ℕ) (r : Request) : Type 0 where
  pub value : Data
  pub text : IsJsonOf body value
  pub ask : ReadsAsk method value r.ask
  pub host : r.host ≡ e.host
  pub session : r.session ≡ e.session
  pub step : r.step ≡ e.step
  pub base : r.base ≡ e.base

-- the body has no JSON, or its value has this fault first, or memory was out
abbrev pub RefusesRequest : Method → List ℕ → WireFault → Type 0
RefusesRequest method body = RefusesBody (AskFault method) body
