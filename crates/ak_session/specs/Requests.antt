-- What a request asks, by its method.
use Rattle.std.specs.Prelude.{ℕ, ◌==◌, Bool, true, false}
use Rattle.ak_messages.specs.declared.methods.Method.{Method}
use Rattle.ak_messages.specs.declared.methods.Method.TheVariants as methods
use Rattle.ak_messages.specs.declared.requests.Ask.{Ask}
use Rattle.ak_messages.specs.declared.requests.Ask.TheVariants as asks

-- the method of what is asked
abbrev pub asked_method : Ask → Method
asked_method asks.Meta = methods.Meta
asked_method (asks.Start min_usn lmod) = methods.Start
asked_method (asks.ApplyGraves ids) = methods.ApplyGraves
asked_method (asks.ApplyChanges changes) = methods.ApplyChanges
asked_method asks.Chunk = methods.Chunk
asked_method (asks.ApplyChunk chunk) = methods.ApplyChunk
asked_method (asks.SanityCheck2 counts) = methods.SanityCheck2
asked_method asks.Finish = methods.Finish
asked_method (asks.Upload whole) = methods.Upload
asked_method asks.Download = methods.Download

-- the place of a method in the order in which they are listed
abbrev pub method_place : Method → ℕ
method_place methods.Meta = 0
method_place methods.Start = 1
method_place methods.ApplyGraves = 2
method_place methods.ApplyChanges = 3
method_place methods.Chunk = 4
method_place methods.ApplyChunk = 5
method_place methods.SanityCheck2 = 6
method_place methods.Finish = 7
method_place methods.Upload = 8
method_place methods.Download = 9

-- whether two methods are the same
abbrev pub same_method : Method → Method → Bool
same_method a b = method_place a == method_place b

-- a request that begins a session
abbrev pub is_meta : Ask → Bool
is_meta ask = same_method (asked_method ask) methods.Meta

-- a request for the whole committed collection
abbrev pub is_download : Ask → Bool
is_download ask = same_method (asked_method ask) methods.Download

-- a request to put a whole collection in place of the committed one
abbrev pub is_upload : Ask → Bool
is_upload ask = same_method (asked_method ask) methods.Upload

-- a request after which another collection is committed: a finish, or an upload
abbrev pub asks_commit : Ask → Bool
asks_commit asks.Meta = false
asks_commit (asks.Start min_usn lmod) = false
asks_commit (asks.ApplyGraves ids) = false
asks_commit (asks.ApplyChanges changes) = false
asks_commit asks.Chunk = false
asks_commit (asks.ApplyChunk chunk) = false
asks_commit (asks.SanityCheck2 counts) = false
asks_commit asks.Finish = true
asks_commit (asks.Upload whole) = true
asks_commit asks.Download = false
