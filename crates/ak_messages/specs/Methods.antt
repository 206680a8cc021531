-- The methods of a sync by their names.
use Rattle.std.specs.Prelude.{ℕ, ◌==◌, if◌then◌else◌, List, Option, Some, None, codes}
use Rattle.std.specs.Cmp.Lexicographic.{pointwise}
use Rattle.ak_messages.specs.declared.methods.Method.{Method}
use Rattle.ak_messages.specs.declared.methods.Method.TheVariants.{Meta, Start, ApplyGraves, ApplyChanges, Chunk, ApplyChunk, SanityCheck2, Finish, Upload, Download}

-- a method's name, the last part of a request's path
abbrev pub name_of : Method → List ℕ
name_of Meta = codes "meta"
name_of Start = codes "start"
name_of ApplyGraves = codes "applyGraves"
name_of ApplyChanges = codes "applyChanges"
name_of Chunk = codes "chunk"
name_of ApplyChunk = codes "applyChunk"
name_of SanityCheck2 = codes "sanityCheck2"
name_of Finish = codes "finish"
name_of Upload = codes "upload"
name_of Download = codes "download"

-- the method that has a name, if there is one
abbrev pub method_of : List ℕ → Option Method
method_of name =
    if pointwise ◌==◌ name (codes "meta") then Some Meta
    else if pointwise ◌==◌ name (codes "start") then Some Start
    else if pointwise ◌==◌ name (codes "applyGraves") then Some ApplyGraves
    else if pointwise ◌==◌ name (codes "applyChanges") then Some ApplyChanges
    else if pointwise ◌==◌ name (codes "chunk") then Some Chunk
    else if pointwise ◌==◌ name (codes "applyChunk") then Some ApplyChunk
    else if pointwise ◌==◌ name (codes "sanityCheck2") then Some SanityCheck2
    else if pointwise ◌==◌ name (codes "finish") then Some Finish
    else if pointwise ◌==◌ name (codes "upload") then Some Upload
    else if pointwise ◌==◌ name (codes "download") then Some Download
    else None
