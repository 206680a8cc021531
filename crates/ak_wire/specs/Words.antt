-- The words of replies as they are written.
use Rattle.std.specs.Prelude.{ℕ, ◌==◌, if◌then◌else◌, List, Option, Some, None, codes}
use Rattle.std.specs.Cmp.Lexicographic.{pointwise}
use Rattle.ak_messages.specs.declared.replies.Word.{Word}
use Rattle.ak_messages.specs.declared.replies.Word.TheVariants as words

-- a word as it is written
abbrev pub word_text : Word → List ℕ
word_text words.Ok = codes "ok"
word_text words.Key = codes "key"
word_text words.Base = codes "base"
word_text words.NoSession = codes "no session"
word_text words.Step = codes "step"
word_text words.Usn = codes "usn"
word_text words.Sequence = codes "sequence"
word_text words.Rows = codes "rows"
word_text words.Row = codes "row"
word_text words.Newer = codes "newer"
word_text words.Keeper = codes "keeper"
word_text words.Memory = codes "memory"
word_text words.Head = codes "head"
word_text words.Route = codes "route"
word_text words.Method = codes "method"
word_text words.Length = codes "length"
word_text words.Large = codes "large"
word_text words.Compressed = codes "compressed"
word_text words.Headers = codes "headers"
word_text words.Cut = codes "cut"
word_text words.Body = codes "body"

-- the word that is written so, if there is one
abbrev pub word_of : List ℕ → Option Word
word_of text =
    if pointwise ◌==◌ text (codes "ok") then Some words.Ok
    else if pointwise ◌==◌ text (codes "key") then Some words.Key
    else if pointwise ◌==◌ text (codes "base") then Some words.Base
    else if pointwise ◌==◌ text (codes "no session") then Some words.NoSession
    else if pointwise ◌==◌ text (codes "step") then Some words.Step
    else if pointwise ◌==◌ text (codes "usn") then Some words.Usn
    else if pointwise ◌==◌ text (codes "sequence") then Some words.Sequence
    else if pointwise ◌==◌ text (codes "rows") then Some words.Rows
    else if pointwise ◌==◌ text (codes "row") then Some words.Row
    else if pointwise ◌==◌ text (codes "newer") then Some words.Newer
    else if pointwise ◌==◌ text (codes "keeper") then Some words.Keeper
    else if pointwise ◌==◌ text (codes "memory") then Some words.Memory
    else if pointwise ◌==◌ text (codes "head") then Some words.Head
    else if pointwise ◌==◌ text (codes "route") then Some words.Route
    else if pointwise ◌==◌ text (codes "method") then Some words.Method
    else if pointwise ◌==◌ text (codes "length") then Some words.Length
    else if pointwise ◌==◌ text (codes "large") then Some words.Large
    else if pointwise ◌==◌ text (codes "compressed") then Some words.Compressed
    else if pointwise ◌==◌ text (codes "headers") then Some words.Headers
    else if pointwise ◌==◌ text (codes "cut") then Some words.Cut
    else if pointwise ◌==◌ text (codes "body") then Some words.Body
    else None
