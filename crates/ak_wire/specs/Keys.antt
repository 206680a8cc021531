-- The keys of the objects of messages.
use Rattle.std.specs.Prelude.{ℕ, List, codes}
use Rattle.ak_wire.specs.declared.keys.Key.{Key}
use Rattle.ak_wire.specs.declared.keys.Key.TheVariants as keys

-- the key as it stands in the object
abbrev pub key_text : Key → List ℕ
key_text keys.C = codes "c"
key_text keys.Cards = codes "cards"
key_text keys.Changes = codes "changes"
key_text keys.Chunk = codes "chunk"
key_text keys.Client = codes "client"
key_text keys.Conf = codes "conf"
key_text keys.Cont = codes "cont"
key_text keys.Crt = codes "crt"
key_text keys.Decks = codes "decks"
key_text keys.Done = codes "done"
key_text keys.Graves = codes "graves"
key_text keys.Lmod = codes "lmod"
key_text keys.MinUsn = codes "minUsn"
key_text keys.Mod = codes "mod"
key_text keys.Models = codes "models"
key_text keys.Msg = codes "msg"
key_text keys.Musn = codes "musn"
key_text keys.Notes = codes "notes"
key_text keys.Options = codes "options"
key_text keys.Revlog = codes "revlog"
key_text keys.Row = codes "row"
key_text keys.S = codes "s"
key_text keys.Scm = codes "scm"
key_text keys.Seen = codes "seen"
key_text keys.Status = codes "status"
key_text keys.Tags = codes "tags"
key_text keys.Ts = codes "ts"
key_text keys.Usn = codes "usn"
key_text keys.Word = codes "word"
