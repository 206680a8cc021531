-- What stands under each key of a message, by the bytes of the keys, which is the order in which faults are told.
use Rattle.std.specs.Prelude.{pos, List, [], ◌∷◌}
use Rattle.ak_wire.specs.declared.keys.Key.{Key}
use Rattle.ak_wire.specs.declared.keys.Key.TheVariants as keys
use Rattle.ak_wire.specs.declared.kinds.Kind.{Kind}
use Rattle.ak_wire.specs.declared.kinds.Kind.TheVariants as kinds

-- the keys of an object, each with what stands under it
abbrev pub Form : Type 0
Form = List (Key × Kind)

-- the body of a start
abbrev pub start_form : Form
start_form =
    (keys.Lmod, kinds.Integer) ∷
    (keys.MinUsn, kinds.Integer) ∷
    []

-- a body that brings a chunk, or graves under the same key
abbrev pub holds_chunk_form : Form
holds_chunk_form =
    (keys.Chunk, kinds.Members) ∷
    []

-- a body that brings changes
abbrev pub holds_changes_form : Form
holds_changes_form =
    (keys.Changes, kinds.Members) ∷
    []

-- a body that brings the counts of a side
abbrev pub holds_counts_form : Form
holds_counts_form =
    (keys.Client, kinds.Counts) ∷
    []

-- ids of graves
abbrev pub graves_form : Form
graves_form =
    (keys.Cards, kinds.Ids) ∷
    (keys.Decks, kinds.Ids) ∷
    (keys.Notes, kinds.Ids) ∷
    []

-- a chunk
abbrev pub chunk_form : Form
chunk_form =
    (keys.Cards, kinds.Values) ∷
    (keys.Done, kinds.Bool) ∷
    (keys.Notes, kinds.Values) ∷
    (keys.Revlog, kinds.Values) ∷
    []

-- changes, but for the settings of the newer side
abbrev pub changes_form : Form
changes_form =
    (keys.Decks, kinds.TwoLists) ∷
    (keys.Models, kinds.Values) ∷
    (keys.Tags, kinds.TagNames) ∷
    []

-- the settings of the newer side
abbrev pub newer_form : Form
newer_form =
    (keys.Conf, kinds.Members) ∷
    (keys.Crt, kinds.Within (pos 0) (pos 4_294_967_295)) ∷
    []

-- the reply to a meta
abbrev pub meta_form : Form
meta_form =
    (keys.Cont, kinds.Bool) ∷
    (keys.Mod, kinds.Within (pos 0) (pos 4_294_967_295_999)) ∷
    (keys.Msg, kinds.Text) ∷
    (keys.Musn, kinds.Integer) ∷
    (keys.Scm, kinds.Within (pos 0) (pos 4_294_967_295_999)) ∷
    (keys.Ts, kinds.Integer) ∷
    (keys.Usn, kinds.Within (pos 0) (pos 2_147_483_646)) ∷
    []

-- the reply to a check of counts
abbrev pub status_form : Form
status_form =
    (keys.Status, kinds.Status) ∷
    []

-- what tells of a bad check
abbrev pub bad_form : Form
bad_form =
    (keys.C, kinds.Counts) ∷
    (keys.Row, kinds.Fault) ∷
    (keys.S, kinds.Counts) ∷
    []

-- the reply to a finish
abbrev pub moment_form : Form
moment_form =
    (keys.Mod, kinds.Within (pos 0) (pos 4_294_967_295_999)) ∷
    []

-- the reply to an upload
abbrev pub uploaded_form : Form
uploaded_form =
    (keys.Mod, kinds.Within (pos 0) (pos 4_294_967_295_999)) ∷
    (keys.Scm, kinds.Within (pos 0) (pos 4_294_967_295_999)) ∷
    []

-- a reply that is no 200
abbrev pub refused_form : Form
refused_form =
    (keys.Seen, kinds.Integer) ∷
    (keys.Word, kinds.Word) ∷
    []

-- a whole collection that a client brings
abbrev pub upload_form : Form
upload_form =
    (keys.Cards, kinds.Values) ∷
    (keys.Conf, kinds.Members) ∷
    (keys.Crt, kinds.Within (pos 0) (pos 4_294_967_295)) ∷
    (keys.Decks, kinds.Values) ∷
    (keys.Mod, kinds.Within (pos 0) (pos 4_294_967_295_999)) ∷
    (keys.Models, kinds.Values) ∷
    (keys.Notes, kinds.Values) ∷
    (keys.Options, kinds.Values) ∷
    (keys.Revlog, kinds.Values) ∷
    (keys.Scm, kinds.Within (pos 0) (pos 4_294_967_295_999)) ∷
    (keys.Tags, kinds.Tags) ∷
    []

-- a whole collection that a server gives
abbrev pub download_form : Form
download_form =
    (keys.Cards, kinds.Values) ∷
    (keys.Conf, kinds.Members) ∷
    (keys.Crt, kinds.Within (pos 0) (pos 4_294_967_295)) ∷
    (keys.Decks, kinds.Values) ∷
    (keys.Graves, kinds.Values) ∷
    (keys.Mod, kinds.Within (pos 0) (pos 4_294_967_295_999)) ∷
    (keys.Models, kinds.Values) ∷
    (keys.Notes, kinds.Values) ∷
    (keys.Options, kinds.Values) ∷
    (keys.Revlog, kinds.Values) ∷
    (keys.Scm, kinds.Within (pos 0) (pos 4_294_967_295_999)) ∷
    (keys.Tags, kinds.Tags) ∷
    (keys.Usn, kinds.Within (pos 0) (pos 2_147_483_646)) ∷
    []
