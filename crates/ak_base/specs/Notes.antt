-- The ranges of a note's columns.
use Rattle.std.specs.Prelude.{pos, negsuc, Option, List, [], ◌∷◌, ◌++◌, length, ◌≡◌, Ok}
use Rattle.ak_base.specs.Columns.{id_fault, stamp_fault, code_fault, long_fault, first_fault}
use Rattle.ak_base.specs.Limits.{last_usn}
use Rattle.ak_base.specs.declared.errors.RowFault.{RowFault}
use Rattle.ak_base.specs.declared.notes.Note.{Note}

-- what the note is called, its type, and when it was changed
unfoldable pub identity_faults : Note → List (Option RowFault)
identity_faults n =
    id_fault n.id
    ∷ long_fault 1 (length n.guid) 64
    ∷ id_fault n.mid
    ∷ stamp_fault n.stamp
    ∷ code_fault 4 n.usn (negsuc 0) last_usn
    ∷ []

-- what the note says, and its marks
unfoldable pub content_faults : Note → List (Option RowFault)
content_faults n =
    long_fault 5 (length n.tags) 8_192
    ∷ long_fault 6 (length n.flds) 65_536
    ∷ long_fault 7 (length n.sfld) 65_536
    ∷ code_fault 8 n.csum (pos 0) (pos 4_294_967_295)
    ∷ code_fault 9 n.flags (pos 0) (pos 2_147_483_647)
    ∷ long_fault 10 (length n.extra) 32_768
    ∷ []

-- the fault of each column, in the order of schema 11's `notes`
abbrev pub note_faults : Note → List (Option RowFault)
note_faults n = identity_faults n ++ content_faults n

-- a note passes its check: every column is in its range
abbrev pub IsCheckedNote : Note → Type 0
IsCheckedNote n = first_fault (note_faults n) ≡ Ok tt
