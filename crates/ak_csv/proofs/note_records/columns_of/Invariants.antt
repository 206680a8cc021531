use Rattle.std.proofs.Common.{Bor, ◌≡◌, ◌-◌, ◌++◌, ℕ, List, drop, map}
use Rattle.ak_csv.specs.NoteRecords.{columns_of, fitted}
use Rattle.ak_csv.proofs.note_records.columns_of.Given as goal

-- with the other fields, the columns so far are all
abbrev pub invariant-loop-place : goal.invariant-loop-place
invariant-loop-place l =
    map (λ (column : Bor (List ℕ)). column.now) l.columns.items
    ++ fitted (l.fields - l.place) (drop l.place (map (λ (text : Bor (List ℕ)). text.now) l.texts.items))
    ≡ columns_of l.fields l.note
