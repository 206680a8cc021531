use Rattle.std.proofs.Common.{◌≡◌, List, length, map}
use Rattle.std.specs.List.{All}
use Rattle.serde_json.specs.View.{items_of, items_view}
use Rattle.ak_journal_rows.proofs.Listing.{IsReadTo}
use Rattle.ak_journal_rows.proofs.listed.read_each.Given as goal

-- of entries whose values these are, those so far are read, and the values of the others are left
abbrev pub invariant-loop-value : goal.invariant-loop-value
invariant-loop-value g l =
    (entries : List g.row.E.Denot) → All g.E.Entry.fits entries → items_view l.values ≡ items_of (map g.E.Entry.json entries)
    → IsReadTo g.E.Entry.json g.E.Entry.fits entries l.entries (items_view l.rest)

abbrev pub decreases-loop-value : goal.decreases-loop-value
decreases-loop-value g l = length l.rest
