use Rattle.std.proofs.Common.{rules, w64, SFits}
use Rattle.std.proofs.lemmas.Int.{to_z-of_z}
use Rattle.ak_device.proofs.Settling.{cards_named, chunk_settled, notes_named, reviews_named}
use Rattle.ak_sync_rows.proofs.Parted.{if_ok}
use Rattle.ak_device.proofs.settlings.settle_chunk.Goals as goal

pub returns-clause-ok : goal.returns-clause-ok
returns-clause-ok g c =
    let usn : SFits w64 c.args.usn = search rules in
    if_ok c.settle_each-3.result _ _
    (chunk_settled c.args.usn c.args.chunk.now _ _ _ (g.K.Lookup.keeping c.args.keeper.now) (g.K.Lookup.keeping c.settle_each.new.keeper)
    (g.K.Lookup.keeping c.settle_each-2.new.keeper) (g.K.Lookup.keeping c.settle_each-3.new.keeper)
    (reviews_named c.args.chunk.now.reviews) (cards_named c.args.chunk.now.cards) (notes_named c.args.chunk.now.notes)
    (rw (to_z-of_z w64 c.args.usn usn, c.as_slice.ensures) at c.in_ok-settle_each.ensures.ok) (rw (to_z-of_z w64 c.args.usn usn, c.as_slice-2.ensures) at c.in_ok-settle_each-2.ensures.ok))
    (rw (to_z-of_z w64 c.args.usn usn, c.as_slice-3.ensures) at c.settle_each-3.ensures.ok)
