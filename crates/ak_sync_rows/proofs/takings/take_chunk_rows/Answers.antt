use Rattle.std.specs.List.{All}
use Rattle.std.specs.Prelude.{List, ◌++◌, map}
use Rattle.std.proofs.Common.{sym, subst, rules, w64, SFits}
use Rattle.std.proofs.lemmas.Int.{to_z-of_z}
use Rattle.ak_base.specs.Rows.{IsChecked}
use Rattle.ak_base.specs.declared.cards.Card.{Card}
use Rattle.ak_base.specs.declared.notes.Note.{Note}
use Rattle.ak_base.specs.declared.reviews.Review.{Review}
use Rattle.ak_base.specs.declared.rows.Row.TheVariants as rows
use Rattle.ak_sync_rows.proofs.Parted.{if_ok, of_first, of_last, of_more}
use Rattle.ak_sync_rows.proofs.Taken.{taken_thrice}
use Rattle.ak_sync_rows.proofs.takings.take_chunk_rows.Goals as goal

pub take_reviews-requires-clause-checked : goal.take_reviews-requires-clause-checked
take_reviews-requires-clause-checked g c =
    subst (λ (came : List Review). All (λ row. IsChecked (rows.Review row)) came) (sym c.as_slice.ensures)
    (of_first IsChecked rows.Review c.args.chunk.now.reviews (map rows.Card c.args.chunk.now.cards ++ map rows.Note c.args.chunk.now.notes) c.requires.checked)

pub take_cards-requires-clause-checked : goal.take_cards-requires-clause-checked
take_cards-requires-clause-checked g c =
    subst (λ (came : List Card). All (λ row. IsChecked (rows.Card row)) came) (sym c.as_slice-2.ensures)
    (of_first IsChecked rows.Card c.args.chunk.now.cards (map rows.Note c.args.chunk.now.notes)
    (of_more IsChecked rows.Review c.args.chunk.now.reviews (map rows.Card c.args.chunk.now.cards ++ map rows.Note c.args.chunk.now.notes) c.requires.checked))

pub take_notes-requires-clause-checked : goal.take_notes-requires-clause-checked
take_notes-requires-clause-checked g c =
    subst (λ (came : List Note). All (λ row. IsChecked (rows.Note row)) came) (sym c.as_slice-3.ensures)
    (of_last IsChecked rows.Note c.args.chunk.now.notes
    (of_more IsChecked rows.Card c.args.chunk.now.cards (map rows.Note c.args.chunk.now.notes)
    (of_more IsChecked rows.Review c.args.chunk.now.reviews (map rows.Card c.args.chunk.now.cards ++ map rows.Note c.args.chunk.now.notes) c.requires.checked)))

pub returns-clause-ok : goal.returns-clause-ok
returns-clause-ok g c =
    let usn : SFits w64 c.args.usn = search rules in
    if_ok c.take_notes.result _ _
    (taken_thrice c.args.side c.args.usn (map rows.Review c.args.chunk.now.reviews) (map rows.Card c.args.chunk.now.cards) (map rows.Note c.args.chunk.now.notes)
    (g.K.Lookup.keeping c.args.keeper.now) (g.K.Lookup.keeping c.take_reviews.new.keeper) (g.K.Lookup.keeping c.take_cards.new.keeper) (g.K.Lookup.keeping c.take_notes.new.keeper)
    (rw (to_z-of_z w64 c.args.usn usn, c.as_slice.ensures) at c.in_ok-take_reviews.ensures.ok) (rw (to_z-of_z w64 c.args.usn usn, c.as_slice-2.ensures) at c.in_ok-take_cards.ensures.ok))
    (rw (to_z-of_z w64 c.args.usn usn, c.as_slice-3.ensures) at c.take_notes.ensures.ok)
