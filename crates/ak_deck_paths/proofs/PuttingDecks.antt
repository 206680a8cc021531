-- What decks that are put ask for.
use Rattle.std.specs.Prelude.{◌≡◌, Bool, true, false, if◌then◌else◌, List, [], ◌∷◌, Option, Some}
use Rattle.std.proofs.Common.{refl, ap, subst, ◌∙◌}
use Rattle.std.proofs.lemmas.Option.{same_Some}
use Rattle.std.specs.List.{AllByRecursion}
use Rattle.std.specs.Ordering.{eq_by_cmp}
use Rattle.ak_base.specs.Names.{name_cmp}
use Rattle.ak_base.specs.Rows.{IsChecked, name_of}
use Rattle.ak_base.specs.declared.decks.Deck.{Deck}
use Rattle.ak_base.specs.declared.rows.Row.{Row}
use Rattle.ak_base.specs.declared.rows.Row.TheVariants as rows
use Rattle.ak_edit_calls.proofs.CheckedEdits.{checked_edits_pass}
use Rattle.ak_edit.proofs.Building.{nothing_asked, put_asked}
use Rattle.ak_edit.specs.Ends.{RefusesRow}
use Rattle.ak_edit.specs.Overlays.{Overlay, edit_of, put_over, unchanged}
use Rattle.ak_edit.specs.declared.desk_faults.DeskFault.{DeskFault}
use Rattle.ak_keep.specs.Collections.{Collection}
use Rattle.ak_merge.specs.EditBuilding.{unedited, with_row}
use Rattle.ak_merge.specs.Edits.{Edit}
use Rattle.ak_merge.specs.Holdings.{AreChecked, row_under}
use Rattle.ak_deck_paths.proofs.CheckedDecks.{Passes}
use Rattle.ak_deck_paths.specs.Additions.{addition}
use Rattle.ak_deck_paths.specs.ChangedDecks.{decks_over, with_decks}

-- over what is asked already
pub decks_asked : (decks : List Deck) (o : Overlay) (c : Collection) → edit_of (decks_over decks o) c ≡ with_decks decks (edit_of o c)
decks_asked [] o c = refl
decks_asked (deck ∷ decks) o c = decks_asked decks (put_over (rows.Deck deck) o) c ∙ ap (with_decks decks) (put_asked c o (rows.Deck deck))

pub addition_asked : (made : List Deck) (c : Collection) → edit_of (decks_over made unchanged) c ≡ addition made c
addition_asked made c = decks_asked made unchanged c ∙ ap (with_decks made) (nothing_asked c)

-- ---- checks
put_checked : (same : Bool) (put row : Row) (x : Option Row) → IsChecked put → ((r : Row) → x ≡ Some r → IsChecked r) → (if same then Some put else x) ≡ Some row → IsChecked row
put_checked true put row x checked others is = subst IsChecked (same_Some put row is) checked
put_checked false put row x checked others is = others row is

decks_checked : (decks : List Deck) (edit : Edit) → AllByRecursion Passes decks → AreChecked edit.rows → AreChecked (with_decks decks edit).rows
decks_checked [] edit all held = held
decks_checked (deck ∷ decks) edit all held =
    decks_checked decks (with_row (rows.Deck deck) edit) all.1
    (λ name row is. put_checked (eq_by_cmp name_cmp name (name_of (rows.Deck deck))) (rows.Deck deck) row (edit.rows name) all.0 (held name) is)

-- the end of an addition never refuses a row
pub addition_rows : (c : Collection) (made : List Deck) (fault : DeskFault) → AreChecked (row_under c) → AllByRecursion Passes made → RefusesRow c (addition made c) fault → ⊥
addition_rows c made fault held all = checked_edits_pass c (addition made c) fault (decks_checked made (unedited c) all held)
