-- The edits of filtered decks are admitted.
use Rattle.std.specs.Prelude.{◌≡◌, ℕ, ℤ, false, List, [], ◌∷◌, ◌++◌, None}
use Rattle.std.proofs.Common.{refl, sym, ap, subst, ◌∙◌}
use Rattle.std.specs.List.{AllByRecursion}
use Rattle.ak_base.specs.Names.{next_name}
use Rattle.ak_base.specs.declared.decks.Deck.{Deck}
use Rattle.ak_base.specs.declared.names.Name.{Name}
use Rattle.ak_base.specs.declared.names.Table.TheVariants as tables
use Rattle.ak_base.specs.declared.rows.Row.TheVariants as rows
use Rattle.ak_deck_paths.specs.Additions.{AreAdded, added_paths, addition}
use Rattle.ak_deck_paths.specs.ChangedDecks.{with_decks}
use Rattle.ak_deck_paths.specs.NewDecks.{IsNewDeck}
use Rattle.ak_edit_calls.proofs.AdmittedEdits.{card_edits_are_admitted}
use Rattle.ak_edit_calls.proofs.FreeIds.{not_dead}
use Rattle.ak_edit_calls.specs.CardEdits.{changed_row}
use Rattle.ak_edit_calls.specs.NewNames.{AreMadeOf, first_name}
use Rattle.ak_filtered.proofs.CardChanges.{emptied_id, home_id, may_change, refilled_id}
use Rattle.ak_filtered.specs.Builds.{building, due_in, refilled}
use Rattle.ak_filtered.specs.Emptyings.{emptied, emptying}
use Rattle.ak_filtered.specs.HomeDecks.{filtered_at, gone_home, sending_home}
use Rattle.ak_filtered.specs.MadeDecks.{ArePlanned, ArePut, IsPlanned}
use Rattle.ak_filtered.specs.declared.deck_makings.NewFiltered.{NewFiltered}
use Rattle.ak_filtered.specs.declared.plans.Plan.{Plan}
use Rattle.ak_keep.specs.Collections.{Collection}
use Rattle.ak_keep.specs.FreeNames.{IsFree, is_used}
use Rattle.ak_keep.specs.Graves.{is_dead}
use Rattle.ak_keep.specs.Lookups.{decks_in}
use Rattle.ak_merge.proofs.EditBuildingLaws.{maps_are_admitted, puts_are_admitted, unedited_is_admitted}
use Rattle.ak_merge.specs.EditBuilding.{MayPut, unedited, with_row}
use Rattle.ak_merge.specs.Edits.{Admits, Edit}
use Rattle.ak_merge.specs.Holdings.{AreNamed, name_in, row_under}

pub sendings_are_admitted : (cards : List ℤ) (c : Collection) → AreNamed (row_under c) → Admits c (sending_home cards c)
sendings_are_admitted cards c named = card_edits_are_admitted (gone_home (filtered_at c.rows)) cards c (home_id (filtered_at c.rows)) named

pub emptyings_are_admitted : (deck : ℤ) (c : Collection) → AreNamed (row_under c) → Admits c (emptying deck c)
emptyings_are_admitted deck c named =
    maps_are_admitted c (unedited c) (changed_row (emptied deck (filtered_at c.rows))) (unedited_is_admitted c named)
    (may_change (emptied deck (filtered_at c.rows)) (emptied_id deck (filtered_at c.rows)))

pub buildings_are_admitted : (deck : ℤ) (chosen : List ℤ) (c : Collection) → AreNamed (row_under c) → Admits c (building deck chosen c)
buildings_are_admitted deck chosen c named =
    maps_are_admitted c (unedited c) (changed_row (refilled deck (filtered_at c.rows) (due_in chosen))) (unedited_is_admitted c named)
    (may_change (refilled deck (filtered_at c.rows) (due_in chosen)) (refilled_id deck (filtered_at c.rows) (due_in chosen)))

-- ---- decks that are made
-- each of these decks may be put
abbrev MayPutAll : Collection → List Deck → Type 0
MayPutAll c decks = AllByRecursion (λ (deck : Deck). MayPut c (rows.Deck deck)) decks

deck_may : (c : Collection) (deck : Deck) (first name : Name) → first.table ≡ tables.Deck → IsFree (is_used (row_under c)) first name → deck.id ≡ name.id → MayPut c (rows.Deck deck)
deck_may c deck first name of free is = record {
  free = λ none. subst (λ (id : ℤ). is_dead (row_under c) (name_in tables.Deck id) ≡ false) (sym is) (not_dead (row_under c) first name tables.Deck of free);
  review = λ is. absurd (cc);
}

made_may : (c : Collection) (first : Name) (paths : List (List ℕ)) (made : List Deck) → first.table ≡ tables.Deck → AreMadeOf (is_used (row_under c)) IsNewDeck first paths made → MayPutAll c made
made_may c first [] made of are = subst (MayPutAll c) (sym are) tt
made_may c first (path ∷ paths) made of are =
    let name : Name = are.0 in
    subst (MayPutAll c) (sym are.5) (deck_may c are.2 first name of are.1 are.3.id, made_may c (next_name name) paths are.4 (are.1.table ∙ of) are.6)

-- the last one with another deck of the same id in its place
last_may : (c : Collection) (above : List Deck) (plain deck : Deck) → deck.id ≡ plain.id → MayPutAll c (above ++ plain ∷ []) → MayPutAll c (above ++ deck ∷ [])
last_may c [] plain deck is may = (
  record {
    free = subst (λ (id : ℤ). row_under c (name_in tables.Deck id) ≡ None → is_dead (row_under c) (name_in tables.Deck id) ≡ false) (sym is) may.0.free;
    review = λ is. absurd (cc);
  },
  tt,
)
last_may c (first ∷ above) plain deck is may = (may.0, last_may c above plain deck is may.1)

all_put : (c : Collection) (decks : List Deck) (edit : Edit) → MayPutAll c decks → Admits c edit → Admits c (with_decks decks edit)
all_put c [] edit may admits = admits
all_put c (deck ∷ decks) edit may admits = all_put c decks (with_row (rows.Deck deck) edit) may.1 (puts_are_admitted c edit (rows.Deck deck) admits may.0)

pub makings_are_admitted : (at : ℤ) (given : NewFiltered) (decks : List Deck) (c : Collection) → AreNamed (row_under c) → ArePut at given c.rows decks → Admits c (addition decks c)
makings_are_admitted at given decks c named are =
    let planned : ArePlanned are.plan are.made decks = are.are_planned in
    let made : MayPutAll c are.made = made_may c (first_name tables.Deck at) (added_paths (decks_in c.rows) given.path.now) are.made refl are.are_added in
    let may : MayPutAll c (planned.above ++ planned.deck ∷ []) = last_may c planned.above planned.plain planned.deck (ap (λ (d : Deck). d.id) planned.is_planned.same)
    (subst (MayPutAll c) planned.made_are made) in
    all_put c decks (unedited c) (subst (MayPutAll c) (sym planned.planned_are) may) (unedited_is_admitted c named)
