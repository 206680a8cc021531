-- The filtered deck of an id.
use Rattle.std.specs.Prelude.{◌≡◌, ◌⊎◌, ℤ, true, Some}
use Rattle.ak_base.specs.declared.decks.Deck.{Deck}
use Rattle.ak_base.specs.declared.names.Table.TheVariants as tables
use Rattle.ak_edit.specs.declared.desk_faults.DeskFault.TheVariants as desk
use Rattle.ak_filtered.specs.FilteredFaults.{IsOutside}
use Rattle.ak_filtered.specs.declared.faults.FilteredFault.{FilteredFault}
use Rattle.ak_filtered.specs.declared.faults.FilteredFault.TheVariants as faults
use Rattle.ak_keep.specs.Collections.{Holding}
use Rattle.ak_keep.specs.Lookups.{deck_at}
use Rattle.ak_merge.specs.Holdings.{name_in}

-- the deck of this id is held, and filtered
pub record IsFilteredAt (id : ℤ) (deck : Deck) (h : Holding) : Type 0 where
  pub held : deck_at h.rows id ≡ Some deck
  pub filtered : deck.filtered ≡ true

-- the deck is not held or not filtered, told or not
abbrev pub IsDeckFault : ℤ → FilteredFault → Type 0
IsDeckFault id fault =
    IsOutside fault ⊎ (fault ≡ faults.Desk (desk.NoSuch (name_in tables.Deck id))) ⊎ (fault ≡ faults.NotFiltered id)
