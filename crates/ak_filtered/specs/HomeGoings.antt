-- Cards that are sent home, by their ids.
use Rattle.std.specs.Prelude.{◌≡◌, ◌⊎◌, ℤ, Bool, true, false, List, Result, Ok, Err}
use Rattle.std.specs.FinMap.{get}
use Rattle.ak_base.specs.declared.names.Table.TheVariants as tables
use Rattle.ak_edit.specs.Ends.{RefusesStamp}
use Rattle.ak_edit.specs.Overlays.{Overlay, unchanged}
use Rattle.ak_edit.specs.Refusals.{IsFromOutside}
use Rattle.ak_edit.specs.declared.desk_faults.DeskFault.{DeskFault}
use Rattle.ak_edit_calls.specs.CardEdits.{put_changed, put_each}
use Rattle.ak_filtered.specs.ClearedEdits.{IsCleared}
use Rattle.ak_filtered.specs.HomeDecks.{DeckFlags, filtered_at, gone_home, is_some_away, sending_home}
use Rattle.ak_filtered.specs.declared.home_decks.Sending.{Sending}
use Rattle.ak_keep.specs.Collections.{Collection, Rows}
use Rattle.ak_keep.specs.Keepers.{Keeping}
use Rattle.ak_merge.specs.Holdings.{name_in}
use Rattle.ak_undo.specs.declared.steps.Step.{Step}

-- ---- how it ends
-- none of the cards is held and away, and all is as it was
pub record SendsNone (cards : List ℤ) (c : Collection) (before now : Keeping) (steps left : List Step) (result : Result Bool DeskFault) : Type 0 where
  pub told : result ≡ Ok false
  pub none : is_some_away c.rows cards ≡ false
  pub same : now ≡ before
  pub kept : left ≡ steps

-- those of the cards that are held and away went home, and nothing can be undone
pub record SendsSome (at : ℤ) (cards : List ℤ) (c : Collection) (before now : Keeping) (left : List Step) (result : Result Bool DeskFault) : Type 0 where
  pub told : result ≡ Ok true
  pub some : is_some_away c.rows cards ≡ true
  -- no stamp and no moment ends
  pub passes : (fault : DeskFault) → RefusesStamp at c (sending_home cards c) fault → ⊥
  pub cleared : IsCleared at c (sending_home cards c) before now left

-- it was refused, and all is as it was
pub record SendsRefused (at : ℤ) (cards : List ℤ) (c : Collection) (before now : Keeping) (steps left : List Step) (result : Result Bool DeskFault) : Type 0 where
  pub fault : DeskFault
  pub refused : result ≡ Err fault
  pub tested : IsFromOutside fault ⊎ ((is_some_away c.rows cards ≡ true) × RefusesStamp at c (sending_home cards c) fault)
  pub same : now ≡ before
  pub kept : left ≡ steps

-- how the sending ended: none of the cards was away, some went home, or it was refused
abbrev pub EndsSending : ℤ → List ℤ → Collection → Keeping → Keeping → List Step → List Step → Result Bool DeskFault → Type 0
EndsSending at cards c before now steps left result =
    SendsNone cards c before now steps left result
    ⊎ SendsSome at cards c before now left result
    ⊎ SendsRefused at cards c before now steps left result

-- ---- the changes that are made for it
-- the card of this id was put as it is at home, if it is held
abbrev pub went_home : DeckFlags → Rows → ℤ → Overlay → Overlay
went_home flags held id o = put_changed (gone_home flags) (get held) (name_in tables.Card id) o

-- the changes that send these cards home, and whether one of them was away
pub record IsSent (cards : List ℤ) (held : Rows) (sending : Sending) : Type 0 where
  pub went : sending.went ≡ is_some_away held cards
  pub change : sending.change ≡ put_each (gone_home (filtered_at held)) (get held) cards unchanged
