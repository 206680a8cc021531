-- The edits of the calls on cards and decks are admitted.
use Rattle.std.specs.Prelude.{◌≡◌, ℤ, List}
use Rattle.std.proofs.Common.{refl}
use Rattle.ak_base.specs.declared.names.Table.TheVariants as tables
use Rattle.ak_decks.proofs.UsedOptions.{using_named}
use Rattle.ak_decks.specs.DeckOptions.{options_use, using_options}
use Rattle.ak_decks.specs.Flags.{flagged, flagging}
use Rattle.ak_decks.specs.Moves.{moved, moving}
use Rattle.ak_edit_calls.proofs.AdmittedEdits.{card_edits_are_admitted, row_changes_are_admitted}
use Rattle.ak_edit_calls.specs.RowEdits.{MayChange}
use Rattle.ak_keep.specs.Collections.{Collection}
use Rattle.ak_merge.specs.Edits.{Admits}
use Rattle.ak_merge.specs.Holdings.{AreNamed, name_in, row_under}

pub flag_edits_are_admitted : (value : ℤ) (cards : List ℤ) (c : Collection) → AreNamed (row_under c) → Admits c (flagging value cards c)
flag_edits_are_admitted value cards c = card_edits_are_admitted (flagged value) cards c (λ card. refl)

pub moves_are_admitted : (deck : ℤ) (cards : List ℤ) (c : Collection) → AreNamed (row_under c) → Admits c (moving deck cards c)
moves_are_admitted deck cards c = card_edits_are_admitted (moved deck) cards c (λ card. refl)

pub option_uses_are_admitted : (options deck : ℤ) (c : Collection) → AreNamed (row_under c) → Admits c (options_use options deck c)
option_uses_are_admitted options deck c =
    let may : MayChange (name_in tables.Deck deck) (using_options options) = record { name = λ row. using_named options row; review = λ is. cc } in
    row_changes_are_admitted (name_in tables.Deck deck) (using_options options) c may
