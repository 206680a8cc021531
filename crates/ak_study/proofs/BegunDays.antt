-- What stands under each name once the day has begun.
use Rattle.std.specs.Prelude.{◌≡◌, ℕ, pos, Bool, true, false, if◌then◌else◌, List, [], Option, Some, None}
use Rattle.std.proofs.Common.{refl, sym, ap, ◌∙◌}
use Rattle.std.proofs.lemmas.Option.{none-some, same_Some}
use Rattle.std.specs.FinMap.{get}
use Rattle.std.specs.Option.{option_and_then, option_map, option_or}
use Rattle.ak_base.specs.Rows.{name_of}
use Rattle.ak_base.specs.declared.heads.Conf.{Conf}
use Rattle.ak_base.specs.declared.names.Name.{Name}
use Rattle.ak_base.specs.declared.names.Table.TheVariants as tables
use Rattle.ak_base.specs.declared.rows.Row.{Row}
use Rattle.ak_base.specs.declared.rows.Row.TheVariants as rows
use Rattle.ak_edit.specs.Overlays.{conf_over, row_over, unchanged}
use Rattle.ak_edit_calls.proofs.Overlaying.{none_noted, rest_of}
use Rattle.ak_keep.specs.Collections.{Rows, rows_past}
use Rattle.ak_merge.specs.Holdings.{AreChecked, AreNamed}
use Rattle.ak_study.proofs.ChangedRows.{ChangesTable, changed_rest, changed_under}
use Rattle.ak_study.specs.CardPlaces.{lies_buried, restored}
use Rattle.ak_study.specs.DayStarts.{all_back, back_again, begun_on, begun_over, unburied_row}
use Rattle.ak_study.specs.declared.day_starts.Begun.{Begun}

brings_cards : ChangesTable tables.Card back_again
brings_cards = record { name = λ row made is. keeps row made is; table = λ row made is. is_card row made is }
  where
    keeps : (row made : Row) → back_again row ≡ Some made → name_of made ≡ name_of row
    keeps (rows.Card card) made is =
        elim (lies_buried card) as (λ b. (if b then Some (rows.Card (restored card)) else None) ≡ Some made → name_of made ≡ name_of (rows.Card card)) [
          | true ↦ λ is. ap name_of (sym (same_Some (rows.Card (restored card)) made is))
          | false ↦ λ is. absurd (none-some made is)
        ] is
    keeps (rows.Note note) made is = absurd (none-some made is)
    keeps (rows.Review review) made is = absurd (none-some made is)
    keeps (rows.NoteType note_type) made is = absurd (none-some made is)
    keeps (rows.Deck deck) made is = absurd (none-some made is)
    keeps (rows.Options options) made is = absurd (none-some made is)
    keeps (rows.Grave grave) made is = absurd (none-some made is)

    is_card : (row made : Row) → back_again row ≡ Some made → (name_of row).table ≡ tables.Card
    is_card (rows.Card card) made is = refl
    is_card (rows.Note note) made is = absurd (none-some made is)
    is_card (rows.Review review) made is = absurd (none-some made is)
    is_card (rows.NoteType note_type) made is = absurd (none-some made is)
    is_card (rows.Deck deck) made is = absurd (none-some made is)
    is_card (rows.Options options) made is = absurd (none-some made is)
    is_card (rows.Grave grave) made is = absurd (none-some made is)

brought : (y : Option Row) → option_or (option_and_then back_again y) y ≡ option_map unburied_row y
brought None = refl
brought (Some (rows.Card card)) =
    elim (lies_buried card) as (λ b. option_or (if b then Some (rows.Card (restored card)) else None) (Some (rows.Card card)) ≡ Some (rows.Card (if b then restored card else card))) [ true ↦ refl | false ↦ refl ]
brought (Some (rows.Note note)) = refl
brought (Some (rows.Review review)) = refl
brought (Some (rows.NoteType note_type)) = refl
brought (Some (rows.Deck deck)) = refl
brought (Some (rows.Options options)) = refl
brought (Some (rows.Grave grave)) = refl

pub begun_under : (begun : Begun) (held : Rows) (conf : Conf) (q : Name) → AreNamed (get held) → AreChecked (get held)
    → row_over (begun_over begun held conf unchanged) (get held) q ≡ (if begun.starts then option_map unburied_row (get held q) else get held q)
begun_under begun held conf q named checked =
    elim begun.starts as (λ b. row_over (if b then conf_over (begun_on begun.day conf) (all_back held unchanged) else unchanged) (get held) q ≡ (if b then option_map unburied_row (get held q) else get held q)) [
      | true ↦
          changed_under tables.Card back_again held unchanged q brings_cards named checked
          ∙ ap (option_or (option_and_then back_again (get held q))) (none_noted (get held) q) ∙ brought (get held q)
      | false ↦ none_noted (get held) q
    ]

pub begun_rest : (begun : Begun) (held : Rows) (conf : Conf) → rest_of (begun_over begun held conf unchanged) ≡ ((if begun.starts then Some (begun_on begun.day conf) else None), ([], false))
begun_rest begun held conf =
    elim begun.starts as (λ b. rest_of (if b then conf_over (begun_on begun.day conf) (all_back held unchanged) else unchanged) ≡ ((if b then Some (begun_on begun.day conf) else None), ([], false))) [
      | true ↦
          ap (λ (r : Option Conf × (List (List ℕ) × Bool)). let out : Option Conf × (List (List ℕ) × Bool) = (Some (begun_on begun.day conf), (r.1.0, r.1.1)) in out)
          (changed_rest back_again (rows_past tables.Card (pos 0) held) unchanged)
      | false ↦ refl
    ]
