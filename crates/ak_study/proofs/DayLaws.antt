-- A card once the day has begun.
use Rattle.std.specs.Prelude.{◌≡◌, ℤ, Bool, true, false, if◌then◌else◌, Option, Some, None, option_and_then}
use Rattle.std.proofs.Common.{refl, sym, ap, ◌∙◌}
use Rattle.std.specs.Option.{option_map}
use Rattle.ak_base.specs.declared.cards.Card.{Card}
use Rattle.ak_base.specs.declared.days.Day.{Day}
use Rattle.ak_base.specs.declared.names.Table.TheVariants as tables
use Rattle.ak_base.specs.declared.rows.Row.{Row}
use Rattle.ak_base.specs.declared.rows.Row.TheVariants as rows
use Rattle.ak_keep.specs.Collections.{Collection}
use Rattle.ak_keep.specs.Lookups.{as_card, card_at}
use Rattle.ak_merge.specs.EditBuilding.{unedited, with_conf, with_rows_mapped}
use Rattle.ak_merge.specs.Edits.{Edit}
use Rattle.ak_merge.specs.Holdings.{name_in, row_under}
use Rattle.ak_study.specs.Answers.{card_on}
use Rattle.ak_study.specs.CardPlaces.{unburied}
use Rattle.ak_study.specs.DayStarts.{begun_on, card_begun, is_new_day, unburied_row}
use Rattle.ak_study.specs.declared.day_starts.Begun.{Begun}

card_back : (y : Option Row) → option_and_then as_card (option_map unburied_row y) ≡ option_map unburied (option_and_then as_card y)
card_back None = refl
card_back (Some (rows.Card card)) = refl
card_back (Some (rows.Note note)) = refl
card_back (Some (rows.Review review)) = refl
card_back (Some (rows.NoteType note_type)) = refl
card_back (Some (rows.Deck deck)) = refl
card_back (Some (rows.Options options)) = refl
card_back (Some (rows.Grave grave)) = refl

mapped_itself : (y : Option Card) → y ≡ option_map (λ (card : Card). card) y
mapped_itself None = refl
mapped_itself (Some card) = refl

-- the edit that starts a day, if it starts
abbrev pub start_if : Day → Collection → Bool → Edit
start_if day c b = if b then with_conf (begun_on day c.head.conf) (with_rows_mapped unburied_row (unedited c)) else unedited c

-- the card as the day's start leaves it is the one that is held, once the day has begun
pub card_on_begun : (begun : Begun) (c : Collection) (id : ℤ) → begun.starts ≡ is_new_day begun.day c.head.conf → card_on begun.day c id ≡ option_map (card_begun begun) (card_at c.rows id)
card_on_begun begun c id starts =
    ap (λ (b : Bool). option_and_then as_card ((start_if begun.day c b).rows (name_in tables.Card id))) (sym starts) ∙ by_start begun.starts
  where
    by_start : (b : Bool) → option_and_then as_card ((start_if begun.day c b).rows (name_in tables.Card id)) ≡ option_map (λ (card : Card). if b then unburied card else card) (card_at c.rows id)
    by_start true = card_back (row_under c (name_in tables.Card id))
    by_start false = mapped_itself (card_at c.rows id)
