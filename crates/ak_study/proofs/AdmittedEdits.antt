-- The edits of the calls are admitted.
use Rattle.std.specs.Prelude.{◌≡◌, ℤ, Bool, true, false, if◌then◌else◌, List}
use Rattle.std.proofs.Common.{refl, ap}
use Rattle.ak_base.specs.Rows.{name_of}
use Rattle.ak_base.specs.declared.days.Day.{Day}
use Rattle.ak_base.specs.declared.names.Table.TheVariants as tables
use Rattle.ak_base.specs.declared.rows.Row.{Row}
use Rattle.ak_base.specs.declared.rows.Row.TheVariants as rows
use Rattle.ak_edit_calls.proofs.AdmittedEdits.{card_edits_are_admitted}
use Rattle.ak_edit_calls.specs.CardEdits.{card_edit}
use Rattle.ak_keep.specs.Collections.{Collection}
use Rattle.ak_merge.proofs.EditBuildingLaws.{maps_are_admitted, settings_are_admitted, unedited_is_admitted}
use Rattle.ak_merge.specs.EditBuilding.{MayMap, unedited, with_conf, with_rows_mapped}
use Rattle.ak_merge.specs.Edits.{Admits}
use Rattle.ak_merge.specs.Holdings.{AreNamed, name_in, row_under}
use Rattle.ak_study.proofs.PlacedCards.{bury_keeps, suspend_keeps, unbury_keeps, unsuspend_keeps}
use Rattle.ak_study.specs.CardPlaces.{buried_by_hand, suspended, unsuspended}
use Rattle.ak_study.specs.DayStarts.{begun_on, day_start, is_new_day, unburied_row}

-- ---- cards set aside
pub suspensions_are_admitted : (cards : List ℤ) (c : Collection) → AreNamed (row_under c) → Admits c (card_edit suspended cards c)
suspensions_are_admitted cards c = card_edits_are_admitted suspended cards c suspend_keeps.id

pub unsuspensions_are_admitted : (cards : List ℤ) (c : Collection) → AreNamed (row_under c) → Admits c (card_edit unsuspended cards c)
unsuspensions_are_admitted cards c = card_edits_are_admitted unsuspended cards c unsuspend_keeps.id

pub burials_are_admitted : (cards : List ℤ) (c : Collection) → AreNamed (row_under c) → Admits c (card_edit buried_by_hand cards c)
burials_are_admitted cards c = card_edits_are_admitted buried_by_hand cards c bury_keeps.id

-- ---- a day's start
pub unburied_name : (row : Row) → name_of (unburied_row row) ≡ name_of row
unburied_name (rows.Card card) = ap (name_in tables.Card) (unbury_keeps.id card)
unburied_name (rows.Note note) = refl
unburied_name (rows.Review review) = refl
unburied_name (rows.NoteType note_type) = refl
unburied_name (rows.Deck deck) = refl
unburied_name (rows.Options options) = refl
unburied_name (rows.Grave grave) = refl

review_stays : (row : Row) → (name_of row).table ≡ tables.Review → unburied_row row ≡ row
review_stays (rows.Card card) is = absurd (cc)
review_stays (rows.Note note) is = refl
review_stays (rows.Review review) is = refl
review_stays (rows.NoteType note_type) is = refl
review_stays (rows.Deck deck) is = refl
review_stays (rows.Options options) is = refl
review_stays (rows.Grave grave) is = refl

either_admitted : (new : Bool) (day : Day) (c : Collection) → AreNamed (row_under c)
    → Admits c (if new then with_conf (begun_on day c.head.conf) (with_rows_mapped unburied_row (unedited c)) else unedited c)
either_admitted true day c named =
    let may : MayMap unburied_row = record { name = unburied_name; review = review_stays } in
    settings_are_admitted c (with_rows_mapped unburied_row (unedited c)) (begun_on day c.head.conf)
    (maps_are_admitted c (unedited c) unburied_row (unedited_is_admitted c named) may)
either_admitted false day c named = unedited_is_admitted c named

pub day_starts_are_admitted : (day : Day) (c : Collection) → AreNamed (row_under c) → Admits c (day_start day c)
day_starts_are_admitted day c = either_admitted (is_new_day day c.head.conf) day c
