-- Each opening collection is sound, and a server may hold one whose rows are not to be sent.
use Rattle.std.proofs.Common.{◌≡◌, ℤ, Bool, false, List, map, Some, refl, sym, subst}
use Rattle.std.proofs.lemmas.List.Elements.{recursion_from_All}
use Rattle.std.specs.FinMap.{get}
use Rattle.std.specs.List.{All, AllByRecursion, IsDistinct}
use Rattle.std.specs.Ordering.{eq_by_cmp}
use Rattle.ak_base.specs.Heads.{IsHeadInRange}
use Rattle.ak_base.specs.Names.{name_cmp}
use Rattle.ak_base.specs.Rows.{IsChecked, name_of}
use Rattle.ak_base.specs.declared.names.Name.{Name}
use Rattle.ak_base.specs.declared.rows.Row.{Row}
use Rattle.ak_base.specs.declared.rows.Row.TheVariants as rows
use Rattle.ak_io.specs.Arrivals.{IsClockMoment}
use Rattle.ak_keep.specs.Collections.{rows_of}
use Rattle.ak_merge.specs.Commits.{IsCommitted}
use Rattle.ak_merge.specs.Holdings.{row_under}
use Rattle.ak_merge.specs.Soundness.{IsSound}
use Rattle.ak_openings.proofs.OpeningHeads.{head_within, second_within}
use Rattle.ak_openings.proofs.OpeningRows.{rows_are_apart, rows_pass}
use Rattle.ak_openings.proofs.ServersRows.{IsNew, IsNoGrave, each_stands, new_is_committed}
use Rattle.ak_openings.specs.Openings.{AreOpeningRows, IsOpening}
use Rattle.ak_openings.specs.declared.whole_collections.Opening.{Opening}

-- ---- as a keeper takes them
pub openings_are_checked : (ms : ℤ) (unsent : Bool) (made : Opening) → IsClockMoment ms → IsOpening ms unsent made → All IsChecked made.rows
openings_are_checked ms unsent made within is = rows_pass unsent _ made.rows (second_within ms within) is.rows_are

pub openings_are_distinct : (ms : ℤ) (unsent : Bool) (made : Opening) → IsOpening ms unsent made → IsDistinct (eq_by_cmp name_cmp) (map name_of made.rows)
openings_are_distinct ms unsent made is = rows_are_apart _ _ made.rows is.rows_are

pub openings_are_in_range : (ms : ℤ) (unsent : Bool) (made : Opening) → IsClockMoment ms → IsOpening ms unsent made → IsHeadInRange made.head
openings_are_in_range ms unsent made within is = head_within unsent ms made.head within is.head

-- ---- sound
-- a row of no note and no card
abbrev IsNeither : Row → Type 0
IsNeither (rows.Note note) = ⊥
IsNeither (rows.Card card) = ⊥
IsNeither (rows.Review review) = Unit {0}
IsNeither (rows.NoteType type) = Unit {0}
IsNeither (rows.Deck deck) = Unit {0}
IsNeither (rows.Options options) = Unit {0}
IsNeither (rows.Grave grave) = Unit {0}

opened_neither : (second number : ℤ) (made : List Row) → AreOpeningRows second number made → AllByRecursion IsNeither made
opened_neither second number made are =
    let (b, c, r, d, o, is, five) = are.are in
    subst (AllByRecursion IsNeither) (sym is) (tt, (tt, (tt, (tt, (tt, tt)))))

pub openings_are_sound : (ms : ℤ) (unsent : Bool) (made : Opening) → IsOpening ms unsent made
    → IsSound (row_under (record { rows = rows_of made.rows; head = made.head }))
openings_are_sound ms unsent made is =
    let neither : (name : Name) (row : Row) → get (rows_of made.rows) name ≡ Some row → IsNeither row =
    each_stands IsNeither made.rows (opened_neither _ _ made.rows is.rows_are) in
    record {
      card_note = λ card held. absurd (neither _ (rows.Card card) held);
      note_card = λ note held. absurd (neither _ (rows.Note note) held);
      note_type = λ note held. absurd (neither _ (rows.Note note) held);
      template = λ card note type held. absurd (neither _ (rows.Card card) held);
    }

-- ---- a server's
pub opened_new : (ms : ℤ) (opened : Opening) → IsOpening ms false opened → AllByRecursion IsNew opened.rows
opened_new ms opened is =
    let (b, c, r, d, o, are, five) = is.rows_are.are in
    subst (AllByRecursion IsNew) (sym are)
    (five.is_basic.usn, (five.is_cloze.usn, (five.is_reversed.usn, (five.is_deck.usn, (five.are_options.usn, tt)))))

pub opened_graveless : (ms : ℤ) (opened : Opening) → IsOpening ms false opened → AllByRecursion IsNoGrave opened.rows
opened_graveless ms opened is =
    let (b, c, r, d, o, are, five) = is.rows_are.are in
    subst (AllByRecursion IsNoGrave) (sym are) ((λ name. refl), ((λ name. refl), ((λ name. refl), ((λ name. refl), ((λ name. refl), tt)))))

pub openings_are_lawful : (ms : ℤ) (made : Opening) → IsClockMoment ms → IsOpening ms false made
    → IsCommitted (record { rows = rows_of made.rows; head = made.head })
openings_are_lawful ms made within is =
    new_is_committed made.rows made.head (recursion_from_All IsChecked made.rows (openings_are_checked ms false made within is))
    (opened_new ms made is) (opened_graveless ms made is) (openings_are_in_range ms false made within is) is.head.usn is.head.tags
