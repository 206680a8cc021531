-- What an answer reads before its card: a free name for the review, and the decks that count.
use Rattle.std.specs.Prelude.{◌≡◌, ℤ, pos, false, ◌&&◌, not, if◌then◌else◌, List, Option, Some}
use Rattle.std.proofs.Common.{sym, ap, ◌∙◌}
use Rattle.std.specs.FinMap.{get}
use Rattle.std.specs.Option.{option_map_or}
use Rattle.std.specs.Ordering.{int_eq}
use Rattle.ak_base.specs.declared.cards.Card.{Card}
use Rattle.ak_base.specs.declared.days.Day.{Day}
use Rattle.ak_base.specs.declared.decks.Deck.{Deck}
use Rattle.ak_base.specs.declared.names.Table.TheVariants as tables
use Rattle.ak_base.specs.declared.rows.Row.TheVariants as rows
use Rattle.ak_edit_calls.proofs.Telling.{where_told-both}
use Rattle.ak_keep.specs.FreeNames.{IsFirstFree, is_used}
use Rattle.ak_edit_calls.specs.NewNames.{first_name}
use Rattle.ak_edit.specs.Overlays.{Overlay, put_over, unchanged}
use Rattle.ak_edit.specs.Views.{rows_over}
use Rattle.ak_keep.specs.Collections.{Rows, rows_past}
use Rattle.ak_keep.specs.Keepers.{Keeping, WhereTold}
use Rattle.ak_keep.specs.Lookups.{deck_of_card}
use Rattle.ak_queue.specs.Burials.{bury_list}
use Rattle.ak_study.specs.Answers.{answer_put, counts_put, leech_put}
use Rattle.ak_study.specs.Asking.{IsPrepared}
use Rattle.ak_study.specs.DayStarts.{HasBegun}
use Rattle.ak_study.specs.DeckCounts.{counted_row}
use Rattle.ak_study.specs.RowChanges.{put_rows_changed}
use Rattle.ak_study.specs.Siblings.{put_siblings}
use Rattle.ak_study.specs.declared.answerings.Answering.{Answering}
use Rattle.ak_study.specs.declared.answers.Prepared.{Prepared}

-- ---- what is prepared
pub prepared_told : (k : Keeping) (at : ℤ) (p : Prepared) → WhereTold k (λ h. IsFirstFree (is_used (get h.rows)) (first_name tables.Review at) p.free)
    → WhereTold k (λ h. HasBegun at h p.begun unchanged p.change) → WhereTold k (IsPrepared at p)
prepared_told k at p =
    where_told-both k (λ h. IsFirstFree (is_used (get h.rows)) (first_name tables.Review at) p.free) (λ h. HasBegun at h p.begun unchanged p.change) (IsPrepared at p)
    (λ h free begun. record { begun = begun; free = free })

-- ---- the decks that count
counts_of : (day : Day) (held : Rows) (was : Card) (home : Deck) (o : Overlay) → (not (int_eq was.queue (pos 0)) && not (int_eq was.queue (pos 2))) ≡ false → Some home ≡ deck_of_card held was
    → counts_put day held was o ≡ put_rows_changed (counted_row day was.queue home) (rows_past tables.Deck (pos 0) held) o
counts_of day held was home o counted is =
    let by : Option Deck → Overlay = λ found. option_map_or (λ (d : Deck). put_rows_changed (counted_row day was.queue d) (rows_past tables.Deck (pos 0) held) o) found o in
    ap (λ b. if b then o else by (deck_of_card held was)) counted ∙ ap by (sym is)

pub counts_told : (k : Keeping) (day : Day) (was : Card) (home : Deck) (found : Option Deck) (old new : Overlay) → (not (int_eq was.queue (pos 0)) && not (int_eq was.queue (pos 2))) ≡ false
    → found ≡ Some home → WhereTold k (λ h. found ≡ deck_of_card h.rows was)
    → WhereTold k (λ h. new ≡ put_rows_changed (counted_row day was.queue home) (rows_past tables.Deck (pos 0) h.rows) old) → WhereTold k (λ h. new ≡ counts_put day h.rows was old)
counts_told k day was home found old new counted some =
    where_told-both k (λ h. found ≡ deck_of_card h.rows was) (λ h. new ≡ put_rows_changed (counted_row day was.queue home) (rows_past tables.Deck (pos 0) h.rows) old) (λ h. new ≡ counts_put day h.rows was old)
    (λ h is changes. changes ∙ sym (counts_of day h.rows was home old counted (sym some ∙ is)))

-- ---- all that an answer puts
abbrev siblings_put : Day → Answering → Overlay → Rows → Overlay
siblings_put day a o held =
    put_over (rows.Review a.answered.review) (put_over (rows.Card a.made) (put_siblings (get held) (bury_list (rows_over o held) a.was a.options day) o))

-- the siblings were put, then the card and its review, then the decks that count, then the note of a leech
pub put_told : (k : Keeping) (day : Day) (a : Answering) (ids : List ℤ) (old buried made counted new : Overlay)
    → WhereTold k (λ h. ids ≡ bury_list (rows_over old h.rows) a.was a.options day) → WhereTold k (λ h. buried ≡ put_siblings (get h.rows) ids old)
    → made ≡ put_over (rows.Review a.answered.review) (put_over (rows.Card a.made) buried) → WhereTold k (λ h. counted ≡ counts_put day h.rows a.was made)
    → WhereTold k (λ h. new ≡ leech_put h.rows a counted) → WhereTold k (λ h. new ≡ answer_put day h.rows a old)
put_told k day a ids old buried made counted new listed puts makes counts tags =
    where_told-both k (λ h. made ≡ siblings_put day a old h.rows) (λ h. new ≡ leech_put h.rows a (counts_put day h.rows a.was made)) (λ h. new ≡ answer_put day h.rows a old)
    (λ h one two. two ∙ ap (λ (o : Overlay). leech_put h.rows a (counts_put day h.rows a.was o)) one)
    (where_told-both k (λ h. ids ≡ bury_list (rows_over old h.rows) a.was a.options day) (λ h. buried ≡ put_siblings (get h.rows) ids old) (λ h. made ≡ siblings_put day a old h.rows)
    (λ h one two. makes ∙ ap (λ (o : Overlay). put_over (rows.Review a.answered.review) (put_over (rows.Card a.made) o)) (two ∙ ap (λ (all : List ℤ). put_siblings (get h.rows) all old) one)) listed puts)
    (where_told-both k (λ h. counted ≡ counts_put day h.rows a.was made) (λ h. new ≡ leech_put h.rows a counted) (λ h. new ≡ leech_put h.rows a (counts_put day h.rows a.was made))
    (λ h one two. two ∙ ap (leech_put h.rows a) one) counts tags)
