-- The collection that is made of a seed is one that a server may hold.
use Rattle.std.proofs.Common.{is_eq, ◌≡◌, ℕ, ℤ, pos, ◌+◌, ◌*◌, ◌<◌, ◌≤◌, false, List, [], ◌++◌, refl, sym, ap, ◌∙◌, subst, arith}
use Rattle.std.proofs.lemmas.Int.{ints}
use Rattle.std.specs.List.{AllByRecursion}
use Rattle.std.specs.Cmp.{int_cmp_is}
use Rattle.std.specs.Ordering.{int_cmp}
use Rattle.std.specs.declared.cmp.Ordering.TheVariants.{Less}
use Rattle.ak_base.specs.Heads.{IsHeadInRange}
use Rattle.ak_base.specs.Rows.{IsChecked, name_of}
use Rattle.ak_base.specs.declared.decks.Deck.{Deck}
use Rattle.ak_base.specs.declared.names.Name.{Name}
use Rattle.ak_base.specs.declared.note_types.NoteType.{NoteType}
use Rattle.ak_base.specs.declared.option_groups.Options.{Options}
use Rattle.ak_base.specs.declared.rows.Row.TheVariants as rows
use Rattle.ak_base.specs.declared.rows.Row.{Row}
use Rattle.ak_keep.specs.Collections.{rows_of}
use Rattle.ak_made_collections.proofs.CheckedCards.{card_passes, review_passes}
use Rattle.ak_made_collections.proofs.Runs.{AreOthers, HaveOwnNames, both, both_distinct, each_of, others_of, run_apart, run_distinct}
use Rattle.ak_made_collections.specs.MadeCards.{made_card, made_review}
use Rattle.ak_made_collections.specs.MadeLists.{card_rows, made_rows, note_rows, review_rows}
use Rattle.ak_made_collections.specs.MadeNotes.{made_note}
use Rattle.ak_made_collections.specs.RowNumbers.{cards_before}
use Rattle.ak_merge.specs.Commits.{IsCommitted}
use Rattle.ak_openings.proofs.OpeningLaws.{opened_graveless, opened_new}
use Rattle.ak_openings.proofs.ServersRows.{IsNew, IsNoGrave, new_is_committed}
use Rattle.ak_openings.specs.Openings.{IsOpening, five_rows}
use Rattle.ak_openings.specs.declared.whole_collections.Opening.{Opening}

-- ---- the rows of each number
abbrev note_of : ℕ → ℕ → Row
note_of seed number = rows.Note (made_note seed number)

abbrev card_of : ℕ → ℕ → Row
card_of seed number = rows.Card (made_card seed number)

abbrev review_of : ℕ → ℕ → Row
review_of seed number = rows.Review (made_review seed number)

-- what holds of each holds of all
each_made : (P : Row → Type 0) (seed size : ℕ) → size ≤ 20_000 → AllByRecursion P (note_rows seed size)
    → ((number : ℕ) → number < 40_000 → P (card_of seed number)) → ((number : ℕ) → number < 160_000 → P (review_of seed number))
    → AllByRecursion P (made_rows seed size)
each_made P seed size small notes card review =
    both P (note_rows seed size ++ card_rows seed (cards_before size)) (review_rows seed (4 * cards_before size))
    (both P (note_rows seed size) (card_rows seed (cards_before size)) notes
    (each_of P (card_of seed) 0 (cards_before size) (λ number few. card number (omega (arith, few, small)))))
    (each_of P (review_of seed) 0 (4 * cards_before size) (λ number few. review number (omega (arith, few, small))))

pub made_checked : (seed size : ℕ) → size ≤ 20_000 → AllByRecursion IsChecked (note_rows seed size) → AllByRecursion IsChecked (made_rows seed size)
made_checked seed size small notes = each_made IsChecked seed size small notes (card_passes seed) (review_passes seed)

made_new : (seed size : ℕ) → size ≤ 20_000 → AllByRecursion IsNew (made_rows seed size)
made_new seed size small =
    each_made IsNew seed size small (each_of IsNew (note_of seed) 0 size (λ number few. refl)) (λ number few. refl) (λ number few. refl)

made_graveless : (seed size : ℕ) → size ≤ 20_000 → AllByRecursion IsNoGrave (made_rows seed size)
made_graveless seed size small =
    each_made IsNoGrave seed size small (each_of IsNoGrave (note_of seed) 0 size (λ number few name. refl))
    (λ number few name. refl) (λ number few name. refl)

-- ---- names
ids_apart : (first one other : ℕ) → one < other → is_eq (int_cmp (pos (first + one)) (pos (first + other))) ≡ false
ids_apart first one other before = ap is_eq (sym (int_cmp_is (pos (first + one)) (pos (first + other)) Less (omega (arith, ints, before))))

notes_distinct : (seed size : ℕ) → HaveOwnNames (note_rows seed size)
notes_distinct seed size = run_distinct (note_of seed) 0 size (ids_apart 1_500_000_000_000)

cards_distinct : (seed count : ℕ) → HaveOwnNames (card_rows seed count)
cards_distinct seed count = run_distinct (card_of seed) 0 count (ids_apart 1_500_000_000_000)

reviews_distinct : (seed count : ℕ) → HaveOwnNames (review_rows seed count)
reviews_distinct seed count = run_distinct (review_of seed) 0 count (ids_apart 1_600_000_000_000)

-- a note is called as no card is, and so on
notes_and_cards : (seed notes cards : ℕ) → HaveOwnNames (note_rows seed notes ++ card_rows seed cards)
notes_and_cards seed notes cards =
    both_distinct (note_rows seed notes) (card_rows seed cards) (notes_distinct seed notes) (cards_distinct seed cards)
    (run_apart (note_of seed) 0 notes (card_rows seed cards)
    (λ number. others_of (name_of (note_of seed number)) (card_of seed) 0 cards (λ other least. refl)))

made_distinct : (seed size : ℕ) → HaveOwnNames (made_rows seed size)
made_distinct seed size =
    let cards : ℕ = cards_before size in
    let reviews : List Row = review_rows seed (4 * cards) in
    both_distinct (note_rows seed size ++ card_rows seed cards) reviews (notes_and_cards seed size cards) (reviews_distinct seed (4 * cards))
    (both (λ (row : Row). AreOthers (name_of row) reviews) (note_rows seed size) (card_rows seed cards)
    (run_apart (note_of seed) 0 size reviews (λ number. others_of (name_of (note_of seed number)) (review_of seed) 0 (4 * cards) (λ other least. refl)))
    (run_apart (card_of seed) 0 cards reviews (λ number. others_of (name_of (card_of seed number)) (review_of seed) 0 (4 * cards) (λ other least. refl))))

-- ---- with the rows of the opening
opened_others : (ms : ℤ) (opened : Opening) (name : Name) → IsOpening ms false opened
    → ((basic cloze reversed : NoteType) (deck : Deck) (options : Options) → AreOthers name (five_rows basic cloze reversed deck options))
    → AreOthers name opened.rows
opened_others ms opened name is others =
    let (b, c, r, d, o, are, five) = is.rows_are.are in
    subst (AreOthers name) (sym are) (others b c r d o)

pub all_distinct : (ms : ℤ) (seed size : ℕ) (opened : Opening) → size ≤ 20_000 → IsOpening ms false opened → HaveOwnNames opened.rows
    → HaveOwnNames (made_rows seed size ++ opened.rows)
all_distinct ms seed size opened small is own =
    both_distinct (made_rows seed size) opened.rows (made_distinct seed size) own
    (each_made (λ (row : Row). AreOthers (name_of row) opened.rows) seed size small
    (run_apart (note_of seed) 0 size opened.rows (λ number. opened_others ms opened (name_of (note_of seed number)) is (λ b c r d o. (refl, (refl, (refl, (refl, (refl, tt))))))))
    (λ number few. opened_others ms opened (name_of (card_of seed number)) is (λ b c r d o. (refl, (refl, (refl, (refl, (refl, tt)))))))
    (λ number few. opened_others ms opened (name_of (review_of seed number)) is (λ b c r d o. (refl, (refl, (refl, (refl, (refl, tt))))))))

pub all_lawful : (ms : ℤ) (seed size : ℕ) (opened : Opening) → size ≤ 20_000 → IsOpening ms false opened → IsHeadInRange opened.head
    → AllByRecursion IsChecked (made_rows seed size) → AllByRecursion IsChecked opened.rows
    → IsCommitted (record { rows = rows_of (made_rows seed size ++ opened.rows); head = opened.head })
all_lawful ms seed size opened small is range checked own =
    new_is_committed (made_rows seed size ++ opened.rows) opened.head (both IsChecked (made_rows seed size) opened.rows checked own)
    (both IsNew (made_rows seed size) opened.rows (made_new seed size small) (opened_new ms opened is))
    (both IsNoGrave (made_rows seed size) opened.rows (made_graveless seed size small) (opened_graveless ms opened is))
    range is.head.usn is.head.tags

-- ---- the steps of the code
-- the rows, by the three lists that are put one after the other
pub rows_in_turn : (seed size cards : ℕ) (start noted carded reviewed : List Row) → start ≡ [] → noted ≡ start ++ note_rows seed size
    → carded ≡ noted ++ card_rows seed cards → reviewed ≡ carded ++ review_rows seed (4 * cards) → cards ≡ cards_before size
    → reviewed ≡ made_rows seed size
rows_in_turn seed size cards start noted carded reviewed none notes more last count =
    last ∙ ap (λ (rows : List Row). rows ++ review_rows seed (4 * cards)) (more ∙ ap (λ (rows : List Row). rows ++ card_rows seed cards)
    (notes ∙ ap (λ (rows : List Row). rows ++ note_rows seed size) none))
    ∙ ap (λ (n : ℕ). note_rows seed size ++ card_rows seed n ++ review_rows seed (4 * n)) count

-- and those of the opening behind them
pub opened_behind : (seed size : ℕ) (made added opened all listed : List Row) → made ≡ made_rows seed size → opened ≡ added → all ≡ made ++ opened
    → listed ≡ all → listed ≡ made_rows seed size ++ added
opened_behind seed size made added opened all listed are same appended is =
    is ∙ appended ∙ ap (λ (rows : List Row). rows ++ opened) are ∙ ap (λ (rows : List Row). made_rows seed size ++ rows) same
