-- New decks with paths of at most 512 bytes pass their checks.
use Rattle.std.specs.Prelude.{◌≡◌, ◌≤◌, ◌≤ℤ◌, ℕ, ℤ, pos, negsuc, Bool, false, nat_lt, codes, List, [], ◌∷◌, ◌++◌, length, None}
use Rattle.std.proofs.Common.{arith, refl, sym, ap, subst, ◌∙◌}
use Rattle.std.proofs.lemmas.Int.{clamps, ints}
use Rattle.std.specs.FinMap.{get}
use Rattle.std.specs.Int.{int_max}
use Rattle.std.specs.List.{AllByRecursion}
use Rattle.ak_base.specs.Columns.{code_fault, id_fault, long_fault, stamp_fault}
use Rattle.ak_base.specs.Decks.{count_fault, taken_faults, title_faults}
use Rattle.ak_base.specs.Limits.{last_usn}
use Rattle.ak_base.specs.Rows.{IsChecked}
use Rattle.ak_base.specs.declared.decks.Deck.{Deck}
use Rattle.ak_base.specs.declared.names.Name.{Name}
use Rattle.ak_base.specs.declared.names.Table.TheVariants as tables
use Rattle.ak_base.specs.declared.rows.Row.TheVariants as rows
use Rattle.ak_edit_calls.proofs.CheckedRows.{of_faultless}
use Rattle.ak_edit_calls.proofs.Ids.{id_fits}
use Rattle.ak_keep.specs.FreeNames.{is_used}
use Rattle.ak_edit_calls.specs.NewNames.{AreMadeOf, first_name}
use Rattle.ak_keep.specs.Collections.{IsId, Rows}
use Rattle.ak_deck_paths.proofs.ShortPaths.{AreShort}
use Rattle.ak_base.specs.Names.{next_name}
use Rattle.ak_deck_paths.specs.NewDecks.{AreNewDecks, IsNewDeck, none_taken}

-- ---- columns
first_fits : id_fault (pos 1) ≡ None
unfolding id_fault
first_fits = refl

no_stamp_fits : stamp_fault (pos 0) ≡ None
unfolding stamp_fault
no_stamp_fits = refl

unsent_fits : code_fault 2 (negsuc 0) (negsuc 0) last_usn ≡ None
unfolding code_fault
unsent_fits = refl

none_fits : (column : ℕ) → count_fault column none_taken ≡ None
unfolding code_fault
none_fits column = refl

short_fits : (column size most : ℕ) → size ≤ most → long_fault column size most ≡ None
unfolding long_fault
short_fits column size most short = let no : nat_lt most size ≡ false = grind (arith, short) in rw no refl

rest_fits : long_fault 8 (length (codes "{}")) 262_144 ≡ None
rest_fits = short_fits 8 2 262_144 (omega arith)

-- ---- one deck
-- the deck passes its check
abbrev pub Passes : Deck → Type 0
Passes deck = IsChecked (rows.Deck deck)

pub new_passes : (path : List ℕ) (id : ℤ) (deck : Deck) → IsNewDeck path id deck → IsId id → length path ≤ 512 → Passes deck
unfolding title_faults taken_faults
new_passes path id deck is range short =
    of_faultless (title_faults deck ++ taken_faults deck) (
      ap id_fault is.id ∙ id_fits id range,
      (
        ap stamp_fault is.stamp ∙ no_stamp_fits,
        (
          ap (λ (usn : ℤ). code_fault 2 usn (negsuc 0) last_usn) is.usn ∙ unsent_fits,
          (
            ap (λ (name : List ℕ). long_fault 3 (length name) 512) is.name ∙ short_fits 3 (length path) 512 short,
            (
              ap id_fault is.options ∙ first_fits,
              (
                ap (count_fault 6) is.new_today ∙ none_fits 6,
                (
                  ap (count_fault 7) is.rev_today ∙ none_fits 7,
                  (
                    ap (λ (text : List ℕ). long_fault 8 (length text) 262_144) is.rest ∙ rest_fits,
                    tt,
                  ),
                ),
              ),
            ),
          ),
        ),
      ),
    )

-- ---- all of them
all_pass : (used : Name → Bool) (first : Name) (paths : List (List ℕ)) (made : List Deck) → pos 1 ≤ℤ first.id → AreShort 512 paths → AreMadeOf used IsNewDeck first paths made → AllByRecursion Passes made
all_pass used first [] made low short are = subst (AllByRecursion Passes) (sym are) tt
all_pass used first (path ∷ paths) made low short are =
    let name : Name = are.0 in
    let above : pos 1 ≤ℤ name.id = grind (arith, ints, low, are.1.from) in
    let next : pos 1 ≤ℤ (next_name name).id = grind (arith, ints, above) in
    subst (AllByRecursion Passes) (sym are.5)
    (new_passes path name.id are.2 are.3 (record { low = above; high = are.1.within }) short.0, all_pass used (next_name name) paths are.4 next short.1 are.6)

first_over_zero : (at : ℤ) → pos 1 ≤ℤ int_max at (pos 1)
first_over_zero at = grind (arith, ints, clamps)

pub decks_pass : (at : ℤ) (paths : List (List ℕ)) (held : Rows) (made : List Deck) → AreShort 512 paths → AreNewDecks at paths held made → AllByRecursion Passes made
decks_pass at paths held made short = all_pass (is_used (get held)) (first_name tables.Deck at) paths made (first_over_zero at) short
