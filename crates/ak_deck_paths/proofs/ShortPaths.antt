-- The paths above a path of at most 512 bytes have no more bytes.
use Rattle.std.specs.Prelude.{◌≡◌, ◌≤◌, ℕ, zero, suc, ◌+◌, pos, Bool, true, false, not, ◌||◌, nat_lt, cond, if◌then◌else◌, codes, List, [], ◌∷◌, ◌++◌, length, filter, Option, Some, None, Ok}
use Rattle.std.proofs.Common.{arith, inl, refl, sym}
use Rattle.std.specs.List.{AllByRecursion, list_any}
use Rattle.std.proofs.lemmas.Option.{none-some}
use Rattle.std.proofs.lemmas.List.{length-append}
use Rattle.ak_base.specs.Cuts.{begins}
use Rattle.ak_base.specs.Paths.{ancestors, ancestors_from}
use Rattle.ak_base.specs.declared.decks.Deck.{Deck}
use Rattle.ak_base.specs.declared.errors.RowFault.{RowFault}
use Rattle.ak_base.specs.declared.errors.RowFault.TheVariants.{BadCode, TooLong}
use Rattle.ak_edit.specs.Refusals.{AnswersBy, OrElse, Refusal}
use Rattle.ak_edit.specs.declared.desk_faults.DeskFault.TheVariants as faults
use Rattle.ak_deck_paths.specs.Additions.{added_paths}
use Rattle.ak_deck_paths.specs.DeckPaths.{all_but_last, any_has_path, missing_above}
use Rattle.ak_deck_paths.specs.GivenPaths.{RefusesPath, has_empty_part, is_control, path_fault}

-- no path has more bytes than this
abbrev pub AreShort : ℕ → List (List ℕ) → Type 0
AreShort most paths = AllByRecursion (λ (path : List ℕ). length path ≤ most) paths

ancestors_short : (left most : ℕ) (above path : List ℕ) → length above + length path ≤ most → AreShort most (ancestors_from left above path)
ancestors_short left most above [] short = (omega (arith, short), tt)
ancestors_short (suc left) most above (byte ∷ bytes) short = ancestors_short left most (above ++ byte ∷ []) bytes (omega (arith, short, length-append above (byte ∷ [])))
ancestors_short zero most above (byte ∷ bytes) short =
    elim (begins (codes "::") (byte ∷ bytes)) as (λ b. AreShort most (cond b (above ∷ ancestors_from 1 (above ++ byte ∷ []) bytes) (ancestors_from 0 (above ++ byte ∷ []) bytes))) [
      | true ↦ (omega (arith, short), ancestors_short 1 most (above ++ byte ∷ []) bytes (omega (arith, short, length-append above (byte ∷ []))))
      | false ↦ ancestors_short 0 most (above ++ byte ∷ []) bytes (omega (arith, short, length-append above (byte ∷ [])))
    ]

front_short : (most : ℕ) (paths : List (List ℕ)) → AreShort most paths → AreShort most (all_but_last paths)
front_short most [] short = tt
front_short most (path ∷ []) short = tt
front_short most (path ∷ other ∷ others) short = (short.0, front_short most (other ∷ others) short.1)

picked_short : (most : ℕ) (test : List ℕ → Bool) (paths : List (List ℕ)) → AreShort most paths → AreShort most (filter test paths)
picked_short most test [] short = tt
picked_short most test (path ∷ paths) short =
    elim (test path) as (λ b. AreShort most (cond b (path ∷ filter test paths) (filter test paths))) [
      | true ↦ (short.0, picked_short most test paths short.1)
      | false ↦ picked_short most test paths short.1
    ]

one_more_short : (most : ℕ) (paths : List (List ℕ)) (path : List ℕ) → AreShort most paths → length path ≤ most → AreShort most (paths ++ path ∷ [])
one_more_short most [] path short last = (last, tt)
one_more_short most (first ∷ paths) path short last = (short.0, one_more_short most paths path short.1 last)

-- what is missing above a path
pub missing_short : (most : ℕ) (decks : List Deck) (path : List ℕ) → length path ≤ most → AreShort most (missing_above decks path)
missing_short most decks path short =
    picked_short most (λ (above : List ℕ). not (any_has_path decks above)) (all_but_last (ancestors path)) (front_short most (ancestors path) (ancestors_short 0 most [] path (omega (arith, short))))

-- with the path itself
pub added_short : (most : ℕ) (decks : List Deck) (path : List ℕ) → length path ≤ most → AreShort most (added_paths decks path)
added_short most decks path short = one_more_short most (missing_above decks path) path (missing_short most decks path short) short

-- ---- a path that was given
short_by : (path : List ℕ) (long bad : Bool) → nat_lt 512 (length path) ≡ long → (if long then Some (TooLong 3 (length path)) else if bad then Some (BadCode 3 (pos 0)) else None) ≡ None → length path ≤ 512
short_by path true bad is none = absurd (none-some (TooLong 3 (length path)) (sym none))
short_by path false bad is none = grind (arith, is)

-- a path without a fault
pub short_path : (path : List ℕ) → path_fault path ≡ None → length path ≤ 512
short_path path none = short_by path (nat_lt 512 (length path)) (list_any is_control path || has_empty_part path) refl none

-- a path that passes the tests of what was given, and whatever comes after them
pub given_path : {T : Type 0} (path : List ℕ) (others : Refusal) (value : T) → AnswersBy (OrElse (RefusesPath path) others) (Ok value) → path_fault path ≡ None
given_path path others value answers =
    elim (path_fault path) as (λ (x : Option RowFault). path_fault path ≡ x → x ≡ None) [
      | None ↦ λ _. refl
      | Some row ↦ λ is. absurd (answers.accepted (faults.Row row) (inl (row, is, refl)))
    ] refl
