-- Paths of decks: what is above one, which decks have one, and where the decks of a subtree go.
use Rattle.std.specs.Prelude.{ℕ, ℤ, Bool, not, ◌&&◌, ◌==◌, if◌then◌else◌, List, [], ◌∷◌, ◌++◌, length, drop, filter, map, find, Option}
use Rattle.std.specs.Cmp.Lexicographic.{pointwise}
use Rattle.std.specs.List.{list_any}
use Rattle.std.specs.Option.{option_map}
use Rattle.ak_base.specs.Paths.{ancestors, is_in_subtree}
use Rattle.ak_base.specs.declared.decks.Deck.{Deck}
use Rattle.ak_base.specs.declared.rows.Row.{Row}
use Rattle.ak_base.specs.RowsOfOneKind.{on_deck}
use Rattle.ak_keep.specs.Collections.{Rows}

-- ---- the decks that are held
-- whether two paths are the same
abbrev pub same_path : List ℕ → List ℕ → Bool
same_path one other = pointwise ◌==◌ one other

-- whether a deck has this path
abbrev pub has_path : List ℕ → Deck → Bool
has_path path deck = same_path deck.name path

-- whether one of these decks has this path
abbrev pub any_has_path : List Deck → List ℕ → Bool
any_has_path decks path = list_any (has_path path) decks

-- the id of the first of these decks that meets a test: of the decks that are held, the least id
abbrev pub first_id : (Deck → Bool) → List Deck → Option ℤ
first_id test decks = option_map (λ (deck : Deck). deck.id) (find test decks)

-- ---- what is above a path
-- all of them but the last one
abbrev pub all_but_last : {A : Type 0} → List A → List A
all_but_last [] = []
all_but_last (x ∷ []) = []
all_but_last (x ∷ y ∷ ys) = x ∷ all_but_last (y ∷ ys)

-- the paths above a path, from the top: `a::b::c` has `a` and `a::b`
abbrev pub paths_above : List ℕ → List (List ℕ)
paths_above path = all_but_last (ancestors path)

-- those of them that none of these decks has
abbrev pub missing_above : List Deck → List ℕ → List (List ℕ)
missing_above decks path = filter (λ (above : List ℕ). not (any_has_path decks above)) (paths_above path)

-- a path, if none of these decks has it
abbrev pub missing_one : List Deck → List ℕ → List (List ℕ)
missing_one decks path = if any_has_path decks path then [] else path ∷ []

-- ---- a subtree that moves
-- whether a deck is in the subtree of a path
abbrev pub is_under : List ℕ → Deck → Bool
is_under root deck = is_in_subtree root deck.name

-- a path in the subtree of the old one with the new one in its place: what comes after the old one stays
abbrev pub moved_path : List ℕ → List ℕ → List ℕ → List ℕ
moved_path old new path = new ++ drop (length old) path

-- a deck of the subtree with its new path
abbrev pub moved_deck : List ℕ → List ℕ → Deck → Deck
moved_deck old new deck = record deck { name = moved_path old new deck.name }

-- the decks of the subtree among these, with their new paths
abbrev pub moved_decks : List ℕ → List ℕ → List Deck → List Deck
moved_decks old new decks = map (moved_deck old new) (filter (is_under old) decks)

-- a row after the subtree moved: its decks have their new paths, and any other row is as it was
abbrev pub renamed : List ℕ → List ℕ → Row → Row
renamed old new = on_deck (λ (deck : Deck). if is_under old deck then moved_deck old new deck else deck)

-- whether a deck is outside the subtree and has the new path of one of these decks that move
abbrev pub is_in_way : List ℕ → List Deck → Deck → Bool
is_in_way old moved deck = not (is_under old deck) && any_has_path moved deck.name

-- whether a path is below another
abbrev pub is_below : List ℕ → List ℕ → Bool
is_below root path = is_in_subtree root path && not (same_path root path)
