-- The cards of a note, read from their keys.
use Rattle.std.specs.Prelude.{◌≡◌, ℤ, Bool, true, false, T, cond, if◌then◌else◌, ◌&&◌, ◌||◌, Option, Some, None, List, [], ◌∷◌, ◌++◌, map, filter}
use Rattle.std.proofs.Common.{refl, sym, ap, subst, ◌∙◌, append_assoc}
use Rattle.std.specs.BTreeMap.{is_at}
use Rattle.std.specs.Cmp.{int_cmp_total, signed_Decides, tied_itself}
use Rattle.std.specs.FinMap.{find, entries, entries_sorted, get-entries, is_sorted, int_cmp-IsAntisymmetric}
use Rattle.std.specs.FinMap.Entries.{below_all, same_entries}
use Rattle.std.specs.List.{AllByRecursion, list_any}
use Rattle.std.specs.List.Sorted.{IsStrictlySortedBy}
use Rattle.std.specs.Map.{keys_of}
use Rattle.std.specs.Option.{option_cmp, option_and_then}
use Rattle.std.specs.Ordering.{int_cmp, int_eq, is_eq, is_lt, is_gt, ordering_then, ordering_reverse}
use Rattle.std.specs.declared.cmp.Ordering.TheVariants.{Less, Equal, Greater}
use Rattle.ak_base.proofs.NameOrder.{names_exact}
use Rattle.ak_base.specs.Names.{name_cmp, names_total}
use Rattle.ak_base.specs.declared.names.Name.{Name}
use Rattle.ak_base.specs.declared.rows.Row.{Row}
use Rattle.ak_base.specs.declared.rows.Row.TheVariants as rows
use Rattle.ak_keep.specs.Collections.{is_card_of, cards_of}
use Rattle.ak_keep.specs.Entries.{row_at}
use Rattle.ak_keep.proofs.RowsByName.{same_of_tied, both_first, both_second, is_less}
use Rattle.ak_memory.specs.NoteKeys.{NoteKey, key_cmp, has_key, note_of_card, note_of_card_at, is_note}
use Rattle.ak_memory.specs.NoteCards.{name_in, names_run, keys_from}
use Rattle.ak_memory.specs.Indexes.{HaveAllKeys}
use Rattle.ak_memory.specs.Places.{note_under, row_under, rows_at}
use Rattle.ak_memory.specs.declared.card_keys.CardKeys.{CardKeys}
use Rattle.ak_memory.specs.declared.places.Place.{Place}
use Rattle.ak_memory.specs.declared.versions.Version.TheVariants.{Now}
use Rattle.ak_memory.proofs.Keys.{note_keyed}
use Rattle.ak_memory.proofs.RowsUnder.{get-rows_at}

-- the names in all keys of a note
abbrev pub names_at : ℤ → List NoteKey → List Name
names_at note [] = []
names_at note (key ∷ keys) = if int_eq key.0 note then name_in key.1 ++ names_at note keys else names_at note keys

-- the names of a note's cards among entries
abbrev pub names_among : ℤ → List (Name × Row) → List Name
names_among note es = map (λ (entry : Name × Row). entry.0) (filter (λ (entry : Name × Row). is_card_of note entry.1) es)

kept_parts : (t : Name → Bool) (o : Option Name) (rest : List Name)
    → map (λ (name : Name). name.id) (filter t (name_in o)) ++ map (λ (name : Name). name.id) (filter t rest) ≡ map (λ (name : Name). name.id) (filter t (name_in o ++ rest))
kept_parts t None rest = refl
kept_parts t (Some name) rest =
    elim (t name) as (λ b. map (λ (name : Name). name.id) (cond b (name ∷ []) []) ++ map (λ (name : Name). name.id) (filter t rest) ≡ map (λ (name : Name). name.id) (cond b (name ∷ filter t rest) (filter t rest))) [ true ↦ refl | false ↦ refl ]

-- the ids so far take the next key's, if it is the note's
pub run_goes_on : (t : Name → Bool) (note : ℤ) (ids all : List ℤ) (key : NoteKey) (keys : List NoteKey) → ids ++ map (λ (name : Name). name.id) (filter t (names_run note (key ∷ keys))) ≡ all → int_eq key.0 note ≡ true
    → (ids ++ map (λ (name : Name). name.id) (filter t (name_in key.1))) ++ map (λ (name : Name). name.id) (filter t (names_run note keys)) ≡ all
run_goes_on t note ids all key keys is same =
    let rest : List Name = names_run note keys in
    append_assoc ids (map (λ (name : Name). name.id) (filter t (name_in key.1))) (map (λ (name : Name). name.id) (filter t rest))
    ∙ ap (λ ys. ids ++ ys) (kept_parts t key.1 rest)
    ∙ sym (ap (λ b. ids ++ map (λ (name : Name). name.id) (filter t (cond b (name_in key.1 ++ rest) []))) same) ∙ is

-- ---- the run of a note's keys has all of them
turned : (a b : ℤ) → int_eq b a ≡ is_eq (ordering_reverse (int_cmp a b))
turned a b = ap is_eq (int_cmp_total.antisymm b a)

apart_below : (a b : ℤ) → int_cmp a b ≡ Less → int_eq b a ≡ false
apart_below a b is = turned a b ∙ ap (λ r. is_eq (ordering_reverse r)) is

not_less : Greater ≡ Less → ⊥
not_less is = subst (λ r. T (is_gt r)) is tt

later : (note : ℤ) (x y : NoteKey) → int_cmp note x.0 ≡ Less → key_cmp x y ≡ Less → int_cmp note y.0 ≡ Less
later note x y less below =
    elim (int_cmp x.0 y.0) as (λ r. int_cmp x.0 y.0 ≡ r → ordering_then r (option_cmp name_cmp x.1 y.1) ≡ Less → int_cmp note y.0 ≡ Less) [
      | Less ↦ λ is _. int_cmp_total.trans note x.0 y.0 less is
      | Equal ↦ λ is _. subst (λ n. int_cmp note n ≡ Less) (int_cmp-IsAntisymmetric x.0 y.0 is) less
      | Greater ↦ λ _ below. absurd (not_less below)
    ] refl below

none_later : (note : ℤ) (x : NoteKey) (keys : List NoteKey) → int_cmp note x.0 ≡ Less → AllByRecursion (λ y. key_cmp x y ≡ Less) keys → names_at note keys ≡ []
none_later note x [] less h = refl
none_later note x (key ∷ keys) less h =
    ap (λ b. cond b (name_in key.1 ++ names_at note keys) (names_at note keys)) (apart_below note key.0 (later note x key less h.0)) ∙ none_later note x keys less h.1

names_run-all : (note : ℤ) (keys : List NoteKey) → IsStrictlySortedBy key_cmp keys → names_run note (keys_from note keys) ≡ names_at note keys
unfolding IsStrictlySortedBy
names_run-all note [] h = refl
names_run-all note (key ∷ keys) h =
    let from : List NoteKey = keys_from note keys in
    let all : List Name = names_at note keys in
    let rest : names_run note from ≡ all = names_run-all note keys h.1 in
    elim (int_cmp note key.0) as (λ r. int_cmp note key.0 ≡ r
    → names_run note (cond (is_lt (ordering_then r (option_cmp name_cmp None key.1)) && true) (key ∷ from) from) ≡ cond (int_eq key.0 note) (name_in key.1 ++ all) all) [
      | Less ↦ λ is.
          subst (λ b. cond b (name_in key.1 ++ names_run note from) [] ≡ cond b (name_in key.1 ++ all) all) (sym (apart_below note key.0 is)) (sym (none_later note key keys is h.0))
      | Equal ↦ λ is.
          let same : int_eq key.0 note ≡ true = turned note key.0 ∙ ap (λ r. is_eq (ordering_reverse r)) is in
          elim key.1 as (λ o. names_run note (cond (is_lt (option_cmp name_cmp None o) && true) ((key.0, o) ∷ from) from) ≡ cond (int_eq key.0 note) (name_in o ++ all) all) [
            | None ↦ subst (λ b. names_run note from ≡ cond b all all) (sym same) rest
            | Some name ↦ subst (λ b. cond b (name ∷ names_run note from) [] ≡ cond b (name ∷ all) all) (sym same) (ap (λ names. name ∷ names) rest)
          ]
      | Greater ↦ λ is.
          subst (λ b. names_run note from ≡ cond b (name_in key.1 ++ all) all) (sym (turned note key.0 ∙ ap (λ r. is_eq (ordering_reverse r)) is)) rest
    ] refl

-- ---- names that ascend are told by which of them there are
-- whether the name is one of these
abbrev pub has_name : Name → List Name → Bool
has_name name names = list_any (is_at (name_cmp name)) names

paired : List Name → List (Name × Unit {0})
paired [] = []
paired (name ∷ names) = (name, tt) ∷ paired names

unpaired : (names : List Name) → map (λ (e : Name × Unit {0}). e.0) (paired names) ≡ names
unfolding paired
unpaired [] = refl
unpaired (name ∷ names) = ap (λ xs. name ∷ xs) (unpaired names)

below-paired : (x : Name) (names : List Name) → AllByRecursion (λ y. name_cmp x y ≡ Less) names → T (below_all name_cmp x (paired names))
unfolding paired
below-paired x [] h = tt
below-paired x (name ∷ names) h = subst (λ r. T (is_lt r && below_all name_cmp x (paired names))) (sym h.0) (below-paired x names h.1)

yes_and : (a b : Bool) → T a → T b → T (a && b)
yes_and true b h k = k
yes_and false b h k = h

sorted-paired : (names : List Name) → IsStrictlySortedBy name_cmp names → T (is_sorted name_cmp (paired names))
unfolding paired IsStrictlySortedBy
sorted-paired [] h = tt
sorted-paired (name ∷ names) h = yes_and _ _ (below-paired name names h.0) (sorted-paired names h.1)

find-paired : (q : Name) (names : List Name) → find name_cmp q (paired names) ≡ cond (has_name q names) (Some tt) None
unfolding paired
find-paired q [] = refl
find-paired q (name ∷ names) =
    elim (is_at (name_cmp q) name) as (λ b. cond b (Some tt) (find name_cmp q (paired names)) ≡ cond (b || has_name q names) (Some tt) None) [ true ↦ refl | false ↦ find-paired q names ]

same_names : (xs ys : List Name) → IsStrictlySortedBy name_cmp xs → IsStrictlySortedBy name_cmp ys → ((q : Name) → has_name q xs ≡ has_name q ys) → xs ≡ ys
same_names xs ys g h same =
    sym (unpaired xs)
    ∙ ap (λ es. map (λ (e : Name × Unit {0}). e.0) es) (same_entries name_cmp names_total names_exact (paired xs) (paired ys) (sorted-paired xs g) (sorted-paired ys h)
    (λ q. find-paired q xs ∙ ap (λ b. cond b (Some tt) None) (same q) ∙ sym (find-paired q ys)))
    ∙ unpaired ys

-- ---- the names in a note's keys
has-names_at : (note : ℤ) (q : Name) (keys : List NoteKey) → has_name q (names_at note keys) ≡ has_key keys (note, Some q)
has-names_at note q [] = refl
has-names_at note q (key ∷ keys) =
    let all : List Name = names_at note keys in
    let others : Bool = has_key keys (note, Some q) in
    let rest : has_name q all ≡ others = has-names_at note q keys in
    elim (int_cmp note key.0) as (λ r. int_eq key.0 note ≡ is_eq (ordering_reverse r)
    → has_name q (cond (int_eq key.0 note) (name_in key.1 ++ all) all) ≡ (is_eq (ordering_then r (option_cmp name_cmp (Some q) key.1)) || others)) [
      | Less ↦ λ t. subst (λ b. has_name q (cond b (name_in key.1 ++ all) all) ≡ others) (sym t) rest
      | Equal ↦ λ t. subst (λ b. has_name q (cond b (name_in key.1 ++ all) all) ≡ (is_eq (option_cmp name_cmp (Some q) key.1) || others)) (sym t)
          (elim key.1 as (λ o. has_name q (name_in o ++ all) ≡ (is_eq (option_cmp name_cmp (Some q) o) || others)) [
            | None ↦ rest
            | Some name ↦ ap (λ b. is_at (name_cmp q) name || b) rest
          ])
      | Greater ↦ λ t. subst (λ b. has_name q (cond b (name_in key.1 ++ all) all) ≡ others) (sym t) rest
    ] (turned note key.0)

same_note : (note other : ℤ) → int_eq other note ≡ true → other ≡ note
same_note note other is = (signed_Decides other note).0 is

names-above : (note : ℤ) (x : Name) (keys : List NoteKey) → AllByRecursion (λ y. key_cmp (note, Some x) y ≡ Less) keys → AllByRecursion (λ name. name_cmp x name ≡ Less) (names_at note keys)
names-above note x [] h = tt
names-above note x (key ∷ keys) h =
    let rest = names-above note x keys h.1 in
    elim (int_eq key.0 note) as (λ b. int_eq key.0 note ≡ b → AllByRecursion (λ name. name_cmp x name ≡ Less) (cond b (name_in key.1 ++ names_at note keys) (names_at note keys))) [
      | true ↦ λ is.
          let tied : int_cmp note key.0 ≡ Equal = ap (int_cmp note) (same_note note key.0 is) ∙ tied_itself int_cmp_total note in
          let below : option_cmp name_cmp (Some x) key.1 ≡ Less = subst (λ r. ordering_then r (option_cmp name_cmp (Some x) key.1) ≡ Less) tied h.0 in
          elim key.1 as (λ o. option_cmp name_cmp (Some x) o ≡ Less → AllByRecursion (λ name. name_cmp x name ≡ Less) (name_in o ++ names_at note keys)) [
            | None ↦ λ below. absurd (not_less below)
            | Some name ↦ λ below. (below, rest)
          ] below
      | false ↦ λ _. rest
    ] refl

names_at-sorted : (note : ℤ) (keys : List NoteKey) → IsStrictlySortedBy key_cmp keys → IsStrictlySortedBy name_cmp (names_at note keys)
unfolding IsStrictlySortedBy
names_at-sorted note [] h = tt
names_at-sorted note (key ∷ keys) h =
    let rest = names_at-sorted note keys h.1 in
    elim (int_eq key.0 note) as (λ b. int_eq key.0 note ≡ b → IsStrictlySortedBy name_cmp (cond b (name_in key.1 ++ names_at note keys) (names_at note keys))) [
      | true ↦ λ is.
          let above : AllByRecursion (λ y. key_cmp (note, key.1) y ≡ Less) keys = subst (λ (n : ℤ). AllByRecursion (λ y. key_cmp (n, key.1) y ≡ Less) keys) (same_note note key.0 is) h.0 in
          elim key.1 as (λ o. AllByRecursion (λ y. key_cmp (note, o) y ≡ Less) keys → IsStrictlySortedBy name_cmp (name_in o ++ names_at note keys)) [
            | None ↦ λ _. rest
            | Some name ↦ λ above. (names-above note name keys above, rest)
          ] above
      | false ↦ λ _. rest
    ] refl

-- ---- the names of a note's cards
card_of-note_of : (note : ℤ) (row : Row) → is_card_of note row ≡ is_note note (note_of_card row)
card_of-note_of note (rows.Note n) = refl
card_of-note_of note (rows.Card c) = refl
card_of-note_of note (rows.Review r) = refl
card_of-note_of note (rows.NoteType t) = refl
card_of-note_of note (rows.Deck d) = refl
card_of-note_of note (rows.Options o) = refl
card_of-note_of note (rows.Grave g) = refl

none_at : (x : Name) (es : List (Name × Row)) → AllByRecursion (λ y. name_cmp x y ≡ Less) (keys_of es) → row_at es x ≡ None
none_at x [] h = refl
none_at x (e ∷ es) h = ap (λ r. cond (is_eq r) (Some e.1) (row_at es x)) h.0 ∙ none_at x es h.1

has-names_among : (note : ℤ) (q : Name) (es : List (Name × Row)) → IsStrictlySortedBy name_cmp (keys_of es) → has_name q (names_among note es) ≡ is_note note (note_of_card_at es q)
unfolding IsStrictlySortedBy
has-names_among note q [] h = refl
has-names_among note q (e ∷ es) h =
    let all : List (Name × Row) = filter (λ (entry : Name × Row). is_card_of note entry.1) es in
    let rest : has_name q (names_among note es) ≡ is_note note (note_of_card_at es q) = has-names_among note q es h.1 in
    elim (is_at (name_cmp q) e.0) as (λ same. is_at (name_cmp q) e.0 ≡ same
    → has_name q (map (λ (entry : Name × Row). entry.0) (cond (is_card_of note e.1) (e ∷ all) all)) ≡ is_note note (option_and_then note_of_card (cond same (Some e.1) (row_at es q)))) [
      | true ↦ λ is.
          let none : row_at es q ≡ None = subst (λ (n : Name). row_at es n ≡ None) (sym (same_of_tied q e.0 is)) (none_at e.0 es h.0) in
          elim (is_card_of note e.1) as (λ b. b ≡ is_note note (note_of_card e.1) → has_name q (map (λ (entry : Name × Row). entry.0) (cond b (e ∷ all) all)) ≡ is_note note (note_of_card e.1)) [
            | true ↦ λ card. ap (λ b. b || has_name q (names_among note es)) is ∙ card
            | false ↦ λ other. rest ∙ ap (λ o. is_note note (option_and_then note_of_card o)) none ∙ other
          ] (card_of-note_of note e.1)
      | false ↦ λ is.
          elim (is_card_of note e.1) as (λ b. has_name q (map (λ (entry : Name × Row). entry.0) (cond b (e ∷ all) all)) ≡ is_note note (note_of_card_at es q)) [
            | true ↦ ap (λ b. b || has_name q (names_among note es)) is ∙ rest
            | false ↦ rest
          ]
    ] refl

all-among : (P : Name → Type 0) (note : ℤ) (es : List (Name × Row)) → AllByRecursion P (keys_of es) → AllByRecursion P (names_among note es)
all-among P note [] h = tt
all-among P note (e ∷ es) h =
    let all : List (Name × Row) = filter (λ (entry : Name × Row). is_card_of note entry.1) es in
    let rest = all-among P note es h.1 in
    elim (is_card_of note e.1) as (λ b. AllByRecursion P (map (λ (entry : Name × Row). entry.0) (cond b (e ∷ all) all))) [ true ↦ (h.0, rest) | false ↦ rest ]

names_among-sorted : (note : ℤ) (es : List (Name × Row)) → IsStrictlySortedBy name_cmp (keys_of es) → IsStrictlySortedBy name_cmp (names_among note es)
unfolding IsStrictlySortedBy
names_among-sorted note [] h = tt
names_among-sorted note (e ∷ es) h =
    let all : List (Name × Row) = filter (λ (entry : Name × Row). is_card_of note entry.1) es in
    let rest = names_among-sorted note es h.1 in
    elim (is_card_of note e.1) as (λ b. IsStrictlySortedBy name_cmp (map (λ (entry : Name × Row). entry.0) (cond b (e ∷ all) all))) [
      | true ↦ (all-among (λ y. name_cmp e.0 y ≡ Less) note es h.0, rest)
      | false ↦ rest
    ]

ids-names : (es : List (Name × Row)) → map (λ (name : Name). name.id) (map (λ (entry : Name × Row). entry.0) es) ≡ map (λ (entry : Name × Row). entry.0.id) es
ids-names [] = refl
ids-names (e ∷ es) = ap (λ ids. e.0.id ∷ ids) (ids-names es)

-- ---- those of them that are held
below_keys : (x : Name) (es : List (Name × Row)) → T (below_all name_cmp x es) → AllByRecursion (λ y. name_cmp x y ≡ Less) (keys_of es)
below_keys x [] h = tt
below_keys x (e ∷ es) h = (is_less _ (both_first _ _ h), below_keys x es (both_second _ _ h))

sorted_keys : (es : List (Name × Row)) → T (is_sorted name_cmp es) → IsStrictlySortedBy name_cmp (keys_of es)
unfolding IsStrictlySortedBy
sorted_keys [] h = tt
sorted_keys (e ∷ es) h = (below_keys e.0 es (both_first _ _ h), sorted_keys es (both_second _ _ h))

below-kept : (t : Name → Bool) (x : Name) (names : List Name) → AllByRecursion (λ y. name_cmp x y ≡ Less) names → AllByRecursion (λ y. name_cmp x y ≡ Less) (filter t names)
below-kept t x [] h = tt
below-kept t x (name ∷ names) h =
    let rest = below-kept t x names h.1 in
    elim (t name) as (λ b. AllByRecursion (λ y. name_cmp x y ≡ Less) (cond b (name ∷ filter t names) (filter t names))) [ true ↦ (h.0, rest) | false ↦ rest ]

kept-sorted : (t : Name → Bool) (names : List Name) → IsStrictlySortedBy name_cmp names → IsStrictlySortedBy name_cmp (filter t names)
unfolding IsStrictlySortedBy
kept-sorted t [] h = tt
kept-sorted t (name ∷ names) h =
    let rest = kept-sorted t names h.1 in
    elim (t name) as (λ b. IsStrictlySortedBy name_cmp (cond b (name ∷ filter t names) (filter t names))) [ true ↦ (below-kept t name names h.0, rest) | false ↦ rest ]

and_or : (a b c : Bool) → (a ≡ true → c ≡ true) → (a || (b && c)) ≡ ((a || b) && c)
and_or true b c h = sym (h refl)
and_or false b c h = refl

or_and : (a b c : Bool) → (a ≡ true → c ≡ false) → (b && c) ≡ ((a || b) && c)
or_and true b true h = absurd (subst T (h refl) tt)
or_and true true false h = refl
or_and true false false h = refl
or_and false b c h = refl

has-kept : (t : Name → Bool) (q : Name) (names : List Name) → has_name q (filter t names) ≡ (has_name q names && t q)
has-kept t q [] = refl
has-kept t q (name ∷ names) =
    let rest : has_name q (filter t names) ≡ (has_name q names && t q) = has-kept t q names in
    elim (t name) as (λ b. t name ≡ b → has_name q (cond b (name ∷ filter t names) (filter t names)) ≡ ((is_at (name_cmp q) name || has_name q names) && t q)) [
      | true ↦ λ is. ap (λ b. is_at (name_cmp q) name || b) rest ∙ and_or (is_at (name_cmp q) name) (has_name q names) (t q) (λ tied. ap t (same_of_tied q name tied) ∙ is)
      | false ↦ λ is. rest ∙ or_and (is_at (name_cmp q) name) (has_name q names) (t q) (λ tied. ap t (same_of_tied q name tied) ∙ is)
    ] refl

has_and : (a b : Bool) → (b ≡ true → a ≡ true) → (a && b) ≡ b
has_and true b h = refl
has_and false true h = sym (subst (λ x. x ≡ false) (h refl) refl)
has_and false false h = refl

find-row_at : (es : List (Name × Row)) (q : Name) → find name_cmp q es ≡ row_at es q
find-row_at [] q = refl
find-row_at (e ∷ es) q = ap (cond (is_at (name_cmp q) e.0) (Some e.1)) (find-row_at es q)

-- the run of a note's keys, as far as its cards are held, has the ids of its cards
pub run-cards : (note : ℤ) (all : CardKeys) (places : List (Name × Place)) → IsStrictlySortedBy key_cmp all.notes.keys → HaveAllKeys all places
    → map (λ (name : Name). name.id) (filter (λ (name : Name). is_note note (note_under Now places name)) (names_run note (keys_from note all.notes.keys))) ≡ cards_of note (rows_at Now places)
run-cards note all places ordered have =
    let keys : List NoteKey = all.notes.keys in
    let t : Name → Bool = λ name. is_note note (note_under Now places name) in
    let es : List (Name × Row) = entries (rows_at Now places) in
    let sorted : IsStrictlySortedBy name_cmp (keys_of es) = sorted_keys es (entries_sorted (rows_at Now places)) in
    let under : (q : Name) → row_at es q ≡ row_under Now places q = λ q. sym (find-row_at es q) ∙ sym (get-entries (rows_at Now places) q) ∙ get-rows_at Now places q in
    ap (λ (names : List Name). map (λ (name : Name). name.id) names)
    (ap (filter t) (names_run-all note keys ordered)
    ∙ same_names (filter t (names_at note keys)) (names_among note es) (kept-sorted t (names_at note keys) (names_at-sorted note keys ordered)) (names_among-sorted note es sorted)
    (λ q. has-kept t q (names_at note keys) ∙ ap (λ b. b && t q) (has-names_at note q keys) ∙ has_and (has_key keys (note, Some q)) (t q) (note_keyed all (row_under Now places) (have Now) note q)
    ∙ ap (λ o. is_note note (option_and_then note_of_card o)) (sym (under q)) ∙ sym (has-names_among note q es sorted)))
    ∙ ids-names (filter (λ (entry : Name × Row). is_card_of note entry.1) es)
