-- What stands under each name after the siblings of a card were buried.
use Rattle.std.specs.Prelude.{◌≡◌, ◌<◌, ◌+◌, ℕ, ℤ, pos, negsuc, length, drop, get_or, Bool, true, false, cond, ◌&&◌, ◌||◌, if◌then◌else◌, List, [], ◌∷◌, filter, Option, Some, None}
use Rattle.std.proofs.Common.{refl, sym, ap, ◌∙◌}
use Rattle.std.proofs.lemmas.List.{at_drop_more}
use Rattle.std.proofs.lemmas.Option.{none-some, same_Some}
use Rattle.std.specs.BTreeMap.{is_at}
use Rattle.std.specs.FinMap.{get}
use Rattle.std.specs.List.{list_any}
use Rattle.std.specs.Option.{option_and_then, option_map, option_or}
use Rattle.std.specs.Ordering.{eq_by_cmp, int_cmp, int_eq}
use Rattle.ak_base.specs.Names.{name_cmp}
use Rattle.ak_base.specs.Rows.{name_of}
use Rattle.ak_base.specs.RowsOfOneKind.{on_card}
use Rattle.ak_base.specs.declared.cards.Card.{Card}
use Rattle.ak_base.specs.declared.days.Day.{Day}
use Rattle.ak_base.specs.declared.names.Name.{Name}
use Rattle.ak_base.specs.declared.names.Table.TheVariants as tables
use Rattle.ak_base.specs.declared.option_groups.Options.{Options}
use Rattle.ak_base.specs.declared.rows.Row.{Row}
use Rattle.ak_base.specs.declared.rows.Row.TheVariants as rows
use Rattle.ak_edit_calls.proofs.Overlaying.{rest_of}
use Rattle.ak_edit.proofs.Viewing.{get-rows_over, has_cards, same_id}
use Rattle.ak_edit.specs.Overlays.{Overlay, row_over}
use Rattle.ak_edit.specs.Views.{has_id, is_card, rows_over}
use Rattle.ak_keep.proofs.RowsByName.{same_of_tied}
use Rattle.ak_keep.specs.Collections.{Rows, StandsUnderNames, cards_of}
use Rattle.ak_edit_calls.proofs.Telling.{where_told-both}
use Rattle.ak_keep.specs.Keepers.{Keeping, WhereTold}
use Rattle.ak_keep.specs.Lookups.{as_card}
use Rattle.ak_keep.specs.Graves.{RowsByName}
use Rattle.ak_merge.specs.Holdings.{AreNamed, name_in}
use Rattle.ak_queue.specs.Burials.{burial_of, bury_list, is_other_buried, is_sibling_buried}
use Rattle.ak_study.proofs.ChangedRows.{some_rest, some_under, stands}
use Rattle.ak_study.specs.CardPlaces.{queued}
use Rattle.ak_study.specs.Siblings.{as_sibling, is_buried_by, put_sibling, put_siblings, sibling_after}

-- ---- one card
-- the row in queue -2 if it is a card, and else as it is
abbrev set_aside : Option Row → Option Row
set_aside x = option_or (option_and_then as_sibling x) x

aside_again : (x : Option Row) → set_aside (set_aside x) ≡ set_aside x
aside_again None = refl
aside_again (Some (rows.Card card)) = refl
aside_again (Some (rows.Note note)) = refl
aside_again (Some (rows.Review review)) = refl
aside_again (Some (rows.NoteType note_type)) = refl
aside_again (Some (rows.Deck deck)) = refl
aside_again (Some (rows.Options options)) = refl
aside_again (Some (rows.Grave grave)) = refl

sibling_named : (row m : Row) → as_sibling row ≡ Some m → name_of m ≡ name_of row
sibling_named (rows.Card card) m is = ap name_of (sym (same_Some (rows.Card (queued (negsuc 1) card)) m is))
sibling_named (rows.Note note) m is = absurd (none-some m is)
sibling_named (rows.Review review) m is = absurd (none-some m is)
sibling_named (rows.NoteType note_type) m is = absurd (none-some m is)
sibling_named (rows.Deck deck) m is = absurd (none-some m is)
sibling_named (rows.Options options) m is = absurd (none-some m is)
sibling_named (rows.Grave grave) m is = absurd (none-some m is)

aside_named : (x : Option Row) (q : Name) (m : Row) → ((row : Row) → x ≡ Some row → name_of row ≡ q) → option_and_then as_sibling x ≡ Some m → name_of m ≡ q
aside_named None q m named is = absurd (none-some m is)
aside_named (Some row) q m named is = sibling_named row m is ∙ named row refl

one_under : (at : RowsByName) (id : ℤ) (o : Overlay) (q : Name) → AreNamed (row_over o at)
    → row_over (put_sibling at id o) at q ≡ cond (eq_by_cmp name_cmp q (name_in tables.Card id)) (set_aside (row_over o at q)) (row_over o at q)
one_under at id o q named =
    let key : Name = name_in tables.Card id in
    let x : Option Row = row_over o at q in
    some_under (option_and_then as_sibling (row_over o at key)) at o key q (λ m is. aside_named (row_over o at key) key m (λ row r. named key row r) is)
    ∙ (elim (eq_by_cmp name_cmp q key) as (λ b. eq_by_cmp name_cmp q key ≡ b → cond b (option_or (option_and_then as_sibling (row_over o at key)) x) x ≡ cond b (set_aside x) x) [
      | true ↦ λ tied. ap (λ (n : Name). option_or (option_and_then as_sibling (row_over o at n)) x) (sym (same_of_tied q key tied))
      | false ↦ λ _. refl
    ] refl)

stays_named : (x : Option Row) (q : Name) (b : Bool) (row : Row) → ((r : Row) → x ≡ Some r → name_of r ≡ q) → cond b (set_aside x) x ≡ Some row → name_of row ≡ q
stays_named x q false row named is = named row is
stays_named None q true row named is = absurd (none-some row is)
stays_named (Some r) q true row named is =
    elim (as_sibling r) as (λ (m : Option Row). as_sibling r ≡ m → option_or m (Some r) ≡ Some row → name_of row ≡ q) [
      | None ↦ λ _ is. named row is
      | Some made ↦ λ makes is. ap name_of (sym (same_Some made row is)) ∙ sibling_named r made makes ∙ named r refl
    ] refl is

one_names : (at : RowsByName) (id : ℤ) (o : Overlay) → AreNamed (row_over o at) → AreNamed (row_over (put_sibling at id o) at)
one_names at id o named = λ q row is.
    stays_named (row_over o at q) q (eq_by_cmp name_cmp q (name_in tables.Card id)) row (λ r there. named q r there) (sym (one_under at id o q named) ∙ is)

-- ---- several cards
abbrev is_one_of : Name → List ℤ → Bool
is_one_of q = list_any (λ (id : ℤ). eq_by_cmp name_cmp q (name_in tables.Card id))

all_under : (at : RowsByName) (ids : List ℤ) (o : Overlay) (q : Name) → AreNamed (row_over o at)
    → row_over (put_siblings at ids o) at q ≡ cond (is_one_of q ids) (set_aside (row_over o at q)) (row_over o at q)
all_under at [] o q named = refl
all_under at (id ∷ ids) o q named =
    let x : Option Row = row_over o at q in
    all_under at ids (put_sibling at id o) q (one_names at id o named)
    ∙ ap (λ (y : Option Row). cond (is_one_of q ids) (set_aside y) y) (one_under at id o q named)
    ∙ either (eq_by_cmp name_cmp q (name_in tables.Card id)) (is_one_of q ids) x
  where
    either : (t b : Bool) (y : Option Row) → cond b (set_aside (cond t (set_aside y) y)) (cond t (set_aside y) y) ≡ cond (t || b) (set_aside y) y
    either true true y = aside_again y
    either true false y = refl
    either false true y = refl
    either false false y = refl

pub siblings_rest : (at : RowsByName) (ids : List ℤ) (o : Overlay) → rest_of (put_siblings at ids o) ≡ rest_of o
siblings_rest at [] o = refl
siblings_rest at (id ∷ ids) o = siblings_rest at ids (put_sibling at id o) ∙ some_rest (option_and_then as_sibling (row_over o at (name_in tables.Card id))) o

-- ---- the list of those that are buried
filtered_any : (p : ℤ → Bool) (x : ℤ) (ids : List ℤ) → has_id (filter p ids) x ≡ (p x && has_id ids x)
filtered_any p x [] = elim (p x) as (λ b. false ≡ (b && false)) [ true ↦ refl | false ↦ refl ]
filtered_any p x (id ∷ ids) =
    elim (is_at (int_cmp x) id) as (λ t. is_at (int_cmp x) id ≡ t → has_id (cond (p id) (id ∷ filter p ids) (filter p ids)) x ≡ (p x && (t || has_id ids x))) [
      | true ↦ λ at.
          let same : x ≡ id = same_id x id at in
          elim (p id) as (λ b. p id ≡ b → has_id (cond b (id ∷ filter p ids) (filter p ids)) x ≡ (p x && true)) [
            | true ↦ λ is. ap (λ (b : Bool). b || has_id (filter p ids) x) at ∙ sym (ap (λ (b : Bool). b && true) (ap p same ∙ is))
            | false ↦ λ is. filtered_any p x ids ∙ ap (λ (b : Bool). b && has_id ids x) (ap p same ∙ is) ∙ sym (ap (λ (b : Bool). b && true) (ap p same ∙ is))
          ] refl
      | false ↦ λ other.
          elim (p id) as (λ b. has_id (cond b (id ∷ filter p ids) (filter p ids)) x ≡ (p x && has_id ids x)) [
            | true ↦ ap (λ (b : Bool). b || has_id (filter p ids) x) other ∙ filtered_any p x ids
            | false ↦ filtered_any p x ids
          ]
    ] refl

and_turned : (a b : Bool) → (a && b) ≡ (b && a)
and_turned true true = refl
and_turned true false = refl
and_turned false true = refl
and_turned false false = refl

-- a card that stands there is among them if it is buried by the answer
listed : (seen : Rows) (was : Card) (options : Options) (day : Day) (card : Card) → StandsUnderNames seen → get seen (name_in tables.Card card.id) ≡ Some (rows.Card card)
    → has_id (bury_list seen was options day) card.id ≡ is_buried_by was options day card
listed seen was options day card named there =
    let p : ℤ → Bool = is_sibling_buried (burial_of was options day) seen in
    filtered_any p card.id (cards_of was.nid seen)
    ∙ ap (λ (b : Bool). p card.id && b) (has_cards was.nid card.id seen named ∙ ap (is_card was.nid) there)
    ∙ ap (λ (x : Option Row). is_other_buried (burial_of was options day) card.id (option_and_then as_card x) && int_eq card.nid was.nid) there
    ∙ and_turned (is_other_buried (burial_of was options day) card.id (Some card)) (int_eq card.nid was.nid)

-- a row after the answer of a card, as its sibling
abbrev pub row_aside : Card → Options → Day → Row → Row
row_aside was options day = on_card (sibling_after was options day)

either_same : (b : Bool) (x : Option Row) → cond b x x ≡ x
either_same true x = refl
either_same false x = refl

aside_if : (seen : Rows) (was : Card) (options : Options) (day : Day) (q : Name) (x : Option Row) → StandsUnderNames seen → AreNamed (get seen) → get seen q ≡ x
    → cond (is_one_of q (bury_list seen was options day)) (set_aside x) x ≡ option_map (row_aside was options day) x
aside_if seen was options day q None stand named there = either_same (is_one_of q (bury_list seen was options day)) None
aside_if seen was options day q (Some (rows.Card card)) stand named there =
    let bears : name_in tables.Card card.id ≡ q = named q (rows.Card card) there in
    let is : is_one_of q (bury_list seen was options day) ≡ is_buried_by was options day card =
    ap (λ (n : Name). is_one_of n (bury_list seen was options day)) (sym bears) ∙ listed seen was options day card stand (ap (get seen) bears ∙ there) in
    ap (λ (b : Bool). cond b (Some (rows.Card (queued (negsuc 1) card))) (Some (rows.Card card))) is
    ∙ elim (is_buried_by was options day card) as (λ b. cond b (Some (rows.Card (queued (negsuc 1) card))) (Some (rows.Card card)) ≡ Some (rows.Card (if b then queued (negsuc 1) card else card))) [ true ↦ refl | false ↦ refl ]
aside_if seen was options day q (Some (rows.Note note)) stand named there = either_same (is_one_of q (bury_list seen was options day)) (Some (rows.Note note))
aside_if seen was options day q (Some (rows.Review review)) stand named there = either_same (is_one_of q (bury_list seen was options day)) (Some (rows.Review review))
aside_if seen was options day q (Some (rows.NoteType note_type)) stand named there = either_same (is_one_of q (bury_list seen was options day)) (Some (rows.NoteType note_type))
aside_if seen was options day q (Some (rows.Deck deck)) stand named there = either_same (is_one_of q (bury_list seen was options day)) (Some (rows.Deck deck))
aside_if seen was options day q (Some (rows.Options group)) stand named there = either_same (is_one_of q (bury_list seen was options day)) (Some (rows.Options group))
aside_if seen was options day q (Some (rows.Grave grave)) stand named there = either_same (is_one_of q (bury_list seen was options day)) (Some (rows.Grave grave))

-- what stands under a name once the siblings were buried
pub siblings_under : (held : Rows) (o : Overlay) (was : Card) (options : Options) (day : Day) (q : Name) → AreNamed (row_over o (get held))
    → row_over (put_siblings (get held) (bury_list (rows_over o held) was options day) o) (get held) q ≡ option_map (row_aside was options day) (row_over o (get held) q)
siblings_under held o was options day q named =
    let seen : Rows = rows_over o held in
    let seen_named : AreNamed (get seen) = λ name row is. named name row (sym (get-rows_over o held name) ∙ is) in
    all_under (get held) (bury_list seen was options day) o q named
    ∙ aside_if seen was options day q (row_over o (get held) q) (stands seen seen_named) seen_named (get-rows_over o held q)

-- ---- the loop over the ids
pub put_one : (k : Keeping) (ids : List ℤ) (i : ℕ) (first so_far now : Overlay) → i < length ids
    → WhereTold k (λ h. put_siblings (get h.rows) (drop i ids) so_far ≡ put_siblings (get h.rows) ids first)
    → WhereTold k (λ h. now ≡ put_sibling (get h.rows) (get_or ids i (pos 0)) so_far)
    → WhereTold k (λ h. put_siblings (get h.rows) (drop (i + 1) ids) now ≡ put_siblings (get h.rows) ids first)
put_one k ids i first so_far now within =
    where_told-both k (λ h. put_siblings (get h.rows) (drop i ids) so_far ≡ put_siblings (get h.rows) ids first)
    (λ h. now ≡ put_sibling (get h.rows) (get_or ids i (pos 0)) so_far)
    (λ h. put_siblings (get h.rows) (drop (i + 1) ids) now ≡ put_siblings (get h.rows) ids first)
    (λ h leads is. ap (put_siblings (get h.rows) (drop (i + 1) ids)) is
    ∙ sym (at_drop_more (λ (rest : List ℤ). put_siblings (get h.rows) rest so_far) ids i (pos 0) within) ∙ leads)
