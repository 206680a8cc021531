-- What stands under each name with the changes of an edit over what is held, and the cards of a note there.
use Rattle.std.proofs.Common.{◌≡◌, ℤ, pos, negsuc, if◌then◌else◌, Bool, true, false, T, not, ◌&&◌, ◌||◌, cond, List, [], ◌∷◌, map, filter, IfSome, Option, Some, None, is_some, IfOk, Result, refl, sym, ap, subst, ◌∙◌}
use Rattle.std.specs.BTreeMap.{is_at}
use Rattle.std.specs.Cmp.{eq_by_cmp_equiv, int_cmp_total, tied_itself}
use Rattle.std.specs.FinMap.{FinMap, entries, entries_sorted, find, get, get-entries, get-insert, get-remove, int_cmp-IsAntisymmetric, is_sorted}
use Rattle.std.specs.FinMap.Entries.{below_all, same_entries}
use Rattle.std.specs.List.{AllByRecursion}
use Rattle.std.specs.List.Sorted.{IsStrictlySortedBy}
use Rattle.std.specs.Option.{option_map, unwrap_or}
use Rattle.std.specs.Ordering.{eq_by_cmp, int_cmp, is_eq, is_lt}
use Rattle.std.specs.declared.cmp.Ordering.{Ordering}
use Rattle.std.specs.declared.cmp.Ordering.TheVariants.{Less, Equal, Greater}
use Rattle.ak_base.specs.Names.{name_cmp, names_total}
use Rattle.ak_base.proofs.SameRows.{fields_exactly}
use Rattle.ak_base.specs.Contents.{same_but_stamp_and_usn}
use Rattle.ak_base.specs.Rows.{name_of, stamp_of}
use Rattle.ak_base.specs.declared.heads.Head.{Head}
use Rattle.ak_base.specs.declared.names.Name.{Name}
use Rattle.ak_base.specs.declared.names.Table.{Table}
use Rattle.ak_base.specs.declared.names.Table.TheVariants as tables
use Rattle.ak_base.specs.declared.rows.Row.{Row}
use Rattle.ak_base.specs.declared.rows.Row.TheVariants as rows
use Rattle.ak_keep.proofs.CardIds.{cards_of-sorted}
use Rattle.ak_keep.proofs.RowsByName.{all_from_gets, both_first, both_second, named-get, none_below, same_of_tied}
use Rattle.ak_keep.specs.Collections.{Collection, Holding, Rows, StandsUnderNames, cards_among, cards_of, is_card_of, is_headed}
use Rattle.ak_keep.specs.Keepers.{IsNamedRightly, Keeping, WhereTold, changed}
use Rattle.ak_keep.proofs.Told.{where_told-map}
use Rattle.ak_keep.specs.Marks as marks
use Rattle.ak_keep.specs.Marks.{WithMark}
use Rattle.ak_keep.specs.declared.keepers.KeepFault.{KeepFault}
use Rattle.ak_merge.proofs.EditFacts.{false_true}
use Rattle.ak_merge.proofs.EditLaws.{edits_keep_names}
use Rattle.ak_merge.specs.Edits.{Admits, IsEdited, advanced, edited, edited_row, second_of}
use Rattle.ak_merge.specs.Holdings.{AreNamed, row_under}
use Rattle.ak_edit.proofs.Entries.{entries_found}
use Rattle.ak_edit.proofs.Noting.{if_ok_map}
use Rattle.ak_edit.proofs.Planning.{where_both}
use Rattle.ak_edit.proofs.Writing.{named_over}
use Rattle.ak_edit.specs.Overlays.{BearNames, Overlay, edit_of, entry_at, row_over}
use Rattle.ak_edit.specs.Views.{AreCardsOver, card_name, has_id, has_own, has_unchanged, head_over, is_card, overlaid, row_changed, rows_changed, rows_over}

-- ---- by names
get-row_changed : (name : Name) (made : Option Row) (rows : Rows) (q : Name) → get (row_changed name made rows) q ≡ cond (eq_by_cmp name_cmp q name) made (get rows q)
get-row_changed name None rows q = get-remove names_total rows name q
get-row_changed name (Some row) rows q = get-insert names_total rows name row q

either_over : (b : Bool) (made : Option Row) (noted : Option (Option Row)) (held below : Option Row) → below ≡ unwrap_or noted held → cond b made below ≡ unwrap_or (cond b (Some made) noted) held
either_over true made noted held below is = refl
either_over false made noted held below is = is

get-rows_changed : (es : List (Name × Option Row)) (rows : Rows) (q : Name) → get (rows_changed es rows) q ≡ unwrap_or (find name_cmp q es) (get rows q)
get-rows_changed [] rows q = refl
get-rows_changed (e ∷ es) rows q =
    get-row_changed e.0 e.1 (rows_changed es rows) q
    ∙ either_over (eq_by_cmp name_cmp q e.0) e.1 (find name_cmp q es) (get rows q) (get (rows_changed es rows) q) (get-rows_changed es rows q)

-- what stands under a name with the changes over the rows
pub get-rows_over : (o : Overlay) (rows : Rows) (q : Name) → get (rows_over o rows) q ≡ row_over o (get rows) q
get-rows_over o rows q = get-rows_changed (entries o.rows) rows q ∙ ap (λ (x : Option (Option Row)). unwrap_or x (get rows q)) (sym (get-entries o.rows q))

pub named_changed : (o : Overlay) (rows : Rows) → BearNames o.rows → StandsUnderNames rows → StandsUnderNames (rows_over o rows)
named_changed o rows bears named =
    all_from_gets (λ (entry : Name × Row). name_of entry.1 ≡ entry.0) (rows_over o rows)
    (λ q row is. named_over (get rows) o.rows (λ name held. named-get rows name held named) bears q row (sym (get-rows_over o rows q) ∙ is))

-- ---- upon a keeper
named_told : (o : Overlay) (told : Option (WithMark Holding)) → BearNames o.rows → IfSome told (λ w. StandsUnderNames w.current.rows) → IfSome (option_map (marks.changed (overlaid o)) told) (λ w. StandsUnderNames w.current.rows)
named_told o None bears named = tt
named_told o (Some w) bears named = named_changed o w.current.rows bears named

mark_told : (o : Overlay) (told : Option (WithMark Holding)) → IfSome told (λ w. IfSome w.mark (λ h. StandsUnderNames h.rows)) → IfSome (option_map (marks.changed (overlaid o)) told) (λ w. IfSome w.mark (λ h. StandsUnderNames h.rows))
mark_told o None named = tt
mark_told o (Some w) named = named

-- what is true of what is told with the changes over it
pub told_over : (k : Keeping) (o : Overlay) (P : Holding → Type 0) → WhereTold k (λ h. P (overlaid o h)) → WhereTold (changed (overlaid o) k) P
told_over k o P all = elim k.told as (λ told. IfSome told (λ w. P (overlaid o w.current)) → IfSome (option_map (marks.changed (overlaid o)) told) (λ w. P w.current)) [ None ↦ λ _. tt | Some w ↦ λ is. is ] all

-- ---- names and ids
tied_of : (r : Ordering) → is_eq r ≡ true → r ≡ Equal
tied_of Less is = false_true is
tied_of Equal is = refl
tied_of Greater is = false_true is

pub same_id : (a b : ℤ) → is_at (int_cmp a) b ≡ true → a ≡ b
same_id a b is = int_cmp-IsAntisymmetric a b (tied_of (int_cmp a b) is)

pub id_itself : (a : ℤ) → is_at (int_cmp a) a ≡ true
id_itself a = ap is_eq (tied_itself int_cmp_total a)

name_itself : (q : Name) → eq_by_cmp name_cmp q q ≡ true
name_itself q = (eq_by_cmp_equiv names_total).refl q

card_table : (note : ℤ) (row : Row) → is_card_of note row ≡ true → (name_of row).table ≡ tables.Card
card_table note (rows.Note n) is = false_true is
card_table note (rows.Card c) is = refl
card_table note (rows.Review r) is = false_true is
card_table note (rows.NoteType t) is = false_true is
card_table note (rows.Deck d) is = false_true is
card_table note (rows.Options o) is = false_true is
card_table note (rows.Grave g) is = false_true is

-- the name of a row that is a card of the note
card_named : (note id : ℤ) (row : Row) (name : Name) → name_of row ≡ name → is_card_of note row ≡ true → is_at (int_cmp id) name.id ≡ true → card_name id ≡ name
card_named note id row name bears card at =
    ap (λ (i : ℤ). card_name i) (same_id id name.id at)
    ∙ ap (λ (t : Table). record { table = t; id = name.id }) (sym (card_table note row card) ∙ ap (λ (n : Name). n.table) bears)

-- a card of another name has another id
apart : (note id : ℤ) (row : Row) (name : Name) → name_of row ≡ name → is_card_of note row ≡ true → eq_by_cmp name_cmp (card_name id) name ≡ false → is_at (int_cmp id) name.id ≡ false
apart note id row name bears card other =
    elim (is_at (int_cmp id) name.id) as (λ b. is_at (int_cmp id) name.id ≡ b → b ≡ false) [
      | true ↦ λ at. false_true (sym other ∙ ap (eq_by_cmp name_cmp (card_name id)) (sym (card_named note id row name bears card at)) ∙ name_itself (card_name id))
      | false ↦ λ _. refl
    ] refl

-- ---- the cards of a note among rows
has_among : (note id : ℤ) (es : List (Name × Row)) → T (is_sorted name_cmp es) → AllByRecursion (λ entry. name_of entry.1 ≡ entry.0) es → has_id (cards_among note es) id ≡ is_card note (find name_cmp (card_name id) es)
has_among note id [] sorted named = refl
has_among note id (e ∷ es) sorted named =
    let q : Name = card_name id in
    let all : List (Name × Row) = filter (λ (entry : Name × Row). is_card_of note entry.1) es in
    let rest : has_id (cards_among note es) id ≡ is_card note (find name_cmp q es) = has_among note id es (both_second _ _ sorted) named.1 in
    elim (eq_by_cmp name_cmp q e.0) as (λ b. eq_by_cmp name_cmp q e.0 ≡ b
    → has_id (map (λ (entry : Name × Row). entry.0.id) (cond (is_card_of note e.1) (e ∷ all) all)) id ≡ is_card note (cond b (Some e.1) (find name_cmp q es))) [
      | true ↦ λ is.
          let same : q ≡ e.0 = same_of_tied q e.0 is in
          let none : find name_cmp q es ≡ None = subst (λ (n : Name). find name_cmp n es ≡ None) (sym same) (none_below e.0 es (both_first _ _ sorted)) in
          elim (is_card_of note e.1) as (λ c. has_id (map (λ (entry : Name × Row). entry.0.id) (cond c (e ∷ all) all)) id ≡ c) [
            | true ↦ ap (λ (b : Bool). b || has_id (cards_among note es) id) (ap (λ (n : Name). is_at (int_cmp id) n.id) (sym same) ∙ id_itself id)
            | false ↦ rest ∙ ap (is_card note) none
          ]
      | false ↦ λ other.
          elim (is_card_of note e.1) as (λ c. is_card_of note e.1 ≡ c → has_id (map (λ (entry : Name × Row). entry.0.id) (cond c (e ∷ all) all)) id ≡ is_card note (find name_cmp q es)) [
            | true ↦ λ card. ap (λ (b : Bool). b || has_id (cards_among note es) id) (apart note id e.1 e.0 named.0 card other) ∙ rest
            | false ↦ λ _. rest
          ] refl
    ] refl

pub has_cards : (note id : ℤ) (rows : Rows) → StandsUnderNames rows → has_id (cards_of note rows) id ≡ is_card note (get rows (card_name id))
has_cards note id rows named = has_among note id (entries rows) (entries_sorted rows) named ∙ ap (is_card note) (sym (get-entries rows (card_name id)))

-- ---- the cards of a note among what was changed
abbrev found_own : ℤ → Option (Option Row) → Bool
found_own note None = false
found_own note (Some made) = is_card note made

abbrev BearsName : Name × Option Row → Type 0
BearsName e = IfSome e.1 (λ row. name_of row ≡ e.0)

none_own : (q : Name) (es : List (Name × Option Row)) → T (below_all name_cmp q es) → find name_cmp q es ≡ None
none_own q [] below = refl
none_own q (e ∷ es) below = ap (λ (b : Bool). cond b (Some e.1) (find name_cmp q es)) (not_tied (name_cmp q e.0) (both_first _ _ below)) ∙ none_own q es (both_second _ _ below)
  where
    not_tied : (r : Ordering) → T (is_lt r) → is_eq r ≡ false
    not_tied Less h = refl
    not_tied Equal h = absurd h
    not_tied Greater h = absurd h

own_apart : (note id : ℤ) (made : Option Row) (name : Name) → IfSome made (λ row. name_of row ≡ name) → eq_by_cmp name_cmp (card_name id) name ≡ false → (is_card note made && is_at (int_cmp id) name.id) ≡ false
own_apart note id None name bears other = refl
own_apart note id (Some row) name bears other =
    elim (is_card_of note row) as (λ c. is_card_of note row ≡ c → (c && is_at (int_cmp id) name.id) ≡ false) [ true ↦ λ card. apart note id row name bears card other | false ↦ λ _. refl ] refl

and_true : (b : Bool) → (b && true) ≡ b
and_true true = refl
and_true false = refl

or_false : (b : Bool) → (b || false) ≡ b
or_false true = refl
or_false false = refl

own_among : (note id : ℤ) (es : List (Name × Option Row)) → T (is_sorted name_cmp es) → AllByRecursion BearsName es → has_own note es id ≡ found_own note (find name_cmp (card_name id) es)
own_among note id [] sorted bears = refl
own_among note id (e ∷ es) sorted bears =
    let q : Name = card_name id in
    let rest : has_own note es id ≡ found_own note (find name_cmp q es) = own_among note id es (both_second _ _ sorted) bears.1 in
    elim (eq_by_cmp name_cmp q e.0) as (λ b. eq_by_cmp name_cmp q e.0 ≡ b → ((is_card note e.1 && is_at (int_cmp id) e.0.id) || has_own note es id) ≡ found_own note (cond b (Some e.1) (find name_cmp q es))) [
      | true ↦ λ is.
          let same : q ≡ e.0 = same_of_tied q e.0 is in
          let none : find name_cmp q es ≡ None = subst (λ (n : Name). find name_cmp n es ≡ None) (sym same) (none_own e.0 es (both_first _ _ sorted)) in
          ap (λ (b : Bool). (is_card note e.1 && b) || has_own note es id) (ap (λ (n : Name). is_at (int_cmp id) n.id) (sym same) ∙ id_itself id)
          ∙ ap (λ (b : Bool). (is_card note e.1 && true) || b) (rest ∙ ap (found_own note) none) ∙ or_false (is_card note e.1 && true) ∙ and_true (is_card note e.1)
      | false ↦ λ other. ap (λ (b : Bool). b || has_own note es id) (own_apart note id e.1 e.0 bears.0 other) ∙ rest
    ] refl

-- ---- those that did not change
unchanged_has : (es : List (Name × Option Row)) (held : List ℤ) (id : ℤ) → has_unchanged es held id ≡ (not (is_some (entry_at es (card_name id))) && has_id held id)
unchanged_has es [] id = sym (and_false (not (is_some (entry_at es (card_name id)))))
  where
    and_false : (b : Bool) → (b && false) ≡ false
    and_false true = refl
    and_false false = refl
unchanged_has es (other ∷ held) id =
    elim (is_at (int_cmp id) other) as (λ b. is_at (int_cmp id) other ≡ b
    → ((not (is_some (entry_at es (card_name other))) && b) || has_unchanged es held id) ≡ (not (is_some (entry_at es (card_name id))) && (b || has_id held id))) [
      | true ↦ λ at.
          ap (λ (i : ℤ). (not (is_some (entry_at es (card_name i))) && true) || has_unchanged es held id) (sym (same_id id other at))
          ∙ ap (λ (b : Bool). (not (is_some (entry_at es (card_name id))) && true) || b) (unchanged_has es held id)
          ∙ absorbed (not (is_some (entry_at es (card_name id)))) (has_id held id)
      | false ↦ λ _. dropped (not (is_some (entry_at es (card_name other)))) (has_unchanged es held id) ∙ unchanged_has es held id
    ] refl
  where
    absorbed : (a b : Bool) → ((a && true) || (a && b)) ≡ (a && true)
    absorbed true b = refl
    absorbed false b = refl

    dropped : (a b : Bool) → ((a && false) || b) ≡ b
    dropped true b = refl
    dropped false b = refl

-- ---- ids that ascend are told by which of them there are
paired : List ℤ → List (ℤ × Unit {0})
paired [] = []
paired (id ∷ ids) = (id, tt) ∷ paired ids

unpaired : (ids : List ℤ) → map (λ (e : ℤ × Unit {0}). e.0) (paired ids) ≡ ids
unfolding paired
unpaired [] = refl
unpaired (id ∷ ids) = ap (λ xs. id ∷ xs) (unpaired ids)

below-paired : (x : ℤ) (ids : List ℤ) → AllByRecursion (λ y. int_cmp x y ≡ Less) ids → T (below_all int_cmp x (paired ids))
unfolding paired
below-paired x [] h = tt
below-paired x (id ∷ ids) h = subst (λ r. T (is_lt r && below_all int_cmp x (paired ids))) (sym h.0) (below-paired x ids h.1)

yes_and : (a b : Bool) → T a → T b → T (a && b)
yes_and true b h k = k
yes_and false b h k = h

sorted-paired : (ids : List ℤ) → IsStrictlySortedBy int_cmp ids → T (is_sorted int_cmp (paired ids))
unfolding paired IsStrictlySortedBy
sorted-paired [] h = tt
sorted-paired (id ∷ ids) h = yes_and _ _ (below-paired id ids h.0) (sorted-paired ids h.1)

find-paired : (q : ℤ) (ids : List ℤ) → find int_cmp q (paired ids) ≡ cond (has_id ids q) (Some tt) None
unfolding paired
find-paired q [] = refl
find-paired q (id ∷ ids) =
    elim (is_at (int_cmp q) id) as (λ b. cond b (Some tt) (find int_cmp q (paired ids)) ≡ cond (b || has_id ids q) (Some tt) None) [ true ↦ refl | false ↦ find-paired q ids ]

same_ids : (xs ys : List ℤ) → IsStrictlySortedBy int_cmp xs → IsStrictlySortedBy int_cmp ys → ((q : ℤ) → has_id xs q ≡ has_id ys q) → xs ≡ ys
same_ids xs ys g h same =
    sym (unpaired xs)
    ∙ ap (λ es. map (λ (e : ℤ × Unit {0}). e.0) es) (same_entries int_cmp int_cmp_total int_cmp-IsAntisymmetric (paired xs) (paired ys) (sorted-paired xs g) (sorted-paired ys h)
    (λ q. find-paired q xs ∙ ap (λ b. cond b (Some tt) None) (same q) ∙ sym (find-paired q ys)))
    ∙ unpaired ys

-- ---- the cards of a note with the changes over them
find-entry_at : (es : List (Name × Option Row)) (q : Name) → entry_at es q ≡ find name_cmp q es
find-entry_at [] q = refl
find-entry_at (e ∷ es) q = ap (cond (is_at (name_cmp q) e.0) (Some e.1)) (find-entry_at es q)

bears_each : (noted : FinMap name_cmp (Option Row)) → BearNames noted → (es : List (Name × Option Row)) → AllByRecursion (λ (e : Name × Option Row). get noted e.0 ≡ Some e.1) es → AllByRecursion BearsName es
bears_each noted bears [] all = tt
bears_each noted bears (e ∷ es) all = (bears_one e.1 all.0, bears_each noted bears es all.1)
  where
    bears_one : (made : Option Row) → get noted e.0 ≡ Some made → IfSome made (λ row. name_of row ≡ e.0)
    bears_one None is = tt
    bears_one (Some row) is = bears e.0 row is

either_has : (note : ℤ) (found : Option (Option Row)) (held : Option Row) → ((not (is_some found) && is_card note held) || found_own note found) ≡ is_card note (unwrap_or found held)
either_has note None held = or_false (is_card note held)
either_has note (Some made) held = refl

cards_are : (note : ℤ) (o : Overlay) (rows : Rows) (held ids : List ℤ) → BearNames o.rows → AllByRecursion (λ (e : Name × Option Row). get o.rows e.0 ≡ Some e.1) (entries o.rows) → StandsUnderNames rows → held ≡ cards_of note rows
    → AreCardsOver note held (entries o.rows) ids → ids ≡ cards_of note (rows_over o rows)
cards_are note o rows held ids bears each named is over =
    same_ids ids (cards_of note (rows_over o rows)) over.ascend (cards_of-sorted note (rows_over o rows) (named_changed o rows bears named)) (λ id.
    let q : Name = card_name id in
    let es : List (Name × Option Row) = entries o.rows in
    over.has id ∙ ap (λ (b : Bool). b || has_own note es id) (unchanged_has es held id)
    ∙ ap (λ (x : Option (Option Row)). (not (is_some x) && has_id held id) || has_own note es id) (find-entry_at es q)
    ∙ ap (λ (b : Bool). (not (is_some (find name_cmp q es)) && b) || has_own note es id) (ap (λ (xs : List ℤ). has_id xs id) is ∙ has_cards note id rows named)
    ∙ ap (λ (b : Bool). (not (is_some (find name_cmp q es)) && is_card note (get rows q)) || b) (own_among note id es (entries_sorted o.rows) (bears_each o.rows bears es each))
    ∙ either_has note (find name_cmp q es) (get rows q) ∙ ap (is_card note) (sym (get-rows_changed es rows q))
    ∙ sym (has_cards note id (rows_over o rows) (named_changed o rows bears named)))

-- ---- what the view tells
headed_over : (o : Overlay) (head : Option Head) → is_some head ≡ is_some (option_map (head_over o) head)
headed_over o None = refl
headed_over o (Some head) = refl

headed_told : (headed : WithMark Bool) (o : Overlay) (told : Option (WithMark Holding)) → IfSome told (λ w. headed ≡ marks.of_both is_headed w) → IfSome (option_map (marks.changed (overlaid o)) told) (λ w. headed ≡ marks.of_both is_headed w)
headed_told headed o None is = tt
headed_told headed o (Some w) is = is ∙ ap (λ (b : Bool). record { current = b; mark = option_map is_headed w.mark }) (headed_over o w.current.head)

pub known_over : (k : Keeping) (o : Overlay) → BearNames o.rows → IsNamedRightly k → IsNamedRightly (changed (overlaid o) k)
known_over k o bears known = record { current = named_told o k.told bears known.current; mark = mark_told o k.told known.mark; headed = headed_told k.headed o k.told known.headed }

pub row_read : (k : Keeping) (o : Overlay) (name : Name) (result : Result (Option Row) KeepFault) → IfOk result (λ row. WhereTold k (λ h. row ≡ row_over o (get h.rows) name))
    → IfOk result (λ row. WhereTold (changed (overlaid o) k) (λ h. row ≡ get h.rows name))
row_read k o name result there =
    if_ok_map result (λ row. WhereTold k (λ h. row ≡ row_over o (get h.rows) name)) (λ row. WhereTold (changed (overlaid o) k) (λ h. row ≡ get h.rows name))
    (λ row is. told_over k o (λ h. row ≡ get h.rows name)
    (where_told-map k (λ h. row ≡ row_over o (get h.rows) name) (λ h. row ≡ get (rows_over o h.rows) name) (λ h same. same ∙ sym (get-rows_over o h.rows name)) is)) there

pub stamp_read : (k : Keeping) (o : Overlay) (name : Name) (result : Result (Option ℤ) KeepFault) → IfOk result (λ stamp. WhereTold k (λ h. stamp ≡ option_map stamp_of (row_over o (get h.rows) name)))
    → IfOk result (λ stamp. WhereTold (changed (overlaid o) k) (λ h. stamp ≡ option_map stamp_of (get h.rows name)))
stamp_read k o name result there =
    if_ok_map result (λ stamp. WhereTold k (λ h. stamp ≡ option_map stamp_of (row_over o (get h.rows) name))) (λ stamp. WhereTold (changed (overlaid o) k) (λ h. stamp ≡ option_map stamp_of (get h.rows name)))
    (λ stamp is. told_over k o (λ h. stamp ≡ option_map stamp_of (get h.rows name))
    (where_told-map k (λ h. stamp ≡ option_map stamp_of (row_over o (get h.rows) name)) (λ h. stamp ≡ option_map stamp_of (get (rows_over o h.rows) name))
    (λ h same. same ∙ ap (option_map stamp_of) (sym (get-rows_over o h.rows name))) is)) there

pub cards_read : (k : Keeping) (o : Overlay) (note : ℤ) (result : Result (List ℤ) KeepFault) → IfOk result (λ ids. WhereTold k (λ h. ids ≡ cards_of note (rows_over o h.rows)))
    → IfOk result (λ ids. WhereTold (changed (overlaid o) k) (λ h. ids ≡ cards_of note h.rows))
cards_read k o note result there =
    if_ok_map result (λ ids. WhereTold k (λ h. ids ≡ cards_of note (rows_over o h.rows))) (λ ids. WhereTold (changed (overlaid o) k) (λ h. ids ≡ cards_of note h.rows))
    (λ ids is. told_over k o (λ h. ids ≡ cards_of note h.rows) is) there

pub cards_told : (k : Keeping) (note : ℤ) (o : Overlay) (held ids : List ℤ) → BearNames o.rows → IsNamedRightly k → WhereTold k (λ h. held ≡ cards_of note h.rows) → AreCardsOver note held (entries o.rows) ids
    → WhereTold k (λ h. ids ≡ cards_of note (rows_over o h.rows))
cards_told k note o held ids bears known told over =
    where_both k (λ h. StandsUnderNames h.rows) (λ h. held ≡ cards_of note h.rows) (λ h. ids ≡ cards_of note (rows_over o h.rows))
    (λ h named is. cards_are note o h.rows held ids bears (entries_found o.rows) named is over) known.current told

-- ---- what the edit leaves
card_edited : (note stamp : ℤ) (row : Row) → is_card_of note (edited stamp row) ≡ is_card_of note row
card_edited note stamp (rows.Note n) = refl
card_edited note stamp (rows.Card c) = refl
card_edited note stamp (rows.Review r) = refl
card_edited note stamp (rows.NoteType t) = refl
card_edited note stamp (rows.Deck d) = refl
card_edited note stamp (rows.Options o) = refl
card_edited note stamp (rows.Grave g) = refl

-- a row that differs in stamp and usn alone is a card of the note, if the other is
card_same : (note : ℤ) (made before : Row) → same_but_stamp_and_usn made before ≡ true → is_card_of note before ≡ is_card_of note made
card_same note made before same =
    sym (card_edited note (pos 0) before) ∙ ap (is_card_of note) (sym ((fields_exactly made before (pos 0) (negsuc 0)).0 same)) ∙ card_edited note (pos 0) made

card_kept : (note second : ℤ) (before made : Option Row) → is_card note made ≡ is_card note (edited_row second before made)
card_kept note second None None = refl
card_kept note second None (Some made) = sym (card_edited note second made)
card_kept note second (Some before) None = refl
card_kept note second (Some before) (Some made) =
    elim (same_but_stamp_and_usn made before) as (λ b. same_but_stamp_and_usn made before ≡ b
    → is_card_of note made ≡ is_card note (if b then Some before else Some (edited (advanced second (stamp_of before)) made))) [
      | true ↦ λ same. sym (card_same note made before same)
      | false ↦ λ _. sym (card_edited note (advanced second (stamp_of before)) made)
    ] refl

names_stand : (rows : Rows) → AreNamed (get rows) → StandsUnderNames rows
names_stand rows named = all_from_gets (λ (entry : Name × Row). name_of entry.1 ≡ entry.0) rows named

-- a note's cards in the view are those that it has after the edit
pub cards_left : (at note : ℤ) (o : Overlay) (c after : Collection) → AreNamed (row_under c) → Admits c (edit_of o c) → IsEdited at c (edit_of o c) after
    → cards_of note (rows_over o c.rows) ≡ cards_of note after.rows
cards_left at note o c after named admits is_edited =
    let seen : StandsUnderNames (rows_over o c.rows) = names_stand (rows_over o c.rows) (λ name row is. admits.named name row (sym (get-rows_over o c.rows name) ∙ is)) in
    let left : StandsUnderNames after.rows = names_stand after.rows (edits_keep_names at c after (edit_of o c) admits is_edited named) in
    same_ids (cards_of note (rows_over o c.rows)) (cards_of note after.rows) (cards_of-sorted note (rows_over o c.rows) seen) (cards_of-sorted note after.rows left) (λ id.
    let q : Name = card_name id in
    has_cards note id (rows_over o c.rows) seen
    ∙ ap (is_card note) (get-rows_over o c.rows q)
    ∙ card_kept note (second_of at) (row_under c q) ((edit_of o c).rows q)
    ∙ ap (is_card note) (sym (is_edited.rows q))
    ∙ sym (has_cards note id after.rows left))
