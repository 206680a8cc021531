-- The writes of an edit: what each of them says, and that every name which the edit changes is written.
use Rattle.std.proofs.Common.{◌≡◌, ℤ, pos, Bool, true, false, not, ◌||◌, cond, List, [], ◌∷◌, ◌++◌, IfSome, Option, Some, None, is_some, if◌then◌else◌, refl, sym, ap, subst, ◌∙◌}
use Rattle.std.proofs.lemmas.Option.{none-some, same_Some}
use Rattle.std.specs.Cmp.{eq_by_cmp_equiv}
use Rattle.std.specs.FinMap.{FinMap, entries, find, get, get-entries}
use Rattle.std.specs.List.{AllByRecursion}
use Rattle.std.specs.Option.{option_map, option_map_or, unwrap_or}
use Rattle.std.specs.Ordering.{eq_by_cmp}
use Rattle.ak_base.proofs.RowFacts.{same_fields-itself}
use Rattle.ak_base.specs.Contents.{same_but_stamp_and_usn}
use Rattle.ak_base.specs.Names.{name_cmp, names_total}
use Rattle.ak_base.specs.Rows.{name_of, stamp_of, with_stamp}
use Rattle.ak_base.specs.Tables.{buried_in, buried_name, grave_name}
use Rattle.ak_base.specs.declared.names.Name.{Name}
use Rattle.ak_base.specs.declared.names.Table.{Table}
use Rattle.ak_base.specs.declared.names.Table.TheVariants as tables
use Rattle.ak_base.specs.declared.rows.Row.{Row}
use Rattle.ak_base.specs.declared.rows.Row.TheVariants as rows
use Rattle.ak_keep.proofs.RowsByName.{same_of_tied}
use Rattle.ak_merge.proofs.EditFacts.{edited_name, false_true}
use Rattle.ak_merge.specs.Edits.{advanced, changes_row, changes_under, edited, edited_row, edited_under, goes, grave_left}
use Rattle.ak_keep.specs.Graves.{RowsByName}
use Rattle.ak_merge.specs.Holdings.{AreNamed, name_in}
use Rattle.ak_edit.proofs.Entries.{entries_found}
use Rattle.ak_edit.specs.Overlays.{BearNames}
use Rattle.ak_edit.specs.Plans.{grave_writes, row_writes, stamp_made, writes_of, writes_under}
use Rattle.ak_edit.specs.declared.plans.Write.{Write}

-- what is to stand under each name: what was noted, and else what stands there
abbrev pub made_over : RowsByName → FinMap name_cmp (Option Row) → RowsByName
made_over at noted name = unwrap_or (get noted name) (at name)

-- a write of an edit: what stood there before, and what the edit leaves there, under its name
pub record IsWriteOf (second : ℤ) (at made : RowsByName) (w : Write) : Type 0 where
  pub before : w.before ≡ at w.name
  pub changes : changes_under at made w.name ≡ true
  pub row : option_map (λ (row : Row). with_stamp row w.stamp) w.row ≡ edited_under second at made w.name
  pub named : IfSome w.row (λ row. name_of row ≡ w.name)

-- whether one of the writes has this name
abbrev pub is_written : Name → List Write → Bool
is_written name [] = false
is_written name (w ∷ ws) = eq_by_cmp name_cmp name w.name || is_written name ws

-- ---- one write
-- a row that was made with stamp 0 and then stamped
pub stamped : (stamp : ℤ) (row : Row) → with_stamp (edited (pos 0) row) stamp ≡ edited stamp row
stamped stamp (rows.Note n) = refl
stamped stamp (rows.Card c) = refl
stamped stamp (rows.Review r) = refl
stamped stamp (rows.NoteType t) = refl
stamped stamp (rows.Deck d) = refl
stamped stamp (rows.Options o) = refl
stamped stamp (rows.Grave g) = refl

pub not_true : (b : Bool) → not b ≡ true → b ≡ false
not_true true is = false_true is
not_true false is = refl

row_is : (second : ℤ) (before made : Option Row) → changes_row before made ≡ true
    → option_map (λ (row : Row). with_stamp row (stamp_made second before made)) (option_map (edited (pos 0)) made) ≡ edited_row second before made
row_is second None None changes = false_true changes
row_is second None (Some made) changes = ap Some (stamped second made)
row_is second (Some before) None changes = refl
row_is second (Some before) (Some made) changes =
    ap Some (stamped (advanced second (stamp_of before)) made)
    ∙ sym (ap (λ (b : Bool). if b then Some before else Some (edited (advanced second (stamp_of before)) made)) (not_true (same_but_stamp_and_usn made before) changes))

edited_bears : (name : Name) (made : Option Row) → ((row : Row) → made ≡ Some row → name_of row ≡ name) → IfSome (option_map (edited (pos 0)) made) (λ row. name_of row ≡ name)
edited_bears name None bears = tt
edited_bears name (Some row) bears = edited_name (pos 0) row ∙ bears row refl

pub no_grave : (name : Name) → is_some (buried_in name.table) ≡ false → buried_name name ≡ None
no_grave name none =
    elim (buried_in name.table) as (λ o. is_some o ≡ false → option_map (λ (table : Table). name_in table name.id) o ≡ None) [ Some t ↦ λ is. false_true (sym is) | None ↦ λ _. refl ] none

pub changes_of_row : (at made : RowsByName) (name : Name) → buried_name name ≡ None → changes_under at made name ≡ changes_row (at name) (made name)
changes_of_row at made name none = ap (λ (o : Option Name). option_map_or (λ (row : Name). goes (at row) (made row)) o (changes_row (at name) (made name))) none

edited_of_row : (second : ℤ) (at made : RowsByName) (name : Name) → buried_name name ≡ None → edited_under second at made name ≡ edited_row second (at name) (made name)
edited_of_row second at made name none =
    ap (λ (o : Option Name). option_map_or (λ (row : Name). if goes (at row) (made row) then grave_left row else at name) o (edited_row second (at name) (made name))) none

good_row : (second : ℤ) (at made : RowsByName) (name : Name) → buried_name name ≡ None → AreNamed made → AllByRecursion (IsWriteOf second at made) (row_writes second name (at name) (made name))
good_row second at made name none named =
    elim (changes_row (at name) (made name)) as (λ b. changes_row (at name) (made name) ≡ b → AllByRecursion (IsWriteOf second at made)
    (if b then record { name = name; before = at name; row = option_map (edited (pos 0)) (made name); stamp = stamp_made second (at name) (made name) } ∷ [] else [])) [
      | true ↦ λ is. (
        record {
          before = refl;
          changes = changes_of_row at made name none ∙ is;
          row = row_is second (at name) (made name) is ∙ sym (edited_of_row second at made name none);
          named = edited_bears name (made name) (λ row. named name row);
        },
        tt,
      )
      | false ↦ λ _. tt
    ] refl

good_grave : (second : ℤ) (at made : RowsByName) (table : Table) (id : ℤ) → goes (at (name_in table id)) (made (name_in table id)) ≡ true
    → AllByRecursion (IsWriteOf second at made) (grave_writes at (name_in table id) (grave_name (name_in table id)))
good_grave second at made tables.Note id going = (record { before = refl; changes = going; row = rw going refl; named = refl }, tt)
good_grave second at made tables.Card id going = (record { before = refl; changes = going; row = rw going refl; named = refl }, tt)
good_grave second at made tables.Deck id going = (record { before = refl; changes = going; row = rw going refl; named = refl }, tt)
good_grave second at made tables.Review id going = tt
good_grave second at made tables.NoteType id going = tt
good_grave second at made tables.Options id going = tt
good_grave second at made tables.NoteGrave id going = tt
good_grave second at made tables.CardGrave id going = tt
good_grave second at made tables.DeckGrave id going = tt

pub all_append : {X : Type 0} (P : X → Type 0) (xs ys : List X) → AllByRecursion P xs → AllByRecursion P ys → AllByRecursion P (xs ++ ys)
all_append P [] ys one other = other
all_append P (x ∷ xs) ys one other = (one.0, all_append P xs ys one.1 other)

good_under : (second : ℤ) (at made : RowsByName) (name : Name) → AreNamed made → AllByRecursion (IsWriteOf second at made) (writes_under second at name (made name))
good_under second at made name named =
    elim (is_some (buried_in name.table)) as (λ b. is_some (buried_in name.table) ≡ b → AllByRecursion (IsWriteOf second at made) (if b then []
    else if goes (at name) (made name) then row_writes second name (at name) (made name) ++ grave_writes at name (grave_name name) else row_writes second name (at name) (made name))) [
      | true ↦ λ _. tt
      | false ↦ λ e.
          let row = good_row second at made name (no_grave name e) named in
          elim (goes (at name) (made name)) as (λ b. goes (at name) (made name) ≡ b → AllByRecursion (IsWriteOf second at made)
          (if b then row_writes second name (at name) (made name) ++ grave_writes at name (grave_name name) else row_writes second name (at name) (made name))) [
            | true ↦ λ going. all_append (IsWriteOf second at made) (row_writes second name (at name) (made name)) (grave_writes at name (grave_name name)) row (good_grave second at made name.table name.id going)
            | false ↦ λ _. row
          ] refl
    ] refl

-- ---- all of them
good_all : (second : ℤ) (at made : RowsByName) (es : List (Name × Option Row)) → AreNamed made → AllByRecursion (λ (e : Name × Option Row). made e.0 ≡ e.1) es
    → AllByRecursion (IsWriteOf second at made) (writes_of second at es)
good_all second at made [] named all = tt
good_all second at made (e ∷ es) named all =
    all_append (IsWriteOf second at made) (writes_under second at e.0 e.1) (writes_of second at es)
    (subst (λ (m : Option Row). AllByRecursion (IsWriteOf second at made) (writes_under second at e.0 m)) all.0 (good_under second at made e.0 named)) (good_all second at made es named all.1)

noted_is : (at : RowsByName) (noted : FinMap name_cmp (Option Row)) (es : List (Name × Option Row)) → AllByRecursion (λ (e : Name × Option Row). get noted e.0 ≡ Some e.1) es
    → AllByRecursion (λ (e : Name × Option Row). made_over at noted e.0 ≡ e.1) es
noted_is at noted [] all = tt
noted_is at noted (e ∷ es) all = (ap (λ (o : Option (Option Row)). unwrap_or o (at e.0)) all.0, noted_is at noted es all.1)

pub named_over : (at : RowsByName) (noted : FinMap name_cmp (Option Row)) → AreNamed at → BearNames noted → AreNamed (made_over at noted)
named_over at noted named bears name row is =
    elim (get noted name) as (λ o. get noted name ≡ o → unwrap_or o (at name) ≡ Some row → name_of row ≡ name) [
      | None ↦ λ _ held. named name row held
      | Some made ↦ λ found held. bears name row (found ∙ ap Some held)
    ] refl is

-- each write of the plan is one of the edit
pub writes_are_good : (second : ℤ) (at : RowsByName) (noted : FinMap name_cmp (Option Row)) → AreNamed at → BearNames noted
    → AllByRecursion (IsWriteOf second at (made_over at noted)) (writes_of second at (entries noted))
writes_are_good second at noted named bears =
    good_all second at (made_over at noted) (entries noted) (named_over at noted named bears) (noted_is at noted (entries noted) (entries_found noted))

-- ---- every name that the edit changes is written
or_right : (a b : Bool) → b ≡ true → (a || b) ≡ true
or_right true b is = refl
or_right false b is = is

or_left : (a b : Bool) → a ≡ true → (a || b) ≡ true
or_left true b is = refl
or_left false b is = false_true is

pub written_left : (name : Name) (ws vs : List Write) → is_written name ws ≡ true → is_written name (ws ++ vs) ≡ true
written_left name [] vs is = false_true is
written_left name (w ∷ ws) vs is =
    elim (eq_by_cmp name_cmp name w.name) as (λ b. (b || is_written name ws) ≡ true → (b || is_written name (ws ++ vs)) ≡ true) [ true ↦ λ _. refl | false ↦ λ k. written_left name ws vs k ] is

pub written_right : (name : Name) (ws vs : List Write) → is_written name vs ≡ true → is_written name (ws ++ vs) ≡ true
written_right name [] vs is = is
written_right name (w ∷ ws) vs is = or_right (eq_by_cmp name_cmp name w.name) (is_written name (ws ++ vs)) (written_right name ws vs is)

tied : (x : Name) → eq_by_cmp name_cmp x x ≡ true
tied x = (eq_by_cmp_equiv names_total).refl x

found_written : (second : ℤ) (at : RowsByName) (es : List (Name × Option Row)) (name other : Name) (made : Option Row) → find name_cmp name es ≡ Some made
    → is_written other (writes_under second at name made) ≡ true → is_written other (writes_of second at es) ≡ true
found_written second at [] name other made found is = absurd (none-some made found)
found_written second at (e ∷ es) name other made found is =
    elim (eq_by_cmp name_cmp name e.0) as (λ b. eq_by_cmp name_cmp name e.0 ≡ b → cond b (Some e.1) (find name_cmp name es) ≡ Some made → is_written other (writes_under second at e.0 e.1 ++ writes_of second at es) ≡ true) [
      | true ↦ λ same here.
          written_left other (writes_under second at e.0 e.1) (writes_of second at es)
          (subst (λ (n : Name). is_written other (writes_under second at n e.1) ≡ true) (same_of_tied name e.0 same)
          (subst (λ (m : Option Row). is_written other (writes_under second at name m) ≡ true) (sym (same_Some e.1 made here)) is))
      | false ↦ λ _ there. written_right other (writes_under second at e.0 e.1) (writes_of second at es) (found_written second at es name other made there is)
    ] refl found

row_written_there : (second : ℤ) (name : Name) (before made : Option Row) → changes_row before made ≡ true → is_written name (row_writes second name before made) ≡ true
row_written_there second name before made is =
    subst (λ (b : Bool). is_written name (if b then record { name = name; before = before; row = option_map (edited (pos 0)) made; stamp = stamp_made second before made } ∷ [] else []) ≡ true) (sym is)
    (or_left (eq_by_cmp name_cmp name name) false (tied name))

row_written_under : (second : ℤ) (at : RowsByName) (name : Name) (made : Option Row) → is_some (buried_in name.table) ≡ false → changes_row (at name) made ≡ true
    → is_written name (writes_under second at name made) ≡ true
row_written_under second at name made none changes =
    let there = row_written_there second name (at name) made changes in
    subst (λ (b : Bool). is_written name (if b then [] else if goes (at name) made then row_writes second name (at name) made ++ grave_writes at name (grave_name name) else row_writes second name (at name) made) ≡ true) (sym none)
    (elim (goes (at name) made) as (λ b. is_written name (if b then row_writes second name (at name) made ++ grave_writes at name (grave_name name) else row_writes second name (at name) made) ≡ true) [
      | true ↦ written_left name (row_writes second name (at name) made) (grave_writes at name (grave_name name)) there
      | false ↦ there
    ])

grave_written_under : (second : ℤ) (at : RowsByName) (name grave : Name) (made : Option Row) → is_some (buried_in name.table) ≡ false → grave_name name ≡ Some grave → goes (at name) made ≡ true
    → is_written grave (writes_under second at name made) ≡ true
grave_written_under second at name grave made none is going =
    subst (λ (b : Bool). is_written grave (if b then [] else if goes (at name) made then row_writes second name (at name) made ++ grave_writes at name (grave_name name) else row_writes second name (at name) made) ≡ true) (sym none)
    (subst (λ (b : Bool). is_written grave (if b then row_writes second name (at name) made ++ grave_writes at name (grave_name name) else row_writes second name (at name) made) ≡ true) (sym going)
    (written_right grave (row_writes second name (at name) made) (grave_writes at name (grave_name name))
    (subst (λ (o : Option Name). is_written grave (grave_writes at name o) ≡ true) (sym is) (or_left (eq_by_cmp name_cmp grave grave) false (tied grave)))))

pub unchanged_row : (x : Option Row) → changes_row x x ≡ false
unchanged_row None = refl
unchanged_row (Some x) = ap not (same_fields-itself x)

ungone_row : (x : Option Row) → goes x x ≡ false
ungone_row None = refl
ungone_row (Some x) = refl

-- what is true of a row and itself is false of no name that was not noted
noted_there : {X : Type 0} (at : RowsByName) (noted : FinMap name_cmp (Option Row)) (test : Option Row → Option Row → Bool) (name : Name) → test (at name) (at name) ≡ false
    → test (at name) (made_over at noted name) ≡ true → ((made : Option Row) → find name_cmp name (entries noted) ≡ Some made → test (at name) made ≡ true → X) → X
noted_there {X} at noted test name itself is so =
    elim (get noted name) as (λ o. get noted name ≡ o → test (at name) (unwrap_or o (at name)) ≡ true → X) [
      | None ↦ λ _ held. false_true (sym itself ∙ held)
      | Some made ↦ λ found held. so made (sym (get-entries noted name) ∙ found) held
    ] refl is

row_covered : (second : ℤ) (at : RowsByName) (noted : FinMap name_cmp (Option Row)) (name : Name) → is_some (buried_in name.table) ≡ false → changes_row (at name) (made_over at noted name) ≡ true
    → is_written name (writes_of second at (entries noted)) ≡ true
row_covered second at noted name none changes =
    noted_there at noted changes_row name (unchanged_row (at name)) changes
    (λ made found there. found_written second at (entries noted) name name made found (row_written_under second at name made none there))

grave_covered : (second : ℤ) (at : RowsByName) (noted : FinMap name_cmp (Option Row)) (name grave : Name) → is_some (buried_in name.table) ≡ false → grave_name name ≡ Some grave
    → goes (at name) (made_over at noted name) ≡ true → is_written grave (writes_of second at (entries noted)) ≡ true
grave_covered second at noted name grave none is going =
    noted_there at noted goes name (ungone_row (at name)) going
    (λ made found there. found_written second at (entries noted) name grave made found (grave_written_under second at name grave made none is there))

covered_in : (second : ℤ) (at : RowsByName) (noted : FinMap name_cmp (Option Row)) (table : Table) (id : ℤ) → changes_under at (made_over at noted) (name_in table id) ≡ true
    → is_written (name_in table id) (writes_of second at (entries noted)) ≡ true
covered_in second at noted tables.Note id is = row_covered second at noted (name_in tables.Note id) refl is
covered_in second at noted tables.Card id is = row_covered second at noted (name_in tables.Card id) refl is
covered_in second at noted tables.Review id is = row_covered second at noted (name_in tables.Review id) refl is
covered_in second at noted tables.NoteType id is = row_covered second at noted (name_in tables.NoteType id) refl is
covered_in second at noted tables.Deck id is = row_covered second at noted (name_in tables.Deck id) refl is
covered_in second at noted tables.Options id is = row_covered second at noted (name_in tables.Options id) refl is
covered_in second at noted tables.NoteGrave id is = grave_covered second at noted (name_in tables.Note id) (name_in tables.NoteGrave id) refl refl is
covered_in second at noted tables.CardGrave id is = grave_covered second at noted (name_in tables.Card id) (name_in tables.CardGrave id) refl refl is
covered_in second at noted tables.DeckGrave id is = grave_covered second at noted (name_in tables.Deck id) (name_in tables.DeckGrave id) refl refl is

-- each name that the edit changes is written
pub changes_are_written : (second : ℤ) (at : RowsByName) (noted : FinMap name_cmp (Option Row)) (name : Name) → changes_under at (made_over at noted) name ≡ true
    → is_written name (writes_of second at (entries noted)) ≡ true
changes_are_written second at noted name is = covered_in second at noted name.table name.id is
