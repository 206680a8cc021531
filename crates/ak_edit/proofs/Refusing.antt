-- The tests of what an edit makes, by names: the first fault by table and id, and stamps that end.
use Rattle.std.proofs.Common.{◌≡◌, ℤ, pos, Bool, true, false, ◌&&◌, cond, List, [], ◌∷◌, ◌++◌, IfSome, T, Option, Some, None, is_some, Result, Ok, Err, negsuc, if◌then◌else◌, refl, sym, ap, subst, ◌∙◌, arith}
use Rattle.std.proofs.lemmas.Option.{none-some, same_Some}
use Rattle.std.specs.FinMap.{find, is_sorted}
use Rattle.std.specs.FinMap.Entries.{below_all}
use Rattle.std.specs.Option.{option_map, option_map_or}
use Rattle.std.specs.Cmp.{eq_by_cmp_equiv}
use Rattle.std.specs.Ordering.{eq_by_cmp, is_eq, is_lt, ordering_reverse}
use Rattle.std.specs.declared.cmp.Ordering.TheVariants.{Less, Greater}
use Rattle.ak_base.specs.Cards.{place_faults, schedule_faults, mark_faults}
use Rattle.ak_base.specs.Columns.{code_fault, id_fault}
use Rattle.ak_base.specs.Decks.{title_faults as deck_titles, taken_faults}
use Rattle.ak_base.specs.Graves.{grave_faults}
use Rattle.ak_base.specs.NoteTypes.{title_faults as type_titles, form_faults}
use Rattle.ak_base.specs.Notes.{identity_faults, content_faults}
use Rattle.ak_base.specs.OptionGroups.{general_faults, new_faults, rev_faults, lapse_faults}
use Rattle.ak_base.specs.Reviews.{review_faults}
use Rattle.ak_base.specs.Names.{name_cmp, names_total}
use Rattle.ak_base.specs.Rows.{IsChecked, check_of, name_of}
use Rattle.ak_base.specs.Tables.{buried_in, grave_name}
use Rattle.ak_base.specs.declared.errors.RowFault.{RowFault}
use Rattle.ak_base.specs.declared.names.Name.{Name}
use Rattle.ak_base.specs.declared.names.Table.{Table}
use Rattle.ak_base.specs.declared.names.Table.TheVariants as tables
use Rattle.ak_base.specs.declared.rows.Row.{Row}
use Rattle.ak_base.specs.declared.rows.Row.TheVariants as rows
use Rattle.ak_keep.proofs.RowsByName.{both_first, both_second, is_less, same_of_tied}
use Rattle.ak_merge.proofs.CheckedRows.{faultless_of}
use Rattle.ak_merge.proofs.EditFacts.{false_true}
use Rattle.ak_merge.specs.Edits.{changes_row, edited, goes}
use Rattle.ak_keep.specs.Graves.{RowsByName}
use Rattle.ak_merge.specs.Holdings.{AreChecked, AreNamed, name_in}
use Rattle.ak_edit.proofs.StampedRows.{of_faultless}
use Rattle.ak_edit.specs.MadeRows.{check_of_rows, check_of_write, first_of, have_stamps_left, is_stamp_left}
use Rattle.ak_edit.specs.Plans.{grave_writes, row_writes, stamp_made, writes_of, writes_under}
use Rattle.ak_edit.specs.declared.plans.Write.{Write}

-- the row that is made of an entry, if one is
abbrev pub made_of_entry : RowsByName → Name → Option Row → Option Row
made_of_entry at name made =
    if is_some (buried_in name.table) then None else if changes_row (at name) made then option_map (edited (pos 0)) made else None

abbrev check_of_made : Option Row → Result (Unit {0}) RowFault
check_of_made made = option_map_or check_of made (Ok tt)

-- ---- lists of writes
first_of_ok : (r : Result (Unit {0}) RowFault) → first_of r (Ok tt) ≡ r
first_of_ok (Ok one) = refl
first_of_ok (Err fault) = refl

first_of_first : (r s t : Result (Unit {0}) RowFault) → first_of (first_of r s) t ≡ first_of r (first_of s t)
first_of_first (Ok one) s t = refl
first_of_first (Err fault) s t = refl

check_append : (ws vs : List Write) → check_of_rows (ws ++ vs) ≡ first_of (check_of_rows ws) (check_of_rows vs)
check_append [] vs = refl
check_append (w ∷ ws) vs = ap (first_of (check_of_write w)) (check_append ws vs) ∙ sym (first_of_first (check_of_write w) (check_of_rows ws) (check_of_rows vs))

pub stamps_append : (ws vs : List Write) → have_stamps_left (ws ++ vs) ≡ (have_stamps_left ws && have_stamps_left vs)
stamps_append [] vs = refl
stamps_append (w ∷ ws) vs = ap (λ (b : Bool). is_stamp_left w && b) (stamps_append ws vs) ∙ and_first (is_stamp_left w) (have_stamps_left ws) (have_stamps_left vs)
  where
    and_first : (a b c : Bool) → (a && (b && c)) ≡ ((a && b) && c)
    and_first true b c = refl
    and_first false b c = refl

-- ---- graves pass
id_passes : (row : Row) → IsChecked row → id_fault (name_of row).id ≡ None
unfolding identity_faults content_faults place_faults schedule_faults mark_faults type_titles form_faults deck_titles taken_faults general_faults new_faults rev_faults lapse_faults
id_passes (rows.Note n) checked = (faultless_of (identity_faults n ++ content_faults n) checked).0
id_passes (rows.Card c) checked = (faultless_of (place_faults c ++ (schedule_faults c ++ mark_faults c)) checked).0
id_passes (rows.Review r) checked = (faultless_of (review_faults r) checked).0
id_passes (rows.NoteType t) checked = (faultless_of (type_titles t ++ form_faults t) checked).0
id_passes (rows.Deck d) checked = (faultless_of (deck_titles d ++ taken_faults d) checked).0
id_passes (rows.Options o) checked = (faultless_of (general_faults o ++ (new_faults o ++ (rev_faults o ++ lapse_faults o))) checked).0
id_passes (rows.Grave g) checked = (faultless_of (grave_faults g) checked).1.0

grave_passes : (id kind : ℤ) → id_fault id ≡ None → code_fault 2 kind (pos 0) (pos 2) ≡ None → check_of (rows.Grave (record { usn = negsuc 0; oid = id; kind = kind })) ≡ Ok tt
unfolding code_fault
grave_passes id kind ided coded = of_faultless (grave_faults (record { usn = negsuc 0; oid = id; kind = kind })) (refl, (ided, (coded, tt)))

graves_pass : (at : RowsByName) (table : Table) (id : ℤ) → id_fault id ≡ None → check_of_rows (grave_writes at (name_in table id) (grave_name (name_in table id))) ≡ Ok tt
unfolding code_fault
graves_pass at tables.Note id ided = ap (λ (r : Result (Unit {0}) RowFault). first_of r (Ok tt)) (grave_passes id (pos 1) ided refl)
graves_pass at tables.Card id ided = ap (λ (r : Result (Unit {0}) RowFault). first_of r (Ok tt)) (grave_passes id (pos 0) ided refl)
graves_pass at tables.Deck id ided = ap (λ (r : Result (Unit {0}) RowFault). first_of r (Ok tt)) (grave_passes id (pos 2) ided refl)
graves_pass at tables.Review id ided = refl
graves_pass at tables.NoteType id ided = refl
graves_pass at tables.Options id ided = refl
graves_pass at tables.NoteGrave id ided = refl
graves_pass at tables.CardGrave id ided = refl
graves_pass at tables.DeckGrave id ided = refl

pub graves_stamped : (at : RowsByName) (name : Name) (o : Option Name) → have_stamps_left (grave_writes at name o) ≡ true
graves_stamped at name None = refl
graves_stamped at name (Some grave) = refl

-- ---- the writes of one entry
gone_row : (before made : Option Row) → goes before made ≡ true → (made ≡ None) × ((row : Row) × (before ≡ Some row))
gone_row None made is = false_true is
gone_row (Some row) None is = (refl, (row, refl))
gone_row (Some row) (Some made) is = false_true is

row_checked : (second : ℤ) (name : Name) (before made : Option Row) → check_of_rows (row_writes second name before made) ≡ check_of_made (if changes_row before made then option_map (edited (pos 0)) made else None)
row_checked second name before made =
    elim (changes_row before made) as (λ b. check_of_rows (if b then record { name = name; before = before; row = option_map (edited (pos 0)) made; stamp = stamp_made second before made } ∷ [] else [])
    ≡ check_of_made (if b then option_map (edited (pos 0)) made else None)) [ true ↦ first_of_ok (check_of_made (option_map (edited (pos 0)) made)) | false ↦ refl ]

no_made : (b : Bool) (made : Option Row) → made ≡ None → check_of_made (if b then option_map (edited (pos 0)) made else None) ≡ Ok tt
no_made true made none = ap (λ (m : Option Row). check_of_made (option_map (edited (pos 0)) m)) none
no_made false made none = refl

under_checked : (second : ℤ) (at : RowsByName) (name : Name) (made : Option Row) → AreNamed at → AreChecked at → check_of_rows (writes_under second at name made) ≡ check_of_made (made_of_entry at name made)
under_checked second at name made named checked =
    elim (is_some (buried_in name.table)) as (λ b. check_of_rows (if b then [] else if goes (at name) made then row_writes second name (at name) made ++ grave_writes at name (grave_name name) else row_writes second name (at name) made)
    ≡ check_of_made (if b then None else if changes_row (at name) made then option_map (edited (pos 0)) made else None)) [
      | true ↦ refl
      | false ↦ elim (goes (at name) made) as (λ b. goes (at name) made ≡ b → check_of_rows (if b then row_writes second name (at name) made ++ grave_writes at name (grave_name name) else row_writes second name (at name) made)
          ≡ check_of_made (if changes_row (at name) made then option_map (edited (pos 0)) made else None)) [
            | true ↦ λ going.
                let gone = gone_row (at name) made going in
                let ided : id_fault name.id ≡ None = ap (λ (n : Name). id_fault n.id) (sym (named name gone.1.0 gone.1.1)) ∙ id_passes gone.1.0 (checked name gone.1.0 gone.1.1) in
                check_append (row_writes second name (at name) made) (grave_writes at name (grave_name name))
                ∙ ap (first_of (check_of_rows (row_writes second name (at name) made))) (graves_pass at name.table name.id ided)
                ∙ first_of_ok (check_of_rows (row_writes second name (at name) made)) ∙ row_checked second name (at name) made
            | false ↦ λ _. row_checked second name (at name) made
          ] refl
    ]

-- ---- the first fault
-- the first entry of these whose made row does not pass its check
pub record FailsFirst (at : RowsByName) (es : List (Name × Option Row)) (fault : RowFault) : Type 0 where
  pub name : Name
  pub noted : Option Row
  pub found : find name_cmp name es ≡ Some noted
  pub row : Row
  pub made : made_of_entry at name noted ≡ Some row
  pub fails : check_of row ≡ Err fault
  pub first : (other : Name) (another : Option Row) → name_cmp other name ≡ Less → find name_cmp other es ≡ Some another → IfSome (made_of_entry at other another) IsChecked

ok_made : (made : Option Row) → check_of_made made ≡ Ok tt → IfSome made IsChecked
ok_made None is = tt
ok_made (Some row) is = is

err_made : (made : Option Row) (fault : RowFault) → check_of_made made ≡ Err fault → (row : Row) × (made ≡ Some row) × (check_of row ≡ Err fault)
err_made None fault is = absurd (grind (arith, is))
err_made (Some row) fault is = (row, refl, is)

less_turned : (x y : Name) → name_cmp x y ≡ Less → name_cmp y x ≡ Greater
less_turned x y less = names_total.antisymm y x ∙ ap ordering_reverse less

untied : (x y : Name) → name_cmp x y ≡ Less → eq_by_cmp name_cmp x y ≡ false
untied x y less = ap is_eq less

pub untied_turned : (x y : Name) → name_cmp x y ≡ Less → eq_by_cmp name_cmp y x ≡ false
untied_turned x y less = ap is_eq (less_turned x y less)

never_both : {X : Type 0} (x y : Name) → name_cmp x y ≡ Less → name_cmp y x ≡ Less → X
never_both x y one other = false_true (ap is_lt (sym (less_turned x y one) ∙ other))

pub below_find : (x q : Name) (es : List (Name × Option Row)) (made : Option Row) → T (below_all name_cmp x es) → find name_cmp q es ≡ Some made → name_cmp x q ≡ Less
below_find x q [] made below found = absurd (none-some made found)
below_find x q (e ∷ es) made below found =
    elim (eq_by_cmp name_cmp q e.0) as (λ b. eq_by_cmp name_cmp q e.0 ≡ b → cond b (Some e.1) (find name_cmp q es) ≡ Some made → name_cmp x q ≡ Less) [
      | true ↦ λ same _. ap (name_cmp x) (same_of_tied q e.0 same) ∙ is_less (name_cmp x e.0) (both_first _ _ below)
      | false ↦ λ _ there. below_find x q es made (both_second _ _ below) there
    ] refl found

module _ (second : ℤ) (at : RowsByName) (named : AreNamed at) (checked : AreChecked at) where
  entry_first : (e : Name × Option Row) (es : List (Name × Option Row)) (fault : RowFault) → T (below_all name_cmp e.0 es) → check_of_made (made_of_entry at e.0 e.1) ≡ Err fault → FailsFirst at (e ∷ es) fault
  entry_first e es fault below fails =
      let row = err_made (made_of_entry at e.0 e.1) fault fails in
      record {
        name = e.0;
        noted = e.1;
        found = ap (λ (b : Bool). cond b (Some e.1) (find name_cmp e.0 es)) ((eq_by_cmp_equiv names_total).refl e.0);
        row = row.0;
        made = row.1;
        fails = row.2;
        first = λ other another less there.
            let behind : find name_cmp other es ≡ Some another = ap (λ (b : Bool). cond b (Some e.1) (find name_cmp other es)) (sym (untied other e.0 less)) ∙ there in
            never_both other e.0 less (below_find e.0 other es another below behind);
      }

  entry_later : (e : Name × Option Row) (es : List (Name × Option Row)) (fault : RowFault) → T (below_all name_cmp e.0 es) → check_of_made (made_of_entry at e.0 e.1) ≡ Ok tt → FailsFirst at es fault → FailsFirst at (e ∷ es) fault
  entry_later e es fault below passes later = record {
    name = later.name;
    noted = later.noted;
    found = ap (λ (b : Bool). cond b (Some e.1) (find name_cmp later.name es)) (untied_turned e.0 later.name (below_find e.0 later.name es later.noted below later.found)) ∙ later.found;
    row = later.row;
    made = later.made;
    fails = later.fails;
    first = λ other another less there.
        elim (eq_by_cmp name_cmp other e.0) as (λ b. eq_by_cmp name_cmp other e.0 ≡ b → cond b (Some e.1) (find name_cmp other es) ≡ Some another → IfSome (made_of_entry at other another) IsChecked) [
          | true ↦ λ same here.
              subst (λ (n : Name). IfSome (made_of_entry at n another) IsChecked) (sym (same_of_tied other e.0 same))
              (subst (λ (m : Option Row). IfSome (made_of_entry at e.0 m) IsChecked) (same_Some e.1 another here) (ok_made (made_of_entry at e.0 e.1) passes))
          | false ↦ λ _ behind. later.first other another less behind
        ] refl there;
  }

  -- what fails first among the writes fails first among the entries
  pub fails_first : (es : List (Name × Option Row)) (fault : RowFault) → T (is_sorted name_cmp es) → check_of_rows (writes_of second at es) ≡ Err fault → FailsFirst at es fault
  fails_first [] fault sorted fails = absurd (grind (arith, fails))
  fails_first (e ∷ es) fault sorted fails =
      by_first (check_of_made (made_of_entry at e.0 e.1)) refl (fails_first es fault (both_second _ _ sorted))
      (sym (check_append (writes_under second at e.0 e.1) (writes_of second at es) ∙ ap (λ (r : Result (Unit {0}) RowFault). first_of r (check_of_rows (writes_of second at es))) (under_checked second at e.0 e.1 named checked)) ∙ fails)
    where
      by_first : (r : Result (Unit {0}) RowFault) → check_of_made (made_of_entry at e.0 e.1) ≡ r → (check_of_rows (writes_of second at es) ≡ Err fault → FailsFirst at es fault) → first_of (check_of_made (made_of_entry at e.0 e.1)) (check_of_rows (writes_of second at es)) ≡ Err fault → FailsFirst at (e ∷ es) fault
      by_first (Ok one) is later rest =
          entry_later e es fault (both_first _ _ sorted) is
          (later (ap (λ (r : Result (Unit {0}) RowFault). first_of r (check_of_rows (writes_of second at es))) (sym is) ∙ rest))
      by_first (Err other) is later rest =
          entry_first e es fault (both_first _ _ sorted) (is ∙ sym (ap (λ (r : Result (Unit {0}) RowFault). first_of r (check_of_rows (writes_of second at es))) is) ∙ rest)

  -- if the writes pass, so does what is made of each entry
  pub all_pass : (es : List (Name × Option Row)) (name : Name) (made : Option Row) → check_of_rows (writes_of second at es) ≡ Ok tt → find name_cmp name es ≡ Some made → IfSome (made_of_entry at name made) IsChecked
  all_pass [] name made passes found = absurd (none-some made found)
  all_pass (e ∷ es) name made passes found =
      let both = both_pass (check_of_made (made_of_entry at e.0 e.1)) (check_of_rows (writes_of second at es))
      (sym (check_append (writes_under second at e.0 e.1) (writes_of second at es) ∙ ap (λ (r : Result (Unit {0}) RowFault). first_of r (check_of_rows (writes_of second at es))) (under_checked second at e.0 e.1 named checked)) ∙ passes) in
      elim (eq_by_cmp name_cmp name e.0) as (λ b. eq_by_cmp name_cmp name e.0 ≡ b → cond b (Some e.1) (find name_cmp name es) ≡ Some made → IfSome (made_of_entry at name made) IsChecked) [
        | true ↦ λ same here.
            subst (λ (n : Name). IfSome (made_of_entry at n made) IsChecked) (sym (same_of_tied name e.0 same))
            (subst (λ (m : Option Row). IfSome (made_of_entry at e.0 m) IsChecked) (same_Some e.1 made here) (ok_made (made_of_entry at e.0 e.1) both.0))
        | false ↦ λ _ behind. all_pass es name made both.1 behind
      ] refl found
    where
      both_pass : (r s : Result (Unit {0}) RowFault) → first_of r s ≡ Ok tt → (r ≡ Ok tt) × (s ≡ Ok tt)
      both_pass (Ok one) s is = (refl, is)
      both_pass (Err fault) s is = absurd (grind (arith, is))
