-- The answers at the end of an edit are its refusals, by names.
use Rattle.std.proofs.Common.{◌≡◌, ℤ, pos, Bool, true, false, not, ◌&&◌, cond, int_lt, List, [], ◌∷◌, ◌++◌, IfSome, IsTrue, T, Option, Some, None, is_some, Ok, Err, if◌then◌else◌, refl, sym, ap, subst, ◌∙◌, arith}
use Rattle.std.proofs.lemmas.Int.{ints}
use Rattle.std.proofs.lemmas.Option.{none-some, same_Some}
use Rattle.std.specs.FinMap.{FinMap, entries, entries_sorted, find, get, get-entries, is_sorted}
use Rattle.std.specs.Cmp.{eq_by_cmp_equiv, first_so, second_so}
use Rattle.std.specs.Option.{option_map, unwrap_or}
use Rattle.std.specs.Ordering.{eq_by_cmp}
use Rattle.ak_base.specs.Heads.{IsWithin}
use Rattle.ak_base.specs.Limits.{last_stamp}
use Rattle.ak_base.specs.Names.{name_cmp, names_total}
use Rattle.ak_base.specs.Rows.{IsChecked, check_of}
use Rattle.ak_base.specs.Tables.{buried_in, grave_name}
use Rattle.ak_base.specs.declared.errors.RowFault.{RowFault}
use Rattle.ak_base.specs.declared.heads.Head.{Head}
use Rattle.ak_base.specs.declared.names.Name.{Name}
use Rattle.ak_base.specs.declared.rows.Row.{Row}
use Rattle.ak_keep.proofs.RowsByName.{both_first, both_second, same_of_tied}
use Rattle.ak_keep.specs.Collections.{Holding}
use Rattle.ak_merge.proofs.EditFacts.{false_true, true_false}
use Rattle.ak_merge.specs.Edits.{changes_row, edited, goes}
use Rattle.ak_keep.specs.Graves.{RowsByName}
use Rattle.ak_merge.specs.Holdings.{AreChecked, AreNamed}
use Rattle.ak_edit.proofs.Refusing.{all_pass, below_find, fails_first, graves_stamped, made_of_entry, stamps_append, untied_turned}
use Rattle.ak_edit.proofs.Stepping.{stamp_outside, stamp_within}
use Rattle.ak_edit.proofs.Writing.{made_over, unchanged_row}
use Rattle.ak_edit.specs.Ends.{IsFirstFault}
use Rattle.ak_edit.specs.MadeRows.{check_of_rows, have_stamps_left, is_stamp_left}
use Rattle.ak_edit.specs.Overlays.{Overlay, edit_of}
use Rattle.ak_edit.specs.Plans.{grave_writes, row_writes, stamp_made, writes_of, writes_under}

-- what is made under a name is made of its entry, and of a name without one nothing is made
made_where : (at : RowsByName) (noted : FinMap name_cmp (Option Row)) (name : Name) (made : Option Row) → find name_cmp name (entries noted) ≡ Some made → made_over at noted name ≡ made
made_where at noted name made found = ap (λ (o : Option (Option Row)). unwrap_or o (at name)) (get-entries noted name ∙ found)

abbrev made_at : RowsByName → RowsByName → Name → Option Row
made_at at made name =
    if is_some (buried_in name.table) then None else if changes_row (at name) (made name) then option_map (edited (pos 0)) (made name) else None

nothing_made : (at made : RowsByName) (name : Name) → made name ≡ at name → made_at at made name ≡ None
nothing_made at made name same =
    elim (is_some (buried_in name.table)) as (λ b. (if b then None else if changes_row (at name) (made name) then option_map (edited (pos 0)) (made name) else None) ≡ None) [
      | true ↦ refl
      | false ↦ ap (λ (b : Bool). if b then option_map (edited (pos 0)) (made name) else None) (ap (changes_row (at name)) same ∙ unchanged_row (at name))
    ]

-- what holds of what is made of each entry holds of what is made under each name
by_entries : (P : Option Row → Type 0) (at : RowsByName) (noted : FinMap name_cmp (Option Row)) (name : Name) → P None
    → ((made : Option Row) → find name_cmp name (entries noted) ≡ Some made → P (made_of_entry at name made)) → P (made_at at (made_over at noted) name)
by_entries P at noted name none all =
    elim (find name_cmp name (entries noted)) as (λ o. find name_cmp name (entries noted) ≡ o → P (made_at at (made_over at noted) name)) [
      | None ↦ λ is. subst P (sym (nothing_made at (made_over at noted) name (ap (λ (o : Option (Option Row)). unwrap_or o (at name)) (get-entries noted name ∙ is)))) none
      | Some made ↦ λ is. subst (λ (m : Option Row). P (if is_some (buried_in name.table) then None else if changes_row (at name) m then option_map (edited (pos 0)) m else None)) (sym (made_where at noted name made is)) (all made is)
    ] refl

-- the first fault of the writes is that of the edit
pub first_fault : (second : ℤ) (o : Overlay) (h : Holding) (head : Head) (fault : RowFault) → AreNamed (get h.rows) → AreChecked (get h.rows) → check_of_rows (writes_of second (get h.rows) (entries o.rows)) ≡ Err fault
    → IsFirstFault (record { rows = h.rows; head = head }) (edit_of o (record { rows = h.rows; head = head })) fault
first_fault second o h head fault named checked fails =
    let found = fails_first second (get h.rows) named checked (entries o.rows) fault (entries_sorted o.rows) fails in
    record {
      name = found.name;
      row = found.row;
      made = ap (λ (m : Option Row). made_of_entry (get h.rows) found.name m) (made_where (get h.rows) o.rows found.name found.noted found.found) ∙ found.made;
      fails = found.fails;
      first = λ other less. by_entries (λ (m : Option Row). IfSome m IsChecked) (get h.rows) o.rows other tt (λ made there. found.first other made less there);
    }

-- if the writes pass, no row of the edit fails
pub no_fault : (second : ℤ) (o : Overlay) (h : Holding) (head : Head) (fault : RowFault) → AreNamed (get h.rows) → AreChecked (get h.rows) → check_of_rows (writes_of second (get h.rows) (entries o.rows)) ≡ Ok tt
    → IsFirstFault (record { rows = h.rows; head = head }) (edit_of o (record { rows = h.rows; head = head })) fault → ⊥
no_fault second o h head fault named checked passes first =
    let passed : IfSome (made_at (get h.rows) (made_over (get h.rows) o.rows) first.name) IsChecked =
    by_entries (λ (m : Option Row). IfSome m IsChecked) (get h.rows) o.rows first.name tt (λ made there. all_pass second (get h.rows) named checked (entries o.rows) first.name made passes there) in
    let row_passes : check_of first.row ≡ Ok tt = subst (λ (m : Option Row). IfSome m IsChecked) first.made passed in
    let clash : Ok tt ≡ Err fault = sym row_passes ∙ first.fails in
    absurd (grind (arith, clash))

-- ---- stamps
stamp_ok : ℤ → Bool
stamp_ok stamp = not (int_lt stamp (pos 0)) && not (int_lt last_stamp stamp)

abbrev entry_left : ℤ → RowsByName → Name → Option Row → Bool
entry_left second at name made = if is_some (made_of_entry at name made) then is_stamp_left (record { name = name; before = at name; row = made; stamp = stamp_made second (at name) made }) else true

and_true : (b : Bool) → (b && true) ≡ b
and_true true = refl
and_true false = refl

left_if : (b : Bool) (second : ℤ) (name : Name) (before made : Option Row) →
    have_stamps_left (if b then record { name = name; before = before; row = option_map (edited (pos 0)) made; stamp = stamp_made second before made } ∷ [] else [])
    ≡ (if is_some (if b then option_map (edited (pos 0)) made else None) then is_stamp_left (record { name = name; before = before; row = made; stamp = stamp_made second before made }) else true)
left_if false second name before made = refl
left_if true second name before None = refl
left_if true second name None (Some made) = and_true _
left_if true second name (Some before) (Some made) = and_true _

under_left : (second : ℤ) (at : RowsByName) (name : Name) (made : Option Row) → have_stamps_left (writes_under second at name made) ≡ entry_left second at name made
under_left second at name made =
    elim (is_some (buried_in name.table)) as (λ b. have_stamps_left (if b then [] else if goes (at name) made then row_writes second name (at name) made ++ grave_writes at name (grave_name name) else row_writes second name (at name) made)
    ≡ (if is_some (if b then None else if changes_row (at name) made then option_map (edited (pos 0)) made else None) then is_stamp_left (record { name = name; before = at name; row = made; stamp = stamp_made second (at name) made }) else true)) [
      | true ↦ refl
      | false ↦ elim (goes (at name) made) as (λ b. have_stamps_left (if b then row_writes second name (at name) made ++ grave_writes at name (grave_name name) else row_writes second name (at name) made)
          ≡ (if is_some (if changes_row (at name) made then option_map (edited (pos 0)) made else None) then is_stamp_left (record { name = name; before = at name; row = made; stamp = stamp_made second (at name) made }) else true)) [
            | true ↦
                stamps_append (row_writes second name (at name) made) (grave_writes at name (grave_name name))
                ∙ ap (λ (b : Bool). have_stamps_left (row_writes second name (at name) made) && b) (graves_stamped at name (grave_name name)) ∙ and_true (have_stamps_left (row_writes second name (at name) made))
                ∙ left_if (changes_row (at name) made) second name (at name) made
            | false ↦ left_if (changes_row (at name) made) second name (at name) made
          ]
    ]

-- an entry whose made row has no stamp left
pub record HasNoneLeft (second : ℤ) (at : RowsByName) (es : List (Name × Option Row)) : Type 0 where
  pub name : Name
  pub noted : Option Row
  pub found : find name_cmp name es ≡ Some noted
  pub ends : entry_left second at name noted ≡ false

none_left : (second : ℤ) (at : RowsByName) (es : List (Name × Option Row)) → T (is_sorted name_cmp es) → have_stamps_left (writes_of second at es) ≡ false → HasNoneLeft second at es
none_left second at [] sorted ends = true_false ends
none_left second at (e ∷ es) sorted ends =
    elim (entry_left second at e.0 e.1) as (λ b. entry_left second at e.0 e.1 ≡ b → HasNoneLeft second at (e ∷ es)) [
      | false ↦ λ is. record { name = e.0; noted = e.1; found = ap (λ (b : Bool). cond b (Some e.1) (find name_cmp e.0 es)) ((eq_by_cmp_equiv names_total).refl e.0); ends = is }
      | true ↦ λ is.
          let later = none_left second at es (both_second _ _ sorted)
          (sym (stamps_append (writes_under second at e.0 e.1) (writes_of second at es) ∙ ap (λ (b : Bool). b && have_stamps_left (writes_of second at es)) (under_left second at e.0 e.1 ∙ is)) ∙ ends) in
          record {
            name = later.name;
            noted = later.noted;
            found = ap (λ (b : Bool). cond b (Some e.1) (find name_cmp later.name es)) (untied_turned e.0 later.name (below_find e.0 later.name es later.noted (both_first _ _ sorted) later.found)) ∙ later.found;
            ends = later.ends;
          }
    ] refl

all_left : (second : ℤ) (at : RowsByName) (es : List (Name × Option Row)) (name : Name) (made : Option Row) → have_stamps_left (writes_of second at es) ≡ true → find name_cmp name es ≡ Some made → entry_left second at name made ≡ true
all_left second at [] name made left found = absurd (none-some made found)
all_left second at (e ∷ es) name made left found =
    let both : (entry_left second at e.0 e.1 && have_stamps_left (writes_of second at es)) ≡ true =
    sym (stamps_append (writes_under second at e.0 e.1) (writes_of second at es) ∙ ap (λ (b : Bool). b && have_stamps_left (writes_of second at es)) (under_left second at e.0 e.1)) ∙ left in
    elim (eq_by_cmp name_cmp name e.0) as (λ b. eq_by_cmp name_cmp name e.0 ≡ b → cond b (Some e.1) (find name_cmp name es) ≡ Some made → entry_left second at name made ≡ true) [
      | true ↦ λ same here.
          subst (λ (n : Name). entry_left second at n made ≡ true) (sym (same_of_tied name e.0 same))
          (subst (λ (m : Option Row). entry_left second at e.0 m ≡ true) (same_Some e.1 made here) (first_so _ _ both))
      | false ↦ λ _ behind. all_left second at es name made (second_so _ _ both) behind
    ] refl found

stamp_is : (second : ℤ) (at : RowsByName) (name : Name) (made : Option Row) → is_some (made_of_entry at name made) ≡ true → entry_left second at name made ≡ true
    → IsWithin (pos 0) last_stamp (stamp_made second (at name) made)
stamp_is second at name made some left =
    stamp_within (stamp_made second (at name) made)
    (ap (λ (b : Bool). if b then is_stamp_left (record { name = name; before = at name; row = made; stamp = stamp_made second (at name) made }) else true) (sym some) ∙ left)

-- the stamps of what the edit makes are in range
pub stamps_within : (second : ℤ) (at : RowsByName) (noted : FinMap name_cmp (Option Row)) (name : Name) → is_some (made_at at (made_over at noted) name) ≡ true
    → have_stamps_left (writes_of second at (entries noted)) ≡ true → IsWithin (pos 0) last_stamp (stamp_made second (at name) (made_over at noted name))
stamps_within second at noted name some left =
    elim (find name_cmp name (entries noted)) as (λ o. find name_cmp name (entries noted) ≡ o → IsWithin (pos 0) last_stamp (stamp_made second (at name) (made_over at noted name))) [
      | None ↦ λ is.
          false_true (ap is_some (sym (nothing_made at (made_over at noted) name (ap (λ (o : Option (Option Row)). unwrap_or o (at name)) (get-entries noted name ∙ is)))) ∙ some)
      | Some made ↦ λ is.
          let same = made_where at noted name made is in
          subst (λ (m : Option Row). IsWithin (pos 0) last_stamp (stamp_made second (at name) m)) (sym same)
          (stamp_is second at name made (ap (λ (m : Option Row). is_some (made_of_entry at name m)) (sym same) ∙ some) (all_left second at (entries noted) name made left is))
    ] refl

-- and if they are not, one of them is not
pub stamp_out : (second : ℤ) (at : RowsByName) (noted : FinMap name_cmp (Option Row)) → have_stamps_left (writes_of second at (entries noted)) ≡ false
    → (name : Name) × IsTrue (is_some (made_at at (made_over at noted) name)) × (IsWithin (pos 0) last_stamp (stamp_made second (at name) (made_over at noted name)) → ⊥)
stamp_out second at noted ends =
    let none = none_left second at (entries noted) (entries_sorted noted) ends in
    let same = made_where at noted none.name none.noted none.found in
    let both = entry_ends second at none.name none.noted none.ends in (
      none.name,
      ap (λ (m : Option Row). is_some (made_of_entry at none.name m)) same ∙ both.0,
      λ within. both.1 (subst (λ (m : Option Row). IsWithin (pos 0) last_stamp (stamp_made second (at none.name) m)) same within),
    )
  where
    entry_ends : (second : ℤ) (at : RowsByName) (name : Name) (made : Option Row) → entry_left second at name made ≡ false
        → (is_some (made_of_entry at name made) ≡ true) × (IsWithin (pos 0) last_stamp (stamp_made second (at name) made) → ⊥)
    entry_ends second at name made ends =
        elim (is_some (made_of_entry at name made)) as (λ b. (if b then is_stamp_left (record { name = name; before = at name; row = made; stamp = stamp_made second (at name) made }) else true) ≡ false
        → (b ≡ true) × (IsWithin (pos 0) last_stamp (stamp_made second (at name) made) → ⊥)) [ false ↦ λ is. true_false is | true ↦ λ is. (refl, stamp_outside (stamp_made second (at name) made) is) ] ends
