-- A grave is what its id, its table and a usn make.
use Rattle.ak_base.proofs.Burials.{codes_exactly, graves_exactly, graves_of-buried_table}
use Rattle.ak_base.specs.Columns.{code_fault}
use Rattle.ak_base.specs.Graves.{buried_table, grave_faults, grave_table}
use Rattle.ak_base.proofs.RowFacts.{same-with_usn}
use Rattle.ak_base.specs.Contents.{same_content}
use Rattle.ak_base.specs.Rows.{IsChecked, buried_of, name_of, with_usn}
use Rattle.ak_base.specs.declared.names.Name.{Name}
use Rattle.ak_base.specs.Tables.{graves_of, grave_code, of_grave_code}
use Rattle.ak_base.specs.declared.names.Table.{Table}
use Rattle.ak_base.specs.declared.names.Table.TheVariants as tables
use Rattle.ak_base.specs.declared.graves.Grave.{Grave}
use Rattle.ak_base.specs.declared.rows.Row.{Row}
use Rattle.ak_base.specs.declared.rows.Row.TheVariants as rows
use Rattle.ak_base.specs.declared.errors.RowFault.TheVariants.{BadCode}
use Rattle.ak_merge.proofs.CheckedRows.{faultless_of}
use Rattle.ak_merge.proofs.Finding.{not_none}
use Rattle.ak_merge.proofs.TakingLaws.{no_table, graves_alike}
use Rattle.std.specs.Prelude.{◌≡◌, ℤ, pos, Bool, true, false, ◌||◌, int_lt, if◌then◌else◌, IsTrue, is_some, Some, None}
use Rattle.std.specs.Option.{unwrap_or}
use Rattle.std.specs.Ordering.{int_eq}
use Rattle.std.proofs.Common.{refl, sym, ap, subst, ◌∙◌, arith}
use Rattle.std.proofs.lemmas.Int.{ints}
use Rattle.std.proofs.lemmas.Option.{same_Some}

in_range : (kind : ℤ) → code_fault 2 kind (pos 0) (pos 2) ≡ None → (int_lt kind (pos 0) || int_lt (pos 2) kind) ≡ false
unfolding code_fault
in_range kind is =
    elim (int_lt kind (pos 0) || int_lt (pos 2) kind) as (λ b. (if b then Some (BadCode 2 kind) else None) ≡ None → b ≡ false) [ true ↦ λ some. absurd (not_none some) | false ↦ λ _. refl ] is

-- a kind in its range is the code of the table of what it buries
coded : (kind : ℤ) → code_fault 2 kind (pos 0) (pos 2) ≡ None → of_grave_code kind ≡ Some (buried_table kind)
coded kind is = by_three (int_eq kind (pos 0)) (int_eq kind (pos 1)) (int_eq kind (pos 2)) (λ no_card no_note no_deck. let within = in_range kind is in grind (arith, ints, no_card, no_note, no_deck, within))
  where
    by_three : (a b c : Bool) → (a ≡ false → b ≡ false → c ≡ false → ⊥) → (if a then Some tables.Card else if b then Some tables.Note else if c then Some tables.Deck else None)
        ≡ Some (unwrap_or (if a then Some tables.Card else if b then Some tables.Note else if c then Some tables.Deck else None) tables.Deck)
    by_three true b c never = refl
    by_three false true c never = refl
    by_three false false true never = refl
    by_three false false false never = absurd (never refl refl refl)

-- the kind of a grave is the code of the rows that leave graves in its table
kind_of : (g : Grave) (kind : ℤ) (table : Table) → IsChecked (rows.Grave g) → graves_of table ≡ Some (grave_table g.kind) → grave_code table ≡ Some kind → g.kind ≡ kind
kind_of g kind table checked leaves code =
    let own : grave_code (buried_table g.kind) ≡ Some g.kind = (codes_exactly (buried_table g.kind) g.kind).1 (coded g.kind (faultless_of (grave_faults g) checked).1.1.0) in
    let same : table ≡ buried_table g.kind =
    same_Some table (buried_table g.kind) (sym ((graves_exactly table (grave_table g.kind)).0 leaves) ∙ (graves_exactly (buried_table g.kind) (grave_table g.kind)).0 (graves_of-buried_table g.kind)) in
    same_Some g.kind kind (sym own ∙ ap grave_code (sym same) ∙ code)

-- a row in a table of graves is the grave that its id, that table and a usn make
pub graves_are_made_anew : (row : Row) (usn kind : ℤ) (table : Table) → IsChecked row → graves_of table ≡ Some (name_of row).table → grave_code table ≡ Some kind
    → with_usn row usn ≡ rows.Grave (record { usn = usn; oid = (name_of row).id; kind = kind })
graves_are_made_anew (rows.Note n) usn kind table checked leaves code = absurd (no_table table tables.Note tables.Note leaves refl refl)
graves_are_made_anew (rows.Card c) usn kind table checked leaves code = absurd (no_table table tables.Card tables.Card leaves refl refl)
graves_are_made_anew (rows.Review r) usn kind table checked leaves code = absurd (no_table table tables.Review tables.Review leaves refl refl)
graves_are_made_anew (rows.NoteType t) usn kind table checked leaves code = absurd (no_table table tables.NoteType tables.NoteType leaves refl refl)
graves_are_made_anew (rows.Deck d) usn kind table checked leaves code = absurd (no_table table tables.Deck tables.Deck leaves refl refl)
graves_are_made_anew (rows.Options o) usn kind table checked leaves code = absurd (no_table table tables.Options tables.Options leaves refl refl)
graves_are_made_anew (rows.Grave g) usn kind table checked leaves code =
    ap (λ (k : ℤ). rows.Grave (record { usn = usn; oid = g.oid; kind = k })) (kind_of g kind table checked leaves code)

-- two graves of one name, both in their ranges, are one but for their numbers
pub graves_are_one : (x y : Row) → IsChecked x → IsChecked y → name_of x ≡ name_of y → is_some (buried_of y) ≡ true → IsTrue (same_content x y)
graves_are_one x y checked their_checked same grave = both x y checked their_checked same (graves_alike x y same ∙ grave) grave
  where
    one_kind : (g h : Grave) → IsChecked (rows.Grave g) → IsChecked (rows.Grave h) → name_of (rows.Grave g) ≡ name_of (rows.Grave h) → g.kind ≡ h.kind
    one_kind g h checked their_checked same =
        kind_of g h.kind (buried_table h.kind) checked (graves_of-buried_table h.kind ∙ ap (λ (n : Name). Some n.table) (sym same))
        ((codes_exactly (buried_table h.kind) h.kind).1 (coded h.kind (faultless_of (grave_faults h) their_checked).1.1.0))

    both : (x y : Row) → IsChecked x → IsChecked y → name_of x ≡ name_of y → is_some (buried_of x) ≡ true → is_some (buried_of y) ≡ true → IsTrue (same_content x y)
    both (rows.Grave g) (rows.Grave h) checked their_checked same one other =
        let kinds : g.kind ≡ h.kind = one_kind g h checked their_checked same in
        let ids : g.oid ≡ h.oid = ap (λ (n : Name). n.id) same in
        let is : rows.Grave g ≡ with_usn (rows.Grave h) g.usn = λ i. rows.Grave (record { usn = g.usn; oid = ids i; kind = kinds i }) in
        subst (λ (row : Row). IsTrue (same_content row (rows.Grave h))) (sym is) (same-with_usn (rows.Grave h) g.usn)
    both (rows.Note n) y checked their_checked same one other = absurd (grind (arith, one))
    both (rows.Card c) y checked their_checked same one other = absurd (grind (arith, one))
    both (rows.Review r) y checked their_checked same one other = absurd (grind (arith, one))
    both (rows.NoteType t) y checked their_checked same one other = absurd (grind (arith, one))
    both (rows.Deck d) y checked their_checked same one other = absurd (grind (arith, one))
    both (rows.Options o) y checked their_checked same one other = absurd (grind (arith, one))
    both (rows.Grave g) (rows.Note n) checked their_checked same one other = absurd (grind (arith, other))
    both (rows.Grave g) (rows.Card c) checked their_checked same one other = absurd (grind (arith, other))
    both (rows.Grave g) (rows.Review r) checked their_checked same one other = absurd (grind (arith, other))
    both (rows.Grave g) (rows.NoteType t) checked their_checked same one other = absurd (grind (arith, other))
    both (rows.Grave g) (rows.Deck d) checked their_checked same one other = absurd (grind (arith, other))
    both (rows.Grave g) (rows.Options o) checked their_checked same one other = absurd (grind (arith, other))
