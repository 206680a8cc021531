-- The first note by id with a guid is the least one that is held.
use Rattle.std.specs.Prelude.{◌≡◌, ℕ, ℤ, pos, ◌<ℤ◌, ◌≤ℤ◌, true, false, int_lt, List, find, Option, Some, None, IfSome, option_and_then}
use Rattle.std.proofs.Common.{refl, sym, ap, subst, ◌∙◌, arith}
use Rattle.std.proofs.lemmas.Int.{ints}
use Rattle.std.proofs.lemmas.Option.{none-some, same_Some}
use Rattle.std.proofs.lemmas.Slice.Eq.{bytes_eq-Decides}
use Rattle.std.specs.FinMap.{get}
use Rattle.std.specs.Option.{option_map}
use Rattle.ak_base.specs.Rows.{name_of}
use Rattle.ak_base.specs.declared.names.Name.{Name}
use Rattle.ak_base.specs.declared.names.Table.TheVariants as tables
use Rattle.ak_base.specs.declared.notes.Note.{Note}
use Rattle.ak_base.specs.declared.rows.Row.{Row}
use Rattle.ak_base.specs.declared.rows.Row.TheVariants as rows
use Rattle.ak_imports.specs.Guids.{IsLeastId, IsLeastOf, first_id, guid_at, has_guid, id_of}
use Rattle.ak_keep.proofs.Paging.{compared_less}
use Rattle.ak_keep.specs.Collections.{Holding, Rows, StandsUnderNames, is_past, rows_past}
use Rattle.ak_keep.specs.Lookups.{as_note, note_at}
use Rattle.ak_keep.specs.Marks.{WithMark}
use Rattle.ak_keep.proofs.RowsByName.{named-get}
use Rattle.ak_merge.proofs.EditFacts.{false_true}
use Rattle.ak_merge.proofs.Finding.{IsFirstIn, first_in_table, none_in_table, not_both}
use Rattle.ak_merge.specs.Holdings.{AreNamed, name_in}

-- the row of a note that is found
pub row_of_note : (found : Option Row) (note : Note) → option_and_then as_note found ≡ Some note → found ≡ Some (rows.Note note)
row_of_note None note is = absurd (none-some note is)
row_of_note (Some (rows.Note n)) note is = ap (λ (m : Note). Some (rows.Note m)) (same_Some n note is)
row_of_note (Some (rows.Card x)) note is = absurd (none-some note is)
row_of_note (Some (rows.Review x)) note is = absurd (none-some note is)
row_of_note (Some (rows.NoteType x)) note is = absurd (none-some note is)
row_of_note (Some (rows.Deck x)) note is = absurd (none-some note is)
row_of_note (Some (rows.Options x)) note is = absurd (none-some note is)
row_of_note (Some (rows.Grave x)) note is = absurd (none-some note is)

-- the note of a guid that is found
pub note_with : (found : Option Note) (guid : List ℕ) → option_map (λ (note : Note). note.guid) found ≡ Some guid → (note : Note) × (found ≡ Some note) × (note.guid ≡ guid)
note_with None guid is = absurd (none-some guid is)
note_with (Some note) guid is = (note, refl, same_Some note.guid guid is)

-- a note with the guid meets the test
meets : (guid : List ℕ) (note : Note) → note.guid ≡ guid → has_guid guid (rows.Note note) ≡ true
meets guid note has = (bytes_eq-Decides guid note.guid).1 (sym has)

inside : (id : ℤ) → pos 0 <ℤ id → is_past tables.Note (pos 0) (name_in tables.Note id) ≡ true
inside id over = grind (arith, ints, over)

-- the first one under its own name
least_here : (held : Rows) (guid : List ℕ) (n : Note) → IsFirstIn (has_guid guid) tables.Note held (name_in tables.Note n.id) (rows.Note n) → IsLeastOf (guid_at held) guid n.id
least_here held guid n first = record {
  has = ap (λ (o : Option Row). option_map (λ (note : Note). note.guid) (option_and_then as_note o)) first.stands ∙ ap (λ (g : List ℕ). Some g) (sym ((bytes_eq-Decides guid n.guid).0 first.passes));
  least = λ other over is.
      let found = note_with (note_at held other) guid is in
      elim (int_lt other n.id) as (λ b. int_lt other n.id ≡ b → n.id ≤ℤ other) [
        | true ↦ λ less. absurd (not_both (meets guid found.0 found.2)
            (first.below (name_in tables.Note other) (rows.Note found.0) (compared_less other n.id less) (row_of_note (get held (name_in tables.Note other)) found.0 found.1) (inside other over)))
        | false ↦ λ reaches. grind (arith, ints, reaches)
      ] refl;
}

least_found : (held : Rows) (guid : List ℕ) (name : Name) (row : Row) → AreNamed (get held) → IsFirstIn (has_guid guid) tables.Note held name row → IsLeastOf (guid_at held) guid name.id
least_found held guid name (rows.Note n) named first =
    let same : name_in tables.Note n.id ≡ name = named name (rows.Note n) first.stands in
    subst (λ (id : ℤ). IsLeastOf (guid_at held) guid id) (ap (λ (q : Name). q.id) same)
    (least_here held guid n (subst (λ (q : Name). IsFirstIn (has_guid guid) tables.Note held q (rows.Note n)) (sym same) first))
least_found held guid name (rows.Card x) named first = false_true first.passes
least_found held guid name (rows.Review x) named first = false_true first.passes
least_found held guid name (rows.NoteType x) named first = false_true first.passes
least_found held guid name (rows.Deck x) named first = false_true first.passes
least_found held guid name (rows.Options x) named first = false_true first.passes
least_found held guid name (rows.Grave x) named first = false_true first.passes

first_least : (held : Rows) (guid : List ℕ) → AreNamed (get held) → IsLeastId held guid (first_id guid (rows_past tables.Note (pos 0) held))
first_least held guid named =
    elim (find (has_guid guid) (rows_past tables.Note (pos 0) held)) as (λ o. find (has_guid guid) (rows_past tables.Note (pos 0) held) ≡ o → IsLeastId held guid (option_map id_of o)) [
      | None ↦ λ none. λ id over is.
          let found = note_with (note_at held id) guid is in
          not_both (meets guid found.0 found.2)
          (none_in_table (has_guid guid) tables.Note held none (name_in tables.Note id) (rows.Note found.0) (row_of_note (get held (name_in tables.Note id)) found.0 found.1) (inside id over))
      | Some row ↦ λ is.
          let first = first_in_table (has_guid guid) tables.Note held (name_of row) named (ap (option_map name_of) is) in
          least_found held guid (name_of row) first.0 named first.1
    ] refl

-- the ids that were found are those of the least notes
pub least_told : (told : Option (WithMark Holding)) (found : List ℕ → Option ℤ) → IfSome told (λ w. StandsUnderNames w.current.rows)
    → IfSome told (λ w. (guid : List ℕ) → found guid ≡ first_id guid (rows_past tables.Note (pos 0) w.current.rows)) → IfSome told (λ w. (guid : List ℕ) → IsLeastId w.current.rows guid (found guid))
least_told None found named are = tt
least_told (Some w) found named are = λ guid.
    subst (IsLeastId w.current.rows guid) (sym (are guid)) (first_least w.current.rows guid (λ name row is. named-get w.current.rows name row named is))
