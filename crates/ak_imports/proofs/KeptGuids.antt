-- The guids of notes, after what was made of a record.
use Rattle.std.specs.Prelude.{◌≡◌, ℕ, ℤ, ◌≤ℤ◌, Bool, true, false, cond, if◌then◌else◌, List, [], ◌∷◌, map, Option, Some, None, option_and_then}
use Rattle.std.proofs.Common.{refl, sym, ap, subst, ◌∙◌}
use Rattle.std.proofs.Math.Path.{fun_ext}
use Rattle.std.proofs.lemmas.Option.{none-some, same_Some}
use Rattle.std.proofs.lemmas.Slice.Eq.{bytes_eq-Decides}
use Rattle.std.specs.Cmp.{tied_itself}
use Rattle.std.specs.FinMap.{get, get-insert, insert}
use Rattle.std.specs.Option.{option_map}
use Rattle.std.specs.Ordering.{eq_by_cmp, is_eq}
use Rattle.std.specs.Str.{bytes_eq}
use Rattle.ak_base.specs.Names.{name_cmp, names_total}
use Rattle.ak_base.specs.Rows.{name_of}
use Rattle.ak_base.specs.declared.cards.Card.{Card}
use Rattle.ak_base.specs.declared.names.Name.{Name}
use Rattle.ak_base.specs.declared.names.Table.TheVariants as tables
use Rattle.ak_base.specs.declared.notes.Note.{Note}
use Rattle.ak_base.specs.declared.rows.Row.TheVariants as rows
use Rattle.ak_imports.specs.Guids.{IsLeast, guid_at}
use Rattle.ak_imports.specs.KeptRows.{rows_with}
use Rattle.ak_imports.specs.OwnTests.{rows_made}
use Rattle.ak_keep.proofs.RowsByName.{same_of_tied}
use Rattle.ak_keep.specs.Collections.{Rows}
use Rattle.ak_keep.specs.Lookups.{as_note, note_at}
use Rattle.ak_merge.proofs.EditFacts.{same_least}
use Rattle.ak_merge.proofs.Finding.{not_both}
use Rattle.ak_merge.specs.Holdings.{name_in}
use Rattle.ak_notes.specs.declared.made_notes.MadeNote.{MadeNote}

-- ---- rows
-- whether two ids are those of one note
abbrev pub same_note : ℤ → ℤ → Bool
same_note other id = eq_by_cmp name_cmp (name_in tables.Note id) (name_in tables.Note other)

pub same_is : (other id : ℤ) → same_note other id ≡ true → id ≡ other
same_is other id tied = ap (λ (n : Name). n.id) (same_of_tied (name_in tables.Note id) (name_in tables.Note other) tied)

pub same_itself : (id : ℤ) → same_note id id ≡ true
same_itself id = ap is_eq (tied_itself names_total (name_in tables.Note id))

cards_keep : (cards : List Card) (held : Rows) (id : ℤ) → note_at (rows_with (map (λ (card : Card). rows.Card card) cards) held) id ≡ note_at held id
cards_keep [] held id = refl
cards_keep (card ∷ cards) held id =
    cards_keep cards (insert held (name_of (rows.Card card)) (rows.Card card)) id
    ∙ ap (option_and_then as_note) (get-insert names_total held (name_of (rows.Card card)) (rows.Card card) (name_in tables.Note id))

note_put : (held : Rows) (note : Note) (id : ℤ) → note_at (insert held (name_of (rows.Note note)) (rows.Note note)) id ≡ cond (same_note note.id id) (Some note) (note_at held id)
note_put held note id =
    ap (option_and_then as_note) (get-insert names_total held (name_of (rows.Note note)) (rows.Note note) (name_in tables.Note id))
    ∙ elim (same_note note.id id) as (λ b. option_and_then as_note (cond b (Some (rows.Note note)) (get held (name_in tables.Note id))) ≡ cond b (Some note) (note_at held id)) [
      | true ↦ refl
      | false ↦ refl
    ]

-- the notes are as they were, but for the one that was made
pub note_after : (made : MadeNote) (held : Rows) (id : ℤ) → note_at (rows_with (rows_made made) held) id ≡ cond (same_note made.note.id id) (Some made.note) (note_at held id)
note_after made held id =
    cards_keep made.cards (insert held (name_of (rows.Note made.note)) (rows.Note made.note)) id ∙ note_put held made.note id

-- and so are the guids
pub guid_after : (made : MadeNote) (held : Rows) (id : ℤ) → guid_at (rows_with (rows_made made) held) id ≡ cond (same_note made.note.id id) (Some made.note.guid) (guid_at held id)
guid_after made held id =
    ap (option_map (λ (n : Note). n.guid)) (note_after made held id)
    ∙ elim (same_note made.note.id id) as (λ b. option_map (λ (n : Note). n.guid) (cond b (Some made.note) (note_at held id)) ≡ cond b (Some made.note.guid) (guid_at held id)) [
      | true ↦ refl
      | false ↦ refl
    ]

-- ---- a note that is updated
-- a note that had its guid before
pub guids_stay : (made : MadeNote) (held : Rows) → guid_at held made.note.id ≡ Some made.note.guid → guid_at (rows_with (rows_made made) held) ≡ guid_at held
guids_stay made held had = fun_ext (λ (id : ℤ). guid_after made held id
    ∙ elim (same_note made.note.id id) as (λ b. same_note made.note.id id ≡ b → cond b (Some made.note.guid) (guid_at held id) ≡ guid_at held id) [
      | true ↦ λ tied. sym (ap (guid_at held) (same_is made.note.id id tied) ∙ had)
      | false ↦ λ _. refl
    ] refl)

-- ---- a note that is added
was_so : (f : ℤ → Option (List ℕ)) (same : ℤ → Bool) (guid other : List ℕ) → bytes_eq other guid ≡ false → (x : ℤ) → cond (same x) (Some guid) (f x) ≡ Some other → f x ≡ Some other
was_so f same guid other apart x =
    elim (same x) as (λ b. cond b (Some guid) (f x) ≡ Some other → f x ≡ Some other) [
      | true ↦ λ is. absurd (not_both ((bytes_eq-Decides other guid).1 (sym (same_Some guid other is))) apart)
      | false ↦ λ is. is
    ]

is_so : (f : ℤ → Option (List ℕ)) (same : ℤ → Bool) (id : ℤ) (guid other : List ℕ) → ((x : ℤ) → same x ≡ true → x ≡ id) → f id ≡ None → (x : ℤ) → f x ≡ Some other
    → cond (same x) (Some guid) (f x) ≡ Some other
is_so f same id guid other is_same free x is =
    elim (same x) as (λ b. same x ≡ b → cond b (Some guid) (f x) ≡ Some other) [
      | true ↦ λ tied. absurd (none-some other (sym free ∙ ap f (sym (is_same x tied)) ∙ is))
      | false ↦ λ _. is
    ] refl

-- the least notes of the other guids are as they were
others_stay : (f : ℤ → Option (List ℕ)) (same : ℤ → Bool) (id : ℤ) (guid other : List ℕ) → ((x : ℤ) → same x ≡ true → x ≡ id) → f id ≡ None → bytes_eq other guid ≡ false
    → (o : Option ℤ) → IsLeast f other o → IsLeast (λ x. cond (same x) (Some guid) (f x)) other o
others_stay f same id guid other is_same free apart None least = λ x over found. least x over (was_so f same guid other apart x found)
others_stay f same id guid other is_same free apart (Some y) least = record {
  has = is_so f same id guid other is_same free y least.has;
  least = λ x over found. least.least x over (was_so f same guid other apart x found);
}

-- the new note is the only one with its guid
comes_first : (f : ℤ → Option (List ℕ)) (same : ℤ → Bool) (id : ℤ) (guid : List ℕ) → ((x : ℤ) → same x ≡ true → x ≡ id) → same id ≡ true → IsLeast f guid None
    → IsLeast (λ x. cond (same x) (Some guid) (f x)) guid (Some id)
comes_first f same id guid is_same itself none = record {
  has = ap (λ b. cond b (Some guid) (f id)) itself;
  least = λ other over found.
      elim (same other) as (λ b. same other ≡ b → cond b (Some guid) (f other) ≡ Some guid → id ≤ℤ other) [
        | true ↦ λ tied _. same_least (sym (is_same other tied))
        | false ↦ λ _ found. absurd (none other over found)
      ] refl found;
}

-- a note came whose guid none had
pub guid_comes : (made : MadeNote) (held : Rows) (guid : List ℕ) (ids more : List ℕ → Option ℤ) → made.note.guid ≡ guid → guid_at held made.note.id ≡ None → ids guid ≡ None
    → ((g : List ℕ) → IsLeast (guid_at held) g (ids g)) → ((g : List ℕ) → more g ≡ (if bytes_eq g guid then Some made.note.id else ids g))
    → (g : List ℕ) → IsLeast (guid_at (rows_with (rows_made made) held)) g (more g)
guid_comes made held guid ids more is free none least step g =
    let id : ℤ = made.note.id in
    let f : ℤ → Option (List ℕ) = guid_at held in
    let now : ℤ → Option (List ℕ) = λ x. cond (same_note id x) (Some guid) (f x) in
    let all : guid_at (rows_with (rows_made made) held) ≡ now =
    fun_ext (λ (x : ℤ). guid_after made held x ∙ ap (λ (k : List ℕ). cond (same_note id x) (Some k) (f x)) is) in
    let here : IsLeast now g (if bytes_eq g guid then Some id else ids g) =
    elim (bytes_eq g guid) as (λ b. bytes_eq g guid ≡ b → IsLeast now g (if b then Some id else ids g)) [
      | true ↦ λ same. subst (λ (k : List ℕ). IsLeast now k (Some id)) (sym ((bytes_eq-Decides g guid).0 same))
          (comes_first f (same_note id) id guid (same_is id) (same_itself id) (subst (IsLeast f guid) none (least guid)))
      | false ↦ λ apart. others_stay f (same_note id) id guid g (same_is id) free apart (ids g) (least g)
    ] refl in
    subst (λ (h : ℤ → Option (List ℕ)). IsLeast h g (more g)) (sym all) (subst (IsLeast now g) (sym (step g)) here)
