-- What depends on content alone: soundness, and how many rows each table has.
use Rattle.ak_keep.specs.Graves.{RowsByName}
use Rattle.ak_merge.specs.Holdings.{name_in, Content, same_held, SameContent}
use Rattle.std.specs.Prelude.{◌≡◌, ℕ, ℤ, pos, true, false, cond, ◌&&◌, ◌==◌, ◌<ℤ◌, T, IsTrue, List, [], ◌∷◌, map, filter, length, Option, Some, None, is_some}
use Rattle.std.proofs.Common.{refl, sym, ap, subst, ◌∙◌}
use Rattle.std.proofs.lemmas.Option.{none-some, same_Some}
use Rattle.std.specs.FinMap as finite
use Rattle.std.specs.FinMap.{FinMap, get, get-entries, entries, entries_sorted, entries-from_sorted, get-from_sorted, from_sorted, is_sorted, keys, same_map}
use Rattle.std.specs.FinMap.Entries.{below_all}
use Rattle.std.specs.Option.{option_map}
use Rattle.std.specs.Ordering.{eq_by_cmp, is_lt}
use Rattle.ak_base.proofs.NameOrder.{names_exact}
use Rattle.ak_base.proofs.SameRows.{same_is_one}
use Rattle.ak_base.specs.Contents.{same_content}
use Rattle.ak_base.specs.Names.{name_cmp, names_total, table_place}
use Rattle.ak_base.specs.declared.cards.Card.{Card}
use Rattle.ak_base.specs.declared.names.Name.{Name}
use Rattle.ak_base.specs.declared.names.Table.{Table}
use Rattle.ak_base.specs.declared.names.Table.TheVariants as tables
use Rattle.ak_base.specs.declared.note_types.NoteType.{NoteType}
use Rattle.ak_base.specs.declared.notes.Note.{Note}
use Rattle.ak_base.specs.declared.rows.Row.{Row}
use Rattle.ak_base.specs.declared.rows.Row.TheVariants as rows
use Rattle.ak_keep.specs.Collections.{Rows, row_count}
use Rattle.ak_keep.specs.Lookups.{as_note, as_card, as_note_type}
use Rattle.ak_merge.proofs.HeldFacts.{held-alike, held-itself, held-turned, held-through}
use Rattle.ak_merge.specs.Soundness.{IsSound}

-- ---- an equivalence
pub content-itself : (c : Content) → SameContent c c
content-itself c = record { rows = λ name. held-itself (c.rows name); tags = λ name. refl; conf = refl; crt = refl }

pub content-turned : (a b : Content) → SameContent a b → SameContent b a
content-turned a b same = record { rows = λ name. held-turned (a.rows name) (b.rows name) (same.rows name); tags = λ name. sym (same.tags name); conf = sym same.conf; crt = sym same.crt }

pub content-through : (a b c : Content) → SameContent a b → SameContent b c → SameContent a c
content-through a b c one other = record {
  rows = λ name. held-through (a.rows name) (b.rows name) (c.rows name) (one.rows name) (other.rows name);
  tags = λ name. one.tags name ∙ other.tags name;
  conf = one.conf ∙ other.conf;
  crt = one.crt ∙ other.crt;
}

-- the same of the rows alone
pub rows-itself : (a : RowsByName) → (name : Name) → IsTrue (same_held (a name) (a name))
rows-itself a name = held-itself (a name)

pub rows-turned : (a b : RowsByName) → ((name : Name) → IsTrue (same_held (a name) (b name))) → (name : Name) → IsTrue (same_held (b name) (a name))
rows-turned a b same name = held-turned (a name) (b name) (same name)

pub rows-through : (a b c : RowsByName) → ((name : Name) → IsTrue (same_held (a name) (b name))) → ((name : Name) → IsTrue (same_held (b name) (c name))) → (name : Name) → IsTrue (same_held (a name) (c name))
rows-through a b c one other name = held-through (a name) (b name) (c name) (one name) (other name)

-- ---- rows of one kind
-- of what stands on one side, what stands on the other
of_held : (x : Option Row) (y : Row) → IsTrue (same_held x (Some y)) → (row : Row) × (x ≡ Some row) × IsTrue (same_content row y)
of_held None y same = absurd (subst T (sym same) tt)
of_held (Some row) y same = (row, refl, same)

wrong_kind : {A X : Type 0} (x : A) → None ≡ Some x → X
wrong_kind x is = absurd (none-some x is)

like_card : (x : Row) (card : Card) → IsTrue (same_content x (rows.Card card)) → (own : Card) × (x ≡ rows.Card own) × (record own { usn = pos 0 } ≡ record card { usn = pos 0 })
like_card (rows.Card c) card same = (c, refl, same_Some _ _ (ap as_card (same_is_one (rows.Card c) (rows.Card card) (pos 0) same)))
like_card (rows.Note n) card same = wrong_kind _ (ap as_card (same_is_one (rows.Note n) (rows.Card card) (pos 0) same))
like_card (rows.Review r) card same = wrong_kind _ (ap as_card (same_is_one (rows.Review r) (rows.Card card) (pos 0) same))
like_card (rows.NoteType t) card same = wrong_kind _ (ap as_card (same_is_one (rows.NoteType t) (rows.Card card) (pos 0) same))
like_card (rows.Deck d) card same = wrong_kind _ (ap as_card (same_is_one (rows.Deck d) (rows.Card card) (pos 0) same))
like_card (rows.Options o) card same = wrong_kind _ (ap as_card (same_is_one (rows.Options o) (rows.Card card) (pos 0) same))
like_card (rows.Grave g) card same = wrong_kind _ (ap as_card (same_is_one (rows.Grave g) (rows.Card card) (pos 0) same))

like_note : (x : Row) (note : Note) → IsTrue (same_content x (rows.Note note)) → (own : Note) × (x ≡ rows.Note own) × (record own { usn = pos 0 } ≡ record note { usn = pos 0 })
like_note (rows.Note n) note same = (n, refl, same_Some _ _ (ap as_note (same_is_one (rows.Note n) (rows.Note note) (pos 0) same)))
like_note (rows.Card c) note same = wrong_kind _ (ap as_note (same_is_one (rows.Card c) (rows.Note note) (pos 0) same))
like_note (rows.Review r) note same = wrong_kind _ (ap as_note (same_is_one (rows.Review r) (rows.Note note) (pos 0) same))
like_note (rows.NoteType t) note same = wrong_kind _ (ap as_note (same_is_one (rows.NoteType t) (rows.Note note) (pos 0) same))
like_note (rows.Deck d) note same = wrong_kind _ (ap as_note (same_is_one (rows.Deck d) (rows.Note note) (pos 0) same))
like_note (rows.Options o) note same = wrong_kind _ (ap as_note (same_is_one (rows.Options o) (rows.Note note) (pos 0) same))
like_note (rows.Grave g) note same = wrong_kind _ (ap as_note (same_is_one (rows.Grave g) (rows.Note note) (pos 0) same))

like_type : (x : Row) (type : NoteType) → IsTrue (same_content x (rows.NoteType type)) → (own : NoteType) × (x ≡ rows.NoteType own) × (record own { usn = pos 0 } ≡ record type { usn = pos 0 })
like_type (rows.NoteType t) type same = (t, refl, same_Some _ _ (ap as_note_type (same_is_one (rows.NoteType t) (rows.NoteType type) (pos 0) same)))
like_type (rows.Note n) type same = wrong_kind _ (ap as_note_type (same_is_one (rows.Note n) (rows.NoteType type) (pos 0) same))
like_type (rows.Card c) type same = wrong_kind _ (ap as_note_type (same_is_one (rows.Card c) (rows.NoteType type) (pos 0) same))
like_type (rows.Review r) type same = wrong_kind _ (ap as_note_type (same_is_one (rows.Review r) (rows.NoteType type) (pos 0) same))
like_type (rows.Deck d) type same = wrong_kind _ (ap as_note_type (same_is_one (rows.Deck d) (rows.NoteType type) (pos 0) same))
like_type (rows.Options o) type same = wrong_kind _ (ap as_note_type (same_is_one (rows.Options o) (rows.NoteType type) (pos 0) same))
like_type (rows.Grave g) type same = wrong_kind _ (ap as_note_type (same_is_one (rows.Grave g) (rows.NoteType type) (pos 0) same))

-- ---- sound
abbrev AreSameRows : RowsByName → RowsByName → Type 0
AreSameRows a b = (name : Name) → IsTrue (same_held (a name) (b name))

-- what the other side has under the name of a row
other_row : (a b : RowsByName) (name : Name) (y : Row) → AreSameRows a b → b name ≡ Some y → (row : Row) × (a name ≡ Some row) × IsTrue (same_content row y)
other_row a b name y same is = of_held (a name) y (ap (same_held (a name)) (sym is) ∙ same name)

other_card : (a b : RowsByName) (name : Name) (card : Card) → AreSameRows a b → b name ≡ Some (rows.Card card) → (own : Card) × (a name ≡ Some (rows.Card own)) × (record own { usn = pos 0 } ≡ record card { usn = pos 0 })
other_card a b name card same is =
    let found = other_row a b name (rows.Card card) same is in
    let like = like_card found.0 card found.2 in
    (like.0, found.1 ∙ ap (λ (r : Row). Some r) like.1, like.2)

other_note : (a b : RowsByName) (name : Name) (note : Note) → AreSameRows a b → b name ≡ Some (rows.Note note) → (own : Note) × (a name ≡ Some (rows.Note own)) × (record own { usn = pos 0 } ≡ record note { usn = pos 0 })
other_note a b name note same is =
    let found = other_row a b name (rows.Note note) same is in
    let like = like_note found.0 note found.2 in
    (like.0, found.1 ∙ ap (λ (r : Row). Some r) like.1, like.2)

other_type : (a b : RowsByName) (name : Name) (type : NoteType) → AreSameRows a b → b name ≡ Some (rows.NoteType type)
    → (own : NoteType) × (a name ≡ Some (rows.NoteType own)) × (record own { usn = pos 0 } ≡ record type { usn = pos 0 })
other_type a b name type same is =
    let found = other_row a b name (rows.NoteType type) same is in
    let like = like_type found.0 type found.2 in
    (like.0, found.1 ∙ ap (λ (r : Row). Some r) like.1, like.2)

-- what is held on one side is held on the other
held_there : (a b : RowsByName) (one other : Name) → AreSameRows a b → one ≡ other → is_some (a one) ≡ true → is_some (b other) ≡ true
held_there a b one other same is held = sym (held-alike (a other) (b other) (same other)) ∙ ap (λ (n : Name). is_some (a n)) (sym is) ∙ held

-- what has the content of a sound collection is sound
pub sound_by_content : (a b : RowsByName) → ((name : Name) → IsTrue (same_held (a name) (b name))) → IsSound a → IsSound b
sound_by_content a b same sound = record {
  card_note = λ card is.
      let own = other_card a b (name_in tables.Card card.id) card same is in
      held_there a b (name_in tables.Note own.0.nid) (name_in tables.Note card.nid) same (ap (λ (c : Card). name_in tables.Note c.nid) own.2)
      (sound.card_note own.0 (ap a (ap (λ (c : Card). name_in tables.Card c.id) own.2) ∙ own.1));
  note_card = λ note is.
      let own = other_note a b (name_in tables.Note note.id) note same is in
      let found = sound.note_card own.0 (ap a (ap (λ (n : Note). name_in tables.Note n.id) own.2) ∙ own.1) in
      let back = other_card b a (name_in tables.Card found.0.id) found.0 (λ name. held-turned (a name) (b name) (same name)) found.1 in
      (back.0, ap b (ap (λ (c : Card). name_in tables.Card c.id) back.2) ∙ back.1, ap (λ (c : Card). c.nid) back.2 ∙ found.2 ∙ ap (λ (n : Note). n.id) own.2);
  note_type = λ note is.
      let own = other_note a b (name_in tables.Note note.id) note same is in
      held_there a b (name_in tables.NoteType own.0.mid) (name_in tables.NoteType note.mid) same (ap (λ (n : Note). name_in tables.NoteType n.mid) own.2)
      (sound.note_type own.0 (ap a (ap (λ (n : Note). name_in tables.Note n.id) own.2) ∙ own.1));
  template = λ card note type is_card is_note is_type standard.
      let own = other_card a b (name_in tables.Card card.id) card same is_card in
      let own_note = other_note a b (name_in tables.Note card.nid) note same is_note in
      let own_type = other_type a b (name_in tables.NoteType note.mid) type same is_type in
      let place : own.0.ord <ℤ pos (length own_type.0.templates) = sound.template own.0 own_note.0 own_type.0
      (ap a (ap (λ (c : Card). name_in tables.Card c.id) own.2) ∙ own.1) (ap a (ap (λ (c : Card). name_in tables.Note c.nid) own.2) ∙ own_note.1)
      (ap a (ap (λ (n : Note). name_in tables.NoteType n.mid) own_note.2) ∙ own_type.1) (ap (λ (t : NoteType). t.cloze) own_type.2 ∙ standard) in
      subst (λ (ord : ℤ). ord <ℤ pos (length type.templates)) (ap (λ (c : Card). c.ord) own.2)
      (subst (λ (count : ℕ). own.0.ord <ℤ pos count) (ap (λ (t : NoteType). length t.templates) own_type.2) place);
}

-- ---- counts
abbrev unit : Row → Unit {0}
unit row = tt

-- the names under which something is held, as a map
bare : List (Name × Row) → List (Name × Unit {0})
bare es = map (λ (entry : Name × Row). (entry.0, tt)) es

bare_below : (name : Name) (es : List (Name × Row)) → below_all name_cmp name (bare es) ≡ below_all name_cmp name es
unfolding bare
bare_below name [] = refl
bare_below name (e ∷ es) = ap (λ b. is_lt (name_cmp name e.0) && b) (bare_below name es)

bare_sorted : (es : List (Name × Row)) → is_sorted name_cmp (bare es) ≡ is_sorted name_cmp es
unfolding bare
bare_sorted [] = refl
bare_sorted (e ∷ es) = ap (λ b. b && is_sorted name_cmp (bare es)) (bare_below e.0 es) ∙ ap (λ b. below_all name_cmp e.0 es && b) (bare_sorted es)

bare_found : (name : Name) (es : List (Name × Row)) → finite.find name_cmp name (bare es) ≡ option_map unit (finite.find name_cmp name es)
unfolding bare
bare_found name [] = refl
bare_found name (e ∷ es) =
    elim (eq_by_cmp name_cmp name e.0) as (λ b. cond b (Some tt) (finite.find name_cmp name (bare es)) ≡ option_map unit (cond b (Some e.1) (finite.find name_cmp name es))) [
      | true ↦ refl
      | false ↦ bare_found name es
    ]

bare_keys : (es : List (Name × Row)) → map (λ (entry : Name × Unit {0}). entry.0) (bare es) ≡ map (λ (entry : Name × Row). entry.0) es
unfolding bare
bare_keys [] = refl
bare_keys (e ∷ es) = ap (λ (names : List Name). e.0 ∷ names) (bare_keys es)

bare_map : Rows → FinMap name_cmp (Unit {0})
bare_map held = from_sorted (bare (entries held))

sorted_bare : (held : Rows) → T (is_sorted name_cmp (bare (entries held)))
sorted_bare held = subst T (sym (bare_sorted (entries held))) (entries_sorted held)

bare_at : (held : Rows) (name : Name) → get (bare_map held) name ≡ option_map unit (get held name)
unfolding bare_map
bare_at held name = get-from_sorted name_cmp (bare (entries held)) name (sorted_bare held) ∙ bare_found name (entries held) ∙ ap (option_map unit) (sym (get-entries held name))

held_bare : (x y : Option Row) → is_some x ≡ is_some y → option_map unit x ≡ option_map unit y
held_bare None None same = refl
held_bare None (Some y) same = absurd (subst T (sym same) tt)
held_bare (Some x) None same = absurd (subst T same tt)
held_bare (Some x) (Some y) same = refl

same_keys : (a b : Rows) → ((name : Name) → IsTrue (same_held (get a name) (get b name))) → keys a ≡ keys b
unfolding bare_map
same_keys a b same =
    let one : bare_map a ≡ bare_map b = same_map names_total names_exact (bare_map a) (bare_map b)
    (λ name. bare_at a name ∙ held_bare (get a name) (get b name) (held-alike (get a name) (get b name) (same name)) ∙ sym (bare_at b name)) in
    let es : bare (entries a) ≡ bare (entries b) = sym (entries-from_sorted name_cmp (bare (entries a)) (sorted_bare a)) ∙ ap entries one ∙ entries-from_sorted name_cmp (bare (entries b)) (sorted_bare b) in
    sym (bare_keys (entries a)) ∙ ap (map (λ (entry : Name × Unit {0}). entry.0)) es ∙ bare_keys (entries b)

-- each table has as many rows on both sides
pub counts_by_content : (a b : Rows) → ((name : Name) → IsTrue (same_held (get a name) (get b name))) → (table : Table) → row_count table a ≡ row_count table b
counts_by_content a b same table = ap (λ (names : List Name). length (filter (λ name. table_place name.table == table_place table) names)) (same_keys a b same)
