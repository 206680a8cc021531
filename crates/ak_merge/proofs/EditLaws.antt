-- An edit keeps a device's collection linked.
use Rattle.ak_keep.specs.Graves.{RowsByName, grave_under, is_dead}
use Rattle.ak_merge.specs.Holdings.{name_in, AreNamed, row_under, IsSingle, tag_usn}
use Rattle.ak_keep.specs.Collections.{Collection}
use Rattle.ak_base.specs.Tables.{has_stamps}
use Rattle.std.specs.Prelude.{◌≡◌, ℕ, ℤ, ◌<ℤ◌, Bool, true, false, IsTrue, List, Option, Some, None, IfSome, is_some}
use Rattle.std.proofs.lemmas.Option.{same_Some}
use Rattle.std.proofs.Common.{cond, inl, inr, refl, sym, ap, subst, ◌∙◌}
use Rattle.std.proofs.Math.Path.{fun_ext}
use Rattle.ak_base.specs.Rows.{name_of, usn_of}
use Rattle.ak_base.specs.declared.names.Name.{Name}
use Rattle.ak_base.specs.declared.names.Table.{Table}
use Rattle.ak_base.specs.declared.names.Table.TheVariants as tables
use Rattle.ak_base.specs.declared.rows.Row.{Row}
use Rattle.ak_merge.proofs.EditFacts.{false_true, true_false, advanced_over, LinkedParts, LinkedHeads, parts_of, heads_of, heads_changed, linked_of}
use Rattle.ak_merge.specs.Tags.{has_name}
use Rattle.ak_base.specs.declared.heads.Tag.{Tag}
use Rattle.ak_merge.specs.Links.{IsOwn, IsShared, AreLinked}
use Rattle.ak_merge.specs.Edits.{Edit, advanced, second_of, edited_row, goes, grave_left, edited_under, Admits, IsEdited, GivesFreshSchema}
use Rattle.ak_merge.proofs.EditCells.{edited_tag, tag_edited, row_named, grave_named, LinkedAt, IsLeft, edited_grave, HasStamp, edited_at, row_numbered, grave_numbered, edited_apart, review_shared, grave_shared, tag_shared, tag_numbered}

-- ---- every name
has_if : (name : Name) (m : Option Row) → IsTrue (has_stamps name.table) → ((row : Row) → m ≡ Some row → name_of row ≡ name) → IfSome m HasStamp
has_if name None has named = tt
has_if name (Some row) has named = ap (λ (n : Name). has_stamps n.table) (named row refl) ∙ has

pub free_if : (x m : Option Row) (dead : Bool) → ((row : Row) → x ≡ None → m ≡ Some row → dead ≡ false) → x ≡ None → is_some m ≡ true → dead ≡ false
free_if x None dead free none held = false_true held
free_if x (Some row) dead free none held = free row none refl

stays_if : {X : Type 0} (x m : Option Row) → (m ≡ None → x ≡ None) → is_some x ≡ true → m ≡ None → X
stays_if x m stays held none = false_true (sym (ap is_some (stays none)) ∙ held)

without_grave : (x m : Option Row) → edited_grave None x m None ≡ None
without_grave None m = refl
without_grave (Some b) None = refl
without_grave (Some b) (Some row) = refl

linked_at : (u : ℤ) (at : RowsByName) (number_of : List ℕ → Option ℤ) (s : Collection) (name : Name) → IsTrue (has_stamps name.table) → LinkedParts u at number_of s
    → LinkedAt u (at name) (grave_under at name) (row_under s name) (grave_under (row_under s) name)
linked_at u at number_of s name has l = record { taken = l.taken name has; known = l.known name has }

module _ (second : ℤ) (c : Collection) (edit : Edit) (admits : Admits c edit) where
  -- what stands under a name after the edit
  abbrev pub edited_rows : RowsByName
  edited_rows = edited_under second (row_under c) edit.rows

  -- ---- numbers, and rows beside their graves
  row_number : (u : ℤ) (name : Name) → IfSome (row_under c name) (λ row. IsOwn u (usn_of row)) → IfSome (edited_row second (row_under c name) (edit.rows name)) (λ row. IsOwn u (usn_of row))
  row_number u name own = row_numbered u second (row_under c name) (edit.rows name) own

  grave_number : (u : ℤ) (name row : Name) → IfSome (grave_left row) (λ grave. IsOwn u (usn_of grave)) → IfSome (row_under c name) (λ grave. IsOwn u (usn_of grave))
      → IfSome (edited_grave (grave_left row) (row_under c row) (edit.rows row) (row_under c name)) (λ grave. IsOwn u (usn_of grave))
  grave_number u name row left own = grave_numbered u (grave_left row) (row_under c name) (goes (row_under c row) (edit.rows row)) left own

  edited_numbers : (u : ℤ) → ((name : Name) → IfSome (row_under c name) (λ row. IsOwn u (usn_of row))) → (table : Table) (id : ℤ)
      → IfSome (edited_rows (name_in table id)) (λ row. IsOwn u (usn_of row))
  edited_numbers u own tables.Note id = row_number u (name_in tables.Note id) (own (name_in tables.Note id))
  edited_numbers u own tables.Card id = row_number u (name_in tables.Card id) (own (name_in tables.Card id))
  edited_numbers u own tables.Review id = row_number u (name_in tables.Review id) (own (name_in tables.Review id))
  edited_numbers u own tables.NoteType id = row_number u (name_in tables.NoteType id) (own (name_in tables.NoteType id))
  edited_numbers u own tables.Deck id = row_number u (name_in tables.Deck id) (own (name_in tables.Deck id))
  edited_numbers u own tables.Options id = row_number u (name_in tables.Options id) (own (name_in tables.Options id))
  edited_numbers u own tables.NoteGrave id = grave_number u (name_in tables.NoteGrave id) (name_in tables.Note id) (inl refl) (own (name_in tables.NoteGrave id))
  edited_numbers u own tables.CardGrave id = grave_number u (name_in tables.CardGrave id) (name_in tables.Card id) (inl refl) (own (name_in tables.CardGrave id))
  edited_numbers u own tables.DeckGrave id = grave_number u (name_in tables.DeckGrave id) (name_in tables.Deck id) (inl refl) (own (name_in tables.DeckGrave id))

  row_apart : (name : Name) → IsSingle (row_under c) → is_some (edited_grave (grave_left name) (row_under c name) (edit.rows name) (grave_under (row_under c) name)) ≡ true
      → edited_row second (row_under c name) (edit.rows name) ≡ None
  row_apart name single held =
      edited_apart second (row_under c name) (edit.rows name) (grave_left name) (grave_under (row_under c) name)
      (free_if (row_under c name) (edit.rows name) (is_dead (row_under c) name) (admits.free name)) (single name) held

  single_in : IsSingle (row_under c) → (table : Table) (id : ℤ) → is_dead edited_rows (name_in table id) ≡ true → edited_rows (name_in table id) ≡ None
  single_in single tables.Note id dead = row_apart (name_in tables.Note id) single dead
  single_in single tables.Card id dead = row_apart (name_in tables.Card id) single dead
  single_in single tables.Deck id dead = row_apart (name_in tables.Deck id) single dead
  single_in single tables.Review id dead = false_true dead
  single_in single tables.NoteType id dead = false_true dead
  single_in single tables.Options id dead = false_true dead
  single_in single tables.NoteGrave id dead = false_true dead
  single_in single tables.CardGrave id dead = false_true dead
  single_in single tables.DeckGrave id dead = false_true dead

  pub edited_single : IsSingle (row_under c) → IsSingle edited_rows
  edited_single single name = single_in single name.table name.id

  -- ---- names
  row_in : AreNamed (row_under c) → (name : Name) (row : Row) → edited_row second (row_under c name) (edit.rows name) ≡ Some row → name_of row ≡ name
  row_in named name = row_named second name (row_under c name) (edit.rows name) (named name) (admits.named name)

  grave_in : AreNamed (row_under c) → (name buried : Name) → ((grave : Row) → grave_left buried ≡ Some grave → name_of grave ≡ name) → (row : Row)
      → edited_grave (grave_left buried) (row_under c buried) (edit.rows buried) (row_under c name) ≡ Some row → name_of row ≡ name
  grave_in named name buried left = grave_named name (goes (row_under c buried) (edit.rows buried)) (grave_left buried) (row_under c name) left (named name)

  named_in : AreNamed (row_under c) → (table : Table) (id : ℤ) (row : Row) → edited_rows (name_in table id) ≡ Some row → name_of row ≡ name_in table id
  named_in named tables.Note id = row_in named (name_in tables.Note id)
  named_in named tables.Card id = row_in named (name_in tables.Card id)
  named_in named tables.Review id = row_in named (name_in tables.Review id)
  named_in named tables.NoteType id = row_in named (name_in tables.NoteType id)
  named_in named tables.Deck id = row_in named (name_in tables.Deck id)
  named_in named tables.Options id = row_in named (name_in tables.Options id)
  named_in named tables.NoteGrave id = grave_in named (name_in tables.NoteGrave id) (name_in tables.Note id) (λ grave is. ap name_of (same_Some _ _ (sym is)))
  named_in named tables.CardGrave id = grave_in named (name_in tables.CardGrave id) (name_in tables.Card id) (λ grave is. ap name_of (same_Some _ _ (sym is)))
  named_in named tables.DeckGrave id = grave_in named (name_in tables.DeckGrave id) (name_in tables.Deck id) (λ grave is. ap name_of (same_Some _ _ (sym is)))

  -- ---- linked with a collection of a server
  module _ (same : edit.schema ≡ false) (s : Collection) (l : LinkedParts c.head.usn (row_under c) (tag_usn c.head.tags) s) where
    -- what linked says of a name with what the edit leaves there
    abbrev Cell : Name → Option Row → Option Row → Type 0
    Cell name x g = LinkedAt c.head.usn x g (row_under s name) (grave_under (row_under s) name)

    edited_cell : (name : Name) (new : Option Row) → IsTrue (has_stamps name.table) → (is_some (row_under c name) ≡ true → edit.rows name ≡ None → IsLeft new)
        → Cell name (edited_row second (row_under c name) (edit.rows name)) (edited_grave new (row_under c name) (edit.rows name) (grave_under (row_under c) name))
    edited_cell name new has leaves =
        edited_at c.head.usn second (row_under c name) (edit.rows name) new (grave_under (row_under c) name) (row_under s name) (grave_under (row_under s) name)
        (has_if name (edit.rows name) has (admits.named name))
        (free_if (row_under c name) (edit.rows name) (is_dead (row_under c) name) (admits.free name)) leaves
        (linked_at c.head.usn (row_under c) (tag_usn c.head.tags) s name has l)

    -- of a table whose rows leave no graves
    graveless_cell : (name : Name) → IsTrue (has_stamps name.table) → (edit.rows name ≡ None → row_under c name ≡ None) → grave_under (row_under c) name ≡ None
        → Cell name (edited_row second (row_under c name) (edit.rows name)) None
    graveless_cell name has stays no_graves =
        subst (Cell name (edited_row second (row_under c name) (edit.rows name))) (without_grave (row_under c name) (edit.rows name))
        (subst (λ (g : Option Row). Cell name (edited_row second (row_under c name) (edit.rows name)) (edited_grave None (row_under c name) (edit.rows name) g)) no_graves
        (edited_cell name None has (stays_if (row_under c name) (edit.rows name) stays)))

    stamped_cell : (table : Table) (id : ℤ) → IsTrue (has_stamps table)
        → Cell (name_in table id) (edited_rows (name_in table id)) (grave_under edited_rows (name_in table id))
    stamped_cell tables.Note id has = edited_cell (name_in tables.Note id) (grave_left (name_in tables.Note id)) refl (λ _ _. refl)
    stamped_cell tables.Card id has = edited_cell (name_in tables.Card id) (grave_left (name_in tables.Card id)) refl (λ _ _. refl)
    stamped_cell tables.Deck id has = edited_cell (name_in tables.Deck id) (grave_left (name_in tables.Deck id)) refl (λ _ _. refl)
    stamped_cell tables.NoteType id has = graveless_cell (name_in tables.NoteType id) refl (admits.types id same) refl
    stamped_cell tables.Options id has = graveless_cell (name_in tables.Options id) refl (admits.options id same) refl
    stamped_cell tables.Review id has = false_true has
    stamped_cell tables.NoteGrave id has = false_true has
    stamped_cell tables.CardGrave id has = false_true has
    stamped_cell tables.DeckGrave id has = false_true has

    grave_cell : (name row : Name) → IsLeft (grave_left row) → (is_some (row_under c name) ≡ true → row_under c row ≡ None) → IsShared c.head.usn (row_under c name) (row_under s name)
        → IsShared c.head.usn (edited_grave (grave_left row) (row_under c row) (edit.rows row) (row_under c name)) (row_under s name)
    grave_cell name row left single shared = grave_shared c.head.usn (row_under c row) (edit.rows row) (grave_left row) (row_under c name) (row_under s name) left single shared

    shared_cell : (table : Table) (id : ℤ) → has_stamps table ≡ false → IsShared c.head.usn (edited_rows (name_in table id)) (row_under s (name_in table id))
    shared_cell tables.Review id none =
        review_shared c.head.usn second (row_under c (name_in tables.Review id)) (edit.rows (name_in tables.Review id)) (row_under s (name_in tables.Review id))
        (admits.reviews id) (l.shared (name_in tables.Review id) refl)
    shared_cell tables.NoteGrave id none = grave_cell (name_in tables.NoteGrave id) (name_in tables.Note id) refl (l.own_single (name_in tables.Note id)) (l.shared (name_in tables.NoteGrave id) refl)
    shared_cell tables.CardGrave id none = grave_cell (name_in tables.CardGrave id) (name_in tables.Card id) refl (l.own_single (name_in tables.Card id)) (l.shared (name_in tables.CardGrave id) refl)
    shared_cell tables.DeckGrave id none = grave_cell (name_in tables.DeckGrave id) (name_in tables.Deck id) refl (l.own_single (name_in tables.Deck id)) (l.shared (name_in tables.DeckGrave id) refl)
    shared_cell tables.Note id none = true_false none
    shared_cell tables.Card id none = true_false none
    shared_cell tables.NoteType id none = true_false none
    shared_cell tables.Deck id none = true_false none
    shared_cell tables.Options id none = true_false none

    edited_parts : LinkedParts c.head.usn edited_rows (λ tag. edited_tag (tag_usn c.head.tags tag) (has_name edit.tags tag)) s
    edited_parts = record {
      usn = l.usn;
      given = l.given;
      numbers = λ name. edited_numbers c.head.usn l.numbers name.table name.id;
      tag_numbers = λ tag. tag_numbered c.head.usn (tag_usn c.head.tags tag) (has_name edit.tags tag) (l.tag_numbers tag);
      taken = λ name has. (stamped_cell name.table name.id has).taken;
      known = λ name has. (stamped_cell name.table name.id has).known;
      shared = λ name none. shared_cell name.table name.id none;
      tags = λ tag. tag_shared c.head.usn (tag_usn c.head.tags tag) (tag_usn s.head.tags tag) (has_name edit.tags tag) (l.tags tag);
      own_single = edited_single l.own_single;
      single = l.single;
    }

pub schema_kept : (at : ℤ) (c after : Collection) (edit : Edit) → edit.schema ≡ false → IsEdited at c edit after → after.head.schema ≡ c.head.schema
schema_kept at c after edit same is_edited = is_edited.schema ∙ ap (λ (t : Bool). cond t (advanced at c.head.schema) c.head.schema) same

-- an edit changes nothing, or the device is then changed later
edited_heads : (at : ℤ) (c after s : Collection) (edit : Edit) → IsEdited at c edit after → LinkedHeads c.head s.head → LinkedHeads after.head s.head
edited_heads at c after s edit is_edited heads =
    elim is_edited.moved [
      | inl same ↦ subst (λ (d : Collection). LinkedHeads d.head s.head) (sym same) heads
      | inr moved ↦ heads_changed c.head after.head s.head is_edited.usn (subst (λ (moment : ℤ). c.head.moment <ℤ moment) (sym moved.1) (advanced_over at c.head.moment)) heads
    ]

-- an edit that leaves the schema keeps linked with every collection of a server
pub edits_keep_links : (at : ℤ) (c after s : Collection) (edit : Edit) → Admits c edit → edit.schema ≡ false → IsEdited at c edit after → AreLinked c s → AreLinked after s
edits_keep_links at c after s edit admits same is_edited (inl differ) = inl (λ equal. differ (sym (schema_kept at c after edit same is_edited) ∙ equal))
edits_keep_links at c after s edit admits same is_edited (inr parts) =
    inr (linked_of c.head.usn (edited_under (second_of at) (row_under c) edit.rows) (λ tag. edited_tag (tag_usn c.head.tags tag) (has_name edit.tags tag)) after s
    is_edited.usn is_edited.rows (λ tag. ap (λ (tags : List Tag). tag_usn tags tag) is_edited.tags ∙ tag_edited edit.tags c.head.tags tag)
    (edited_heads at c after s edit is_edited (heads_of c s parts)) (edited_parts (second_of at) c edit admits same s (parts_of c s parts)))

-- after an edit that changes the schema the schema moments differ, where the one that it gives is not the server's
pub schema_edits_part : (at : ℤ) (c after s : Collection) (edit : Edit) → edit.schema ≡ true → IsEdited at c edit after → GivesFreshSchema at c s → AreLinked after s
schema_edits_part at c after s edit changes is_edited fresh =
    inl (λ equal. fresh (sym (is_edited.schema ∙ ap (λ (t : Bool). cond t (advanced at c.head.schema) c.head.schema) changes) ∙ equal))

-- after an edit each row stands under its name
pub edits_keep_names : (at : ℤ) (c after : Collection) (edit : Edit) → Admits c edit → IsEdited at c edit after → AreNamed (row_under c) → AreNamed (row_under after)
edits_keep_names at c after edit admits is_edited named =
    subst (λ (f : RowsByName). AreNamed f) (sym (fun_ext is_edited.rows)) (λ name row is. named_in (second_of at) c edit admits named name.table name.id row is)

-- and none beside its own grave, if none stood so
pub edits_keep_single : (at : ℤ) (c after : Collection) (edit : Edit) → Admits c edit → IsEdited at c edit after → IsSingle (row_under c) → IsSingle (row_under after)
edits_keep_single at c after edit admits is_edited single =
    subst (λ (f : RowsByName). IsSingle f) (sym (fun_ext is_edited.rows)) (edited_single (second_of at) c edit admits single)
