-- An undo keeps a device's collection linked, and gives the collection before the edit.
use Rattle.ak_keep.specs.Graves.{RowsByName, grave_under}
use Rattle.ak_merge.specs.Holdings.{name_in, row_under, AreNamed, IsSingle, tag_usn}
use Rattle.ak_keep.specs.Collections.{Collection}
use Rattle.ak_base.specs.Tables.{has_stamps}
use Rattle.ak_base.specs.Contents.{same_but_stamp_and_usn}
use Rattle.std.specs.Prelude.{◌≡◌, ℤ, ◌≤ℤ◌, ◌<ℤ◌, Bool, true, false, not, IsTrue, List, ◌∷◌, Option, Some, None, IfSome, is_some}
use Rattle.std.proofs.lemmas.Option.{same_Some}
use Rattle.std.proofs.Common.{cond, inl, inr, refl, sym, ap, subst, ◌∙◌}
use Rattle.std.specs.Int.Signed.{clash_ℤ}
use Rattle.std.specs.Option.{option_map_or}
use Rattle.ak_base.specs.Rows.{name_of, stamp_of, usn_of}
use Rattle.ak_base.specs.declared.heads.Tag.{Tag}
use Rattle.ak_base.specs.declared.names.Name.{Name}
use Rattle.ak_base.specs.declared.names.Table.{Table}
use Rattle.ak_base.specs.declared.names.Table.TheVariants as tables
use Rattle.ak_base.specs.declared.rows.Row.{Row}
use Rattle.ak_merge.proofs.EditFacts.{edited_name, edited_fields, own_fields, true_false, none_held, held_none, edited_usn, edited_pending, edited_unsettled, edited_stamp, advanced_past, advanced_over, least_advanced, LinkedParts, parts_of, heads_of, heads_changed, linked_of}
use Rattle.ak_merge.specs.Links.{IsOwn, IsNewerUnsent, HasTaken, IsKnown, IsShared, IsTagShared, AreLinked}
use Rattle.ak_merge.specs.Edits.{Edit, changes_row, goes, grave_left, edited_row, edited, advanced, second_of, Reversal, IsEdited, reversal_of, edited_under}
use Rattle.ak_merge.specs.Undoing.{undone_row, undone_stamp, IsUndone, same_fields, IsBack, StepFitsParts, StepFits, adds_grave, IsTagKept, StepSuits, put_back, StepsSuit}
use Rattle.ak_merge.proofs.EditCells.{edited_grave}
use Rattle.ak_merge.proofs.ReversalLists.{single_same, suits_single, undone_held, lists_suit_after_undo}

-- ---- an undo, name by name
undone_number : (u now : ℤ) (e : Option (Option Row)) (x : Option Row) → IfSome x (λ row. IsOwn u (usn_of row)) → IfSome (undone_row now e x) (λ row. IsOwn u (usn_of row))
undone_number u now None x own = own
undone_number u now (Some None) x own = tt
undone_number u now (Some (Some before)) x own = inl (edited_usn (undone_stamp now before x) before)

-- a row that is put back is newer than before the step
undone_over : (now : ℤ) (before : Row) (x : Option Row) (least : ℤ) → least ≤ℤ stamp_of before → least <ℤ undone_stamp now before x
undone_over now before None least below = advanced_past least now (stamp_of before) below
undone_over now before (Some present) least below =
    least_advanced least (advanced now (stamp_of before)) (stamp_of present) (advanced_past least now (stamp_of before) below)

newer_undone : (now : ℤ) (before y : Row) (x : Option Row) → IsTrue (has_stamps (name_of before).table) → stamp_of y ≤ℤ stamp_of before
    → IsNewerUnsent y (edited (undone_stamp now before x) before)
newer_undone now before y x has older = record {
  unsent = edited_pending (undone_stamp now before x) before;
  newer = subst (λ (stamp : ℤ). stamp_of y <ℤ stamp) (sym (edited_stamp (undone_stamp now before x) before has)) (undone_over now before x (stamp_of y) older);
}

undone_taken : (u now : ℤ) (e : Option (Option Row)) (x g left y : Option Row) → (e ≡ None → left ≡ g) → ((before : Row) → e ≡ Some (Some before) → IsTrue (has_stamps (name_of before).table))
    → (e ≡ Some None → IfSome y (λ row. u ≤ℤ usn_of row)) → ((before : Row) → e ≡ Some (Some before) → IfSome y (λ row. usn_of row <ℤ u → stamp_of row ≤ℤ stamp_of before))
    → HasTaken u x g y → HasTaken u (undone_row now e x) left y
undone_taken u now e x g left None same has added older taken = tt
undone_taken u now None x g left (Some y) same has added older taken = subst (λ (grave : Option Row). HasTaken u x grave (Some y)) (sym (same refl)) taken
undone_taken u now (Some None) x g left (Some y) same has added older taken = λ below. clash_ℤ below (added refl)
undone_taken u now (Some (Some before)) x g left (Some y) same has added older taken = λ below.
    inr (inl (newer_undone now before y x (has before refl) (older before refl below)))

undone_known : (u now : ℤ) (e : Option (Option Row)) (x y h : Option Row) → IsKnown u x y h → IsKnown u (undone_row now e x) y h
undone_known u now None x y h known = known
undone_known u now (Some None) x y h known = tt
undone_known u now (Some (Some before)) x y h known = λ settled. edited_unsettled (undone_stamp now before x) before settled

undone_shared : (u now : ℤ) (e : Option (Option Row)) (x y : Option Row) → (e ≡ Some None → IfSome y (λ row. u ≤ℤ usn_of row)) → ((before : Row) → e ≡ Some (Some before) → ⊥)
    → IsShared u x y → IsShared u (undone_row now e x) y
undone_shared u now None x y added held l = l
undone_shared u now (Some None) x None added held l = record { sent = tt; came = tt }
undone_shared u now (Some None) x (Some y) added held l = record { sent = tt; came = λ below. clash_ℤ below (added refl) }
undone_shared u now (Some (Some before)) x y added held l = absurd (held before refl)

undone_tag : (u : ℤ) (before held other : Option ℤ) → IsTagKept before held → (is_some before ≡ false → IfSome other (λ number. u ≤ℤ number)) → IsTagShared u held other → IsTagShared u before other
undone_tag u before held other (inl same) lacks l = subst (λ (o : Option ℤ). IsTagShared u o other) (sym same) l
undone_tag u None held None (inr new) lacks l = record { sent = tt; came = tt }
undone_tag u None held (Some number) (inr new) lacks l = record { sent = tt; came = λ below. clash_ℤ below (lacks refl) }
undone_tag u (Some number) held other (inr new) lacks l = held_none new.0

undone_tag_number : (u : ℤ) (before held : Option ℤ) → IsTagKept before held → IfSome held (IsOwn u) → IfSome before (IsOwn u)
undone_tag_number u before held (inl same) own = subst (λ (o : Option ℤ). IfSome o (IsOwn u)) (sym same) own
undone_tag_number u None held (inr new) own = tt
undone_tag_number u (Some number) held (inr new) own = held_none new.0

kept_entry : (now : ℤ) (f : Option (Option Row)) (g : Option Row) → (f ≡ Some None → ⊥) → ((before : Row) → f ≡ Some (Some before) → ⊥) → undone_row now f g ≡ g
kept_entry now None g added held = refl
kept_entry now (Some None) g added held = absurd (added refl)
kept_entry now (Some (Some before)) g added held = absurd (held before refl)

-- ---- an undo
module _ (now : ℤ) (c : Collection) (step : Reversal) (suits : StepSuits step (row_under c) c.head.tags) where
  -- what stands under a name after the undo
  abbrev undone : RowsByName
  undone name = undone_row now (step.rows name) (row_under c name)

  -- where the step left a row alone, it left the row's grave alone
  grave_at : (name grave : Name) → has_stamps grave.table ≡ false → (step.rows grave ≡ Some None → IsTrue (adds_grave step name)) → step.rows name ≡ None → undone grave ≡ row_under c grave
  grave_at name grave none buried alone =
      kept_entry now (step.rows grave) (row_under c grave) (λ added. none_held (sym alone ∙ (suits.graves name (buried added)).1))
      (λ before is. true_false (sym (suits.kinds grave before is) ∙ none))

  -- an added grave
  abbrev is_added : Option (Option Row) → Bool
  is_added f = option_map_or (λ (before : Option Row). not (is_some before)) f false

  grave_alone : (table : Table) (id : ℤ) → step.rows (name_in table id) ≡ None → grave_under undone (name_in table id) ≡ grave_under (row_under c) (name_in table id)
  grave_alone tables.Note id alone = grave_at (name_in tables.Note id) (name_in tables.NoteGrave id) refl (ap is_added) alone
  grave_alone tables.Card id alone = grave_at (name_in tables.Card id) (name_in tables.CardGrave id) refl (ap is_added) alone
  grave_alone tables.Deck id alone = grave_at (name_in tables.Deck id) (name_in tables.DeckGrave id) refl (ap is_added) alone
  grave_alone tables.Review id alone = refl
  grave_alone tables.NoteType id alone = refl
  grave_alone tables.Options id alone = refl
  grave_alone tables.NoteGrave id alone = refl
  grave_alone tables.CardGrave id alone = refl
  grave_alone tables.DeckGrave id alone = refl

  -- the rows that the step holds have stamps
  stamped_before : (name : Name) (before : Row) → step.rows name ≡ Some (Some before) → IsTrue (has_stamps (name_of before).table)
  stamped_before name before is = ap (λ (n : Name). has_stamps n.table) (suits.named name before is) ∙ suits.kinds name before is

  undone_parts : (s : Collection) → IsSingle undone → StepFitsParts c.head.usn step s → LinkedParts c.head.usn (row_under c) (tag_usn c.head.tags) s
      → LinkedParts c.head.usn undone (tag_usn step.tags) s
  undone_parts s single fits l = record {
    usn = l.usn;
    given = l.given;
    numbers = λ name. undone_number c.head.usn now (step.rows name) (row_under c name) (l.numbers name);
    tag_numbers = λ tag. undone_tag_number c.head.usn (tag_usn step.tags tag) (tag_usn c.head.tags tag) (suits.tags_kept tag) (l.tag_numbers tag);
    taken = λ name has. undone_taken c.head.usn now (step.rows name) (row_under c name) (grave_under (row_under c) name) (grave_under undone name) (row_under s name)
        (grave_alone name.table name.id) (stamped_before name) (fits.added name) (fits.older name) (l.taken name has);
    known = λ name has. undone_known c.head.usn now (step.rows name) (row_under c name) (row_under s name) (grave_under (row_under s) name) (l.known name has);
    shared = λ name none. undone_shared c.head.usn now (step.rows name) (row_under c name) (row_under s name) (fits.added name)
        (λ before is. true_false (sym (suits.kinds name before is) ∙ none)) (l.shared name none);
    tags = λ tag. undone_tag c.head.usn (tag_usn step.tags tag) (tag_usn c.head.tags tag) (tag_usn s.head.tags tag) (suits.tags_kept tag) (fits.tags tag) (l.tags tag);
    own_single = single;
    single = l.single;
  }

-- an undo keeps linked with every collection of a server that its step fits
pub undos_keep_links : (at : ℤ) (c after s : Collection) (step : Reversal) (steps : List Reversal) → IsUndone at c step after → StepsSuit (step ∷ steps) (row_under c) c.head.tags → StepFits c step s
    → AreLinked c s → AreLinked after s
undos_keep_links at c after s step steps undone suits fits (inl differ) = inl (λ equal. differ (sym undone.schema ∙ equal))
undos_keep_links at c after s step steps undone suits (inl differ) (inr parts) = inl (λ equal. differ (sym undone.schema ∙ equal))
undos_keep_links at c after s step steps undone suits (inr fits) (inr parts) =
    let single : IsSingle (λ name. undone_row (second_of at) (step.rows name) (row_under c name)) =
    single_same (put_back step (row_under c)) (λ name. undone_row (second_of at) (step.rows name) (row_under c name))
    (λ name. undone_held (second_of at) (step.rows name) (row_under c name)) (suits_single steps (put_back step (row_under c)) step.tags suits.2) in
    inr (linked_of c.head.usn (λ name. undone_row (second_of at) (step.rows name) (row_under c name)) (tag_usn step.tags) after s undone.usn undone.rows
    (λ tag. ap (λ (tags : List Tag). tag_usn tags tag) undone.tags)
    (heads_changed c.head after.head s.head undone.usn (subst (λ (moment : ℤ). c.head.moment <ℤ moment) (sym undone.moment) (advanced_over at c.head.moment)) (heads_of c s parts))
    (undone_parts (second_of at) c step suits.1 s single fits (parts_of c s parts)))

-- a step that fits still does after further edits and undos
pub steps_still_fit : (c after s : Collection) (step : Reversal) → after.head.schema ≡ c.head.schema → after.head.usn ≡ c.head.usn → StepFits c step s → StepFits after step s
steps_still_fit c after s step schema usn (inl differ) = inl (λ equal. differ (sym schema ∙ equal))
steps_still_fit c after s step schema usn (inr parts) = inr (subst (λ (u : ℤ). StepFitsParts u step s) (sym usn) parts)

-- ---- names after an undo
undone_named : (now : ℤ) (name : Name) (e : Option (Option Row)) (x : Option Row) → ((row : Row) → x ≡ Some row → name_of row ≡ name) → ((before : Row) → e ≡ Some (Some before) → name_of before ≡ name)
    → (row : Row) → undone_row now e x ≡ Some row → name_of row ≡ name
undone_named now name None x stands held row is = stands row is
undone_named now name (Some None) x stands held row is = none_held is
undone_named now name (Some (Some before)) x stands held row is =
    sym (ap name_of (same_Some _ _ is)) ∙ edited_name (undone_stamp now before x) before ∙ held before refl

-- after an undo each row stands under its name, and none beside its own grave
pub undos_keep_names : (at : ℤ) (c after : Collection) (step : Reversal) (steps : List Reversal) → IsUndone at c step after → StepsSuit (step ∷ steps) (row_under c) c.head.tags → AreNamed (row_under c)
    → AreNamed (row_under after) × IsSingle (row_under after)
undos_keep_names at c after step steps undone suits named = (
  (λ name row is. undone_named (second_of at) name (step.rows name) (row_under c name) (named name) (suits.1.named name) row (sym (undone.rows name) ∙ is)),
  suits_single steps (row_under after) after.head.tags (lists_suit_after_undo at c after step steps undone suits),
)

-- ---- an edit and its undo
same_itself : (x : Option Row) → IsTrue (same_fields x x)
same_itself None = refl
same_itself (Some row) = own_fields row

row_back : (now later : ℤ) (x m : Option Row) → IsTrue (same_fields x (undone_row later (cond (changes_row x m) (Some x) None) (edited_row now x m)))
row_back now later None None = refl
row_back now later None (Some row) = refl
row_back now later (Some b) None = edited_fields (undone_stamp later b None) b
row_back now later (Some b) (Some row) =
    elim (same_but_stamp_and_usn row b) as (λ (t : Bool). IsTrue (same_fields (Some b) (undone_row later (cond (not t) (Some (Some b)) None) (cond t (Some b) (Some (edited (advanced now (stamp_of b)) row)))))) [
      | true ↦ own_fields b
      | false ↦ edited_fields (undone_stamp later b (Some (edited (advanced now (stamp_of b)) row))) b
    ]

grave_back : (later : ℤ) (left : Bool) (new g : Option Row) → IsTrue (same_fields g (undone_row later (cond left (Some g) None) (cond left new g)))
grave_back later true new None = refl
grave_back later true new (Some row) = edited_fields (undone_stamp later row new) row
grave_back later false new g = same_itself g

module _ (now later : ℤ) (c : Collection) (edit : Edit) where
  -- what stands under a name after the edit and its undo
  abbrev both : RowsByName
  both name = undone_row later ((reversal_of c edit).rows name) (edited_under now (row_under c) edit.rows name)

  row_both : (name : Name) → IsTrue (same_fields (row_under c name) (undone_row later (cond (changes_row (row_under c name) (edit.rows name)) (Some (row_under c name)) None) (edited_row now (row_under c name) (edit.rows name))))
  row_both name = row_back now later (row_under c name) (edit.rows name)

  grave_both : (name buried : Name) → IsTrue (same_fields (row_under c name) (undone_row later (cond (goes (row_under c buried) (edit.rows buried)) (Some (row_under c name)) None)
      (edited_grave (grave_left buried) (row_under c buried) (edit.rows buried) (row_under c name))))
  grave_both name buried = grave_back later (goes (row_under c buried) (edit.rows buried)) (grave_left buried) (row_under c name)

  both_at : (table : Table) (id : ℤ) → IsTrue (same_fields (row_under c (name_in table id)) (both (name_in table id)))
  both_at tables.Note id = row_both (name_in tables.Note id)
  both_at tables.Card id = row_both (name_in tables.Card id)
  both_at tables.Review id = row_both (name_in tables.Review id)
  both_at tables.NoteType id = row_both (name_in tables.NoteType id)
  both_at tables.Deck id = row_both (name_in tables.Deck id)
  both_at tables.Options id = row_both (name_in tables.Options id)
  both_at tables.NoteGrave id = grave_both (name_in tables.NoteGrave id) (name_in tables.Note id)
  both_at tables.CardGrave id = grave_both (name_in tables.CardGrave id) (name_in tables.Card id)
  both_at tables.DeckGrave id = grave_both (name_in tables.DeckGrave id) (name_in tables.Deck id)

-- the undo of an edit gives the collection before it, stamps and usns aside
pub undos_give_back : (at later : ℤ) (c after back : Collection) (edit : Edit) → IsEdited at c edit after → IsUndone later after (reversal_of c edit) back → IsBack c back
undos_give_back at later c after back edit is_edited undone = record {
  rows = λ name. subst (λ (o : Option Row). IsTrue (same_fields (row_under c name) o))
      (sym (undone.rows name ∙ ap (undone_row (second_of later) ((reversal_of c edit).rows name)) (is_edited.rows name)))
      (both_at (second_of at) (second_of later) c edit name.table name.id);
  tags = undone.tags;
  conf = undone.conf;
  crt = undone.crt ∙ is_edited.crt;
}
