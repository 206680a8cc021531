-- Facts of rows and numbers that the laws of edits and undos share, and the parts of linked over what stands under names.
use Rattle.ak_base.proofs.Burials.{grave_table_by}
use Rattle.ak_base.proofs.RowFacts.{same_fields-itself, same_fields-turned, same_fields-edited}
use Rattle.ak_keep.specs.Collections.{Collection, is_pending, is_settled}
use Rattle.ak_base.specs.Graves.{grave_table}
use Rattle.ak_base.specs.Tables.{has_stamps}
use Rattle.ak_base.specs.Contents.{same_but_stamp_and_usn}
use Rattle.ak_base.specs.Rows.{name_of, stamp_of, usn_of}
use Rattle.std.specs.Prelude.{◌≡◌, ℕ, ℤ, negsuc, ◌≤ℤ◌, ◌<ℤ◌, Bool, true, false, not, T, IsTrue, List, Option, Some, None, IfSome, is_some, ◌⊎◌}
use Rattle.std.proofs.Common.{inl, inr, refl, sym, ap, subst, ◌∙◌, arith}
use Rattle.std.proofs.Math.Path.{fun_ext}
use Rattle.std.proofs.lemmas.Int.{ints, clamps}
use Rattle.std.specs.Ordering.{int_eq}
use Rattle.ak_base.specs.declared.heads.Head.{Head}
use Rattle.ak_base.specs.declared.names.Name.{Name}
use Rattle.ak_base.specs.declared.names.Table.{Table}
use Rattle.ak_base.specs.declared.rows.Row.{Row}
use Rattle.ak_base.specs.declared.rows.Row.TheVariants as rows
use Rattle.ak_keep.specs.Graves.{RowsByName, grave_under}
use Rattle.ak_merge.specs.Holdings.{row_under, IsSingle, tag_usn}
use Rattle.ak_merge.specs.Links.{IsGiven, IsOwn, AreNumbered, HasTaken, IsKnown, IsShared, IsTagShared, AreLinkedParts}
use Rattle.ak_merge.specs.Edits.{edited, advanced}

pub false_true : {X : Type 0} → false ≡ true → X
false_true is = absurd (subst (λ (b : Bool). T (not b)) is tt)

pub true_false : {X : Type 0} → true ≡ false → X
true_false is = absurd (subst T is tt)

pub none_held : {X Y : Type 0} {x : X} → None ≡ Some x → Y
none_held {X} is = absurd (subst (λ (o : Option X). T (not (is_some o))) is tt)

pub held_none : {X Y : Type 0} {x : X} → Some x ≡ None → Y
held_none {X} is = absurd (subst (λ (o : Option X). T (is_some o)) is tt)

pub either_way : {X : Type 0} (t : Bool) → (t ≡ true → X) → (t ≡ false → X) → X
either_way true f g = f refl
either_way false f g = g refl

pub by_three : {A B C X : Type 0} → (A → X) → (B → X) → (C → X) → A ⊎ B ⊎ C → X
by_three f g h (inl a) = f a
by_three f g h (inr (inl b)) = g b
by_three f g h (inr (inr c)) = h c

-- ---- rows
pub edited_usn : (stamp : ℤ) (row : Row) → usn_of (edited stamp row) ≡ negsuc 0
edited_usn stamp (rows.Note n) = refl
edited_usn stamp (rows.Card c) = refl
edited_usn stamp (rows.Review r) = refl
edited_usn stamp (rows.NoteType t) = refl
edited_usn stamp (rows.Deck d) = refl
edited_usn stamp (rows.Options o) = refl
edited_usn stamp (rows.Grave g) = refl

pub edited_name : (stamp : ℤ) (row : Row) → name_of (edited stamp row) ≡ name_of row
edited_name stamp (rows.Note n) = refl
edited_name stamp (rows.Card c) = refl
edited_name stamp (rows.Review r) = refl
edited_name stamp (rows.NoteType t) = refl
edited_name stamp (rows.Deck d) = refl
edited_name stamp (rows.Options o) = refl
edited_name stamp (rows.Grave g) = refl

pub edited_pending : (stamp : ℤ) (row : Row) → IsTrue (is_pending (edited stamp row))
edited_pending stamp row = ap (λ usn. int_eq usn (negsuc 0)) (edited_usn stamp row)

pub pending_unsettled : {X : Type 0} (row : Row) → IsTrue (is_pending row) → IsTrue (is_settled row) → X
pending_unsettled row pending settled = false_true (sym (ap not pending) ∙ settled)

pub edited_unsettled : {X : Type 0} (stamp : ℤ) (row : Row) → IsTrue (is_settled (edited stamp row)) → X
edited_unsettled stamp row settled = pending_unsettled (edited stamp row) (edited_pending stamp row) settled

grave_unstamped : (kind : ℤ) → has_stamps (grave_table kind) ≡ false
grave_unstamped = grave_table_by (λ (table : Table). has_stamps table ≡ false) refl refl refl

-- a row of the five tables with stamps bears the stamp that it is given
pub edited_stamp : (stamp : ℤ) (row : Row) → IsTrue (has_stamps (name_of row).table) → stamp_of (edited stamp row) ≡ stamp
edited_stamp stamp (rows.Note n) has = refl
edited_stamp stamp (rows.Card c) has = refl
edited_stamp stamp (rows.Review r) has = false_true has
edited_stamp stamp (rows.NoteType t) has = refl
edited_stamp stamp (rows.Deck d) has = refl
edited_stamp stamp (rows.Options o) has = refl
edited_stamp stamp (rows.Grave g) has = false_true (sym (grave_unstamped g.kind) ∙ has)

-- a row has the fields of itself
pub own_fields : (row : Row) → IsTrue (same_but_stamp_and_usn row row)
own_fields row = same_fields-itself row

-- so has it when it is edited
pub edited_fields : (stamp : ℤ) (row : Row) → IsTrue (same_but_stamp_and_usn row (edited stamp row))
edited_fields stamp row = same_fields-turned (edited stamp row) row (same_fields-edited row stamp (negsuc 0))

-- ---- numbers
pub advanced_over : (now old : ℤ) → old <ℤ advanced now old
advanced_over now old = omega (arith, ints, clamps)

advanced_least : (now old : ℤ) → now ≤ℤ advanced now old
advanced_least now old = omega (arith, ints, clamps)

pub same_least : {a b : ℤ} → a ≡ b → a ≤ℤ b
same_least {a} {b} same = omega (arith, ints)

pub less_least : {a b : ℤ} → a <ℤ b → a ≤ℤ b
less_least {a} {b} less = omega (arith, ints)

pub advanced_past : (least now old : ℤ) → least ≤ℤ old → least <ℤ advanced now old
advanced_past least now old below = omega (arith, ints, advanced_over now old)

pub least_advanced : (least now old : ℤ) → least <ℤ now → least <ℤ advanced now old
least_advanced least now old below = omega (arith, ints, advanced_least now old)

-- ---- linked, over what stands under the names and the tags of a device
-- the first five parts, where these rows and tags stand with this usn on the device
pub record LinkedParts (u : ℤ) (at : RowsByName) (number_of : List ℕ → Option ℤ) (s : Collection) : Type 0 where
  pub usn : u ≤ℤ s.head.usn
  pub given : AreNumbered IsGiven s
  pub numbers : (name : Name) → IfSome (at name) (λ row. IsOwn u (usn_of row))
  pub tag_numbers : (name : List ℕ) → IfSome (number_of name) (IsOwn u)
  pub taken : (name : Name) → IsTrue (has_stamps name.table) → HasTaken u (at name) (grave_under at name) (row_under s name)
  pub known : (name : Name) → IsTrue (has_stamps name.table) → IsKnown u (at name) (row_under s name) (grave_under (row_under s) name)
  pub shared : (name : Name) → has_stamps name.table ≡ false → IsShared u (at name) (row_under s name)
  pub tags : (name : List ℕ) → IsTagShared u (number_of name) (tag_usn s.head.tags name)
  pub own_single : IsSingle at
  pub single : IsSingle (row_under s)

pub parts_of : (c s : Collection) → AreLinkedParts c s → LinkedParts c.head.usn (row_under c) (tag_usn c.head.tags) s
parts_of c s l = record {
  usn = l.usn;
  given = l.given;
  numbers = l.own.rows;
  tag_numbers = l.own.tags;
  taken = l.taken;
  known = l.known;
  shared = l.shared;
  tags = l.tags;
  own_single = l.own_single;
  single = l.single;
}

-- the sixth part, of a device's head c and a server's head s
pub record LinkedHeads (c s : Head) : Type 0 where
  pub later : c.usn ≡ s.usn → s.moment ≤ℤ c.moment
  pub settings : c.usn ≡ s.usn → c.moment ≡ s.moment → (c.conf ≡ s.conf) × (c.crt ≡ s.crt)

pub heads_of : (c s : Collection) → AreLinkedParts c s → LinkedHeads c.head s.head
heads_of c s l = record { later = l.later; settings = l.settings }

-- a device that was changed once more was changed after the server, if the two numbers are equal
pub heads_changed : (c after s : Head) → after.usn ≡ c.usn → c.moment <ℤ after.moment → LinkedHeads c s → LinkedHeads after s
heads_changed c after s usn moved l = record {
  later = λ same. let least = l.later (sym usn ∙ same) in omega (arith, ints, moved, least);
  settings = λ same at_once. let least = l.later (sym usn ∙ same) in absurd (omega (arith, ints, moved, least, at_once));
}

from_parts : (c s : Collection) → LinkedHeads c.head s.head → LinkedParts c.head.usn (row_under c) (tag_usn c.head.tags) s → AreLinkedParts c s
from_parts c s heads l = record {
  usn = l.usn;
  given = l.given;
  own = record { rows = l.numbers; tags = l.tag_numbers };
  taken = l.taken;
  known = l.known;
  shared = l.shared;
  tags = l.tags;
  own_single = l.own_single;
  single = l.single;
  later = heads.later;
  settings = heads.settings;
}

-- a collection in which these rows and tags stand is linked
pub linked_of : (u : ℤ) (at : RowsByName) (number_of : List ℕ → Option ℤ) (c s : Collection) → c.head.usn ≡ u → ((name : Name) → row_under c name ≡ at name)
    → ((name : List ℕ) → tag_usn c.head.tags name ≡ number_of name) → LinkedHeads c.head s.head → LinkedParts u at number_of s → AreLinkedParts c s
linked_of u at number_of c s usn rows tags heads l =
    from_parts c s heads
    (subst (λ (v : ℤ). LinkedParts v (row_under c) (tag_usn c.head.tags) s) (sym usn)
    (subst (λ (f : RowsByName). LinkedParts u f (tag_usn c.head.tags) s) (sym (fun_ext rows))
    (subst (λ (f : List ℕ → Option ℤ). LinkedParts u at f s) (sym (fun_ext tags)) l)))
