-- Facts on single rows: what stays with another usn or stamp, and what it is to be equal but for these.
use Rattle.std.specs.Prelude.{◌≡◌, ℤ, IsTrue}
use Rattle.std.proofs.Common.{refl, ◌∙◌}
use Rattle.std.specs.Cmp.{second_so}
use Rattle.std.specs.Ordering.{int_eq}
use Rattle.ak_base.specs.Contents.{same_content, same_but_stamp_and_usn}
use Rattle.ak_base.proofs.ContentLaws.{same_content_equiv, same_but_equiv}
use Rattle.ak_base.specs.Rows.{name_of, stamp_of, usn_of, with_usn, with_stamp}
use Rattle.ak_base.specs.declared.rows.Row.{Row}
use Rattle.ak_base.specs.declared.rows.Row.TheVariants as rows

-- ---- a row with another usn
pub usn_of-with_usn : (x : Row) (u : ℤ) → usn_of (with_usn x u) ≡ u
usn_of-with_usn (rows.Note n) u = refl
usn_of-with_usn (rows.Card c) u = refl
usn_of-with_usn (rows.Review r) u = refl
usn_of-with_usn (rows.NoteType t) u = refl
usn_of-with_usn (rows.Deck d) u = refl
usn_of-with_usn (rows.Options o) u = refl
usn_of-with_usn (rows.Grave g) u = refl

pub stamp_of-with_usn : (x : Row) (u : ℤ) → stamp_of (with_usn x u) ≡ stamp_of x
stamp_of-with_usn (rows.Note n) u = refl
stamp_of-with_usn (rows.Card c) u = refl
stamp_of-with_usn (rows.Review r) u = refl
stamp_of-with_usn (rows.NoteType t) u = refl
stamp_of-with_usn (rows.Deck d) u = refl
stamp_of-with_usn (rows.Options o) u = refl
stamp_of-with_usn (rows.Grave g) u = refl

pub name_of-with_usn : (x : Row) (u : ℤ) → name_of (with_usn x u) ≡ name_of x
name_of-with_usn (rows.Note n) u = refl
name_of-with_usn (rows.Card c) u = refl
name_of-with_usn (rows.Review r) u = refl
name_of-with_usn (rows.NoteType t) u = refl
name_of-with_usn (rows.Deck d) u = refl
name_of-with_usn (rows.Options o) u = refl
name_of-with_usn (rows.Grave g) u = refl

-- only the number differs
pub same-with_usn : (x : Row) (u : ℤ) → IsTrue (same_content (with_usn x u) x)
same-with_usn (rows.Note n) u = same_content_equiv.refl (rows.Note n)
same-with_usn (rows.Card c) u = same_content_equiv.refl (rows.Card c)
same-with_usn (rows.Review r) u = same_content_equiv.refl (rows.Review r)
same-with_usn (rows.NoteType t) u = same_content_equiv.refl (rows.NoteType t)
same-with_usn (rows.Deck d) u = same_content_equiv.refl (rows.Deck d)
same-with_usn (rows.Options o) u = same_content_equiv.refl (rows.Options o)
same-with_usn (rows.Grave g) u = same_content_equiv.refl (rows.Grave g)

-- ---- rows of one content
pub same-itself : (x : Row) → IsTrue (same_content x x)
same-itself = same_content_equiv.refl

pub same-turned : (x y : Row) → IsTrue (same_content x y) → IsTrue (same_content y x)
same-turned x y same = same_content_equiv.symm y x ∙ same

pub same-through : (x y z : Row) → IsTrue (same_content x y) → IsTrue (same_content y z) → IsTrue (same_content x z)
same-through x y z one other = same_content_equiv.congr x y z one ∙ other

-- ---- rows that are equal but for stamp and usn
pub same_fields-itself : (x : Row) → IsTrue (same_but_stamp_and_usn x x)
same_fields-itself = same_but_equiv.refl

pub same_fields-turned : (x y : Row) → IsTrue (same_but_stamp_and_usn x y) → IsTrue (same_but_stamp_and_usn y x)
same_fields-turned x y same = same_but_equiv.symm y x ∙ same

pub same_fields-through : (x y z : Row) → IsTrue (same_but_stamp_and_usn x y) → IsTrue (same_but_stamp_and_usn y z) → IsTrue (same_but_stamp_and_usn x z)
same_fields-through x y z one other = same_but_equiv.congr x y z one ∙ other

-- rows of one content are
pub same_fields-same_content : (x y : Row) → IsTrue (same_content x y) → IsTrue (same_but_stamp_and_usn x y)
same_fields-same_content x y same = second_so (int_eq (stamp_of x) (stamp_of y)) _ same

-- only the stamp differs
pub same_fields-with_stamp : (x : Row) (stamp : ℤ) → IsTrue (same_but_stamp_and_usn (with_stamp x stamp) x)
same_fields-with_stamp (rows.Note n) stamp = same_but_equiv.refl (rows.Note n)
same_fields-with_stamp (rows.Card c) stamp = same_but_equiv.refl (rows.Card c)
same_fields-with_stamp (rows.Review r) stamp = same_but_equiv.refl (rows.Review r)
same_fields-with_stamp (rows.NoteType t) stamp = same_but_equiv.refl (rows.NoteType t)
same_fields-with_stamp (rows.Deck d) stamp = same_but_equiv.refl (rows.Deck d)
same_fields-with_stamp (rows.Options o) stamp = same_but_equiv.refl (rows.Options o)
same_fields-with_stamp (rows.Grave g) stamp = same_but_equiv.refl (rows.Grave g)

-- only both differ
pub same_fields-edited : (x : Row) (stamp usn : ℤ) → IsTrue (same_but_stamp_and_usn (with_usn (with_stamp x stamp) usn) x)
same_fields-edited x stamp usn =
    same_fields-through (with_usn (with_stamp x stamp) usn) (with_stamp x stamp) x
    (same_fields-same_content (with_usn (with_stamp x stamp) usn) (with_stamp x stamp) (same-with_usn (with_stamp x stamp) usn)) (same_fields-with_stamp x stamp)

-- ---- a row with another stamp
pub name_of-with_stamp : (x : Row) (stamp : ℤ) → name_of (with_stamp x stamp) ≡ name_of x
name_of-with_stamp (rows.Note n) stamp = refl
name_of-with_stamp (rows.Card c) stamp = refl
name_of-with_stamp (rows.Review r) stamp = refl
name_of-with_stamp (rows.NoteType t) stamp = refl
name_of-with_stamp (rows.Deck d) stamp = refl
name_of-with_stamp (rows.Options o) stamp = refl
name_of-with_stamp (rows.Grave g) stamp = refl

pub usn_of-with_stamp : (x : Row) (stamp : ℤ) → usn_of (with_stamp x stamp) ≡ usn_of x
usn_of-with_stamp (rows.Note n) stamp = refl
usn_of-with_stamp (rows.Card c) stamp = refl
usn_of-with_stamp (rows.Review r) stamp = refl
usn_of-with_stamp (rows.NoteType t) stamp = refl
usn_of-with_stamp (rows.Deck d) stamp = refl
usn_of-with_stamp (rows.Options o) stamp = refl
usn_of-with_stamp (rows.Grave g) stamp = refl
