-- What the columns of each table hold, counted from 0 in the order of the table.
use Rattle.std.specs.Prelude.{◌≡◌, ℕ, pos, List, [], ◌∷◌}
use Rattle.sqlite_value.specs.Order.{Row, column}
use Rattle.sqlite_value.specs.declared.value.Value.TheVariants.{Int, Text}
use Rattle.ak_base.specs.declared.notes.Note.{Note}
use Rattle.ak_base.specs.declared.cards.Card.{Card}
use Rattle.ak_base.specs.declared.reviews.Review.{Review}
use Rattle.ak_base.specs.declared.graves.Grave.{Grave}
use Rattle.ak_base.specs.declared.heads.Head.{Head}

-- a row of `notes` holds this note
pub record HoldsNote (row : Row) (n : Note) : Type 0 where
  pub id : column row 0 ≡ Int n.id
  pub guid : column row 1 ≡ Text n.guid
  pub mid : column row 2 ≡ Int n.mid
  pub stamp : column row 3 ≡ Int n.stamp
  pub usn : column row 4 ≡ Int n.usn
  pub tags : column row 5 ≡ Text n.tags
  pub flds : column row 6 ≡ Text n.flds
  pub sfld : column row 7 ≡ Text n.sfld
  pub csum : column row 8 ≡ Int n.csum
  pub flags : column row 9 ≡ Int n.flags
  pub extra : column row 10 ≡ Text n.extra

-- a row of `cards` holds this card
pub record HoldsCard (row : Row) (c : Card) : Type 0 where
  pub id : column row 0 ≡ Int c.id
  pub nid : column row 1 ≡ Int c.nid
  pub did : column row 2 ≡ Int c.did
  pub ord : column row 3 ≡ Int c.ord
  pub stamp : column row 4 ≡ Int c.stamp
  pub usn : column row 5 ≡ Int c.usn
  pub kind : column row 6 ≡ Int c.kind
  pub queue : column row 7 ≡ Int c.queue
  pub due : column row 8 ≡ Int c.due
  pub ivl : column row 9 ≡ Int c.ivl
  pub factor : column row 10 ≡ Int c.factor
  pub reps : column row 11 ≡ Int c.reps
  pub lapses : column row 12 ≡ Int c.lapses
  pub left : column row 13 ≡ Int c.left
  pub odue : column row 14 ≡ Int c.odue
  pub odid : column row 15 ≡ Int c.odid
  pub flags : column row 16 ≡ Int c.flags
  pub extra : column row 17 ≡ Text c.extra

-- a row of `revlog` holds this review
pub record HoldsReview (row : Row) (r : Review) : Type 0 where
  pub id : column row 0 ≡ Int r.id
  pub cid : column row 1 ≡ Int r.cid
  pub usn : column row 2 ≡ Int r.usn
  pub ease : column row 3 ≡ Int r.ease
  pub ivl : column row 4 ≡ Int r.ivl
  pub last_ivl : column row 5 ≡ Int r.last_ivl
  pub factor : column row 6 ≡ Int r.factor
  pub time : column row 7 ≡ Int r.time
  pub kind : column row 8 ≡ Int r.kind

-- a row of `graves` holds this grave
pub record HoldsGrave (row : Row) (g : Grave) : Type 0 where
  pub usn : column row 0 ≡ Int g.usn
  pub oid : column row 1 ≡ Int g.oid
  pub kind : column row 2 ≡ Int g.kind

-- the numbers of the row of `col`: its id is 1, its version 11, and its `dty` 0
pub record HoldsHead (row : Row) (h : Head) : Type 0 where
  pub id : column row 0 ≡ Int (pos 1)
  pub crt : column row 1 ≡ Int h.crt
  pub moment : column row 2 ≡ Int h.moment
  pub schema : column row 3 ≡ Int h.schema
  pub version : column row 4 ≡ Int (pos 11)
  pub dirty : column row 5 ≡ Int (pos 0)
  pub usn : column row 6 ≡ Int h.usn
  pub last_sync : column row 7 ≡ Int h.last_sync

-- what is written of a head into the columns `crt`, `mod`, `scm`, `usn`, `ls`, `conf` and `tags`, with the texts of the last two
abbrev pub head_columns : Head → List ℕ → List ℕ → Row
head_columns h conf tags = Int h.crt ∷ Int h.moment ∷ Int h.schema ∷ Int h.usn ∷ Int h.last_sync ∷ Text conf ∷ Text tags ∷ []
