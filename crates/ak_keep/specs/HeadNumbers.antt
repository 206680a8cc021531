-- The numbers of a collection's head: all of it but its conf and its tags.
use Rattle.std.specs.Prelude.{ℤ, pos}
use Rattle.ak_base.specs.Heads.{AreMomentsInRange, IsWithin}
use Rattle.ak_base.specs.Limits.{last_stamp}
use Rattle.ak_base.specs.declared.heads.Head.{Head}
use Rattle.ak_keep.specs.Collections.{Collection}
use Rattle.ak_keep.specs.declared.head_numbers.Numbers.{Numbers}

-- the numbers of a head
abbrev pub numbers_of : Head → Numbers
numbers_of head = record { crt = head.crt; moment = head.moment; schema = head.schema; usn = head.usn; last_sync = head.last_sync }

-- numbers in the ranges that those of a head have
pub record AreNumbersInRange (n : Numbers) : Type 0 where
  pub crt : IsWithin (pos 0) last_stamp n.crt
  pub moments : AreMomentsInRange n.moment n.schema n.usn n.last_sync

-- a collection with these numbers in place of its head's own
abbrev pub numbered : Numbers → Collection → Collection
numbered n c = record {
  rows = c.rows;
  head = record c.head { crt = n.crt; moment = n.moment; schema = n.schema; usn = n.usn; last_sync = n.last_sync };
}
