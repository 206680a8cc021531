-- The head of an opening collection is in its ranges.
use Rattle.std.proofs.Common.{ℤ, pos, Bool, true, false, sym, subst, arith}
use Rattle.std.proofs.lemmas.Int.{ints}
use Rattle.std.proofs.lemmas.List.Elements.{All-nil}
use Rattle.std.specs.Prelude.{int_div, ◌*ℤ◌}
use Rattle.std.specs.List.Sorted.{IsStrictlySortedBy}
use Rattle.ak_base.specs.Heads.{IsConfInRange, IsHeadInRange, IsTagInRange, IsWithin}
use Rattle.ak_base.specs.Limits.{last_head_usn, last_stamp}
use Rattle.ak_base.specs.declared.heads.Conf.{Conf}
use Rattle.ak_base.specs.declared.heads.Head.{Head}
use Rattle.ak_io.specs.Arrivals.{IsClockMoment}
use Rattle.ak_openings.specs.Openings.{IsOpeningConf, IsOpeningHead, head_usn}

-- the second of a moment
pub second_within : (ms : ℤ) → IsClockMoment ms → IsWithin (pos 0) last_stamp (int_div ms (pos 1_000))
second_within ms within = record { low = grind (arith, ints, within.low, within.high); high = grind (arith, ints, within.low, within.high) }

-- the second at which a moment's day begins
day_within : (ms : ℤ) → IsClockMoment ms → IsWithin (pos 0) last_stamp (int_div ms (pos 86_400_000) *ℤ pos 86_400)
day_within ms within = record { low = grind (arith, ints, within.low, within.high); high = grind (arith, ints, within.low, within.high) }

conf_within : (conf : Conf) → IsOpeningConf conf → IsConfInRange conf
conf_within conf is = record {
  numbers = record {
    new_spread = rw is.new_spread (record { low = omega arith; high = omega arith });
    collapse = rw is.collapse (record { low = omega arith; high = omega arith });
    next_pos = rw is.next_pos (record { low = omega arith; high = omega arith });
    last_unburied = rw is.last_unburied (record { low = omega arith; high = omega arith });
  };
  rest = rw is.rest (omega arith);
}

usn_within : (unsent : Bool) → IsWithin (pos 0) last_head_usn (head_usn unsent)
usn_within true = record { low = omega arith; high = omega arith }
usn_within false = record { low = omega arith; high = omega arith }

-- the head
pub head_within : (unsent : Bool) (ms : ℤ) (head : Head) → IsClockMoment ms → IsOpeningHead ms unsent head → IsHeadInRange head
unfolding IsStrictlySortedBy
head_within unsent ms head within is = record {
  crt = subst (λ x. IsWithin (pos 0) last_stamp x) (sym is.crt) (day_within ms within);
  moment = rw is.moment (record { low = within.low; high = grind (arith, ints, within.high) });
  schema = rw is.schema (record { low = within.low; high = grind (arith, ints, within.high) });
  usn = subst (IsWithin (pos 0) last_head_usn) (sym is.usn) (usn_within unsent);
  last_sync = rw is.last_sync (record { low = omega arith; high = omega arith });
  conf = conf_within head.conf is.conf;
  tags = rw is.tags (All-nil IsTagInRange);
  ascending = rw is.tags tt;
}
