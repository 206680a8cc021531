-- The numbers of a head that is held.
use Rattle.std.specs.FinMap.{empty}
use Rattle.std.specs.Option.{option_map}
use Rattle.std.specs.Prelude.{◌≡◌, pos, false, codes, [], Option, Some, None, IfSome}
use Rattle.std.proofs.Common.{refl}
use Rattle.ak_base.proofs.Resting.{empty_is_rest}
use Rattle.ak_base.specs.Heads.{IsHeadInRange}
use Rattle.ak_base.specs.Rests.{conf_keys, lacks}
use Rattle.ak_base.specs.declared.heads.Head.{Head}
use Rattle.ak_keep.specs.Collections.{Collection}
use Rattle.ak_keep.specs.HeadNumbers.{AreNumbersInRange, numbered, numbers_of}

-- the numbers of a head that is in its ranges are in theirs
pub numbers_fit : (held : Option Head) → IfSome held IsHeadInRange → IfSome (option_map numbers_of held) AreNumbersInRange
numbers_fit None fits = tt
numbers_fit (Some head) fits = record {
  crt = fits.crt;
  moments = record { moment = fits.moment; schema = fits.schema; usn = fits.usn; last_sync = fits.last_sync };
}

-- a collection with the numbers that it has is itself
pub numbered_alike : (c : Collection) → numbered (numbers_of c.head) c ≡ c
numbered_alike c = refl

-- some collection, of which a law that holds of all can be asked
pub some_collection : Collection
some_collection = record {
  rows = empty;
  head = record {
    crt = pos 0;
    moment = pos 0;
    schema = pos 0;
    usn = pos 0;
    last_sync = pos 0;
    conf = record { new_spread = pos 0; collapse = pos 0; day_learn_first = false; next_pos = pos 0; last_unburied = pos 0; rest = record { text = codes "{}"; owner = record {}; unknown = empty_is_rest (lacks conf_keys) refl } };
    tags = [];
  };
}
