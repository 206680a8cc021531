-- A head that may have been changed since the mark.
use Rattle.std.specs.Prelude.{Option}
use Rattle.std.specs.Option.{option_map}
use Rattle.ak_base.specs.declared.heads.Head.{Head}
use Rattle.ak_memory.specs.declared.heads.Moments.{Moments}
use Rattle.ak_memory.specs.declared.heads.HeadBefore.{HeadBefore}
use Rattle.ak_memory.specs.declared.heads.HeadBefore.TheVariants as before

-- a head with these moments and usn, if there is one
abbrev pub with_moments : Moments → Option Head → Option Head
with_moments m held = option_map (λ (head : Head). record head { moment = m.moment; schema = m.schema; usn = m.usn; last_sync = m.last_sync }) held

-- the head at the mark, beside the one that is held now
abbrev pub head_before : Option Head → HeadBefore → Option Head
head_before held before.Same = held
head_before held (before.Moments moments) = with_moments moments held
head_before held (before.Other was) = was
