-- The head that an edit leaves is in range if its moments are.
use Rattle.std.proofs.Common.{◌≡◌, sym, subst, ℤ, negsuc, IfSome, Option, Some, None, arith}
use Rattle.std.proofs.lemmas.Int.{ints}
use Rattle.std.specs.Option.{unwrap_or}
use Rattle.ak_base.specs.Heads.{IsConfInRange, IsHeadInRange, IsMoment, IsWithin}
use Rattle.ak_base.specs.Limits.{last_usn}
use Rattle.ak_base.specs.declared.heads.Conf.{Conf}
use Rattle.ak_base.specs.declared.heads.Head.{Head}
use Rattle.ak_merge.proofs.TagLaws.{tags_stay_in_range, tags_stay_ordered}
use Rattle.ak_edit.specs.Ends.{head_after}
use Rattle.ak_edit.specs.Overlays.{IsFitting, Overlay}

conf_in_range : (set : Option Conf) (old : Conf) → IfSome set IsConfInRange → IsConfInRange old → IsConfInRange (unwrap_or set old)
conf_in_range None old set held = held
conf_in_range (Some conf) old set held = set

unsent_in_range : IsWithin (negsuc 0) last_usn (negsuc 0)
unsent_in_range = record { low = grind (arith, ints); high = grind (arith, ints) }

pub head_in_range : (at : ℤ) (o : Overlay) (head : Head) → IsFitting o → IsHeadInRange head → IsMoment (head_after at o head).moment → IsMoment (head_after at o head).schema → IsHeadInRange (head_after at o head)
head_in_range at o head fits held moment schema = record {
  crt = held.crt;
  moment = moment;
  schema = schema;
  usn = held.usn;
  last_sync = held.last_sync;
  conf = conf_in_range o.conf head.conf fits.conf held.conf;
  tags = tags_stay_in_range (negsuc 0) o.tags head.tags fits.tags unsent_in_range held.tags;
  ascending = tags_stay_ordered (negsuc 0) o.tags head.tags held.ascending;
}

-- the same of a head that is it
pub after_in_range : (at : ℤ) (o : Overlay) (head after : Head) → after ≡ head_after at o head → IsFitting o → IsHeadInRange head → IsMoment after.moment → IsMoment after.schema → IsHeadInRange after
after_in_range at o head after is fits held moment schema =
    subst IsHeadInRange (sym is) (head_in_range at o head fits held (subst (λ (h : Head). IsMoment h.moment) is moment) (subst (λ (h : Head). IsMoment h.schema) is schema))
