-- The head once what came was taken is in its ranges, and what a keeper holds then.
use Rattle.std.specs.Option.{unwrap_or}
use Rattle.std.specs.Prelude.{ℤ, pos, negsuc, Option, Some, None, IfSome}
use Rattle.std.proofs.Common.{arith}
use Rattle.std.proofs.lemmas.Int.{ints}
use Rattle.ak_base.specs.Heads.{IsConfInRange, IsHeadInRange, IsWithin}
use Rattle.ak_base.specs.Limits.{last_head_usn, last_stamp, last_usn}
use Rattle.ak_base.specs.declared.heads.Head.{Head}
use Rattle.ak_merge.specs.Commits.{Received, Settings, settings_of}
use Rattle.ak_merge.proofs.TagLaws.{tags_stay_in_range, tags_stay_ordered}
use Rattle.ak_sync_rows.specs.Takes.{MayBeTaken, head_with}

-- the number of a head is one that a row may have
pub usn_fits : (usn : ℤ) → IsWithin (pos 0) last_head_usn usn → IsWithin (pos 0) (pos 2_147_483_647) usn
usn_fits usn is = let low = is.low in let high = is.high in record { low = low; high = omega (arith, ints, high) }

tag_usn_fits : (usn : ℤ) → IsWithin (pos 0) last_head_usn usn → IsWithin (negsuc 0) last_usn usn
tag_usn_fits usn is =
    let low = is.low in let high = is.high in
    record { low = omega (arith, ints, low); high = omega (arith, ints, high) }

either : (P : Settings → Type 0) (came : Option Settings) (own : Settings) → IfSome came P → P own → P (unwrap_or came own)
either P None own came is = is
either P (Some s) own came is = came

pub head_fits : (usn : ℤ) (came : Received) (head : Head) → IsHeadInRange head → MayBeTaken came → IsWithin (pos 0) last_head_usn usn
    → IsHeadInRange (head_with usn came head)
head_fits usn came head is taken number = record {
  crt = either (λ s. IsWithin (pos 0) last_stamp s.crt) came.settings (settings_of head) taken.crt is.crt;
  moment = is.moment;
  schema = is.schema;
  usn = is.usn;
  last_sync = is.last_sync;
  conf = either (λ s. IsConfInRange s.conf) came.settings (settings_of head) taken.conf is.conf;
  tags = tags_stay_in_range usn came.tags head.tags taken.tags (tag_usn_fits usn number) is.tags;
  ascending = tags_stay_ordered usn came.tags head.tags is.ascending;
}
