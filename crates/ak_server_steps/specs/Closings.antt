-- What a finish and an upload make of the head that is held.
use Rattle.std.specs.Int.{int_min}
use Rattle.std.specs.Prelude.{ℤ, pos, ◌+ℤ◌, []}
use Rattle.ak_base.specs.Heads.{tag_names}
use Rattle.ak_base.specs.Limits.{last_head_usn, last_moment}
use Rattle.ak_base.specs.declared.heads.Head.{Head}
use Rattle.ak_keep.specs.declared.head_numbers.Numbers.{Numbers}
use Rattle.ak_merge.specs.Tags.{tags_taken}
use Rattle.ak_messages.specs.declared.requests.Whole.{Whole}
use Rattle.ak_server_steps.specs.declared.answers.Basis.{Basis}
use Rattle.ak_session.specs.Closings.{moment_past}

-- the moment of a finish: the greatest of now and the moments after the committed one and the device's, at most the last one
abbrev pub finished_moment : Basis → ℤ → ℤ
finished_moment basis now = int_min (moment_past now basis.numbers.moment basis.live.moment) last_moment

-- the next usn, at most the last one
abbrev pub finished_usn : Basis → ℤ
finished_usn basis = int_min (basis.numbers.usn +ℤ pos 1) last_head_usn

-- the head of an upload over a head with these numbers
abbrev pub uploaded_head : Numbers → Whole → ℤ → Head
uploaded_head held whole now = record {
  crt = whole.crt;
  moment = moment_past now held.moment whole.moment;
  schema = moment_past now held.schema whole.schema;
  usn = pos 1;
  last_sync = held.last_sync;
  conf = whole.conf;
  tags = tags_taken (pos 0) (tag_names whole.tags) [];
}
