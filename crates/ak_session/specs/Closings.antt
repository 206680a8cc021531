-- The collection that a finish or an upload commits.
use Rattle.std.specs.Prelude.{ℤ, pos, ◌+ℤ◌, List, []}
use Rattle.std.specs.Int.{int_max}
use Rattle.ak_base.specs.Heads.{tag_names}
use Rattle.ak_keep.specs.Collections.{Collection, rows_of}
use Rattle.ak_merge.specs.Commits.{uploaded_rows}
use Rattle.ak_merge.specs.Commits as commits
use Rattle.ak_merge.specs.Tags.{tags_taken}
use Rattle.ak_messages.specs.declared.requests.Ask.{Ask}
use Rattle.ak_messages.specs.declared.requests.Ask.TheVariants as asks
use Rattle.ak_messages.specs.declared.requests.Whole.{Whole}
use Rattle.ak_session.specs.Asks.{device_moment, fold_of}

-- the greatest of now and the moments after these two
abbrev pub moment_past : ℤ → ℤ → ℤ → ℤ
moment_past now one other = int_max now (int_max (one +ℤ pos 1) (other +ℤ pos 1))

-- what a finish commits: the fold with the next usn, at the greatest of now and the moments after the committed one and
-- the device's
abbrev pub of_finish : Collection → List Ask → ℤ → Collection
of_finish committed accepted now =
    let held = fold_of committed accepted in
    record {
      rows = held.rows;
      head = record held.head {
        moment = moment_past now committed.head.moment (device_moment accepted);
        usn = committed.head.usn +ℤ pos 1;
      };
    }

-- what an upload commits: its rows but the graves, and its tags, all with the usn 0, its settings, the usn 1, and
-- moments past those of both. The moment of the last sync stays
abbrev pub of_upload : Collection → Whole → ℤ → Collection
of_upload committed whole now =
    record {
      rows = rows_of (uploaded_rows whole.rows);
      head = record {
        crt = whole.crt;
        moment = moment_past now committed.head.moment whole.moment;
        schema = moment_past now committed.head.schema whole.schema;
        usn = pos 1;
        last_sync = committed.head.last_sync;
        conf = whole.conf;
        tags = tags_taken (pos 0) (tag_names whole.tags) [];
      };
    }

-- what is committed: an upload replaces the collection, a finish commits the fold
abbrev pub closed_by : Collection → List Ask → Ask → ℤ → Collection
closed_by committed accepted (asks.Upload whole) now = of_upload committed whole now
closed_by committed accepted ask now = of_finish committed accepted now

-- what an upload brings
abbrev pub whole_brought : Whole → commits.Whole
whole_brought whole = record {
  rows = whole.rows;
  tags = tag_names whole.tags;
  settings = record { conf = whole.conf; crt = whole.crt };
  schema = whole.schema;
  moment = whole.moment;
}
