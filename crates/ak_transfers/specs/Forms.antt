-- The forms of what the two transfers are given, and what a whole collection must pass before a device holds it.
use Rattle.std.specs.List.{All, IsDistinct}
use Rattle.std.specs.Ordering.{eq_by_cmp}
use Rattle.std.specs.Prelude.{◌&&◌, if◌then◌else◌, map, Option, Some, None}
use Rattle.ak_base.specs.Heads.{IsHeadInRange}
use Rattle.ak_base.specs.Names.{name_cmp}
use Rattle.ak_base.specs.Rows.{IsChecked, name_of}
use Rattle.ak_base.specs.declared.heads.Head.{Head}
use Rattle.ak_client_wire.specs.Forms.{is_moment}
use Rattle.ak_messages.specs.declared.replies.Give.{Give}
use Rattle.ak_messages.specs.declared.replies.Give.TheVariants as gives
use Rattle.ak_messages.specs.declared.requests.Whole.{Whole}
use Rattle.ak_transfers.specs.declared.asks.UploadMoments.{UploadMoments}

-- what an upload is given: the moment and the schema moment of what the server committed, each in its range
abbrev pub uploaded_in : Give → Option UploadMoments
uploaded_in (gives.Uploaded moment schema) =
    if is_moment moment && is_moment schema then Some (record { moment = moment; schema = schema }) else None
uploaded_in give = None

-- what a download is given: a whole collection
abbrev pub whole_in : Give → Option Whole
whole_in (gives.Whole whole) = Some whole
whole_in give = None

-- the head that a download leaves: that of the whole collection, with the last sync at its moment
abbrev pub downloaded_head : Whole → Head
downloaded_head whole = record {
  crt = whole.crt;
  moment = whole.moment;
  schema = whole.schema;
  usn = whole.usn;
  last_sync = whole.moment;
  conf = whole.conf;
  tags = whole.tags;
}

-- a whole collection that a device may hold: each row passes its check, no two rows share a name, and the head is in its ranges, in which the
-- names of the tags ascend, so that no two share one. Rows may come in any order, and a grave beside its row
pub record MayBeHeld (whole : Whole) : Type 0 where
  pub rows : All IsChecked whole.rows
  pub distinct : IsDistinct (eq_by_cmp name_cmp) (map name_of whole.rows)
  pub head : IsHeadInRange (downloaded_head whole)
