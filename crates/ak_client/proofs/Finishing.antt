-- What a finished sync leaves: the device's half of an exchange.
use Rattle.std.specs.FinMap.{get}
use Rattle.std.specs.Option.{option_map, unwrap_or}
use Rattle.std.specs.Prelude.{◌≡◌, ℕ, ℤ, pos, ◌+ℤ◌, List, [], ◌∷◌, Option}
use Rattle.std.proofs.Common.{refl, sym, ap, ◌∙◌}
use Rattle.ak_base.specs.declared.heads.Head.{Head}
use Rattle.ak_base.specs.declared.names.Name.{Name}
use Rattle.ak_keep.specs.Collections.{Collection, Rows}
use Rattle.ak_merge.proofs.ExchangeLaws.{device_half_links}
use Rattle.ak_merge.specs.Commits.{Received, Settings, settings_of}
use Rattle.ak_merge.specs.Exchanges.{AreExchanged, HoldsJoin, IsDeviceHalf, settled, settled_tags}
use Rattle.ak_merge.specs.Tags.{tags_taken}
use Rattle.ak_merge.specs.Takings.{all_taken}
use Rattle.ak_messages.specs.declared.requests.Ask.TheVariants as asks
use Rattle.ak_session.proofs.MessageLaws.{same_rows, same_settings, same_tags}
use Rattle.ak_session.proofs.Sums.{given_in_parts}
use Rattle.ak_session.proofs.SyncLaws.{device_sends, may_exchange, server_gives, tags_given}
use Rattle.ak_session.specs.Plans.{given_by_sync, planned_check, sent_by_sync}
use Rattle.ak_session.specs.Replies.{all_replied}
use Rattle.ak_session.specs.Sessions.{MaySync}
use Rattle.ak_merge.specs.declared.sides.Side.TheVariants.{Device}

-- the head of a device's collection once what came was received and settled, at a moment
abbrev pub ended_head : ℤ → ℤ → Received → Head → Head
ended_head usn moment came head =
    let settings = unwrap_or came.settings (settings_of head) in
    record {
      crt = settings.crt;
      moment = moment;
      schema = head.schema;
      usn = usn +ℤ pos 1;
      last_sync = moment;
      conf = settings.conf;
      tags = settled_tags usn (tags_taken usn came.tags head.tags);
    }

module _ (c s t : Collection) (may : MaySync c s) (after : Rows) (moment : ℤ) (at_commit : t.head.moment ≡ moment) where
  abbrev came : Received
  came = all_replied s (planned_check c s)

  abbrev given : Received
  given = given_by_sync c s

  -- what the device holds then
  abbrev pub ended : Collection
  ended = record { rows = after; head = ended_head s.head.usn moment came c.head }

  same_taken : (name : Name) → get (all_taken Device s.head.usn came.rows c.rows) name ≡ get (all_taken Device s.head.usn given.rows c.rows) name
  same_taken name = ap (λ (rows : Rows). get rows name) (same_rows c s (planned_check c s) (asks.Finish ∷ []) s.head.usn c.rows may refl)

  pub device_half : ((name : Name) → get after name ≡ option_map (settled s.head.usn) (get (all_taken Device s.head.usn came.rows c.rows) name))
      → IsDeviceHalf given (sent_by_sync c s) c s ended t
  device_half each = record {
    sends = (device_sends c s may).each;
    gives = server_gives c s may;
    tags_given = λ name. tags_given c s may name;
    gives_settings = ap (λ (r : Received). r.settings) (given_in_parts c s may);
    rows = λ name. each name ∙ ap (option_map (settled s.head.usn)) (same_taken name);
    tags = ap (λ (tags : List (List ℕ)). settled_tags s.head.usn (tags_taken s.head.usn tags c.head.tags)) (same_tags s (planned_check c s));
    settings = ap (λ (o : Option Settings). unwrap_or o (settings_of c.head)) (same_settings s (planned_check c s));
    usn = refl;
    moment = sym at_commit;
    last_sync = sym at_commit;
    schema = refl;
  }

  -- once the server committed the join, both hold it and are linked
  pub exchanged : ((name : Name) → get after name ≡ option_map (settled s.head.usn) (get (all_taken Device s.head.usn came.rows c.rows) name))
      → HoldsJoin c s t → AreExchanged c s ended t
  exchanged each joined =
      device_half_links given (sent_by_sync c s) c s ended t (device_half each) joined (may_exchange c s may) may.committed.head.usn.low
