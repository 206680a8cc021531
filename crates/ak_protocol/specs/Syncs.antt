-- What a client may know of the log of its wire.
use Rattle.std.specs.List.{AllByRecursion}
use Rattle.std.specs.Prelude.{◌≡◌, ℕ, ℤ, List, [], ◌++◌, Some}
use Rattle.ak_io.specs.Arrivals.{IsClockMoment}
use Rattle.ak_keep.specs.Collections.{Collection}
use Rattle.ak_messages.specs.declared.replies.Give.TheVariants as gives
use Rattle.ak_messages.specs.declared.replies.Reply.{Reply}
use Rattle.ak_messages.specs.declared.requests.Request.{Request}
use Rattle.ak_protocol.specs.Accounts.{AccountState}
use Rattle.ak_protocol.specs.Logs.{Event, World, Log, opened, world_after, events_of}
use Rattle.ak_protocol.specs.Replies.{granted, meta_reply}
use Rattle.ak_protocol.specs.Sessions.{IsFresh, IsMetaOrOther, IsOwnOrOther}

-- the world of an account that was opened so, after the log
abbrev pub world_of : List ℕ → AccountState → Log → World
world_of host account log = world_after (opened account) (events_of host log.events)

-- of this session key nothing but metas came to the account of this host key, which was opened so
pub record IsUnused (host : List ℕ) (key : ℕ) (account : AccountState) (log : Log) : Type 0 where
  pub opening : log.opening host ≡ Some account
  pub fresh : IsFresh key (opened account)
  pub metas : AllByRecursion (IsMetaOrOther key) (events_of host log.events)

-- a sync with this key has its meta answered, over this collection: the events before that place are such that the key is unused, and
-- all that came after it with this key is of the sync
pub record IsUnderWay (host : List ℕ) (key : ℕ) (plan : List Request) (base : Collection)
    (account : AccountState) (log : Log) : Type 0 where
  pub opening : log.opening host ≡ Some account
  pub fresh : IsFresh key (opened account)
  pub first : List Event
  pub later : List Event
  pub events : first ++ later ≡ log.events
  pub metas : AllByRecursion (IsMetaOrOther key) (events_of host first)
  pub base_is : (world_after (opened account) (events_of host first)).state.committed ≡ base
  pub own : AllByRecursion (IsOwnOrOther key plan base.head.moment) (events_of host later)

-- a granted meta: over which collection it was answered and when, what it tells of it, and from there on its sync is under way
pub record IsOpened (request : Request) (account : AccountState) (log : Log) (reply : Reply) : Type 0 where
  pub base : Collection
  pub now : ℤ
  pub timely : IsClockMoment now
  pub told : reply ≡ granted (gives.Meta (meta_reply base.head now))
  pub under_way : IsUnderWay request.host.digits request.session.0 [] base account log
