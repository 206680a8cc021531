-- What a server has of an account.
use Rattle.std.specs.Option.{unwrap_or}
use Rattle.std.specs.Prelude.{ℕ, ◌==◌, ◌&&◌, if◌then◌else◌, Bool, List, length, Option, Some, None}
use Rattle.ak_keep.specs.Collections.{Collection}
use Rattle.ak_messages.specs.declared.methods.Method.{Method}
use Rattle.ak_messages.specs.declared.replies.Reply.{Reply}
use Rattle.ak_messages.specs.declared.requests.Request.{Request}
use Rattle.ak_protocol.specs.Replies.{download_reply}
use Rattle.ak_session.specs.Requests.{asked_method, same_method}

-- a session, whose base is the moment of the committed collection
pub record SessionState : Type 0 where
  -- the session key of its meta
  pub key : ℕ
  -- the requests that it accepted since its meta, in order
  pub accepted : List Request

-- the last step of a session: its meta has the step 0, and each request that it accepts has one step more
abbrev pub last_step : SessionState → ℕ
last_step session = length session.accepted

-- the reply to the request that an account accepted last since a meta came, which is given again if the request is repeated
pub record KeptReply : Type 0 where
  pub key : ℕ
  pub step : ℕ
  pub method : Method
  -- none for a download, which reads the committed collection again
  pub reply : Option Reply

-- an account: the collection that is committed, the session that is live, and the reply that is kept
pub record AccountState : Type 0 where
  pub committed : Collection
  pub live : Option SessionState
  pub kept : Option KeptReply

-- whether a request has the session key, step and method of the kept reply
abbrev pub is_repeat : KeptReply → Request → Bool
is_repeat kept request =
    (kept.key == request.session.0) && (kept.step == request.step) && same_method kept.method (asked_method request.ask)

-- the kept reply, if the request is a repeat
abbrev pub repeated : Option KeptReply → Request → Option KeptReply
repeated None request = None
repeated (Some kept) request = if is_repeat kept request then Some kept else None

-- what a repeat is given, while this collection is committed
abbrev pub given_again : Collection → KeptReply → Reply
given_again committed kept = unwrap_or kept.reply (download_reply committed)

-- the live session, if it has this key
abbrev pub session_of : Option SessionState → ℕ → Option SessionState
session_of None key = None
session_of (Some session) key = if session.key == key then Some session else None

-- the account once a view read it: the session is over, and nothing else changed
abbrev pub viewed : AccountState → AccountState
viewed s = record s { live = None }
