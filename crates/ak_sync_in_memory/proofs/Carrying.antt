-- What a call of the wire makes of the log is what the protocol lets come while its request is under way.
use Rattle.std.specs.List.{AllByRecursion}
use Rattle.std.specs.Prelude.{ℕ, zero, suc, ℤ, Bool, List, [], ◌∷◌, ◌++◌, Result, Ok, Err, IfOk}
use Rattle.std.proofs.Common.{refl, sym, ap, subst, ◌∙◌, inl, inr, append_assoc}
use Rattle.std.proofs.lemmas.List.{append-nil}
use Rattle.ak_client_wire.specs.Wires.{GrowsByServings, IsServing}
use Rattle.ak_client_wire.specs.declared.wires.WireEnd.{WireEnd}
use Rattle.ak_client_wire.specs.declared.wires.WireEnd.TheVariants as ends
use Rattle.ak_io.specs.Arrivals.{IsClockMoment}
use Rattle.ak_messages.specs.declared.replies.Reply.{Reply}
use Rattle.ak_messages.specs.declared.requests.Request.{Request}
use Rattle.ak_protocol.proofs.Syncs.{all_append, tries_are_one_growth, tries_reply}
use Rattle.ak_protocol.specs.Logs.{Asked, Event, Grows, IsGrowth, IsReplyIn, Log, MayCome, View, server_after, with_growth}
use Rattle.ak_protocol.specs.Servers.{server_served}
use Rattle.ak_sync_in_memory.proofs.Logging.{events_append}
use Rattle.ak_sync_in_memory.specs.Betweens.{ActEnd, ComesBetween, MayComeBetween}
use Rattle.ak_sync_in_memory.specs.Entries.{LoggedState, entry_of, events_in, log_in, log_with, server_opened, setback_of}
use Rattle.ak_sync_in_memory.specs.LoggedServers.{IsServed}
use Rattle.ak_sync_in_memory.specs.LoopWires.{Fares, FaresAfter, ServesInARow, ServesUpTo}
use Rattle.ak_sync_in_memory.specs.Mishaps.{is_lost, servings}
use Rattle.ak_sync_in_memory.specs.declared.logs.Logged.TheVariants as logged
use Rattle.ak_sync_in_memory.specs.declared.mishaps.Mishap.{Mishap}

-- ---- growths
abbrev Grown : Log → Log → Request → Result Reply WireEnd → Type 0
Grown old new request result = Grows old new request result

grows_on : (old mid new : Log) (request : Request) (first result : Result Reply WireEnd) → Grown old mid request first → Grown mid new request result
    → Grown old new request result
grows_on old mid new request first result one two = record {
  growth = one.growth ++ two.growth;
  grown = two.grown ∙ ap (λ (log : Log). with_growth log two.growth) one.grown
      ∙ ap (λ (events : List Event). record { opening = old.opening; events = events }) (append_assoc old.events one.growth two.growth);
  may = tries_are_one_growth request old one.growth two.growth one.may
      (subst (λ (log : Log). IsGrowth log request two.growth) one.grown two.may);
  reply = reply_of result two.reply;
}
  where
    reply_of : (answer : Result Reply WireEnd) → IfOk answer (IsReplyIn mid two.growth request)
        → IfOk answer (IsReplyIn old (one.growth ++ two.growth) request)
    reply_of (Ok reply) place = tries_reply request old one.growth two.growth reply
        (subst (λ (log : Log). IsReplyIn log two.growth request reply) one.grown place)
    reply_of (Err end) place = tt

-- the same growth, whatever became of the reply
unanswered : (old new : Log) (request : Request) (result : Result Reply WireEnd) (end : WireEnd) → Grown old new request result
    → Grown old new request (Err end)
unanswered old new request result end grows = record { growth = grows.growth; grown = grows.grown; may = grows.may; reply = tt }

grows_nowhere : (log : Log) (request : Request) (end : WireEnd) → Grown log log request (Err end)
grows_nowhere log request end = record {
  growth = [];
  grown = ap (λ (events : List Event). record { opening = log.opening; events = events }) (sym (append-nil log.events));
  may = tt;
  reply = tt;
}

-- ---- before the request
may_come : (past : List Event) (request : Request) (event : Event) → MayComeBetween past request.session.0 event → MayCome past request event
may_come past request (View host) may = tt
may_come past request (Asked other now setback) may = (may.0, λ same own. inr (may.1 own))

all_come : (past : List Event) (request : Request) (events : List Event) → AllByRecursion (MayComeBetween past request.session.0) events
    → AllByRecursion (MayCome past request) events
all_come past request [] all = tt
all_come past request (event ∷ events) all = (may_come past request event all.0, all_come past request events all.1)

before_grows : (old new : LoggedState) (request : Request) (end : WireEnd) → ComesBetween request.session.0 old new
    → Grown (log_in old) (log_in new) request (Err end)
before_grows old new request end before = record {
  growth = before.growth;
  grown = before.grown;
  may = all_come (log_in old).events request before.growth before.may;
  reply = tt;
}

-- ---- the request
served_grows : (old new : LoggedState) (request : Request) (now : ℤ) (reply : Reply) → IsClockMoment now → IsServed old new request now reply
    → Grown (log_in old) (log_in new) request (Ok reply)
served_grows old new request now reply clock is = record {
  growth = Asked request now (setback_of is.trouble) ∷ [];
  grown = ap log_in is.adds
      ∙ ap (log_with old.host old.opening) (events_append old.host old.entries (entry_of old.line (logged.Served request now is.trouble) ∷ []));
  may = ((clock, λ same own. inl refl), tt);
  reply = record {
    before = [];
    after = [];
    now = now;
    setback = setback_of is.trouble;
    place = refl;
    is = ap (λ (events : List Event). (server_served (server_after (server_opened old.host old.opening) events) request now (setback_of is.trouble)).reply)
        (append-nil (events_in old.host old.entries)) ∙ is.reply_is;
  };
}

in_a_row_grows : (n : ℕ) (old new : LoggedState) (request : Request) (now : ℤ) (reply : Reply) → IsClockMoment now
    → ServesInARow n old new request now reply → Grown (log_in old) (log_in new) request (Ok reply)
in_a_row_grows zero old new request now reply clock row = absurd row
in_a_row_grows (suc zero) old new request now reply clock row = served_grows old new request now reply clock row
in_a_row_grows (suc (suc n)) old new request now reply clock row =
    grows_on (log_in old) (log_in row.0) (log_in new) request (Ok row.1) (Ok reply) (served_grows old row.0 request now row.1 clock row.2)
    (in_a_row_grows (suc n) row.0 new request now reply clock row.3)

-- that growth is servings of the request alone
row_is_servings : (n : ℕ) (old new : LoggedState) (request : Request) (now : ℤ) (reply : Reply) (clock : IsClockMoment now)
    (row : ServesInARow n old new request now reply)
    → AllByRecursion (IsServing request) (in_a_row_grows n old new request now reply clock row).growth
unfolding in_a_row_grows served_grows grows_on
row_is_servings zero old new request now reply clock row = absurd row
row_is_servings (suc zero) old new request now reply clock row = (refl, tt)
row_is_servings (suc (suc n)) old new request now reply clock row =
    all_append (IsServing request) (served_grows old row.0 request now row.1 clock row.2).growth
    (in_a_row_grows (suc n) row.0 new request now reply clock row.3).growth (refl, tt)
    (row_is_servings (suc n) row.0 new request now reply clock row.3)

pub row_brings : (n : ℕ) (old new : LoggedState) (request : Request) (now : ℤ) (reply : Reply) → IsClockMoment now
    → ServesInARow n old new request now reply → GrowsByServings (log_in old) (log_in new) request
row_brings n old new request now reply clock row =
    let grows = in_a_row_grows n old new request now reply clock row in
    record { growth = grows.growth; grown = grows.grown; servings = row_is_servings n old new request now reply clock row }

up_to_grows : (n : ℕ) (old new : LoggedState) (request : Request) (now : ℤ) (end : WireEnd) → IsClockMoment now
    → ServesUpTo n old new request now → Grown (log_in old) (log_in new) request (Err end)
up_to_grows zero old new request now end clock same =
    subst (λ (s : LoggedState). Grown (log_in old) (log_in s) request (Err end)) (sym same) (grows_nowhere (log_in old) request end)
up_to_grows (suc n) old new request now end clock row =
    unanswered (log_in old) (log_in new) request (Ok row.0) end (in_a_row_grows (suc n) old new request now row.0 clock row.1)

fares_grows : (lost : Bool) (times : ℕ) (old new : LoggedState) (request : Request) (now : ℤ) (result : Result Reply WireEnd) → IsClockMoment now
    → Fares lost times old new request now result → Grown (log_in old) (log_in new) request result
fares_grows lost times old new request now (Ok reply) clock fares = in_a_row_grows times old new request now reply clock fares.1
fares_grows lost times old new request now (Err ends.Failed) clock fares = up_to_grows times old new request now ends.Failed clock fares.1
fares_grows lost times old new request now (Err ends.BadReply) clock fares = absurd fares
fares_grows lost times old new request now (Err ends.Memory) clock fares = up_to_grows fares.0 old new request now ends.Memory clock fares.2

fares_after_grows : (came : ActEnd) (call : ℕ) (mishaps : List Mishap) (old new : LoggedState) (request : Request) (now : ℤ) (result : Result Reply WireEnd)
    → IsClockMoment now → FaresAfter came call mishaps old new request now result → Grown (log_in old) (log_in new) request result
fares_after_grows (Ok done) call mishaps old new request now result clock fares =
    fares_grows (is_lost call mishaps) (servings call mishaps) old new request now result clock fares
fares_after_grows (Err end) call mishaps old new request now result clock fares =
    subst (λ (r : Result Reply WireEnd). Grown (log_in old) (log_in new) request r) (sym fares.0)
    (up_to_grows 0 old new request now ends.Memory clock fares.1)

pub both_grow : (came : ActEnd) (call : ℕ) (mishaps : List Mishap) (old met new : LoggedState) (request : Request) (now : ℤ) (result : Result Reply WireEnd)
    → IsClockMoment now → ComesBetween request.session.0 old met → FaresAfter came call mishaps met new request now result
    → Grown (log_in old) (log_in new) request result
both_grow came call mishaps old met new request now result clock before fares =
    grows_on (log_in old) (log_in met) (log_in new) request (Err ends.Memory) result (before_grows old met request ends.Memory before)
    (fares_after_grows came call mishaps met new request now result clock fares)
