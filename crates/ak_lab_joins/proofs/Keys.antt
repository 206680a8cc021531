-- What comes in a session, and between its calls, leaves the keys of later sessions unused, and uploads nothing if nothing was uploaded.
use Rattle.std.specs.List.{AllByRecursion}
use Rattle.std.specs.Prelude.{◌≡◌, ◌≢◌, ℕ, zero, suc, ℤ, ◌+◌, ◌<◌, ◌≤◌, Bool, true, false, List, [], ◌∷◌, ◌++◌, Result}
use Rattle.std.proofs.Common.{refl, sym, ap, subst, ◌∙◌, inl, inr, arith}
use Rattle.ak_client.specs.declared.outcomes.Outcome.{Outcome}
use Rattle.ak_client_wire.specs.Tries.{AreCallsOf, MadeCall, calls_of}
use Rattle.ak_client_wire.specs.declared.wires.WireEnd.{WireEnd}
use Rattle.ak_exchange.specs.Asked.{TriedAsk, answers_in, asker, asks_in}
use Rattle.ak_exchange.specs.Grants.{SendsRows}
use Rattle.ak_exchange.specs.declared.envelopes.Ids.{Ids}
use Rattle.ak_lab_devices.specs.declared.devices.Device.{Device}
use Rattle.ak_lab_devices.specs.declared.plans.Act.{Act}
use Rattle.ak_lab_devices.specs.declared.plans.Act.TheVariants as acts
use Rattle.ak_lab_joins.proofs.Level.{GrowsUnder, further_under, nothing_under}
use Rattle.ak_lab_joins.proofs.NoUploads.{asked_no_upload, past_uploads_none}
use Rattle.ak_lab_joins.proofs.Resent.{GrowsAgain, all_metas, grows_again}
use Rattle.ak_lab_joins.proofs.SchemasStay.{IsNoUpload}
use Rattle.ak_lab_joins.specs.LabJoins.{HasNoUpload}
use Rattle.ak_lab_wires.proofs.Between.{crossed_key, named_asked}
use Rattle.ak_lab_wires.proofs.Keeping.{KeepsOn, all_served_keep, calls_keep, turns_keep}
use Rattle.ak_lab_wires.specs.LabSessions.{IsSessionOver, lab_host, sent_by}
use Rattle.ak_lab_wires.specs.Replaying.{ReplaysAt, ReplaysBy, ReplaysOne, replays_nothing}
use Rattle.ak_lab_wires.specs.Servings.{AreServed, ServesAgain, requests_in, with_line, with_served}
use Rattle.ak_lab_wires.specs.Turns.{due}
use Rattle.ak_lab_wires.specs.declared.lab_sessions.SessionKind.TheVariants as kinds
use Rattle.ak_lab_wires.specs.declared.replayed_requests.Replays.{Replays}
use Rattle.ak_messages.specs.declared.methods.Method.{Method}
use Rattle.ak_messages.specs.declared.methods.Method.TheVariants as methods
use Rattle.ak_messages.specs.declared.replies.Reply.{Reply}
use Rattle.ak_messages.specs.declared.requests.Ask.{Ask}
use Rattle.ak_messages.specs.declared.requests.Ask.TheVariants as asks
use Rattle.ak_messages.specs.declared.requests.Request.{Request}
use Rattle.ak_protocol.proofs.Commits.{not_both}
use Rattle.ak_protocol.proofs.ContentLaws.{some_of_all}
use Rattle.ak_protocol.proofs.Syncs.{all_append, all_front, events_leave_unused}
use Rattle.ak_protocol.specs.Logs.{Asked, Event, HasAsked, Log, with_growth}
use Rattle.ak_protocol.specs.Sessions.{IsMetaOrOther}
use Rattle.ak_protocol.specs.Syncs.{IsUnused}
use Rattle.ak_session.specs.Plans.{requests_from}
use Rattle.ak_session.specs.Requests.{asked_method}
use Rattle.ak_sync_in_memory.proofs.Logging.{events_append}
use Rattle.ak_sync_in_memory.specs.Betweens.{ActEnd}
use Rattle.ak_sync_in_memory.specs.Entries.{LoggedState, entry_of, log_in, log_with, setback_of}
use Rattle.ak_sync_in_memory.specs.LoggedServers.{IsServed}
use Rattle.ak_sync_in_memory.specs.declared.logs.Entry.{Entry}
use Rattle.ak_sync_in_memory.specs.declared.logs.Logged.{Logged}
use Rattle.ak_sync_in_memory.specs.declared.logs.Logged.TheVariants as logged
use Rattle.ak_sync_in_memory.specs.declared.mishaps.Mishap.{Mishap}

-- a request that uploads nothing
abbrev pub UploadsNone : Request → Type 0
UploadsNone request = asked_method request.ask ≢ methods.Upload

-- ---- what a log has of them
pub append_none : (entries more : List Entry) → AllByRecursion UploadsNone (requests_in entries) → AllByRecursion UploadsNone (requests_in more)
    → AllByRecursion UploadsNone (requests_in (entries ++ more))
append_none [] more all rest = rest
append_none (entry ∷ entries) more all rest = by entry.what (requests_in (entries ++ more)) all (λ later. append_none entries more later rest)
  where
    by : (what : Logged) (longer : List Request) → AllByRecursion UploadsNone (with_served what (requests_in entries))
        → (AllByRecursion UploadsNone (requests_in entries) → AllByRecursion UploadsNone longer) → AllByRecursion UploadsNone (with_served what longer)
    by (logged.Served other moment came) longer all rest = (all.0, rest all.1)
    by logged.Viewed longer all rest = rest all

pub served_none : (old new : LoggedState) (request : Request) (at : ℤ) (reply : Reply) → UploadsNone request → IsServed old new request at reply → HasNoUpload old → HasNoUpload new
served_none old new request at reply one is none =
    subst HasNoUpload (sym is.adds) (append_none old.entries (entry_of old.line (logged.Served request at is.trouble) ∷ []) none (one, tt))

pub asked_none : (past : List Event) → AllByRecursion IsNoUpload past → (requests : List Request) → AllByRecursion (HasAsked past) requests → AllByRecursion UploadsNone requests
asked_none past none [] asked = tt
asked_none past none (request ∷ requests) asked = (asked_no_upload past request none asked.0, asked_none past none requests asked.1)

abbrev StaysNone : {X : Type 0} → X → X → LoggedState → LoggedState → Type 0
StaysNone x y old new = HasNoUpload old → HasNoUpload new

keeps_none : {X : Type 0} → KeepsOn (StaysNone {X = X})
keeps_none = record { same = λ x s none. none; further = λ x y z a b c one two none. two (one none) }

pub all_served_none : (requests : List Request) (replies : List Reply) (at : ℤ) (old new : LoggedState) → AllByRecursion UploadsNone requests → AreServed requests at old new replies
    → HasNoUpload old → HasNoUpload new
all_served_none requests replies at old new all are =
    all_served_keep (StaysNone {X = ℤ}) keeps_none UploadsNone at (λ x a b request reply one is. served_none a b request at reply one is) requests replies at old new all are

-- ---- the calls of a session
-- a request of this session uploads nothing
abbrev pub IsOwnRequest : ℕ → Request → Type 0
IsOwnRequest key request = (request.session.0 ≡ key) × UploadsNone request

abbrev pub AreOwnCalls : ℕ → List MadeCall → Type 0
AreOwnCalls key calls = AllByRecursion (λ (it : MadeCall). IsOwnRequest key it.request) calls

abbrev is_upload : Method → Bool
is_upload methods.Upload = true
is_upload method = false

no_upload : (method : Method) → is_upload method ≡ false → method ≢ methods.Upload
no_upload method is same = not_both (ap is_upload same) is

rows_none : (ask : Ask) → SendsRows ask → asked_method ask ≢ methods.Upload
rows_none asks.Meta rows = no_upload methods.Meta refl
rows_none (asks.Start min_usn lmod) rows = no_upload methods.Start refl
rows_none (asks.ApplyGraves ids) rows = no_upload methods.ApplyGraves refl
rows_none (asks.ApplyChanges changes) rows = no_upload methods.ApplyChanges refl
rows_none asks.Chunk rows = no_upload methods.Chunk refl
rows_none (asks.ApplyChunk chunk) rows = no_upload methods.ApplyChunk refl
rows_none (asks.SanityCheck2 counts) rows = no_upload methods.SanityCheck2 refl
rows_none asks.Finish rows = no_upload methods.Finish refl
rows_none (asks.Upload whole) rows = absurd rows
rows_none asks.Download rows = no_upload methods.Download refl

requests_none : (ids : Ids) (moment : ℤ) (step : ℕ) (asked : List Ask) → AllByRecursion SendsRows asked → AllByRecursion UploadsNone (requests_from (asker ids) moment step asked)
requests_none ids moment step [] rows = tt
requests_none ids moment step (ask ∷ more) rows = (rows_none ask rows.0, requests_none ids moment (step + 1) more rows.1)

tries_none : (n : ℕ) (request : Request) (answer : Result Reply WireEnd) → UploadsNone request → AllByRecursion (λ (it : MadeCall). UploadsNone it.request) (calls_of n request answer)
tries_none zero request answer one = tt
tries_none (suc zero) request answer one = (one, tt)
tries_none (suc (suc n)) request answer one = (one, tries_none (suc n) request answer one)

calls_none : (requests : List Request) (answers : List (Result Reply WireEnd)) (calls : List MadeCall) → AllByRecursion UploadsNone requests → AreCallsOf requests answers calls
    → AllByRecursion (λ (it : MadeCall). UploadsNone it.request) calls
calls_none [] [] calls all are = subst (λ (l : List MadeCall). AllByRecursion (λ (it : MadeCall). UploadsNone it.request) l) (sym are) tt
calls_none [] (answer ∷ answers) calls all are = absurd are
calls_none (request ∷ requests) [] calls all are = absurd are
calls_none (request ∷ requests) (answer ∷ answers) calls all are =
    subst (λ (l : List MadeCall). AllByRecursion (λ (it : MadeCall). UploadsNone it.request) l) (sym are.3)
    (all_append (λ (it : MadeCall). UploadsNone it.request) (calls_of are.0 request answer) are.1 (tries_none are.0 request answer all.0)
    (calls_none requests answers are.1 all.1 are.4))

both_own : (key : ℕ) (calls : List MadeCall) → AllByRecursion (λ (it : MadeCall). it.request.session.0 ≡ key) calls
    → AllByRecursion (λ (it : MadeCall). UploadsNone it.request) calls → AreOwnCalls key calls
both_own key [] keys none = tt
both_own key (it ∷ calls) keys none = ((keys.0, none.0), both_own key calls keys.1 none.1)

-- what was asked after a meta is of the session of that
pub own_calls : (key : ℕ) (ids : Ids) (moment : ℤ) (tries : List TriedAsk) (answers : List (Result Reply WireEnd)) (calls : List MadeCall) → ids.session.0 ≡ key
    → AllByRecursion SendsRows (asks_in tries) → AreCallsOf (sent_by ids moment tries) answers calls → AreOwnCalls key calls
own_calls key ids moment tries answers calls own rows are =
    both_own key calls (crossed_key key ids moment tries answers calls own are)
    (calls_none (sent_by ids moment tries) answers calls (rows_none asks.Meta tt, requests_none ids moment 1 (asks_in tries) rows) are)

module _ (sessions : ℕ) where
  abbrev pub Under : {X : Type 0} → X → X → LoggedState → LoggedState → Type 0
  Under x y old new = GrowsUnder sessions old new

  pub keeps_under : {X : Type 0} → KeepsOn (Under {X = X})
  keeps_under = record { same = λ x s. nothing_under sessions s; further = λ x y z a b c one two. further_under sessions a b c one two }

  -- a server that is the same
  same_under : (old new : LoggedState) → new ≡ old → GrowsUnder sessions old new
  same_under old new is = subst (λ (s : LoggedState). GrowsUnder sessions old s) (sym is) (nothing_under sessions old)

  -- ---- a request of a session that began
  pub served_under : (key : ℕ) (at : ℤ) → key ≤ sessions → (old new : LoggedState) (request : Request) (reply : Reply) → IsOwnRequest key request
      → IsServed old new request at reply → GrowsUnder sessions old new
  served_under key at past old new request reply own is =
      let event : Event = Asked request at (setback_of is.trouble) in
      let grown : log_in new ≡ with_growth (log_in old) (event ∷ []) =
      ap log_in is.adds ∙ ap (log_with old.host old.opening) (events_append old.host old.entries (entry_of old.line (logged.Served request at is.trouble) ∷ [])) in
      record {
        host = ap (λ (s : LoggedState). s.host) is.adds;
        growth = event ∷ [];
        grown = grown;
        unused = λ account other over unused. subst (λ (log : Log). IsUnused lab_host other account log) (sym grown)
            (events_leave_unused lab_host other account (log_in old) unused (event ∷ [])
            (some_of_all (IsMetaOrOther other) lab_host (event ∷ []) ((λ same. absurd (never key other past over (sym own.0 ∙ same))), tt)));
        uploads = served_none old new request at reply own.1 is;
      }
    where
      never : (a b : ℕ) → a ≤ sessions → sessions < b → a ≡ b → ⊥
      never a b low high is = omega (arith, low, high, is)

  -- ---- requests of the log
  pub again_under : (from count line : ℕ) (at : ℤ) (old new : LoggedState) (came : ActEnd) → ServesAgain from count line at old new came → GrowsUnder sessions old new
  again_under from count line at old new came (inl nothing) = same_under old new nothing.0
  again_under from count line at old new came (inr it) =
      let past : List Event = (log_in old).events in
      let asked : AllByRecursion (HasAsked past) (it.front.served ++ it.front.left) =
      subst (λ (l : List Request). AllByRecursion (HasAsked past) l) it.front.parts (named_asked from count old) in
      let grows : GrowsAgain past (with_line line old) it.reached =
      grows_again past at it.clock it.front.served it.front.replies (with_line line old) it.reached
      (all_front (HasAsked past) it.front.served it.front.left asked) it.front.serves in
      let grown : log_in new ≡ with_growth (log_in old) grows.growth = ap log_in it.back ∙ grows.grown in
      record {
        host = ap (λ (s : LoggedState). s.host) it.back ∙ grows.host;
        growth = grows.growth;
        grown = grown;
        unused = λ account other over unused. subst (λ (log : Log). IsUnused lab_host other account log) (sym grown)
            (events_leave_unused lab_host other account (log_in old) unused grows.growth (all_metas other lab_host past grows.growth unused.metas grows.again));
        uploads = λ none. subst HasNoUpload (sym it.back)
            (all_served_none it.front.served it.front.replies at (with_line line old) it.reached
            (asked_none past (past_uploads_none old.host old.entries none) it.front.served (all_front (HasAsked past) it.front.served it.front.left asked)) it.front.serves none);
      }

  replay_under : (act : Act) (line : ℕ) (at : ℤ) (old new : LoggedState) (came : ActEnd) → ReplaysBy act line at old new came → GrowsUnder sessions old new
  replay_under (acts.Cross name) line at old new came it = same_under old new it.0
  replay_under (acts.Replay from count) line at old new came it = again_under from count line at old new came it

  replays_under : (call session : ℕ) (x y : Replays) (a b : LoggedState) (came : ActEnd) → ReplaysAt call session x y a b came → Under x y a b
  replays_under call session x y a b came it =
      turns_keep (Under {X = ℤ}) keeps_under ReplaysOne (λ one p q c d end acted. replay_under one.act one.line p c d end acted.1)
      (due call x.acts) x.at x.at a b came it.1

  -- ---- a sync that only requests of the log cross
  pub session_under : (key : ℕ) (at : ℤ) (moments : List ℤ) (mishaps : List Mishap) (d made : Device) (was became : Replays) (old new : LoggedState) (outcome : Outcome) → key ≤ sessions
      → IsSessionOver ReplaysAt replays_nothing kinds.Sync key at moments mishaps d made was became old new outcome → GrowsUnder sessions old new
  session_under key at moments mishaps d made was became old new outcome past ran =
      calls_keep Under keeps_under (IsOwnRequest key) at
      (λ x a b request reply own served. served_under key at past a b request reply own served)
      ReplaysAt replays_nothing replays_under mishaps 0 ran.calls was became old new
      (own_calls key ran.ids ran.ended.ended.sync.asked.moment ran.ended.ended.sync.asked.tries (ran.ended.ended.sync.asked.meta ∷ answers_in ran.ended.ended.sync.asked.tries) ran.calls ran.of.session ran.ended.ended.sync.bounded.rows ran.asked)
      ran.come
