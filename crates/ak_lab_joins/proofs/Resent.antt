-- Requests of the log that are sent again leave all devices linked with the server.
use Rattle.std.specs.List.{AllByRecursion}
use Rattle.std.specs.Prelude.{◌≡◌, ℕ, ℤ, pos, ◌<ℤ◌, ◌+ℤ◌, Bool, true, false, if◌then◌else◌, List, [], ◌∷◌, Some, ⊤}
use Rattle.std.proofs.Common.{refl, sym, ap, subst, ◌∙◌, inl, inr, append_assoc, append-nil, arith}
use Rattle.std.proofs.lemmas.Int.{ints}
use Rattle.std.proofs.lemmas.List.Elements.{All-weaker}
use Rattle.ak_edit.specs.Steps.{reversals_in}
use Rattle.ak_io.specs.Arrivals.{IsClockMoment}
use Rattle.ak_keep.specs.Collections.{Collection}
use Rattle.ak_lab.specs.LabPlans.{Resends}
use Rattle.ak_lab.specs.LabStates.{LabState}
use Rattle.ak_lab_devices.specs.Devices.{device_of}
use Rattle.ak_lab_devices.specs.declared.devices.Device.{Device}
use Rattle.ak_lab_joins.proofs.Synced.{holds_is}
use Rattle.ak_lab_joins.proofs.Worlds.{world_grown}
use Rattle.ak_lab_joins.specs.LabJoins.{HasFreshCommits, IsLinkedDevice, IsLinkedLab, IsLinkedServer, world_in}
use Rattle.ak_lab_wires.proofs.Between.{named_asked}
use Rattle.ak_lab_wires.specs.LabSessions.{lab_host}
use Rattle.ak_lab_wires.specs.Servings.{AreServed, named_from, requests_in}
use Rattle.ak_merge.specs.Edits.{Reversal}
use Rattle.ak_merge.specs.Links.{AreLinked}
use Rattle.ak_merge.specs.Undoing.{StepFits}
use Rattle.ak_messages.specs.declared.replies.Reply.{Reply}
use Rattle.ak_messages.specs.declared.requests.Request.{Request}
use Rattle.ak_protocol.proofs.Commits.{commits_lead_on}
use Rattle.ak_protocol.proofs.ContentLaws.{commits_are_made, fits_stay, lawful_stays_lawful, links_stay, some_of_all}
use Rattle.ak_protocol.proofs.Syncs.{events_leave_unused}
use Rattle.ak_protocol.specs.Accounts.{AccountState}
use Rattle.ak_protocol.specs.Commits.{CommitsGrow, EachNewer, HasFreshSchema, IsMade, Leads}
use Rattle.ak_protocol.specs.LawfulServers.{IsLawfulAccount}
use Rattle.ak_protocol.specs.Logs.{Asked, Commit, Event, HasAsked, IsTimely, Log, View, World, events_of, with_growth, world_after}
use Rattle.ak_protocol.specs.Servers.{same_host}
use Rattle.ak_protocol.specs.Serving.{Setback}
use Rattle.ak_protocol.specs.Sessions.{IsMetaOrOther}
use Rattle.ak_protocol.specs.Syncs.{IsUnused, world_of}
use Rattle.ak_sync_in_memory.proofs.Logging.{events_append}
use Rattle.ak_sync_in_memory.specs.Entries.{LoggedState, entry_of, events_in, log_in, log_with, setback_of}
use Rattle.ak_sync_in_memory.specs.LoggedServers.{IsServed}
use Rattle.ak_sync_in_memory.specs.declared.logs.Logged.TheVariants as logged

-- ---- what comes
-- an event is a request that came before
abbrev pub IsRepeat : List Event → Event → Type 0
IsRepeat past (View host) = ⊤
IsRepeat past (Asked request now setback) = HasAsked past request

-- the log grew by such requests, at moments of a clock
pub record GrowsAgain (past : List Event) (old new : LoggedState) : Type 0 where
  pub host : new.host ≡ old.host
  pub growth : List Event
  pub grown : log_in new ≡ with_growth (log_in old) growth
  pub timely : AllByRecursion IsTimely growth
  pub again : AllByRecursion (IsRepeat past) growth

pub grows_again : (past : List Event) (at : ℤ) → IsClockMoment at → (requests : List Request) (replies : List Reply) (old new : LoggedState)
    → AllByRecursion (HasAsked past) requests → AreServed requests at old new replies → GrowsAgain past old new
grows_again past at clock [] replies old new all are = record {
  host = ap (λ (z : LoggedState). z.host) are.0;
  growth = [];
  grown = ap log_in are.0 ∙ ap (log_with old.host old.opening) (sym (append-nil (events_in old.host old.entries)));
  timely = tt;
  again = tt;
}
grows_again past at clock (request ∷ requests) [] old new all are = absurd are
grows_again past at clock (request ∷ requests) (reply ∷ replies) old new all are =
    let mid : LoggedState = are.0 in
    let is : IsServed old mid request at reply = are.1 in
    let event : Event = Asked request at (setback_of is.trouble) in
    let first : log_in mid ≡ with_growth (log_in old) (event ∷ []) =
    ap log_in is.adds
    ∙ ap (log_with old.host old.opening) (events_append old.host old.entries (entry_of old.line (logged.Served request at is.trouble) ∷ [])) in
    let rest : GrowsAgain past mid new = grows_again past at clock requests replies mid new all.1 are.2 in
    record {
      host = rest.host ∙ ap (λ (z : LoggedState). z.host) is.adds;
      growth = event ∷ rest.growth;
      grown = rest.grown ∙ ap (λ (log : Log). with_growth log rest.growth) first
          ∙ ap (λ (events : List Event). record (log_in old) { events = events }) (append_assoc (log_in old).events (event ∷ []) rest.growth);
      timely = (clock, rest.timely);
      again = (all.0, rest.again);
    }

-- ---- the keys
module _ (key : ℕ) (host : List ℕ) where
  -- a request that came before and has a key that no session has yet is a meta
  meta_again : (past : List Event) (request : Request) (now : ℤ) (setback : Setback) → AllByRecursion (IsMetaOrOther key) (events_of host past) → HasAsked past request
      → same_host host request.host.digits ≡ true → IsMetaOrOther key (Asked request now setback)
  meta_again [] request now setback all asked own = absurd asked
  meta_again (View other ∷ past) request now setback all asked own =
      elim (same_host host other) as (λ b. AllByRecursion (IsMetaOrOther key) (if b then View other ∷ events_of host past else events_of host past) → IsMetaOrOther key (Asked request now setback)) [
        | true ↦ λ parts. meta_again past request now setback parts.1 asked own
        | false ↦ λ parts. meta_again past request now setback parts asked own
      ] all
  meta_again (Asked other earlier trouble ∷ past) request now setback all (inl is) own =
      let here : same_host host other.host.digits ≡ true = ap (λ (r : Request). same_host host r.host.digits) is ∙ own in
      let parts : AllByRecursion (IsMetaOrOther key) (Asked other earlier trouble ∷ events_of host past) =
      subst (λ (b : Bool). AllByRecursion (IsMetaOrOther key) (if b then Asked other earlier trouble ∷ events_of host past else events_of host past)) here all in
      subst (λ (r : Request). IsMetaOrOther key (Asked r now setback)) is parts.0
  meta_again (Asked other earlier trouble ∷ past) request now setback all (inr asked) own =
      elim (same_host host other.host.digits) as (λ b. AllByRecursion (IsMetaOrOther key) (if b then Asked other earlier trouble ∷ events_of host past else events_of host past) → IsMetaOrOther key (Asked request now setback)) [
        | true ↦ λ parts. meta_again past request now setback parts.1 asked own
        | false ↦ λ parts. meta_again past request now setback parts asked own
      ] all

  pub all_metas : (past growth : List Event) → AllByRecursion (IsMetaOrOther key) (events_of host past) → AllByRecursion (IsRepeat past) growth
      → AllByRecursion (IsMetaOrOther key) (events_of host growth)
  all_metas past [] metas all = tt
  all_metas past (View other ∷ growth) metas all =
      elim (same_host host other) as (λ b. AllByRecursion (IsMetaOrOther key) (if b then View other ∷ events_of host growth else events_of host growth)) [
        | true ↦ (tt, all_metas past growth metas all.1)
        | false ↦ all_metas past growth metas all.1
      ]
  all_metas past (Asked request now setback ∷ growth) metas all =
      elim (same_host host request.host.digits) as (λ b. same_host host request.host.digits ≡ b
      → AllByRecursion (IsMetaOrOther key) (if b then Asked request now setback ∷ events_of host growth else events_of host growth)) [
        | true ↦ λ own. (meta_again past request now setback metas all.0 own, all_metas past growth metas all.1)
        | false ↦ λ own. all_metas past growth metas all.1
      ] refl

-- ---- the number
pub number_led : (first last : Collection) (newer : List Commit) → Leads first newer last → AllByRecursion IsMade newer → pos 0 <ℤ first.head.usn → pos 0 <ℤ last.head.usn
number_led first last [] lead made low = subst (λ (c : Collection). pos 0 <ℤ c.head.usn) (sym lead) low
number_led first last (commit ∷ newer) lead made low =
    let before : pos 0 <ℤ commit.before.head.usn = number_led first commit.before newer lead.2 made.1 low in
    subst (λ (c : Collection). pos 0 <ℤ c.head.usn) (sym lead.0) (by before made.0)
  where
    up : (a b : ℤ) → pos 0 <ℤ a → b ≡ a +ℤ pos 1 → pos 0 <ℤ b
    up a b low is = omega (arith, ints, low, is)

    one : (a : ℤ) → a ≡ pos 1 → pos 0 <ℤ a
    one a is = omega (arith, ints, is)

    by : pos 0 <ℤ commit.before.head.usn → IsMade commit → pos 0 <ℤ commit.after.head.usn
    by before (inl (came, finish)) = up commit.before.head.usn commit.after.head.usn before finish.commits.usn
    by before (inr (came, upload)) = one commit.after.head.usn upload.uploads.usn

-- ---- the lab
pub resent_grows : (from count : ℕ) (s t : LabState) (printed : List (List ℕ)) → Resends from count s t printed → GrowsAgain (log_in s.server).events s.server t.server
resent_grows from count s t printed resends =
    grows_again (log_in s.server).events s.clock resends.clock (named_from from count (requests_in s.server.entries)) resends.replies s.server t.server
    (named_asked from count s.server) resends.serves

module _ (account : AccountState) (from count : ℕ) (s t : LabState) (printed : List (List ℕ)) (linked : IsLinkedLab account s) (resends : Resends from count s t printed)
    (fresh : HasFreshCommits account s t) where
  grows : GrowsAgain (log_in s.server).events s.server t.server
  grows = resent_grows from count s t printed resends

  abbrev was : World
  was = world_in lab_host account s.server

  abbrev is_now : World
  is_now = world_in lab_host account t.server

  own_timely : AllByRecursion IsTimely (events_of lab_host grows.growth)
  own_timely = some_of_all IsTimely lab_host grows.growth grows.timely

  grown : is_now ≡ world_after was (events_of lab_host grows.growth)
  grown = ap (world_of lab_host account) grows.grown ∙ world_grown lab_host account (log_in s.server) grows.growth

  lawful : IsLawfulAccount is_now.state
  lawful =
      subst (λ (w : World). IsLawfulAccount w.state) (sym grown) (lawful_stays_lawful was (events_of lab_host grows.growth) own_timely linked.server.lawful)

  made : EachNewer IsMade was is_now
  made = subst (EachNewer IsMade was) (sym grown) (commits_are_made was (events_of lab_host grows.growth) own_timely linked.server.lawful)

  leads : CommitsGrow was is_now
  leads = subst (λ (w : World). CommitsGrow was w) (sym grown) (commits_lead_on was (events_of lab_host grows.growth))

  server_now : IsLinkedServer lab_host account s.sessions t.server
  server_now = record {
    host_is = grows.host ∙ linked.server.host_is;
    unused = λ key over. subst (λ (log : Log). IsUnused lab_host key account log) (sym grows.grown)
        (events_leave_unused lab_host key account (log_in s.server) (linked.server.unused key over) grows.growth
        (all_metas key lab_host (log_in s.server).events grows.growth (linked.server.unused key over).metas grows.again));
    lawful = lawful;
    number = number_led was.state.committed is_now.state.committed leads.newer leads.lead (made leads.newer leads.grown) linked.server.number;
  }

  -- ---- a device
  linked_now : (c : Collection) → EachNewer (HasFreshSchema c) was is_now → AreLinked c was.state.committed → AreLinked c is_now.state.committed
  linked_now c each is =
      subst (λ (w : World). AreLinked c w.state.committed) (sym grown)
      (links_stay was (events_of lab_host grows.growth) c own_timely linked.server.lawful (subst (EachNewer (HasFreshSchema c) was) grown each) is)

  fits_now : (c : Collection) (step : Reversal) → EachNewer (HasFreshSchema c) was is_now → StepFits c step was.state.committed → StepFits c step is_now.state.committed
  fits_now c step each fits =
      subst (λ (w : World). StepFits c step w.state.committed) (sym grown)
      (fits_stay was (events_of lab_host grows.growth) c step (subst (EachNewer (HasFreshSchema c) was) grown each) fits)

  device_now : (name : List ℕ) (d : Device) → device_of name s.devices ≡ Some d → IsLinkedDevice is_now.state.committed d
  device_now name d found =
      let it : IsLinkedDevice was.state.committed d = linked.devices name d found in
      let each : EachNewer (HasFreshSchema it.c) was is_now = fresh name it.c (d, found, holds_is d it.c it.holds) in
      record {
        c = it.c;
        holds = it.holds;
        named = it.named;
        links = record {
          linked = linked_now it.c each it.links.linked;
          fit = All-weaker (λ step. StepFits it.c step was.state.committed) (λ step. StepFits it.c step is_now.state.committed)
              (λ step. fits_now it.c step each) (reversals_in d.undo) it.links.fit;
        };
        suits = it.suits;
      }

  pub resent_linked_now : IsLinkedLab account (record s { server = t.server })
  resent_linked_now = record { server = server_now; names = linked.names; devices = device_now }

pub resent_linked : (account : AccountState) (from count : ℕ) (s t : LabState) (printed : List (List ℕ)) → IsLinkedLab account s → Resends from count s t printed
    → HasFreshCommits account s t → IsLinkedLab account t
resent_linked account from count s t printed linked resends fresh =
    subst (IsLinkedLab account) (sym resends.left) (resent_linked_now account from count s t printed linked resends fresh)
