-- Where nothing was uploaded, each commit is the finish of a sync: so requests that are sent again leave the server's schema moment.
use Rattle.std.specs.List.{AllByRecursion}
use Rattle.std.specs.Prelude.{◌≡◌, ◌≢◌, ◌⊎◌, ℕ, ℤ, Bool, true, false, if◌then◌else◌, List, [], ◌∷◌, ◌++◌}
use Rattle.std.proofs.Common.{refl, sym, ap, subst, ◌∙◌, inl, inr, append_assoc}
use Rattle.std.proofs.lemmas.List.{append_cancel_right}
use Rattle.ak_io.specs.Arrivals.{IsClockMoment}
use Rattle.ak_lab.specs.LabPlans.{Resends}
use Rattle.ak_lab.specs.LabStates.{LabState}
use Rattle.ak_lab_joins.proofs.Level.{finishes_fresh, schema_led}
use Rattle.ak_lab_joins.proofs.Resent.{GrowsAgain, IsRepeat, resent_grows}
use Rattle.ak_lab_joins.proofs.SchemasStay.{IsNoUpload}
use Rattle.ak_lab_joins.proofs.Worlds.{world_grown}
use Rattle.ak_lab_joins.specs.LabJoins.{HasFreshCommits, HasNoUpload, IsFinish, IsLinkedLab, lab_world, world_in}
use Rattle.ak_lab_wires.specs.LabSessions.{lab_host}
use Rattle.ak_lab_wires.specs.Servings.{requests_in, with_served}
use Rattle.ak_sync_in_memory.specs.Entries.{LoggedState, event_of, events_in, log_in}
use Rattle.ak_sync_in_memory.specs.declared.logs.Entry.{Entry}
use Rattle.ak_sync_in_memory.specs.declared.logs.Logged.{Logged}
use Rattle.ak_sync_in_memory.specs.declared.logs.Logged.TheVariants as logged
use Rattle.ak_messages.specs.declared.requests.Ask.{Ask}
use Rattle.ak_messages.specs.declared.requests.Ask.TheVariants as asks
use Rattle.ak_messages.specs.declared.methods.Method.{Method}
use Rattle.ak_messages.specs.declared.methods.Method.TheVariants as methods
use Rattle.ak_messages.specs.declared.requests.Request.{Request}
use Rattle.ak_protocol.proofs.Commits.{commits_lead_on, not_both, only_commits_change}
use Rattle.ak_protocol.proofs.ContentLaws.{lawful_served, some_of_all, what_came}
use Rattle.ak_protocol.proofs.Syncs.{all_append, all_back}
use Rattle.ak_protocol.specs.Accounts.{AccountState}
use Rattle.ak_protocol.specs.Commits.{CommitsGrow, EachNewer}
use Rattle.ak_protocol.specs.LawfulServers.{IsLawfulAccount}
use Rattle.ak_protocol.specs.Logs.{Asked, Commit, Event, HasAsked, IsTimely, Log, View, World, commit_by, events_of, with_growth, world_after, world_next}
use Rattle.ak_protocol.specs.Serving.{Setback, served}
use Rattle.ak_protocol.specs.Syncs.{world_of}
use Rattle.ak_session.specs.Asks.{all_brought, asks_of}
use Rattle.ak_session.specs.Requests.{asked_method}

-- ---- what comes again
pub past_uploads_none : (host : List ℕ) (entries : List Entry) → AllByRecursion (λ (r : Request). asked_method r.ask ≢ methods.Upload) (requests_in entries)
    → AllByRecursion IsNoUpload (events_in host entries)
past_uploads_none host [] all = tt
past_uploads_none host (entry ∷ entries) all = by_what entry.what (λ later. past_uploads_none host entries later) all
  where
    by_what : (what : Logged) → (AllByRecursion (λ (r : Request). asked_method r.ask ≢ methods.Upload) (requests_in entries) → AllByRecursion IsNoUpload (events_in host entries))
        → AllByRecursion (λ (r : Request). asked_method r.ask ≢ methods.Upload) (with_served what (requests_in entries))
        → AllByRecursion IsNoUpload (event_of host what ∷ events_in host entries)
    by_what (logged.Served request now trouble) rest all = (all.0, rest all.1)
    by_what logged.Viewed rest all = (tt, rest all)

pub asked_no_upload : (past : List Event) (request : Request) → AllByRecursion IsNoUpload past → HasAsked past request → asked_method request.ask ≢ methods.Upload
asked_no_upload [] request all asked = absurd asked
asked_no_upload (View host ∷ past) request all asked = asked_no_upload past request all.1 asked
asked_no_upload (Asked other now setback ∷ past) request all (inl is) = subst (λ (r : Request). asked_method r.ask ≢ methods.Upload) is all.0
asked_no_upload (Asked other now setback ∷ past) request all (inr asked) = asked_no_upload past request all.1 asked

again_no_upload : (past growth : List Event) → AllByRecursion IsNoUpload past → AllByRecursion (IsRepeat past) growth → AllByRecursion IsNoUpload growth
again_no_upload past [] all again = tt
again_no_upload past (View host ∷ growth) all again = (tt, again_no_upload past growth all again.1)
again_no_upload past (Asked request now setback ∷ growth) all again =
    (asked_no_upload past request all again.0, again_no_upload past growth all again.1)

-- ---- what it commits
abbrev is_finish : Method → Bool
is_finish methods.Finish = true
is_finish method = false

finish_asked : (ask : Ask) → is_finish (asked_method ask) ≡ true → ask ≡ asks.Finish
finish_asked asks.Meta is = absurd (not_both is refl)
finish_asked (asks.Start min_usn lmod) is = absurd (not_both is refl)
finish_asked (asks.ApplyGraves ids) is = absurd (not_both is refl)
finish_asked (asks.ApplyChanges changes) is = absurd (not_both is refl)
finish_asked asks.Chunk is = absurd (not_both is refl)
finish_asked (asks.ApplyChunk chunk) is = absurd (not_both is refl)
finish_asked (asks.SanityCheck2 counts) is = absurd (not_both is refl)
finish_asked asks.Finish is = refl
finish_asked (asks.Upload whole) is = absurd (not_both is refl)
finish_asked asks.Download is = absurd (not_both is refl)

-- some commits more, each of which is a finish
abbrev MakesFinishes : World → World → Type 0
MakesFinishes old new = (newer : List Commit) × (new.commits ≡ newer ++ old.commits) × AllByRecursion IsFinish newer

-- the commit of a request that is no upload is one
module _ (s : AccountState) (request : Request) (now : ℤ) (setback : Setback) (timely : IsClockMoment now) (lawful : IsLawfulAccount s)
    (other : asked_method request.ask ≢ methods.Upload) where
  commit_finish : (served s request now setback).is_commit ≡ true → IsFinish (commit_by request s (served s request now setback))
  commit_finish is = by_method ((only_commits_change s request now setback).asked is)
    where
      by_method : (asked_method request.ask ≡ methods.Finish) ⊎ (asked_method request.ask ≡ methods.Upload) → IsFinish (commit_by request s (served s request now setback))
      by_method (inl finish) =
          let came = what_came s request now timely lawful setback is in
          (all_brought (asks_of came.session.accepted), came.finish (finish_asked request.ask (ap is_finish finish)))
      by_method (inr upload) = absurd (other upload)

one_finish : (w : World) (request : Request) (now : ℤ) (setback : Setback) → IsClockMoment now → IsLawfulAccount w.state
    → asked_method request.ask ≢ methods.Upload → MakesFinishes w (world_next w (Asked request now setback))
one_finish w request now setback timely lawful other =
    elim (served w.state request now setback).is_commit as (λ b. (served w.state request now setback).is_commit ≡ b
    → (newer : List Commit)
    × ((if b then commit_by request w.state (served w.state request now setback) ∷ w.commits else w.commits) ≡ newer ++ w.commits)
    × AllByRecursion IsFinish newer) [
      | true ↦ λ is.
          (commit_by request w.state (served w.state request now setback) ∷ [], refl, (commit_finish w.state request now setback timely lawful other is, tt))
      | false ↦ λ is. ([], refl, tt)
    ] refl

finishes_after : (w : World) (events : List Event) → AllByRecursion IsTimely events → IsLawfulAccount w.state → AllByRecursion IsNoUpload events
    → MakesFinishes w (world_after w events)
finishes_after w [] timely lawful none = ([], refl, tt)
finishes_after w (View host ∷ events) timely lawful none =
    let more = finishes_after (world_next w (View host)) events timely.1 (record { committed = lawful.committed; session = tt; reply = lawful.reply }) none.1 in
    (more.0, more.1, more.2)
finishes_after w (Asked request now setback ∷ events) timely lawful none =
    let next : World = world_next w (Asked request now setback) in
    let first : MakesFinishes w next = one_finish w request now setback timely.0 lawful none.0 in
    let more : MakesFinishes next (world_after next events) =
    finishes_after next events timely.1 (lawful_served w.state request now timely.0 lawful setback) none.1 in (
      more.0 ++ first.0,
      more.1 ∙ ap (λ (l : List Commit). more.0 ++ l) first.1 ∙ sym (append_assoc more.0 first.0 w.commits),
      all_append IsFinish more.0 first.0 more.2 first.2,
    )

each_finish : (old new : World) → MakesFinishes old new → EachNewer IsFinish old new
each_finish old new more newer is =
    subst (AllByRecursion IsFinish) (append_cancel_right more.0 newer old.commits (sym more.1 ∙ is)) more.2

-- so it is of a server that got such events, none of which is an upload
pub only_finishes : (account : AccountState) (old new : LoggedState) (growth : List Event) → log_in new ≡ with_growth (log_in old) growth → AllByRecursion IsTimely growth
    → IsLawfulAccount (world_in lab_host account old).state → AllByRecursion IsNoUpload growth
    → EachNewer IsFinish (world_in lab_host account old) (world_in lab_host account new)
only_finishes account old new growth grown timely lawful none =
    let was : World = world_in lab_host account old in
    each_finish was (world_in lab_host account new)
    (subst (λ (w : World). MakesFinishes was w) (sym (ap (world_of lab_host account) grown ∙ world_grown lab_host account (log_in old) growth))
    (finishes_after was (events_of lab_host growth) (some_of_all IsTimely lab_host growth timely) lawful (some_of_all IsNoUpload lab_host growth none)))

-- none of what came to a server is an upload, if none of its requests is
pub none_came : (old new : LoggedState) (growth : List Event) → log_in new ≡ with_growth (log_in old) growth → HasNoUpload new → AllByRecursion IsNoUpload growth
none_came old new growth grown none =
    all_back IsNoUpload (log_in old).events growth
    (subst (AllByRecursion IsNoUpload) (ap (λ (log : Log). log.events) grown) (past_uploads_none new.host new.entries none))

-- ---- the lab
pub resent_finishes : (account : AccountState) (from count : ℕ) (s t : LabState) (printed : List (List ℕ)) → IsLinkedLab account s → HasNoUpload s.server
    → Resends from count s t printed → EachNewer IsFinish (lab_world account s) (lab_world account t)
resent_finishes account from count s t printed linked none resends =
    let grows : GrowsAgain (log_in s.server).events s.server t.server = resent_grows from count s t printed resends in
    only_finishes account s.server t.server grows.growth grows.grown grows.timely linked.server.lawful
    (again_no_upload (log_in s.server).events grows.growth (past_uploads_none s.server.host s.server.entries none) grows.again)

pub resent_fresh : (account : AccountState) (from count : ℕ) (s t : LabState) (printed : List (List ℕ)) → IsLinkedLab account s → HasNoUpload s.server
    → Resends from count s t printed → HasFreshCommits account s t
resent_fresh account from count s t printed linked none resends name c holds newer is =
    finishes_fresh c newer (resent_finishes account from count s t printed linked none resends newer is)

-- they leave the server's schema moment
pub resent_schema : (account : AccountState) (from count : ℕ) (s t : LabState) (printed : List (List ℕ)) → IsLinkedLab account s → HasNoUpload s.server
    → Resends from count s t printed → (lab_world account t).state.committed.head.schema ≡ (lab_world account s).state.committed.head.schema
resent_schema account from count s t printed linked none resends =
    let grows : GrowsAgain (log_in s.server).events s.server t.server = resent_grows from count s t printed resends in
    let was : World = lab_world account s in
    let leads : CommitsGrow was (lab_world account t) =
    subst (λ (w : World). CommitsGrow was w) (sym (ap (world_of lab_host account) grows.grown ∙ world_grown lab_host account (log_in s.server) grows.growth))
    (commits_lead_on was (events_of lab_host grows.growth)) in
    schema_led was.state.committed (lab_world account t).state.committed leads.newer leads.lead
    (resent_finishes account from count s t printed linked none resends leads.newer leads.grown)
