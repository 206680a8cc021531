-- Requests none of which is an upload leave the server's schema moment.
use Rattle.std.specs.List.{AllByRecursion}
use Rattle.std.specs.Prelude.{◌≡◌, ◌≢◌, ◌+◌, ℕ, ℤ, Bool, true, false, List, [], ◌∷◌, ◌++◌, ⊤}
use Rattle.std.proofs.Common.{refl, sym, ap, subst, ◌∙◌, inl, append_assoc}
use Rattle.std.proofs.lemmas.List.{append_cancel_right}
use Rattle.ak_exchange.specs.Grants.{SendsRows}
use Rattle.ak_keep.specs.Collections.{Collection}
use Rattle.ak_lab_joins.proofs.Worlds.{ComesSo}
use Rattle.ak_messages.specs.declared.methods.Method.{Method}
use Rattle.ak_messages.specs.declared.methods.Method.TheVariants as methods
use Rattle.ak_messages.specs.declared.requests.Ask.{Ask}
use Rattle.ak_messages.specs.declared.requests.Ask.TheVariants as asks
use Rattle.ak_messages.specs.declared.requests.Request.{Request}
use Rattle.ak_protocol.proofs.Cases.{by_cases}
use Rattle.ak_protocol.proofs.Commits.{not_both}
use Rattle.ak_protocol.proofs.Syncs.{all_append}
use Rattle.ak_protocol.specs.Commits.{EachNewer, HasFreshSchema}
use Rattle.ak_protocol.specs.Logs.{Asked, Commit, Event, View, World, world_after, world_next, world_served}
use Rattle.ak_protocol.specs.Serving.{Setback}
use Rattle.ak_session.proofs.CommitLaws.{finishes_commit}
use Rattle.ak_session.specs.Contents.{closed}
use Rattle.ak_session.specs.Plans.{Asker, requests_from}
use Rattle.ak_session.specs.Requests.{asked_method, asks_commit}

-- an event is no upload
abbrev pub IsNoUpload : Event → Type 0
IsNoUpload (View host) = ⊤
IsNoUpload (Asked request now setback) = asked_method request.ask ≢ methods.Upload

-- ---- what a sync asks
abbrev is_upload : Method → Bool
is_upload methods.Upload = true
is_upload method = false

-- it uploads no collection
pub no_upload : (ask : Ask) → SendsRows ask → asked_method ask ≢ methods.Upload
no_upload (asks.Upload whole) sends is = absurd sends
no_upload asks.Meta sends is = absurd (not_both (ap is_upload is) refl)
no_upload (asks.Start min_usn lmod) sends is = absurd (not_both (ap is_upload is) refl)
no_upload (asks.ApplyGraves ids) sends is = absurd (not_both (ap is_upload is) refl)
no_upload (asks.ApplyChanges changes) sends is = absurd (not_both (ap is_upload is) refl)
no_upload asks.Chunk sends is = absurd (not_both (ap is_upload is) refl)
no_upload (asks.ApplyChunk chunk) sends is = absurd (not_both (ap is_upload is) refl)
no_upload (asks.SanityCheck2 counts) sends is = absurd (not_both (ap is_upload is) refl)
no_upload asks.Finish sends is = absurd (not_both (ap is_upload is) refl)
no_upload asks.Download sends is = absurd (not_both (ap is_upload is) refl)

pub none_uploads : (who : Asker) (base : ℤ) (step : ℕ) (list : List Ask) → AllByRecursion SendsRows list
    → AllByRecursion (ComesSo IsNoUpload) (requests_from who base step list)
none_uploads who base step [] all = tt
none_uploads who base step (ask ∷ more) all = ((λ now setback. no_upload ask all.0), none_uploads who base (step + 1) more all.1)

-- ---- what is committed
-- what commits and is no upload is a finish
pub finish_alone : (ask : Ask) → asks_commit ask ≡ true → asked_method ask ≢ methods.Upload → ask ≡ asks.Finish
finish_alone asks.Meta commits other = absurd (not_both commits refl)
finish_alone (asks.Start min_usn lmod) commits other = absurd (not_both commits refl)
finish_alone (asks.ApplyGraves ids) commits other = absurd (not_both commits refl)
finish_alone (asks.ApplyChanges changes) commits other = absurd (not_both commits refl)
finish_alone asks.Chunk commits other = absurd (not_both commits refl)
finish_alone (asks.ApplyChunk chunk) commits other = absurd (not_both commits refl)
finish_alone (asks.SanityCheck2 counts) commits other = absurd (not_both commits refl)
finish_alone asks.Finish commits other = refl
finish_alone (asks.Upload whole) commits other = absurd (other refl)
finish_alone asks.Download commits other = absurd (not_both commits refl)

-- some commits more, each of which leaves the schema moment or takes a fresh one
abbrev MakesFresh : Collection → World → World → Type 0
MakesFresh c old new = (newer : List Commit) × (new.commits ≡ newer ++ old.commits) × AllByRecursion (HasFreshSchema c) newer

one_fresh : (c : Collection) (w : World) (request : Request) (now : ℤ) → asked_method request.ask ≢ methods.Upload
    → (setback : Setback) → MakesFresh c w (world_next w (Asked request now setback))
one_fresh c w request now other = by_cases w.state request now (λ it. MakesFresh c w (world_served w request it)) (record {
  strikes = λ reply failed. ([], refl, tt);
  begins = λ _. ([], refl, tt);
  repeats = λ kept is repeat later. ([], refl, tt);
  refuses_it = λ why. ([], refl, tt);
  goes_on = λ session next none goes. ([], refl, tt);
  stops = λ session next none. ([], refl, tt);
  finishes = λ session next commits.
      let commit : Commit = record { key = request.session.0; before = w.state.committed; after = closed w.state.committed session.accepted request now } in
      let finish = finishes_commit w.state.committed session.accepted request now (finish_alone request.ask commits other) in
      (commit ∷ [], refl, (inl finish.schema, tt));
})

fresh_after : (c : Collection) (w : World) (events : List Event) → AllByRecursion IsNoUpload events → MakesFresh c w (world_after w events)
fresh_after c w [] none = ([], refl, tt)
fresh_after c w (View host ∷ events) none = let more = fresh_after c (world_next w (View host)) events none.1 in (more.0, more.1, more.2)
fresh_after c w (Asked request now setback ∷ events) none =
    let next : World = world_next w (Asked request now setback) in
    let first : MakesFresh c w next = one_fresh c w request now none.0 setback in
    let more : MakesFresh c next (world_after next events) = fresh_after c next events none.1 in (
      more.0 ++ first.0,
      more.1 ∙ ap (λ (l : List Commit). more.0 ++ l) first.1 ∙ sym (append_assoc more.0 first.0 w.commits),
      all_append (HasFreshSchema c) more.0 first.0 more.2 first.2,
    )

-- so each of their commits leaves it, or takes a fresh one
pub schemas_stay : (c : Collection) (w : World) (events : List Event) → AllByRecursion IsNoUpload events → EachNewer (HasFreshSchema c) w (world_after w events)
schemas_stay c w events none newer is =
    let more = fresh_after c w events none in
    subst (AllByRecursion (HasFreshSchema c)) (append_cancel_right more.0 newer w.commits (sym more.1 ∙ is)) more.2
