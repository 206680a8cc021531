-- A committed collection changes at commits alone, and each is later than the one before it.
use Rattle.std.specs.Prelude.{◌≡◌, ℤ, Bool, true, false, List, [], ◌∷◌, ◌++◌, ◌⊎◌}
use Rattle.std.proofs.Common.{refl, sym, subst, ◌∙◌, ap, T, inl, inr, append_assoc}
use Rattle.ak_keep.specs.Collections.{Collection}
use Rattle.ak_messages.specs.declared.methods.Method.TheVariants as methods
use Rattle.ak_messages.specs.declared.requests.Ask.{Ask}
use Rattle.ak_messages.specs.declared.requests.Ask.TheVariants as asks
use Rattle.ak_messages.specs.declared.requests.Request.{Request}
use Rattle.ak_protocol.specs.Accounts.{AccountState}
use Rattle.ak_protocol.specs.Commits.{OnlyCommits, Leads, CommitsGrow}
use Rattle.ak_session.specs.Contents.{closed}
use Rattle.ak_protocol.specs.Logs.{Event, View, Asked, Commit, World, opened, with_commit, world_served, world_next, world_after}
use Rattle.ak_session.specs.Requests.{asked_method, asks_commit}
use Rattle.ak_protocol.specs.Serving.{Setback, Served, served}
use Rattle.ak_session.proofs.CommitLaws.{commits_are_later}
use Rattle.ak_protocol.proofs.Cases.{by_cases}

pub not_both : {b : Bool} → b ≡ true → b ≡ false → ⊥
not_both so other = subst T (sym so ∙ other) tt

-- a request that commits is a finish or an upload
asks_one : (ask : Ask) → asks_commit ask ≡ true → (asked_method ask ≡ methods.Finish) ⊎ (asked_method ask ≡ methods.Upload)
asks_one asks.Meta is = absurd (not_both is refl)
asks_one (asks.Start min_usn lmod) is = absurd (not_both is refl)
asks_one (asks.ApplyGraves ids) is = absurd (not_both is refl)
asks_one (asks.ApplyChanges changes) is = absurd (not_both is refl)
asks_one asks.Chunk is = absurd (not_both is refl)
asks_one (asks.ApplyChunk chunk) is = absurd (not_both is refl)
asks_one (asks.SanityCheck2 counts) is = absurd (not_both is refl)
asks_one asks.Finish is = inl refl
asks_one (asks.Upload whole) is = inr refl
asks_one asks.Download is = absurd (not_both is refl)

-- ---- one request
plain : (s : AccountState) (request : Request) (now : ℤ) (it : Served) → it.is_commit ≡ false → it.next.committed ≡ s.committed → OnlyCommits s request now it
plain s request now it none same = record {
  stays = λ _. same;
  made = λ so. absurd (not_both so none);
  asked = λ so. absurd (not_both so none);
  later = λ so. absurd (not_both so none);
  reply = λ so. absurd (not_both so none);
  over = λ so. absurd (not_both so none);
}

-- only a finish and an upload change the committed collection, and each to one that was changed later
pub only_commits_change : (s : AccountState) (request : Request) (now : ℤ) (setback : Setback) → OnlyCommits s request now (served s request now setback)
only_commits_change s request now = by_cases s request now (OnlyCommits s request now) (record {
  strikes = λ reply failed. plain s request now _ refl refl;
  begins = λ _. plain s request now _ refl refl;
  repeats = λ kept is repeat later. plain s request now _ refl refl;
  refuses_it = λ why. plain s request now _ refl refl;
  goes_on = λ session next none goes. plain s request now _ refl refl;
  stops = λ session next none. plain s request now _ refl refl;
  finishes = λ session next commits. record {
    stays = λ none. absurd (not_both refl none);
    asked = λ _. asks_one request.ask commits;
    made = λ _. (session, next, refl);
    later = λ _. commits_are_later s.committed session.accepted request now;
    reply = λ _. refl;
    over = λ _. refl;
  };
})

-- ---- logs
lead_asked : (first : Collection) (past : List Commit) (s : AccountState) (request : Request) (now : ℤ) → Leads first past s.committed
    → (setback : Setback) → let it = served s request now setback in Leads first (with_commit request s it past) it.next.committed
lead_asked first past s request now lead = by_cases s request now (λ it. Leads first (with_commit request s it past) it.next.committed) (record {
  strikes = λ reply failed. lead;
  begins = λ _. lead;
  repeats = λ kept is repeat later. lead;
  refuses_it = λ why. lead;
  goes_on = λ session next none goes. lead;
  stops = λ session next none. lead;
  finishes = λ session next commits. (refl, commits_are_later s.committed session.accepted request now, lead);
})

lead_next : (first : Collection) (w : World) (event : Event) → Leads first w.commits w.state.committed
    → Leads first (world_next w event).commits (world_next w event).state.committed
lead_next first w (View host) lead = lead
lead_next first w (Asked request now setback) lead = lead_asked first w.commits w.state request now lead setback

lead_on : (first : Collection) (w : World) (events : List Event) → Leads first w.commits w.state.committed
    → Leads first (world_after w events).commits (world_after w events).state.committed
lead_on first w [] lead = lead
lead_on first w (event ∷ events) lead = lead_on first (world_next w event) events (lead_next first w event lead)

-- after any log the committed collection is the last that was committed, and each commit was over the one before it
pub commits_lead : (s : AccountState) (events : List Event)
    → Leads s.committed (world_after (opened s) events).commits (world_after (opened s) events).state.committed
commits_lead s events = lead_on s.committed (opened s) events refl

-- ---- from any world on
leads_append : (first middle last : Collection) (early late : List Commit) → Leads first early middle → Leads middle late last → Leads first (late ++ early) last
leads_append first middle last early [] one other = subst (Leads first early) (sym other) one
leads_append first middle last early (commit ∷ late) one other = (other.0, other.1, leads_append first middle commit.before early late one other.2)

grown_asked : (w : World) (request : Request) (now : ℤ) (setback : Setback) → CommitsGrow w (world_next w (Asked request now setback))
grown_asked w request now = by_cases w.state request now (λ it. CommitsGrow w (world_served w request it)) (record {
  strikes = λ reply failed. record { newer = []; grown = refl; lead = refl };
  begins = λ _. record { newer = []; grown = refl; lead = refl };
  repeats = λ kept is repeat later. record { newer = []; grown = refl; lead = refl };
  refuses_it = λ why. record { newer = []; grown = refl; lead = refl };
  goes_on = λ session next none goes. record { newer = []; grown = refl; lead = refl };
  stops = λ session next none. record { newer = []; grown = refl; lead = refl };
  finishes = λ session next commits. record {
    newer = record { key = request.session.0; before = w.state.committed; after = closed w.state.committed session.accepted request now } ∷ [];
    grown = refl;
    lead = (refl, commits_are_later w.state.committed session.accepted request now, refl);
  };
})

-- from any place of a log on, the newer commits lead from what was committed there
pub commits_lead_on : (w : World) (events : List Event) → CommitsGrow w (world_after w events)
commits_lead_on w [] = record { newer = []; grown = refl; lead = refl }
commits_lead_on w (View host ∷ events) =
    let more = commits_lead_on (world_next w (View host)) events in
    record { newer = more.newer; grown = more.grown; lead = more.lead }
commits_lead_on w (Asked request now setback ∷ events) =
    let middle = world_next w (Asked request now setback) in
    let one = grown_asked w request now setback in
    let more = commits_lead_on middle events in
    record {
      newer = more.newer ++ one.newer;
      grown = more.grown ∙ ap (λ (l : List Commit). more.newer ++ l) one.grown ∙ sym (append_assoc more.newer one.newer w.commits);
      lead = leads_append w.state.committed middle.state.committed (world_after middle events).state.committed one.newer more.newer one.lead more.lead;
    }
