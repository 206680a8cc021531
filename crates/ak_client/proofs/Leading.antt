-- What commits one after the other keep.
use Rattle.std.specs.List.{AllByRecursion}
use Rattle.std.specs.Prelude.{◌≡◌, ◌==◌, ℕ, ℤ, ◌<ℤ◌, Bool, true, false, cond, List, [], ◌∷◌, ◌++◌}
use Rattle.std.proofs.Common.{refl, sym, ap, subst, ◌∙◌, append_assoc, append-nil, inl, inr, arith}
use Rattle.std.proofs.lemmas.Int.{ints}
use Rattle.std.proofs.lemmas.List.Elements.{filter-append}
use Rattle.ak_keep.specs.Collections.{Collection}
use Rattle.ak_merge.proofs.CommitLaws.{commits_keep_links, commits_stay_lawful}
use Rattle.ak_merge.proofs.Transfers.{uploads_are_lawful}
use Rattle.ak_merge.specs.Commits.{IsCommitted}
use Rattle.ak_merge.specs.Links.{AreLinked}
use Rattle.ak_protocol.proofs.Commits.{commits_lead_on}
use Rattle.ak_protocol.proofs.ContentLaws.{commits_are_made}
use Rattle.ak_protocol.proofs.Syncs.{all_back, all_front}
use Rattle.ak_protocol.specs.Commits.{CommitsGrow, EachNewer, HasFreshSchema, IsMade, Leads}
use Rattle.ak_protocol.specs.LawfulServers.{IsLawfulAccount}
use Rattle.ak_protocol.specs.Logs.{Commit, Event, World, IsTimely, commits_of, world_after}

-- what holds of each commit that was made since holds of those that were made up to a place in between
pub newer_of_front : (P : Commit → Type 0) (w : World) (front rest : List Event)
    → EachNewer P w (world_after (world_after w front) rest) → EachNewer P w (world_after w front)
newer_of_front P w front rest each newer is =
    let more : CommitsGrow (world_after w front) (world_after (world_after w front) rest) = commits_lead_on (world_after w front) rest in
    all_back P more.newer newer
    (each (more.newer ++ newer) (more.grown ∙ ap (λ (l : List Commit). more.newer ++ l) is ∙ sym (append_assoc more.newer newer w.commits)))

not_below_itself : (a : ℤ) → a <ℤ a → ⊥
not_below_itself a low = omega (arith, ints, low)

-- one commit keeps what a server may hold
committed_by : (commit : Commit) → IsCommitted commit.before → IsMade commit → IsCommitted commit.after
committed_by commit before (inl (came, finish)) = commits_stay_lawful came commit.before commit.after finish.commits finish.in_range before
committed_by commit before (inr (came, upload)) = uploads_are_lawful came commit.before commit.after upload.uploads upload.in_range before

-- and keeps a device linked, if it does not give just that device's schema moment
linked_by : (c : Collection) (commit : Commit) → IsCommitted commit.before → IsMade commit → HasFreshSchema c commit
    → AreLinked c commit.before → AreLinked c commit.after
linked_by c commit before (inl (came, finish)) fresh linked =
    commits_keep_links came c commit.before commit.after finish.commits before.named before.head.usn.low linked
linked_by c commit before (inr (came, upload)) (inl same) linked =
    absurd (not_below_itself commit.before.head.schema (subst (λ (moment : ℤ). commit.before.head.schema <ℤ moment) same upload.uploads.schema))
linked_by c commit before (inr (came, upload)) (inr other) linked = inl other

-- commits that lead from one collection to another keep a device linked
pub leads_keep_links : (c first : Collection) (commits : List Commit) (last : Collection) → Leads first commits last
    → AllByRecursion IsMade commits → AllByRecursion (HasFreshSchema c) commits → IsCommitted first → AreLinked c first
    → IsCommitted last × AreLinked c last
leads_keep_links c first [] last lead made fresh lawful linked =
    (subst IsCommitted (sym lead) lawful, subst (AreLinked c) (sym lead) linked)
leads_keep_links c first (commit ∷ more) last lead made fresh lawful linked =
    let earlier = leads_keep_links c first more commit.before lead.2 made.1 fresh.1 lawful linked in (
      subst IsCommitted (sym lead.0) (committed_by commit earlier.0 made.0),
      subst (AreLinked c) (sym lead.0) (linked_by c commit earlier.0 made.0 fresh.0 earlier.1),
    )

-- ---- one commit among others
-- commits lead on from each of them
leads_on : (first : Collection) (later : List Commit) (one : Commit) (earlier : List Commit) (last : Collection)
    → Leads first (later ++ one ∷ earlier) last → Leads one.after later last
leads_on first [] one earlier last lead = lead.0
leads_on first (commit ∷ more) one earlier last lead = (lead.0, lead.1, leads_on first more one earlier commit.before lead.2)

-- and up to each
leads_up_to : (first : Collection) (later : List Commit) (one : Commit) (earlier : List Commit) (last : Collection)
    → Leads first (later ++ one ∷ earlier) last → Leads first (one ∷ earlier) one.after
leads_up_to first [] one earlier last lead = (refl, lead.1, lead.2)
leads_up_to first (commit ∷ more) one earlier last lead = leads_up_to first more one earlier commit.before lead.2

-- a place among commits
abbrev pub HasPlace : Commit → List Commit → Type 0
HasPlace one past = (later : List Commit) × (earlier : List Commit) × (past ≡ later ++ one ∷ earlier)

same_first : (one x : Commit) (xs : List Commit) → x ∷ xs ≡ one ∷ [] → x ≡ one
same_first one x xs is = ap (λ (l : List Commit). elim l as (λ _. Commit) [ [] ↦ one | y ∷ ys ↦ y ]) is

-- the only commit of a session stands at a place among all
one_place : (key : ℕ) (one : Commit) (past : List Commit) → commits_of key past ≡ one ∷ [] → HasPlace one past
one_place key one [] is = absurd (nothing_there one is)
  where
    nothing_there : (one : Commit) → [] ≡ one ∷ [] → ⊥
    nothing_there one is = grind (arith, is)
one_place key one (x ∷ xs) is = by (x.key == key) is (one_place key one xs)
  where
    by : (b : Bool) → cond b (x ∷ commits_of key xs) (commits_of key xs) ≡ one ∷ []
        → (commits_of key xs ≡ one ∷ [] → HasPlace one xs) → HasPlace one (x ∷ xs)
    by true this more = ([], xs, ap (λ (c : Commit). c ∷ xs) (same_first one x (commits_of key xs) this))
    by false this more = let found = more this in (x ∷ found.0, found.1, ap (λ (l : List Commit). x ∷ l) found.2)

fresh_too : (c d : Collection) (commits : List Commit) → d.head.schema ≡ c.head.schema
    → AllByRecursion (HasFreshSchema c) commits → AllByRecursion (HasFreshSchema d) commits
fresh_too c d [] same all = tt
fresh_too c d (commit ∷ more) same all = (by all.0, fresh_too c d more same all.1)
  where
    by : HasFreshSchema c commit → HasFreshSchema d commit
    by (inl stays) = inl stays
    by (inr other) = inr (λ is. other (sym same ∙ is))

-- a device that is linked with what a session's only commit left is linked with what is committed later
pub linked_after : (key : ℕ) (c d : Collection) (one : Commit) (w : World) (events : List Event) → AllByRecursion IsTimely events
    → IsLawfulAccount w.state → EachNewer (HasFreshSchema c) w (world_after w events) → AreLinked c w.state.committed
    → commits_of key w.commits ≡ [] → commits_of key (world_after w events).commits ≡ one ∷ []
    → d.head.schema ≡ c.head.schema → AreLinked d one.after → AreLinked d (world_after w events).state.committed
linked_after key c d one w events timely lawful fresh linked none only same now_linked =
    let grow : CommitsGrow w (world_after w events) = commits_lead_on w events in
    let ours : commits_of key grow.newer ≡ one ∷ [] =
    sym (append-nil (commits_of key grow.newer))
    ∙ ap (λ (l : List Commit). commits_of key grow.newer ++ l) (sym none)
    ∙ sym (filter-append (λ (commit : Commit). commit.key == key) grow.newer w.commits)
    ∙ ap (commits_of key) (sym grow.grown)
    ∙ only in
    let place = one_place key one grow.newer ours in
    let lead : Leads w.state.committed (place.0 ++ one ∷ place.1) (world_after w events).state.committed =
    subst (λ (l : List Commit). Leads w.state.committed l (world_after w events).state.committed) place.2 grow.lead in
    let made : AllByRecursion IsMade (place.0 ++ one ∷ place.1) =
    subst (AllByRecursion IsMade) place.2 (commits_are_made w events timely lawful grow.newer grow.grown) in
    let each : AllByRecursion (HasFreshSchema c) (place.0 ++ one ∷ place.1) =
    subst (AllByRecursion (HasFreshSchema c)) place.2 (fresh grow.newer grow.grown) in
    let up_to = leads_keep_links c w.state.committed (one ∷ place.1) one.after
    (leads_up_to w.state.committed place.0 one place.1 (world_after w events).state.committed lead)
    (all_back IsMade place.0 (one ∷ place.1) made) (all_back (HasFreshSchema c) place.0 (one ∷ place.1) each) lawful.committed linked in
    (leads_keep_links d one.after place.0 (world_after w events).state.committed
    (leads_on w.state.committed place.0 one place.1 (world_after w events).state.committed lead)
    (all_front IsMade place.0 (one ∷ place.1) made)
    (fresh_too c d place.0 same (all_front (HasFreshSchema c) place.0 (one ∷ place.1) each)) up_to.0 now_linked).1
