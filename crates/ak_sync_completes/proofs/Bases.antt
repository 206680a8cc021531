-- The collections that are committed one after the other: each has its own moment, which is in its range.
use Rattle.std.specs.List.{AllByRecursion}
use Rattle.std.specs.Prelude.{◌≡◌, ◌⊎◌, ◌==◌, ◌≤ℤ◌, ℕ, pos, true, false, cond, List, [], ◌∷◌, ◌++◌}
use Rattle.std.proofs.Common.{refl, sym, ap, subst, ◌∙◌, inl, inr, arith, append_assoc}
use Rattle.std.proofs.lemmas.Int.{ints}
use Rattle.std.proofs.lemmas.List.Elements.{filter-append}
use Rattle.ak_base.specs.Limits.{last_moment}
use Rattle.ak_client.proofs.Growing.{commits_grown, lawful_grown}
use Rattle.ak_client.specs.Syncs.{world_at}
use Rattle.ak_client_wire.specs.Forms.{is_moment}
use Rattle.ak_keep.specs.Collections.{Collection}
use Rattle.ak_protocol.proofs.Syncs.{all_append, unused_keys_commit_nothing}
use Rattle.ak_protocol.specs.Accounts.{AccountState}
use Rattle.ak_protocol.specs.Commits.{CommitsGrow, Leads}
use Rattle.ak_protocol.specs.LawfulServers.{IsLawfulAccount}
use Rattle.ak_protocol.specs.Logs.{Commit, Event, Log, IsTimely, commits_of, with_growth}
use Rattle.ak_protocol.specs.Syncs.{IsUnused}
use Rattle.ak_session.proofs.Accepting.{between}
use Rattle.ak_session.specs.Plans.{Asker}

-- ---- one collection of each moment
-- commits that lead on make later moments
moments_rise : (first last : Collection) (commits : List Commit) → Leads first commits last → first.head.moment ≤ℤ last.head.moment
moments_rise first last [] leads = grind (arith, ints, ap (λ (k : Collection). k.head.moment) leads)
moments_rise first last (commit ∷ commits) leads =
    let earlier = moments_rise first commit.before commits leads.2 in
    let here = leads.1 in
    let end = ap (λ (k : Collection). k.head.moment) leads.0 in
    grind (arith, ints, earlier, here, end)

-- so at the same moment nothing was committed
pub same_moment : (first last : Collection) (commits : List Commit) → Leads first commits last → last.head.moment ≡ first.head.moment → last ≡ first
same_moment first last [] leads same = leads
same_moment first last (commit ∷ commits) leads same =
    let earlier = moments_rise first commit.before commits leads.2 in
    let here = leads.1 in
    let end = ap (λ (k : Collection). k.head.moment) leads.0 in
    absurd (grind (arith, ints, earlier, here, end, same))

-- of two fronts of one list, one goes on from the other
one_goes_on : (xs ys xs_rest ys_rest : List Event) → xs ++ xs_rest ≡ ys ++ ys_rest
    → ((more : List Event) × (ys ≡ xs ++ more)) ⊎ ((more : List Event) × (xs ≡ ys ++ more))
one_goes_on [] ys xs_rest ys_rest is = inl (ys, refl)
one_goes_on (x ∷ xs) [] xs_rest ys_rest is = inr (x ∷ xs, refl)
one_goes_on (x ∷ xs) (y ∷ ys) xs_rest ys_rest is = by (one_goes_on xs ys xs_rest ys_rest (grind (arith, is)))
  where
    heads : x ≡ y
    heads = grind (arith, is)

    by : ((more : List Event) × (ys ≡ xs ++ more)) ⊎ ((more : List Event) × (xs ≡ ys ++ more))
        → ((more : List Event) × (y ∷ ys ≡ x ∷ (xs ++ more))) ⊎ ((more : List Event) × (x ∷ xs ≡ y ∷ (ys ++ more)))
    by (inl (more, so)) = inl (more, ap (λ (l : List Event). y ∷ l) so ∙ ap (λ (e : Event). e ∷ (xs ++ more)) (sym heads))
    by (inr (more, so)) = inr (more, ap (λ (l : List Event). x ∷ l) so ∙ ap (λ (e : Event). e ∷ (ys ++ more)) heads)

module _ (who : Asker) (account : AccountState) (old : Log) where
  abbrev committed_at : List Event → Collection
  committed_at front = (world_at who account (with_growth old front)).state.committed

  -- what is committed later, at the same moment, is the same
  later_is : (front more : List Event) → (committed_at (front ++ more)).head.moment ≡ (committed_at front).head.moment
      → committed_at (front ++ more) ≡ committed_at front
  later_is front more same =
      let log : with_growth (with_growth old front) more ≡ with_growth old (front ++ more) =
      ap (λ (events : List Event). record old { events = events }) (append_assoc old.events front more) in
      let grown : CommitsGrow (world_at who account (with_growth old front)) (world_at who account (with_growth old (front ++ more))) =
      subst (λ (l : Log). CommitsGrow (world_at who account (with_growth old front)) (world_at who account l)) log
      (commits_grown who account (with_growth old front) more) in
      same_moment (committed_at front) (committed_at (front ++ more)) grown.newer grown.lead same

  -- two collections that were committed at places of one growth, and have one moment, are one
  pub one_base : (xs ys xs_rest ys_rest : List Event) (one other : Collection) → xs ++ xs_rest ≡ ys ++ ys_rest
      → committed_at xs ≡ one → committed_at ys ≡ other → one.head.moment ≡ other.head.moment → one ≡ other
  one_base xs ys xs_rest ys_rest one other is at_one at_other moments = by (one_goes_on xs ys xs_rest ys_rest is)
    where
      same : (committed_at xs).head.moment ≡ (committed_at ys).head.moment
      same = ap (λ (k : Collection). k.head.moment) at_one ∙ moments ∙ ap (λ (k : Collection). k.head.moment) (sym at_other)

      by : ((more : List Event) × (ys ≡ xs ++ more)) ⊎ ((more : List Event) × (xs ≡ ys ++ more)) → one ≡ other
      by (inl (more, so)) =
          sym at_one
          ∙ sym (later_is xs more (ap (λ (l : List Event). (committed_at l).head.moment) (sym so) ∙ sym same))
          ∙ ap committed_at (sym so)
          ∙ at_other
      by (inr (more, so)) =
          sym at_one
          ∙ ap committed_at so
          ∙ later_is ys more (ap (λ (l : List Event). (committed_at l).head.moment) (sym so) ∙ same)
          ∙ at_other

-- ---- moments in their range
-- what a commit made has a moment in its range
abbrev pub IsTimedCommit : Commit → Type 0
IsTimedCommit commit = is_moment commit.after.head.moment ≡ true

-- commits between two collections whose moments are in their range
each_timed : (first last : Collection) (commits : List Commit) → Leads first commits last → pos 0 ≤ℤ first.head.moment
    → last.head.moment ≤ℤ last_moment → AllByRecursion IsTimedCommit commits
each_timed first last [] leads low high = tt
each_timed first last (commit ∷ more) leads low high =
    let earlier = moments_rise first commit.before more leads.2 in
    let here = leads.1 in
    let end = ap (λ (k : Collection). k.head.moment) leads.0 in
    let least : pos 0 ≤ℤ commit.after.head.moment = grind (arith, ints, earlier, here, low) in
    let most : commit.after.head.moment ≤ℤ last_moment = grind (arith, ints, end, high) in
    let before_most : commit.before.head.moment ≤ℤ last_moment = grind (arith, ints, here, most) in (
      between (pos 0) last_moment commit.after.head.moment (record { low = least; high = most }),
      each_timed first commit.before more leads.2 low before_most,
    )

-- what holds of all commits holds of those of a session
all_of_session : (P : Commit → Type 0) (key : ℕ) (commits : List Commit) → AllByRecursion P commits → AllByRecursion P (commits_of key commits)
all_of_session P key [] all = tt
all_of_session P key (commit ∷ more) all =
    elim (commit.key == key) as (λ b. AllByRecursion P (cond b (commit ∷ commits_of key more) (commits_of key more))) [
      | true ↦ (all.0, all_of_session P key more all.1)
      | false ↦ all_of_session P key more all.1
    ]

-- a session that was unused commits at moments in their range
commits_are_timed : (who : Asker) (account : AccountState) (old : Log) (growth : List Event) → IsUnused who.host.digits who.session.0 account old
    → IsLawfulAccount (world_at who account old).state → AllByRecursion IsTimely growth
    → AllByRecursion IsTimedCommit (commits_of who.session.0 (world_at who account (with_growth old growth)).commits)
commits_are_timed who account old growth unused lawful timely =
    let key : ℕ = who.session.0 in
    let grown : CommitsGrow (world_at who account old) (world_at who account (with_growth old growth)) = commits_grown who account old growth in
    let last = lawful_grown who account old growth timely lawful in
    let each : AllByRecursion IsTimedCommit grown.newer =
    each_timed (world_at who account old).state.committed (world_at who account (with_growth old growth)).state.committed grown.newer grown.lead
    lawful.committed.head.moment.low last.committed.head.moment.high in
    let none : commits_of key (world_at who account old).commits ≡ [] = unused_keys_commit_nothing who.host.digits key account old unused in
    subst (AllByRecursion IsTimedCommit)
    (sym (ap (commits_of key) grown.grown ∙ filter-append (λ (commit : Commit). commit.key == key) grown.newer (world_at who account old).commits))
    (all_append IsTimedCommit (commits_of key grown.newer) (commits_of key (world_at who account old).commits)
    (all_of_session IsTimedCommit key grown.newer each) (subst (AllByRecursion IsTimedCommit) (sym none) tt))

-- so its one commit does
pub commit_is_timed : (who : Asker) (account : AccountState) (old now : Log) (growth : List Event) → now ≡ with_growth old growth → IsUnused who.host.digits who.session.0 account old
    → IsLawfulAccount (world_at who account old).state → AllByRecursion IsTimely growth → (before after : Collection)
    → commits_of who.session.0 (world_at who account now).commits ≡ record { key = who.session.0; before = before; after = after } ∷ []
    → is_moment after.head.moment ≡ true
commit_is_timed who account old now growth grown unused lawful timely before after only =
    let each : AllByRecursion IsTimedCommit (commits_of who.session.0 (world_at who account now).commits) =
    subst (λ (log : Log). AllByRecursion IsTimedCommit (commits_of who.session.0 (world_at who account log).commits)) (sym grown)
    (commits_are_timed who account old growth unused lawful timely) in
    let one : AllByRecursion IsTimedCommit (record { key = who.session.0; before = before; after = after } ∷ []) = subst (AllByRecursion IsTimedCommit) only each in
    one.0
