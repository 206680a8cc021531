-- An upload and a download leave the device linked with what was committed at their place.
use Rattle.std.specs.List.{AllByRecursion}
use Rattle.std.specs.Prelude.{◌≡◌, ◌==◌, ℕ, true, false, cond, List, [], ◌∷◌, ◌++◌}
use Rattle.std.proofs.Common.{refl, sym, ap, subst, ◌∙◌, inl, inr}
use Rattle.std.proofs.lemmas.List.Elements.{filter-append}
use Rattle.ak_client.proofs.Growing.{lawful_grown, world_grown}
use Rattle.ak_client.specs.Syncs.{world_at}
use Rattle.ak_client.specs.declared.outcomes.Outcome.TheVariants as outcomes
use Rattle.ak_keep.specs.Collections.{Collection}
use Rattle.ak_keep.specs.Keepers.{Keeping}
use Rattle.ak_merge.proofs.CommitLaws.{commits_stay_lawful}
use Rattle.ak_merge.proofs.FirstLinks.{copies_are_linked, copies_have_content}
use Rattle.ak_merge.proofs.Transfers.{uploads_are_lawful}
use Rattle.ak_merge.specs.Commits.{IsCommitted, IsCopyOf}
use Rattle.ak_merge.specs.Holdings.{SameContent, content_of}
use Rattle.ak_merge.specs.Links.{AreLinkedParts}
use Rattle.ak_messages.specs.declared.requests.Ask.{Ask}
use Rattle.ak_protocol.proofs.Commits.{commits_lead_on}
use Rattle.ak_protocol.proofs.ContentLaws.{commits_are_made, some_of_all}
use Rattle.ak_protocol.proofs.Syncs.{all_append, all_front, unused_keys_commit_nothing}
use Rattle.ak_protocol.specs.Accounts.{AccountState}
use Rattle.ak_protocol.specs.Commits.{CommitsGrow, EachNewer, IsMade, Leads}
use Rattle.ak_protocol.specs.LawfulServers.{IsLawfulAccount}
use Rattle.ak_protocol.specs.Logs.{Asked, Commit, Event, IsTimely, Log, World, commits_of, events_of, with_growth, world_after}
use Rattle.ak_protocol.specs.Syncs.{IsUnused}
use Rattle.ak_session.specs.Plans.{Asker}
use Rattle.ak_sync_completes.proofs.Serving.{same_growth}
use Rattle.ak_transfers.specs.Transfers.{Downloaded, MayTransfer, Uploaded}

-- ---- what a commit made
-- it is what a server may hold
abbrev pub IsLawfulCommit : Commit → Type 0
IsLawfulCommit commit = IsCommitted commit.after

made_lawful : (commit : Commit) → IsMade commit → IsCommitted commit.before → IsCommitted commit.after
made_lawful commit (inl (came, finish)) lawful = commits_stay_lawful came commit.before commit.after finish.commits finish.in_range lawful
made_lawful commit (inr (came, replaced)) lawful = uploads_are_lawful came commit.before commit.after replaced.uploads replaced.in_range lawful

-- so it is with commits one after the other
each_lawful : (first last : Collection) (commits : List Commit) → Leads first commits last → AllByRecursion IsMade commits → IsCommitted first
    → AllByRecursion IsLawfulCommit commits × IsCommitted last
each_lawful first last [] leads made lawful = (tt, subst IsCommitted (sym leads) lawful)
each_lawful first last (commit ∷ commits) leads made lawful =
    let earlier = each_lawful first commit.before commits leads.2 made.1 lawful in
    let here : IsCommitted commit.after = made_lawful commit made.0 earlier.1 in
    ((here, earlier.0), subst IsCommitted (sym leads.0) here)

of_session : (P : Commit → Type 0) (key : ℕ) (commits : List Commit) → AllByRecursion P commits → AllByRecursion P (commits_of key commits)
of_session P key [] all = tt
of_session P key (commit ∷ more) all =
    elim (commit.key == key) as (λ b. AllByRecursion P (cond b (commit ∷ commits_of key more) (commits_of key more))) [
      | true ↦ (all.0, of_session P key more all.1)
      | false ↦ of_session P key more all.1
    ]

-- what an unused session committed since is what a server may hold
pub commit_is_lawful : (who : Asker) (account : AccountState) (old now : Log) (growth : List Event) → now ≡ with_growth old growth → IsUnused who.host.digits who.session.0 account old
    → IsLawfulAccount (world_at who account old).state → AllByRecursion IsTimely growth → (before after : Collection)
    → commits_of who.session.0 (world_at who account now).commits ≡ record { key = who.session.0; before = before; after = after } ∷ [] → IsCommitted after
commit_is_lawful who account old now growth grown unused lawful timely before after only =
    let key : ℕ = who.session.0 in
    let was : World = world_at who account old in
    let own : List Event = events_of who.host.digits growth in
    let is : world_at who account now ≡ world_after was own = ap (world_at who account) grown ∙ world_grown who account old growth in
    let led : CommitsGrow was (world_after was own) = commits_lead_on was own in
    let made : EachNewer IsMade was (world_after was own) = commits_are_made was own (some_of_all IsTimely who.host.digits growth timely) lawful in
    let each = each_lawful was.state.committed (world_after was own).state.committed led.newer led.lead (made led.newer led.grown) lawful.committed in
    let none : commits_of key was.commits ≡ [] = unused_keys_commit_nothing who.host.digits key account old unused in
    let all : AllByRecursion IsLawfulCommit (commits_of key (world_after was own).commits) =
    subst (AllByRecursion IsLawfulCommit)
    (sym (ap (commits_of key) led.grown ∙ filter-append (λ (commit : Commit). commit.key == key) led.newer was.commits))
    (all_append IsLawfulCommit (commits_of key led.newer) (commits_of key was.commits)
    (of_session IsLawfulCommit key led.newer each.0) (subst (AllByRecursion IsLawfulCommit) (sym none) tt)) in
    let one : AllByRecursion IsLawfulCommit (record { key = key; before = before; after = after } ∷ []) =
    subst (AllByRecursion IsLawfulCommit) (ap (λ (w : World). commits_of key w.commits) (sym is) ∙ only) all in
    one.0

-- ---- the device
-- a copy is linked, and has the content
linked_copy : (s c : Collection) → IsCommitted s → IsCopyOf s c → AreLinkedParts c s × SameContent (content_of c) (content_of s)
linked_copy s c lawful copy = (copies_are_linked s c lawful copy, copies_have_content s c copy)

pub uploads_link : (who : Asker) (asked : List Ask) (c : Collection) (account : AccountState) (old now : Log) (left : Keeping) → MayTransfer who account old
    → (it : Uploaded who asked c account old now left outcomes.Finished) → let up = it.finished refl in AreLinkedParts up.device up.committed.after
    × SameContent (content_of up.device) (content_of up.committed.after)
uploads_link who asked c account old now left may it =
    let up = it.finished refl in
    linked_copy up.committed.after up.device
    (commit_is_lawful who account old now it.growth it.grew.grown may.unused may.lawful it.grew.timely it.base up.committed.after up.committed.only) up.copy

pub downloads_link : (who : Asker) (asked : List Ask) (account : AccountState) (old now : Log) (left : Keeping) → MayTransfer who account old
    → (it : Downloaded who asked account old now left outcomes.Finished) → let down = it.finished refl in AreLinkedParts down.device down.base
    × SameContent (content_of down.device) (content_of down.base)
downloads_link who asked account old now left may it =
    let down = it.finished refl in
    let place = down.place in
    let later : List Event = Asked place.request place.at place.setback ∷ place.rest in
    let parts : it.growth ≡ place.front ++ later = same_growth old now it.growth (place.front ++ later) it.grew.grown place.grown in
    let timely : AllByRecursion IsTimely place.front = all_front IsTimely place.front later (subst (AllByRecursion IsTimely) parts it.grew.timely) in
    linked_copy down.base down.device (subst IsCommitted place.place (lawful_grown who account old place.front timely may.lawful).committed) down.copy
