-- What was measured, by the steps that lead to it.
use Rattle.std.proofs.Common.{◌≡◌, ℕ, List, [], sym, ap, subst, ◌∙◌}
use Rattle.std.proofs.lemmas.Option.{same_Some}
use Rattle.ak_client.specs.declared.outcomes.Outcome.{Outcome}
use Rattle.ak_keep.specs.Collections.{Collection}
use Rattle.ak_keep.specs.Keepers.{Keeping}
use Rattle.ak_makes.specs.Days.{DoesDay}
use Rattle.ak_makes.specs.MadeServers.{AreCountsOn, HoldsCopy, IsServerOf}
use Rattle.ak_makes.specs.Measures.{IsMeasured, IsSynced}
use Rattle.ak_merge.specs.Commits.{IsCopyOf}
use Rattle.ak_messages.specs.declared.requests.SanityCounts.{SanityCounts}
use Rattle.ak_sync_in_memory.specs.Copies.{IsViewed, committed_in}
use Rattle.ak_sync_in_memory.specs.Entries.{LoggedState, collection_in}
use Rattle.ak_undo.specs.declared.steps.Step.{Step}

pub measured : (seed size : ℕ) (server viewed after : LoggedState) (begun worked left : Keeping) (none steps : List Step) (counts : SanityCounts) (calls : ℕ) (outcome : Outcome)
    → IsServerOf seed size server → IsViewed server viewed → HoldsCopy server begun → none ≡ [] → DoesDay seed size begun worked none steps
    → IsSynced worked left viewed after calls outcome → AreCountsOn after counts
    → IsMeasured seed size (record { counts = counts; calls = calls; outcome = outcome })
measured seed size server viewed after begun worked left none steps counts calls outcome (made, is, begins) views (s, c, committed, copy, holds) empty day sync counted =
    let read : s ≡ collection_in made = same_Some s (collection_in made) (sym committed ∙ ap committed_in begins) in
    record {
      made = made;
      is = is;
      viewed = viewed;
      views = subst (λ (old : LoggedState). IsViewed old viewed) begins views;
      copy = c;
      is_copy = subst (λ (s : Collection). IsCopyOf s c) read copy;
      worked = worked;
      steps = steps;
      day = subst (λ (was : Keeping). DoesDay seed size was worked [] steps) holds (subst (λ (none : List Step). DoesDay seed size begun worked none steps) empty day);
      synced = left;
      server = after;
      sync = sync;
      counts = counted;
    }
