-- What is read of a server, copied and counted.
use Rattle.std.proofs.Common.{◌≡◌, ℤ, pos, negsuc, SFits, w64, Some, None, refl, ap, ◌∙◌, arith}
use Rattle.std.proofs.lemmas.Int.{ints}
use Rattle.ak_base.specs.Heads.{IsMoment}
use Rattle.ak_keep.specs.Collections.{Holding, made_of}
use Rattle.ak_keep.specs.Keepers.{all_known}
use Rattle.ak_keep.specs.Marks.{WithMark}
use Rattle.ak_makes.specs.MadeServers.{AreCountsOn, HoldsCopy}
use Rattle.ak_messages.specs.declared.requests.SanityCounts.{SanityCounts}
use Rattle.ak_openings.specs.declared.whole_collections.Opening.{Opening}
use Rattle.ak_session.specs.Answers.{counts_of}
use Rattle.ak_sync_in_memory.specs.Copies.{committed_in}
use Rattle.ak_sync_in_memory.specs.Entries.{LoggedState, collection_in}

pub moment_fits : (moment : ℤ) → IsMoment moment → SFits w64 moment
moment_fits (pos n) is = let high = is.high in record { sfits = omega (arith, ints, high) }
moment_fits (negsuc n) is = let low = is.low in absurd (omega (arith, ints, low))

-- a keeper with what was read of the server, synced last when it was changed last
pub copied : (server : LoggedState) (opening : Opening) (synced : ℤ) (kept : WithMark Holding) → committed_in server ≡ Some (collection_in opening)
    → synced ≡ opening.head.moment
    → kept ≡ record { current = made_of opening.rows (record opening.head { last_sync = synced }); mark = None }
    → HoldsCopy server (all_known kept)
copied server opening synced kept committed now holds =
    let made : Opening = record opening { head = record opening.head { last_sync = synced } } in (
      collection_in opening,
      collection_in made,
      committed,
      record { rows = refl; head = ap (λ (synced : ℤ). record opening.head { last_sync = synced }) now },
      ap all_known holds,
    )

-- the rows of each kind in a keeper with what was read of the server
pub counted : (server : LoggedState) (opening : Opening) (kept : WithMark Holding) (counts : SanityCounts) → committed_in server ≡ Some (collection_in opening)
    → kept ≡ record { current = made_of opening.rows opening.head; mark = None } → counts ≡ counts_of kept.current.rows → AreCountsOn server counts
counted server opening kept counts committed holds are =
    (collection_in opening, committed, are ∙ ap (λ (kept : WithMark Holding). counts_of kept.current.rows) holds)
