use Rattle.std.proofs.Common.{◌≡◌, ◌∙◌, ap, w64, SFits, ℕ, length}
use Rattle.std.proofs.lemmas.Int.{to_z-of_z}
use Rattle.std.proofs.lemmas.Result.{err_from_is_err_and}
use Rattle.ak_edit.specs.Ends.{IsHeldRightly}
use Rattle.ak_edit.specs.Overlays.{unchanged}
use Rattle.ak_filtered.proofs.EmptiedDecks.{emptied_accepts, emptied_done, emptied_refuses}
use Rattle.ak_filtered.specs.HomeDecks.{filtered_at}
use Rattle.ak_filtered.specs.Refills.{no_dues, refill}
use Rattle.ak_keep.specs.Keepers.{Keeping, WhereHeld, WhereTold}
use Rattle.ak_filtered.proofs.emptyings.empty_deck.Goals as goal

pub returns-clause-ends : goal.returns-clause-ends
returns-clause-ends g c =
    let at : SFits w64 c.args.at = c.ranges.at in
    let id : SFits w64 c.args.deck = c.ranges.deck in
    let change : WhereTold (g.K.Lookup.keeping c.args.keeper.now) (λ h. c.put_emptied.new.change ≡ refill c.args.deck (filtered_at h.rows) no_dues h.rows unchanged) =
    rw (c.new-change.ensures, to_z-of_z w64 c.args.deck id) at c.in_ok-put_emptied.ensures.reads.told in
    let known : WhereHeld (g.K.Lookup.keeping c.args.keeper.now) IsHeldRightly = rw (c.in_ok-away.ensures.reads.same, c.in_ok-put_emptied.ensures.reads.same) at c.in_ok-finish_cleared.ensures.known in
    record {
      done = emptied_done (g.K.Lookup.keeping c.args.keeper.now) (g.K.Lookup.keeping c.finish_cleared.new.keeper) c.args.at c.args.deck c.put_emptied.new.change c.finish_cleared.new.steps known change
          (rw (c.in_ok-away.ensures.reads.same, c.in_ok-put_emptied.ensures.reads.same, to_z-of_z w64 c.args.at at) at c.in_ok-finish_cleared.ensures.ok);
      same = tt;
      kept = tt;
      cleared = c.in_ok-finish_cleared.ensures.list;
      stays = c.in_ok-finish_cleared.ensures.stays ∙ ap (λ (k : Keeping). k.headed) (c.in_ok-away.ensures.reads.same ∙ c.in_ok-put_emptied.ensures.reads.same);
      answers = emptied_accepts (g.K.Lookup.keeping c.args.keeper.now) c.args.at c.args.deck c.put_emptied.new.change tt (length c.as_slice.result.now) known change
          (rw (c.in_ok-away.ensures.reads.same, c.in_ok-put_emptied.ensures.reads.same, to_z-of_z w64 c.args.at at) at c.in_ok-finish_cleared.ensures.refused);
    }

pub returns-in_err-finish_cleared-clause-ends : goal.returns-in_err-finish_cleared-clause-ends
returns-in_err-finish_cleared-clause-ends g c =
    let at : SFits w64 c.args.at = c.ranges.at in
    let id : SFits w64 c.args.deck = c.ranges.deck in
    let change : WhereTold (g.K.Lookup.keeping c.args.keeper.now) (λ h. c.put_emptied.new.change ≡ refill c.args.deck (filtered_at h.rows) no_dues h.rows unchanged) =
    rw (c.new-change.ensures, to_z-of_z w64 c.args.deck id) at c.in_ok-put_emptied.ensures.reads.told in
    let known : WhereHeld (g.K.Lookup.keeping c.args.keeper.now) IsHeldRightly = rw (c.in_ok-away.ensures.reads.same, c.in_ok-put_emptied.ensures.reads.same) at c.in_err-finish_cleared.ensures.known in
    let p = err_from_is_err_and c.from_residual-in_err-finish_cleared.result c.from_residual-in_err-finish_cleared.ensures.1 in
    rw (p.1, p.2) (record {
      done = tt;
      same = c.in_err-finish_cleared.ensures.err ∙ c.in_ok-away.ensures.reads.same ∙ c.in_ok-put_emptied.ensures.reads.same;
      kept = c.in_err-finish_cleared.ensures.kept;
      cleared = tt;
      stays = c.in_err-finish_cleared.ensures.stays ∙ ap (λ (k : Keeping). k.headed) (c.in_ok-away.ensures.reads.same ∙ c.in_ok-put_emptied.ensures.reads.same);
      answers = emptied_refuses ℕ (g.K.Lookup.keeping c.args.keeper.now) c.args.at c.args.deck c.put_emptied.new.change c.in_err-finish_cleared.field-0.0 known change
          (rw (c.in_ok-away.ensures.reads.same, c.in_ok-put_emptied.ensures.reads.same, to_z-of_z w64 c.args.at at) at c.in_err-finish_cleared.ensures.refused);
    })
