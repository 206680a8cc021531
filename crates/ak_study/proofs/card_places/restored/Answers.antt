use Rattle.std.proofs.Common.{ℤ, ◌∙◌, ap, rules, w64, SFits}
use Rattle.std.proofs.lemmas.Int.{to_z-of_z}
use Rattle.ak_study.specs.CardPlaces.{queued}
use Rattle.ak_study.proofs.card_places.restored.Goals as goal

pub returns : goal.returns
returns c =
    let fits : SFits w64 c.restored_queue-queue.result = search rules in
    (rw (to_z-of_z w64 c.restored_queue-queue.result fits) at c.queued.ensures)
    ∙ ap (λ (queue : ℤ). queued queue c.args.card) c.restored_queue-queue.ensures.queue
