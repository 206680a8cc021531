use Rattle.std.specs.Prelude.{◌≡◌, length}
use Rattle.std.proofs.Common.{arith}
use Rattle.serde_json.proofs.Views.{items_len-items_view}
use Rattle.serde_json.specs.Events.{items_len}
use Rattle.serde_json.specs.View.{items_view}
use Rattle.ak_filtered.proofs.plans.has_items.Goals as goal

pub returns-in-Some : goal.returns-in-Some
returns-in-Some c =
    let len : items_len (items_view c.as_slice.result.now) ≡ length c.as_slice.result.now = items_len-items_view c.as_slice.result.now in
    grind (arith, len, c.as_slice.ensures, c.in-Some.ensures)
