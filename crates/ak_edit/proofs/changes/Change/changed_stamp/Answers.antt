use Rattle.std.proofs.Common.{sym, ap, ◌∙◌}
use Rattle.std.specs.FinMap as map
use Rattle.std.specs.Option.{option_map}
use Rattle.ak_base.specs.Rows.{stamp_of}
use Rattle.ak_edit.proofs.Entries.{get-entry_at}
use Rattle.ak_edit.specs.Overlays.{Overlay}
use Rattle.ak_edit.proofs.changes.Change.changed_stamp.Goals as goal

pub returns : goal.returns
returns c =
    c.stamp_in.ensures
    ∙ ap (option_map (option_map stamp_of)) (sym (get-entry_at c.self.inside.rows.entries c.args.name.now) ∙ ap (λ (o : Overlay). map.get o.rows c.args.name.now) c.self.view_is)
