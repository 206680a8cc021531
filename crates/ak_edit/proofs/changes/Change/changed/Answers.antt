use Rattle.std.proofs.Common.{◌≡◌, IfOk, IfSome, sym, ap, subst, ◌∙◌, Option}
use Rattle.std.specs.FinMap as map
use Rattle.ak_base.specs.Rows.{name_of}
use Rattle.ak_base.specs.declared.rows.Row.{Row}
use Rattle.ak_edit.proofs.Entries.{get-entry_at}
use Rattle.ak_edit.proofs.Noting.{found_bears, if_ok_map}
use Rattle.ak_edit.specs.Overlays.{Overlay, entry_at}
use Rattle.ak_edit.proofs.changes.Change.changed.Goals as goal

pub returns-clause-row : goal.returns-clause-row
returns-clause-row c = subst (λ x. IfOk c.changed_in.result (λ (row : Option (Option Row)). row ≡ x)) (sym (get-entry_at c.self.inside.rows.entries c.args.name.now) ∙ ap (λ (o : Overlay). map.get o.rows c.args.name.now) c.self.view_is) c.changed_in.ensures

pub returns-clause-named : goal.returns-clause-named
returns-clause-named c =
    if_ok_map c.changed_in.result (λ (o : Option (Option Row)). o ≡ entry_at c.self.inside.rows.entries c.args.name.now)
    (λ (o : Option (Option Row)). IfSome o (λ made. IfSome made (λ row. name_of row ≡ c.args.name.now)))
    (λ o. found_bears c.self.inside.rows.entries c.args.name.now o c.self.invariant.rows) c.changed_in.ensures
