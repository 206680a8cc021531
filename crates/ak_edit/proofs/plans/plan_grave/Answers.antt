use Rattle.std.proofs.Common.{◌≡◌, Some, None, sym, ◌∙◌, rules}
use Rattle.std.proofs.lemmas.List.{append-nil}
use Rattle.ak_base.specs.Tables.{grave_name}
use Rattle.ak_base.specs.declared.names.Name.{Name}
use Rattle.ak_edit.proofs.plans.plan_grave.Goals as goal

pub returns-in_default-clause-some : goal.returns-in_default-clause-some
returns-in_default-clause-some g c =
    let none : grave_name c.args.name ≡ None = search rules in
    (λ (n : Name). None, rw none (sym (append-nil c.args.writes.now.items)))

pub returns-clause-some : goal.returns-clause-some
returns-clause-some g c =
    let some : grave_name c.args.name ≡ Some c.in-Some.grave = sym c.grave.ensures ∙ c.in-Some.is in
    (λ (n : Name). c.in_ok-before.before, rw some (rw c.grave_left-row.ensures at c.in_ok-push_write.ensures.ok))
