use Rattle.std.proofs.Common.{◌≡◌, false, is_some, ◌++◌, ◌∙◌, sym, rules, true, None}
use Rattle.std.proofs.lemmas.List.{append-nil}
use Rattle.ak_base.specs.declared.names.Name.{Name}
use Rattle.std.specs.FinMap.{get}
use Rattle.ak_base.specs.Tables.{buried_in, grave_name}
use Rattle.ak_faults.proofs.Healths.{goes_further}
use Rattle.ak_keep.proofs.Causing.{cause-ok}
use Rattle.ak_edit.specs.Plans.{grave_writes, writes_under}
use Rattle.ak_keep.proofs.Told.{where_told-map}
use Rattle.ak_edit.proofs.Distinct.{read_both, read_one}
use Rattle.ak_edit.proofs.Planning.{buried_on, kept_on, where_both}
use Rattle.ak_edit.proofs.plans.plan_row.Goals as goal

pub returns-then-buries-clause-reads : goal.returns-then-buries-clause-reads
returns-then-buries-clause-reads g c =
    let K = g.K.Lookup in
    let none : is_some (buried_in c.args.asked.name.table) ≡ false = search rules in
    record {
      kept = c.in_ok-plan_grave.ensures.reads.kept ∙ c.in_ok-before.ensures.reads.kept;
      same = c.in_ok-plan_grave.ensures.reads.same ∙ c.in_ok-before.ensures.reads.same;
      cause = cause-ok _ (goes_further c.in_ok-before.ensures.reads.cause.goes c.in_ok-plan_grave.ensures.reads.cause.goes);
      told = where_both (K.keeping c.args.keeper.now) (λ h. c.in_ok-before.before ≡ get h.rows c.args.asked.name)
          (λ h. c.plan_grave.new.writes.items ≡ c.push_row.new.writes.items ++ grave_writes (get h.rows) c.args.asked.name (grave_name c.args.asked.name))
          (λ h. c.plan_grave.new.writes.items ≡ c.args.writes.now.items ++ writes_under c.args.now.second (get h.rows) c.args.asked.name c.args.asked.made.now)
          (λ h held grave. buried_on c.args.now.second (get h.rows) c.args.asked.name c.in_ok-before.before c.args.asked.made.now c.args.writes.now.items c.push_row.new.writes.items c.plan_grave.new.writes.items
          none held (sym c.goes-buries.ensures ∙ c.if-buries.true) c.in_ok-push_row.ensures.row grave)
          c.in_ok-before.ensures.reads.told (rw c.in_ok-before.ensures.reads.same at c.in_ok-plan_grave.ensures.reads.told);
    }

pub returns-clause-reads : goal.returns-clause-reads
returns-clause-reads g c =
    let K = g.K.Lookup in
    let none : is_some (buried_in c.args.asked.name.table) ≡ false = search rules in
    record {
      kept = c.in_ok-before.ensures.reads.kept;
      same = c.in_ok-before.ensures.reads.same;
      cause = cause-ok _ c.in_ok-before.ensures.reads.cause.goes;
      told = where_told-map (K.keeping c.args.keeper.now) (λ h. c.in_ok-before.before ≡ get h.rows c.args.asked.name)
          (λ h. c.push_row.new.writes.items ≡ c.args.writes.now.items ++ writes_under c.args.now.second (get h.rows) c.args.asked.name c.args.asked.made.now)
          (λ h held. kept_on c.args.now.second (get h.rows) c.args.asked.name c.in_ok-before.before c.args.asked.made.now c.args.writes.now.items c.push_row.new.writes.items
          none held (sym c.goes-buries.ensures ∙ c.if-buries.false) c.in_ok-push_row.ensures.row)
          c.in_ok-before.ensures.reads.told;
    }

pub returns-then-buries-clause-some : goal.returns-then-buries-clause-some
returns-then-buries-clause-some g c =
    let none : is_some (buried_in c.args.asked.name.table) ≡ false = search rules in
    let grave = c.in_ok-plan_grave.ensures.some in
    read_both c.args.now.second grave.0 c.args.asked.name c.in_ok-before.before c.args.asked.made.now c.args.writes.now.items c.push_row.new.writes.items c.plan_grave.new.writes.items
    none (sym c.goes-buries.ensures ∙ c.if-buries.true) c.in_ok-push_row.ensures.row grave.1

pub returns-clause-some : goal.returns-clause-some
returns-clause-some g c =
    let none : is_some (buried_in c.args.asked.name.table) ≡ false = search rules in
    read_one c.args.now.second c.args.asked.name c.in_ok-before.before c.args.asked.made.now c.args.writes.now.items c.push_row.new.writes.items
    none (sym c.goes-buries.ensures ∙ c.if-buries.false) c.in_ok-push_row.ensures.row

pub returns-then-is_some-clause-some : goal.returns-then-is_some-clause-some
returns-then-is_some-clause-some g c =
    let buried : is_some (buried_in c.args.asked.name.table) ≡ true = search rules in
    (λ (n : Name). None, rw buried (sym (append-nil c.args.writes.now.items)))
