use Rattle.std.proofs.Common.{◌≡◌, ◌⊎◌, inl, List, ℕ, sym, ap, subst, ◌∙◌, arith}
use Rattle.ak_keep.specs.Collections.{Holding}
use Rattle.ak_keep.specs.MemoryKeepers.{MemoryState}
use Rattle.ak_tables.proofs.Consistency.{holding-same, on-ok}
use Rattle.ak_tables.specs.Tables.{Covers, CrashLeaves, LeavesNow, holding}
use Rattle.ak_tables.proofs.keepers.store.Goals as goal

-- nothing was done
pub returns-in_err-head-clause-any_moment : goal.returns-in_err-head-clause-any_moment
returns-in_err-head-clause-any_moment g c = λ was stored lasts covers. record {
  each = λ image left. inl (lasts image left);
  later = omega arith;
  others = λ since image le left. inl left;
}

pub returns-clause-any_moment : goal.returns-clause-any_moment
returns-clause-any_moment g c = λ was stored lasts covers.
    let same : holding c.rows.result.now.current c.in_ok-head.head ≡ c.args.memory.now.kept.current =
    holding-same c.rows.result.now.current c.in_ok-head.head c.args.memory.now.kept.current (c.rows.ensures ∙ ap (λ (s : MemoryState). s.kept.current.rows) c.head.ensures.state) c.in_ok-head.ensures.head in
    subst (λ (now : Holding). CrashLeaves g.T.Tables.moment g.T.Tables.may_have_left c.args.tables.now c.write.new.self (λ (image : List ℕ). g.T.Tables.stands_for c.args.tables.now was image ⊎ g.T.Tables.stands_for c.args.tables.now now image)) same
    (c.write.ensures.any_moment was stored (subst (λ (now : Holding). Covers c.args.touched.now was now) (sym same) covers))

pub returns-clause-lasts : goal.returns-clause-lasts
returns-clause-lasts g c =
    let same : holding c.rows.result.now.current c.in_ok-head.head ≡ c.args.memory.now.kept.current =
    holding-same c.rows.result.now.current c.in_ok-head.head c.args.memory.now.kept.current (c.rows.ensures ∙ ap (λ (s : MemoryState). s.kept.current.rows) c.head.ensures.state) c.in_ok-head.ensures.head in
    on-ok c.write.result
    (λ lasts was stored covers. subst (LeavesNow g.T.Tables.moment g.T.Tables.may_have_left g.T.Tables.stands_for c.write.new.self) same (lasts was stored (subst (λ (now : Holding). Covers c.args.touched.now was now) (sym same) covers)))
    c.write.ensures.lasts
