use Rattle.std.proofs.Common.{rules}
use Rattle.std.specs.Prelude.{codes}
use Rattle.serde_json.specs.View.{view}
use Rattle.ak_json.specs.declared.faults.JsonFault.TheVariants as jsons
use Rattle.ak_desk_language.specs.FilterPlans.{four_fault}
use Rattle.ak_desk_language.proofs.Refusing.{told}
use Rattle.ak_desk_language.proofs.filter_plans.check_four.Goals as goal

pub returns-then-is_none-clause-err : goal.returns-then-is_none-clause-err
returns-then-is_none-clause-err c = told (four_fault (view c.args.value.now)) (jsons.Missing (codes "0")) c.missing.result (search rules) c.missing.ensures

pub returns-then-is_none-2-clause-err : goal.returns-then-is_none-2-clause-err
returns-then-is_none-2-clause-err c = told (four_fault (view c.args.value.now)) (jsons.Missing (codes "1")) c.missing-then-is_none-2.result (search rules) c.missing-then-is_none-2.ensures

pub returns-then-is_none-3-clause-err : goal.returns-then-is_none-3-clause-err
returns-then-is_none-3-clause-err c = told (four_fault (view c.args.value.now)) (jsons.Missing (codes "2")) c.missing-then-is_none-3.result (search rules) c.missing-then-is_none-3.ensures

pub returns-then-is_none-4-clause-err : goal.returns-then-is_none-4-clause-err
returns-then-is_none-4-clause-err c = told (four_fault (view c.args.value.now)) (jsons.Missing (codes "3")) c.missing-then-is_none-4.result (search rules) c.missing-then-is_none-4.ensures

pub returns-then-is_some-clause-err : goal.returns-then-is_some-clause-err
returns-then-is_some-clause-err c = told (four_fault (view c.args.value.now)) (jsons.WrongKind (codes "4")) c.wrong_kind-then-is_some.result (search rules) c.wrong_kind-then-is_some.ensures
