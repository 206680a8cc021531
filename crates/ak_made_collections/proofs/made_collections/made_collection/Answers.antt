use Rattle.std.proofs.Common.{List, refl, sym, subst}
use Rattle.std.proofs.lemmas.List.Elements.{All-append, recursion_from_All}
use Rattle.std.specs.List.{All}
use Rattle.ak_base.specs.Rows.{IsChecked}
use Rattle.ak_base.specs.declared.rows.Row.{Row}
use Rattle.ak_keep.specs.Collections.{rows_of}
use Rattle.ak_made_collections.proofs.MadeLawful.{all_distinct, all_lawful, opened_behind}
use Rattle.ak_made_collections.proofs.Runs.{HaveOwnNames}
use Rattle.ak_made_collections.proofs.made_collections.made_collection.Goals as goal
use Rattle.ak_made_collections.specs.MadeCollections.{opening_moment}
use Rattle.ak_made_collections.specs.MadeLists.{made_rows}
use Rattle.ak_merge.specs.Commits.{IsCommitted}

pub returns-clause-is : goal.returns-clause-is
returns-clause-is c = record {
  opened = c.in_ok-opened.field-0;
  is_opened = c.in_ok-opened.ensures.is;
  head = refl;
  rows_are = opened_behind c.args.plan.seed c.args.plan.size.notes c.in_ok-rows.rows.items c.in_ok-opened.field-0.rows c.into_vec-opened.result.items c.append.new.self.items
      c.of.result c.in_ok-rows.ensures.are c.into_vec-opened.ensures c.in_ok-append.ensures.items c.of.ensures;
}

pub returns-clause-checked : goal.returns-clause-checked
returns-clause-checked c =
    let are = opened_behind c.args.plan.seed c.args.plan.size.notes c.in_ok-rows.rows.items c.in_ok-opened.field-0.rows c.into_vec-opened.result.items c.append.new.self.items
    c.of.result c.in_ok-rows.ensures.are c.into_vec-opened.ensures c.in_ok-append.ensures.items c.of.ensures in
    let made = made_rows c.args.plan.seed c.args.plan.size.notes in
    subst (All IsChecked) (sym are)
    (All-append IsChecked made c.in_ok-opened.field-0.rows (subst (All IsChecked) c.in_ok-rows.ensures.are c.in_ok-rows.ensures.checked) c.in_ok-opened.ensures.checked)

pub returns-clause-distinct : goal.returns-clause-distinct
returns-clause-distinct c =
    let are = opened_behind c.args.plan.seed c.args.plan.size.notes c.in_ok-rows.rows.items c.in_ok-opened.field-0.rows c.into_vec-opened.result.items c.append.new.self.items
    c.of.result c.in_ok-rows.ensures.are c.into_vec-opened.ensures c.in_ok-append.ensures.items c.of.ensures in
    subst HaveOwnNames (sym are) (all_distinct opening_moment c.args.plan.seed c.args.plan.size.notes c.in_ok-opened.field-0 c.args.plan.size.few.high
    c.in_ok-opened.ensures.is c.in_ok-opened.ensures.distinct)

pub returns-clause-lawful : goal.returns-clause-lawful
returns-clause-lawful c =
    let are = opened_behind c.args.plan.seed c.args.plan.size.notes c.in_ok-rows.rows.items c.in_ok-opened.field-0.rows c.into_vec-opened.result.items c.append.new.self.items
    c.of.result c.in_ok-rows.ensures.are c.into_vec-opened.ensures c.in_ok-append.ensures.items c.of.ensures in
    let made = made_rows c.args.plan.seed c.args.plan.size.notes in
    subst (λ (rows : List Row). IsCommitted (record { rows = rows_of rows; head = c.in_ok-opened.field-0.head })) (sym are)
    (all_lawful opening_moment c.args.plan.seed c.args.plan.size.notes c.in_ok-opened.field-0 c.args.plan.size.few.high c.in_ok-opened.ensures.is c.in_ok-opened.ensures.range
    (recursion_from_All IsChecked made (subst (All IsChecked) c.in_ok-rows.ensures.are c.in_ok-rows.ensures.checked))
    (recursion_from_All IsChecked c.in_ok-opened.field-0.rows c.in_ok-opened.ensures.checked))
