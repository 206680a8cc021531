use Rattle.std.proofs.Common.{◌≡◌, ap, refl, rules, ◌∙◌}
use Rattle.ak_tables.specs.Tables.{holding, is_among}
use Rattle.ak_journal_changes.specs.HeldNames.{names_free, rows_held}
use Rattle.ak_journal_changes.proofs.Differences.{formed, is_change}
use Rattle.ak_journal_changes.proofs.touched.change_of.Goals as goal

pub returns-clause-formed : goal.returns-clause-formed
returns-clause-formed c =
    let cut : c.add_each.new.cut ≡ names_free c.args.rows.now.current c.in_ok-names.names = search rules in
    let put : c.add_each.new.put ≡ rows_held c.args.rows.now.current c.in_ok-names.names = search rules in
    formed c.in_ok-names.names (holding c.args.rows.now.current c.args.head.now) _ c.args.touched.now c.requires.held c.in_ok-names.ensures.ascend c.in_ok-names.ensures.ids
    c.requires.set c.requires.whole refl cut put c.in_ok-head.ensures

pub returns-clause-change : goal.returns-clause-change
returns-clause-change c =
    let cut : c.add_each.new.cut ≡ names_free c.args.rows.now.current c.in_ok-names.names = search rules in
    let put : c.add_each.new.put ≡ rows_held c.args.rows.now.current c.in_ok-names.names = search rules in
    is_change c.in_ok-names.names (holding c.args.rows.now.current c.args.head.now) _ c.args.touched.now c.requires.held refl cut put c.in_ok-head.ensures
    (λ name. c.in_ok-names.ensures.same name ∙ ap (λ names. is_among names name) c.as_slice.ensures)
