use Rattle.std.proofs.Common.{◌≡◌, ◌∷◌, ap, map, rules, subst, sym, ◌∙◌}
use Rattle.std.specs.Prelude.{drop, is_some}
use Rattle.std.specs.BTreeMap.{is_at}
use Rattle.std.specs.List.Sorted.{IsStrictlySortedBy}
use Rattle.ak_base.specs.Names.{name_cmp}
use Rattle.ak_base.specs.Rows.{name_of}
use Rattle.ak_journal_rows.specs.Changes.{row_put}
use Rattle.ak_journal_rows.specs.Listed.{IsFrom}
use Rattle.ak_journal_rows.proofs.Walks.{first_has}
use Rattle.ak_journal_rows.proofs.apart.is_first.Goals as goal

pub returns-in-Some : goal.returns-in-Some
returns-in-Some c =
    let is : c.args.rows.now ≡ c.in-Some.row.now ∷ drop 1 c.args.rows.now = search rules in
    c.eq.ensures ∙ ap (λ name. is_at (name_cmp c.args.name.now) name) c.name.ensures
    ∙ first_has c.args.name.now c.in-Some.row.now (drop 1 c.args.rows.now) (subst (λ rows. IsStrictlySortedBy name_cmp (map name_of rows)) is c.requires.ascend) (subst (IsFrom c.args.name.now) is c.requires.from)
    ∙ ap (λ rows. is_some (row_put rows c.args.name.now)) (sym is)
