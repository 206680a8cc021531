use Rattle.std.proofs.Common.{sym, subst}
use Rattle.std.proofs.lemmas.List.Elements.{All-from_recursion, recursion_from_All}
use Rattle.std.specs.List.{AllByRecursion}
use Rattle.ak_base.specs.Rows.{IsChecked}
use Rattle.ak_made_collections.proofs.MadeLawful.{made_checked, rows_in_turn}
use Rattle.ak_made_collections.proofs.made_collections.made_rows.Goals as goal
use Rattle.ak_made_collections.specs.MadeLists.{note_rows}

pub returns-clause-checked : goal.returns-clause-checked
returns-clause-checked c =
    let are = rows_in_turn c.args.plan.seed c.args.plan.size.notes c.cards_before-cards.result c.new-rows.result.items c.push_notes.new.rows.items c.push_cards.new.rows.items
    c.push_reviews.new.rows.items c.new-rows.ensures.items c.in_ok-push_notes.ensures.are c.in_ok-push_cards.ensures c.in_ok-push_reviews.ensures
    c.cards_before-cards.ensures.count in
    All-from_recursion IsChecked c.push_reviews.new.rows.items (subst (AllByRecursion IsChecked) (sym are)
    (made_checked c.args.plan.seed c.args.plan.size.notes c.args.plan.size.few.high
    (recursion_from_All IsChecked (note_rows c.args.plan.seed c.args.plan.size.notes) c.in_ok-push_notes.ensures.checked)))
