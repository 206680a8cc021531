use Rattle.std.proofs.Common.{◌≡◌, ◌∷◌, ◌++◌, [], ap, append_assoc, rules, subst, sym, ◌∙◌}
use Rattle.std.specs.List.{All}
use Rattle.std.proofs.lemmas.List.Elements.{All-push}
use Rattle.ak_journal_rows.specs.Changes.{HasWordId}
use Rattle.ak_journal_changes.proofs.touched.listed.Goals as goal

pub loop-name-preserved : goal.loop-name-preserved
loop-name-preserved c =
    let step : c.loop-name.name-iterator ≡ c.in-Some.name.now ∷ c.next.new.self = search rules in
    record {
      names = ap (λ made. made ++ c.next.new.self) c.in_ok-push.ensures.ok
          ∙ (append_assoc c.loop-name.made (c.own.result ∷ []) c.next.new.self
          ∙ (ap (λ name. c.loop-name.made ++ name ∷ c.next.new.self) c.own.ensures.same
          ∙ (ap (λ rest. c.loop-name.made ++ rest) (sym step) ∙ c.loop-name.invariant.names)));
      ids = subst (All HasWordId) (sym c.in_ok-push.ensures.ok) (All-push HasWordId c.loop-name.made c.own.result c.loop-name.invariant.ids c.own.ensures.id);
    }
