use Rattle.std.proofs.Common.{◌∙◌, sym}
use Rattle.ak_search.specs.Grammar.{pieces_in}
use Rattle.ak_search.proofs.Skipping.{skipped_group, skipped_term}
use Rattle.ak_search.proofs.evaluator.Evaluator.skip.Goals as goal

pub returns-in-Test-clause-same : goal.returns-in-Test-clause-same
returns-in-Test-clause-same c =
    skipped_term c.args.self.now c.args.piece.now c.in-Test.field-0 c.in-Test.field-1 (pieces_in c.args.others.now) (sym c.is_settled.ensures ∙ c.if-not-is_settled.false) c.in-Test.is

pub returns-in-Open-clause-same : goal.returns-in-Open-clause-same
returns-in-Open-clause-same c =
    skipped_group (λ rest. pieces_in rest.now) c.args.self.now c.args.piece.now c.in-Open.field-0 (pieces_in c.args.others.now) c.past_group.result (sym c.is_settled.ensures ∙ c.if-not-is_settled.false) c.in-Open.is c.past_group.ensures.behind
