use Rattle.std.proofs.Common.{◌≡◌, ◌∙◌, ◌++◌, cond, ap, sym, []}
use Rattle.std.specs.Prelude.{codes}
use Rattle.std.specs.Fmt.{decimal}
use Rattle.ak_filters.specs.Meanings.{formed, Hint}
use Rattle.ak_filters.proofs.hints.hint_of.Goals as goal

pub returns : goal.returns
returns c =
    let link = codes "<a class=hint id=hint" ++ (decimal c.args.turn ++ (codes ">" ++ (c.args.text.now ++ codes "</a>"))) in
    let is : c.deref.result.now ≡ formed Hint c.args.turn c.args.text.now =
    c.deref.ensures ∙ c.in_ok-link.ensures.ok ∙ sym (ap (λ v. cond v [] link) (sym c.is_empty.ensures ∙ c.if-is_empty.false)) in
    rw (← is) c.of-2.ensures
