use Rattle.std.proofs.Common.{ap, ◌∙◌}
use Rattle.serde_json.specs.Read.{read}
use Rattle.serde_json.specs.View.{view}
use Rattle.ak_base.proofs.Resting.{members_of-written, plain_value, written_is_rest}
use Rattle.ak_base.proofs.rests.Rest.of.Goals as goal

pub returns-clause-members : goal.returns-clause-members
returns-clause-members g c =
    let plain = plain_value (view c.args.value.now) g.O.Owner.ignores c.requires in
    members_of-written _ (view c.args.value.now) (ap read c.from-text.ensures ∙ c.in_ok-to_string.ensures.reads_back plain.1) (c.from-text.ensures ∙ c.in_ok-to_string.ensures.text plain.0)

pub invariant_of-result : goal.invariant_of-result
invariant_of-result g c =
    let plain = plain_value (view c.args.value.now) g.O.Owner.ignores c.requires in
    record {
      unknown = written_is_rest _ (view c.args.value.now) g.O.Owner.ignores c.requires
          (members_of-written _ (view c.args.value.now) (ap read c.from-text.ensures ∙ c.in_ok-to_string.ensures.reads_back plain.1) (c.from-text.ensures ∙ c.in_ok-to_string.ensures.text plain.0));
    }
