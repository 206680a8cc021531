use Rattle.std.proofs.Common.{sym, ap, ◌∙◌}
use Rattle.serde_json.specs.Read.{read}
use Rattle.ak_base.proofs.Resting.{no_rest, rest_is_read, rest_reads}
use Rattle.ak_base.proofs.rests.Rest.value.Goals as goal

pub prove-unreachable-requires : goal.prove-unreachable-requires
prove-unreachable-requires g c =
    rest_is_read _ g.O.Owner.ignores c.args.self.now.unknown (ap read (sym c.as_str.ensures) ∙ c.in-Err.ensures.err (λ memory. no_rest (sym c.if-prove.true ∙ c.is_memory-memory.ensures.1 memory)))

pub returns-in-Ok : goal.returns-in-Ok
returns-in-Ok g c = rest_reads _ _ g.O.Owner.ignores c.args.self.now.unknown (ap read (sym c.as_str.ensures) ∙ c.in-Ok.ensures.ok)
