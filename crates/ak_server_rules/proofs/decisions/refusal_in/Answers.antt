use Rattle.std.specs.Option.{option_map}
use Rattle.std.specs.Prelude.{Some}
use Rattle.std.proofs.Common.{sym, ap, ◌∙◌}
use Rattle.ak_keep.specs.HeadNumbers.{numbered}
use Rattle.ak_protocol.specs.Replies.{refused}
use Rattle.ak_server_rules.specs.Sessions.{session_seen}
use Rattle.ak_server_rules.proofs.Deciding.{refused_step, refused_cause, refused_not}
use Rattle.ak_server_rules.proofs.decisions.refusal_in.Goals as goal

pub returns-then-not-has_next_step-clause-why : goal.returns-then-not-has_next_step-clause-why
returns-then-not-has_next_step-clause-why c = λ k tables.
    ap Some c.declined_for.ensures
    ∙ sym (ap (option_map refused) (refused_step (numbered c.args.held.now k) (session_seen tables c.args.live.now) c.args.request.now (sym c.has_key_of.ensures ∙ c.if-not-has_key_of.false) (sym (c.has_next_step.ensures tables) ∙ c.if-not-has_next_step.true)))

pub returns-in-Some-clause-why : goal.returns-in-Some-clause-why
returns-in-Some-clause-why c = λ k tables.
    ap Some c.declined_for-in-Some.ensures
    ∙ sym (refused_cause (numbered c.args.held.now k) (session_seen tables c.args.live.now) c.args.request.now c.in_ok-cause.field-0 c.in-Some.cause (sym c.has_key_of.ensures ∙ c.if-not-has_key_of.false) (sym (c.has_next_step.ensures tables) ∙ c.if-not-has_next_step.false) (c.in_ok-cause.ensures.why k tables) c.in-Some.is)

pub returns-in-None-clause-why : goal.returns-in-None-clause-why
returns-in-None-clause-why c = λ k tables.
    sym (refused_not (numbered c.args.held.now k) (session_seen tables c.args.live.now) c.args.request.now c.in_ok-cause.field-0 (sym c.has_key_of.ensures ∙ c.if-not-has_key_of.false) (sym (c.has_next_step.ensures tables) ∙ c.if-not-has_next_step.false) (c.in_ok-cause.ensures.why k tables) c.in-None.is)
