use Rattle.std.specs.Option.{option_map}
use Rattle.std.specs.Prelude.{Option, Some}
use Rattle.std.proofs.Common.{◌≡◌, sym, ap, ◌∙◌}
use Rattle.ak_keep.specs.HeadNumbers.{numbered}
use Rattle.ak_protocol.specs.Replies.{refused}
use Rattle.ak_server_rules.specs.Decisions.{declined_so, refusal_in, refusal_of}
use Rattle.ak_server_rules.specs.Serving.{session_of}
use Rattle.ak_server_rules.specs.Sessions.{session_seen}
use Rattle.ak_server_rules.specs.declared.sessions.Session.{Session}
use Rattle.ak_server_rules.proofs.Deciding.{ok_so, refused_over}
use Rattle.ak_server_rules.proofs.decisions.refusal_of.Goals as goal

pub returns-in-Some-clause-why : goal.returns-in-Some-clause-why
returns-in-Some-clause-why c = λ k tables.
    ok_so c.refusal_in.result
    (λ why. option_map declined_so why ≡ option_map refused (refusal_in (numbered c.args.held.now k) (session_of (Some (session_seen tables c.in-Some.live)) c.args.request.now) c.args.request.now))
    (λ why. option_map declined_so why ≡ option_map refused (refusal_of (numbered c.args.held.now k) (option_map (session_seen tables) c.args.live.now) c.args.request.now))
    (λ why is. is
    ∙ ap (option_map refused) (sym (refused_over (numbered c.args.held.now k) (Some (session_seen tables c.in-Some.live)) c.args.request.now (sym c.is_over.ensures ∙ c.if-not-is_over.false)))
    ∙ ap (λ (live : Option Session). option_map refused (refusal_of (numbered c.args.held.now k) (option_map (session_seen tables) live) c.args.request.now)) (sym c.in-Some.is))
    (c.refusal_in.ensures.why k tables)
