use Rattle.std.specs.Option.{option_map}
use Rattle.std.proofs.Common.{◌≡◌}
use Rattle.ak_keep.specs.HeadNumbers.{numbered}
use Rattle.ak_server_rules.specs.Decisions.{objection_in}
use Rattle.ak_server_rules.specs.Serving.{objection_to}
use Rattle.ak_server_rules.specs.Sessions.{session_seen}
use Rattle.ak_messages.specs.declared.requests.Ask.TheVariants as asks
use Rattle.ak_session.specs.Refusals.{first_objection, upload_tests}
use Rattle.ak_server_rules.proofs.Deciding.{objected_by, ok_so}
use Rattle.ak_server_rules.proofs.decisions.objection_to.Goals as goal

pub returns-in-Start-clause-why : goal.returns-in-Start-clause-why
returns-in-Start-clause-why c = λ k tables.
    objected_by (numbered c.args.held.now k) (session_seen tables c.args.live.now) c.args.ask.now (asks.Start c.in-Start.min_usn c.in-Start.lmod)
    c.asked_method.result c.may_follow.result (option_map objection_in c.objection_to_start.result)
    c.in-Start.is c.asked_method.ensures c.may_follow.ensures c.if-not-may_follow.false (c.objection_to_start.ensures k)

pub returns-in-Upload-clause-why : goal.returns-in-Upload-clause-why
returns-in-Upload-clause-why c = λ k tables.
    ok_so c.objection_to_upload.result
    (λ why. option_map objection_in why ≡ first_objection (upload_tests (numbered c.args.held.now k) c.in-Upload.whole))
    (λ why. option_map objection_in why ≡ objection_to (numbered c.args.held.now k) (session_seen tables c.args.live.now) c.args.ask.now)
    (λ why found. objected_by (numbered c.args.held.now k) (session_seen tables c.args.live.now) c.args.ask.now (asks.Upload c.in-Upload.whole)
    c.asked_method.result c.may_follow.result (option_map objection_in why)
    c.in-Upload.is c.asked_method.ensures c.may_follow.ensures c.if-not-may_follow.false found)
    (c.objection_to_upload.ensures k)
