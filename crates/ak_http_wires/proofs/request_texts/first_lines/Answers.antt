use Rattle.std.proofs.Common.{ap, ◌∙◌}
use Rattle.std.specs.Prelude.{codes}
use Rattle.ak_messages.specs.Methods.{name_of}
use Rattle.ak_http_wires.proofs.Texts.{first_shown}
use Rattle.ak_http_wires.proofs.request_texts.first_lines.Goals as goal

pub returns : goal.returns
returns c =
    c.from.ensures
    ∙ first_shown _ (codes "POST /sync/") c.name-method.result.now _ (codes " HTTP/1.1\r\nHost: ") c.args.host_name.now (codes "\r\n")
    c.in_ok-text.ensures.ok (c.name-method.ensures ∙ ap name_of c.asked_method.ensures)
