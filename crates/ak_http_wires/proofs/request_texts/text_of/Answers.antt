use Rattle.std.proofs.Common.{◌∙◌}
use Rattle.std.specs.Prelude.{codes, decimal, length}
use Rattle.ak_http_wires.proofs.Texts.{whole_shown}
use Rattle.ak_http_wires.proofs.request_texts.text_of.Goals as goal

pub returns : goal.returns
returns c =
    c.from.ensures
    ∙ whole_shown _ c.as_str-first.result.now _ (codes "Content-Type: application/json\r\n") c.as_str-envelope.result.now _
    (codes "Content-Length: ") (decimal (length c.args.body.now)) (codes "\r\nConnection: close\r\n\r\n") c.args.body.now
    c.in_ok-text.ensures.ok (c.as_str-first.ensures ∙ c.in_ok-first.ensures) (c.as_str-envelope.ensures ∙ c.in_ok-envelope.ensures)
