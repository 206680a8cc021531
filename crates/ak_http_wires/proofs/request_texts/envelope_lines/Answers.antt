use Rattle.std.proofs.Common.{◌∙◌, rules, w64, SFits}
use Rattle.std.proofs.lemmas.Int.{to_z-of_z}
use Rattle.std.specs.Prelude.{codes, decimal}
use Rattle.ak_http_wires.proofs.Texts.{envelope_shown}
use Rattle.ak_http_wires.proofs.request_texts.envelope_lines.Goals as goal

pub returns : goal.returns
returns c =
    let fits : SFits w64 c.args.request.now.base = search rules in
    c.from.ensures
    ∙ envelope_shown _ (codes "X-Anki-Key: ") c.digits_of-key.result.now _ (codes "\r\nX-Anki-Session: ") c.as_str-session.result.now _
    (codes "\r\nX-Anki-Step: ") (decimal c.args.request.now.step) (codes "\r\nX-Anki-Base: ") _ _ (codes "\r\n") c.in_ok-text.ensures.ok
    c.digits_of-key.ensures (c.as_str-session.ensures ∙ c.in_ok-session.ensures) (to_z-of_z w64 c.args.request.now.base fits)
