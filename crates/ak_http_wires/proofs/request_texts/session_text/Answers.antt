use Rattle.std.proofs.Common.{ap, false, ◌∙◌}
use Rattle.std.specs.Fmt.{digits, digits_output, padded_integral, radix_prefix, shown_prefix}
use Rattle.ak_http_wires.proofs.Texts.{session_shown}
use Rattle.ak_http_wires.proofs.request_texts.session_text.Goals as goal

pub returns : goal.returns
returns c =
    let numeral = digits 16 false c.args.session.0 in
    c.from.ensures
    ∙ session_shown (padded_integral c.laid_out.result false (shown_prefix c.laid_out.result (radix_prefix c.in_radix.result.base)))
    (digits_output c.in_radix.result) c.args.session.0 _ c.in_radix.ensures
    (ap (λ spec. padded_integral spec false (shown_prefix spec (radix_prefix c.in_radix.result.base)) numeral) c.laid_out.ensures)
    c.in_ok-text.ensures.ok
