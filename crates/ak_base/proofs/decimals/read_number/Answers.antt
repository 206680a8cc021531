use Rattle.std.proofs.Common.{◌≡◌, ◌∙◌, true, false, arith}
use Rattle.ak_base.specs.Decimals.{is_decimal}
use Rattle.ak_base.proofs.Numerals.{unless_decimal, parsed, not_parsed}
use Rattle.ak_base.proofs.decimals.read_number.Goals as goal

pub returns-then-not-is_decimal-clause-number : goal.returns-then-not-is_decimal-clause-number
returns-then-not-is_decimal-clause-number c =
    let other : is_decimal c.args.text.now ≡ false = cc in unless_decimal _ _ other

pub returns-in-Ok-clause-number : goal.returns-in-Ok-clause-number
returns-in-Ok-clause-number c =
    let decimal : is_decimal c.args.text.now ≡ true = cc in
    c.at_most.ensures.number ∙ parsed (Unit {0}) _ _ _ c.in-Ok.ensures.value.0 decimal

pub returns-in-Err-clause-number : goal.returns-in-Err-clause-number
returns-in-Err-clause-number c =
    let decimal : is_decimal c.args.text.now ≡ true = cc in
    not_parsed _ _ c.in-Err.field-0 (omega arith) c.in-Err.ensures.value.0 decimal
