use Rattle.ak_http_heads.proofs.Forms.{over_limit}
use Rattle.ak_http_heads.proofs.checks.is_over_limit.Goals as goal

pub returns-then-is_decimal : goal.returns-then-is_decimal
returns-then-is_decimal c =
    over_limit 268_435_456 c.args.value.now c.read_decimal.result c.is_none.result (cc) c.read_decimal.ensures.number c.is_none.ensures
