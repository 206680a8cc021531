use Rattle.std.proofs.Common.{arith, ap, get_or}
use Rattle.std.proofs.lemmas.Str.{IsCharBoundary-after_ascii}
use Rattle.ak_template.proofs.clozes.digit_at.Goals as goal

pub range_from-requires : goal.range_from-requires
range_from-requires c = λ h. let e = ap (λ xs. get_or xs 0 0) c.as_bytes-bytes.ensures.value in let g = c.if-byte-gt57.false in IsCharBoundary-after_ascii c.args.text.now 0 c.utf8.text (omega arith) (omega (arith, e, g))
