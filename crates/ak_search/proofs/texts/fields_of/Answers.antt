use Rattle.std.proofs.Common.{refl, arith}
use Rattle.ak_base.specs.NoteTexts.{fields_in}
use Rattle.ak_search.specs.CardFacts.{filled}
use Rattle.ak_search.proofs.Looking.{fills, filled_up}
use Rattle.ak_search.proofs.texts.fields_of.Goals as goal

pub texts-preserved : goal.texts-preserved
texts-preserved c =
    fills (λ text. text.now) c.args.count c.texts.texts.items c.push.new.self.items _ (filled c.args.count (fields_in c.args.note.now.flds)) refl c.in_ok-push.ensures.items
    (omega (arith, c.as_slice.ensures.len, c.texts-test.true)) c.texts.invariant

pub returns : goal.returns
returns c =
    filled_up (λ text. text.now) c.args.count c.texts.texts.items (filled c.args.count (fields_in c.args.note.now.flds))
    (omega (arith, c.as_slice.ensures.len, c.texts-test.false)) c.texts.invariant
