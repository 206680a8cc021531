use Rattle.std.proofs.Common.{◌≡◌, ◌+◌, ap, sym, ◌∙◌, subst, arith}
use Rattle.ak_journal_rows.specs.Texts.{IsPayloadOf}
use Rattle.ak_journal_folds.proofs.Payloads.{first_other, led_on, not_memory, place_told}
use Rattle.ak_journal_folds.proofs.folds.fold.Goals as goal

pub returns-in-Err-NotOfForm-clause-refused : goal.returns-in-Err-NotOfForm-clause-refused
returns-in-Err-NotOfForm-clause-refused c = λ place is.
    first_other c.args.payloads.now c.loop-payload.payload-index place c.payload-item.result c.loop-payload.keeper.kept.current (omega arith) c.payload-item.is
    (sym c.loop-payload.invariant.place ∙ place_told c.loop-payload.place place is) c.loop-payload.invariant.led
    (λ change of. not_memory c.in-Err-NotOfForm.field-0 c.in-Err-NotOfForm.field-0-is (c.in-Err-NotOfForm.ensures.complete change (subst (λ bytes. IsPayloadOf bytes change) (sym c.as_slice.ensures.value) of)))

pub loop-payload-preserved : goal.loop-payload-preserved
loop-payload-preserved c = record {
  ready = c.in-Ok-apply.ensures.ready;
  led = led_on c.args.payloads.now c.loop-payload.payload-index c.payload-item.result c.in-Ok-read_change.change c.loop-payload.keeper.kept.current _ (omega arith) c.payload-item.is
      c.loop-payload.invariant.led (subst (λ bytes. IsPayloadOf bytes c.in-Ok-read_change.change) c.as_slice.ensures.value c.in-Ok-read_change.ensures.read) c.in-Ok-apply.ensures.made;
  place = ap (λ n. n + 1) c.loop-payload.invariant.place;
}
