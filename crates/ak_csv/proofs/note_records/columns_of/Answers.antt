use Rattle.std.proofs.Common.{Bor, ℕ, List, [], ◌∙◌, ap, get_or, map}
use Rattle.ak_csv.specs.NoteRecords.{columns_of}
use Rattle.ak_csv.proofs.Fitting.{columns_more, now_of}
use Rattle.ak_csv.proofs.note_records.columns_of.Goals as goal

pub loop-place-preserved : goal.loop-place-preserved
loop-place-preserved c =
    columns_more c.loop-place.columns.items c.push-in-loop-place.new.self.items c.as_bytes-in-loop-place.result c.args.fields c.loop-place.place
    (map now_of c.in_ok-texts.texts.items) (columns_of c.args.fields c.args.note.now) c.in_ok-push-3.ensures.items
    (c.as_bytes-in-loop-place.ensures.value ∙ c.text_at.ensures
    ∙ ap (λ (texts : List (Bor (List ℕ))). get_or (map now_of texts) c.loop-place.place []) c.as_slice.ensures.value)
    c.loop-place-test.true c.loop-place.invariant
