-- How the record of calls grows.
use Rattle.std.proofs.Common.{◌≡◌, ℕ, ◌+◌, ◌-◌, ◌<◌, ◌≤◌, List, [], ◌∷◌, ◌++◌, length, get_or, take, drop, map, reverse, refl, sym, ◌∙◌, ap, subst, arith, length-append, length-drop}
use Rattle.std.proofs.lemmas.List.{take-append-le, drop-append-le, drop_at, take_all, map_push, reverse-append, take_more}
use Rattle.ak_disks.specs.Images.{Event, Wrote}
use Rattle.std.specs.Prelude.{Vec, vec_len, vec_capacity}
use Rattle.std.specs.declared.alloc.Global.{Global}
use Rattle.ak_disks.specs.Logs.{event_of, happened, EndsWithin, EndWithin, IsLog}
use Rattle.ak_disks.specs.declared.logs.Entry.{Entry}
use Rattle.ak_disks.specs.declared.logs.Entry.TheVariants as entries

-- one entry more is the newest call
pub happened_push : (written : List ℕ) (kept : List Entry) (entry : Entry) → happened written (kept ++ entry ∷ []) ≡ event_of written entry ∷ happened written kept
happened_push written kept entry =
    ap (λ (l : List Event). reverse l) (map_push (event_of written) kept entry) ∙ reverse-append (map (event_of written) kept) (event_of written entry ∷ [])

-- a loop over the entries goes one on
pub happened_more : (written : List ℕ) (kept : List Entry) (i : ℕ) (entry : Entry) → i < length kept → happened written (take (i + 1) kept) ≡ event_of written (get_or kept i entry) ∷ happened written (take i kept)
happened_more written kept i entry within = ap (λ (l : List Entry). happened written l) (take_more kept i entry within) ∙ happened_push written (take i kept) (get_or kept i entry)

-- an entry's bytes stay where they are when more are written
event_longer : (written more : List ℕ) (entry : Entry) → EndsWithin (length written) entry → event_of (written ++ more) entry ≡ event_of written entry
event_longer written more entries.Look within = refl
event_longer written more (entries.Write place from count) within =
    let dropped : drop from (written ++ more) ≡ drop from written ++ more = drop-append-le from written more (omega arith) in
    let taken : take count (drop from written ++ more) ≡ take count (drop from written) = take-append-le count (drop from written) more (omega (arith, length-drop from written)) in
    ap (λ (l : List ℕ). Wrote place l) (ap (λ (l : List ℕ). take count l) dropped ∙ taken)
event_longer written more (entries.Cut size) within = refl
event_longer written more entries.Sync within = refl

events_longer : (written more : List ℕ) (kept : List Entry) → EndWithin (length written) kept → map (event_of (written ++ more)) kept ≡ map (event_of written) kept
events_longer written more [] within = refl
events_longer written more (entry ∷ kept) within =
    ap (λ (e : Event). e ∷ map (event_of (written ++ more)) kept) (event_longer written more entry within.0)
    ∙ ap (λ (l : List Event). event_of written entry ∷ l) (events_longer written more kept within.1)

pub happened_longer : (written more : List ℕ) (kept : List Entry) → EndWithin (length written) kept → happened (written ++ more) kept ≡ happened written kept
happened_longer written more kept within = ap (λ (l : List Event). reverse l) (events_longer written more kept within)

-- a write of the bytes that were added last
pub event_written : (written bytes : List ℕ) (place : ℕ) → event_of (written ++ bytes) (entries.Write place (length written) (length bytes)) ≡ Wrote place bytes
event_written written bytes place =
    ap (λ (l : List ℕ). Wrote place l) (ap (λ (l : List ℕ). take (length bytes) l) (drop_at written bytes (length written) refl) ∙ take_all (length bytes) bytes (omega arith))

-- all in all, a write is the newest call
pub happened_write : (written bytes : List ℕ) (kept : List Entry) (place : ℕ) → EndWithin (length written) kept
    → happened (written ++ bytes) (kept ++ entries.Write place (length written) (length bytes) ∷ []) ≡ Wrote place bytes ∷ happened written kept
happened_write written bytes kept place within =
    happened_push (written ++ bytes) kept (entries.Write place (length written) (length bytes))
    ∙ ap (λ (e : Event). e ∷ happened (written ++ bytes) kept) (event_written written bytes place)
    ∙ ap (λ (l : List Event). Wrote place bytes ∷ l) (happened_longer written bytes kept within)

ends_later : (size more : ℕ) (entry : Entry) → size ≤ more → EndsWithin size entry → EndsWithin more entry
ends_later size more entries.Look le within = tt
ends_later size more (entries.Write place from count) le within = omega arith
ends_later size more (entries.Cut cut) le within = tt
ends_later size more entries.Sync le within = tt

pub end_later : (size more : ℕ) (kept : List Entry) → size ≤ more → EndWithin size kept → EndWithin more kept
end_later size more [] le within = tt
end_later size more (entry ∷ kept) le within = (ends_later size more entry le within.0, end_later size more kept le within.1)

pub end_push : (size : ℕ) (kept : List Entry) (entry : Entry) → EndWithin size kept → EndsWithin size entry → EndWithin size (kept ++ entry ∷ [])
end_push size [] entry within last = (last, tt)
end_push size (first ∷ kept) entry within last = (within.0, end_push size kept entry within.1 last)

-- a log with an entry more, whose bytes stand among those that were written
module _ (kept kept' : Vec Entry Global) (room places : ℕ) (entry : Entry) (items : kept'.items ≡ kept.items ++ entry ∷ []) (len : vec_len kept' ≡ vec_len kept + 1) (capacity : vec_capacity kept ≤ vec_capacity kept') (free : 0 < places) where
  pub log_call : (written : Vec ℕ Global) → IsLog written kept room places → EndsWithin (length written.items) entry → IsLog written kept' room (places - 1)
  log_call written was ends = record {
    within = subst (EndWithin (length written.items)) (sym items) (end_push (length written.items) kept.items entry was.within ends);
    bytes_fit = was.bytes_fit;
    calls_fit = omega (arith, was.calls_fit, len, capacity, free);
  }

  pub log_write : (written written' : Vec ℕ Global) (bytes : List ℕ) → written'.items ≡ written.items ++ bytes → vec_len written' ≡ vec_len written + length bytes → vec_capacity written ≤ vec_capacity written' → length bytes ≤ room
      → IsLog written kept room places → EndsWithin (length (written.items ++ bytes)) entry → IsLog written' kept' (room - length bytes) (places - 1)
  log_write written written' bytes more longer larger fits was ends = record {
    within =
        subst (λ (l : List ℕ). EndWithin (length l) kept'.items) (sym more)
        (subst (EndWithin (length (written.items ++ bytes))) (sym items)
        (end_push (length (written.items ++ bytes)) kept.items entry
        (end_later (length written.items) (length (written.items ++ bytes)) kept.items (omega (arith, length-append written.items bytes)) was.within) ends));
    bytes_fit = omega (arith, was.bytes_fit, longer, larger, fits);
    calls_fit = omega (arith, was.calls_fit, len, capacity, free);
  }
