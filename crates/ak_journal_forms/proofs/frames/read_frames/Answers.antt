use Rattle.std.proofs.Common.{◌≡◌, ◌∷◌, ◌++◌, [], ◌+◌, ◌≤◌, ℕ, List, length, take, drop, sym, ◌∙◌, ap, subst, arith}
use Rattle.std.specs.Prelude.{Vec}
use Rattle.std.specs.declared.alloc.Global.{Global}
use Rattle.std.proofs.lemmas.List.{map_push}
use Rattle.ak_journal_forms.specs.Frames.{AreFrames, IsOpen}
use Rattle.ak_base.specs.Bytes.{bytes_of_each}
use Rattle.ak_journal_forms.proofs.Places.{gate_place}
use Rattle.ak_journal_forms.proofs.Readings.{one_more, more_within}
use Rattle.ak_journal_forms.proofs.frames.read_frames.Goals as goal

pub loop-size-preserved : goal.loop-size-preserved
loop-size-preserved c =
    let open_here : IsOpen (drop c.loop-size.gate c.args.file.now) c.in-Some.size = subst (λ (l : List ℕ). IsOpen l c.in-Some.size) c.rest.ensures c.in-Some.ensures in
    let fits : c.in-Some.size ≤ length (drop (c.loop-size.gate + 9) c.args.file.now) = omega (arith, c.if-size-rest.false, ap (λ (l : List ℕ). length l) c.rest-in-Some.ensures) in
    let item : c.in_ok-from_slice.field-0.items ≡ take c.in-Some.size (drop (c.loop-size.gate + 9) c.args.file.now) = c.in_ok-from_slice.ensures.items ∙ c.part-payload.ensures in
    let items : bytes_of_each c.push.new.self.items ≡ bytes_of_each c.loop-size.payloads.items ++ take c.in-Some.size (drop (c.loop-size.gate + 9) c.args.file.now) ∷ [] =
    ap (λ (l : List (Vec ℕ Global)). bytes_of_each l) c.in_ok-push.ensures.items
    ∙ map_push (λ (payload : Vec ℕ Global). payload.items) c.loop-size.payloads.items c.in_ok-from_slice.field-0
    ∙ ap (λ (l : List ℕ). bytes_of_each c.loop-size.payloads.items ++ l ∷ []) item in
    record {
      within = more_within c.loop-size.gate c.in-Some.size c.args.file.now c.loop-size.invariant.within open_here fits;
      frames =
          subst (λ (l : List (List ℕ)). AreFrames l (take (c.loop-size.gate + (9 + c.in-Some.size)) c.args.file.now)) (sym items)
          (one_more (bytes_of_each c.loop-size.payloads.items) c.loop-size.gate c.in-Some.size c.args.file.now c.loop-size.invariant.within c.loop-size.invariant.frames open_here fits);
    }

pub returns-clause-gate : goal.returns-clause-gate
returns-clause-gate c = gate_place (bytes_of_each c.loop-size.payloads.items) c.loop-size.gate c.args.file.now c.loop-size.invariant.within c.loop-size.invariant.frames
