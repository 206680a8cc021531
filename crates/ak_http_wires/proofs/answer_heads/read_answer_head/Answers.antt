use Rattle.std.proofs.Common.{◌≡◌, [], rules, refl, sym, ap, subst, arith, length}
use Rattle.std.proofs.KnownBytes.{Consumes-nil}
use Rattle.std.specs.Io.KnownBytes.{Consumes}
use Rattle.ak_http_heads.proofs.Steps.{grown_by}
use Rattle.ak_http_wires.specs.AnswerHeads.{HasNoAnswerHead}
use Rattle.ak_http_wires.proofs.AnswerSteps.{no_bytes, full, answered, unreadable}
use Rattle.ak_http_wires.proofs.answer_heads.read_answer_head.Goals as goal

pub loop-bytes-init : goal.loop-bytes-init
loop-bytes-init g c =
    let empty : [] ≡ c.new-bytes.result.items = sym c.new-bytes.ensures.items in
    record {
      so_far = subst (Consumes _ _) empty (Consumes-nil (g.L.Source.left c.args.link.now));
      size = omega (arith, ap length empty);
      none = subst HasNoAnswerHead empty no_bytes;
      apart = refl;
      goes = search rules;
    }

pub returns-then-as_slice-ge-MOST_HEAD_BYTES-clause-told :
    goal.returns-then-as_slice-ge-MOST_HEAD_BYTES-clause-told
returns-then-as_slice-ge-MOST_HEAD_BYTES-clause-told g c =
    full _ _ c.loop-bytes.bytes.items c.loop-bytes.invariant.so_far c.loop-bytes.invariant.none
    (omega (arith, ap length c.as_slice.ensures.value, c.if-as_slice-ge-MOST_HEAD_BYTES.true))

pub returns-in-Head-clause-told : goal.returns-in-Head-clause-told
returns-in-Head-clause-told g c =
    answered _ _ c.as_slice-in-loop-bytes.result.now c.in-Head.head
    (grown_by _ _ _ c.loop-bytes.bytes.items c.in-Some.byte _ _ c.loop-bytes.invariant.so_far (rw c.in-Some.is at c.in_ok-byte.ensures.told)
    c.in_ok-push.ensures.items c.as_slice-in-loop-bytes.ensures.value)
    c.in-Head.ensures

pub returns-in-Unreadable-clause-told : goal.returns-in-Unreadable-clause-told
returns-in-Unreadable-clause-told g c =
    unreadable _ _ c.as_slice-in-loop-bytes.result.now
    (grown_by _ _ _ c.loop-bytes.bytes.items c.in-Some.byte _ _ c.loop-bytes.invariant.so_far (rw c.in-Some.is at c.in_ok-byte.ensures.told)
    c.in_ok-push.ensures.items c.as_slice-in-loop-bytes.ensures.value)
    c.in-Unreadable.ensures
