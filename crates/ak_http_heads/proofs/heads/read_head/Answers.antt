use Rattle.std.proofs.Common.{◌≡◌, [], ◌∷◌, ◌++◌, rules, refl, sym, ap, subst, arith, length}
use Rattle.std.proofs.KnownBytes.{Consumes-nil}
use Rattle.std.specs.Io.KnownBytes.{Consumes}
use Rattle.ak_http_heads.specs.Heads.{HasNoHead}
use Rattle.ak_http_heads.proofs.Steps.{no_bytes, full, one_more, grown_by, answered, refused, no_memory}
use Rattle.ak_http_heads.proofs.heads.read_head.Goals as goal

pub loop-bytes-init : goal.loop-bytes-init
loop-bytes-init g c =
    let empty : [] ≡ c.new-bytes.result.items = sym c.new-bytes.ensures.items in
    record {
      so_far = subst (Consumes _ _) empty (Consumes-nil (g.L.Source.left c.args.link.now));
      size = omega (arith, ap length empty);
      none = subst HasNoHead empty no_bytes;
      apart = refl;
      goes = search rules;
    }

pub returns-then-as_slice-ge-MOST_HEAD_BYTES-clause-told :
    goal.returns-then-as_slice-ge-MOST_HEAD_BYTES-clause-told
returns-then-as_slice-ge-MOST_HEAD_BYTES-clause-told g c =
    full _ _ c.loop-bytes.bytes.items c.loop-bytes.invariant.so_far c.loop-bytes.invariant.none
    (omega (arith, ap length c.as_slice.ensures.value, c.if-as_slice-ge-MOST_HEAD_BYTES.true))

pub returns-in_err-push-clause-told : goal.returns-in_err-push-clause-told
returns-in_err-push-clause-told g c =
    no_memory _ _ (c.loop-bytes.bytes.items ++ c.in-Some.byte ∷ []) _
    (one_more _ _ _ c.loop-bytes.bytes.items c.in-Some.byte c.loop-bytes.invariant.so_far (rw c.in-Some.is at c.in_ok-byte.ensures.told))
    c.from_residual-in_err-push.ensures.1

pub returns-in-Ok-Some-clause-told : goal.returns-in-Ok-Some-clause-told
returns-in-Ok-Some-clause-told g c =
    answered _ _ c.as_slice-in-loop-bytes.result.now c.in-Ok-Some.head
    (grown_by _ _ _ c.loop-bytes.bytes.items c.in-Some.byte _ _ c.loop-bytes.invariant.so_far (rw c.in-Some.is at c.in_ok-byte.ensures.told)
    c.in_ok-push.ensures.items c.as_slice-in-loop-bytes.ensures.value)
    (rw c.in-Ok-Some.field-0-is at c.in-Ok-Some.ensures)

pub returns-in-Err-clause-told : goal.returns-in-Err-clause-told
returns-in-Err-clause-told g c =
    refused _ _ c.as_slice-in-loop-bytes.result.now c.in-Err.why
    (grown_by _ _ _ c.loop-bytes.bytes.items c.in-Some.byte _ _ c.loop-bytes.invariant.so_far (rw c.in-Some.is at c.in_ok-byte.ensures.told)
    c.in_ok-push.ensures.items c.as_slice-in-loop-bytes.ensures.value)
    c.in-Err.ensures
