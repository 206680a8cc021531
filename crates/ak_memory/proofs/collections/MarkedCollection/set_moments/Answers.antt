use Rattle.std.proofs.Common.{Option, sym, subst, w64, of_z, to_z, pos}
use Rattle.std.proofs.lemmas.Int.{to_z-of_z}
use Rattle.ak_base.specs.Heads.{AreMomentsInRange, IsMoment, IsWithin}
use Rattle.ak_base.specs.Limits.{last_head_usn}
use Rattle.ak_base.specs.declared.heads.Head.{Head}
use Rattle.ak_memory.specs.Collections.{IsFormed, with_mark}
use Rattle.ak_memory.specs.Versions.{Versions}
use Rattle.ak_memory.proofs.Forming.{moments-in_range}
use Rattle.ak_memory.proofs.collections.MarkedCollection.set_moments.Goals as goal

pub invariant_of-self : goal.invariant_of-self
invariant_of-self c =
    let range : AreMomentsInRange (to_z w64 (of_z w64 c.args.moment)) (to_z w64 (of_z w64 c.args.schema)) (to_z w64 (of_z w64 c.args.usn)) (to_z w64 (of_z w64 c.args.last_sync)) = record {
      moment = subst IsMoment (sym (to_z-of_z w64 c.args.moment c.ranges.moment)) c.requires.moment;
      schema = subst IsMoment (sym (to_z-of_z w64 c.args.schema c.ranges.schema)) c.requires.schema;
      usn = subst (IsWithin (pos 0) last_head_usn) (sym (to_z-of_z w64 c.args.usn c.ranges.usn)) c.requires.usn;
      last_sync = subst IsMoment (sym (to_z-of_z w64 c.args.last_sync c.ranges.last_sync)) c.requires.last_sync;
    } in
    subst (λ (head : Versions (Option Head)). IsFormed (with_mark c.self.inside.rows head c.self.inside.aside c.self.inside.marked)) (sym c.set_moments.ensures)
    (record {
      current = record { named = c.self.invariant.current.named; checked = c.self.invariant.current.checked; head = moments-in_range _ c.self.inside.head.current range c.self.invariant.current.head };
      mark = c.self.invariant.mark;
    })
