use Rattle.std.proofs.Common.{rules, arith, ◌≡◌, ◌⊎◌, ◌+◌, ◌∷◌, [], ℕ, List, length, refl, sym, ap, subst, ◌∙◌}
use Rattle.std.proofs.lemmas.List.{nil_from_length}
use Rattle.ak_faults.proofs.Healths.{goes_further, goes_nowhere}
use Rattle.ak_imports.proofs.TakingAll.{TakesFront, all_taken, none_taken, one_counted, one_refused, one_taken}
use Rattle.ak_imports.specs.Imports.{IsOutside}
use Rattle.ak_imports.specs.UnderWay.{RefusesOne}
use Rattle.ak_imports.specs.declared.imports.Imported.{Imported}
use Rattle.ak_imports.specs.declared.imports.NotesFault.{NotesFault}
use Rattle.ak_imports.specs.declared.records.Record.{Record}
use Rattle.ak_imports.proofs.imports.take_records.Goals as goal

pub loop-record-init : goal.loop-record-init
loop-record-init g c =
    let k = g.K.Lookup.keeping c.args.keeper.now in
    let items : c.into_iter-record-iterator.result.rest.items ≡ c.args.records.items = search (rules, c.into_iter-record-iterator.ensures.into_iter_gives) in
    let long : length c.into_iter-record-iterator.result.rest.items ≡ length c.args.records.items = ap length items in record {
      counted = omega (arith, long);
      total = refl;
      held = c.requires.held;
      stays = record { marked = c.requires.marked; back = refl };
      goes = goes_nowhere (g.K.Lookup.health c.args.keeper.now);
      taken = subst (λ (rest : List Record). TakesFront c.args.arrival c.args.records.items rest 0 (record { added = 0; updated = 0; same = 0 }) c.args.work.now k c.args.work.now k) (sym items)
          (none_taken c.args.arrival c.args.records.items c.args.work.now k);
    }

pub loop-record-preserved : goal.loop-record-preserved
loop-record-preserved g c =
    let k = g.K.Lookup.keeping c.args.keeper.now in
    let mid = g.K.Lookup.keeping c.loop-record.keeper in
    let now = g.K.Lookup.keeping c.take_record.new.keeper in
    let items : c.loop-record.record-iterator.rest.items ≡ c.in-Some.record ∷ c.next.new.self.rest.items = search (rules, c.in-Some.ensures.steps) in
    let long : length c.loop-record.record-iterator.rest.items ≡ length (c.in-Some.record ∷ c.next.new.self.rest.items) = ap length items in
    let counted : c.loop-record.number + length c.loop-record.record-iterator.rest.items ≡ length c.args.records.items = c.loop-record.invariant.counted in record {
      counted = omega (arith, long, counted);
      total = ap (λ (n : Imported). n.added + (n.updated + n.same)) c.count.ensures ∙ one_counted c.in-Ok.outcome c.loop-record.counts ∙ ap (λ (n : ℕ). n + 1) c.loop-record.invariant.total;
      held = c.in-Ok.ensures.held;
      stays = record { marked = c.in-Ok.ensures.stays.marked; back = c.in-Ok.ensures.stays.back ∙ c.loop-record.invariant.stays.back };
      goes = goes_further c.loop-record.invariant.goes c.in-Ok.ensures.cause.goes;
      taken = subst (λ (counts : Imported). TakesFront c.args.arrival c.args.records.items c.next.new.self.rest.items (c.loop-record.number + 1) counts c.args.work.now k c.take_record.new.work now) (sym c.count.ensures)
          (one_taken c.args.arrival c.args.records.items c.next.new.self.rest.items c.in-Some.record c.loop-record.number c.loop-record.counts c.in-Ok.outcome c.args.work.now c.loop-record.work c.take_record.new.work k mid now
          (subst (λ (rest : List Record). TakesFront c.args.arrival c.args.records.items rest c.loop-record.number c.loop-record.counts c.args.work.now k c.loop-record.work mid) items c.loop-record.invariant.taken) c.in-Ok.ensures.ok);
    }

pub returns-in-Err-clause-refused : goal.returns-in-Err-clause-refused
returns-in-Err-clause-refused g c =
    let k = g.K.Lookup.keeping c.args.keeper.now in
    let mid = g.K.Lookup.keeping c.loop-record.keeper in
    let items : c.loop-record.record-iterator.rest.items ≡ c.in-Some.record ∷ c.next.new.self.rest.items = search (rules, c.in-Some.ensures.steps) in
    subst (λ (fault : NotesFault). IsOutside fault ⊎ RefusesOne c.args.arrival c.args.records.items c.args.work.now k fault) (sym c.at.ensures)
    (one_refused c.args.arrival c.args.records.items c.next.new.self.rest.items c.in-Some.record c.loop-record.number c.loop-record.counts c.in-Err.fault c.args.work.now c.loop-record.work k mid
    (subst (λ (rest : List Record). TakesFront c.args.arrival c.args.records.items rest c.loop-record.number c.loop-record.counts c.args.work.now k c.loop-record.work mid) items c.loop-record.invariant.taken) c.in-Err.ensures.refused)

pub returns-clause-ok : goal.returns-clause-ok
returns-clause-ok g c =
    let k = g.K.Lookup.keeping c.args.keeper.now in
    let mid = g.K.Lookup.keeping c.loop-record.keeper in
    let items : c.loop-record.record-iterator.rest.items ≡ [] = nil_from_length c.loop-record.record-iterator.rest.items (sym c.loop-record.record-iterator.rest.ok.0 ∙ c.in-None.ensures.steps.0) in
    all_taken c.args.arrival c.args.records.items c.loop-record.number c.loop-record.counts c.args.work.now c.loop-record.work k mid
    (subst (λ (rest : List Record). TakesFront c.args.arrival c.args.records.items rest c.loop-record.number c.loop-record.counts c.args.work.now k c.loop-record.work mid) items c.loop-record.invariant.taken)
