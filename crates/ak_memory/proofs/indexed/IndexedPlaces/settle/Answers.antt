use Rattle.std.proofs.Common.{List, sym, ap, subst, ◌∙◌, arith}
use Rattle.ak_base.specs.declared.names.Name.{Name}
use Rattle.ak_memory.specs.declared.versions.Version.TheVariants.{Mark, Now}
use Rattle.ak_memory.specs.Indexes.{AreNoted, IsCounted}
use Rattle.ak_memory.specs.Places.{row_under, rows_at}
use Rattle.ak_memory.specs.TakenRuns.{AreRuns, is_used_under}
use Rattle.ak_memory.specs.declared.taken_runs.TakenRuns.{TakenRuns}
use Rattle.ak_memory.proofs.Settling.{all-settled, none-changed, settled-now}
use Rattle.ak_memory.proofs.TakenRuns.{no_runs-are, runs_same}
use Rattle.ak_memory.proofs.indexed.IndexedPlaces.settle.Goals as goal

pub returns-in-Now-clause-indexed : goal.returns-in-Now-clause-indexed
returns-in-Now-clause-indexed c =
    let es = c.args.self.now.places.entries in
    let fs = c.settle_all.new.places.entries in
    let are = subst (λ (ns : List Name). AreNoted ns es) (sym c.as_slice.ensures.value) c.requires.noted in
    record {
      current = subst (IsCounted c.args.self.now.counts) (sym (all-settled c.as_slice.result.now es fs c.args.version are c.settle_all.ensures.rows Now ∙ ap (λ v. rows_at v es) c.in-Now.is)) c.requires.current;
      mark = subst (IsCounted c.args.self.now.counts) (sym (all-settled c.as_slice.result.now es fs c.args.version are c.settle_all.ensures.rows Mark ∙ ap (λ v. rows_at v es) c.in-Now.is)) c.requires.current;
      keys = c.settle_all.ensures.keys;
      noted = subst (λ (ns : List Name). AreNoted ns fs) (sym c.clear.ensures.items) (none-changed c.as_slice.result.now es fs are c.settle_all.ensures.changed);
      full = c.settle_all.ensures.full c.requires.full;
      room = omega (arith, c.clear.ensures.len, c.clear.ensures.capacity, c.settle_all.ensures.count, c.as_slice.ensures.len, c.requires.room);
      taken = runs_same (row_under Now es) (row_under Now fs) c.args.self.now.taken
          (settled-now c.as_slice.result.now es fs c.args.version c.in-Now.is (c.settle_all.ensures.rows Now)) c.requires.taken;
    }

pub returns-in-Now-clause-rows : goal.returns-in-Now-clause-rows
returns-in-Now-clause-rows c =
    let es = c.args.self.now.places.entries in
    all-settled c.as_slice.result.now es c.settle_all.new.places.entries c.args.version (subst (λ (ns : List Name). AreNoted ns es) (sym c.as_slice.ensures.value) c.requires.noted) c.settle_all.ensures.rows

pub returns-in-Mark-clause-indexed : goal.returns-in-Mark-clause-indexed
returns-in-Mark-clause-indexed c =
    let es = c.args.self.now.places.entries in
    let fs = c.settle_all.new.places.entries in
    let are = subst (λ (ns : List Name). AreNoted ns es) (sym c.as_slice.ensures.value) c.requires.noted in
    record {
      current = subst (IsCounted c.args.self.now.mark_counts) (sym (all-settled c.as_slice.result.now es fs c.args.version are c.settle_all.ensures.rows Now ∙ ap (λ v. rows_at v es) c.in-Mark.is)) c.requires.mark;
      mark = subst (IsCounted c.args.self.now.mark_counts) (sym (all-settled c.as_slice.result.now es fs c.args.version are c.settle_all.ensures.rows Mark ∙ ap (λ v. rows_at v es) c.in-Mark.is)) c.requires.mark;
      keys = c.settle_all.ensures.keys;
      noted = subst (λ (ns : List Name). AreNoted ns fs) (sym c.clear.ensures.items) (none-changed c.as_slice.result.now es fs are c.settle_all.ensures.changed);
      full = c.settle_all.ensures.full c.requires.full;
      room = omega (arith, c.clear.ensures.len, c.clear.ensures.capacity, c.settle_all.ensures.count, c.as_slice.ensures.len, c.requires.room);
      taken = subst (λ (runs : TakenRuns). AreRuns (is_used_under fs) runs) (sym c.none-self.ensures) (no_runs-are _);
    }

pub returns-in-Mark-clause-rows : goal.returns-in-Mark-clause-rows
returns-in-Mark-clause-rows c =
    let es = c.args.self.now.places.entries in
    all-settled c.as_slice.result.now es c.settle_all.new.places.entries c.args.version (subst (λ (ns : List Name). AreNoted ns es) (sym c.as_slice.ensures.value) c.requires.noted) c.settle_all.ensures.rows
