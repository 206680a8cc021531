use Rattle.std.proofs.Common.{List, sym, ap, subst, arith}
use Rattle.ak_base.specs.declared.names.Name.{Name}
use Rattle.ak_memory.specs.declared.places.Place.{Place}
use Rattle.ak_memory.specs.declared.versions.Version.TheVariants.{Mark, Now}
use Rattle.ak_memory.specs.Indexes.{AreNoted, HaveAllKeys, IsCounted}
use Rattle.ak_memory.specs.Places.{AreFull, row_under, rows_at, unchanged_count}
use Rattle.ak_memory.specs.TakenRuns.{AreRuns, is_used_under}
use Rattle.ak_memory.proofs.Counting.{unchanged-few}
use Rattle.ak_memory.proofs.Keys.{keys-same}
use Rattle.ak_memory.proofs.RowsUnder.{rows_at-same}
use Rattle.ak_memory.proofs.Settling.{noted-more}
use Rattle.ak_memory.proofs.TakenRuns.{runs_same}
use Rattle.ak_memory.proofs.indexed.IndexedPlaces.make_place.Goals as goal

pub returns-in_err-add_place-clause-indexed : goal.returns-in_err-add_place-clause-indexed
returns-in_err-add_place-clause-indexed c =
    let same = sym c.in_err-add_place.ensures.err in
    record {
      current = subst (λ (es : List (Name × Place)). IsCounted c.args.self.now.counts (rows_at Now es)) same c.requires.indexed.current;
      mark = subst (λ (es : List (Name × Place)). IsCounted c.args.self.now.mark_counts (rows_at Mark es)) same c.requires.indexed.mark;
      keys = subst (λ (es : List (Name × Place)). HaveAllKeys c.args.self.now.cards es) same c.requires.indexed.keys;
      noted = subst (λ (es : List (Name × Place)). AreNoted c.args.self.now.noted.items es) same c.requires.indexed.noted;
      full = subst AreFull same c.requires.indexed.full;
      room = let count = ap unchanged_count same in omega (arith, count, c.requires.indexed.room);
      taken = subst (λ (es : List (Name × Place)). AreRuns (is_used_under es) c.args.self.now.taken) same c.requires.indexed.taken;
    }

pub returns-clause-indexed : goal.returns-clause-indexed
returns-clause-indexed c =
    let es = c.args.self.now.places.entries in
    let fs = c.add_place.new.places.entries in
    let rows = c.in_ok-add_place.ensures.rows in
    record {
      current = subst (IsCounted c.args.self.now.counts) (sym (rows_at-same Now Now es fs (rows Now))) c.requires.indexed.current;
      mark = subst (IsCounted c.args.self.now.mark_counts) (sym (rows_at-same Mark Mark es fs (rows Mark))) c.requires.indexed.mark;
      keys = keys-same c.args.self.now.cards es fs rows c.requires.indexed.keys;
      noted = subst (λ (ns : List Name). AreNoted ns fs) (sym c.push_reserved.ensures.items)
          (noted-more c.args.self.now.noted.items es fs c.args.name c.in_ok-add_place.ensures.changed c.requires.indexed.noted);
      full = c.in_ok-add_place.ensures.full c.requires.indexed.full;
      room = omega (arith, c.push_reserved.ensures.len, c.push_reserved.ensures.capacity, c.requires.room, c.in_ok-add_place.ensures.count, unchanged-few es);
      taken = runs_same (row_under Now es) (row_under Now fs) c.args.self.now.taken (rows Now) c.requires.indexed.taken;
    }

pub returns-clause-rows : goal.returns-clause-rows
returns-clause-rows c = λ version. rows_at-same version version c.args.self.now.places.entries c.add_place.new.places.entries (c.in_ok-add_place.ensures.rows version)
