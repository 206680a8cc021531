use Rattle.std.proofs.Common.{◌≡◌, ◌^◌, true, false, is_some, None, Option, Some, IfSome, List, refl, sym, ap, subst, ◌∙◌, arith}
use Rattle.std.specs.BTreeMap.{BTreeMap}
use Rattle.std.specs.FinMap.{insert}
use Rattle.ak_base.specs.Rows.{name_of}
use Rattle.ak_base.specs.declared.names.Name.{Name}
use Rattle.ak_base.specs.declared.rows.Row.{Row}
use Rattle.ak_memory.specs.CardKeys.{HasKeys}
use Rattle.ak_memory.specs.HeldRows.{held_row}
use Rattle.ak_memory.specs.Indexes.{AreNoted, HaveAllKeys, IsCounted, rows_of}
use Rattle.ak_memory.specs.Places.{AreFull, place_under, row_under, rows_at, unchanged_count}
use Rattle.ak_memory.specs.TakenRuns.{AreRuns, is_used_under}
use Rattle.ak_memory.specs.declared.held_rows.FoundBy.{FoundBy}
use Rattle.ak_memory.specs.declared.places.Place.{Place}
use Rattle.ak_memory.specs.declared.versions.Version.TheVariants.{Mark, Now}
use Rattle.ak_memory.proofs.Counting.{counted-after, counts-fit, unchanged-few}
use Rattle.ak_memory.proofs.Keys.{keys-with}
use Rattle.ak_memory.proofs.RowsUnder.{no_place, rows_at-with}
use Rattle.ak_memory.proofs.Settling.{noted-added}
use Rattle.ak_memory.proofs.TakenRuns.{runs_with}
use Rattle.ak_memory.proofs.indexed.IndexedPlaces.add.Goals as goal

pub returns-in_err-add_same-clause-indexed : goal.returns-in_err-add_same-clause-indexed
returns-in_err-add_same-clause-indexed c =
    let same = sym c.in_err-add_same.ensures.err in
    let made = c.make_room.ensures.indexed in
    let now = c.make_room.new.self in
    record {
      current = subst (λ (es : List (Name × Place)). IsCounted now.counts (rows_at Now es)) same made.current;
      mark = subst (λ (es : List (Name × Place)). IsCounted now.mark_counts (rows_at Mark es)) same made.mark;
      keys = subst (λ (es : List (Name × Place)). HaveAllKeys now.cards es) same made.keys;
      noted = subst (λ (es : List (Name × Place)). AreNoted now.noted.items es) same made.noted;
      full = subst AreFull same made.full;
      room = let count = ap unchanged_count same in omega (arith, count, made.room);
      taken = subst (λ (es : List (Name × Place)). AreRuns (is_used_under es) now.taken) same made.taken;
    }

pub count_change-requires-clause-small : goal.count_change-requires-clause-small
count_change-requires-clause-small c =
    let now = c.make_room.new.self in
    counts-fit now.counts Now now.places.entries c.name-name.result.table (2 ^ 63) c.make_room.ensures.indexed.current.counts c.make_room.ensures.small

pub count_change-requires-2-clause-small : goal.count_change-requires-2-clause-small
count_change-requires-2-clause-small c =
    let now = c.make_room.new.self in
    counts-fit now.mark_counts Mark now.places.entries c.name-name.result.table (2 ^ 63) c.make_room.ensures.indexed.mark.counts c.make_room.ensures.small

pub returns-clause-indexed : goal.returns-clause-indexed
returns-clause-indexed c =
    let now = c.make_room.new.self in
    let made = c.make_room.ensures.indexed in
    let es = now.places.entries in
    let fs = c.add_same.new.places.entries in
    let name = c.name-name.result in
    let row = held_row c.in_ok-row.row in
    let rows = c.in_ok-add_same.ensures.rows in
    let none : place_under es name ≡ None =
    ap (λ (places : BTreeMap Name Place). place_under places.entries name) c.make_room.ensures.places ∙ ap (place_under c.args.self.now.places.entries) c.name-name.ensures ∙ c.requires.free in
    let named : name_of row ≡ name = ap name_of c.in_ok-row.ensures ∙ sym c.name-name.ensures in
    record {
      current = counted-after now.counts c.count_change.new.counts Now es fs name (Some row) false true (rows Now) (sym (ap is_some (no_place Now es name none))) refl named made.current c.count_change.ensures;
      mark = counted-after now.mark_counts c.count_change-2.new.counts Mark es fs name (Some row) false true (rows Mark) (sym (ap is_some (no_place Mark es name none))) refl named made.mark c.count_change-2.ensures;
      keys = λ v. keys-with now.cards (row_under v es) (row_under v fs) name (Some row) (rows v)
          (subst (λ (o : Option FoundBy). IfSome o (λ (card : FoundBy). HasKeys now.cards card name)) c.found_by.ensures c.in_ok-make_room.ensures.keys) (made.keys v);
      noted = noted-added now.noted.items es fs name c.in_ok-add_same.ensures.changed made.noted;
      full = c.in_ok-add_same.ensures.full made.full;
      room = omega (arith, c.in_ok-make_room.ensures.room, c.in_ok-add_same.ensures.len, unchanged-few fs);
      taken = runs_with (row_under Now es) (row_under Now fs) name (Some row) true now.taken now.taken refl (rows Now) refl made.taken;
    }

pub returns-clause-ok : goal.returns-clause-ok
returns-clause-ok c =
    let was = rows_of Now c.args.self.now in
    let row = held_row c.in_ok-row.row in
    rows_at-with Now c.make_room.new.self.places.entries c.add_same.new.places.entries c.name-name.result (Some row) (c.in_ok-add_same.ensures.rows Now)
    ∙ ap (λ (places : BTreeMap Name Place). insert (rows_at Now places.entries) c.name-name.result row) c.make_room.ensures.places
    ∙ ap (λ (n : Name). insert was n row) c.name-name.ensures
    ∙ ap (λ (r : Row). insert was (name_of c.args.row) r) c.in_ok-row.ensures
