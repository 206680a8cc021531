use Rattle.std.proofs.Common.{List, Option, IfSome, is_some, ◌<◌, ◌^◌, length, sym, ap, subst, ◌∙◌, arith}
use Rattle.std.specs.Option.{option_and_then}
use Rattle.ak_base.specs.declared.names.Name.{Name}
use Rattle.ak_base.specs.declared.rows.Row.{Row}
use Rattle.ak_memory.specs.declared.places.Place.{Place}
use Rattle.ak_memory.specs.declared.versions.Version.TheVariants.{Mark, Now}
use Rattle.ak_memory.specs.CardKeys.{AreForgotten}
use Rattle.ak_memory.specs.FoundBy.{found_by}
use Rattle.ak_memory.specs.declared.card_keys.CardKeys.{CardKeys}
use Rattle.ak_memory.specs.declared.held_rows.FoundBy.{FoundBy}
use Rattle.ak_memory.specs.Indexes.{AreNoted, HaveAllKeys, IsCounted}
use Rattle.ak_memory.specs.HeldRows.{row_in}
use Rattle.ak_memory.specs.Places.{AreFull, found_under, row_under, rows_at, unchanged_count, with_under}
use Rattle.ak_memory.specs.TakenRuns.{AreRuns, is_used_under}
use Rattle.ak_memory.proofs.Counting.{counted-after, counts-fit, counts-held, some_in}
use Rattle.ak_memory.proofs.Keys.{keys-held}
use Rattle.ak_memory.proofs.RowsUnder.{get-rows_at, no_place, rows_at-same, rows_at-with, with_none}
use Rattle.ak_memory.proofs.Settling.{noted-change}
use Rattle.ak_memory.proofs.TakenRuns.{runs_with}
use Rattle.ak_memory.proofs.indexed.IndexedPlaces.exchange.Goals as goal

pub returns-in_default-clause-indexed : goal.returns-in_default-clause-indexed
returns-in_default-clause-indexed c =
    let same = sym (c.hold_under.ensures.unchanged c.in_default.is) in
    let was = c.requires.indexed in
    record {
      current = subst (λ (es : List (Name × Place)). IsCounted c.args.self.now.counts (rows_at Now es)) same was.current;
      mark = subst (λ (es : List (Name × Place)). IsCounted c.args.self.now.mark_counts (rows_at Mark es)) same was.mark;
      keys = subst (λ (es : List (Name × Place)). HaveAllKeys c.args.self.now.cards es) same was.keys;
      noted = subst (λ (es : List (Name × Place)). AreNoted c.args.self.now.noted.items es) same was.noted;
      full = subst AreFull same was.full;
      room = let count = ap unchanged_count same in omega (arith, count, was.room);
      taken = subst (λ (es : List (Name × Place)). AreRuns (is_used_under es) c.args.self.now.taken) same was.taken;
    }

pub returns-in_default-clause-now : goal.returns-in_default-clause-now
returns-in_default-clause-now c =
    let es = c.args.self.now.places.entries in
    let none = c.hold_under.ensures.none c.in_default.is in
    ap (rows_at Now) (c.hold_under.ensures.unchanged c.in_default.is)
    ∙ sym (with_none c.args.name (rows_at Now es) (get-rows_at Now es c.args.name ∙ no_place Now es c.args.name none))
    ∙ ap (λ (o : Option Row). with_under c.args.name o (rows_at Now es)) (sym (c.requires.place none))

pub count_change-requires-clause-small : goal.count_change-requires-clause-small
count_change-requires-clause-small c =
    let few : length c.args.self.now.places.entries < 2 ^ 63 = omega (arith, c.len-small.ensures) in
    counts-fit c.args.self.now.counts Now c.args.self.now.places.entries c.args.name.table (2 ^ 63) c.requires.indexed.current.counts few

pub count_change-requires-clause-some : goal.count_change-requires-clause-some
count_change-requires-clause-some c = λ held.
    counts-held c.args.self.now.counts (rows_at Now c.args.self.now.places.entries) c.args.name c.requires.indexed.current.counts
    (ap is_some (get-rows_at Now c.args.self.now.places.entries c.args.name) ∙ sym c.in-Some.ensures.held ∙ held)

pub forget-requires : goal.forget-requires
forget-requires c =
    keys-held c.args.self.now.cards c.args.self.now.places.entries c.hold_under.new.places.entries c.args.name (row_in c.args.row) c.in-Some.ensures.now c.in-Some.ensures.mark c.requires.keys c.requires.indexed.keys

pub returns-clause-indexed : goal.returns-clause-indexed
returns-clause-indexed c =
    let es = c.args.self.now.places.entries in
    let fs = c.hold_under.new.places.entries in
    let was = c.requires.indexed in
    let name = c.args.name in
    let o = row_in c.args.row in
    record {
      current = counted-after c.args.self.now.counts c.count_change.new.counts Now es fs name o c.in-Some.change.held c.is_some-holds.result c.in-Some.ensures.now c.in-Some.ensures.held
          (c.is_some-holds.ensures ∙ some_in c.args.row) c.requires.named was.current c.count_change.ensures;
      mark = subst (IsCounted c.args.self.now.mark_counts) (sym (rows_at-same Mark Mark es fs c.in-Some.ensures.mark)) was.mark;
      keys = c.forget.ensures.all;
      noted = noted-change c.args.self.now.noted.items c.note_change.new.noted.items es fs name c.in-Some.change.first c.in-Some.ensures.changed was.noted c.in-Some.ensures.first c.note_change.ensures.names;
      full = c.in-Some.ensures.full was.full;
      room = omega (arith, was.room, c.in-Some.ensures.count, c.note_change.ensures.len, c.note_change.ensures.capacity);
      taken = runs_with (row_under Now es) (row_under Now fs) name o c.is_some-holds.result c.args.self.now.taken c.forget_taken.new.taken
          (c.is_some-holds.ensures ∙ some_in c.args.row) c.in-Some.ensures.now c.forget_taken.ensures was.taken;
    }

pub returns-clause-now : goal.returns-clause-now
returns-clause-now c = rows_at-with Now c.args.self.now.places.entries c.hold_under.new.places.entries c.args.name (row_in c.args.row) c.in-Some.ensures.now

pub returns-clause-mark : goal.returns-clause-mark
returns-clause-mark c = rows_at-same Mark Mark c.args.self.now.places.entries c.hold_under.new.places.entries c.in-Some.ensures.mark

-- the keys of this card are gone, if there is a card
abbrev KeysGone : CardKeys → List (Name × Place) → Name → Option FoundBy → Type 0
KeysGone keys es name was = IfSome was (λ card. AreForgotten keys (found_under Now es name) (found_under Mark es name) card name)

pub returns-in_default-clause-gone : goal.returns-in_default-clause-gone
returns-in_default-clause-gone c =
    let es = c.args.self.now.places.entries in
    let none = ap (option_and_then found_by) (no_place Now es c.args.name (c.hold_under.ensures.none c.in_default.is)) in
    subst (KeysGone c.args.self.now.cards c.hold_under.new.places.entries c.args.name) (sym none) tt

pub returns-clause-gone : goal.returns-clause-gone
returns-clause-gone c = subst (KeysGone c.forget.new.self c.hold_under.new.places.entries c.args.name) c.in-Some.ensures.card c.forget.ensures.gone
