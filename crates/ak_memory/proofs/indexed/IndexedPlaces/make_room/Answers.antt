use Rattle.std.proofs.Common.{List, sym, subst, arith}
use Rattle.ak_base.specs.declared.names.Name.{Name}
use Rattle.ak_memory.specs.Indexes.{AreNoted}
use Rattle.ak_memory.proofs.Keys.{keys-kept}
use Rattle.ak_memory.proofs.indexed.IndexedPlaces.make_room.Goals as goal

pub returns-in_err-add-clause-indexed : goal.returns-in_err-add-clause-indexed
returns-in_err-add-clause-indexed c =
    let es = c.args.self.now.places.entries in
    record {
      current = c.requires.current;
      mark = c.requires.mark;
      keys = keys-kept c.args.self.now.cards c.add.new.self es c.add.ensures.kept c.requires.keys;
      noted = subst (λ (ns : List Name). AreNoted ns es) (sym c.reserve.ensures.items) c.requires.noted;
      full = c.requires.full;
      room = omega (arith, c.reserve.ensures.len, c.reserve.ensures.capacity, c.requires.room);
      taken = c.requires.taken;
    }

pub returns-clause-indexed : goal.returns-clause-indexed
returns-clause-indexed c =
    let es = c.args.self.now.places.entries in
    record {
      current = c.requires.current;
      mark = c.requires.mark;
      keys = keys-kept c.args.self.now.cards c.add.new.self es c.add.ensures.kept c.requires.keys;
      noted = subst (λ (ns : List Name). AreNoted ns es) (sym c.reserve.ensures.items) c.requires.noted;
      full = c.requires.full;
      room = omega (arith, c.reserve.ensures.len, c.reserve.ensures.capacity, c.requires.room);
      taken = c.requires.taken;
    }
