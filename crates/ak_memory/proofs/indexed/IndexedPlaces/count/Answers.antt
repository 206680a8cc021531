use Rattle.std.proofs.Common.{◌<◌, ◌^◌, length, arith}
use Rattle.ak_memory.specs.declared.versions.Version.TheVariants.{Now}
use Rattle.ak_memory.proofs.Counting.{counts-fit}
use Rattle.ak_memory.proofs.indexed.IndexedPlaces.count.Goals as goal

pub returns-clause-small : goal.returns-clause-small
returns-clause-small c =
    let few : length c.args.self.now.places.entries < 2 ^ 63 = omega (arith, c.len-small.ensures) in
    rw c.place.ensures (counts-fit c.args.self.now.counts Now c.args.self.now.places.entries c.args.table (2 ^ 63) c.requires.current.counts few)
