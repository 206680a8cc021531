use Rattle.std.proofs.Common.{◌≡◌, ◌≤◌, ◌+◌, not, ◌&&◌, cond, length, drop}
use Rattle.ak_base.specs.declared.names.Name.{Name}
use Rattle.ak_memory.specs.Indexes.{HaveAllKeys}
use Rattle.ak_memory.specs.Places.{AreFull, is_among, is_changed_under, row_under, unchanged_count}
use Rattle.ak_memory.specs.declared.versions.Version.{Version}
use Rattle.ak_memory.proofs.indexed.settle_all.Given as goal

-- to settle what is left makes of the places what it makes to settle all
abbrev pub invariant-loop-name : goal.invariant-loop-name
invariant-loop-name l = record {
  keys : HaveAllKeys l.cards l.places.entries;
  rows : (each : Version) (q : Name)
      → cond (is_among (drop l.name-index l.names) q) (row_under l.version l.places.entries q) (row_under each l.places.entries q)
      ≡ cond (is_among l.names q) (row_under l.version l.fn.places.entries q) (row_under each l.fn.places.entries q);
  changed : (q : Name)
      → (not (is_among (drop l.name-index l.names) q) && is_changed_under l.places.entries q) ≡ (not (is_among l.names q) && is_changed_under l.fn.places.entries q);
  full : AreFull l.fn.places.entries → AreFull l.places.entries;
  count : unchanged_count l.places.entries + length (drop l.name-index l.names) ≤ unchanged_count l.fn.places.entries + length l.names;
}
