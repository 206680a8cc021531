-- What two sides have to hold to sync.
use Rattle.std.specs.Prelude.{◌≡◌}
use Rattle.std.proofs.Common.{inl, inr}
use Rattle.ak_base.specs.Rows.{IsChecked}
use Rattle.ak_base.specs.declared.names.Name.{Name}
use Rattle.ak_base.specs.declared.rows.Row.{Row}
use Rattle.ak_exchange.specs.Phases.{held_by}
use Rattle.ak_keep.proofs.RowsByName.{all_gets, named-get}
use Rattle.ak_keep.specs.Collections.{Collection, IsWellFormed}
use Rattle.ak_merge.specs.Commits.{IsCommitted}
use Rattle.ak_merge.specs.Holdings.{AreChecked, AreNamed, row_under}
use Rattle.ak_merge.specs.Links.{AreLinked, AreLinkedParts}
use Rattle.ak_session.specs.Sessions.{MaySync}

-- what a keeper may hold stands under its names, and passes its check
module _ (c : Collection) (formed : IsWellFormed (held_by c)) where
  pub named_of : AreNamed (row_under c)
  named_of = λ name row at. named-get c.rows name row formed.named at

  pub checked_of : AreChecked (row_under c)
  checked_of = λ name row at. all_gets (λ (entry : Name × Row). IsChecked entry.1) c.rows name row formed.checked at

linked_parts : (c s : Collection) → c.head.schema ≡ s.head.schema → AreLinked c s → AreLinkedParts c s
linked_parts c s same (inl other) = absurd (other same)
linked_parts c s same (inr all) = all

-- two sides of one schema moment that are linked may sync
pub sides_may_sync : (c s : Collection) → IsWellFormed (held_by c) → c.head.schema ≡ s.head.schema → AreLinked c s → IsCommitted s → MaySync c s
sides_may_sync c s formed schema linked lawful = record {
  linked = linked_parts c s schema linked;
  named = named_of c formed;
  checked = checked_of c formed;
  head = formed.head;
  committed = lawful;
}
