-- A collection without rows is one that a server may have committed.
use Rattle.std.specs.Prelude.{◌≡◌, List, [], map, Option, None, IfSome}
use Rattle.std.specs.List.{IsDistinct}
use Rattle.std.specs.Ordering.{eq_by_cmp}
use Rattle.std.specs.FinMap.{get, get-empty}
use Rattle.std.proofs.Common.{sym, subst, ◌∙◌, rules}
use Rattle.std.proofs.lemmas.Option.{none-some}
use Rattle.ak_base.specs.Heads.{IsHeadInRange}
use Rattle.ak_base.specs.Names.{name_cmp}
use Rattle.ak_base.specs.Rows.{name_of, usn_of}
use Rattle.ak_base.specs.declared.heads.Head.{Head}
use Rattle.ak_base.specs.declared.heads.Tag.{Tag}
use Rattle.ak_base.specs.declared.names.Name.{Name}
use Rattle.ak_base.specs.declared.rows.Row.{Row}
use Rattle.ak_keep.specs.Collections.{rows_of}
use Rattle.ak_merge.specs.Commits.{IsCommitted}
use Rattle.ak_merge.specs.Holdings.{tag_usn}
use Rattle.ak_merge.specs.Links.{IsGiven}
use Rattle.ak_sync_in_memory.specs.Entries.{collection_in}

-- nothing is held under any name
nothing : (name : Name) → get (rows_of []) name ≡ None
nothing name = get-empty name_cmp name

-- with a head in its ranges that has no tag
none_committed : (head : Head) → IsHeadInRange head → head.tags ≡ [] → IsCommitted (record { rows = rows_of []; head = head })
none_committed head range none = record {
  named = λ name row is. absurd (none-some row (sym (nothing name) ∙ is));
  checked = λ name row is. absurd (none-some row (sym (nothing name) ∙ is));
  single = λ name dead. nothing name;
  given = record {
    rows = λ name. subst (λ (o : Option Row). IfSome o (λ row. IsGiven head.usn (usn_of row))) (sym (nothing name)) tt;
    tags = λ name. subst (λ (tags : List Tag). IfSome (tag_usn tags name) (IsGiven head.usn)) (sym none) tt;
  };
  head = range;
}

pub is_committed : (rows : List Row) (head : Head) → rows ≡ [] → IsHeadInRange head → head.tags ≡ []
    → IsCommitted (collection_in (record { rows = rows; head = head }))
is_committed rows head is range none =
    subst (λ (rows : List Row). IsCommitted (record { rows = rows_of rows; head = head })) (sym is) (none_committed head range none)

-- no two of no rows have one name
pub are_distinct : (rows : List Row) → rows ≡ [] → IsDistinct (eq_by_cmp name_cmp) (map name_of rows)
unfolding IsDistinct
are_distinct rows is = subst (λ (rows : List Row). IsDistinct (eq_by_cmp name_cmp) (map name_of rows)) (sym is) (search rules)
