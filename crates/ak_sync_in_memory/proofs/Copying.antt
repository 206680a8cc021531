-- The rows that were viewed, as a collection.
use Rattle.std.specs.FinMap.{entries, entries_sorted, from_entries, get-entries, get-from_entries, is_sorted, same_map}
use Rattle.std.specs.FinMap.Entries.{below_all}
use Rattle.std.specs.List.{AllByRecursion, IsDistinct}
use Rattle.std.specs.List.Sorted.{IsStrictlySortedBy}
use Rattle.std.specs.Map.{keys_of}
use Rattle.std.specs.Option.{option_map}
use Rattle.std.specs.Ordering.{eq_by_cmp}
use Rattle.std.specs.Prelude.{◌≡◌, ◌<◌, ℕ, ◌+◌, T, List, [], ◌∷◌, ◌++◌, drop, get_or, map, Option, Some, None, IfSome}
use Rattle.std.specs.declared.cmp.Ordering.TheVariants.{Less}
use Rattle.std.proofs.Common.{◌≤◌, refl, sym, ap, subst, ◌∙◌}
use Rattle.std.proofs.lemmas.Map.Keys.{IsDistinct-from_sorted}
use Rattle.std.proofs.lemmas.Option.{none-some, same_Some}
use Rattle.ak_base.proofs.NameOrder.{names_exact}
use Rattle.ak_base.specs.Names.{name_cmp, names_total}
use Rattle.ak_base.specs.Rows.{IsChecked, name_of}
use Rattle.ak_base.specs.Tables.{all_tables}
use Rattle.ak_base.specs.declared.heads.Head.{Head}
use Rattle.ak_base.specs.declared.names.Name.{Name}
use Rattle.ak_base.specs.declared.names.Table.TheVariants as tables
use Rattle.ak_base.specs.declared.rows.Row.{Row}
use Rattle.ak_keep.proofs.RowsByName.{all_from_gets, both_first, both_second, is_less}
use Rattle.ak_keep.specs.Collections.{Collection, Holding, IsWellFormed, Rows, StandsUnderNames, rows_of}
use Rattle.ak_keep.specs.Keepers.{Keeping, all_known}
use Rattle.ak_merge.specs.Commits.{IsCommitted}
use Rattle.ak_openings.specs.declared.whole_collections.Opening.{Opening}
use Rattle.ak_protocol.specs.Accounts.{AccountState}
use Rattle.ak_protocol.specs.LawfulServers.{IsLawful, IsLawfulUnder}
use Rattle.ak_sync_in_memory.proofs.Viewing.{collection_stays}
use Rattle.ak_server_steps.proofs.InTables.{rows_in_all, table_read, tables_read}
use Rattle.ak_server_steps.specs.Wholes.{rows_in}
use Rattle.ak_sync_in_memory.specs.Copies.{IsViewed, committed_in}
use Rattle.ak_sync_in_memory.specs.Entries.{LoggedState, collection_in, server_in}

-- ---- what is committed
-- a collection as a keeper that is not marked would hold it
abbrev held_as : Collection → Holding
held_as c = record { rows = c.rows; head = Some c.head }

abbrev kept_as : Collection → Keeping
kept_as c = all_known (record { current = held_as c; mark = None })

lawful_in : (s : LoggedState) (c : Collection) → IsLawful (server_in s) → committed_in s ≡ Some c → IsCommitted c
lawful_in s c lawful is = by (server_in s s.host) (lawful s.host) is
  where
    by : (o : Option AccountState) → IfSome o (IsLawfulUnder s.host) → option_map (λ (a : AccountState). a.committed) o ≡ Some c → IsCommitted c
    by (Some a) own is = subst IsCommitted (same_Some a.committed c is) own.account.committed
    by None own is = absurd (none-some c is)

named_in : (c : Collection) → IsCommitted c → StandsUnderNames c.rows
named_in c is = all_from_gets (λ (entry : Name × Row). name_of entry.1 ≡ entry.0) c.rows is.named

formed : (c : Collection) → IsCommitted c → IsWellFormed (held_as c)
formed c is = record {
  named = named_in c is;
  checked = all_from_gets (λ (entry : Name × Row). IsChecked entry.1) c.rows is.checked;
  head = is.head;
}

-- ---- tables that are read one after the other
pub table_next : (c : Collection) (i : ℕ) (old new : List Row) → i < 9
    → old ++ rows_in_all (drop i all_tables) c.rows ≡ rows_in_all all_tables c.rows → new ≡ old ++ rows_in (get_or all_tables i tables.Note) c.rows
    → new ++ rows_in_all (drop (i + 1) all_tables) c.rows ≡ rows_in_all all_tables c.rows
table_next c i old new low have more = table_read (kept_as c) i old new low have more

pub all_read : (s : LoggedState) (c : Collection) (i : ℕ) (rows all : List Row) → IsLawful (server_in s) → committed_in s ≡ Some c → 9 ≤ i → all ≡ rows
    → rows ++ rows_in_all (drop i all_tables) c.rows ≡ rows_in_all all_tables c.rows → all ≡ map (λ entry. entry.1) (entries c.rows)
all_read s c i rows all lawful is end made have = tables_read (kept_as c) i rows all end made (formed c (lawful_in s c lawful is)) have

-- ---- the rows as a map
abbrev listed : Rows → List Row
listed rows = map (λ entry. entry.1) (entries rows)

module _ where
  abbrev Named : List (Name × Row) → Type 0
  Named es = AllByRecursion (λ (entry : Name × Row). name_of entry.1 ≡ entry.0) es

  named_again : (es : List (Name × Row)) → Named es
      → map (λ (row : Row). (name_of row, row)) (map (λ (entry : Name × Row). entry.1) es) ≡ es
  named_again [] named = refl
  named_again (e ∷ es) named =
      ap (λ (name : Name). (name, e.1) ∷ map (λ (row : Row). (name_of row, row)) (map (λ (entry : Name × Row). entry.1) es)) named.0
      ∙ ap (λ (fs : List (Name × Row)). e ∷ fs) (named_again es named.1)

  names_again : (es : List (Name × Row)) → Named es → map name_of (map (λ (entry : Name × Row). entry.1) es) ≡ keys_of es
  names_again [] named = refl
  names_again (e ∷ es) named =
      ap (λ (name : Name). name ∷ map name_of (map (λ (entry : Name × Row). entry.1) es)) named.0
      ∙ ap (λ (names : List Name). e.0 ∷ names) (names_again es named.1)

made_again : (rows : Rows) → StandsUnderNames rows → rows_of (listed rows) ≡ rows
made_again rows named =
    ap (λ (es : List (Name × Row)). from_entries {R = name_cmp} es) (named_again (entries rows) named)
    ∙ same_map names_total names_exact (from_entries (entries rows)) rows
    (λ q. get-from_entries names_total (entries rows) q ∙ sym (get-entries rows q))

below_first : (name : Name) (es : List (Name × Row)) → T (below_all name_cmp name es) → AllByRecursion (λ other. name_cmp name other ≡ Less) (keys_of es)
below_first name [] below = tt
below_first name (e ∷ es) below = (is_less _ (both_first _ _ below), below_first name es (both_second _ _ below))

names_ascend : (es : List (Name × Row)) → T (is_sorted name_cmp es) → IsStrictlySortedBy name_cmp (keys_of es)
unfolding IsStrictlySortedBy
names_ascend [] sorted = tt
names_ascend (e ∷ es) sorted = (below_first e.0 es (both_first _ _ sorted), names_ascend es (both_second _ _ sorted))

listed_apart : (rows : Rows) → StandsUnderNames rows → IsDistinct (eq_by_cmp name_cmp) (map name_of (listed rows))
listed_apart rows named =
    subst (IsDistinct (eq_by_cmp name_cmp)) (sym (names_again (entries rows) named))
    (IsDistinct-from_sorted name_cmp (keys_of (entries rows)) (names_ascend (entries rows) (entries_sorted rows)))

-- ---- the whole
abbrev Listed : LoggedState → List Row → Type 0
Listed s rows = (c : Collection) → committed_in s ≡ Some c → rows ≡ listed c.rows

-- what was committed, if its rows are these
module _ (s mid : LoggedState) (rows : List Row) (head : Head) (lawful : IsLawful (server_in s)) (views : IsViewed s mid) (list : Listed s rows) where
  abbrev opening : Opening
  opening = record { rows = rows; head = head }

  by_account : (o : Option AccountState) → option_map (λ (a : AccountState). a.committed) o ≡ committed_in s
      → Some head ≡ option_map (λ (a : AccountState). a.committed.head) o
      → (committed_in s ≡ Some (collection_in opening)) × IsDistinct (eq_by_cmp name_cmp) (map name_of rows)
  by_account None is head_is = absurd (none-some head (sym head_is))
  by_account (Some a) is head_is =
      let c : Collection = a.committed in
      let held : committed_in s ≡ Some c = sym is in
      let named : StandsUnderNames c.rows = named_in c (lawful_in s c lawful held) in
      let rows_is : rows ≡ listed c.rows = list c held in (
        held ∙ sym (ap (λ (it : Collection). Some it) (ap (λ (l : List Row). record { rows = rows_of l; head = head }) rows_is
            ∙ ap (λ (r : Rows). record { rows = r; head = head }) (made_again c.rows named)
            ∙ ap (λ (h : Head). record { rows = c.rows; head = h }) (same_Some head c.head head_is))),
        subst (λ (l : List Row). IsDistinct (eq_by_cmp name_cmp) (map name_of l)) (sym rows_is) (listed_apart c.rows named),
      )

  pub copied : Some head ≡ option_map (λ (a : AccountState). a.committed.head) (server_in mid mid.host)
      → (committed_in s ≡ Some (collection_in opening)) × IsDistinct (eq_by_cmp name_cmp) (map name_of rows)
  copied head_is = by_account (server_in mid mid.host) (collection_stays s mid views) head_is
