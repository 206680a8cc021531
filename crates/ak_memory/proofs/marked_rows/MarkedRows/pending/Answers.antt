use Rattle.std.proofs.Common.{◌≡◌, Some, sym, filter, take, subst, ap, ◌∙◌, w64}
use Rattle.std.proofs.lemmas.Int.{to_z-of_z}
use Rattle.std.specs.BTreeMap.Range.{entries_between}
use Rattle.std.specs.declared.ops.Bound.TheVariants.{Excluded, Unbounded}
use Rattle.ak_base.specs.Names.{name_cmp}
use Rattle.ak_keep.specs.Collections.{Rows, IsPageOf, StandsUnderNames, is_wanted, rows_past, wanted_past}
use Rattle.ak_keep.specs.Pages.{is_picked}
use Rattle.ak_keep.proofs.Paging.{wanted_page, wanted_page-ascends, page_passes}
use Rattle.ak_memory.specs.Places.{held_run, rows_at}
use Rattle.ak_memory.specs.declared.versions.Version.TheVariants.{Now}
use Rattle.ak_memory.proofs.Paging.{page_of_places}
use Rattle.ak_memory.proofs.marked_rows.MarkedRows.pending.Goals as goal

-- the rows that are held
abbrev held : goal.In_ok-page → Rows
held c = rows_at Now c.places.result.now.entries

paged : (c : goal.In_ok-page) → c.in_ok-page.page ≡ take c.args.limit (wanted_past c.args.table c.args.want c.args.past (held c))
paged c =
    page_of_places (is_picked (Some c.args.want)) c.args.table c.args.past c.args.limit c.places.result.now.entries c.in_ok-page.page c.in_ok-page.ensures.ordered
    (subst (λ id. c.in_ok-page.page ≡ take c.args.limit (filter (is_picked (Some c.args.want)) (held_run c.args.table (entries_between name_cmp (Excluded (record { table = c.args.table; id = id })) Unbounded c.places.result.now.entries))))
    (to_z-of_z w64 c.args.past c.ranges.past) c.in_ok-page.ensures.rows)

view : (c : goal.In_ok-page) → held c ≡ c.args.self.now.current
view c = ap (λ p. rows_at Now p.entries) c.places.ensures ∙ ap (λ v. v.current) c.self.view_is

named : (c : goal.In_ok-page) → StandsUnderNames (held c)
named c = subst (λ p. StandsUnderNames (rows_at Now p.entries)) (sym c.places.ensures) c.self.invariant.current.named

pub returns-clause-page : goal.returns-clause-page
returns-clause-page c =
    subst (λ (rows : Rows). IsPageOf (λ past. wanted_past c.args.table c.args.want past rows) c.args.past c.args.limit c.in_ok-page.page) (view c)
    (wanted_page (is_wanted c.args.want) c.args.table c.args.past (held c) c.args.limit c.in_ok-page.page (named c) (paged c))

pub returns-clause-ascends : goal.returns-clause-ascends
returns-clause-ascends c = wanted_page-ascends (is_wanted c.args.want) c.args.table c.args.past (held c) c.args.limit c.in_ok-page.page (named c) (paged c)

pub returns-clause-wanted : goal.returns-clause-wanted
returns-clause-wanted c = page_passes (is_wanted c.args.want) c.args.limit (rows_past c.args.table c.args.past (held c)) c.in_ok-page.page (paged c)
