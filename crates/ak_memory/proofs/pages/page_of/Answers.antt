use Rattle.std.proofs.Common.{◌≡◌, ◌<◌, ◌≤◌, ◌-◌, ◌==◌, true, cond, List, [], ◌∷◌, ◌++◌, length, filter, take, sym, ap, subst, ◌∙◌, arith}
use Rattle.std.proofs.lemmas.Bool.{ne_eqb}
use Rattle.std.specs.Cmp.{unsigned_Decides}
use Rattle.std.specs.BTreeMap.Range.{entries_between}
use Rattle.std.specs.Option.{option_to_list}
use Rattle.std.specs.declared.ops.Bound.TheVariants.{Excluded, Unbounded}
use Rattle.ak_base.specs.Names.{name_cmp, table_place}
use Rattle.ak_base.specs.declared.names.Name.{Name}
use Rattle.ak_base.specs.declared.rows.Row.{Row}
use Rattle.ak_keep.specs.Pages.{is_picked}
use Rattle.ak_memory.specs.Places.{held_run, row_at}
use Rattle.ak_memory.specs.declared.places.Place.{Place}
use Rattle.ak_memory.specs.declared.versions.Version.TheVariants.{Now}
use Rattle.ak_memory.proofs.Paging.{page_ends, place_fits, takes_place}
use Rattle.ak_memory.proofs.pages.page_of.Goals as goal

pub loop-name-preserved : goal.loop-name-preserved
loop-name-preserved c =
    let limit = c.args.limit in
    let table = c.args.past.now.table in
    let w = is_picked c.args.want.now in
    let o = row_at Now c.in-Some.place.now in
    let left = held_run table c.next.new.self in
    let all = take limit (filter w (held_run table (entries_between name_cmp (Excluded c.args.past.now) Unbounded c.args.places.now.entries))) in
    let read : c.as_slice.result.now ≡ c.loop-name.page = c.as_slice.ensures in
    let room : length c.loop-name.page < limit = omega (arith, c.loop-name.invariant.fits, c.if-as_slice-limit.false, ap length read) in
    let same : (table_place c.in-Some.name.now.table == table_place table) ≡ true =
    (unsigned_Decides _ _).1 (sym c.place.ensures ∙ c.if-place.false ∙ c.place-in-loop-name.ensures) in
    let before : c.loop-name.page ++ take (limit - length c.loop-name.page) (filter w (held_run table ((c.in-Some.name.now, c.in-Some.place.now) ∷ c.next.new.self))) ≡ all =
    subst (λ (es : List (Name × Place)). c.loop-name.page ++ take (limit - length c.loop-name.page) (filter w (held_run table es)) ≡ all) c.in-Some.ensures.steps c.loop-name.invariant.whole in
    let after = takes_place w limit c.loop-name.page all left o (ap (λ b. c.loop-name.page ++ take (limit - length c.loop-name.page) (filter w (cond b (option_to_list o ++ left) []))) (sym same) ∙ before) room in
    let pushed : c.push_picked.new.page ≡ c.loop-name.page ++ filter w (option_to_list o) = c.in_ok-push_picked.ensures.ok in
    record {
      whole = subst (λ (page : List Row). page ++ take (limit - length page) (filter w left) ≡ all) (sym pushed) after;
      fits = subst (λ (page : List Row). length page ≤ limit) (sym pushed) (place_fits w limit c.loop-name.page o room);
    }

pub returns-then-place-clause-rows : goal.returns-then-place-clause-rows
returns-then-place-clause-rows c =
    let limit = c.args.limit in
    let table = c.args.past.now.table in
    let w = is_picked c.args.want.now in
    let all = take limit (filter w (held_run table (entries_between name_cmp (Excluded c.args.past.now) Unbounded c.args.places.now.entries))) in
    let before : c.loop-name.page ++ take (limit - length c.loop-name.page) (filter w (held_run table ((c.in-Some.name.now, c.in-Some.place.now) ∷ c.next.new.self))) ≡ all =
    subst (λ (es : List (Name × Place)). c.loop-name.page ++ take (limit - length c.loop-name.page) (filter w (held_run table es)) ≡ all) c.in-Some.ensures.steps c.loop-name.invariant.whole in
    page_ends w table limit c.loop-name.page all (c.in-Some.name.now, c.in-Some.place.now) c.next.new.self before (ne_eqb _ _ (λ e. c.if-place.true (c.place.ensures ∙ e ∙ sym c.place-in-loop-name.ensures)))
