use Rattle.std.proofs.Common.{◌≡◌, ◌≤ℤ◌, ◌<ℤ◌, int_lt, ℤ, true, false, sym, subst, rules, w64, of_z, to_z}
use Rattle.std.specs.FinMap as finite
use Rattle.ak_base.specs.Limits.{last_id}
use Rattle.ak_keep.specs.FreeNames.{IsFree, is_used}
use Rattle.ak_memory.specs.Indexes.{rows_of}
use Rattle.ak_memory.specs.Places.{row_under}
use Rattle.ak_memory.specs.TakenRuns.{AreRuns, is_used_under}
use Rattle.ak_memory.specs.declared.taken_runs.TakenRuns.{TakenRuns}
use Rattle.ak_memory.specs.declared.versions.Version.TheVariants.{Now}
use Rattle.ak_memory.proofs.RowsUnder.{get-rows_at}
use Rattle.ak_memory.proofs.TakenRuns.{first_found, free_within, indexed-with, kept_run-are, none_found, past_last, up_to_last}
use Rattle.ak_memory.proofs.indexed.IndexedPlaces.free_name.Goals as goal

pub returns-then-run-gt-LAST_ID-clause-indexed : goal.returns-then-run-gt-LAST_ID-clause-indexed
returns-then-run-gt-LAST_ID-clause-indexed c =
    let taken = is_used_under c.args.self.now.places.entries in
    indexed-with c.args.self.now c.keep.new.self c.requires
    (subst (λ (runs : TakenRuns). AreRuns taken runs) (sym c.keep.ensures) (kept_run-are taken c.args.self.now.taken c.args.first.table c.extended-run.result c.requires.taken c.extended-run.ensures.run))

pub returns-then-run-gt-LAST_ID-clause-free : goal.returns-then-run-gt-LAST_ID-clause-free
returns-then-run-gt-LAST_ID-clause-free c =
    let es = c.args.self.now.places.entries in
    let run = c.extended-run in
    let fits : to_z w64 (of_z w64 run.result.end) ≡ run.result.end = search rules in
    let past : last_id <ℤ run.result.end = past_last run.result.end (subst (λ (id : ℤ). int_lt last_id id ≡ true) fits c.if-run-gt-LAST_ID.true) in
    none_found (row_under Now es) (finite.get (rows_of Now c.args.self.now)) c.args.first c.of.result c.reaching-run.result run.result (get-rows_at Now es) c.reaching-run.ensures
    run.ensures.from run.ensures.run past

pub returns-clause-indexed : goal.returns-clause-indexed
returns-clause-indexed c =
    let taken = is_used_under c.args.self.now.places.entries in
    indexed-with c.args.self.now c.keep.new.self c.requires
    (subst (λ (runs : TakenRuns). AreRuns taken runs) (sym c.keep.ensures) (kept_run-are taken c.args.self.now.taken c.args.first.table c.extended-run.result c.requires.taken c.extended-run.ensures.run))

pub returns-clause-free : goal.returns-clause-free
returns-clause-free c =
    let es = c.args.self.now.places.entries in
    let run = c.extended-run in
    let rows = finite.get (rows_of Now c.args.self.now) in
    let fits : to_z w64 (of_z w64 run.result.end) ≡ run.result.end = search rules in
    let within : run.result.end ≤ℤ last_id = up_to_last run.result.end (subst (λ (id : ℤ). int_lt last_id id ≡ false) fits c.if-run-gt-LAST_ID.false) in
    subst (λ (id : ℤ). IsFree (is_used rows) c.args.first (record { table = c.args.first.table; id = id })) (sym fits)
    (first_found (row_under Now es) rows c.args.first c.of.result c.reaching-run.result run.result (get-rows_at Now es) c.reaching-run.ensures
    run.ensures.from run.ensures.ahead run.ensures.run within (run.ensures.free within))

pub returns-clause-range : goal.returns-clause-range
returns-clause-range c = free_within (is_used (finite.get (rows_of Now c.args.self.now))) c.args.first _ (returns-clause-free c)
