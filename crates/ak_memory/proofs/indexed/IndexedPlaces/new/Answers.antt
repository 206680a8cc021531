use Rattle.std.proofs.Common.{List, [], ◌∷◌, T, refl, sym, ap, subst, arith}
use Rattle.ak_base.specs.declared.names.Name.{Name}
use Rattle.ak_memory.specs.declared.places.Place.{Place}
use Rattle.ak_memory.specs.declared.versions.Version.TheVariants.{Mark, Now}
use Rattle.ak_memory.specs.Indexes.{AreNoted, HaveAllKeys, IsCounted}
use Rattle.ak_memory.specs.Places.{AreFull, rows_at, unchanged_count}
use Rattle.ak_memory.specs.TakenRuns.{AreRuns, is_used_under}
use Rattle.ak_memory.specs.declared.taken_runs.TakenRuns.{TakenRuns}
use Rattle.ak_memory.proofs.Counting.{counted-none}
use Rattle.ak_memory.proofs.TakenRuns.{no_runs-are}
use Rattle.std.proofs.lemmas.Option.{none-some}
use Rattle.ak_memory.proofs.indexed.IndexedPlaces.new.Goals as goal

pub returns-clause-indexed : goal.returns-clause-indexed
returns-clause-indexed c =
    let none = sym c.new.ensures.empty in
    record {
      current = subst (λ (es : List (Name × Place)). IsCounted (0 ∷ 0 ∷ 0 ∷ 0 ∷ 0 ∷ 0 ∷ 0 ∷ 0 ∷ 0 ∷ []) (rows_at Now es)) none counted-none;
      mark = subst (λ (es : List (Name × Place)). IsCounted (0 ∷ 0 ∷ 0 ∷ 0 ∷ 0 ∷ 0 ∷ 0 ∷ 0 ∷ 0 ∷ []) (rows_at Mark es)) none counted-none;
      keys = subst (λ (es : List (Name × Place)). HaveAllKeys c.new-2.result es) none (λ version name card is. absurd (none-some card is));
      noted = subst (λ (es : List (Name × Place)). AreNoted c.new-3.result.items es) none (λ q is. absurd (subst T (sym is) tt));
      full = subst (λ (es : List (Name × Place)). AreFull es) none (λ q. refl);
      room = let few = ap unchanged_count c.new.ensures.empty in omega (arith, c.new-3.ensures.len, few);
      taken = subst (λ (runs : TakenRuns). AreRuns (is_used_under c.new.result.entries) runs) (sym c.none.ensures) (no_runs-are _);
    }
