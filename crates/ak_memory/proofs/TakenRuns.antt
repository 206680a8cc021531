-- The ids that were found to be taken stay so, and lead to the first free name.
use Rattle.std.specs.Prelude.{◌≡◌, ℤ, ◌≤ℤ◌, ◌<ℤ◌, ◌+ℤ◌, pos, Bool, true, false, cond, ◌&&◌, ◌||◌, int_le, int_lt, if◌then◌else◌, Option, Some, None, is_some}
use Rattle.std.proofs.Common.{refl, sym, ap, subst, ◌∙◌, T, arith}
use Rattle.std.proofs.lemmas.Int.{ints}
use Rattle.std.specs.BTreeMap.{is_at}
use Rattle.std.specs.Ordering.{int_eq}
use Rattle.std.specs.Option.{option_and_then, option_map, option_map_or}
use Rattle.ak_base.specs.Limits.{last_id}
use Rattle.ak_base.specs.Names.{name_cmp}
use Rattle.ak_base.specs.Tables.{graves_of, grave_name}
use Rattle.ak_base.specs.declared.names.Name.{Name}
use Rattle.ak_base.specs.declared.names.Table.{Table}
use Rattle.ak_base.specs.declared.names.Table.TheVariants as tables
use Rattle.ak_base.specs.declared.rows.Row.{Row}
use Rattle.ak_keep.specs.FreeNames.{IsFirstFree, IsFoundFrom, IsFree, is_used}
use Rattle.ak_keep.specs.Graves.{RowsByName, is_dead}
use Rattle.ak_keep.proofs.RowsByName.{same_of_tied}
use Rattle.ak_memory.specs.Indexes.{IsIndexed}
use Rattle.ak_memory.specs.TakenRuns.{AreRuns, IsRun, is_used_under, kept_run, no_run, no_runs, run_before, run_of, run_reaching, runs_before, with_run}
use Rattle.ak_memory.specs.declared.indexed.IndexedPlaces.{IndexedPlaces}
use Rattle.ak_memory.specs.declared.taken_runs.TakenRun.{TakenRun}
use Rattle.ak_memory.specs.declared.taken_runs.TakenRuns.{TakenRuns}

-- ---- the grave of a name
dead_in : (at : RowsByName) (graves : Option Table) (id : ℤ)
    → option_map_or (λ (n : Name). is_some (at n)) (option_map (λ (graves : Table). record { table = graves; id = id }) graves) false
    ≡ is_some (option_and_then (λ (graves : Table). at (record { table = graves; id = id })) graves)
dead_in at None id = refl
dead_in at (Some graves) id = refl

pub dead_by_name : (at : RowsByName) (name : Name) → option_map_or (λ (n : Name). is_some (at n)) (grave_name name) false ≡ is_dead at name
dead_by_name at name = dead_in at (graves_of name.table) name.id

-- ---- names that stay taken
true_false : true ≡ false → ⊥
true_false is = subst T is tt

-- what is kept under each name of this id
abbrev StaysHeld : RowsByName → RowsByName → ℤ → Type 0
StaysHeld f g id = (name : Name) → name.id ≡ id → is_some (f name) ≡ true → is_some (g name) ≡ true

dead_stays : (f g : RowsByName) (graves : Option Table) (id : ℤ) → StaysHeld f g id
    → is_some (option_and_then (λ (graves : Table). f (record { table = graves; id = id })) graves) ≡ true
    → is_some (option_and_then (λ (graves : Table). g (record { table = graves; id = id })) graves) ≡ true
dead_stays f g None id stays is = is
dead_stays f g (Some graves) id stays is = stays (record { table = graves; id = id }) refl is

or_both : (a b c d : Bool) → (a ≡ true → c ≡ true) → (b ≡ true → d ≡ true) → (a || b) ≡ true → (c || d) ≡ true
or_both true b c d h k is = subst (λ x. (x || d) ≡ true) (sym (h refl)) refl
or_both false true true d h k is = refl
or_both false true false d h k is = k refl
or_both false false c d h k is = absurd (true_false (sym is))

pub used_stays : (f g : RowsByName) (name : Name) → StaysHeld f g name.id → is_used f name ≡ true → is_used g name ≡ true
used_stays f g name stays is =
    or_both (is_some (f name)) (is_dead f name) (is_some (g name)) (is_dead g name) (stays name refl) (dead_stays f g (graves_of name.table) name.id stays) is

pub used_same : (f g : RowsByName) (name : Name) → ((q : Name) → f q ≡ g q) → is_used f name ≡ is_used g name
used_same f g name same =
    ap (λ o. is_some o || is_dead f name) (same name)
    ∙ ap (λ b. is_some (g name) || b) (dead_same f g (graves_of name.table) name.id same)
  where
    dead_same : (f g : RowsByName) (graves : Option Table) (id : ℤ) → ((q : Name) → f q ≡ g q)
        → is_some (option_and_then (λ (graves : Table). f (record { table = graves; id = id })) graves)
        ≡ is_some (option_and_then (λ (graves : Table). g (record { table = graves; id = id })) graves)
    dead_same f g None id same = refl
    dead_same f g (Some graves) id same = ap is_some (same (record { table = graves; id = id }))

-- ---- one run
no_run-is : (taken : Name → Bool) (table : Table) → IsRun taken table no_run
no_run-is taken table id from less = absurd (grind (arith, ints, from, less))

run_stays : (f g : RowsByName) (table : Table) (run : TakenRun) → ((q : Name) → is_some (f q) ≡ true → is_some (g q) ≡ true)
    → IsRun (is_used f) table run → IsRun (is_used g) table run
run_stays f g table run stays is id from less = used_stays f g (record { table = table; id = id }) (λ q _. stays q) (is id from less)

-- what holds of the ids that are left of a run
run_left : (P : ℤ → Type 0) (at : ℤ) (run : TakenRun) → ((id : ℤ) → run.from ≤ℤ id → id <ℤ run.end → (id ≡ at → ⊥) → P id)
    → (id : ℤ) → (run_before at run).from ≤ℤ id → id <ℤ (run_before at run).end → P id
run_left P at run h id =
    elim (int_le run.from at && int_lt at run.end) as (λ b. (int_le run.from at && int_lt at run.end) ≡ b
    → (cond b (record { from = run.from; end = at }) run).from ≤ℤ id → id <ℤ (cond b (record { from = run.from; end = at }) run).end → P id) [
      | true ↦ λ is from less. h id from (grind (arith, ints, is, less)) (λ same. grind (arith, ints, same, less))
      | false ↦ λ is from less. h id from less (λ same. grind (arith, ints, is, same, from, less))
    ] refl

run_cut : (f g : RowsByName) (table : Table) (at : ℤ) (run : TakenRun) → ((q : Name) → (q.id ≡ at → ⊥) → is_some (f q) ≡ true → is_some (g q) ≡ true)
    → IsRun (is_used f) table run → IsRun (is_used g) table (run_before at run)
run_cut f g table at run stays is =
    run_left (λ id. is_used g (record { table = table; id = id }) ≡ true) at run (λ id from less other.
    used_stays f g (record { table = table; id = id }) (λ q same. stays q (λ here. other (sym same ∙ here))) (is id from less))

-- a run that an id is in or comes right after
pub reaching-run : (taken : Name → Bool) (table : Table) (id : ℤ) (run : TakenRun) → IsRun taken table run → IsRun taken table (run_reaching id run)
reaching-run taken table id run is =
    elim (int_le run.from id && int_le id run.end) as (λ b. IsRun taken table (cond b run (record { from = id; end = id }))) [
      | true ↦ is
      | false ↦ λ other from less. absurd (grind (arith, ints, from, less))
    ]

pub reaching-from : (id : ℤ) (run : TakenRun) → (run_reaching id run).from ≤ℤ id
reaching-from id run =
    elim (int_le run.from id && int_le id run.end) as (λ b. (int_le run.from id && int_le id run.end) ≡ b → (cond b run (record { from = id; end = id })).from ≤ℤ id) [
      | true ↦ λ is. grind (arith, ints, is)
      | false ↦ λ _. grind (arith, ints)
    ] refl

pub reaching-end : (id : ℤ) (run : TakenRun) → id ≤ℤ (run_reaching id run).end
reaching-end id run =
    elim (int_le run.from id && int_le id run.end) as (λ b. (int_le run.from id && int_le id run.end) ≡ b → id ≤ℤ (cond b run (record { from = id; end = id })).end) [
      | true ↦ λ is. grind (arith, ints, is)
      | false ↦ λ _. grind (arith, ints)
    ] refl

-- and one id more
pub run_more : (taken : Name → Bool) (table : Table) (from : ℤ) (name : Name) → name.table ≡ table → IsRun taken table (record { from = from; end = name.id }) → taken name ≡ true
    → IsRun taken table (record { from = from; end = name.id +ℤ pos 1 })
run_more taken table from name same before here id above less =
    elim (int_eq id name.id) as (λ b. int_eq id name.id ≡ b → taken (record { table = table; id = id }) ≡ true) [
      | true ↦ λ is.
          let equal : id ≡ name.id = grind (arith, ints, is) in
          subst (λ (t : Table). taken (record { table = t; id = id }) ≡ true) same (subst (λ (i : ℤ). taken (record { table = name.table; id = i }) ≡ true) (sym equal) here)
      | false ↦ λ is. before id above (grind (arith, ints, is, less))
    ] refl

-- ---- the runs of all tables
pub no_runs-are : (taken : Name → Bool) → AreRuns taken no_runs
no_runs-are taken = record {
  note = no_run-is taken tables.Note;
  card = no_run-is taken tables.Card;
  review = no_run-is taken tables.Review;
  note_type = no_run-is taken tables.NoteType;
  deck = no_run-is taken tables.Deck;
  options = no_run-is taken tables.Options;
}

pub run_of-is : (taken : Name → Bool) (runs : TakenRuns) (table : Table) → AreRuns taken runs → IsRun taken table (run_of table runs)
run_of-is taken runs tables.Note are = are.note
run_of-is taken runs tables.Card are = are.card
run_of-is taken runs tables.Review are = are.review
run_of-is taken runs tables.NoteType are = are.note_type
run_of-is taken runs tables.Deck are = are.deck
run_of-is taken runs tables.Options are = are.options
run_of-is taken runs tables.NoteGrave are = no_run-is taken tables.NoteGrave
run_of-is taken runs tables.CardGrave are = no_run-is taken tables.CardGrave
run_of-is taken runs tables.DeckGrave are = no_run-is taken tables.DeckGrave

with_run-are : (taken : Name → Bool) (runs : TakenRuns) (table : Table) (run : TakenRun) → AreRuns taken runs → IsRun taken table run → AreRuns taken (with_run table run runs)
with_run-are taken runs tables.Note run are is = record { note = is; card = are.card; review = are.review; note_type = are.note_type; deck = are.deck; options = are.options }
with_run-are taken runs tables.Card run are is = record { note = are.note; card = is; review = are.review; note_type = are.note_type; deck = are.deck; options = are.options }
with_run-are taken runs tables.Review run are is = record { note = are.note; card = are.card; review = is; note_type = are.note_type; deck = are.deck; options = are.options }
with_run-are taken runs tables.NoteType run are is = record { note = are.note; card = are.card; review = are.review; note_type = is; deck = are.deck; options = are.options }
with_run-are taken runs tables.Deck run are is = record { note = are.note; card = are.card; review = are.review; note_type = are.note_type; deck = is; options = are.options }
with_run-are taken runs tables.Options run are is = record { note = are.note; card = are.card; review = are.review; note_type = are.note_type; deck = are.deck; options = is }
with_run-are taken runs tables.NoteGrave run are is = are
with_run-are taken runs tables.CardGrave run are is = are
with_run-are taken runs tables.DeckGrave run are is = are

pub kept_run-are : (taken : Name → Bool) (runs : TakenRuns) (table : Table) (run : TakenRun) → AreRuns taken runs → IsRun taken table run → AreRuns taken (kept_run table run runs)
kept_run-are taken runs table run are is =
    elim (int_lt run.from run.end) as (λ b. AreRuns taken (if b then with_run table run runs else runs)) [
      | true ↦ with_run-are taken runs table run are is
      | false ↦ are
    ]

-- each row that was held is held
pub runs_stay : (f g : RowsByName) (runs : TakenRuns) → ((q : Name) → is_some (f q) ≡ true → is_some (g q) ≡ true) → AreRuns (is_used f) runs → AreRuns (is_used g) runs
runs_stay f g runs stays are = record {
  note = run_stays f g tables.Note runs.note stays are.note;
  card = run_stays f g tables.Card runs.card stays are.card;
  review = run_stays f g tables.Review runs.review stays are.review;
  note_type = run_stays f g tables.NoteType runs.note_type stays are.note_type;
  deck = run_stays f g tables.Deck runs.deck stays are.deck;
  options = run_stays f g tables.Options runs.options stays are.options;
}

-- the rows are the same
pub runs_same : (f g : RowsByName) (runs : TakenRuns) → ((q : Name) → g q ≡ f q) → AreRuns (is_used f) runs → AreRuns (is_used g) runs
runs_same f g runs same = runs_stay f g runs (λ q is. ap is_some (same q) ∙ is)

-- each row that was held is held, but for those of this id
runs_cut : (f g : RowsByName) (at : ℤ) (runs : TakenRuns) → ((q : Name) → (q.id ≡ at → ⊥) → is_some (f q) ≡ true → is_some (g q) ≡ true)
    → AreRuns (is_used f) runs → AreRuns (is_used g) (runs_before at runs)
runs_cut f g at runs stays are = record {
  note = run_cut f g tables.Note at runs.note stays are.note;
  card = run_cut f g tables.Card at runs.card stays are.card;
  review = run_cut f g tables.Review at runs.review stays are.review;
  note_type = run_cut f g tables.NoteType at runs.note_type stays are.note_type;
  deck = run_cut f g tables.Deck at runs.deck stays are.deck;
  options = run_cut f g tables.Options at runs.options stays are.options;
}

held_or : (b : Bool) (row : Row) (o : Option Row) → is_some o ≡ true → is_some (cond b (Some row) o) ≡ true
held_or true row o is = refl
held_or false row o is = is

held_but : (b : Bool) (o : Option Row) → (b ≡ true → ⊥) → is_some o ≡ true → is_some (cond b None o) ≡ true
held_but true o other is = absurd (other refl)
held_but false o other is = is

-- a row was put under a name, or taken out
pub runs_with : (f g : RowsByName) (name : Name) (row : Option Row) (holds : Bool) (was now : TakenRuns) → holds ≡ is_some row
    → ((q : Name) → g q ≡ cond (is_at (name_cmp name) q) row (f q)) → now ≡ (if holds then was else runs_before name.id was) → AreRuns (is_used f) was → AreRuns (is_used g) now
runs_with f g name (Some row) holds was now held is cut are =
    subst (λ (runs : TakenRuns). AreRuns (is_used g) runs) (sym (cut ∙ ap (λ b. if b then was else runs_before name.id was) held))
    (runs_stay f g was (λ q some. ap is_some (is q) ∙ held_or (is_at (name_cmp name) q) row (f q) some) are)
runs_with f g name None holds was now held is cut are =
    subst (λ (runs : TakenRuns). AreRuns (is_used g) runs) (sym (cut ∙ ap (λ b. if b then was else runs_before name.id was) held))
    (runs_cut f g name.id was (λ q other some. ap is_some (is q)
    ∙ held_but (is_at (name_cmp name) q) (f q) (λ tied. other (sym (ap (λ (n : Name). n.id) (same_of_tied name q tied)))) some) are)

-- ---- the first free name
-- what is kept beside the places is right with other runs
pub indexed-with : (indexed : IndexedPlaces) (runs : TakenRuns) → IsIndexed indexed → AreRuns (is_used_under indexed.places.entries) runs → IsIndexed (record indexed { taken = runs })
indexed-with indexed runs is are = record { current = is.current; mark = is.mark; keys = is.keys; noted = is.noted; full = is.full; room = is.room; taken = are }

from_first : (id : ℤ) (was reached run : TakenRun) → reached ≡ run_reaching id was → run.from ≡ reached.from → run.from ≤ℤ id
from_first id was reached run is from = subst (λ (i : ℤ). i ≤ℤ id) (sym (from ∙ ap (λ (r : TakenRun). r.from) is)) (reaching-from id was)

past_first : (id : ℤ) (was reached run : TakenRun) → reached ≡ run_reaching id was → reached.end ≤ℤ run.end → id ≤ℤ run.end
past_first id was reached run is ahead =
    let reaches : id ≤ℤ reached.end = subst (λ (r : TakenRun). id ≤ℤ r.end) (sym is) (reaching-end id was) in
    grind (arith, ints, reaches, ahead)

-- the two sides of the last id
pub past_last : (id : ℤ) → int_lt last_id id ≡ true → last_id <ℤ id
past_last id is = grind (arith, ints, is)

pub up_to_last : (id : ℤ) → int_lt last_id id ≡ false → id ≤ℤ last_id
up_to_last id is = grind (arith, ints, is)

-- the end of a run from the first id or before it is free
pub first_found : (f g : RowsByName) (first : Name) (was reached run : TakenRun) → ((q : Name) → g q ≡ f q) → reached ≡ run_reaching first.id was
    → run.from ≡ reached.from → reached.end ≤ℤ run.end → IsRun (is_used f) first.table run → run.end ≤ℤ last_id → is_used f (record { table = first.table; id = run.end }) ≡ false
    → IsFree (is_used g) first (record { table = first.table; id = run.end })
first_found f g first was reached run same is from ahead taken within free = record {
  table = refl;
  from = past_first first.id was reached run is ahead;
  within = within;
  free = used_same g f (record { table = first.table; id = run.end }) same ∙ free;
  least = λ id above below. used_same g f (record { table = first.table; id = id }) same ∙ taken id (let low = from_first first.id was reached run is from in grind (arith, ints, low, above)) below;
}

-- such a run goes past the last id
pub none_found : (f g : RowsByName) (first : Name) (was reached run : TakenRun) → ((q : Name) → g q ≡ f q) → reached ≡ run_reaching first.id was
    → run.from ≡ reached.from → IsRun (is_used f) first.table run → last_id <ℤ run.end → IsFirstFree (is_used g) first None
none_found f g first was reached run same is from taken past id above below =
    used_same g f (record { table = first.table; id = id }) same
    ∙ taken id (let low = from_first first.id was reached run is from in grind (arith, ints, low, above)) (grind (arith, ints, below, past))

pub free_within : (taken : Name → Bool) (first name : Name) → IsFree taken first name → IsFoundFrom first name
free_within taken first name free = (free.table, record { low = free.from; high = free.within })
