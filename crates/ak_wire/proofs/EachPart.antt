-- Lists that are read value by value.
use Rattle.std.proofs.Common.{◌≡◌, ◌⊎◌, inl, inr, ℕ, suc, ◌+◌, ◌<◌, ◌≤◌, List, [], ◌∷◌, ◌++◌, map, length, drop, get_or, Bool, true, false, if◌then◌else◌, refl, sym, ap, ◌∙◌, subst, drop-cons, add-one, append_assoc, append-nil}
use Rattle.std.proofs.lemmas.List.{drop_all}
use Rattle.serde_json.specs.Data.{Data, Items, no_items, item}
use Rattle.serde_json.specs.View.{view, items_view}
use Rattle.serde_json.specs.declared.value.Value.{Value}
use Rattle.ak_base.specs.declared.names.Table.{Table}
use Rattle.ak_base.specs.declared.rows.Row.{Row}
use Rattle.ak_json.specs.Rows.{ReadsRow}
use Rattle.ak_wire.specs.Faults.{OrMemory, AddsPart, AddsIf, ReadsEach, RefusesEach}
use Rattle.ak_wire.specs.Parts.{RefusesRowOf}
use Rattle.ak_wire.specs.Wholes.{goes_with, items_for, RefusesIf}
use Rattle.ak_wire.specs.declared.wire_faults.WireFault.{WireFault}
use Rattle.ak_wire.proofs.Refusals.{each_is}

-- the values from a place on
pub values_left : (vs : List Value) (i : ℕ) (v : Value) → i < length vs → v ≡ get_or vs i v → items_view (drop i vs) ≡ item (view v) (items_view (drop (i + 1) vs))
values_left vs i v within is =
    ap (λ (rest : List Value). items_view rest) (drop-cons vs i v within)
    ∙ subst (λ (first : Value). items_view (first ∷ drop (suc i) vs) ≡ item (view v) (items_view (drop (i + 1) vs))) is (rw add-one refl)

pub none_left : (vs : List Value) (i : ℕ) → length vs ≤ i → items_view (drop i vs) ≡ no_items
none_left vs i past = ap (λ (rest : List Value). items_view rest) (drop_all i vs past)

module _ {A : Type 0} (reads : Data → A → Type 0) (refuses : Data → WireFault → Type 0) where
  -- what values are read as goes after the parts so far
  abbrev pub Goes : Items → Items → List A → Type 0
  Goes rest all parts = (others : List A) → ReadsEach reads rest others → ReadsEach reads all (parts ++ others)

  -- the first fault of values is that of all
  abbrev pub Fails : Items → Items → Type 0
  Fails rest all = (fault : WireFault) → RefusesEach reads refuses rest fault → RefusesEach reads refuses all fault

  pub goes_first : (all : Items) (parts : List A) → parts ≡ [] → Goes all all parts
  goes_first all parts none others h = subst (λ (made : List A). ReadsEach reads all (made ++ others)) (sym none) h

  pub goes_on : (d : Data) (ds rest all : Items) (old new : List A) → rest ≡ item d ds → AddsPart reads d old new → Goes rest all old → Goes ds all new
  goes_on d ds rest all old new is added goes others h =
      subst (λ (parts : List A). ReadsEach reads all (parts ++ others)) (sym added.2)
      (subst (λ (parts : List A). ReadsEach reads all parts) (sym (append_assoc old (added.0 ∷ []) others))
      (goes (added.0 ∷ others) (subst (λ (items : Items). ReadsEach reads items (added.0 ∷ others)) (sym is) (added.1, h))))

  pub fails_on : (d : Data) (ds rest all : Items) (old new : List A) → rest ≡ item d ds → AddsPart reads d old new → Fails rest all → Fails ds all
  fails_on d ds rest all old new is added fails fault h =
      fails fault (subst (λ (items : Items). RefusesEach reads refuses items fault) (sym is) (inr ((added.0, added.1), h)))

  pub fails_here : (d : Data) (ds rest all : Items) (fault : WireFault) → rest ≡ item d ds → Fails rest all → OrMemory (refuses d) fault → OrMemory (RefusesEach reads refuses all) fault
  fails_here d ds rest all fault is fails =
      each_is (refuses d) (RefusesEach reads refuses all) (λ f h. fails f (subst (λ (items : Items). RefusesEach reads refuses items f) (sym is) (inl h))) fault

  pub fails_was : (d : Data) (ds rest all : Items) (fault was : WireFault) → rest ≡ item d ds → Fails rest all → fault ≡ was → OrMemory (refuses d) was → OrMemory (RefusesEach reads refuses all) fault
  fails_was d ds rest all fault was is fails same h =
      subst (λ (x : WireFault). OrMemory (RefusesEach reads refuses all) x) (sym same) (fails_here d ds rest all was is fails h)

  pub goes_to_end : (rest all : Items) (parts : List A) → rest ≡ no_items → Goes rest all parts → ReadsEach reads all parts
  goes_to_end rest all parts is goes =
      subst (λ (made : List A). ReadsEach reads all made) (append-nil parts) (goes [] (subst (λ (items : Items). ReadsEach reads items []) (sym is) tt))

  -- the same of a value that may be passed over
  pub goes_if : (wanted : Bool) (d : Data) (ds all : Items) (old new : List A) → AddsIf wanted reads d old new → Goes (if wanted then item d ds else ds) all old → Goes ds all new
  goes_if true d ds all old new added goes = goes_on d ds (item d ds) all old new refl added goes
  goes_if false d ds all old new same goes = λ others h. subst (λ (parts : List A). ReadsEach reads all (parts ++ others)) (sym same) (goes others h)

  pub fails_if : (wanted : Bool) (d : Data) (ds all : Items) (old new : List A) → AddsIf wanted reads d old new → Fails (if wanted then item d ds else ds) all → Fails ds all
  fails_if true d ds all old new added fails = fails_on d ds (item d ds) all old new refl added fails
  fails_if false d ds all old new same fails = fails

  pub fails_in : (wanted : Bool) (d : Data) (ds all : Items) (fault : WireFault) → Fails (if wanted then item d ds else ds) all → wanted ≡ true × refuses d fault → RefusesEach reads refuses all fault
  fails_in wanted d ds all fault fails h = fails fault (subst (λ (b : Bool). RefusesEach reads refuses (if b then item d ds else ds) fault) (sym h.0) (inl h.1))

-- the same of the values that go with a table
pub listed_goes : (table : Table) (d : Data) (ds rest all : Items) (old new : List Row) → rest ≡ item d ds → AddsIf (goes_with table d) (ReadsRow table) d old new
    → Goes (ReadsRow table) (RefusesRowOf table) (items_for table rest) all old → Goes (ReadsRow table) (RefusesRowOf table) (items_for table ds) all new
listed_goes table d ds rest all old new is added goes =
    goes_if (ReadsRow table) (RefusesRowOf table) (goes_with table d) d (items_for table ds) all old new added
    (subst (λ (items : Items). Goes (ReadsRow table) (RefusesRowOf table) (items_for table items) all old) is goes)

pub listed_fails : (table : Table) (d : Data) (ds rest all : Items) (old new : List Row) → rest ≡ item d ds → AddsIf (goes_with table d) (ReadsRow table) d old new
    → Fails (ReadsRow table) (RefusesRowOf table) (items_for table rest) all → Fails (ReadsRow table) (RefusesRowOf table) (items_for table ds) all
listed_fails table d ds rest all old new is added fails =
    fails_if (ReadsRow table) (RefusesRowOf table) (goes_with table d) d (items_for table ds) all old new added
    (subst (λ (items : Items). Fails (ReadsRow table) (RefusesRowOf table) (items_for table items) all) is fails)

pub listed_was : (table : Table) (d : Data) (ds rest all : Items) (fault was : WireFault) → rest ≡ item d ds
    → Fails (ReadsRow table) (RefusesRowOf table) (items_for table rest) all → fault ≡ was → OrMemory (RefusesIf table d) was
    → OrMemory (RefusesEach (ReadsRow table) (RefusesRowOf table) all) fault
listed_was table d ds rest all fault was is fails same h =
    let passes : Fails (ReadsRow table) (RefusesRowOf table) (items_for table (item d ds)) all = subst (λ (items : Items). Fails (ReadsRow table) (RefusesRowOf table) (items_for table items) all) is fails in
    subst (λ (x : WireFault). OrMemory (RefusesEach (ReadsRow table) (RefusesRowOf table) all) x) (sym same)
    (each_is (RefusesIf table d) (RefusesEach (ReadsRow table) (RefusesRowOf table) all)
    (λ f k. fails_in (ReadsRow table) (RefusesRowOf table) (goes_with table d) d (items_for table ds) all f passes k) was h)
