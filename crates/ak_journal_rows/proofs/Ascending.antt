-- Entries whose names ascend, from the first on.
use Rattle.std.proofs.Common.{◌≡◌, Bool, false, ◌&&◌, List, [], ◌∷◌, map, length, sym, ◌∙◌}
use Rattle.std.specs.Bool.{Decides}
use Rattle.std.specs.List.{AllByRecursion}
use Rattle.std.specs.List.Sorted.{IsStrictlySortedBy}
use Rattle.std.specs.declared.cmp.Ordering.TheVariants.{Less}
use Rattle.std.proofs.lemmas.List.Elements.{All-nil, All-cons, All-head, All-tail}
use Rattle.ak_base.specs.Names.{name_cmp, names_total}
use Rattle.ak_base.specs.declared.names.Name.{Name}
use Rattle.ak_base.proofs.InRange.{pair_decides}
use Rattle.ak_journal_rows.specs.Changes.{AreListed}
use Rattle.ak_journal_rows.specs.Listed.{IsBeforeFirst}

-- what is before the first is before each
before_each : (name next : Name) (names : List Name) → name_cmp name next ≡ Less → IsStrictlySortedBy name_cmp (next ∷ names)
    → AllByRecursion (λ y. name_cmp name y ≡ Less) (next ∷ names)
unfolding IsStrictlySortedBy
before_each name next names before sorted = (before, later names sorted.0)
  where
    later : (names : List Name) → AllByRecursion (λ y. name_cmp next y ≡ Less) names → AllByRecursion (λ y. name_cmp name y ≡ Less) names
    later [] h = tt
    later (n ∷ ns) h = (names_total.trans name next n before h.0, later ns h.1)

module _ {A : Type 0} (fits : A → Type 0) (named : A → Name) where
  first_name : (entry : A) (others : List A) → IsBeforeFirst named entry others → IsStrictlySortedBy name_cmp (map named others)
      → AllByRecursion (λ y. name_cmp (named entry) y ≡ Less) (map named others)
  first_name entry [] before sorted = tt
  first_name entry (next ∷ others) before sorted = before_each (named entry) (named next) (map named others) before sorted

  -- one more in front
  one_more : (entry : A) (others : List A) → fits entry × IsBeforeFirst named entry others → AreListed fits named others → AreListed fits named (entry ∷ others)
  unfolding IsStrictlySortedBy
  one_more entry others own rest = record {
    each = All-cons fits entry others own.0 rest.each;
    ascending = (first_name entry others own.1 rest.ascending, rest.ascending);
  }

  -- the first
  first_listed : (entry : A) (others : List A) → AreListed fits named (entry ∷ others) → fits entry × IsBeforeFirst named entry others
  unfolding IsStrictlySortedBy
  first_listed entry [] all = (All-head fits entry [] all.each, tt)
  first_listed entry (next ∷ others) all = (All-head fits entry (next ∷ others) all.each, all.ascending.0.0)

  -- the others
  others_listed : (entry : A) (others : List A) → AreListed fits named (entry ∷ others) → AreListed fits named others
  unfolding IsStrictlySortedBy
  others_listed entry others all = record { each = All-tail fits entry others all.each; ascending = all.ascending.1 }

  none_listed : AreListed fits named []
  unfolding IsStrictlySortedBy
  none_listed = record { each = All-nil fits; ascending = tt }

  pub empty_listed : (entries : List A) → length entries ≡ 0 → AreListed fits named entries
  empty_listed [] h = none_listed
  empty_listed (entry ∷ entries) h = cc

  -- those that are left decide of all
  abbrev pub Decide : List A → List A → Type 0
  Decide rest all = (AreListed fits named rest → AreListed fits named all) × (AreListed fits named all → AreListed fits named rest)

  -- one that passes leaves it to the others
  pub left_decide : (all : List A) (entry : A) (others : List A) → fits entry × IsBeforeFirst named entry others → Decide (entry ∷ others) all → Decide others all
  left_decide all entry others own left = (λ rest. left.0 (one_more entry others own rest), λ h. others_listed entry others (left.1 h))

  -- one that fails refuses all
  pub left_refuse : (all : List A) (entry : A) (others : List A) (a b : Bool) → Decides a (fits entry) → Decides b (IsBeforeFirst named entry others) → (a && b) ≡ false
      → Decide (entry ∷ others) all → Decides false (AreListed fits named all)
  left_refuse all entry others a b own before fails left =
      (λ h. cc, λ h. sym fails ∙ (pair_decides a b own before).1 (first_listed entry others (left.1 h)))
