-- Lists that are read value by value.
use Rattle.std.proofs.Common.{◌≡◌, List, [], ◌∷◌, ◌++◌, map, sym, ap, ◌∙◌, subst, append-nil, append_assoc}
use Rattle.std.specs.List.{All}
use Rattle.std.proofs.lemmas.List.Elements.{All-head, All-tail}
use Rattle.serde_json.specs.Data.{Data, Items, no_items, item}
use Rattle.serde_json.specs.View.{items_of}
use Rattle.ak_journal_rows.specs.declared.faults.ChangeFault.{ChangeFault}
use Rattle.ak_journal_rows.specs.declared.faults.ChangeFault.TheVariants.{Memory}

module _ {A : Type 0} (json : A → Data) (fits : A → Type 0) where
  -- the entries so far are the front of these, and the values that are left are those of the others
  abbrev pub IsReadTo : List A → List A → Items → Type 0
  IsReadTo entries so_far rest = (left : List A) × (entries ≡ so_far ++ left) × (rest ≡ items_of (map json left)) × All fits left

  -- the value is that of one that comes next
  abbrev pub IsNext : List A → List A → Data → Items → Type 0
  IsNext entries so_far d ds = (one : A) × fits one × (d ≡ json one) × IsReadTo entries (so_far ++ one ∷ []) ds

  first_of : (d e : Data) (ds es : Items) → item d ds ≡ item e es → d ≡ e
  first_of d e ds es is = cc

  others_of : (d e : Data) (ds es : Items) → item d ds ≡ item e es → ds ≡ es
  others_of d e ds es is = cc

  pub next_read : (entries so_far : List A) (d : Data) (ds : Items) → IsReadTo entries so_far (item d ds) → IsNext entries so_far d ds
  next_read entries so_far d ds (left, whole, values, fit) = among left whole values fit
    where
      among : (left : List A) → entries ≡ so_far ++ left → item d ds ≡ items_of (map json left) → All fits left → IsNext entries so_far d ds
      among [] whole values fit = cc
      among (one ∷ others) whole values fit = (
        one,
        All-head fits one others fit,
        first_of d (json one) ds (items_of (map json others)) values,
        (others, whole ∙ sym (append_assoc so_far (one ∷ []) others), others_of d (json one) ds (items_of (map json others)) values, All-tail fits one others fit),
      )

  -- one more is read
  pub read_on : (entries so_far new : List A) (made : A) (d : Data) (ds all : Items) → ((one : A) → fits one → d ≡ json one → made ≡ one) → new ≡ so_far ++ made ∷ []
      → all ≡ item d ds → IsReadTo entries so_far all → IsReadTo entries new ds
  read_on entries so_far new made d ds all read is these to = on (next_read entries so_far d ds (subst (IsReadTo entries so_far) these to))
    where
      on : IsNext entries so_far d ds → IsReadTo entries new ds
      on (one, fit, value, rest) =
          subst (λ (read_so_far : List A). IsReadTo entries read_so_far ds) (sym (is ∙ ap (λ (last : A). so_far ++ last ∷ []) (read one fit value))) rest

  -- what refuses it is that memory ran out
  pub read_fails : (entries so_far : List A) (fault : ChangeFault) (d : Data) (ds all : Items) → ((one : A) → fits one → d ≡ json one → fault ≡ Memory)
      → all ≡ item d ds → IsReadTo entries so_far all → fault ≡ Memory
  read_fails entries so_far fault d ds all read these to = on (next_read entries so_far d ds (subst (IsReadTo entries so_far) these to))
    where
      on : IsNext entries so_far d ds → fault ≡ Memory
      on (one, fit, value, rest) = read one fit value

  -- all are read
  pub read_all : (entries so_far : List A) (all : Items) → all ≡ no_items → IsReadTo entries so_far all → so_far ≡ entries
  read_all entries so_far all none (left, whole, values, fit) = among left whole (sym none ∙ values)
    where
      among : (left : List A) → entries ≡ so_far ++ left → no_items ≡ items_of (map json left) → so_far ≡ entries
      among [] whole values = sym (whole ∙ append-nil so_far)
      among (one ∷ others) whole values = cc
