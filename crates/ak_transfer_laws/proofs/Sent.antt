-- A copy of what is committed has nothing to send: each of its numbers is one that the server gave.
use Rattle.std.specs.FinMap.{get}
use Rattle.std.specs.List.{AllByRecursion, list_any}
use Rattle.std.specs.Ordering.{int_eq}
use Rattle.std.specs.Cmp.{signed_Decides}
use Rattle.std.specs.Cmp.Lexicographic.{bytes_decides}
use Rattle.std.specs.Prelude.{◌≡◌, ◌||◌, ◌==◌, ◌≤ℤ◌, ℕ, ℤ, pos, negsuc, not, if◌then◌else◌, Bool, true, false, List, [], ◌∷◌, length, map, filter, Option, Some, None, IfSome}
use Rattle.std.proofs.Common.{refl, ap, subst, ◌∙◌, arith}
use Rattle.std.proofs.lemmas.Int.{ints}
use Rattle.ak_base.specs.Rows.{name_of, usn_of}
use Rattle.ak_base.specs.Tables.{all_tables}
use Rattle.ak_base.specs.declared.heads.Head.{Head}
use Rattle.ak_base.specs.declared.heads.Tag.{Tag}
use Rattle.ak_base.specs.declared.names.Table.{Table}
use Rattle.ak_base.specs.declared.rows.Row.{Row}
use Rattle.ak_client.specs.Unsent.{has_unsent, has_unsent_in, has_unsent_row, has_unsent_tag}
use Rattle.ak_keep.specs.Collections.{Collection, Rows, is_pending, wanted_past}
use Rattle.ak_keep.specs.declared.keepers.Wanted.TheVariants.{Unsent}
use Rattle.ak_merge.proofs.TagLists.{unsent_listed}
use Rattle.ak_merge.specs.Commits.{IsCommitted, IsCopyOf}
use Rattle.ak_merge.specs.Exchanges.{is_unsent_tag, unsent_tags, wanted_tags}
use Rattle.ak_merge.specs.Holdings.{tag_usn}
use Rattle.ak_merge.specs.Links.{IsGiven}
use Rattle.ak_merge.specs.Tags.{has_name}
use Rattle.ak_protocol.proofs.Commits.{not_both}
use Rattle.ak_session.proofs.Wanted.{Stands, all_stand}

-- a number that a server gave is not that of something unsent
not_unsent : (usn number : ℤ) → IsGiven usn number → int_eq number (negsuc 0) ≡ false
not_unsent usn number given = by (int_eq number (negsuc 0)) refl
  where
    low : pos 0 ≤ℤ number
    low = given.low

    over : number ≡ negsuc 0 → ⊥
    over is = omega (arith, ints, low, is)

    by : (b : Bool) → int_eq number (negsuc 0) ≡ b → int_eq number (negsuc 0) ≡ false
    by true is = absurd (over ((signed_Decides number (negsuc 0)).0 is))
    by false is = is

module _ (s : Collection) (lawful : IsCommitted s) where
  -- ---- rows
  row_given : (row : Row) → get s.rows (name_of row) ≡ Some row → is_pending row ≡ false
  row_given row stands =
      not_unsent s.head.usn (usn_of row) (subst (λ (o : Option Row). IfSome o (λ r. IsGiven s.head.usn (usn_of r))) stands (lawful.given.rows (name_of row)))

  none_in : (table : Table) (rows : List Row) → AllByRecursion (Stands table Unsent s.rows) rows → not (length rows == 0) ≡ false
  none_in table [] all = refl
  none_in table (row ∷ more) all = absurd (not_both all.0.wanted (row_given row all.0.stands))

  none_of_tables : (tables : List Table) → list_any (has_unsent_in s.rows) tables ≡ false
  none_of_tables [] = refl
  none_of_tables (table ∷ tables) =
      ap (λ (b : Bool). b || list_any (has_unsent_in s.rows) tables)
      (none_in table (wanted_past table Unsent (pos 0) s.rows) (all_stand table Unsent s.rows lawful.named lawful.checked))
      ∙ none_of_tables tables

  -- ---- tags
  tag_given : (name : List ℕ) → unsent_tags s.head.tags name ≡ false
  tag_given name = by (tag_usn s.head.tags name) (lawful.given.tags name)
    where
      by : (o : Option ℤ) → IfSome o (IsGiven s.head.usn) → is_unsent_tag o ≡ false
      by None given = refl
      by (Some number) given = not_unsent s.head.usn number given

  -- a list in which no name stands is empty
  nameless : (names : List (List ℕ)) → ((name : List ℕ) → has_name names name ≡ false) → names ≡ []
  nameless [] none = refl
  nameless (name ∷ names) none =
      absurd (not_both (ap (λ (b : Bool). b || has_name names name) ((bytes_decides name name).1 refl)) (none name))

  none_wanted : wanted_tags Unsent s.head.tags ≡ []
  none_wanted = nameless (wanted_tags Unsent s.head.tags) (λ name. unsent_listed s.head.tags name lawful.head.ascending ∙ tag_given name)

  no_tag : (tags : List Tag) → wanted_tags Unsent tags ≡ [] → has_unsent_tag tags ≡ false
  no_tag [] none = refl
  no_tag (tag ∷ more) none = by (int_eq tag.usn (negsuc 0)) refl (no_tag more) none
    where
      by : (b : Bool) → int_eq tag.usn (negsuc 0) ≡ b
          → (wanted_tags Unsent more ≡ [] → has_unsent_tag more ≡ false)
          → map (λ (t : Tag). t.name) (if b then tag ∷ filter (λ (t : Tag). int_eq t.usn (negsuc 0)) more else filter (λ (t : Tag). int_eq t.usn (negsuc 0)) more) ≡ []
          → (int_eq tag.usn (negsuc 0) || has_unsent_tag more) ≡ false
      by true is later empty = grind (arith, empty)
      by false is later empty = ap (λ (b : Bool). b || has_unsent_tag more) is ∙ later empty

  own_sent : has_unsent s.rows s.head.tags ≡ false
  own_sent =
      ap (λ (b : Bool). b || has_unsent_row s.rows) (no_tag s.head.tags none_wanted) ∙ none_of_tables all_tables

pub all_sent : (s c : Collection) → IsCommitted s → IsCopyOf s c → has_unsent c.rows c.head.tags ≡ false
all_sent s c lawful copy =
    ap (λ (rows : Rows). has_unsent rows c.head.tags) copy.rows
    ∙ ap (λ (head : Head). has_unsent s.rows head.tags) copy.head
    ∙ own_sent s lawful
