-- The head of what an upload leaves, and the places of the tables.
use Rattle.std.specs.Cmp.Lexicographic.{slice_cmp}
use Rattle.std.specs.List.{All, AllByRecursion}
use Rattle.std.specs.List.Sorted.{IsStrictlySortedBy}
use Rattle.std.specs.Ordering.{nat_cmp}
use Rattle.std.specs.Prelude.{◌≡◌, ◌<◌, ◌+◌, ℕ, suc, zero, ℤ, pos, List, [], ◌∷◌, ◌++◌, get_or}
use Rattle.std.proofs.Common.{refl, sym, ap, subst, ◌∙◌, arith}
use Rattle.std.proofs.lemmas.Int.{ints}
use Rattle.std.proofs.lemmas.List.Elements.{All-from_recursion, recursion_from_All}
use Rattle.ak_base.specs.Heads.{IsHeadInRange, IsTagInRange, tag_names}
use Rattle.ak_base.specs.Names.{table_place}
use Rattle.ak_base.specs.Tables.{all_tables}
use Rattle.ak_base.specs.declared.heads.Conf.{Conf}
use Rattle.ak_base.specs.declared.heads.Head.{Head}
use Rattle.ak_base.specs.declared.heads.Tag.{Tag}
use Rattle.ak_base.specs.declared.names.Table.TheVariants as tables
use Rattle.ak_base.specs.declared.rows.Row.{Row}
use Rattle.ak_server_steps.proofs.InTables.{rows_in_all}
use Rattle.ak_keep.specs.Keepers.{Keeping, WhereTold}
use Rattle.ak_sync_rows.proofs.Gathering.{where_all}
use Rattle.ak_merge.proofs.TagLaws.{tags_stay_in_range, tags_stay_ordered}
use Rattle.ak_merge.specs.Tags.{IsTagName, tags_taken}
use Rattle.ak_transfers.specs.UploadParts.{MayBePutBefore, prepared_head}

-- ---- the head
names_fit : (tags : List Tag) → AllByRecursion IsTagInRange tags → AllByRecursion IsTagName (tag_names tags)
names_fit [] all = tt
names_fit (tag ∷ more) all = (record { some = all.0.some; short = all.0.short }, names_fit more all.1)

no_tags_ascend : IsStrictlySortedBy (slice_cmp nat_cmp) (tag_names [])
unfolding IsStrictlySortedBy
no_tags_ascend = tt

-- it is in its ranges
pub prepared_fits : (head : Head) → IsHeadInRange head → IsHeadInRange (prepared_head head)
prepared_fits head fits = record {
  crt = fits.crt;
  moment = fits.moment;
  schema = fits.schema;
  usn = record { low = omega (arith, ints); high = omega (arith, ints) };
  last_sync = fits.moment;
  conf = fits.conf;
  tags = tags_stay_in_range (pos 0) (tag_names head.tags) [] names (record { low = omega (arith, ints); high = omega (arith, ints) }) (All-from_recursion IsTagInRange [] tt);
  ascending = tags_stay_ordered (pos 0) (tag_names head.tags) [] no_tags_ascend;
}
  where
    names : All IsTagName (tag_names head.tags)
    names = All-from_recursion IsTagName (tag_names head.tags) (names_fit head.tags (recursion_from_All IsTagInRange head.tags fits.tags))

abbrev head_of : ℤ → ℤ → ℤ → ℤ → Conf → List Tag → Head
head_of crt moment schema sync conf tags = record { crt = crt; moment = moment; schema = schema; usn = pos 1; last_sync = sync; conf = conf; tags = tags }

-- a head of these parts is that one
pub prepared_is : (head : Head) (crt moment schema sync : ℤ) (conf : Conf) (tags : List Tag) → crt ≡ head.crt → moment ≡ head.moment → schema ≡ head.schema
    → sync ≡ head.moment → conf ≡ head.conf → tags ≡ tags_taken (pos 0) (tag_names head.tags) []
    → record { crt = crt; moment = moment; schema = schema; usn = pos 1; last_sync = sync; conf = conf; tags = tags } ≡ prepared_head head
prepared_is head crt moment schema sync conf tags one two three four five six =
    ap (λ (x : ℤ). head_of x moment schema sync conf tags) one
    ∙ ap (λ (x : ℤ). head_of head.crt x schema sync conf tags) two
    ∙ ap (λ (x : ℤ). head_of head.crt head.moment x sync conf tags) three
    ∙ ap (λ (x : ℤ). head_of head.crt head.moment head.schema x conf tags) four
    ∙ ap (λ (x : Conf). head_of head.crt head.moment head.schema head.moment x tags) five
    ∙ ap (λ (x : List Tag). head_of head.crt head.moment head.schema head.moment head.conf x) six

-- ---- tables
-- the table at a place in their order
pub place_at : (i : ℕ) → i < 9 → table_place (get_or all_tables i tables.Note) ≡ i
place_at zero low = refl
place_at (suc zero) low = refl
place_at (suc (suc zero)) low = refl
place_at (suc (suc (suc zero))) low = refl
place_at (suc (suc (suc (suc zero)))) low = refl
place_at (suc (suc (suc (suc (suc zero))))) low = refl
place_at (suc (suc (suc (suc (suc (suc zero)))))) low = refl
place_at (suc (suc (suc (suc (suc (suc (suc zero))))))) low = refl
place_at (suc (suc (suc (suc (suc (suc (suc (suc zero)))))))) low = refl
place_at (suc (suc (suc (suc (suc (suc (suc (suc (suc n))))))))) low = absurd (omega (arith, low))

-- the rows of the table at a place come after those of the tables before it
pub table_may : (i : ℕ) (old new : List Row) → i < 9 → MayBePutBefore i old
    → (MayBePutBefore (table_place (get_or all_tables i tables.Note)) old → MayBePutBefore (table_place (get_or all_tables i tables.Note) + 1) new)
    → MayBePutBefore (i + 1) new
table_may i old new low before read =
    let place = place_at i low in
    subst (λ (n : ℕ). MayBePutBefore (n + 1) new) place (read (subst (λ (n : ℕ). MayBePutBefore n old) (sym place) before))

-- no row was read yet
pub none_read : (k : Keeping) (rows : List Row) → rows ≡ [] → WhereTold k (λ h. rows ++ rows_in_all all_tables h.rows ≡ rows_in_all all_tables h.rows)
none_read k rows none = where_all k (λ h. rows ++ rows_in_all all_tables h.rows ≡ rows_in_all all_tables h.rows) (λ h. ap (λ (list : List Row). list ++ rows_in_all all_tables h.rows) none)
