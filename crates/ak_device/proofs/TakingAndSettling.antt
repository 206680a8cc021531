-- What came was taken and what was sent was settled: request by request, it makes no difference which was first.
use Rattle.std.specs.Cmp.Lexicographic.{slice_cmp}
use Rattle.std.specs.List.{list_any}
use Rattle.std.specs.Option.{option_map}
use Rattle.std.specs.Ordering.{int_eq, is_lt, nat_cmp}
use Rattle.std.specs.Prelude.{◌≡◌, ℕ, ℤ, pos, negsuc, ◌≤ℤ◌, Bool, true, false, ◌||◌, is_some, if◌then◌else◌, List, [], ◌∷◌, ◌++◌, map, filter, Option, Some, None, IfSome}
use Rattle.std.proofs.Common.{refl, sym, ap, subst, ◌∙◌}
use Rattle.std.proofs.lemmas.List.{map-append}
use Rattle.ak_base.specs.Rows.{name_of}
use Rattle.ak_base.specs.declared.heads.Head.{Head}
use Rattle.ak_base.specs.declared.heads.Tag.{Tag}
use Rattle.ak_base.specs.declared.names.Name.{Name}
use Rattle.ak_base.specs.declared.rows.Row.{Row}
use Rattle.ak_device.proofs.Receiving.{changed_same, changed_twice, received_twice}
use Rattle.ak_device.proofs.SettledRows.{not_unsent, settled_append, takings_settle}
use Rattle.ak_device.specs.Devices.{changes_to_send, received}
use Rattle.ak_sync_rows.specs.Takes.{head_with}
use Rattle.ak_device.specs.Settlings.{NamesUnsentTags, all_settled_by, head_settled, is_changes, names_of, names_sent, settled_by, settled_under, taken_and_settled, tags_settled}
use Rattle.ak_keep.specs.Collections.{Holding, Rows}
use Rattle.ak_keep.specs.Keepers.{Keeping, WhereTold, changed}
use Rattle.ak_keep.specs.Marks as marks
use Rattle.ak_keep.specs.Marks.{WithMark}
use Rattle.ak_keep.specs.declared.keepers.Wanted.TheVariants.{Unsent}
use Rattle.ak_merge.proofs.ExchangeLaws.{settled_tag_usn}
use Rattle.ak_merge.specs.Commits.{Received}
use Rattle.ak_merge.specs.Exchanges.{settled_number, settled_tag, settled_tags, wanted_tags}
use Rattle.ak_merge.specs.Holdings.{has_tag, tag_usn}
use Rattle.ak_merge.specs.Tags.{tag_taken, tags_taken, with_tag}
use Rattle.ak_messages.specs.declared.requests.Ask.{Ask}
use Rattle.ak_messages.specs.declared.requests.Ask.TheVariants as asks
use Rattle.ak_messages.specs.declared.requests.Changes.{Changes}
use Rattle.ak_messages.specs.declared.requests.SanityCounts.{SanityCounts}
use Rattle.ak_session.specs.Asks.{all_brought, and_then, brought}
use Rattle.ak_merge.specs.declared.sides.Side.TheVariants.{Device}

-- ---- tags
own_number : (usn : ℤ) → settled_number usn usn ≡ usn
own_number usn = elim (int_eq usn (negsuc 0)) as (λ b. (if b then usn else usn) ≡ usn) [ true ↦ refl | false ↦ refl ]

number_twice : (usn number : ℤ) → settled_number usn (settled_number usn number) ≡ settled_number usn number
number_twice usn number =
    elim (int_eq number (negsuc 0)) as (λ b. int_eq number (negsuc 0) ≡ b → settled_number usn (if b then usn else number) ≡ (if b then usn else number)) [
      | true ↦ λ _. own_number usn
      | false ↦ λ is. ap (λ (b : Bool). if b then usn else number) is
    ] refl

pub tags_twice : (usn : ℤ) (tags : List Tag) → settled_tags usn (settled_tags usn tags) ≡ settled_tags usn tags
tags_twice usn [] = refl
tags_twice usn (tag ∷ more) =
    ap (λ (n : ℤ). record { name = tag.name; usn = n } ∷ settled_tags usn (settled_tags usn more)) (number_twice usn tag.usn)
    ∙ ap (λ (l : List Tag). settled_tag usn tag ∷ l) (tags_twice usn more)

still_has : (usn : ℤ) (name : List ℕ) (tags : List Tag) → has_tag (settled_tags usn tags) name ≡ has_tag tags name
still_has usn name tags = ap is_some (settled_tag_usn usn tags name) ∙ by (tag_usn tags name)
  where
    by : (o : Option ℤ) → is_some (option_map (settled_number usn) o) ≡ is_some o
    by None = refl
    by (Some number) = refl

put_settled : (usn : ℤ) (name : List ℕ) (tags : List Tag)
    → with_tag (record { name = name; usn = usn }) (settled_tags usn tags) ≡ settled_tags usn (with_tag (record { name = name; usn = usn }) tags)
put_settled usn name [] = ap (λ (n : ℤ). record { name = name; usn = n } ∷ []) (sym (own_number usn))
put_settled usn name (other ∷ more) = by (put_settled usn name more) (is_lt (slice_cmp nat_cmp name other.name))
  where
    tag : Tag
    tag = record { name = name; usn = usn }

    by : with_tag tag (settled_tags usn more) ≡ settled_tags usn (with_tag tag more) → (b : Bool)
        → (if b then tag ∷ settled_tag usn other ∷ settled_tags usn more else settled_tag usn other ∷ with_tag tag (settled_tags usn more))
        ≡ settled_tags usn (if b then tag ∷ other ∷ more else other ∷ with_tag tag more)
    by later true = ap (λ (n : ℤ). record { name = name; usn = n } ∷ settled_tag usn other ∷ settled_tags usn more) (sym (own_number usn))
    by later false = ap (λ (l : List Tag). settled_tag usn other ∷ l) later

tag_commutes : (usn : ℤ) (name : List ℕ) (tags : List Tag) → tag_taken usn name (settled_tags usn tags) ≡ settled_tags usn (tag_taken usn name tags)
tag_commutes usn name tags =
    ap (λ (b : Bool). if b then settled_tags usn tags else with_tag (record { name = name; usn = usn }) (settled_tags usn tags)) (still_has usn name tags)
    ∙ by (has_tag tags name)
  where
    by : (b : Bool) → (if b then settled_tags usn tags else with_tag (record { name = name; usn = usn }) (settled_tags usn tags))
        ≡ settled_tags usn (if b then tags else with_tag (record { name = name; usn = usn }) tags)
    by true = refl
    by false = put_settled usn name tags

tags_commute : (usn : ℤ) (names : List (List ℕ)) (tags : List Tag) → tags_taken usn names (settled_tags usn tags) ≡ settled_tags usn (tags_taken usn names tags)
tags_commute usn [] tags = refl
tags_commute usn (name ∷ more) tags =
    ap (tags_taken usn more) (tag_commutes usn name tags) ∙ tags_commute usn more (tag_taken usn name tags)

-- a tag that has a number is none that was not sent yet
put_unsent : (usn : ℤ) (name : List ℕ) (tags : List Tag) → int_eq usn (negsuc 0) ≡ false
    → wanted_tags Unsent (with_tag (record { name = name; usn = usn }) tags) ≡ wanted_tags Unsent tags
put_unsent usn name [] has = ap (λ (b : Bool). map (λ (tag : Tag). tag.name) (if b then record { name = name; usn = usn } ∷ [] else [])) has
put_unsent usn name (other ∷ more) has = by (put_unsent usn name more has) (is_lt (slice_cmp nat_cmp name other.name))
  where
    tag : Tag
    tag = record { name = name; usn = usn }

    is_unsent : Tag → Bool
    is_unsent it = int_eq it.usn (negsuc 0)

    later : wanted_tags Unsent (with_tag tag more) ≡ wanted_tags Unsent more → wanted_tags Unsent (other ∷ with_tag tag more) ≡ wanted_tags Unsent (other ∷ more)
    later so = elim (int_eq other.usn (negsuc 0)) as (λ b. map (λ (it : Tag). it.name) (if b then other ∷ filter is_unsent (with_tag tag more) else filter is_unsent (with_tag tag more))
        ≡ map (λ (it : Tag). it.name) (if b then other ∷ filter is_unsent more else filter is_unsent more)) [
          | true ↦ ap (λ (l : List (List ℕ)). other.name ∷ l) so
          | false ↦ so
        ]

    by : wanted_tags Unsent (with_tag tag more) ≡ wanted_tags Unsent more → (b : Bool)
        → wanted_tags Unsent (if b then tag ∷ other ∷ more else other ∷ with_tag tag more) ≡ wanted_tags Unsent (other ∷ more)
    by so true = ap (λ (b : Bool). map (λ (it : Tag). it.name) (if b then tag ∷ filter is_unsent (other ∷ more) else filter is_unsent (other ∷ more))) has
    by so false = later so

taken_unsent : (usn : ℤ) (names : List (List ℕ)) (tags : List Tag) → int_eq usn (negsuc 0) ≡ false
    → wanted_tags Unsent (tags_taken usn names tags) ≡ wanted_tags Unsent tags
taken_unsent usn [] tags has = refl
taken_unsent usn (name ∷ more) tags has = taken_unsent usn more (tag_taken usn name tags) has ∙ by (has_tag tags name)
  where
    by : (b : Bool) → wanted_tags Unsent (if b then tags else with_tag (record { name = name; usn = usn }) tags) ≡ wanted_tags Unsent tags
    by true = refl
    by false = put_unsent usn name tags has

-- once the reply to changes was taken, they still name all tags that were not sent yet
pub still_named : (usn moment : ℤ) (came : Received) (changes : Changes) (k0 k1 : Keeping) → pos 0 ≤ℤ usn
    → WhereTold k0 (λ h. IfSome h.head (λ head. changes ≡ changes_to_send moment h.rows head)) → k1 ≡ changed (received usn came) k0
    → NamesUnsentTags (asks.ApplyChanges changes) k1
still_named usn moment came changes k0 k1 low told took = subst (NamesUnsentTags (asks.ApplyChanges changes)) (sym took) (by k0.told told)
  where
    one : (held : Rows) (o : Option Head) → IfSome o (λ head. changes ≡ changes_to_send moment held head)
        → IfSome (option_map (head_with usn came) o) (λ head. changes.tags ≡ wanted_tags Unsent head.tags)
    one held None is = tt
    one held (Some head) is = ap (λ (it : Changes). it.tags) is ∙ sym (taken_unsent usn came.tags head.tags (not_unsent usn low))

    by : (t : Option (WithMark Holding)) → IfSome t (λ w. IfSome w.current.head (λ head. changes ≡ changes_to_send moment w.current.rows head))
        → IfSome (option_map (marks.changed (received usn came)) t) (λ w. IfSome w.current.head (λ head. changes.tags ≡ wanted_tags Unsent head.tags))
    by None is = tt
    by (Some w) is = one w.current.rows w.current.head is

-- ---- one request
head_commutes : (usn : ℤ) (came : Received) (ask : Ask) (head : Head) → head_with usn came (head_settled usn ask head) ≡ head_settled usn ask (head_with usn came head)
head_commutes usn came (asks.ApplyChanges changes) head =
    ap (λ (tags : List Tag). record (head_with usn came head) { tags = tags }) (tags_commute usn came.tags head.tags)
head_commutes usn came asks.Meta head = refl
head_commutes usn came (asks.Start min_usn lmod) head = refl
head_commutes usn came (asks.ApplyGraves ids) head = refl
head_commutes usn came asks.Chunk head = refl
head_commutes usn came (asks.ApplyChunk chunk) head = refl
head_commutes usn came (asks.SanityCheck2 counts) head = refl
head_commutes usn came asks.Finish head = refl
head_commutes usn came (asks.Upload whole) head = refl
head_commutes usn came asks.Download head = refl

option_commutes : (usn : ℤ) (came : Received) (ask : Ask) (o : Option Head)
    → option_map (head_with usn came) (option_map (head_settled usn ask) o) ≡ option_map (head_settled usn ask) (option_map (head_with usn came) o)
option_commutes usn came ask None = refl
option_commutes usn came ask (Some head) = ap (λ (h : Head). Some h) (head_commutes usn came ask head)

one_commutes : (usn : ℤ) (came : Received) (ask : Ask) (h : Holding) → received usn came (settled_by usn ask h) ≡ settled_by usn ask (received usn came h)
one_commutes usn came ask h =
    ap (λ (rows : Rows). record { rows = rows; head = option_map (head_with usn came) (option_map (head_settled usn ask) h.head) })
    (takings_settle Device usn came.rows (names_sent ask) h.rows)
    ∙ ap (λ (head : Option Head). record { rows = (settled_by usn ask (received usn came h)).rows; head = head }) (option_commutes usn came ask h.head)

-- ---- requests, one after the other
commutes : (usn : ℤ) (came : Received) (sent : List Ask) (h : Holding) → received usn came (all_settled_by usn sent h) ≡ all_settled_by usn sent (received usn came h)
commutes usn came [] h = refl
commutes usn came (ask ∷ more) h = commutes usn came more (settled_by usn ask h) ∙ ap (all_settled_by usn more) (one_commutes usn came ask h)

pub all_settled_append : (usn : ℤ) (one two : List Ask) (h : Holding) → all_settled_by usn (one ++ two) h ≡ all_settled_by usn two (all_settled_by usn one h)
all_settled_append usn [] two h = refl
all_settled_append usn (ask ∷ more) two h = all_settled_append usn more two (settled_by usn ask h)

-- the rows are settled under the names of all that was sent
pub rows_after : (usn : ℤ) (sent : List Ask) (h : Holding) → (all_settled_by usn sent h).rows ≡ settled_under usn (names_of (all_brought sent).rows) h.rows
rows_after usn [] h = refl
rows_after usn (ask ∷ more) h =
    rows_after usn more (settled_by usn ask h)
    ∙ sym (settled_append usn (names_sent ask) (names_of (all_brought more).rows) h.rows)
    ∙ ap (λ (names : List Name). settled_under usn names h.rows)
    (sym (map-append (λ (row : Row). name_of row) (brought ask).rows (all_brought more).rows))

-- a head with its tags settled, or as it is
abbrev pub tags_if : ℤ → Bool → Option Head → Option Head
tags_if usn b o = if b then option_map (tags_settled usn) o else o

head_alone : (o : Option Head) → option_map (λ (head : Head). head) o ≡ o
head_alone None = refl
head_alone (Some head) = refl

tags_of_one : (usn : ℤ) (ask : Ask) (o : Option Head) → option_map (head_settled usn ask) o ≡ tags_if usn (is_changes ask) o
tags_of_one usn (asks.ApplyChanges changes) o = refl
tags_of_one usn asks.Meta o = head_alone o
tags_of_one usn (asks.Start min_usn lmod) o = head_alone o
tags_of_one usn (asks.ApplyGraves ids) o = head_alone o
tags_of_one usn asks.Chunk o = head_alone o
tags_of_one usn (asks.ApplyChunk chunk) o = head_alone o
tags_of_one usn (asks.SanityCheck2 counts) o = head_alone o
tags_of_one usn asks.Finish o = head_alone o
tags_of_one usn (asks.Upload whole) o = head_alone o
tags_of_one usn asks.Download o = head_alone o

tags_again : (usn : ℤ) (a b : Bool) (o : Option Head) → tags_if usn b (tags_if usn a o) ≡ tags_if usn (a || b) o
tags_again usn true true None = refl
tags_again usn true true (Some head) = ap (λ (tags : List Tag). Some (record head { tags = tags })) (tags_twice usn head.tags)
tags_again usn true false o = refl
tags_again usn false b o = refl

-- the tags are settled once changes were among what was sent
pub head_after : (usn : ℤ) (sent : List Ask) (h : Holding) → (all_settled_by usn sent h).head ≡ tags_if usn (list_any is_changes sent) h.head
head_after usn [] h = refl
head_after usn (ask ∷ more) h =
    head_after usn more (settled_by usn ask h)
    ∙ ap (tags_if usn (list_any is_changes more)) (tags_of_one usn ask h.head)
    ∙ tags_again usn (is_changes ask) (list_any is_changes more) h.head

-- ---- a keeper
abbrev told_by : Keeping → Option (WithMark Holding) → Keeping
told_by k told = record { headed = k.headed; told = told }

-- a change that leaves all as it is
same_told : (f : Holding → Holding) → ((h : Holding) → h ≡ f h) → (t : Option (WithMark Holding)) → t ≡ option_map (marks.changed f) t
same_told f same None = refl
same_told f same (Some w) = ap (λ (h : Holding). Some (record { current = h; mark = w.mark })) (same w.current)

pub unchanged_by : (f : Holding → Holding) → ((h : Holding) → h ≡ f h) → (k : Keeping) → k ≡ changed f k
unchanged_by f same k = ap (told_by k) (same_told f same k.told)

-- two changes, one after the other
pub changed_then : (f g all : Holding → Holding) → ((h : Holding) → g (f h) ≡ all h) → (k0 k1 k2 : Keeping) → k1 ≡ changed f k0 → k2 ≡ changed g k1
    → k2 ≡ changed all k0
changed_then f g all same k0 k1 k2 one two =
    two
    ∙ ap (changed g) one
    ∙ ap (told_by k0) (changed_twice f g k0.told)
    ∙ changed_same (λ h. g (f h)) all same k0

-- a request that sent no row settles nothing
pub start_settles_none : (usn min_usn lmod : ℤ) (k : Keeping) → k ≡ changed (settled_by usn (asks.Start min_usn lmod)) k
start_settles_none usn min_usn lmod = unchanged_by (settled_by usn (asks.Start min_usn lmod)) (λ h. ap (λ (o : Option Head). record { rows = h.rows; head = o }) (sym (head_alone h.head)))

pub chunk_settles_none : (usn : ℤ) (k : Keeping) → k ≡ changed (settled_by usn asks.Chunk) k
chunk_settles_none usn = unchanged_by (settled_by usn asks.Chunk) (λ h. ap (λ (o : Option Head). record { rows = h.rows; head = o }) (sym (head_alone h.head)))

pub check_settles_none : (usn : ℤ) (counts : SanityCounts) (k : Keeping) → k ≡ changed (settled_by usn (asks.SanityCheck2 counts)) k
check_settles_none usn counts = unchanged_by (settled_by usn (asks.SanityCheck2 counts)) (λ h. ap (λ (o : Option Head). record { rows = h.rows; head = o }) (sym (head_alone h.head)))

-- what one request more brought was taken, and what it sent was settled
pub one_more_taken : (usn : ℤ) (first came : Received) (sent : List Ask) (ask : Ask) (k0 k1 k2 k3 : Keeping)
    → k1 ≡ changed (taken_and_settled usn first sent) k0 → k2 ≡ changed (received usn came) k1 → k3 ≡ changed (settled_by usn ask) k2
    → k3 ≡ changed (taken_and_settled usn (and_then first came) (sent ++ ask ∷ [])) k0
one_more_taken usn first came sent ask k0 k1 k2 k3 one two three =
    changed_then (λ h. received usn came (taken_and_settled usn first sent h)) (settled_by usn ask) (taken_and_settled usn (and_then first came) (sent ++ ask ∷ [])) whole k0 k2 k3
    (changed_then (taken_and_settled usn first sent) (received usn came) (λ h. received usn came (taken_and_settled usn first sent h)) (λ h. refl) k0 k1 k2 one two)
    three
  where
    whole : (h : Holding) → settled_by usn ask (received usn came (taken_and_settled usn first sent h)) ≡ taken_and_settled usn (and_then first came) (sent ++ ask ∷ []) h
    whole h =
        ap (settled_by usn ask) (commutes usn came sent (received usn first h))
        ∙ sym (all_settled_append usn sent (ask ∷ []) (received usn came (received usn first h)))
        ∙ ap (all_settled_by usn (sent ++ ask ∷ [])) (sym (received_twice usn first came h))

-- more was taken and settled after some was
pub more_taken : (usn : ℤ) (first came : Received) (sent more : List Ask) (k0 k1 k2 : Keeping)
    → k1 ≡ changed (taken_and_settled usn first sent) k0 → k2 ≡ changed (taken_and_settled usn came more) k1
    → k2 ≡ changed (taken_and_settled usn (and_then first came) (sent ++ more)) k0
more_taken usn first came sent more k0 k1 k2 one two =
    changed_then (taken_and_settled usn first sent) (taken_and_settled usn came more) (taken_and_settled usn (and_then first came) (sent ++ more)) whole k0 k1 k2 one two
  where
    whole : (h : Holding) → taken_and_settled usn came more (taken_and_settled usn first sent h) ≡ taken_and_settled usn (and_then first came) (sent ++ more) h
    whole h =
        ap (all_settled_by usn more) (commutes usn came sent (received usn first h))
        ∙ sym (all_settled_append usn sent more (received usn came (received usn first h)))
        ∙ ap (all_settled_by usn (sent ++ more)) (sym (received_twice usn first came h))
