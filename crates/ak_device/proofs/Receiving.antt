-- What a device holds once what came was taken.
use Rattle.std.specs.Option.{option_map, option_or, unwrap_or}
use Rattle.std.specs.Prelude.{◌≡◌, ℤ, pos, negsuc, Bool, true, List, [], Option, Some, None, IfSome}
use Rattle.std.proofs.Common.{refl, sym, ap, ◌∙◌, arith}
use Rattle.std.proofs.lemmas.Int.{ints}
use Rattle.ak_base.specs.Heads.{IsConfInRange, IsHeadInRange, IsWithin}
use Rattle.ak_base.specs.Limits.{last_head_usn, last_stamp, last_usn}
use Rattle.ak_base.specs.declared.heads.Head.{Head}
use Rattle.ak_base.specs.declared.heads.Tag.{Tag}
use Rattle.ak_base.specs.declared.rows.Row.{Row}
use Rattle.ak_device.specs.Devices.{received}
use Rattle.ak_keep.specs.Collections.{Holding, Rows, with_head}
use Rattle.ak_keep.specs.Keepers.{Keeping, WhereTold, changed, head_set}
use Rattle.ak_keep.specs.Marks as marks
use Rattle.ak_keep.specs.Marks.{WithMark}
use Rattle.ak_merge.specs.Commits.{Received, Settings, settings_of}
use Rattle.ak_merge.proofs.PartLaws.{parts_add_up}
use Rattle.ak_merge.proofs.TagLists.{tag_parts_add_up}
use Rattle.ak_merge.specs.Tags.{tags_taken}
use Rattle.ak_merge.specs.Takings.{all_taken}
use Rattle.ak_merge.proofs.TagLaws.{tags_stay_in_range, tags_stay_ordered}
use Rattle.ak_sync_rows.specs.Takes.{MayBeTaken, head_with, with_all_taken}
use Rattle.ak_session.specs.Asks.{and_then, nothing}
use Rattle.ak_merge.specs.declared.sides.Side.TheVariants.{Device}

-- only these rows
abbrev pub only_rows : List Row → Received
only_rows rows = record { rows = rows; tags = []; settings = None }

-- ---- rows alone
head_stays : (usn : ℤ) (rows : List Row) (head : Option Head) → head ≡ option_map (head_with usn (only_rows rows)) head
head_stays usn rows None = refl
head_stays usn rows (Some head) = refl

pub rows_received : (usn : ℤ) (rows : List Row) (h : Holding) → with_all_taken Device usn rows h ≡ received usn (only_rows rows) h
rows_received usn rows h =
    ap (λ (o : Option Head). record { rows = (with_all_taken Device usn rows h).rows; head = o }) (head_stays usn rows h.head)

-- what is made of all that may be held is made of what is told
told_same : (f g : Holding → Holding) → ((h : Holding) → f h ≡ g h) → (t : Option (WithMark Holding))
    → option_map (marks.changed f) t ≡ option_map (marks.changed g) t
told_same f g same None = refl
told_same f g same (Some w) = ap (λ (h : Holding). Some (record { current = h; mark = w.mark })) (same w.current)

pub changed_same : (f g : Holding → Holding) → ((h : Holding) → f h ≡ g h) → (k : Keeping) → changed f k ≡ changed g k
changed_same f g same k =
    ap (λ (t : Option (WithMark Holding)). record { headed = k.headed; told = t }) (told_same f g same k.told)

-- rows that were taken are what came
pub rows_came : (usn : ℤ) (rows : List Row) (k : Keeping) → changed (with_all_taken Device usn rows) k ≡ changed (received usn (only_rows rows)) k
rows_came usn rows k = changed_same (with_all_taken Device usn rows) (received usn (only_rows rows)) (rows_received usn rows) k

-- ---- rows and a head
head_received : (usn : ℤ) (came : Received) (head made : Head) (h : Holding) → h.head ≡ Some head → made ≡ head_with usn came head
    → with_head made (with_all_taken Device usn came.rows h) ≡ received usn came h
head_received usn came head made h is so =
    ap (λ (o : Option Head). record { rows = (with_all_taken Device usn came.rows h).rows; head = o })
    (ap (λ (m : Head). Some m) so ∙ sym (ap (λ (o : Option Head). option_map (head_with usn came) o) is))

head_told : (usn : ℤ) (came : Received) (head made : Head) (t : Option (WithMark Holding)) → IfSome t (λ w. w.current.head ≡ Some head)
    → made ≡ head_with usn came head
    → option_map (marks.changed (with_head made)) (option_map (marks.changed (with_all_taken Device usn came.rows)) t)
    ≡ option_map (marks.changed (received usn came)) t
head_told usn came head made None is so = refl
head_told usn came head made (Some w) is so =
    ap (λ (h : Holding). Some (record { current = h; mark = w.mark })) (head_received usn came head made w.current is so)

-- rows that were taken, and then a head that was set, are what came
pub changes_came : (usn : ℤ) (came : Received) (head made : Head) (k0 k1 k2 : Keeping)
    → k0.headed.current ≡ true → WhereTold k0 (λ h. h.head ≡ Some head) → made ≡ head_with usn came head
    → k1 ≡ changed (with_all_taken Device usn came.rows) k0 → k2 ≡ head_set made k1 → k2 ≡ changed (received usn came) k0
changes_came usn came head made k0 k1 k2 held is so one two =
    two
    ∙ ap (head_set made) one
    ∙ ap (λ (b : Bool). record {
      headed = record { current = b; mark = k0.headed.mark };
      told = option_map (marks.changed (with_head made)) (option_map (marks.changed (with_all_taken Device usn came.rows)) k0.told);
    }) (sym held)
    ∙ ap (λ (t : Option (WithMark Holding)). record { headed = k0.headed; told = t }) (head_told usn came head made k0.told is so)

-- ---- one after the other
settings_twice : (later first : Option Settings) (own : Settings) → unwrap_or (option_or later first) own ≡ unwrap_or later (unwrap_or first own)
settings_twice None first own = refl
settings_twice (Some s) first own = refl

abbrev head_of_parts : Head → List Tag → Settings → Head
head_of_parts head tags settings = record head { tags = tags; conf = settings.conf; crt = settings.crt }

head_twice : (usn : ℤ) (first more : Received) (head : Head) → head_with usn (and_then first more) head ≡ head_with usn more (head_with usn first head)
head_twice usn first more head =
    ap (λ (tags : List Tag). head_of_parts head tags (unwrap_or (option_or more.settings first.settings) (settings_of head)))
    (tag_parts_add_up usn first.tags more.tags head.tags)
    ∙ ap (head_of_parts head (tags_taken usn more.tags (tags_taken usn first.tags head.tags)))
    (settings_twice more.settings first.settings (settings_of head))

option_twice : (usn : ℤ) (first more : Received) (o : Option Head)
    → option_map (head_with usn (and_then first more)) o ≡ option_map (head_with usn more) (option_map (head_with usn first) o)
option_twice usn first more None = refl
option_twice usn first more (Some head) = ap (λ (h : Head). Some h) (head_twice usn first more head)

-- what came first and then more is received in two
pub received_twice : (usn : ℤ) (first more : Received) (h : Holding) → received usn (and_then first more) h ≡ received usn more (received usn first h)
received_twice usn first more h =
    ap (λ (rows : Rows). record { rows = rows; head = option_map (head_with usn (and_then first more)) h.head })
    (parts_add_up Device usn first.rows more.rows h.rows)
    ∙ ap (λ (head : Option Head). record { rows = all_taken Device usn more.rows (all_taken Device usn first.rows h.rows); head = head })
    (option_twice usn first more h.head)

pub changed_twice : (f g : Holding → Holding) (t : Option (WithMark Holding))
    → option_map (marks.changed g) (option_map (marks.changed f) t) ≡ option_map (marks.changed (λ h. g (f h))) t
changed_twice f g None = refl
changed_twice f g (Some w) = refl

-- the same of a keeper
pub received_then : (usn : ℤ) (first more : Received) (k : Keeping)
    → changed (received usn more) (changed (received usn first) k) ≡ changed (received usn (and_then first more)) k
received_then usn first more k =
    ap (λ (t : Option (WithMark Holding)). record { headed = k.headed; told = t }) (changed_twice (received usn first) (received usn more) k.told)
    ∙ changed_same (λ h. received usn more (received usn first h)) (received usn (and_then first more)) (λ h. sym (received_twice usn first more h)) k

same_told : (t : Option (WithMark Holding)) → t ≡ option_map (marks.changed (λ h. h)) t
same_told None = refl
same_told (Some w) = refl

-- nothing that came changes nothing
pub received_nothing : (usn : ℤ) (k : Keeping) → k ≡ changed (received usn nothing) k
received_nothing usn k =
    ap (λ (t : Option (WithMark Holding)). record { headed = k.headed; told = t }) (same_told k.told)
    ∙ changed_same (λ h. h) (received usn nothing) (rows_received usn []) k
