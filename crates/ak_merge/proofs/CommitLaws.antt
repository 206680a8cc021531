-- What a server's commit keeps.
use Rattle.ak_base.specs.Rows.{IsChecked, buried_of, name_of, stamp_of, usn_of, with_usn}
use Rattle.ak_base.specs.Limits.{last_usn, last_head_usn, last_stamp}
use Rattle.ak_keep.specs.Collections.{Collection, Rows, is_settled}
use Rattle.ak_base.specs.Tables.{graves_of, has_stamps}
use Rattle.std.specs.Prelude.{◌≡◌, ℕ, ℤ, pos, negsuc, ◌+ℤ◌, ◌≤ℤ◌, ◌<ℤ◌, ◌≢◌, ◌⊎◌, Bool, true, false, if◌then◌else◌, int_lt, IsTrue, IfSome, ⊤, List, Option, Some, None, is_some}
use Rattle.std.proofs.Common.{refl, sym, ap, subst, ◌∙◌, inl, inr, arith}
use Rattle.std.proofs.Math.Path.{fun_ext}
use Rattle.std.proofs.lemmas.Int.{ints}
use Rattle.std.proofs.lemmas.List.Elements.{recursion_from_All}
use Rattle.std.specs.FinMap.{get}
use Rattle.std.specs.List.{All, AllByRecursion}
use Rattle.std.specs.Option.{option_map_or, option_or, unwrap_or}
use Rattle.ak_base.specs.declared.names.Name.{Name}
use Rattle.ak_base.specs.declared.names.Table.{Table}
use Rattle.ak_base.specs.declared.names.Table.TheVariants as tables
use Rattle.ak_base.specs.declared.rows.Row.{Row}
use Rattle.ak_base.specs.declared.rows.Row.TheVariants as rows
use Rattle.ak_base.specs.Heads.{IsWithin, IsMoment, IsConfInRange, IsTagInRange, IsHeadInRange, tag_names}
use Rattle.ak_base.specs.declared.heads.Tag.{Tag}
use Rattle.std.specs.Cmp.Lexicographic.{slice_cmp}
use Rattle.std.specs.Ordering.{nat_cmp}
use Rattle.std.specs.List.Sorted.{IsStrictlySortedBy}
use Rattle.ak_merge.proofs.TagLaws.{tags_are_united, tags_stay_ordered, tags_stay_in_range}
use Rattle.ak_merge.specs.Tags.{has_name}
use Rattle.ak_merge.specs.Edits.{Reversal}
use Rattle.ak_merge.specs.Undoing.{StepFits, StepFitsParts}
use Rattle.ak_merge.specs.Commits.{Settings, Received, IsCommitOf, IsInRange, IsCommitted, settings_of}
use Rattle.ak_keep.specs.Graves.{RowsByName, grave_under}
use Rattle.ak_merge.specs.Holdings.{row_under, AreNamed, AreChecked, IsSingle, tag_usn}
use Rattle.ak_merge.proofs.CheckedRows.{checked_with_usn}
use Rattle.ak_merge.proofs.JoinLaws.{no_graves}
use Rattle.ak_merge.specs.Links.{IsGiven, AreNumbered, IsHeldLike, IsNewerFrom, IsThere, HasTaken, IsKnown, IsShared, IsTagShared, AreLinkedParts, AreLinked}
use Rattle.ak_base.proofs.RowFacts.{name_of-with_usn, stamp_of-with_usn, usn_of-with_usn}
use Rattle.ak_base.proofs.SameRows.{like_stamp}
use Rattle.ak_merge.proofs.TakingLaws.{received, received_by, received_under, grave_in, graves_alike, if_weaker, newest_in, newest_named, all_taken_at, each_newest}
use Rattle.ak_merge.specs.Takings.{beats}
use Rattle.ak_merge.specs.declared.sides.Side.{Side}
use Rattle.ak_merge.specs.declared.sides.Side.TheVariants.{Device, Server}

-- ---- what holds of what is there
pub when_some : (P : Row → Type 0) (o : Option Row) → ((row : Row) → o ≡ Some row → P row) → IfSome o P
when_some P None all = tt
when_some P (Some x) all = all x refl

pub of_some : (P : Row → Type 0) (o : Option Row) (row : Row) → IfSome o P → o ≡ Some row → P row
of_some P o row holds is = subst (λ (x : Option Row). IfSome x P) is holds

each_received : (P : Row → Type 0) (side : Side) (usn : ℤ) (x y : Option Row) → IfSome x P → IfSome y (λ (row : Row). P (with_usn row usn)) → IfSome (received side usn x y) P
each_received P side usn None None one other = tt
each_received P side usn None (Some y) one other = other
each_received P side usn (Some x) None one other = one
each_received P side usn (Some x) (Some y) one other = elim (beats side (stamp_of x) y) as (λ s. IfSome (if s then Some (with_usn y usn) else Some x) P) [ true ↦ other | false ↦ one ]

pub each_by : (P : Row → Type 0) (side : Side) (usn : ℤ) (x g y h : Option Row) → IfSome x P → IfSome y (λ (row : Row). P (with_usn row usn)) → IfSome (received_by side usn x g y h) P
each_by P side usn x g y (Some h) one other = tt
each_by P side usn x (Some g) y None one other = one
each_by P side usn x None y None one other = each_received P side usn x y one other

-- ---- single
-- what a grave's name has once rows were taken
pub grave_received : (side : Side) (usn : ℤ) (at from : RowsByName) (name : Name) (graves : Option Table) → graves_of name.table ≡ graves
    → grave_in (received_under side usn at from) name graves ≡ received side usn (grave_in at name graves) (grave_in from name graves)
grave_received side usn at from name None is = refl
grave_received side usn at from name (Some graves) is =
    let grave : Name = record { table = graves; id = name.id } in
    ap (λ o. received_by side usn (at grave) (grave_in at grave o) (from grave) (grave_in from grave o)) (no_graves name.table graves is)

single_cell : (side : Side) (usn : ℤ) (x g y k : Option Row) → (is_some g ≡ true → x ≡ None) → is_some (received side usn g k) ≡ true → received_by side usn x g y k ≡ None
single_cell side usn x g y (Some k) single dead = refl
single_cell side usn x (Some g) y None single dead = single refl
single_cell side usn x None y None single dead = grind (arith, dead)

pub single_received : (side : Side) (usn : ℤ) (at from : RowsByName) → IsSingle at → IsSingle (received_under side usn at from)
single_received side usn at from single name dead =
    single_cell side usn (at name) (grave_under at name) (from name) (grave_under from name) (single name) (ap is_some (sym (grave_received side usn at from name (graves_of name.table) refl)) ∙ dead)

-- ---- a commit
pub commit_under : (came : Received) (s t : Collection) → IsCommitOf came s t
    → row_under t ≡ received_under Server s.head.usn (row_under s) (newest_in Server came.rows)
commit_under came s t commit = fun_ext (λ name. ap (λ (rows : Rows). get rows name) commit.rows ∙ all_taken_at Server s.head.usn came.rows s.rows name)

-- the number of each tag
pub commit_tag : (came : Received) (s t : Collection) → IsCommitOf came s t → (name : List ℕ)
    → tag_usn t.head.tags name ≡ option_or (tag_usn s.head.tags name) (if has_name came.tags name then Some s.head.usn else None)
commit_tag came s t commit name = ap (λ (tags : List Tag). tag_usn tags name) commit.tags ∙ tags_are_united s.head.usn came.tags s.head.tags name

pub named_received : (side : Side) (usn : ℤ) (at from : RowsByName) → AreNamed at → ((name : Name) → IfSome (from name) (λ (row : Row). name_of row ≡ name)) → AreNamed (received_under side usn at from)
named_received side usn at from named came name row is =
    of_some (λ (x : Row). name_of x ≡ name) (received_under side usn at from name) row
    (each_by (λ (x : Row). name_of x ≡ name) side usn (at name) (grave_under at name) (from name) (grave_under from name)
    (when_some (λ (x : Row). name_of x ≡ name) (at name) (named name))
    (if_weaker (λ (x : Row). name_of x ≡ name) (λ (x : Row). name_of (with_usn x usn) ≡ name) (λ x h. name_of-with_usn x usn ∙ h) (from name) (came name)))
    is

pub checked_received : (side : Side) (usn : ℤ) (at from : RowsByName) → AreChecked at → ((name : Name) → IfSome (from name) (λ (row : Row). IsChecked (with_usn row usn)))
    → AreChecked (received_under side usn at from)
checked_received side usn at from checked came name row is =
    of_some IsChecked (received_under side usn at from name) row
    (each_by IsChecked side usn (at name) (grave_under at name) (from name) (grave_under from name) (when_some IsChecked (at name) (checked name)) (came name))
    is

-- what a list of rows in their ranges has of a name is in them under a number that is in range
pub newest_checked : (side : Side) (usn : ℤ) (came : List Row) → IsWithin (pos 0) last_usn usn → All IsChecked came → (name : Name) → IfSome (newest_in side came name) (λ (row : Row). IsChecked (with_usn row usn))
newest_checked side usn came within fits name =
    if_weaker (λ row. IsChecked row × (name_of row ≡ name)) (λ row. IsChecked (with_usn row usn)) (λ row h. checked_with_usn row usn within.low within.high h.0) (newest_in side came name)
    (each_newest side IsChecked came name (recursion_from_All IsChecked came fits))

-- a number of a head is in the range of rows
pub number_within : (usn : ℤ) → pos 0 ≤ℤ usn → usn ≤ℤ last_head_usn → IsWithin (pos 0) last_usn usn
number_within usn low high = record { low = low; high = omega (arith, ints, high) }

pub given_more : (usn more : ℤ) → more ≡ usn +ℤ pos 1 → (number : ℤ) → IsGiven usn number → IsGiven more number
given_more usn more is number given = record { low = given.low; high = omega (arith, ints, is, given.high) }

pub given_now : (usn more : ℤ) → more ≡ usn +ℤ pos 1 → pos 0 ≤ℤ usn → (number : ℤ) → number ≡ usn → IsGiven more number
given_now usn more is low number same = record { low = omega (arith, ints, low, same); high = omega (arith, ints, is, same) }

pub all_some : (P : Row → Type 0) → ((row : Row) → P row) → (o : Option Row) → IfSome o P
all_some P all None = tt
all_some P all (Some x) = all x

given_received : (usn more : ℤ) (at from : RowsByName) → more ≡ usn +ℤ pos 1 → pos 0 ≤ℤ usn → (name : Name) → IfSome (at name) (λ (row : Row). IsGiven usn (usn_of row))
    → IfSome (received_under Server usn at from name) (λ (row : Row). IsGiven more (usn_of row))
given_received usn more at from is low name given =
    each_by (λ (row : Row). IsGiven more (usn_of row)) Server usn (at name) (grave_under at name) (from name) (grave_under from name)
    (if_weaker (λ (row : Row). IsGiven usn (usn_of row)) (λ (row : Row). IsGiven more (usn_of row)) (λ row h. given_more usn more is (usn_of row) h) (at name) given)
    (all_some (λ (row : Row). IsGiven more (usn_of (with_usn row usn))) (λ row. given_now usn more is low (usn_of (with_usn row usn)) (usn_of-with_usn row usn)) (from name))

tags_given : (usn more : ℤ) (came : Bool) (before after : Option ℤ) → more ≡ usn +ℤ pos 1 → pos 0 ≤ℤ usn → IfSome before (IsGiven usn)
    → after ≡ option_or before (if came then Some usn else None) → IfSome after (IsGiven more)
tags_given usn more came (Some n) after is low given now = subst (λ (o : Option ℤ). IfSome o (IsGiven more)) (sym now) (given_more usn more is n given)
tags_given usn more true None after is low given now = subst (λ (o : Option ℤ). IfSome o (IsGiven more)) (sym now) (given_now usn more is low usn refl)
tags_given usn more false None after is low given now = subst (λ (o : Option ℤ). IfSome o (IsGiven more)) (sym now) tt

pub commit_given : (came : Received) (s t : Collection) → IsCommitOf came s t → pos 0 ≤ℤ s.head.usn → AreNumbered IsGiven s
    → AreNumbered IsGiven t
commit_given came s t commit low given = record {
  rows = λ name. subst (λ (at : RowsByName). IfSome (at name) (λ (row : Row). IsGiven t.head.usn (usn_of row))) (sym (commit_under came s t commit))
      (given_received s.head.usn t.head.usn (row_under s) (newest_in Server came.rows) commit.usn low name (given.rows name));
  tags = λ name. tags_given s.head.usn t.head.usn (has_name came.tags name) (tag_usn s.head.tags name) (tag_usn t.head.tags name) commit.usn low (given.tags name) (commit_tag came s t commit name);
}

-- ---- lawful
settings_in_range : (came : Option Settings) (own : Settings) (P : Settings → Type 0) → IfSome came P → P own → P (unwrap_or came own)
settings_in_range None own P came mine = mine
settings_in_range (Some given) own P came mine = came

head_in_range : (came : Received) (s t : Collection) → IsCommitOf came s t → IsInRange came s t.head.moment → IsHeadInRange s.head → IsHeadInRange t.head
head_in_range came s t commit fits own =
    let low : pos 0 ≤ℤ s.head.usn = own.usn.low in
    let low_number : negsuc 0 ≤ℤ s.head.usn = omega (arith, ints, low) in
    let high_number : s.head.usn ≤ℤ last_usn = omega (arith, ints, own.usn.high) in
    record {
      crt = subst (λ (settings : Settings). IsWithin (pos 0) last_stamp settings.crt) (sym commit.settings)
          (settings_in_range came.settings (settings_of s.head) (λ settings. IsWithin (pos 0) last_stamp settings.crt) fits.crt own.crt);
      moment = fits.moment;
      schema = subst IsMoment (sym commit.schema) own.schema;
      usn = record { low = omega (arith, ints, commit.usn, low); high = omega (arith, ints, commit.usn, fits.usn) };
      last_sync = subst IsMoment (sym commit.last_sync) own.last_sync;
      conf = subst (λ (settings : Settings). IsConfInRange settings.conf) (sym commit.settings)
          (settings_in_range came.settings (settings_of s.head) (λ settings. IsConfInRange settings.conf) fits.conf own.conf);
      tags = subst (All IsTagInRange) (sym commit.tags)
          (tags_stay_in_range s.head.usn came.tags s.head.tags fits.tags (record { low = low_number; high = high_number }) own.tags);
      ascending = subst (λ (tags : List Tag). IsStrictlySortedBy (slice_cmp nat_cmp) (tag_names tags)) (sym commit.tags)
          (tags_stay_ordered s.head.usn came.tags s.head.tags own.ascending);
    }

-- a commit of what is in its ranges keeps what a server keeps of its collection
pub commits_stay_lawful : (came : Received) (s t : Collection) → IsCommitOf came s t → IsInRange came s t.head.moment → IsCommitted s → IsCommitted t
commits_stay_lawful came s t commit fits kept =
    let now = sym (commit_under came s t commit) in
    record {
      named = subst AreNamed now (named_received Server s.head.usn (row_under s) (newest_in Server came.rows) kept.named (newest_named Server came.rows));
      checked = subst AreChecked now (checked_received Server s.head.usn (row_under s) (newest_in Server came.rows) kept.checked
          (newest_checked Server s.head.usn came.rows (number_within s.head.usn kept.head.usn.low kept.head.usn.high) fits.rows));
      single = subst IsSingle now (single_received Server s.head.usn (row_under s) (newest_in Server came.rows) kept.single);
      given = commit_given came s t commit kept.head.usn.low kept.given;
      head = head_in_range came s t commit fits kept.head;
    }

-- ---- a commit keeps links
-- what a device has taken of a server's row it still has
taken_kept : (least usn : ℤ) (x g y h r k : Option Row) → least ≤ℤ usn → HasTaken least x g y → HasTaken least x g (received_by Server usn y h r k)
taken_kept least usn x g y h r (Some k) up taken = tt
taken_kept least usn x g y (Some h) r None up taken = taken
taken_kept least usn x g None None None None up taken = tt
taken_kept least usn x g None None (Some r) None up taken = λ below. absurd (omega (arith, ints, up, below, usn_of-with_usn r usn))
taken_kept least usn x g (Some y) None None None up taken = taken
taken_kept least usn x g (Some y) None (Some r) None up taken =
    elim (int_lt (stamp_of y) (stamp_of r)) as (λ s. HasTaken least x g (if s then Some (with_usn r usn) else Some y)) [
      | true ↦ λ below. absurd (omega (arith, ints, up, below, usn_of-with_usn r usn))
      | false ↦ taken
    ]

-- what the server accounts for of a device's row
abbrev Accounts : ℤ → Row → Option Row → Option Row → Type 0
Accounts least x y h = IsHeldLike x y ⊎ IsThere y (IsNewerFrom least x) ⊎ IsThere h (λ grave. least ≤ℤ usn_of grave)

newer_now : (least usn : ℤ) (x y r : Row) → least ≤ℤ usn → int_lt (stamp_of y) (stamp_of r) ≡ true → Accounts least x (Some y) None
    → Accounts least x (Some (with_usn r usn)) None
newer_now least usn x y r up newer accounts =
    let from : least ≤ℤ usn_of (with_usn r usn) = omega (arith, ints, up, usn_of-with_usn r usn) in
    let stamp : stamp_of (with_usn r usn) ≡ stamp_of r = stamp_of-with_usn r usn in
    elim accounts [
      | inl like ↦ let one : stamp_of x ≡ stamp_of y = like_stamp x y like in inr (inl (record { newer = omega (arith, ints, one, stamp, newer); from = from }))
      | inr (inl held) ↦ inr (inl (record { newer = omega (arith, ints, held.newer, stamp, newer); from = from }))
      | inr (inr none) ↦ absurd none
    ]

only_grave : (least : ℤ) (x h : Row) → Accounts least x None (Some h) → least ≤ℤ usn_of h
only_grave least x h accounts = elim accounts [ inl none ↦ absurd none | inr (inl none) ↦ absurd none | inr (inr from) ↦ from ]

known_cell : (least usn : ℤ) (x : Row) (y h r k : Option Row) → least ≤ℤ usn → (is_some h ≡ true → y ≡ None) → Accounts least x y h
    → Accounts least x (received_by Server usn y h r k) (received Server usn h k)
known_cell least usn x y None r (Some k) up single accounts = inr (inr (omega (arith, ints, up, usn_of-with_usn k usn)))
known_cell least usn x y (Some h) r (Some k) up single accounts =
    let grave : least ≤ℤ usn_of h = only_grave least x h (subst (λ (o : Option Row). Accounts least x o (Some h)) (single refl) accounts) in
    elim (int_lt (stamp_of h) (stamp_of k)) as (λ s. Accounts least x None (if s then Some (with_usn k usn) else Some h)) [
      | true ↦ inr (inr (omega (arith, ints, up, usn_of-with_usn k usn)))
      | false ↦ inr (inr grave)
    ]
known_cell least usn x y (Some h) r None up single accounts = accounts
known_cell least usn x None None None None up single accounts = accounts
known_cell least usn x None None (Some r) None up single accounts = elim accounts [ inl none ↦ absurd none | inr (inl none) ↦ absurd none | inr (inr none) ↦ absurd none ]
known_cell least usn x (Some y) None None None up single accounts = accounts
known_cell least usn x (Some y) None (Some r) None up single accounts =
    elim (int_lt (stamp_of y) (stamp_of r)) as (λ s. int_lt (stamp_of y) (stamp_of r) ≡ s → Accounts least x (if s then Some (with_usn r usn) else Some y) None) [
      | true ↦ λ newer. newer_now least usn x y r up newer accounts
      | false ↦ λ newer. accounts
    ] refl

-- ---- reviews and graves
pub no_stamps : (row : Row) → has_stamps (name_of row).table ≡ false → stamp_of row ≡ pos 0
no_stamps (rows.Note n) none = grind (arith, none)
no_stamps (rows.Card c) none = grind (arith, none)
no_stamps (rows.Review r) none = refl
no_stamps (rows.NoteType t) none = grind (arith, none)
no_stamps (rows.Deck d) none = grind (arith, none)
no_stamps (rows.Options o) none = grind (arith, none)
no_stamps (rows.Grave g) none = refl

ungraved : (table : Table) → has_stamps table ≡ false → graves_of table ≡ None
ungraved tables.Note none = grind (arith, none)
ungraved tables.Card none = grind (arith, none)
ungraved tables.NoteType none = grind (arith, none)
ungraved tables.Deck none = grind (arith, none)
ungraved tables.Options none = grind (arith, none)
ungraved tables.Review none = refl
ungraved tables.NoteGrave none = refl
ungraved tables.CardGrave none = refl
ungraved tables.DeckGrave none = refl

pub unstamped_graves : (table graves : Table) → graves_of table ≡ Some graves → has_stamps graves ≡ false
unstamped_graves tables.Note graves is = sym (ap (λ o. option_map_or has_stamps o false) is)
unstamped_graves tables.Card graves is = sym (ap (λ o. option_map_or has_stamps o false) is)
unstamped_graves tables.Deck graves is = sym (ap (λ o. option_map_or has_stamps o false) is)
unstamped_graves tables.Review graves is = grind (arith, is)
unstamped_graves tables.NoteType graves is = grind (arith, is)
unstamped_graves tables.Options graves is = grind (arith, is)
unstamped_graves tables.NoteGrave graves is = grind (arith, is)
unstamped_graves tables.CardGrave graves is = grind (arith, is)
unstamped_graves tables.DeckGrave graves is = grind (arith, is)

-- what stands under the name of a table without stamps has the stamp 0
pub unstamped : (name : Name) (o : Option Row) → has_stamps name.table ≡ false → IfSome o (λ (row : Row). name_of row ≡ name)
    → IfSome o (λ (row : Row). stamp_of row ≡ pos 0)
unstamped name o none named = if_weaker (λ (row : Row). name_of row ≡ name) (λ (row : Row). stamp_of row ≡ pos 0) (λ row is. no_stamps row (ap (λ (n : Name). has_stamps n.table) is ∙ none)) o named

-- of reviews and graves what a server holds stays
pub stays_unstamped : (usn : ℤ) (y : Row) (r : Option Row) → stamp_of y ≡ pos 0 → IfSome r (λ (row : Row). stamp_of row ≡ pos 0) → received Server usn (Some y) r ≡ Some y
stays_unstamped usn y None one other = refl
stays_unstamped usn y (Some r) one other = let not_newer : int_lt (stamp_of y) (stamp_of r) ≡ false = grind (arith, ints, one, other) in rw not_newer refl

grave_stamp : (row : Row) → is_some (buried_of row) ≡ true → stamp_of row ≡ pos 0
grave_stamp (rows.Note n) grave = grind (arith, grave)
grave_stamp (rows.Card c) grave = grind (arith, grave)
grave_stamp (rows.Review r) grave = refl
grave_stamp (rows.NoteType t) grave = grind (arith, grave)
grave_stamp (rows.Deck d) grave = grind (arith, grave)
grave_stamp (rows.Options o) grave = grind (arith, grave)
grave_stamp (rows.Grave g) grave = refl

no_grave_beats : (side : Side) (y r : Row) → is_some (buried_of y) ≡ true → is_some (buried_of r) ≡ true → beats side (stamp_of y) r ≡ false
no_grave_beats Server y r one other = let mine = grave_stamp y one in let theirs = grave_stamp r other in grind (arith, ints, mine, theirs)
no_grave_beats Device y r one other = rw other refl

-- of graves what is held stays on either side
pub grave_stays : (side : Side) (usn : ℤ) (y : Row) (r : Option Row) → is_some (buried_of y) ≡ true → IfSome r (λ (row : Row). name_of row ≡ name_of y) → received side usn (Some y) r ≡ Some y
grave_stays side usn y None grave same = refl
grave_stays side usn y (Some r) grave same = let no : beats side (stamp_of y) r ≡ false = no_grave_beats side y r grave (graves_alike r y same ∙ grave) in rw no refl

shared_kept : (least usn : ℤ) (x y r : Option Row) → least ≤ℤ usn → IfSome y (λ (row : Row). stamp_of row ≡ pos 0) → IfSome r (λ (row : Row). stamp_of row ≡ pos 0)
    → IsShared least x y → IsShared least x (received Server usn y r)
shared_kept least usn x None None up one other shared = shared
shared_kept least usn x None (Some r) up one other shared = record {
  sent = if_weaker (λ (row : Row). IsTrue (is_settled row) → ⊥) (λ (row : Row). IsTrue (is_settled row) → IsHeldLike row (Some (with_usn r usn))) (λ row never sent. absurd (never sent)) x shared.sent;
  came = λ below. absurd (omega (arith, ints, up, below, usn_of-with_usn r usn));
}
shared_kept least usn x (Some y) r up one other shared = subst (IsShared least x) (sym (stays_unstamped usn y r one other)) shared

tag_kept : (least usn : ℤ) (x y after : Option ℤ) (came : Bool) → least ≤ℤ usn → IsTagShared least x y → after ≡ option_or y (if came then Some usn else None)
    → IsTagShared least x after
tag_kept least usn x (Some n) after came up shared now = subst (IsTagShared least x) (sym now) shared
tag_kept least usn x None after false up shared now = subst (IsTagShared least x) (sym now) shared
tag_kept least usn x None after true up shared now = subst (IsTagShared least x) (sym now) (record { sent = tag_there x; came = λ below. absurd (omega (arith, ints, up, below)) })
  where
    tag_there : (x : Option ℤ) → IfSome x (λ number. number ≢ negsuc 0 → IsTrue (is_some (Some usn)))
    tag_there None = tt
    tag_there (Some number) = λ sent. refl

-- ---- links
grave_named : (at : RowsByName) (name : Name) (graves : Table) → AreNamed at
    → IfSome (at (record { table = graves; id = name.id })) (λ (row : Row). name_of row ≡ record { table = graves; id = name.id })
grave_named at name graves named = when_some (λ (row : Row). name_of row ≡ record { table = graves; id = name.id }) (at (record { table = graves; id = name.id })) (named (record { table = graves; id = name.id }))

known_received : (least usn : ℤ) (x : Option Row) (at from : RowsByName) (name : Name) → least ≤ℤ usn → IsSingle at → IsKnown least x (at name) (grave_under at name)
    → IsKnown least x (received_under Server usn at from name) (grave_under (received_under Server usn at from) name)
known_received least usn None at from name up single known = tt
known_received least usn (Some x) at from name up single known = λ sent.
    subst (λ (h : Option Row). Accounts least x (received_under Server usn at from name) h) (sym (grave_received Server usn at from name (graves_of name.table) refl))
    (known_cell least usn x (at name) (grave_under at name) (from name) (grave_under from name) up (single name) (known sent))

shared_received : (least usn : ℤ) (x : Option Row) (at from : RowsByName) (name : Name) → least ≤ℤ usn → has_stamps name.table ≡ false → AreNamed at
    → IfSome (from name) (λ (row : Row). name_of row ≡ name) → IsShared least x (at name) → IsShared least x (received_under Server usn at from name)
shared_received least usn x at from name up none named came shared =
    let no_grave : graves_of name.table ≡ None = ungraved name.table none in
    subst (λ (o : Option Table). IsShared least x (received_by Server usn (at name) (grave_in at name o) (from name) (grave_in from name o))) (sym no_grave)
    (subst (IsShared least x) (received_alone usn (at name) (from name))
    (shared_kept least usn x (at name) (from name) up
    (unstamped name (at name) none (when_some (λ (row : Row). name_of row ≡ name) (at name) (named name)))
    (unstamped name (from name) none came) shared))
  where
    received_alone : (usn : ℤ) (x y : Option Row) → received Server usn x y ≡ received_by Server usn x None y None
    received_alone usn x y = refl

parts_kept : (came : Received) (c s t : Collection) → IsCommitOf came s t → AreNamed (row_under s) → pos 0 ≤ℤ s.head.usn
    → AreLinkedParts c s → AreLinkedParts c t
parts_kept came c s t commit named low linked =
    let now = sym (commit_under came s t commit) in
    let from : RowsByName = newest_in Server came.rows in
    record {
      usn = omega (arith, ints, commit.usn, linked.usn);
      given = commit_given came s t commit low linked.given;
      own = linked.own;
      taken = λ name stamps. subst (λ (at : RowsByName). HasTaken c.head.usn (row_under c name) (grave_under (row_under c) name) (at name)) now
          (taken_kept c.head.usn s.head.usn (row_under c name) (grave_under (row_under c) name) (row_under s name) (grave_under (row_under s) name) (from name) (grave_under from name) linked.usn (linked.taken name stamps));
      known = λ name stamps. subst (λ (at : RowsByName). IsKnown c.head.usn (row_under c name) (at name) (grave_under at name)) now
          (known_received c.head.usn s.head.usn (row_under c name) (row_under s) from name linked.usn linked.single (linked.known name stamps));
      shared = λ name none. subst (λ (at : RowsByName). IsShared c.head.usn (row_under c name) (at name)) now
          (shared_received c.head.usn s.head.usn (row_under c name) (row_under s) from name linked.usn none named (newest_named Server came.rows name) (linked.shared name none));
      tags = λ name. tag_kept c.head.usn s.head.usn (tag_usn c.head.tags name) (tag_usn s.head.tags name) (tag_usn t.head.tags name) (has_name came.tags name) linked.usn (linked.tags name) (commit_tag came s t commit name);
      own_single = linked.own_single;
      single = subst IsSingle now (single_received Server s.head.usn (row_under s) from linked.single);
      later = λ same. absurd (omega (arith, ints, commit.usn, linked.usn, same));
      settings = λ same _. absurd (omega (arith, ints, commit.usn, linked.usn, same));
    }

-- a commit keeps every device linked
pub commits_keep_links : (came : Received) (c s t : Collection) → IsCommitOf came s t → AreNamed (row_under s) → pos 0 ≤ℤ s.head.usn
    → AreLinked c s → AreLinked c t
commits_keep_links came c s t commit named low (inl differ) = inl (λ same. differ (same ∙ commit.schema))
commits_keep_links came c s t commit named low (inr linked) = inr (parts_kept came c s t commit named low linked)

-- ---- a commit and what fits
number_stays : (least usn : ℤ) (x y : Option ℤ) (came : Bool) → least ≤ℤ usn → y ≡ option_or x (if came then Some usn else None) → IfSome x (λ number. least ≤ℤ number) → IfSome y (λ number. least ≤ℤ number)
number_stays least usn (Some number) y came up is own = subst (λ (o : Option ℤ). IfSome o (λ number. least ≤ℤ number)) (sym is) own
number_stays least usn None y true up is own = subst (λ (o : Option ℤ). IfSome o (λ number. least ≤ℤ number)) (sym is) up
number_stays least usn None y false up is own = subst (λ (o : Option ℤ). IfSome o (λ number. least ≤ℤ number)) (sym is) tt

-- what holds of the rows that the server has, and of each with a number of at least so much, holds of those that it has then
row_stays : (P : Row → Type 0) (usn : ℤ) (at from : RowsByName) (name : Name) → ((row : Row) → usn_of row ≡ usn → P row) → IfSome (at name) P → IfSome (received_under Server usn at from name) P
row_stays P usn at from name fits own =
    each_by P Server usn (at name) (grave_under at name) (from name) (grave_under from name) own
    (all_some (λ row. P (with_usn row usn)) (λ row. fits (with_usn row usn) (usn_of-with_usn row usn)) (from name))

fit_parts : (came : Received) (u : ℤ) (step : Reversal) (s t : Collection) → IsCommitOf came s t → StepFitsParts u step s → StepFitsParts u step t
fit_parts came u step s t commit fits =
    let now = sym (commit_under came s t commit) in
    record {
      usn = omega (arith, ints, commit.usn, fits.usn);
      added = λ name is. subst (λ (at : RowsByName). IfSome (at name) (λ row. u ≤ℤ usn_of row)) now
          (row_stays (λ row. u ≤ℤ usn_of row) s.head.usn (row_under s) (newest_in Server came.rows) name (λ row is. omega (arith, ints, is, fits.usn)) (fits.added name is));
      tags = λ name lacks. number_stays u s.head.usn (tag_usn s.head.tags name) (tag_usn t.head.tags name) (has_name came.tags name) fits.usn (commit_tag came s t commit name) (fits.tags name lacks);
      older = λ name before is. subst (λ (at : RowsByName). IfSome (at name) (λ row. usn_of row <ℤ u → stamp_of row ≤ℤ stamp_of before)) now
          (row_stays (λ row. usn_of row <ℤ u → stamp_of row ≤ℤ stamp_of before) s.head.usn (row_under s) (newest_in Server came.rows) name
          (λ row is below. absurd (omega (arith, ints, is, fits.usn, below))) (fits.older name before is));
    }

-- a step that fits a server's collection still does after the server's commit
pub commits_keep_fits : (came : Received) (c s t : Collection) (step : Reversal) → IsCommitOf came s t → StepFits c step s → StepFits c step t
commits_keep_fits came c s t step commit (inl differ) = inl (λ same. differ (same ∙ commit.schema))
commits_keep_fits came c s t step commit (inr fits) = inr (fit_parts came c.head.usn step s t commit fits)
