-- What an exchange of a device with a server leaves: the join on both sides, linked.
use Rattle.ak_keep.specs.Collections.{Collection, is_pending, is_settled, is_wanted, Rows}
use Rattle.ak_base.specs.Tables.{graves_of, buried_in, has_stamps}
use Rattle.std.specs.Prelude.{◌≡◌, ℤ, pos, negsuc, ◌+ℤ◌, ◌≤ℤ◌, ◌<ℤ◌, Bool, true, false, not, ◌||◌, if◌then◌else◌, int_lt, IsTrue, IfSome, ℕ, ◌==◌, find, List, [], ◌∷◌, Option, Some, None, is_some}
use Rattle.std.proofs.lemmas.Option.{none-some}
use Rattle.std.proofs.Common.{refl, sym, ap, subst, ◌∙◌, inl, inr, arith}
use Rattle.std.proofs.Math.Path.{fun_ext}
use Rattle.std.proofs.lemmas.Int.{ints}
use Rattle.std.specs.Cmp.{signed_Decides}
use Rattle.std.specs.Option.{option_map, option_or, unwrap_or}
use Rattle.std.specs.Ordering.{int_eq}
use Rattle.ak_base.proofs.Burials.{graves_exactly}
use Rattle.ak_base.specs.Contents.{same_content}
use Rattle.ak_base.specs.Rows.{buried_of, name_of, usn_of, with_usn}
use Rattle.ak_base.specs.declared.names.Name.{Name}
use Rattle.ak_base.specs.declared.names.Table.{Table}
use Rattle.ak_base.specs.declared.rows.Row.{Row}
use Rattle.ak_keep.specs.declared.keepers.Wanted.{Wanted}
use Rattle.ak_keep.specs.declared.keepers.Wanted.TheVariants.{Unsent, From}
use Rattle.ak_merge.specs.Commits.{Settings, Received, settings_of}
use Rattle.ak_merge.specs.Exchanges.{tags_from, wanted_under, AreOf, IsSent, is_unsent_tag, is_tag_from, settled, settled_number, settled_tags, MayExchange, ComesToServer, ComesToDevice, IsServerHalf, IsDeviceHalf, HoldsJoin, IsExchange, AreExchanged}
use Rattle.ak_merge.specs.Tags.{tags_taken}
use Rattle.ak_merge.specs.Takings.{IsListOf, all_taken}
use Rattle.ak_merge.specs.declared.sides.Side.{Side}
use Rattle.ak_merge.specs.declared.sides.Side.TheVariants.{Device, Server}
use Rattle.ak_merge.proofs.TagLaws.{tags_are_united}
use Rattle.ak_base.specs.declared.heads.Head.{Head}
use Rattle.ak_base.specs.declared.heads.Tag.{Tag}
use Rattle.std.specs.FinMap.{get}
use Rattle.std.specs.Cmp.Lexicographic.{pointwise}
use Rattle.ak_keep.specs.Graves.{RowsByName, grave_under}
use Rattle.ak_merge.specs.Holdings.{row_under, AreNamed, IsSingle, tag_usn, content_of, same_held, SameContent}
use Rattle.ak_merge.specs.Joins.{joined_under, newest_head, join}
use Rattle.ak_merge.specs.Links.{IsGiven, IsOwn, AreNumbered, IsHeldLike, HasTaken, IsKnown, IsShared, IsTagShared, AreLinkedParts}
use Rattle.ak_base.proofs.RowFacts.{name_of-with_usn, usn_of-with_usn, same-with_usn, same-itself, same-turned, same-through}
use Rattle.ak_merge.proofs.HeldFacts.{held-alike, held-turned, held-through}
use Rattle.ak_merge.proofs.TakingJoins.{one_grave}
use Rattle.ak_merge.proofs.TakingLaws.{received, received_under, grave_by_table, grave_in, if_weaker, newest_in, newest_named, all_taken_at}
use Rattle.ak_merge.proofs.CommitLaws.{of_some, named_received, when_some, each_by, all_some, grave_received, grave_stays, single_received, commit_under, commit_tag, given_more, given_now, commit_given, unstamped_graves}
use Rattle.ak_merge.proofs.ExchangeCells.{only_wanted, is_only, wanted_named, sent_each, sent_whole, ServerMeets, DeviceMeets, server_agrees, device_agrees}

-- ---- an exchange: under each name
only_some : (want : Wanted) (o : Option Row) (row : Row) → only_wanted want o ≡ Some row → is_some o ≡ true
only_some want None row is = absurd (none-some row is)
only_some want (Some x) row is = refl

-- a grave that was sent is held
sent_graves : (side : Side) (want : Wanted) (sent : List Row) (at : RowsByName) (name : Name) (graves : Option Table) → AreOf (wanted_under want at) sent
    → IfSome (grave_in (newest_in side sent) name graves) (λ row. is_some (grave_in at name graves) ≡ true)
sent_graves side want sent at name None each = tt
sent_graves side want sent at name (Some graves) each =
    let grave : Name = record { table = graves; id = name.id } in
    if_weaker (λ row. wanted_under want at grave ≡ Some row) (λ row. is_some (at grave) ≡ true) (λ row is. only_some want (at grave) row is) (newest_in side sent grave) (sent_each side sent (wanted_under want at) grave each)

-- each grave that is wanted was sent to the other side, since graves stay
all_graves : (side other : Side) (want : Wanted) (usn : ℤ) (sent : List Row) (at from : RowsByName) (name : Name) (graves : Option Table) → graves_of name.table ≡ graves
    → IsSent sent (wanted_under want at) (received_under side usn at from) → AreNamed at → ((name : Name) → IfSome (from name) (λ row. name_of row ≡ name))
    → IfSome (grave_in at name graves) (λ row. IsTrue (is_wanted want row) → is_some (grave_in (newest_in other sent) name graves) ≡ true)
all_graves side other want usn sent at from name None is gave named bears = tt
all_graves side other want usn sent at from name (Some graves) is gave named bears =
    let grave : Name = record { table = graves; id = name.id } in
    when_some (λ row. IsTrue (is_wanted want row) → is_some (newest_in other sent grave) ≡ true) (at grave) (λ row held meets.
    let wanted : wanted_under want at grave ≡ Some row = ap (only_wanted want) held ∙ is_only want row meets in
    let own : name_of row ≡ grave = named grave row held in
    let buries : is_some (buried_of row) ≡ true = grave_by_table row ∙ ap (λ (n : Name). is_some (buried_in n.table)) own ∙ ap is_some ((graves_exactly name.table graves).0 is) in
    let stays : received_under side usn at from grave ≡ Some row =
    grave_received side usn at from name (Some graves) is ∙ ap (λ o. received side usn o (from grave)) held
    ∙ grave_stays side usn row (from grave) buries (if_weaker (λ r. name_of r ≡ grave) (λ r. name_of r ≡ name_of row) (λ r bears. bears ∙ sym own) (from grave) (bears grave)) in
    ap is_some (sent_whole other sent (wanted_under want at) (received_under side usn at from) grave row gave (wanted_named want at named) wanted stays))

like_held : (x : Row) (o : Option Row) → IsHeldLike x o → is_some o ≡ true
like_held x None like = absurd like
like_held x (Some y) like = refl

graves_shared : (c s : Collection) (name : Name) (graves : Option Table) → graves_of name.table ≡ graves → AreLinkedParts c s
    → IfSome (grave_in (row_under c) name graves) (λ row. IsTrue (is_settled row) → is_some (grave_in (row_under s) name graves) ≡ true)
graves_shared c s name None is linked = tt
graves_shared c s name (Some graves) is linked =
    let grave : Name = record { table = graves; id = name.id } in
    if_weaker (λ row. IsTrue (is_settled row) → IsHeldLike row (row_under s grave)) (λ row. IsTrue (is_settled row) → is_some (row_under s grave) ≡ true)
    (λ row like settled. like_held row (row_under s grave) (like settled)) (row_under c grave)
    (linked.shared grave (unstamped_graves name.table graves is)).sent

graves_taken : (c s : Collection) (name : Name) (graves : Option Table) → graves_of name.table ≡ graves → AreLinkedParts c s
    → IfSome (grave_in (row_under s) name graves) (λ row. usn_of row <ℤ c.head.usn → is_some (grave_in (row_under c) name graves) ≡ true)
graves_taken c s name None is linked = tt
graves_taken c s name (Some graves) is linked =
    let grave : Name = record { table = graves; id = name.id } in
    if_weaker (λ row. usn_of row <ℤ c.head.usn → IsHeldLike row (row_under c grave)) (λ row. usn_of row <ℤ c.head.usn → is_some (row_under c grave) ≡ true)
    (λ row like below. like_held row (row_under c grave) (like below)) (row_under s grave)
    (linked.shared grave (unstamped_graves name.table graves is)).came

-- what is shared was taken, and is known
shared_taken : (usn : ℤ) (x g y : Option Row) → IsShared usn x y → HasTaken usn x g y
shared_taken usn x g None shared = tt
shared_taken usn x g (Some y) shared = λ below. inl (shared.came below)

shared_known : (usn : ℤ) (x y h : Option Row) → IsShared usn x y → IsKnown usn x y h
shared_known usn None y h shared = tt
shared_known usn (Some x) y h shared = λ settled. inl (shared.sent settled)

taken_each : (c s : Collection) (name : Name) → AreLinkedParts c s → HasTaken c.head.usn (row_under c name) (grave_under (row_under c) name) (row_under s name)
taken_each c s name linked =
    elim (has_stamps name.table) as (λ b. has_stamps name.table ≡ b → HasTaken c.head.usn (row_under c name) (grave_under (row_under c) name) (row_under s name)) [
      | true ↦ λ is. linked.taken name is
      | false ↦ λ is. shared_taken c.head.usn (row_under c name) (grave_under (row_under c) name) (row_under s name) (linked.shared name is)
    ] refl

known_each : (c s : Collection) (name : Name) → AreLinkedParts c s → IsKnown c.head.usn (row_under c name) (row_under s name) (grave_under (row_under s) name)
known_each c s name linked =
    elim (has_stamps name.table) as (λ b. has_stamps name.table ≡ b → IsKnown c.head.usn (row_under c name) (row_under s name) (grave_under (row_under s) name)) [
      | true ↦ λ is. linked.known name is
      | false ↦ λ is. shared_known c.head.usn (row_under c name) (row_under s name) (grave_under (row_under s) name) (linked.shared name is)
    ] refl

server_meets : (usn : ℤ) (got sent : List Row) (c s : Collection) (name : Name) → AreLinkedParts c s → AreNamed (row_under c)
    → AreOf (wanted_under (From c.head.usn) (row_under s)) got → IsSent sent (wanted_under Unsent (row_under c)) (received_under Device usn (row_under c) (newest_in Device got))
    → ServerMeets c.head.usn usn (row_under c name) (grave_under (row_under c) name) (row_under s name) (grave_under (row_under s) name)
    (newest_in Device got name) (grave_under (newest_in Device got) name) (newest_in Server sent name) (grave_under (newest_in Server sent) name)
server_meets usn got sent c s name linked named gives sends =
    let after : RowsByName = received_under Device usn (row_under c) (newest_in Device got) in
    record {
      known = known_each c s name linked;
      single = linked.single name;
      grave_sent = graves_shared c s name (graves_of name.table) refl linked;
      came = sent_each Device got (wanted_under (From c.head.usn) (row_under s)) name gives;
      sent = sent_each Server sent (wanted_under Unsent (row_under c)) name sends.each;
      sent_all = λ row is stays. sent_whole Server sent (wanted_under Unsent (row_under c)) after name row sends (wanted_named Unsent (row_under c) named) is stays;
      graves_came = sent_graves Device (From c.head.usn) got (row_under s) name (graves_of name.table) gives;
      graves_sent = sent_graves Server Unsent sent (row_under c) name (graves_of name.table) sends.each;
      graves_sent_all = all_graves Device Server Unsent usn sent (row_under c) (newest_in Device got) name (graves_of name.table) refl sends named (newest_named Device got);
    }

device_meets : (usn : ℤ) (got sent : List Row) (c s : Collection) (name : Name) → MayExchange c s
    → AreOf (wanted_under Unsent (row_under c)) sent → IsSent got (wanted_under (From c.head.usn) (row_under s)) (received_under Server usn (row_under s) (newest_in Server sent))
    → DeviceMeets c.head.usn usn (row_under c name) (grave_under (row_under c) name) (row_under s name) (grave_under (row_under s) name)
    (newest_in Device got name) (grave_under (newest_in Device got) name) (newest_in Server sent name) (grave_under (newest_in Server sent) name)
device_meets usn got sent c s name may sends gives =
    let after : RowsByName = received_under Server usn (row_under s) (newest_in Server sent) in
    record {
      taken = taken_each c s name may.linked;
      own_single = may.linked.own_single name;
      one = one_grave (row_under c) (row_under s) name may.named may.their_named may.checked may.their_checked;
      grave_came = graves_taken c s name (graves_of name.table) refl may.linked;
      came = sent_each Device got (wanted_under (From c.head.usn) (row_under s)) name gives.each;
      came_all = λ row is stays. sent_whole Device got (wanted_under (From c.head.usn) (row_under s)) after name row gives (wanted_named (From c.head.usn) (row_under s) may.their_named) is stays;
      sent = sent_each Server sent (wanted_under Unsent (row_under c)) name sends;
      graves_came = sent_graves Device (From c.head.usn) got (row_under s) name (graves_of name.table) gives.each;
      graves_came_all = all_graves Server Device (From c.head.usn) usn got (row_under s) (newest_in Server sent) name (graves_of name.table) refl gives may.their_named (newest_named Server sent);
      graves_sent = sent_graves Server Unsent sent (row_under c) name (graves_of name.table) sends;
    }

-- ---- the rows of one side
-- what the server holds under each name once it took what the device sent is the join's
pub server_rows_join : (usn : ℤ) (got sent : List Row) (c s : Collection) → ComesToServer usn got sent c s
    → (name : Name) → IsTrue (same_held (get (all_taken Server usn sent s.rows) name) (joined_under (row_under c) (row_under s) name))
server_rows_join usn got sent c s given name =
    ap (λ o. same_held o (joined_under (row_under c) (row_under s) name)) (all_taken_at Server usn sent s.rows name)
    ∙ server_agrees c.head.usn usn _ _ _ _ _ _ _ _ (server_meets usn got sent c s name given.linked given.named given.gives (subst (IsSent sent (wanted_under Unsent (row_under c))) (fun_ext (all_taken_at Device usn got c.rows)) given.sends))

-- and so is what the device holds once it took what came
pub device_rows_join : (usn : ℤ) (got sent : List Row) (c s : Collection) → ComesToDevice usn got sent c s
    → (name : Name) → IsTrue (same_held (get (all_taken Device usn got c.rows) name) (joined_under (row_under c) (row_under s) name))
device_rows_join usn got sent c s given name =
    ap (λ o. same_held o (joined_under (row_under c) (row_under s) name)) (all_taken_at Device usn got c.rows name)
    ∙ device_agrees c.head.usn usn _ _ _ _ _ _ _ _
    (device_meets usn got sent c s name given.may given.sends (subst (IsSent got (wanted_under (From c.head.usn) (row_under s))) (fun_ext (all_taken_at Server usn sent s.rows)) given.gives))

-- ---- an exchange: the rows of both
settled_like : (usn : ℤ) (x : Row) → IsTrue (same_content (settled usn x) x)
settled_like usn x = elim (is_pending x) as (λ b. IsTrue (same_content (if b then with_usn x usn else x) x)) [ true ↦ same-with_usn x usn | false ↦ same-itself x ]

settled_held : (usn : ℤ) (o j : Option Row) → IsTrue (same_held o j) → IsTrue (same_held (option_map (settled usn) o) j)
settled_held usn None j same = same
settled_held usn (Some x) None same = same
settled_held usn (Some x) (Some y) same = same-through (settled usn x) x y (settled_like usn x) same

-- and it still is once it is settled
pub settled_rows_join : (usn : ℤ) (got sent : List Row) (c s : Collection) (now : RowsByName) → ComesToDevice usn got sent c s
    → ((name : Name) → now name ≡ option_map (settled usn) (get (all_taken Device usn got c.rows) name))
    → (name : Name) → IsTrue (same_held (now name) (joined_under (row_under c) (row_under s) name))
settled_rows_join usn got sent c s now given settles name =
    ap (λ o. same_held o (joined_under (row_under c) (row_under s) name)) (settles name)
    ∙ settled_held usn (get (all_taken Device usn got c.rows) name) (joined_under (row_under c) (row_under s) name) (device_rows_join usn got sent c s given name)

device_under : (got sent : Received) (c s d t : Collection) (name : Name) → IsDeviceHalf got sent c s d t
    → row_under d name ≡ option_map (settled s.head.usn) (received_under Device s.head.usn (row_under c) (newest_in Device got.rows) name)
device_under got sent c s d t name e = e.rows name ∙ ap (option_map (settled s.head.usn)) (all_taken_at Device s.head.usn got.rows c.rows name)

-- ---- an exchange: the tags of both
device_tag : (least usn : ℤ) (x y after : Option ℤ) → IsTagShared least x y
    → after ≡ option_map (settled_number usn) (option_or x (if is_tag_from least y then Some usn else None)) → is_some after ≡ (is_some x || is_some y)
device_tag least usn (Some m) y after shared now = ap is_some now
device_tag least usn None None after shared now = ap is_some now
device_tag least usn None (Some n) after shared now =
    ap is_some now
    ∙ elim (int_lt n least) as (λ b. int_lt n least ≡ b → is_some (option_map (settled_number usn) (if not b then Some usn else None)) ≡ true) [
      | true ↦ λ below. absurd (nothing_held (shared.came (omega (arith, ints, below))))
      | false ↦ λ below. refl
    ] refl
  where
    nothing_held : is_some {T = ℤ} None ≡ true → ⊥
    nothing_held some = grind (arith, some)

server_tag : (least usn : ℤ) (x y after : Option ℤ) → IsTagShared least x y → after ≡ option_or y (if is_unsent_tag x then Some usn else None)
    → is_some after ≡ (is_some x || is_some y)
server_tag least usn None (Some n) after shared now = ap is_some now
server_tag least usn (Some m) (Some n) after shared now = ap is_some now
server_tag least usn None None after shared now = ap is_some now
server_tag least usn (Some m) None after shared now =
    ap is_some now
    ∙ elim (int_eq m (negsuc 0)) as (λ b. int_eq m (negsuc 0) ≡ b → is_some (if b then Some usn else None) ≡ true) [
      | true ↦ λ pending. refl
      | false ↦ λ sent. absurd (nothing_held (shared.sent (λ is. grind (arith, sent, (signed_Decides m (negsuc 0)).1 is))))
    ] refl
  where
    nothing_held : is_some {T = ℤ} None ≡ true → ⊥
    nothing_held some = grind (arith, some)

-- ---- an exchange: the numbers of the device
settled_given : (usn more : ℤ) (number : ℤ) → more ≡ usn +ℤ pos 1 → pos 0 ≤ℤ usn → IsOwn usn number → IsGiven more (settled_number usn number)
settled_given usn more number is low own =
    elim (int_eq number (negsuc 0)) as (λ b. int_eq number (negsuc 0) ≡ b → IsGiven more (if b then usn else number)) [
      | true ↦ λ pending. given_now usn more is low usn refl
      | false ↦ λ sent. elim own [
        | inl is_pending ↦ absurd (grind (arith, sent, (signed_Decides number (negsuc 0)).1 is_pending))
        | inr given ↦ given_more usn more is number given
      ]
    ] refl

settled_usn : (usn : ℤ) (row : Row) → usn_of (settled usn row) ≡ settled_number usn (usn_of row)
settled_usn usn row = elim (is_pending row) as (λ b. usn_of (if b then with_usn row usn else row) ≡ (if b then usn else usn_of row)) [ true ↦ usn_of-with_usn row usn | false ↦ refl ]

own_more : (least usn number : ℤ) → least ≤ℤ usn → IsOwn least number → IsOwn usn number
own_more least usn number up (inl pending) = inl pending
own_more least usn number up (inr given) = inr (record { low = given.low; high = omega (arith, ints, up, given.high) })

settled_now : (usn : ℤ) → settled_number usn usn ≡ usn
settled_now usn = elim (int_eq usn (negsuc 0)) as (λ b. (if b then usn else usn) ≡ usn) [ true ↦ refl | false ↦ refl ]

mapped_some : (f : Row → Row) (P : Row → Type 0) (o : Option Row) → IfSome o (λ row. P (f row)) → IfSome (option_map f o) P
mapped_some f P None holds = tt
mapped_some f P (Some x) holds = holds

device_rows_given : (least usn more : ℤ) (at from : RowsByName) (name : Name) → more ≡ usn +ℤ pos 1 → pos 0 ≤ℤ usn → least ≤ℤ usn
    → IfSome (at name) (λ row. IsOwn least (usn_of row)) → IfSome (option_map (settled usn) (received_under Device usn at from name)) (λ row. IsGiven more (usn_of row))
device_rows_given least usn more at from name is low up own =
    mapped_some (settled usn) (λ row. IsGiven more (usn_of row)) (received_under Device usn at from name)
    (each_by (λ row. IsGiven more (usn_of (settled usn row))) Device usn (at name) (grave_under at name) (from name) (grave_under from name)
    (if_weaker (λ row. IsOwn least (usn_of row)) (λ row. IsGiven more (usn_of (settled usn row)))
    (λ row h. subst (IsGiven more) (sym (settled_usn usn row)) (settled_given usn more (usn_of row) is low (own_more least usn (usn_of row) up h))) (at name) own)
    (all_some (λ row. IsGiven more (usn_of (settled usn (with_usn row usn))))
    (λ row. given_now usn more is low (usn_of (settled usn (with_usn row usn))) (settled_usn usn (with_usn row usn) ∙ ap (settled_number usn) (usn_of-with_usn row usn) ∙ settled_now usn)) (from name)))

device_tag_given : (least usn more : ℤ) (came : Bool) (x after : Option ℤ) → more ≡ usn +ℤ pos 1 → pos 0 ≤ℤ usn → least ≤ℤ usn → IfSome x (IsOwn least)
    → after ≡ option_map (settled_number usn) (option_or x (if came then Some usn else None)) → IfSome after (IsGiven more)
device_tag_given least usn more came (Some n) after is low up own now = subst (λ (o : Option ℤ). IfSome o (IsGiven more)) (sym now) (settled_given usn more n is low (own_more least usn n up own))
device_tag_given least usn more true None after is low up own now = subst (λ (o : Option ℤ). IfSome o (IsGiven more)) (sym now) (given_now usn more is low (settled_number usn usn) (settled_now usn))
device_tag_given least usn more false None after is low up own now = subst (λ (o : Option ℤ). IfSome o (IsGiven more)) (sym now) tt

pub number_own : (usn : ℤ) (o : Option ℤ) → IfSome o (IsGiven usn) → IfSome o (IsOwn usn)
number_own usn None given = tt
number_own usn (Some n) given = inr given

-- the number of each tag of the device
pub settled_tag_usn : (usn : ℤ) (tags : List Tag) (name : List ℕ) → tag_usn (settled_tags usn tags) name ≡ option_map (settled_number usn) (tag_usn tags name)
settled_tag_usn usn [] name = refl
settled_tag_usn usn (tag ∷ more) name =
    elim (pointwise ◌==◌ tag.name name) as (λ b. option_map (λ (tag : Tag). tag.usn) (if b then Some (record { name = tag.name; usn = settled_number usn tag.usn }) else find (λ (tag : Tag). pointwise ◌==◌ tag.name name) (settled_tags usn more))
    ≡ option_map (settled_number usn) (option_map (λ (tag : Tag). tag.usn) (if b then Some tag else find (λ (tag : Tag). pointwise ◌==◌ tag.name name) more))) [
      | true ↦ refl
      | false ↦ settled_tag_usn usn more name
    ]

device_tags : (got sent : Received) (c s d t : Collection) (name : List ℕ) → IsDeviceHalf got sent c s d t → tag_usn d.head.tags name
    ≡ option_map (settled_number s.head.usn) (option_or (tag_usn c.head.tags name) (if tags_from c.head.usn s.head.tags name then Some s.head.usn else None))
device_tags got sent c s d t name e =
    ap (λ (tags : List Tag). tag_usn tags name) e.tags
    ∙ settled_tag_usn s.head.usn (tags_taken s.head.usn got.tags c.head.tags) name
    ∙ ap (option_map (settled_number s.head.usn)) (tags_are_united s.head.usn got.tags c.head.tags name
    ∙ ap (λ b. option_or (tag_usn c.head.tags name) (if b then Some s.head.usn else None)) (e.tags_given name))

device_own : (got sent : Received) (c s d t : Collection) → IsDeviceHalf got sent c s d t → AreLinkedParts c s → pos 0 ≤ℤ s.head.usn → AreNumbered IsOwn d
device_own got sent c s d t e linked low = record {
  rows = λ name. if_weaker (λ row. IsGiven d.head.usn (usn_of row)) (λ row. IsOwn d.head.usn (usn_of row)) (λ row h. inr h) (row_under d name)
      (subst (λ (o : Option Row). IfSome o (λ row. IsGiven d.head.usn (usn_of row))) (sym (device_under got sent c s d t name e))
      (device_rows_given c.head.usn s.head.usn d.head.usn (row_under c) (newest_in Device got.rows) name e.usn low linked.usn (linked.own.rows name)));
  tags = λ name. number_own d.head.usn (tag_usn d.head.tags name)
      (device_tag_given c.head.usn s.head.usn d.head.usn (tags_from c.head.usn s.head.tags name) (tag_usn c.head.tags name) (tag_usn d.head.tags name)
      e.usn low linked.usn (linked.own.tags name) (device_tags got sent c s d t name e));
}

-- ---- sides of one content are linked
taken_same : (usn : ℤ) (x g y : Option Row) → IsTrue (same_held x y) → HasTaken usn x g y
taken_same usn x g None same = tt
taken_same usn None g (Some y) same = absurd (grind (arith, same))
taken_same usn (Some x) g (Some y) same = λ below. inl (same-turned x y same)

known_same : (usn : ℤ) (x y h : Option Row) → IsTrue (same_held x y) → IsKnown usn x y h
known_same usn None y h same = tt
known_same usn (Some x) None h same = absurd (grind (arith, same))
known_same usn (Some x) (Some y) h same = λ settled. inl same

shared_same : (usn : ℤ) (x y : Option Row) → IsTrue (same_held x y) → IsShared usn x y
shared_same usn None None same = record { sent = tt; came = tt }
shared_same usn None (Some y) same = absurd (grind (arith, same))
shared_same usn (Some x) None same = absurd (grind (arith, same))
shared_same usn (Some x) (Some y) same = record { sent = λ settled. same; came = λ below. same-turned x y same }

tag_same : (usn : ℤ) (x y : Option ℤ) → is_some x ≡ is_some y → IsTagShared usn x y
tag_same usn None None same = record { sent = tt; came = tt }
tag_same usn None (Some n) same = absurd (grind (arith, same))
tag_same usn (Some m) None same = absurd (grind (arith, same))
tag_same usn (Some m) (Some n) same = record { sent = λ settled. refl; came = λ below. refl }

same_graves : (a b : RowsByName) (name : Name) (graves : Option Table) → ((name : Name) → IsTrue (same_held (a name) (b name)))
    → is_some (grave_in a name graves) ≡ is_some (grave_in b name graves)
same_graves a b name None same = refl
same_graves a b name (Some graves) same = held-alike (a (record { table = graves; id = name.id })) (b (record { table = graves; id = name.id })) (same (record { table = graves; id = name.id }))

none_held : (x : Option Row) → IsTrue (same_held x None) → x ≡ None
none_held None same = refl
none_held (Some x) same = absurd (grind (arith, same))

-- rows of one content are single together
single_same : (a b : RowsByName) → ((name : Name) → IsTrue (same_held (a name) (b name))) → IsSingle b → IsSingle a
single_same a b same single name dead =
    none_held (a name) (ap (same_held (a name)) (sym (single name (sym (same_graves a b name (graves_of name.table) same) ∙ dead))) ∙ same name)

pub linked_same : (d t : Collection) → d.head.usn ≡ t.head.usn → d.head.moment ≡ t.head.moment → AreNumbered IsOwn d → AreNumbered IsGiven t
    → SameContent (content_of d) (content_of t) → IsSingle (row_under t) → AreLinkedParts d t
linked_same d t usn moment own given same single = record {
  usn = omega (arith, ints, usn);
  given = given;
  own = own;
  taken = λ name stamps. taken_same d.head.usn (row_under d name) (grave_under (row_under d) name) (row_under t name) (same.rows name);
  known = λ name stamps. known_same d.head.usn (row_under d name) (row_under t name) (grave_under (row_under t) name) (same.rows name);
  shared = λ name none. shared_same d.head.usn (row_under d name) (row_under t name) (same.rows name);
  tags = λ name. tag_same d.head.usn (tag_usn d.head.tags name) (tag_usn t.head.tags name) (same.tags name);
  own_single = single_same (row_under d) (row_under t) same.rows single;
  single = single;
  later = λ _. omega (arith, ints, moment);
  settings = λ _ _. (same.conf, same.crt);
}

-- ---- the law
name_of-settled : (usn : ℤ) (row : Row) → name_of (settled usn row) ≡ name_of row
name_of-settled usn row = elim (is_pending row) as (λ b. name_of (if b then with_usn row usn else row) ≡ name_of row) [ true ↦ name_of-with_usn row usn | false ↦ refl ]

device_named : (got sent : Received) (c s d t : Collection) → IsDeviceHalf got sent c s d t → AreNamed (row_under c) → AreNamed (row_under d)
device_named got sent c s d t e named name row is =
    of_some (λ x. name_of x ≡ name) (row_under d name) row
    (subst (λ (o : Option Row). IfSome o (λ x. name_of x ≡ name)) (sym (device_under got sent c s d t name e))
    (mapped_some (settled s.head.usn) (λ x. name_of x ≡ name) (received_under Device s.head.usn (row_under c) (newest_in Device got.rows) name)
    (when_some (λ x. name_of (settled s.head.usn x) ≡ name) (received_under Device s.head.usn (row_under c) (newest_in Device got.rows) name)
    (λ x held. name_of-settled s.head.usn x ∙ named_received Device s.head.usn (row_under c) (newest_in Device got.rows) named (newest_named Device got.rows) name x held))))
    is

-- what lists all that is wanted is sent
pub listed_sent : (rows : List Row) (at after : RowsByName) → IsListOf rows at → IsSent rows at after
listed_sent rows at after listed = record { each = listed.each; whole = λ name row is stays. listed.whole name row is }

-- ---- the settings
settings_of_server : (b : Bool) (c s : Head) → unwrap_or (if b then Some (settings_of c) else None) (settings_of s) ≡ settings_of (if b then c else s)
settings_of_server true c s = refl
settings_of_server false c s = refl

settings_of_device : (b : Bool) (c s : Head) → unwrap_or (if b then None else Some (settings_of s)) (settings_of c) ≡ settings_of (if b then c else s)
settings_of_device true c s = refl
settings_of_device false c s = refl

server_settings : (got sent : Received) (c s t : Collection) → IsServerHalf got sent c s t → settings_of t.head ≡ settings_of (newest_head c.head s.head)
server_settings got sent c s t e =
    e.commits.settings ∙ ap (λ came. unwrap_or came (settings_of s.head)) e.settings ∙ settings_of_server (int_lt s.head.moment c.head.moment) c.head s.head

device_settings : (got sent : Received) (c s d t : Collection) → IsDeviceHalf got sent c s d t → settings_of d.head ≡ settings_of (newest_head c.head s.head)
device_settings got sent c s d t e =
    e.settings ∙ ap (λ came. unwrap_or came (settings_of c.head)) e.gives_settings ∙ settings_of_device (int_lt s.head.moment c.head.moment) c.head s.head

-- ---- the halves
-- a server that took what the device sent, and was committed, holds the join
pub server_half_joins : (got sent : Received) (c s t : Collection) → IsServerHalf got sent c s t → AreLinkedParts c s
    → AreNamed (row_under c) → AreNamed (row_under s) → pos 0 ≤ℤ s.head.usn → HoldsJoin c s t
server_half_joins got sent c s t e linked named their_named low =
    let now = sym (commit_under sent s t e.commits) in
    record {
      content = record {
        rows = λ name. ap (λ (rows : Rows). same_held (get rows name) (joined_under (row_under c) (row_under s) name)) e.commits.rows
            ∙ server_rows_join s.head.usn got.rows sent.rows c s (record { linked = linked; named = named; gives = e.gives; sends = e.sends }) name;
        tags = λ name. server_tag c.head.usn s.head.usn (tag_usn c.head.tags name) (tag_usn s.head.tags name) (tag_usn t.head.tags name) (linked.tags name)
            (commit_tag sent s t e.commits name ∙ ap (λ b. option_or (tag_usn s.head.tags name) (if b then Some s.head.usn else None)) (e.tags name));
        conf = ap (λ (settings : Settings). settings.conf) (server_settings got sent c s t e);
        crt = ap (λ (settings : Settings). settings.crt) (server_settings got sent c s t e);
      };
      given = commit_given sent s t e.commits low linked.given;
      single = subst IsSingle now (single_received Server s.head.usn (row_under s) (newest_in Server sent.rows) linked.single);
      named = subst AreNamed now (named_received Server s.head.usn (row_under s) (newest_in Server sent.rows) their_named (newest_named Server sent.rows));
      usn = e.commits.usn;
      past_device = e.moment;
      past_server = e.commits.moment;
    }

-- a device that took what the server gave, and settled what it sent, has the content of the join
pub device_half_joins : (got sent : Received) (c s d t : Collection) → IsDeviceHalf got sent c s d t → MayExchange c s → SameContent (content_of d) (join c s)
device_half_joins got sent c s d t e may = record {
  rows = λ name. ap (λ o. same_held o (joined_under (row_under c) (row_under s) name)) (e.rows name)
      ∙ settled_held s.head.usn (get (all_taken Device s.head.usn got.rows c.rows) name) (joined_under (row_under c) (row_under s) name)
      (device_rows_join s.head.usn got.rows sent.rows c s (record { may = may; sends = e.sends; gives = e.gives }) name);
  tags = λ name. device_tag c.head.usn s.head.usn (tag_usn c.head.tags name) (tag_usn s.head.tags name) (tag_usn d.head.tags name) (may.linked.tags name) (device_tags got sent c s d t name e);
  conf = ap (λ (settings : Settings). settings.conf) (device_settings got sent c s d t e);
  crt = ap (λ (settings : Settings). settings.crt) (device_settings got sent c s d t e);
}

-- then it is linked with a server that holds the join
pub device_half_links : (got sent : Received) (c s d t : Collection) → IsDeviceHalf got sent c s d t → HoldsJoin c s t → MayExchange c s
    → pos 0 ≤ℤ s.head.usn → AreExchanged c s d t
device_half_links got sent c s d t e joined may low =
    let device = device_half_joins got sent c s d t e may in
    let same : SameContent (content_of d) (content_of t) = record {
      rows = λ name. held-through (row_under d name) (joined_under (row_under c) (row_under s) name) (row_under t name) (device.rows name) (held-turned (row_under t name) (joined_under (row_under c) (row_under s) name) (joined.content.rows name));
      tags = λ name. device.tags name ∙ sym (joined.content.tags name);
      conf = device.conf ∙ sym joined.content.conf;
      crt = device.crt ∙ sym joined.content.crt;
    } in
    record {
      linked = linked_same d t (e.usn ∙ sym joined.usn) e.moment (device_own got sent c s d t e may.linked low) joined.given same joined.single;
      same = same;
      device = device;
      server = joined.content;
      named = device_named got sent c s d t e may.named;
      their_named = joined.named;
      last_sync = e.last_sync;
      past_device = joined.past_device;
      past_server = joined.past_server;
    }

-- an exchange links the two again, and leaves both with the join
pub exchange_links : (got sent : Received) (c s d t : Collection) → IsExchange got sent c s d t → MayExchange c s
    → pos 0 ≤ℤ s.head.usn → AreExchanged c s d t
exchange_links got sent c s d t e may low =
    device_half_links got sent c s d t e.device (server_half_joins got sent c s t e.server may.linked may.named may.their_named low) may low
