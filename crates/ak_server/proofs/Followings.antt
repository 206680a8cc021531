-- What the methods that may come next have in common with the last one.
use Rattle.std.specs.Cmp.{first_so, second_so}
use Rattle.std.specs.List.{list_all, list_any}
use Rattle.std.specs.Prelude.{◌≡◌, ◌&&◌, ◌||◌, Bool, true, false, not, if◌then◌else◌, List, [], ◌∷◌}
use Rattle.std.proofs.Common.{refl, sym, ap, ◌∙◌}
use Rattle.ak_server_steps.specs.Answers.{answered, expects_mark}
use Rattle.ak_keep.specs.Keepers.{Keeping, is_marked}
use Rattle.ak_server_rules.specs.Sessions.{has_mark, is_before_chunks}
use Rattle.ak_messages.specs.declared.methods.Method.{Method}
use Rattle.ak_messages.specs.declared.methods.Method.TheVariants as methods
use Rattle.ak_messages.specs.declared.requests.Ask.{Ask}
use Rattle.ak_messages.specs.declared.requests.Ask.TheVariants as asks
use Rattle.ak_protocol.proofs.Methods.{same_method_is}
use Rattle.ak_session.specs.NextMethods.{methods_after}
use Rattle.ak_session.specs.Requests.{asked_method, asks_commit, same_method}
use Rattle.ak_session.proofs.Ranges.{not_both}

-- whether a request of this method comes to a marked keeper
abbrev pub expects_of : Method → Bool
expects_of methods.Meta = false
expects_of methods.Start = false
expects_of methods.ApplyGraves = true
expects_of methods.ApplyChanges = true
expects_of methods.Chunk = true
expects_of methods.ApplyChunk = true
expects_of methods.SanityCheck2 = true
expects_of methods.Finish = true
expects_of methods.Upload = false
expects_of methods.Download = false

pub expects_asked : (ask : Ask) → expects_mark ask ≡ expects_of (asked_method ask)
expects_asked asks.Meta = refl
expects_asked (asks.Start min_usn lmod) = refl
expects_asked (asks.ApplyGraves ids) = refl
expects_asked (asks.ApplyChanges changes) = refl
expects_asked asks.Chunk = refl
expects_asked (asks.ApplyChunk chunk) = refl
expects_asked (asks.SanityCheck2 counts) = refl
expects_asked asks.Finish = refl
expects_asked (asks.Upload whole) = refl
expects_asked asks.Download = refl

-- whether a method may come after this one: the mark is as it expects it, chunks come after what is before chunks, only what comes
-- first comes after a meta or a mark, and it is no meta
abbrev same_mark : Method → Method → Bool
same_mark last m = if has_mark last then expects_of m else not (expects_of m)

abbrev in_turn : Method → Method → Bool
in_turn last m = not (is_before_chunks m) || is_before_chunks last

abbrev begun_before : Method → Method → Bool
begun_before last m = not (has_mark m) || (same_method last methods.Meta || has_mark last)

abbrev pub fits : Method → Method → Bool
fits last m = same_mark last m && (in_turn last m && (begun_before last m && not (same_method m methods.Meta)))

all_fit : (last : Method) (done : Bool) → list_all (fits last) (methods_after last done) ≡ true
all_fit methods.Meta done = refl
all_fit methods.Start done = refl
all_fit methods.ApplyGraves done = refl
all_fit methods.ApplyChanges done = refl
all_fit methods.Chunk true = refl
all_fit methods.Chunk false = refl
all_fit methods.ApplyChunk true = refl
all_fit methods.ApplyChunk false = refl
all_fit methods.SanityCheck2 done = refl
all_fit methods.Finish done = refl
all_fit methods.Upload done = refl
all_fit methods.Download done = refl

any_so : (test : Method → Bool) (m : Method) (list : List Method) → list_all test list ≡ true → list_any (same_method m) list ≡ true → test m ≡ true
any_so test m [] all is = absurd (not_both is refl)
any_so test m (a ∷ more) all is =
    elim (same_method m a) as (λ b. same_method m a ≡ b → (b || list_any (same_method m) more) ≡ true → test m ≡ true) [
      | true ↦ λ e _. ap test (same_method_is m a e) ∙ first_so (test a) (list_all test more) all
      | false ↦ λ e rest. any_so test m more (second_so (test a) (list_all test more) all) rest
    ] refl is

-- what holds of a method that may come
pub record Follows (last m : Method) : Type 0 where
  pub mark : has_mark last ≡ expects_of m
  pub turn : is_before_chunks m ≡ true → is_before_chunks last ≡ true
  pub begun : has_mark m ≡ true → same_method last methods.Meta ≡ false → has_mark last ≡ true
  pub later : same_method m methods.Meta ≡ false

same_by : (a b : Bool) → (if a then b else not b) ≡ true → a ≡ b
same_by true b is = sym is
same_by false true is = absurd (not_both is refl)
same_by false false is = refl

so_then : (a b : Bool) → (not a || b) ≡ true → a ≡ true → b ≡ true
so_then true b is so = is
so_then false b is so = absurd (not_both so refl)

or_else : (a b : Bool) → (a || b) ≡ true → a ≡ false → b ≡ true
or_else true b is none = absurd (not_both refl none)
or_else false b is none = is

not_so : (a : Bool) → not a ≡ true → a ≡ false
not_so true is = absurd (not_both is refl)
not_so false is = refl

pub follows : (last m : Method) (done : Bool) → list_any (same_method m) (methods_after last done) ≡ true → Follows last m
follows last m done may =
    let a : Bool = same_mark last m in
    let b : Bool = in_turn last m in
    let c : Bool = begun_before last m in
    let d : Bool = not (same_method m methods.Meta) in
    let all : fits last m ≡ true = any_so (fits last) m (methods_after last done) (all_fit last done) may in
    let three : (b && (c && d)) ≡ true = second_so a (b && (c && d)) all in
    let two : (c && d) ≡ true = second_so b (c && d) three in
    record {
      mark = same_by (has_mark last) (expects_of m) (first_so a (b && (c && d)) all);
      turn = so_then (is_before_chunks m) (is_before_chunks last) (first_so b (c && d) three);
      begun = λ marked fresh. or_else (same_method last methods.Meta) (has_mark last) (so_then (has_mark m) (same_method last methods.Meta || has_mark last) (first_so c d two) marked) fresh;
      later = not_so (same_method m methods.Meta) (second_so c d two);
    }

-- ---- a keeper once a request was answered
pub mark_answered : (ask : Ask) (k : Keeping) → asks_commit ask ≡ false → same_method (asked_method ask) methods.Meta ≡ false
    → is_marked k ≡ expects_mark ask → is_marked (answered ask k) ≡ has_mark (asked_method ask)
mark_answered asks.Meta k stays later is = is
mark_answered (asks.Start min_usn lmod) k stays later is = refl
mark_answered (asks.ApplyGraves ids) k stays later is = is
mark_answered (asks.ApplyChanges changes) k stays later is = is
mark_answered asks.Chunk k stays later is = is
mark_answered (asks.ApplyChunk chunk) k stays later is = is
mark_answered (asks.SanityCheck2 counts) k stays later is = is
mark_answered asks.Finish k stays later is = absurd (not_both refl stays)
mark_answered (asks.Upload whole) k stays later is = absurd (not_both refl stays)
mark_answered asks.Download k stays later is = is

pub held_answered : (ask : Ask) (k : Keeping) → (answered ask k).headed.current ≡ k.headed.current
held_answered asks.Meta k = refl
held_answered (asks.Start min_usn lmod) k = refl
held_answered (asks.ApplyGraves ids) k = refl
held_answered (asks.ApplyChanges changes) k = refl
held_answered asks.Chunk k = refl
held_answered (asks.ApplyChunk chunk) k = refl
held_answered (asks.SanityCheck2 counts) k = refl
held_answered asks.Finish k = refl
held_answered (asks.Upload whole) k = refl
held_answered asks.Download k = refl
