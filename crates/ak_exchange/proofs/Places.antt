-- The places of a plan, one after another: how much of the plan lies ahead of each.
use Rattle.std.specs.Int.{div_ceil}
use Rattle.std.specs.List.{AllByRecursion}
use Rattle.std.specs.Prelude.{◌≡◌, ℕ, pos, ◌+◌, ◌*◌, ◌/◌, ◌<◌, ◌≤◌, nat_lt, Bool, true, false, List, [], ◌∷◌, ◌++◌, map, length}
use Rattle.std.proofs.Common.{refl, sym, ap, ◌∙◌, append_assoc, append-nil, arith}
use Rattle.std.proofs.lemmas.Bool.Decides.{nat_tests}
use Rattle.std.proofs.lemmas.List.{length-map, map-append}
use Rattle.std.proofs.lemmas.List.FromFn.{length-map-range_with_len}
use Rattle.ak_exchange.proofs.Chunking.{ends_short, front_below, is_filled, is_until_short, left_after_slice, next_slice, slices_go_on}
use Rattle.ak_exchange.proofs.Passing.{LeadsOn}
use Rattle.ak_exchange.proofs.SentRows.{ahead_stays, pushes_left}
use Rattle.ak_exchange.specs.Loops.{HasPulledOne, HavePulled, HavePushed, HaveSentGraves, rows_once_sent, rows_to_push}
use Rattle.ak_exchange.specs.Phases.{at_end_of, at_meta}
use Rattle.ak_base.specs.declared.names.Name.{Name}
use Rattle.ak_base.specs.declared.names.Table.TheVariants as tables
use Rattle.ak_base.specs.declared.rows.Row.{Row}
use Rattle.ak_keep.specs.Collections.{Collection}
use Rattle.ak_keep.specs.declared.keepers.Wanted.TheVariants.{From, Unsent}
use Rattle.ak_messages.specs.declared.replies.Give.{Give}
use Rattle.ak_messages.specs.declared.replies.Give.TheVariants as gives
use Rattle.ak_messages.specs.declared.requests.Ask.{Ask}
use Rattle.ak_messages.specs.declared.requests.Ask.TheVariants as asks
use Rattle.ak_messages.specs.declared.requests.Chunk.{Chunk}
use Rattle.ak_sync_rows.specs.Chunks.{IsSlice, ahead_of}
use Rattle.ak_session.proofs.Folds.{fold_append}
use Rattle.ak_session.proofs.Slices.{short_slices}
use Rattle.ak_session.proofs.Steps.{count_append, count_of_chunks, fold_of_chunks}
use Rattle.ak_session.proofs.Sums.{none_yet}
use Rattle.ak_session.specs.Answers.{answer_to, chunk_count, counts_of, server_rows}
use Rattle.ak_session.specs.Asks.{fold_of}
use Rattle.ak_session.specs.Messages.{changes_of, chunk_of, grave_ids}
use Rattle.ak_session.specs.Plans.{chunks_to_ask, device_changes, device_rows, graves_to_send, planned, planned_changes, planned_check, planned_chunks, planned_graves, planned_pushes, planned_start, rows_to_send}
use Rattle.ak_session.specs.Sessions.{MaySync}
use Rattle.ak_session.specs.Slices.{slice, slices, wanted_graves, wanted_in_chunks}

-- ---- what lies ahead
-- a list that goes on with one thing, and then with more
ahead_by : (a b c whole : List Ask) → b ≡ a ++ c → (rest : List Ask) × (b ++ rest ≡ whole) → (rest : List Ask) × (a ++ rest ≡ whole)
ahead_by a b c whole is more = (c ++ more.0, sym (append_assoc a c more.0) ∙ ap (λ (l : List Ask). l ++ more.0) (sym is) ∙ more.1)

module _ (c s : Collection) where
  abbrev Ahead : List Ask → Type 0
  Ahead asked = (rest : List Ask) × (asked ++ rest ≡ planned c s)

  pub after_check : Ahead (planned_check c s)
  after_check = (asks.Finish ∷ [], refl)

  pub after_pushes : Ahead (planned_pushes c s)
  after_pushes = ahead_by (planned_pushes c s) (planned_check c s) (asks.SanityCheck2 (counts_of (device_rows c s (planned_pushes c s))) ∷ []) (planned c s) refl after_check

  pub after_chunks : Ahead (planned_chunks c s)
  after_chunks = ahead_by (planned_chunks c s) (planned_pushes c s) (rows_to_send (wanted_in_chunks Unsent (device_rows c s (planned_chunks c s)))) (planned c s) refl after_pushes

  pub after_changes : Ahead (planned_changes c s)
  after_changes = ahead_by (planned_changes c s) (planned_chunks c s) (chunks_to_ask (server_rows s (planned_changes c s))) (planned c s) refl after_chunks

  pub after_graves : Ahead (planned_graves c s)
  after_graves = ahead_by (planned_graves c s) (planned_changes c s) (asks.ApplyChanges (changes_of (device_changes c s)) ∷ []) (planned c s) refl after_changes

  pub after_start : Ahead (planned_start c)
  after_start = ahead_by (planned_start c) (planned_graves c s) (graves_to_send (wanted_graves Unsent (device_rows c s (planned_start c)))) (planned c s) refl after_graves

-- a place at the end of a part leads on
pub leads_on : (part : Collection → Collection → List Ask) → ((c s : Collection) → (rest : List Ask) × (part c s ++ rest ≡ planned c s)) → LeadsOn (at_end_of part)
leads_on part ahead c s asked may is = ((ahead c s).0, ap (λ (l : List Ask). l ++ (ahead c s).0) is ∙ (ahead c s).1)

pub meta_leads : LeadsOn at_meta
meta_leads c s asked may is = (planned c s, ap (λ (l : List Ask). l ++ planned c s) is)

-- ---- parts that ask for each slice of a list
module _ (f : List Row → Ask) (list : List Row) (a : List Ask) where
  -- one slice more was asked for
  pub one_more : (k : ℕ) → (a ++ map f (slices k list)) ++ f (slice k list) ∷ [] ≡ a ++ map f (slices (k + 1) list)
  one_more k =
      append_assoc a (map f (slices k list)) (f (slice k list) ∷ [])
      ∙ ap (λ (l : List Ask). a ++ l) (sym (map-append f (slices k list) (slice k list ∷ [])))
      ∙ ap (λ (l : List (List Row)). a ++ map f l) (sym (slices_go_on k list))

  -- what lies ahead of the first slices, if something lies ahead of more of them
  pub front_ahead : (k n : ℕ) (whole : List Ask) → k ≤ n → (rest : List Ask) × ((a ++ map f (slices n list)) ++ rest ≡ whole)
      → (rest : List Ask) × ((a ++ map f (slices k list)) ++ rest ≡ whole)
  front_ahead k n whole le more =
      let front = front_below k n list le in
      ahead_by (a ++ map f (slices k list)) (a ++ map f (slices n list)) (map f front.0) whole
      (ap (λ (l : List (List Row)). a ++ map f l) (sym front.1)
      ∙ ap (λ (l : List Ask). a ++ l) (map-append f (slices k list) front.0)
      ∙ sym (append_assoc a (map f (slices k list)) (map f front.0)))
      more

  -- the next one is of the plan
  pub next_ahead : (k n : ℕ) (whole asked : List Ask) → k + 1 ≤ n → asked ≡ a ++ map f (slices k list)
      → (rest : List Ask) × ((a ++ map f (slices n list)) ++ rest ≡ whole) → (rest : List Ask) × (asked ++ f (slice k list) ∷ rest ≡ whole)
  next_ahead k n whole asked le is more =
      let ahead = front_ahead (k + 1) n whole le more in (
        ahead.0,
        ap (λ (l : List Ask). l ++ f (slice k list) ∷ ahead.0) is
            ∙ sym (append_assoc (a ++ map f (slices k list)) (f (slice k list) ∷ []) ahead.0)
            ∙ ap (λ (l : List Ask). l ++ ahead.0) (one_more k)
            ∙ ahead.1,
      )

-- ---- graves
abbrev pub grave_request : List Row → Ask
grave_request part = asks.ApplyGraves (grave_ids part)

graves_whole : (c s : Collection) (list : List Row) → list ≡ wanted_graves Unsent (device_rows c s (planned_start c))
    → (rest : List Ask) × ((planned_start c ++ map grave_request (slices (div_ceil (length list) 250) list)) ++ rest ≡ planned c s)
graves_whole c s list is =
    let ahead = after_graves c s in
    (ahead.0, ap (λ (l : List Row). (planned_start c ++ graves_to_send l) ++ ahead.0) is ∙ ahead.1)

pub graves_lead : (k : ℕ) (list : List Row) → k ≤ div_ceil (length list) 250 → LeadsOn (HaveSentGraves k list)
graves_lead k list le c s asked may at =
    let ahead = front_ahead grave_request list (planned_start c) k (div_ceil (length list) 250) (planned c s) le (graves_whole c s list at.list_is) in
    (ahead.0, ap (λ (l : List Ask). l ++ ahead.0) at.asked_is ∙ ahead.1)

pub next_graves : (k : ℕ) (list : List Row) (c s : Collection) (asked : List Ask) → 250 * k < length list → HaveSentGraves k list c s asked
    → (rest : List Ask) × (asked ++ grave_request (slice k list) ∷ rest ≡ planned c s)
next_graves k list c s asked less at =
    next_ahead grave_request list (planned_start c) k (div_ceil (length list) 250) (planned c s) asked (is_filled k (length list) less) at.asked_is
    (graves_whole c s list at.list_is)

pub sent_graves : (k : ℕ) (list : List Row) (c s : Collection) (asked : List Ask) → HaveSentGraves k list c s asked
    → HaveSentGraves (k + 1) list c s (asked ++ grave_request (slice k list) ∷ [])
sent_graves k list c s asked at = record {
  list_is = at.list_is;
  asked_is = ap (λ (l : List Ask). l ++ grave_request (slice k list) ∷ []) at.asked_is ∙ one_more grave_request list (planned_start c) k;
}

-- before the first and after the last
pub no_graves_yet : (list : List Row) (c s : Collection) (asked : List Ask) → list ≡ wanted_graves Unsent (device_rows c s (planned_start c))
    → asked ≡ planned_start c → HaveSentGraves 0 list c s asked
no_graves_yet list c s asked is at = record { list_is = is; asked_is = at }

pub all_graves : (list : List Row) (c s : Collection) (asked : List Ask) → HaveSentGraves (div_ceil (length list) 250) list c s asked
    → asked ≡ planned_graves c s
all_graves list c s asked at = at.asked_is ∙ ap (λ (l : List Row). planned_start c ++ graves_to_send l) at.list_is

-- ---- chunks that come
not_less : (a b : ℕ) → (a < b → ⊥) → b ≤ a
not_less a b never = by (nat_lt a b) refl
  where
    by : (v : Bool) → nat_lt a b ≡ v → b ≤ a
    by true is = let less : a < b = grind (arith, nat_tests, is) in absurd (never less)
    by false is = grind (arith, nat_tests, is)

abbrev pub chunk_request : List Row → Ask
chunk_request part = asks.Chunk

pub pulled_lead : (k : ℕ) → LeadsOn (HavePulled k)
pulled_lead k c s asked may at =
    let list = server_rows s (planned_changes c s) in
    let last = is_until_short k (length list) at.full in
    let ahead = front_ahead chunk_request list (planned_changes c s) k (length list / 250 + 1) (planned c s) (omega (arith, last)) (after_chunks c s) in
    (ahead.0, ap (λ (l : List Ask). l ++ ahead.0) at.asked_is ∙ ahead.1)

pub next_pull : (k : ℕ) (c s : Collection) (asked : List Ask) → HavePulled k c s asked → (rest : List Ask) × (asked ++ asks.Chunk ∷ rest ≡ planned c s)
next_pull k c s asked at =
    let list = server_rows s (planned_changes c s) in
    next_ahead chunk_request list (planned_changes c s) k (length list / 250 + 1) (planned c s) asked (is_until_short k (length list) at.full) at.asked_is
    (after_chunks c s)

pub none_pulled : (c s : Collection) (asked : List Ask) → asked ≡ planned_changes c s → HavePulled 0 c s asked
none_pulled c s asked is = record { asked_is = is ∙ sym (append-nil (planned_changes c s)); full = omega arith }

-- the slice that comes next is the last one, or full
pulled_next : (k : ℕ) (c s : Collection) (asked : List Ask) → HavePulled k c s asked → (done : Bool)
    → done ≡ nat_lt (length (slice k (server_rows s (planned_changes c s)))) 250 → HasPulledOne k done c s (asked ++ asks.Chunk ∷ [])
pulled_next k c s asked at true is =
    let list = server_rows s (planned_changes c s) in
    let short : length (slice k list) < 250 = grind (arith, nat_tests, is) in
    let last = ends_short k (length list) at.full ((short_slices k list).0 short) in
    ap (λ (l : List Ask). l ++ asks.Chunk ∷ []) at.asked_is
    ∙ one_more chunk_request list (planned_changes c s) k
    ∙ ap (λ (n : ℕ). planned_changes c s ++ map chunk_request (slices n list)) last
pulled_next k c s asked at false is = record {
  asked_is = ap (λ (l : List Ask). l ++ asks.Chunk ∷ []) at.asked_is
      ∙ one_more chunk_request (server_rows s (planned_changes c s)) (planned_changes c s) k;
  full = goes_on;
}
  where
    list : List Row
    list = server_rows s (planned_changes c s)

    long : length (slice k list) < 250 → ⊥
    long less = grind (arith, nat_tests, is, less)

    goes_on : 250 * (k + 1) ≤ length list
    goes_on = not_less (length list) (250 * (k + 1)) (λ less. long ((short_slices k list).1 less))

-- how many chunks the session has been asked for, and over which list
pulled_asks : {X : Type 0} (parts : List X) → AllByRecursion (λ (ask : Ask). ask ≡ asks.Chunk) (map (λ (part : X). asks.Chunk) parts)
pulled_asks [] = tt
pulled_asks (part ∷ parts) = (refl, pulled_asks parts)

pulled_count : (k : ℕ) (c s : Collection) (asked : List Ask) → MaySync c s → HavePulled k c s asked → chunk_count asked ≡ k
pulled_count k c s asked may at =
    let parts = slices k (server_rows s (planned_changes c s)) in
    let none = none_yet c s may in
    let more = count_of_chunks (map chunk_request parts) (pulled_asks parts) in
    let long : length (map chunk_request parts) ≡ k = length-map parts chunk_request ∙ length-map-range_with_len (λ (n : ℕ). slice n (server_rows s (planned_changes c s))) 0 k in
    ap chunk_count at.asked_is ∙ count_append (planned_changes c s) (map chunk_request parts) ∙ omega (arith, none, more, long)

pulled_list : (k : ℕ) (c s : Collection) (asked : List Ask) → HavePulled k c s asked → server_rows s asked ≡ server_rows s (planned_changes c s)
pulled_list k c s asked at =
    let parts = slices k (server_rows s (planned_changes c s)) in
    ap (server_rows s) at.asked_is
    ∙ ap (λ (held : Collection). wanted_in_chunks (From c.head.usn) held.rows)
    (fold_append s (planned_changes c s) (map chunk_request parts)
    ∙ fold_of_chunks (fold_of s (planned_changes c s)) (map chunk_request parts) (pulled_asks parts))

abbrev done_in : Give → Bool
done_in (gives.Chunk chunk) = chunk.done
done_in give = false

-- the chunk that comes leads on: to the end, or to the next one
pub pulled_one : (k : ℕ) (c s : Collection) (asked : List Ask) (chunk : Chunk) → MaySync c s → HavePulled k c s asked
    → answer_to s asked asks.Chunk ≡ gives.Chunk chunk → HasPulledOne k chunk.done c s (asked ++ asks.Chunk ∷ [])
pulled_one k c s asked chunk may at is =
    pulled_next k c s asked at chunk.done
    (sym (ap done_in is)
    ∙ ap (λ (n : ℕ). nat_lt (length (slice n (server_rows s asked))) 250) (pulled_count k c s asked may at)
    ∙ ap (λ (list : List Row). nat_lt (length (slice k list)) 250) (pulled_list k c s asked at))

-- ---- chunks that are sent
abbrev pub push_request : List Row → Ask
push_request part = asks.ApplyChunk (chunk_of part)

pub pushed_lead : (k : ℕ) (from : Name) → LeadsOn (HavePushed k from)
pushed_lead k from c s asked may at =
    let list = rows_to_push c s in
    let last = is_until_short k (length list) at.full in
    let ahead = front_ahead push_request list (planned_chunks c s) k (length list / 250 + 1) (planned c s) (omega (arith, last)) (after_pushes c s) in
    (ahead.0, ap (λ (l : List Ask). l ++ ahead.0) at.asked_is ∙ ahead.1)

pub next_push : (k : ℕ) (from : Name) (c s : Collection) (asked : List Ask) → HavePushed k from c s asked
    → (rest : List Ask) × (asked ++ push_request (slice k (rows_to_push c s)) ∷ rest ≡ planned c s)
next_push k from c s asked at =
    let list = rows_to_push c s in
    next_ahead push_request list (planned_chunks c s) k (length list / 250 + 1) (planned c s) asked (is_until_short k (length list) at.full) at.asked_is
    (after_pushes c s)

pub none_pushed : (c s : Collection) (asked : List Ask) → MaySync c s → asked ≡ planned_chunks c s → HavePushed 0 (record { table = tables.Review; id = pos 0 }) c s asked
none_pushed c s asked may is = record {
  asked_is = is ∙ sym (append-nil (planned_chunks c s));
  full = omega arith;
  ahead = ap (λ (l : List Ask). wanted_in_chunks Unsent (rows_once_sent c s l)) is ∙ pushes_left c s may;
}

module _ (k : ℕ) (from next : Name) (c s : Collection) (asked : List Ask) (at : HavePushed k from c s asked) (part : List Row)
    (cut : IsSlice (ahead_of Unsent from (rows_once_sent c s asked)) part (ahead_of Unsent next (rows_once_sent c s asked))) where
  -- what is sent is the next slice
  pub part_sent : part ≡ slice k (rows_to_push c s)
  part_sent = next_slice k (rows_to_push c s) (ahead_of Unsent from (rows_once_sent c s asked)) part (ahead_of Unsent next (rows_once_sent c s asked)) at.ahead cut

  one_pushed : asked ++ push_request part ∷ [] ≡ planned_chunks c s ++ map push_request (slices (k + 1) (rows_to_push c s))
  one_pushed = ap (λ (l : List Row). asked ++ push_request l ∷ []) part_sent
      ∙ ap (λ (l : List Ask). l ++ push_request (slice k (rows_to_push c s)) ∷ []) at.asked_is
      ∙ one_more push_request (rows_to_push c s) (planned_chunks c s) k

  -- one that is not full is the last one
  pub pushed_last : nat_lt (length part) 250 ≡ true → asked ++ push_request part ∷ [] ≡ planned_pushes c s
  pushed_last is =
      let list = rows_to_push c s in
      let full = at.full in
      let same : length part ≡ length (slice k list) = ap length part_sent in
      let less : length part < 250 = grind (arith, nat_tests, is) in
      let short : length (slice k list) < 250 = omega (arith, same, less) in
      one_pushed ∙ ap (λ (n : ℕ). planned_chunks c s ++ map push_request (slices n list)) (ends_short k (length list) full ((short_slices k list).0 short))

  -- and after a full one the next begins
  pub pushed_full : MaySync c s → nat_lt (length part) 250 ≡ false → HavePushed (k + 1) next c s (asked ++ push_request part ∷ [])
  pushed_full may is =
      let list = rows_to_push c s in
      let same : length part ≡ length (slice k list) = ap length part_sent in
      let short = cut.short in
      let long : length part ≡ 250 = grind (arith, nat_tests, is, short) in
      let most : length (slice k list) ≡ 250 = sym same ∙ long in
      record {
        asked_is = one_pushed;
        full = not_less (length list) (250 * (k + 1)) (λ less. let fewer = (short_slices k list).1 less in absurd (omega (arith, most, fewer)));
        ahead = ahead_stays c s may asked k next part (ahead_of Unsent next (rows_once_sent c s asked)) part_sent (sym cut.whole ∙ at.ahead) refl
            ∙ left_after_slice k list (ahead_of Unsent from (rows_once_sent c s asked)) part (ahead_of Unsent next (rows_once_sent c s asked)) at.ahead cut long;
      }
