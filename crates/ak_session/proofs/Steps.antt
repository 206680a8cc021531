-- What one request more makes of a session.
use Rattle.std.specs.Prelude.{◌≡◌, ℕ, ◌+◌, Bool, true, false, if◌then◌else◌, List, [], ◌∷◌, ◌++◌, filter, length, Option, Some, None}
use Rattle.std.specs.List.{AllByRecursion}
use Rattle.std.specs.Option.{option_or}
use Rattle.std.proofs.Common.{refl, sym, ap, ◌∙◌, append_assoc, arith}
use Rattle.std.proofs.lemmas.List.{append-nil, map-append, length-append}
use Rattle.std.proofs.lemmas.List.Elements.{filter-append}
use Rattle.ak_base.specs.declared.rows.Row.{Row}
use Rattle.ak_keep.specs.Collections.{Collection}
use Rattle.ak_merge.proofs.PartLaws.{parts_add_up}
use Rattle.ak_merge.specs.Commits.{Settings, Received, with_received}
use Rattle.ak_merge.specs.Takings.{all_taken}
use Rattle.ak_messages.specs.declared.methods.Method.TheVariants as methods
use Rattle.ak_messages.specs.declared.requests.Ask.{Ask}
use Rattle.ak_messages.specs.declared.requests.Ask.TheVariants as asks
use Rattle.ak_messages.specs.declared.requests.Request.{Request}
use Rattle.ak_session.specs.Answers.{chunk_count, given_for, given_after, all_given}
use Rattle.ak_session.specs.Asks.{asks_of, least_usn, device_moment, nothing, brought, and_then, all_brought, fold_of}
use Rattle.ak_session.specs.Contents.{folded}
use Rattle.ak_session.specs.NextMethods.{last_from, last_asked}
use Rattle.ak_session.specs.Plans.{device_rows}
use Rattle.ak_session.specs.Requests.{asked_method, same_method}
use Rattle.ak_session.proofs.Folds.{fold_append}
use Rattle.ak_merge.specs.declared.sides.Side.TheVariants.{Device}

-- ---- what came, one after the other
pub or_none : (o : Option Settings) → option_or o None ≡ o
or_none None = refl
or_none (Some s) = refl

or_or : (last next first : Option Settings) → option_or last (option_or next first) ≡ option_or (option_or last next) first
or_or None next first = refl
or_or (Some s) next first = refl

abbrev came_of : List Row → List (List ℕ) → Option Settings → Received
came_of rows tags settings = record { rows = rows; tags = tags; settings = settings }

pub nothing_first : (r : Received) → and_then nothing r ≡ r
nothing_first r = ap (came_of r.rows r.tags) (or_none r.settings)

pub nothing_last : (r : Received) → and_then r nothing ≡ r
nothing_last r = ap (λ (rows : List Row). came_of rows (r.tags ++ []) r.settings) (append-nil r.rows) ∙ ap (λ (tags : List (List ℕ)). came_of r.rows tags r.settings) (append-nil r.tags)

pub then_then : (a b c : Received) → and_then (and_then a b) c ≡ and_then a (and_then b c)
then_then a b c =
    ap (λ (rows : List Row). came_of rows ((a.tags ++ b.tags) ++ c.tags) (option_or c.settings (option_or b.settings a.settings))) (append_assoc a.rows b.rows c.rows)
    ∙ ap (λ (tags : List (List ℕ)). came_of (a.rows ++ (b.rows ++ c.rows)) tags (option_or c.settings (option_or b.settings a.settings))) (append_assoc a.tags b.tags c.tags)
    ∙ ap (came_of (a.rows ++ (b.rows ++ c.rows)) (a.tags ++ (b.tags ++ c.tags))) (or_or c.settings b.settings a.settings)

-- ---- sums over a list in two parts
pub brought_append : (xs ys : List Ask) → all_brought (xs ++ ys) ≡ and_then (all_brought xs) (all_brought ys)
brought_append [] ys = sym (nothing_first (all_brought ys))
brought_append (ask ∷ more) ys = ap (and_then (brought ask)) (brought_append more ys) ∙ sym (then_then (brought ask) (all_brought more) (all_brought ys))

pub given_append : (s : Collection) (before xs ys : List Ask) → given_after s before (xs ++ ys) ≡ and_then (given_after s before xs) (given_after s (before ++ xs) ys)
given_append s before [] ys =
    sym (nothing_first (given_after s (before ++ []) ys) ∙ ap (λ (l : List Ask). given_after s l ys) (append-nil before))
given_append s before (ask ∷ more) ys =
    ap (and_then (given_for s before ask)) (given_append s (before ++ ask ∷ []) more ys
    ∙ ap (λ (l : List Ask). and_then (given_after s (before ++ ask ∷ []) more) (given_after s l ys)) (append_assoc before (ask ∷ []) more))
    ∙ sym (then_then (given_for s before ask) (given_after s (before ++ ask ∷ []) more) (given_after s (before ++ ask ∷ more) ys))

pub given_more : (s : Collection) (asked : List Ask) (ask : Ask) → all_given s (asked ++ ask ∷ []) ≡ and_then (all_given s asked) (given_for s asked ask)
given_more s asked ask = given_append s [] asked (ask ∷ []) ∙ ap (and_then (all_given s asked)) (nothing_last (given_for s asked ask))

pub brought_more : (asked : List Ask) (ask : Ask) → all_brought (asked ++ ask ∷ []) ≡ and_then (all_brought asked) (brought ask)
brought_more asked ask = brought_append asked (ask ∷ []) ∙ ap (and_then (all_brought asked)) (nothing_last (brought ask))

-- ---- the laws
pub session_goes_on : (committed : Collection) (accepted : List Request) (request : Request)
    → folded committed (accepted ++ request ∷ []) ≡ with_received (brought request.ask) (folded committed accepted)
unfolding folded
session_goes_on committed accepted request =
    ap (fold_of committed) (map-append (λ (r : Request). r.ask) accepted (request ∷ [])) ∙ fold_append committed (asks_of accepted) (request.ask ∷ [])

pub device_goes_on : (c s : Collection) (asked : List Ask) (ask : Ask) → device_rows c s (asked ++ ask ∷ []) ≡ all_taken Device s.head.usn (given_for s asked ask).rows (device_rows c s asked)
device_goes_on c s asked ask =
    ap (λ (r : Received). all_taken Device s.head.usn r.rows c.rows) (given_more s asked ask)
    ∙ parts_add_up Device s.head.usn (all_given s asked).rows (given_for s asked ask).rows c.rows

last_more : (first : Ask) (asked : List Ask) (ask : Ask) → last_from first (asked ++ ask ∷ []) ≡ ask
last_more first [] ask = refl
last_more first (next ∷ more) ask = last_more next more ask

pub last_is : (asked : List Ask) (ask : Ask) → last_asked (asked ++ ask ∷ []) ≡ ask
last_is asked ask = last_more asks.Meta asked ask

count_one : (b : Bool) (ask : Ask) (n : ℕ) → n + length (if b then ask ∷ [] else []) ≡ (if b then n + 1 else n)
count_one true ask n = refl
count_one false ask n = omega arith

pub count_append : (xs ys : List Ask) → chunk_count (xs ++ ys) ≡ chunk_count xs + chunk_count ys
count_append xs ys =
    ap length (filter-append (λ (ask : Ask). same_method (asked_method ask) methods.Chunk) xs ys)
    ∙ length-append (filter (λ (ask : Ask). same_method (asked_method ask) methods.Chunk) xs) (filter (λ (ask : Ask). same_method (asked_method ask) methods.Chunk) ys)

pub chunks_are_counted : (asked : List Ask) (ask : Ask) → chunk_count (asked ++ ask ∷ []) ≡ (if same_method (asked_method ask) methods.Chunk then chunk_count asked + 1 else chunk_count asked)
chunks_are_counted asked ask = count_append asked (ask ∷ []) ∙ count_one (same_method (asked_method ask) methods.Chunk) ask (chunk_count asked)

pub number_stays : (first : Ask) (asked : List Ask) (ask : Ask) → least_usn (first ∷ asked ++ ask ∷ []) ≡ least_usn (first ∷ asked)
number_stays asks.Meta asked ask = refl
number_stays (asks.Start min_usn lmod) asked ask = refl
number_stays (asks.ApplyGraves ids) asked ask = refl
number_stays (asks.ApplyChanges changes) asked ask = refl
number_stays asks.Chunk asked ask = refl
number_stays (asks.ApplyChunk chunk) asked ask = refl
number_stays (asks.SanityCheck2 counts) asked ask = refl
number_stays asks.Finish asked ask = refl
number_stays (asks.Upload whole) asked ask = refl
number_stays asks.Download asked ask = refl

pub moment_stays : (first : Ask) (asked : List Ask) (ask : Ask) → device_moment (first ∷ asked ++ ask ∷ []) ≡ device_moment (first ∷ asked)
moment_stays asks.Meta asked ask = refl
moment_stays (asks.Start min_usn lmod) asked ask = refl
moment_stays (asks.ApplyGraves ids) asked ask = refl
moment_stays (asks.ApplyChanges changes) asked ask = refl
moment_stays asks.Chunk asked ask = refl
moment_stays (asks.ApplyChunk chunk) asked ask = refl
moment_stays (asks.SanityCheck2 counts) asked ask = refl
moment_stays asks.Finish asked ask = refl
moment_stays (asks.Upload whole) asked ask = refl
moment_stays asks.Download asked ask = refl

-- ---- chunks
-- chunks bring nothing
pub fold_of_chunks : (c : Collection) (chunks : List Ask) → AllByRecursion (λ (ask : Ask). ask ≡ asks.Chunk) chunks → fold_of c chunks ≡ c
fold_of_chunks c [] all = refl
fold_of_chunks c (ask ∷ more) all = ap (λ (a : Ask). fold_of (with_received (brought a) c) more) all.0 ∙ fold_of_chunks c more all.1

pub count_of_chunks : (chunks : List Ask) → AllByRecursion (λ (ask : Ask). ask ≡ asks.Chunk) chunks → chunk_count chunks ≡ length chunks
count_of_chunks [] all = refl
count_of_chunks (ask ∷ more) all =
    ap (λ (a : Ask). chunk_count (a ∷ more)) all.0 ∙ (let rest : chunk_count more ≡ length more = count_of_chunks more all.1 in omega (arith, rest))

pub asked_chunks : (chunks : List Request) → AllByRecursion (λ (chunk : Request). chunk.ask ≡ asks.Chunk) chunks → AllByRecursion (λ (ask : Ask). ask ≡ asks.Chunk) (asks_of chunks)
asked_chunks [] all = tt
asked_chunks (chunk ∷ more) all = (all.0, asked_chunks more all.1)
