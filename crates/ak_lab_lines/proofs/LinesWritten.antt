-- A text that is read as a line says that line.
use Rattle.std.proofs.Common.{◌≡◌, ◌≢◌, ◌⊎◌, ℕ, zero, suc, ◌^◌, ◌<◌, ◌==◌, nat_lt, ℤ, pos, negsuc, ◌≤ℤ◌, true, false, if◌then◌else◌, List, [], ◌∷◌, ◌++◌, drop, Option, Some, None, option_map, inl, inr, refl, sym, ap, subst, ◌∙◌, arith}
use Rattle.std.specs.Prelude.{codes}
use Rattle.std.proofs.lemmas.Bool.{eqb-true}
use Rattle.std.proofs.lemmas.Fmt.{decimal_digit}
use Rattle.std.proofs.lemmas.Grind.{common_steps}
use Rattle.std.proofs.lemmas.Int.{ints}
use Rattle.std.proofs.lemmas.Option.{same_Some, option_and_then_some}
use Rattle.std.specs.Cmp.Lexicographic.{bytes_decides}
use Rattle.std.specs.Fmt.{decimal, signed_decimal}
use Rattle.std.specs.Int.RustNames.{unsigned_abs}
use Rattle.ak_base.specs.Cuts.{begins, has, front, behind}
use Rattle.ak_base.specs.Decimals.{number_of}
use Rattle.ak_base.specs.Heads.{IsWithin}
use Rattle.ak_base.specs.declared.names.Table.TheVariants as tables
use Rattle.ak_desk_language.specs.Reading.{number_in, next_number}
use Rattle.ak_search.specs.Terms.{is_word}
use Rattle.ak_desk_language.proofs.Numerals.{number_written}
use Rattle.ak_desk_language.proofs.Spaces.{cut_back}
use Rattle.ak_lab_lines.specs.LabLines.{filled, word_of, next_word, is_device_name, side_of, shown_of, negated, signed_number, clock_line, device_line, shift_line, reviews_of, review_line, do_line, sync_line, lost_of, lose_line, repeat_line, another_word, cross_line, replay_line, resend_line, break_line, transfer_line, show_line, count_line, requests_line, line_of, lab_line_of}
use Rattle.ak_lab_lines.specs.LabTexts.{direction_word}
use Rattle.ak_lab_lines.specs.Written.{IsWord, IsSide, IsShown, AreReviews, IsLabNumber, IsCrossing, IsReplaying, side_word, shown_word, reviews_text, replaying_text, SaysLine}
use Rattle.ak_lab_lines.specs.declared.lab_lines.Direction.{Direction}
use Rattle.ak_lab_lines.specs.declared.lab_lines.Direction.TheVariants as directions
use Rattle.ak_lab_lines.specs.declared.lab_lines.LabLine.{LabLine}
use Rattle.ak_lab_lines.specs.declared.lab_lines.LabLine.TheVariants as lines
use Rattle.ak_lab_lines.specs.declared.lab_lines.Shown.{Shown}
use Rattle.ak_lab_lines.specs.declared.lab_lines.Shown.TheVariants as shown
use Rattle.ak_lab_lines.specs.declared.lab_lines.Side.TheVariants as sides
use Rattle.ak_sync_in_memory.specs.declared.mishaps.What.{What}
use Rattle.ak_sync_in_memory.specs.declared.mishaps.What.TheVariants as whats
use Rattle.ak_lab_lines.proofs.WordsRead.{below_zero}

map_some : {A B P : Type 0} (f : A → B) (o : Option A) (y : B) → option_map f o ≡ Some y → ((x : A) → o ≡ Some x → f x ≡ y → P) → P
map_some f None y h goes = grind (arith, h)
map_some f (Some x) y h goes = goes x refl (same_Some (f x) y h)

none_is : {A P : Type 0} (y : A) → ◌≡◌ {A = Option A} None (Some y) → P
none_is y h = absurd (grind (arith, h))

-- ---- words
filled_written : (text word : List ℕ) → filled text ≡ Some word → (text ≡ word) × (text ≢ [])
filled_written [] word h = none_is word h
filled_written (byte ∷ bytes) word h = (same_Some (byte ∷ bytes) word h, λ e. grind (arith, e))

word_written : (text word : List ℕ) → word_of text ≡ Some word → (text ≡ word) × IsWord word
word_written text word h =
    elim (has (codes " ") text) as (λ b. has (codes " ") text ≡ b → (if b then None else filled text) ≡ Some word → (text ≡ word) × IsWord word) [
      | true ↦ λ _ is. none_is word is
      | false ↦ λ lacks is. let f = filled_written text word is in (f.0, subst IsWord f.0 (record { filled = f.1; spaceless = lacks }))
    ] refl h

front_spaceless : (text : List ℕ) → has (codes " ") (front (codes " ") text) ≡ false
front_spaceless [] = refl
front_spaceless (byte ∷ text) =
    elim (32 == byte) as (λ b. (32 == byte) ≡ b → has (codes " ") (front (codes " ") (byte ∷ text)) ≡ false) [
      | true ↦ λ e. rw e refl
      | false ↦ λ e. rw e (rw e (front_spaceless text))
    ] refl

next_word_written : (text : List ℕ) (p : List ℕ × List ℕ) → next_word text ≡ Some p → (text ≡ p.0 ++ (32 ∷ p.1)) × IsWord p.0
next_word_written text p h =
    elim (has (codes " ") text) as (λ b. has (codes " ") text ≡ b → (if b then option_map (λ word. (word, behind (codes " ") text)) (filled (front (codes " ") text)) else None) ≡ Some p → (text ≡ p.0 ++ (32 ∷ p.1)) × IsWord p.0) [
      | true ↦ λ found is. map_some (λ word. (word, behind (codes " ") text)) (filled (front (codes " ") text)) p is (λ word was same.
          let f = filled_written (front (codes " ") text) word was in
          let P : List ℕ × List ℕ → Type 0 = λ q. (text ≡ q.0 ++ (32 ∷ q.1)) × IsWord q.0 in
          let w : IsWord word = subst IsWord f.0 (record { filled = f.1; spaceless = front_spaceless text }) in
          subst P same (cut_back text found ∙ ap (λ v. v ++ (32 ∷ behind (codes " ") text)) f.0, w))
      | false ↦ λ _ is. none_is p is
    ] refl h

-- the word of the first, or it is read among the others
named_or_other : {A P : Type 0} (text word : List ℕ) (first others : Option A) (y : A) → (text ≡ word → first ≡ Some y → P) → (others ≡ Some y → P)
    → (if is_word text word then first else others) ≡ Some y → P
named_or_other {P = P} text word first others y here there h =
    elim (is_word text word) as (λ b. is_word text word ≡ b → (if b then first else others) ≡ Some y → P) [
      | true ↦ λ same is. here ((bytes_decides text word).0 same) is
      | false ↦ λ _ is. there is
    ] refl h

-- a side is written by the word that names it
side_written : (word : List ℕ) → IsWord word → (side_word (side_of word) ≡ word) × IsSide (side_of word)
side_written word w =
    elim (is_word word (codes "server")) as (λ b. is_word word (codes "server") ≡ b → (side_word (if b then sides.Server else sides.Device word) ≡ word) × IsSide (if b then sides.Server else sides.Device word)) [
      | true ↦ λ same. (sym ((bytes_decides word (codes "server")).0 same), tt)
      | false ↦ λ e. (refl, (w, λ is. absurd (let same : true ≡ false = sym ((bytes_decides word (codes "server")).1 is) ∙ e in grind (arith, same))))
    ] refl

abbrev IsShownBy : List ℕ → Shown → Type 0
IsShownBy word what = (word ≡ shown_word what) × IsShown what

shown_as : (word : List ℕ) (what known : Shown) → IsShown known → word ≡ shown_word known → ◌≡◌ {A = Option Shown} (Some known) (Some what) → IsShownBy word what
shown_as word what known h is same = subst (IsShownBy word) (same_Some known what same) (is, h)

shown_written : (word : List ℕ) (what : Shown) → shown_of word ≡ Some what → IsShownBy word what
shown_written word what =
    named_or_other word (codes "notes") _ _ what (shown_as word what (shown.Rows tables.Note) refl) (
    named_or_other word (codes "cards") _ _ what (shown_as word what (shown.Rows tables.Card) refl) (
    named_or_other word (codes "reviews") _ _ what (shown_as word what (shown.Rows tables.Review) refl) (
    named_or_other word (codes "types") _ _ what (shown_as word what (shown.Rows tables.NoteType) refl) (
    named_or_other word (codes "decks") _ _ what (shown_as word what (shown.Rows tables.Deck) refl) (
    named_or_other word (codes "options") _ _ what (shown_as word what (shown.Rows tables.Options) refl) (
    named_or_other word (codes "graves") _ _ what (shown_as word what shown.Graves tt) (
    named_or_other word (codes "head") _ None what (shown_as word what shown.Head tt) (none_is what))))))))

-- ---- numbers
next_number_written : (least most : ℕ) (text : List ℕ) (p : ℤ × List ℕ) → most < 2 ^ 64 → next_number (least, most) text ≡ Some p
    → (text ≡ signed_decimal p.0 ++ (32 ∷ p.1)) × IsWithin (pos least) (pos most) p.0
next_number_written least most text p small h =
    elim (has (codes " ") text) as (λ b. has (codes " ") text ≡ b → (if b then option_map (λ n. (n, behind (codes " ") text)) (number_in (least, most) (front (codes " ") text)) else None) ≡ Some p → (text ≡ signed_decimal p.0 ++ (32 ∷ p.1)) × IsWithin (pos least) (pos most) p.0) [
      | true ↦ λ found is. map_some (λ n. (n, behind (codes " ") text)) (number_in (least, most) (front (codes " ") text)) p is (λ n was same.
          let w = number_written least most (front (codes " ") text) n small was in
          let P : ℤ × List ℕ → Type 0 = λ q. (text ≡ signed_decimal q.0 ++ (32 ∷ q.1)) × IsWithin (pos least) (pos most) q.0 in
          subst P same (cut_back text found ∙ ap (λ word. word ++ (32 ∷ behind (codes " ") text)) (sym w.0), w.1))
      | false ↦ λ _ is. none_is p is
    ] refl h

-- the text of a number that may have a `-`
abbrev IsSignedText : List ℕ → ℤ → Type 0
IsSignedText text z =
    IsWithin (negsuc 9_223_372_036_854_775_807) (pos 9_223_372_036_854_775_807) z
    × ((text ≡ signed_decimal z) ⊎ ((z ≡ pos 0) × (text ≡ codes "-0")))

minus_cut : (text : List ℕ) → begins (codes "-") text ≡ true → text ≡ 45 ∷ drop 1 text
minus_cut [] h = absurd (grind (arith, h))
minus_cut (byte ∷ bytes) h =
    elim (45 == byte) as (λ b. (45 == byte) ≡ b → (byte ∷ bytes) ≡ 45 ∷ bytes) [
      | true ↦ λ e. ap (λ first. first ∷ bytes) (sym (eqb-true 45 byte e))
      | false ↦ λ e. absurd (grind (arith, rw e at h))
    ] refl

number_of_in : (most n : ℕ) (text : List ℕ) → number_of most text ≡ Some n → number_in (0, most) text ≡ Some (pos n)
number_of_in most n text h = rw h (least_zero n)
  where
    least_zero : (n : ℕ) → (if nat_lt n 0 then None else Some (pos n)) ≡ Some (pos n)
    least_zero n = grind (arith, common_steps)

least_shift : (k : ℕ) → pos (suc k) ≤ℤ pos 9_223_372_036_854_775_808 → IsWithin (negsuc 9_223_372_036_854_775_807) (pos 9_223_372_036_854_775_807) (negsuc k)
least_shift k h = record { low = omega (arith, ints, h); high = omega (arith, ints) }

-- a number after a `-`, by the text of its digits
negated_written : (text digits : List ℕ) (n : ℕ) → text ≡ 45 ∷ digits → decimal n ≡ digits → pos n ≤ℤ pos 9_223_372_036_854_775_808 → IsSignedText text (negated n)
negated_written text digits zero is same h =
    (record { low = omega (arith, ints); high = omega (arith, ints) }, inr (refl, is ∙ ap (λ ds. 45 ∷ ds) (sym same ∙ decimal_digit 0 (omega arith))))
negated_written text digits (suc k) is same h =
    subst (IsSignedText text) (sym (below_zero k)) (least_shift k h, inl (is ∙ ap (λ ds. 45 ∷ ds) (sym same)))

from_zero : (z : ℤ) → IsWithin (pos 0) (pos 9_223_372_036_854_775_807) z → IsWithin (negsuc 9_223_372_036_854_775_807) (pos 9_223_372_036_854_775_807) z
from_zero z w = record { low = omega (arith, ints, w.low); high = w.high }

signed_written : (text : List ℕ) (z : ℤ) → signed_number text ≡ Some z → IsSignedText text z
signed_written text z h =
    elim (begins (codes "-") text) as (λ b. begins (codes "-") text ≡ b → (if b then option_map negated (number_of 9_223_372_036_854_775_808 (drop 1 text)) else number_in (0, 9_223_372_036_854_775_807) text) ≡ Some z → IsSignedText text z) [
      | true ↦ λ minus is. map_some negated (number_of 9_223_372_036_854_775_808 (drop 1 text)) z is (λ n was same.
          let w = number_written 0 9_223_372_036_854_775_808 (drop 1 text) (pos n) (omega arith) (number_of_in 9_223_372_036_854_775_808 n (drop 1 text) was) in
          subst (IsSignedText text) same (negated_written text (drop 1 text) n (minus_cut text minus) w.0 w.1.high))
      | false ↦ λ _ is.
          let w = number_written 0 9_223_372_036_854_775_807 text z (omega arith) is in
          (from_zero z w.1, inl (sym w.0))
    ] refl h

-- ---- lines
-- the word, a space and this text say the line
abbrev SaysAfter : List ℕ → List ℕ → LabLine → Type 0
SaysAfter word text line = SaysLine (word ++ (32 ∷ text)) line

clock_written : (text : List ℕ) (line : LabLine) → clock_line text ≡ Some line → SaysAfter (codes "clock") text line
clock_written text line h =
    map_some lines.Clock (number_in (0, 9_223_372_036_854_775_807) text) line h (λ at was is.
    let w = number_written 0 9_223_372_036_854_775_807 text at (omega arith) was in
    subst (SaysAfter (codes "clock") text) is (w.1, inl (ap (λ digits. codes "clock " ++ digits) (sym w.0))))

device_written : (text : List ℕ) (line : LabLine) → device_line text ≡ Some line → SaysAfter (codes "device") text line
device_written text line h =
    elim (is_device_name text) as (λ b. is_device_name text ≡ b → (if b then Some (lines.Device text) else None) ≡ Some line → SaysAfter (codes "device") text line) [
      | true ↦ λ good is. subst (SaysAfter (codes "device") text) (same_Some (lines.Device text) line is) (good, inl refl)
      | false ↦ λ _ is. none_is line is
    ] refl h

shift_said : (text device number : List ℕ) (by : ℤ) → text ≡ device ++ (32 ∷ number) → IsWord device → IsSignedText number by → SaysAfter (codes "shift") text (lines.Shift device by)
shift_said text device number by is w (within, inl digits) =
    ((w, within), inl (ap (λ t. codes "shift " ++ t) (is ∙ ap (λ ds. device ++ (32 ∷ ds)) digits)))
shift_said text device number by is w (within, inr zero_is) =
    ((w, within), inr (zero_is.0, ap (λ t. codes "shift " ++ t) (is ∙ ap (λ ds. device ++ (32 ∷ ds)) zero_is.1)))

shift_written : (text : List ℕ) (line : LabLine) → shift_line text ≡ Some line → SaysAfter (codes "shift") text line
shift_written text line h =
    option_and_then_some _ (next_word text) line h (λ p one more.
    map_some (lines.Shift p.0) (signed_number p.1) line more (λ by was is.
    let n = next_word_written text p one in
    subst (SaysAfter (codes "shift") text) is (shift_said text p.0 p.1 by n.0 n.1 (signed_written p.1 by was))))

-- the card, the button and the number of reviews in a text
abbrev IsReviews : List ℕ → List ℕ → LabLine → Type 0
IsReviews device text (lines.Review named card ease count) =
    (named ≡ device) × (text ≡ reviews_text card ease count) × AreReviews card ease count
IsReviews device text line = ⊥

are_reviews : (card ease count : ℤ) → IsWithin (pos 1) (pos 9_007_199_254_740_991) card → IsWithin (pos 1) (pos 4) ease → IsWithin (pos 1) (pos 100_000) count
    → AreReviews card ease (unsigned_abs count) × (decimal (unsigned_abs count) ≡ signed_decimal count)
are_reviews card ease (pos n) id button w = (record { id = id; button = button; least = omega (arith, ints, w.low); most = omega (arith, ints, w.high) }, refl)
are_reviews card ease (negsuc n) id button w = absurd (omega (arith, ints, w.low))

reviews_written : (device text : List ℕ) (line : LabLine) → reviews_of device text ≡ Some line → IsReviews device text line
reviews_written device text line h =
    option_and_then_some _ (next_number (1, 9_007_199_254_740_991) text) line h (λ card one more.
    option_and_then_some _ (next_number (1, 4) card.1) line more (λ ease two last.
    map_some (λ count. lines.Review device card.0 ease.0 (unsigned_abs count)) (number_in (1, 100_000) ease.1) line last (λ count was is.
    let c = next_number_written 1 9_007_199_254_740_991 text card (omega arith) one in
    let e = next_number_written 1 4 card.1 ease (omega arith) two in
    let n = number_written 1 100_000 ease.1 count (omega arith) was in
    let r = are_reviews card.0 ease.0 count c.1 e.1 n.1 in
    let last_text : ease.1 ≡ decimal (unsigned_abs count) = sym n.0 ∙ sym r.1 in
    let others : card.1 ≡ signed_decimal ease.0 ++ (32 ∷ decimal (unsigned_abs count)) = e.0 ∙ ap (λ t. signed_decimal ease.0 ++ (32 ∷ t)) last_text in
    subst (IsReviews device text) is (refl, c.0 ∙ ap (λ t. signed_decimal card.0 ++ (32 ∷ t)) others, r.0))))

review_said : (text device numbers : List ℕ) (line : LabLine) → text ≡ device ++ (32 ∷ numbers) → IsWord device → IsReviews device numbers line → SaysAfter (codes "review") text line
review_said text device numbers (lines.Review named card ease count) is w r =
    ((subst IsWord (sym r.0) w, r.2), inl (ap (λ t. codes "review " ++ t) (is ∙ ap (λ t. device ++ (32 ∷ t)) r.1 ∙ ap (λ d. d ++ (32 ∷ reviews_text card ease count)) (sym r.0))))
review_said text device numbers line is w r = absurd r

review_written : (text : List ℕ) (line : LabLine) → review_line text ≡ Some line → SaysAfter (codes "review") text line
review_written text line h =
    option_and_then_some _ (next_word text) line h (λ p one more.
    let n = next_word_written text p one in
    review_said text p.0 p.1 line n.0 n.1 (reviews_written p.0 p.1 line more))

do_written : (text : List ℕ) (line : LabLine) → do_line text ≡ Some line → SaysAfter (codes "do") text line
do_written text line h =
    map_some (λ p. lines.Do p.0 p.1) (next_word text) line h (λ p one is.
    let n = next_word_written text p one in
    subst (SaysAfter (codes "do") text) is (n.1, inl (ap (λ t. codes "do " ++ t) n.0)))

sync_written : (text : List ℕ) (line : LabLine) → sync_line text ≡ Some line → SaysAfter (codes "sync") text line
sync_written text line h =
    map_some lines.Sync (word_of text) line h (λ word one is.
    let w = word_written text word one in
    subst (SaysAfter (codes "sync") text) is (w.1, inl (ap (λ t. codes "sync " ++ t) w.0)))

-- a number that is not bounded
abbrev Counted : List ℕ → ℤ → Type 0
Counted text z = IsLabNumber (unsigned_abs z) × (decimal (unsigned_abs z) ≡ text)

counted : (text : List ℕ) (z : ℤ) → signed_decimal z ≡ text → IsWithin (pos 0) (pos 9_223_372_036_854_775_807) z → Counted text z
counted text (pos n) is w = (omega (arith, ints, w.high), is)
counted text (negsuc n) is w = absurd (omega (arith, ints, w.low))

next_counted : (text : List ℕ) (p : ℤ × List ℕ) → next_number (0, 9_223_372_036_854_775_807) text ≡ Some p
    → (text ≡ decimal (unsigned_abs p.0) ++ (32 ∷ p.1)) × IsLabNumber (unsigned_abs p.0)
next_counted text p h =
    let w = next_number_written 0 9_223_372_036_854_775_807 text p (omega arith) h in
    let c = counted (signed_decimal p.0) p.0 refl w.1 in
    (w.0 ∙ ap (λ digits. digits ++ (32 ∷ p.1)) (sym c.1), c.0)

last_counted : (text : List ℕ) (z : ℤ) → number_in (0, 9_223_372_036_854_775_807) text ≡ Some z → Counted text z
last_counted text z h =
    let w = number_written 0 9_223_372_036_854_775_807 text z (omega arith) h in
    counted text z w.0 w.1

-- ---- what the lines between syncs say
-- the word of a message that is lost
abbrev LosesBy : List ℕ → What → Type 0
LosesBy word whats.LoseRequest = word ≡ codes "request"
LosesBy word whats.LoseReply = word ≡ codes "reply"
LosesBy word whats.Repeat = ⊥

lost_as : (word : List ℕ) (what known : What) → LosesBy word known → ◌≡◌ {A = Option What} (Some known) (Some what) → LosesBy word what
lost_as word what known is same = subst (LosesBy word) (same_Some known what same) is

lost_written : (word : List ℕ) (what : What) → lost_of word ≡ Some what → LosesBy word what
lost_written word what =
    named_or_other word (codes "request") _ _ what (lost_as word what whats.LoseRequest) (
    named_or_other word (codes "reply") _ None what (lost_as word what whats.LoseReply) (none_is what))

losing_said : (text device rest word : List ℕ) (call : ℕ) (what : What) → text ≡ device ++ (32 ∷ rest) → IsWord device → rest ≡ decimal call ++ (32 ∷ word) → IsLabNumber call
    → LosesBy word what → SaysAfter (codes "lose") text (lines.Disturb device call what)
losing_said text device rest word call whats.LoseRequest is w parts small lost =
    ((w, small), inl (ap (λ t. codes "lose " ++ t) (is ∙ ap (λ t. device ++ (32 ∷ t)) (parts ∙ ap (λ v. decimal call ++ (32 ∷ v)) lost))))
losing_said text device rest word call whats.LoseReply is w parts small lost =
    ((w, small), inl (ap (λ t. codes "lose " ++ t) (is ∙ ap (λ t. device ++ (32 ∷ t)) (parts ∙ ap (λ v. decimal call ++ (32 ∷ v)) lost))))
losing_said text device rest word call whats.Repeat is w parts small lost = absurd lost

lose_written : (text : List ℕ) (line : LabLine) → lose_line text ≡ Some line → SaysAfter (codes "lose") text line
lose_written text line h =
    option_and_then_some _ (next_word text) line h (λ p one more.
    option_and_then_some _ (next_number (0, 9_223_372_036_854_775_807) p.1) line more (λ call two last.
    map_some (lines.Disturb p.0 (unsigned_abs call.0)) (lost_of call.1) line last (λ what was is.
    let n = next_word_written text p one in
    let c = next_counted p.1 call two in
    subst (SaysAfter (codes "lose") text) is (losing_said text p.0 p.1 call.1 (unsigned_abs call.0) what n.0 n.1 c.0 c.1 (lost_written call.1 what was)))))

repeat_written : (text : List ℕ) (line : LabLine) → repeat_line text ≡ Some line → SaysAfter (codes "repeat") text line
repeat_written text line h =
    option_and_then_some _ (next_word text) line h (λ p one more.
    map_some (λ call. lines.Disturb p.0 (unsigned_abs call) whats.Repeat) (number_in (0, 9_223_372_036_854_775_807) p.1) line more (λ call was is.
    let n = next_word_written text p one in
    let c = last_counted p.1 call was in
    subst (SaysAfter (codes "repeat") text) is ((n.1, c.0), inl (ap (λ t. codes "repeat " ++ t) (n.0 ∙ ap (λ t. p.0 ++ (32 ∷ t)) (sym c.1))))))

another_written : (first text word : List ℕ) → another_word first text ≡ Some word → (text ≡ word) × IsWord word × (word ≢ first)
another_written first text word h =
    elim (is_word text first) as (λ b. is_word text first ≡ b → (if b then None else word_of text) ≡ Some word → (text ≡ word) × IsWord word × (word ≢ first)) [
      | true ↦ λ _ is. none_is word is
      | false ↦ λ e is.
          let w = word_written text word is in
          (w.0, w.1, λ same. absurd (let both : true ≡ false = sym ((bytes_decides text first).1 (w.0 ∙ same)) ∙ e in grind (arith, both)))
    ] refl h

cross_written : (text : List ℕ) (line : LabLine) → cross_line text ≡ Some line → SaysAfter (codes "cross") text line
cross_written text line h =
    option_and_then_some _ (next_word text) line h (λ p one more.
    option_and_then_some _ (next_number (0, 9_223_372_036_854_775_807) p.1) line more (λ call two last.
    map_some (lines.Cross p.0 (unsigned_abs call.0)) (another_word p.0 call.1) line last (λ other was is.
    let n = next_word_written text p one in
    let c = next_counted p.1 call two in
    let o = another_written p.0 call.1 other was in
    let crossing : IsCrossing p.0 (unsigned_abs call.0) other = record { call_fits = c.1; word = o.1; another = o.2 } in
    subst (SaysAfter (codes "cross") text) is ((n.1, crossing), inl (ap (λ t. codes "cross " ++ t) (n.0 ∙ ap (λ t. p.0 ++ (32 ∷ t)) (c.0 ∙ ap (λ v. decimal (unsigned_abs call.0) ++ (32 ∷ v)) o.0)))))))

replay_written : (text : List ℕ) (line : LabLine) → replay_line text ≡ Some line → SaysAfter (codes "replay") text line
replay_written text line h =
    option_and_then_some _ (next_word text) line h (λ p one more.
    option_and_then_some _ (next_number (0, 9_223_372_036_854_775_807) p.1) line more (λ call two last.
    option_and_then_some _ (next_number (0, 9_223_372_036_854_775_807) call.1) line last (λ from three end.
    map_some (λ count. lines.Replay p.0 (unsigned_abs call.0) (unsigned_abs from.0) (unsigned_abs count)) (number_in (0, 9_223_372_036_854_775_807) from.1) line end (λ count was is.
    let n = next_word_written text p one in
    let c = next_counted p.1 call two in
    let f = next_counted call.1 from three in
    let l = last_counted from.1 count was in
    let replaying : IsReplaying (unsigned_abs call.0) (unsigned_abs from.0) (unsigned_abs count) = record { call_fits = c.1; from_fits = f.1; count_fits = l.0 } in
    let numbers : p.1 ≡ replaying_text (unsigned_abs call.0) (unsigned_abs from.0) (unsigned_abs count) =
    c.0 ∙ ap (λ t. decimal (unsigned_abs call.0) ++ (32 ∷ t)) (f.0 ∙ ap (λ t. decimal (unsigned_abs from.0) ++ (32 ∷ t)) (sym l.1)) in
    subst (SaysAfter (codes "replay") text) is ((n.1, replaying), inl (ap (λ t. codes "replay " ++ t) (n.0 ∙ ap (λ t. p.0 ++ (32 ∷ t)) numbers)))))))

resend_written : (text : List ℕ) (line : LabLine) → resend_line text ≡ Some line → SaysAfter (codes "resend") text line
resend_written text line h =
    option_and_then_some _ (next_number (0, 9_223_372_036_854_775_807) text) line h (λ from one more.
    map_some (λ count. lines.Resend (unsigned_abs from.0) (unsigned_abs count)) (number_in (0, 9_223_372_036_854_775_807) from.1) line more (λ count was is.
    let f = next_counted text from one in
    let l = last_counted from.1 count was in
    subst (SaysAfter (codes "resend") text) is ((f.1, l.0), inl (ap (λ t. codes "resend " ++ t) (f.0 ∙ ap (λ t. decimal (unsigned_abs from.0) ++ (32 ∷ t)) (sym l.1))))))

break_written : (text : List ℕ) (line : LabLine) → break_line text ≡ Some line → SaysAfter (codes "break") text line
break_written text line h =
    map_some (λ word. lines.Break (side_of word)) (word_of text) line h (λ word one is.
    let w = word_written text word one in
    let s = side_written word w.1 in
    subst (SaysAfter (codes "break") text) is (s.1, inl (ap (λ t. codes "break " ++ t) (w.0 ∙ sym s.0))))

transfer_written : (direction : Direction) (text : List ℕ) (line : LabLine) → transfer_line direction text ≡ Some line → SaysAfter (direction_word direction) text line
transfer_written direction text line h =
    map_some (lines.Transfer direction) (word_of text) line h (λ word one is.
    let w = word_written text word one in
    subst (SaysAfter (direction_word direction) text) is (w.1, inl (ap (λ t. direction_word direction ++ (32 ∷ t)) w.0)))

requests_written : (text : List ℕ) (line : LabLine) → requests_line text ≡ Some line → SaysAfter (codes "requests") text line
requests_written text line h =
    map_some lines.Requests (word_of text) line h (λ word one is.
    let w = word_written text word one in
    subst (SaysAfter (codes "requests") text) is (w.1, inl (ap (λ t. codes "requests " ++ t) w.0)))

count_written : (text : List ℕ) (line : LabLine) → count_line text ≡ Some line → SaysAfter (codes "count") text line
count_written text line h =
    map_some (λ word. lines.Count (side_of word)) (word_of text) line h (λ word one is.
    let w = word_written text word one in
    let s = side_written word w.1 in
    subst (SaysAfter (codes "count") text) is (s.1, inl (ap (λ t. codes "count " ++ t) (w.0 ∙ sym s.0))))

show_written : (text : List ℕ) (line : LabLine) → show_line text ≡ Some line → SaysAfter (codes "show") text line
show_written text line h =
    option_and_then_some _ (next_word text) line h (λ p one more.
    map_some (lines.Show (side_of p.0)) (shown_of p.1) line more (λ what was is.
    let n = next_word_written text p one in
    let s = side_written p.0 n.1 in
    let t = shown_written p.1 what was in
    let parts : text ≡ side_word (side_of p.0) ++ (32 ∷ shown_word what) = n.0 ∙ ap (λ side. side ++ (32 ∷ p.1)) (sym s.0) ∙ ap (λ table. side_word (side_of p.0) ++ (32 ∷ table)) t.0 in
    subst (SaysAfter (codes "show") text) is ((s.1, t.1), inl (ap (λ t. codes "show " ++ t) parts))))

-- the line of a verb, by what follows it
by_verb : (word verb text : List ℕ) (line : LabLine) (read : Option LabLine) → (read ≡ Some line → SaysAfter verb text line) → word ≡ verb → read ≡ Some line → SaysAfter word text line
by_verb word verb text line read says is was = subst (λ w. SaysAfter w text line) (sym is) (says was)

line_written : (word text : List ℕ) (line : LabLine) → line_of word text ≡ Some line → SaysAfter word text line
line_written word text line =
    named_or_other word (codes "clock") _ _ line (by_verb word (codes "clock") text line _ (clock_written text line)) (
    named_or_other word (codes "device") _ _ line (by_verb word (codes "device") text line _ (device_written text line)) (
    named_or_other word (codes "shift") _ _ line (by_verb word (codes "shift") text line _ (shift_written text line)) (
    named_or_other word (codes "review") _ _ line (by_verb word (codes "review") text line _ (review_written text line)) (
    named_or_other word (codes "do") _ _ line (by_verb word (codes "do") text line _ (do_written text line)) (
    named_or_other word (codes "sync") _ _ line (by_verb word (codes "sync") text line _ (sync_written text line)) (
    named_or_other word (codes "lose") _ _ line (by_verb word (codes "lose") text line _ (lose_written text line)) (
    named_or_other word (codes "repeat") _ _ line (by_verb word (codes "repeat") text line _ (repeat_written text line)) (
    named_or_other word (codes "cross") _ _ line (by_verb word (codes "cross") text line _ (cross_written text line)) (
    named_or_other word (codes "replay") _ _ line (by_verb word (codes "replay") text line _ (replay_written text line)) (
    named_or_other word (codes "resend") _ _ line (by_verb word (codes "resend") text line _ (resend_written text line)) (
    named_or_other word (codes "break") _ _ line (by_verb word (codes "break") text line _ (break_written text line)) (
    named_or_other word (codes "upload") _ _ line (by_verb word (codes "upload") text line _ (transfer_written directions.Upload text line)) (
    named_or_other word (codes "download") _ _ line (by_verb word (codes "download") text line _ (transfer_written directions.Download text line)) (
    named_or_other word (codes "show") _ _ line (by_verb word (codes "show") text line _ (show_written text line)) (
    named_or_other word (codes "count") _ _ line (by_verb word (codes "count") text line _ (count_written text line)) (
    named_or_other word (codes "requests") _ None line (by_verb word (codes "requests") text line _ (requests_written text line)) (none_is line)))))))))))))))))

pub read_said : (text : List ℕ) (line : LabLine) → lab_line_of text ≡ Some line → SaysLine text line
read_said text line h =
    elim (has (codes " ") text) as (λ b. has (codes " ") text ≡ b → (if b then line_of (front (codes " ") text) (behind (codes " ") text) else None) ≡ Some line → SaysLine text line) [
      | true ↦ λ found is. subst (λ t. SaysLine t line) (sym (cut_back text found)) (line_written (front (codes " ") text) (behind (codes " ") text) line is)
      | false ↦ λ _ is. none_is line is
    ] refl h
