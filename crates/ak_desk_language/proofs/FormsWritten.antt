-- A form that is read is that of the text.
use Rattle.std.proofs.Common.{◌≡◌, ℕ, zero, suc, ◌+◌, ◌^◌, ◌<◌, ◌≤◌, ◌==◌, ℤ, pos, Bool, true, false, not, ◌&&◌, if◌then◌else◌, List, [], ◌∷◌, ◌++◌, length, map, Option, Some, None, option_and_then, option_map, inl, inr, ◌⊎◌, refl, sym, ap, subst, ◌∙◌, arith, append-nil, length-append}
use Rattle.std.specs.Prelude.{codes}
use Rattle.std.specs.Cmp.Lexicographic.{pointwise, bytes_decides}
use Rattle.std.proofs.lemmas.List.{length-map}
use Rattle.std.proofs.lemmas.List.Splits.{join_with_byte-slice_split, length-slice_split}
use Rattle.std.proofs.lemmas.Option.{same_Some, option_and_then_some}
use Rattle.std.specs.Fmt.{signed_decimal}
use Rattle.std.specs.List.{join_with_byte, slice_split, count_by}
use Rattle.ak_base.specs.Cuts.{has, front, behind}
use Rattle.ak_base.specs.Heads.{IsWithin}
use Rattle.ak_desk_language.specs.declared.verbs.Verb.{Verb}
use Rattle.ak_desk_language.specs.declared.verbs.Verb.TheVariants as verbs
use Rattle.ak_desk_language.specs.LineForms.{Tail, Nothing, Ids, AnyText, LineForm, tail_words, allow_words, words_of, AreInRanges, AreIds, HasOne, EndsAs, HasForm}
use Rattle.ak_desk_language.specs.Reading.{verb_of, lone_verb_of, allowed_verb_of, number_in, next_number, numbers_of, ids_of, Arguments, only, with_number, side_of, ending_in, arguments_before, arguments_alone, arguments_in, line_form, verb_form, lone_form, allowed_words_form, allowed_form, words_form, form_of}
use Rattle.ak_search.specs.Terms.{is_word}
use Rattle.ak_desk_language.specs.Verbs.{verb_text, may_allow, Range, any_id, ranges_of, Ending, AtOnce, WithIds, WithSide, WithText, ending_of}
use Rattle.ak_desk_language.proofs.FormsRead.{digits, join_cons, small_first}
use Rattle.ak_desk_language.proofs.Numerals.{number_written}
use Rattle.ak_desk_language.proofs.Spaces.{cut_back}
use Rattle.ak_desk_language.proofs.VerbWords.{are_small, small, verb_named, lone_named, allowed_named, allowed_may}

pub map_some : {A B P : Type 0} (f : A → B) (o : Option A) (y : B) → option_map f o ≡ Some y → ((x : A) → o ≡ Some x → f x ≡ y → P) → P
map_some f None y h goes = grind (arith, h)
map_some f (Some x) y h goes = goes x refl (same_Some (f x) y h)

pub none_is : {A P : Type 0} (y : A) → ◌≡◌ {A = Option A} None (Some y) → P
none_is y h = absurd (grind (arith, h))

-- the text is these arguments, and they are as they should be
record IsWritten (ranges : List Range) (ending : Ending) (text : List ℕ) (a : Arguments) : Type 0 where
  words : text ≡ join_with_byte 32 (digits a.numbers ++ tail_words a.tail)
  some : 0 < length (digits a.numbers ++ tail_words a.tail)
  in_ranges : AreInRanges ranges a.numbers
  ends : EndsAs ending a.tail

-- ---- ids
numbers_written : (words : List (List ℕ)) (zs : List ℤ) → numbers_of words ≡ Some zs → (digits zs ≡ words) × AreIds zs
numbers_written [] zs h = let e : [] ≡ zs = same_Some [] zs h in (ap digits (sym e), subst AreIds e tt)
numbers_written (word ∷ words) zs h =
    option_and_then_some _ (number_in any_id word) zs h (λ n one more.
    map_some (λ ns. n ∷ ns) (numbers_of words) zs more (λ ns was is.
    let w = number_written 0 9_223_372_036_854_775_807 word n (omega arith) one in
    let others = numbers_written words ns was in
    (ap digits (sym is) ∙ ap (λ x. x ∷ digits ns) w.0 ∙ ap (λ xs. word ∷ xs) others.0, subst AreIds is (w.1, others.1))))

one_at_least : (zs : List ℤ) → 0 < length zs → HasOne zs
one_at_least [] h = absurd (omega (arith, h))
one_at_least (z ∷ zs) h = tt

ids_written : (text : List ℕ) (ids : List ℤ) → ids_of text ≡ Some ids → (text ≡ join_with_byte 32 (digits ids)) × (0 < length ids) × AreIds ids
ids_written text ids h =
    let n = numbers_written (slice_split (λ byte. byte == 32) text) ids h in
    (sym (join_with_byte-slice_split 32 text) ∙ ap (join_with_byte 32) (sym n.0), counted, n.1)
  where
    counted : 0 < length ids
    counted =
        let n = numbers_written (slice_split (λ byte. byte == 32) text) ids h in
        omega (arith, ap length n.0, length-map ids signed_decimal, length-slice_split (λ byte. byte == 32) text)

-- ---- arguments
side_written : (text : List ℕ) (a : Arguments) → side_of text ≡ Some a → IsWritten [] WithSide text a
side_written text a h =
    elim (is_word text (codes "front")) as (λ b. is_word text (codes "front") ≡ b → (if b then Some (only (AnyText (codes "front"))) else (if is_word text (codes "back") then Some (only (AnyText (codes "back"))) else None)) ≡ Some a → IsWritten [] WithSide text a) [
      | true ↦ λ same is. subst (IsWritten [] WithSide text) (same_Some _ a is) (record { words = (bytes_decides text (codes "front")).0 same; some = omega arith; in_ranges = tt; ends = inl refl })
      | false ↦ λ _ others. elim (is_word text (codes "back")) as (λ b. is_word text (codes "back") ≡ b → (if b then Some (only (AnyText (codes "back"))) else None) ≡ Some a → IsWritten [] WithSide text a) [
        | true ↦ λ same is. subst (IsWritten [] WithSide text) (same_Some _ a is) (record { words = (bytes_decides text (codes "back")).0 same; some = omega arith; in_ranges = tt; ends = inr refl })
        | false ↦ λ _ is. none_is a is
      ] refl others
    ] refl h

ending_written : (ending : Ending) (text : List ℕ) (a : Arguments) → ending_in ending text ≡ Some a → IsWritten [] ending text a
ending_written AtOnce text a h = none_is a h
ending_written WithIds text a h =
    map_some (λ ids. only (Ids ids)) (ids_of text) a h (λ ids was is.
    let w = ids_written text ids was in
    subst (IsWritten [] WithIds text) is (record { words = w.0; some = omega (arith, w.1, length-map ids signed_decimal); in_ranges = tt; ends = (one_at_least ids w.1, w.2) }))
ending_written WithSide text a h = side_written text a h
ending_written WithText text a h = subst (IsWritten [] WithText text) (same_Some _ a h) (record { words = refl; some = omega arith; in_ranges = tt; ends = tt })

-- the number before the first space
next_written : (range : Range) (text : List ℕ) (p : ℤ × List ℕ) → range.1 < 2 ^ 64 → next_number range text ≡ Some p
    → (text ≡ signed_decimal p.0 ++ (32 ∷ p.1)) × IsWithin (pos range.0) (pos range.1) p.0
next_written range text p small h =
    elim (has (codes " ") text) as (λ b. has (codes " ") text ≡ b → (if b then option_map (λ n. (n, behind (codes " ") text)) (number_in range (front (codes " ") text)) else None) ≡ Some p → (text ≡ signed_decimal p.0 ++ (32 ∷ p.1)) × IsWithin (pos range.0) (pos range.1) p.0) [
      | true ↦ λ found is. map_some (λ n. (n, behind (codes " ") text)) (number_in range (front (codes " ") text)) p is (λ n was same.
          let w = number_written range.0 range.1 (front (codes " ") text) n small was in
          let P : ℤ × List ℕ → Type 0 = λ q. (text ≡ signed_decimal q.0 ++ (32 ∷ q.1)) × IsWithin (pos range.0) (pos range.1) q.0 in
          subst P same (cut_back text found ∙ ap (λ word. word ++ (32 ∷ behind (codes " ") text)) (sym w.0), w.1))
      | false ↦ λ _ is. none_is p is
    ] refl h

-- one number more in front
with_one : (range : Range) (ranges : List Range) (ending : Ending) (text rest : List ℕ) (z : ℤ) (a : Arguments) → text ≡ signed_decimal z ++ (32 ∷ rest) → IsWithin (pos range.0) (pos range.1) z
    → IsWritten ranges ending rest a → IsWritten (range ∷ ranges) ending text (with_number z a)
with_one range ranges ending text rest z a is within w = record {
  words = is ∙ ap (λ xs. signed_decimal z ++ (32 ∷ xs)) w.words ∙ sym (join_cons (signed_decimal z) (digits a.numbers ++ tail_words a.tail) w.some);
  some = omega arith;
  in_ranges = (within, w.in_ranges);
  ends = w.ends;
}

before_written : (ranges : List Range) (ending : Ending) (text : List ℕ) (a : Arguments) → are_small ranges ≡ true → arguments_before ranges ending text ≡ Some a → IsWritten ranges ending text a
before_written [] ending text a s h = ending_written ending text a h
before_written (range ∷ ranges) ending text a s h =
    let small = small_first range ranges s in
    option_and_then_some _ (next_number range text) a h (λ p one more.
    map_some (with_number p.0) (arguments_before ranges ending p.1) a more (λ others was is.
    let n = next_written range text p small.0 one in
    subst (IsWritten (range ∷ ranges) ending text) is (with_one range ranges ending text p.1 p.0 others n.0 n.1 (before_written ranges ending p.1 others small.1 was))))

alone_written : (ranges : List Range) (text : List ℕ) (a : Arguments) → are_small ranges ≡ true → arguments_alone ranges text ≡ Some a → IsWritten ranges AtOnce text a
alone_written [] text a s h = none_is a h
alone_written (range ∷ []) text a s h =
    map_some (λ n. with_number n (only Nothing)) (number_in range text) a h (λ n was is.
    let w = number_written range.0 range.1 text n (small_first range [] s).0 was in
    subst (IsWritten (range ∷ []) AtOnce text) is (record { words = sym w.0; some = omega arith; in_ranges = (w.1, tt); ends = tt }))
alone_written (range ∷ next ∷ ranges) text a s h =
    let small = small_first range (next ∷ ranges) s in
    option_and_then_some _ (next_number range text) a h (λ p one more.
    map_some (with_number p.0) (arguments_alone (next ∷ ranges) p.1) a more (λ others was is.
    let n = next_written range text p small.0 one in
    subst (IsWritten (range ∷ next ∷ ranges) AtOnce text) is (with_one range (next ∷ ranges) AtOnce text p.1 p.0 others n.0 n.1 (alone_written (next ∷ ranges) p.1 others small.1 was))))

arguments_written : (ranges : List Range) (ending : Ending) (text : List ℕ) (a : Arguments) → are_small ranges ≡ true → arguments_in ranges ending text ≡ Some a → IsWritten ranges ending text a
arguments_written ranges AtOnce text a s h = alone_written ranges text a s h
arguments_written ranges WithIds text a s h = before_written ranges WithIds text a s h
arguments_written ranges WithSide text a s h = before_written ranges WithSide text a s h
arguments_written ranges WithText text a s h = before_written ranges WithText text a s h

-- ---- lines
not_true_allow : (verb : Verb) → false ≡ true → may_allow verb ≡ true
not_true_allow verb h = absurd (grind (arith, h))

-- a verb and its arguments
verb_written : (allow : Bool) (verb : Verb) (text : List ℕ) (rest : List ℕ) (f : LineForm) → (allow ≡ true → may_allow verb ≡ true)
    → text ≡ join_with_byte 32 (allow_words allow ++ (verb_text verb ++ (32 ∷ rest)) ∷ [])
    → verb_form allow verb rest ≡ Some f → HasForm text f
verb_written allow verb text rest f may is h =
    map_some (line_form allow verb) (arguments_in (ranges_of verb) (ending_of verb) rest) f h (λ a was same.
    let w = arguments_written (ranges_of verb) (ending_of verb) rest a (small verb) was in
    let joined : verb_text verb ++ (32 ∷ rest) ≡ join_with_byte 32 (verb_text verb ∷ (digits a.numbers ++ tail_words a.tail)) =
    ap (λ xs. verb_text verb ++ (32 ∷ xs)) w.words ∙ sym (join_cons (verb_text verb) (digits a.numbers ++ tail_words a.tail) w.some) in
    subst (HasForm text) same (record { words = is ∙ with_allow allow (verb_text verb ++ (32 ∷ rest)) (verb_text verb) (digits a.numbers ++ tail_words a.tail) joined; allowed = may; numbers = w.in_ranges; ends = w.ends }))
  where
    with_allow : (allow : Bool) (text first : List ℕ) (others : List (List ℕ)) → text ≡ join_with_byte 32 (first ∷ others)
        → join_with_byte 32 (allow_words allow ++ (text ∷ [])) ≡ join_with_byte 32 (allow_words allow ++ (first ∷ others))
    with_allow true text first others e = ap (λ xs. codes "allow" ++ (32 ∷ xs)) e
    with_allow false text first others e = e

allowed_written : (text rest : List ℕ) (f : LineForm) → text ≡ codes "allow" ++ (32 ∷ rest) → allowed_form rest ≡ Some f → HasForm text f
allowed_written text rest f is h =
    elim (has (codes " ") rest) as (λ b. has (codes " ") rest ≡ b → (if b then allowed_words_form (front (codes " ") rest) (behind (codes " ") rest) else None) ≡ Some f → HasForm text f) [
      | true ↦ λ found g. option_and_then_some _ (allowed_verb_of (front (codes " ") rest)) f g (λ verb was more.
          let word : verb_text verb ≡ front (codes " ") rest = allowed_named (front (codes " ") rest) verb was in
          let whole : rest ≡ verb_text verb ++ (32 ∷ behind (codes " ") rest) = cut_back rest found ∙ ap (λ w. w ++ (32 ∷ behind (codes " ") rest)) (sym word) in
          verb_written true verb text (behind (codes " ") rest) f (λ e. allowed_may (front (codes " ") rest) verb was) (is ∙ ap (λ xs. codes "allow" ++ (32 ∷ xs)) whole) more)
      | false ↦ λ _ g. none_is f g
    ] refl h

words_written : (text word rest : List ℕ) (f : LineForm) → text ≡ word ++ (32 ∷ rest) → words_form word rest ≡ Some f → HasForm text f
words_written text word rest f is h =
    elim (is_word word (codes "allow")) as (λ b. is_word word (codes "allow") ≡ b → (if b then allowed_form rest else option_and_then (λ verb. verb_form false verb rest) (verb_of word)) ≡ Some f → HasForm text f) [
      | true ↦ λ same g. allowed_written text rest f (is ∙ ap (λ w. w ++ (32 ∷ rest)) ((bytes_decides word (codes "allow")).0 same)) g
      | false ↦ λ _ g. option_and_then_some _ (verb_of word) f g (λ verb was more.
          verb_written false verb text rest f (not_true_allow verb) (is ∙ ap (λ w. w ++ (32 ∷ rest)) (sym (verb_named word verb was))) more)
    ] refl h

lone_ranges : (word : List ℕ) (verb : Verb) → lone_verb_of word ≡ Some verb → AreInRanges (ranges_of verb) [] × EndsAs (ending_of verb) Nothing
lone_ranges word verb h =
    elim (is_word word (codes "undo")) as (λ b. is_word word (codes "undo") ≡ b → (if b then Some verbs.Undo else (if is_word word (codes "check") then Some verbs.Check else None)) ≡ Some verb → AreInRanges (ranges_of verb) [] × EndsAs (ending_of verb) Nothing) [
      | true ↦ λ _ is. subst (λ v. AreInRanges (ranges_of v) [] × EndsAs (ending_of v) Nothing) (same_Some verbs.Undo verb is) (tt, tt)
      | false ↦ λ _ others. elim (is_word word (codes "check")) as (λ b. is_word word (codes "check") ≡ b → (if b then Some verbs.Check else None) ≡ Some verb → AreInRanges (ranges_of verb) [] × EndsAs (ending_of verb) Nothing) [
        | true ↦ λ _ is. subst (λ v. AreInRanges (ranges_of v) [] × EndsAs (ending_of v) Nothing) (same_Some verbs.Check verb is) (tt, tt)
        | false ↦ λ _ is. none_is verb is
      ] refl others
    ] refl h

lone_written : (text : List ℕ) (f : LineForm) → lone_form text ≡ Some f → HasForm text f
lone_written text f h =
    map_some (λ verb. line_form false verb (only Nothing)) (lone_verb_of text) f h (λ verb was same.
    let r = lone_ranges text verb was in
    subst (HasForm text) same (record { words = sym (lone_named text verb was); allowed = not_true_allow verb; numbers = r.0; ends = r.1 }))

-- a form that is read is that of the text
pub form_written : (text : List ℕ) (f : LineForm) → form_of text ≡ Some f → HasForm text f
form_written text f h =
    elim (has (codes " ") text) as (λ b. has (codes " ") text ≡ b → (if b then words_form (front (codes " ") text) (behind (codes " ") text) else lone_form text) ≡ Some f → HasForm text f) [
      | true ↦ λ found g. words_written text (front (codes " ") text) (behind (codes " ") text) f (cut_back text found) g
      | false ↦ λ _ g. lone_written text f g
    ] refl h
