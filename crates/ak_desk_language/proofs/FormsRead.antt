-- A text that has a form is read so.
use Rattle.std.proofs.Common.{◌≡◌, ℕ, zero, suc, ◌+◌, ◌^◌, ◌<◌, ◌≤◌, ◌==◌, nat_lt, ℤ, pos, Bool, true, false, not, ◌&&◌, if◌then◌else◌, List, [], ◌∷◌, ◌++◌, length, map, Option, Some, None, option_and_then, option_map, inl, inr, ◌⊎◌, refl, sym, ap, subst, ◌∙◌, arith, append-nil, length-append}
use Rattle.std.specs.Prelude.{codes}
use Rattle.std.proofs.lemmas.Bool.{and_parts, ltb-true}
use Rattle.std.proofs.lemmas.List.{length-map}
use Rattle.std.proofs.lemmas.List.Splits.{slice_split-cons_yes, slice_split-cons_no}
use Rattle.std.specs.Fmt.{signed_decimal}
use Rattle.std.specs.List.{join_with_byte, slice_split, onto_first}
use Rattle.ak_base.specs.Cuts.{has, front, behind}
use Rattle.ak_base.specs.Heads.{IsWithin}
use Rattle.ak_desk_language.specs.declared.verbs.Verb.{Verb}
use Rattle.ak_desk_language.specs.declared.verbs.Verb.TheVariants as verbs
use Rattle.ak_desk_language.specs.LineForms.{Tail, Nothing, Ids, AnyText, LineForm, tail_words, words_of, AreInRanges, AreIds, HasOne, EndsAs, HasForm}
use Rattle.ak_desk_language.specs.Reading.{verb_of, allowed_verb_of, number_in, next_number, numbers_of, ids_of, Arguments, only, with_number, side_of, ending_in, arguments_before, arguments_alone, arguments_in, line_form, verb_form, form_of}
use Rattle.ak_search.specs.Terms.{is_word}
use Rattle.ak_desk_language.specs.Verbs.{verb_text, may_allow, Range, any_id, ranges_of, Ending, AtOnce, WithIds, WithSide, WithText, ending_of}
use Rattle.ak_desk_language.proofs.Numerals.{number_read, number_spaceless}
use Rattle.ak_desk_language.proofs.Spaces.{is_spaceless, IsCut, cut_at}
use Rattle.ak_desk_language.proofs.VerbWords.{are_small, verb_spaceless}

abbrev pub digits : List ℤ → List (List ℕ)
digits = map signed_decimal

-- ---- words with spaces between
pub join_cons : (word : List ℕ) (words : List (List ℕ)) → 0 < length words → join_with_byte 32 (word ∷ words) ≡ word ++ (32 ∷ join_with_byte 32 words)
join_cons word [] h = absurd (omega (arith, h))
join_cons word (second ∷ words) h = refl

pub small_first : (range : Range) (ranges : List Range) → are_small (range ∷ ranges) ≡ true → (range.1 < 2 ^ 64) × (are_small ranges ≡ true)
small_first range ranges h = let p = and_parts (nat_lt range.1 (2 ^ 64)) (are_small ranges) h in (ltb-true _ _ p.0, p.1)

-- ---- numbers
next_read : (range : Range) (z : ℤ) (rest : List ℕ) → range.1 < 2 ^ 64 → IsWithin (pos range.0) (pos range.1) z → next_number range (signed_decimal z ++ (32 ∷ rest)) ≡ Some (z, rest)
next_read range z rest small h =
    let c : IsCut (signed_decimal z) rest (signed_decimal z ++ (32 ∷ rest)) = cut_at (signed_decimal z) rest (number_spaceless range.0 range.1 z small h) in
    rw c.found (rw c.before (rw c.after (ap (option_map (λ n. (n, rest))) (number_read range.0 range.1 z small h))))

before_read : (ending : Ending) (tail : Tail) (word : List ℕ) (words : List (List ℕ)) → ending_in ending (join_with_byte 32 (word ∷ words)) ≡ Some (only tail)
    → (ranges : List Range) (zs : List ℤ) → are_small ranges ≡ true → AreInRanges ranges zs
    → arguments_before ranges ending (join_with_byte 32 (digits zs ++ (word ∷ words))) ≡ Some (record { numbers = zs; tail = tail })
before_read ending tail word words h [] [] s r = h
before_read ending tail word words h [] (z ∷ zs) s r = absurd r
before_read ending tail word words h (range ∷ ranges) [] s r = absurd r
before_read ending tail word words h (range ∷ ranges) (z ∷ zs) s r =
    let p = small_first range ranges s in
    let some : 0 < length (digits zs ++ (word ∷ words)) = omega (arith, length-append (digits zs) (word ∷ words)) in
    rw (join_cons (signed_decimal z) (digits zs ++ (word ∷ words)) some)
    (rw (next_read range z (join_with_byte 32 (digits zs ++ (word ∷ words))) p.0 r.0)
    (ap (option_map (with_number z)) (before_read ending tail word words h ranges zs p.1 r.1)))

-- there is a range
abbrev pub has_range : List Range → Bool
has_range [] = false
has_range (range ∷ ranges) = true

alone_read : (ranges : List Range) (zs : List ℤ) → are_small ranges ≡ true → has_range ranges ≡ true → AreInRanges ranges zs
    → arguments_alone ranges (join_with_byte 32 (digits zs)) ≡ Some (record { numbers = zs; tail = Nothing })
alone_read [] zs s some r = grind (arith, some)
alone_read (range ∷ ranges) [] s some r = absurd r
alone_read (range ∷ []) (z ∷ []) s some r =
    ap (option_map (λ n. with_number n (only Nothing))) (number_read range.0 range.1 z (small_first range [] s).0 r.0)
alone_read (range ∷ []) (z ∷ second ∷ zs) s some r = absurd r.1
alone_read (range ∷ next ∷ ranges) (z ∷ []) s some r = absurd r.1
alone_read (range ∷ next ∷ ranges) (z ∷ second ∷ zs) s some r =
    let p = small_first range (next ∷ ranges) s in
    rw (next_read range z (join_with_byte 32 (digits (second ∷ zs))) p.0 r.0)
    (ap (option_map (with_number z)) (alone_read (next ∷ ranges) (second ∷ zs) p.1 refl r.1))

-- ---- ids
abbrev is_space : ℕ → Bool
is_space byte = byte == 32

same_test : (byte : ℕ) → (32 == byte) ≡ false → (byte == 32) ≡ false
same_test byte h = grind (arith, h)

rest_spaceless : (byte : ℕ) (bytes : List ℕ) → is_spaceless (byte ∷ bytes) ≡ true → ((byte == 32) ≡ false) × (is_spaceless bytes ≡ true)
rest_spaceless byte bytes h = let p = and_parts (not (32 == byte)) (is_spaceless bytes) h in (same_test byte (grind (arith, p.0)), p.1)

split_at_space : (word rest : List ℕ) → is_spaceless word ≡ true → slice_split (λ byte. byte == 32) (word ++ (32 ∷ rest)) ≡ word ∷ slice_split (λ byte. byte == 32) rest
split_at_space [] rest h = slice_split-cons_yes (λ byte. byte == 32) 32 rest refl
split_at_space (byte ∷ word) rest h =
    let p = rest_spaceless byte word h in
    slice_split-cons_no (λ byte. byte == 32) byte (word ++ (32 ∷ rest)) p.0 ∙ ap (onto_first byte) (split_at_space word rest p.1)

split_alone : (word : List ℕ) → is_spaceless word ≡ true → slice_split (λ byte. byte == 32) word ≡ word ∷ []
split_alone [] h = refl
split_alone (byte ∷ word) h =
    let p = rest_spaceless byte word h in
    slice_split-cons_no (λ byte. byte == 32) byte word p.0 ∙ ap (onto_first byte) (split_alone word p.1)

id_small : 9_223_372_036_854_775_807 < 2 ^ 64
id_small = omega arith

ids_read : (ids : List ℤ) → HasOne ids → AreIds ids → ids_of (join_with_byte 32 (digits ids)) ≡ Some ids
ids_read [] one h = absurd one
ids_read (id ∷ []) one h =
    rw (split_alone (signed_decimal id) (number_spaceless 0 9_223_372_036_854_775_807 id id_small h.0))
    (ap (option_and_then (λ n. option_map (λ ns. n ∷ ns) (numbers_of []))) (number_read 0 9_223_372_036_854_775_807 id id_small h.0))
ids_read (id ∷ second ∷ ids) one h =
    rw (split_at_space (signed_decimal id) (join_with_byte 32 (digits (second ∷ ids))) (number_spaceless 0 9_223_372_036_854_775_807 id id_small h.0))
    (rw (number_read 0 9_223_372_036_854_775_807 id id_small h.0) (ap (option_map (λ ns. id ∷ ns)) (ids_read (second ∷ ids) tt h.1)))

-- ---- arguments
-- something follows the verb
abbrev pub takes_arguments : List Range → Ending → Bool
takes_arguments ranges AtOnce = has_range ranges
takes_arguments ranges WithIds = true
takes_arguments ranges WithSide = true
takes_arguments ranges WithText = true

side_read : (text : List ℕ) → (text ≡ codes "front") ⊎ (text ≡ codes "back") → side_of text ≡ Some (only (AnyText text))
side_read text (inl e) = rw e refl
side_read text (inr e) = rw e refl

arguments_read : (ranges : List Range) (ending : Ending) (zs : List ℤ) (tail : Tail) → are_small ranges ≡ true → takes_arguments ranges ending ≡ true → AreInRanges ranges zs → EndsAs ending tail
    → arguments_in ranges ending (join_with_byte 32 (digits zs ++ tail_words tail)) ≡ Some (record { numbers = zs; tail = tail })
arguments_read ranges AtOnce zs Nothing s some r e = rw (append-nil (digits zs)) (alone_read ranges zs s some r)
arguments_read ranges AtOnce zs (Ids ids) s some r e = absurd e
arguments_read ranges AtOnce zs (AnyText text) s some r e = absurd e
arguments_read ranges WithIds zs Nothing s some r e = absurd e
arguments_read ranges WithIds zs (Ids []) s some r e = absurd e.0
arguments_read ranges WithIds zs (Ids (id ∷ ids)) s some r e =
    before_read WithIds (Ids (id ∷ ids)) (signed_decimal id) (digits ids) (ap (option_map (λ is. only (Ids is))) (ids_read (id ∷ ids) e.0 e.1)) ranges zs s r
arguments_read ranges WithIds zs (AnyText text) s some r e = absurd e
arguments_read ranges WithSide zs Nothing s some r e = absurd e
arguments_read ranges WithSide zs (Ids ids) s some r e = absurd e
arguments_read ranges WithSide zs (AnyText text) s some r e = before_read WithSide (AnyText text) text [] (side_read text e) ranges zs s r
arguments_read ranges WithText zs Nothing s some r e = absurd e
arguments_read ranges WithText zs (Ids ids) s some r e = absurd e
arguments_read ranges WithText zs (AnyText text) s some r e = before_read WithText (AnyText text) text [] refl ranges zs s r

some_numbers : (ranges : List Range) (zs : List ℤ) → has_range ranges ≡ true → AreInRanges ranges zs → 0 < length zs
some_numbers [] zs some r = grind (arith, some)
some_numbers (range ∷ ranges) [] some r = absurd r
some_numbers (range ∷ ranges) (z ∷ zs) some r = omega arith

some_tail : (ending : Ending) (ranges : List Range) (zs : List ℤ) (tail : Tail) → takes_arguments ranges ending ≡ true → AreInRanges ranges zs → EndsAs ending tail → 0 < length zs + length (tail_words tail)
some_tail AtOnce ranges zs tail some r e = omega (arith, some_numbers ranges zs some r)
some_tail WithIds ranges zs Nothing some r e = absurd e
some_tail WithIds ranges zs (Ids []) some r e = absurd e.0
some_tail WithIds ranges zs (Ids (id ∷ ids)) some r e = omega (arith, length-map ids signed_decimal)
some_tail WithIds ranges zs (AnyText text) some r e = absurd e
some_tail WithSide ranges zs Nothing some r e = absurd e
some_tail WithSide ranges zs (Ids ids) some r e = absurd e
some_tail WithSide ranges zs (AnyText text) some r e = omega arith
some_tail WithText ranges zs Nothing some r e = absurd e
some_tail WithText ranges zs (Ids ids) some r e = absurd e
some_tail WithText ranges zs (AnyText text) some r e = omega arith

some_words : (ending : Ending) (ranges : List Range) (zs : List ℤ) (tail : Tail) → takes_arguments ranges ending ≡ true → AreInRanges ranges zs → EndsAs ending tail → 0 < length (digits zs ++ tail_words tail)
some_words ending ranges zs tail some r e =
    omega (arith, length-append (digits zs) (tail_words tail), length-map zs signed_decimal, some_tail ending ranges zs tail some r e)

-- ---- lines
-- the form of a verb without `allow`
abbrev form_by : Bool → Verb → List ℤ → Tail → LineForm
form_by allow verb zs tail = record { allow = allow; verb = verb; numbers = zs; tail = tail }

plain_read : (verb : Verb) (zs : List ℤ) (tail : Tail) → are_small (ranges_of verb) ≡ true → takes_arguments (ranges_of verb) (ending_of verb) ≡ true
    → is_word (verb_text verb) (codes "allow") ≡ false → verb_of (verb_text verb) ≡ Some verb
    → AreInRanges (ranges_of verb) zs → EndsAs (ending_of verb) tail
    → form_of (join_with_byte 32 (words_of (form_by false verb zs tail))) ≡ Some (form_by false verb zs tail)
plain_read verb zs tail small some other named r e =
    let rest : List ℕ = join_with_byte 32 (digits zs ++ tail_words tail) in
    let c : IsCut (verb_text verb) rest (verb_text verb ++ (32 ∷ rest)) = cut_at (verb_text verb) rest (verb_spaceless verb) in
    rw (join_cons (verb_text verb) (digits zs ++ tail_words tail) (some_words (ending_of verb) (ranges_of verb) zs tail some r e))
    (rw c.found (rw c.before (rw c.after (rw other (rw named
    (ap (option_map (line_form false verb)) (arguments_read (ranges_of verb) (ending_of verb) zs tail small some r e)))))))

allowed_read : (verb : Verb) (zs : List ℤ) (tail : Tail) → are_small (ranges_of verb) ≡ true → takes_arguments (ranges_of verb) (ending_of verb) ≡ true
    → allowed_verb_of (verb_text verb) ≡ Some verb
    → AreInRanges (ranges_of verb) zs → EndsAs (ending_of verb) tail
    → form_of (join_with_byte 32 (words_of (form_by true verb zs tail))) ≡ Some (form_by true verb zs tail)
allowed_read verb zs tail small some named r e =
    let rest : List ℕ = join_with_byte 32 (digits zs ++ tail_words tail) in
    let c : IsCut (verb_text verb) rest (verb_text verb ++ (32 ∷ rest)) = cut_at (verb_text verb) rest (verb_spaceless verb) in
    rw (join_cons (verb_text verb) (digits zs ++ tail_words tail) (some_words (ending_of verb) (ranges_of verb) zs tail some r e))
    (rw c.found (rw c.before (rw c.after (rw named
    (ap (option_map (line_form true verb)) (arguments_read (ranges_of verb) (ending_of verb) zs tail small some r e))))))

lone_read : (verb : Verb) → form_of (verb_text verb) ≡ Some (form_by false verb [] Nothing) → (zs : List ℤ) (tail : Tail) → AreInRanges [] zs → EndsAs AtOnce tail
    → form_of (join_with_byte 32 (words_of (form_by false verb zs tail))) ≡ Some (form_by false verb zs tail)
lone_read verb h [] Nothing r e = h
lone_read verb h [] (Ids ids) r e = absurd e
lone_read verb h [] (AnyText text) r e = absurd e
lone_read verb h (z ∷ zs) tail r e = absurd r

not_allowed : {A : Type 0} → (true ≡ true → false ≡ true) → A
not_allowed h = absurd (let e : false ≡ true = h refl in grind (arith, e))

read_by : (allow : Bool) (verb : Verb) (zs : List ℤ) (tail : Tail) → (allow ≡ true → may_allow verb ≡ true) → AreInRanges (ranges_of verb) zs → EndsAs (ending_of verb) tail
    → form_of (join_with_byte 32 (words_of (form_by allow verb zs tail))) ≡ Some (form_by allow verb zs tail)
read_by true verbs.Note zs tail a r e = not_allowed a
read_by true verbs.Fields zs tail a r e = not_allowed a
read_by true verbs.Tags zs tail a r e = not_allowed a
read_by true verbs.Delete zs tail a r e = not_allowed a
read_by true verbs.Drop zs tail a r e = not_allowed a
read_by true verbs.Rename zs tail a r e = not_allowed a
read_by true verbs.Move zs tail a r e = not_allowed a
read_by true verbs.Adopt zs tail a r e = not_allowed a
read_by true verbs.Spread zs tail a r e = not_allowed a
read_by true verbs.Deck zs tail a r e = not_allowed a
read_by true verbs.Options zs tail a r e = not_allowed a
read_by true verbs.Type zs tail a r e = not_allowed a
read_by true verbs.Retype zs tail a r e = allowed_read verbs.Retype zs tail refl refl refl r e
read_by true verbs.Untype zs tail a r e = allowed_read verbs.Untype zs tail refl refl refl r e
read_by true verbs.Unoptions zs tail a r e = allowed_read verbs.Unoptions zs tail refl refl refl r e
read_by true verbs.Answer zs tail a r e = not_allowed a
read_by true verbs.Next zs tail a r e = not_allowed a
read_by true verbs.Counts zs tail a r e = not_allowed a
read_by true verbs.Find zs tail a r e = not_allowed a
read_by true verbs.Page zs tail a r e = not_allowed a
read_by true verbs.Mute zs tail a r e = not_allowed a
read_by true verbs.Suspend zs tail a r e = not_allowed a
read_by true verbs.Unsuspend zs tail a r e = not_allowed a
read_by true verbs.Bury zs tail a r e = not_allowed a
read_by true verbs.Flag zs tail a r e = not_allowed a
read_by true verbs.Undo zs tail a r e = not_allowed a
read_by true verbs.Check zs tail a r e = not_allowed a
read_by false verbs.Note zs tail a r e = plain_read verbs.Note zs tail refl refl refl refl r e
read_by false verbs.Fields zs tail a r e = plain_read verbs.Fields zs tail refl refl refl refl r e
read_by false verbs.Tags zs tail a r e = plain_read verbs.Tags zs tail refl refl refl refl r e
read_by false verbs.Delete zs tail a r e = plain_read verbs.Delete zs tail refl refl refl refl r e
read_by false verbs.Drop zs tail a r e = plain_read verbs.Drop zs tail refl refl refl refl r e
read_by false verbs.Rename zs tail a r e = plain_read verbs.Rename zs tail refl refl refl refl r e
read_by false verbs.Move zs tail a r e = plain_read verbs.Move zs tail refl refl refl refl r e
read_by false verbs.Adopt zs tail a r e = plain_read verbs.Adopt zs tail refl refl refl refl r e
read_by false verbs.Spread zs tail a r e = plain_read verbs.Spread zs tail refl refl refl refl r e
read_by false verbs.Deck zs tail a r e = plain_read verbs.Deck zs tail refl refl refl refl r e
read_by false verbs.Options zs tail a r e = plain_read verbs.Options zs tail refl refl refl refl r e
read_by false verbs.Type zs tail a r e = plain_read verbs.Type zs tail refl refl refl refl r e
read_by false verbs.Retype zs tail a r e = plain_read verbs.Retype zs tail refl refl refl refl r e
read_by false verbs.Untype zs tail a r e = plain_read verbs.Untype zs tail refl refl refl refl r e
read_by false verbs.Unoptions zs tail a r e = plain_read verbs.Unoptions zs tail refl refl refl refl r e
read_by false verbs.Answer zs tail a r e = plain_read verbs.Answer zs tail refl refl refl refl r e
read_by false verbs.Next zs tail a r e = plain_read verbs.Next zs tail refl refl refl refl r e
read_by false verbs.Counts zs tail a r e = plain_read verbs.Counts zs tail refl refl refl refl r e
read_by false verbs.Find zs tail a r e = plain_read verbs.Find zs tail refl refl refl refl r e
read_by false verbs.Page zs tail a r e = plain_read verbs.Page zs tail refl refl refl refl r e
read_by false verbs.Mute zs tail a r e = plain_read verbs.Mute zs tail refl refl refl refl r e
read_by false verbs.Suspend zs tail a r e = plain_read verbs.Suspend zs tail refl refl refl refl r e
read_by false verbs.Unsuspend zs tail a r e = plain_read verbs.Unsuspend zs tail refl refl refl refl r e
read_by false verbs.Bury zs tail a r e = plain_read verbs.Bury zs tail refl refl refl refl r e
read_by false verbs.Flag zs tail a r e = plain_read verbs.Flag zs tail refl refl refl refl r e
read_by false verbs.Undo zs tail a r e = lone_read verbs.Undo refl zs tail r e
read_by false verbs.Check zs tail a r e = lone_read verbs.Check refl zs tail r e

-- a text that has a form is read so
pub form_read : (text : List ℕ) (f : LineForm) → HasForm text f → form_of text ≡ Some f
form_read text f h = rw h.words (read_by f.allow f.verb f.numbers f.tail h.allowed h.numbers h.ends)
