-- A tree that some text has, written out, is the tree of what was written.
use Rattle.std.proofs.Common.{◌≡◌, ℕ, zero, suc, ◌+◌, ◌-◌, ◌≤◌, ◌<◌, true, false, ◌&&◌, ◌||◌, ◌==◌, cond, Option, Some, None, List, [], ◌∷◌, ◌++◌, length, map, drop, append_assoc, length-append, refl, ap, sym, ◌∙◌, arith, append-nil}
use Rattle.std.specs.Prelude.{codes}
use Rattle.std.specs.List.{slice_split, join_with_byte}
use Rattle.std.proofs.lemmas.List.{map-append}
use Rattle.std.proofs.lemmas.List.Splits.{join_with_byte-slice_split}
use Rattle.std.proofs.lemmas.Bool.{or_parts}
use Rattle.std.proofs.Math.Bool.{and-false}
use Rattle.std.proofs.lemmas.Option.{same_Some}
use Rattle.std.proofs.Math.Seq.{drop-append_seam}
use Rattle.ak_base.specs.Cuts.{begins, has, front, behind}
use Rattle.ak_base.proofs.Cutting.{begins_itself, begins_with}
use Rattle.ak_template.specs.declared.steps.Step.{Step}
use Rattle.ak_template.specs.declared.steps.Step.TheVariants.{Words, Field, Open, Close}
use Rattle.ak_template.specs.Pieces.{Piece, has_tag, before_tag, inside_tag, behind_tag, without_front, without_back, joined, trimmed, named, field_parts, field_tag, tag_of, words_at, pieces_in, words_step}
use Rattle.ak_template.specs.Trees.{Tree, End, Plain, Value, Section, tree_steps, tagged, field_inside, open_inside, close_inside, written}
use Rattle.ak_template.specs.Grammar.{IsTemplate}
use Rattle.ak_template.proofs.Grammars.{head_same, tail_same, somes_once}
use Rattle.ak_template.proofs.Parsing.{tag_shorter}
use Rattle.ak_template.proofs.Cutting.{front_done, back_step, no_opening}

-- ---- where a mark stands first

begins_longer : (mark xs rest : List ℕ) → begins mark xs ≡ true → begins mark (xs ++ rest) ≡ true
begins_longer [] xs rest h = refl
begins_longer (sign ∷ mark) [] rest h = grind (arith, h)
begins_longer (sign ∷ mark) (b ∷ bs) rest h =
    let both : (sign ≡ b) × (begins mark bs ≡ true) = grind (arith, h) in
    let later = begins_longer mark bs rest both.1 in
    grind (arith, both.0, later)

pub begins_alike : (mark xs one other : List ℕ) → length mark ≤ length xs → begins mark (xs ++ one) ≡ begins mark (xs ++ other)
begins_alike [] xs one other l = refl
begins_alike (sign ∷ mark) [] one other l = absurd (omega (arith, l))
begins_alike (sign ∷ mark) (b ∷ bs) one other l = ap (λ v. (sign == b) && v) (begins_alike mark bs one other (omega arith))

not_begun_before : (mark xs rest : List ℕ) → begins mark (xs ++ rest) ≡ false → begins mark xs ≡ false
not_begun_before mark xs rest h = elim (begins mark xs) as (λ v. begins mark xs ≡ v → v ≡ false) [ true ↦ λ e. sym (begins_longer mark xs rest e) ∙ h | false ↦ λ e. refl ] refl

-- a text without a mark has none in what it begins with
pub none_before : (mark xs rest : List ℕ) → has mark (xs ++ rest) ≡ false → has mark xs ≡ false
none_before mark [] rest h = refl
none_before mark (b ∷ bs) rest h =
    let both = or_parts (begins mark (b ∷ (bs ++ rest))) (has mark (bs ++ rest)) h in
    ap (λ v. v || has mark bs) (not_begun_before mark (b ∷ bs) rest both.0) ∙ none_before mark bs rest both.1

front_begins : (mark xs : List ℕ) → (rest : List ℕ) × (xs ≡ front mark xs ++ rest)
front_begins mark [] = ([], refl)
front_begins mark (b ∷ bs) = elim (begins mark (b ∷ bs)) as (λ v. (rest : List ℕ) × (b ∷ bs ≡ cond v [] (b ∷ front mark bs) ++ rest)) [ true ↦ (b ∷ bs, refl) | false ↦ (let later = front_begins mark bs in (later.0, ap (λ ys. b ∷ ys) later.1)) ]

-- what stands in front of the first mark has none
pub none_in_front : (mark xs : List ℕ) → has mark (front mark xs) ≡ false
none_in_front mark [] = refl
none_in_front mark (b ∷ bs) =
    let later = front_begins mark bs in
    elim (begins mark (b ∷ bs)) as (λ v. begins mark (b ∷ bs) ≡ v → has mark (cond v [] (b ∷ front mark bs)) ≡ false) [
      | true ↦ λ e. refl
      | false ↦ λ e. ap (λ v. v || has mark (front mark bs)) (not_begun_before mark (b ∷ front mark bs) later.0 (ap (λ ys. begins mark (b ∷ ys)) (sym later.1) ∙ e)) ∙ none_in_front mark bs
    ] refl

pub cut_whole : (mark xs : List ℕ) → has mark xs ≡ true → xs ≡ front mark xs ++ (mark ++ behind mark xs)
cut_whole mark [] h = grind (arith, h)
cut_whole mark (b ∷ bs) h = elim (begins mark (b ∷ bs)) as (λ v. begins mark (b ∷ bs) ≡ v → (v || has mark bs) ≡ true → b ∷ bs ≡ cond v [] (b ∷ front mark bs) ++ (mark ++ cond v (drop (length mark) (b ∷ bs)) (behind mark bs))) [
  | true ↦ λ e k. (let found = begins_with mark (b ∷ bs) e in found.1 ∙ ap (λ ys. mark ++ ys) (sym (ap (drop (length mark)) found.1 ∙ drop-append_seam mark found.0)))
  | false ↦ λ e k. ap (λ ys. b ∷ ys) (cut_whole mark bs k)
] refl h

-- a text is cut at the mark into what stands in front of it and behind it
abbrev pub IsCut : List ℕ → List ℕ → List ℕ → List ℕ → Type 0
IsCut mark text before after = (has mark text ≡ true) × (front mark text ≡ before) × (behind mark text ≡ after)

pub cut_at_front : (sign : ℕ) (mark rest : List ℕ) → IsCut (sign ∷ mark) (sign ∷ (mark ++ rest)) [] rest
cut_at_front sign mark rest =
    let yes = begins_itself (sign ∷ mark) rest in
    (ap (λ v. v || has (sign ∷ mark) (mark ++ rest)) yes, ap (λ v. cond v [] (sign ∷ front (sign ∷ mark) (mark ++ rest))) yes, ap (λ v. cond v (drop (length (sign ∷ mark)) (sign ∷ (mark ++ rest))) (behind (sign ∷ mark) (mark ++ rest))) yes ∙ drop-append_seam (sign ∷ mark) rest)

pub cut_later : (mark : List ℕ) (b : ℕ) (bs before after : List ℕ) → begins mark (b ∷ bs) ≡ false → IsCut mark bs before after → IsCut mark (b ∷ bs) (b ∷ before) after
cut_later mark b bs before after n later = (ap (λ v. v || has mark bs) n ∙ later.0, ap (λ v. cond v [] (b ∷ front mark bs)) n ∙ ap (λ ys. b ∷ ys) later.1, ap (λ v. cond v (drop (length mark) (b ∷ bs)) (behind mark bs)) n ∙ later.2)

alike_up_to : (mark : List ℕ) (b : ℕ) (xs one other : List ℕ) → begins mark (b ∷ (xs ++ (mark ++ one))) ≡ begins mark (b ∷ (xs ++ (mark ++ other)))
alike_up_to mark b xs one other =
    ap (λ ys. begins mark (b ∷ ys)) (sym (append_assoc xs mark one))
    ∙ begins_alike mark (b ∷ (xs ++ mark)) one other (omega (arith, length-append xs mark))
    ∙ ap (λ ys. begins mark (b ∷ ys)) (append_assoc xs mark other)

-- the first mark stands where it stood, whatever stands behind it
pub cut_again : (sign : ℕ) (mark xs rest : List ℕ) → has (sign ∷ mark) xs ≡ true → IsCut (sign ∷ mark) (front (sign ∷ mark) xs ++ ((sign ∷ mark) ++ rest)) (front (sign ∷ mark) xs) rest
cut_again sign mark [] rest h = grind (arith, h)
cut_again sign mark (b ∷ bs) rest h = elim (begins (sign ∷ mark) (b ∷ bs)) as (λ v. begins (sign ∷ mark) (b ∷ bs) ≡ v → (v || has (sign ∷ mark) bs) ≡ true → IsCut (sign ∷ mark) (cond v [] (b ∷ front (sign ∷ mark) bs) ++ ((sign ∷ mark) ++ rest)) (cond v [] (b ∷ front (sign ∷ mark) bs)) rest) [
  | true ↦ λ e k. cut_at_front sign mark rest
  | false ↦ λ e k. cut_later (sign ∷ mark) b (front (sign ∷ mark) bs ++ ((sign ∷ mark) ++ rest)) (front (sign ∷ mark) bs) rest (alike_up_to (sign ∷ mark) b (front (sign ∷ mark) bs) rest (behind (sign ∷ mark) bs) ∙ ap (λ ys. begins (sign ∷ mark) (b ∷ ys)) (sym (cut_whole (sign ∷ mark) bs k)) ∙ e) (cut_again sign mark bs rest k)
] refl h

-- a mark of two signs behind a space stands where it is written, if there is none before
pub cut_written : (sign : ℕ) (xs rest : List ℕ) → (sign == 32) ≡ false → has (sign ∷ (sign ∷ [])) xs ≡ false → IsCut (sign ∷ (sign ∷ [])) (xs ++ (32 ∷ (sign ∷ (sign ∷ rest)))) (xs ++ (32 ∷ [])) rest
cut_written sign [] rest n h = cut_later (sign ∷ (sign ∷ [])) 32 (sign ∷ (sign ∷ rest)) [] rest (ap (λ v. v && begins (sign ∷ []) (sign ∷ (sign ∷ rest))) n) (cut_at_front sign (sign ∷ []) rest)
cut_written sign (b ∷ []) rest n h = cut_later (sign ∷ (sign ∷ [])) b (32 ∷ (sign ∷ (sign ∷ rest))) (32 ∷ []) rest (ap (λ v. (sign == b) && (v && true)) n ∙ and-false (sign == b)) (cut_written sign [] rest n refl)
cut_written sign (b ∷ (c ∷ cs)) rest n h =
    let both = or_parts (begins (sign ∷ (sign ∷ [])) (b ∷ (c ∷ cs))) (has (sign ∷ (sign ∷ [])) (c ∷ cs)) h in
    cut_later (sign ∷ (sign ∷ [])) b ((c ∷ cs) ++ (32 ∷ (sign ∷ (sign ∷ rest)))) ((c ∷ cs) ++ (32 ∷ [])) rest both.0 (cut_written sign (c ∷ cs) rest n both.1)

-- ---- an inside without the spaces at its ends

pub first_kept : (xs : List ℕ) → begins (codes " ") xs ≡ false → begins (codes " ") (without_back xs) ≡ false
first_kept [] h = refl
first_kept (b ∷ bs) h = elim (without_back bs) as (λ ys. begins (codes " ") (joined b ys) ≡ false) [
  | [] ↦ elim (b == 32) as (λ v. begins (codes " ") (cond v [] (b ∷ [])) ≡ false) [ true ↦ refl | false ↦ h ]
  | y ∷ ys ↦ h
]

no_space_first : (xs : List ℕ) → begins (codes " ") (without_front xs) ≡ false
no_space_first [] = refl
no_space_first (b ∷ bs) = elim (begins (codes " ") (b ∷ bs)) as (λ v. begins (codes " ") (b ∷ bs) ≡ v → begins (codes " ") (cond v (without_front bs) (b ∷ bs)) ≡ false) [ true ↦ λ e. no_space_first bs | false ↦ λ e. e ] refl

joined_twice : (b : ℕ) (ys : List ℕ) → without_back ys ≡ ys → without_back (joined b ys) ≡ joined b ys
joined_twice b [] h = elim (b == 32) as (λ v. (b == 32) ≡ v → without_back (cond v [] (b ∷ [])) ≡ cond v [] (b ∷ [])) [ true ↦ λ e. refl | false ↦ λ e. ap (λ v. cond v [] (b ∷ [])) e ] refl
joined_twice b (y ∷ ys) h = ap (joined b) h

pub back_twice : (xs : List ℕ) → without_back (without_back xs) ≡ without_back xs
back_twice [] = refl
back_twice (b ∷ bs) = joined_twice b (without_back bs) (back_twice bs)

back_begins : (xs : List ℕ) → (rest : List ℕ) × (xs ≡ without_back xs ++ rest)
back_begins [] = ([], refl)
back_begins (b ∷ bs) =
    let later = back_begins bs in
    elim (without_back bs) as (λ ys. bs ≡ ys ++ later.0 → (rest : List ℕ) × (b ∷ bs ≡ joined b ys ++ rest)) [
      | [] ↦ λ e. elim (b == 32) as (λ v. (rest : List ℕ) × (b ∷ bs ≡ cond v [] (b ∷ []) ++ rest)) [ true ↦ (b ∷ bs, refl) | false ↦ (bs, refl) ]
      | y ∷ ys ↦ λ e. (later.0, ap (λ zs. b ∷ zs) e)
    ] later.1

none_in_back : (mark xs : List ℕ) → has mark xs ≡ false → has mark (without_back xs) ≡ false
none_in_back mark xs h = let found = back_begins xs in none_before mark (without_back xs) found.0 (ap (has mark) (sym found.1) ∙ h)

none_behind_spaces : (mark xs : List ℕ) → has mark xs ≡ false → has mark (without_front xs) ≡ false
none_behind_spaces mark [] h = refl
none_behind_spaces mark (b ∷ bs) h = elim (begins (codes " ") (b ∷ bs)) as (λ v. has mark (cond v (without_front bs) (b ∷ bs)) ≡ false) [ true ↦ none_behind_spaces mark bs (or_parts (begins mark (b ∷ bs)) (has mark bs) h).1 | false ↦ h ]

pub none_trimmed : (mark xs : List ℕ) → has mark xs ≡ false → has mark (trimmed xs) ≡ false
none_trimmed mark xs h = none_in_back mark (without_front xs) (none_behind_spaces mark xs h)

pub between_spaces : (inside : List ℕ) → begins (codes " ") inside ≡ false → without_back inside ≡ inside → trimmed (32 ∷ (inside ++ (32 ∷ []))) ≡ inside
between_spaces [] first back = refl
between_spaces (b ∷ bs) first back = ap without_back (front_done (b ∷ (bs ++ (32 ∷ []))) first) ∙ back_step (b ∷ bs) ∙ back

trimmed_again : (xs : List ℕ) → trimmed (32 ∷ (trimmed xs ++ (32 ∷ []))) ≡ trimmed xs
trimmed_again xs = between_spaces (trimmed xs) (first_kept (without_front xs) (no_space_first xs)) (back_twice (without_front xs))

-- ---- a tag written out

abbrev inside_of : Step → List ℕ
inside_of (Words words) = words
inside_of (Field filters name) = field_inside filters name
inside_of (Open inverted name) = open_inside inverted name
inside_of (Close name) = close_inside name

abbrev step_text : Step → List ℕ
step_text (Words words) = words
step_text (Field filters name) = tagged (field_inside filters name)
step_text (Open inverted name) = tagged (open_inside inverted name)
step_text (Close name) = tagged (close_inside name)

abbrev steps_text : List Step → List ℕ
steps_text [] = []
steps_text (step ∷ steps) = step_text step ++ steps_text steps

steps_written : (tree : Tree) (rest : List Step) → steps_text (tree_steps tree ++ rest) ≡ written tree ++ steps_text rest
steps_written End rest = refl
steps_written (Plain words after) rest = ap (λ xs. words ++ xs) (steps_written after rest) ∙ sym (append_assoc words (written after) (steps_text rest))
steps_written (Value filters name after) rest = ap (λ xs. tagged (field_inside filters name) ++ xs) (steps_written after rest) ∙ sym (append_assoc (tagged (field_inside filters name)) (written after) (steps_text rest))
steps_written (Section inverted name inside after) rest =
    ap (λ xs. tagged (open_inside inverted name) ++ steps_text xs) (append_assoc (tree_steps inside) (Close name ∷ tree_steps after) rest)
    ∙ ap (λ xs. tagged (open_inside inverted name) ++ xs) (steps_written inside (Close name ∷ (tree_steps after ++ rest)))
    ∙ ap (λ xs. tagged (open_inside inverted name) ++ (written inside ++ (tagged (close_inside name) ++ xs))) (steps_written after rest)
    ∙ ap (λ xs. tagged (open_inside inverted name) ++ (written inside ++ xs)) (sym (append_assoc (tagged (close_inside name)) (written after) (steps_text rest)))
    ∙ ap (λ xs. tagged (open_inside inverted name) ++ xs) (sym (append_assoc (written inside) (tagged (close_inside name) ++ written after) (steps_text rest)))
    ∙ sym (append_assoc (tagged (open_inside inverted name)) (written inside ++ (tagged (close_inside name) ++ written after)) (steps_text rest))

named_is : (tag : List ℕ → Step) (name : List ℕ) (step : Step) → named tag name ≡ Some step → step ≡ tag name
named_is tag name step h = elim (length name == 0) as (λ v. cond v None (Some (tag name)) ≡ Some step → step ≡ tag name) [ true ↦ λ e. grind (arith, e) | false ↦ λ e. sym (same_Some (tag name) step e) ] h

sign_first : (sign : ℕ) (xs : List ℕ) → begins (sign ∷ []) xs ≡ true → sign ∷ drop 1 xs ≡ xs
sign_first sign xs h = let found = begins_with (sign ∷ []) xs h in ap (λ ys. sign ∷ ys) (ap (drop 1) found.1) ∙ sym found.1

-- a filter more stands before what is left
one_filter_more : (filters : List (List ℕ)) (filter rest : List ℕ) → field_inside (filters ++ filter ∷ []) rest ≡ field_inside filters (filter ++ (codes ":" ++ rest))
one_filter_more [] filter rest = refl
one_filter_more (first ∷ filters) filter rest = ap (λ xs. first ++ (codes ":" ++ xs)) (one_filter_more filters filter rest)

parts_written : (filters parts : List (List ℕ)) (step : Step) → field_parts filters parts ≡ Some step → step_text step ≡ tagged (field_inside filters (join_with_byte 58 parts))
parts_written filters [] step h = grind (arith, h)
parts_written filters (name ∷ []) step h = ap step_text (named_is (Field filters) name step h)
parts_written filters (filter ∷ part ∷ parts) step h = elim (length filter == 0) as (λ v. cond v None (field_parts (filters ++ filter ∷ []) (part ∷ parts)) ≡ Some step → step_text step ≡ tagged (field_inside filters (filter ++ (58 ∷ join_with_byte 58 (part ∷ parts))))) [
  | true ↦ λ k. grind (arith, k)
  | false ↦ λ k. parts_written (filters ++ filter ∷ []) (part ∷ parts) step k ∙ ap tagged (one_filter_more filters filter (join_with_byte 58 (part ∷ parts)))
] h

field_written : (inside : List ℕ) (step : Step) → field_tag inside ≡ Some step → step_text step ≡ tagged inside
field_written inside step h = parts_written [] (slice_split (λ byte. byte == 58) inside) step h ∙ ap tagged (join_with_byte-slice_split 58 inside)

pub tag_written : (inside : List ℕ) (step : Step) → tag_of inside ≡ Some step → step_text step ≡ tagged inside
tag_written inside step h = elim (begins (codes "#") inside) as (λ v. begins (codes "#") inside ≡ v → cond v (named (Open false) (drop 1 inside)) (cond (begins (codes "^") inside) (named (Open true) (drop 1 inside)) (cond (begins (codes "/") inside) (named Close (drop 1 inside)) (field_tag inside))) ≡ Some step → step_text step ≡ tagged inside) [
  | true ↦ λ e k. ap step_text (named_is (Open false) (drop 1 inside) step k) ∙ ap tagged (sign_first 35 inside e)
  | false ↦ λ e. elim (begins (codes "^") inside) as (λ v. begins (codes "^") inside ≡ v → cond v (named (Open true) (drop 1 inside)) (cond (begins (codes "/") inside) (named Close (drop 1 inside)) (field_tag inside)) ≡ Some step → step_text step ≡ tagged inside) [
    | true ↦ λ f k. ap step_text (named_is (Open true) (drop 1 inside) step k) ∙ ap tagged (sign_first 94 inside f)
    | false ↦ λ f. elim (begins (codes "/") inside) as (λ v. begins (codes "/") inside ≡ v → cond v (named Close (drop 1 inside)) (field_tag inside) ≡ Some step → step_text step ≡ tagged inside) [
      | true ↦ λ g k. ap step_text (named_is Close (drop 1 inside) step k) ∙ ap tagged (sign_first 47 inside g)
      | false ↦ λ g k. field_written inside step k
    ] refl
  ] refl
] refl h

-- ---- a text cut up, without the places

abbrev pub bare : ℕ → List ℕ → List (Option Step)
bare zero text = map Some (words_step text)
bare (suc more) text = cond (has_tag text) (map Some (words_step (before_tag text)) ++ (tag_of (trimmed (inside_tag text)) ∷ bare more (behind_tag text))) (map Some (words_step text))

pub words_bare : (place : ℕ) (text : List ℕ) → map (λ (piece : Piece). piece.1) (words_at place text) ≡ map Some (words_step text)
words_bare place text = elim (length text == 0) as (λ v. map (λ (piece : Piece). piece.1) (cond v [] ((place, Some (Words text)) ∷ [])) ≡ map Some (cond v [] (Words text ∷ []))) [ true ↦ refl | false ↦ refl ]

pub pieces_bare : (n size : ℕ) (text : List ℕ) → map (λ (piece : Piece). piece.1) (pieces_in n size text) ≡ bare n text
pieces_bare zero size text = words_bare (size - length text) text
pieces_bare (suc n) size text =
    let place = size - length text in
    let tag : Piece = (size - length text + length (before_tag text), tag_of (trimmed (inside_tag text))) in
    elim (has_tag text) as (λ v. map (λ (piece : Piece). piece.1) (cond v (words_at place (before_tag text) ++ (tag ∷ pieces_in n size (behind_tag text))) (words_at place text)) ≡ cond v (map Some (words_step (before_tag text)) ++ (tag_of (trimmed (inside_tag text)) ∷ bare n (behind_tag text))) (map Some (words_step text))) [
      | true ↦ map-append (λ (piece : Piece). piece.1) (words_at place (before_tag text)) (tag ∷ pieces_in n size (behind_tag text))
          ∙ ap (λ xs. xs ++ (tag_of (trimmed (inside_tag text)) ∷ map (λ (piece : Piece). piece.1) (pieces_in n size (behind_tag text)))) (words_bare place (before_tag text))
          ∙ ap (λ xs. map Some (words_step (before_tag text)) ++ (tag_of (trimmed (inside_tag text)) ∷ xs)) (pieces_bare n size (behind_tag text))
      | false ↦ words_bare place text
    ]

pub opens : (text : List ℕ) → has_tag text ≡ true → has (codes "{{") text ≡ true
opens text h = elim (has (codes "{{") text) as (λ v. has (codes "{{") text ≡ v → v ≡ true) [ true ↦ λ e. refl | false ↦ λ e. sym (no_opening text e) ∙ h ] refl

-- the words and the tag that a text begins with, written out in front of another rest
abbrev rewritten : List ℕ → List ℕ → List ℕ
rewritten text rest = before_tag text ++ (tagged (trimmed (inside_tag text)) ++ rest)

cut_tag : (text rest : List ℕ) → has_tag text ≡ true → IsCut (codes "{{") (rewritten text rest) (before_tag text) (32 ∷ (trimmed (inside_tag text) ++ (32 ∷ (125 ∷ (125 ∷ rest)))))
cut_tag text rest h =
    let inside = trimmed (inside_tag text) in
    rw (append_assoc inside (codes " }}") rest) (cut_again 123 (123 ∷ []) text (32 ∷ (inside ++ (32 ∷ (125 ∷ (125 ∷ rest))))) (opens text h))

cut_inside : (text rest : List ℕ) → IsCut (codes "}}") (32 ∷ (trimmed (inside_tag text) ++ (32 ∷ (125 ∷ (125 ∷ rest))))) (32 ∷ (trimmed (inside_tag text) ++ (32 ∷ []))) rest
cut_inside text rest = cut_written 125 (32 ∷ trimmed (inside_tag text)) rest refl (none_trimmed (codes "}}") (inside_tag text) (none_in_front (codes "}}") (behind (codes "{{") text)))

same_words : (text rest : List ℕ) → has_tag text ≡ true → before_tag (rewritten text rest) ≡ before_tag text
same_words text rest h = (cut_tag text rest h).1

still_tag : (text rest : List ℕ) → has_tag text ≡ true → has_tag (rewritten text rest) ≡ true
still_tag text rest h = ap (has (codes "}}")) (cut_tag text rest h).2 ∙ (cut_inside text rest).0

same_inside : (text rest : List ℕ) → has_tag text ≡ true → trimmed (inside_tag (rewritten text rest)) ≡ trimmed (inside_tag text)
same_inside text rest h = ap (λ xs. trimmed (front (codes "}}") xs)) (cut_tag text rest h).2 ∙ ap trimmed (cut_inside text rest).1 ∙ trimmed_again (inside_tag text)

rest_behind : (text rest : List ℕ) → has_tag text ≡ true → behind_tag (rewritten text rest) ≡ rest
rest_behind text rest h = ap (behind (codes "}}")) (cut_tag text rest h).2 ∙ (cut_inside text rest).2

length_rewritten : (text rest : List ℕ) → length rest < length (rewritten text rest)
length_rewritten text rest = omega (arith, length-append (before_tag text) (tagged (trimmed (inside_tag text)) ++ rest), length-append (tagged (trimmed (inside_tag text))) rest)

bare_rewritten : (m : ℕ) (text rest : List ℕ) (step : Step) (others : List Step) → has_tag text ≡ true → tag_of (trimmed (inside_tag text)) ≡ Some step → length (rewritten text rest) ≤ m → ((k : ℕ) → length rest ≤ k → bare k rest ≡ map Some others) → bare m (rewritten text rest) ≡ map Some (words_step (before_tag text) ++ (step ∷ others))
bare_rewritten zero text rest step others h t l later = absurd (omega (arith, l, length_rewritten text rest))
bare_rewritten (suc m) text rest step others h t l later =
    let new = rewritten text rest in
    ap (λ v. cond v (map Some (words_step (before_tag new)) ++ (tag_of (trimmed (inside_tag new)) ∷ bare m (behind_tag new))) (map Some (words_step new))) (still_tag text rest h)
    ∙ ap (λ xs. map Some (words_step xs) ++ (tag_of (trimmed (inside_tag new)) ∷ bare m (behind_tag new))) (same_words text rest h)
    ∙ ap (λ xs. map Some (words_step (before_tag text)) ++ (tag_of xs ∷ bare m (behind_tag new))) (same_inside text rest h)
    ∙ ap (λ s. map Some (words_step (before_tag text)) ++ (s ∷ bare m (behind_tag new))) t
    ∙ ap (λ xs. map Some (words_step (before_tag text)) ++ (Some step ∷ bare m xs)) (rest_behind text rest h)
    ∙ ap (λ xs. map Some (words_step (before_tag text)) ++ (Some step ∷ xs)) (later m (omega (arith, l, length_rewritten text rest)))
    ∙ sym (map-append Some (words_step (before_tag text)) (step ∷ others))

-- ---- the whole

one_step : (b : ℕ) (bs : List ℕ) → words_step (b ∷ bs) ≡ Words (b ∷ bs) ∷ []
one_step b bs = let some : (length (b ∷ bs) == 0) ≡ false = grind arith in ap (λ v. cond v [] (Words (b ∷ bs) ∷ [])) some

words_text : (words : List ℕ) (steps : List Step) → steps_text (words_step words ++ steps) ≡ words ++ steps_text steps
words_text [] steps = refl
words_text (b ∷ bs) steps = ap (λ xs. steps_text (xs ++ steps)) (one_step b bs)

bare_words : (m : ℕ) (text : List ℕ) → has_tag text ≡ false → bare m text ≡ map Some (words_step text)
bare_words zero text h = refl
bare_words (suc m) text h = ap (λ v. cond v (map Some (words_step (before_tag text)) ++ (tag_of (trimmed (inside_tag text)) ∷ bare m (behind_tag text))) (map Some (words_step text))) h

only_words : (m : ℕ) (text : List ℕ) (steps : List Step) → has_tag text ≡ false → map Some (words_step text) ≡ map Some steps → bare m (steps_text steps) ≡ map Some steps
only_words m text steps h e =
    let same = somes_once (words_step text) steps e in
    let spelled : steps_text steps ≡ text = ap steps_text (sym same ∙ sym (append-nil (words_step text))) ∙ words_text text [] ∙ append-nil text in
    ap (bare m) spelled ∙ bare_words m text h ∙ e

-- the step of a tag that stands behind words, and the steps behind it
tag_behind : (words : List ℕ) (tag : Option Step) (rest : List (Option Step)) (steps : List Step) → map Some (words_step words) ++ (tag ∷ rest) ≡ map Some steps → (step : Step) × (others : List Step) × (steps ≡ words_step words ++ (step ∷ others)) × (tag ≡ Some step) × (rest ≡ map Some others)
tag_behind [] tag rest [] e = grind (arith, e)
tag_behind [] tag rest (step ∷ steps) e = (step, steps, refl, head_same tag (Some step) rest (map Some steps) e, tail_same tag (Some step) rest (map Some steps) e)
tag_behind (b ∷ bs) tag rest [] e = grind (arith, e)
tag_behind (b ∷ bs) tag rest (first ∷ steps) e =
    let begun : ◌≡◌ {A = List (Option Step)} (Some (Words (b ∷ bs)) ∷ (tag ∷ rest)) (Some first ∷ map Some steps) = sym (ap (λ xs. map Some xs ++ (tag ∷ rest)) (one_step b bs)) ∙ e in
    let head = same_Some (Words (b ∷ bs)) first (head_same (Some (Words (b ∷ bs))) (Some first) (tag ∷ rest) (map Some steps) begun) in
    let later = tag_behind [] tag rest steps (tail_same (Some (Words (b ∷ bs))) (Some first) (tag ∷ rest) (map Some steps) begun) in
    (later.0, later.1, ap (λ s. s ∷ steps) (sym head) ∙ ap (λ xs. Words (b ∷ bs) ∷ xs) later.2 ∙ sym (ap (λ xs. xs ++ (later.0 ∷ later.1)) (one_step b bs)), later.3, later.4)

again : (n : ℕ) (text : List ℕ) (steps : List Step) → length text ≤ n → bare n text ≡ map Some steps → (m : ℕ) → length (steps_text steps) ≤ m → bare m (steps_text steps) ≡ map Some steps
again zero [] steps l e m k = only_words m [] steps refl e
again zero (b ∷ bs) steps l e m k = absurd (omega (arith, l))
again (suc n) [] steps l e m k = only_words m [] steps refl e
again (suc n) (b ∷ bs) steps l e m k = elim (has_tag (b ∷ bs)) as (λ v. has_tag (b ∷ bs) ≡ v → cond v (map Some (words_step (before_tag (b ∷ bs))) ++ (tag_of (trimmed (inside_tag (b ∷ bs))) ∷ bare n (behind_tag (b ∷ bs)))) (map Some (words_step (b ∷ bs))) ≡ map Some steps → bare m (steps_text steps) ≡ map Some steps) [
  | true ↦ λ h g.
      (let found = tag_behind (before_tag (b ∷ bs)) (tag_of (trimmed (inside_tag (b ∷ bs)))) (bare n (behind_tag (b ∷ bs))) steps g in
      let spelled : steps_text steps ≡ rewritten (b ∷ bs) (steps_text found.1) = ap steps_text found.2 ∙ words_text (before_tag (b ∷ bs)) (found.0 ∷ found.1) ∙ ap (λ xs. before_tag (b ∷ bs) ++ (xs ++ steps_text found.1)) (tag_written (trimmed (inside_tag (b ∷ bs))) found.0 found.3) in
      ap (bare m) spelled
      ∙ bare_rewritten m (b ∷ bs) (steps_text found.1) found.0 found.1 h found.3 (rw (← spelled) k) (again n (behind_tag (b ∷ bs)) found.1 (omega (arith, l, tag_shorter b bs)) found.4)
      ∙ ap (map Some) (sym found.2))
  | false ↦ λ h g. only_words m (b ∷ bs) steps h g
] refl e

pub read_again : (text : List ℕ) (tree : Tree) → IsTemplate text tree → IsTemplate (written tree) tree
read_again text tree h =
    let spelled : steps_text (tree_steps tree) ≡ written tree = ap steps_text (sym (append-nil (tree_steps tree))) ∙ steps_written tree [] ∙ append-nil (written tree) in
    record {
      pieces = pieces_bare (length (written tree)) (length (written tree)) (written tree) ∙ rw (← spelled) (again (length text) text (tree_steps tree) (omega arith) (sym (pieces_bare (length text) (length text) text) ∙ h.pieces) (length (steps_text (tree_steps tree))) (omega arith));
      nests = h.nests;
    }
