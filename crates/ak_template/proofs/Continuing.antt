-- How a text that goes wrong can be continued.
use Rattle.std.proofs.Common.{◌≡◌, ℕ, zero, suc, ◌+◌, ◌-◌, ◌<◌, ◌≤◌, ◌==◌, nat_lt, Bool, true, false, ◌&&◌, ◌||◌, cond, Option, Some, None, List, [], ◌∷◌, ◌++◌, length, length-append, drop, append_assoc, append-nil, refl, ap, sym, subst, ◌∙◌, arith}
use Rattle.std.specs.Prelude.{⊤, codes}
use Rattle.std.specs.Option.{option_map, option_or}
use Rattle.std.specs.List.{slice_get}
use Rattle.std.proofs.lemmas.Bool.{or_parts}
use Rattle.std.proofs.lemmas.Option.{same_Some}
use Rattle.ak_base.proofs.Resting.{same_bytes}
use Rattle.ak_base.specs.Cuts.{begins, has, front, behind}
use Rattle.std.specs.List.{slice_split}
use Rattle.ak_template.specs.declared.steps.Step.{Step}
use Rattle.ak_template.specs.declared.steps.Step.TheVariants.{Words, Field, Open, Close}
use Rattle.ak_template.specs.declared.faults.TemplateFault.{TemplateFault}
use Rattle.ak_template.specs.declared.faults.TemplateFault.TheVariants as faults
use Rattle.ak_template.specs.declared.builders.Opened.{Opened}
use Rattle.ak_template.specs.Pieces.{Piece, has_tag, before_tag, inside_tag, behind_tag, without_front, without_back, joined, trimmed, named, field_parts, field_tag, tag_of, words_at, pieces_in, pieces}
use Rattle.ak_template.specs.Trees.{tagged, close_inside}
use Rattle.ak_template.specs.Grammar.{fault_number, fault_place, closes, fault_at, opened, outside, unclosed, fault_in, first_fault}
use Rattle.ak_template.specs.Laws.{CanGoOn, IsAtFault, EndsPlainly}
use Rattle.ak_template.proofs.Grammars.{has_tree}
use Rattle.ak_template.proofs.Cutting.{no_opening}
use Rattle.ak_template.proofs.Parsing.{pieces_step, pieces_last, tag_shorter}
use Rattle.ak_template.proofs.Writing.{IsCut, begins_alike, cut_whole, cut_again, cut_at_front, cut_written, opens, none_in_front, none_trimmed, back_twice, between_spaces}

-- ---- the first fault of a text whose first byte is at a place, inside these sections

abbrev Faulty : List Opened → ℕ → List ℕ → Option TemplateFault
Faulty sections place text = fault_in sections (pieces_in (length text) (place + length text) text)

words_pass : (sections : List Opened) (place : ℕ) (words : List ℕ) (ps : List Piece) → fault_in sections (words_at place words ++ ps) ≡ fault_in sections ps
words_pass sections place words ps = elim (length words == 0) as (λ v. fault_in sections (cond v [] ((place, Some (Words words)) ∷ []) ++ ps) ≡ fault_in sections ps) [ true ↦ refl | false ↦ refl ]

only_words : (sections : List Opened) (place : ℕ) (text : List ℕ) → has_tag text ≡ false → Faulty sections place text ≡ unclosed sections
only_words sections place text h =
    ap (fault_in sections) (pieces_last (place + length text) text h ∙ sym (append-nil _)) ∙ words_pass sections (place + length text - length text) text []

-- the tag that a text begins with after some words
abbrev tag_at : ℕ → List ℕ → Piece
tag_at place text = (place + length (before_tag text), tag_of (trimmed (inside_tag text)))

abbrev tag_text : List ℕ → List ℕ
tag_text text = codes "{{" ++ (inside_tag text ++ codes "}}")

abbrev past_tag : ℕ → List ℕ → ℕ
past_tag place text = place + (length (before_tag text) + length (tag_text text))

tag_passes : (sections : List Opened) (place size : ℕ) (text before inside after : List ℕ) → has_tag text ≡ true → before_tag text ≡ before → inside_tag text ≡ inside → behind_tag text ≡ after → size ≡ place + length text → fault_in sections (pieces_in (length text) size text) ≡ option_or (fault_at sections (place + length before, tag_of (trimmed inside))) (fault_in (opened sections (place + length before, tag_of (trimmed inside))) (pieces_in (length after) size after))
tag_passes sections place size text before inside after h b i a s =
    let here : size - length text ≡ place = omega (arith, s) in
    ap (fault_in sections) (pieces_step size text h)
    ∙ words_pass sections (size - length text) (before_tag text) _
    ∙ ap (λ n. option_or (fault_at sections (n + length (before_tag text), tag_of (trimmed (inside_tag text)))) (fault_in (opened sections (n + length (before_tag text), tag_of (trimmed (inside_tag text)))) (pieces_in (length (behind_tag text)) size (behind_tag text)))) here
    ∙ ap (λ w. option_or (fault_at sections (place + length w, tag_of (trimmed (inside_tag text)))) (fault_in (opened sections (place + length w, tag_of (trimmed (inside_tag text)))) (pieces_in (length (behind_tag text)) size (behind_tag text)))) b
    ∙ ap (λ w. option_or (fault_at sections (place + length before, tag_of (trimmed w))) (fault_in (opened sections (place + length before, tag_of (trimmed w))) (pieces_in (length (behind_tag text)) size (behind_tag text)))) i
    ∙ ap (λ w. option_or (fault_at sections (place + length before, tag_of (trimmed inside))) (fault_in (opened sections (place + length before, tag_of (trimmed inside))) (pieces_in (length w) size w))) a

-- ---- the same words and the same tag before another text

spelled : (inside other : List ℕ) → (codes "{{" ++ (inside ++ codes "}}")) ++ other ≡ codes "{{" ++ (inside ++ (codes "}}" ++ other))
spelled inside other = ap (λ xs. codes "{{" ++ xs) (append_assoc inside (codes "}}") other)

abbrev spliced : List ℕ → List ℕ → List ℕ
spliced text other = before_tag text ++ (tag_text text ++ other)

spliced_back : (text : List ℕ) → has_tag text ≡ true → spliced text (behind_tag text) ≡ text
spliced_back text h =
    ap (λ xs. before_tag text ++ xs) (spelled (inside_tag text) (behind_tag text))
    ∙ ap (λ xs. before_tag text ++ (codes "{{" ++ xs)) (sym (cut_whole (codes "}}") (behind (codes "{{") text) h))
    ∙ sym (cut_whole (codes "{{") text (opens text h))

spliced_open : (text other : List ℕ) → has_tag text ≡ true → IsCut (codes "{{") (spliced text other) (before_tag text) (inside_tag text ++ (codes "}}" ++ other))
spliced_open text other h =
    let P : List ℕ → Type 0 = λ xs. IsCut (codes "{{") (before_tag text ++ xs) (before_tag text) (inside_tag text ++ (codes "}}" ++ other)) in
    subst P (sym (spelled (inside_tag text) other)) (cut_again 123 (123 ∷ []) text (inside_tag text ++ (codes "}}" ++ other)) (opens text h))

spliced_close : (text other : List ℕ) → has_tag text ≡ true → IsCut (codes "}}") (inside_tag text ++ (codes "}}" ++ other)) (inside_tag text) other
spliced_close text other h = cut_again 125 (125 ∷ []) (behind (codes "{{") text) other h

spliced_passes : (sections : List Opened) (place : ℕ) (text other : List ℕ) → has_tag text ≡ true → Faulty sections place (spliced text other) ≡ option_or (fault_at sections (tag_at place text)) (Faulty (opened sections (tag_at place text)) (past_tag place text) other)
spliced_passes sections place text other h =
    let first = spliced_open text other h in
    let last = spliced_close text other h in
    let size : past_tag place text + length other ≡ place + length (spliced text other) = omega (arith, length-append (before_tag text) (tag_text text ++ other), length-append (tag_text text) other) in
    tag_passes sections place (place + length (spliced text other)) (spliced text other) (before_tag text) (inside_tag text) other
    (ap (has (codes "}}")) first.2 ∙ last.0) first.1 (ap (front (codes "}}")) first.2 ∙ last.1) (ap (behind (codes "}}")) first.2 ∙ last.2) refl
    ∙ ap (λ n. option_or (fault_at sections (tag_at place text)) (fault_in (opened sections (tag_at place text)) (pieces_in (length other) n other))) (sym size)

-- ---- names that can be written in a close tag

abbrev Good : List ℕ → Type 0
Good name = (has (codes "}}") name ≡ false) × (without_back name ≡ name) × ((length name == 0) ≡ false)

abbrev AllGood : List Opened → Type 0
AllGood [] = ⊤
AllGood (section ∷ sections) = Good section.name × AllGood sections

outside_good : (sections : List Opened) → AllGood sections → AllGood (outside sections)
outside_good [] h = tt
outside_good (section ∷ sections) h = h.1

opened_open : (sections : List Opened) (place : ℕ) (inverted : Bool) (name : List ℕ) → AllGood sections → has (codes "}}") name ≡ false → without_back name ≡ name → AllGood (opened sections (place, named (Open inverted) name))
opened_open sections place inverted name all h k = elim (length name == 0) as (λ v. (length name == 0) ≡ v → AllGood (opened sections (place, cond v None (Some (Open inverted name))))) [ true ↦ λ e. all | false ↦ λ e. ((h, k, e), all) ] refl

opened_close : (sections : List Opened) (place : ℕ) (name : List ℕ) → AllGood sections → AllGood (opened sections (place, named Close name))
opened_close sections place name all = elim (length name == 0) as (λ v. AllGood (opened sections (place, cond v None (Some (Close name))))) [ true ↦ all | false ↦ outside_good sections all ]

opened_named : (sections : List Opened) (place : ℕ) (filters : List (List ℕ)) (name : List ℕ) → AllGood sections → AllGood (opened sections (place, named (Field filters) name))
opened_named sections place filters name all = elim (length name == 0) as (λ v. AllGood (opened sections (place, cond v None (Some (Field filters name))))) [ true ↦ all | false ↦ all ]

opened_parts : (sections : List Opened) (place : ℕ) (filters parts : List (List ℕ)) → AllGood sections → AllGood (opened sections (place, field_parts filters parts))
opened_parts sections place filters [] all = all
opened_parts sections place filters (name ∷ []) all = opened_named sections place filters name all
opened_parts sections place filters (filter ∷ part ∷ parts) all = elim (length filter == 0) as (λ v. AllGood (opened sections (place, cond v None (field_parts (filters ++ filter ∷ []) (part ∷ parts))))) [ true ↦ all | false ↦ opened_parts sections place (filters ++ filter ∷ []) (part ∷ parts) all ]

opened_field : (sections : List Opened) (place : ℕ) (inside : List ℕ) → AllGood sections → AllGood (opened sections (place, field_tag inside))
opened_field sections place inside all = opened_parts sections place [] (slice_split (λ byte. byte == 58) inside) all

back_tail : (b : ℕ) (bs ys : List ℕ) → without_back bs ≡ ys → joined b ys ≡ b ∷ bs → ys ≡ bs
back_tail b bs [] e h = elim (b == 32) as (λ v. cond v [] (b ∷ []) ≡ b ∷ bs → [] ≡ bs) [ true ↦ λ k. grind (arith, k) | false ↦ λ k. ap (drop 1) k ] h
back_tail b bs (y ∷ ys) e h = ap (drop 1) h

back_dropped : (xs : List ℕ) → without_back xs ≡ xs → without_back (drop 1 xs) ≡ drop 1 xs
back_dropped [] h = refl
back_dropped (b ∷ bs) h = back_tail b bs (without_back bs) refl h

none_dropped : (mark xs : List ℕ) → has mark xs ≡ false → has mark (drop 1 xs) ≡ false
none_dropped mark [] h = h
none_dropped mark (b ∷ bs) h = (or_parts (begins mark (b ∷ bs)) (has mark bs) h).1

opened_tag : (sections : List Opened) (place : ℕ) (inside : List ℕ) → AllGood sections → has (codes "}}") inside ≡ false → without_back inside ≡ inside → AllGood (opened sections (place, tag_of inside))
opened_tag sections place inside all h k =
    let name = drop 1 inside in
    let none = none_dropped (codes "}}") inside h in
    let ends = back_dropped inside k in
    elim (begins (codes "#") inside) as (λ v. AllGood (opened sections (place, cond v (named (Open false) name) (cond (begins (codes "^") inside) (named (Open true) name) (cond (begins (codes "/") inside) (named Close name) (field_tag inside)))))) [
      | true ↦ opened_open sections place false name all none ends
      | false ↦ elim (begins (codes "^") inside) as (λ v. AllGood (opened sections (place, cond v (named (Open true) name) (cond (begins (codes "/") inside) (named Close name) (field_tag inside))))) [
        | true ↦ opened_open sections place true name all none ends
        | false ↦ elim (begins (codes "/") inside) as (λ v. AllGood (opened sections (place, cond v (named Close name) (field_tag inside)))) [
          | true ↦ opened_close sections place name all
          | false ↦ opened_field sections place inside all
        ]
      ]
    ]

opened_good : (sections : List Opened) (place : ℕ) (text : List ℕ) → AllGood sections → AllGood (opened sections (tag_at place text))
opened_good sections place text all = opened_tag sections (place + length (before_tag text)) (trimmed (inside_tag text)) all (none_trimmed (codes "}}") (inside_tag text) (none_in_front (codes "}}") (behind (codes "{{") text))) (back_twice (without_front (inside_tag text)))

-- ---- the open sections are closed

abbrev closings : List Opened → List ℕ
closings [] = []
closings (section ∷ sections) = tagged (close_inside section.name) ++ closings sections

-- words after which a tag opens where it is written
abbrev Leads : List ℕ → Type 0
Leads words = (rest : List ℕ) → IsCut (codes "{{") (words ++ (codes "{{" ++ rest)) words rest

kept_back : (name ys : List ℕ) → without_back name ≡ ys → ys ≡ name → joined 47 ys ≡ 47 ∷ name
kept_back name [] e h = ap (λ xs. 47 ∷ xs) h
kept_back name (y ∷ ys) e h = ap (λ xs. 47 ∷ xs) h

close_tag : (name : List ℕ) → (length name == 0) ≡ false → tag_of (47 ∷ name) ≡ Some (Close name)
close_tag name h = ap (λ v. cond v None (Some (Close name))) h

close_text : (words name rest : List ℕ) → words ++ (tagged (close_inside name) ++ rest) ≡ words ++ (codes "{{" ++ (32 ∷ (47 ∷ (name ++ (32 ∷ (125 ∷ (125 ∷ rest)))))))
close_text words name rest = ap (λ xs. words ++ (codes "{{ /" ++ xs)) (append_assoc name (codes " }}") rest)

close_passes : (section : Opened) (sections : List Opened) (place : ℕ) (words rest : List ℕ) → Good section.name → Leads words → Faulty (section ∷ sections) place (words ++ (tagged (close_inside section.name) ++ rest)) ≡ Faulty sections (place + (length words + length (tagged (close_inside section.name)))) rest
close_passes section sections place words rest good leads =
    let name = section.name in
    let text = words ++ (tagged (close_inside name) ++ rest) in
    let inner = 32 ∷ (47 ∷ (name ++ (32 ∷ (125 ∷ (125 ∷ rest))))) in
    let P : List ℕ → Type 0 = λ xs. IsCut (codes "{{") xs words inner in
    let first : IsCut (codes "{{") text words inner = subst P (sym (close_text words name rest)) (leads inner) in
    let last : IsCut (codes "}}") inner (32 ∷ ((47 ∷ name) ++ (32 ∷ []))) rest = cut_written 125 (32 ∷ (47 ∷ name)) rest refl good.0 in
    let inside : trimmed (32 ∷ ((47 ∷ name) ++ (32 ∷ []))) ≡ 47 ∷ name = between_spaces (47 ∷ name) refl (kept_back name (without_back name) refl good.1) in
    let tag : tag_of (trimmed (32 ∷ ((47 ∷ name) ++ (32 ∷ [])))) ≡ Some (Close name) = ap tag_of inside ∙ close_tag name good.2 in
    let size : (place + (length words + length (tagged (close_inside name)))) + length rest ≡ place + length text = omega (arith, length-append words (tagged (close_inside name) ++ rest), length-append (tagged (close_inside name)) rest) in
    tag_passes (section ∷ sections) place (place + length text) text words (32 ∷ ((47 ∷ name) ++ (32 ∷ []))) rest
    (ap (has (codes "}}")) first.2 ∙ last.0) first.1 (ap (front (codes "}}")) first.2 ∙ last.1) (ap (behind (codes "}}")) first.2 ∙ last.2) refl
    ∙ ap (λ t. option_or (fault_at (section ∷ sections) (place + length words, t)) (fault_in (opened (section ∷ sections) (place + length words, t)) (pieces_in (length rest) (place + length text) rest))) tag
    ∙ ap (λ v. option_or (cond v None (Some (faults.WrongClose (place + length words)))) (fault_in sections (pieces_in (length rest) (place + length text) rest))) (same_bytes name)
    ∙ ap (λ n. fault_in sections (pieces_in (length rest) n rest)) (sym size)

nothing_leads : Leads []
nothing_leads = λ rest. cut_at_front 123 (123 ∷ []) rest

all_closed : (sections : List Opened) (place : ℕ) (words : List ℕ) → AllGood sections → Leads words → has (codes "{{") words ≡ false → Faulty sections place (words ++ closings sections) ≡ None
all_closed [] place words all leads none =
    let P : List ℕ → Type 0 = λ xs. Faulty [] place xs ≡ None in
    subst P (sym (append-nil words)) (only_words [] place words (no_opening words none))
all_closed (section ∷ sections) place words all leads none =
    close_passes section sections place words (closings sections) all.0 leads
    ∙ all_closed sections (place + (length words + length (tagged (close_inside section.name)))) [] all.1 nothing_leads refl

-- ---- a tag at fault

abbrev IsTag : TemplateFault → Type 0
IsTag fault = 1 < fault_number fault

at_place : (sections : List Opened) (place : ℕ) (tag : Option Step) (fault : TemplateFault) → fault_at sections (place, tag) ≡ Some fault → fault_place fault ≡ place
at_place sections place None fault h = sym (ap fault_place (same_Some (faults.EmptyTag place) fault h))
at_place sections place (Some (Words words)) fault h = grind (arith, h)
at_place sections place (Some (Field filters name)) fault h = grind (arith, h)
at_place sections place (Some (Open inverted name)) fault h = elim (nat_lt (length sections) 32) as (λ v. cond v None (Some (faults.TooDeep place)) ≡ Some fault → fault_place fault ≡ place) [ true ↦ λ e. grind (arith, e) | false ↦ λ e. sym (ap fault_place (same_Some (faults.TooDeep place) fault e)) ] h
at_place sections place (Some (Close name)) fault h = elim (closes sections name) as (λ v. cond v None (Some (faults.WrongClose place)) ≡ Some fault → fault_place fault ≡ place) [ true ↦ λ e. grind (arith, e) | false ↦ λ e. sym (ap fault_place (same_Some (faults.WrongClose place) fault e)) ] h

not_unclosed : (sections : List Opened) (place : ℕ) (tag : Option Step) (fault : TemplateFault) (at : ℕ) → fault_at sections (place, tag) ≡ Some fault → fault ≡ faults.Unclosed at → ⊥
not_unclosed sections place None fault at h e = grind (arith, h, e)
not_unclosed sections place (Some (Words words)) fault at h e = grind (arith, h)
not_unclosed sections place (Some (Field filters name)) fault at h e = grind (arith, h)
not_unclosed sections place (Some (Open inverted name)) fault at h e = elim (nat_lt (length sections) 32) as (λ v. cond v None (Some (faults.TooDeep place)) ≡ Some fault → ⊥) [ true ↦ λ k. grind (arith, k) | false ↦ λ k. grind (arith, k, e) ] h
not_unclosed sections place (Some (Close name)) fault at h e = elim (closes sections name) as (λ v. cond v None (Some (faults.WrongClose place)) ≡ Some fault → ⊥) [ true ↦ λ k. grind (arith, k) | false ↦ λ k. grind (arith, k, e) ] h

unclosed_last : (last : Option Opened) (fault : TemplateFault) → option_map (λ (section : Opened). faults.Unclosed section.place) last ≡ Some fault → IsTag fault → ⊥
unclosed_last None fault h t = grind (arith, h)
unclosed_last (Some section) fault h t =
    let one : 1 ≡ fault_number fault = ap fault_number (same_Some (faults.Unclosed section.place) fault h) in
    omega (arith, one, t)

unclosed_number : (sections : List Opened) (fault : TemplateFault) → unclosed sections ≡ Some fault → IsTag fault → ⊥
unclosed_number [] fault h t = grind (arith, h)
unclosed_number (section ∷ sections) fault h t = unclosed_last (slice_get (section ∷ sections) (length (section ∷ sections) - 1)) fault h t

record Goes (sections : List Opened) (place : ℕ) (text : List ℕ) (fault : TemplateFault) : Type 0 where
  pub before : List ℕ
  pub inside : List ℕ
  pub tag : List ℕ
  pub after : List ℕ
  pub tag_is : tag ≡ codes "{{" ++ (inside ++ codes "}}")
  pub ends_first : has (codes "}}") (inside ++ codes "}") ≡ false
  pub split : text ≡ before ++ (tag ++ after)
  pub at : place + length before ≡ fault_place fault
  pub rest : List ℕ
  pub goes : Faulty sections place (before ++ rest) ≡ None
  pub stays : (other : List ℕ) → Faulty sections place (before ++ (tag ++ other)) ≡ Some fault

-- with the first brace of the mark that ends it, an inside has no such mark
front_closed : (text : List ℕ) → has (codes "}}") text ≡ true → has (codes "}}") (front (codes "}}") text ++ codes "}") ≡ false
front_closed [] h = grind (arith, h)
front_closed (b ∷ bs) h = elim (begins (codes "}}") (b ∷ bs)) as (λ v. begins (codes "}}") (b ∷ bs) ≡ v → (v || has (codes "}}") bs) ≡ true → has (codes "}}") (cond v [] (b ∷ front (codes "}}") bs) ++ codes "}") ≡ false) [
  | true ↦ λ e k. refl
  | false ↦ λ e k.
      (let longer : (front (codes "}}") bs ++ codes "}") ++ (125 ∷ behind (codes "}}") bs) ≡ bs = append_assoc (front (codes "}}") bs) (codes "}") (125 ∷ behind (codes "}}") bs) ∙ sym (cut_whole (codes "}}") bs k) in
      let none : begins (codes "}}") (b ∷ (front (codes "}}") bs ++ codes "}")) ≡ false =
      ap (begins (codes "}}")) (sym (append-nil (b ∷ (front (codes "}}") bs ++ codes "}"))))
      ∙ begins_alike (codes "}}") (b ∷ (front (codes "}}") bs ++ codes "}")) [] (125 ∷ behind (codes "}}") bs) (omega (arith, length-append (front (codes "}}") bs) (codes "}")))
      ∙ ap (λ xs. begins (codes "}}") (b ∷ xs)) longer
      ∙ e in
      ap (λ v. v || has (codes "}}") (front (codes "}}") bs ++ codes "}")) none ∙ front_closed bs k)
] refl h

here : (sections : List Opened) (place : ℕ) (text : List ℕ) (fault : TemplateFault) → AllGood sections → has_tag text ≡ true → fault_at sections (tag_at place text) ≡ Some fault → Goes sections place text fault
here sections place text fault all h e = record {
  before = before_tag text;
  inside = inside_tag text;
  tag = tag_text text;
  after = behind_tag text;
  tag_is = refl;
  ends_first = front_closed (behind (codes "{{") text) h;
  split = sym (spliced_back text h);
  at = sym (at_place sections (place + length (before_tag text)) (tag_of (trimmed (inside_tag text))) fault e);
  rest = closings sections;
  goes = all_closed sections place (before_tag text) all (λ rest. cut_again 123 (123 ∷ []) text rest (opens text h)) (none_in_front (codes "{{") text);
  stays = λ other. spliced_passes sections place text other h ∙ ap (λ o. option_or o (Faulty (opened sections (tag_at place text)) (past_tag place text) other)) e;
}

regroup : (one two three four : List ℕ) → (one ++ (two ++ three)) ++ four ≡ one ++ (two ++ (three ++ four))
regroup one two three four = append_assoc one (two ++ three) four ∙ ap (λ xs. one ++ xs) (append_assoc two three four)

later : (sections : List Opened) (place : ℕ) (text : List ℕ) (fault : TemplateFault) → has_tag text ≡ true → fault_at sections (tag_at place text) ≡ None → Goes (opened sections (tag_at place text)) (past_tag place text) (behind_tag text) fault → Goes sections place text fault
later sections place text fault h e g =
    let passes : (other : List ℕ) → Faulty sections place (spliced text other) ≡ Faulty (opened sections (tag_at place text)) (past_tag place text) other = λ other. spliced_passes sections place text other h ∙ ap (λ o. option_or o (Faulty (opened sections (tag_at place text)) (past_tag place text) other)) e in
    record {
      before = before_tag text ++ (tag_text text ++ g.before);
      inside = g.inside;
      tag = g.tag;
      after = g.after;
      tag_is = g.tag_is;
      ends_first = g.ends_first;
      split = sym (spliced_back text h) ∙ ap (spliced text) g.split ∙ sym (regroup (before_tag text) (tag_text text) g.before (g.tag ++ g.after));
      at = omega (arith, g.at, length-append (before_tag text) (tag_text text ++ g.before), length-append (tag_text text) g.before);
      rest = g.rest;
      goes = ap (Faulty sections place) (regroup (before_tag text) (tag_text text) g.before g.rest) ∙ passes (g.before ++ g.rest) ∙ g.goes;
      stays = λ other. ap (Faulty sections place) (regroup (before_tag text) (tag_text text) g.before (g.tag ++ other)) ∙ passes (g.before ++ (g.tag ++ other)) ∙ g.stays other;
    }

found : (n : ℕ) (sections : List Opened) (place : ℕ) (text : List ℕ) (fault : TemplateFault) → length text ≤ n → AllGood sections → IsTag fault → Faulty sections place text ≡ Some fault → Goes sections place text fault
found n sections place [] fault l all t e = absurd (unclosed_number sections fault e t)
found zero sections place (b ∷ bs) fault l all t e = absurd (omega (arith, l))
found (suc n) sections place (b ∷ bs) fault l all t e =
    let text : List ℕ = b ∷ bs in
    elim (has_tag (b ∷ bs)) as (λ v. has_tag (b ∷ bs) ≡ v → Goes sections place (b ∷ bs) fault) [
      | true ↦ λ h.
          (let whole = sym (spliced_passes sections place (b ∷ bs) (behind_tag (b ∷ bs)) h) ∙ ap (Faulty sections place) (spliced_back (b ∷ bs) h) ∙ e in
          elim (fault_at sections (tag_at place (b ∷ bs))) as (λ o. fault_at sections (tag_at place (b ∷ bs)) ≡ o → option_or o (Faulty (opened sections (tag_at place (b ∷ bs))) (past_tag place (b ∷ bs)) (behind_tag (b ∷ bs))) ≡ Some fault → Goes sections place (b ∷ bs) fault) [
            | None ↦ λ none w. later sections place (b ∷ bs) fault h none (found n (opened sections (tag_at place (b ∷ bs))) (past_tag place (b ∷ bs)) (behind_tag (b ∷ bs)) fault (omega (arith, l, tag_shorter b bs)) (opened_good sections place (b ∷ bs) all) t w)
            | Some own ↦ λ some w. here sections place (b ∷ bs) fault all h (some ∙ w)
          ] refl whole)
      | false ↦ λ h. absurd (unclosed_number sections fault (sym (only_words sections place (b ∷ bs) h) ∙ e) t)
    ] refl

from_start : (text : List ℕ) → Faulty [] 0 text ≡ first_fault text
from_start text = let size : 0 + length text ≡ length text = omega arith in ap (λ n. fault_in [] (pieces_in (length text) n text)) size

pub at_fault : (text : List ℕ) (fault : TemplateFault) → first_fault text ≡ Some fault → 1 < fault_number fault → IsAtFault text fault
at_fault text fault e t =
    let g = found (length text) [] 0 text fault (omega arith) tt t (from_start text ∙ e) in
    let tree = has_tree (g.before ++ g.rest) (sym (from_start (g.before ++ g.rest)) ∙ g.goes) in
    record {
      before = g.before;
      inside = g.inside;
      tag = g.tag;
      after = g.after;
      tag_is = g.tag_is;
      ends_first = g.ends_first;
      split = g.split;
      at = omega (arith, g.at);
      goes = (g.rest, tree.0, tree.1);
      stays = λ other. sym (from_start (g.before ++ (g.tag ++ other))) ∙ g.stays other;
    }

-- ---- sections that are open at the end

plain_after : (ps qs : List Piece) → EndsPlainly (ps ++ qs) → EndsPlainly qs
plain_after [] qs h = h
plain_after (p ∷ ps) qs h = plain_after ps qs h.1

words_plain : (place : ℕ) (words : List ℕ) → EndsPlainly (words_at place words) → has (codes "{{") words ≡ false
words_plain place [] h = refl
words_plain place (b ∷ bs) h = let some : (length (b ∷ bs) == 0) ≡ false = grind arith in
    let P : Bool → Type 0 = λ v. EndsPlainly (cond v [] ((place, Some (Words (b ∷ bs))) ∷ [])) in
    (subst P some h).0

begins_no : (b : ℕ) → has (codes "{{") (b ∷ (32 ∷ [])) ≡ false
begins_no b = elim (123 == b) as (λ v. ((v && false) || false) ≡ false) [ true ↦ refl | false ↦ refl ]

no_mark : (text : List ℕ) → has (codes "{{") text ≡ false → has (codes "{{") (text ++ (32 ∷ [])) ≡ false
no_mark [] h = refl
no_mark (b ∷ []) h = begins_no b
no_mark (b ∷ (c ∷ cs)) h =
    let both = or_parts (begins (codes "{{") (b ∷ (c ∷ cs))) (has (codes "{{") (c ∷ cs)) h in
    ap (λ v. v || has (codes "{{") ((c ∷ cs) ++ (32 ∷ []))) both.0 ∙ no_mark (c ∷ cs) both.1

at_end : (sections : List Opened) (place : ℕ) (text : List ℕ) → AllGood sections → has (codes "{{") text ≡ false → Faulty sections place (text ++ (32 ∷ closings sections)) ≡ None
at_end sections place text all none =
    let leads : Leads (text ++ (32 ∷ [])) = λ rest. (let P : List ℕ → Type 0 = λ xs. IsCut (codes "{{") xs (text ++ (32 ∷ [])) rest in subst P (sym (append_assoc text (32 ∷ []) (codes "{{" ++ rest))) (cut_written 123 text rest refl none)) in
    ap (Faulty sections place) (sym (append_assoc text (32 ∷ []) (closings sections)))
    ∙ all_closed sections place (text ++ (32 ∷ [])) all leads (no_mark text none)

plain_behind : (place : ℕ) (text : List ℕ) → has_tag text ≡ true → EndsPlainly (pieces_in (length text) (place + length text) text) → EndsPlainly (pieces_in (length (behind_tag text)) (past_tag place text + length (behind_tag text)) (behind_tag text))
plain_behind place text h p =
    let whole = ap length (spliced_back text h) in
    let size : past_tag place text + length (behind_tag text) ≡ place + length text = omega (arith, whole, length-append (before_tag text) (tag_text text ++ behind_tag text), length-append (tag_text text) (behind_tag text)) in
    let P : ℕ → Type 0 = λ n. EndsPlainly (pieces_in (length (behind_tag text)) n (behind_tag text)) in
    subst P (sym size) (plain_after (words_at (place + length text - length text) (before_tag text)) _ (subst EndsPlainly (pieces_step (place + length text) text h) p)).1

past : (sections : List Opened) (place at : ℕ) (text : List ℕ) → has_tag text ≡ true → Faulty sections place text ≡ Some (faults.Unclosed at) → (fault_at sections (tag_at place text) ≡ None → Faulty (opened sections (tag_at place text)) (past_tag place text) (behind_tag text) ≡ Some (faults.Unclosed at) → (rest : List ℕ) × (Faulty (opened sections (tag_at place text)) (past_tag place text) (behind_tag text ++ rest) ≡ None)) → (rest : List ℕ) × (Faulty sections place (text ++ rest) ≡ None)
past sections place at text h e next =
    let whole = sym (spliced_passes sections place text (behind_tag text) h) ∙ ap (Faulty sections place) (spliced_back text h) ∙ e in
    elim (fault_at sections (tag_at place text)) as (λ o. fault_at sections (tag_at place text) ≡ o → option_or o (Faulty (opened sections (tag_at place text)) (past_tag place text) (behind_tag text)) ≡ Some (faults.Unclosed at) → (rest : List ℕ) × (Faulty sections place (text ++ rest) ≡ None)) [
      | None ↦ λ none w.
          (let g = next none w in
          (g.0, ap (λ xs. Faulty sections place (xs ++ g.0)) (sym (spliced_back text h)) ∙ ap (Faulty sections place) (regroup (before_tag text) (tag_text text) (behind_tag text) g.0) ∙ spliced_passes sections place text (behind_tag text ++ g.0) h ∙ ap (λ o. option_or o (Faulty (opened sections (tag_at place text)) (past_tag place text) (behind_tag text ++ g.0))) none ∙ g.1))
      | Some own ↦ λ some w. absurd (not_unclosed sections (place + length (before_tag text)) (tag_of (trimmed (inside_tag text))) own at some (same_Some own (faults.Unclosed at) w))
    ] refl whole

goes_on : (n : ℕ) (sections : List Opened) (place place_of : ℕ) (text : List ℕ) → length text ≤ n → AllGood sections → EndsPlainly (pieces_in (length text) (place + length text) text) → Faulty sections place text ≡ Some (faults.Unclosed place_of) → (rest : List ℕ) × (Faulty sections place (text ++ rest) ≡ None)
goes_on n sections place place_of [] l all p e = (32 ∷ closings sections, at_end sections place [] all refl)
goes_on zero sections place place_of (b ∷ bs) l all p e = absurd (omega (arith, l))
goes_on (suc n) sections place place_of (b ∷ bs) l all p e =
    let text : List ℕ = b ∷ bs in
    let size : ℕ = place + length (b ∷ bs) in
    elim (has_tag (b ∷ bs)) as (λ v. has_tag (b ∷ bs) ≡ v → (rest : List ℕ) × (Faulty sections place ((b ∷ bs) ++ rest) ≡ None)) [
      | true ↦ λ h. past sections place place_of (b ∷ bs) h e (λ none w.
          goes_on n (opened sections (tag_at place (b ∷ bs))) (past_tag place (b ∷ bs)) place_of (behind_tag (b ∷ bs)) (omega (arith, l, tag_shorter b bs)) (opened_good sections place (b ∷ bs) all) (plain_behind place (b ∷ bs) h p) w)
      | false ↦ λ h. (32 ∷ closings sections, at_end sections place (b ∷ bs) all (words_plain (size - length (b ∷ bs)) (b ∷ bs) (subst EndsPlainly (pieces_last size (b ∷ bs) h) p)))
    ] refl

pub unclosed_goes_on : (text : List ℕ) (place : ℕ) → first_fault text ≡ Some (faults.Unclosed place) → EndsPlainly (pieces text) → CanGoOn text
unclosed_goes_on text place e p =
    let size : 0 + length text ≡ length text = omega arith in
    let P : ℕ → Type 0 = λ n. EndsPlainly (pieces_in (length text) n text) in
    let g = goes_on (length text) [] 0 place text (omega arith) tt (subst P (sym size) p) (from_start text ∙ e) in
    let tree = has_tree (text ++ g.0) (sym (from_start (text ++ g.0)) ∙ g.1) in
    (g.0, tree.0, tree.1)
