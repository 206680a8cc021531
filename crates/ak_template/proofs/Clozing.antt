-- The parts of a field with clozes, one by one.
use Rattle.std.proofs.Common.{◌≡◌, ℕ, zero, suc, ◌+◌, ◌-◌, ◌*◌, ◌≤◌, true, false, ◌&&◌, ◌||◌, nat_lt, cond, Option, Some, None, IfSome, IfNone, List, [], ◌∷◌, ◌++◌, length, drop, length-drop, append_assoc, refl, ap, sym, ◌∙◌, arith, append-nil}
use Rattle.std.specs.Prelude.{codes, pos}
use Rattle.std.specs.Option.{MatchOption}
use Rattle.std.specs.Str.Pattern.{FindsTextPrefix}
use denote.Ref.{Bor}
use Rattle.std.proofs.lemmas.Option.{IfSome_then}
use Rattle.ak_template.proofs.Parsing.{behind_le}
use Rattle.ak_base.proofs.Cutting.{begins_itself, begins_with}
use Rattle.ak_base.specs.Cuts.{begins, has, front, behind}
use Rattle.ak_template.specs.declared.clozes.Part.{Part}
use Rattle.ak_template.specs.declared.clozes.Part.TheVariants.{Bare, Gap}
use Rattle.ak_template.specs.Clozes.{digit_front, is_number, number_at, marked, mark_parts, left_in, parts_in, parts, borne, among}

-- the clause of `strip_prefix` at a text
abbrev pub Prefix : List ℕ → List ℕ → Option (Bor (List ℕ)) → Type 0
Prefix mark text r = MatchOption r (FindsTextPrefix mark text None) (λ x. (n : ℕ) × FindsTextPrefix mark text (Some n) × (x.now ≡ drop n text) × (length x.now + n ≡ length text))

pub prefix_begins : (mark text : List ℕ) (r : Option (Bor (List ℕ))) → Prefix mark text r → IfSome r (λ rest. begins mark text ≡ true)
prefix_begins mark text None h = tt
prefix_begins mark text (Some x) h = ap (begins mark) h.1.1 ∙ begins_itself mark (drop h.0 text)

pub prefix_rest : (mark text : List ℕ) (r : Option (Bor (List ℕ))) → Prefix mark text r → IfSome r (λ rest. rest.now ≡ drop (length mark) text)
prefix_rest mark text None h = tt
prefix_rest mark text (Some x) h = h.2 ∙ ap (λ n. drop n text) h.1.0

pub prefix_none : (mark text : List ℕ) (r : Option (Bor (List ℕ))) → Prefix mark text r → IfNone r (begins mark text ≡ false)
prefix_none mark text None h = elim (begins mark text) as (λ v. begins mark text ≡ v → v ≡ false) [ true ↦ λ e. absurd (let found = begins_with mark text e in h found.0 found.1) | false ↦ λ e. refl ] refl
prefix_none mark text (Some x) h = tt

pub number_ends : (number : ℕ) (text : List ℕ) → begins (codes "::") text ≡ true → number_at number text ≡ cond (nat_lt 0 number) (Some (number, drop 2 text)) None
number_ends number [] h = grind (arith, h)
number_ends number (b ∷ bs) h = ap (λ v. cond v (cond (nat_lt 0 number) (Some (number, drop 1 bs)) None) (cond (nat_lt 47 b && nat_lt b 58) (cond (is_number (number * 10 + (b - 48))) (number_at (number * 10 + (b - 48)) bs) None) None)) h

-- behind a text that `::` does not begin, by the digit in front
pub number_goes : (number : ℕ) (text : List ℕ) → begins (codes "::") text ≡ false → MatchOption (digit_front text) (number_at number text ≡ None) (λ found. number_at number text ≡ cond (is_number (number * 10 + found.0)) (number_at (number * 10 + found.0) found.1) None)
number_goes number [] h = refl
number_goes number (b ∷ bs) h =
    elim (nat_lt 47 b && nat_lt b 58) as (λ w. MatchOption (cond w (Some (b - 48, bs)) None) (cond (begins (codes "::") (b ∷ bs)) (cond (nat_lt 0 number) (Some (number, drop 1 bs)) None) (cond w (cond (is_number (number * 10 + (b - 48))) (number_at (number * 10 + (b - 48)) bs) None) None) ≡ None) (λ (found : ℕ × List ℕ). cond (begins (codes "::") (b ∷ bs)) (cond (nat_lt 0 number) (Some (number, drop 1 bs)) None) (cond w (cond (is_number (number * 10 + (b - 48))) (number_at (number * 10 + (b - 48)) bs) None) None) ≡ cond (is_number (number * 10 + found.0)) (number_at (number * 10 + found.0) found.1) None)) [
      | true ↦ ap (λ v. cond v (cond (nat_lt 0 number) (Some (number, drop 1 bs)) None) (cond (is_number (number * 10 + (b - 48))) (number_at (number * 10 + (b - 48)) bs) None)) h
      | false ↦ ap (λ v. cond v (cond (nat_lt 0 number) (Some (number, drop 1 bs)) None) None) h
    ]

pub all_in_front : (mark xs : List ℕ) → has mark xs ≡ false → front mark xs ≡ xs
all_in_front mark [] h = refl
all_in_front mark (b ∷ bs) h = elim (begins mark (b ∷ bs)) as (λ v. (v || has mark bs) ≡ false → cond v [] (b ∷ front mark bs) ≡ b ∷ bs) [ true ↦ λ e. grind (arith, e) | false ↦ λ e. ap (λ ys. b ∷ ys) (all_in_front mark bs e) ] h

number_le : (number : ℕ) (text : List ℕ) → IfSome (number_at number text) (λ found. length found.1 ≤ length text)
number_le number [] = tt
number_le number (b ∷ bs) =
    elim (begins (codes "::") (b ∷ bs)) as (λ v. IfSome (cond v (cond (nat_lt 0 number) (Some (number, drop 1 bs)) None) (cond (nat_lt 47 b && nat_lt b 58) (cond (is_number (number * 10 + (b - 48))) (number_at (number * 10 + (b - 48)) bs) None) None)) (λ (found : ℕ × List ℕ). length found.1 ≤ length (b ∷ bs))) [
      | true ↦ elim (nat_lt 0 number) as (λ v. IfSome (cond v (Some (number, drop 1 bs)) None) (λ (found : ℕ × List ℕ). length found.1 ≤ length (b ∷ bs))) [ true ↦ omega (arith, length-drop 1 bs) | false ↦ tt ]
      | false ↦ elim (nat_lt 47 b && nat_lt b 58) as (λ v. IfSome (cond v (cond (is_number (number * 10 + (b - 48))) (number_at (number * 10 + (b - 48)) bs) None) None) (λ (found : ℕ × List ℕ). length found.1 ≤ length (b ∷ bs))) [
        | true ↦ elim (is_number (number * 10 + (b - 48))) as (λ v. IfSome (cond v (number_at (number * 10 + (b - 48)) bs) None) (λ (found : ℕ × List ℕ). length found.1 ≤ length (b ∷ bs))) [
          | true ↦ IfSome_then (number_at (number * 10 + (b - 48)) bs) (number_le (number * 10 + (b - 48)) bs) (λ found l. omega (arith, l))
          | false ↦ tt
        ]
        | false ↦ tt
      ]
    ]

marked_le : (r : Option (ℕ × List ℕ)) (text : List ℕ) → IfSome r (λ found. length found.1 ≤ length text) → IfSome (marked r text).1 (λ rest. length rest ≤ length text)
marked_le None text h = omega arith
marked_le (Some found) text h = elim (has (codes "}}") found.1) as (λ v. IfSome (cond {A = List Part × Option (List ℕ)} v (Gap found.0 (front (codes "}}") found.1) ∷ [], Some (behind (codes "}}") found.1)) (Bare (codes "{{c") ∷ (Bare text ∷ []), None)).1 (λ rest. length rest ≤ length text)) [ true ↦ omega (arith, h, behind_le (codes "}}") found.1) | false ↦ tt ]

left_le : (text : List ℕ) → IfSome (mark_parts text).1 (λ rest. length rest ≤ length text)
left_le text = marked_le (number_at 0 text) text (number_le 0 text)

mark_shorter : (b : ℕ) (bs : List ℕ) → length (behind (codes "{{c") (b ∷ bs)) ≤ length bs
mark_shorter b bs = elim (begins (codes "{{c") (b ∷ bs)) as (λ v. length (cond v (drop 2 bs) (behind (codes "{{c") bs)) ≤ length bs) [ true ↦ omega (arith, length-drop 2 bs) | false ↦ behind_le (codes "{{c") bs ]

same_left : (m n : ℕ) (left : Option (List ℕ)) → IfSome left (λ rest. parts_in m rest ≡ parts_in n rest) → left_in (parts_in m) left ≡ left_in (parts_in n) left
same_left m n None h = refl
same_left m n (Some rest) h = h

enough : (m n : ℕ) (text : List ℕ) → length text ≤ m → length text ≤ n → parts_in m text ≡ parts_in n text
enough zero zero text l k = refl
enough zero (suc n) [] l k = refl
enough zero (suc n) (b ∷ bs) l k = absurd (omega (arith, l))
enough (suc m) zero [] l k = refl
enough (suc m) zero (b ∷ bs) l k = absurd (omega (arith, k))
enough (suc m) (suc n) [] l k = refl
enough (suc m) (suc n) (b ∷ bs) l k =
    let after = behind (codes "{{c") (b ∷ bs) in
    ap (λ others. cond (has (codes "{{c") (b ∷ bs)) (Bare (front (codes "{{c") (b ∷ bs)) ∷ ((mark_parts after).0 ++ others)) (Bare (b ∷ bs) ∷ []))
    (same_left m n (mark_parts after).1 (IfSome_then (mark_parts after).1 (left_le after) (λ rest r. enough m n rest (omega (arith, r, mark_shorter b bs, l)) (omega (arith, r, mark_shorter b bs, k)))))

all_left : (m : ℕ) (left : Option (List ℕ)) → IfSome left (λ rest. length rest ≤ m) → left_in (parts_in m) left ≡ left_in parts left
all_left m None h = refl
all_left m (Some rest) h = enough m (length rest) rest h (omega arith)

pub parts_step : (text : List ℕ) → has (codes "{{c") text ≡ true → parts text ≡ Bare (front (codes "{{c") text) ∷ ((mark_parts (behind (codes "{{c") text)).0 ++ left_in parts (mark_parts (behind (codes "{{c") text)).1)
parts_step [] h = grind (arith, h)
parts_step (b ∷ bs) h =
    let after = behind (codes "{{c") (b ∷ bs) in
    ap (λ v. cond v (Bare (front (codes "{{c") (b ∷ bs)) ∷ ((mark_parts after).0 ++ left_in (parts_in (length bs)) (mark_parts after).1)) (Bare (b ∷ bs) ∷ [])) h
    ∙ ap (λ others. Bare (front (codes "{{c") (b ∷ bs)) ∷ ((mark_parts after).0 ++ others)) (all_left (length bs) (mark_parts after).1 (IfSome_then (mark_parts after).1 (left_le after) (λ rest r. omega (arith, r, mark_shorter b bs))))

pub parts_plain : (text : List ℕ) → has (codes "{{c") text ≡ false → parts text ≡ Bare text ∷ []
parts_plain [] h = refl
parts_plain (b ∷ bs) h = let after = behind (codes "{{c") (b ∷ bs) in ap (λ v. cond v (Bare (front (codes "{{c") (b ∷ bs)) ∷ ((mark_parts after).0 ++ left_in (parts_in (length bs)) (mark_parts after).1)) (Bare (b ∷ bs) ∷ [])) h

-- what was read, with the parts of what is left, is the whole
pub parts_on : (made then later : List Part) (rest before after : List ℕ) (whole : List Part) → has (codes "{{c") rest ≡ true → before ≡ front (codes "{{c") rest → after ≡ behind (codes "{{c") rest → then ≡ made ++ (Bare before ∷ []) → later ≡ then ++ (mark_parts after).0 → made ++ parts rest ≡ whole → later ++ left_in parts (mark_parts after).1 ≡ whole
parts_on made then later rest before after whole h b a t l w =
    ap (λ xs. xs ++ left_in parts (mark_parts after).1) l
    ∙ append_assoc then (mark_parts after).0 (left_in parts (mark_parts after).1)
    ∙ ap (λ xs. xs ++ ((mark_parts after).0 ++ left_in parts (mark_parts after).1)) t
    ∙ append_assoc made (Bare before ∷ []) ((mark_parts after).0 ++ left_in parts (mark_parts after).1)
    ∙ ap (λ xs. made ++ (Bare xs ∷ ((mark_parts after).0 ++ left_in parts (mark_parts after).1))) b
    ∙ ap (λ xs. made ++ (Bare (front (codes "{{c") rest) ∷ ((mark_parts xs).0 ++ left_in parts (mark_parts xs).1))) a
    ∙ ap (λ xs. made ++ xs) (sym (parts_step rest h)) ∙ w

pub parts_some : (made then later : List Part) (rest before after others : List ℕ) (whole : List Part) → has (codes "{{c") rest ≡ true → before ≡ front (codes "{{c") rest → after ≡ behind (codes "{{c") rest → then ≡ made ++ (Bare before ∷ []) → later ≡ then ++ (mark_parts after).0 → made ++ parts rest ≡ whole → (mark_parts after).1 ≡ Some others → later ++ parts others ≡ whole
parts_some made then later rest before after others whole h b a t l w e = ap (λ left. later ++ left_in parts left) (sym e) ∙ parts_on made then later rest before after whole h b a t l w

pub parts_end : (made then later : List Part) (rest before after : List ℕ) (whole : List Part) → has (codes "{{c") rest ≡ true → before ≡ front (codes "{{c") rest → after ≡ behind (codes "{{c") rest → then ≡ made ++ (Bare before ∷ []) → later ≡ then ++ (mark_parts after).0 → made ++ parts rest ≡ whole → (mark_parts after).1 ≡ None → later ≡ whole
parts_end made then later rest before after whole h b a t l w e = sym (append-nil later) ∙ ap (λ left. later ++ left_in parts left) (sym e) ∙ parts_on made then later rest before after whole h b a t l w

pub parts_all : (made later : List Part) (rest : List ℕ) (whole : List Part) → has (codes "{{c") rest ≡ false → later ≡ made ++ (Bare rest ∷ []) → made ++ parts rest ≡ whole → later ≡ whole
parts_all made later rest whole h l w = l ∙ ap (λ xs. made ++ xs) (sym (parts_plain rest h)) ∙ w

pub borne_none : (numbers : List ℕ) → borne 0 numbers ≡ []
unfolding borne
borne_none numbers = refl

pub borne_next : (last : ℕ) (numbers : List ℕ) → borne (last + 1) numbers ≡ borne last numbers ++ cond (among (last + 1) numbers) (pos (last + 1) ∷ []) []
unfolding borne
borne_next last numbers = let e : last + 1 ≡ suc last = omega arith in ap (λ n. borne n numbers) e
