-- The guids of notes as they are read, row by row and page by page.
use Rattle.std.specs.Prelude.{◌≡◌, ℕ, ℤ, Bool, true, false, cond, if◌then◌else◌, List, [], ◌∷◌, ◌++◌, find, Option, Some, None, IfSome, is_some}
use Rattle.std.proofs.Common.{refl, sym, ap, subst, ◌∙◌}
use Rattle.std.proofs.lemmas.Slice.Eq.{bytes_eq-Decides}
use Rattle.std.specs.Option.{option_map, option_or}
use Rattle.std.specs.Str.{bytes_eq}
use Rattle.ak_base.specs.declared.notes.Note.{Note}
use Rattle.ak_base.specs.declared.rows.Row.{Row}
use Rattle.ak_base.specs.declared.rows.Row.TheVariants as rows
use Rattle.ak_imports.specs.Guids.{first_id, has_guid, id_of}
use Rattle.ak_keep.specs.Collections.{Holding, rows_past}
use Rattle.ak_keep.specs.Marks.{WithMark}
use Rattle.ak_keep.specs.Walks.{ahead}
use Rattle.ak_keep.specs.declared.walks.Walk.{Walk}

-- ---- rows
first-append : (guid : List ℕ) (xs ys : List Row) → first_id guid (xs ++ ys) ≡ option_or (first_id guid xs) (first_id guid ys)
first-append guid [] ys = refl
first-append guid (x ∷ xs) ys =
    elim (has_guid guid x) as (λ b. option_map id_of (cond b (Some x) (find (has_guid guid) (xs ++ ys))) ≡ option_or (option_map id_of (cond b (Some x) (find (has_guid guid) xs))) (first_id guid ys)) [
      | true ↦ refl
      | false ↦ first-append guid xs ys
    ]

or_assoc : (o a b : Option ℤ) → option_or (option_or o a) b ≡ option_or o (option_or a b)
or_assoc None a b = refl
or_assoc (Some x) a b = refl

or_none : (o : Option ℤ) → o ≡ option_or o None
or_none None = refl
or_none (Some x) = refl

-- one more row was taken
pub one_more : (guid : List ℕ) (old more whole : Option ℤ) (row : Row) (others : List Row) → option_or old (first_id guid (row ∷ others)) ≡ whole → more ≡ option_or old (first_id guid (row ∷ []))
    → option_or more (first_id guid others) ≡ whole
one_more guid old more whole row others so_far step =
    ap (λ o. option_or o (first_id guid others)) step
    ∙ or_assoc old (first_id guid (row ∷ [])) (first_id guid others)
    ∙ ap (option_or old) (sym (first-append guid (row ∷ []) others))
    ∙ so_far

-- a note has the guid or not
pub one_note : (guid : List ℕ) (note : Note) → first_id guid (rows.Note note ∷ []) ≡ (if bytes_eq guid note.guid then Some note.id else None)
one_note guid note =
    elim (bytes_eq guid note.guid) as (λ b. option_map id_of (cond b (Some (rows.Note note)) None) ≡ (if b then Some note.id else None)) [ true ↦ refl | false ↦ refl ]

-- ---- one note
some_or : (o p : Option ℤ) → is_some o ≡ true → o ≡ option_or o p
some_or None p is = absurd (subst (λ (b : Bool). elim b as (λ _. Type 0) [ true ↦ ⊥ | false ↦ Unit {0} ]) is tt)
some_or (Some x) p is = refl

none_or : (o p : Option ℤ) → is_some o ≡ false → p ≡ option_or o p
none_or None p is = refl
none_or (Some x) p is = absurd (subst (λ (b : Bool). elim b as (λ _. Type 0) [ true ↦ Unit {0} | false ↦ ⊥ ]) is tt)

-- a lesser note has the guid of this one
pub guid_stays : (held : List ℕ → Option ℤ) (guid key : List ℕ) (id : ℤ) → is_some (held key) ≡ true → held guid ≡ option_or (held guid) (if bytes_eq guid key then Some id else None)
guid_stays held guid key id there =
    elim (bytes_eq guid key) as (λ b. bytes_eq guid key ≡ b → held guid ≡ option_or (held guid) (if b then Some id else None)) [
      | true ↦ λ is. some_or (held guid) (Some id) (ap (λ (k : List ℕ). is_some (held k)) ((bytes_eq-Decides guid key).0 is) ∙ there)
      | false ↦ λ _. or_none (held guid)
    ] refl

-- no lesser note has it
pub guid_comes : (held now : List ℕ → Option ℤ) (guid key : List ℕ) (id : ℤ) → is_some (held key) ≡ false → now guid ≡ (if bytes_eq guid key then Some id else held guid)
    → now guid ≡ option_or (held guid) (if bytes_eq guid key then Some id else None)
guid_comes held now guid key id none is =
    is ∙ elim (bytes_eq guid key) as (λ b. bytes_eq guid key ≡ b → (if b then Some id else held guid) ≡ option_or (held guid) (if b then Some id else None)) [
      | true ↦ λ same. none_or (held guid) (Some id) (ap (λ (k : List ℕ). is_some (held k)) ((bytes_eq-Decides guid key).0 same) ∙ none)
      | false ↦ λ _. or_none (held guid)
    ] refl

-- ---- pages
-- what was found, with what is ahead, is all
abbrev pub FindsIds : (List ℕ → Option ℤ) → Walk → Walk → Holding → Type 0
FindsIds found start walk h = (guid : List ℕ) → option_or (found guid) (first_id guid (ahead walk h.rows)) ≡ first_id guid (ahead start h.rows)

pub first_page : (told : Option (WithMark Holding)) (found : List ℕ → Option ℤ) (start : Walk) → ((guid : List ℕ) → found guid ≡ None) → IfSome told (λ w. FindsIds found start start w.current)
first_page None found start none = tt
first_page (Some w) found start none = λ guid. ap (λ o. option_or o (first_id guid (ahead start w.current.rows))) (none guid)

pub page_told : (told : Option (WithMark Holding)) (found more : List ℕ → Option ℤ) (start walk next : Walk) (page : List Row)
    → IfSome told (λ w. FindsIds found start walk w.current) → IfSome told (λ w. ahead walk w.current.rows ≡ page ++ ahead next w.current.rows)
    → ((guid : List ℕ) → more guid ≡ option_or (found guid) (first_id guid page)) → IfSome told (λ w. FindsIds more start next w.current)
page_told None found more start walk next page so_far split step = tt
page_told (Some w) found more start walk next page so_far split step = λ guid.
    ap (λ o. option_or o (first_id guid (ahead next w.current.rows))) (step guid)
    ∙ or_assoc (found guid) (first_id guid page) (first_id guid (ahead next w.current.rows))
    ∙ ap (option_or (found guid)) (sym (ap (first_id guid) split ∙ first-append guid page (ahead next w.current.rows)))
    ∙ so_far guid

pub pages_told : (told : Option (WithMark Holding)) (found : List ℕ → Option ℤ) (start walk : Walk) → walk.done ≡ true → IfSome told (λ w. FindsIds found start walk w.current)
    → IfSome told (λ w. (guid : List ℕ) → found guid ≡ first_id guid (ahead start w.current.rows))
pages_told None found start walk done so_far = tt
pages_told (Some w) found start walk done so_far = λ guid.
    or_none (found guid)
    ∙ sym (ap (λ (b : Bool). option_or (found guid) (first_id guid (cond b [] (rows_past walk.past.table walk.past.id w.current.rows)))) done)
    ∙ so_far guid
