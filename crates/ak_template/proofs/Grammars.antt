-- A text has a tree exactly where its pieces have no fault, and then one alone.
use Rattle.std.proofs.Common.{◌≡◌, ℕ, suc, ◌-◌, ◌<◌, Bool, true, false, ◌==◌, nat_lt, cond, Option, Some, None, List, [], ◌∷◌, ◌++◌, length, map, drop, get_or, append_assoc, refl, ap, sym, ◌∙◌, arith, append-nil}
use Rattle.ak_base.proofs.Optional.{both_none}
use Rattle.std.specs.Option.{option_map, option_or}
use Rattle.std.specs.Cmp.Lexicographic.{pointwise, same_text}
use Rattle.std.proofs.lemmas.List.{map-append}
use Rattle.std.proofs.lemmas.Bool.{ltb-true, lt-ltb}
use Rattle.std.proofs.lemmas.Option.{slice_get-get_or, same_Some}
use Rattle.ak_base.proofs.Resting.{same_bytes}
use Rattle.ak_template.specs.declared.steps.Step.{Step}
use Rattle.ak_template.specs.declared.steps.Step.TheVariants.{Words, Field, Open, Close}
use Rattle.ak_template.specs.declared.faults.TemplateFault.TheVariants as faults
use Rattle.ak_template.specs.declared.builders.Opened.{Opened}
use Rattle.ak_template.specs.Pieces.{Piece, pieces}
use Rattle.ak_template.specs.Trees.{Tree, End, Plain, Value, Section, tree_steps, Nests}
use Rattle.ak_template.specs.Grammar.{IsTemplate, unclosed, fault_in, first_fault}

-- ---- one tree: it is read back from its steps

-- the parts that steps begin with, and, for each section that they close without opening it, the parts behind it
abbrev grown : Step → Tree × List Tree → Tree × List Tree
grown (Words words) behind = (Plain words behind.0, behind.1)
grown (Field filters name) behind = (Value filters name behind.0, behind.1)
grown (Open inverted name) (inside, []) = (End, [])
grown (Open inverted name) (inside, after ∷ others) = (Section inverted name inside after, others)
grown (Close name) behind = (End, behind.0 ∷ behind.1)

abbrev pub read_back : List Step → Tree × List Tree
read_back [] = (End, [])
read_back (step ∷ steps) = grown step (read_back steps)

-- what a tree's steps read back to, in front of steps that begin with no part
laid_back : (tree : Tree) (steps : List Step) (others : List Tree) → read_back steps ≡ (End, others) → read_back (tree_steps tree ++ steps) ≡ (tree, others)
laid_back End steps others h = h
laid_back (Plain words after) steps others h = ap (grown (Words words)) (laid_back after steps others h)
laid_back (Value filters name after) steps others h = ap (grown (Field filters name)) (laid_back after steps others h)
laid_back (Section inverted name inside after) steps others h =
    ap (λ xs. grown (Open inverted name) (read_back xs)) (append_assoc (tree_steps inside) (Close name ∷ tree_steps after) steps)
    ∙ ap (grown (Open inverted name)) (laid_back inside (Close name ∷ (tree_steps after ++ steps)) (after ∷ others) (ap (grown (Close name)) (laid_back after steps others h)))

nothing_back : read_back [] ≡ (End, [])
nothing_back = refl

own_tree : (tree : Tree) → (read_back (tree_steps tree ++ [])).0 ≡ tree
own_tree tree = ap (λ (p : Tree × List Tree). p.0) (laid_back tree [] [] nothing_back)

laid_once : (one other : Tree) → tree_steps one ≡ tree_steps other → one ≡ other
laid_once one other h = sym (own_tree one) ∙ ap (λ xs. (read_back (xs ++ [])).0) h ∙ own_tree other

pub head_same : {A : Type 0} (x y : A) (xs ys : List A) → ◌≡◌ {A = List A} (x ∷ xs) (y ∷ ys) → x ≡ y
head_same x y xs ys h = ap (λ l. get_or l 0 x) h

pub tail_same : {A : Type 0} (x y : A) (xs ys : List A) → ◌≡◌ {A = List A} (x ∷ xs) (y ∷ ys) → xs ≡ ys
tail_same x y xs ys h = ap (drop 1) h

pub somes_once : (xs ys : List Step) → map Some xs ≡ map Some ys → xs ≡ ys
somes_once [] [] h = refl
somes_once [] (y ∷ ys) h = grind (arith, h)
somes_once (x ∷ xs) [] h = grind (arith, h)
somes_once (x ∷ xs) (y ∷ ys) h =
    ap (λ z. z ∷ xs) (same_Some x y (head_same (Some x) (Some y) (map Some xs) (map Some ys) h))
    ∙ ap (λ zs. y ∷ zs) (somes_once xs ys (tail_same (Some x) (Some y) (map Some xs) (map Some ys) h))

pub one_tree : (text : List ℕ) (one other : Tree) → IsTemplate text one → IsTemplate text other → one ≡ other
one_tree text one other h g = laid_once one other (somes_once (tree_steps one) (tree_steps other) (sym h.pieces ∙ g.pieces))

-- ---- a text without a fault has a tree

-- what stands behind open sections: the rest of the innermost, its close tag, and so on outwards
abbrev pub Fills : List Opened → List (Option Step) → Type 0
Fills [] steps = (tree : Tree) × Nests 0 tree × (steps ≡ map Some (tree_steps tree))
Fills (section ∷ sections) steps = (inside : Tree) × (rest : List (Option Step)) × Nests (length (section ∷ sections)) inside × (steps ≡ map Some (tree_steps inside) ++ (Some (Close section.name) ∷ rest)) × Fills sections rest

-- a part in front
fill_part : (sections : List Opened) (steps : List (Option Step)) (step : Step) (make : Tree → Tree) → ((tree : Tree) → tree_steps (make tree) ≡ step ∷ tree_steps tree) → ((depth : ℕ) (tree : Tree) → Nests depth tree → Nests depth (make tree)) → Fills sections steps → Fills sections (Some step ∷ steps)
fill_part [] steps step make lays nests h = (make h.0, nests 0 h.0 h.1, ap (λ xs. Some step ∷ xs) h.2 ∙ sym (ap (map Some) (lays h.0)))
fill_part (section ∷ sections) steps step make lays nests h = (make h.0, h.1, nests (length (section ∷ sections)) h.0 h.2, ap (λ xs. Some step ∷ xs) h.3 ∙ sym (ap (λ xs. map Some xs ++ (Some (Close section.name) ∷ h.1)) (lays h.0)), h.4)

-- a section in front
fill_section : (sections : List Opened) (inverted : Bool) (name : List ℕ) (inside : Tree) (steps rest : List (Option Step)) → length sections < 32 → Nests (suc (length sections)) inside → steps ≡ map Some (tree_steps inside) ++ (Some (Close name) ∷ rest) → Fills sections rest → Fills sections (Some (Open inverted name) ∷ steps)
fill_section [] inverted name inside steps rest few n e h =
    (Section inverted name inside h.0, (few, n, h.1), ap (λ xs. Some (Open inverted name) ∷ xs) (e ∙ ap (λ xs. map Some (tree_steps inside) ++ (Some (Close name) ∷ xs)) h.2 ∙ sym (map-append Some (tree_steps inside) (Close name ∷ tree_steps h.0))))
fill_section (section ∷ sections) inverted name inside steps rest few n e h = (
  Section inverted name inside h.0,
  h.1,
  (few, n, h.2),
  ap (λ xs. Some (Open inverted name) ∷ xs) (e ∙ ap (λ xs. map Some (tree_steps inside) ++ (Some (Close name) ∷ xs)) h.3 ∙ sym (append_assoc (map Some (tree_steps inside)) (Some (Close name) ∷ map Some (tree_steps h.0)) (Some (Close section.name) ∷ h.1)) ∙ ap (λ xs. xs ++ (Some (Close section.name) ∷ h.1)) (sym (map-append Some (tree_steps inside) (Close name ∷ tree_steps h.0)))),
  h.4,
)

pub test_passed : {A : Type 0} (v : Bool) (fault : A) → cond v None (Some fault) ≡ None → v ≡ true
test_passed true fault h = refl
test_passed false fault h = grind (arith, h)

none_open : (sections : List Opened) → unclosed sections ≡ None → sections ≡ []
none_open [] h = refl
none_open (section ∷ sections) h =
    let last = slice_get-get_or (section ∷ sections) (length (section ∷ sections) - 1) section (omega arith) in
    grind (arith, sym (ap (option_map (λ (s : Opened). faults.Unclosed s.place)) last) ∙ h)

steps_in : List Piece → List (Option Step)
steps_in ps = map (λ (piece : Piece). piece.1) ps

pub fills : (sections : List Opened) (ps : List Piece) → fault_in sections ps ≡ None → Fills sections (map (λ (piece : Piece). piece.1) ps)
fills [] [] h = (End, tt, refl)
fills (section ∷ sections) [] h = grind (arith, none_open (section ∷ sections) h)
fills sections ((place, None) ∷ ps) h = grind (arith, h)
fills sections ((place, Some (Words words)) ∷ ps) h = fill_part sections (map (λ (piece : Piece). piece.1) ps) (Words words) (Plain words) (λ tree. refl) (λ depth tree n. n) (fills sections ps h)
fills sections ((place, Some (Field filters name)) ∷ ps) h = fill_part sections (map (λ (piece : Piece). piece.1) ps) (Field filters name) (Value filters name) (λ tree. refl) (λ depth tree n. n) (fills sections ps h)
fills sections ((place, Some (Open inverted name)) ∷ ps) h =
    let both = both_none (cond (nat_lt (length sections) 32) None (Some (faults.TooDeep place))) (fault_in (record { place = place; name = name } ∷ sections) ps) h in
    let later = fills (record { place = place; name = name } ∷ sections) ps both.1 in
    fill_section sections inverted name later.0 (map (λ (piece : Piece). piece.1) ps) later.1 (ltb-true (length sections) 32 (test_passed (nat_lt (length sections) 32) (faults.TooDeep place) both.0)) later.2 later.3 later.4
fills [] ((place, Some (Close name)) ∷ ps) h = grind (arith, h)
fills (section ∷ sections) ((place, Some (Close name)) ∷ ps) h =
    let both = both_none (cond (pointwise ◌==◌ section.name name) None (Some (faults.WrongClose place))) (fault_in sections ps) h in
    let same = same_text section.name name (sym (test_passed (pointwise ◌==◌ section.name name) (faults.WrongClose place) both.0)) in
    (End, map (λ (piece : Piece). piece.1) ps, tt, ap (λ n. Some (Close n) ∷ map (λ (piece : Piece). piece.1) ps) (sym same), fills sections ps both.1)

pub has_tree : (text : List ℕ) → first_fault text ≡ None → (tree : Tree) × IsTemplate text tree
has_tree text h = let found = fills [] (pieces text) h in (found.0, record { pieces = found.2; nests = found.1 })

-- ---- a text with a tree has no fault

-- behind a close tag of the innermost open section
closing : (after : Tree) (sections : List Opened) (name : List ℕ) (place : ℕ) (ps : List Piece) (rest : List (Option Step)) → Nests (length sections) after → map (λ (piece : Piece). piece.1) ps ≡ Some (Close name) ∷ (map Some (tree_steps after) ++ rest)
    → ((qs : List Piece) → map (λ (piece : Piece). piece.1) qs ≡ map Some (tree_steps after) ++ rest → (rs : List Piece) × (map (λ (piece : Piece). piece.1) rs ≡ rest) × (fault_in sections qs ≡ fault_in sections rs))
    → (qs : List Piece) × (map (λ (piece : Piece). piece.1) qs ≡ rest) × (fault_in (record { place = place; name = name } ∷ sections) ps ≡ fault_in sections qs)
closing after sections name place [] rest n e later = grind (arith, e)
closing after sections name place (p ∷ ps) rest n e later =
    let head = head_same p.1 (Some (Close name)) (map (λ (piece : Piece). piece.1) ps) (map Some (tree_steps after) ++ rest) e in
    let tail = tail_same p.1 (Some (Close name)) (map (λ (piece : Piece). piece.1) ps) (map Some (tree_steps after) ++ rest) e in
    let found = later ps tail in (
      found.0,
      found.1,
      ap (λ s. fault_in (record { place = place; name = name } ∷ sections) ((p.0, s) ∷ ps)) head
          ∙ ap (λ v. option_or (cond v None (Some (faults.WrongClose p.0))) (fault_in sections ps)) (same_bytes name)
          ∙ found.2,
    )

-- behind a tree the faults are those of the pieces that are left
pub passes : (tree : Tree) (sections : List Opened) (ps : List Piece) (rest : List (Option Step)) → Nests (length sections) tree → map (λ (piece : Piece). piece.1) ps ≡ map Some (tree_steps tree) ++ rest → (qs : List Piece) × (map (λ (piece : Piece). piece.1) qs ≡ rest) × (fault_in sections ps ≡ fault_in sections qs)
passes End sections ps rest n e = (ps, e, refl)
passes (Plain words after) sections [] rest n e = grind (arith, e)
passes (Plain words after) sections (p ∷ ps) rest n e =
    let later = passes after sections ps rest n (tail_same p.1 (Some (Words words)) (map (λ (piece : Piece). piece.1) ps) (map Some (tree_steps after) ++ rest) e) in
    (later.0, later.1, ap (λ s. fault_in sections ((p.0, s) ∷ ps)) (head_same p.1 (Some (Words words)) (map (λ (piece : Piece). piece.1) ps) (map Some (tree_steps after) ++ rest) e) ∙ later.2)
passes (Value filters name after) sections [] rest n e = grind (arith, e)
passes (Value filters name after) sections (p ∷ ps) rest n e =
    let later = passes after sections ps rest n (tail_same p.1 (Some (Field filters name)) (map (λ (piece : Piece). piece.1) ps) (map Some (tree_steps after) ++ rest) e) in
    (later.0, later.1, ap (λ s. fault_in sections ((p.0, s) ∷ ps)) (head_same p.1 (Some (Field filters name)) (map (λ (piece : Piece). piece.1) ps) (map Some (tree_steps after) ++ rest) e) ∙ later.2)
passes (Section inverted name inside after) sections [] rest n e = grind (arith, e)
passes (Section inverted name inside after) sections (p ∷ ps) rest n e =
    let within = record { place = p.0; name = name } ∷ sections in
    let behind = Some (Close name) ∷ (map Some (tree_steps after) ++ rest) in
    let split : map Some (tree_steps inside ++ (Close name ∷ tree_steps after)) ++ rest ≡ map Some (tree_steps inside) ++ behind =
    ap (λ xs. xs ++ rest) (map-append Some (tree_steps inside) (Close name ∷ tree_steps after)) ∙ append_assoc (map Some (tree_steps inside)) (Some (Close name) ∷ map Some (tree_steps after)) rest in
    let head = head_same p.1 (Some (Open inverted name)) (map (λ (piece : Piece). piece.1) ps) (map Some (tree_steps inside ++ (Close name ∷ tree_steps after)) ++ rest) e in
    let tail = tail_same p.1 (Some (Open inverted name)) (map (λ (piece : Piece). piece.1) ps) (map Some (tree_steps inside ++ (Close name ∷ tree_steps after)) ++ rest) e in
    let inner = passes inside within ps behind n.1 (tail ∙ split) in
    let closed = closing after sections name p.0 inner.0 rest n.2 inner.1 (λ qs h. passes after sections qs rest n.2 h) in (
      closed.0,
      closed.1,
      ap (λ s. fault_in sections ((p.0, s) ∷ ps)) head
          ∙ ap (λ v. option_or (cond v None (Some (faults.TooDeep p.0))) (fault_in within ps)) (lt-ltb (length sections) 32 n.0)
          ∙ inner.2 ∙ closed.2,
    )

none_left : (ps : List Piece) → map (λ (piece : Piece). piece.1) ps ≡ [] → ps ≡ []
none_left [] h = refl
none_left (p ∷ ps) h = grind (arith, h)

pub no_fault : (text : List ℕ) (tree : Tree) → IsTemplate text tree → first_fault text ≡ None
no_fault text tree h =
    let passed = passes tree [] (pieces text) [] h.nests (h.pieces ∙ sym (append-nil (map Some (tree_steps tree)))) in
    passed.2 ∙ ap (fault_in []) (none_left passed.0 passed.1)
