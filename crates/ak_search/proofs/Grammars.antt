-- A text has a tree exactly where its tokens have no fault, and then one alone.
use Rattle.std.proofs.Common.{◌≡◌, ℕ, zero, suc, ◌-◌, ◌<◌, Bool, true, false, ◌==◌, nat_lt, ◌&&◌, cond, Some, None, List, [], ◌∷◌, ◌++◌, append_assoc, refl, ap, sym, subst, ◌∙◌, arith, append-nil}
use Rattle.ak_base.proofs.Optional.{both_none}
use Rattle.std.specs.Prelude.{⊤}
use Rattle.std.specs.Option.{option_or}
use Rattle.std.proofs.lemmas.Bool.{ltb-true, lt-ltb, and_parts}
use Rattle.ak_template.proofs.Grammars.{head_same, tail_same, test_passed}
use Rattle.ak_search.specs.declared.tokens.Token.{Token}
use Rattle.ak_search.specs.declared.tokens.Piece.{Piece}
use Rattle.ak_search.specs.declared.tokens.Piece.TheVariants.{Test, BadValue, Open, Close, Or, And, OpenQuote}
use Rattle.ak_search.specs.declared.faults.SearchFault.{SearchFault}
use Rattle.ak_search.specs.declared.faults.SearchFault.TheVariants as faults
use Rattle.ak_search.specs.Trees.{Tree, End, Asks, Group, Either, Also, pieces_of, begins, IsWhole, Nests}
use Rattle.ak_search.specs.Grammar.{ReadsSearch, tokens, pieces_in, closes, begins_part, begins_close, ends_part, depth_behind, group_fault, fault_at, fault_in, first_fault}

-- ---- one tree: it is read back from its pieces

-- what pieces begin with, and, for each group that they close without opening it, what stands behind it
abbrev grown : Piece → Tree × List Tree → Tree × List Tree
grown (Test negated term) behind = (Asks negated term behind.0, behind.1)
grown BadValue behind = behind
grown (Open negated) (inside, []) = (End, [])
grown (Open negated) (inside, after ∷ others) = (Group negated inside after, others)
grown Close behind = (End, behind.0 ∷ behind.1)
grown Or behind = (Either behind.0, behind.1)
grown And behind = (Also behind.0, behind.1)
grown OpenQuote behind = behind

abbrev pub read_back : List Piece → Tree × List Tree
read_back [] = (End, [])
read_back (piece ∷ pieces) = grown piece (read_back pieces)

pieces_of_back : (tree : Tree) (pieces : List Piece) (others : List Tree) → read_back pieces ≡ (End, others) → read_back (pieces_of tree ++ pieces) ≡ (tree, others)
pieces_of_back End pieces others h = h
pieces_of_back (Asks negated term after) pieces others h = ap (grown (Test negated term)) (pieces_of_back after pieces others h)
pieces_of_back (Either after) pieces others h = ap (grown Or) (pieces_of_back after pieces others h)
pieces_of_back (Also after) pieces others h = ap (grown And) (pieces_of_back after pieces others h)
pieces_of_back (Group negated inside after) pieces others h =
    ap (λ xs. grown (Open negated) (read_back xs)) (append_assoc (pieces_of inside) (Close ∷ pieces_of after) pieces)
    ∙ ap (grown (Open negated)) (pieces_of_back inside (Close ∷ (pieces_of after ++ pieces)) (after ∷ others) (ap (grown Close) (pieces_of_back after pieces others h)))

nothing_back : read_back [] ≡ (End, [])
nothing_back = refl

own_tree : (tree : Tree) → (read_back (pieces_of tree ++ [])).0 ≡ tree
own_tree tree = ap (λ (p : Tree × List Tree). p.0) (pieces_of_back tree [] [] nothing_back)

pub one_tree : (text : List ℕ) (one other : Tree) → ReadsSearch text one → ReadsSearch text other → one ≡ other
one_tree text one other h g = sym (own_tree one) ∙ ap (λ xs. (read_back (xs ++ [])).0) (sym h.pieces ∙ g.pieces) ∙ own_tree other

-- ---- a text without a fault has a tree

-- what stands behind so many open groups: the rest of the innermost, its end, and so on outwards
abbrev pub Fills : ℕ → Bool → List Piece → Type 0
Fills zero before ps = (tree : Tree) × (ps ≡ pieces_of tree) × IsWhole before tree × Nests 0 tree × (begins tree ≡ begins_part ps)
Fills (suc depth) before ps = (inside : Tree) × (rest : List Piece) × (ps ≡ pieces_of inside ++ (Close ∷ rest)) × IsWhole before inside × Nests (suc depth) inside × (begins inside ≡ begins_part ps) × Fills depth true rest

-- the pieces close all of so many open groups
abbrev pub CloseAll : ℕ → List Piece → Type 0
CloseAll zero ps = ⊤
CloseAll (suc depth) ps = closes depth ps ≡ true

all_behind : (depth : ℕ) (p : Piece) (ps : List Piece) → ((k : ℕ) → closes k (p ∷ ps) ≡ closes k ps) → CloseAll depth (p ∷ ps) → CloseAll depth ps
all_behind zero p ps same h = tt
all_behind (suc depth) p ps same h = sym (same depth) ∙ h

all_inside : (depth : ℕ) (negated : Bool) (ps : List Piece) → closes 0 ps ≡ true → CloseAll depth (Open negated ∷ ps) → CloseAll (suc depth) ps
all_inside zero negated ps closed h = closed
all_inside (suc depth) negated ps closed h = h

all_outside : (depth : ℕ) (ps : List Piece) → CloseAll (suc depth) (Close ∷ ps) → CloseAll depth ps
all_outside zero ps h = tt
all_outside (suc depth) ps h = h

-- one more piece in front that is no parenthesis
fill_part : (depth : ℕ) (before : Bool) (p : Piece) (ps : List Piece) (part : Tree → Tree)
    → ((tree : Tree) → pieces_of (part tree) ≡ p ∷ pieces_of tree)
    → ((k : ℕ) (tree : Tree) → Nests k tree → Nests k (part tree))
    → ((tree : Tree) → begins tree ≡ begins_part ps → IsWhole (ends_part p) tree → IsWhole before (part tree))
    → ((tree : Tree) → begins (part tree) ≡ begins_part (p ∷ ps))
    → Fills depth (ends_part p) ps → Fills depth before (p ∷ ps)
fill_part zero before p ps part lays nests whole first h =
    (part h.0, ap (λ ys. p ∷ ys) h.1 ∙ sym (lays h.0), whole h.0 h.4 h.2, nests 0 h.0 h.3, first h.0)
fill_part (suc depth) before p ps part lays nests whole first h =
    (part h.0, h.1, ap (λ ys. p ∷ ys) h.2 ∙ ap (λ ys. ys ++ (Close ∷ h.1)) (sym (lays h.0)), whole h.0 h.5 h.3, nests (suc depth) h.0 h.4, first h.0, h.6)

fill_group : (depth : ℕ) (before negated : Bool) (ps : List Piece) → depth < 32 → begins_part ps ≡ true → Fills (suc depth) false ps → Fills depth before (Open negated ∷ ps)
fill_group zero before negated ps few some (inside, rest, e, w, n, b, (after, f, v, m, a)) =
    (Group negated inside after, ap (λ ys. Open negated ∷ ys) (e ∙ ap (λ ys. pieces_of inside ++ (Close ∷ ys)) f), (b ∙ some, w, v), (few, n, m), refl)
fill_group (suc depth) before negated ps few some (inside, rest, e, w, n, b, (after, others, f, v, m, a, later)) =
    (Group negated inside after, others, ap (λ ys. Open negated ∷ ys) (e ∙ ap (λ ys. pieces_of inside ++ (Close ∷ ys)) f ∙ sym (append_assoc (pieces_of inside) (Close ∷ pieces_of after) (Close ∷ others))), (b ∙ some, w, v), (few, n, m), refl, later)

group_passed : (v w : Bool) (few : Bool) (empty deep unclosed : SearchFault) → cond v (cond w (Some empty) (cond few None (Some deep))) (Some unclosed) ≡ None → (v ≡ true) × (w ≡ false) × (few ≡ true)
group_passed true true few empty deep unclosed h = grind (arith, h)
group_passed true false few empty deep unclosed h = (refl, refl, test_passed few deep h)
group_passed false w few empty deep unclosed h = grind (arith, h)

-- behind a `(` that is closed later and not at once, and where there is no fault, a term or group comes
inside_begins : (depth : ℕ) (ts : List Token) (p : Piece) (place : ℕ) → p ∷ pieces_in ts ≡ p ∷ pieces_in ts → begins_close (p ∷ pieces_in ts) ≡ false → fault_at depth false place p (pieces_in ts) ≡ None → begins_part (p ∷ pieces_in ts) ≡ true
inside_begins depth ts (Test negated term) place e n h = refl
inside_begins depth ts BadValue place e n h = refl
inside_begins depth ts (Open negated) place e n h = refl
inside_begins depth ts Close place e n h = grind (arith, n)
inside_begins depth ts Or place e n h = grind (arith, h)
inside_begins depth ts And place e n h = grind (arith, h)
inside_begins depth ts OpenQuote place e n h = refl

some_inside : (depth : ℕ) (ts : List Token) → closes 0 (pieces_in ts) ≡ true → begins_close (pieces_in ts) ≡ false → fault_in depth false ts ≡ None → begins_part (pieces_in ts) ≡ true
some_inside depth [] c n h = grind (arith, c)
some_inside depth (t ∷ ts) c n h =
    inside_begins depth ts t.piece t.place refl n (both_none (fault_at depth false t.place t.piece (pieces_in ts)) (fault_in (depth_behind depth t.piece) (ends_part t.piece) ts) h).0

-- by the first piece, with what is known behind it
fill_one : (depth : ℕ) (before : Bool) (place : ℕ) (p : Piece) (ts : List Token) → fault_at depth before place p (pieces_in ts) ≡ None → fault_in (depth_behind depth p) (ends_part p) ts ≡ None → CloseAll depth (p ∷ pieces_in ts)
    → (CloseAll (depth_behind depth p) (pieces_in ts) → Fills (depth_behind depth p) (ends_part p) (pieces_in ts)) → Fills depth before (p ∷ pieces_in ts)
fill_one depth before place (Test negated term) ts h g c later =
    fill_part depth before (Test negated term) (pieces_in ts) (Asks negated term) (λ tree. refl) (λ k tree n. n) (λ tree b w. w) (λ tree. refl) (later (all_behind depth (Test negated term) (pieces_in ts) (λ k. refl) c))
fill_one depth before place BadValue ts h g c later = grind (arith, h)
fill_one depth before place (Open negated) ts h g c later =
    let passed = group_passed (closes 0 (pieces_in ts)) (begins_close (pieces_in ts)) (nat_lt depth 32) (faults.EmptyGroup place) (faults.TooDeep place) (faults.OpenGroup place) h in
    fill_group depth before negated (pieces_in ts) (ltb-true depth 32 passed.2) (some_inside (suc depth) ts passed.0 passed.1 g) (later (all_inside depth negated (pieces_in ts) passed.0 c))
fill_one zero before place Close ts h g c later = grind (arith, h)
fill_one (suc depth) before place Close ts h g c later =
    let e : suc depth - 1 ≡ depth = omega arith in
    let behind = subst (λ n. CloseAll n (pieces_in ts) → Fills n true (pieces_in ts)) e later in
    (End, pieces_in ts, refl, tt, tt, refl, behind (all_outside depth (pieces_in ts) c))
fill_one depth before place Or ts h g c later =
    let both = and_parts before (begins_part (pieces_in ts)) (test_passed (before && begins_part (pieces_in ts)) (faults.LoneOr place) h) in
    fill_part depth before Or (pieces_in ts) Either (λ tree. refl) (λ k tree n. n) (λ tree b w. (both.0, b ∙ both.1, w)) (λ tree. refl) (later (all_behind depth Or (pieces_in ts) (λ k. refl) c))
fill_one depth before place And ts h g c later =
    let both = and_parts before (begins_part (pieces_in ts)) (test_passed (before && begins_part (pieces_in ts)) (faults.LoneOr place) h) in
    fill_part depth before And (pieces_in ts) Also (λ tree. refl) (λ k tree n. n) (λ tree b w. (both.0, b ∙ both.1, w)) (λ tree. refl) (later (all_behind depth And (pieces_in ts) (λ k. refl) c))
fill_one depth before place OpenQuote ts h g c later = grind (arith, h)

fills : (depth : ℕ) (before : Bool) (ts : List Token) → fault_in depth before ts ≡ None → CloseAll depth (pieces_in ts) → Fills depth before (pieces_in ts)
fills zero before [] h c = (End, refl, tt, tt, refl)
fills (suc depth) before [] h c = grind (arith, c)
fills depth before (t ∷ ts) h c =
    let both = both_none (fault_at depth before t.place t.piece (pieces_in ts)) (fault_in (depth_behind depth t.piece) (ends_part t.piece) ts) h in
    fill_one depth before t.place t.piece ts both.0 both.1 c (λ d. fills (depth_behind depth t.piece) (ends_part t.piece) ts both.1 d)

pub has_tree : (text : List ℕ) → first_fault text ≡ None → (tree : Tree) × ReadsSearch text tree
has_tree text h = let found = fills 0 false (tokens text) h tt in (found.0, record { pieces = found.1; whole = found.2; nests = found.3 })

-- ---- a text with a tree has no fault

closes_pieces_of : (tree : Tree) (depth : ℕ) (rest : List Piece) → closes depth (pieces_of tree ++ rest) ≡ closes depth rest
closes_pieces_of End depth rest = refl
closes_pieces_of (Asks negated term after) depth rest = closes_pieces_of after depth rest
closes_pieces_of (Either after) depth rest = closes_pieces_of after depth rest
closes_pieces_of (Also after) depth rest = closes_pieces_of after depth rest
closes_pieces_of (Group negated inside after) depth rest =
    ap (closes (suc depth)) (append_assoc (pieces_of inside) (Close ∷ pieces_of after) rest)
    ∙ closes_pieces_of inside (suc depth) (Close ∷ (pieces_of after ++ rest))
    ∙ closes_pieces_of after depth rest

begins_pieces_of : (tree : Tree) (rest : List Piece) → begins tree ≡ true → begins_part (pieces_of tree ++ rest) ≡ true
begins_pieces_of End rest h = grind (arith, h)
begins_pieces_of (Asks negated term after) rest h = refl
begins_pieces_of (Group negated inside after) rest h = refl
begins_pieces_of (Either after) rest h = grind (arith, h)
begins_pieces_of (Also after) rest h = grind (arith, h)

no_close : (tree : Tree) (rest : List Piece) → begins tree ≡ true → begins_close (pieces_of tree ++ rest) ≡ false
no_close End rest h = grind (arith, h)
no_close (Asks negated term after) rest h = refl
no_close (Group negated inside after) rest h = refl
no_close (Either after) rest h = grind (arith, h)
no_close (Also after) rest h = grind (arith, h)

group_free : (v w few : Bool) (empty deep unclosed : SearchFault) → v ≡ true → w ≡ false → few ≡ true → cond v (cond w (Some empty) (cond few None (Some deep))) (Some unclosed) ≡ None
group_free v w few empty deep unclosed h g f =
    ap (λ x. cond x (cond w (Some empty) (cond few None (Some deep))) (Some unclosed)) h
    ∙ ap (λ x. cond x (Some empty) (cond few None (Some deep))) g
    ∙ ap (λ x. cond x None (Some deep)) f

lone_free : (v w : Bool) (lone : SearchFault) → v ≡ true → w ≡ true → cond (v && w) None (Some lone) ≡ None
lone_free v w lone h g = ap (λ x. cond (x && w) None (Some lone)) h ∙ ap (λ x. cond x None (Some lone)) g

-- the faults behind a first piece that has none
no_fault_here : (depth : ℕ) (before : Bool) (t : Token) (ts : List Token) (p : Piece) → t.piece ≡ p → fault_at depth before t.place p (pieces_in ts) ≡ None → fault_in depth before (t ∷ ts) ≡ fault_in (depth_behind depth p) (ends_part p) ts
no_fault_here depth before t ts p e none =
    ap (λ q. option_or (fault_at depth before t.place q (pieces_in ts)) (fault_in (depth_behind depth q) (ends_part q) ts)) e
    ∙ ap (λ f. option_or f (fault_in (depth_behind depth p) (ends_part p) ts)) none

-- behind a tree the faults are those of the tokens that are left
Passes : ℕ → Bool → List Token → List Piece → Type 0
Passes depth before ts rest = (us : List Token) × (after : Bool) × (pieces_in us ≡ rest) × (fault_in depth before ts ≡ fault_in depth after us)

pass_part : (depth : ℕ) (before : Bool) (p : Piece) (ps rest : List Piece) (ts : List Token) → pieces_in ts ≡ p ∷ ps → depth_behind depth p ≡ depth
    → ((place : ℕ) (us : List Token) → pieces_in us ≡ ps → fault_at depth before place p (pieces_in us) ≡ None)
    → ((us : List Token) → pieces_in us ≡ ps → Passes depth (ends_part p) us rest) → Passes depth before ts rest
unfolding Passes
pass_part depth before p ps rest [] e same free later = grind (arith, e)
pass_part depth before p ps rest (t ∷ ts) e same free later =
    let head = head_same t.piece p (pieces_in ts) ps e in
    let tail = tail_same t.piece p (pieces_in ts) ps e in
    let found = later ts tail in
    (found.0, found.1, found.2, no_fault_here depth before t ts p head (free t.place ts tail) ∙ ap (λ n. fault_in n (ends_part p) ts) same ∙ found.3)

never_zero : (depth : ℕ) (fault : SearchFault) → cond (suc depth == 0) (Some fault) None ≡ None
never_zero depth fault = elim (suc depth == 0) as (λ v. (suc depth == 0) ≡ v → cond v (Some fault) None ≡ None) [ true ↦ λ e. grind (arith, e) | false ↦ λ e. refl ] refl

pass_close : (depth : ℕ) (before : Bool) (ps rest : List Piece) (ts : List Token) → pieces_in ts ≡ Close ∷ ps
    → ((us : List Token) → pieces_in us ≡ ps → Passes depth true us rest)
    → (us : List Token) × (after : Bool) × (pieces_in us ≡ rest) × (fault_in (suc depth) before ts ≡ fault_in depth after us)
unfolding Passes
pass_close depth before ps rest [] e later = grind (arith, e)
pass_close depth before ps rest (t ∷ ts) e later =
    let head = head_same t.piece Close (pieces_in ts) ps e in
    let found = later ts (tail_same t.piece Close (pieces_in ts) ps e) in
    let same : suc depth - 1 ≡ depth = omega arith in
    (found.0, found.1, found.2, no_fault_here (suc depth) before t ts Close head (never_zero depth (faults.EmptyGroup t.place)) ∙ ap (λ n. fault_in n true ts) same ∙ found.3)

pass_open : (depth : ℕ) (before negated : Bool) (ps behind rest : List Piece) (ts : List Token) → pieces_in ts ≡ Open negated ∷ ps
    → ((place : ℕ) (us : List Token) → pieces_in us ≡ ps → group_fault depth place (pieces_in us) ≡ None)
    → ((us : List Token) → pieces_in us ≡ ps → Passes (suc depth) false us (Close ∷ behind))
    → ((us : List Token) → pieces_in us ≡ behind → Passes depth true us rest) → Passes depth before ts rest
unfolding Passes
pass_open depth before negated ps behind rest [] e free inner later = grind (arith, e)
pass_open depth before negated ps behind rest (t ∷ ts) e free inner later =
    let head = head_same t.piece (Open negated) (pieces_in ts) ps e in
    let tail = tail_same t.piece (Open negated) (pieces_in ts) ps e in
    let inside = inner ts tail in
    let closed = pass_close depth inside.1 behind rest inside.0 inside.2 later in
    (closed.0, closed.1, closed.2, no_fault_here depth before t ts (Open negated) head (free t.place ts tail) ∙ inside.3 ∙ closed.3)

passes : (tree : Tree) (depth : ℕ) (before : Bool) (ts : List Token) (rest : List Piece) → Nests depth tree → IsWhole before tree → pieces_in ts ≡ pieces_of tree ++ rest → Passes depth before ts rest
unfolding Passes
passes End depth before ts rest n w e = (ts, before, e, refl)
passes (Asks negated term after) depth before ts rest n w e =
    pass_part depth before (Test negated term) (pieces_of after ++ rest) rest ts e refl (λ place us h. refl) (λ us h. passes after depth true us rest n w h)
passes (Either after) depth before ts rest n w e =
    pass_part depth before Or (pieces_of after ++ rest) rest ts e refl (λ place us h. lone_free before (begins_part (pieces_in us)) (faults.LoneOr place) w.0 (ap begins_part h ∙ begins_pieces_of after rest w.1)) (λ us h. passes after depth false us rest n w.2 h)
passes (Also after) depth before ts rest n w e =
    pass_part depth before And (pieces_of after ++ rest) rest ts e refl (λ place us h. lone_free before (begins_part (pieces_in us)) (faults.LoneOr place) w.0 (ap begins_part h ∙ begins_pieces_of after rest w.1)) (λ us h. passes after depth false us rest n w.2 h)
passes (Group negated inside after) depth before ts rest n w e =
    let behind = pieces_of after ++ rest in
    let split : pieces_in ts ≡ Open negated ∷ (pieces_of inside ++ (Close ∷ behind)) = e ∙ ap (λ ys. Open negated ∷ ys) (append_assoc (pieces_of inside) (Close ∷ pieces_of after) rest) in
    pass_open depth before negated (pieces_of inside ++ (Close ∷ behind)) behind rest ts split
    (λ place us h. group_free (closes 0 (pieces_in us)) (begins_close (pieces_in us)) (nat_lt depth 32) (faults.EmptyGroup place) (faults.TooDeep place) (faults.OpenGroup place) (ap (closes 0) h ∙ closes_pieces_of inside 0 (Close ∷ behind)) (ap begins_close h ∙ no_close inside (Close ∷ behind) w.0) (lt-ltb depth 32 n.0))
    (λ us h. passes inside (suc depth) false us (Close ∷ behind) n.1 w.1 h)
    (λ us h. passes after depth true us rest n.2 w.2 h)

none_left : (ts : List Token) → pieces_in ts ≡ [] → ts ≡ []
none_left [] h = refl
none_left (t ∷ ts) h = grind (arith, h)

pub no_fault : (text : List ℕ) (tree : Tree) → ReadsSearch text tree → first_fault text ≡ None
unfolding Passes
no_fault text tree h =
    let passed = passes tree 0 false (tokens text) [] h.nests h.whole (h.pieces ∙ sym (append-nil (pieces_of tree))) in
    passed.3 ∙ ap (fault_in 0 passed.1) (none_left passed.0 passed.2)
