-- Over rows of bytes alone, a path finds the first row whose text it is.
use Rattle.std.proofs.Common.{◌≡◌, ◌∙◌, ℕ, zero, suc, ◌-◌, ◌<◌, List, [], ◌∷◌, ◌++◌, Bool, true, false, ◌&&◌, cond, Option, Some, None, refl, sym, ap, subst, arith, rules, ◌≤◌}
use Rattle.std.proofs.lemmas.Bool.Decides.{nat_tests}
use Rattle.std.specs.Cmp.{first_so, second_so}
use Rattle.std.specs.Prelude.{◌==◌, nat_lt, is_some, codes}
use Rattle.std.specs.Cmp.Lexicographic.{same_text, pointwise}
use Rattle.std.specs.Option.{option_map}
use Rattle.matchit.specs.Rows.{RowsOf, param_token, catch_all_token}
use Rattle.matchit.specs.Router.{RouteOf}
use Rattle.matchit.specs.Seek.{has_slash, own, step, or_else, param_step, seek, first}
use Rattle.ak_messages.specs.declared.methods.Method.{Method}
use Rattle.ak_messages.specs.declared.methods.Method.TheVariants as methods
use Rattle.ak_messages.specs.Methods.{name_of}
use Rattle.ak_http_heads.specs.Heads.{route_of}
use Rattle.ak_http_heads.specs.Routes.{IsRoutes}

-- ---- rows of bytes alone

abbrev pub are_bytes : List ℕ → Bool
are_bytes [] = true
are_bytes (token ∷ tokens) = nat_lt token 256 && are_bytes tokens

both_true : (a b : Bool) → a ≡ true → b ≡ true → (a && b) ≡ true
both_true a b p q = rw (p, q) refl

module _ {K : Type 0} where
  abbrev pub are_plain : RowsOf K → Bool
  are_plain [] = true
  are_plain ((tokens, key) ∷ rows) = are_bytes tokens && are_plain rows

  -- the first row whose tokens are the path
  abbrev pub by_text : RowsOf K → List ℕ → Option K
  by_text [] path = None
  by_text ((tokens, key) ∷ rows) path = cond (pointwise ◌==◌ tokens path) (Some key) (by_text rows path)

  either : (b : Bool) (x y : ℕ × RowsOf K) → x.1 ≡ [] → y.1 ≡ [] → (cond b x y).1 ≡ []
  either true x y p q = p
  either false x y p q = q

  param_rows : (path : List ℕ) → (param_step {K = K} [] path).1 ≡ []
  unfolding param_step
  param_rows path = either (has_slash path) _ _ refl refl

  or_none : (x y : Option K) → x ≡ None → y ≡ None → or_else x y ≡ None
  or_none x y p q = rw (p, q) refl

  none_found : (skip : ℕ) (path : List ℕ) → seek {K = K} skip [] path ≡ None
  unfolding seek
  none_found skip [] = refl
  none_found (suc skip) (b ∷ path) = none_found skip path
  none_found zero (b ∷ path) =
      or_none _ _ (none_found 0 path)
      (or_none _ _ (ap (λ rs. seek ((param_step {K = K} [] (b ∷ path)).0 - 1) rs path) (param_rows (b ∷ path)) ∙ none_found _ path) refl)

  no_row : (token : ℕ) (rows : RowsOf K) → 256 ≤ token → are_plain rows ≡ true → step token rows ≡ []
  no_row token [] large plain = refl
  no_row token (([], key) ∷ rows) large plain = no_row token rows large plain
  no_row token ((x ∷ t, key) ∷ rows) large plain =
      let small : x < 256 = byte_of x (first_so (nat_lt x 256) _ (first_so (are_bytes (x ∷ t)) _ plain)) in
      rw (apart x token (omega arith)) (no_row token rows large (second_so (are_bytes (x ∷ t)) _ plain))
    where
      byte_of : (x : ℕ) → nat_lt x 256 ≡ true → x < 256
      byte_of x h = grind (arith, nat_tests, h)

      apart : (x token : ℕ) → x < token → (x == token) ≡ false
      apart x token h = grind (arith, nat_tests, h)

  plain_row : (b : Bool) (t : List ℕ) (key : K) (rows : RowsOf K) → are_bytes t ≡ true → are_plain rows ≡ true → are_plain (cond b ((t, key) ∷ rows) rows) ≡ true
  plain_row true t key rows p q = both_true _ _ p q
  plain_row false t key rows p q = q

  steps_plain : (byte : ℕ) (rows : RowsOf K) → are_plain rows ≡ true → are_plain (step byte rows) ≡ true
  steps_plain byte [] plain = refl
  steps_plain byte (([], key) ∷ rows) plain = steps_plain byte rows plain
  steps_plain byte ((x ∷ t, key) ∷ rows) plain =
      plain_row (x == byte) t key (step byte rows) (second_so (nat_lt x 256) _ (first_so (are_bytes (x ∷ t)) _ plain))
      (steps_plain byte rows (second_so (are_bytes (x ∷ t)) _ plain))

  steps_text : (byte : ℕ) (rows : RowsOf K) (path : List ℕ) → by_text (step byte rows) path ≡ by_text rows (byte ∷ path)
  steps_text byte [] path = refl
  steps_text byte (([], key) ∷ rows) path = steps_text byte rows path
  steps_text byte ((x ∷ t, key) ∷ rows) path = chosen (x == byte) (steps_text byte rows path)
    where
      chosen : (b : Bool) → by_text (step byte rows) path ≡ by_text rows (byte ∷ path)
          → by_text (cond b ((t, key) ∷ step byte rows) (step byte rows)) path ≡ cond (b && pointwise ◌==◌ t path) (Some key) (by_text rows (byte ∷ path))
      chosen true e = ap (λ o. cond (pointwise ◌==◌ t path) (Some key) o) e
      chosen false e = e

  ends_text : (rows : RowsOf K) → own rows ≡ by_text rows []
  ends_text [] = refl
  ends_text (([], key) ∷ rows) = refl
  ends_text ((x ∷ t, key) ∷ rows) = ends_text rows

  after_param : (rows : RowsOf K) (path : List ℕ) (b : ℕ) → rows ≡ [] → seek ((param_step rows (b ∷ path)).0 - 1) (param_step rows (b ∷ path)).1 path ≡ None
  after_param rows path b e =
      let P : RowsOf K → Type 0 = λ rs. seek ((param_step rs (b ∷ path)).0 - 1) (param_step rs (b ∷ path)).1 path ≡ None in
      subst P (sym e) (ap (λ rs. seek ((param_step {K = K} [] (b ∷ path)).0 - 1) rs path) (param_rows (b ∷ path)) ∙ none_found _ path)

  or_first : (x y : Option K) → y ≡ None → or_else x y ≡ x
  or_first None y e = e
  or_first (Some key) y e = refl

  pub plain_finds : (rows : RowsOf K) (path : List ℕ) → are_plain rows ≡ true → first rows path ≡ by_text rows path
  unfolding seek
  plain_finds rows [] plain = ends_text rows
  plain_finds rows (b ∷ path) plain =
      or_first _ _ (or_none _ _ (after_param _ path b (no_row param_token rows (omega arith) plain))
      (ap own (no_row catch_all_token rows (omega arith) plain)))
      ∙ plain_finds (step b rows) path (steps_plain b rows plain) ∙ steps_text b rows path

-- ---- the routes

-- each row is found under its text
abbrev pub AreRouted : RowsOf (RouteOf Method) → Type 0
AreRouted [] = Unit {0}
AreRouted ((tokens, route) ∷ rows) = (route_of tokens ≡ Some route.value) × AreRouted rows

routed : (rows : RowsOf (RouteOf Method)) → AreRouted rows → (target : List ℕ) (route : RouteOf Method) → by_text rows target ≡ Some route → route_of target ≡ Some route.value
routed [] all target route e = absurd (cc e)
routed ((tokens, own_route) ∷ rows) all target route e =
    elim (pointwise ◌==◌ tokens target) as (λ b. pointwise ◌==◌ tokens target ≡ b → cond b (Some own_route) (by_text rows target) ≡ Some route → route_of target ≡ Some route.value) [
      | true ↦ λ is same. let text : tokens ≡ target = same_text tokens target (sym is) in
          let found : own_route ≡ route = cc same in
          ap route_of (sym text) ∙ all.0 ∙ ap (λ r. Some r.value) found
      | false ↦ λ is same. routed rows all.1 target route same
    ] refl e

-- a target that is routed is a text of the routes
named : (target : List ℕ) (method : Method) → route_of target ≡ Some method → target ≡ codes "/sync/" ++ name_of method
named target method e = search rules

finds_all : (rows : RowsOf (RouteOf Method)) → are_plain rows ≡ true → AreRouted rows
    → ((method : Method) → is_some (by_text rows (codes "/sync/" ++ name_of method)) ≡ true) → IsRoutes rows
finds_all rows plain all whole = record { finds = λ target. ap (λ o. option_map (λ route. route.value) o) (plain_finds rows target plain) ∙ same target }
  where
    missed : (target : List ℕ) → by_text rows target ≡ None → None ≡ route_of target
    missed target none =
        elim (route_of target) as (λ o. route_of target ≡ o → None ≡ o) [
          | None ↦ λ e. refl
          | Some method ↦ λ e. absurd (let lost : is_some (by_text rows target) ≡ true = ap (λ t. is_some (by_text rows t)) (named target method e) ∙ whole method in
              let missing : false ≡ true = ap is_some (sym none) ∙ lost in cc missing)
        ] refl

    same : (target : List ℕ) → option_map (λ route. route.value) (by_text rows target) ≡ route_of target
    same target =
        elim (by_text rows target) as (λ o. by_text rows target ≡ o → option_map (λ route. route.value) o ≡ route_of target) [
          | None ↦ λ e. missed target e
          | Some route ↦ λ e. sym (routed rows all target route e)
        ] refl

abbrev pub row : List ℕ → Method → List ℕ × RouteOf Method
row text method = (text, record { pattern = text; text = text; names = []; value = method })

-- the rows of the ten routes, as the router keeps them
abbrev pub table : RowsOf (RouteOf Method)
table =
    row (codes "/sync/applyChanges") methods.ApplyChanges
    ∷ row (codes "/sync/applyChunk") methods.ApplyChunk
    ∷ row (codes "/sync/applyGraves") methods.ApplyGraves
    ∷ row (codes "/sync/chunk") methods.Chunk
    ∷ row (codes "/sync/download") methods.Download
    ∷ row (codes "/sync/finish") methods.Finish
    ∷ row (codes "/sync/meta") methods.Meta
    ∷ row (codes "/sync/sanityCheck2") methods.SanityCheck2
    ∷ row (codes "/sync/start") methods.Start
    ∷ row (codes "/sync/upload") methods.Upload
    ∷ []

pub table_routes : IsRoutes table
table_routes = finds_all table refl (refl, (refl, (refl, (refl, (refl, (refl, (refl, (refl, (refl, (refl, tt)))))))))) whole
  where
    whole : (method : Method) → is_some (by_text table (codes "/sync/" ++ name_of method)) ≡ true
    whole methods.Meta = refl
    whole methods.Start = refl
    whole methods.ApplyGraves = refl
    whole methods.ApplyChanges = refl
    whole methods.Chunk = refl
    whole methods.ApplyChunk = refl
    whole methods.SanityCheck2 = refl
    whole methods.Finish = refl
    whole methods.Upload = refl
    whole methods.Download = refl
