-- Step by step, a tree shows what it shows as a whole.
use Rattle.std.proofs.Common.{◌≡◌, ℕ, suc, true, false, not, ◌&&◌, ◌||◌, cond, List, [], ◌∷◌, ◌++◌, append_assoc, refl, ap, sym, ◌∙◌, append-nil}
use Rattle.std.proofs.Math.Bool.{or_assoc, or-false}
use Rattle.ak_template.specs.declared.faces.Face.{Face}
use Rattle.ak_template.specs.declared.steps.Step.{Step}
use Rattle.ak_template.specs.declared.steps.Step.TheVariants.{Close}
use Rattle.ak_template.specs.Trees.{Tree, End, Plain, Value, Section, tree_steps}
use Rattle.ak_template.specs.Pages.{is_filled, shows_in, walk_shows}

idle_tree : (face : Face) (tree : Tree) (idle : ℕ) (rest : List Step) → walk_shows face (suc idle) (tree_steps tree ++ rest) ≡ walk_shows face (suc idle) rest
idle_tree face End idle rest = refl
idle_tree face (Plain words after) idle rest = idle_tree face after idle rest
idle_tree face (Value names name after) idle rest = idle_tree face after idle rest
idle_tree face (Section inverted name inside after) idle rest =
    ap (walk_shows face (suc (suc idle))) (append_assoc (tree_steps inside) (Close name ∷ tree_steps after) rest)
    ∙ idle_tree face inside (suc idle) (Close name ∷ (tree_steps after ++ rest)) ∙ idle_tree face after idle rest

shown_tree : (face : Face) (tree : Tree) (rest : List Step) → walk_shows face 0 (tree_steps tree ++ rest) ≡ (shows_in face tree || walk_shows face 0 rest)
shown_tree face End rest = refl
shown_tree face (Plain words after) rest = shown_tree face after rest
shown_tree face (Value names name after) rest = ap (λ v. is_filled face name || v) (shown_tree face after rest) ∙ sym (or_assoc (is_filled face name) (shows_in face after) (walk_shows face 0 rest))
shown_tree face (Section inverted name inside after) rest =
    elim (not inverted && is_filled face name) as (λ v. walk_shows face (cond v 0 1) ((tree_steps inside ++ (Close name ∷ tree_steps after)) ++ rest) ≡ (((v && shows_in face inside) || shows_in face after) || walk_shows face 0 rest)) [
      | true ↦ ap (walk_shows face 0) (append_assoc (tree_steps inside) (Close name ∷ tree_steps after) rest) ∙ shown_tree face inside (Close name ∷ (tree_steps after ++ rest)) ∙ ap (λ v. shows_in face inside || v) (shown_tree face after rest) ∙ sym (or_assoc (shows_in face inside) (shows_in face after) (walk_shows face 0 rest))
      | false ↦ ap (walk_shows face 1) (append_assoc (tree_steps inside) (Close name ∷ tree_steps after) rest) ∙ idle_tree face inside 0 (Close name ∷ (tree_steps after ++ rest)) ∙ shown_tree face after rest
    ]

pub shows_tree : (face : Face) (tree : Tree) (steps : List Step) → steps ≡ tree_steps tree → walk_shows face 0 steps ≡ shows_in face tree
shows_tree face tree steps h = ap (walk_shows face 0) (h ∙ sym (append-nil (tree_steps tree))) ∙ shown_tree face tree [] ∙ or-false (shows_in face tree)
