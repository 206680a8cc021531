-- One key is put in at its place.
use Rattle.std.proofs.Common.{◌≡◌, ℕ, true, cond, Bool, ℤ, List, [], ◌∷◌, take, Some, None, sym, ap, ◌∙◌}
use Rattle.std.specs.BTreeSet.{insert_key}
use Rattle.std.specs.List.{cons_option}
use Rattle.ak_queue.specs.Homes.{Parts}
use Rattle.ak_queue.specs.Orders.{DueKey, NewKey, put_among, due_cmp, new_cmp}

pub due_added : (passes : Bool) (old new : List DueKey) (due id due_read id_read : ℤ) → due_read ≡ due → id_read ≡ id → passes ≡ true → new ≡ insert_key due_cmp old (due_read, id_read)
    → new ≡ put_among due_cmp old (cond passes ((due, id) ∷ []) [])
due_added passes old new due id due_read id_read due_is id_is is step =
    step ∙ (λ i. insert_key due_cmp old (due_is i, id_is i)) ∙ sym (ap (λ v. put_among due_cmp old (cond v ((due, id) ∷ []) [])) is)

pub first_added : (most : ℕ) (passes : Bool) (old new : List DueKey) (due id due_read id_read : ℤ) → due_read ≡ due → id_read ≡ id → passes ≡ true → take most new ≡ take most (insert_key due_cmp old (due_read, id_read))
    → take most new ≡ take most (put_among due_cmp old (cond passes ((due, id) ∷ []) []))
first_added most passes old new due id due_read id_read due_is id_is is step =
    step ∙ (λ i. take most (insert_key due_cmp old (due_is i, id_is i))) ∙ sym (ap (λ v. take most (put_among due_cmp old (cond v ((due, id) ∷ []) []))) is)

pub new_added : (leads : Bool) (old new : List NewKey) (home path : Parts) (due id due_read id_read : ℤ) → path ≡ home → due_read ≡ due → id_read ≡ id → leads ≡ true → new ≡ insert_key new_cmp old (path, due_read, id_read)
    → new ≡ put_among new_cmp old (cons_option (cond leads (Some (home, due, id)) None) [])
new_added leads old new home path due id due_read id_read path_is due_is id_is is step =
    step ∙ (λ i. insert_key new_cmp old (path_is i, due_is i, id_is i)) ∙ sym (ap (λ v. put_among new_cmp old (cons_option (cond v (Some (home, due, id)) None) [])) is)
