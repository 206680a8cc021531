-- What an edit notes stands under its name.
use Rattle.std.proofs.Common.{◌≡◌, true, false, cond, List, [], IfSome, IfOk, Option, Some, None, Result, Ok, Err, refl, sym, ap, ◌∙◌}
use Rattle.std.proofs.lemmas.Option.{none-some, same_Some}
use Rattle.std.specs.BTreeMap.{is_at}
use Rattle.std.specs.FinMap.{from_entries}
use Rattle.std.specs.Option.{option_map, unwrap_or}
use Rattle.ak_base.specs.Names.{name_cmp}
use Rattle.ak_base.specs.Rows.{name_of, stamp_of}
use Rattle.ak_base.specs.declared.names.Name.{Name}
use Rattle.ak_base.specs.declared.rows.Row.{Row}
use Rattle.ak_keep.proofs.RowsByName.{same_of_tied}
use Rattle.ak_edit.proofs.Entries.{get-entry_at}
use Rattle.ak_edit.specs.Overlays.{BearNames, IsSet, entry_at}

-- one entry more, or another
pub bears_set : (es fs : List (Name × Option Row)) (name : Name) (made : Option Row) → IsSet es name made fs → ((row : Row) → made ≡ Some row → name_of row ≡ name)
    → BearNames (from_entries es) → BearNames (from_entries fs)
bears_set es fs name made set named bears q row is =
    elim (is_at (name_cmp name) q) as (λ b. is_at (name_cmp name) q ≡ b → cond b (Some made) (entry_at es q) ≡ Some (Some row) → name_of row ≡ q) [
      | true ↦ λ same here. named row (same_Some made (Some row) here) ∙ same_of_tied name q same
      | false ↦ λ _ there. bears q row (get-entry_at es q ∙ there)
    ] refl (sym (get-entry_at fs q ∙ set q) ∙ is)

-- no entry
pub bears_none : (es : List (Name × Option Row)) → es ≡ [] → BearNames (from_entries es)
bears_none es none q row is = absurd (none-some (Some row) (sym (get-entry_at es q ∙ ap (λ (fs : List (Name × Option Row)). entry_at fs q) none) ∙ is))

-- what is found under a name
pub found_bears : (es : List (Name × Option Row)) (name : Name) (o : Option (Option Row)) → BearNames (from_entries es) → o ≡ entry_at es name → IfSome o (λ made. IfSome made (λ row. name_of row ≡ name))
found_bears es name None bears is = tt
found_bears es name (Some None) bears is = tt
found_bears es name (Some (Some row)) bears is = bears name row (get-entry_at es name ∙ sym is)

-- the stamp of what was noted, or of what is held
pub stamp_over : (noted : Option (Option Row)) (held : Option Row) → unwrap_or (option_map (option_map stamp_of) noted) (option_map stamp_of held) ≡ option_map stamp_of (unwrap_or noted held)
stamp_over None held = refl
stamp_over (Some made) held = refl

pub if_ok_map : {T E : Type 0} (r : Result T E) (P Q : T → Type 0) → ((x : T) → P x → Q x) → IfOk r P → IfOk r Q
if_ok_map (Ok x) P Q step is = step x is
if_ok_map (Err e) P Q step is = tt
