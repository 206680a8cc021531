-- What stays lawful while rows come part by part, and that what was sent may be settled before the rest comes.
use Rattle.ak_base.proofs.RowFacts.{usn_of-with_usn}
use Rattle.ak_base.specs.Heads.{IsWithin}
use Rattle.ak_base.specs.Limits.{last_usn}
use Rattle.ak_base.specs.Rows.{IsChecked, stamp_of, usn_of, with_usn}
use Rattle.ak_base.specs.declared.names.Name.{Name}
use Rattle.ak_base.specs.declared.names.Table.{Table}
use Rattle.ak_base.specs.declared.rows.Row.{Row}
use Rattle.ak_base.specs.Tables.{graves_of}
use Rattle.ak_keep.specs.Collections.{Rows, is_pending}
use Rattle.ak_merge.proofs.CommitLaws.{checked_received, named_received, newest_checked, single_received}
use Rattle.ak_merge.proofs.PartLaws.{numbered_again, pending_was_held}
use Rattle.ak_merge.proofs.TakingLaws.{received, received_by, beats_numberless, grave_in, newest_in, newest_named, all_taken_at}
use Rattle.ak_merge.specs.Exchanges.{settled, IsPartSettled}
use Rattle.ak_keep.specs.Graves.{RowsByName, grave_under}
use Rattle.ak_merge.specs.Holdings.{AreNamed, AreChecked, IsSingle}
use Rattle.ak_merge.specs.Takings.{beats, all_taken}
use Rattle.ak_merge.specs.declared.sides.Side.{Side}
use Rattle.std.specs.Cmp.{signed_Decides}
use Rattle.std.specs.FinMap.{get}
use Rattle.std.specs.List.{All}
use Rattle.std.specs.Option.{option_map}
use Rattle.std.specs.Prelude.{◌≡◌, ℤ, pos, negsuc, ◌≤ℤ◌, true, false, if◌then◌else◌, IsTrue, T, List, Option, Some, None, ◌⊎◌}
use Rattle.std.proofs.Common.{refl, sym, ap, subst, ◌∙◌, inl, inr, arith}
use Rattle.std.proofs.Math.Path.{fun_ext}
use Rattle.std.proofs.lemmas.Int.{ints}
use Rattle.std.proofs.lemmas.Option.{none-some, same_Some}

-- ---- lawful
pub taken_named : (side : Side) (usn : ℤ) (came : List Row) (held : Rows) → AreNamed (get held) → AreNamed (get (all_taken side usn came held))
taken_named side usn came held named = subst AreNamed (sym (fun_ext (all_taken_at side usn came held))) (named_received side usn (get held) (newest_in side came) named (newest_named side came))

pub taken_checked : (side : Side) (usn : ℤ) (came : List Row) (held : Rows) → All IsChecked came → IsWithin (pos 0) last_usn usn → AreChecked (get held) → AreChecked (get (all_taken side usn came held))
taken_checked side usn came held fits within checked =
    subst AreChecked (sym (fun_ext (all_taken_at side usn came held))) (checked_received side usn (get held) (newest_in side came) checked (newest_checked side usn came within fits))

pub taken_single : (side : Side) (usn : ℤ) (came : List Row) (held : Rows) → IsSingle (get held) → IsSingle (get (all_taken side usn came held))
taken_single side usn came held single = subst IsSingle (sym (fun_ext (all_taken_at side usn came held))) (single_received side usn (get held) (newest_in side came) single)

-- ---- settled first
-- this, or the same settled
abbrev MaySettled : ℤ → Option Row → Option Row → Type 0
MaySettled usn x early = (early ≡ x) ⊎ (early ≡ option_map (settled usn) x)

settled_twice : (usn : ℤ) (row : Row) → settled usn (settled usn row) ≡ settled usn row
settled_twice usn row =
    elim (is_pending row) as (λ b. is_pending row ≡ b → settled usn (if b then with_usn row usn else row) ≡ (if b then with_usn row usn else row)) [
      | true ↦ λ _. elim (is_pending (with_usn row usn)) as (λ b. (if b then with_usn (with_usn row usn) usn else with_usn row usn) ≡ with_usn row usn) [ true ↦ numbered_again row usn usn | false ↦ refl ]
      | false ↦ λ is. ap (λ b. if b then with_usn row usn else row) is
    ] refl

beats_settled : (side : Side) (usn : ℤ) (x y : Row) → beats side (stamp_of (settled usn x)) y ≡ beats side (stamp_of x) y
beats_settled side usn x y = elim (is_pending x) as (λ b. beats side (stamp_of (if b then with_usn x usn else x)) y ≡ beats side (stamp_of x) y) [ true ↦ beats_numberless side x y usn | false ↦ refl ]

again : (usn : ℤ) (x : Option Row) → option_map (settled usn) (option_map (settled usn) x) ≡ option_map (settled usn) x
again usn None = refl
again usn (Some x) = ap (λ (r : Row). Some r) (settled_twice usn x)

received_settled : (side : Side) (usn : ℤ) (x y : Option Row) → option_map (settled usn) (received side usn (option_map (settled usn) x) y) ≡ option_map (settled usn) (received side usn x y)
received_settled side usn None y = refl
received_settled side usn (Some x) None = again usn (Some x)
received_settled side usn (Some x) (Some y) =
    ap (λ s. option_map (settled usn) (if s then Some (with_usn y usn) else Some (settled usn x))) (beats_settled side usn x y)
    ∙ elim (beats side (stamp_of x) y) as (λ s. option_map (settled usn) (if s then Some (with_usn y usn) else Some (settled usn x)) ≡ option_map (settled usn) (if s then Some (with_usn y usn) else Some x)) [
      | true ↦ refl
      | false ↦ again usn (Some x)
    ]

row_settled : (side : Side) (usn : ℤ) (x g y h : Option Row) → option_map (settled usn) (received_by side usn (option_map (settled usn) x) g y h) ≡ option_map (settled usn) (received_by side usn x g y h)
row_settled side usn x g y (Some h) = refl
row_settled side usn x (Some g) y None = again usn x
row_settled side usn x None y None = received_settled side usn x y

grave_settled : (side : Side) (usn : ℤ) (x g y h : Option Row) → received_by side usn x (option_map (settled usn) g) y h ≡ received_by side usn x g y h
grave_settled side usn x g y (Some h) = refl
grave_settled side usn x (Some g) y None = refl
grave_settled side usn x None y None = refl

settled_cell : (side : Side) (usn : ℤ) (x early g early_grave y h : Option Row) → MaySettled usn x early → MaySettled usn g early_grave
    → option_map (settled usn) (received_by side usn early early_grave y h) ≡ option_map (settled usn) (received_by side usn x g y h)
settled_cell side usn x early g early_grave y h row grave =
    elim grave [
      | inl is ↦ ap (λ e. option_map (settled usn) (received_by side usn early e y h)) is
      | inr is ↦ ap (λ e. option_map (settled usn) (received_by side usn early e y h)) is ∙ ap (option_map (settled usn)) (grave_settled side usn early g y h)
    ]
    ∙ elim row [
      | inl is ↦ ap (λ e. option_map (settled usn) (received_by side usn e g y h)) is
      | inr is ↦ ap (λ e. option_map (settled usn) (received_by side usn e g y h)) is ∙ row_settled side usn x g y h
    ]

graves_early : (usn : ℤ) (at early : RowsByName) (name : Name) (graves : Option Table) → IsPartSettled usn at early → MaySettled usn (grave_in at name graves) (grave_in early name graves)
graves_early usn at early name None part = inl refl
graves_early usn at early name (Some graves) part = part (record { table = graves; id = name.id })

-- what is settled in the end is the same
pub settled_first : (side : Side) (usn : ℤ) (came : List Row) (held early : Rows) → IsPartSettled usn (get held) (get early)
    → (name : Name) → option_map (settled usn) (get (all_taken side usn came early) name) ≡ option_map (settled usn) (get (all_taken side usn came held) name)
settled_first side usn came held early part name =
    ap (option_map (settled usn)) (all_taken_at side usn came early name)
    ∙ settled_cell side usn (get held name) (get early name) (grave_under (get held) name) (grave_under (get early) name) (newest_in side came name) (grave_under (newest_in side came) name)
    (part name) (graves_early usn (get held) (get early) name (graves_of name.table) part)
    ∙ sym (ap (option_map (settled usn)) (all_taken_at side usn came held name))

settled_no_more : (usn : ℤ) (x row : Row) → pos 0 ≤ℤ usn → settled usn x ≡ row → IsTrue (is_pending row) → ⊥
settled_no_more usn x row low is pending =
    elim (is_pending x) as (λ b. is_pending x ≡ b → (if b then with_usn x usn else x) ≡ row → ⊥) [
      | true ↦ λ _ is.
          let one : usn_of row ≡ negsuc 0 = (signed_Decides (usn_of row) (negsuc 0)).0 pending in
          let two = usn_of-with_usn x usn in
          let three : usn_of (with_usn x usn) ≡ usn_of row = ap usn_of is in
          omega (arith, ints, one, two, three, low)
      | false ↦ λ sent is. subst T (sym (ap is_pending is ∙ pending) ∙ sent) tt
    ] refl is

early_held : (usn : ℤ) (x early : Option Row) (row : Row) → pos 0 ≤ℤ usn → MaySettled usn x early → early ≡ Some row → IsTrue (is_pending row) → x ≡ Some row
early_held usn x early row low (inl same) is pending = sym same ∙ is
early_held usn None early row low (inr same) is pending = absurd (none-some row (sym same ∙ is))
early_held usn (Some x) early row low (inr same) is pending = absurd (settled_no_more usn x row low (same_Some (settled usn x) row (sym same ∙ is)) pending)

-- what is left to settle was held and not sent yet
pub pending_left : (side : Side) (usn : ℤ) (came : List Row) (held early : Rows) (name : Name) (row : Row) → pos 0 ≤ℤ usn → IsPartSettled usn (get held) (get early)
    → get (all_taken side usn came early) name ≡ Some row → IsTrue (is_pending row) → get held name ≡ Some row
pending_left side usn came held early name row low part is pending =
    early_held usn (get held name) (get early name) row low (part name) (pending_was_held side usn came early name row low is pending) pending
