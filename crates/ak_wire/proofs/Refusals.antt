-- The first fault of what is read in turn.
use Rattle.std.proofs.Common.{◌≡◌, ◌⊎◌, inl, inr, Option, Some, None, Result, Ok, Err, IfErr, IsErrAnd, sym, subst}
use Rattle.std.specs.Option.{option_or}
use Rattle.serde_json.specs.Data.{Data}
use Rattle.ak_wire.specs.Faults.{OrMemory, Is, First, Then}
use Rattle.ak_wire.specs.declared.wire_faults.WireFault.{WireFault}
use Rattle.ak_wire.specs.declared.wire_faults.WireFault.TheVariants.{Json, TooManyRows, RowOrder, Memory}

-- the fault that `?` hands on
pub err_was : {T E : Type 0} {Q P : E → Type 0} (r : Result T E) → IsErrAnd r Q → ((e : E) → Q e → P e) → IfErr r P
err_was (Ok x) h n = absurd h
err_was (Err e) h n = n e h

-- faults of one kind are of another
pub each_is : (these those : WireFault → Type 0) → ((fault : WireFault) → these fault → those fault) → (fault : WireFault) → OrMemory these fault → OrMemory those fault
each_is these those goes (Json json) h = goes (Json json) h
each_is these those goes (TooManyRows entries) h = goes (TooManyRows entries) h
each_is these those goes (RowOrder table) h = goes (RowOrder table) h
each_is these those goes Memory h = tt

is_of_both : (o others : Option WireFault) (fault : WireFault) → Is o fault → Is (option_or o others) fault
is_of_both None others fault h = absurd h
is_of_both (Some first) others fault h = h

is_of_first : (o : Option WireFault) (others : WireFault → Type 0) (fault : WireFault) → Is o fault → First o others fault
is_of_first None others fault h = absurd h
is_of_first (Some first) others fault h = h

-- the first of two faults
pub or_first : (o others : Option WireFault) (fault : WireFault) → OrMemory (Is o) fault → OrMemory (Is (option_or o others)) fault
or_first o others = each_is (Is o) (Is (option_or o others)) (is_of_both o others)

-- the second of two, where the first is none
pub or_later : (o others : Option WireFault) (fault : WireFault) → o ≡ None → OrMemory (Is others) fault → OrMemory (Is (option_or o others)) fault
or_later o others fault none h = subst (λ x. OrMemory (Is (option_or x others)) fault) (sym none) h

-- the fault of a form
pub form_first : (o : Option WireFault) (others : WireFault → Type 0) (fault : WireFault) → OrMemory (Is o) fault → OrMemory (First o others) fault
form_first o others = each_is (Is o) (First o others) (is_of_first o others)

-- a fault of what follows a form
pub form_later : (o : Option WireFault) (others : WireFault → Type 0) (fault : WireFault) → o ≡ None → OrMemory others fault → OrMemory (First o others) fault
form_later o others fault none h = subst (λ x. OrMemory (First x others) fault) (sym none) h

-- a fault of what is read first
pub then_first : {A : Type 0} (these : WireFault → Type 0) (reads : A → Type 0) (others : WireFault → Type 0) (fault : WireFault)
    → OrMemory these fault → OrMemory (Then these reads others) fault
then_first these reads others = each_is these (Then these reads others) (λ fault h. inl h)

-- a fault of what is read after that
pub then_later : {A : Type 0} (these : WireFault → Type 0) (reads : A → Type 0) (others : WireFault → Type 0) (fault : WireFault) (first : A)
    → reads first → OrMemory others fault → OrMemory (Then these reads others) fault
then_later these reads others fault first is = each_is others (Then these reads others) (λ fault h. inr ((first, is), h)) fault

-- the fault of a form that `?` hands on
pub form_was : (o : Option WireFault) (others : WireFault → Type 0) (fault was : WireFault) → fault ≡ was → OrMemory (Is o) was → OrMemory (First o others) fault
form_was o others fault was same h = subst (λ x. OrMemory (First o others) x) (sym same) (form_first o others was h)

-- a fault of what stands inside an object of its form
pub inner_was : (o : Option WireFault) (others : Data → WireFault → Type 0) (d e : Data) (fault was : WireFault) → o ≡ None → e ≡ d → fault ≡ was → OrMemory (others e) was
    → OrMemory (First o (others d)) fault
inner_was o others d e fault was none is same h =
    subst (λ x. OrMemory (First o (others d)) x) (sym same) (form_later o (others d) was none (subst (λ (v : Data). OrMemory (others v) was) is h))
