-- Payloads that are read one after the other.
use Rattle.std.proofs.Common.{◌≡◌, ℕ, suc, ◌+◌, ◌<◌, ◌≤◌, List, [], ◌∷◌, ◌++◌, map, length, take, drop, get_or, Vec, refl, sym, ap, ◌∙◌, subst, drop-cons, add-one, arith}
use Rattle.std.proofs.lemmas.List.{length-map, length-take, map-append, take-append-drop, take_more}
use Rattle.std.specs.declared.alloc.Global.{Global}
use Rattle.std.specs.Prelude.{Result, Err}
use Rattle.ak_journal_folds.specs.declared.folds.FoldFault.{FoldFault}
use Rattle.ak_journal_folds.specs.declared.folds.FoldFault.TheVariants.{NotOfForm}
use Rattle.ak_journal_folds.specs.Folds.{IsFirstOther}
use Rattle.ak_base.specs.Bytes.{bytes_of_each}
use Rattle.ak_journal_rows.proofs.Folds.{one_more}
use Rattle.ak_journal_rows.specs.Changes.{after_change, nothing_held}
use Rattle.ak_journal_rows.specs.Texts.{IsPayloadOf, LeadTo}
use Rattle.ak_journal_rows.specs.declared.changes.Change.{Change}
use Rattle.ak_journal_rows.specs.declared.faults.ChangeFault.{ChangeFault}
use Rattle.ak_journal_rows.specs.declared.faults.ChangeFault.TheVariants as changes
use Rattle.ak_keep.specs.Collections.{Holding}

abbrev Payload : Type 0
Payload = Vec ℕ Global

-- one payload more
more : (payloads : List Payload) (i : ℕ) (payload : Payload) → i < length payloads → payload ≡ get_or payloads i payload
    → bytes_of_each (take (i + 1) payloads) ≡ bytes_of_each (take i payloads) ++ payload.items ∷ []
more payloads i payload within is =
    ap bytes_of_each (take_more payloads i payload within ∙ ap (λ (last : Payload). take i payloads ++ last ∷ []) (sym is))
    ∙ map-append (λ (p : Payload). p.items) (take i payloads) (payload ∷ [])

-- a payload that is read leads on
pub led_on : (payloads : List Payload) (i : ℕ) (payload : Payload) (change : Change) (held now : Holding) → i < length payloads → payload ≡ get_or payloads i payload
    → LeadTo nothing_held (bytes_of_each (take i payloads)) held → IsPayloadOf payload.items change → now ≡ after_change change held
    → LeadTo nothing_held (bytes_of_each (take (i + 1) payloads)) now
led_on payloads i payload change held now within is led of made =
    subst (λ (these : List (List ℕ)). LeadTo nothing_held these now) (sym (more payloads i payload within is))
    (subst (λ (end : Holding). LeadTo nothing_held (bytes_of_each (take i payloads) ++ payload.items ∷ []) end) (sym made) (one_more (bytes_of_each (take i payloads)) payload.items change nothing_held held led of))

-- the payloads before one, it, and those behind it
around : (payloads : List Payload) (i : ℕ) (payload : Payload) → i < length payloads → payload ≡ get_or payloads i payload
    → bytes_of_each payloads ≡ bytes_of_each (take i payloads) ++ payload.items ∷ bytes_of_each (drop (suc i) payloads)
around payloads i payload within is =
    ap bytes_of_each (sym (take-append-drop i payloads) ∙ ap (λ (rest : List Payload). take i payloads ++ rest) (drop-cons payloads i payload within ∙ ap (λ (first : Payload). first ∷ drop (suc i) payloads) (sym is)))
    ∙ map-append (λ (p : Payload). p.items) (take i payloads) (payload ∷ drop (suc i) payloads)

before_length : (payloads : List Payload) (i : ℕ) → i < length payloads → length (bytes_of_each (take i payloads)) ≡ i
before_length payloads i within =
    length-map (take i payloads) (λ (p : Payload). p.items) ∙ (length-take i payloads ∙ omega arith)

-- a payload that is that of no change is told by its place
pub first_other : (payloads : List Payload) (i place : ℕ) (payload : Payload) (held : Holding) → i < length payloads → payload ≡ get_or payloads i payload → i ≡ place
    → LeadTo nothing_held (bytes_of_each (take i payloads)) held → ((change : Change) → IsPayloadOf payload.items change → ⊥) → IsFirstOther place (bytes_of_each payloads)
first_other payloads i place payload held within is same led other = record {
  before = bytes_of_each (take i payloads);
  payload = payload.items;
  behind = bytes_of_each (drop (suc i) payloads);
  at = before_length payloads i within ∙ same;
  whole = around payloads i payload within is;
  held = held;
  led = led;
  other = other;
}

-- two faults that are equal tell one place
pub place_told : {T : Type 0} (one other : ℕ) → ◌≡◌ {A = Result T FoldFault} (Err (NotOfForm one)) (Err (NotOfForm other)) → one ≡ other
place_told one other is = cc

-- a payload that is not of the form is not refused because memory ran out
pub not_memory : (fault : ChangeFault) → fault ≡ changes.NotOfForm → fault ≡ changes.Memory → ⊥
not_memory fault one other = cc
