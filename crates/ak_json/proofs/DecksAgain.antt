-- What was written of a deck in its ranges is read again.
use Rattle.std.proofs.Common.{◌≡◌, ℕ, ℤ, pos, negsuc, List, [], Bool, true, false, Option, Some, None, Ok, refl, sym, ap, ◌∙◌, arith}
use Rattle.ak_base.proofs.Optional.{first_none, second_none}
use Rattle.std.specs.Prelude.{unwrap_or, option_and_then}
use Rattle.std.specs.Ordering.{int_eq}
use Rattle.serde_json.specs.Data.{Data, string}
use Rattle.serde_json.specs.Find.{as_str, at}
use Rattle.ak_base.specs.Columns.{code_fault, first_fault}
use Rattle.ak_base.specs.Decks.{deck_faults, title_faults, taken_faults}
use Rattle.ak_base.specs.declared.decks.Count.{Count}
use Rattle.ak_base.specs.declared.decks.Deck.{Deck}
use Rattle.ak_json.specs.Cells.{cell_at, integer_at, text_at, count_at}
use Rattle.ak_json.specs.Decks.{IsDeck, deck_cells, deck_json}
use Rattle.ak_json.specs.Kinds.{integer_of, holds}
use Rattle.ak_json.specs.Members.{Form}
use Rattle.ak_json.specs.Objects.{object_form_fault}
use Rattle.ak_json.specs.Rests.{rest_text, deep_key}
use Rattle.ak_json.specs.Written.{integer, bit, pair}
use Rattle.ak_json.specs.Forms.{deck_form}
use Rattle.ak_json.specs.declared.kinds.Kind.TheVariants as kinds
use Rattle.ak_json.proofs.Again.{IsReadAgain, AllNone, all_none, id_again, stamp_again, code_again}
use Rattle.ak_json.proofs.ObjectForms.{AllFound, all_hold, IsObjectAgain, object_again}

pub whole_found : (form : Form) (n : ℕ) (d : Data) (z : ℤ) → cell_at form n d ≡ Some (integer z) → IsReadAgain z → z ≡ integer_at form n d
whole_found form n d z e r = sym (ap (λ (o : Option Data). unwrap_or (option_and_then integer_of o) (pos 0)) e ∙ ap (λ (o : Option ℤ). unwrap_or o (pos 0)) r)

pub words_found : (form : Form) (n : ℕ) (d : Data) (t : List ℕ) → cell_at form n d ≡ Some (string t) → t ≡ text_at form n d
words_found form n d t e = sym (ap (λ (o : Option Data). unwrap_or (option_and_then as_str o) []) e)

pub part_found : (form : Form) (n place : ℕ) (d cell : Data) (z : ℤ) → cell_at form n d ≡ Some cell → at place cell ≡ Some (integer z) → IsReadAgain z
    → unwrap_or (option_and_then integer_of (option_and_then (at place) (cell_at form n d))) (pos 0) ≡ z
part_found form n place d cell z e i r =
    ap (λ (o : Option Data). unwrap_or (option_and_then integer_of (option_and_then (at place) o)) (pos 0)) e
    ∙ (ap (λ (o : Option Data). unwrap_or (option_and_then integer_of o) (pos 0)) i ∙ ap (λ (o : Option ℤ). unwrap_or o (pos 0)) r)

count_found : (form : Form) (n : ℕ) (d : Data) (c : Count) → cell_at form n d ≡ Some (pair c) → IsReadAgain c.day → IsReadAgain c.count → c ≡ count_at form n d
count_found form n d c e day number =
    let first = part_found form n 0 d (pair c) c.day e refl day in
    let second = part_found form n 1 d (pair c) c.count e refl number in
    sym (ap (λ (z : ℤ). record { day = z; count = unwrap_or (option_and_then integer_of (option_and_then (at 1) (cell_at form n d))) (pos 0) }) first
    ∙ ap (λ (z : ℤ). record { day = c.day; count = z }) second)

pub bit_found : (form : Form) (n : ℕ) (d : Data) (b : Bool) → cell_at form n d ≡ Some (bit b) → b ≡ int_eq (integer_at form n d) (pos 1)
bit_found form n d true e = sym (ap (λ (o : Option Data). int_eq (unwrap_or (option_and_then integer_of o) (pos 0)) (pos 1)) e)
bit_found form n d false e = sym (ap (λ (o : Option Data). int_eq (unwrap_or (option_and_then integer_of o) (pos 0)) (pos 1)) e)

pub bit_holds : (b : Bool) → holds (kinds.Within (pos 0) (pos 1)) (bit b) ≡ true
bit_holds true = refl
bit_holds false = refl

-- the numbers of a deck are read as they were written
record AreRead (k : Deck) : Type 0 where
  id : IsReadAgain k.id
  stamp : IsReadAgain k.stamp
  usn : IsReadAgain k.usn
  options : IsReadAgain k.options
  new_day : IsReadAgain k.new_today.day
  new_count : IsReadAgain k.new_today.count
  rev_day : IsReadAgain k.rev_today.day
  rev_count : IsReadAgain k.rev_today.count

are_read : (k : Deck) → AllNone (deck_faults k) → AreRead k
unfolding title_faults taken_faults
are_read k all =
    let new = all.1.1.1.1.1.0 in
    let rev = all.1.1.1.1.1.1.0 in
    record {
      id = id_again k.id all.0;
      stamp = stamp_again k.stamp all.1.0;
      usn = code_again 2 2_147_483_647 k.usn (negsuc 0) (omega arith) all.1.1.0;
      options = id_again k.options all.1.1.1.1.0;
      new_day = code_again 6 100_000_000 k.new_today.day (negsuc 9_999_999) (omega arith) (first_none _ (code_fault 6 k.new_today.count (pos 0) (pos 2_147_483_647)) new);
      new_count = code_again 6 2_147_483_647 k.new_today.count (pos 0) (omega arith) (second_none (code_fault 6 k.new_today.day (negsuc 9_999_999) (pos 100_000_000)) _ new);
      rev_day = code_again 7 100_000_000 k.rev_today.day (negsuc 9_999_999) (omega arith) (first_none _ (code_fault 7 k.rev_today.count (pos 0) (pos 2_147_483_647)) rev);
      rev_count = code_again 7 2_147_483_647 k.rev_today.count (pos 0) (omega arith) (second_none (code_fault 7 k.rev_today.day (negsuc 9_999_999) (pos 100_000_000)) _ rev);
    }

deck_holds : (k : Deck) → AreRead k → all_hold deck_form (deck_cells k) ≡ true
deck_holds k r = rw (r.id, r.stamp, r.usn, bit_holds k.filtered, r.options, r.new_day, r.new_count, r.rev_day, r.rev_count) refl

deck_found : (k : Deck) (d : Data) → AllFound deck_form (deck_cells k) d → AreRead k → k.rest.text ≡ rest_text deck_form d → IsDeck d k
deck_found k d f r rest =
    record {
      id = whole_found deck_form 0 d k.id f.0 r.id;
      stamp = whole_found deck_form 1 d k.stamp f.1.0 r.stamp;
      usn = whole_found deck_form 2 d k.usn f.1.1.0 r.usn;
      name = words_found deck_form 3 d k.name f.1.1.1.0;
      options = whole_found deck_form 4 d k.options f.1.1.1.1.0 r.options;
      filtered = bit_found deck_form 5 d k.filtered f.1.1.1.1.1.0;
      new_today = count_found deck_form 6 d k.new_today f.1.1.1.1.1.1.0 r.new_day r.new_count;
      rev_today = count_found deck_form 7 d k.rev_today f.1.1.1.1.1.1.1.0 r.rev_day r.rev_count;
      rest = rest;
    }

-- the object has the form, and its deck is the one that was written
pub record IsDeckAgain (k : Deck) : Type 0 where
  pub fault : object_form_fault deck_form (deck_json k) ≡ None
  pub deep : deep_key deck_form (deck_json k) ≡ None
  pub row : IsDeck (deck_json k) k

pub deck_again : (k : Deck) (good : Unit {0}) → first_fault (deck_faults k) ≡ Ok good → IsDeckAgain k
deck_again k good e =
    let r : AreRead k = are_read k (all_none (deck_faults k) good e) in
    let o : IsObjectAgain deck_form (deck_cells k) k.rest.text = object_again deck_form (deck_cells k) k.rest.text refl refl k.rest.unknown (deck_holds k r) in
    record {
      fault = o.fault;
      deep = o.deep;
      row = deck_found k (deck_json k) o.found r o.rest;
    }
