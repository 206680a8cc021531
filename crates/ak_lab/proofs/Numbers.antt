-- The numbers of a line as the program has them, and what its functions tell of the line.
use Rattle.std.proofs.Common.{◌≡◌, ◌≤◌, ℕ, ℤ, pos, negsuc, SFits, w64, to_z, of_z, List, Result, Ok, Err, IfOk, sym, ap, subst, arith}
use Rattle.std.proofs.lemmas.Int.{ints, to_z-of_z}
use Rattle.ak_base.specs.Heads.{IsWithin}
use Rattle.ak_lab.specs.LabStates.{IsReady, LabState}
use Rattle.ak_lab.specs.LineStops.{CameOut}
use Rattle.ak_lab_lines.specs.Written.{IsLabLine}
use Rattle.ak_lab_lines.specs.declared.lab_lines.LabLine.{LabLine}
use Rattle.ak_lab_lines.specs.declared.lab_lines.LabLine.TheVariants as lines
use Rattle.ak_line_runs.specs.LinePrints.{printed_by}
use Rattle.ak_line_runs.specs.declared.line_prints.LinePrint.{LinePrint}
use Rattle.ak_line_runs.specs.declared.line_stops.LineStop.{LineStop}

-- a number from 0 on
from_zero_fits : (low high : ℕ) (n : ℤ) → high ≤ 9_223_372_036_854_775_807 → IsWithin (pos low) (pos high) n → SFits w64 n
from_zero_fits low high (pos n) most is = let above = is.high in record { sfits = omega (arith, ints, above, most) }
from_zero_fits low high (negsuc n) most is = let below = is.low in absurd (omega (arith, ints, below))

-- a number with a sign
signed_fits : (n : ℤ) → IsWithin (negsuc 9_223_372_036_854_775_807) (pos 9_223_372_036_854_775_807) n → SFits w64 n
signed_fits (pos n) is = let above = is.high in record { sfits = omega (arith, ints, above) }
signed_fits (negsuc n) is = let below = is.low in record { sfits = omega (arith, ints, below) }

-- ---- what a line came to
pub clock_came : (at : ℤ) (said : LabLine) (s t : LabState) (result : Result (List (List ℕ)) LineStop) → said ≡ lines.Clock at → IsLabLine said
    → CameOut (lines.Clock (to_z w64 (of_z w64 at))) s t result → CameOut said s t result
clock_came at said s t result is line came =
    let fits = from_zero_fits 0 9_223_372_036_854_775_807 at (omega arith) (subst IsLabLine is line) in
    subst (λ (l : LabLine). CameOut l s t result) (sym is)
    (subst (λ (x : ℤ). CameOut (lines.Clock x) s t result) (to_z-of_z w64 at fits) came)

pub shift_came : (name : List ℕ) (by : ℤ) (said : LabLine) (s t : LabState) (result : Result (List (List ℕ)) LineStop) → said ≡ lines.Shift name by → IsLabLine said
    → CameOut (lines.Shift name (to_z w64 (of_z w64 by))) s t result → CameOut said s t result
shift_came name by said s t result is line came =
    let parts = subst IsLabLine is line in
    subst (λ (l : LabLine). CameOut l s t result) (sym is)
    (subst (λ (x : ℤ). CameOut (lines.Shift name x) s t result) (to_z-of_z w64 by (signed_fits by parts.1)) came)

pub review_came : (name : List ℕ) (card ease : ℤ) (count : ℕ) (said : LabLine) (s t : LabState) (result : Result (List (List ℕ)) LineStop)
    → said ≡ lines.Review name card ease count → IsLabLine said
    → CameOut (lines.Review name (to_z w64 (of_z w64 card)) (to_z w64 (of_z w64 ease)) count) s t result → CameOut said s t result
review_came name card ease count said s t result is line came =
    let parts = subst IsLabLine is line in
    let card_is = to_z-of_z w64 card (from_zero_fits 1 9_007_199_254_740_991 card (omega arith) parts.1.id) in
    let ease_is = to_z-of_z w64 ease (from_zero_fits 1 4 ease (omega arith) parts.1.button) in
    subst (λ (l : LabLine). CameOut l s t result) (sym is)
    (subst (λ (x : ℤ). CameOut (lines.Review name card x count) s t result) ease_is
    (subst (λ (x : ℤ). CameOut (lines.Review name x (to_z w64 (of_z w64 ease)) count) s t result) card_is came))

-- a line that prints lines came to what its function says
pub lines_came : (said own : LabLine) (s t : LabState) (came : Result (List (List ℕ)) LineStop) (shown : Result LinePrint LineStop) → said ≡ own → printed_by shown ≡ came
    → CameOut own s t came → CameOut said s t (printed_by shown)
lines_came said own s t came shown is same ends =
    subst (λ (l : LabLine). CameOut l s t (printed_by shown)) (sym is) (subst (λ (r : Result (List (List ℕ)) LineStop). CameOut own s t r) (sym same) ends)

-- and a lab that is ready after it is so
pub lines_ready : (s : LabState) (came : Result (List (List ℕ)) LineStop) (shown : Result LinePrint LineStop) → printed_by shown ≡ came → IfOk came (λ printed. IsReady s)
    → IfOk shown (λ printed. IsReady s)
lines_ready s came (Ok print) same ready = subst (λ (r : Result (List (List ℕ)) LineStop). IfOk r (λ printed. IsReady s)) (sym same) ready
lines_ready s came (Err stop) same ready = tt

-- a lab that is ready is so whatever the line came to
pub ready_then : {Printed : Type 0} (result : Result Printed LineStop) (s : LabState) → IsReady s → IfOk result (λ printed. IsReady s)
ready_then (Ok printed) s is = is
ready_then (Err stop) s is = tt
