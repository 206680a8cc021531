-- What a keeper over tables keeps true in each call.
use Rattle.std.specs.Prelude.{◌≡◌, ℕ, Bool, true, false, T, Option, Some, None, is_some, IfSome, List, [], Result, Ok, Err, OnOk, OnErr, option_map}
use Rattle.std.proofs.Common.{refl, sym, ap, subst, ◌∙◌}
use Rattle.std.specs.Option.{unwrap_or}
use Rattle.ak_faults.specs.Calls.{is_named}
use Rattle.ak_base.specs.declared.heads.Head.{Head}
use Rattle.ak_keep.specs.Collections.{Holding, Rows, is_headed}
use Rattle.ak_keep.specs.Keepers.{all_known, is_marked}
use Rattle.ak_keep.specs.Marks as marks
use Rattle.ak_keep.specs.MemoryKeepers.{MemoryState, answer_of, called, called_with, is_to_fail}
use Rattle.ak_keep.specs.declared.keepers.KeepFault.{KeepFault}
use Rattle.ak_tables.proofs.Covering.{covers-nothing}
use Rattle.ak_tables.specs.Tables.{Covers, IsConsistent, holding, last_kept}
use Rattle.ak_tables.specs.declared.touched.Touched.{Touched}

pub if-some : {X : Type 0} (o : Option X) (P Q : X → Type 0) → ((x : X) → P x → Q x) → IfSome o P → IfSome o Q
if-some None P Q f h = tt
if-some (Some x) P Q f h = f x h

-- marked keepers have a mark, and others none
some-marked : (mark : Option Holding) → is_some (option_map is_headed mark) ≡ true → is_some mark ≡ true
some-marked None is = absurd (subst T (sym is) tt)
some-marked (Some m) is = refl

last-marked : (mark : Option Holding) (one other : Holding) → is_some (option_map is_headed mark) ≡ true → unwrap_or mark one ≡ unwrap_or mark other
last-marked None one other is = absurd (subst T (sym is) tt)
last-marked (Some m) one other is = refl

pub last-unmarked : (mark : Option Holding) (current : Holding) → is_some (option_map is_headed mark) ≡ false → unwrap_or mark current ≡ current
last-unmarked None current is = refl
last-unmarked (Some m) current is = absurd (subst T is tt)

-- a call that changed nothing, and perhaps touched more
pub consistent-called : (m : MemoryState) (stores : Holding → Type 0) (ready : Bool) (leaves : Holding → Type 0) (t more : Touched) → IsConsistent m stores ready leaves t
    → ((was : Holding) → Covers t was m.kept.current → Covers more was m.kept.current) → IsConsistent (called m) stores ready leaves more
consistent-called m stores ready leaves t more h covered = record {
  obeys = h.obeys;
  same = h.same;
  ready = h.ready;
  lasts = h.lasts;
  covers = if-some m.kept.mark (λ was. Covers t was m.kept.current) (λ was. Covers more was m.kept.current) covered h.covers;
}

-- a change, and what was touched by it
pub consistent-changed : (step : Holding → Holding) (m : MemoryState) (stores : Holding → Type 0) (ready : Bool) (leaves : Holding → Type 0) (t more : Touched) → is_marked (all_known m.kept) ≡ true
    → IsConsistent m stores ready leaves t → ((was : Holding) → Covers t was m.kept.current → Covers more was (step m.kept.current))
    → IsConsistent (called_with (marks.changed step) m) stores ready leaves more
consistent-changed step m stores ready leaves t more marked h covered = record {
  obeys = h.obeys;
  same = subst stores (last-marked m.kept.mark m.kept.current (step m.kept.current) marked) h.same;
  ready = h.ready;
  lasts = λ is. subst leaves (last-marked m.kept.mark m.kept.current (step m.kept.current) marked) (h.lasts is);
  covers = if-some m.kept.mark (λ was. Covers t was m.kept.current) (λ was. Covers more was (step m.kept.current)) covered h.covers;
}

-- a change that may be refused
pub consistent-after : (step : Holding → Holding) (m now : MemoryState) (stores : Holding → Type 0) (ready : Bool) (leaves : Holding → Type 0) (t more : Touched) (result : Result (Unit {0}) KeepFault)
    → is_marked (all_known m.kept) ≡ true → IsConsistent m stores ready leaves t
    → ((was : Holding) → Covers t was m.kept.current → Covers more was (step m.kept.current))
    → ((was : Holding) → Covers t was m.kept.current → Covers more was m.kept.current)
    → OnOk result (now ≡ called_with (marks.changed step) m) → OnErr result (now ≡ called m) → IsConsistent now stores ready leaves more
consistent-after step m now stores ready leaves t more (Ok done) marked h covered same ok err =
    subst (λ state. IsConsistent state stores ready leaves more) (sym ok) (consistent-changed step m stores ready leaves t more marked h covered)
consistent-after step m now stores ready leaves t more (Err fault) marked h covered same ok err =
    subst (λ state. IsConsistent state stores ready leaves more) (sym err) (consistent-called m stores ready leaves t more h same)

unmarked-some : (mark : Option Holding) → is_some (option_map is_headed mark) ≡ false → is_some mark ≡ true → (P : Type 0) → P
unmarked-some None unmarked is P = absurd (subst T (sym is) tt)
unmarked-some (Some m) unmarked is P = absurd (subst T unmarked tt)

-- the tables were called while it was not marked, and store what they stored
pub consistent-unready : (m : MemoryState) (stores now : Holding → Type 0) (ready ready_now : Bool) (leaves leaves_now : Holding → Type 0) (t : Touched) → is_marked (all_known m.kept) ≡ false
    → IsConsistent m stores ready leaves t → ((held : Holding) → stores held → now held) → IsConsistent m now ready_now leaves_now t
consistent-unready m stores now ready ready_now leaves leaves_now t unmarked h still = record {
  obeys = h.obeys;
  same = still (last_kept m.kept) h.same;
  ready = λ is. unmarked-some m.kept.mark unmarked is (ready_now ≡ true);
  lasts = λ is. unmarked-some m.kept.mark unmarked is (leaves_now (last_kept m.kept));
  covers = h.covers;
}

-- marked at what is stored, over tables that are ready
pub consistent-marked : (m : MemoryState) (stores now : Holding → Type 0) (ready ready_now : Bool) (leaves leaves_now : Holding → Type 0) (t : Touched) → is_marked (all_known m.kept) ≡ false
    → IsConsistent m stores ready leaves t → ((held : Holding) → stores held → now held) → ready_now ≡ true → ((held : Holding) → now held → leaves_now held)
    → IsConsistent (called_with marks.marked_here m) now ready_now leaves_now (record { names = []; head = false; whole = false })
consistent-marked m stores now ready ready_now leaves leaves_now t unmarked h still is_ready lasts =
    let stored : now m.kept.current = still m.kept.current (subst stores (last-unmarked m.kept.mark m.kept.current unmarked) h.same) in
    record {
      obeys = h.obeys;
      same = stored;
      ready = λ is. is_ready;
      lasts = λ is. lasts m.kept.current stored;
      covers = covers-nothing m.kept.current;
    }

-- not marked, and what the tables store is kept
pub consistent-unmarked : (m : MemoryState) (now : Holding → Type 0) (ready_now : Bool) (leaves_now : Holding → Type 0) (t : Touched) → m.fails ≡ [] → m.kept.mark ≡ None → now m.kept.current
    → IsConsistent m now ready_now leaves_now t
consistent-unmarked m now ready_now leaves_now t obeys none stored = record {
  obeys = obeys;
  same = subst (λ (mark : Option Holding). now (unwrap_or mark m.kept.current)) (sym none) stored;
  ready = subst (λ (mark : Option Holding). is_some mark ≡ true → ready_now ≡ true) (sym none) (λ is. absurd (subst T (sym is) tt));
  lasts = subst (λ (mark : Option Holding). is_some mark ≡ true → leaves_now (unwrap_or mark m.kept.current)) (sym none) (λ is. absurd (subst T (sym is) tt));
  covers = subst (λ (mark : Option Holding). IfSome mark (λ was. Covers t was m.kept.current)) (sym none) tt;
}

-- back at what is stored
pub consistent-back : (m : MemoryState) (stores now : Holding → Type 0) (ready ready_now : Bool) (leaves leaves_now : Holding → Type 0) (t : Touched) → IsConsistent m stores ready leaves t
    → ((held : Holding) → stores held → now held) → IsConsistent (record m { kept = marks.back m.kept }) now ready_now leaves_now t
consistent-back m stores now ready ready_now leaves leaves_now t h still =
    consistent-unmarked (record m { kept = marks.back m.kept }) now ready_now leaves_now t h.obeys refl (still (last_kept m.kept) h.same)

-- a keeper in memory that is told no call to fail keeps what is stored
pub consistent-kept : (m state : MemoryState) (now : Holding → Type 0) (ready_now : Bool) (leaves_now : Holding → Type 0) (t : Touched) (result : Result (Unit {0}) KeepFault) → m.fails ≡ []
    → result ≡ answer_of (is_to_fail m) tt → OnOk result (state ≡ called_with marks.committed m) → now m.kept.current
    → IsConsistent state now ready_now leaves_now t
consistent-kept m state now ready_now leaves_now t result obeys answer ok stored =
    subst (λ (s : MemoryState). IsConsistent s now ready_now leaves_now t)
    (sym (subst (λ (r : Result (Unit {0}) KeepFault). OnOk r (state ≡ called_with marks.committed m)) (answer ∙ ap (λ (fails : List ℕ). answer_of (is_named m.calls fails) tt) obeys) ok))
    (consistent-unmarked (called_with marks.committed m) now ready_now leaves_now t obeys refl stored)

-- what may be written: what was touched covers how what is held differs from what is stored
pub written-covers : (m : MemoryState) (stores : Holding → Type 0) (ready : Bool) (leaves : Holding → Type 0) (t : Touched) → is_marked (all_known m.kept) ≡ true → IsConsistent m stores ready leaves t
    → Covers t (last_kept m.kept) m.kept.current
written-covers m stores ready leaves t marked h = from-mark m.kept.mark h.covers marked
  where
    from-mark : (mark : Option Holding) → IfSome mark (λ was. Covers t was m.kept.current) → is_some (option_map is_headed mark) ≡ true → Covers t (unwrap_or mark m.kept.current) m.kept.current
    from-mark None h is = absurd (subst T (sym is) tt)
    from-mark (Some was) h is = h

-- and the tables are ready for it
pub written-ready : (m : MemoryState) (stores : Holding → Type 0) (ready : Bool) (leaves : Holding → Type 0) (t : Touched) → is_marked (all_known m.kept) ≡ true → IsConsistent m stores ready leaves t
    → ready ≡ true
written-ready m stores ready leaves t marked h = h.ready (some-marked m.kept.mark marked)

-- a crash before it leaves what is stored
pub written-lasts : (m : MemoryState) (stores : Holding → Type 0) (ready : Bool) (leaves : Holding → Type 0) (t : Touched) → is_marked (all_known m.kept) ≡ true → IsConsistent m stores ready leaves t
    → leaves (last_kept m.kept)
written-lasts m stores ready leaves t marked h = h.lasts (some-marked m.kept.mark marked)

-- rows and a head that are those that are held
pub holding-same : (rows : Rows) (head : Option Head) (held : Holding) → rows ≡ held.rows → head ≡ held.head → holding rows head ≡ held
holding-same rows head held same_rows same_head = λ i. record { rows = same_rows i; head = same_head i }

pub on-ok : {X Y A E : Type 0} (r : Result A E) → (X → Y) → OnOk r X → OnOk r Y
on-ok (Ok value) f h = f h
on-ok (Err fault) f h = tt
