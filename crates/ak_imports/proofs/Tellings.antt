-- What a keeper tells of the collection that it holds, after rows and settings were put.
use Rattle.std.specs.Prelude.{◌≡◌, List, [], ◌∷◌, Option, Some, IfSome, Result, Ok, Err, OnOk}
use Rattle.std.proofs.Common.{sym, ap, subst, ◌∙◌}
use Rattle.std.proofs.lemmas.Option.{same_Some}
use Rattle.std.specs.FinMap.{insert}
use Rattle.std.specs.Option.{option_map}
use Rattle.ak_base.specs.Rows.{name_of}
use Rattle.ak_base.specs.declared.heads.Conf.{Conf}
use Rattle.ak_base.specs.declared.heads.Head.{Head}
use Rattle.ak_base.specs.declared.rows.Row.{Row}
use Rattle.ak_imports.specs.KeptRows.{Keeps, SetsConf, HoldsCollection, all_put, rows_with}
use Rattle.ak_keep.specs.Collections.{Collection, Holding, with_head, with_row}
use Rattle.ak_keep.specs.Keepers.{Keeping, WhereTold, head_set, put}
use Rattle.ak_keep.specs.Marks as marks
use Rattle.ak_keep.specs.Marks.{WithMark}

-- what is true where it is told is true of the collection
pub told_at : (k : Keeping) (c : Collection) (P : Holding → Type 0) → HoldsCollection k c → WhereTold k P → P (record { rows = c.rows; head = Some c.head })
told_at k c P tells is =
    subst P tells.current (subst (λ (o : Option (WithMark Holding)). IfSome o (λ w. P w.current)) tells.told is)

-- rows were put
pub rows_told : (made : List Row) (k : Keeping) (c : Collection) → HoldsCollection k c → HoldsCollection (all_put made k) (record { rows = rows_with made c.rows; head = c.head })
rows_told [] k c tells = tells
rows_told (row ∷ others) k c tells =
    rows_told others (put row k) (record { rows = insert c.rows (name_of row) row; head = c.head }) (record {
      both = marks.changed (with_row row) tells.both;
      told = ap (option_map (marks.changed (with_row row))) tells.told;
      current = ap (with_row row) tells.current;
    })

-- settings were put
sets : (k k_after : Keeping) (head : Head) (conf : Conf) (answer : Option Head) → WhereTold k (λ h. answer ≡ h.head) → answer ≡ Some head → k_after ≡ head_set (record head { conf = conf }) k
    → SetsConf conf k k_after
sets k k_after head conf answer told is set c tells =
    let same : Some head ≡ Some c.head = sym is ∙ told_at k c (λ h. answer ≡ h.head) tells told in
    let made : Head = record head { conf = conf } in
    subst (λ (a : Keeping). HoldsCollection a (record c { head = record c.head { conf = conf } })) (sym set) (record {
      both = marks.changed (with_head made) tells.both;
      told = ap (option_map (marks.changed (with_head made))) tells.told;
      current = ap (with_head made) tells.current ∙ ap (λ (h : Head). let w : Holding = record { rows = c.rows; head = Some (record h { conf = conf }) } in w) (same_Some head c.head same);
    })

pub sets_ok : {T E : Type 0} (result : Result T E) (k mid k_after : Keeping) (head : Head) (conf : Conf) (answer : Option Head) → mid ≡ k → WhereTold k (λ h. answer ≡ h.head) → answer ≡ Some head
    → OnOk result (k_after ≡ head_set (record head { conf = conf }) mid) → OnOk result (SetsConf conf k k_after)
sets_ok (Ok value) k mid k_after head conf answer same told is set =
    sets k k_after head conf answer told is (set ∙ ap (head_set (record head { conf = conf })) same)
sets_ok (Err fault) k mid k_after head conf answer same told is set = tt

-- both were
pub keeps_ok : {T E : Type 0} (result : Result T E) (made : List Row) (conf : Conf) (k mid k_after : Keeping) → mid ≡ all_put made k → OnOk result (SetsConf conf mid k_after)
    → OnOk result (Keeps made conf k k_after)
keeps_ok (Ok value) made conf k mid k_after put sets =
    λ c tells. sets (record { rows = rows_with made c.rows; head = c.head })
    (subst (λ (a : Keeping). HoldsCollection a (record { rows = rows_with made c.rows; head = c.head })) (sym put) (rows_told made k c tells))
keeps_ok (Err fault) made conf k mid k_after put sets = tt
