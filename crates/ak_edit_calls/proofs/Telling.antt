-- What is true of the collection that a keeper may hold, if it tells it.
use Rattle.std.specs.Prelude.{Option, Some, None, IfSome}
use Rattle.ak_base.specs.declared.heads.Head.{Head}
use Rattle.ak_keep.proofs.Told.{where_told-map}
use Rattle.ak_keep.specs.Collections.{Collection, Holding, Rows, collection_of}
use Rattle.ak_keep.specs.Keepers.{Keeping, WhereHeld, WhereTold}
use Rattle.ak_keep.specs.Marks.{WithMark}

told-always : (told : Option (WithMark Holding)) (P : Holding → Type 0) → ((h : Holding) → P h) → IfSome told (λ w. P w.current)
told-always None P is = tt
told-always (Some w) P is = is w.current

-- what is always true
pub where_always : (k : Keeping) (P : Holding → Type 0) → ((h : Holding) → P h) → WhereTold k P
where_always k P is = told-always k.told P is

some-map : (o : Option Collection) (P Q : Collection → Type 0) → ((c : Collection) → P c → Q c) → IfSome o P → IfSome o Q
some-map None P Q step is = tt
some-map (Some c) P Q step is = step c is

-- what follows from what is true of it
pub where_held-map : (k : Keeping) (P Q : Collection → Type 0) → ((c : Collection) → P c → Q c) → WhereHeld k P → WhereHeld k Q
where_held-map k P Q step = where_told-map k (λ h. IfSome (collection_of h) P) (λ h. IfSome (collection_of h) Q) (λ h. some-map (collection_of h) P Q step)

some-both : (o : Option Collection) (P Q R : Collection → Type 0) → ((c : Collection) → P c → Q c → R c) → IfSome o P → IfSome o Q → IfSome o R
some-both None P Q R step p q = tt
some-both (Some c) P Q R step p q = step c p q

told-both : (told : Option (WithMark Holding)) (P Q R : Holding → Type 0) → ((h : Holding) → P h → Q h → R h) → IfSome told (λ w. P w.current) → IfSome told (λ w. Q w.current) → IfSome told (λ w. R w.current)
told-both None P Q R step p q = tt
told-both (Some w) P Q R step p q = step w.current p q

-- what follows from two things that are true of all that is told
pub where_told-both : (k : Keeping) (P Q R : Holding → Type 0) → ((h : Holding) → P h → Q h → R h) → WhereTold k P → WhereTold k Q → WhereTold k R
where_told-both k P Q R step p q = told-both k.told P Q R step p q

-- what follows from two things that are true of the collection
pub where_held-both : (k : Keeping) (P Q R : Collection → Type 0) → ((c : Collection) → P c → Q c → R c) → WhereHeld k P → WhereHeld k Q → WhereHeld k R
where_held-both k P Q R step p q =
    where_told-both k (λ h. IfSome (collection_of h) P) (λ h. IfSome (collection_of h) Q) (λ h. IfSome (collection_of h) R)
    (λ h. some-both (collection_of h) P Q R step) p q

rows_of_held : (P : Rows → Type 0) (h : Holding) → P h.rows → IfSome (collection_of h) (λ c. P c.rows)
rows_of_held P h is =
    elim h.head as (λ (o : Option Head). IfSome (collection_of (record { rows = h.rows; head = o })) (λ c. P c.rows)) [ None ↦ tt | Some head ↦ is ]

-- what is true of the rows that are told is true of the rows of the collection
pub where_rows_held : (k : Keeping) (P : Rows → Type 0) → WhereTold k (λ h. P h.rows) → WhereHeld k (λ c. P c.rows)
where_rows_held k P told = where_told-map k (λ h. P h.rows) (λ h. IfSome (collection_of h) (λ c. P c.rows)) (λ h. rows_of_held P h) told
