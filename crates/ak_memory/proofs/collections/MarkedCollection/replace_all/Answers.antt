use Rattle.std.proofs.Common.{◌≡◌, Option, Some, None, IfSome, if◌then◌else◌, sym, ap, subst, ◌∙◌}
use Rattle.ak_base.specs.declared.heads.Head.{Head}
use Rattle.ak_keep.specs.Collections.{Holding, IsWellFormed, Rows, rows_of}
use Rattle.ak_keep.proofs.Forming.{formed-made_of}
use Rattle.ak_memory.specs.Collections.{held_before, rows_before}
use Rattle.ak_memory.specs.Versions.{Versions}
use Rattle.ak_memory.proofs.collections.MarkedCollection.replace_all.Goals as goal

pub invariant_of-self : goal.invariant_of-self
invariant_of-self c =
    let rows : c.replace-old.new.dest.current ≡ rows_of c.args.rows = ap (λ (v : Versions Rows). v.current) c.replace-old.ensures.after ∙ c.in_ok-made.ensures in
    let head : c.set.new.self.current ≡ Some c.args.head = ap (λ (v : Versions (Option Head)). v.current) c.set.ensures in
    let rows_then : rows_before c.replace-old.new.dest.mark c.set_aside.new.aside ≡ rows_before c.self.inside.rows.mark c.self.inside.aside =
    c.set_aside.ensures c.replace-old.new.dest.mark ∙ ap (λ (v : Versions Rows). rows_before v.mark c.self.inside.aside) c.replace-old.ensures.value in
    let head_then : c.set.new.self.mark ≡ c.self.inside.head.mark = ap (λ (v : Versions (Option Head)). v.mark) c.set.ensures in
    let at_mark : held_before c.replace-old.new.dest c.set.new.self c.set_aside.new.aside ≡ held_before c.self.inside.rows c.self.inside.head c.self.inside.aside =
    ap (λ (r : Rows). record { rows = r; head = c.set.new.self.mark }) rows_then ∙ ap (λ (h : Option Head). record { rows = rows_before c.self.inside.rows.mark c.self.inside.aside; head = h }) head_then in
    record {
      current = subst (λ (r : Rows). IsWellFormed (record { rows = r; head = c.set.new.self.current })) (sym rows)
          (subst (λ (h : Option Head). IsWellFormed (record { rows = rows_of c.args.rows; head = h })) (sym head) (formed-made_of c.args.rows c.args.head c.requires.checked c.requires.range));
      mark = subst (λ (h : Holding). IfSome (if c.self.inside.marked then Some h else None) IsWellFormed) (sym at_mark) c.self.invariant.mark;
    }
