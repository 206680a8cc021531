use Rattle.std.proofs.Common.{◌≡◌, ◌+◌, ◌^◌, ◌<◌, ℕ, List, length, ◌∙◌, ap, subst, refl, arith, Some}
use Rattle.std.specs.Option.{option_map}
use Rattle.std.proofs.lemmas.Bool.{false≢true}
use Rattle.ak_disks.specs.Disks.{Becomes, Follows, IsTorn, overwritten}
use Rattle.ak_journal_forms.specs.Frames.{behind_gate}
use Rattle.ak_journal_forms.proofs.Images.{length-behind_gate}
use Rattle.ak_journals.specs.Journals.{StandsAfter, under_way}
use Rattle.ak_journals.specs.Moments.{LedBy}
use Rattle.ak_journals.proofs.Commits.{now_stands, place_behind, staged_stands, staged_order, staged_kept, mid_within, opened_stands, opened_order, opened_kept, done_order, done_kept}
use Rattle.ak_journals.proofs.Moments.{elapses_weaker, elapses_next, elapses_not, leaves_only}
use Rattle.ak_journals.proofs.Told.{on_err}
use Rattle.ak_journals.proofs.journals.Journal.commit.Goals as goal

-- nothing was written
pub returns-in_err-behind-clause-any_moment : goal.returns-in_err-behind-clause-any_moment
returns-in_err-behind-clause-any_moment g c =
    leaves_only g.D.Disk.moment g.D.Disk.may_have_left (g.D.Disk.may_leave c.args.self.now.disk) c.args.self.now.disk c.args.self.now.disk (StandsAfter g.D.Disk.content c.args.self.now (Some c.args.payload.items)) (g.met.D.Disk.only_now c.args.self.now.disk)
    elapses_not
    (now_stands c.args.self.now.gate c.args.self.now.ready (under_way c.args.self.now) c.args.payload.items (g.D.Disk.content c.args.self.now.disk) (g.D.Disk.may_leave c.args.self.now.disk) c.requires.in_order.told c.requires.ready)

pub write_synced-requires : goal.write_synced-requires
write_synced-requires g c = place_behind c.args.self.now.gate c.args.self.now.ready (under_way c.args.self.now) c.args.payload.items (g.D.Disk.content c.args.self.now.disk) (g.D.Disk.may_leave c.args.self.now.disk) c.requires.in_order.told c.requires.ready

-- the first step was refused
pub returns-in_err-write_synced-clause-in_order : goal.returns-in_err-write_synced-clause-in_order
returns-in_err-write_synced-clause-in_order g c =
    let is : c.as_slice.result.now ≡ behind_gate c.args.payload.items = c.as_slice.ensures.value ∙ c.in_ok-behind.ensures ∙ ap (λ (l : List ℕ). behind_gate l) c.as_slice-bytes.ensures.value in
    record {
      fits = c.requires.in_order.fits;
      none = λ ready. absurd (false≢true ready);
      told =
          staged_order c.args.self.now.gate c.args.self.now.ready (under_way c.args.self.now) c.args.payload.items (g.D.Disk.content c.args.self.now.disk) (g.D.Disk.may_leave c.args.self.now.disk) c.requires.in_order.told c.requires.ready (g.D.Disk.content c.write_synced.new.disk) (g.D.Disk.may_leave c.write_synced.new.disk)
          (subst (λ (b : List ℕ). Becomes (IsTorn (c.args.self.now.gate + 1) (length b)) (g.D.Disk.content c.args.self.now.disk) (g.D.Disk.content c.write_synced.new.disk)) is c.in_err-write_synced.ensures.refused)
          (subst (λ (b : List ℕ). Follows (IsTorn (c.args.self.now.gate + 1) (length b)) (g.D.Disk.may_leave c.args.self.now.disk) (g.D.Disk.may_leave c.write_synced.new.disk)) is c.write_synced.ensures.crash);
    }

pub returns-in_err-write_synced-clause-refused : goal.returns-in_err-write_synced-clause-refused
returns-in_err-write_synced-clause-refused g c =
    let is : c.as_slice.result.now ≡ behind_gate c.args.payload.items = c.as_slice.ensures.value ∙ c.in_ok-behind.ensures ∙ ap (λ (l : List ℕ). behind_gate l) c.as_slice-bytes.ensures.value in
    on_err c.from_residual-in_err-write_synced.result (staged_kept c.args.self.now.gate c.args.self.now.ready (under_way c.args.self.now) c.args.payload.items (g.D.Disk.content c.args.self.now.disk) (g.D.Disk.may_leave c.args.self.now.disk) c.requires.in_order.told c.requires.ready (g.D.Disk.content c.write_synced.new.disk) (subst (λ (b : List ℕ). Becomes (IsTorn (c.args.self.now.gate + 1) (length b)) (g.D.Disk.content c.args.self.now.disk) (g.D.Disk.content c.write_synced.new.disk)) is c.in_err-write_synced.ensures.refused))

pub returns-in_err-write_synced-clause-any_moment : goal.returns-in_err-write_synced-clause-any_moment
returns-in_err-write_synced-clause-any_moment g c =
    let is : c.as_slice.result.now ≡ behind_gate c.args.payload.items = c.as_slice.ensures.value ∙ c.in_ok-behind.ensures ∙ ap (λ (l : List ℕ). behind_gate l) c.as_slice-bytes.ensures.value in
    leaves_only g.D.Disk.moment g.D.Disk.may_have_left (g.D.Disk.may_leave c.args.self.now.disk) c.args.self.now.disk c.write_synced.new.disk (StandsAfter g.D.Disk.content c.args.self.now (Some c.args.payload.items)) (g.met.D.Disk.only_now c.args.self.now.disk)
    (elapses_weaker c.write_synced.ensures.time (λ image led. staged_stands c.args.self.now.gate c.args.self.now.ready (under_way c.args.self.now) c.args.payload.items (g.D.Disk.content c.args.self.now.disk) (g.D.Disk.may_leave c.args.self.now.disk) c.requires.in_order.told c.requires.ready image (subst (λ (b : List ℕ). LedBy (IsTorn (c.args.self.now.gate + 1) (length b)) (g.D.Disk.may_leave c.args.self.now.disk) image) is led)))
    (now_stands c.args.self.now.gate c.args.self.now.ready (under_way c.args.self.now) c.args.payload.items (g.D.Disk.content c.args.self.now.disk) (g.D.Disk.may_leave c.args.self.now.disk) c.requires.in_order.told c.requires.ready)

pub write_synced-requires-2 : goal.write_synced-requires-2
write_synced-requires-2 g c =
    let is : c.as_slice.result.now ≡ behind_gate c.args.payload.items = c.as_slice.ensures.value ∙ c.in_ok-behind.ensures ∙ ap (λ (l : List ℕ). behind_gate l) c.as_slice-bytes.ensures.value in
    let small : length c.args.payload.items < 2 ^ 64 = (omega (arith, c.in_ok-write_synced.ensures.far, ap (λ (l : List ℕ). length l) is, length-behind_gate c.args.payload.items)) in
    let mid : g.D.Disk.content c.write_synced.new.disk ≡ option_map (overwritten (c.args.self.now.gate + 1) (behind_gate c.args.payload.items)) (g.D.Disk.content c.args.self.now.disk) = (c.in_ok-write_synced.ensures.written ∙ ap (λ (b : List ℕ). option_map (overwritten (c.args.self.now.gate + 1) b) (g.D.Disk.content c.args.self.now.disk)) is) in
    mid_within c.args.self.now.gate c.args.self.now.ready (under_way c.args.self.now) c.args.payload.items (g.D.Disk.content c.args.self.now.disk) (g.D.Disk.may_leave c.args.self.now.disk) c.requires.in_order.told c.requires.ready small (g.D.Disk.content c.write_synced.new.disk) (g.D.Disk.may_leave c.write_synced.new.disk) mid c.in_ok-write_synced.ensures.durable

-- the second step was refused
pub returns-in_err-write_synced-2-clause-in_order : goal.returns-in_err-write_synced-2-clause-in_order
returns-in_err-write_synced-2-clause-in_order g c =
    let is : c.as_slice.result.now ≡ behind_gate c.args.payload.items = c.as_slice.ensures.value ∙ c.in_ok-behind.ensures ∙ ap (λ (l : List ℕ). behind_gate l) c.as_slice-bytes.ensures.value in
    let small : length c.args.payload.items < 2 ^ 64 = (omega (arith, c.in_ok-write_synced.ensures.far, ap (λ (l : List ℕ). length l) is, length-behind_gate c.args.payload.items)) in
    let mid : g.D.Disk.content c.write_synced.new.disk ≡ option_map (overwritten (c.args.self.now.gate + 1) (behind_gate c.args.payload.items)) (g.D.Disk.content c.args.self.now.disk) = (c.in_ok-write_synced.ensures.written ∙ ap (λ (b : List ℕ). option_map (overwritten (c.args.self.now.gate + 1) b) (g.D.Disk.content c.args.self.now.disk)) is) in
    record {
      fits = c.requires.in_order.fits;
      none = λ ready. absurd (false≢true ready);
      told = opened_order c.args.self.now.gate c.args.self.now.ready (under_way c.args.self.now) c.args.payload.items (g.D.Disk.content c.args.self.now.disk) (g.D.Disk.may_leave c.args.self.now.disk) c.requires.in_order.told c.requires.ready small (g.D.Disk.content c.write_synced.new.disk) (g.D.Disk.may_leave c.write_synced.new.disk) mid c.in_ok-write_synced.ensures.durable (g.D.Disk.content c.write_synced-2.new.disk) (g.D.Disk.may_leave c.write_synced-2.new.disk) c.in_err-write_synced-2.ensures.refused c.write_synced-2.ensures.crash;
    }

pub returns-in_err-write_synced-2-clause-refused : goal.returns-in_err-write_synced-2-clause-refused
returns-in_err-write_synced-2-clause-refused g c =
    let is : c.as_slice.result.now ≡ behind_gate c.args.payload.items = c.as_slice.ensures.value ∙ c.in_ok-behind.ensures ∙ ap (λ (l : List ℕ). behind_gate l) c.as_slice-bytes.ensures.value in
    let small : length c.args.payload.items < 2 ^ 64 = (omega (arith, c.in_ok-write_synced.ensures.far, ap (λ (l : List ℕ). length l) is, length-behind_gate c.args.payload.items)) in
    let mid : g.D.Disk.content c.write_synced.new.disk ≡ option_map (overwritten (c.args.self.now.gate + 1) (behind_gate c.args.payload.items)) (g.D.Disk.content c.args.self.now.disk) = (c.in_ok-write_synced.ensures.written ∙ ap (λ (b : List ℕ). option_map (overwritten (c.args.self.now.gate + 1) b) (g.D.Disk.content c.args.self.now.disk)) is) in
    on_err c.from_residual-in_err-write_synced-2.result (opened_kept c.args.self.now.gate c.args.self.now.ready (under_way c.args.self.now) c.args.payload.items (g.D.Disk.content c.args.self.now.disk) (g.D.Disk.may_leave c.args.self.now.disk) c.requires.in_order.told c.requires.ready small (g.D.Disk.content c.write_synced.new.disk) (g.D.Disk.may_leave c.write_synced.new.disk) mid c.in_ok-write_synced.ensures.durable (g.D.Disk.content c.write_synced-2.new.disk) c.in_err-write_synced-2.ensures.refused)

pub returns-in_err-write_synced-2-clause-any_moment : goal.returns-in_err-write_synced-2-clause-any_moment
returns-in_err-write_synced-2-clause-any_moment g c =
    let is : c.as_slice.result.now ≡ behind_gate c.args.payload.items = c.as_slice.ensures.value ∙ c.in_ok-behind.ensures ∙ ap (λ (l : List ℕ). behind_gate l) c.as_slice-bytes.ensures.value in
    let small : length c.args.payload.items < 2 ^ 64 = (omega (arith, c.in_ok-write_synced.ensures.far, ap (λ (l : List ℕ). length l) is, length-behind_gate c.args.payload.items)) in
    let mid : g.D.Disk.content c.write_synced.new.disk ≡ option_map (overwritten (c.args.self.now.gate + 1) (behind_gate c.args.payload.items)) (g.D.Disk.content c.args.self.now.disk) = (c.in_ok-write_synced.ensures.written ∙ ap (λ (b : List ℕ). option_map (overwritten (c.args.self.now.gate + 1) b) (g.D.Disk.content c.args.self.now.disk)) is) in
    leaves_only g.D.Disk.moment g.D.Disk.may_have_left (g.D.Disk.may_leave c.args.self.now.disk) c.args.self.now.disk c.write_synced-2.new.disk (StandsAfter g.D.Disk.content c.args.self.now (Some c.args.payload.items)) (g.met.D.Disk.only_now c.args.self.now.disk)
    (elapses_next (elapses_weaker c.write_synced.ensures.time (λ image led. staged_stands c.args.self.now.gate c.args.self.now.ready (under_way c.args.self.now) c.args.payload.items (g.D.Disk.content c.args.self.now.disk) (g.D.Disk.may_leave c.args.self.now.disk) c.requires.in_order.told c.requires.ready image (subst (λ (b : List ℕ). LedBy (IsTorn (c.args.self.now.gate + 1) (length b)) (g.D.Disk.may_leave c.args.self.now.disk) image) is led))) c.write_synced-2.ensures.time (opened_stands c.args.self.now.gate c.args.self.now.ready (under_way c.args.self.now) c.args.payload.items (g.D.Disk.content c.args.self.now.disk) (g.D.Disk.may_leave c.args.self.now.disk) c.requires.in_order.told c.requires.ready small (g.D.Disk.content c.write_synced.new.disk) (g.D.Disk.may_leave c.write_synced.new.disk) mid c.in_ok-write_synced.ensures.durable))
    (now_stands c.args.self.now.gate c.args.self.now.ready (under_way c.args.self.now) c.args.payload.items (g.D.Disk.content c.args.self.now.disk) (g.D.Disk.may_leave c.args.self.now.disk) c.requires.in_order.told c.requires.ready)

-- both were done
pub returns-clause-in_order : goal.returns-clause-in_order
returns-clause-in_order g c =
    let is : c.as_slice.result.now ≡ behind_gate c.args.payload.items = c.as_slice.ensures.value ∙ c.in_ok-behind.ensures ∙ ap (λ (l : List ℕ). behind_gate l) c.as_slice-bytes.ensures.value in
    let small : length c.args.payload.items < 2 ^ 64 = (omega (arith, c.in_ok-write_synced.ensures.far, ap (λ (l : List ℕ). length l) is, length-behind_gate c.args.payload.items)) in
    let mid : g.D.Disk.content c.write_synced.new.disk ≡ option_map (overwritten (c.args.self.now.gate + 1) (behind_gate c.args.payload.items)) (g.D.Disk.content c.args.self.now.disk) = (c.in_ok-write_synced.ensures.written ∙ ap (λ (b : List ℕ). option_map (overwritten (c.args.self.now.gate + 1) b) (g.D.Disk.content c.args.self.now.disk)) is) in
    record {
      fits = omega (arith, c.in_ok-write_synced.ensures.far, ap (λ (l : List ℕ). length l) is, length-behind_gate c.args.payload.items, ap (λ (l : List ℕ). length l) c.as_slice-bytes.ensures.value);
      none = λ ready. refl;
      told =
          done_order c.args.self.now.gate c.args.self.now.ready (under_way c.args.self.now) c.args.payload.items (g.D.Disk.content c.args.self.now.disk) (g.D.Disk.may_leave c.args.self.now.disk) c.requires.in_order.told c.requires.ready small (g.D.Disk.content c.write_synced.new.disk) (g.D.Disk.may_leave c.write_synced.new.disk) mid c.in_ok-write_synced.ensures.durable (c.args.self.now.gate + (9 + length c.as_slice-bytes.result.now)) (ap (λ (n : ℕ). c.args.self.now.gate + (9 + n)) (ap (λ (l : List ℕ). length l) c.as_slice-bytes.ensures.value))
          (g.D.Disk.content c.write_synced-2.new.disk) (g.D.Disk.may_leave c.write_synced-2.new.disk) c.in_ok-write_synced-2.ensures.written c.in_ok-write_synced-2.ensures.durable;
    }

pub returns-clause-kept : goal.returns-clause-kept
returns-clause-kept g c =
    let is : c.as_slice.result.now ≡ behind_gate c.args.payload.items = c.as_slice.ensures.value ∙ c.in_ok-behind.ensures ∙ ap (λ (l : List ℕ). behind_gate l) c.as_slice-bytes.ensures.value in
    let small : length c.args.payload.items < 2 ^ 64 = (omega (arith, c.in_ok-write_synced.ensures.far, ap (λ (l : List ℕ). length l) is, length-behind_gate c.args.payload.items)) in
    let mid : g.D.Disk.content c.write_synced.new.disk ≡ option_map (overwritten (c.args.self.now.gate + 1) (behind_gate c.args.payload.items)) (g.D.Disk.content c.args.self.now.disk) = (c.in_ok-write_synced.ensures.written ∙ ap (λ (b : List ℕ). option_map (overwritten (c.args.self.now.gate + 1) b) (g.D.Disk.content c.args.self.now.disk)) is) in
    done_kept c.args.self.now.gate c.args.self.now.ready (under_way c.args.self.now) c.args.payload.items (g.D.Disk.content c.args.self.now.disk) (g.D.Disk.may_leave c.args.self.now.disk) c.requires.in_order.told c.requires.ready small (g.D.Disk.content c.write_synced.new.disk) (g.D.Disk.may_leave c.write_synced.new.disk) mid c.in_ok-write_synced.ensures.durable (c.args.self.now.gate + (9 + length c.as_slice-bytes.result.now)) (ap (λ (n : ℕ). c.args.self.now.gate + (9 + n)) (ap (λ (l : List ℕ). length l) c.as_slice-bytes.ensures.value))
    (g.D.Disk.content c.write_synced-2.new.disk) (g.D.Disk.may_leave c.write_synced-2.new.disk) c.in_ok-write_synced-2.ensures.written c.in_ok-write_synced-2.ensures.durable

pub returns-clause-any_moment : goal.returns-clause-any_moment
returns-clause-any_moment g c =
    let is : c.as_slice.result.now ≡ behind_gate c.args.payload.items = c.as_slice.ensures.value ∙ c.in_ok-behind.ensures ∙ ap (λ (l : List ℕ). behind_gate l) c.as_slice-bytes.ensures.value in
    let small : length c.args.payload.items < 2 ^ 64 = (omega (arith, c.in_ok-write_synced.ensures.far, ap (λ (l : List ℕ). length l) is, length-behind_gate c.args.payload.items)) in
    let mid : g.D.Disk.content c.write_synced.new.disk ≡ option_map (overwritten (c.args.self.now.gate + 1) (behind_gate c.args.payload.items)) (g.D.Disk.content c.args.self.now.disk) = (c.in_ok-write_synced.ensures.written ∙ ap (λ (b : List ℕ). option_map (overwritten (c.args.self.now.gate + 1) b) (g.D.Disk.content c.args.self.now.disk)) is) in
    leaves_only g.D.Disk.moment g.D.Disk.may_have_left (g.D.Disk.may_leave c.args.self.now.disk) c.args.self.now.disk c.write_synced-2.new.disk (StandsAfter g.D.Disk.content c.args.self.now (Some c.args.payload.items)) (g.met.D.Disk.only_now c.args.self.now.disk)
    (elapses_next (elapses_weaker c.write_synced.ensures.time (λ image led. staged_stands c.args.self.now.gate c.args.self.now.ready (under_way c.args.self.now) c.args.payload.items (g.D.Disk.content c.args.self.now.disk) (g.D.Disk.may_leave c.args.self.now.disk) c.requires.in_order.told c.requires.ready image (subst (λ (b : List ℕ). LedBy (IsTorn (c.args.self.now.gate + 1) (length b)) (g.D.Disk.may_leave c.args.self.now.disk) image) is led))) c.write_synced-2.ensures.time (opened_stands c.args.self.now.gate c.args.self.now.ready (under_way c.args.self.now) c.args.payload.items (g.D.Disk.content c.args.self.now.disk) (g.D.Disk.may_leave c.args.self.now.disk) c.requires.in_order.told c.requires.ready small (g.D.Disk.content c.write_synced.new.disk) (g.D.Disk.may_leave c.write_synced.new.disk) mid c.in_ok-write_synced.ensures.durable))
    (now_stands c.args.self.now.gate c.args.self.now.ready (under_way c.args.self.now) c.args.payload.items (g.D.Disk.content c.args.self.now.disk) (g.D.Disk.may_leave c.args.self.now.disk) c.requires.in_order.told c.requires.ready)

pub overflow_add-self-3 : goal.overflow_add-self-3
overflow_add-self-3 g c =
    let is : c.as_slice.result.now ≡ behind_gate c.args.payload.items = c.as_slice.ensures.value ∙ c.in_ok-behind.ensures ∙ ap (λ (l : List ℕ). behind_gate l) c.as_slice-bytes.ensures.value in
    omega (arith, c.in_ok-write_synced.ensures.far, ap (λ (l : List ℕ). length l) is, length-behind_gate c.args.payload.items, ap (λ (l : List ℕ). length l) c.as_slice-bytes.ensures.value)
