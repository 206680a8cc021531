use Rattle.std.proofs.Common.{◌≡◌, sym, refl, ap, ◌∙◌, true, false, Bool, List, if◌then◌else◌, rules}
use Rattle.std.specs.BTreeSet.{insert_key}
use Rattle.ak_faults.proofs.Healths.{goes_nowhere}
use Rattle.ak_filtered.proofs.CardsPut.{moved_if, not_moved}
use Rattle.ak_filtered.specs.Candidates.{CardKey, key_cmp, key_of, may_move}
use Rattle.ak_filtered.specs.HomeDecks.{flags_of}
use Rattle.ak_keep.proofs.Causing.{cause-ok}
use Rattle.ak_filtered.proofs.candidates.add_candidate.Goals as goal

pub returns-then-not-may_move : goal.returns-then-not-may_move
returns-then-not-may_move g c =
    let stays : may_move (flags_of c.args.sieve.now.decks.now) c.args.card.now ≡ false = search rules in
    record {
      reads = record {
        kept = refl;
        same = refl;
        cause = cause-ok _ (goes_nowhere (g.R.Lookup.health c.args.from.now));
        told = not_moved (g.R.Lookup.keeping c.args.from.now).told c.args.sieve.now c.args.search.now c.args.keys.now.keys c.args.card.now stays;
      };
    }

pub returns-in_ok-put_key : goal.returns-in_ok-put_key
returns-in_ok-put_key g c =
    let may : may_move (flags_of c.args.sieve.now.decks.now) c.args.card.now ≡ true = search rules in
    let met : c.in_ok-meets.field-0 ≡ true = search rules in
    record {
      reads = record {
        kept = c.in_ok-meets.ensures.reads.kept;
        same = c.in_ok-meets.ensures.reads.same;
        cause = cause-ok _ c.in_ok-meets.ensures.reads.cause.goes;
        told = moved_if (g.R.Lookup.keeping c.args.from.now).told c.args.sieve.now c.args.search.now c.meets.new.self c.args.keys.now.keys c.put_key.new.keys.keys c.args.card.now c.in_ok-meets.field-0 may
            (c.in_ok-put_key.ensures ∙ ap (insert_key key_cmp c.args.keys.now.keys) c.key_of.ensures
            ∙ sym (ap (λ b. if b then insert_key key_cmp c.args.keys.now.keys (key_of c.args.sieve.now.order c.args.card.now) else c.args.keys.now.keys) met)) c.in_ok-meets.ensures.reads.told;
      };
    }

pub returns-else-branch : goal.returns-else-branch
returns-else-branch g c =
    let may : may_move (flags_of c.args.sieve.now.decks.now) c.args.card.now ≡ true = search rules in
    let met : c.in_ok-meets.field-0 ≡ false = search rules in
    record {
      reads = record {
        kept = c.in_ok-meets.ensures.reads.kept;
        same = c.in_ok-meets.ensures.reads.same;
        cause = cause-ok _ c.in_ok-meets.ensures.reads.cause.goes;
        told = moved_if (g.R.Lookup.keeping c.args.from.now).told c.args.sieve.now c.args.search.now c.meets.new.self c.args.keys.now.keys c.args.keys.now.keys c.args.card.now c.in_ok-meets.field-0 may
            (sym (ap (λ b. if b then insert_key key_cmp c.args.keys.now.keys (key_of c.args.sieve.now.order c.args.card.now) else c.args.keys.now.keys) met)) c.in_ok-meets.ensures.reads.told;
      };
    }
