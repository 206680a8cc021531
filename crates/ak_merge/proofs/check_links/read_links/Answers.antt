use Rattle.std.proofs.Common.{◌≡◌, ◌∙◌, pos, List, sym, subst, rules}
use Rattle.std.proofs.lemmas.List.{with_items_is, places}
use Rattle.std.specs.Vec.{with_items}
use Rattle.ak_base.specs.declared.names.Table.TheVariants as tables
use Rattle.ak_faults.proofs.Healths.{goes_further}
use Rattle.ak_keep.proofs.Causing.{cause-ok}
use Rattle.ak_keep.specs.Keepers.{WhereTold}
use Rattle.ak_merge.proofs.CheckTold.{links_told}
use Rattle.ak_merge.proofs.CheckedLinks.{links_of}
use Rattle.ak_merge.specs.declared.check_links.Link.{Link}
use Rattle.ak_merge.specs.declared.check_links.Links.{Links}
use Rattle.ak_merge.proofs.check_links.read_links.Goals as goal

pub returns : goal.returns
returns g c =
    let R = g.R.Lookup in
    let k = R.keeping c.args.from.now in
    let links : Links = record { notes = with_items c.into_vec-notes.result c.see_cards.new.notes; cards = with_items c.into_vec-cards.result c.see_cards.new.cards } in
    let types : c.deref.result.now ≡ c.in_ok-links_in.field-0 = c.deref.ensures.value ∙ c.into_vec-types.ensures in
    let notes : c.deref_mut-2.result.now ≡ c.in_ok-links_in-2.field-0 = c.deref_mut-2.ensures.value ∙ c.into_vec-notes.ensures in
    let cards : c.deref_mut.result.now ≡ c.in_ok-links_in-3.field-0 = c.deref_mut.ensures.value ∙ c.into_vec-cards.ensures in
    record {
      reads = record {
        kept = c.links_in-3.ensures.reads.kept ∙ c.links_in-2.ensures.reads.kept ∙ c.links_in.ensures.reads.kept;
        same = c.links_in-3.ensures.reads.same ∙ c.links_in-2.ensures.reads.same ∙ c.links_in.ensures.reads.same;
        cause = cause-ok links (goes_further (goes_further c.links_in.ensures.reads.cause.goes c.links_in-2.ensures.reads.cause.goes) c.links_in-3.ensures.reads.cause.goes);
        told = links_told k c.deref.result.now c.deref_mut-2.result.now c.deref_mut.result.now c.see_cards.new.notes c.see_cards.new.cards links
            (with_items_is c.into_vec-notes.result c.see_cards.new.notes (search (rules, places))) (with_items_is c.into_vec-cards.result c.see_cards.new.cards (search (rules, places))) c.held-held.ensures.known
            (subst (λ (ls : List Link). WhereTold k (λ h. ls ≡ links_of tables.NoteType h.rows)) (sym types) c.in_ok-links_in.ensures.reads.told)
            (subst (λ (ls : List Link). WhereTold k (λ h. ls ≡ links_of tables.Note h.rows)) (sym notes) (rw c.links_in.ensures.reads.same at c.in_ok-links_in-2.ensures.reads.told))
            (subst (λ (ls : List Link). WhereTold k (λ h. ls ≡ links_of tables.Card h.rows)) (sym cards) (rw (c.links_in-2.ensures.reads.same, c.links_in.ensures.reads.same) at c.in_ok-links_in-3.ensures.reads.told))
            c.see_cards.ensures.notes c.see_cards.ensures.cards c.see_cards.ensures.known;
      };
    }
