-- A head that is made of its parts, and what a word holds of it.
use Rattle.std.specs.Prelude.{◌≡◌, ℤ, pos, negsuc, List}
use Rattle.std.proofs.Common.{ap, ◌∙◌, arith, SFits, w64}
use Rattle.std.proofs.lemmas.Int.{ints}
use Rattle.ak_base.specs.Heads.{IsWithin}
use Rattle.ak_base.specs.Limits.{last_stamp}
use Rattle.ak_base.specs.declared.heads.Conf.{Conf}
use Rattle.ak_base.specs.declared.heads.Head.{Head}
use Rattle.ak_base.specs.declared.heads.Tag.{Tag}

abbrev made_of : ℤ → ℤ → ℤ → ℤ → ℤ → Conf → List Tag → Head
made_of crt moment schema usn last_sync conf tags =
    record { crt = crt; moment = moment; schema = schema; usn = usn; last_sync = last_sync; conf = conf; tags = tags }

-- the head whose parts these are
pub head_is : (h : Head) (crt moment schema usn last_sync : ℤ) (conf : Conf) (tags : List Tag) → crt ≡ h.crt → moment ≡ h.moment
    → schema ≡ h.schema → usn ≡ h.usn → last_sync ≡ h.last_sync → conf ≡ h.conf → tags ≡ h.tags
    → made_of crt moment schema usn last_sync conf tags ≡ h
head_is h crt moment schema usn last_sync conf tags the_crt the_moment the_schema the_usn the_sync the_conf the_tags =
    ap (λ (x : ℤ). made_of x moment schema usn last_sync conf tags) the_crt
    ∙ ap (λ (x : ℤ). made_of h.crt x schema usn last_sync conf tags) the_moment
    ∙ ap (λ (x : ℤ). made_of h.crt h.moment x usn last_sync conf tags) the_schema
    ∙ ap (λ (x : ℤ). made_of h.crt h.moment h.schema x last_sync conf tags) the_usn
    ∙ ap (λ (x : ℤ). made_of h.crt h.moment h.schema h.usn x conf tags) the_sync
    ∙ ap (λ (x : Conf). made_of h.crt h.moment h.schema h.usn h.last_sync x tags) the_conf
    ∙ ap (λ (x : List Tag). made_of h.crt h.moment h.schema h.usn h.last_sync h.conf x) the_tags

pub stamp_holds : (stamp : ℤ) → IsWithin (pos 0) last_stamp stamp → SFits w64 stamp
stamp_holds (pos n) is = let high = is.high in record { sfits = omega (arith, ints, high) }
stamp_holds (negsuc n) is = let low = is.low in absurd (omega (arith, ints, low))
