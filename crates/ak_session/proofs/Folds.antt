-- The fold is the committed collection once it took all that came.
use Rattle.std.specs.Prelude.{◌≡◌, ℤ, List, [], ◌∷◌, ◌++◌, Option, Some, None}
use Rattle.std.specs.Option.{option_or, unwrap_or}
use Rattle.std.proofs.Common.{refl, sym, ap, ◌∙◌}
use Rattle.ak_base.specs.declared.heads.Tag.{Tag}
use Rattle.ak_keep.specs.Collections.{Collection, Rows}
use Rattle.ak_merge.proofs.PartLaws.{parts_add_up}
use Rattle.ak_merge.proofs.TagLists.{tag_parts_add_up}
use Rattle.ak_merge.specs.Commits.{Settings, Received, settings_of, with_received}
use Rattle.ak_merge.specs.Tags.{tags_taken}
use Rattle.ak_merge.specs.Takings.{all_taken}
use Rattle.ak_messages.specs.declared.requests.Ask.{Ask}
use Rattle.ak_messages.specs.declared.requests.Request.{Request}
use Rattle.ak_session.specs.Asks.{asks_of, brought, and_then, all_brought, fold_of}
use Rattle.ak_session.specs.Contents.{folded}
use Rattle.ak_merge.specs.declared.sides.Side.TheVariants.{Server}

-- a collection with these rows, tags and settings
abbrev remade : Collection → Rows → List Tag → Settings → Collection
remade c rows tags settings = record { rows = rows; head = record c.head { tags = tags; conf = settings.conf; crt = settings.crt } }

settings_twice : (later first : Option Settings) (own : Settings) → unwrap_or later (unwrap_or first own) ≡ unwrap_or (option_or later first) own
settings_twice None first own = refl
settings_twice (Some s) first own = refl

-- to take what came first and then more is to take the two in one
pub taken_twice : (first more : Received) (c : Collection) → with_received more (with_received first c) ≡ with_received (and_then first more) c
taken_twice first more c =
    let usn : ℤ = c.head.usn in
    let own : Settings = settings_of c.head in
    ap (λ (rows : Rows). remade c rows (tags_taken usn more.tags (tags_taken usn first.tags c.head.tags)) (unwrap_or more.settings (unwrap_or first.settings own)))
    (sym (parts_add_up Server usn first.rows more.rows c.rows))
    ∙ ap (λ (tags : List Tag). remade c (all_taken Server usn (first.rows ++ more.rows) c.rows) tags (unwrap_or more.settings (unwrap_or first.settings own)))
    (sym (tag_parts_add_up usn first.tags more.tags c.head.tags))
    ∙ ap (remade c (all_taken Server usn (first.rows ++ more.rows) c.rows) (tags_taken usn (first.tags ++ more.tags) c.head.tags))
    (settings_twice more.settings first.settings own)

pub fold_takes_all : (c : Collection) (asked : List Ask) → fold_of c asked ≡ with_received (all_brought asked) c
fold_takes_all c [] = refl
fold_takes_all c (ask ∷ more) = fold_takes_all (with_received (brought ask) c) more ∙ taken_twice (brought ask) (all_brought more) c

-- the fold of a list is the fold of its rest over that of its front
pub fold_append : (c : Collection) (front rest : List Ask) → fold_of c (front ++ rest) ≡ fold_of (fold_of c front) rest
fold_append c [] rest = refl
fold_append c (ask ∷ more) rest = fold_append (with_received (brought ask) c) more rest

pub folds_take_what_came : (committed : Collection) (accepted : List Request) → folded committed accepted ≡ with_received (all_brought (asks_of accepted)) committed
unfolding folded
folds_take_what_came committed accepted = fold_takes_all committed (asks_of accepted)
