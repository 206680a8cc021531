-- What each column of a row is, in the order of the columns: where it stands in the value, and what it holds.
use Rattle.std.specs.Prelude.{pos, negsuc, [], ◌∷◌}
use Rattle.ak_json.specs.Members.{Form}
use Rattle.ak_json.specs.declared.keys.Key.TheVariants as keys
use Rattle.ak_json.specs.declared.keys.Place.TheVariants.{At, Key}
use Rattle.ak_json.specs.declared.kinds.Kind.TheVariants as kinds

-- a note: `[id,guid,mid,mod,usn,tags,flds,sfld,csum,flags,data]`
abbrev pub note_form : Form
note_form =
    (At 0, kinds.Integer)
    ∷ (At 1, kinds.Text)
    ∷ (At 2, kinds.Integer)
    ∷ (At 3, kinds.Integer)
    ∷ (At 4, kinds.Integer)
    ∷ (At 5, kinds.Text)
    ∷ (At 6, kinds.Text)
    ∷ (At 7, kinds.Text)
    ∷ (At 8, kinds.Integer)
    ∷ (At 9, kinds.Integer)
    ∷ (At 10, kinds.Text)
    ∷ []

-- a card: `[id,nid,did,ord,mod,usn,type,queue,due,ivl,factor,reps,lapses,left,odue,odid,flags,data]`
abbrev pub card_form : Form
card_form =
    (At 0, kinds.Integer)
    ∷ (At 1, kinds.Integer)
    ∷ (At 2, kinds.Integer)
    ∷ (At 3, kinds.Integer)
    ∷ (At 4, kinds.Integer)
    ∷ (At 5, kinds.Integer)
    ∷ (At 6, kinds.Integer)
    ∷ (At 7, kinds.Integer)
    ∷ (At 8, kinds.Integer)
    ∷ (At 9, kinds.Integer)
    ∷ (At 10, kinds.Integer)
    ∷ (At 11, kinds.Integer)
    ∷ (At 12, kinds.Integer)
    ∷ (At 13, kinds.Integer)
    ∷ (At 14, kinds.Integer)
    ∷ (At 15, kinds.Integer)
    ∷ (At 16, kinds.Integer)
    ∷ (At 17, kinds.Text)
    ∷ []

-- a review: `[id,cid,usn,ease,ivl,lastIvl,factor,time,type]`
abbrev pub review_form : Form
review_form =
    (At 0, kinds.Integer)
    ∷ (At 1, kinds.Integer)
    ∷ (At 2, kinds.Integer)
    ∷ (At 3, kinds.Integer)
    ∷ (At 4, kinds.Integer)
    ∷ (At 5, kinds.Integer)
    ∷ (At 6, kinds.Integer)
    ∷ (At 7, kinds.Integer)
    ∷ (At 8, kinds.Integer)
    ∷ []

-- a grave: `[usn,oid,type]`
abbrev pub grave_form : Form
grave_form =
    (At 0, kinds.Integer)
    ∷ (At 1, kinds.Integer)
    ∷ (At 2, kinds.Integer)
    ∷ []

-- a deck
abbrev pub deck_form : Form
deck_form =
    (Key keys.Id, kinds.Integer)
    ∷ (Key keys.Mod, kinds.Integer)
    ∷ (Key keys.Usn, kinds.Integer)
    ∷ (Key keys.Name, kinds.Text)
    ∷ (Key keys.Conf, kinds.Integer)
    ∷ (Key keys.Dyn, kinds.Within (pos 0) (pos 1))
    ∷ (Key keys.NewToday, kinds.Pair)
    ∷ (Key keys.RevToday, kinds.Pair)
    ∷ []

-- the settings of a collection, each number in its range
abbrev pub conf_form : Form
conf_form =
    (Key keys.NewSpread, kinds.Within (pos 0) (pos 2))
    ∷ (Key keys.CollapseTime, kinds.Within (pos 0) (pos 86_400))
    ∷ (Key keys.DayLearnFirst, kinds.Bool)
    ∷ (Key keys.NextPos, kinds.Within (pos 0) (pos 2_147_483_647))
    ∷ (Key keys.LastUnburied, kinds.Within (negsuc 9_999_999) (pos 100_000_000))
    ∷ []

-- a note type
abbrev pub note_type_form : Form
note_type_form =
    (Key keys.Id, kinds.Integer)
    ∷ (Key keys.Mod, kinds.Integer)
    ∷ (Key keys.Usn, kinds.Integer)
    ∷ (Key keys.Name, kinds.Text)
    ∷ (Key keys.Type, kinds.Within (pos 0) (pos 1))
    ∷ (Key keys.Sortf, kinds.Integer)
    ∷ (Key keys.Flds, kinds.Fields)
    ∷ (Key keys.Tmpls, kinds.Templates)
    ∷ []

-- a field of a note type. Its place is written, and not read.
abbrev pub field_form : Form
field_form =
    (Key keys.Name, kinds.Text)
    ∷ (Key keys.Ord, kinds.Ignored)
    ∷ []

-- a template of a note type. Its place is written, and not read.
abbrev pub template_form : Form
template_form =
    (Key keys.Name, kinds.Text)
    ∷ (Key keys.Qfmt, kinds.Text)
    ∷ (Key keys.Afmt, kinds.Text)
    ∷ (Key keys.Ord, kinds.Ignored)
    ∷ []

-- an option group
abbrev pub options_form : Form
options_form =
    (Key keys.Id, kinds.Integer)
    ∷ (Key keys.Mod, kinds.Integer)
    ∷ (Key keys.Usn, kinds.Integer)
    ∷ (Key keys.Name, kinds.Text)
    ∷ (Key keys.MaxTaken, kinds.Integer)
    ∷ (Key keys.New, kinds.New)
    ∷ (Key keys.Rev, kinds.Rev)
    ∷ (Key keys.Lapse, kinds.Lapse)
    ∷ []

-- what an option group has for new cards. `ints` are the days after the last step and after Easy. `delays` is in no such object, since it
-- marks version 1; it stands here so that no rest keeps it.
abbrev pub new_form : Form
new_form =
    (Key keys.Steps, kinds.Steps)
    ∷ (Key keys.Ints, kinds.Pair)
    ∷ (Key keys.InitialFactor, kinds.Integer)
    ∷ (Key keys.PerDay, kinds.Integer)
    ∷ (Key keys.Bury, kinds.Bool)
    ∷ (Key keys.Delays, kinds.Ignored)
    ∷ []

-- what an option group has for reviews
abbrev pub rev_form : Form
rev_form =
    (Key keys.PerDay, kinds.Integer)
    ∷ (Key keys.Ease4, kinds.Decimal)
    ∷ (Key keys.IvlFct, kinds.Decimal)
    ∷ (Key keys.MaxIvl, kinds.Integer)
    ∷ (Key keys.HardFactor, kinds.Decimal)
    ∷ (Key keys.Bury, kinds.Bool)
    ∷ []

-- what an option group has for cards that were forgotten
abbrev pub lapse_form : Form
lapse_form =
    (Key keys.Steps, kinds.Steps)
    ∷ (Key keys.Mult, kinds.Decimal)
    ∷ (Key keys.MinInt, kinds.Integer)
    ∷ (Key keys.LeechFails, kinds.Integer)
    ∷ (Key keys.LeechAction, kinds.Integer)
    ∷ []

-- an option group of version 1
abbrev pub old_options_form : Form
old_options_form =
    (Key keys.Id, kinds.Integer)
    ∷ (Key keys.Mod, kinds.Integer)
    ∷ (Key keys.Usn, kinds.Integer)
    ∷ (Key keys.Name, kinds.Text)
    ∷ (Key keys.MaxTaken, kinds.Integer)
    ∷ (Key keys.New, kinds.OldNew)
    ∷ (Key keys.Rev, kinds.OldRev)
    ∷ (Key keys.Lapse, kinds.OldLapse)
    ∷ []

-- what it has for new cards. What stands under a key of version 2 is not read, and not kept.
abbrev pub old_new_form : Form
old_new_form =
    (Key keys.Delays, kinds.Steps)
    ∷ (Key keys.Ints, kinds.Pair)
    ∷ (Key keys.InitialFactor, kinds.Integer)
    ∷ (Key keys.PerDay, kinds.Integer)
    ∷ (Key keys.Bury, kinds.Bool)
    ∷ (Key keys.Steps, kinds.Ignored)
    ∷ []

-- what it has for reviews. What stands under a key of version 2 is not read, and not kept.
abbrev pub old_rev_form : Form
old_rev_form =
    (Key keys.PerDay, kinds.Integer)
    ∷ (Key keys.Ease4Pm, kinds.Integer)
    ∷ (Key keys.IvlFctPm, kinds.Integer)
    ∷ (Key keys.MaxIvl, kinds.Integer)
    ∷ (Key keys.HardFactorPm, kinds.Integer)
    ∷ (Key keys.Bury, kinds.Bool)
    ∷ (Key keys.Ease4, kinds.Ignored)
    ∷ (Key keys.IvlFct, kinds.Ignored)
    ∷ (Key keys.HardFactor, kinds.Ignored)
    ∷ []

-- what it has for cards that were forgotten. What stands under a key of version 2 is not read, and not kept.
abbrev pub old_lapse_form : Form
old_lapse_form =
    (Key keys.Delays, kinds.Steps)
    ∷ (Key keys.MultPm, kinds.Integer)
    ∷ (Key keys.MinInt, kinds.Integer)
    ∷ (Key keys.LeechFails, kinds.Integer)
    ∷ (Key keys.LeechAction, kinds.Integer)
    ∷ (Key keys.Steps, kinds.Ignored)
    ∷ (Key keys.Mult, kinds.Ignored)
    ∷ []
