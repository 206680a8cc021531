-- What is read is not refused, and what is refused has one first fault.
use Rattle.std.proofs.Common.{◌≡◌, ◌⊎◌, inl, inr, ℕ, List, [], ◌∷◌, Bool, true, false, ◌==◌, Option, Some, None, refl, sym, ap, ◌∙◌, subst, codes}
use Rattle.std.specs.Prelude.{unwrap_or, option_and_then}
use Rattle.serde_json.specs.Data.{Data, array, Items, no_items, item}
use Rattle.serde_json.specs.Find.{get, at, as_array}
use Rattle.serde_json.specs.Read.{read}
use Rattle.ak_base.specs.declared.heads.Conf.{Conf}
use Rattle.ak_base.specs.declared.names.Table.{Table}
use Rattle.ak_base.specs.declared.names.Table.TheVariants as tables
use Rattle.ak_base.specs.declared.rows.Row.{Row}
use Rattle.ak_base.specs.declared.rows.Row.TheVariants as rows
use Rattle.ak_json.proofs.OneRow.{one_row_read, read_or_refused, one_fault, conf_read_or_refused, one_told}
use Rattle.ak_json.specs.Confs.{ReadsConf, conf_fault}
use Rattle.ak_json.specs.Faults.{Tells}
use Rattle.ak_json.specs.Rows.{ReadsRow, RefusesRow}
use Rattle.ak_json.specs.declared.faults.JsonFault.{JsonFault}
use Rattle.ak_json.specs.declared.faults.JsonFault.TheVariants as faults
use Rattle.ak_messages.specs.declared.methods.Method.{Method}
use Rattle.ak_messages.specs.declared.methods.Method.TheVariants as methods
use Rattle.ak_messages.specs.declared.requests.Newer.{Newer}
use Rattle.ak_wire.specs.Bodies.{ChunkRowFault, ChunkFault, TakesNewer, NewerFault, ChangesRowFault, ChangesFault, chunk_fault, changes_fault, is_newer, deck_items, options_items}
use Rattle.ak_wire.specs.Faults.{of_json, OrMemory, Is, First, Then, ReadsEach, RefusesEach, OnlyMemory, AtMostOneFault}
use Rattle.ak_wire.specs.Forms.{Form, upload_form, download_form}
use Rattle.ak_wire.specs.Keys.{key_text}
use Rattle.ak_wire.specs.Parts.{OfJson, RefusesRowOf, ThenAfter, ReadsNote, ReadsCard, ReadsReview, ReadsNoteType, ReadsDeck, ReadsOptions}
use Rattle.ak_wire.specs.Replies.{GiveFault, EitherFault, ReplyFault}
use Rattle.ak_wire.specs.Requests.{AskFault, IsJsonOf, IsNoJson, RefusesBody}
use Rattle.ak_wire.specs.Values.{value_under, items_under, object_fault}
use Rattle.ak_wire.specs.Wholes.{upload_tables, download_tables, rows_after, ReadsTable, ReadsUnordered, TableFault, TakesTables, TablesFault, table_items, PartsFault, WholeFault}
use Rattle.ak_wire.specs.declared.keys.Key.{Key}
use Rattle.ak_wire.specs.declared.wire_faults.WireFault.{WireFault}
use Rattle.ak_wire.specs.declared.wire_faults.WireFault.TheVariants as wires
use Rattle.ak_wire.proofs.Exact.{one_each, one_value}

-- ---- what is read is refused only if memory runs out

-- what refuses a value that is read is out of memory
abbrev pub Excludes : {A : Type 0} → (Data → A → Type 0) → (Data → WireFault → Type 0) → Type 0
Excludes {A = A} reads refuses = (d : Data) (made : A) → reads d made → OnlyMemory (refuses d)

json_only : (these : JsonFault → Type 0) → ((j : JsonFault) → these j → j ≡ faults.Memory) → OnlyMemory (OfJson these)
json_only these only fault h = h.2 ∙ ap of_json (only h.0 h.1)

row_only : (table : Table) (d : Data) (row : Row) → ReadsRow table d row → OnlyMemory (RefusesRowOf table d)
row_only table d row h = json_only (RefusesRow table d) (λ j k. read_or_refused table d row j h k)

pub then_only : {A : Type 0} (these : WireFault → Type 0) (reads : A → Type 0) (others : WireFault → Type 0) → OnlyMemory these → OnlyMemory others → OnlyMemory (Then these reads others)
then_only these reads others p q fault (inl h) = p fault h
then_only these reads others p q fault (inr h) = q fault h.1

pub each_only : {A : Type 0} (reads : Data → A → Type 0) (refuses : Data → WireFault → Type 0) → Excludes reads refuses → (ds : Items) (parts : List A) → ReadsEach reads ds parts
    → OnlyMemory (RefusesEach reads refuses ds)
each_only reads refuses ex no_items [] h = λ fault k. absurd k
each_only reads refuses ex no_items (part ∷ parts) h = absurd h
each_only reads refuses ex (item d ds) [] h = absurd h
each_only reads refuses ex (item d ds) (part ∷ parts) h =
    then_only (refuses d) (reads d) (RefusesEach reads refuses ds) (ex d part h.0) (each_only reads refuses ex ds parts h.1)

-- ---- two faults are one

-- what is refused for a fault beside out of memory has that fault alone
abbrev pub Both : WireFault → WireFault → Type 0
Both a b = (a ≡ b) ⊎ ((a ≡ wires.Memory) ⊎ (b ≡ wires.Memory))

is_one : (o : Option WireFault) → AtMostOneFault (Is o)
is_one None a b x y = absurd x
is_one (Some first) a b x y = inl (x ∙ sym y)

first_one : (o : Option WireFault) (others : WireFault → Type 0) → AtMostOneFault others → AtMostOneFault (First o others)
first_one None others one a b x y = one a b x y
first_one (Some first) others one a b x y = inl (x ∙ sym y)

same_json : (a b : WireFault) (j k : JsonFault) → a ≡ of_json j → b ≡ of_json k → (j ≡ k) ⊎ ((j ≡ faults.Memory) ⊎ (k ≡ faults.Memory)) → Both a b
same_json a b j k p q (inl same) = inl (p ∙ ap of_json same ∙ sym q)
same_json a b j k p q (inr (inl memory)) = inr (inl (p ∙ ap of_json memory))
same_json a b j k p q (inr (inr memory)) = inr (inr (q ∙ ap of_json memory))

row_one : (table : Table) (d : Data) → AtMostOneFault (RefusesRowOf table d)
row_one table d a b x y = same_json a b x.0 y.0 x.2 y.2 (one_fault table d x.0 y.0 x.1 y.1)

then_one : {A : Type 0} (these : WireFault → Type 0) (reads : A → Type 0) (others : WireFault → Type 0) → AtMostOneFault these → ((made : A) → reads made → OnlyMemory these)
    → AtMostOneFault others → AtMostOneFault (Then these reads others)
then_one these reads others one ex two a b (inl x) (inl y) = one a b x y
then_one these reads others one ex two a b (inl x) (inr y) = inr (inl (ex y.0.0 y.0.1 a x))
then_one these reads others one ex two a b (inr x) (inl y) = inr (inr (ex x.0.0 x.0.1 b y))
then_one these reads others one ex two a b (inr x) (inr y) = two a b x.1 y.1

each_one : {A : Type 0} (reads : Data → A → Type 0) (refuses : Data → WireFault → Type 0) → Excludes reads refuses → ((d : Data) → AtMostOneFault (refuses d)) → (ds : Items)
    → AtMostOneFault (RefusesEach reads refuses ds)
each_one reads refuses ex one no_items a b x y = absurd x
each_one reads refuses ex one (item d ds) a b x y =
    then_one (refuses d) (reads d) (RefusesEach reads refuses ds) (one d) (λ made h. ex d made h) (λ s t. each_one reads refuses ex one ds s t) a b x y

-- a list of rows, then others
after_one : {A : Type 0} (reads : Data → A → Type 0) (table : Table) (ds : Items) (others : WireFault → Type 0) → Excludes reads (RefusesRowOf table) → AtMostOneFault others
    → AtMostOneFault (ThenAfter reads table ds others)
after_one {A = A} reads table ds others ex two =
    then_one {A = List A} (RefusesEach reads (RefusesRowOf table) ds) (ReadsEach reads ds) others (each_one reads (RefusesRowOf table) ex (row_one table) ds)
    (λ parts h. each_only reads (RefusesRowOf table) ex ds parts h) two

pub note_ex : Excludes ReadsNote (RefusesRowOf tables.Note)
note_ex d note h = row_only tables.Note d (rows.Note note) h

pub card_ex : Excludes ReadsCard (RefusesRowOf tables.Card)
card_ex d card h = row_only tables.Card d (rows.Card card) h

pub review_ex : Excludes ReadsReview (RefusesRowOf tables.Review)
review_ex d review h = row_only tables.Review d (rows.Review review) h

pub note_type_ex : Excludes ReadsNoteType (RefusesRowOf tables.NoteType)
note_type_ex d note_type h = row_only tables.NoteType d (rows.NoteType note_type) h

pub deck_ex : Excludes ReadsDeck (RefusesRowOf tables.Deck)
deck_ex d deck h = row_only tables.Deck d (rows.Deck deck) h

pub options_ex : Excludes ReadsOptions (RefusesRowOf tables.Options)
options_ex d options h = row_only tables.Options d (rows.Options options) h

chunk_one_fault : (d : Data) → AtMostOneFault (ChunkFault d)
chunk_one_fault d =
    first_one (chunk_fault d) (ChunkRowFault d)
    (after_one ReadsCard tables.Card (items_under (codes "cards") d) _ card_ex
    (after_one ReadsNote tables.Note (items_under (codes "notes") d) _ note_ex
    (each_one ReadsReview (RefusesRowOf tables.Review) review_ex (row_one tables.Review) (items_under (codes "revlog") d))))

conf_one_fault : (d : Data) → AtMostOneFault (OfJson (Tells (conf_fault d)))
conf_one_fault d a b x y = same_json a b x.0 y.0 x.2 y.2 (one_told (conf_fault d) x.0 y.0 x.1 y.1)

pub conf_only : (d : Data) (conf : Conf) → ReadsConf d conf → OnlyMemory (OfJson (Tells (conf_fault d)))
conf_only d conf h = json_only (Tells (conf_fault d)) (λ j k. conf_read_or_refused d conf j h k)

newer_one_fault : (d : Data) → AtMostOneFault (NewerFault d)
newer_one_fault d a b x y = conf_one_fault (value_under (codes "conf") d) a b x.1 y.1

newer_only : (d : Data) (newer : Option Newer) → TakesNewer d newer → OnlyMemory (NewerFault d)
newer_only d None taken fault h = let given : is_newer d ≡ true = h.0 in let not_given : is_newer d ≡ false = taken in absurd cc
newer_only d (Some newer) taken fault h = conf_only (value_under (codes "conf") d) newer.conf taken.1 fault h.1

changes_one_fault : (d : Data) → AtMostOneFault (ChangesFault d)
changes_one_fault d =
    first_one (changes_fault d) (ChangesRowFault d)
    (then_one {A = Option Newer} (NewerFault d) (TakesNewer d) _ (newer_one_fault d) (newer_only d)
    (after_one ReadsDeck tables.Deck (deck_items d) _ deck_ex
    (after_one ReadsOptions tables.Options (options_items d) _ options_ex
    (each_one ReadsNoteType (RefusesRowOf tables.NoteType) note_type_ex (row_one tables.NoteType) (items_under (codes "models") d)))))

-- ---- whole collections

-- rows of a list can't both ascend and not
ordered_or_not : (table : Table) (ds : Items) (a b : List Row) → ReadsTable table ds a → ReadsUnordered table ds b → ⊥
ordered_or_not table ds a b x y =
    let same : a ≡ b = one_each (ReadsRow table) (λ d r s. one_row_read table d r s) ds a b x.each y.each in
    let ascending : rows_after None b ≡ true = subst (λ (rs : List Row). rows_after None rs ≡ true) same x.ascending in
    let unordered : rows_after None b ≡ false = y.unordered in
    absurd cc

pub table_only : (table : Table) (ds : Items) (made : List Row) → ReadsTable table ds made → OnlyMemory (TableFault table ds)
table_only table ds made h fault (inl k) = each_only (ReadsRow table) (RefusesRowOf table) (row_only table) ds made h.each fault k
table_only table ds made h fault (inr k) = absurd (ordered_or_not table ds made k.0.0 h k.0.1)

table_one_fault : (table : Table) (ds : Items) → AtMostOneFault (TableFault table ds)
table_one_fault table ds =
    then_one {A = List Row} (RefusesEach (ReadsRow table) (RefusesRowOf table) ds) (ReadsUnordered table ds) (λ fault. fault ≡ wires.RowOrder table)
    (each_one (ReadsRow table) (RefusesRowOf table) (row_only table) (row_one table) ds) (λ made h. each_only (ReadsRow table) (RefusesRowOf table) (row_only table) ds made h.each)
    (λ a b x y. inl (x ∙ sym y))

tables_one_fault : (columns : List (Table × Key)) (d : Data) → AtMostOneFault (TablesFault columns d)
tables_one_fault [] d a b x y = absurd x
tables_one_fault (column ∷ columns) d a b x y =
    then_one {A = List Row} (TableFault column.0 (table_items column d)) (ReadsTable column.0 (table_items column d)) (TablesFault columns d) (table_one_fault column.0 (table_items column d))
    (λ made h. table_only column.0 (table_items column d) made h) (λ s t. tables_one_fault columns d s t) a b x y

whole_one_fault : (form : Form) (columns : List (Table × Key)) (d : Data) → AtMostOneFault (WholeFault form columns d)
whole_one_fault form columns d =
    first_one (object_fault form d) (PartsFault columns d)
    (then_one {A = Conf} (OfJson (Tells (conf_fault (value_under (codes "conf") d)))) (ReadsConf (value_under (codes "conf") d)) (TablesFault columns d)
    (conf_one_fault (value_under (codes "conf") d)) (λ conf h. conf_only (value_under (codes "conf") d) conf h) (tables_one_fault columns d))

-- ---- bodies

pub ask_one_fault : (method : Method) (d : Data) → AtMostOneFault (AskFault method d)
ask_one_fault methods.Meta d = is_one _
ask_one_fault methods.Start d = is_one _
ask_one_fault methods.ApplyGraves d = is_one _
ask_one_fault methods.ApplyChanges d = first_one _ _ (changes_one_fault (value_under (codes "changes") d))
ask_one_fault methods.Chunk d = is_one _
ask_one_fault methods.ApplyChunk d = first_one _ _ (chunk_one_fault (value_under (codes "chunk") d))
ask_one_fault methods.SanityCheck2 d = is_one _
ask_one_fault methods.Finish d = is_one _
ask_one_fault methods.Upload d = whole_one_fault upload_form upload_tables d
ask_one_fault methods.Download d = is_one _

give_one_fault : (method : Method) (d : Data) → AtMostOneFault (GiveFault method d)
give_one_fault methods.Meta d = is_one _
give_one_fault methods.Start d = is_one _
give_one_fault methods.ApplyGraves d = is_one _
give_one_fault methods.ApplyChanges d = changes_one_fault d
give_one_fault methods.Chunk d = chunk_one_fault d
give_one_fault methods.ApplyChunk d = is_one _
give_one_fault methods.SanityCheck2 d = is_one _
give_one_fault methods.Finish d = is_one _
give_one_fault methods.Upload d = is_one _
give_one_fault methods.Download d = whole_one_fault download_form download_tables d

either_one_fault : (granted : Bool) (method : Method) (d : Data) → AtMostOneFault (EitherFault granted method d)
either_one_fault true method d = give_one_fault method d
either_one_fault false method d = is_one _

pub reply_one_fault : (status : ℕ) (method : Method) (d : Data) → AtMostOneFault (ReplyFault status method d)
reply_one_fault status method d = either_one_fault (status == 200) method d

-- a body that is JSON is not refused as none
pub json_or_not : (body : List ℕ) (d : Data) → IsJsonOf body d → IsNoJson body → ⊥
json_or_not body d x y = let some : read body ≡ Some d = x.reads in let no : read body ≡ None = y x.utf8 in absurd cc

abbrev pub Refused : (Data → WireFault → Type 0) → List ℕ → WireFault → Type 0
Refused faults_of body fault = (IsNoJson body × (fault ≡ wires.Json faults.NotJson)) ⊎ ((d : Data) × IsJsonOf body d × faults_of d fault)

refused_one : (faults_of : Data → WireFault → Type 0) → ((d : Data) → AtMostOneFault (faults_of d)) → (body : List ℕ) (a b : WireFault) → Refused faults_of body a → Refused faults_of body b → Both a b
refused_one faults_of one body a b (inl x) (inl y) = inl (x.1 ∙ sym y.1)
refused_one faults_of one body a b (inl x) (inr y) = absurd (json_or_not body y.0 y.1 x.0)
refused_one faults_of one body a b (inr x) (inl y) = absurd (json_or_not body x.0 x.1 y.0)
refused_one faults_of one body a b (inr x) (inr y) =
    let same : x.0 ≡ y.0 = one_value body x.0 y.0 x.1 y.1 in
    one y.0 a b (subst (λ (d : Data). faults_of d a) same x.2) y.2

-- of faults that are one of these or out of memory
pub or_memory : (these : WireFault → Type 0) (fault : WireFault) → OrMemory these fault → these fault ⊎ (fault ≡ wires.Memory)
or_memory these (wires.Json json) h = inl h
or_memory these (wires.TooManyRows entries) h = inl h
or_memory these (wires.RowOrder table) h = inl h
or_memory these wires.Memory h = inr refl

both_one : (these : WireFault → Type 0) (a b : WireFault) → ((x : these a) (y : these b) → Both a b) → these a ⊎ (a ≡ wires.Memory) → these b ⊎ (b ≡ wires.Memory) → Both a b
both_one these a b one (inl x) (inl y) = one x y
both_one these a b one (inl x) (inr y) = inr (inr y)
both_one these a b one (inr x) y = inr (inl x)

pub body_one_fault : (faults_of : Data → WireFault → Type 0) → ((d : Data) → AtMostOneFault (faults_of d)) → (body : List ℕ) → AtMostOneFault (RefusesBody faults_of body)
body_one_fault faults_of one body a b x y =
    both_one (Refused faults_of body) a b (λ s t. refused_one faults_of one body a b s t) (or_memory (Refused faults_of body) a x) (or_memory (Refused faults_of body) b y)
