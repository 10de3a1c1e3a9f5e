-- The page that a user reads: the questions, what each call leaves behind, and what is promised of it. The calls with their contracts are in Calls.antt,
-- the proofs in proofs/Kept.antt.
-- Assumes nothing.
use Rattle.std.specs.Prelude.{◌≡◌, Bool, true, false, not, ◌⊎◌, List, [], ◌∷◌, ◌++◌, map, ℕ, ◌+◌, ◌*◌, ◌≤◌, ◌<◌, T, length, get_or, replicate, take, drop}
use Rattle.machine.specs.Machine.{ok, run, FirstAt}
use Rattle.cursor.specs.Rows.{Events}
use Rattle.cursor.specs.Refusals.{no_row_left, no_such_row, bad_text, bad_sheet, of_reader, in_file, is_one_of, is_allowed}
use Rattle.room.specs.Room.{no_room}
use Rattle.room.specs.Parts.{part}
use Rattle.cursor.specs.declared.Node.{Node}
use Rattle.cursor.specs.declared.Item.{Item}
use Rattle.header.specs.Header.{Header}
use Rattle.metadata.specs.Tables.{limits, most_nodes, most_items}
use Rattle.rows.specs.Rows.{node_width, item_width, item_words, nodes_of, items_of, node_at}
use Rattle.file.specs.Reading.{Reading, rows, refusal, read_file, node_table, item_table}
use Rattle.file.specs.Steps.{steps}
use Rattle.file.specs.Asking.{Asks, Result, good, bad, ask, Counts, counts}
use Rattle.file_laws.specs.Private.{DifferInPrivate}
use Rattle.file.specs.Own.{Numbered}
use Rattle.find.specs.Find as find
use Rattle.resolve.specs.Resolve as resolve
use Rattle.account.specs.Account.{kind_at, IsOf, places_of, events_of, kinds_of, sum_over}
use Rattle.account.specs.ByPlace.{kind_by_rows}
use Rattle.account.specs.Totals as totals
use Rattle.account.specs.Totals.{added, after_refusal, allowed}
use Rattle.account.specs.Told.{kind_words, total_words}
use Rattle.account.specs.declared.Kinds.{Kinds}
use Rattle.account.specs.declared.Totals.{Totals}
use Rattle.description.specs.Count as count
use Rattle.mobile.specs.Mobile as mobile
use Rattle.sheet.specs.Sheet as sheet
use Rattle.editions.specs.Sheets as mover
use Rattle.editions.specs.Sheets.{WellFormed, OtherEdition}
use Rattle.title_text.specs.Description.{described, retitled}
use Rattle.title_text.specs.Title as title
use Rattle.title_text.specs.Title.{Bytes, Says, NowhereLonger}
use Rattle.mend.specs.Fields.{Fields, fields, Hold, Elsewhere}
use Rattle.mend.specs.Mend as mend
use Rattle.mend.specs.Mend.{with_field, set_to, last_of, mended, changes}
use Rattle.room.specs.Room as room
use Rattle.utf16.specs.Unicode as unicode
use Rattle.id3.specs.Frames as id3
use Rattle.id3.specs.declared.TagFrame.{TagFrame}

-- ---- questions

-- what a call is asked, besides the file: every argument that is no table and no buffer to be filled. The last five have no file.
pub data Question : Type 0 where
  read_tree : Question
  find_item : find.Wanted → (row : ℕ) → Question
  find_own : find.Wanted → (row : ℕ) → Question
  resolve_row : (row : ℕ) → Question
  copy_resource : (row : ℕ) → Question
  count_for : (item channel resource : ℕ) → Question
  judge_mobile : Question
  account_bytes : Totals → Question
  write_sheet : Question
  write_sheet2 : Question
  correct_title : (item : ℕ) → (title : List ℕ) → Question
  mend_header : Question
  to_utf8 : (units : List ℕ) → Question
  to_utf16 : (text : List ℕ) → Question
  move_sheet : (sheet : List ℕ) → Question
  count_frames : (tag : List ℕ) → Question
  tag_frame : (tag : List ℕ) → (number : ℕ) → Question

-- The sizes of what is lent, in the order of the call: with a file the node table and the item table, in words; then buffers, in bytes.
abbrev pub Sizes : Type 0
Sizes = List ℕ

abbrev pub size : Sizes → ℕ → ℕ
size ls i = get_or ls i 0

-- what a file reads as, with the tables lent
unfoldable pub reads : Sizes → List ℕ → Reading
reads ls f = read_file (limits (size ls 0) (size ls 1)) f

-- ---- what is said of a question; A is what its answers are

-- what it asks: of a file that is accepted, its bytes, its header and its rows; of a file's bytes, accepted or not; or of lent data alone, and there is no file
pub data Asked (A : Type 0) : Type 0 where
  of_rows : Asks A → Asked A
  of_bytes : (List ℕ → Result A) → Asked A
  of_data : Result A → Asked A

-- whose rows the two tables hold after an answer: there are no tables; those of the file that was asked about; those of the file that was written
pub data Tables (A : Type 0) : Type 0 where
  no_tables : Tables A
  of_file : Tables A
  of_written : (A → List ℕ) → Tables A

-- A lent table or buffer, with what it holds after an answer: one that the call fills, whatever it held; one that it fills with a file, which has private bytes of
-- the file that was asked about, and zeros behind it; one that it fills with a part of that file, whose place and length are the answer's first values, and zeros
-- behind it; a refusal clears these. Or one that the call changes: what a refusal leaves there is said by its number.
pub data Lent (A : Type 0) : Type 0 where
  filled : (size : ℕ) → (A → List ℕ) → Lent A
  copied : (size : ℕ) → (A → List ℕ) → Lent A
  given : (size : ℕ) → Lent A
  changed : (refused : (number : ℕ) → List ℕ) → (A → List ℕ) → Lent A

-- One entry a question: what it asks, with sizes lent; the answer's values, and how many; the refusals that it may give; what the tables hold; what else is lent.
pub record About : Type 1 where
  pub Answer : Type 0
  pub asks : Sizes → Asked Answer
  pub values : Answer → List ℕ
  pub number : ℕ
  pub refusals : List ℕ
  pub tables : Tables Answer
  pub buffers : Sizes → List (Lent Answer)

-- a question of a file's rows, with no other room than the tables: what it asks, the values, how many, and the refusals of its own
abbrev pub over_rows : {A : Type 0} → Asks A → (A → List ℕ) → ℕ → List ℕ → About
over_rows {A} question values number own =
    record { Answer = A; asks = λ ls. of_rows question; values = values; number = number; refusals = of_reader ++ own; tables = of_file; buffers = λ ls. [] }

-- the values of answers: version, node rows, item rows; the item row's number and its ten words; place, length, row, references followed; one number; the number of bytes;
-- of a copy and of its lines; a frame's name, place and length
abbrev pub tree_values : Counts → List ℕ
tree_values c = c.version ∷ c.nodes ∷ c.items ∷ []

abbrev pub item_values : Numbered → List ℕ
item_values i = i.row ∷ item_words i.item

abbrev pub resource_values : resolve.Resource → List ℕ
resource_values r = r.place ∷ r.size ∷ r.row ∷ r.hops ∷ []

abbrev pub one_value : ℕ → List ℕ
one_value n = n ∷ []

abbrev pub size_value : List ℕ → List ℕ
size_value s = one_value (length s)

abbrev pub mended_values : mend.Mended → List ℕ
mended_values m = length m.copy ∷ length m.lines ∷ []

abbrev pub frame_values : TagFrame → List ℕ
frame_values x = x.name ∷ x.place ∷ x.size ∷ []

-- a buffer for the bytes that a call writes, with zeros to its end
abbrev pub bytes : ℕ → Lent (List ℕ)
bytes n = filled n (room.padded n)

-- a question of a file's rows that writes bytes into a buffer behind the tables: what it asks, by the bytes of room, and the refusals of its own
abbrev pub rows_into_room : ((room : ℕ) → Asks (List ℕ)) → List ℕ → About
rows_into_room question own = record {
  Answer = List ℕ;
  asks = λ ls. of_rows (question (size ls 2));
  values = size_value;
  number = 1;
  refusals = of_reader ++ own;
  tables = of_file;
  buffers = λ ls. bytes (size ls 2) ∷ [];
}

-- a question of lent data alone that writes bytes into a buffer: the bytes, and its refusals
abbrev pub data_into_room : Result (List ℕ) → List ℕ → About
data_into_room text own = record {
  Answer = List ℕ;
  asks = λ ls. of_data (room.fitting (size ls 0) text);
  values = size_value;
  number = 1;
  refusals = own;
  tables = no_tables;
  buffers = λ ls. bytes (size ls 0) ∷ [];
}

-- a question of lent data alone, with no room: the answer, its values, how many, and its refusals
abbrev pub over_data : {A : Type 0} → Result A → (A → List ℕ) → ℕ → List ℕ → About
over_data {A} answer values number own = record { Answer = A; asks = λ ls. of_data answer; values = values; number = number; refusals = own; tables = no_tables; buffers = λ ls. [] }

abbrev pub about : Question → About
about read_tree = over_rows counts tree_values 3 []
about (find_item w row) = over_rows (find.find w row) item_values 11 find.refusals
about (find_own w row) = over_rows (find.find_own w row) item_values 11 find.refusals
about (resolve_row row) = over_rows (resolve.resolve row) resource_values 4 resolve.refusals
about (copy_resource row) = record {
  Answer = resolve.Resource;
  asks = λ ls. of_rows (resolve.copy_into row (size ls 2));
  values = resource_values;
  number = 4;
  refusals = of_reader ++ resolve.copy_refusals;
  tables = of_file;
  buffers = λ ls. given (size ls 2) ∷ [];
}
about (count_for item channel resource) = over_rows (count.count_for item channel resource) one_value 1 count.refusals
about judge_mobile = over_rows mobile.mobile one_value 1 []
about (account_bytes t) = record {
  Answer = Kinds;
  asks = λ ls. of_bytes (λ f. allowed t (ask (reads ls f) (kinds_of (limits (size ls 0) (size ls 1)) f)));
  values = kind_words;
  number = 9;
  refusals = of_reader ++ totals.refusals;
  tables = of_file;
  buffers = λ ls. changed (λ n. total_words (after_refusal t n)) (λ k. total_words (added t k)) ∷ [];
}
about write_sheet = rows_into_room sheet.write sheet.refusals
about write_sheet2 = rows_into_room sheet.write2 sheet.refusals
about (correct_title i text) = record {
  Answer = List ℕ;
  asks = λ ls. of_rows (title.correct_title i text (size ls 2));
  values = size_value;
  number = 1;
  refusals = of_reader ++ title.refusals;
  tables = of_written (λ g. g);
  buffers = λ ls. copied (size ls 2) (λ g. g) ∷ [];
}
about mend_header = record {
  Answer = mend.Mended;
  asks = λ ls. of_bytes (mend.mend (limits (size ls 0) (size ls 1)) (size ls 2) (size ls 3));
  values = mended_values;
  number = 2;
  refusals = of_reader ++ mend.refusals;
  tables = of_written (λ m. m.copy);
  buffers = λ ls. copied (size ls 2) (λ m. m.copy) ∷ filled (size ls 3) (λ m. room.padded (size ls 3) m.lines) ∷ [];
}
about (to_utf8 units) = data_into_room (unicode.to_utf8 units) unicode.refusals
about (to_utf16 text) = data_into_room (unicode.to_utf16 text) unicode.refusals
about (move_sheet s) = data_into_room (mover.move s) mover.refusals
about (count_frames tag) = over_data (id3.frame_count tag) one_value 1 id3.count_refusals
about (tag_frame tag i) = over_data (id3.frame_at i tag) frame_values 3 id3.frame_refusals

-- ---- what a call leaves

-- its answer in words (the refusal's number and place, 0 and 0 if there is none; then the values), and what each table and buffer finally holds
pub record Outcome : Type 0 where
  pub answer : List ℕ
  pub holds : List (List ℕ)

abbrev pub saying : {A : Type 0} → (values : A → List ℕ) → Result A → List ℕ
saying values (good a) = 0 ∷ 0 ∷ values a
saying values (bad n p) = n ∷ p ∷ []

-- what is lent, tables first
abbrev pub row_tables : {A : Type 0} → Sizes → (A → List ℕ) → List (Lent A)
row_tables ls file = filled (size ls 0) (λ a. node_table (size ls 0) (reads ls (file a))) ∷ filled (size ls 1) (λ a. item_table (size ls 1) (reads ls (file a))) ∷ []

abbrev pub tables_lent : {A : Type 0} → Sizes → (file : List ℕ) → Tables A → List (Lent A)
tables_lent ls f no_tables = []
tables_lent ls f of_file = row_tables ls (λ a. f)
tables_lent ls f (of_written file) = row_tables ls file

abbrev pub lent : (q : About) → Sizes → (file : List ℕ) → List (Lent q.Answer)
lent q ls f = tables_lent ls f q.tables ++ q.buffers ls

-- what a refusal leaves in it, and what either leaves
abbrev pub on_refusal : {A : Type 0} → (number : ℕ) → Lent A → List ℕ
on_refusal n (filled size w) = replicate size 0
on_refusal n (copied size w) = replicate size 0
on_refusal n (given size) = replicate size 0
on_refusal n (changed refused w) = refused n

abbrev pub holding : {A : Type 0} → (file answer : List ℕ) → Result A → Lent A → List ℕ
holding f ws (good a) (filled size w) = w a
holding f ws (good a) (copied size w) = room.padded size (w a)
holding f ws (good a) (given size) = room.padded size (part f (get_or ws 2 0) (get_or ws 3 0))
holding f ws (good a) (changed refused w) = w a
holding f ws (bad n p) l = on_refusal n l

-- what is answered
abbrev pub answer_to : {A : Type 0} → Sizes → (file : List ℕ) → Asked A → Result A
answer_to ls f (of_rows question) = ask (reads ls f) (question f)
answer_to ls f (of_bytes question) = question f
answer_to ls f (of_data r) = r

unfoldable pub leaves : (q : About) → Sizes → (file : List ℕ) → Result q.Answer → Outcome
leaves q ls f r = record { answer = saying q.values r; holds = map (holding f (saying q.values r) r) (lent q ls f) }

-- each question's outcome
unfoldable pub outcome : Question → Sizes → (file : List ℕ) → Outcome
outcome q ls f = leaves (about q) ls f (answer_to ls f ((about q).asks ls))

-- the second call of resolve gives a part of the file itself; its tables are the first call's
unfoldable pub resource : (row : ℕ) → Sizes → (file : List ℕ) → List ℕ
resource row ls f = resolve.part f (ask (reads ls f) (resolve.resolve row f))

-- ---- Demand 1. Whatever the bytes, the sizes and the question, a call's outcome is a refusal or an answer.

-- a refusal: number and place, of those the question may give, with place 0 where no field is named, and a place of the file or its end where one of its fields is;
-- every table and buffer is cleared, or left as its entry says
abbrev pub IsRefusal : About → Sizes → (file : List ℕ) → Outcome → Type 0
IsRefusal q ls f o =
    (n : ℕ) × (p : ℕ) × (o.answer ≡ n ∷ p ∷ []) × T (is_allowed q.refusals n p) × (T (is_one_of n in_file) → p ≤ length f) × (o.holds ≡ map (on_refusal n) (lent q ls f))

-- the file is accepted
abbrev pub Accepted : Sizes → (file : List ℕ) → Type 0
Accepted ls f = (h : Header) × (ns : List Node) × (is : List Item) × (reads ls f ≡ rows h ns is)

-- it is accepted, and the two tables hold its rows
abbrev pub InTables : Sizes → (file : List ℕ) → Outcome → Type 0
InTables ls f o = Accepted ls f × (take 2 o.holds ≡ node_table (size ls 0) (reads ls f) ∷ item_table (size ls 1) (reads ls f) ∷ [])

-- the file that was written: of the first buffer as many bytes as the answer says
abbrev pub new_file : Outcome → List ℕ
new_file o = take (get_or o.answer 2 0) (get_or o.holds 2 [])

-- what is asked of rows is answered of an accepted file only
abbrev pub AnsweredOf : {A : Type 0} → Asked A → Sizes → (file : List ℕ) → Type 0
AnsweredOf (of_rows question) ls f = Accepted ls f
AnsweredOf (of_bytes question) ls f = Unit {0}
AnsweredOf (of_data r) ls f = Unit {0}

-- the tables hold the rows of the file that was asked about, or of the one that was written
abbrev pub Shows : {A : Type 0} → Tables A → Sizes → (file : List ℕ) → Outcome → Type 0
Shows no_tables ls f o = Unit {0}
Shows of_file ls f o = InTables ls f o
Shows (of_written file) ls f o = InTables ls (new_file o) o

-- an answer: no refusal, and the question's values
abbrev pub IsAnswer : About → Sizes → (file : List ℕ) → Outcome → Type 0
IsAnswer q ls f o = (vs : List ℕ) × (o.answer ≡ 0 ∷ 0 ∷ vs) × (length vs ≡ q.number) × AnsweredOf (q.asks ls) ls f × Shows q.tables ls f o

-- Where resolve is refused, its second call gives an empty part. No refusal clears the totals: 32 keeps them, any other counts one more file and one more refused.
-- Refusal 26 of a conversion is placed in the text that was given.
abbrev pub Demand1 : Type 0
Demand1 = ((q : Question) (ls : Sizes) (f : List ℕ) → IsRefusal (about q) ls f (outcome q ls f) ⊎ IsAnswer (about q) ls f (outcome q ls f))
    × ((row : ℕ) (ls : Sizes) (f : List ℕ) → IsRefusal (about (resolve_row row)) ls f (outcome (resolve_row row) ls f) → resource row ls f ≡ [])
    × ((t : Totals) (ls : Sizes) (f : List ℕ) (n p : ℕ) → (outcome (account_bytes t) ls f).answer ≡ n ∷ p ∷ [] → get_or (outcome (account_bytes t) ls f).holds 2 [] ≡ total_words (after_refusal t n))
    × ((units : List ℕ) (ls : Sizes) (f : List ℕ) (p : ℕ) → (outcome (to_utf8 units) ls f).answer ≡ bad_text ∷ p ∷ [] → p < length units)
    × ((text : List ℕ) (ls : Sizes) (f : List ℕ) (p : ℕ) → (outcome (to_utf16 text) ls f).answer ≡ bad_text ∷ p ∷ [] → p < length text)

-- ---- Demand 2. Each call leaves its question's outcome: `EachLeaves` in Calls.antt. What a file reads as is `read_file`;
-- its tables only limit it: a file is accepted exactly when it is accepted with full tables and its rows fit the tables lent, and then it has the same rows.

abbrev pub full : Sizes
full = most_nodes * node_width ∷ most_items * item_width ∷ []

abbrev pub Fit : Sizes → List Node → List Item → Type 0
Fit ls ns is = (length ns * node_width ≤ size ls 0) × (length is * item_width ≤ size ls 1)

abbrev pub FitsExactly : Type 0
FitsExactly = (ls : Sizes) (f : List ℕ) (h : Header) (ns : List Node) (is : List Item)
    → (reads ls f ≡ rows h ns is → (reads full f ≡ rows h ns is) × Fit ls ns is) × (reads full f ≡ rows h ns is → Fit ls ns is → reads ls f ≡ rows h ns is)

-- And what is refused is refused for the first thing that applies. With the tables lent a file is read step by step as with full ones: every byte that is read and
-- everything that is passed over are the same, to the end or the refusal; or up to the first row for which none is left.
abbrev pub steps_of : Sizes → List ℕ → Events
steps_of ls f = steps (limits (size ls 0) (size ls 1)) f

-- the rows of an accepted file are those that these steps make
abbrev pub StepsMake : Type 0
StepsMake = (ls : Sizes) (f : List ℕ) (h : Header) (ns : List Node) (is : List Item) → reads ls f ≡ rows h ns is → (nodes_of (steps_of ls f) ≡ ns) × (items_of (steps_of ls f) ≡ is)

-- There 10 comes first, at the place that the reading came to: as many rows were made as there is room for, and with full tables the reading goes on at that place,
-- or is refused there.
pub record OutOfRows (ls : Sizes) (f : List ℕ) : Type 0 where
  pub place : ℕ
  pub refused : reads ls f ≡ refusal no_row_left place
  pub none_left : ((limits (size ls 0) (size ls 1)).nodes ≤ length (nodes_of (steps_of ls f))) ⊎ ((limits (size ls 0) (size ls 1)).items ≤ length (items_of (steps_of ls f)))
  pub rest : Events
  pub goes_on : steps_of full f ≡ steps_of ls f ++ rest
  pub next : FirstAt place rest

abbrev pub FirstApplies : Type 0
FirstApplies = (ls : Sizes) (f : List ℕ) → ((reads ls f ≡ reads full f) × (steps_of ls f ≡ steps_of full f)) ⊎ OutOfRows ls f

-- Of the rows of an accepted file: the path of find ends at the root, row 0, since a row of the tree other than the root has a smaller parent; that of a detached
-- row is the row alone.
abbrev pub UntilRoot : Type 0
UntilRoot = (ls : Sizes) (f : List ℕ) (h : Header) (ns : List Node) (is : List Item) → reads ls f ≡ rows h ns is → (row : ℕ) → row < length ns
    → (((node_at ns row).detached ≡ 0) × ((row ≡ 0) ⊎ ((node_at ns row).parent < row)) × ((above : List ℕ) × (find.path ns row ≡ above ++ 0 ∷ [])))
    ⊎ (((node_at ns row).detached ≡ 1) × (find.path ns row ≡ row ∷ []))

-- And a byte of a detached node is none of the header, none of the tree and none of another detached node.
abbrev pub ByteOf : List Node → (row k : ℕ) → Type 0
ByteOf ns row k = (row < length ns) × ((node_at ns row).detached ≡ 1) × ((node_at ns row).start ≤ k) × (k < (node_at ns row).start + (node_at ns row).size)

abbrev pub LieApart : Type 0
LieApart = (ls : Sizes) (f : List ℕ) (h : Header) (ns : List Node) (is : List Item) → reads ls f ≡ rows h ns is → (row k : ℕ) → ByteOf ns row k
    → (h.extent.end ≤ k) × ((k < h.extent.start) ⊎ (h.extent.last < k)) × ((other : ℕ) → ByteOf ns other k → other ≡ row)

-- ---- Demand 3. Two files of equal length, the first accepted with the tables lent, alike but for data bytes of its hidden contents in custom fields or in
-- standard fields other than 0, 3 and 13, inline data of its file nodes, and bytes outside header, tree and detached nodes: the second is accepted too, every
-- question leaves the same of both, to the last word and byte, and the part that the second call of resolve gives, whose place is the third word of
-- resolve's answer, differs only where the files do, also where it is copied. The file that the correction of a title writes, and the copy whose header is mended, hold the file's
-- hidden bytes, so for two files alike but for those the answer, the lines, the tables and the length agree, and the written files differ at private places of the first of them alone.

-- two parts of equal length, which stand in the files f and g at the same place, differ only where the files do
abbrev pub OnlyThere : (f g : List ℕ) (place : ℕ) (x y : List ℕ) → Type 0
OnlyThere f g place x y = (length x ≡ length y) × ((k : ℕ) → k < length x → get_or f (place + k) 0 ≡ get_or g (place + k) 0 → get_or x k 0 ≡ get_or y k 0)

-- where the first of two files is accepted with the tables lent, they differ at its private places alone: so this demand is kept for them in turn
abbrev pub PrivateAlone : Sizes → (f g : List ℕ) → Type 0
PrivateAlone ls f g = (h : Header) (ns : List Node) (is : List Item) → reads ls f ≡ rows h ns is → DifferInPrivate h ns is f g

-- What two calls of a question that answered `ws` leave in what they are lent, of the files f and g: the same. A file that was written differs from the other at
-- private places alone, and a part that was given only where the files do; behind these the buffers are the same.
abbrev pub AlikeIn : {A : Type 0} → Sizes → (f g ws : List ℕ) → Lent A → (x y : List ℕ) → Type 0
AlikeIn ls f g ws (filled size w) x y = y ≡ x
AlikeIn ls f g ws (copied size w) x y = let n : ℕ = get_or ws 2 0 in PrivateAlone ls (take n x) (take n y) × (drop n y ≡ drop n x)
AlikeIn ls f g ws (given size) x y = let n : ℕ = get_or ws 3 0 in OnlyThere f g (get_or ws 2 0) (take n x) (take n y) × (drop n y ≡ drop n x)
AlikeIn ls f g ws (changed refused w) x y = y ≡ x

abbrev pub EachAlike : {A : Type 0} → Sizes → (f g ws : List ℕ) → List (Lent A) → (x y : List (List ℕ)) → Type 0
EachAlike ls f g ws [] x y = y ≡ x
EachAlike ls f g ws (l ∷ lends) [] y = ⊥
EachAlike ls f g ws (l ∷ lends) (x ∷ xs) [] = ⊥
EachAlike ls f g ws (l ∷ lends) (x ∷ xs) (y ∷ ys) = AlikeIn ls f g ws l x y × EachAlike ls f g ws lends xs ys

-- the outcomes o and o' of a question, of the files f and g, are alike
abbrev pub OutcomesAlike : About → Sizes → (f g : List ℕ) (o o' : Outcome) → Type 0
OutcomesAlike q ls f g o o' = (o'.answer ≡ o.answer) × EachAlike ls f g o.answer (lent q ls f) o.holds o'.holds

abbrev pub Demand3 : Type 0
Demand3 = (q : Question) (ls : Sizes) (f g : List ℕ) (h : Header) (ns : List Node) (is : List Item)
    → reads ls f ≡ rows h ns is → DifferInPrivate h ns is f g
    → (reads ls g ≡ rows h ns is) × OutcomesAlike (about q) ls f g (outcome q ls f) (outcome q ls g)
    × ((row : ℕ) → OnlyThere f g (get_or (outcome (resolve_row row) ls f).answer 2 0) (resource row ls f) (resource row ls g))

-- So the demand holds in turn of the two files that a correction writes for two such files: every question, the sheet first, leaves alike of both.
abbrev pub InTurn : Type 0
InTurn = (i : ℕ) (text : List ℕ) (q : Question) (ls : Sizes) (f g : List ℕ) (h : Header) (ns : List Node) (is : List Item)
    → reads ls f ≡ rows h ns is → DifferInPrivate h ns is f g
    → let x : List ℕ = new_file (outcome (correct_title i text) ls f) in let y : List ℕ = new_file (outcome (correct_title i text) ls g) in OutcomesAlike (about q) ls x y (outcome q ls x) (outcome q ls y)

-- ---- The correction of a title. Where it is answered, f was accepted and g was written: g is accepted with the tables lent and says what f says with that
-- content replaced, so that its tree, other contents and resources are the old ones, and only places, lengths and that data differ. The same title again
-- leaves the same, to the last word and byte. And each number in it is the least: of all files that are accepted, with whatever tables, and that say the same,
-- none is shorter, none has a tree that starts or ends earlier, and none has a shorter node or a shorter node's header. Nor is any other file
-- of bytes that says the same as short: so no number in it, also where no row shows it, has a padding byte.

pub record Correction (i : ℕ) (text : List ℕ) (ls : Sizes) (f g : List ℕ) : Type 0 where
  pub header : Header
  pub nodes : List Node
  pub items : List Item
  pub accepted : reads ls f ≡ rows header nodes items
  pub says : Says (limits (size ls 0) (size ls 1)) g (retitled i text (described f header nodes items))
  pub least : (ls' : Sizes) (g' : List ℕ) (other : Says (limits (size ls' 0) (size ls' 1)) g' (retitled i text (described f header nodes items))) → NowhereLonger says other
  pub only : (ls' : Sizes) (g' : List ℕ) → Bytes g' → Says (limits (size ls' 0) (size ls' 1)) g' (retitled i text (described f header nodes items)) → length g' ≤ length g → g' ≡ g
  pub again : outcome (correct_title i text) ls g ≡ outcome (correct_title i text) ls f

abbrev pub Corrects : Type 0
Corrects = (i : ℕ) (text : List ℕ) (ls : Sizes) (f : List ℕ) (n : ℕ) → (outcome (correct_title i text) ls f).answer ≡ 0 ∷ 0 ∷ n ∷ [] → Correction i text ls f (new_file (outcome (correct_title i text) ls f))

-- ---- Mending the header (02, E11). The fields FileLength and TreeEnd are wrong; `mended f` is f with the number of bytes lent in the one and the place of the root's last byte in the
-- other, in the bytes that they have, and `changes f` is a line for each that changed.

-- both can be read as numbers, and some values of them, which their bytes hold, make a file that is accepted with the tables lent
pub record Mendable (ls : Sizes) (f : List ℕ) : Type 0 where
  pub read : Fields
  pub next : ℕ
  pub reads_so : run (fields (length f)) f 0 ≡ ok read next
  pub a : ℕ
  pub b : ℕ
  pub hold : Hold read a b
  pub accepted : Accepted ls (set_to f read a b)

-- what is left by a call that wrote this copy and these lines
abbrev pub wrote_copy : Sizes → (copy lines : List ℕ) → Outcome
wrote_copy ls g l = record {
  answer = 0 ∷ 0 ∷ length g ∷ length l ∷ [];
  holds = node_table (size ls 0) (reads ls g) ∷ item_table (size ls 1) (reads ls g) ∷ room.padded (size ls 2) g ∷ room.padded (size ls 3) l ∷ [];
}

-- Then the mended file is accepted, and is the only one that such values give; it differs from f at the two fields alone. With room for it and for its lines the call leaves them, and
-- otherwise it is refused with 22. And mending again changes nothing and gives no line.
pub record Mends (ls : Sizes) (f : List ℕ) (w : Fields) : Type 0 where
  pub accepted : Accepted ls (mended f)
  pub right : (mended f ≡ set_to f w (length f) (last_of f w)) × Hold w (length f) (last_of f w)
  pub only : (a b : ℕ) → Hold w a b → Accepted ls (set_to f w a b) → set_to f w a b ≡ mended f
  pub same_length : length (mended f) ≡ length f
  pub elsewhere : (k : ℕ) → Elsewhere w k → get_or (mended f) k 0 ≡ get_or f k 0
  pub written : length f ≤ size ls 2 → length (changes f) ≤ size ls 3 → outcome mend_header ls f ≡ wrote_copy ls (mended f) (changes f)
  pub short : (size ls 2 < length f) ⊎ (size ls 3 < length (changes f)) → (outcome mend_header ls f).answer ≡ no_room ∷ 0 ∷ []
  pub again : length f ≤ size ls 2 → outcome mend_header ls (mended f) ≡ wrote_copy ls (mended f) []

-- Otherwise it is refused, as the unchanged file is. So apart from room it is refused exactly when either field cannot be read or no values of them make an accepted file.
abbrev pub RefusedAsIs : Sizes → (file : List ℕ) → Type 0
RefusedAsIs ls f = (n : ℕ) × (p : ℕ) × (reads ls f ≡ refusal n p) × ((outcome mend_header ls f).answer ≡ n ∷ p ∷ [])

abbrev pub MendsExactly : Type 0
MendsExactly = (ls : Sizes) (f : List ℕ) → ((m : Mendable ls f) × Mends ls f m.read) ⊎ ((Mendable ls f → ⊥) × RefusedAsIs ls f)

-- A file of bytes that is accepted is mended to itself, with no line; and whatever values, which their bytes hold, were written over its two fields, to the very file. A field that says
-- what is right keeps its bytes: setting it to that changes nothing.
pub record Restored (ls : Sizes) (g : List ℕ) (w : Fields) : Type 0 where
  pub itself : length g ≤ size ls 2 → outcome mend_header ls g ≡ wrote_copy ls g []
  pub back : (a b : ℕ) → Hold w a b → let f : List ℕ = set_to g w a b in length g ≤ size ls 2 → length (changes f) ≤ size ls 3 → outcome mend_header ls f ≡ wrote_copy ls g (changes f)

abbrev pub MendsBack : Type 0
MendsBack = (ls : Sizes) (g : List ℕ) → Bytes g → Accepted ls g → (w : Fields) (next : ℕ) → run (fields (length g)) g 0 ≡ ok w next → Restored ls g w

abbrev pub KeepsRight : Type 0
KeepsRight = (f : List ℕ) → Bytes f → (w : Fields) (next : ℕ) → run (fields (length f)) f 0 ≡ ok w next → (with_field f w.length w.length.value ≡ f) × (with_field f w.last w.last.value ≡ f)

-- Demand 3 of files that are mended: where two files differ at private places of the first one's mended file alone, the answer, the lines and the tables agree, and the copies differ
-- exactly where the files do.
abbrev pub ExactlyThere : (f g x y : List ℕ) → Type 0
ExactlyThere f g x y = (length x ≡ length y) × ((k : ℕ) → k < length x → (get_or f k 0 ≡ get_or g k 0 → get_or x k 0 ≡ get_or y k 0) × (get_or x k 0 ≡ get_or y k 0 → get_or f k 0 ≡ get_or g k 0))

abbrev pub MendsAlike : Type 0
MendsAlike = (ls : Sizes) (f g : List ℕ) (h : Header) (ns : List Node) (is : List Item) → reads ls (mended f) ≡ rows h ns is → DifferInPrivate h ns is f g
    → OutcomesAlike (about mend_header) ls f g (outcome mend_header ls f) (outcome mend_header ls g) × ExactlyThere f g (new_file (outcome mend_header ls f)) (new_file (outcome mend_header ls g))

-- ---- The two conversions of text (02, E6). Going there and back returns the same units, and back and there the same bytes, but for one leading mark, which is
-- FE FF in the one and EF BB BF in the other: where the first conversion is answered, and the room for the second is as large as what was given, the second is answered.

-- the text that a conversion wrote: of its buffer as many bytes as the answer says
abbrev pub text_of : Outcome → List ℕ
text_of o = take (get_or o.answer 2 0) (get_or o.holds 0 [])

-- b is a without one leading mark; where there is none it is the same
abbrev pub ButForMark : (mark a b : List ℕ) → Type 0
ButForMark mark a b = (a ≡ mark ++ b) ⊎ ((a ≡ b) × ((rest : List ℕ) → a ≡ mark ++ rest → ⊥))

-- the second conversion is answered, and returns what was given, but for that mark
abbrev pub Undone : (mark text : List ℕ) → Outcome → Type 0
Undone mark text o = (o.answer ≡ 0 ∷ 0 ∷ length (text_of o) ∷ []) × ButForMark mark text (text_of o)

abbrev pub ThereAndBack : Type 0
ThereAndBack = (units : List ℕ) → ((i : ℕ) → get_or units i 0 < 256) → (n m : ℕ) (f : List ℕ) (k : ℕ) → (outcome (to_utf8 units) (n ∷ []) f).answer ≡ 0 ∷ 0 ∷ k ∷ [] → length units ≤ m
    → Undone (0xFE ∷ 0xFF ∷ []) units (outcome (to_utf16 (text_of (outcome (to_utf8 units) (n ∷ []) f))) (m ∷ []) f)

abbrev pub BackAndThere : Type 0
BackAndThere = (text : List ℕ) (n m : ℕ) (f : List ℕ) (k : ℕ) → (outcome (to_utf16 text) (n ∷ []) f).answer ≡ 0 ∷ 0 ∷ k ∷ [] → length text ≤ m
    → Undone (0xEF ∷ 0xBB ∷ 0xBF ∷ []) text (outcome (to_utf8 (text_of (outcome (to_utf16 text) (n ∷ []) f))) (m ∷ []) f)

-- ---- Where the bytes go. Where it is answered, f was accepted. Each place of f has exactly one kind: that of the part of header, tree or detached nodes which has its
-- byte, and all else where none has. Each of the nine counts is the number of places of its kind, and together they are the file's length. And the rows tell the kind of
-- each place: up to the header's end, then each node's numbers, metadata, unpackers, reference and inline data, and in the metadata the data of items.

pub record Account (ls : Sizes) (f counts : List ℕ) : Type 0 where
  pub header : Header
  pub nodes : List Node
  pub items : List Item
  pub accepted : reads ls f ≡ rows header nodes items
  pub one-kind : (k : ℕ) → let es : Events = events_of (limits (size ls 0) (size ls 1)) f header in (kind_at es k < 9) × IsOf es k (kind_at es k) × ((κ : ℕ) → IsOf es k κ → κ ≡ kind_at es k)
  pub each : (κ : ℕ) → κ < 9 → get_or counts κ 0 ≡ places_of κ (events_of (limits (size ls 0) (size ls 1)) f header) (length f)
  pub total : sum_over (λ n. n) counts ≡ length f
  pub by_rows : (k : ℕ) → kind_at (events_of (limits (size ls 0) (size ls 1)) f header) k ≡ kind_by_rows f header.extent.end nodes items k

abbrev pub Accounts : Type 0
Accounts = (t : Totals) (ls : Sizes) (f counts : List ℕ) → (outcome (account_bytes t) ls f).answer ≡ 0 ∷ 0 ∷ counts → Account ls f counts

-- ---- The two editions of the sheet. A sheet that is well formed, of either edition, has another edition, which is well formed too: the same first line but for its word, the
-- same node lines and the same item lines, each in their order. Moving the one leaves the other, and moving that leaves the same bytes again. No other sheet is moved, and where
-- one is not well formed, the refusal is placed at one of its lines, numbered from 1.

-- what is left in n bytes of room by a call that wrote these
abbrev pub wrote : (room : ℕ) → List ℕ → Outcome
wrote n t = record { answer = 0 ∷ 0 ∷ length t ∷ []; holds = room.padded n t ∷ [] }

pub record Moves (second : Bool) (s : List ℕ) : Type 0 where
  pub moved : List ℕ
  pub edition : OtherEdition second s moved
  pub over : (n : ℕ) (f : List ℕ) → length moved ≤ n → outcome (move_sheet s) (n ∷ []) f ≡ wrote n moved
  pub back : (n : ℕ) (f : List ℕ) → length s ≤ n → outcome (move_sheet moved) (n ∷ []) f ≡ wrote n s

abbrev pub OverAndBack : Type 0
OverAndBack = ((second : Bool) (s : List ℕ) → WellFormed second s → Moves second s)
    × ((s f : List ℕ) (ls : Sizes) (n : ℕ) → (outcome (move_sheet s) ls f).answer ≡ 0 ∷ 0 ∷ n ∷ [] → (second : Bool) × WellFormed second s)
    × ((s f : List ℕ) (ls : Sizes) (p : ℕ) → (outcome (move_sheet s) ls f).answer ≡ bad_sheet ∷ p ∷ [] → (1 ≤ p) × (p ≤ length (mover.lines s)))

-- And of every file: the sheet that is written of it, in either edition, is well formed; and moving it, with whatever room, answers and leaves what writing the other edition
-- of that file with as much room does.
abbrev pub writes : (second : Bool) → Question
writes false = write_sheet
writes true = write_sheet2

abbrev pub SheetsMove : Type 0
SheetsMove = (second : Bool) (ls : Sizes) (f : List ℕ) → ((i : ℕ) → get_or f i 0 < 256) → (n : ℕ) → (outcome (writes second) ls f).answer ≡ 0 ∷ 0 ∷ n ∷ []
    → let s : List ℕ = new_file (outcome (writes second) ls f) in
    WellFormed second s
    × ((m : ℕ) → let o : Outcome = outcome (writes (not second)) (size ls 0 ∷ size ls 1 ∷ m ∷ []) f in outcome (move_sheet s) (m ∷ []) f ≡ record { answer = o.answer; holds = drop 2 o.holds })

-- ---- The walk of a tag, whatever it holds. It reads whatever it is given, hidden contents too, and stands outside demand 3.

-- frame i of the tag, asked for
abbrev pub FrameIs : (tag : List ℕ) → (i name place size : ℕ) → Type 0
FrameIs tag i name place size = (ls : Sizes) (f : List ℕ) → (outcome (tag_frame tag i) ls f).answer ≡ 0 ∷ 0 ∷ name ∷ place ∷ size ∷ []

-- The count is the number of frames that can be asked for, and where there is none, each frame is refused as the count is.
abbrev pub CountsFrames : Type 0
CountsFrames = (tag : List ℕ) (ls : Sizes) (f : List ℕ)
    → ((n : ℕ) → (outcome (count_frames tag) ls f).answer ≡ 0 ∷ 0 ∷ n ∷ [] → (i : ℕ)
    → (i < n → (name : ℕ) × (place : ℕ) × (size : ℕ) × FrameIs tag i name place size) × (n ≤ i → (outcome (tag_frame tag i) ls f).answer ≡ no_such_row ∷ 0 ∷ []))
    × ((n p : ℕ) → (outcome (count_frames tag) ls f).answer ≡ n ∷ p ∷ [] → (i : ℕ) → (outcome (tag_frame tag i) ls f).answer ≡ n ∷ p ∷ [])

-- A frame's contents lie in the tag, behind its header's ten bytes and ten of its own; and the frames lie one after the other, so that they share no byte.
abbrev pub FramesApart : Type 0
FramesApart = (tag : List ℕ) (i name place size : ℕ) → FrameIs tag i name place size
    → (20 ≤ place) × (place + size ≤ length tag) × ((j name' place' size' : ℕ) → i < j → FrameIs tag j name' place' size' → place + size + 10 ≤ place')

-- A refusal of either is placed in the tag, or at its end.
abbrev pub StaysInTag : Type 0
StaysInTag = (tag : List ℕ) (i n p : ℕ) (ls : Sizes) (f : List ℕ)
    → ((outcome (count_frames tag) ls f).answer ≡ n ∷ p ∷ [] → p ≤ length tag) × ((outcome (tag_frame tag i) ls f).answer ≡ n ∷ p ∷ [] → p ≤ length tag)
