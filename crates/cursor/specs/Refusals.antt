-- The refusal list of 01 and of 02: each number with its name. In the code they are the cases of `Reason`, in `refusals`. The reader's list is here; a question's own stands with the question.
-- Assumes nothing.
use Rattle.std.specs.Prelude.{Bool, false, not, ◌&&◌, ◌||◌, List, [], ◌∷◌, ℕ, ◌≤◌, T, eqb}
use Rattle.room.specs.Room.{Result, good, bad, no_room}

abbrev pub not_xmf : ℕ
not_xmf = 1

abbrev pub bad_version : ℕ
bad_version = 2

-- a field runs past the part that holds it
abbrev pub cut_short : ℕ
cut_short = 3

-- a VLQ of more than four bytes, or a GUID of more than nineteen
abbrev pub bad_number : ℕ
bad_number = 4

abbrev pub wrong_length : ℕ
wrong_length = 5

-- a type twice, or a 33rd entry
abbrev pub bad_type : ℕ
bad_type = 6

abbrev pub bad_tree : ℕ
bad_tree = 7

-- a node past its holder, a root that does not fill the tree, a header past its node, a header field past its header
abbrev pub bad_node : ℕ
bad_node = 8

abbrev pub too_deep : ℕ
too_deep = 9

abbrev pub no_row_left : ℕ
no_row_left = 10

-- universal length 0, or a type that is not declared
abbrev pub bad_contents : ℕ
bad_contents = 11

abbrev pub bad_unpacker : ℕ
bad_unpacker = 12

abbrev pub bad_reference : ℕ
bad_reference = 13

abbrev pub bad_folder : ℕ
bad_folder = 14

abbrev pub bytes_left : ℕ
bytes_left = 15

abbrev pub bad_target : ℕ
bad_target = 16

abbrev pub too_large : ℕ
too_large = 17

abbrev pub no_such_row : ℕ
no_such_row = 18

abbrev pub ends_at_folder : ℕ
ends_at_folder = 19

abbrev pub ends_at_uri : ℕ
ends_at_uri = 20

abbrev pub too_many_hops : ℕ
too_many_hops = 21

-- 22 is `no_room`, of `room`

abbrev pub no_such_item : ℕ
no_such_item = 23

abbrev pub bad_detached : ℕ
bad_detached = 24

-- a field of a content description is cut short, too long a number or of no such kind; or bytes are left over
abbrev pub bad_description : ℕ
bad_description = 25

-- odd length, lone surrogate or bad UTF-8
abbrev pub bad_text : ℕ
bad_text = 26

-- call 0, or no card with this desk, call and boat
abbrev pub no_such_card : ℕ
no_such_card = 27

abbrev pub no_free_card : ℕ
no_free_card = 28

abbrev pub already_there : ℕ
already_there = 29

abbrev pub sheet_too_long : ℕ
sheet_too_long = 30

-- a sheet that is not well formed; its place is a line's number
abbrev pub bad_sheet : ℕ
bad_sheet = 31

abbrev pub too_many_files : ℕ
too_many_files = 32

-- fewer than ten bytes, no tag, or not version 4
abbrev pub not_a_tag : ℕ
not_a_tag = 33

-- of a tag: cut short, a size byte of 80h or more, too small an extended size
abbrev pub bad_tag : ℕ
bad_tag = 34

abbrev pub unsynchronised : ℕ
unsynchronised = 35

-- a node has reference 2 or 3
abbrev pub refers_elsewhere : ℕ
refers_elsewhere = 36

-- the content is hidden, or a version
abbrev pub not_a_title : ℕ
not_a_title = 37

abbrev pub result_too_large : ℕ
result_too_large = 38

-- too many cards, or a taken card that is faulty
abbrev pub damaged_shelf : ℕ
damaged_shelf = 39

-- ---- lists

-- the reader, and so every question over a file
abbrev pub of_reader : List ℕ
of_reader =
    not_xmf ∷ bad_version ∷ cut_short ∷ bad_number ∷ wrong_length ∷ bad_type ∷ bad_tree ∷ bad_node ∷ too_deep ∷ no_row_left
    ∷ bad_contents ∷ bad_unpacker ∷ bad_reference ∷ bad_folder ∷ bytes_left ∷ bad_target ∷ too_large ∷ bad_detached ∷ []

-- those that name no field: their place is 0
abbrev pub placeless : List ℕ
placeless =
    too_large ∷ no_such_row ∷ ends_at_folder ∷ ends_at_uri ∷ too_many_hops ∷ no_room ∷ no_such_item ∷ no_such_card ∷ no_free_card ∷ already_there
    ∷ sheet_too_long ∷ too_many_files ∷ refers_elsewhere ∷ not_a_title ∷ result_too_large ∷ damaged_shelf ∷ []

-- those that are placed in the file, at most at its length (17 at 0). The rest are placed in other data: 26 in a text, 31 in a sheet (a line), 33 to 35 in a tag.
abbrev pub in_file : List ℕ
in_file = bad_description ∷ of_reader

-- ---- membership

-- whether n is one of these
abbrev pub is_one_of : ℕ → List ℕ → Bool
is_one_of n [] = false
is_one_of n (m ∷ ms) = eqb n m || is_one_of n ms

-- whether refusal n at p is one of these: n is, and p is 0 if n names no field
abbrev pub is_allowed : List ℕ → (n p : ℕ) → Bool
is_allowed ns n p = is_one_of n ns && (not (is_one_of n placeless) || eqb p 0)

-- its refusal, if it is one, is among these
abbrev pub Among : {A : Type 0} → List ℕ → Result A → Type 0
Among ns (good a) = Unit {0}
Among ns (bad n p) = T (is_allowed ns n p)

-- its refusal, if it is one that names a place of a file, names one of a file of `size` bytes
abbrev pub PlacedIn : {A : Type 0} → (size : ℕ) → Result A → Type 0
PlacedIn size (good a) = Unit {0}
PlacedIn size (bad n p) = T (is_one_of n in_file) → p ≤ size
