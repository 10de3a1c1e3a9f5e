-- A file from what it says: its bytes, with every number in its shortest form, and each length and place the least that fits all the others.
-- Assumes nothing.
use Rattle.std.specs.Prelude.{cond, List, [], ◌∷◌, ◌++◌, ℕ, suc, ◌+◌, ◌-◌, ltb, leb, eqb, length, take, drop}
use Rattle.room.specs.Parts.{joined}
use Rattle.vlq.specs.Vlq.{least, vlq, sized}
use Rattle.title_text.specs.Description.{Content, Shape, Description}

-- ---- metadata

-- how many contents at the front are further versions of the item before them
unfoldable pub further : List Content → ℕ
further [] = 0
further (c ∷ cs) = cond (ltb 1 c.version) (suc (further cs)) 0

-- an item's field: a custom name with its length, or 0 and a standard number
unfoldable pub field_text : Content → List ℕ
field_text c = cond (eqb c.kind 1) (sized c.name) (joined (vlq 0 ∷ vlq c.field ∷ []))

-- what an item's first content has before it: the item's field and the number of versions; a universal one has 0 for that
unfoldable pub item_text : Content → (versions : ℕ) → List ℕ
item_text c versions = joined (field_text c ∷ vlq (cond (eqb c.version 0) 0 versions) ∷ [])

-- a length that covers string format and data; the two
unfoldable pub universal_text : Content → List ℕ
universal_text c = sized (joined (vlq c.format ∷ c.bytes ∷ []))

-- a declared type; a length and data
unfoldable pub version_text : Content → List ℕ
version_text c = joined (vlq c.declared ∷ sized c.bytes ∷ [])

unfoldable pub content_text : Content → List ℕ
content_text c = cond (eqb c.version 0) (universal_text c) (version_text c)

-- contents in row order: one that is universal or version 1 begins an item
unfoldable pub items_text : List Content → List ℕ
items_text [] = []
items_text (c ∷ cs) = joined (cond (leb c.version 1) (item_text c (suc (further cs))) [] ∷ content_text c ∷ items_text cs ∷ [])

-- ---- a node: `fixed` bytes of its header are neither NodeLength nor NodeHeaderLength, and `contents` bytes follow the header

-- the bytes of NodeHeaderLength, where NodeLength has a
unfoldable pub header_bytes : (fixed a : ℕ) → ℕ
header_bytes fixed a = least (λ b. a + b + fixed)

-- NodeHeaderLength, where NodeLength has a bytes
unfoldable pub header_size : (fixed a : ℕ) → ℕ
header_size fixed a = a + header_bytes fixed a + fixed

-- the bytes of NodeLength
unfoldable pub length_bytes : (fixed contents : ℕ) → ℕ
length_bytes fixed contents = least (λ a. header_size fixed a + contents)

-- NodeHeaderLength of a node that holds `contained` nodes, and whose header has `rest` behind its three numbers
unfoldable pub header_of : (contained : ℕ) → (rest : List ℕ) → (contents : ℕ) → ℕ
header_of contained rest contents = header_size (length (vlq contained) + length rest) (length_bytes (length (vlq contained) + length rest) contents)

-- NodeLength, NodeContainedItems, NodeHeaderLength, the rest of the header, and what follows it but for the nodes that it holds, which have n bytes
unfoldable pub framed : (contained : ℕ) → (rest own : List ℕ) → (n : ℕ) → List ℕ
framed contained rest own n = joined (vlq (header_of contained rest (length own + n) + (length own + n)) ∷ vlq contained ∷ vlq (header_of contained rest (length own + n)) ∷ rest ∷ own ∷ [])

-- ReferenceTypeID; a URI with its length, or inline data
abbrev pub reference_text : (reference : ℕ) → (body : List ℕ) → List ℕ
reference_text reference body = joined (vlq reference ∷ cond (eqb reference 4) (sized body) body ∷ [])

unfoldable pub own_text : Shape → List ℕ
own_text r = reference_text r.reference r.body

-- a node with these contents, but for the nodes that it holds, which have n bytes
unfoldable pub node_text : Shape → List Content → (n : ℕ) → List ℕ
node_text r cs n = framed r.contained (joined (sized (items_text cs) ∷ sized r.unpackers ∷ [])) (own_text r) n

-- a node with the nodes that it holds
unfoldable pub whole_text : Shape → List Content → (inner : List ℕ) → List ℕ
whole_text r cs inner = node_text r cs (length inner) ++ inner

-- Of nodes in row order those that no other of these holds, each with all that it holds. A node's children are the first of those that the rows after it leave;
-- its contents the first of those that are left.
unfoldable pub outer : List Shape → List Content → List (List ℕ)
outer [] cs = []
outer (r ∷ rs) cs =
    whole_text r (take r.rows cs) (joined (take r.contained (outer rs (drop r.rows cs)))) ∷ drop r.contained (outer rs (drop r.rows cs))

-- ---- the file: `fixed` bytes before the tree are not in FileLength, TreeStart and TreeEnd, which have x, y and z bytes

-- TreeStart
abbrev pub start_with : (fixed x y z : ℕ) → ℕ
start_with fixed x y z = x + y + z + fixed

-- the bytes of TreeEnd, which is the place of the tree's last byte
unfoldable pub last_bytes : (fixed tree x y : ℕ) → ℕ
last_bytes fixed tree x y = least (λ z. start_with fixed x y z + tree - 1)

-- the bytes of TreeStart, and TreeStart itself
unfoldable pub start_bytes : (fixed tree x : ℕ) → ℕ
start_bytes fixed tree x = least (λ y. start_with fixed x y (last_bytes fixed tree x y))

unfoldable pub start_at : (fixed tree x : ℕ) → ℕ
start_at fixed tree x = start_with fixed x (start_bytes fixed tree x) (last_bytes fixed tree x (start_bytes fixed tree x))

-- the bytes of FileLength
unfoldable pub file_bytes : (fixed tree after : ℕ) → ℕ
file_bytes fixed tree after = least (λ x. start_at fixed tree x + tree + after)

-- TreeStart of a file of these parts
unfoldable pub tree_start : (opening types gap tree after : List ℕ) → ℕ
tree_start opening types gap tree after =
    start_at (length opening + length types + length gap) (length tree) (file_bytes (length opening + length types + length gap) (length tree) (length after))

-- the file, whose tree starts at `start`
unfoldable pub assembled : (opening types gap tree after : List ℕ) → (start : ℕ) → List ℕ
assembled opening types gap tree after start =
    joined (opening ∷ vlq (start + length tree + length after) ∷ types ∷ vlq start ∷ vlq (start + length tree - 1) ∷ gap ∷ tree ∷ after ∷ [])

unfoldable pub file_of : (opening types gap tree after : List ℕ) → List ℕ
file_of opening types gap tree after = assembled opening types gap tree after (tree_start opening types gap tree after)

unfoldable pub file_text : Description → List ℕ
file_text d = file_of d.opening (sized d.types) d.gap (joined (outer d.nodes d.items)) d.after
