-- The length of a file's text depends on lengths alone: where two descriptions differ in copied bytes, of which they have as many, their texts are as long.
-- Assumes nothing.
use mathlib.Core.Path.{◌≡◌, refl, sym, ap, ap₂, ◌∙◌, subst}
use mathlib.Core.Bool.{Bool, true, false, cond}
use mathlib.Core.List.{List, [], ◌∷◌, ◌++◌}
use Prim.Native.Nat.{ℕ, zero, suc, ◌+◌, ◌-◌}
use lib.Dec.{eqb, leb}
use lib.ListN.{length, take, drop, length-append}
use Rattle.room.specs.Parts.{joined}
use Rattle.vlq.specs.Vlq.{vlq, sized}
use Rattle.title_text.specs.Description.{Content, Shape, Description, titled, titled_at, retitled}
use Rattle.title_text.specs.Text.{further, field_text, item_text, universal_text, version_text, content_text, items_text, header_of, framed, own_text, node_text, whole_text, outer, tree_start, assembled, file_of, file_text}

-- ---- lists, element by element

pub data Each {A : Type 0} (R : A → A → Type 0) : List A → List A → Type 0 where
  none : Each R [] []
  more : {a b : A} {s t : List A} → R a b → Each R s t → Each R (a ∷ s) (b ∷ t)

module _ {A : Type 0} {R : A → A → Type 0} where
  pub each-length : {s t : List A} → Each R s t → length s ≡ length t
  each-length none = refl
  each-length (more x xs) = ap suc (each-length xs)

  pub each_take : (n : ℕ) {s t : List A} → Each R s t → Each R (take n s) (take n t)
  each_take zero x = none
  each_take (suc n) none = none
  each_take (suc n) (more x xs) = more x (each_take n xs)

  pub each-drop : (n : ℕ) {s t : List A} → Each R s t → Each R (drop n s) (drop n t)
  each-drop zero x = x
  each-drop (suc n) none = none
  each-drop (suc n) (more x xs) = each-drop n xs

take-pair : {A : Type 0} {Q : A → A → Type 0} {m n : ℕ} {s t : List A} → m ≡ n → Each Q s t → Each Q (take m s) (take n t)
take-pair {Q = Q} {m} {n} {s} {t} e x = subst (λ k. Each Q (take m s) (take k t)) e (each_take m x)

drop-pair : {A : Type 0} {Q : A → A → Type 0} {m n : ℕ} {s t : List A} → m ≡ n → Each Q s t → Each Q (drop m s) (drop n t)
drop-pair {Q = Q} {m} {n} {s} {t} e x = subst (λ k. Each Q (drop m s) (drop k t)) e (each-drop m x)

-- ---- bytes, as many

pub record AsLong (s t : List ℕ) : Type 0 where
  pub long : length s ≡ length t

pub alike : (s : List ℕ) → AsLong s s
alike s = record { long = refl }

pub long-on : {s t u v : List ℕ} → AsLong s t → AsLong u v → AsLong (s ++ u) (t ++ v)
long-on {s} {t} {u} {v} x y = record { long = length-append s u ∙ ap₂ ◌+◌ x.long y.long ∙ sym (length-append t v) }

-- ---- descriptions that differ in copied bytes

pub record ContentPair (c d : Content) : Type 0 where
  pub node : c.node ≡ d.node
  pub item : c.item ≡ d.item
  pub kind : c.kind ≡ d.kind
  pub field : c.field ≡ d.field
  pub name : AsLong c.name d.name
  pub version : c.version ≡ d.version
  pub declared : c.declared ≡ d.declared
  pub format : c.format ≡ d.format
  pub bytes : AsLong c.bytes d.bytes

pub record ShapePair (r s : Shape) : Type 0 where
  pub contained : r.contained ≡ s.contained
  pub reference : r.reference ≡ s.reference
  pub unpackers : AsLong r.unpackers s.unpackers
  pub rows : r.rows ≡ s.rows
  pub body : AsLong r.body s.body

pub record DescriptionPair (d e : Description) : Type 0 where
  pub opening : AsLong d.opening e.opening
  pub types : AsLong d.types e.types
  pub gap : AsLong d.gap e.gap
  pub nodes : Each ShapePair d.nodes e.nodes
  pub items : Each ContentPair d.items e.items
  pub after : AsLong d.after e.after

-- ---- their texts

pub number : {m n : ℕ} → m ≡ n → AsLong (vlq m) (vlq n)
number e = record { long = ap (λ n. length (vlq n)) e }

-- fields one after the other
pub fields : {ss ts : List (List ℕ)} → Each AsLong ss ts → AsLong (joined ss) (joined ts)
fields none = alike []
fields (more x xs) = long-on x (fields xs)

pub block : {s t : List ℕ} → AsLong s t → AsLong (sized s) (sized t)
unfolding sized
block x = fields (more (number x.long) (more x none))

pub chosen : {b c : Bool} {s t u v : List ℕ} → b ≡ c → AsLong s t → AsLong u v → AsLong (cond b s u) (cond c t v)
chosen {b} {c} {s} {t} {u} {v} e x y = subst (λ z. AsLong (cond b s u) (cond z t v)) e (by b)
  where
    by : (z : Bool) → AsLong (cond z s u) (cond z t v)
    by true = x
    by false = y

further-pair : {cs ds : List Content} → Each ContentPair cs ds → further cs ≡ further ds
unfolding further
further-pair none = refl
further-pair (more x xs) = rw (x.version, further-pair xs) refl

pub field-pair : {c d : Content} → ContentPair c d → AsLong (field_text c) (field_text d)
unfolding field_text
field-pair x = chosen (ap (λ n. eqb n 1) x.kind) (block x.name) (fields (more (number refl) (more (number x.field) none)))

item-pair : {c d : Content} {m n : ℕ} → ContentPair c d → m ≡ n → AsLong (item_text c m) (item_text d n)
unfolding item_text
item-pair x e = fields (more (field-pair x) (more (number (ap₂ (λ (a b : ℕ). cond (eqb a 0) 0 b) x.version e)) none))

pub content-pair : {c d : Content} → ContentPair c d → AsLong (content_text c) (content_text d)
unfolding content_text universal_text version_text
content-pair x =
    chosen (ap (λ n. eqb n 0) x.version) (block (fields (more (number x.format) (more x.bytes none))))
    (fields (more (number x.declared) (more (block x.bytes) none)))

pub items-pair : {cs ds : List Content} → Each ContentPair cs ds → AsLong (items_text cs) (items_text ds)
unfolding items_text
items-pair none = alike []
items-pair (more x xs) = fields
    (more (chosen (ap (λ n. leb n 1) x.version) (item-pair x (ap suc (further-pair xs))) (alike []))
    (more (content-pair x) (more (items-pair xs) none)))

pub header-pair : {contained contained' n n' : ℕ} {rest rest' : List ℕ} → contained ≡ contained' → AsLong rest rest' → n ≡ n' → header_of
    contained rest n ≡ header_of contained' rest' n'
unfolding header_of
header-pair h x e = rw (h, x.long, e) refl

framed-pair : {contained contained' n n' : ℕ} {rest rest' own own' : List ℕ} → contained ≡ contained' → AsLong rest rest' → AsLong own
    own' → n ≡ n' → AsLong (framed contained rest own n) (framed contained' rest' own' n')
unfolding framed
framed-pair h x y e =
    let c = ap₂ ◌+◌ y.long e in let k = header-pair h x c in
    fields (more (number (ap₂ ◌+◌ k c)) (more (number h) (more (number k) (more x (more y none)))))

pub own_pair : {r s : Shape} → ShapePair r s → AsLong (own_text r) (own_text s)
unfolding own_text
own_pair x = fields (more (number x.reference) (more (chosen (ap (λ n. eqb n 4) x.reference) (block x.body) x.body) none))

pub node-pair : {r s : Shape} {cs ds : List Content} {n n' : ℕ} → ShapePair r s → Each ContentPair cs ds → n ≡ n' → AsLong (node_text r cs n) (node_text s ds n')
unfolding node_text
node-pair x y e = framed-pair x.contained (fields (more (block (items-pair y)) (more (block x.unpackers) none))) (own_pair x) e

whole_pair : {r s : Shape} {cs ds : List Content} {inner inner' : List ℕ} → ShapePair r s → Each ContentPair cs ds → AsLong inner inner' →
    AsLong (whole_text r cs inner) (whole_text s ds inner')
unfolding whole_text
whole_pair x y z = long-on (node-pair x y z.long) z

pub outer-pair : {rs ss : List Shape} {cs ds : List Content} → Each ShapePair rs ss → Each ContentPair cs ds → Each AsLong (outer rs cs) (outer ss ds)
unfolding outer
outer-pair none y = none
outer-pair (more x xs) y =
    let o = outer-pair xs (drop-pair x.rows y) in
    more (whole_pair x (take-pair x.rows y) (fields (take-pair x.contained o))) (drop-pair x.contained o)

file-pair : {o o' t t' g g' b b' a a' : List ℕ} → AsLong o o' → AsLong t t' → AsLong g g' → AsLong b b' → AsLong a a' → AsLong (file_of o t g b a) (file_of o' t' g' b' a')
unfolding file_of assembled tree_start
file-pair {o} {o'} {t} {t'} {g} {g'} {b} {b'} {a} {a'} x y z u v =
    let e : tree_start o t g b a ≡ tree_start o' t' g' b' a' = rw (x.long, y.long, z.long, u.long, v.long) refl in
    let k = ap₂ ◌+◌ e u.long in
    fields (more x (more (number (ap₂ ◌+◌ k v.long)) (more y (more (number e) (more (number (ap (λ n. n - 1) k)) (more z (more u (more v none))))))))

-- the text has as many bytes
pub text-pair : {d e : Description} → DescriptionPair d e → AsLong (file_text d) (file_text e)
unfolding file_text
text-pair x = file-pair x.opening (block x.types) x.gap (fields (outer-pair x.nodes x.items)) x.after

-- ---- with another title

pub titled-pair : (i : ℕ) (text : List ℕ) {cs ds : List Content} → Each ContentPair cs ds → Each ContentPair (titled_at i text cs) (titled_at i text ds)
unfolding titled_at titled
titled-pair i text none = none
titled-pair zero text (more x xs) =
    more (record {
      node = x.node;
      item = x.item;
      kind = x.kind;
      field = x.field;
      name = x.name;
      version = x.version;
      declared =
          x.declared;
      format = x.format;
      bytes = alike text;
    }) xs
titled-pair (suc i) text (more x xs) = more x (titled-pair i text xs)

pub retitled-pair : (i : ℕ) (text : List ℕ) {d e : Description} → DescriptionPair d e → DescriptionPair (retitled i text d) (retitled i text e)
unfolding retitled
retitled-pair i text x = record { opening = x.opening; types = x.types; gap = x.gap; nodes = x.nodes; items = titled-pair i text x.items; after = x.after }

pub version-pair : {c d : Content} → ContentPair c d → AsLong (version_text c) (version_text d)
unfolding version_text
version-pair x = fields (more (number x.declared) (more (block x.bytes) none))

pub universal-pair : {c d : Content} → ContentPair c d → AsLong (universal_text c) (universal_text d)
unfolding universal_text
universal-pair x = block (fields (more (number x.format) (more x.bytes none)))
