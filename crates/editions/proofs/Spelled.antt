-- The lines that 01's writer writes are lines of a sheet.
-- Assumes nothing.
use mathlib.Core.Path.{◌≡◌, refl, ap, ◌∙◌}
use mathlib.Core.Bool.{Bool, true, false, cond, not, ◌&&◌, ◌||◌}
use mathlib.Core.List.{List, [], ◌∷◌, ◌++◌, append-nil}
use Prim.{Unit, tt}
use Prim.Native.Nat.{ℕ, zero, suc, ◌+◌, ◌*◌, ◌-◌, ◌/◌, ◌%◌, ◌^◌, ◌≤◌, ◌<◌}
use native.Mathlib.Decide.{dec_lt}
use native.Mathlib.Omega.{arith}
use lib.Dec.{eqb, leb, ltb}
use borrow.Author.Tests.{eq-eqb, ne_eqb, leb-true, le-leb, lt-ltb, le-ltb, not-true}
use Rattle.room.specs.Decimal.{digits, decimal}
use Rattle.utf16.specs.Unicode.{bytes_all}
use Rattle.text.specs.Text.{hex_digits, hex_digit, plain, hexed, escaped, shown_byte, shown}
use Rattle.editions.specs.Sheets.{Lines, same, value, is_number, is_even, is_text, is_name, is_escape, itself, nibble, parted, on_first, fields, field, fits, is_node, is_item, kind, node, item}
use Rattle.editions.proofs.Shape.{both_true}
use Rattle.editions.proofs.Bytes.{Clean, AllClean, piece}
use Rattle.file_laws.proofs.Small.{Each}
use Rattle.editions.proofs.Numbers.{Digits, digits_are, same_self}

-- ---- numbers

value-snoc : (v : ℕ) (a : List ℕ) (d : ℕ) → value v (a ++ d ∷ []) ≡ value v a * 10 + (d - 0x30)
unfolding value
value-snoc v [] d = refl
value-snoc v (x ∷ a) d = value-snoc (v * 10 + (x - 0x30)) a d

value_none : value 0 [] ≡ 0
unfolding value
value_none = refl

value-digits : (k n : ℕ) → n < 10 ^ k → value 0 (digits k n) ≡ n
unfolding digits
value-digits zero n l = let z = value_none in omega arith
value-digits (suc k) n l = elim (dec_lt n 10) [
  | yes h ↦ rw (lt-ltb n 10 h) (let z = value-snoc 0 [] (0x30 + n % 10) in let y = value_none in omega arith)
  | no h ↦ rw (le-ltb n 10 (omega arith)) (let z = value-snoc 0 (digits k (n / 10)) (0x30 + n % 10) in let y = value-digits k (n / 10) (omega arith) in omega arith)
]

pub value-decimal : (n : ℕ) → n < 2 ^ 28 → value 0 (decimal n) ≡ n
unfolding decimal
value-decimal n l = value-digits 20 n (omega arith)

pub spelled : (n : ℕ) → n < 2 ^ 28 → is_number (decimal n) ≡ true
unfolding is_number
spelled n l = rw (value-decimal n l) (rw (same_self (decimal n)) (le-leb n 0xFFFFFFF (omega arith)))

clean_digits : (c : ℕ) → c < 0x30 → (t : List ℕ) → Digits t → Clean c t
clean_digits c l [] d = tt
clean_digits c l (b ∷ t) (a, h, d) = (ne_eqb b c (λ e. omega arith), clean_digits c l t d)

pub clean_decimal : (c : ℕ) → c < 0x30 → (n : ℕ) → Clean c (decimal n)
unfolding decimal
clean_decimal c l n = clean_digits c l (digits 20 n) (digits_are 20 n)

-- ---- fields

abbrev pub tabs : Lines → List ℕ
tabs [] = []
tabs (t ∷ ts) = 0x09 ∷ t ++ tabs ts

alone : (c : ℕ) (w : List ℕ) → Clean c w → parted c w ≡ w ∷ []
unfolding parted
alone c [] k = refl
alone c (b ∷ w) (e, k) = rw e (ap (on_first b) (alone c w k))

pub fields-are : (w : List ℕ) (ts : Lines) → Clean 0x09 w → AllClean 0x09 ts → fields (w ++ tabs ts) ≡ w ∷ ts
unfolding fields
fields-are w [] k m = ap (parted 0x09) (append-nil w) ∙ alone 0x09 w k
fields-are w (t ∷ ts) k (a, m) = piece 0x09 w (t ++ tabs ts) k ∙ ap (λ (v : Lines). w ∷ v) (fields-are t ts a m)

pub clean_append : (c : ℕ) (a b : List ℕ) → Clean c a → Clean c b → Clean c (a ++ b)
clean_append c [] b k m = m
clean_append c (x ∷ a) b (e, k) m = (e, clean_append c a b k m)

pub clean_tabs : (c : ℕ) → eqb 0x09 c ≡ false → (ts : Lines) → AllClean c ts → Clean c (tabs ts)
clean_tabs c h [] k = tt
clean_tabs c h (t ∷ ts) (k, m) = (h, clean_append c t (tabs ts) k (clean_tabs c h ts m))

-- ---- a node's line

module _ (k a b c d e : ℕ) where
  abbrev node_fields : Lines
  node_fields = decimal k ∷ decimal a ∷ decimal b ∷ decimal c ∷ decimal d ∷ decimal e ∷ []

  abbrev pub node-text : List ℕ
  node-text = (0x4E ∷ []) ++ tabs node_fields

  node-clean : (i : ℕ) → i < 0x30 → AllClean i node_fields
  node-clean i l = let t : (n : ℕ) → Clean i (decimal n) = clean_decimal i l in (t k, (t a, (t b, (t c, (t d, (t e, tt))))))

  pub node-ended : Clean 0x0A node-text
  node-ended = (refl, clean_tabs 0x0A refl node_fields (node-clean 0x0A (omega arith)))

  node-fields : fields node-text ≡ (0x4E ∷ []) ∷ node_fields
  node-fields = fields-are (0x4E ∷ []) node_fields (refl, tt) (node-clean 0x09 (omega arith))

  module _ (hk : k < 2 ^ 28) (ha : a < 2 ^ 28) (hb : b < 2 ^ 28) (hc : c < 2 ^ 28) (hd : d < 2 ^ 28) (he : e < 2 ^ 28) where
    node-fits : is_node node-text ≡ true
    unfolding is_node fits same
    node-fits = rw node-fields (rw (spelled k hk, spelled a ha, spelled b hb, spelled c hc, spelled d hd, spelled e he) refl)

    pub node-kind : kind node-text ≡ node k
    unfolding kind field
    node-kind = rw (node-fits, node-fields) (ap node (value-decimal k hk))

-- ---- text

module _ (two : Bool) (b : ℕ) (p : plain b ≡ true) where
  not-slash : eqb b 0x5C ≡ false
  unfolding plain
  not-slash = not-true (eqb b 0x5C) (both_true (leb 0x20 b && leb b 0x7E) (not (eqb b 0x5C)) p).1

  text-plain : (t : List ℕ) → is_text two (b ∷ t) ≡ is_text two t
  unfolding is_text itself
  text-plain [] = rw p
  text-plain (x ∷ []) = rw p
  text-plain (x ∷ y ∷ t) = rw (not-slash, p)

or_true : (a : Bool) → (a || true) ≡ true
or_true true = refl
or_true false = refl

-- a hex digit, by arithmetic
hex_is : (d : ℕ) → d < 16 → hex_digit d ≡ cond (ltb d 10) (0x30 + d) (0x57 + d)
unfolding hex_digit hex_digits
hex_is zero l = refl
hex_is (suc zero) l = refl
hex_is (suc (suc zero)) l = refl
hex_is (suc (suc (suc zero))) l = refl
hex_is (suc (suc (suc (suc zero)))) l = refl
hex_is (suc (suc (suc (suc (suc zero))))) l = refl
hex_is (suc (suc (suc (suc (suc (suc zero)))))) l = refl
hex_is (suc (suc (suc (suc (suc (suc (suc zero))))))) l = refl
hex_is (suc (suc (suc (suc (suc (suc (suc (suc zero)))))))) l = refl
hex_is (suc (suc (suc (suc (suc (suc (suc (suc (suc zero))))))))) l = refl
hex_is (suc (suc (suc (suc (suc (suc (suc (suc (suc (suc zero)))))))))) l = refl
hex_is (suc (suc (suc (suc (suc (suc (suc (suc (suc (suc (suc zero))))))))))) l = refl
hex_is (suc (suc (suc (suc (suc (suc (suc (suc (suc (suc (suc (suc zero)))))))))))) l = refl
hex_is (suc (suc (suc (suc (suc (suc (suc (suc (suc (suc (suc (suc (suc zero))))))))))))) l = refl
hex_is (suc (suc (suc (suc (suc (suc (suc (suc (suc (suc (suc (suc (suc (suc zero)))))))))))))) l = refl
hex_is (suc (suc (suc (suc (suc (suc (suc (suc (suc (suc (suc (suc (suc (suc (suc zero))))))))))))))) l = refl
hex_is (suc (suc (suc (suc (suc (suc (suc (suc (suc (suc (suc (suc (suc (suc (suc (suc d)))))))))))))))) l = absurd (omega arith)

hex_nibble : (d : ℕ) → d < 16 → nibble (hex_digit d) ≡ d
unfolding nibble
hex_nibble d l = elim (dec_lt d 10) [
  | yes h ↦ rw (hex_is d l) (rw (lt-ltb d 10 h) (rw (lt-ltb (0x30 + d) 0x61 (omega arith)) (omega arith)))
  | no h ↦ rw (hex_is d l) (rw (le-ltb d 10 (omega arith)) (rw (le-ltb (0x57 + d) 0x61 (omega arith)) (omega arith)))
]

hex_escape : (b : ℕ) → b < 0x100 → plain b ≡ false → is_escape (hex_digit (b / 16)) (hex_digit (b % 16)) ≡ true
unfolding is_escape escaped hexed
hex_escape b l p =
    let q : b / 16 * 16 + b % 16 ≡ b = omega arith in
    rw (hex_nibble (b / 16) (omega arith), hex_nibble (b % 16) (omega arith), q, p, lt-ltb b 0x100 l) (same_self (0x5C ∷ hex_digit (b / 16) ∷ hex_digit (b % 16) ∷ []))

text-on : (two : Bool) (b : ℕ) (t : List ℕ) → b < 0x100 → (p : Bool) → plain b ≡ p → is_text two
    (cond p (b ∷ []) (0x5C ∷ hex_digit (b / 16) ∷ hex_digit (b % 16) ∷ []) ++ t) ≡ is_text two t
unfolding is_text
text-on two b t l true p = text-plain two b p t
text-on two b t l false p = slash (hex_digit (b / 16)) (hex_digit (b % 16)) (hex_escape b l p) t
  where
    slash : (x y : ℕ) → is_escape x y ≡ true → (t : List ℕ) → is_text two (0x5C ∷ x ∷ y ∷ t) ≡ is_text two t
    slash x y h t = rw h

-- one byte more, as 01 writes it
pub text-escaped : (two : Bool) (b : ℕ) (t : List ℕ) → b < 0x100 → is_text two (escaped b ++ t) ≡ is_text two t
unfolding escaped hexed
text-escaped two b t l = text-on two b t l (plain b) refl

-- ---- a whole text

abbrev pub Bytes : List ℕ → Type 0
Bytes bs = Each (λ b. b < 0x100) bs

-- what holds byte by byte
module _ (put : ℕ → List ℕ) (P : ℕ → Type 0) where
  text-all : (two : Bool) → ((b : ℕ) (t : List ℕ) → P b → is_text two (put b ++ t) ≡ is_text two t) → (bs : List ℕ) → Each P bs → is_text two (bytes_all put bs) ≡ true
  unfolding is_text bytes_all
  text-all two h [] k = refl
  text-all two h (b ∷ bs) (l, k) = h b (bytes_all put bs) l ∙ text-all two h bs k

  clean_all : (c : ℕ) → ((b : ℕ) → P b → Clean c (put b)) → (bs : List ℕ) → Each P bs → Clean c (bytes_all put bs)
  unfolding bytes_all
  clean_all c h [] k = tt
  clean_all c h (b ∷ bs) (l, k) = clean_append c (put b) (bytes_all put bs) (h b l) (clean_all c h bs k)

hex_clean : (c d : ℕ) → c < 0x20 → d < 16 → eqb (hex_digit d) c ≡ false
hex_clean c d l m = elim (dec_lt d 10) [
  | yes h ↦ rw (hex_is d m) (rw (lt-ltb d 10 h) (ne_eqb (0x30 + d) c (λ e. omega arith)))
  | no h ↦ rw (hex_is d m) (rw (le-ltb d 10 (omega arith)) (ne_eqb (0x57 + d) c (λ e. omega arith)))
]

plain-low : (b : ℕ) → plain b ≡ true → 0x20 ≤ b
unfolding plain
plain-low b p = leb-true 0x20 b (both_true (leb 0x20 b) (leb b 0x7E) (both_true (leb 0x20 b && leb b 0x7E) (not (eqb b 0x5C)) p).0).0

-- no tab and no 0Ah in a byte that is escaped
clean_escaped : (c : ℕ) → c < 0x20 → (b : ℕ) → b < 0x100 → Clean c (escaped b)
unfolding escaped hexed
clean_escaped c l b m = by (plain b) refl
  where
    by : (p : Bool) → plain b ≡ p → Clean c (cond p (b ∷ []) (0x5C ∷ hex_digit (b / 16) ∷ hex_digit (b % 16) ∷ []))
    by true p = let q = plain-low b p in (ne_eqb b c (λ e. omega arith), tt)
    by false p = (ne_eqb 0x5C c (λ e. omega arith), (hex_clean c (b / 16) l (omega arith), (hex_clean c (b % 16) l (omega arith), tt)))

-- a text, and no tab and no 0Ah in it
pub record Text (two : Bool) (t : List ℕ) : Type 0 where
  pub is : is_text two t ≡ true
  pub clean : (c : ℕ) → c < 0x20 → Clean c t

pub escaped-text : (two : Bool) (bs : List ℕ) → Bytes bs → Text two (bytes_all escaped bs)
escaped-text two bs k = record {
  is = text-all escaped (λ b. b < 0x100) two (text-escaped two) bs k;
  clean = λ c l. clean_all escaped (λ b. b < 0x100) c (clean_escaped c l) bs k;
}

-- a converted text: a byte from 80h up stands as itself
high-text : (b : ℕ) (t : List ℕ) → 0x80 ≤ b → is_text true (b ∷ t) ≡ is_text true t
unfolding is_text itself
high-text b [] l = rw (le-leb 0x80 b l) (or_true (plain b))
high-text b (x ∷ []) l = rw (le-leb 0x80 b l) (rw (or_true (plain b)) refl)
high-text b (x ∷ y ∷ t) l = rw (ne_eqb b 0x5C (λ e. omega arith), le-leb 0x80 b l) (rw (or_true (plain b)) refl)

shown-byte : (b : ℕ) (t : List ℕ) → Unit {0} → is_text true (shown_byte b ++ t) ≡ is_text true t
unfolding shown_byte
shown-byte b t _ = elim (dec_lt b 0x80) [
  | yes h ↦ rw (lt-ltb b 0x80 h) (text-escaped true b t (omega arith))
  | no h ↦ rw (le-ltb b 0x80 (omega arith)) (high-text b t (omega arith))
]

clean_shown : (c : ℕ) → c < 0x20 → (b : ℕ) → Unit {0} → Clean c (shown_byte b)
unfolding shown_byte
clean_shown c l b _ = elim (dec_lt b 0x80) [
  | yes h ↦ rw (lt-ltb b 0x80 h) (clean_escaped c l b (omega arith))
  | no h ↦ rw (le-ltb b 0x80 (omega arith)) (ne_eqb b c (λ e. omega arith), tt)
]

any : (bs : List ℕ) → Each (λ b. Unit {0}) bs
any [] = tt
any (b ∷ bs) = (tt, any bs)

pub shown-text : (t : List ℕ) → Text true (shown t)
unfolding shown
shown-text t = record {
  is = text-all shown_byte (λ b. Unit {0}) true shown-byte t (any t);
  clean = λ c l. clean_all shown_byte (λ b. Unit {0}) c (clean_shown c l) t (any t);
}

-- ---- an item's line

module _ (n j : ℕ) (f : List ℕ) (v m : ℕ) (x : List ℕ) where
  abbrev item_fields : Lines
  item_fields = decimal n ∷ (j ∷ []) ∷ f ∷ decimal v ∷ decimal m ∷ x ∷ []

  abbrev pub item-text : List ℕ
  item-text = (0x4D ∷ []) ++ tabs item_fields

  module _ (hj : 0x20 ≤ j) (cf : (c : ℕ) → c < 0x20 → Clean c f) (cx : (c : ℕ) → c < 0x20 → Clean c x) where
    item-clean : (i : ℕ) → i < 0x20 → AllClean i item_fields
    item-clean i l =
        let t : (n : ℕ) → Clean i (decimal n) = clean_decimal i (omega arith) in
        (t n, ((ne_eqb j i (λ e. omega arith), tt), (cf i l, (t v, (t m, (cx i l, tt))))))

    pub item-ended : Clean 0x0A item-text
    item-ended = (refl, clean_tabs 0x0A refl item_fields (item-clean 0x0A (omega arith)))

    item-fields : fields item-text ≡ (0x4D ∷ []) ∷ item_fields
    item-fields = fields-are (0x4D ∷ []) item_fields (refl, tt) (item-clean 0x09 (omega arith))

    no_node : is_node item-text ≡ false
    unfolding is_node fits same
    no_node = rw item-fields refl

    item_of : n < 2 ^ 28 → is_item item-text ≡ true → kind item-text ≡ item n
    unfolding kind field
    item_of h k = rw (no_node, k, item-fields) (ap item (value-decimal n h))

module _ (n v m : ℕ) (hn : n < 2 ^ 28) (hv : v < 2 ^ 28) (hm : m < 2 ^ 28) (even : m % 2 ≡ 0) (x : List ℕ) (hx : Text (same (decimal m) (0x32 ∷ [])) x) where
  is-even : is_even (decimal m) ≡ true
  unfolding is_even
  is-even = rw (spelled m hm) (rw (value-decimal m hm) (eq-eqb (m % 2) 0 even))

  -- a standard field
  module _ (j : ℕ) (hj : j < 2 ^ 28) where
    clean_number : (c : ℕ) → c < 0x20 → Clean c (decimal j)
    clean_number c l = clean_decimal c (omega arith) j

    pub standard-ended : Clean 0x0A (item-text n 0x53 (decimal j) v m x)
    standard-ended = item-ended n 0x53 (decimal j) v m x (omega arith) clean_number hx.clean

    standard-fits : is_item (item-text n 0x53 (decimal j) v m x) ≡ true
    unfolding is_item field fits same
    standard-fits = rw (item-fields n 0x53 (decimal j) v m x (omega arith) clean_number hx.clean) (rw (spelled n hn, spelled j hj, spelled v hv, is-even) (rw hx.is refl))

    pub standard-kind : kind (item-text n 0x53 (decimal j) v m x) ≡ item n
    standard-kind = item_of n 0x53 (decimal j) v m x (omega arith) clean_number hx.clean hn standard-fits

  -- a custom field
  module _ (f : List ℕ) (hf : Text false f) (some : same f [] ≡ false) where
    pub custom-ended : Clean 0x0A (item-text n 0x43 f v m x)
    custom-ended = item-ended n 0x43 f v m x (omega arith) hf.clean hx.clean

    named : is_name f ≡ true
    unfolding is_name
    named = rw (some, hf.is) refl

    custom-fits : is_item (item-text n 0x43 f v m x) ≡ true
    unfolding is_item field fits same
    custom-fits = rw (item-fields n 0x43 f v m x (omega arith) hf.clean hx.clean) (rw (spelled n hn, named, spelled v hv, is-even) (rw hx.is refl))

    pub custom-kind : kind (item-text n 0x43 f v m x) ≡ item n
    custom-kind = item_of n 0x43 f v m x (omega arith) hf.clean hx.clean hn custom-fits
