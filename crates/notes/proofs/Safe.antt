-- Safe characters, and a text's pieces, as the code comes to them.
-- Assumes nothing.
use mathlib.Core.Path.{◌≡◌, refl, sym, ap, ◌∙◌}
use mathlib.Core.Bool.{Bool, true, false, cond}
use mathlib.Core.List.{List, [], ◌∷◌, ◌++◌, append-nil}
use Prim.Native.Nat.{ℕ, zero, suc, ◌+◌, ◌-◌, ◌≤◌, ◌<◌}
use native.Mathlib.Decide.{dec_lt}
use native.Mathlib.Omega.{arith}
use lib.ListN.{length, get_or, drop, take, drop_of_length-le}
use lib.Seq.{drop-cons, drop-drop}
use borrow.Author.Tests.{le-leb, lt-leb}
use Rattle.std.proofs.Common.{Option, Some, None}
use Rattle.room.specs.Parts.{part}
use Rattle.utf16.specs.Unicode.{Char, char, none, first8, bytes_all}
use Rattle.utf16.specs.Told.{char_told}
use Rattle.utf16.proofs.Eight.{lead-one, form8}
use Rattle.utf16.proofs.Converting.{char-in}
use Rattle.text.specs.Text.{plain, hexed, escaped, escaped_part}
use Rattle.text.proofs.Escapes.{plain-low, plain-high, escaped-hex}
use Rattle.notes.specs.Safe.{is_safe, size_if, safe_size, Piece, piece, pieces, cut_at, safe_text}

-- ---- a safe character

pub safe_ascii : (c : ℕ) → 0x20 ≤ c → c < 0x7F → true ≡ is_safe c
unfolding is_safe
safe_ascii c l m = simp (lt-leb c 0x1F (omega arith), lt-leb 0x7F c m, lt-leb 0x2028 c (omega arith), lt-leb 0x2066 c (omega arith))

-- ---- the character at a place

pub size_in : (d : List ℕ) (at : ℕ) {n : ℕ} → n ≡ safe_size (drop at d) → at ≤ length d → at + n ≤ length d
unfolding safe_size size_if
size_in d at e l = rw e (by (first8 (drop at d)) refl)
  where
    if : (b : Bool) (n : ℕ) → at + n ≤ length d → at + cond b n 0 ≤ length d
    if true n m = m
    if false n m = omega arith

    by : (x : Char) → x ≡ first8 (drop at d) → at + size_if x ≤ length d
    by none e = omega arith
    by (char c n) e = if (is_safe c) n (char-in form8 d tt at e l).2

-- a byte that begins no safe character is not plain
unsafe : (b : ℕ) (s : List ℕ) → safe_size (b ∷ s) ≡ 0 → plain b ≡ false
unfolding safe_size size_if
unsafe b s e = elim (dec_lt b 0x20) [
  | yes l ↦ sym (plain-low b l)
  | no l ↦ elim (dec_lt b 0x7F) [
    | yes m ↦
        let y : is_safe b ≡ true = sym (safe_ascii b (omega arith) m) in
        let z : ◌≡◌ {A = ℕ} 1 0 = sym (ap size_if (lead-one b s (omega arith)) ∙ rw y) ∙ e in
        absurd (omega arith)
    | no m ↦ sym (plain-high b (omega arith) (omega arith))
  ]
]

-- ---- the pieces from a place on

skipped : (k : ℕ) (s : List ℕ) → pieces k s ≡ pieces 0 (drop k s)
unfolding pieces
skipped zero s = refl
skipped (suc k) [] = refl
skipped (suc k) (b ∷ s) = skipped k s

pieces-one : (b n : ℕ) (s : List ℕ) → n ≡ safe_size (b ∷ s) → pieces 0 (b ∷ s) ≡ piece n b s ∷ pieces 0 (drop (n - 1) s)
unfolding pieces
pieces-one b n s e = rw (← e) (ap (λ (ps : List Piece). piece n b s ∷ ps) (skipped (n - 1) s))

-- what is still to be put
abbrev pub left : (most : ℕ) → List ℕ → (at : ℕ) → List ℕ
left most text at = cut_at (most - at) (pieces 0 (drop at text))

module _ (most : ℕ) (text : List ℕ) where
  pub left-start : left most text 0 ≡ safe_text most text
  unfolding safe_text
  left-start = let e : most - 0 ≡ most = omega arith in rw e

  pub left_end : (at : ℕ) → length text ≤ at → left most text at ≡ []
  unfolding pieces cut_at
  left_end at l = rw (drop_of_length-le text l)

  module _ (at : ℕ) (l : at < length text) {n : ℕ} (e : n ≡ safe_size (drop at text)) where
    front : pieces 0 (drop at text) ≡ piece n (get_or text at 0) (drop (at + 1) text) ∷ pieces 0 (drop (n - 1) (drop (at + 1) text))
    front =
        let x : at + 1 ≡ suc at = omega arith in
        let d : drop at text ≡ get_or text at 0 ∷ drop (at + 1) text = rw x (drop-cons text at 0 l) in
        ap (pieces 0) d ∙ pieces-one (get_or text at 0) n (drop (at + 1) text) (e ∙ ap safe_size d)

    fits : (p : Piece) (ps : List Piece) → p.size ≤ most - at → cut_at (most - at) (p ∷ ps) ≡ p.shown ++ cut_at (most - at - p.size) ps
    unfolding cut_at
    fits p ps m = rw (le-leb p.size (most - at) m)

    over : (p : Piece) (ps : List Piece) → most - at < p.size → cut_at (most - at) (p ∷ ps) ≡ 0x2E ∷ 0x2E ∷ []
    unfolding cut_at
    over p ps m = rw (lt-leb p.size (most - at) m)

    -- a byte
    module _ (z : n ≡ 0) where
      byte-hexed : escaped_part text at 1 ≡ hexed (get_or text at 0)
      unfolding escaped_part bytes_all
      byte-hexed =
          let d = drop-cons text at 0 l in
          let h = unsafe (get_or text at 0) (drop (suc at) text) (ap safe_size (sym d) ∙ sym e ∙ z) in
          rw d (append-nil (escaped (get_or text at 0)) ∙ sym (escaped-hex (get_or text at 0) h))

      pub byte_put : at < most → left most text at ≡ escaped_part text at 1 ++ left most text (at + 1)
      unfolding piece
      byte_put m =
          let a : most - at - 1 ≡ most - (at + 1) = omega arith in
          ap (cut_at (most - at)) (rw z at front) ∙ rw (byte-hexed, ← a) (fits (piece 0 (get_or text at 0) (drop (at + 1) text)) (pieces 0 (drop (at + 1) text)) (omega arith))

      pub byte_cut : most ≤ at → left most text at ≡ 0x2E ∷ 0x2E ∷ []
      unfolding piece
      byte_cut m = ap (cut_at (most - at)) (rw z at front) ∙ over (piece 0 (get_or text at 0) (drop (at + 1) text)) (pieces 0 (drop (at + 1) text)) (omega arith)

    -- a character
    module _ (k : ℕ) (z : n ≡ suc k) where
      char-shown : get_or text at 0 ∷ take k (drop (at + 1) text) ≡ part text at n
      char-shown = let x : at + 1 ≡ suc at = omega arith in rw (z, drop-cons text at 0 l, x)

      char-next : drop k (drop (at + 1) text) ≡ drop (at + n) text
      char-next = let x : at + 1 + k ≡ at + n = omega arith in drop-drop k (at + 1) text ∙ ap (λ (m : ℕ). drop m text) x

      front-char : pieces 0 (drop at text) ≡ piece (suc k) (get_or text at 0) (drop (at + 1) text) ∷ pieces 0 (drop k (drop (at + 1) text))
      front-char = let y : suc k - 1 ≡ k = omega arith in (rw (z, y) at front)

      char-put_by : at + n ≤ most → left most text at ≡ part text at n ++ left most text (at + n)
      unfolding piece
      char-put_by m =
          let a : most - at - suc k ≡ most - (at + n) = omega arith in
          ap (cut_at (most - at)) front-char
          ∙ rw (← char-shown, ← char-next, ← a) (fits (piece (suc k) (get_or text at 0) (drop (at + 1) text)) (pieces 0 (drop k (drop (at + 1) text))) (omega arith))

      char-cut_by : most < at + n → left most text at ≡ 0x2E ∷ 0x2E ∷ []
      unfolding piece
      char-cut_by m = ap (cut_at (most - at)) front-char
          ∙ over (piece (suc k) (get_or text at 0) (drop (at + 1) text)) (pieces 0 (drop k (drop (at + 1) text))) (omega arith)

    pub char-put : 0 < n → at + n ≤ most → left most text at ≡ part text at n ++ left most text (at + n)
    char-put z = char-put_by (n - 1) (omega arith)

    pub char-cut : 0 < n → most < at + n → left most text at ≡ 0x2E ∷ 0x2E ∷ []
    char-cut z = char-cut_by (n - 1) (omega arith)
