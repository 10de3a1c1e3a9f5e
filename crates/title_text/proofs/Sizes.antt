-- Lengths and places that count their own bytes and each other's: each is the least that fits the others, and has in its shortest form the bytes counted for it.
-- Assumes nothing.
use mathlib.Core.Path.{◌≡◌, refl, ◌∙◌}
use mathlib.Core.List.{List, [], ◌∷◌}
use Prim.Native.Nat.{ℕ, ◌+◌, ◌-◌, ◌^◌, ◌≤◌, ◌<◌}
use native.Mathlib.Omega.{arith}
use lib.ListN.{length}
use Rattle.vlq.specs.Vlq.{least, vlq}
use Rattle.vlq.proofs.Least.{least-le, least-up, least-short, least-within, vlq-length}
use Rattle.room.proofs.Lies.{joined_length}
use Rattle.title_text.specs.Text.{header_bytes, header_size, length_bytes, header_of, framed, start_with, last_bytes, start_bytes, start_at, file_bytes, tree_start, assembled, file_of}

-- a number in its shortest form has no more bytes than any count that holds it
pub number-least : (n k : ℕ) → 1 ≤ k → n < 128 ^ k → length (vlq n) ≤ k
number-least n k l h = omega (arith, vlq-length n, least-le (λ _. n) k l h)

-- ---- a node's two lengths

module _ (fixed : ℕ) where
  header-rises : (a b : ℕ) → a ≤ b → header_size fixed a ≤ header_size fixed b
  unfolding header_size header_bytes
  header-rises a b l = omega (arith, least-up (λ k. a + k + fixed) (λ k. b + k + fixed) (omega arith))

  header_is : (a : ℕ) → header_size fixed a ≡ a + header_bytes fixed a + fixed
  unfolding header_size
  header_is a = refl

  header-short : (a : ℕ) → header_size fixed a < 2 ^ 28 → least (λ _. header_size fixed a) ≡ header_bytes fixed a
  unfolding header_size header_bytes
  header-short a h = least-short (λ b. a + b + fixed) (λ j l. omega arith) h

  header-within : (a : ℕ) → header_bytes fixed a ≤ least (λ _. header_size fixed a)
  unfolding header_size header_bytes
  header-within a = least-within (λ b. a + b + fixed) (λ j l. omega arith)

  module _ (contents : ℕ) where
    length-short : header_size fixed (length_bytes fixed contents) + contents < 2 ^ 28 → least
        (λ _. header_size fixed (length_bytes fixed contents) + contents) ≡ length_bytes fixed contents
    unfolding length_bytes
    length-short h = least-short (λ a. header_size fixed a + contents) (λ j l. omega (arith, header-rises j (least (λ a. header_size fixed a + contents)) l)) h

    length-within : length_bytes fixed contents ≤ least (λ _. header_size fixed (length_bytes fixed contents) + contents)
    unfolding length_bytes
    length-within = least-within (λ a. header_size fixed a + contents) (λ j l. omega (arith, header-rises j (least (λ a. header_size fixed a + contents)) l))

    -- in any byte counts that hold both they have no fewer bytes
    bytes-least : (a b : ℕ) → 1 ≤ a → 1 ≤ b → a + b + fixed < 128 ^ b → a + b + fixed + contents < 128 ^ a
        → (length_bytes fixed contents ≤ a) × (header_bytes fixed (length_bytes fixed contents) ≤ b)
    unfolding length_bytes header_size header_bytes
    bytes-least a b l m h k =
        let x : header_bytes fixed a ≤ b = least-le (λ j. a + j + fixed) b m h in
        let y : length_bytes fixed contents ≤ a = least-le (λ j. header_size fixed j + contents) a l (omega arith) in
        let z : header_bytes fixed (length_bytes fixed contents) ≤ header_bytes fixed a = least-up (λ j. length_bytes fixed contents + j + fixed) (λ j. a + j + fixed) (omega arith) in
        (y, omega arith)

module _ (contained : ℕ) (rest : List ℕ) where
  -- the header has as many bytes as NodeHeaderLength says
  pub framed-header : (contents : ℕ) → header_of contained rest contents + contents < 2 ^ 28
      → header_of contained rest contents ≡ length (vlq (header_of contained rest contents + contents)) + length (vlq contained) + length
      (vlq (header_of contained rest contents)) + length rest
  unfolding header_of
  framed-header contents h =
      let fixed : ℕ = length (vlq contained) + length rest in let a : ℕ = length_bytes fixed contents in
      let i : length (vlq (header_size fixed a + contents)) ≡ a = vlq-length (header_size fixed a + contents) ∙ length-short fixed contents h in
      let j : length (vlq (header_size fixed a)) ≡ header_bytes fixed a = vlq-length (header_size fixed a) ∙ header-short fixed a (omega arith) in
      omega (arith, header_is fixed a)

  -- NodeHeaderLength is the least: no more than in any byte counts a and b of NodeLength and itself that hold both; and so is NodeLength, which has `contents` more
  pub header-least : (contents a b : ℕ) → 1 ≤ a → 1 ≤ b → a + length (vlq contained) + b + length rest < 128 ^ b → a + length (vlq contained)
      + b + length rest + contents < 128 ^ a → header_of contained rest contents ≤ a + length (vlq contained) + b + length rest
  unfolding header_of
  header-least contents a b l m h k =
      let fixed : ℕ = length (vlq contained) + length rest in
      let w = bytes-least fixed contents a b l m (omega arith) (omega arith) in
      omega (arith, header_is fixed (length_bytes fixed contents))

  header-most : (contents : ℕ) → header_of contained rest contents ≤ length (vlq (header_of contained rest contents + contents)) + length
      (vlq contained) + length (vlq (header_of contained rest contents)) + length rest
  unfolding header_of
  header-most contents =
      let fixed : ℕ = length (vlq contained) + length rest in let a : ℕ = length_bytes fixed contents in
      omega (arith, header_is fixed a, length-within fixed contents, header-within fixed a, vlq-length (header_size fixed a + contents), vlq-length (header_size fixed a))

  module _ (own : List ℕ) (n : ℕ) where
    -- a node has as many bytes as NodeLength says, and never fewer
    pub framed-length : header_of contained rest (length own + n) + (length own + n) < 2 ^ 28 → length (framed contained rest own n) + n ≡
        header_of contained rest (length own + n) + (length own + n)
    unfolding framed
    framed-length h =
        let c : ℕ = length own + n in let H : ℕ = header_of contained rest c in
        omega (arith, joined_length (vlq (H + c) ∷ vlq contained ∷ vlq H ∷ rest ∷ own ∷ []), framed-header c h)

    pub framed-most : header_of contained rest (length own + n) + (length own + n) ≤ length (framed contained rest own n) + n
    unfolding framed
    framed-most =
        let c : ℕ = length own + n in let H : ℕ = header_of contained rest c in
        omega (arith, joined_length (vlq (H + c) ∷ vlq contained ∷ vlq H ∷ rest ∷ own ∷ []), header-most c)

-- ---- FileLength, TreeStart and TreeEnd

module _ (fixed tree : ℕ) where
  -- TreeEnd, where FileLength has x bytes and TreeStart y
  abbrev last_with : (x y : ℕ) → ℕ
  last_with x y = start_with fixed x y (last_bytes fixed tree x y) + tree - 1

  last_up : (x x' y y' : ℕ) → x ≤ x' → y ≤ y' → last_bytes fixed tree x y ≤ last_bytes fixed tree x' y'
  unfolding last_bytes
  last_up x x' y y' l m = least-up (λ z. start_with fixed x y z + tree - 1) (λ z. start_with fixed x' y' z + tree - 1) (omega arith)

  start_up : (x x' : ℕ) → x ≤ x' → start_bytes fixed tree x ≤ start_bytes fixed tree x'
  unfolding start_bytes
  start_up x x' l =
      least-up (λ y. start_with fixed x y (last_bytes fixed tree x y)) (λ y. start_with fixed x' y (last_bytes fixed tree x' y))
      (omega (arith, last_up x x' (start_bytes fixed tree x') (start_bytes fixed tree x') l (omega arith)))

  start-rises : (x x' : ℕ) → x ≤ x' → start_at fixed tree x ≤ start_at fixed tree x'
  unfolding start_at
  start-rises x x' l = let a = start_up x x' l in omega (arith, last_up x x' (start_bytes fixed tree x) (start_bytes fixed tree x') l a)

  start_is : (x : ℕ) → start_at fixed tree x ≡ start_with fixed x (start_bytes fixed tree x) (last_bytes fixed tree x (start_bytes fixed tree x))
  unfolding start_at
  start_is x = refl

  last-short : (x y : ℕ) → last_with x y < 2 ^ 28 → least (λ _. last_with x y) ≡ last_bytes fixed tree x y
  unfolding last_bytes
  last-short x y h = least-short (λ z. start_with fixed x y z + tree - 1) (λ j l. omega arith) h

  last_within : (x y : ℕ) → last_bytes fixed tree x y ≤ least (λ _. last_with x y)
  unfolding last_bytes
  last_within x y = least-within (λ z. start_with fixed x y z + tree - 1) (λ j l. omega arith)

  start-short : (x : ℕ) → start_at fixed tree x < 2 ^ 28 → least (λ _. start_at fixed tree x) ≡ start_bytes fixed tree x
  unfolding start_bytes start_at
  start-short x h = least-short (λ y. start_with fixed x y (last_bytes fixed tree x y)) (λ j l. omega (arith, last_up x x j (start_bytes fixed tree x) (omega arith) l)) h

  start-within : (x : ℕ) → start_bytes fixed tree x ≤ least (λ _. start_at fixed tree x)
  unfolding start_bytes start_at
  start-within x = least-within (λ y. start_with fixed x y (last_bytes fixed tree x y)) (λ j l. omega (arith, last_up x x j (start_bytes fixed tree x) (omega arith) l))

module _ (fixed tree after : ℕ) where
  file-short : start_at fixed tree (file_bytes fixed tree after) + tree + after < 2 ^ 28 → least
      (λ _. start_at fixed tree (file_bytes fixed tree after) + tree + after) ≡ file_bytes fixed tree after
  unfolding file_bytes
  file-short h = least-short (λ x. start_at fixed tree x + tree + after) (λ j l. omega (arith, start-rises fixed tree j (file_bytes fixed tree after) l)) h

  file-within : file_bytes fixed tree after ≤ least (λ _. start_at fixed tree (file_bytes fixed tree after) + tree + after)
  unfolding file_bytes
  file-within = least-within (λ x. start_at fixed tree x + tree + after) (λ j l. omega (arith, start-rises fixed tree j (file_bytes fixed tree after) l))

  -- in any byte counts that hold all three they have no fewer bytes
  three_least : (x y z : ℕ) → 1 ≤ x → 1 ≤ y → 1 ≤ z → start_with fixed x y z < 128 ^ y → start_with fixed x y z + tree - 1 < 128 ^ z → start_with fixed x y z + tree + after < 128 ^ x
      → (file_bytes fixed tree after ≤ x) × (start_bytes fixed tree (file_bytes fixed tree after) ≤ y) ×
      (last_bytes fixed tree (file_bytes fixed tree after) (start_bytes fixed tree (file_bytes fixed tree after)) ≤ z)
  unfolding file_bytes start_at start_bytes last_bytes
  three_least x y z l m n h k j =
      let w : ℕ = file_bytes fixed tree after in
      let c : last_bytes fixed tree x y ≤ z = least-le (λ z. start_with fixed x y z + tree - 1) z n k in
      let b : start_bytes fixed tree x ≤ y = least-le (λ y. start_with fixed x y (last_bytes fixed tree x y)) y m (omega arith) in
      let d : last_bytes fixed tree x (start_bytes fixed tree x) ≤ last_bytes fixed tree x y = last_up fixed tree x x (start_bytes fixed tree x) y (omega arith) b in
      let a : w ≤ x = least-le (λ x. start_at fixed tree x + tree + after) x l (omega arith) in
      let e : start_bytes fixed tree w ≤ start_bytes fixed tree x = start_up fixed tree w x a in
      let f : last_bytes fixed tree w (start_bytes fixed tree w) ≤ last_bytes fixed tree x (start_bytes fixed tree x) = last_up fixed tree w x
      (start_bytes fixed tree w) (start_bytes fixed tree x) a e in
      (a, omega arith, omega arith)

-- ---- the file

module _ (opening types gap tree after : List ℕ) where
  abbrev pub S : ℕ
  S = tree_start opening types gap tree after

  -- what stands before the tree, but for the gap
  abbrev pub front : ℕ
  front = length opening + length (vlq (S + length tree + length after)) + length types + length (vlq S) + length (vlq (S + length tree - 1))

  -- the tree starts where TreeStart says, and never after
  pub start_right : S + length tree + length after < 2 ^ 28 → front + length gap ≡ S
  unfolding tree_start
  start_right h =
      let fixed : ℕ = length opening + length types + length gap in
      let x : ℕ = file_bytes fixed (length tree) (length after) in
      let y : ℕ = start_bytes fixed (length tree) x in let s : ℕ = start_at fixed (length tree) x in
      let e = start_is fixed (length tree) x in
      let a = vlq-length (s + length tree + length after) ∙ file-short fixed (length tree) (length after) h in
      let b = vlq-length s ∙ start-short fixed (length tree) x (omega arith) in
      let c : length (vlq (s + length tree - 1)) ≡ last_bytes fixed (length tree) x y = rw e
      (vlq-length (last_with fixed (length tree) x y) ∙ last-short fixed (length tree) x y (omega arith)) in
      omega arith

  -- TreeStart is the least: no more than in any byte counts x, y and z of FileLength, TreeStart and TreeEnd that hold all three; and so are the other two
  pub start-least : (x y z : ℕ) → 1 ≤ x → 1 ≤ y → 1 ≤ z → length opening + x + length types + y + z + length gap < 128 ^ y
      → length opening + x + length types + y + z + length gap + length tree - 1 < 128 ^ z → length opening + x + length types + y + z + length
      gap + length tree + length after < 128 ^ x
      → S ≤ length opening + x + length types + y + z + length gap
  unfolding tree_start
  start-least x y z l m n i j k =
      let fixed : ℕ = length opening + length types + length gap in
      let w = three_least fixed (length tree) (length after) x y z l m n (omega arith) (omega arith) (omega arith) in
      omega (arith, start_is fixed (length tree) (file_bytes fixed (length tree) (length after)))

  start-most : S ≤ front + length gap
  unfolding tree_start
  start-most =
      let fixed : ℕ = length opening + length types + length gap in
      let x : ℕ = file_bytes fixed (length tree) (length after) in
      let y : ℕ = start_bytes fixed (length tree) x in let s : ℕ = start_at fixed (length tree) x in
      let e = start_is fixed (length tree) x in
      let c : last_bytes fixed (length tree) x y ≤ length (vlq (s + length tree - 1)) = rw (e, vlq-length) (last_within fixed (length tree) x y) in
      omega (arith, vlq-length (s + length tree + length after), file-within fixed (length tree) (length after), vlq-length s, start-within fixed (length tree) x)

  pub size_is : length (file_of opening types gap tree after) ≡ front + length gap + length tree + length after
  unfolding file_of assembled
  size_is = omega (arith, joined_length (opening ∷ vlq (S + length tree + length after) ∷ types ∷ vlq S ∷ vlq (S + length tree - 1) ∷ gap ∷ tree ∷ after ∷ []))

  -- the file has as many bytes as FileLength says, where four bytes hold that
  pub file-length : length (file_of opening types gap tree after) < 2 ^ 28 →
      (S + length tree + length after ≡ length (file_of opening types gap tree after)) × (front + length gap ≡ S)
  file-length h =
      let small : S + length tree + length after < 2 ^ 28 = omega (arith, size_is, start-most) in
      let e = start_right small in
      (omega (arith, size_is), e)
