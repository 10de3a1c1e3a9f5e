-- Where the parts of a written file stand.
-- Assumes nothing.
use mathlib.Core.Path.{◌≡◌, refl, ap}
use mathlib.Core.List.{List, [], ◌∷◌}
use Prim.Native.Nat.{ℕ, ◌+◌, ◌-◌, ◌^◌, ◌<◌}
use native.Mathlib.Omega.{arith}
use lib.ListN.{length}
use Rattle.vlq.specs.Vlq.{vlq}
use Rattle.room.proofs.Lies.{Lies, lies_at, lies_as, Stand, stand}
use Rattle.title_text.specs.Text.{assembled, file_of}
use Rattle.title_text.proofs.Sizes.{S, front, file-length}

-- the tree of g goes from `start` to `last`, and the header ends at `end`
pub record FileStands (opening types gap tree after g : List ℕ) (start last end : ℕ) : Type 0 where
  pub opening-lies : Lies g 0 opening
  pub length-lies : Lies g (length opening) (vlq (length g))
  pub types-lies : Lies g (length opening + length (vlq (length g))) types
  pub start-lies : Lies g (length opening + length (vlq (length g)) + length types) (vlq start)
  pub last-lies : Lies g (length opening + length (vlq (length g)) + length types + length (vlq start)) (vlq last)
  pub gap-lies : Lies g end gap
  pub tree-lies : Lies g start tree
  pub after-lies : Lies g (last + 1) after
  pub end_is : end ≡ length opening + length (vlq (length g)) + length types + length (vlq start) + length (vlq last)
  pub start_is : end + length gap ≡ start
  pub last-is : start + length tree ≡ last + 1
  pub size_is : last + 1 + length after ≡ length g

lies_self : (g : List ℕ) → Lies g 0 g
lies_self g = record { inside = omega arith; same = λ k l. let e : 0 + k ≡ k = omega arith in rw e refl }

module _ (opening types gap tree after : List ℕ) (some : 0 < length tree) (small : length (file_of opening types gap tree after) < 2 ^ 28) where
  abbrev F : ℕ
  F = S opening types gap tree after + length tree + length after

  abbrev L : ℕ
  L = S opening types gap tree after + length tree - 1

  stand_all : Stand (file_of opening types gap tree after) 0 (opening ∷ vlq F ∷ types ∷ vlq (S opening types gap tree after) ∷ vlq L ∷ gap ∷ tree ∷ after ∷ [])
  unfolding file_of assembled
  stand_all = stand (opening ∷ vlq F ∷ types ∷ vlq (S opening types gap tree after) ∷ vlq L ∷ gap ∷ tree ∷ after ∷ []) (lies_self _)

  pub file-stands : FileStands opening types gap tree after (file_of opening types gap tree after) (S opening types gap tree after)
      (S opening types gap tree after + length tree - 1) (front opening types gap tree after)
  file-stands =
      let s = stand_all in
      let w = file-length opening types gap tree after small in
      let k = w.0 in let i = w.1 in let j = ap (λ n. length (vlq n)) k in
      record {
        opening-lies = s.0;
        length-lies = lies_as (ap vlq k) (lies_at (omega arith) s.1.0);
        types-lies = lies_at (omega arith) s.1.1.0;
        start-lies = lies_at (omega arith) s.1.1.1.0;
        last-lies = lies_at (omega arith) s.1.1.1.1.0;
        gap-lies = lies_at (omega arith) s.1.1.1.1.1.0;
        tree-lies = lies_at (omega arith) s.1.1.1.1.1.1.0;
        after-lies = lies_at (omega arith) s.1.1.1.1.1.1.1.0;
        end_is = omega arith;
        start_is = omega arith;
        last-is = omega arith;
        size_is = omega arith;
      }
