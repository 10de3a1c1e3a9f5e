-- The question's refusals: the reader's of the unchanged file, and 22.
-- Assumes nothing.
use mathlib.Core.Path.{◌≡◌, refl}
use mathlib.Core.Bool.{Bool, true, false, cond, ◌&&◌}
use mathlib.Core.List.{List, ◌++◌}
use Prim.Native.Nat.{ℕ}
use lib.Dec.{leb}
use lib.ListN.{length}
use Rattle.cursor.specs.Refusals.{of_reader, Among, PlacedIn}
use Rattle.metadata.specs.declared.Limits.{Limits}
use Rattle.room.specs.Room.{bad, good}
use Rattle.cursor.proofs.Listed.{allowed-front}
use Rattle.file.specs.Reading.{Reading, rows, refusal, read_file}
use Rattle.file.specs.Asking.{ask}
use Rattle.file_laws.proofs.Listed.{refusal-listed}
use Rattle.file_laws.proofs.Stays.{refusal-inside}
use Rattle.mend.specs.Mend.{Mended, mended, repair, fitting, accepted, mend, refusals}

module _ (room space : ℕ) (m : Mended) where
  fitting-listed : Among (of_reader ++ refusals) (fitting room space m)
  unfolding fitting
  fitting-listed = by (leb (length m.copy) room && leb (length m.lines) space)
    where
      by : (b : Bool) → Among (of_reader ++ refusals) (cond b (good m) (bad 22 0))
      by true = tt
      by false = tt

  fitting-placed : (size : ℕ) → PlacedIn size (fitting room space m)
  unfolding fitting
  fitting-placed size = by (leb (length m.copy) room && leb (length m.lines) space)
    where
      by : (b : Bool) → PlacedIn size (cond b (good m) (bad 22 0))
      by true = tt
      by false = λ i. absurd i

module _ (lim : Limits) (room space : ℕ) (f : List ℕ) where
  pub mend-listed : Among (of_reader ++ refusals) (mend lim room space f)
  unfolding mend ask
  mend-listed = by (accepted (read_file lim (mended f))) (read_file lim f) refl
    where
      by : (b : Bool) (o : Reading) → read_file lim f ≡ o → Among (of_reader ++ refusals) (cond b (fitting room space (repair f)) (ask o (λ h ns is. fitting room space (repair f))))
      by true o e = fitting-listed room space (repair f)
      by false (rows h ns is) e = fitting-listed room space (repair f)
      by false (refusal n p) e = allowed-front of_reader refusals n p (refusal-listed lim f e)

  pub mend-placed : PlacedIn (length f) (mend lim room space f)
  unfolding mend ask
  mend-placed = by (accepted (read_file lim (mended f))) (read_file lim f) refl
    where
      by : (b : Bool) (o : Reading) → read_file lim f ≡ o → PlacedIn (length f) (cond b (fitting room space (repair f)) (ask o (λ h ns is. fitting room space (repair f))))
      by true o e = fitting-placed room space (repair f) (length f)
      by false (rows h ns is) e = fitting-placed room space (repair f) (length f)
      by false (refusal n p) e = λ i. refusal-inside lim f e
