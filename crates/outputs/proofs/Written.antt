-- The sheet, as the code comes to it.
-- Assumes nothing.
use mathlib.Core.Path.{◌≡◌, ap}
use mathlib.Core.Bool.{Bool}
use mathlib.Core.List.{List}
use Prim.Native.Nat.{ℕ}
use Rattle.metadata.specs.Tables.{full_nodes, full_items, limits}
use Rattle.file.specs.Reading.{read_file}
use Rattle.file.specs.Asking.{ask}
use Rattle.sheet.specs.Sheet.{write_in}
use Rattle.lines.specs.Answer.{plainly, printed}
use Rattle.outputs.specs.Printed.{sheet_answer}
use Rattle.lines.proofs.Reading.{full}

module _ (f : List ℕ) {n i : ℕ} (en : full_nodes ≡ n) (ei : full_items ≡ i) where
  module _ (room : ℕ) (tail : List ℕ) where
    pub sheet_as : (second : Bool) → printed room tail plainly (ask (read_file (limits n i) f) (write_in second room f)) ≡ sheet_answer room second tail f
    unfolding sheet_answer
    sheet_as second = ap (printed room tail plainly) (full f en ei (write_in second room f))
