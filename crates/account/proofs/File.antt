-- The account of an accepted file: its counts are the numbers of its places, and sum to its length. Two files that differ in what is private have one account, and the same kinds at the same places.
-- Assumes nothing.
use mathlib.Core.Path.{◌≡◌, refl, sym, ap, ◌∙◌, subst}
use mathlib.Core.Logic.{inl, inr}
use mathlib.Core.List.{List, [], ◌∷◌, ◌++◌}
use Prim.Native.Nat.{ℕ, ◌<◌}
use native.Mathlib.Omega.{arith}
use lib.ListN.{length}
use Rattle.machine.specs.Machine.{seen, passed, trace, rows_of}
use Rattle.cursor.specs.Rows.{node_row, item_row, plain, Events}
use Rattle.cursor.specs.declared.Node.{Node}
use Rattle.cursor.specs.declared.Item.{Item}
use Rattle.machine.proofs.Stable.{Separate, stable}
use Rattle.machine.proofs.Wp.{All}
use Rattle.header.specs.Header.{Header, header}
use Rattle.metadata.specs.declared.Limits.{Limits}
use Rattle.metadata.proofs.Ends.{Nothing, Inside}
use Rattle.rows.specs.Rows.{nodes_of}
use Rattle.file.specs.Reading.{rows, log_from, read_file}
use Rattle.file_laws.specs.Private.{DifferInPrivate}
use Rattle.file.proofs.Follow.{ReadAs, read_back, log_is}
use Rattle.file.proofs.Shown.{header_of_lem, log-inside}
use Rattle.file_laws.proofs.Demand.{Taken, Parts, all_sound, private_alike, private_data}
use Rattle.account.specs.Account.{logged, events_of, kinds_of}
use Rattle.account.specs.Marks.{marks_of}
use Rattle.account.proofs.Places.{Counted, all-counted}

taken-inside : (es : Events) (size k : ℕ) → All (Inside Nothing size size).asks es → Taken (nodes_of es) k → k < size
unfolding rows_of
taken-inside [] size k a t = absurd t
taken-inside (seen κ p ∷ es) size k a t = taken-inside es size k a t
taken-inside (passed (node_row r) p n ∷ es) size k a (inl x) = let l = a.0.1 in omega arith
taken-inside (passed (node_row r) p n ∷ es) size k a (inr y) = taken-inside es size k a.1 y
taken-inside (passed (item_row r) p n ∷ es) size k a t = taken-inside es size k a.1 t
taken-inside (passed (plain x) p n ∷ es) size k a t = taken-inside es size k a.1 t

module _ (lim : Limits) (f : List ℕ) {h : Header} {ns : List Node} {is : List Item} (r : read_file lim f ≡ rows h ns is) where
  abbrev pub a : ReadAs lim f h ns is
  a = read_back lim f r

  pub events-are : events_of lim f h ≡ trace (header (length f)) f 0 ++ a.log
  unfolding events_of
  events-are = ap (λ v. trace (header (length f)) f 0 ++ logged v) (log_is a)

  in_file_lem : (k : ℕ) → Parts lim f h (nodes_of a.log) k → k < length f
  in_file_lem k (inl x) = let w = header_of_lem a in omega arith
  in_file_lem k (inr (inl x)) = let w = header_of_lem a in omega arith
  in_file_lem k (inr (inr x)) = taken-inside a.log (length f) k (log-inside a) x

  pub file-counted : Counted (length f) (events_of lim f h)
  file-counted = let s = all_sound lim f h a in rw events-are (all-counted (length f) _ s.apart (λ k c. in_file_lem k (s.within k c)))

  pub file-separate : Separate (events_of lim f h)
  file-separate = rw events-are (all_sound lim f h a).apart

-- ---- demand 3

module _ (lim : Limits) (f g : List ℕ) {h : Header} {ns : List Node} {is : List Item} (r : read_file lim f ≡ rows h ns is) (d : DifferInPrivate h ns is f g) where
  events-alike : events_of lim g h ≡ events_of lim f h
  unfolding events_of
  events-alike =
      let x = private_alike lim f g r d in let e = header-same (read_back lim f r) x.read_as in
      let l = subst (λ v. log_from lim g v ≡ log_from lim f v) (sym e) x.same_log in
      let t = (stable private_data (header (length f)) f g 0 x.keeps_header).1 in
      rw (l, ← d.same_length, ← t) refl
    where
      header-same : {h' : Header} (a : ReadAs lim f h ns is) (b : ReadAs lim f h' ns is) → h ≡ h'
      header-same a b = let e = sym a.header_is ∙ b.header_is in cc

  pub kinds-alike : kinds_of lim g h ns is ≡ kinds_of lim f h ns is
  unfolding kinds_of
  kinds-alike = rw (events-alike, ← d.same_length) refl

  pub marks_alike : (room : ℕ) → marks_of lim room g h ns is ≡ marks_of lim room f h ns is
  unfolding marks_of
  marks_alike room = rw (events-alike, ← d.same_length) refl
