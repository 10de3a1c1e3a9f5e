-- Where each part of the header ends: after it began, and not past the bytes lent; and what an accepted header says of the tree.
-- Assumes nothing.
use mathlib.Core.Path.{◌≡◌, refl}
use mathlib.Core.List.{List}
use Prim.Native.Nat.{ℕ, ◌+◌, ◌^◌, ◌≤◌, ◌<◌}
use native.Mathlib.Omega.{arith}
use lib.ListN.{length}
use borrow.Author.Tests.{ltb-true, leb-true}
use Rattle.machine.proofs.Wp.{Wp, wp_after, wp_then, wp_weaken, wp_ret, wp_refuse, wp_if, wp_check, wp_checked, wp_place, wp_skip, wp_times}
use Rattle.cursor.proofs.Leaves.{Any, next-on, number-on, block_on}
use Rattle.header.specs.Types.{Declared}
use Rattle.header.specs.Header.{four, opening, edition, file_length, entry, types_table, extent, header}

pub four-on : (past end at : ℕ) → Wp Any (four past end) (λ _ q. (q ≡ at + 4) × (q ≤ end)) at
unfolding four
four-on past end at =
    wp_place _ at
    (wp_after (next-on _ _ end at at) λ a p x. wp_after (next-on _ _ end at p) λ b q y. wp_after (next-on _ _ end at q) λ c r z. wp_after (next-on _ _ end at r) λ d s w.
    wp_ret (omega arith, omega arith))

pub opening_on : (size : ℕ) → Wp Any (opening size) (λ _ q. (q ≡ 8) × (8 ≤ size) × (size < 2 ^ 28)) 0
unfolding opening
opening_on size =
    wp_check _ _ λ t. wp_check _ _ λ u.
    wp_after (four-on _ size 0) λ m p x. wp_check _ _ λ v.
    wp_after (four-on _ size p) λ n q y.
    let e = ltb-true size (2 ^ 28) t in
    wp_if (λ _. wp_ret (omega arith, omega arith, omega arith)) λ _. wp_if (λ _. wp_ret (omega arith, omega arith, omega arith)) λ _. wp_if
    (λ _. wp_ret (omega arith, omega arith, omega arith)) λ _. wp_refuse

pub edition-on : (size version at : ℕ) → at ≤ size → Wp Any (edition size version) (λ _ q. (at ≤ q) × (q ≤ size)) at
unfolding edition
edition-on size version at l =
    wp_if
    (λ t. wp_after (four-on _ size at) λ a p x. wp_after (four-on _ size p) λ b q y. wp_ret (omega arith, omega arith))
    (λ t. wp_ret (omega arith, omega arith))

pub entry-on : (end : ℕ) (ds : List Declared) (at : ℕ) → Wp Any (entry end ds) (λ _ q. (length ds < 32) × (at ≤ q) × (q ≤ end)) at
unfolding entry
entry-on end ds at =
    wp_place _ at
    (wp_after (number-on _ _ end at) λ t p x. wp_check _ _ λ u. wp_check _ _ λ v.
    wp_after (number-on _ _ end p) λ f q y.
    wp_after (block_on _ _ end q) λ n r z.
    wp_skip _ _ tt (λ _. wp_ret (ltb-true _ _ u, omega arith, omega arith)))

pub types-on : (size at : ℕ) → Wp Any (types_table size) (λ _ q. (at < q) × (q ≤ size)) at
unfolding types_table
types-on size at =
    wp_after (block_on _ _ size at) λ n q x.
    wp_place _ q
    (wp_after (number-on _ _ (q + n) q) λ count r y.
    wp_after (wp_times (λ _. Unit {0}) count _ (λ ds p l i. wp_weaken (entry-on (q + n) ds p) (λ _ v z. (tt, z.1, z.2))) tt (omega arith)) λ ds e z.
    wp_place _ e (wp_check _ _ λ t. wp_ret (omega (arith, leb-true (q + n) e t), omega arith)))

-- the tree lies after the header, in the bytes lent
pub extent-on : (size at : ℕ) → Wp Any (extent size) (λ x q. (at < q) × (q ≡ x.end) × (x.end ≤ x.start) × (x.start ≤ x.last) × (x.last < size)) at
unfolding extent
extent-on size at =
    wp_place _ at
    (wp_after (number-on _ _ size at) λ start q x.
    wp_place _ q
    (wp_after (number-on _ _ size q) λ last r y.
    wp_place _ r (wp_check _ _ λ t. wp_check _ _ λ u. wp_check _ _ λ v.
    wp_ret (omega arith, refl, leb-true r start t, leb-true start last u, ltb-true last size v))))

pub length-on : (size at : ℕ) → Wp Any (file_length size) (λ _ q. (at < q) × (q ≤ size)) at
unfolding file_length
length-on size at = wp_place _ at (wp_after (number-on _ _ size at) λ n q x. wp_checked _ _ λ t. (omega arith, omega arith))

pub header-on : (size : ℕ) → Wp Any (header size)
    (λ h q. (q ≡ h.extent.end) × (q ≤ h.extent.start) × (h.extent.start ≤ h.extent.last) × (h.extent.last < size) × (size < 2 ^ 28)) 0
unfolding header
header-on size =
    wp_after (opening_on size) λ v p x.
    wp_after (edition-on size v p (omega arith)) λ e q y.
    wp_then (length-on size q) λ u r z.
    wp_after (types-on size r) λ ds s w.
    wp_after (extent-on size s) λ t o k.
    wp_ret (omega arith, omega arith, omega arith, omega arith, omega arith)
