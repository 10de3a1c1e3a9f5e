-- `put_unicode` puts UTF-16 converted where it converts, and escaped where not.
-- Assumes nothing.
use mathlib.Core.Path.{refl}
use Rattle.room.proofs.Counting.{counts-as, lent-part}
use Rattle.text.proofs.Shown.{unicode-good, unicode-bad}
use Rattle.text.proofs.LowBytes.{lent_length, letters_text}
use native.Mathlib.Omega.{arith}
use Rattle.text.proofs.put_unicode.Goals as goal

pub overflow_mul-n : goal.overflow_mul-n
overflow_mul-n c = let long = lent_length c.args.file.now c.args.from c.args.size c.requires (lent-part c.args.file.now c.args.from c.args.size refl) in
    omega (arith, long, c.letters-n.ensures.inside)

pub overflow_add-mark : goal.overflow_add-mark
overflow_add-mark c = let long = lent_length c.args.file.now c.args.from c.args.size c.requires (lent-part c.args.file.now c.args.from c.args.size refl) in
    omega (arith, long, c.letters-n.ensures.inside)

pub returns-then-mark-n : goal.returns-then-mark-n
returns-then-mark-n c = letters_text c.args.file.now c.args.from c.args.size c.requires (lent-part c.args.file.now c.args.from c.args.size refl)
    (λ i. omega (arith, c.shared_slice_known-1.given i)) c.after_mark-mark.ensures.units_value c.after_mark-mark.ensures.upper_bound
    c.letters-n.ensures c.if-mark-n.true (omega arith) c.put_lows.ensures

pub returns-then-converts : goal.returns-then-converts
returns-then-converts c = counts-as (unicode-good c.args.file.now c.args.from c.args.size
    (lent-part c.args.file.now c.args.from c.args.size refl) c.converts.ensures c.if-converts.true)
    c.put_shown.ensures

pub returns : goal.returns
returns c = counts-as (unicode-bad c.args.file.now c.args.from c.args.size
    (lent-part c.args.file.now c.args.from c.args.size refl) c.converts.ensures c.if-converts.false)
    c.put_escaped.ensures
