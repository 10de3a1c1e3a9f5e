-- `put8` puts the bytes that `utf8` has.
-- Assumes nothing.
use mathlib.Core.Path.{sym, ◌∙◌}
use Rattle.room.proofs.Counting.{counts-then, counts-as}
use Rattle.utf16.proofs.Eight.{one8, two8, three8, four8, one-tail, two-tails, three_tails}
use Rattle.utf16.proofs.put8.Goals as goal

pub returns-then-c-lt128 : goal.returns-then-c-lt128
returns-then-c-lt128 c = counts-as (sym (one8 _ c.if-c-lt128.true)) c.put_byte.ensures

pub returns-then-c-lt2048 : goal.returns-then-c-lt2048
returns-then-c-lt2048 c = counts-as (one-tail c.tail.ensures ∙ sym (two8 _ c.if-c-lt128.false c.if-c-lt2048.true))
    (counts-then c.put_byte-one.ensures c.put_byte-then-c-lt2048.ensures)

pub returns-then-c-lt65536 : goal.returns-then-c-lt65536
returns-then-c-lt65536 c = counts-as (two-tails c.tail-then-c-lt65536.ensures c.tail-then-c-lt65536-2.ensures ∙ sym (three8 _ c.if-c-lt2048.false c.if-c-lt65536.true))
    (counts-then c.put_byte-one-then-c-lt65536.ensures (counts-then c.put_byte-two.ensures c.put_byte-then-c-lt65536.ensures))

pub returns : goal.returns
returns c = counts-as (three_tails c.tail-2.ensures c.tail-3.ensures c.tail-4.ensures ∙ sym (four8 _ c.if-c-lt65536.false))
    (counts-then c.put_byte-one-2.ensures
    (counts-then c.put_byte-two-2.ensures (counts-then c.put_byte-three.ensures c.put_byte-2.ensures)))
