-- `char16` gives what `first16` gives of the bytes from a place on.
-- Assumes nothing.
use Rattle.utf16.proofs.Ways.{none_left, low-unit, high-unit, lone_unit, lone_end, early_unit, late_unit, both-units}
use Rattle.utf16.proofs.char16.Goals as goal

pub returns-then-left-lt2 : goal.returns-then-left-lt2
returns-then-left-lt2 c = none_left c.args.units.now c.args.at c.room_at-left.ensures c.if-left-lt2.true

pub returns-then-u-lt55296 : goal.returns-then-u-lt55296
returns-then-u-lt55296 c = low-unit c.args.units.now c.args.at c.room_at-left.ensures c.if-left-lt2.false c.unit-u.ensures.value c.if-u-lt55296.true

pub returns-then-u-ge57344 : goal.returns-then-u-ge57344
returns-then-u-ge57344 c = high-unit c.args.units.now c.args.at c.room_at-left.ensures c.if-left-lt2.false c.unit-u.ensures.value c.if-u-ge57344.true

pub returns-then-u-ge56320 : goal.returns-then-u-ge56320
returns-then-u-ge56320 c = lone_unit c.args.units.now c.args.at c.room_at-left.ensures c.if-left-lt2.false c.unit-u.ensures.value c.if-u-ge56320.true c.if-u-ge57344.false

pub returns-then-left-lt4 : goal.returns-then-left-lt4
returns-then-left-lt4 c = lone_end c.args.units.now c.args.at c.room_at-left.ensures c.if-left-lt2.false c.unit-u.ensures.value
    c.if-u-lt55296.false c.if-u-ge56320.false c.if-left-lt4.true

pub returns-then-v-lt56320 : goal.returns-then-v-lt56320
returns-then-v-lt56320 c = early_unit c.args.units.now c.args.at c.room_at-left.ensures c.if-left-lt2.false c.unit-u.ensures.value
    c.if-u-lt55296.false c.if-u-ge56320.false c.if-left-lt4.false c.unit-v.ensures.value c.if-v-lt56320.true

pub returns-then-v-ge57344 : goal.returns-then-v-ge57344
returns-then-v-ge57344 c = late_unit c.args.units.now c.args.at c.room_at-left.ensures c.if-left-lt2.false c.unit-u.ensures.value
    c.if-u-lt55296.false c.if-u-ge56320.false c.if-left-lt4.false c.unit-v.ensures.value c.if-v-ge57344.true

pub returns : goal.returns
returns c = both-units c.args.units.now c.args.at c.room_at-left.ensures c.if-left-lt2.false c.unit-u.ensures.value
    c.if-u-lt55296.false c.if-u-ge56320.false c.if-left-lt4.false c.unit-v.ensures.value c.if-v-lt56320.false c.if-v-ge57344.false
