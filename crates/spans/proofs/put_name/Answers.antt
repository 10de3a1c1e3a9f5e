-- `put_name` puts the field of a kind.
-- Assumes nothing.
use Rattle.room.proofs.Counting.{counts-as}
use Rattle.spans.proofs.Running.{name-is, no_name}
use Rattle.spans.proofs.put_name.Goals as goal

pub returns-in-0 : goal.returns-in-0
returns-in-0 c = counts-as (name-is 0 c.in-0.is) c.put_bytes.ensures

pub returns-in-1 : goal.returns-in-1
returns-in-1 c = counts-as (name-is 1 c.in-1.is) c.put_bytes-in-1.ensures

pub returns-in-2 : goal.returns-in-2
returns-in-2 c = counts-as (name-is 2 c.in-2.is) c.put_bytes-in-2.ensures

pub returns-in-3 : goal.returns-in-3
returns-in-3 c = counts-as (name-is 3 c.in-3.is) c.put_bytes-in-3.ensures

pub returns-in-4 : goal.returns-in-4
returns-in-4 c = counts-as (name-is 4 c.in-4.is) c.put_bytes-in-4.ensures

pub returns-in-5 : goal.returns-in-5
returns-in-5 c = counts-as (name-is 5 c.in-5.is) c.put_bytes-in-5.ensures

pub returns-in-6 : goal.returns-in-6
returns-in-6 c = counts-as (name-is 6 c.in-6.is) c.put_bytes-in-6.ensures

pub returns-in-7 : goal.returns-in-7
returns-in-7 c = counts-as (name-is 7 c.in-7.is) c.put_bytes-in-7.ensures

pub returns-in-8 : goal.returns-in-8
returns-in-8 c = counts-as (name-is 8 c.in-8.is) c.put_bytes-in-8.ensures

pub returns-in_default : goal.returns-in_default
returns-in_default c = counts-as (no_name _ c.in_default.in_default-own.rest.0.0.0.0.0.0.0.0.1 c.in_default.in_default-own.rest.0.0.0.0.0.0.0.1 c.in_default.in_default-own.rest.0.0.0.0.0.0.1 c.in_default.in_default-own.rest.0.0.0.0.0.1
    c.in_default.in_default-own.rest.0.0.0.0.1 c.in_default.in_default-own.rest.0.0.0.1 c.in_default.in_default-own.rest.0.0.1 c.in_default.in_default-own.rest.0.1 c.in_default.in_default-own.rest.1) c.put_byte.ensures
