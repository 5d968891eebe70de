-- What a source and a sink in memory are to their callers, and which of their calls fail.
use Rattle.std.specs.Prelude.{ℕ, ◌+◌, ◌-◌, ◌^◌, min, Result, Ok, Err, List, Contains}

-- the calls that are to fail, counted from 1, how many calls there were, and how many failed
pub record Schedule : Type 0 where
  pub fails : List ℕ
  pub calls : ℕ
  pub faults : ℕ

-- the schedule before the first call
abbrev pub scheduled : List ℕ → Schedule
scheduled fails = record { fails = fails; calls = 0; faults = 0 }

-- the number of the next call, which stays where a count of 32 bits stops
abbrev pub next_call : Schedule → ℕ
next_call schedule = min (schedule.calls + 1) (2 ^ 32 - 1)

-- the next call is to fail
abbrev pub IsToFail : Schedule → Type 0
IsToFail schedule = Contains schedule.fails (next_call schedule)

-- the schedule after one more call, which failed if its result is an error
abbrev pub after_call : {T E : Type 0} → Result T E → Schedule → Schedule
after_call (Ok value) schedule = record schedule { calls = next_call schedule }
after_call (Err error) schedule = record schedule { calls = next_call schedule; faults = min (schedule.faults + 1) (2 ^ 64 - 1) }

-- a source in memory: the bytes still to come, the most that one call gives, and its schedule
pub record Given : Type 0 where
  pub left : List ℕ
  pub most : ℕ
  pub schedule : Schedule

-- a sink in memory: the bytes taken so far, the most that one call takes, and its schedule
pub record Kept : Type 0 where
  pub taken : List ℕ
  pub most : ℕ
  pub schedule : Schedule
