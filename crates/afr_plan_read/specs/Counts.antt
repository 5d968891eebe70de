-- What the reader keeps of the lines before, beside what they say.
use Rattle.std.specs.Prelude.{◌≡◌, ◌+◌, ◌≤◌, ℕ, List, [], ◌∷◌, length, count_by, sum_by}
use Rattle.afr_plan.specs.Said.{Said, Afr, Volume, Files, Client, Command, Healer, Round, Faulty, At, Go, End}
use Rattle.afr_plan.specs.Action.{Action, Write, Read, Ls}
use Rattle.afr_plan.specs.Rules.{bricks_of, is_client, is_command, is_listing, is_healer, is_round, is_fault, is_event, is_order, last_at, write_end, read_len}
use Rattle.afr_plan_read.specs.declared.totals.LineCounts.{LineCounts}

-- the counts of a command's kind with one more
abbrev pub worked : Action → LineCounts → LineCounts
worked (Write at bytes) c = record c { ends = c.ends + (at + length bytes) }
worked (Read at len) c = record c { lengths = c.lengths + len }
worked Ls c = record c { listings = c.listings + 1 }
worked w c = c

-- the counts with one line more
abbrev pub counted : Said → LineCounts → LineCounts
counted (Volume version shape) c = record c { bricks = shape.n }
counted (Client i) c = record c { clients = c.clients + 1 }
counted (Command path w) c = worked w (record c { commands = c.commands + 1 })
counted (Healer j) c = record c { healers = c.healers + 1 }
counted (Round brick) c = record c { rounds = c.rounds + 1 }
counted (Faulty brick at fault) c = record c { faults = c.faults + 1 }
counted (At at event) c = record c { events = c.events + 1; last_at = at }
counted (Go who count) c = record c { orders = c.orders + 1 }
counted s c = c

-- how many lines of the head, and `end`, there are at most, by the newest line
abbrev pub head_lines : List Said → ℕ
head_lines [] = 0
head_lines (Afr version ∷ older) = 1
head_lines (Volume version shape ∷ older) = 2
head_lines (Files k ∷ older) = 3
head_lines (End ∷ older) = 5
head_lines (s ∷ older) = 4

-- the counts are those of the lines, and within the totals
pub record IsCounted (before : List Said) (c : LineCounts) : Type 0 where
  pub bricks : c.bricks ≡ bricks_of before
  pub clients : c.clients ≡ count_by is_client before
  pub commands : c.commands ≡ count_by is_command before
  pub listings : c.listings ≡ count_by is_listing before
  pub healers : c.healers ≡ count_by is_healer before
  pub rounds : c.rounds ≡ count_by is_round before
  pub faults : c.faults ≡ count_by is_fault before
  pub events : c.events ≡ count_by is_event before
  pub orders : c.orders ≡ count_by is_order before
  pub last_at : c.last_at ≡ last_at before
  pub ends : c.ends ≡ sum_by write_end before
  pub lengths : c.lengths ≡ sum_by read_len before
  pub few_clients : c.clients ≤ 16
  pub few_commands : c.commands ≤ 16384
  pub few_listings : c.listings ≤ 256
  pub few_healers : c.healers ≤ 3
  pub few_rounds : c.rounds ≤ 1024
  pub few_faults : c.faults ≤ 1024
  pub few_events : c.events ≤ 1024
  pub few_orders : c.orders ≤ 1024
  pub few_ends : c.ends ≤ 268435456
  pub few_lengths : c.lengths ≤ 67108864
  pub few_lines : length before ≤ head_lines before + c.clients + c.commands + c.healers + c.rounds + c.faults + c.events + c.orders
