-- Clients and healers are all actors.
use Rattle.std.proofs.Common.{◌≡◌, ◌∙◌, ◌<◌, ◌≤◌, ◌+◌, ◌-◌, ℕ, true, false, length, sym, arith}
use Rattle.afr_model.specs.Actors.{IsActor}
use Rattle.afr_volume.proofs.TaskDone.{done_by_plan, plain_done}
use Rattle.afr_volume.specs.State.{State}
use Rattle.afr_volume.specs.Tasks.{is_done_in}
use Rattle.afr_cli.specs.Crawl.{AreDoneIn, IsLeftIn}
use Rattle.afr_cli.specs.Statuses.{AreDone, IsWorkLeft}

-- what was taken off comes back
back : (a k : ℕ) → k ≤ a → k + (a - k) ≡ a
back a k low = omega arith

-- where all clients are done and all healers, every actor is
pub all_actors : (s : State)
    → ((i : ℕ) → i < length s.plan.clients → is_done_in (1 + i) s ≡ true)
    → ((i : ℕ) → i < length s.plan.healers → is_done_in (17 + i) s ≡ true)
    → AreDoneIn s
all_actors s clients healers a (IsActor.Client low high) = rw (← back a 1 low) (clients (a - 1) (omega arith))
all_actors s clients healers a (IsActor.Healer low high) = rw (← back a 17 low) (healers (a - 17) (omega arith))

-- then each has ended all its works
pub all_plain : (s : State) → AreDoneIn s → AreDone s.plan s.log
all_plain s done a actor = done_by_plan a s (done a actor)

-- where the healers go their own rounds, what is left is a work
pub left_plain : (s : State) → s.crawl ≡ false → IsLeftIn s → IsWorkLeft s.plan s.log
left_plain s plain h = record { actor = h.actor; planned = h.planned; left = sym (plain_done h.actor s plain) ∙ h.left }
