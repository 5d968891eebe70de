-- A heal as one engine: the next line is that of the first step, in order, in which it is some brick's turn.
use Rattle.std.specs.Prelude.{ℕ, ◌&&◌, if◌then◌else◌, Bool, None, Option, Some, false, not, true}
use Rattle.afr_base.specs.Kinds.{same_kind}
use Rattle.afr_base.specs.declared.ids.Gfid.{Gfid}
use Rattle.afr_base.specs.declared.ids.Kind.{Kind}
use Rattle.afr_base.specs.declared.ids.Kind.TheVariants.{Bytes}
use Rattle.afr_discipline.specs.Turns.{find, turn_of}
use Rattle.afr_heal.specs.Requests.{area_now, next_area, request_in}
use Rattle.afr_lines.specs.declared.request.Request.{Request}
use Rattle.afr_lines.specs.declared.request.Request.TheVariants.{Lock, Unlock}
use Rattle.afr_model_moves.specs.Register.{Exact, HealLocks, HealPart, HealPres, HealUnlocks, Looks, Mends, Reads, Settles, Step, Unlocks, Untouched, WorkLocks, is_finish}
use Rattle.afr_model_moves.specs.Rules.{heal_area}
use Rattle.afr_model_moves.specs.Steps.{is_lowest}
use Rattle.afr_lines.specs.declared.lock.Domain.TheVariants.{Heal, Work}

-- the next line of a heal: a request at a brick, a HealBegin or the HealEnd
pub data NextOfHeal : Type 0 where
  Ask : ℕ → Request → NextOfHeal
  Begins : NextOfHeal  -- the HealBegin line of a part
  Ends : NextOfHeal  -- the HealEnd line

-- the request at the brick that was found, or else the line that is there
abbrev pub or_else : (ℕ → Request) → Option ℕ → NextOfHeal → NextOfHeal
or_else request (Some b) rest = Ask b (request b)
or_else request None rest = rest

-- the step asks, if it is somebody's turn; else comes what is after it
abbrev pub step_or : ℕ → (ℕ → Kind → Bool) → Exact → ℕ → Gfid → Kind → Step → NextOfHeal → NextOfHeal
step_or n keeps r s g kind step rest = or_else (request_in n keeps r s g kind step) (turn_of n keeps r s step) rest

-- a heal of bytes has another part, till its finish
abbrev pub has_part : Kind → HealPart → Bool
has_part kind part = same_kind kind Bytes && not (is_finish part)

-- the Work lock of the next part
abbrev pub lock_next : Exact → ℕ → Gfid → ℕ → Request
lock_next r s g b = Lock Work (next_area r s g)

-- the first Work lock of the next part, at the lowest brick of the first looks; or the Heal locks are given back
abbrev pub part_or_end : ℕ → (ℕ → Kind → Bool) → Exact → ℕ → Gfid → Kind → Bool → NextOfHeal
part_or_end n keeps r s g kind true = or_else (lock_next r s g) (find n (is_lowest r.first_reached (λ x. false))) Ends
part_or_end n keeps r s g kind false = step_or n keeps r s g kind HealUnlocks Ends

-- the steps from the reads of a part to the end
abbrev pub after_looks : ℕ → (ℕ → Kind → Bool) → Exact → ℕ → Gfid → Kind → NextOfHeal
after_looks n keeps r s g kind =
    step_or n keeps r s g kind Reads (step_or n keeps r s g kind HealPres (step_or n keeps r s g kind Mends (step_or n keeps r s g kind Settles (step_or n keeps r s g kind Unlocks
    (part_or_end n keeps r s g kind (has_part kind r.part))))))

-- the next line in a step of a heal that goes on
abbrev pub whole_next : ℕ → (ℕ → Kind → Bool) → Exact → ℕ → Gfid → Kind → Step → NextOfHeal
whole_next n keeps r s g kind HealLocks = step_or n keeps r s g kind HealLocks (step_or n keeps r s g kind WorkLocks Ends)
whole_next n keeps r s g kind WorkLocks = step_or n keeps r s g kind WorkLocks Begins
whole_next n keeps r s g kind Untouched = Ask 0 (Lock Heal (heal_area g.0))
whole_next n keeps r s g kind step = step_or n keeps r s g kind Looks (after_looks n keeps r s g kind)

-- a broken heal gives back its Work locks, then its Heal locks, and ends
abbrev pub broken_next : ℕ → Exact → Gfid → Kind → NextOfHeal
broken_next n r g kind = or_else (λ b. Unlock Work (area_now r g kind)) (find n r.law.held) (or_else (λ b. Unlock Heal (heal_area g.0)) (find n r.law.healing) Ends)

-- the next line of a heal
abbrev pub next_of : ℕ → (ℕ → Kind → Bool) → Exact → ℕ → Gfid → Kind → NextOfHeal
next_of n keeps r s g kind = if r.broken then broken_next n r g kind else whole_next n keeps r s g kind r.step
