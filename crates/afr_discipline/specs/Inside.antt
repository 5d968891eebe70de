-- The moves of a heal, and then of all work, as tests.
use Rattle.std.specs.Prelude.{ℕ, ◌&&◌, ◌||◌, not, ◌==◌, nat_lt, Bool, true, false, if◌then◌else◌}
use Rattle.afr_base.specs.Majority.{is_most}
use Rattle.afr_base.specs.declared.ids.Kind.{Kind}
use Rattle.afr_lines.specs.declared.request.Request.{Request}
use Rattle.afr_lines.specs.declared.request.Request.TheVariants.{Unlock}
use Rattle.afr_base.specs.Kinds.{same_kind}
use Rattle.afr_model_moves.specs.Sets.{any}
use Rattle.afr_model_moves.specs.Rules.{busy, is_area}
use Rattle.afr_model_moves.specs.Register.{Exact, HealPart, HealUnlocks, Opening, WorkLocks, over, same_step, whole_area}
use Rattle.afr_model_moves.specs.Steps.{locks_at, may_heal}
use Rattle.afr_discipline.specs.declared.register.Move.{Move}
use Rattle.afr_discipline.specs.declared.register.Move.TheVariants.{Ask, Begin, HealBegin, End}
use Rattle.afr_discipline.specs.Tests.{may_move_outside}

-- an unlock
abbrev pub is_unlock : Request → Bool
is_unlock (Unlock domain area) = true
is_unlock _ = false

-- brick s may be the source by all the lines, and as the source it allows the request
abbrev pub allows : ℕ → (ℕ → Kind → Bool) → Exact → ℕ → Request → ℕ → Bool
allows n keeps r b request s = r.possible s && may_heal n keeps r s b request

-- some source allows the request; a broken heal only unlocks
abbrev pub may_ask_inside : ℕ → (ℕ → Kind → Bool) → Exact → ℕ → Request → Bool
may_ask_inside n keeps r b request = if r.broken then is_unlock request else any n (allows n keeps r b request)

-- the first part of a heal has Work locks of all of its kind at a majority; the later ones keep the kind
abbrev pub begins_part : ℕ → Exact → ℕ → Kind → HealPart → Bool
begins_part n r g kind Opening = is_most n r.law.held && is_area r.law.area (whole_area g kind)
begins_part n r g kind _ = same_kind kind r.law.kind

-- a part of a heal begins, after its Work locks
abbrev pub may_heal_begin : ℕ → Exact → ℕ → Kind → Bool
may_heal_begin n r g kind = not r.broken && (g == r.law.object) && same_step r.step WorkLocks && over n (locks_at r r.part) r.asked && begins_part n r g kind r.part

-- the end of a heal: no lock is held, and no step is left
abbrev pub may_end_heal : ℕ → Exact → Bool
may_end_heal n r = not (busy n r.law) && not (any n r.law.healing) && (r.broken || same_step r.step HealUnlocks)

-- a move in a heal
abbrev pub may_move_inside : ℕ → (ℕ → Kind → Bool) → Exact → Move → Bool
may_move_inside n keeps r (Ask b request) = nat_lt b.0 n && may_ask_inside n keeps r b.0 request.now
may_move_inside n keeps r (Begin change) = false
may_move_inside n keeps r (HealBegin g kind) = may_heal_begin n r g.0 kind
may_move_inside n keeps r (End ok) = may_end_heal n r

-- a move
abbrev pub may_move : ℕ → (ℕ → Kind → Bool) → Exact → Move → Bool
may_move n keeps r step = if r.law.heal then may_move_inside n keeps r step else may_move_outside n keeps r step
