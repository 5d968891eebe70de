-- Whether a post-op has its grounds, as a test.
use Rattle.std.specs.Prelude.{ℕ, ◌==◌, ◌&&◌, not, Bool, false, List, Option, Some, None}
use Rattle.afr_base.specs.Bricks.{below, is_nothing, member, minus, same}
use Rattle.afr_base.specs.Kinds.{same_kind}
use Rattle.afr_base.specs.declared.ids.Gfid.{Gfid}
use Rattle.afr_base.specs.declared.ids.Kind.{Kind}
use Rattle.afr_lines.specs.Areas.{kind_for}
use Rattle.afr_lines.specs.Work.{Work}
use Rattle.afr_lines.specs.declared.line.Line.{Line}
use Rattle.afr_model.specs.Showing.{among, begun_by, looked_by}
use Rattle.afr_model.specs.Standing.{change_by, since, suffices}
use Rattle.afr_object.specs.Tables.{object_of}
use Rattle.afr_object.specs.declared.change.Change.{Change}
use Rattle.afr_plan.specs.declared.plan.Plan.{Plan}
use Rattle.afr_trace_check.specs.Grounds.{after_last, asks_lock, closing, doing, locks_object, over, refusing}

-- this is the position
abbrev pub is_position : Option ℕ → ℕ → Bool
is_position None attempt = false
is_position (Some k) attempt = k == attempt

-- a change of this object and kind
abbrev pub is_change_of : Option Change → Gfid → Kind → Bool
is_change_of None g kind = false
is_change_of (Some change) g kind = (g.0 == (object_of change).0) && same_kind kind (kind_for change)

-- the test of a post-op
abbrev pub has_grounds : Plan → ℕ → Gfid → Kind → List ℕ → ℕ → Work → List Line → Bool
has_grounds p attempt g kind missed b w older =
    is_position (begun_by w) attempt && is_change_of (change_by w) g kind && not (member (over (closing attempt) older) b) && member (over (doing attempt) older) b
    && suffices p.shape kind (looked_by g (after_last (locks_object g) w)) (over (doing attempt) older) && same missed (minus (below p.shape.n) (over (doing attempt) older))
    && is_nothing (minus missed (among refusing (since asks_lock w)))
