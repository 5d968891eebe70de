-- Where a heal's source moved: what its later looks show.
use Rattle.std.specs.Prelude.{ℕ, ◌+◌, ◌==◌, ◌||◌, not, nat_lt, Bool, false, List, [], ◌∷◌, Option, Some, None, filter, slice_get, if◌then◌else◌}
use Rattle.afr_base.specs.Bricks.{all_five, minus, is_nothing}
use Rattle.afr_base.specs.declared.ids.Gfid.{Gfid}
use Rattle.afr_base.specs.declared.ids.Kind.{Kind}
use Rattle.afr_base.specs.declared.ids.Shape.{Shape}
use Rattle.afr_choice.specs.Looks.{view_at}
use Rattle.afr_choice.specs.Verdict.{accuses_at, copies_of}
use Rattle.afr_choice.specs.declared.looked.Looked.{Looked}
use Rattle.afr_lines.specs.Work.{Work}
use Rattle.afr_lines.specs.declared.line.Line.{Line}
use Rattle.afr_lines.specs.declared.line.Line.TheVariants.{Ask, HealBegin}
use Rattle.afr_lines.specs.declared.request.Area.{Area}
use Rattle.afr_lines.specs.declared.request.Request.TheVariants as request
use Rattle.afr_lines.specs.declared.lock.Domain.TheVariants as domain
use Rattle.afr_model.specs.Healing.{first_by, source_of, whole_of}
use Rattle.afr_lines.specs.Overlap.{same_area}
use Rattle.afr_model.specs.Showing.{looked_by}
pub use Rattle.afr_choice.specs.Looks.{len_in}

-- how often the heal has begun a piece
abbrev pub plus_piece : Line → ℕ → ℕ
plus_piece (HealBegin a g kind) n = n + 1
plus_piece line n = n

-- how many pieces a heal has begun
abbrev pub pieces : Work → ℕ
pieces [] = 0
pieces (x ∷ w) = plus_piece x.0 (pieces w)

-- the last Work lock that was asked is over the whole kind
abbrev pub whole_after : Area → Line → Bool → Bool
whole_after area (Ask a b (request.Lock domain.Work other) told took) was = same_area area other
whole_after area line was = was

-- the same of all lines of a heal
abbrev pub is_whole_by : Area → Work → Bool
is_whole_by area [] = false
is_whole_by area (x ∷ w) = whole_after area x.0 (is_whole_by area w)

-- the lowest brick that accuses the source by later looks that all bricks of the first ones answered; or else, at the finish, the lowest sink of another length
abbrev pub accuser : Kind → ℕ → Looked → Option ℕ
accuser kind source looked = slice_get (filter (λ x. accuses_at kind x source looked) all_five) 0

-- the lowest sink whose view shows another length than the source's
abbrev pub unlike : ℕ → List ℕ → Looked → Option ℕ
unlike source sinks looked = slice_get (filter (λ x. not (len_in (view_at x looked) == len_in (view_at source looked))) sinks) 0

-- the first brick that is named
abbrev pub or_brick : Option ℕ → Option ℕ → Option ℕ
or_brick (Some x) next = Some x
or_brick None next = next

-- which brick shows that the source moved: only later looks can, that every brick of the first ones answered
abbrev pub moved_by : Shape → Gfid → Kind → Work → Option ℕ
moved_by shape g kind w =
    if not (nat_lt 1 (pieces w)) || not (is_nothing (minus (first_by w).looked.reached (looked_by g w).reached)) then None
    else or_brick (accuser kind (source_of shape kind w) (looked_by g w))
    (if is_whole_by (whole_of g kind) w then unlike (source_of shape kind w) (minus (copies_of shape (first_by w).looked kind) (source_of shape kind w ∷ [])) (looked_by g w) else None)
