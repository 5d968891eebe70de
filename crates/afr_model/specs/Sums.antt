-- The numbers of a copy as sums over the log.
use Rattle.afr_base.specs.Kinds.{same_kind}
use Rattle.std.specs.Prelude.{◌≡◌, ℕ, ◌<◌, ◌+◌, ◌-◌, ◌==◌, ◌&&◌, Bool, true, false, List, [], ◌∷◌, Some, is_some, slice_index, if◌then◌else◌}
use Rattle.afr_base.specs.Bricks.{member}
use Rattle.afr_base.specs.Marks.{marks_of}
use Rattle.afr_base.specs.declared.ids.Gfid.{Gfid}
use Rattle.afr_base.specs.declared.ids.Kind.{Kind}
use Rattle.afr_object.specs.Tables.{copy_at}
use Rattle.afr_object.specs.Object.{Object}
use Rattle.afr_lines.specs.declared.line.Line.{Line}
use Rattle.afr_lines.specs.declared.line.Line.TheVariants.{Ask}
use Rattle.afr_lines.specs.declared.request.Request.TheVariants.{Pre, Post, Settle}
use Rattle.afr_plan.specs.declared.plan.Plan.{Plan}
use Rattle.afr_model.specs.Tables.{holds}

-- whether brick b has the object after the log
abbrev pub has_object : Plan → List Line → Gfid → ℕ → Bool
has_object p log g b = is_some (copy_at g (holds p log b))

-- the sum of what each line adds, by the lines before it
abbrev pub sum_over : (Line → List Line → ℕ) → List Line → ℕ
sum_over f [] = 0
sum_over f (line ∷ older) = f line older + sum_over f older

-- a line counts at brick x for an object and a kind: the brick has the object and carried the request out
abbrev pub counted : Plan → ℕ → Gfid → Kind → ℕ → Gfid → Kind → Bool → List Line → ℕ → ℕ
counted p x g kind y h k took older n = if took && (y == x) && (h.0 == g.0) && same_kind k kind && has_object p older g x then n else 0

-- one for a pre-op
abbrev pub opens_op : Plan → ℕ → Gfid → Kind → Line → List Line → ℕ
opens_op p x g kind (Ask a y (Pre h k) told took) older = counted p x g kind y.0 h k took older 1
opens_op p x g kind line older = 0

-- one for a post-op
abbrev pub closes_op : Plan → ℕ → Gfid → Kind → Line → List Line → ℕ
closes_op p x g kind (Ask a y (Post attempt h k missed) told took) older = counted p x g kind y.0 h k took older 1
closes_op p x g kind line older = 0

-- one for a post-op that names brick c as having missed the operation
abbrev pub blames : Plan → ℕ → ℕ → Gfid → Kind → Line → List Line → ℕ
blames p x c g kind (Ask a y (Post attempt h k missed) told took) older = counted p x g kind y.0 h k took older (if member missed c then 1 else 0)
blames p x c g kind line older = 0

-- what a settling takes back of the open operations
abbrev pub settles_dirty : Plan → ℕ → Gfid → Kind → Line → List Line → ℕ
settles_dirty p x g kind (Ask a y (Settle h k less) told took) older = counted p x g kind y.0 h k took older less.dirty
settles_dirty p x g kind line older = 0

-- what a settling takes back of those that brick c missed
abbrev pub settles_pending : Plan → ℕ → ℕ → Gfid → Kind → Line → List Line → ℕ
settles_pending p x c g kind (Ask a y (Settle h k less) told took) older = counted p x g kind y.0 h k took older (slice_index less.pending c)
settles_pending p x c g kind line older = 0

-- how many operations are open on brick x: pre-ops, less post-ops, less what was settled
abbrev pub dirty_of : Plan → List Line → ℕ → Gfid → Kind → ℕ
dirty_of p log x g kind = sum_over (opens_op p x g kind) log - (sum_over (closes_op p x g kind) log + sum_over (settles_dirty p x g kind) log)

-- how many operations brick x has that brick c missed: those that a post-op named, less what was settled
abbrev pub pending_of : Plan → List Line → ℕ → ℕ → Gfid → Kind → ℕ
pending_of p log x c g kind = sum_over (blames p x c g kind) log - sum_over (settles_pending p x c g kind) log

-- the numbers of every copy are the sums of the log
abbrev pub AreSums : Plan → List Line → Type 0
AreSums p log =
    (x : ℕ) (g : Gfid) (kind : Kind) (o : Object) → copy_at g (holds p log x) ≡ Some o
    → ((marks_of kind o.marks).dirty ≡ dirty_of p log x g kind) × ((c : ℕ) → c < 5 → slice_index (marks_of kind o.marks).pending c ≡ pending_of p log x c g kind)
