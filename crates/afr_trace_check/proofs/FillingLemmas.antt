-- The text of a line that asks no brick of the volume.
use Rattle.std.proofs.Common.{◌≡◌, ℕ, ◌<◌, ◌≤◌, ◌&&◌, ◌⊎◌, inl, inr, suc, nat_lt, leb, Bool, true, false, List, refl, arith}
use Rattle.std.proofs.lemmas.Bool.Decides.{leb_tells}
use Rattle.afr_lines.specs.declared.line.Line.{Line}
use Rattle.afr_plan.specs.declared.plan.Plan.{Plan}
use Rattle.afr_trace_build.specs.Filling.{fill, has_work, where_named}
use Rattle.afr_trace_build.specs.Requests.{is_answer, is_brick}
use Rattle.afr_trace_build.specs.declared.filling.Filled.{Filled}
use Rattle.afr_trace_build.specs.declared.filling.Filled.TheVariants as filled
use Rattle.afr_trace_check.specs.Works.{AsksFive}
use Rattle.afr_trace_read.specs.declared.kinds.Doing.TheVariants as doing
use Rattle.afr_trace_read.specs.declared.kinds.TraceLine.{TraceLine}
use Rattle.afr_trace_read.specs.declared.kinds.TraceLine.TheVariants as trace_line

past_five : (n b : ℕ) → n ≤ 5 → (b < 5 → ⊥) → nat_lt b n ≡ false
past_five n b few past = by_side (leb_tells (suc b) n)
  where
    by_side : ((leb (suc b) n ≡ true) × (suc b ≤ n)) ⊎ ((leb (suc b) n ≡ false) × (n < suc b)) → nat_lt b n ≡ false
    by_side (inl (e, h)) = absurd (past (omega (arith, h, few)))
    by_side (inr (e, h)) = e

none_named : (has brick answer : Bool) (x : Filled) → brick ≡ false → filled.NoLine ≡ where_named has (where_named (brick && answer) x)
none_named true brick answer x e = rw e refl
none_named false brick answer x e = refl

-- it stands for no line
pub stands_for_none : (p : Plan) (older : List Line) (line : TraceLine) (text : List ℕ) → p.shape.n ≤ 5 → (AsksFive line → ⊥) → filled.NoLine ≡ fill p older (line, text)
stands_for_none p older (trace_line.Of a (doing.Ask b r told)) text few past = none_named (has_work p older a) (is_brick p b.0) (is_answer p told) _ (past_five p.shape.n b.0 few past)
stands_for_none p older (trace_line.Event happens) text few past = absurd (past tt)
stands_for_none p older (trace_line.Of a does) text few past = absurd (past tt)
