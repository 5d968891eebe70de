-- Who accuses whom, by the numbers of a copy.
use Rattle.std.proofs.Common.{◌≡◌, ◌∙◌, ℕ, ◌+◌, ◌<◌, ◌&&◌, Bool, List, refl, ap, arith, nat_lt, get_or, if◌then◌else◌}
use Rattle.afr_base.specs.declared.ids.Gfid.{Gfid}
use Rattle.afr_base.specs.declared.ids.Kind.{Kind}
use Rattle.afr_base.specs.declared.marks.Marks.{Marks}
use Rattle.afr_lines.specs.declared.line.Line.{Line}
use Rattle.afr_plan.specs.declared.plan.Plan.{Plan}
use Rattle.afr_model.specs.Safe.{accuses}
use Rattle.afr_model.specs.Sums.{dirty_of, pending_of}
use Rattle.afr_trace_tally.specs.Flags.{five}
use Rattle.afr_trace_tally.proofs.CountLemmas.{five_at}

pub accused_by : (p : Plan) (log : List Line) (g : Gfid) (kind : Kind) (x c : ℕ) (marks : Marks) → marks ≡ record { dirty = dirty_of p log x g kind; pending = five (λ c. pending_of p log x c g kind) } → c < 5
    → nat_lt 0 (get_or marks.pending c 0) ≡ accuses p log g kind x c
accused_by p log g kind x c marks e low = ap (λ (m : Marks). nat_lt 0 (get_or m.pending c 0)) e ∙ ap (λ (n : ℕ). nat_lt 0 n) (five_at (λ y. pending_of p log x y g kind) c low)

pub same_four : (a a' b b' c c' d d' : Bool) → a ≡ a' → b ≡ b' → c ≡ c' → d ≡ d' → (a && b && c && d) ≡ (a' && b' && c' && d')
same_four a a' b b' c c' d d' ha hb hc hd = rw (ha, hb, hc, hd) refl
