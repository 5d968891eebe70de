-- Where lines stand, one line more.
use Rattle.std.proofs.Common.{◌≡◌, ◌∙◌, ℕ, ◌+◌, ◌<◌, ◌≤◌, ◌||◌, Bool, false, List, [], ◌∷◌, ◌++◌, length, take, reverse, get_or, sym, ap, subst, arith, append-nil}
use Rattle.afr_lines.specs.Work.{Work, work}
use Rattle.afr_lines.specs.declared.line.Line.{Line}
use Rattle.afr_model.specs.Showing.{Path, At, begins_attempt, path_after, root_entry}
use Rattle.afr_model.specs.Standing.{kept_at}
use Rattle.afr_plan.specs.declared.plan.Plan.{Plan}
use Rattle.afr_trace_follow.proofs.LogLemmas.{newest}
use Rattle.afr_trace_follow.proofs.PartLemmas.{from_append, start_work}
use Rattle.afr_trace_follow.specs.Parts.{line_from, lines_from, work_start}
use Rattle.afr_trace_follow.specs.Seen.{path_seen}
use Rattle.afr_trace_follow.specs.Stands.{IsAt, IsFew}
use Rattle.afr_trace_follow.specs.declared.stand.Stand.{Stand}

-- before any line
pub none_at : (p : Plan) (k : ℕ) (s : Stand) → path_seen s.path ≡ At 0 root_entry → path_seen s.place ≡ At 0 root_entry → s.begun ≡ false → IsAt p k [] s
none_at p k s hp hl hb = record { path = hp; place = hl; begun = hb }

-- one more line
pub at_more : (p : Plan) (k : ℕ) (line : Line) (older : List Line) (w : Work) (s new : Stand) → path_seen new.path ≡ path_after p line older (path_seen s.path)
    → path_seen new.place ≡ kept_at k (path_seen s.place) (path_after p line older (path_seen s.place)) → new.begun ≡ (begins_attempt line || s.begun) → IsAt p k w s → IsAt p k ((line, older) ∷ w) new
at_more p k line older w s new hp hl hb v = record {
  path = hp ∙ ap (path_after p line older) v.path;
  place = hl ∙ ap (λ (x : Path). kept_at k x (path_after p line older x)) v.place;
  begun = hb ∙ ap (λ (t : Bool). begins_attempt line || t) v.begun;
}

-- few names stay few
pub few_weaker : (n m : ℕ) (s : Stand) → n ≤ m → IsFew n s → IsFew m s
few_weaker n m s l f = record { path = omega (arith, l, f.path); place = omega (arith, l, f.place) }

-- the lines from a position on, one line more
pub lines_more : (P : Work → Type 0) (a from : ℕ) (log : List Line) (at : ℕ) (line : Line) (w : Work) → at < length log → line ≡ get_or log at line
    → P (line_from a from line (reverse (take at log)) (lines_from a from (reverse (take at log)) ++ w)) → P (lines_from a from (reverse (take (at + 1) log)) ++ w)
lines_more P a from log at line w l e h =
    let all : lines_from a from (reverse (take (at + 1) log)) ++ w ≡ line_from a from line (reverse (take at log)) (lines_from a from (reverse (take at log)) ++ w) =
    ap (λ (t : List Line). lines_from a from t ++ w) (newest log at line l e) ∙ from_append a from line (reverse (take at log)) (lines_from a from (reverse (take at log))) w in
    subst P (sym all) h

-- so many lines, however they are counted
pub lines_upto : (P : Work → Type 0) (a from : ℕ) (log : List Line) (at upto : ℕ) (w : Work) → at ≡ upto → P (lines_from a from (reverse (take at log)) ++ w) → P (lines_from a from (reverse (take upto log)) ++ w)
lines_upto P a from log at upto w e h = subst (λ (n : ℕ). P (lines_from a from (reverse (take n log)) ++ w)) e h

-- the lines of a work since it began are the work
pub of_work : (P : Work → Type 0) (a start : ℕ) (log : List Line) → start ≡ work_start a log → P (lines_from a start log ++ []) → P (work a log)
of_work P a start log e h =
    subst P (append-nil (lines_from a start log) ∙ ap (λ (n : ℕ). lines_from a n log) e ∙ start_work a log) h
