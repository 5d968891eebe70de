-- The source of a heal: which copies the rule chooses from.
use Rattle.std.specs.Prelude.{◌≡◌, ◌<◌, Some, ℕ, ◌&&◌, not, Bool, true, List, filter, map}
use Rattle.afr_base.specs.Bricks.{below}
use Rattle.afr_base.specs.declared.ids.BrickId.{BrickId}
use Rattle.afr_base.specs.declared.ids.Kind.{Kind}
use Rattle.afr_discipline.specs.Stands.{seen_as, views_of}
use Rattle.afr_discipline.specs.Turns.{candidate, find}
use Rattle.afr_discipline.specs.declared.register.Register.{Register}
use Rattle.afr_model_moves.specs.Keeps.{keeps_in}
use Rattle.afr_model_moves.specs.Register.{Exact, Looks, good, is_opening, len_of, over, same_step}
use Rattle.afr_rule.specs.declared.candidate.Candidate.{Candidate}

-- the first looks are over, and let the heal go on
abbrev pub is_found : ℕ → Exact → Bool
is_found n r = not r.broken && same_step r.step Looks && is_opening r.part && over n r.law.held r.asked

-- the copies that may be the source, in rising order, each with the length that its view showed
abbrev pub candidates : ℕ → (ℕ → Kind → Bool) → Exact → List Candidate
candidates n keeps r = map (λ x. record { brick = record { 0 = x }; len = len_of (r.first_views x) }) (filter (candidate n keeps r) (below n))

-- the same of the program's register
abbrev pub candidates_of : Register → List Candidate
candidates_of p = candidates p.shape.n (keeps_in p.shape) (seen_as p)

-- the brick has a copy that may be the source
pub record IsCandidate (p : Register) (x : ℕ) : Type 0 where
  pub below : x < p.shape.n
  pub passes : candidate p.shape.n (keeps_in p.shape) (seen_as p) x ≡ true

-- the lowest of them
abbrev pub IsLowest : Register → BrickId → Type 0
IsLowest p chosen = find p.shape.n (candidate p.shape.n (keeps_in p.shape) (seen_as p)) ≡ Some chosen.0

-- some copy may be the source, and those that may are the good ones of the volume's bricks
pub record HasSource (kind : Kind) (p : Register) : Type 0 where
  pub some : (x : ℕ) × IsCandidate p x
  pub copies : (x : ℕ) → x < p.shape.n → candidate p.shape.n (keeps_in p.shape) (seen_as p) x ≡ good p.shape.n (keeps_in p.shape) kind (views_of p.seen) x
