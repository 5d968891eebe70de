-- Who is accused missed something since it was last unaccused; so in a split-brain each copy did.
use Rattle.std.specs.Prelude.{◌≡◌, ℕ, ◌≤◌, true, false, List, length}
use Rattle.afr_base.specs.Bricks.{IsWithin, member}
use Rattle.afr_base.specs.Keeping.{keeps}
use Rattle.afr_base.specs.declared.ids.Gfid.{Gfid}
use Rattle.afr_base.specs.declared.ids.Kind.{Kind}
use Rattle.afr_lines.specs.Log.{EveryPrefix, before}
use Rattle.afr_lines.specs.declared.line.Line.{Line}
use Rattle.afr_plan.specs.declared.plan.Plan.{Plan}
use Rattle.afr_model.specs.Honest.{Honest}
use Rattle.afr_model.specs.Safe.{accuses}
use Rattle.afr_model.specs.Splits.{IsSplit}
use Rattle.afr_model.specs.Sums.{has_object}
use Rattle.afr_law_tables.specs.Clear.{IsClear}
use Rattle.afr_law.specs.Exactly.{IsLawfulExactly}
use Rattle.afr_law.specs.ModelCauses.{IsCause}
use Rattle.afr_law.specs.ModelLaw.{IsLawful}

-- from this position on there is a cause for x to accuse c: a post-op at x of an operation that c missed
pub record IsCauseSince (log : List Line) (since x c : ℕ) (g : Gfid) (kind : Kind) : Type 0 where
  pub cause : IsCause log x c g kind
  pub after : since ≤ cause.position

-- where a brick accuses another, and didn't after the first `since` lines, it has a cause since then
abbrev pub HaveCausesSince : Plan → List Line → Type 0
HaveCausesSince p log =
    (since x c : ℕ) (g : Gfid) (kind : Kind) → accuses p (before since log) g kind x c ≡ false → accuses p log g kind x c ≡ true → IsCauseSince log since x c g kind

-- one of these bricks has an operation that c missed from this position on
pub record IsMissed (log : List Line) (among : List ℕ) (since c : ℕ) (g : Gfid) (kind : Kind) : Type 0 where
  pub brick : ℕ
  pub inside : member among brick ≡ true
  pub cause : IsCauseSince log since brick c g kind

-- where these bricks show a split-brain, each copy among them missed an operation since the object was last clear
abbrev pub AreAllMissed : Plan → List Line → Type 0
AreAllMissed p log =
    (since : ℕ) (among : List ℕ) → IsWithin p.shape.n among → (g : Gfid) (kind : Kind) → IsClear p (before since log) g kind → IsSplit p log among g kind
    → (c : ℕ) → member among c ≡ true → has_object p log g c ≡ true → keeps p.shape kind c ≡ true → IsMissed log among since c g kind

-- accusations of an honest and lawful log have causes since there was none
abbrev pub ModelHaveCausesSince : Type 0
ModelHaveCausesSince = (p : Plan) (log : List Line) → p.shape.n ≤ 5 → Honest p log → IsLawful p log → EveryPrefix (HaveCausesSince p) log

-- and those of an honest log of at most 4,000,000 lines that keeps the discipline in full; in a split-brain each copy missed something
abbrev pub ModelExactMissed : Type 0
ModelExactMissed = (p : Plan) (log : List Line) → p.shape.n ≤ 5 → length log ≤ 4000000 → Honest p log → IsLawfulExactly p log → EveryPrefix (HaveCausesSince p) log × EveryPrefix (AreAllMissed p) log
