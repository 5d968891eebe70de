-- What a quiet round lists, and what each of its heals tells.
use Rattle.std.specs.Prelude.{◌≡◌, ◌⊎◌, ◌↔◌, ℕ, ◌<◌, ◌≤◌, false, List, Some, length, slice_get}
use Rattle.afr_base.specs.Bricks.{below}
use Rattle.afr_base.specs.declared.ids.BrickId.{BrickId}
use Rattle.afr_base.specs.declared.ids.Gfid.{Gfid}
use Rattle.afr_base.specs.declared.ids.Kind.{Kind}
use Rattle.afr_lines.specs.Log.{EachLine}
use Rattle.afr_lines.specs.Work.{Work, ended, work}
use Rattle.afr_lines.specs.declared.line.Line.{Line}
use Rattle.afr_lines.specs.declared.line.Line.TheVariants.{End}
use Rattle.afr_lines.specs.declared.reply.HealReply.{HealReply}
use Rattle.afr_lines.specs.declared.reply.HealReply.TheVariants as healed
use Rattle.afr_plan.specs.declared.plan.Plan.{Plan}
use Rattle.afr_law.specs.Exactly.{IsLawfulExactly}
use Rattle.afr_model.specs.Actors.{rounds_of}
use Rattle.afr_model.specs.Following.{Follows}
use Rattle.afr_model.specs.Healing.{heal_by}
use Rattle.afr_model.specs.Honest.{Honest}
use Rattle.afr_model.specs.Quiet.{IsQuiet}
use Rattle.afr_model.specs.Replied.{Replied}
use Rattle.afr_model.specs.Rounds.{heals_of, listed_by}
use Rattle.afr_model.specs.Safe.{log_before}
use Rattle.afr_model.specs.Splits.{IsSplit}
use Rattle.afr_law_tables.specs.Clear.{IsClear}
use Rattle.afr_law_quiet.specs.Undisturbed.{EachHeal, IsListed, IsOpenAt, IsSplitReply, begun_after, ended_heals}

-- the reply names a brick by which the source moved
abbrev pub IsMovedReply : HealReply → Type 0
IsMovedReply said = (b : BrickId) × (said ≡ healed.Moved b)

-- nothing was to be healed, the heal settled, all copies are accused, or the source moved
abbrev pub IsOneOfFour : HealReply → Type 0
IsOneOfFour said = (said ≡ healed.Nothing) ⊎ ((said ≡ healed.Settled) ⊎ (IsSplitReply said ⊎ IsMovedReply said))

-- the heal began, and its reply says what stood then: nothing exactly where all numbers of the kind were 0, a split-brain exactly where all bricks show one
pub record IsToldOrMoved (p : Plan) (g : Gfid) (kind : Kind) (said : HealReply) (w : Work) : Type 0 where
  pub begun : List Line
  pub is_begun : begun_after w ≡ Some begun
  pub few : IsOneOfFour said
  pub nothing : (said ≡ healed.Nothing) ↔ IsClear p begun g kind
  pub split : IsSplitReply said ↔ IsSplit p begun (below p.shape.n) g kind

-- the round of healer a at brick b, whose end comes next: its list is exactly what was open there, each object got its two heals, and each heal told what stood when it began
pub record IsListedRound (p : Plan) (a : ℕ) (b : BrickId) (older : List Line) : Type 0 where
  pub lists : (g : Gfid) → IsListed g (listed_by p (work a older)) ↔ IsOpenAt p (log_before (work a older) older) b.0 g
  pub both : ended_heals (work a older) ≡ heals_of (listed_by p (work a older))
  pub told : EachHeal (λ g kind said before. IsToldOrMoved p g kind said (heal_by (work a before))) (work a older)

-- so is the round that a line ends, where nothing disturbed it
abbrev pub IsQuietListed : Plan → Line → List Line → Type 0
IsQuietListed p (End a said) older = 17 ≤ a.0 → (b : BrickId) → slice_get (rounds_of p a.0) (ended a.0 older) ≡ Some b → IsQuiet p a.0 older → IsListedRound p a.0 b older
IsQuietListed p line older = Unit {0}

-- so is each quiet round of a log that is the plan's, honest, lawful and replied; the plan has at most 16 clients, so that nobody is both client and healer
abbrev pub QuietRoundsAreListed : Type 0
QuietRoundsAreListed =
    (p : Plan) (log : List Line) → p.shape.n ≤ 5 → 0 < p.shape.n → length p.clients ≤ 16 → length log ≤ 4000000
    → Follows false p log → Honest p log → IsLawfulExactly p log → Replied p log → EachLine (IsQuietListed p) log
