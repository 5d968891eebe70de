-- No heal of a round that nothing disturbs ends with a source that moved.
use Rattle.std.specs.Prelude.{◌≡◌, ◌<◌, ◌≤◌, false, List, Some, length, slice_get}
use Rattle.afr_base.specs.declared.ids.BrickId.{BrickId}
use Rattle.afr_base.specs.declared.ids.Gfid.{Gfid}
use Rattle.afr_base.specs.declared.ids.Kind.{Kind}
use Rattle.afr_lines.specs.Log.{EachLine}
use Rattle.afr_lines.specs.Work.{ended, work}
use Rattle.afr_lines.specs.declared.line.Line.{Line}
use Rattle.afr_lines.specs.declared.line.Line.TheVariants.{End}
use Rattle.afr_lines.specs.declared.reply.HealReply.{HealReply}
use Rattle.afr_lines.specs.declared.reply.HealReply.TheVariants as healed
use Rattle.afr_plan.specs.declared.plan.Plan.{Plan}
use Rattle.afr_model.specs.Actors.{rounds_of}
use Rattle.afr_model.specs.Following.{Follows}
use Rattle.afr_model.specs.Honest.{Honest}
use Rattle.afr_model.specs.Quiet.{IsQuiet}
use Rattle.afr_model.specs.Replied.{Replied}
use Rattle.afr_law.specs.Exactly.{IsLawfulExactly}
use Rattle.afr_law_quiet.specs.Undisturbed.{EachHeal}

-- the reply of a heal names no brick that shows that the source moved
abbrev pub IsUnmoved : Gfid → Kind → HealReply → List Line → Type 0
IsUnmoved g kind said before = (x : BrickId) → said ≡ healed.Moved x → ⊥

-- so is each heal of the round that a line ends, where nothing disturbed it
abbrev pub IsQuietUnmoved : Plan → Line → List Line → Type 0
IsQuietUnmoved p (End a said) older = 17 ≤ a.0 → (b : BrickId) → slice_get (rounds_of p a.0) (ended a.0 older) ≡ Some b → IsQuiet p a.0 older → EachHeal IsUnmoved (work a.0 older)
IsQuietUnmoved p line older = Unit {0}

-- so it is at each line of a log that is the plan's, honest and lawful, whose replies have their causes
abbrev pub QuietRoundsAreUnmoved : Type 0
QuietRoundsAreUnmoved =
    (p : Plan) (log : List Line) → p.shape.n ≤ 5 → 0 < p.shape.n → length log ≤ 4000000 → Follows false p log → Honest p log → IsLawfulExactly p log → Replied p log
    → EachLine (IsQuietUnmoved p) log
