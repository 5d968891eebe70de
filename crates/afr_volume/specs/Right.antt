-- What a volume keeps of its log at every moment, and what the rules have picked.
use Rattle.std.specs.Prelude.{◌≡◌, Bool, false, List}
use Rattle.afr_law_promises.specs.Available.Available.{IsAvailable}
use Rattle.afr_law_bound.specs.Ends.Cost.{AreWithinCost}
use Rattle.afr_law_passes.specs.Converged.{HasConverged, IsQuietLeft}
use Rattle.afr_law_promises.specs.Durable.{IsDurable}
use Rattle.afr_law.specs.Exactly.{IsLawfulExactly}
use Rattle.afr_law.specs.ModelAlike.{AreAlike}
use Rattle.afr_law.specs.ModelCauses.{HaveCauses}
use Rattle.afr_lines.specs.declared.line.Line.{Line}
use Rattle.afr_lines.specs.Log.{EachLine, EveryPrefix}
use Rattle.afr_law_promises.specs.Missed.Missed.{AreAllMissed, HaveCausesSince}
use Rattle.afr_model.specs.Blamed.{AreBlamed}
use Rattle.afr_model.specs.Kept.{AreKept}
use Rattle.afr_model.specs.Following.{Follows}
use Rattle.afr_model.specs.Honest.{Honest}
use Rattle.afr_model.specs.Replied.{Replied}
use Rattle.afr_model.specs.Safe.{AreFresh, IsAlwaysSafe}
use Rattle.afr_plan.specs.declared.plan.Plan.{Plan}
use Rattle.afr_law_quiet.specs.Undisturbed.{AreQuietWhole}
use Rattle.afr_law_passes.specs.Reached.Reached.{HasReached}
use Rattle.afr_law_passes.specs.Rolling.Rolling.{NeverSplits}
use Rattle.afr_rule.specs.Choosing.{Calls}
use Rattle.afr_rule.specs.declared.rules.Rules.{Rules}
use Rattle.afr_law_picks.specs.Sources.Sources.{picks_of}
use Rattle.afr_law_bound.specs.Standstill.Order.{AreRising}
use Rattle.afr_law_promises.specs.Unlocked.Unlocked.{AreUnlocked}
use Rattle.afr_law_promises.specs.Whole.Whole.{AreWhole}
use Rattle.afr_volume.specs.State.{IsChosen, State}

-- the log is the plan's, its bricks answered by the rules, and its actors kept the discipline; so each reply and each
-- accusation has its cause, every good copy of every majority is current at every prefix, and reads answer current values.
-- Where a change was acknowledged, a majority has what it or a later one left, in a split-brain too; a split-brain needs that
-- each of its copies missed something, and where attempts come one at a time a whole copy is left in it; a change that enough
-- bricks didn't fail is acknowledged. Each work took no more lines than it costs, each Work lock was asked above all those that
-- its actor held, and no lock outlived its work or its heal; and a file's old name was never given up before its new one was
-- stored at a majority. Where the healers go their own rounds, quiet ones did all that they say, left what was clear clear and
-- a split-brain as it was, and at all bricks converged; pass after pass they brought what names lead to to every brick; and
-- where some brick was always spared, with such a pass before another one was, nothing that all bricks had and that was clear
-- is in split-brain
pub record IsRightFor (crawl : Bool) (p : Plan) (log : List Line) : Type 0 where
  pub follows : Follows crawl p log
  pub honest : Honest p log
  pub lawful : IsLawfulExactly p log
  pub replied : Replied p log
  pub blamed : AreBlamed p log
  pub names : AreKept p log
  pub safe : IsAlwaysSafe p log
  pub fresh : AreFresh p log
  pub causes : EveryPrefix (HaveCauses p) log
  pub alike : EveryPrefix (AreAlike p) log
  pub quiet : crawl ≡ false → AreQuietWhole p log
  pub left : crawl ≡ false → EachLine (IsQuietLeft p) log
  pub converged : crawl ≡ false → EveryPrefix (HasConverged p) log
  pub reached : crawl ≡ false → EveryPrefix (HasReached p) log
  pub rolling : crawl ≡ false → EveryPrefix (NeverSplits p) log
  pub durable : EveryPrefix (IsDurable p) log
  pub since : EveryPrefix (HaveCausesSince p) log
  pub missed : EveryPrefix (AreAllMissed p) log
  pub whole : EveryPrefix (AreWhole p) log
  pub available : EachLine (IsAvailable p) log
  pub rising : AreRising p log
  pub within : AreWithinCost p log
  pub unlocked : EveryPrefix AreUnlocked log

-- all of it, of a run whose healers go their own rounds
abbrev pub IsRight : Plan → List Line → Type 0
IsRight p log = IsRightFor false p log

-- every read went to a copy that the one rule picked, and every heal has a source that the other picked
abbrev pub IsChosenBy : {F G : Type 0} → Calls F → Calls G → Rules F G → State → Type 0
IsChosenBy heals reads rules s = IsChosen (picks_of reads rules.read) (picks_of heals rules.heal) s

-- where that was so, it still is
abbrev pub KeepsChosen : {F G : Type 0} → Calls F → Calls G → Rules F G → State → State → Type 0
KeepsChosen heals reads rules old new = IsChosenBy heals reads rules old → IsChosenBy heals reads rules new
