-- The law, line by line.
use Rattle.std.proofs.Common.{List, [], ◌∷◌, false}
use Rattle.afr_lines.specs.Log.{EachLine}
use Rattle.afr_lines.specs.declared.line.Line.{Line}
use Rattle.afr_lines.specs.declared.line.Line.TheVariants.{Ask, Begin, End, Event, HealBegin, HealEnd}
use Rattle.afr_model.specs.Following.{Follows}
use Rattle.afr_model.specs.Replied.{Replied}
use Rattle.afr_plan.specs.declared.plan.Plan.{Plan}
use Rattle.afr_law_quiet.proofs.Moves.Along.{Premises, earlier}
use Rattle.afr_law_quiet.proofs.Moves.Unmoved.{each_heal, joined_of}
use Rattle.afr_law_quiet.specs.Moves.Moves.{IsQuietUnmoved, QuietRoundsAreUnmoved}

-- the round that a line ends
at_line : (p : Plan) (line : Line) (older : List Line) → Premises p older → Follows false p older → Replied p older → IsQuietUnmoved p line older
at_line p (End a said) older premises follows replied = λ healer b at quiet. each_heal p a.0 healer older premises (joined_of a.0 older quiet.together) follows replied
at_line p (Ask a b request told took) older premises follows replied = tt
at_line p (Begin a change) older premises follows replied = tt
at_line p (HealBegin a g kind) older premises follows replied = tt
at_line p (HealEnd a g kind said) older premises follows replied = tt
at_line p (Event e) older premises follows replied = tt

each_line : (p : Plan) (log : List Line) → Premises p log → Follows false p log → Replied p log → EachLine (IsQuietUnmoved p) log
each_line p [] premises follows replied = tt
each_line p (line ∷ older) premises follows replied = (
  at_line p line older (earlier p line older premises) follows.1 replied.1,
  each_line p older (earlier p line older premises) follows.1 replied.1,
)

pub quiet_unmoved : QuietRoundsAreUnmoved
quiet_unmoved p log five some short follows honest lawful replied = each_line p log (record { five = five; short = short; honest = honest; lawful = lawful }) follows replied
