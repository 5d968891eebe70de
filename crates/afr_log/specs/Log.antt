-- The log as contracts see it, and what is asked of its lines.
use Rattle.std.specs.Prelude.{Bool, List, Option, Some, None}
use Rattle.afr_base.specs.declared.ids.ActorId.{ActorId}
use Rattle.afr_lines.specs.declared.answer.Told.{Told}
use Rattle.afr_lines.specs.declared.answer.Told.TheVariants.{Held}
use Rattle.afr_lines.specs.declared.line.Line.{Line}
use Rattle.afr_lines.specs.declared.line.Line.TheVariants.{Ask, HealBegin, HealEnd}
use Rattle.afr_lines.specs.declared.reply.HealReply.{HealReply}
use Rattle.afr_lines.specs.declared.reply.HealReply.TheVariants as reply
use Rattle.afr_lines.specs.declared.request.Request.{Request}
use Rattle.afr_lines.specs.declared.request.Request.TheVariants.{Lock}
use Rattle.afr_lines.specs.declared.lock.Domain.TheVariants.{Work}
use Rattle.afr_lines.specs.declared.lock.Domain.{Domain}
use Rattle.afr_log.specs.declared.asked.Asker.{Asker}
use Rattle.afr_log.specs.declared.heals.ShortEnd.{ShortEnd}
use Rattle.afr_log.specs.declared.heals.ShortEnd.TheVariants as ended
use Rattle.afr_log.specs.declared.packed.Short.{Short}
use Rattle.afr_log.specs.declared.packed.Short.TheVariants as short
use Rattle.afr_log.specs.declared.shown.ShownLine.{ShownLine}
use Rattle.afr_log.specs.declared.shown.ShownLine.TheVariants.{Made, Kept}
use Rattle.afr_log.specs.declared.shown.ToldLine.{ToldLine}
use Rattle.afr_log.specs.declared.shown.ToldLine.TheVariants as told_as

-- the lines, the oldest first, and whether there is room for one more
pub record Logged : Type 0 where
  pub items : List Line
  pub room : Bool

-- the line that is shown
abbrev pub shown_line : ShownLine → Line
shown_line (Made line) = line
shown_line (Kept line) = line.now

-- the reply that a short one stands for
abbrev pub reply_in : ShortEnd → HealReply
reply_in ended.Nothing = reply.Nothing
reply_in ended.Settled = reply.Settled
reply_in (ended.Busy owner) = reply.Busy owner
reply_in ended.Short = reply.Short
reply_in (ended.Moved brick) = reply.Moved brick
reply_in ended.Failed = reply.Failed

-- the line that is told
abbrev pub told_line : ToldLine → Line
told_line (told_as.Kept line) = line.now
told_line (told_as.HealBegun actor g kind) = HealBegin actor g kind
told_line (told_as.HealEnded actor g kind end) = HealEnd actor g kind (reply_in end)

-- the line of a request
abbrev pub asked_line : Asker → Request → Told → Line
asked_line by request told = Ask by.actor by.brick request told by.took

-- a line that is no request
abbrev pub unasked_line : Line → Option Line
unasked_line (Ask actor brick request told took) = None
unasked_line line = Some line

-- the same of a line that may be there
abbrev pub unasked : Option Line → Option Line
unasked None = None
unasked (Some line) = unasked_line line

-- whom a line waits for: the holder of the transaction lock that it asked
abbrev pub waits_for : Line → Option ActorId
waits_for (Ask actor brick (Lock Work area) (Held owner) took) = Some owner
waits_for line = None

-- whom a packed lock waits for
abbrev pub waited_for : Domain → Short → Option ActorId
waited_for Work (short.Held owner) = Some owner
waited_for domain told = None
