-- The summary of a run: the length of its log, how its commands and heals ended, and how many objects may need heal.
use Rattle.std.specs.Prelude.{ℕ, ◌&&◌, not, nat_le, Bool, true, false, List, ◌++◌, codes, count_by, decimal, length}
use Rattle.afr_base.specs.declared.ids.ActorId.{ActorId}
use Rattle.afr_base.specs.declared.ids.Gfid.{Gfid}
use Rattle.afr_base.specs.declared.ids.What.{What}
use Rattle.afr_lines.specs.declared.line.Line.{Line}
use Rattle.afr_lines.specs.declared.line.Line.TheVariants.{End, HealEnd}
use Rattle.afr_lines.specs.declared.reply.HealReply.{HealReply}
use Rattle.afr_lines.specs.declared.reply.HealReply.TheVariants.{Settled}
use Rattle.afr_lines.specs.declared.reply.Reply.{Reply}
use Rattle.afr_lines.specs.declared.reply.Reply.TheVariants as reply_of
use Rattle.afr_plan.specs.declared.plan.Plan.{Plan}
use Rattle.afr_model.specs.Report.{started_bricks}
use Rattle.afr_model.specs.ReportObjects.{marked_on, splits_in}

-- ---- how works and heals ended
-- the numbers up to 16 are the clients', and those above the healers'
abbrev pub is_client : ActorId → Bool
is_client a = nat_le a.0 16

-- a command that was carried out
abbrev pub is_ok : Reply → Bool
is_ok (reply_of.Ok good) = true
is_ok reply = false

-- a command of a client ended with `ok`
abbrev pub ends_ok : Line → Bool
ends_ok (End a reply) = is_client a && is_ok reply
ends_ok line = false

-- a command of a client ended with a refusal
abbrev pub ends_refused : Line → Bool
ends_refused (End a reply) = is_client a && not (is_ok reply)
ends_refused line = false

-- a heal that brought every copy up to date that its first looks reached
abbrev pub is_settled : HealReply → Bool
is_settled Settled = true
is_settled reply = false

-- such a heal ended, whether its round has ended or not
abbrev pub ends_settled : Line → Bool
ends_settled (HealEnd a g kind reply) = is_settled reply
ends_settled line = false

-- ---- the text
-- a word and its number
unfoldable pub count_line : List ℕ → ℕ → List ℕ
count_line word n = word ++ codes " " ++ decimal n ++ codes "\n"

-- the objects that may need heal on a started brick
abbrev pub marked : Plan → List Line → List (Gfid × What)
marked p log = marked_on p log (started_bricks p.shape.n log)

-- how many of their kinds are split
abbrev pub splits : Plan → List Line → ℕ
splits p log = splits_in p log (started_bricks p.shape.n log) (marked p log)

-- the summary of the load of number n
abbrev pub summary_of : Plan → List Line → ℕ → List ℕ
summary_of p log n =
    count_line (codes "gen") n ++ count_line (codes "lines") (length log)
    ++ count_line (codes "ok") (count_by ends_ok log) ++ count_line (codes "refused") (count_by ends_refused log) ++ count_line (codes "settled") (count_by ends_settled log)
    ++ count_line (codes "objects") (length (marked p log)) ++ count_line (codes "split-brain") (splits p log)
