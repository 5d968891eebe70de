-- A healer's line, and those of its rounds and heals.
use Rattle.std.specs.Prelude.{ℕ, ◌+◌, ◌-◌, ◌==◌, Bool, List, [], ◌++◌, codes, decimal, if◌then◌else◌}
use Rattle.afr_base.specs.Text.{gfid_spelling}
use Rattle.afr_base.specs.declared.ids.Gfid.{Gfid}
use Rattle.afr_base.specs.declared.ids.Kind.{Kind}
use Rattle.afr_lines.specs.declared.line.Line.{Line}
use Rattle.afr_lines.specs.declared.line.Line.TheVariants.{HealEnd}
use Rattle.afr_lines.specs.declared.reply.HealReply.{HealReply}
use Rattle.afr_lines.specs.declared.reply.Reply.{Reply}
use Rattle.afr_plan.specs.declared.plan.Words.{Words}
use Rattle.afr_model.specs.Report.{standing}
use Rattle.afr_model.specs.ReportReplies.{heal_text, is_nothing_healed, kind_text, reply_text}

-- how far a healer has come
abbrev pub healer_head : ℕ → Bool → ℕ → ℕ → List ℕ
healer_head a dead done rounds = codes "h" ++ decimal (a - 16) ++ codes " " ++ decimal done ++ codes " of " ++ decimal rounds ++ standing dead done rounds ++ codes "\n"

-- a heal that found something to do
abbrev pub ended_heal : Gfid → Kind → HealReply → List ℕ
ended_heal g kind reply = if is_nothing_healed reply then [] else kind_text kind ++ codes " " ++ gfid_spelling g.0 ++ codes " " ++ heal_text reply ++ codes "\n"

-- the same of a line, where the healer wrote it
abbrev pub heal_of : ℕ → Line → List ℕ
heal_of a (HealEnd x g kind reply) = if x.0 == a then ended_heal g kind reply else []
heal_of a line = []

-- a round that ended after k others, and the lines of its heals
abbrev pub round_with : Words → ℕ → Reply → List ℕ → List ℕ
round_with words k reply heals = decimal (k + 1) ++ codes " round " ++ reply_text words reply ++ codes "\n" ++ heals
