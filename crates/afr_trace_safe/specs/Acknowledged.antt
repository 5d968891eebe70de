-- Acknowledged attempts as a test.
use Rattle.std.specs.Prelude.{ℕ, Bool, true, false, List, Option, Some}
use Rattle.afr_lines.specs.Log.{from_oldest}
use Rattle.afr_lines.specs.declared.line.Line.{Line}
use Rattle.afr_lines.specs.declared.line.Line.TheVariants.{Begin}
use Rattle.afr_lines.specs.declared.reply.Reply.{Reply}
use Rattle.afr_lines.specs.declared.reply.Reply.TheVariants.{Ok}
use Rattle.afr_model.specs.Attempts.{first_reply}

-- whether a reply says ok
abbrev pub says_ok : Option Reply → Bool
says_ok (Some (Ok good)) = true
says_ok other = false

-- whether the line at position q begins an attempt to whose actor the next reply is ok
abbrev pub begins_well : Option Line → List Line → ℕ → Bool
begins_well (Some (Begin actor change)) log q = says_ok (first_reply actor.0 q log)
begins_well other log q = false

-- whether the attempt at a position is acknowledged
abbrev pub is_acknowledged : List Line → ℕ → Bool
is_acknowledged log q = begins_well (from_oldest q log) log q
