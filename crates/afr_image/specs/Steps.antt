-- What an image keeps of a line, and which steps a line can have.
use Rattle.std.specs.Prelude.{ℕ, ◌+◌, ◌==◌, ◌&&◌, ◌||◌, Bool, List, [], ◌∷◌, Option, Some, None, flat_map, nat_le, nat_lt, option_map, suc, if◌then◌else◌}
use Rattle.std.specs.List.{list_all}
use Rattle.afr_base.specs.declared.ids.ActorId.{ActorId}
use Rattle.afr_base.specs.declared.ids.BrickId.{BrickId}
use Rattle.afr_lines.specs.declared.answer.Told.{Told}
use Rattle.afr_lines.specs.declared.answer.Told.TheVariants as told
use Rattle.afr_lines.specs.declared.line.Line.{Line}
use Rattle.afr_lines.specs.declared.line.Line.TheVariants.{Ask, Begin, HealBegin, End, HealEnd, Event}
use Rattle.afr_lines.specs.declared.reply.HealReply.{HealReply}
use Rattle.afr_lines.specs.declared.reply.HealReply.TheVariants as healed
use Rattle.afr_lines.specs.declared.reply.Reply.{Reply}
use Rattle.afr_lines.specs.declared.reply.Reply.TheVariants as reply
use Rattle.afr_image.specs.declared.step.Step.{Step}

-- an answer; one that is lost differs from none by what the brick did
abbrev pub told_code : Told → Bool → ℕ
told_code told.Granted took = 0
told_code (told.Held owner) took = 1
told_code (told.Seen view) took = 2
told_code told.Done took = 3
told_code told.Given took = 4
told_code told.NoObject took = 5
told_code told.NotConnected took = if took then 7 else 6
told_code told.Failed took = 8

-- a reply to a command
abbrev pub reply_number : Reply → ℕ
reply_number (reply.Ok good) = 0
reply_number reply.NoEntry = 1
reply_number reply.Exists = 2
reply_number reply.NotDir = 3
reply_number reply.IsDir = 4
reply_number reply.NotEmpty = 5
reply_number reply.NoQuorum = 6
reply_number reply.FewCopies = 7
reply_number (reply.SplitBrain views) = 8
reply_number reply.Failed = 9
reply_number reply.TooLarge = 10
reply_number reply.Half = 11

-- a reply to a heal
abbrev pub heal_number : HealReply → ℕ
heal_number healed.Nothing = 0
heal_number healed.Settled = 1
heal_number (healed.Split views) = 2
heal_number (healed.Busy owner) = 3
heal_number healed.Short = 4
heal_number (healed.Moved brick) = 5
heal_number healed.Failed = 6

-- an actor asked a brick
abbrev pub asked_step : ActorId → BrickId → Told → Bool → Step
asked_step actor brick told took = record { who = actor.0; brick = brick.0; code = told_code told took }

-- an actor did what asks no brick
abbrev pub own_step : ActorId → ℕ → Step
own_step actor code = record { who = actor.0; brick = 255; code = code }

-- the step of a line; an event is nobody's
abbrev pub step_of : Line → Step
step_of (Ask actor brick request told took) = asked_step actor brick told took
step_of (Begin actor change) = own_step actor 9
step_of (HealBegin actor g kind) = own_step actor 10
step_of (End actor reply) = own_step actor (16 + reply_number reply)
step_of (HealEnd actor g kind reply) = own_step actor (32 + heal_number reply)
step_of (Event event) = record { who = 0; brick = 255; code = 11 }

-- ---- which steps are well formed
abbrev pub is_within : ℕ → ℕ → ℕ → Bool
is_within low high n = nat_le low n && nat_le n high

-- an event's
abbrev pub is_event_step : Step → Bool
is_event_step s = (s.who == 0) && (s.brick == 255) && (s.code == 11)

-- a request's: one of 19 actors, five bricks and nine answers
abbrev pub is_asked_step : Step → Bool
is_asked_step s = is_within 1 19 s.who && nat_lt s.brick 5 && nat_le s.code 8

-- the code of a begin, of a heal's begin, of one of twelve replies or of one of seven to a heal
abbrev pub is_own_code : ℕ → Bool
is_own_code code = (code == 9) || (code == 10) || is_within 16 27 code || is_within 32 38 code

-- of a line of one of 19 actors that asks no brick
abbrev pub is_own_step : Step → Bool
is_own_step s = is_within 1 19 s.who && (s.brick == 255) && is_own_code s.code

-- a line can have the step
abbrev pub is_step : Step → Bool
is_step s = is_event_step s || is_asked_step s || is_own_step s

-- lines can have all the steps
abbrev pub are_steps : List Step → Bool
are_steps steps = list_all is_step steps

-- ---- steps as bytes
-- a step takes three bytes
abbrev pub step_bytes : Step → List ℕ
step_bytes s = s.who ∷ s.brick ∷ s.code ∷ []

-- the bytes of steps, one after the other
abbrev pub steps_bytes : List Step → List ℕ
steps_bytes steps = flat_map step_bytes steps

-- three bytes are a step
abbrev pub steps_in : List ℕ → List Step
steps_in (who ∷ brick ∷ code ∷ more) = record { who = who; brick = brick; code = code } ∷ steps_in more
steps_in bytes = []

-- ---- the first that no line can have
-- how many steps stand before the first that no line can have, if there is one
abbrev pub first_bad : List Step → Option ℕ
first_bad [] = None
first_bad (s ∷ more) = if is_step s then option_map suc (first_bad more) else Some 0
