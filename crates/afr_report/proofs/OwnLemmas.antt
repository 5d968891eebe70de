-- What a report says of an actor, it says by the lines that tell of this actor.
use Rattle.std.proofs.Common.{◌≡◌, ◌∙◌, ℕ, ◌+◌, ◌-◌, ◌==◌, ◌||◌, Bool, true, false, List, [], ◌∷◌, ◌++◌, Option, Some, None, refl, sym, ap, length, append-nil, codes, if◌then◌else◌, slice_get}
use Rattle.std.specs.Prelude.{decimal}
use Rattle.afr_lines.specs.Work.{Work, work, ended, reply_by, is_killed, kills, is_of, is_end, ends_work}
use Rattle.afr_lines.specs.declared.line.Event.TheVariants.{Stop, Start, Cut, Join, Kill}
use Rattle.afr_lines.specs.declared.line.Line.{Line}
use Rattle.afr_lines.specs.declared.line.Line.TheVariants.{Ask, Begin, HealBegin, End, HealEnd, Event}
use Rattle.afr_lines.specs.declared.reply.Reply.{Reply}
use Rattle.afr_plan.specs.declared.command.Command.{Command}
use Rattle.afr_plan.specs.declared.plan.Words.{Words}
use Rattle.afr_model.specs.Report.{client_head, command_line, ended_lines, client_text, standing}
use Rattle.afr_model.specs.ReportHealers.{heal_line, heal_lines, round_lines, rounds_lines, healer_text}
use Rattle.afr_model.specs.ReportReplies.{reply_text}
use Rattle.afr_base.specs.declared.ids.BrickId.{BrickId}
use Rattle.afr_report.specs.Own.{subject_of, is_one, own_lines}
use Rattle.afr_report.proofs.CommandLemmas.{no_reply}

not_if : {A : Type 0} (t : Bool) (x y : A) → t ≡ false → (if t then x else y) ≡ y
not_if t x y h = rw h refl

not_or : (t r : Bool) → t ≡ false → (t || r) ≡ r
not_or t r h = rw h refl

-- what the lines that tell of an actor keep, and the others leave alone, is the same of its own lines
of_own : {A : Type 0} (f : List Line → A) (a : ℕ) → ((line : Line) (older : List Line) → f (own_lines a older) ≡ f older → f (line ∷ own_lines a older) ≡ f (line ∷ older))
    → ((line : Line) (older : List Line) → is_one a (subject_of line) ≡ false → f (line ∷ older) ≡ f older) → (log : List Line) → f (own_lines a log) ≡ f log
of_own f a keep skip [] = refl
of_own f a keep skip (line ∷ older) = go (is_one a (subject_of line)) refl (of_own f a keep skip older)
  where
    go : (t : Bool) → is_one a (subject_of line) ≡ t → f (own_lines a older) ≡ f older → f (if t then line ∷ own_lines a older else own_lines a older) ≡ f (line ∷ older)
    go true e h = keep line older h
    go false e h = h ∙ sym (skip line older e)

no_end : (a : ℕ) (line : Line) (older : List Line) → is_one a (subject_of line) ≡ false → ended a (line ∷ older) ≡ ended a older
no_end a (Ask x b request told took) older h = refl
no_end a (Begin x change) older h = refl
no_end a (HealBegin x g kind) older h = refl
no_end a (End x reply) older h = not_if (x.0 == a) (ended a older + 1) (ended a older) h
no_end a (HealEnd x g kind reply) older h = refl
no_end a (Event event) older h = refl

pub ended_own : (a : ℕ) (log : List Line) → ended a (own_lines a log) ≡ ended a log
ended_own a log = of_own (ended a) a (λ line older h. ap (λ (n : ℕ). if ends_work a line then n + 1 else n) h) (no_end a) log

no_kill : (a : ℕ) (line : Line) (older : List Line) → is_one a (subject_of line) ≡ false → is_killed a (line ∷ older) ≡ is_killed a older
no_kill a (Ask x b request told took) older h = refl
no_kill a (Begin x change) older h = refl
no_kill a (HealBegin x g kind) older h = refl
no_kill a (End x reply) older h = refl
no_kill a (HealEnd x g kind reply) older h = refl
no_kill a (Event (Stop b)) older h = refl
no_kill a (Event (Start b)) older h = refl
no_kill a (Event (Cut x b)) older h = refl
no_kill a (Event (Join x b)) older h = refl
no_kill a (Event (Kill x)) older h = not_or (x.0 == a) (is_killed a older) h

pub killed_own : (a : ℕ) (log : List Line) → is_killed a (own_lines a log) ≡ is_killed a log
killed_own a log = of_own (is_killed a) a (λ line older h. ap (λ (k : Bool). kills a line || k) h) (no_kill a) log

no_answer : (a : ℕ) (line : Line) → is_one a (subject_of line) ≡ false → reply_by a line ≡ None
no_answer a (Ask x b request told took) h = refl
no_answer a (Begin x change) h = refl
no_answer a (HealBegin x g kind) h = refl
no_answer a (End x reply) h = not_if (x.0 == a) (Some reply) None h
no_answer a (HealEnd x g kind reply) h = refl
no_answer a (Event event) h = refl

pub lines_own : (words : Words) (a : ℕ) (commands : List Command) (log : List Line) → ended_lines words a commands (own_lines a log) ≡ ended_lines words a commands log
lines_own words a commands log = of_own (ended_lines words a commands) a keep skip log
  where
    keep : (line : Line) (older : List Line) → ended_lines words a commands (own_lines a older) ≡ ended_lines words a commands older
        → ended_lines words a commands (line ∷ own_lines a older) ≡ ended_lines words a commands (line ∷ older)
    keep line older h =
        ap (λ (t : List ℕ). t ++ command_line words (ended a (own_lines a older)) (slice_get commands (ended a (own_lines a older))) (reply_by a line)) h
        ∙ ap (λ (n : ℕ). ended_lines words a commands older ++ command_line words n (slice_get commands n) (reply_by a line)) (ended_own a older)

    skip : (line : Line) (older : List Line) → is_one a (subject_of line) ≡ false → ended_lines words a commands (line ∷ older) ≡ ended_lines words a commands older
    skip line older h =
        ap (λ (r : Option Reply). ended_lines words a commands older ++ command_line words (ended a older) (slice_get commands (ended a older)) r) (no_answer a line h)
        ∙ ap (λ (t : List ℕ). ended_lines words a commands older ++ t) (no_reply words (ended a older) (slice_get commands (ended a older)))
        ∙ append-nil (ended_lines words a commands older)

off : (t : Bool) (v w : Work) → t ≡ false → heal_lines (if t then v else w) ≡ heal_lines w
off t v w h = rw h refl

quiet : (t : Bool) (line : Line) (older : List Line) (w : Work) → heal_line line ≡ [] → heal_lines (if t then (line, older) ∷ w else w) ≡ heal_lines w
quiet true line older w e = ap (λ (t : List ℕ). heal_lines w ++ t) e ∙ append-nil (heal_lines w)
quiet false line older w e = refl

no_heal : (a : ℕ) (line : Line) (older : List Line) → is_one a (subject_of line) ≡ false → heal_lines (work a (line ∷ older)) ≡ heal_lines (work a older)
no_heal a (Ask x b request told took) older h = quiet (x.0 == a) (Ask x b request told took) older (work a older) refl
no_heal a (Begin x change) older h = quiet (x.0 == a) (Begin x change) older (work a older) refl
no_heal a (HealBegin x g kind) older h = quiet (x.0 == a) (HealBegin x g kind) older (work a older) refl
no_heal a (End x reply) older h = off (x.0 == a) [] (work a older) h
no_heal a (HealEnd x g kind reply) older h = off (x.0 == a) ((HealEnd x g kind reply, older) ∷ work a older) (work a older) h
no_heal a (Event event) older h = refl

pub heals_own : (a : ℕ) (log : List Line) → heal_lines (work a (own_lines a log)) ≡ heal_lines (work a log)
heals_own a log = of_own (λ (lines : List Line). heal_lines (work a lines)) a keep (no_heal a) log
  where
    go : (s t : Bool) (line : Line) (older : List Line) → heal_lines (work a (own_lines a older)) ≡ heal_lines (work a older)
        → heal_lines (if s then (if t then [] else (line, own_lines a older) ∷ work a (own_lines a older)) else work a (own_lines a older))
        ≡ heal_lines (if s then (if t then [] else (line, older) ∷ work a older) else work a older)
    go true true line older h = refl
    go true false line older h = ap (λ (t : List ℕ). t ++ heal_line line) h
    go false t line older h = h

    keep : (line : Line) (older : List Line) → heal_lines (work a (own_lines a older)) ≡ heal_lines (work a older)
        → heal_lines (work a (line ∷ own_lines a older)) ≡ heal_lines (work a (line ∷ older))
    keep line older h = go (is_of a line) (is_end line) line older h

same_round : (words : Words) (k : ℕ) (r : Option Reply) (v w : Work) → heal_lines v ≡ heal_lines w → round_lines words k r v ≡ round_lines words k r w
same_round words k None v w e = refl
same_round words k (Some r) v w e = ap (λ (t : List ℕ). decimal (k + 1) ++ codes " round " ++ reply_text words r ++ codes "\n" ++ t) e

pub rounds_own : (words : Words) (a : ℕ) (log : List Line) → rounds_lines words a (own_lines a log) ≡ rounds_lines words a log
rounds_own words a log = of_own (rounds_lines words a) a keep skip log
  where
    keep : (line : Line) (older : List Line) → rounds_lines words a (own_lines a older) ≡ rounds_lines words a older
        → rounds_lines words a (line ∷ own_lines a older) ≡ rounds_lines words a (line ∷ older)
    keep line older h =
        ap (λ (t : List ℕ). t ++ round_lines words (ended a (own_lines a older)) (reply_by a line) (work a (own_lines a older))) h
        ∙ ap (λ (n : ℕ). rounds_lines words a older ++ round_lines words n (reply_by a line) (work a (own_lines a older))) (ended_own a older)
        ∙ ap (λ (t : List ℕ). rounds_lines words a older ++ t) (same_round words (ended a older) (reply_by a line) (work a (own_lines a older)) (work a older) (heals_own a older))

    skip : (line : Line) (older : List Line) → is_one a (subject_of line) ≡ false → rounds_lines words a (line ∷ older) ≡ rounds_lines words a older
    skip line older h =
        ap (λ (r : Option Reply). rounds_lines words a older ++ round_lines words (ended a older) r (work a older)) (no_answer a line h)
        ∙ append-nil (rounds_lines words a older)

pub client_own : (words : Words) (a : ℕ) (commands : List Command) (log : List Line) → client_text words a commands (own_lines a log) ≡ client_text words a commands log
client_own words a commands log =
    ap (λ (k : Bool). client_head a k (ended a (own_lines a log)) (length commands) ++ ended_lines words a commands (own_lines a log)) (killed_own a log)
    ∙ ap (λ (n : ℕ). client_head a (is_killed a log) n (length commands) ++ ended_lines words a commands (own_lines a log)) (ended_own a log)
    ∙ ap (λ (t : List ℕ). client_head a (is_killed a log) (ended a log) (length commands) ++ t) (lines_own words a commands log)

abbrev head : ℕ → Bool → ℕ → ℕ → List ℕ → List ℕ
head a dead done rounds more = codes "h" ++ decimal (a - 16) ++ codes " " ++ decimal done ++ codes " of " ++ decimal rounds ++ standing dead done rounds ++ codes "\n" ++ more

pub healer_own : (words : Words) (a : ℕ) (rounds : List BrickId) (log : List Line) → healer_text words a rounds (own_lines a log) ≡ healer_text words a rounds log
healer_own words a rounds log =
    ap (λ (k : Bool). head a k (ended a (own_lines a log)) (length rounds) (rounds_lines words a (own_lines a log))) (killed_own a log)
    ∙ ap (λ (n : ℕ). head a (is_killed a log) n (length rounds) (rounds_lines words a (own_lines a log))) (ended_own a log)
    ∙ ap (λ (t : List ℕ). head a (is_killed a log) (ended a log) (length rounds) t) (rounds_own words a log)
