-- The machine of a change and its lines: by its walk, its transaction and its end.
use Rattle.std.proofs.Common.{◌≡◌, Bool, true, List, [], ◌∷◌, None, length, sym, ap, ◌∙◌, subst}
use Rattle.afr_base.specs.declared.ids.ActorId.{ActorId}
use Rattle.afr_base.specs.declared.ids.BrickId.{BrickId}
use Rattle.afr_base.specs.declared.ids.NameId.{NameId}
use Rattle.afr_lines.specs.Told.{told_by}
use Rattle.afr_lines.specs.Work.{Work}
use Rattle.afr_lines.specs.declared.answer.Answer.{Answer}
use Rattle.afr_lines.specs.declared.line.Line.{Line}
use Rattle.afr_lines.specs.declared.line.Line.TheVariants.{Ask, Begin}
use Rattle.afr_lines.specs.declared.line.Next.TheVariants as next
use Rattle.afr_lines.specs.declared.reply.Reply.{Reply}
use Rattle.afr_lines.specs.declared.request.Request.{Request}
use Rattle.afr_plan.specs.declared.command.Command.{Command}
use Rattle.afr_plan.specs.declared.plan.Plan.{Plan}
use Rattle.afr_model.specs.Answered.{IsAbout, IsAnswered}
use Rattle.afr_model.specs.Keeping.{KeepsTo}
use Rattle.afr_model.specs.Refusals.{too_large}
use Rattle.afr_client_walk.specs.Choosing.{IsAmong}
use Rattle.afr_client_walk.specs.Walk.{choices_of, is_walking, next_in, walked}
use Rattle.afr_client_walk.specs.Walk as walk
use Rattle.afr_client_walk.specs.declared.walk.Walk.{Walk}
use Rattle.afr_client_walk.specs.declared.walk.WalkStep.{WalkStep}
use Rattle.afr_client_walk.specs.declared.walk.WalkStep.TheVariants as walking
use Rattle.afr_client_walk.proofs.WalkLemmas.{is_walked}
use Rattle.afr_client_write.specs.Write.{IsStage, IsWrite, after_walk, choices_at, next_at, stage_after, stage_begun, walk_after}
use Rattle.afr_client_write.specs.declared.job.WriteJob.{WriteJob}
use Rattle.afr_client_write.specs.declared.stage.WriteStage.{WriteStage}
use Rattle.afr_client_write.specs.declared.stage.WriteStage.TheVariants.{Walking, Changing, Ending}
use Rattle.afr_law_client.specs.Read.Lines.{CanAnswer}
use Rattle.afr_law_client.specs.Read.WalkTelling.{WalkTells}
use Rattle.afr_law_client.proofs.Read.ReadsMore.{asks_same}
use Rattle.afr_law_client.proofs.Read.Walking.{walk_tells_more}
use Rattle.afr_law_client.proofs.Read.WalksEnd.{about as walk_line}
use Rattle.afr_law_client.specs.About.{BlamesNext}
use Rattle.afr_law_client.specs.Laws.{IsNextLine}
use Rattle.afr_law_client.proofs.About.{blames_kept}
use Rattle.afr_law_client.specs.Write.WriteLaws.{WriteAbout, WriteBegun, WriteBlames, WriteEnds, WriteTellsMore}
use Rattle.afr_law_client.specs.Write.WriteTelling.{CanHear, TellsIn, Walks, WriteTells, command_of}
use Rattle.afr_law_client.proofs.Write.Begins.{moved}
use Rattle.afr_law_client.proofs.Write.Goes.{asked_more, begun_more, change_end, change_line}
use Rattle.afr_client_entry.proofs.Renames.RenameLemmas.{walked_path}

-- ---- while the path is walked
walks_more : (p : Plan) (c : Command) (job : WriteJob) (w : Walk) (lines : Work) (a : ActorId) (chosen : BrickId) (heard : Answer) (took : Bool) (log : List Line) → IsWrite w (Walking job) → Walks p c job w lines
    → CanAnswer p (next_in w).0.0 (next_in w).1 log heard → IsAmong (choices_of heard w) chosen
    → WriteTells p c (record { walk = walked chosen heard (length log) w; stage = after_walk job (walked chosen heard (length log) w) }) ((Ask a (next_in w).0 (next_in w).1 (told_by heard) took, log) ∷ lines)
walks_more p c job w lines a chosen heard took log sound k can among = record { shape = tells.shape; stage = subst (λ (x : Command). TellsIn p x (after_walk job after) after more) same (moved p job after more walked_sound small own) }
  where
    after : Walk
    after = walked chosen heard (length log) w

    more : Work
    more = (Ask a (next_in w).0 (next_in w).1 (told_by heard) took, log) ∷ lines

    walked_sound : walk.IsWalk after
    walked_sound = is_walked chosen heard (length log) w sound.sound sound.ready.0 among

    tells : WalkTells p c after more
    tells = walk_tells_more p c w lines a chosen heard took log (length log) sound.sound sound.ready.0 k.tells can among

    same : command_of job after.path ≡ c
    same = ap (λ (path : List NameId). command_of job path) (walked_path chosen heard (length log) w) ∙ sym k.named

    small : too_large (command_of job after.path) ≡ None
    small = subst (λ (x : Command). too_large x ≡ None) (sym same) k.small

    own : WalkTells p (command_of job after.path) after more
    own = subst (λ (x : Command). WalkTells p x after more) (sym same) tells

-- ---- after a line
pub more : WriteTellsMore
more p c m lines a b request chosen heard took log sound k e can among = go m.stage sound.ready k.stage e can among
  where
    w : Walk
    w = m.walk

    go : (stage : WriteStage) → IsStage w stage → TellsIn p c stage w lines → next_at (length log) stage w ≡ next.Ask b request → CanHear stage p w.object b.0 request log heard → IsAmong (choices_at stage heard w) chosen
        → WriteTells p c (record { walk = walk_after chosen stage heard (length log) w; stage = stage_after stage heard (length log) (walk_after chosen stage heard (length log) w) }) ((Ask a b request (told_by heard) took, log) ∷ lines)
    go (Walking job) ready t e can among =
        asks_same (λ (b : BrickId) (r : Request). CanAnswer p b.0 r log heard → IsAmong (choices_of heard w) chosen → WriteTells p c (record { walk = walked chosen heard (length log) w; stage = after_walk job (walked chosen heard (length log) w) }) ((Ask a b r (told_by heard) took, log) ∷ lines))
        (next_in w).0 b (next_in w).1 request e (walks_more p c job w lines a chosen heard took log (record { sound = sound.sound; ready = ready }) t) can among
    go (Changing t) ready k2 e can among = record { shape = k.shape; stage = asked_more p c w.object lines a log t ready.0 k2 b request (told_by heard) took e can }
    go (Ending said) ready t e can among = absurd (cc e)

pub begun : WriteBegun
begun p c m lines a change chosen log sound k e = go m.stage sound.ready k.stage e
  where
    w : Walk
    w = m.walk

    go : (stage : WriteStage) → IsStage w stage → TellsIn p c stage w lines → next_at (length log) stage w ≡ next.Begin change → WriteTells p c (record { walk = w; stage = stage_begun stage (length log) }) ((Begin a change, log) ∷ lines)
    go (Walking job) ready t e = absurd (cc e)
    go (Changing t) ready k2 e = record { shape = k.shape; stage = begun_more p c w.object lines a log t ready.0 k2 change e }
    go (Ending said) ready t e = absurd (cc e)

-- ---- each line
pub about : WriteAbout
about p c m lines a told line log sound k is = go m.stage sound.ready k.stage is
  where
    go : (stage : WriteStage) → IsStage m.walk stage → TellsIn p c stage m.walk lines → IsNextLine a (next_at (length log) stage m.walk) told line → IsAbout p c line lines × KeepsTo p c line (length log) lines
    go (Walking job) ready t (took, e) =
        subst (λ (x : Line). IsAbout p c x lines × KeepsTo p c x (length log) lines) (sym e) (walk_line p c m.walk lines a told took (length log) sound.sound ready.0 t.tells t.small)
    go (Changing t) ready k2 is = change_line p c m.walk.object lines a log t ready.0 k2 told line is
    go (Ending said) ready t is = absurd is

pub blames : WriteBlames
blames p c m lines at sound k = go m.stage sound.ready k.stage
  where
    by_step : (step : WalkStep) → is_walking step ≡ true → BlamesNext p lines (next.Ask (walk.next_at step m.walk).0 (walk.next_at step m.walk).1)
    by_step (walking.Looking s) h = tt
    by_step (walking.Naming b) h = tt
    by_step walking.Arrived h = absurd (cc h)
    by_step (walking.Stopped why) h = absurd (cc h)

    go : (stage : WriteStage) → IsStage m.walk stage → TellsIn p c stage m.walk lines → BlamesNext p lines (next_at at stage m.walk)
    go (Walking job) ready t = by_step m.walk.step ready.0
    go (Changing t) ready k2 = blames_kept p lines t at ready.0 k2.tells k2.excused
    go (Ending said) ready t = tt

-- ---- the end
pub ends : WriteEnds
ends p c m lines at said sound k e = go m.stage sound.ready k.stage e
  where
    go : (stage : WriteStage) → IsStage m.walk stage → TellsIn p c stage m.walk lines → next_at at stage m.walk ≡ next.End said → IsAnswered p c lines said
    go (Walking job) ready t e = absurd (cc e)
    go (Changing t) ready k2 e = change_end p c m.walk.object lines (record { 0 = 0 }) [] t ready.0 k2 at said e
    go (Ending x) ready t e = let same : x ≡ said = cc e in subst (λ (y : Reply). IsAnswered p c lines y) same t
