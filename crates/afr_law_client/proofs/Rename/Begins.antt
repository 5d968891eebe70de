-- A rename that begins; and of one whose walks go on, or that is at its end, what each law says.
use Rattle.std.proofs.Common.{◌≡◌, ℕ, ◌==◌, Bool, true, false, List, [], ◌∷◌, length, refl, sym, ap, subst, if◌then◌else◌}
use Rattle.afr_base.specs.declared.ids.ActorId.{ActorId}
use Rattle.afr_base.specs.declared.ids.BrickId.{BrickId}
use Rattle.afr_base.specs.declared.ids.NameId.{NameId}
use Rattle.afr_lines.specs.Told.{told_by}
use Rattle.afr_lines.specs.Work.{Work}
use Rattle.afr_lines.specs.declared.answer.Answer.{Answer}
use Rattle.afr_lines.specs.declared.answer.Told.{Told}
use Rattle.afr_lines.specs.declared.line.Line.{Line}
use Rattle.afr_lines.specs.declared.line.Line.TheVariants.{Ask}
use Rattle.afr_lines.specs.declared.line.Next.TheVariants as next
use Rattle.afr_lines.specs.declared.reply.Reply.{Reply}
use Rattle.afr_lines.specs.declared.request.Request.{Request}
use Rattle.afr_plan.specs.declared.command.Command.{Command}
use Rattle.afr_plan.specs.declared.command.Command.TheVariants as command
use Rattle.afr_plan.specs.declared.plan.Plan.{Plan}
use Rattle.afr_model.specs.Following.{KeepsToCommand}
use Rattle.afr_model.specs.Renamed.{IsRenamed}
use Rattle.afr_model.specs.Replied.{IsOf}
use Rattle.afr_client_walk.specs.Choosing.{IsAmong}
use Rattle.afr_client_walk.specs.Looks.{no_look}
use Rattle.afr_client_walk.specs.Walk.{next_in}
use Rattle.afr_object.specs.Tables.{root_entry}
use Rattle.afr_client_walk.specs.declared.walk.WalkStep.TheVariants as walking
use Rattle.afr_law_client.proofs.Read.Walking.{walk_tells_first}
use Rattle.afr_law_client.specs.About.{BlamesNext}
use Rattle.afr_law_client.specs.Laws.{IsNextLine}
use Rattle.afr_client_entry.specs.Renames.Rename.{IsRename, answered, choices_at, next_at}
use Rattle.afr_client_entry.specs.declared.renaming.paths.Paths.{Paths}
use Rattle.afr_client_entry.specs.declared.renaming.stage.RenameStage.{RenameStage}
use Rattle.afr_client_entry.specs.declared.renaming.stage.RenameStage.TheVariants.{Finding, Walking, Ending}
use Rattle.afr_client_entry.proofs.Renames.PathLemmas.{front_last}
use Rattle.afr_law_client.specs.Rename.RenameLaws.{RenameBegins}
use Rattle.afr_law_client.specs.Rename.RenameTelling.{CanHear, IsLeg, RenameTells, TellsIn, command_of, to_of}
use Rattle.afr_law_client.proofs.Rename.Walks.{finding_about, leg_begins, walk_blames, walking_about}
use Rattle.afr_law_client.proofs.Rename.WalksGo.{finding_more, walking_more}

-- ---- it begins
pub begins : RenameBegins
begins p from to few some old new = record {
  shape = refl;
  named = ap (λ (path : List NameId). command.Rename from path) (sym (front_last to new));
  stage = record { tells = walk_tells_first p (command.Stat from) from refl refl; asked = refl; legs = tt; leg = leg (0 == length from); waits = refl };
}
  where
    leg : (e : Bool) → IsLeg p.shape.n (if e then walking.Arrived else walking.Looking no_look) root_entry.gfid []
    leg true = λ g m b l. absurd (cc m)
    leg false = leg_begins p.shape.n root_entry.gfid

-- ---- a stage at which a path is walked, or the end is reached
abbrev pub walks_or_ends : RenameStage → Bool
walks_or_ends Finding = true
walks_or_ends Walking = true
walks_or_ends (Ending said) = true
walks_or_ends stage = false

module _ (p : Plan) (c : Command) (x : Paths) (lines : Work) (shape : x.first.shape ≡ p.shape) (named : c ≡ command_of x) where
  -- after one line more its lines show where it stands
  pub more_walks : (stage : RenameStage) → walks_or_ends stage ≡ true → (a : ActorId) (b : BrickId) (request : Request) (chosen : BrickId) (heard : Answer) (took : Bool) (log : List Line) → IsRename x stage → TellsIn p stage x lines
      → next_at (length log) stage x ≡ next.Ask b request → CanHear stage p x b.0 request log heard → IsAmong (choices_at stage heard (length log) x) chosen
      → RenameTells p c (answered chosen heard (length log) (record { paths = x; stage = stage })) ((Ask a b request (told_by heard) took, log) ∷ lines)
  more_walks Finding w a b request chosen heard took log sound t e can among = finding_more p c x lines a chosen heard took log sound.paths sound.sound shape named t b request e can among
  more_walks Walking w a b request chosen heard took log sound t e can among = walking_more p c x lines a chosen heard took log sound.paths sound.sound.0 shape named t b request e can among
  more_walks (Ending said) w a b request chosen heard took log sound t e can among = absurd (cc e)
  more_walks stage w a b request chosen heard took log sound t e can among = absurd (cc w)

  -- the next line is about what the two paths name, and keeps to them
  pub about_walks : (stage : RenameStage) → walks_or_ends stage ≡ true → (a : ActorId) (told : Told) (line : Line) (log : List Line) → IsRename x stage → TellsIn p stage x lines → IsNextLine a (next_at (length log) stage x) told line
      → IsOf p c line lines × KeepsToCommand p c line (length log) lines
  about_walks Finding w a told line log sound t (took, e) =
      subst (λ (l : Line). IsOf p c l lines × KeepsToCommand p c l (length log) lines) (sym e)
      (subst (λ (d : Command). IsOf p d (Ask a (next_in x.first).0 (next_in x.first).1 told took) lines × KeepsToCommand p d (Ask a (next_in x.first).0 (next_in x.first).1 told took) (length log) lines) (sym named)
      (finding_about p x lines t sound.paths.first sound.sound a told took (length log)))
  about_walks Walking w a told line log sound t (took, e) =
      subst (λ (l : Line). IsOf p c l lines × KeepsToCommand p c l (length log) lines) (sym e)
      (subst (λ (d : Command). IsOf p d (Ask a (next_in x.second).0 (next_in x.second).1 told took) lines × KeepsToCommand p d (Ask a (next_in x.second).0 (next_in x.second).1 told took) (length log) lines) (sym named)
      (walking_about p x lines t sound.paths.second sound.sound.0 a told took (length log)))
  about_walks (Ending said) w a told line log sound t is = absurd is
  about_walks stage w a told line log sound t is = absurd (cc w)

  -- it accuses nobody
  pub blames_walks : (stage : RenameStage) → walks_or_ends stage ≡ true → (at : ℕ) → IsRename x stage → BlamesNext p lines (next_at at stage x)
  blames_walks Finding w at sound = walk_blames p lines x.first sound.sound
  blames_walks Walking w at sound = walk_blames p lines x.second sound.sound.0
  blames_walks (Ending said) w at sound = tt
  blames_walks stage w at sound = absurd (cc w)

  -- and its reply is that to which its lines have led
  pub ends_walks : (stage : RenameStage) → walks_or_ends stage ≡ true → (at : ℕ) (said : Reply) → TellsIn p stage x lines → next_at at stage x ≡ next.End said → IsRenamed p x.first.path (to_of x) lines said
  ends_walks Finding w at said t e = absurd (cc e)
  ends_walks Walking w at said t e = absurd (cc e)
  ends_walks (Ending here) w at said t e = let same : here ≡ said = cc e in subst (λ (y : Reply). IsRenamed p x.first.path (to_of x) lines y) same t
  ends_walks stage w at said t e = absurd (cc w)
