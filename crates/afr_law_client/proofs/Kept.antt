-- The next line of a transaction keeps what its lines show.
use Rattle.std.proofs.Common.{◌≡◌, Bool, true, false, List, ◌∷◌, length, refl, sym, subst, if◌then◌else◌}
use Rattle.afr_base.specs.Bricks.{is_nothing}
use Rattle.afr_base.specs.declared.ids.ActorId.{ActorId}
use Rattle.afr_lines.specs.Work.{Work}
use Rattle.afr_lines.specs.declared.answer.Told.{Told}
use Rattle.afr_lines.specs.declared.line.Line.{Line}
use Rattle.afr_lines.specs.declared.line.Next.TheVariants as next
use Rattle.afr_client_transaction.specs.Outcome.{reply_of}
use Rattle.afr_client_transaction.specs.Progress.{TransactionProgress, asks, fed, next_at}
use Rattle.afr_client_transaction.specs.Sound as sound
use Rattle.afr_client_transaction.specs.Sound.{Posted, Ready, Sound}
use Rattle.afr_client_transaction.specs.declared.stage.Stage.{Stage}
use Rattle.afr_client_transaction.specs.declared.stage.Stage.TheVariants.{Locking, Looking, Beginning, Preparing, Applying, Posting, Closing}
use Rattle.afr_plan.specs.declared.plan.Plan.{Plan}
use Rattle.afr_law_client.specs.Laws.{IsNextLine, TellsKept}
use Rattle.afr_law_client.specs.Tells.{During, Tells}
use Rattle.afr_law_client.proofs.Answered.{told_lock, told_look, told_begin, told_pre, told_apply, told_post, told_unlock}

module _ (p : Plan) (w : Work) (m : TransactionProgress) (a : ActorId) (told : Told) (older : List Line) (s : Sound m) (t : Tells p w m) where
  -- the lines show the transaction after this one
  abbrev After : Stage → Line → Type 0
  After stage line = Tells p ((line, older) ∷ w) (fed stage told (length older) m)

  unlocks : (line : Line) → During Closing p.shape m w → Posted Closing m → (e : Bool) → is_nothing m.register.held ≡ e
      → IsNextLine a (if e then next.End (reply_of m.change m.register) else asks Closing m) told line → After Closing line
  unlocks line d q true e is = absurd is
  unlocks line d q false e is = subst (After Closing) (sym is.1) (told_unlock p w m a told is.0 older s t d tt q e)

  by : (stage : Stage) (line : Line) → During stage p.shape m w → sound.During stage m → Posted stage m → Ready stage m → IsNextLine a (next_at stage (length older) m) told line → After stage line
  by Locking line d k q e is = subst (After Locking) (sym is.1) (told_lock p w m a told is.0 older s t d k q e)
  by Looking line d k q e is = subst (After Looking) (sym is.1) (told_look p w m a told is.0 older s t d k q e)
  by Beginning line d k q e is = subst (After Beginning) (sym is) (told_begin p w m a told true older s t d)
  by Preparing line d k q e is = subst (After Preparing) (sym is.1) (told_pre p w m a told is.0 older s t d k q e)
  by Applying line d k q e is = subst (After Applying) (sym is.1) (told_apply p w m a told is.0 older s t d k q e)
  by Posting line d k q e is = subst (After Posting) (sym is.1) (told_post p w m a told is.0 older s t d k q e)
  by Closing line d k q e is = unlocks line d q (is_nothing m.register.held) refl is

pub tells_kept : TellsKept
tells_kept p w m a told line older s t is = by p w m a told older s t m.stage line t.during s.during s.posted s.ready is
