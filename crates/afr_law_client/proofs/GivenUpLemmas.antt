-- The lines of a transaction that was given up, from there to its last unlock.
use Rattle.std.proofs.Common.{◌≡◌, ℕ, ◌<◌, ◌==◌, Bool, true, false, List, ◌∷◌, None, Some, length, refl, sym, ◌∙◌, subst, if◌then◌else◌}
use Rattle.afr_base.specs.Bricks.{is_nothing, lowest, member, IsIn}
use Rattle.afr_base.specs.declared.ids.ActorId.{ActorId}
use Rattle.afr_base.specs.declared.ids.Gfid.{Gfid}
use Rattle.afr_object.specs.Tables.{object_of}
use Rattle.afr_object.specs.declared.change.Change.{Change}
use Rattle.afr_lines.specs.Areas.{area_for, kind_for}
use Rattle.afr_lines.specs.Overlap.{same_area}
use Rattle.afr_lines.specs.Work.{Work}
use Rattle.afr_lines.specs.declared.answer.Told.{Told}
use Rattle.afr_lines.specs.declared.line.Line.{Line}
use Rattle.afr_lines.specs.declared.line.Line.TheVariants.{Ask}
use Rattle.afr_lines.specs.declared.line.Next.TheVariants as next
use Rattle.afr_lines.specs.declared.request.Area.{Area}
use Rattle.afr_discipline.specs.declared.register.Register.{Register}
use Rattle.afr_plan.specs.declared.command.Command.{Command}
use Rattle.afr_plan.specs.declared.plan.Plan.{Plan}
use Rattle.afr_client_transaction.specs.Outcome.{reply_of}
use Rattle.afr_client_transaction.specs.Progress.{TransactionProgress, answered_by, asks, fed, is_beginning, left, next_at, on_stage, request_at}
use Rattle.afr_client_transaction.specs.Sound.{Sound}
use Rattle.afr_client_transaction.specs.declared.stage.Stage.{Stage}
use Rattle.afr_client_transaction.specs.declared.stage.Stage.TheVariants.{Beginning, Closing}
use Rattle.afr_client_transaction.proofs.ReadLemmas.{kept_given_up}
use Rattle.afr_client_transaction.proofs.Requests.{noted_is}
use Rattle.afr_model.specs.Answered.{IsAbout}
use Rattle.afr_model.specs.Commands.{is_rmdir}
use Rattle.afr_model.specs.Refusals.{by_locks}
use Rattle.afr_model.specs.Showing.{among, has, locks, looking, looks_at}
use Rattle.afr_model.specs.Skipped.{IsLocked, SkipsNothing}
use Rattle.afr_model.specs.Standing.{change_by, getting, locks_area}
use Rattle.afr_law_client.specs.GivenUp.{GaveUp, GivenUpAbout, GivenUpEnds, GivenUpKept, GivesUp}
use Rattle.afr_law_client.specs.Laws.{IsNextLine}
use Rattle.afr_law_client.specs.Tells.{During, Tells}
use Rattle.afr_law_client.proofs.Leaves.{LeavesAll, unlock_leaves}
use Rattle.afr_law_client.proofs.Small.{no_change, object_named, same_gfid}
use Rattle.afr_model_moves.proofs.AreaLemmas.{same_area_is}

-- ---- it is given up
pub gives_up : GivesUp
gives_up p w m at s t = (
  kept_given_up m s (subst (λ (stage : Stage). is_beginning stage ≡ true) (sym at) refl),
  record { closing = refl; before = record { shape_is = t.shape_is; sets = t.sets; alone = t.alone; during = subst (λ (stage : Stage). During stage p.shape m w) at t.during } },
)

-- ---- its unlocks
module _ (p : Plan) (w : Work) (m : TransactionProgress) (a : ActorId) (told : Told) (older : List Line) (s : Sound m) (k : GaveUp p w m) where
  abbrev brick : ℕ
  brick = lowest (left Closing m)

  abbrev x : TransactionProgress
  x = answered_by Closing brick told (length older) m

  abbrev more : Bool → Work
  more took = (Ask a (record { 0 = brick }) (request_at Closing m) told took, older) ∷ w

  leaves : LeavesAll x.register m.register
  leaves = subst (λ (q : Register). LeavesAll q m.register) (sym (noted_is m.register (length older) brick (request_at Closing m) told s.base.outside)) (unlock_leaves m.register brick (area_for m.change) told)

  d : During Beginning p.shape m w
  d = k.before.during

  tells : (took : Bool) → Tells p (more took) (on_stage Beginning x)
  tells took = record {
    shape_is = leaves.shape_is ∙ k.before.shape_is;
    sets = record {
      asked = k.before.sets.asked;
      granted = k.before.sets.granted;
      prepared = leaves.pre_is ∙ k.before.sets.prepared;
      applied = leaves.done_is ∙ k.before.sets.applied;
      posted = leaves.post_is ∙ k.before.sets.posted;
      number = leaves.begun_is ∙ k.before.sets.number;
    };
    alone = record { unlocked = k.before.alone.unlocked; looked = k.before.alone.looked };
    during = record { idle = d.idle; allows = d.allows; looks = record { shows = leaves.looked_is ∙ d.looks.shows; at = d.looks.at } };
  }

  after_unlock : (took : Bool) → GaveUp p (more took) (fed Closing told (length older) m)
  after_unlock took = go (is_nothing (left Closing x))
    where
      go : (e : Bool) → GaveUp p (more took) (on_stage (if e then Closing else Closing) x)
      go true = record { closing = refl; before = tells took }
      go false = record { closing = refl; before = tells took }

  by_held : (line : Line) (e : Bool) → IsNextLine a (if e then next.End (reply_of m.change m.register) else asks Closing m) told line → GaveUp p ((line, older) ∷ w) (fed Closing told (length older) m)
  by_held line true is = absurd is
  by_held line false is = subst (λ (line : Line). GaveUp p ((line, older) ∷ w) (fed Closing told (length older) m)) (sym is.1) (after_unlock is.0)

  pub kept_on : (stage : Stage) → stage ≡ Closing → (line : Line) → IsNextLine a (next_at stage (length older) m) told line → GaveUp p ((line, older) ∷ w) (fed stage told (length older) m)
  kept_on Closing e line is = by_held line (is_nothing m.register.held) is
  kept_on stage e line is = absurd (cc e)

pub given_up_kept : GivenUpKept
given_up_kept p w m a told line older s k is = kept_on p w m a told older s k m.stage k.closing line is

pub given_up_about : GivenUpAbout
given_up_about p c w m a told line older k is = go m.stage k.closing is
  where
    by_held : (e : Bool) → IsNextLine a (if e then next.End (reply_of m.change m.register) else asks Closing m) told line → IsAbout p c line w
    by_held true is = absurd is
    by_held false is = subst (λ (line : Line). IsAbout p c line w) (sym is.1) tt

    go : (stage : Stage) → stage ≡ Closing → IsNextLine a (next_at stage (length older) m) told line → IsAbout p c line w
    go Closing e is = by_held (is_nothing m.register.held) is
    go stage e is = absurd (cc e)

-- ---- its end
module _ (p : Plan) (w : Work) (m : TransactionProgress) (t : Tells p w (on_stage Beginning m)) where
  -- what the locks and looks allow, nothing of theirs refuses
  passes : by_locks p.shape (kind_for m.change) (area_for m.change) w ≡ None
  passes = let k = t.during.allows in rw (object_named m.change, k.majority, k.quorum.reached, k.quorum.copies, k.quorum.clean) refl

  locked_is : (area : Area) → has (locks_area area) w ≡ true → (f : Bool) → same_area area (area_for m.change) ≡ f → IsLocked p.shape.n w area
  locked_is area asked false e = let free = t.alone.unlocked area e in absurd (cc (asked, free))
  locked_is area asked true e = subst (λ (area : Area). IsLocked p.shape.n w area) (sym (same_area_is area (area_for m.change) e)) (record {
    all = t.during.allows.locked.all;
    looked = λ most. subst (λ (h : Gfid). IsIn (among (getting (area_for m.change)) w) (among (looking h) w)) (sym (object_named m.change)) t.during.allows.looked_all;
  })

  looked_is : (h : Gfid) → has (looks_at h) w ≡ true → has (locks h) w ≡ false → (f : Bool) → ((object_of m.change).0 == h.0) ≡ f → (b : ℕ) → b < p.shape.n → member (among (looking h) w) b ≡ true
  looked_is h seen free true e b l =
      let here : has (locks h) w ≡ true = subst (λ (h : Gfid). has (locks h) w ≡ true) (same_gfid (object_of m.change) h e) t.during.allows.locked.locked in
      absurd (cc (here, free))
  looked_is h seen free false e b l = t.alone.looked h e seen b l

  unbegun : {A : Type 0} → (change : Change) → change_by w ≡ Some change → A
  unbegun change is = let no = no_change w t.during.idle.unbegun in absurd (cc (no, is))

  skips : (c : Command) → is_rmdir c ≡ false → SkipsNothing p c w
  skips c plain = record {
    looked = λ h seen free. looked_is h seen free ((object_of m.change).0 == h.0) refl;
    locked = λ area whole asked. locked_is area asked (same_area area (area_for m.change)) refl;
    child = λ rmdir. absurd (cc (rmdir, plain));
    carried = λ change is. unbegun change is;
  }

pub given_up_ends : GivenUpEnds
given_up_ends p w m k = record { unbegun = k.before.during.idle.unbegun; passes = passes p w m k.before; skips = skips p w m k.before }
