-- A removal lists its directory at a copy that the rule picked by the last looks at it.
use Rattle.std.proofs.Common.{◌≡◌, ℕ, Bool, true, false, List, [], ◌∷◌, Option, refl, subst, if◌then◌else◌}
use Rattle.afr_base.specs.Bricks.{is_nothing}
use Rattle.afr_base.specs.Majority.{is_majority}
use Rattle.afr_base.specs.declared.ids.ActorId.{ActorId}
use Rattle.afr_base.specs.declared.ids.BrickId.{BrickId}
use Rattle.afr_base.specs.declared.ids.Gfid.{Gfid}
use Rattle.afr_base.specs.declared.ids.Kind.TheVariants.{Names}
use Rattle.afr_base.specs.declared.ids.NameId.{NameId}
use Rattle.afr_base.specs.declared.ids.Shape.{Shape}
use Rattle.afr_base.specs.SetLemmas.{some_member}
use Rattle.afr_choice.specs.Verdict.{good_copies}
use Rattle.afr_choice.specs.declared.looked.Looked.{Looked}
use Rattle.afr_discipline.specs.declared.register.Register.{Register}
use Rattle.afr_lines.specs.Told.{told_by}
use Rattle.afr_lines.specs.Work.{Work, work}
use Rattle.afr_lines.specs.declared.answer.Answer.{Answer}
use Rattle.afr_lines.specs.declared.answer.Answer.TheVariants as answer
use Rattle.afr_lines.specs.declared.answer.Told.{Told}
use Rattle.afr_lines.specs.declared.line.Line.{Line}
use Rattle.afr_lines.specs.declared.line.Line.TheVariants.{Ask, Begin}
use Rattle.afr_lines.specs.declared.line.Next.TheVariants as next
use Rattle.afr_lines.specs.declared.reply.Reply.{Reply}
use Rattle.afr_lines.specs.declared.reply.Reply.TheVariants as reply
use Rattle.afr_lines.specs.declared.reply.Good.TheVariants as good
use Rattle.afr_lines.specs.declared.request.Request.{Request}
use Rattle.afr_model.specs.Chosen as model
use Rattle.afr_model.specs.Chosen.{Picks, ReadsPicked}
use Rattle.afr_object.specs.declared.change.Change.{Change}
use Rattle.afr_plan.specs.declared.plan.Plan.{Plan}
use Rattle.afr_law_picks.proofs.Asks.{ask_same, end_same}
use Rattle.afr_law_picks.proofs.Rule.{Picked, one_picked}
use Rattle.afr_law_picks.specs.Picked.{PickedAt, PickedEnd}
use Rattle.afr_client_entry.specs.Removals.Removal.{Removing, after, answered, asks, begun, brick_at, choices_at, has_takers, is_beginning, is_over, left, listed, next_at, offered, register_after, reply_of, removing, sets_after, starting}
use Rattle.afr_client_entry.specs.Removals.Sound.{Sound}
use Rattle.afr_client_entry.specs.Removals.Sound as sound_of
use Rattle.afr_client_entry.specs.declared.removing.stage.RemovalEnding.{RemovalEnding}
use Rattle.afr_client_entry.specs.declared.removing.stage.RemovalEnding.TheVariants as ending
use Rattle.afr_client_entry.specs.declared.removing.stage.RemovalStage.{RemovalStage}
use Rattle.afr_client_entry.specs.declared.removing.stage.RemovalStage.TheVariants.{Applying, Beginning, Closing, Listing, Locking, Looking, Posting, Preparing}
use Rattle.afr_law_client.specs.Removal.RemovalTelling.{During, RemovalTells}
use Rattle.afr_client_transaction.specs.Progress.{may_start}
use Rattle.afr_client_walk.specs.Choosing.{reader_of}

module _ (picks : Picks) (p : Plan) where
  -- ---- where it comes to
  -- the locks lead to no list
  pub after_locks : (x z : Removing) (lines : Work) → PickedAt picks p (after Locking x) z lines
  after_locks x z lines = go (is_nothing (left Locking x)) (has_takers x.register)
    where
      go : (over has : Bool) → PickedAt picks p (if over then (if has then Looking else Closing ending.NoQuorum) else Locking) z lines
      go true true = tt
      go true false = tt
      go false has = tt

  -- a removal that begins
  pub removal_begins : (change : Change) (r : Register) (child : Gfid) (lines : Work) → PickedAt picks p (removing change r child).stage (removing change r child) lines
  removal_begins change r child lines = after_locks (starting change r child) (removing change r child) lines

  -- a phase leads to no list
  after_phase : (over has : Bool) (stage then_on : RemovalStage) (z : Removing) (lines : Work) → PickedAt picks p stage z lines → PickedAt picks p then_on z lines
      → PickedAt picks p (if over then (if has then then_on else Closing ending.Counted) else stage) z lines
  after_phase true true stage then_on z lines k l = l
  after_phase true false stage then_on z lines k l = tt
  after_phase false has stage then_on z lines k l = k

  after_list : (a : Answer) (change : Change) (r : Register) (z : Removing) (lines : Work) → PickedAt picks p (listed a change r) z lines
  after_list (answer.Names []) change r z lines = go (may_start r change)
    where
      go : (e : Bool) → PickedAt picks p (if e then Beginning else Closing ending.Failed) z lines
      go true = tt
      go false = tt
  after_list (answer.Names (x ∷ names)) change r z lines = tt
  after_list a change r z lines = tt

  -- the looks do, where the rule was asked
  after_looks : (stage : RemovalStage) (path : List NameId) (shape : Shape) (looked : Looked) (picked : Option BrickId) (z : Removing) (lines : Work) → shape ≡ z.register.shape → looked ≡ z.child.looked → (reader_of picked).0 ≡ z.child.reader.0
      → Picked picks (offered stage shape looked) picked → During stage p path z lines → sound_of.During stage z → PickedAt picks p stage z lines
  after_looks Listing path shape looked picked z lines same_shape same_looks same_reader k tells sound =
      let k2 : Picked picks (offered Listing z.register.shape z.child.looked) picked =
      subst (λ (l : Looked). Picked picks (offered Listing z.register.shape l) picked) same_looks (subst (λ (s : Shape). Picked picks (offered Listing s looked) picked) same_shape k)
      in
      let some = some_member (good_copies z.register.shape z.child.looked Names) z.child.reader.0 sound.2 in
      let b : picks (model.candidates_of z.register.shape Names z.child.looked) z.child.reader.0 =
      subst (λ (x : ℕ). picks (model.candidates_of z.register.shape Names z.child.looked) x) same_reader (one_picked picks z.register.shape z.child.looked Names picked some k2)
      in
      subst (λ (l : Looked). picks (model.candidates_of p.shape Names l) z.child.reader.0) tells.2.shows (subst (λ (s : Shape). picks (model.candidates_of s Names z.child.looked) z.child.reader.0) tells.0.shape b)
  after_looks Locking path shape looked picked z lines e f g k tells sound = tt
  after_looks Looking path shape looked picked z lines e f g k tells sound = tt
  after_looks Beginning path shape looked picked z lines e f g k tells sound = tt
  after_looks Preparing path shape looked picked z lines e f g k tells sound = tt
  after_looks Applying path shape looked picked z lines e f g k tells sound = tt
  after_looks Posting path shape looked picked z lines e f g k tells sound = tt
  after_looks (Closing why) path shape looked picked z lines e f g k tells sound = tt

  -- ---- a line of a removal
  module _ (path : List NameId) (m : Removing) (b : BrickId) (request : Request) (picked : Option BrickId) (heard : Answer) (at : ℕ) (more : Work) where
    abbrev chosen : BrickId
    chosen = reader_of picked

    abbrev now : RemovalStage → Removing
    now stage = if is_beginning stage then m else answered chosen stage heard at m

    pub removal_picked : next_at m.stage m ≡ next.Ask b request → Picked picks (if is_beginning m.stage then [] else choices_at m.stage heard at m) picked → RemovalTells p path (now m.stage) more → Sound (now m.stage)
        → PickedAt picks p (now m.stage).stage (now m.stage) more
    removal_picked e k tells sound = by m.stage e k tells sound.during
      where
        by : (stage : RemovalStage) → next_at stage m ≡ next.Ask b request → Picked picks (if is_beginning stage then [] else choices_at stage heard at m) picked → RemovalTells p path (now stage) more → sound_of.During (now stage).stage (now stage)
            → PickedAt picks p (now stage).stage (now stage) more
        by Locking e k tells sound = after_locks (sets_after Locking (brick_at Locking m) (told_by heard) (register_after Locking heard at m) m) (now Locking) more
        by Looking e k tells sound = after_looks (now Looking).stage path (now Looking).register.shape (now Looking).child.looked picked (now Looking) more refl refl refl k tells sound
        by Listing e k tells sound = after_list heard m.change (register_after Listing heard at m) (now Listing) more
        by Beginning e k tells sound = absurd (cc e)
        by Preparing e k tells sound = after_phase _ _ Preparing Applying (now Preparing) more tt tt
        by Applying e k tells sound = after_phase _ _ Applying Posting (now Applying) more tt tt
        by Posting e k tells sound = after_phase _ true Posting (Closing ending.Counted) (now Posting) more tt tt
        by (Closing why) e k tells sound = after_phase _ true (Closing why) (Closing why) (now (Closing why)) more tt tt

  at_begun : (stage : RemovalStage) (m : Removing) (lines : Work) (a : ActorId) (change : Change) (log : List Line) → PickedAt picks p stage m lines → PickedAt picks p stage m ((Begin a change, log) ∷ lines)
  at_begun Listing m lines a change log was = was
  at_begun stage m lines a change log was = tt

  pub removal_begun : (m : Removing) (lines : Work) (a : ActorId) (change : Change) (log : List Line) (at : ℕ) → PickedAt picks p m.stage m lines
      → PickedAt picks p (if is_beginning m.stage then begun at m else m).stage (if is_beginning m.stage then begun at m else m) ((Begin a change, log) ∷ lines)
  removal_begun m lines a change log at was = go (is_beginning m.stage)
    where
      go : (e : Bool) → PickedAt picks p (if e then begun at m else m).stage (if e then begun at m else m) ((Begin a change, log) ∷ lines)
      go true = tt
      go false = at_begun m.stage m lines a change log was

  -- ---- whom it asks, and what it ends with
  pub removal_reads : (m : Removing) (a : ActorId) (b : BrickId) (request : Request) (told : Told) (took : Bool) (log : List Line) → next_at m.stage m ≡ next.Ask b request → PickedAt picks p m.stage m (work a.0 log)
      → ReadsPicked picks p (Ask a b request told took) log
  removal_reads m a b request told took log e was = by m.stage e was
    where
      by : (stage : RemovalStage) → next_at stage m ≡ next.Ask b request → PickedAt picks p stage m (work a.0 log) → ReadsPicked picks p (Ask a b request told took) log
      by Locking e was = ask_same (λ x r. ReadsPicked picks p (Ask a x r told took) log) _ b _ request e tt
      by Looking e was = ask_same (λ x r. ReadsPicked picks p (Ask a x r told took) log) _ b _ request e tt
      by Listing e was = ask_same (λ x r. ReadsPicked picks p (Ask a x r told took) log) _ b _ request e (λ client. was)
      by Beginning e was = absurd (cc e)
      by Preparing e was = ask_same (λ x r. ReadsPicked picks p (Ask a x r told took) log) _ b _ request e tt
      by Applying e was = ask_same (λ x r. ReadsPicked picks p (Ask a x r told took) log) _ b _ request e tt
      by Posting e was = ask_same (λ x r. ReadsPicked picks p (Ask a x r told took) log) _ b _ request e tt
      by (Closing why) e was = go (is_over (Closing why) m) e
        where
          go : (over : Bool) → (if over then next.End (reply_of why m.register) else asks (Closing why) m) ≡ next.Ask b request → ReadsPicked picks p (Ask a b request told took) log
          go true e = absurd (cc e)
          go false e = ask_same (λ x r. ReadsPicked picks p (Ask a x r told took) log) _ b _ request e tt

  reply_ends : (why : RemovalEnding) (r : Register) (lines : Work) → PickedEnd picks p (reply_of why r) lines
  reply_ends ending.Counted r lines = go (is_majority r.shape.n r.post)
    where
      go : (e : Bool) → PickedEnd picks p (if e then reply.Ok good.Done else reply.Failed) lines
      go true = tt
      go false = tt
  reply_ends ending.NoQuorum r lines = tt
  reply_ends ending.FewCopies r lines = tt
  reply_ends (ending.SplitBrain views) r lines = tt
  reply_ends ending.NotEmpty r lines = tt
  reply_ends ending.Failed r lines = tt

  pub removal_ends : (m : Removing) (lines : Work) (said : Reply) → next_at m.stage m ≡ next.End said → PickedEnd picks p said lines
  removal_ends m lines said e = by m.stage e
    where
      by : (stage : RemovalStage) → next_at stage m ≡ next.End said → PickedEnd picks p said lines
      by Locking e = absurd (cc e)
      by Looking e = absurd (cc e)
      by Listing e = absurd (cc e)
      by Beginning e = absurd (cc e)
      by Preparing e = absurd (cc e)
      by Applying e = absurd (cc e)
      by Posting e = absurd (cc e)
      by (Closing why) e = go (is_over (Closing why) m) e
        where
          go : (over : Bool) → (if over then next.End (reply_of why m.register) else asks (Closing why) m) ≡ next.End said → PickedEnd picks p said lines
          go true e = end_same (λ x. PickedEnd picks p x lines) (reply_of why m.register) said e (reply_ends why m.register lines)
          go false e = absurd (cc e)
