-- A transaction that is acknowledged has asked for an unlock: until then each brick that did post-op has its lock held.
use Rattle.std.proofs.Common.{◌≡◌, ℕ, ◌||◌, Bool, true, false, List, [], ◌∷◌, None, length, refl, sym, ap, ◌∙◌, subst, Option, if◌then◌else◌}
use Rattle.std.proofs.lemmas.Bool.{or_right}
use Rattle.afr_base.specs.Bricks.{IsIn, added, added_if, below, is_nothing, lowest, member, minus}
use Rattle.afr_base.specs.Majority.{is_majority}
use Rattle.afr_base.specs.SetLemmas.{lowest_in, lowest_left, majority_some, within_below}
use Rattle.afr_base.specs.declared.ids.ActorId.{ActorId}
use Rattle.afr_base.specs.declared.ids.Gfid.{Gfid}
use Rattle.afr_base.specs.declared.ids.Kind.{Kind}
use Rattle.afr_object.specs.Tables.{object_of}
use Rattle.afr_choice.specs.Looks.{no_looks}
use Rattle.afr_choice.specs.Verdict.{holders_of}
use Rattle.afr_choice.specs.declared.looked.Looked.{Looked}
use Rattle.afr_lines.specs.Areas.{area_for, kind_for}
use Rattle.afr_lines.specs.Work.{Work}
use Rattle.afr_lines.specs.declared.answer.Told.{Told}
use Rattle.afr_lines.specs.declared.answer.Told.TheVariants as as_told
use Rattle.afr_lines.specs.declared.line.Line.{Line}
use Rattle.afr_lines.specs.declared.line.Line.TheVariants.{Ask}
use Rattle.afr_lines.specs.declared.line.Next.TheVariants as next
use Rattle.afr_lines.specs.declared.request.Area.{Area}
use Rattle.afr_lines.specs.declared.request.Request.{Request}
use Rattle.afr_lines.specs.declared.request.Request.TheVariants as request
use Rattle.afr_model_moves.specs.Note.{answers, is_done, view_of}
use Rattle.afr_model_moves.specs.Past.{is_gone}
use Rattle.afr_model_moves.specs.Register.{is_on}
use Rattle.afr_discipline.specs.Notes.{asked_at, noted_ask, shown, stayed}
use Rattle.afr_discipline.specs.declared.register.Register.{Register}
use Rattle.afr_discipline.specs.declared.register.Step.TheVariants as step
use Rattle.afr_plan.specs.declared.plan.Plan.{Plan}
use Rattle.afr_model.specs.Parts.{first_part, is_again, unlocks_any}
use Rattle.afr_model.specs.Showing.{has}
use Rattle.afr_client_transaction.specs.Between.{is_read, noted_read}
use Rattle.afr_client_transaction.specs.Outcome.{reply_of}
use Rattle.afr_client_transaction.specs.Progress.{TransactionProgress, after, answered, answered_by, asks, begun, enough, fed, gone_on, is_over, left, may_start, next_at, number_in, on_stage, request_at}
use Rattle.afr_client_transaction.specs.Sound as sound
use Rattle.afr_client_transaction.specs.Sound.{IsAsking, Posted, Ready, Sound}
use Rattle.afr_client_transaction.specs.declared.stage.Stage.{Stage}
use Rattle.afr_client_transaction.specs.declared.stage.Stage.TheVariants.{Locking, Looking, Beginning, Preparing, Applying, Posting, Closing}
use Rattle.afr_client_transaction.proofs.Acknowledged.{acknowledged_exactly}
use Rattle.afr_client_transaction.proofs.Requests.{after_by, after_outside, lock_kept, noted_is}
use Rattle.afr_law_client.specs.Laws.{IsNextLine}
use Rattle.afr_law_client.specs.Tells.{During, Tells}
use Rattle.afr_law_client.proofs.Leaves.{Leaves, apply_asks, apply_leaves, lock_leaves, look_counts, look_leaves, post_asks, post_leaves, pre_asks, pre_leaves}
use Rattle.afr_law_client.proofs.Small.{no_number, number_named, self}
use Rattle.afr_law_client.specs.Second.Held.{AcknowledgedUnlocks, AreHeld, HeldFirst, HeldGivenUp, HeldKept, HeldRead, HeldUnlocked, Holds, HoldsIn, PartUnlocks}
use Rattle.afr_law_client.proofs.Second.HeldSets.{asked_more, done_one, held_after, looked_one, moved, next_phase}
use Rattle.afr_law_client.proofs.Rename.Cut.{has_after}

-- ---- what an answer leaves of the locks that are held
module _ (r : Register) (b : ℕ) where
  look_held : (g : Gfid) (told : Told) → (after_outside r b (request.Look g) told).held ≡ held_after (is_gone told) b r.held
  look_held g as_told.NotConnected = refl
  look_held g told = refl

  pre_held : (g : Gfid) (kind : Kind) (told : Told) → (after_outside r b (request.Pre g kind) told).held ≡ held_after (is_gone told) b r.held
  pre_held g kind as_told.NotConnected = refl
  pre_held g kind told = refl

  apply_held : (q : ℕ) (told : Told) → (after_outside r b (request.Apply q) told).held ≡ held_after (is_gone told) b r.held
  apply_held q as_told.NotConnected = refl
  apply_held q told = refl

  post_held : (q : ℕ) (g : Gfid) (kind : Kind) (missed : List ℕ) (told : Told) → (after_outside r b (request.Post q g kind missed) told).held ≡ held_after (is_gone told) b r.held
  post_held q g kind missed as_told.NotConnected = refl
  post_held q g kind missed told = refl

-- who carried it out, or answered the look, is there
done_there : (told : Told) → is_done told ≡ true → is_gone told ≡ false
done_there as_told.NotConnected e = absurd (cc e)
done_there told e = refl

answers_there : (told : Told) → answers told ≡ true → is_gone told ≡ false
answers_there as_told.NotConnected e = absurd (cc e)
answers_there told e = refl

-- ---- one line more
module _ (p : Plan) (w : Work) (m : TransactionProgress) (a : ActorId) (told : Told) (older : List Line) (s : Sound m) (t : Tells p w m) where
  abbrev r : Register
  r = m.register

  abbrev brick : Stage → ℕ
  brick stage = lowest (left stage m)

  abbrev noted_at : Stage → Register
  noted_at stage = noted_ask r (length older) (brick stage) (request_at stage m) told

  abbrev told_at : Stage → TransactionProgress
  told_at stage = answered_by stage (brick stage) told (length older) m

  -- what it has come to, on these lines
  abbrev After : Stage → Work → Type 0
  After stage more = HoldsIn (after stage (told_at stage)) (on_stage (after stage (told_at stage)) (told_at stage)) more

  noted_same : (stage : Stage) → after_outside r (brick stage) (request_at stage m) told ≡ noted_at stage
  noted_same stage = sym (noted_is r (length older) (brick stage) (request_at stage m) told s.base.outside)

  -- nobody did post-op, so no lock is asked for
  nobody_posted : (post held : List ℕ) → post ≡ [] → IsIn post held
  nobody_posted post held e c h = let none : member [] c ≡ true = rw e at h in absurd (cc none)

  -- ---- a lock
  module _ (more : Work) (d : During Locking p.shape m w) (k : sound.During Locking m) (e : IsAsking Locking m) where
    lock_left : Leaves (noted_at Locking) r.shape no_looks None [] [] []
    lock_left =
        subst (λ (y : Register). Leaves y r.shape no_looks None [] [] []) (noted_same Locking)
        (lock_leaves r (brick Locking) (area_for m.change) d.shows k.0.first (t.sets.prepared ∙ d.idle.no_pre_did) (t.sets.applied ∙ d.idle.no_apply_did) (t.sets.posted ∙ d.idle.no_post_did) told)

    granted_held : (c : ℕ) → member (told_at Locking).asked.locked_on c ≡ true → member (noted_at Locking).held c ≡ true
    granted_held c h =
        let new = lowest_left (below r.shape.n) m.asked.lock_asked e in
        subst (λ (y : Register). member y.held c ≡ true) (noted_same Locking)
        ((lock_kept m.change r (brick Locking) m.asked.lock_asked m.asked.locked_on (within_below r.shape.n _ new.1) new.0 s.base k.0 told).locks.same c ∙ h)

    pub after_lock : After Locking more
    after_lock = go (is_nothing (left Locking (told_at Locking)))
      where
        majority : (f : Bool) → HoldsIn (if f then Looking else Closing) (on_stage (if f then Looking else Closing) (told_at Locking)) more
        majority true =
            subst (λ (looked : Looked). AreHeld (minus (told_at Locking).asked.locked_on (told_at Locking).asked.looked_at) (holders_of looked) (noted_at Locking).held) (sym lock_left.looked_is)
            (next_phase (told_at Locking).asked.locked_on (told_at Locking).asked.looked_at [] (noted_at Locking).held granted_held refl)
        majority false = λ none. nobody_posted (noted_at Locking).post (noted_at Locking).held lock_left.post_is

        go : (e : Bool) → HoldsIn (if e then gone_on Locking m.change (noted_at Locking) (told_at Locking).asked else Locking) (on_stage (if e then gone_on Locking m.change (noted_at Locking) (told_at Locking).asked else Locking) (told_at Locking)) more
        go true = majority (is_majority (noted_at Locking).shape.n (told_at Locking).asked.locked_on)
        go false = tt

  -- ---- a look
  module _ (more : Work) (d : During Looking p.shape m w) (k : sound.During Looking m) (q : Posted Looking m) (e : IsAsking Looking m) (h : HoldsIn Looking m w) where
    look_left : Leaves (noted_at Looking) r.shape (shown r.looked (brick Looking) told) r.begun r.pre r.done r.post
    look_left =
        subst (λ (y : Register). Leaves y r.shape (shown r.looked (brick Looking) told) r.begun r.pre r.done r.post) (noted_same Looking)
        (look_leaves r (brick Looking) (object_of m.change) told
        (look_counts r (brick Looking) (object_of m.change) (t.sets.number ∙ no_number w d.idle.unbegun) (h.left_held (brick Looking) (lowest_in (left Looking m) e))
        (subst (λ (o : Option Area). is_on o (object_of m.change).0 ≡ true) (sym k.named) (rw (number_named m.change) (self (object_of m.change).0)))))

    look_more : AreHeld (left Looking (told_at Looking)) (holders_of (noted_at Looking).looked) (noted_at Looking).held
    look_more =
        subst (λ (held : List ℕ). AreHeld (left Looking (told_at Looking)) (holders_of (noted_at Looking).looked) held) (sym (subst (λ (y : Register). y.held ≡ held_after (is_gone told) (brick Looking) r.held) (noted_same Looking) (look_held r (brick Looking) (object_of m.change) told)))
        (subst (λ (looked : Looked). AreHeld (left Looking (told_at Looking)) (holders_of looked) (held_after (is_gone told) (brick Looking) r.held)) (sym look_left.looked_is)
        (asked_more (is_gone told) m.asked.locked_on m.asked.looked_at (holders_of r.looked) (holders_of (shown r.looked (brick Looking) told)) r.held (brick Looking) h (lowest_in (left Looking m) e)
        (looked_one (answers told) (is_gone told) (brick Looking) (view_of told) r.looked (answers_there told))))

    pub after_look : After Looking more
    after_look = go (is_nothing (left Looking (told_at Looking)))
      where
        start : (f : Bool) → HoldsIn (if f then Beginning else Closing) (on_stage (if f then Beginning else Closing) (told_at Looking)) more
        start true = record { left_held = λ c n. absurd (cc n); undone = λ c n. absurd (cc n); did_held = look_more.did_held }
        start false = λ none. nobody_posted (noted_at Looking).post (noted_at Looking).held (look_left.post_is ∙ q)

        go : (e : Bool) → HoldsIn (if e then gone_on Looking m.change (noted_at Looking) (told_at Looking).asked else Looking) (on_stage (if e then gone_on Looking m.change (noted_at Looking) (told_at Looking).asked else Looking) (told_at Looking)) more
        go true = start (may_start (noted_at Looking) m.change)
        go false = look_more

  -- ---- the phases
  module _ (more : Work) (d : During Preparing p.shape m w) (e : IsAsking Preparing m) (h : HoldsIn Preparing m w) where
    pre_left : Leaves (noted_at Preparing) r.shape r.looked r.begun (added_if (is_done told) (brick Preparing) r.pre) r.done r.post
    pre_left = subst (λ (y : Register). Leaves y r.shape r.looked r.begun (added_if (is_done told) (brick Preparing) r.pre) r.done r.post) (noted_same Preparing) (pre_leaves r (brick Preparing) (object_of m.change) (kind_for m.change) told)

    pre_more : AreHeld (left Preparing (told_at Preparing)) (noted_at Preparing).pre (noted_at Preparing).held
    pre_more =
        moved (holders_of r.looked) (holders_of (noted_at Preparing).looked) (added (brick Preparing) (asked_at r step.Pres)) (asked_at (noted_at Preparing) step.Pres) (added_if (is_done told) (brick Preparing) r.pre) (noted_at Preparing).pre
        (held_after (is_gone told) (brick Preparing) r.held) (noted_at Preparing).held (ap holders_of pre_left.looked_is)
        (subst (λ (y : Register). asked_at y step.Pres ≡ added (brick Preparing) (asked_at r step.Pres)) (noted_same Preparing) (pre_asks r (brick Preparing) (object_of m.change) (kind_for m.change) told)) pre_left.pre_is
        (subst (λ (y : Register). y.held ≡ held_after (is_gone told) (brick Preparing) r.held) (noted_same Preparing) (pre_held r (brick Preparing) (object_of m.change) (kind_for m.change) told))
        (asked_more (is_gone told) (holders_of r.looked) (asked_at r step.Pres) r.pre (added_if (is_done told) (brick Preparing) r.pre) r.held (brick Preparing) h (lowest_in (left Preparing m) e)
        (done_one (is_done told) (is_gone told) (brick Preparing) r.pre (done_there told)))

    pub after_pre : After Preparing more
    after_pre = go (is_nothing (left Preparing (told_at Preparing)))
      where
        next_is : (f : Bool) → HoldsIn (if f then Applying else Closing) (on_stage (if f then Applying else Closing) (told_at Preparing)) more
        next_is true = next_phase (noted_at Preparing).pre (asked_at (noted_at Preparing) step.Applies) (noted_at Preparing).done (noted_at Preparing).held pre_more.did_held (pre_left.done_is ∙ t.sets.applied ∙ d.1.no_apply_did)
        next_is false = λ none. nobody_posted (noted_at Preparing).post (noted_at Preparing).held (pre_left.post_is ∙ t.sets.posted ∙ d.1.no_post_did)

        go : (e : Bool) → HoldsIn (if e then gone_on Preparing m.change (noted_at Preparing) (told_at Preparing).asked else Preparing) (on_stage (if e then gone_on Preparing m.change (noted_at Preparing) (told_at Preparing).asked else Preparing) (told_at Preparing)) more
        go true = next_is (enough (noted_at Preparing) (kind_for m.change) (noted_at Preparing).pre)
        go false = pre_more

  module _ (more : Work) (d : During Applying p.shape m w) (e : IsAsking Applying m) (h : HoldsIn Applying m w) where
    apply_left : Leaves (noted_at Applying) r.shape r.looked r.begun r.pre (added_if (is_done told) (brick Applying) r.done) r.post
    apply_left = subst (λ (y : Register). Leaves y r.shape r.looked r.begun r.pre (added_if (is_done told) (brick Applying) r.done) r.post) (noted_same Applying) (apply_leaves r (brick Applying) (number_in r.begun) told)

    apply_more : AreHeld (left Applying (told_at Applying)) (noted_at Applying).done (noted_at Applying).held
    apply_more =
        moved r.pre (noted_at Applying).pre (added (brick Applying) (asked_at r step.Applies)) (asked_at (noted_at Applying) step.Applies) (added_if (is_done told) (brick Applying) r.done) (noted_at Applying).done
        (held_after (is_gone told) (brick Applying) r.held) (noted_at Applying).held apply_left.pre_is
        (subst (λ (y : Register). asked_at y step.Applies ≡ added (brick Applying) (asked_at r step.Applies)) (noted_same Applying) (apply_asks r (brick Applying) (number_in r.begun) told)) apply_left.done_is
        (subst (λ (y : Register). y.held ≡ held_after (is_gone told) (brick Applying) r.held) (noted_same Applying) (apply_held r (brick Applying) (number_in r.begun) told))
        (asked_more (is_gone told) r.pre (asked_at r step.Applies) r.done (added_if (is_done told) (brick Applying) r.done) r.held (brick Applying) h (lowest_in (left Applying m) e)
        (done_one (is_done told) (is_gone told) (brick Applying) r.done (done_there told)))

    pub after_apply : After Applying more
    after_apply = go (is_nothing (left Applying (told_at Applying)))
      where
        none_posted : (noted_at Applying).post ≡ []
        none_posted = apply_left.post_is ∙ t.sets.posted ∙ d.1.no_post_did

        next_is : (f : Bool) → HoldsIn (if f then Posting else Closing) (on_stage (if f then Posting else Closing) (told_at Applying)) more
        next_is true = next_phase (noted_at Applying).done (asked_at (noted_at Applying) step.Posts) (noted_at Applying).post (noted_at Applying).held apply_more.did_held none_posted
        next_is false = λ none. nobody_posted (noted_at Applying).post (noted_at Applying).held none_posted

        go : (e : Bool) → HoldsIn (if e then gone_on Applying m.change (noted_at Applying) (told_at Applying).asked else Applying) (on_stage (if e then gone_on Applying m.change (noted_at Applying) (told_at Applying).asked else Applying) (told_at Applying)) more
        go true = next_is (enough (noted_at Applying) (kind_for m.change) (noted_at Applying).done)
        go false = apply_more

  module _ (more : Work) (e : IsAsking Posting m) (h : HoldsIn Posting m w) where
    abbrev missed : List ℕ
    missed = minus (below r.shape.n) r.done

    post_left : Leaves (noted_at Posting) r.shape r.looked r.begun r.pre r.done (added_if (is_done told) (brick Posting) r.post)
    post_left =
        subst (λ (y : Register). Leaves y r.shape r.looked r.begun r.pre r.done (added_if (is_done told) (brick Posting) r.post)) (noted_same Posting)
        (post_leaves r (brick Posting) (number_in r.begun) (object_of m.change) (kind_for m.change) missed told)

    post_more : AreHeld (left Posting (told_at Posting)) (noted_at Posting).post (noted_at Posting).held
    post_more =
        moved r.done (noted_at Posting).done (added (brick Posting) (asked_at r step.Posts)) (asked_at (noted_at Posting) step.Posts) (added_if (is_done told) (brick Posting) r.post) (noted_at Posting).post
        (held_after (is_gone told) (brick Posting) r.held) (noted_at Posting).held post_left.done_is
        (subst (λ (y : Register). asked_at y step.Posts ≡ added (brick Posting) (asked_at r step.Posts)) (noted_same Posting) (post_asks r (brick Posting) (number_in r.begun) (object_of m.change) (kind_for m.change) missed told)) post_left.post_is
        (subst (λ (y : Register). y.held ≡ held_after (is_gone told) (brick Posting) r.held) (noted_same Posting) (post_held r (brick Posting) (number_in r.begun) (object_of m.change) (kind_for m.change) missed told))
        (asked_more (is_gone told) r.done (asked_at r step.Posts) r.post (added_if (is_done told) (brick Posting) r.post) r.held (brick Posting) h (lowest_in (left Posting m) e)
        (done_one (is_done told) (is_gone told) (brick Posting) r.post (done_there told)))

    pub after_post : After Posting more
    after_post = go (is_nothing (left Posting (told_at Posting)))
      where
        go : (e : Bool) → HoldsIn (if e then Closing else Posting) (on_stage (if e then Closing else Posting) (told_at Posting)) more
        go true = λ none. post_more.did_held
        go false = post_more

-- ---- an unlock
unlocked_by : (m : TransactionProgress) (a : ActorId) (told : Told) (took : Bool) (older : List Line) (w : Work)
    → HoldsIn (after Closing (answered_by Closing (lowest (left Closing m)) told (length older) m)) (answered Closing told (length older) m) ((Ask a (record { 0 = lowest (left Closing m) }) (request_at Closing m) told took, older) ∷ w)
unlocked_by m a told took older w = go (is_nothing (left Closing (answered_by Closing (lowest (left Closing m)) told (length older) m)))
  where
    go : (e : Bool) → HoldsIn (if e then Closing else Closing) (answered Closing told (length older) m) ((Ask a (record { 0 = lowest (left Closing m) }) (request_at Closing m) told took, older) ∷ w)
    go true = λ none. absurd (cc none)
    go false = λ none. absurd (cc none)

module _ (w : Work) (m : TransactionProgress) (a : ActorId) (told : Told) (older : List Line) where
  abbrev Later : Stage → Line → Type 0
  Later stage line = Holds (fed stage told (length older) m) ((line, older) ∷ w)

  unlocks_next : (line : Line) (e : Bool) → IsNextLine a (if e then next.End (reply_of m.change m.register) else asks Closing m) told line → Later Closing line
  unlocks_next line true is = absurd is
  unlocks_next line false is = subst (Later Closing) (sym is.1) (unlocked_by m a told is.0 older w)

  pub unlocked_at : (stage : Stage) (line : Line) → stage ≡ Closing → IsNextLine a (next_at stage (length older) m) told line → Later stage line
  unlocked_at Closing line e is = unlocks_next line (is_nothing m.register.held) is
  unlocked_at Locking line e is = absurd (cc e)
  unlocked_at Looking line e is = absurd (cc e)
  unlocked_at Beginning line e is = absurd (cc e)
  unlocked_at Preparing line e is = absurd (cc e)
  unlocked_at Applying line e is = absurd (cc e)
  unlocked_at Posting line e is = absurd (cc e)

  -- ---- by the stage
  module _ (p : Plan) (s : Sound m) (t : Tells p w m) where
    kept_at : (stage : Stage) (line : Line) → During stage p.shape m w → sound.During stage m → Posted stage m → Ready stage m → HoldsIn stage m w → IsNextLine a (next_at stage (length older) m) told line → Later stage line
    kept_at Locking line d k q e h is = after_lock p w m a told older s t ((line, older) ∷ w) d k e
    kept_at Looking line d k q e h is = after_look p w m a told older s t ((line, older) ∷ w) d k q e h
    kept_at Beginning line d k q e h is = next_phase (holders_of m.register.looked) (asked_at (begun (length older) m).register step.Pres) m.register.pre m.register.held h.did_held (t.sets.prepared ∙ d.idle.no_pre_did)
    kept_at Preparing line d k q e h is = after_pre p w m a told older s t ((line, older) ∷ w) d e h
    kept_at Applying line d k q e h is = after_apply p w m a told older s t ((line, older) ∷ w) d e h
    kept_at Posting line d k q e h is = after_post p w m a told older s t ((line, older) ∷ w) e h
    kept_at Closing line d k q e h is = unlocked_at Closing line refl is

pub held_first : HeldFirst
held_first change r w = tt

pub held_kept : HeldKept
held_kept p w m a told line older s t h is = kept_at w m a told older p s t m.stage line t.during s.during s.posted s.ready h is

pub held_unlocked : HeldUnlocked
held_unlocked w m a told line older e is = unlocked_at w m a told older m.stage line e is

-- ---- a read, and giving up
read_held : (r : Register) (b : ℕ) (asked : Request) (told : Told) → is_read asked ≡ true → is_gone told ≡ false
    → ((after_outside r b asked told).looked ≡ r.looked) × ((after_outside r b asked told).held ≡ r.held)
read_held r b asked told is there = subst (λ (q : Register). (q.looked ≡ r.looked) × (q.held ≡ r.held)) (sym (same asked is)) (by told there)
  where
    same : (asked : Request) → is_read asked ≡ true → after_outside r b asked told ≡ after_by (stayed r) r b told
    same (request.ReadName g name) e = refl
    same (request.ReadBytes g at len) e = refl
    same (request.ReadAttr g key) e = refl
    same (request.List g) e = refl
    same asked e = absurd (cc e)

    by : (told : Told) → is_gone told ≡ false → ((after_by (stayed r) r b told).looked ≡ r.looked) × ((after_by (stayed r) r b told).held ≡ r.held)
    by as_told.NotConnected e = absurd (cc e)
    by told e = (refl, refl)

-- the same copies are held where the same locks are
in_same : (x y : Looked) (s t : List ℕ) → y ≡ x → t ≡ s → IsIn (holders_of x) s → IsIn (holders_of y) t
in_same x y s t ex et k = rw (ex, et) k

pub held_read : HeldRead
held_read w m a b asked told took older is s reads there h =
    subst (λ (stage : Stage). HoldsIn stage (noted_read b.0 asked told (length older) m) ((Ask a b asked told took, older) ∷ w)) (sym is)
    (record { left_held = λ c n. absurd (cc n); undone = λ c n. absurd (cc n); did_held = after_it })
  where
    left_by : ((after_outside m.register b.0 asked told).looked ≡ m.register.looked) × ((after_outside m.register b.0 asked told).held ≡ m.register.held)
    left_by = read_held m.register b.0 asked told reads there

    before : HoldsIn Beginning m w
    before = subst (λ (stage : Stage). HoldsIn stage m w) is h

    after_it : IsIn (holders_of (noted_ask m.register (length older) b.0 asked told).looked) (noted_ask m.register (length older) b.0 asked told).held
    after_it =
        subst (λ (q : Register). IsIn (holders_of q.looked) q.held) (sym (noted_is m.register (length older) b.0 asked told s.base.outside))
        (in_same m.register.looked (after_outside m.register b.0 asked told).looked m.register.held (after_outside m.register b.0 asked told).held left_by.0 left_by.1 before.did_held)

pub held_given_up : HeldGivenUp
held_given_up w m is s none c h =
    let q : m.register.post ≡ [] = subst (λ (stage : Stage). Posted stage m) is s.posted in
    let nobody : member [] c ≡ true = rw q at h in absurd (cc nobody)

-- ---- the end
-- a majority has somebody
some_posted : (n : ℕ) (s : List ℕ) → is_majority n s ≡ true → member s (lowest s) ≡ true
some_posted n s h = lowest_in s (by s (majority_some n s h))
  where
    by : (s : List ℕ) → is_nothing (minus s []) ≡ false → is_nothing s ≡ false
    by [] e = e
    by (x ∷ xs) e = refl

pub acknowledged_unlocks : AcknowledgedUnlocks
acknowledged_unlocks w m s h over done = go m.stage over h
  where
    posted : is_majority m.register.shape.n m.register.post ≡ true
    posted = (acknowledged_exactly m s).1 done

    nobody : (held : List ℕ) (b : ℕ) → is_nothing held ≡ true → member held b ≡ true → ⊥
    nobody [] b e f = cc f
    nobody (x ∷ xs) b e f = cc e

    asked : is_nothing m.register.held ≡ true → HoldsIn Closing m w → (found : Bool) → has unlocks_any w ≡ found → found ≡ true
    asked none held true e = refl
    asked none held false e = absurd (nobody m.register.held (lowest m.register.post) none (held e (lowest m.register.post) (some_posted m.register.shape.n m.register.post posted)))

    go : (stage : Stage) → is_over stage m ≡ true → HoldsIn stage m w → has unlocks_any w ≡ true
    go Closing e held = asked e held (has unlocks_any w) refl
    go Locking e held = absurd (cc e)
    go Looking e held = absurd (cc e)
    go Beginning e held = absurd (cc e)
    go Preparing e held = absurd (cc e)
    go Applying e held = absurd (cc e)
    go Posting e held = absurd (cc e)

-- ---- parts
either : (x y z : Bool) → (y ≡ true → z ≡ true) → (x || y) ≡ true → (x || z) ≡ true
either true y z f e = refl
either false y z f e = f e

in_first : (test : Line → Bool) (w : Work) → has test (first_part w) ≡ true → has test w ≡ true
in_first test [] h = absurd (cc h)
in_first test (x ∷ w) h = by (is_again x.0 w) (in_first test w) h
  where
    by : (again : Bool) → (has test (first_part w) ≡ true → has test w ≡ true) → has test (if again then first_part w else x ∷ w) ≡ true → (test x.0 || has test w) ≡ true
    by true rest h = or_right (test x.0) (has test w) (rest h)
    by false rest h = h

pub part_unlocks : PartUnlocks
part_unlocks from w h = in_first unlocks_any w (has_after unlocks_any (length from) (first_part w) h)
