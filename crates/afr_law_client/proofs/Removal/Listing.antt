-- The list of the child: what the lines show after it, and after the Begin line.
use Rattle.std.proofs.Common.{◌≡◌, ℕ, ◌<◌, arith, Bool, true, false, List, [], ◌∷◌, Option, Some, None, length, refl, sym, ap, ◌∙◌, subst, if◌then◌else◌}
use Rattle.afr_base.specs.declared.ids.ActorId.{ActorId}
use Rattle.afr_base.specs.declared.ids.BrickId.{BrickId}
use Rattle.afr_base.specs.declared.ids.Gfid.{Gfid}
use Rattle.afr_base.specs.declared.ids.NameId.{NameId}
use Rattle.afr_base.specs.declared.ids.Shape.{Shape}
use Rattle.afr_discipline.specs.declared.register.Register.{Register}
use Rattle.afr_lines.specs.Areas.{area_for}
use Rattle.afr_lines.specs.Told.{told_by}
use Rattle.afr_lines.specs.Work.{Work}
use Rattle.afr_lines.specs.declared.answer.Answer.{Answer}
use Rattle.afr_lines.specs.declared.answer.Answer.TheVariants as answer
use Rattle.afr_lines.specs.declared.answer.Told.{Told}
use Rattle.afr_lines.specs.declared.answer.Told.TheVariants as as_told
use Rattle.afr_lines.specs.declared.line.Line.{Line}
use Rattle.afr_lines.specs.declared.line.Line.TheVariants.{Ask, Begin}
use Rattle.afr_lines.specs.declared.reply.Good.TheVariants as good
use Rattle.afr_lines.specs.declared.reply.Reply.{Reply}
use Rattle.afr_lines.specs.declared.reply.Reply.TheVariants as reply
use Rattle.afr_lines.specs.declared.request.Request.{Request}
use Rattle.afr_lines.specs.declared.request.Request.TheVariants as request
use Rattle.afr_object.specs.Tables.{copy_at, object_of}
use Rattle.afr_object.specs.declared.change.Change.{Change}
use Rattle.afr_object.specs.Object.{Object}
use Rattle.afr_plan.specs.declared.plan.Plan.{Plan}
use Rattle.afr_model.specs.Honest.{copy_answer}
use Rattle.afr_model.specs.Refusals.{by_list, or_else}
use Rattle.afr_model.specs.Showing.{Gave, Reading, given_by, has, reading_by, refuses_read}
use Rattle.afr_model.specs.Tables.{holds}
use Rattle.afr_law_client.specs.Read.Lines.{CanAnswer}
use Rattle.afr_client_entry.specs.Removals.Removal.{Removing, answered, begun, brick_at, listed, moved, on_stage, request_at, sets_after}
use Rattle.afr_client_entry.specs.Removals.Sound as sound
use Rattle.afr_client_entry.specs.Removals.Sound.{Sound}
use Rattle.afr_client_entry.specs.declared.removing.child.Child.{Child}
use Rattle.afr_client_entry.specs.declared.removing.stage.RemovalStage.TheVariants.{Listing, Beginning, Closing}
use Rattle.afr_client_entry.specs.declared.removing.stage.RemovalEnding.TheVariants.{Failed}
use Rattle.afr_client_entry.proofs.Removals.Facts.{list_asked}
use Rattle.afr_client_transaction.specs.Progress.{may_start}
use Rattle.afr_client_transaction.proofs.Requests.{after_outside, noted_is}
use Rattle.afr_law_client.specs.Tells.{AreIdle, lookups_allow}
use Rattle.afr_law_client.proofs.Calm.{calm_ask}
use Rattle.afr_law_client.proofs.Excused.{ask_excused, begin_excused, missed_grows}
use Rattle.afr_law_client.proofs.Leaves.{LeavesAll}
use Rattle.afr_law_client.specs.Removal.RemovalTelling.{IsEmpty, IsJudged, IsOpen, RemovalGoes, RemovalTells}
use Rattle.afr_law_client.proofs.Removal.Lines.{IsPlain, goes_begin, goes_plain}
use Rattle.afr_law_client.proofs.Removal.Notes.{begin_leaves, list_leaves}
use Rattle.afr_law_client.proofs.Removal.Refused.{answered_before, looks_refuse, refusal_is}

-- ---- what was found of the child stays so
module _ (p : Plan) (change : Change) (c : Child) (w : Work) (j : IsJudged p change c w) (older : List Line) where
  pub judged_ask : (a : ActorId) (b : BrickId) (told : Told) (took : Bool) (asked : Request) → IsPlain asked → IsJudged p change c ((Ask a b asked told took, older) ∷ w)
  judged_ask a b told took (request.List h) is = record {
    child = record { all = j.child.all; looked = j.child.looked };
    majority = j.majority;
    take = j.take;
    taken = j.taken;
    enough = j.enough;
    shows = j.shows;
    passes = j.passes;
    others = λ x l out. missed_grows (object_of change) (Ask a b (request.List h) told took) older w x (j.others x l out);
  }
  judged_ask a b told took (request.Pre h kind) is = record {
    child = record { all = j.child.all; looked = j.child.looked };
    majority = j.majority;
    take = j.take;
    taken = j.taken;
    enough = j.enough;
    shows = j.shows;
    passes = j.passes;
    others = λ x l out. missed_grows (object_of change) (Ask a b (request.Pre h kind) told took) older w x (j.others x l out);
  }
  judged_ask a b told took (request.Apply attempt) is = record {
    child = record { all = j.child.all; looked = j.child.looked };
    majority = j.majority;
    take = j.take;
    taken = j.taken;
    enough = j.enough;
    shows = j.shows;
    passes = j.passes;
    others = λ x l out. missed_grows (object_of change) (Ask a b (request.Apply attempt) told took) older w x (j.others x l out);
  }
  judged_ask a b told took (request.Post attempt h kind missed) is = record {
    child = record { all = j.child.all; looked = j.child.looked };
    majority = j.majority;
    take = j.take;
    taken = j.taken;
    enough = j.enough;
    shows = j.shows;
    passes = j.passes;
    others = λ x l out. missed_grows (object_of change) (Ask a b (request.Post attempt h kind missed) told took) older w x (j.others x l out);
  }
  judged_ask a b told took asked is = absurd is

  pub judged_begin : (a : ActorId) (begun : Change) → IsJudged p change c ((Begin a begun, older) ∷ w)
  judged_begin a begun = record {
    child = record { all = j.child.all; looked = j.child.looked };
    majority = j.majority;
    take = j.take;
    taken = j.taken;
    enough = j.enough;
    shows = j.shows;
    passes = j.passes;
    others = λ x l out. missed_grows (object_of change) (Begin a begun) older w x (j.others x l out);
  }

-- ---- what a list is told
-- it is given what the brick's table shows, or it fails
pub data ListTold (p : Plan) (b : ℕ) (g : Gfid) (log : List Line) (heard : Answer) : Type 0 where
  Shown : (names : List _) → heard ≡ answer.Names names → given_by (request.List g) (copy_at g (holds p log b)) ≡ Gave (good.Names names) → ListTold p b g log heard
  Lost : heard ≡ answer.NotConnected → ListTold p b g log heard
  Fails : heard ≡ answer.Failed → ListTold p b g log heard

module _ (p : Plan) (b : ℕ) (g : Gfid) (log : List Line) where
  abbrev names_of : Object → Answer
  names_of o = answer.Names o.names

  abbrev are_names : Answer → Bool
  are_names (answer.Names found) = true
  are_names other = false

  reading_is : (names : List _) (o : Option Object) → answer.Names names ≡ copy_answer names_of o → given_by (request.List g) o ≡ Gave (good.Names names)
  reading_is names None e = absurd (cc e)
  reading_is names (Some o) e = let same : names ≡ o.names = cc e in rw same refl

  given_names : (heard : Answer) (o : Option Object) → heard ≡ copy_answer names_of o → told_by heard ≡ as_told.Given → are_names heard ≡ true
  given_names heard None e t = absurd (clash (sym (ap told_by e) ∙ t))
    where
      clash : as_told.NoObject ≡ as_told.Given → ⊥
      clash h = cc h
  given_names heard (Some o) e t = ap are_names e

  not_given : (heard : Answer) → CanAnswer p b (request.List g) log heard → told_by heard ≡ as_told.Given → are_names heard ≡ false → ⊥
  not_given heard can t e = let f : are_names heard ≡ true = given_names heard (copy_at g (holds p log b)) (can.given t) t in cc (e, f)

  pub list_told : (heard : Answer) → CanAnswer p b (request.List g) log heard → ListTold p b g log heard
  list_told (answer.Names names) can = Shown names refl (reading_is names (copy_at g (holds p log b)) (can.given refl))
  list_told answer.NotConnected can = Lost refl
  list_told answer.Failed can = Fails refl
  list_told (answer.Bytes bytes) can = absurd (not_given (answer.Bytes bytes) can refl refl)
  list_told (answer.Entry entry) can = absurd (not_given (answer.Entry entry) can refl refl)
  list_told (answer.Value value) can = absurd (not_given (answer.Value value) can refl refl)
  list_told (answer.Attrs attrs) can = absurd (not_given (answer.Attrs attrs) can refl refl)
  list_told (answer.Index index) can = absurd (not_given (answer.Index index) can refl refl)
  list_told answer.Granted can = absurd (cc (can.told refl))
  list_told (answer.Held owner) can = absurd (cc (can.told refl))
  list_told (answer.Seen view) can = absurd (cc (can.told refl))
  list_told answer.Done can = absurd (cc (can.told refl))
  list_told answer.NoObject can = absurd (cc (can.told refl))

-- ---- the discipline's test of the Begin line
pub start_is : (change : Change) (r : Register) → r.begun ≡ None → r.unlocked ≡ false → r.area ≡ Some (area_for change) → may_start r change ≡ lookups_allow r.shape change r.looked
start_is change r first still named = rw (first, still, named) refl

module _ (r : Register) (b : ℕ) (g : Gfid) where
  list_still : (told : Told) → (after_outside r b (request.List g) told).unlocked ≡ r.unlocked
  list_still as_told.NotConnected = refl
  list_still told = refl

  list_area : (told : Told) → (after_outside r b (request.List g) told).area ≡ r.area
  list_area as_told.NotConnected = refl
  list_area told = refl

-- ---- after the list
module _ (p : Plan) (path : List NameId) (m : Removing) (w : Work) (a : ActorId) (took : Bool) (log : List Line) (s : Sound m) (k : RemovalGoes p path m.change m.register m.child.gfid w) (opened : IsOpen p w) (j : IsJudged p m.change m.child w) (ds : sound.During Listing m) where
  abbrev b : BrickId
  b = record { 0 = brick_at Listing m }

  abbrev g : Gfid
  g = m.child.gfid

  abbrev q : Told → Register
  q told = after_outside m.register b.0 (request.List g) told

  abbrev now : Told → Removing
  now told = sets_after Listing b.0 told (q told) m

  abbrev more : Told → Work
  more told = (Ask a b (request.List g) told took, log) ∷ w

  small : b.0 < m.register.shape.n
  small = list_asked m s.child ds.2

  left : (told : Told) → LeavesAll (q told) m.register
  left told = list_leaves m.register b g told

  goes_on : (told : Told) → RemovalGoes p path m.change (q told) g (more told)
  goes_on told =
      goes_plain p path m.change m.register (q told) g a b told took log w k m.register.begun m.register.pre m.register.done m.register.post (left told) (request.List g) tt
      (record { prepared = (left told).pre_is ∙ k.sets.prepared; applied = (left told).done_is ∙ k.sets.applied; posted = (left told).post_is ∙ k.sets.posted; number = (left told).begun_is ∙ k.sets.number })
      (ask_excused a b (request.List g) told took log w tt tt tt (omega (arith, small, s.base.few)) k.excused)
      (calm_ask a b (request.List g) told took log w tt tt k.calm)

  judged_now : (told : Told) → IsJudged p m.change m.child (more told)
  judged_now told = judged_ask p m.change m.child w j log a b told took (request.List g) tt

  starts : (told : Told) → may_start (q told) m.change ≡ true
  starts told =
      start_is m.change (q told) ((left told).begun_is ∙ ds.0.first) (list_still m.register b.0 g told ∙ ds.0.open_still) (list_area m.register b.0 g told ∙ s.areas.named)
      ∙ subst (λ (shape : Shape). lookups_allow shape m.change (q told).looked ≡ true) (sym (goes_on told).shape) (goes_on told).allows

  -- the list was given
  by_names : (names : List _) → given_by (request.List g) (copy_at g (holds p log b.0)) ≡ Gave (good.Names names) → RemovalTells p path (on_stage (listed (answer.Names names) m.change (q as_told.Given)) (now as_told.Given)) (more as_told.Given)
  by_names [] e = go (may_start (q as_told.Given) m.change) (starts as_told.Given)
    where
      go : (f : Bool) → f ≡ true → RemovalTells p path (on_stage (if f then Beginning else Closing Failed) (now as_told.Given)) (more as_told.Given)
      go true h = (goes_on as_told.Given, opened.idle, record { empty = e; unrefused = opened.unrefused }, judged_now as_told.Given)
      go false h = absurd (cc h)
  by_names (x ∷ names) e = record {
    led = (goes_on as_told.Given).led;
    answered = answered_before p path m.change (q as_told.Given) m.child (more as_told.Given) s.removes (goes_on as_told.Given) reply.NotEmpty opened.idle.unbegun
        (looks_refuse p path m.change (q as_told.Given) m.child (more as_told.Given) s.removes (goes_on as_told.Given) opened.unrefused j.majority j.enough
        ∙ ap (λ (o : Option Reply). or_else o (by_list (reading_by p (more as_told.Given)))) j.passes
        ∙ ap (λ (o : Reading). by_list o) e)
        (λ f. absurd (cc f)) (judged_now as_told.Given).child;
  }

  -- or refused
  by_fault : (told : Told) → has refuses_read (more told) ≡ true → RemovalTells p path (on_stage (Closing Failed) (now told)) (more told)
  by_fault told refused = record {
    led = (goes_on told).led;
    answered = answered_before p path m.change (q told) m.child (more told) s.removes (goes_on told) reply.Failed opened.idle.unbegun
        (refusal_is p path m.change (q told) m.child (more told) s.removes (goes_on told) ∙ rw refused refl)
        (λ f. refused) (judged_now told).child;
  }

  abbrev After : Answer → Type 0
  After x = RemovalTells p path (on_stage (listed x m.change (q (told_by x))) (now (told_by x))) (more (told_by x))

  pub told_list : (chosen : BrickId) (heard : Answer) → ListTold p b.0 g log heard → RemovalTells p path (answered chosen Listing heard (length log) m) (more (told_by heard))
  told_list chosen heard told =
      subst (λ (x : Register). RemovalTells p path (moved chosen Listing b.0 heard x m) (more (told_by heard))) (sym (noted_is m.register (length log) b.0 (request_at Listing m) (told_by heard) s.base.outside)) (by told)
    where
      by : ListTold p b.0 g log heard → After heard
      by (Shown names e f) = subst After (sym e) (by_names names f)
      by (Lost e) = subst After (sym e) (by_fault as_told.NotConnected refl)
      by (Fails e) = subst After (sym e) (by_fault as_told.Failed refl)

-- ---- after the Begin line
module _ (p : Plan) (path : List NameId) (m : Removing) (w : Work) (a : ActorId) (log : List Line) (k : RemovalGoes p path m.change m.register m.child.gfid w) (idle : AreIdle w) (empty : IsEmpty p w) (j : IsJudged p m.change m.child w) where
  pub told_begin : RemovalTells p path (begun (length log) m) ((Begin a m.change, log) ∷ w)
  told_begin = let left = begin_leaves m.register (length log) in (
    goes_begin p path m.change m.register (begun (length log) m).register m.child.gfid a (record { 0 = 0 }) as_told.Done true log w k (Some (length log)) m.register.pre m.register.done m.register.post left m.change
        (record { prepared = left.pre_is ∙ k.sets.prepared ∙ idle.no_pre_did; applied = left.done_is ∙ k.sets.applied ∙ idle.no_apply_did; posted = left.post_is ∙ k.sets.posted ∙ idle.no_post_did; number = left.begun_is })
        (begin_excused a m.change log w k.excused) (λ none. record { pre_is = refl; apply_is = refl; post_is = refl }),
    record {
      empty = record { empty = empty.empty; unrefused = empty.unrefused };
      judged = judged_begin p m.change m.child w j log a m.change;
      begun = record { began = refl; attempt = length log; number = refl; is_change = refl };
    },
    record { pre = refl; no_apply = refl; no_apply_did = refl; no_post = refl; no_post_did = refl },
  )
