-- A brick that failed at nothing of a change did its part of it, since it has the object.
use Rattle.std.proofs.Common.{◌≡◌, ℕ, suc, ◌<◌, ◌≤◌, ◌||◌, ◌==◌, Bool, true, false, refl, sym, ap, ◌∙◌, subst, arith, List, [], ◌∷◌, Option, Some, None, is_some, length, if◌then◌else◌, true≢false}
use Rattle.afr_base.specs.Bricks.{added_if, member}
use Rattle.afr_base.specs.SetLemmas.{member_added}
use Rattle.afr_base.specs.declared.ids.ActorId.{ActorId}
use Rattle.afr_base.specs.declared.ids.BrickId.{BrickId}
use Rattle.afr_base.proofs.TestLemmas.{neither_second}
use Rattle.afr_lines.specs.declared.fault.Fault.{Fault}
use Rattle.afr_lines.specs.declared.fault.Fault.TheVariants.{Fail, Lost}
use Rattle.afr_object.specs.Tables.{copy_at}
use Rattle.afr_object.specs.declared.change.Change.{Change}
use Rattle.afr_object.specs.Object.{Object}
use Rattle.afr_lines.specs.Log.{EachLine, change_at}
use Rattle.afr_lines.specs.Told.{told_by}
use Rattle.afr_lines.specs.Work.{Work, is_end, is_of, work}
use Rattle.afr_lines.specs.declared.answer.Answer.TheVariants as answer
use Rattle.afr_lines.specs.declared.answer.Told.{Told}
use Rattle.afr_lines.specs.declared.answer.Told.TheVariants.{Done, NotConnected}
use Rattle.afr_lines.specs.declared.line.Line.{Line}
use Rattle.afr_lines.specs.declared.line.Line.TheVariants.{Ask, Begin, HealBegin, End, HealEnd, Event}
use Rattle.afr_lines.specs.declared.request.Request.{Request}
use Rattle.afr_lines.specs.declared.request.Request.TheVariants.{Apply, Lock, Post, Pre, Unlock}
use Rattle.afr_plan.specs.declared.plan.Plan.{Plan}
use Rattle.afr_model.specs.Honest.{Honest, IsHonest, RequestOutcome, copy_answer, copy_for, fault_in, is_live, over_session, requests_to, tells}
use Rattle.afr_model.specs.Showing.{among, applied_at, applying, is_done, is_fault, posted, posting, prepared, preparing}
use Rattle.afr_model.specs.Tables.{holds}
use Rattle.afr_model_moves.specs.Discipline.{MayAskExactly, exact, in_force}
use Rattle.afr_model_moves.specs.Past.{place}
use Rattle.afr_model_moves.specs.Past as past
use Rattle.afr_model_moves.specs.Positions.{by_position}
use Rattle.afr_lines.specs.declared.lock.Domain.TheVariants.{Work as WorkDomain, Heal as HealDomain}
use Rattle.afr_lines.specs.Places.{Place, Fresh, Indexed, Between, Within}
use Rattle.afr_law_tables.specs.Codes.{kept_by}
use Rattle.afr_law.specs.Exactly.{IsLawfulExactly}
use Rattle.afr_law.specs.ModelFits.{HasCopy}
use Rattle.afr_law.specs.ModelNext.{IsNext, MayAskNext}
use Rattle.afr_law.proofs.Model.Found.{next_found}
use Rattle.afr_law_promises.specs.Available.Available.{AnswersBorne, DidItsPart, FailsNothing, IsAvailable, IsBorne, IsUnfailed, ModelExactIsAvailable, failing}
use Rattle.afr_law_promises.proofs.Available.Logs.{available}

-- ---- a phase at a brick with the object
-- the line may be asked before anybody knows what it is told
opens_as : (at : Place) (a : ActorId) (b : BrickId) (r : Request) (told : Told) (took : Bool) → past.opens at (Some (Ask a b r told took)) ≡ past.opens at (Some (Ask a b r NotConnected false))
unfolding past.opens
opens_as Fresh a b r told took = refl
opens_as Indexed a b (Lock HealDomain area) told took = refl
opens_as Indexed a b (Lock WorkDomain area) told took = refl
opens_as Indexed a b r told took = refl
opens_as Between a b (Lock HealDomain area) told took = refl
opens_as Between a b (Lock WorkDomain area) told took = refl
opens_as Between a b r told took = refl
opens_as Within a b r told took = refl

may_ask : (p : Plan) (log : List Line) (a : ActorId) (b : BrickId) (r : Request) (told : Told) (took : Bool) → IsNext p (Ask a b r told took) log → MayAskNext p a b r log
may_ask p log a b r told took next = (
  ((next.0).0, (next.0).1, (next.0).2, tt),
  subst (λ (x : Bool). (b.0 < p.shape.n) × MayAskExactly p.shape.n (kept_by p) (in_force x (exact p.shape.n (kept_by p) (by_position log) (length log) a.0)) b.0 r) (opens_as (place (by_position log) (length log) a.0) a b r told took) next.1,
)

-- the pre-op, the operation or the post-op
abbrev is_phase : Request → Bool
is_phase (Pre g kind) = true
is_phase (Apply attempt) = true
is_phase (Post attempt g kind missed) = true
is_phase r = false

-- a phase was done, or failed
abbrev IsDoneOrFailed : Line → Type 0
IsDoneOrFailed (Ask a b r told took) = is_phase r ≡ true → is_done told ≡ false → is_fault told ≡ true
IsDoneOrFailed line = Unit {0}

there : (c : Option Object) → is_some c ≡ true → told_by (copy_answer (λ o. answer.Done) c) ≡ Done
there None h = absurd (cc h)
there (Some o) h = refl

-- where a brick would do it, a session or a planned fault is all that comes in the way
by_fault : (live : Bool) (fault : Option Fault) (said : Told) → said ≡ Done → is_done (over_session live fault said).told ≡ false → is_fault (over_session live fault said).told ≡ true
by_fault false fault said e h = refl
by_fault true (Some Fail) said e h = refl
by_fault true (Some Lost) said e h = refl
by_fault true None said e h = absurd (true≢false (sym (ap is_done e) ∙ h))

module _ (p : Plan) (log : List Line) (a : ActorId) (b : BrickId) where
  would : (r : Request) → HasCopy p log b.0 r → is_phase r ≡ true → tells a r b.0 (holds p log b.0) log ≡ Done
  would (Pre g kind) has phase = there (copy_at g (holds p log b.0)) has
  would (Apply attempt) has phase = there (copy_for (change_at attempt log) (holds p log b.0)) (subst (λ (x : Option Change). is_some (copy_for x (holds p log b.0)) ≡ true) (sym has.1) has.2)
  would (Post attempt g kind missed) has phase = there (copy_at g (holds p log b.0)) has
  would r has phase = absurd (true≢false (sym phase))

  fits_there : (r : Request) (told : Told) (took : Bool) → HasCopy p log b.0 r → IsHonest p (Ask a b r told took) log → IsDoneOrFailed (Ask a b r told took)
  fits_there r told took has said phase =
      subst (λ (x : Told). is_done x ≡ false → is_fault x ≡ true) (sym (ap (λ (o : RequestOutcome). o.told) said))
      (by_fault (is_live p a b.0 (Ask a b r told took) log) (fault_in p.faults b.0 (suc (requests_to b.0 log))) (tells a r b.0 (holds p log b.0) log) (would r has phase))

-- each phase of such a log was done, or failed
line_fits : (p : Plan) (line : Line) (older : List Line) → p.shape.n ≤ 5 → length older < 4000000 → Honest p older → IsLawfulExactly p older → IsHonest p line older → IsNext p line older → IsDoneOrFailed line
line_fits p (Ask a b r told took) older five short honest lawful said next = fits_there p older a b r told took (next_found p older a b r five short honest lawful (may_ask p older a b r told took next)) said
line_fits p (Begin a change) older five short honest lawful said next = tt
line_fits p (HealBegin a g kind) older five short honest lawful said next = tt
line_fits p (End a said) older five short honest lawful heard next = tt
line_fits p (HealEnd a g kind said) older five short honest lawful heard next = tt
line_fits p (Event e) older five short honest lawful said next = tt

each_fits : (p : Plan) (log : List Line) → p.shape.n ≤ 5 → length log ≤ 4000000 → Honest p log → IsLawfulExactly p log → EachLine (λ line older. IsDoneOrFailed line) log
each_fits p [] five short honest lawful = tt
each_fits p (line ∷ older) five short honest lawful =
    (line_fits p line older five (omega (arith, short)) honest.1 lawful.1 honest.0 lawful.0, each_fits p older five (omega (arith, short)) honest.1 lawful.1)

-- ---- the lines of a work
abbrev AllFit : Work → Type 0
AllFit [] = Unit {0}
AllFit (x ∷ w) = IsDoneOrFailed x.0 × AllFit w

all_fit : (a : ℕ) (log : List Line) → EachLine (λ line older. IsDoneOrFailed line) log → AllFit (work a log)
all_fit a [] h = tt
all_fit a (line ∷ older) h = go (is_of a line) (is_end line) (all_fit a older h.1)
  where
    go : (mine ends : Bool) → AllFit (work a older) → AllFit (if mine then (if ends then [] else (line, older) ∷ work a older) else work a older)
    go true true rest = tt
    go true false rest = (h.0, rest)
    go false ends rest = rest

-- who was asked, and failed at nothing, did it
abbrev Did : List ℕ → List ℕ → List ℕ → ℕ → Type 0
Did asked failed did b = member asked b ≡ true → member failed b ≡ false → member did b ≡ true

-- one request more
unadded : (fault : Bool) (x b : ℕ) (failed : List ℕ) → member (added_if fault x failed) b ≡ false → member failed b ≡ false
unadded false x b failed h = h
unadded true x b failed h = neither_second (x == b) (member failed b) (sym (member_added x failed b) ∙ h)

asked_too : (done fault : Bool) (x b : ℕ) (asked failed did : List ℕ) → (done ≡ false → fault ≡ true) → Did asked failed did b → Did (added_if true x asked) (added_if fault x failed) (added_if done x did) b
asked_too true fault x b asked failed did fits rest here none = member_added x did b ∙ by (x == b) (member asked b) (member did b) (sym (member_added x asked b) ∙ here) (λ k. rest k (unadded fault x b failed none))
  where
    by : (same was now : Bool) → (same || was) ≡ true → (was ≡ true → now ≡ true) → (same || now) ≡ true
    by true was now e k = refl
    by false was now e k = k e
asked_too false fault x b asked failed did fits rest here none = go fault (fits refl) none
  where
    go : (fault : Bool) → fault ≡ true → member (added_if fault x failed) b ≡ false → member did b ≡ true
    go false e h = absurd (true≢false (sym e))
    go true e h = by (x == b) (member asked b) (member failed b) (sym (member_added x asked b) ∙ here) (sym (member_added x failed b) ∙ h) (λ k l. rest k l)
      where
        by : (same was bad : Bool) → (same || was) ≡ true → (same || bad) ≡ false → (was ≡ true → bad ≡ false → member did b ≡ true) → member did b ≡ true
        by true was bad e f k = absurd (true≢false f)
        by false was bad e f k = k e f

module _ (b : ℕ) where
  -- the three phases
  record AllDid (pres applies posts failed pre_did apply_did post_did : List ℕ) : Type 0 where
    pre : Did pres failed pre_did b
    apply : Did applies failed apply_did b
    post : Did posts failed post_did b

  abbrev PartsOf : Work → Type 0
  PartsOf w = AllDid (among preparing w) (among applying w) (among posting w) (among failing w) (among prepared w) (among applied_at w) (among posted w)

  -- a request of no phase
  unphased : (fault : Bool) (x : ℕ) (pre apply post failed pre_did apply_did post_did : List ℕ) → AllDid pre apply post failed pre_did apply_did post_did → AllDid pre apply post (added_if fault x failed) pre_did apply_did post_did
  unphased fault x pre apply post failed pre_did apply_did post_did h = record {
    pre = λ here none. h.pre here (unadded fault x b failed none);
    apply = λ here none. h.apply here (unadded fault x b failed none);
    post = λ here none. h.post here (unadded fault x b failed none);
  }

  parts_line : (line : Line) (log : List Line) (w : Work) → IsDoneOrFailed line → PartsOf w → PartsOf ((line, log) ∷ w)
  parts_line (Ask a x (Pre g kind) told took) log w fits h = record {
    pre = asked_too (is_done told) (is_fault told) x.0 b (among preparing w) (among failing w) (among prepared w) (fits refl) h.pre;
    apply = λ here none. h.apply here (unadded (is_fault told) x.0 b (among failing w) none);
    post = λ here none. h.post here (unadded (is_fault told) x.0 b (among failing w) none);
  }
  parts_line (Ask a x (Apply attempt) told took) log w fits h = record {
    pre = λ here none. h.pre here (unadded (is_fault told) x.0 b (among failing w) none);
    apply = asked_too (is_done told) (is_fault told) x.0 b (among applying w) (among failing w) (among applied_at w) (fits refl) h.apply;
    post = λ here none. h.post here (unadded (is_fault told) x.0 b (among failing w) none);
  }
  parts_line (Ask a x (Post attempt g kind missed) told took) log w fits h = record {
    pre = λ here none. h.pre here (unadded (is_fault told) x.0 b (among failing w) none);
    apply = λ here none. h.apply here (unadded (is_fault told) x.0 b (among failing w) none);
    post = asked_too (is_done told) (is_fault told) x.0 b (among posting w) (among failing w) (among posted w) (fits refl) h.post;
  }
  parts_line (Ask a x (Unlock domain area) told took) log w fits h = h
  parts_line (Ask a x r told took) log w fits h = unphased (is_fault told) x.0 (among preparing w) (among applying w) (among posting w) (among failing w) (among prepared w) (among applied_at w) (among posted w) h
  parts_line (Begin a change) log w fits h = record { pre = λ here none. absurd (true≢false (sym here)); apply = λ here none. absurd (true≢false (sym here)); post = λ here none. absurd (true≢false (sym here)) }
  parts_line (HealBegin a g kind) log w fits h = h
  parts_line (End a said) log w fits h = h
  parts_line (HealEnd a g kind said) log w fits h = h
  parts_line (Event e) log w fits h = h

  parts_of : (w : Work) → AllFit w → PartsOf w
  parts_of [] h = record { pre = λ here none. absurd (true≢false (sym here)); apply = λ here none. absurd (true≢false (sym here)); post = λ here none. absurd (true≢false (sym here)) }
  parts_of (x ∷ w) h = parts_line x.0 x.1 w h.0 (parts_of w h.1)

-- bricks that failed at nothing bore the change
borne_by : (p : Plan) (w : Work) → AllFit w → IsUnfailed p w → IsBorne p w
borne_by p w fits u = record { change = u.change; begun = u.begun; bricks = u.bricks; parts = λ b inside. part b (u.each b inside); enough = u.enough }
  where
    part : (b : ℕ) → FailsNothing w b → DidItsPart w b
    part b f = (
        let parts = parts_of b w fits in
        record { pre = parts.pre f.asked f.unfailed; operation = λ asked. parts.apply asked f.unfailed; post = λ asked. parts.post asked f.unfailed }
        )

-- ---- the whole log
end_available : (p : Plan) (line : Line) (older : List Line) → EachLine (λ line older. IsDoneOrFailed line) older → AnswersBorne p line older → IsAvailable p line older
unfolding borne_by
end_available p (End a said) older fits borne = λ client u. borne client (borne_by p (work a.0 older) (all_fit a.0 older fits) u)
end_available p (Ask a b r told took) older fits borne = tt
end_available p (Begin a change) older fits borne = tt
end_available p (HealBegin a g kind) older fits borne = tt
end_available p (HealEnd a g kind said) older fits borne = tt
end_available p (Event e) older fits borne = tt

each_available : (p : Plan) (log : List Line) → EachLine (λ line older. IsDoneOrFailed line) log → EachLine (AnswersBorne p) log → EachLine (IsAvailable p) log
each_available p [] fits borne = tt
each_available p (line ∷ older) fits borne = (end_available p line older fits.1 borne.0, each_available p older fits.1 borne.1)

pub exact_available : ModelExactIsAvailable
exact_available crawl p log five short follows honest lawful replied = each_available p log (each_fits p log five short honest lawful) (available crawl p log follows replied)
