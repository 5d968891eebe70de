-- A work of a command with one path, whose change enough bricks bore, answers ok.
use Rattle.std.proofs.Common.{◌≡◌, ℕ, ◌==◌, ◌&&◌, ◌||◌, not, Bool, true, false, refl, sym, ap, ◌∙◌, subst, List, [], ◌∷◌, None, Some, length, if◌then◌else◌, true≢false}
use Rattle.std.proofs.lemmas.Bool.{and_from, not-true}
use Rattle.afr_base.specs.Bricks.{IsIn, and_left, and_right, is_nothing, lowest, member, minus}
use Rattle.afr_base.specs.Majority.{is_majority}
use Rattle.afr_base.specs.SetLemmas.{lowest_left, majority_grows, member_minus, some_member}
use Rattle.afr_base.specs.declared.ids.Gfid.{Gfid}
use Rattle.afr_base.specs.declared.ids.Kind.{Kind}
use Rattle.afr_base.specs.declared.ids.Shape.{Shape}
use Rattle.afr_choice.specs.Verdict.{good_copies}
use Rattle.afr_choice.specs.declared.looked.Looked.{Looked}
use Rattle.afr_object.specs.Tables.{object_of}
use Rattle.afr_object.specs.declared.change.Change.{Change}
use Rattle.afr_lines.specs.Areas.{kind_for}
use Rattle.afr_lines.specs.Log.{change_of}
use Rattle.afr_lines.specs.Work.{Work}
use Rattle.afr_lines.specs.declared.line.Line.{Line}
use Rattle.afr_lines.specs.declared.line.Line.TheVariants.{Ask, Begin, HealBegin, End, HealEnd, Event}
use Rattle.afr_lines.specs.declared.reply.Good.TheVariants as good
use Rattle.afr_lines.specs.declared.reply.Reply.{Reply}
use Rattle.afr_lines.specs.declared.reply.Reply.TheVariants as reply
use Rattle.afr_lines.specs.declared.request.Request.TheVariants as request
use Rattle.afr_lines.specs.declared.lock.Domain.TheVariants.{Work as WorkDomain, Heal as HealDomain}
use Rattle.afr_plan.specs.declared.command.Command.{Command}
use Rattle.afr_plan.specs.declared.command.Command.TheVariants as command
use Rattle.afr_plan.specs.declared.plan.Plan.{Plan}
use Rattle.afr_model.specs.Answered.{Answers, IsAbout, IsAnswered, IsCaused, Refuses, Stats, answer, by_posts}
use Rattle.afr_model.specs.Commands.{change_named}
use Rattle.afr_model.specs.Keeping.{KeepsTo}
use Rattle.afr_model.specs.Refusals.{refusal}
use Rattle.afr_model.specs.Showing.{among, applied_at, begins_attempt, has, looked_by, posted, prepared}
use Rattle.afr_model.specs.Skipped.{WentThroughPhases}
use Rattle.afr_model.specs.Standing.{change_after, change_by, path_upto, suffices}
use Rattle.afr_law_promises.specs.Available.Available.{IsBorne}
use Rattle.afr_law_promises.proofs.Available.Same.{kept_same, refusal_same}

-- each line is about what the command's words name
abbrev pub AreAbout : Plan → Command → Work → Type 0
AreAbout p c [] = Unit {0}
AreAbout p c (x ∷ w) = IsAbout p c x.0 w × AreAbout p c w

-- and keeps to them
abbrev pub DoKeep : Plan → Command → Work → Type 0
DoKeep p c [] = Unit {0}
DoKeep p c (x ∷ w) = KeepsTo p c x.0 (length x.1) w × DoKeep p c w

-- ---- sets
-- what suffices does so with more bricks
suffices_grows : (shape : Shape) (kind : Kind) (looked : Looked) (s t : List ℕ) → IsIn s t → suffices shape kind looked s ≡ true → suffices shape kind looked t ≡ true
suffices_grows shape kind looked s t inside h = and_from (is_majority shape.n t) (not (is_nothing (minus g (minus g t)))) (majority_grows shape.n s t inside (and_left (is_majority shape.n s) (not (is_nothing (minus g (minus g s)))) h)) (ap not (some_member (minus g (minus g t)) b there))
  where
    g : List ℕ
    g = good_copies shape looked kind

    b : ℕ
    b = lowest (minus g (minus g s))

    parts : (member (minus g s) b ≡ false) × (member g b ≡ true)
    parts = lowest_left g (minus g s) (not-true (is_nothing (minus g (minus g s))) (and_right (is_majority shape.n s) (not (is_nothing (minus g (minus g s)))) h))

    here : member s b ≡ true
    here = by (member s b) (member g b) parts.1 (sym (member_minus g s b) ∙ parts.0)
      where
        by : (x y : Bool) → y ≡ true → (not x && y) ≡ false → x ≡ true
        by true y e f = refl
        by false true e f = absurd (true≢false f)
        by false false e f = absurd (true≢false (sym e))

    gone : member (minus g t) b ≡ false
    gone = member_minus g t b ∙ rw (inside b here) refl

    there : member (minus g (minus g t)) b ≡ true
    there = member_minus g (minus g t) b ∙ rw (gone, parts.1) refl

-- ---- lines of the attempt
module _ (p : Plan) (c : Command) where
  -- a line that shows nothing to a refusal
  unrefused_line : (line : Line) (log : List Line) (w : Work) → IsAbout p c line w → has begins_attempt ((line, log) ∷ w) ≡ true → (has begins_attempt w ≡ true → refusal p c w ≡ None) → refusal p c ((line, log) ∷ w) ≡ None
  unrefused_line (Begin a change) log w about begun rest = refusal_same p ((Begin a change, log) ∷ w) w (record { refuses = refl; path = refl; upto = λ k. kept_same k (path_upto k p w); looked = λ g. refl; got = λ area. refl; met = λ g. refl; reading = refl }) c ∙ about.0
  unrefused_line (Ask a b (request.Pre g kind) told took) log w about begun rest = refusal_same p ((Ask a b (request.Pre g kind) told took, log) ∷ w) w (record { refuses = refl; path = refl; upto = λ k. kept_same k (path_upto k p w); looked = λ g. refl; got = λ area. refl; met = λ g. refl; reading = refl }) c ∙ rest begun
  unrefused_line (Ask a b (request.Apply attempt) told took) log w about begun rest = refusal_same p ((Ask a b (request.Apply attempt) told took, log) ∷ w) w (record { refuses = refl; path = refl; upto = λ k. kept_same k (path_upto k p w); looked = λ g. refl; got = λ area. refl; met = λ g. refl; reading = refl }) c ∙ rest begun
  unrefused_line (Ask a b (request.Post attempt g kind missed) told took) log w about begun rest = refusal_same p ((Ask a b (request.Post attempt g kind missed) told took, log) ∷ w) w (record { refuses = refl; path = refl; upto = λ k. kept_same k (path_upto k p w); looked = λ g. refl; got = λ area. refl; met = λ g. refl; reading = refl }) c ∙ rest begun
  unrefused_line (Ask a b (request.Unlock WorkDomain area) told took) log w about begun rest = refusal_same p ((Ask a b (request.Unlock WorkDomain area) told took, log) ∷ w) w (record { refuses = refl; path = refl; upto = λ k. kept_same k (path_upto k p w); looked = λ g. refl; got = λ area. refl; met = λ g. refl; reading = refl }) c ∙ rest begun
  unrefused_line (End a said) log w about begun rest = refusal_same p ((End a said, log) ∷ w) w (record { refuses = refl; path = refl; upto = λ k. kept_same k (path_upto k p w); looked = λ g. refl; got = λ area. refl; met = λ g. refl; reading = refl }) c ∙ rest begun
  unrefused_line (Ask a b (request.Lock WorkDomain area) told took) log w about begun rest = absurd (true≢false (sym begun ∙ about.0))
  unrefused_line (Ask a b (request.Look g) told took) log w about begun rest = absurd (true≢false (sym begun ∙ about.unbegun))
  unrefused_line (Ask a b (request.ReadName g name) told took) log w about begun rest = absurd (true≢false (sym begun ∙ about.unbegun))
  unrefused_line (Ask a b (request.List g) told took) log w about begun rest = absurd (true≢false (sym begun ∙ about.0.unbegun))
  unrefused_line (Ask a b (request.ReadAttr g key) told took) log w about begun rest = absurd (true≢false (sym begun ∙ about.0.unbegun))
  unrefused_line (Ask a b (request.ReadBytes g at len) told took) log w about begun rest = absurd (true≢false (sym begun ∙ about.0.unbegun))
  unrefused_line (Ask a b (request.Lock HealDomain area) told took) log w about begun rest = absurd about
  unrefused_line (Ask a b (request.Unlock HealDomain area) told took) log w about begun rest = absurd about
  unrefused_line (Ask a b (request.ReadAttrs g) told took) log w about begun rest = absurd about
  unrefused_line (Ask a b request.Index told took) log w about begun rest = absurd about
  unrefused_line (Ask a b (request.Mend repair) told took) log w about begun rest = absurd about
  unrefused_line (Ask a b (request.Settle g kind less) told took) log w about begun rest = absurd about
  unrefused_line (HealBegin a g kind) log w about begun rest = absurd about
  unrefused_line (HealEnd a g kind said) log w about begun rest = absurd about
  unrefused_line (Event e) log w about begun rest = absurd about

  -- nothing refuses a work that has begun its attempt
  pub unrefused : (w : Work) → AreAbout p c w → has begins_attempt w ≡ true → refusal p c w ≡ None
  unrefused [] h begun = absurd (true≢false (sym begun))
  unrefused (x ∷ w) h begun = unrefused_line x.0 x.1 w h.0 begun (λ more. unrefused w h.1 more)

  -- the change of a work is its command's
  named_line : (line : Line) (at : ℕ) (w : Work) (change : Change) → KeepsTo p c line at w → change_after (change_of line) (change_by w) ≡ Some change → (change_by w ≡ Some change → (g : Gfid) × (k : ℕ) × (change_named g k c ≡ Some change)) → (g : Gfid) × (k : ℕ) × (change_named g k c ≡ Some change)
  named_line (Begin a d) at w change keeps e rest = (keeps.1.object.gfid, at, keeps.1.named ∙ e)
  named_line (Ask a b r told took) at w change keeps e rest = rest e
  named_line (HealBegin a g kind) at w change keeps e rest = rest e
  named_line (End a said) at w change keeps e rest = rest e
  named_line (HealEnd a g kind said) at w change keeps e rest = rest e
  named_line (Event x) at w change keeps e rest = rest e

  named : (w : Work) (change : Change) → DoKeep p c w → change_by w ≡ Some change → (g : Gfid) × (k : ℕ) × (change_named g k c ≡ Some change)
  named [] change h e = absurd (cc e)
  named (x ∷ w) change h e = named_line x.0 (length x.1) w change h.0 e (λ more. named w change h.1 more)

-- a work with a change has begun it
begun_line : (line : Line) (w : Work) (change : Change) → change_after (change_of line) (change_by w) ≡ Some change → (change_by w ≡ Some change → has begins_attempt w ≡ true) → (begins_attempt line || has begins_attempt w) ≡ true
begun_line (Begin a d) w change e rest = refl
begun_line (Ask a b r told took) w change e rest = rest e
begun_line (HealBegin a g kind) w change e rest = rest e
begun_line (End a said) w change e rest = rest e
begun_line (HealEnd a g kind said) w change e rest = rest e
begun_line (Event x) w change e rest = rest e

pub begun_is : (w : Work) (change : Change) → change_by w ≡ Some change → has begins_attempt w ≡ true
begun_is [] change e = absurd (cc e)
begun_is (x ∷ w) change e = begun_line x.0 w change e (λ more. begun_is w change more)

-- ---- the answer
answered_ok : (p : Plan) (c : Command) (w : Work) (change : Change) (g : Gfid) (k : ℕ) (said : Reply) → change_named g k c ≡ Some change → by_posts p.shape w ≡ Some (reply.Ok good.Done) → answer p c w ≡ Some said → said ≡ reply.Ok good.Done
answered_ok p (command.Write path at bytes) w change g k said names posts e = go (length bytes == 0) e
  where
    go : (none : Bool) → (if none then Some (reply.Ok good.Done) else by_posts p.shape w) ≡ Some said → said ≡ reply.Ok good.Done
    go true e = cc e
    go false e = cc (e, posts)
answered_ok p (command.Cut path len) w change g k said names posts e = cc (e, posts)
answered_ok p (command.SetAttr path key value) w change g k said names posts e = cc (e, posts)
answered_ok p (command.Create path) w change g k said names posts e = cc (e, posts)
answered_ok p (command.Mkdir path) w change g k said names posts e = cc (e, posts)
answered_ok p (command.Unlink path) w change g k said names posts e = cc (e, posts)
answered_ok p (command.Rmdir path) w change g k said names posts e = cc (e, posts)
answered_ok p (command.Read path at len) w change g k said names posts e = absurd (cc names)
answered_ok p (command.Ls path) w change g k said names posts e = absurd (cc names)
answered_ok p (command.Stat path) w change g k said names posts e = absurd (cc names)
answered_ok p (command.GetAttr path key) w change g k said names posts e = absurd (cc names)
answered_ok p (command.Rename from to) w change g k said names posts e = absurd (cc names)

-- a change that enough bricks bore is closed at a majority
pub posted_most : (p : Plan) (c : Command) (w : Work) → (borne : IsBorne p w) → WentThroughPhases p c borne.change w → is_majority p.shape.n (among posted w) ≡ true
posted_most p c w borne carried = majority_grows p.shape.n borne.bricks (among posted w) all_posted (and_left (is_majority p.shape.n borne.bricks) _ borne.enough)
  where
    pre_enough : suffices p.shape (kind_for borne.change) (looked_by (object_of borne.change) w) (among prepared w) ≡ true
    pre_enough = suffices_grows p.shape (kind_for borne.change) (looked_by (object_of borne.change) w) borne.bricks (among prepared w) (λ b m. (borne.parts b m).pre) borne.enough

    applied : IsIn borne.bricks (among applied_at w)
    applied b m = (borne.parts b m).operation (carried.applied_all pre_enough b (borne.parts b m).pre)

    operation_enough : suffices p.shape (kind_for borne.change) (looked_by (object_of borne.change) w) (among applied_at w) ≡ true
    operation_enough = suffices_grows p.shape (kind_for borne.change) (looked_by (object_of borne.change) w) borne.bricks (among applied_at w) applied borne.enough

    all_posted : IsIn borne.bricks (among posted w)
    all_posted b m = (borne.parts b m).post (carried.posted_all pre_enough operation_enough b (applied b m))

-- a rename's lines are in parts, so it isn't answered as a command with one path
pub one_available : (p : Plan) (c : Command) (w : Work) (said : Reply) → AreAbout p c w → DoKeep p c w → IsAnswered p c w said → IsBorne p w → said ≡ reply.Ok good.Done
one_available p c w said about keep ended borne = go ended.caused
  where
    begun : has begins_attempt w ≡ true
    begun = begun_is w borne.change borne.begun

    goes_on : refusal p c w ≡ None
    goes_on = unrefused p c w about begun

    names : (g : Gfid) × (k : ℕ) × (change_named g k c ≡ Some borne.change)
    names = named p c w borne.change keep borne.begun

    most : is_majority p.shape.n (among posted w) ≡ true
    most = posted_most p c w borne (ended.whole.carried borne.change borne.begun)

    posts : by_posts p.shape w ≡ Some (reply.Ok good.Done)
    posts = rw (begun, most) refl

    go : IsCaused p c w said → said ≡ reply.Ok good.Done
    go (Refuses e) = absurd (cc (e, goes_on))
    go (Answers none object at e) = answered_ok p c w borne.change names.0 names.1 said names.2 posts e
    go (Stats none path is object at gives) = absurd (cc (subst (λ (d : Command). change_named names.0 names.1 d ≡ Some borne.change) is names.2))
