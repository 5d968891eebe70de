-- Each line of a removal is about what its command's words name, and each post-op accuses those that missed something.
use Rattle.std.proofs.Common.{◌≡◌, ℕ, ◌-◌, ◌<◌, ◌==◌, ◌&&◌, nat_le, arith, not, Bool, true, false, List, [], Option, Some, None, length, refl, sym, ap, ◌∙◌, subst, if◌then◌else◌}
use Rattle.std.proofs.lemmas.Bool.Decides.{nat_tests}
use Rattle.afr_base.specs.Bricks.{below, is_nothing, lowest, member, minus}
use Rattle.afr_base.specs.Majority.{is_majority}
use Rattle.afr_base.specs.SetLemmas.{lowest_left, member_minus, within_below}
use Rattle.afr_base.specs.declared.ids.ActorId.{ActorId}
use Rattle.afr_base.specs.declared.ids.Gfid.{Gfid}
use Rattle.afr_base.specs.declared.ids.Kind.TheVariants.{Names}
use Rattle.afr_base.specs.declared.ids.NameId.{NameId}
use Rattle.afr_base.specs.declared.ids.Shape.{Shape}
use Rattle.afr_base.proofs.TestLemmas.{one_value}
use Rattle.afr_choice.specs.Verdict.{good_copies, holders_of}
use Rattle.afr_choice.specs.declared.looked.Looked.{Looked}
use Rattle.afr_discipline.specs.Notes.{asked_at}
use Rattle.afr_discipline.specs.declared.register.Step.TheVariants as step
use Rattle.afr_lines.specs.Work.{Work}
use Rattle.afr_lines.specs.declared.answer.Told.{Told}
use Rattle.afr_lines.specs.declared.answer.Told.TheVariants as as_told
use Rattle.afr_lines.specs.declared.line.Line.{Line}
use Rattle.afr_lines.specs.declared.line.Next.TheVariants as next
use Rattle.afr_lines.specs.declared.reply.Reply.{Reply}
use Rattle.afr_lines.specs.declared.reply.Reply.TheVariants as reply
use Rattle.afr_lines.specs.declared.request.Area.{Area}
use Rattle.afr_lines.specs.declared.request.Area.TheVariants.{Name}
use Rattle.afr_object.specs.Tables.{object_of}
use Rattle.afr_plan.specs.declared.command.Command.{Command}
use Rattle.afr_plan.specs.declared.command.Command.TheVariants as command
use Rattle.afr_plan.specs.declared.plan.Plan.{Plan}
use Rattle.afr_model.specs.Answered.{Counts, IsAbout, IsAnswered, MayRead}
use Rattle.afr_model.specs.Keeping.{KeepsTo}
use Rattle.afr_model.specs.Refusals.{by_list, or_else, refusal}
use Rattle.afr_model.specs.Showing.{Path, Reading, among, applied_at, begins_attempt, begun_by, has, looked_by, path_by, prepared, preparing, reading_by, refuses_read}
use Rattle.afr_model.specs.Standing.{area_here, getting, looks_here}
use Rattle.afr_client_entry.specs.Removals.Removal.{Removing, asks, both_held, brick_at, is_over, left, next_at, reply_of}
use Rattle.afr_client_entry.specs.Removals.Sound as sound
use Rattle.afr_client_entry.specs.Removals.Sound.{Ready, Sound}
use Rattle.afr_client_entry.specs.declared.removing.stage.RemovalEnding.{RemovalEnding}
use Rattle.afr_client_entry.specs.declared.removing.stage.RemovalStage.{RemovalStage}
use Rattle.afr_client_entry.specs.declared.removing.stage.RemovalStage.TheVariants.{Locking, Looking, Listing, Beginning, Preparing, Applying, Posting, Closing}
use Rattle.afr_client_entry.proofs.Removals.Facts.{common_right, of_names}
use Rattle.afr_client_transaction.specs.Progress.{number_in}
use Rattle.afr_law_client.specs.About.{BlamesNext}
use Rattle.afr_law_client.specs.Fits.{missed_by}
use Rattle.afr_law_client.specs.Laws.{IsNextLine}
use Rattle.afr_law_client.proofs.Small.{self}
use Rattle.afr_law_client.specs.Removal.RemovalLaws.{RemovalAbout, RemovalBlames, RemovalEnds}
use Rattle.afr_law_client.specs.Removal.RemovalTelling.{During, IsBegun, IsJudged, OnPost, RemovalGoes, Tries, dir_at}
use Rattle.afr_law_client.proofs.Removal.Lost.{held_granted}
use Rattle.afr_law_client.proofs.Removal.Refused.{looks_refuse}

not_before : (n : ℕ) → 0 < n → nat_le n (n - 1) ≡ false
not_before n h = grind (arith, nat_tests, h)

not_before_it : (n : ℕ) → 0 < n → (n == n - 1) ≡ false
not_before_it n h = grind (arith, nat_tests, h)

-- what the looks pass, a majority has answered
reached_of : (x y z : Bool) (views : List _) → (if not x then Some reply.NoQuorum else (if not y then Some reply.FewCopies else (if z then Some (reply.SplitBrain views) else None))) ≡ None → x ≡ true
reached_of true y z views e = refl
reached_of false y z views e = absurd (cc e)

module _ (p : Plan) (path : List NameId) (m : Removing) (w : Work) (s : Sound m) (k : RemovalGoes p path m.change m.register m.child.gfid w) where
  abbrev cmd : Command
  cmd = command.Rmdir path

  abbrev child : Gfid
  child = m.child.gfid

  abbrev whole_child : Area
  whole_child = Name child None

  -- ---- where the path stands
  area_there : area_here cmd (path_by p w) ≡ Some whole_child
  area_there = subst (λ (x : Path). area_here cmd x ≡ Some whole_child) (sym k.led.leads) (rw (not_before_it (length path) k.words.some, self (length path)) refl)

  looks_there : looks_here cmd (path_by p w) ≡ Some child
  looks_there = subst (λ (x : Path). looks_here cmd x ≡ Some child) (sym k.led.leads) (rw (not_before (length path) k.words.some) refl)

  -- the child refuses nothing
  free : has refuses_read w ≡ false → IsJudged p m.change m.child w → (was : Reading) → reading_by p w ≡ was → by_list was ≡ None → refusal p cmd w ≡ None
  free none j was e f =
      looks_refuse p path m.change m.register m.child w s.removes k none j.majority j.enough
      ∙ ap (λ (o : Option Reply). or_else o (by_list (reading_by p w))) j.passes
      ∙ ap by_list e
      ∙ f

  -- the list goes to a good copy of the child
  module _ (ds : sound.During Listing m) (none : has refuses_read w ≡ false) (unbegun : has begins_attempt w ≡ false) (j : IsJudged p m.change m.child w) (was : Reading) (e : reading_by p w ≡ was) (f : by_list was ≡ None) where
    may_list : MayRead p cmd child Names (brick_at Listing m) w
    may_list = record {
      unbegun = unbegun;
      goes_on = free none j was e f;
      answered = reached_of (is_majority p.shape.n (looked_by child w).reached) (is_majority p.shape.n (holders_of (looked_by child w))) (is_nothing (good_copies p.shape (looked_by child w) Names)) (looked_by child w).views j.passes;
      good =
          subst (λ (x : Looked). member (good_copies p.shape x Names) (brick_at Listing m) ≡ true) j.shows
          (subst (λ (x : Shape). member (good_copies x m.child.looked Names) (brick_at Listing m) ≡ true) k.shape ds.2);
    }

  -- the attempt
  attempt_is : (t : IsBegun m.change w) → begun_by w ≡ Some (number_in m.register.begun)
  attempt_is t = let e : m.register.begun ≡ Some t.attempt = k.sets.number ∙ t.number in rw e t.number

  counts : IsBegun m.change w → Counts (object_of m.change) Names w
  counts t = record { change = m.change; begun = t.is_change; object = refl; counted = sym (of_names m.change s.removes) }

  -- ---- who is accused
  module _ (t : Tries p m.change m.child w) (d : OnPost p m.change m.child.takers (asked_at m.register step.Posts) w) where
    by_pre : (c : ℕ) → member (among applied_at w) c ≡ false → member (among preparing w) c ≡ true → (f : Bool) → member (among prepared w) c ≡ f → member (missed_by (object_of m.change) w) c ≡ true
    by_pre c none asked false e = k.excused.pre (object_of m.change) c asked e
    by_pre c none asked true e = k.excused.apply (object_of m.change) c (d.apply_all c e) none

    by_taker : (c : ℕ) → c < p.shape.n → member (among applied_at w) c ≡ false → (f : Bool) → member m.child.takers c ≡ f → member (missed_by (object_of m.change) w) c ≡ true
    by_taker c small none false e = t.judged.others c small e
    by_taker c small none true e = by_pre c none (d.pre_all c e) (member (among prepared w) c) refl

    why : (c : ℕ) → member (minus (below p.shape.n) (among applied_at w)) c ≡ true → member (missed_by (object_of m.change) w) c ≡ true
    why c is = apart (member (among applied_at w) c) refl (member (below p.shape.n) c) refl (sym (member_minus (below p.shape.n) (among applied_at w) c) ∙ is)
      where
        apart : (did : Bool) → member (among applied_at w) c ≡ did → (within : Bool) → member (below p.shape.n) c ≡ within → (not did && within) ≡ true → member (missed_by (object_of m.change) w) c ≡ true
        apart true e within f h = absurd (cc h)
        apart false e false f h = absurd (cc h)
        apart false e true f h = by_taker c (within_below p.shape.n c f) e (member m.child.takers c) refl

    blames_post : Ready Posting m → BlamesNext p w (asks Posting m)
    blames_post e = record {
      change = m.change;
      begun = attempt_is t.begun;
      is_change = t.begun.is_change;
      object = refl;
      counted = sym (of_names m.change s.removes);
      once = subst (λ (x : List ℕ). member x asked ≡ false) d.post to_ask.0;
      did = subst (λ (x : List ℕ). member x asked ≡ true) k.sets.applied to_ask.1;
      enough = d.enough;
      others = rw (k.shape, k.sets.applied) refl;
      why = λ c. rw (k.shape, k.sets.applied) (why c);
    }
      where
        asked : ℕ
        asked = lowest (left Posting m)

        to_ask : (member (asked_at m.register step.Posts) asked ≡ false) × (member m.register.done asked ≡ true)
        to_ask = lowest_left m.register.done (asked_at m.register step.Posts) e

-- ---- each line
module _ (p : Plan) (path : List NameId) (m : Removing) (w : Work) (s : Sound m) (a : ActorId) (told : Told) (log : List Line) where
  abbrev Holds : Line → Type 0
  Holds line = IsAbout p (command.Rmdir path) line w × KeepsTo p (command.Rmdir path) line (length log) w

  about_at : (stage : RemovalStage) (line : Line) → During stage p path m w → sound.During stage m → Ready stage m → IsNextLine a (next_at stage m) told line → Holds line
  about_at Locking line (k, d) ds e (took, is) = subst Holds (sym is) ((d.opened.idle.unbegun, area_there p path m w s k), tt)
  about_at Looking line (k, d) ds e (took, is) = subst Holds (sym is) (
    record {
      unbegun = d.opened.idle.unbegun;
      unread = d.opened.unread;
      object = looks_there p path m w s k;
      locked = λ area here. subst (λ (x : Area). member (among (getting x) w) (brick_at Looking m) ≡ true) (one_value (Name m.child.gfid None) area (sym (area_there p path m w s k) ∙ here))
          (held_granted (Name m.child.gfid None) w (brick_at Looking m) (sym (d.holds.of_child (brick_at Looking m)) ∙ common_right m.register.held m.register.second_held _ (lowest_left (both_held m.register) m.child.look_asked e).1));
    },
    tt,
  )
  about_at Listing line (k, opened, j) ds e (took, is) = subst Holds (sym is) (
    (may_list p path m w s k ds opened.unrefused opened.idle.unbegun j _ opened.unread refl, record { object = dir_at m.child.gfid; led = k.led.leads; named = refl }),
    tt,
  )
  about_at Beginning line (k, idle, empty, j) ds e is = subst Holds (sym is) (
    (free p path m w s k empty.unrefused j _ empty.empty refl, ((dir_at m.child.gfid, k.led.leads), empty.empty)),
    (idle.unbegun, record { object = dir_at (object_of m.change); led = k.led.place; named = k.words.named (length log) }),
  )
  about_at Preparing line (k, t, d) ds e (took, is) = subst Holds (sym is) (counts p path m w s k t.begun, tt)
  about_at Applying line (k, t, d) ds e (took, is) = subst Holds (sym is) (attempt_is p path m w s k t.begun, tt)
  about_at Posting line (k, t, d) ds e (took, is) = subst Holds (sym is) ((attempt_is p path m w s k t.begun, counts p path m w s k t.begun), tt)
  about_at (Closing why) line d ds e is = go (is_over (Closing why) m) is
    where
      go : (x : Bool) → IsNextLine a (if x then next.End (reply_of why m.register) else asks (Closing why) m) told line → Holds line
      go true is = absurd is
      go false (took, is) = subst Holds (sym is) (tt, tt)

  blames_at : (stage : RemovalStage) → During stage p path m w → Ready stage m → BlamesNext p w (next_at stage m)
  blames_at Locking d e = tt
  blames_at Looking d e = tt
  blames_at Listing d e = tt
  blames_at Beginning d e = tt
  blames_at Preparing d e = tt
  blames_at Applying d e = tt
  blames_at Posting (k, t, d) e = blames_post p path m w s k t d e
  blames_at (Closing why) d e = go (is_over (Closing why) m)
    where
      go : (x : Bool) → BlamesNext p w (if x then next.End (reply_of why m.register) else asks (Closing why) m)
      go true = tt
      go false = tt

pub about : RemovalAbout
about p path m w a told line log s t is = about_at p path m w s a told log m.stage line t s.during s.ready is

pub blames : RemovalBlames
blames p path m w s t = blames_at p path m w s (record { 0 = 0 }) as_told.Done [] m.stage t s.ready

pub ends : RemovalEnds
ends p path m w said t e = go m.stage t e
  where
    over : (why : RemovalEnding) (x : Bool) → IsAnswered p (command.Rmdir path) w (reply_of why m.register) → (if x then next.End (reply_of why m.register) else asks (Closing why) m) ≡ next.End said → IsAnswered p (command.Rmdir path) w said
    over why true k e = let same : reply_of why m.register ≡ said = cc e in subst (λ (y : Reply). IsAnswered p (command.Rmdir path) w y) same k
    over why false k e = absurd (cc e)

    go : (stage : RemovalStage) → During stage p path m w → next_at stage m ≡ next.End said → IsAnswered p (command.Rmdir path) w said
    go Locking d e = absurd (cc e)
    go Looking d e = absurd (cc e)
    go Listing d e = absurd (cc e)
    go Beginning d e = absurd (cc e)
    go Preparing d e = absurd (cc e)
    go Applying d e = absurd (cc e)
    go Posting d e = absurd (cc e)
    go (Closing why) d e = over why (is_over (Closing why) m) d.answered e
