-- An unlock leaves the answer of a removal as it was.
use Rattle.std.proofs.Common.{◌≡◌, ℕ, ◌-◌, ◌||◌, arith, Bool, true, false, List, ◌∷◌, Option, Some, None, length, refl, sym, ap, ◌∙◌, subst, if◌then◌else◌, ◌⊎◌}
use Rattle.std.proofs.Math.Bool.{and-false}
use Rattle.afr_base.specs.Bricks.{is_nothing, member}
use Rattle.afr_base.specs.Majority.{is_majority}
use Rattle.afr_base.specs.declared.ids.ActorId.{ActorId}
use Rattle.afr_base.specs.declared.ids.BrickId.{BrickId}
use Rattle.afr_base.specs.declared.ids.Gfid.{Gfid}
use Rattle.afr_base.specs.declared.ids.Kind.TheVariants.{Names}
use Rattle.afr_base.specs.declared.ids.NameId.{NameId}
use Rattle.afr_base.proofs.TestLemmas.{not_below_itself}
use Rattle.afr_discipline.specs.declared.register.Register.{Register}
use Rattle.afr_lines.specs.Told.{told_by}
use Rattle.afr_lines.specs.Work.{Work}
use Rattle.afr_lines.specs.declared.answer.Answer.{Answer}
use Rattle.afr_lines.specs.declared.answer.Told.{Told}
use Rattle.afr_lines.specs.declared.line.Line.{Line}
use Rattle.afr_lines.specs.declared.line.Line.TheVariants.{Ask}
use Rattle.afr_lines.specs.declared.reply.Reply.{Reply}
use Rattle.afr_lines.specs.declared.request.Area.{Area}
use Rattle.afr_lines.specs.declared.request.Area.TheVariants.{Name}
use Rattle.afr_lines.specs.declared.request.Request.TheVariants as request
use Rattle.afr_object.specs.Tables.{object_of}
use Rattle.afr_lines.specs.declared.lock.Domain.TheVariants.{Work as WorkDomain}
use Rattle.afr_plan.specs.declared.command.Command.{Command}
use Rattle.afr_plan.specs.declared.command.Command.TheVariants as command
use Rattle.afr_plan.specs.declared.plan.Plan.{Plan}
use Rattle.afr_model.specs.Answered.{Answers, IsAnswered, IsCaused, Refuses, Stats}
use Rattle.afr_model.specs.Commands.{area_on}
use Rattle.afr_model.specs.Refusals.{both_locked, by_area, by_child, by_list, by_name, by_path, by_views, or_else, read_refused, refusal}
use Rattle.afr_model.specs.Showing.{Path, At, among, begins_attempt, has, is_faulted, looked_by, path_by, reading_by, refuses_read}
use Rattle.afr_model.specs.Skipped.{AsksAll, SkipsNothing, takers}
use Rattle.afr_model.specs.Standing.{area_here, getting, looks_here, place_by, suffices}
use Rattle.afr_client_entry.specs.Removals.Removal.{Removing, answered, brick_at, left, moved, on_stage, reply_of, request_at, sets_after, unlocks}
use Rattle.afr_client_entry.specs.Removals.Sound.{Sound}
use Rattle.afr_client_entry.specs.declared.removing.stage.RemovalEnding.{RemovalEnding}
use Rattle.afr_client_entry.specs.declared.removing.stage.RemovalEnding.TheVariants.{Counted, NoQuorum, FewCopies, SplitBrain, NotEmpty, Failed}
use Rattle.afr_client_entry.specs.declared.removing.stage.RemovalStage.TheVariants.{Closing}
use Rattle.afr_client_transaction.proofs.Requests.{after_outside, noted_is}
use Rattle.afr_law_client.proofs.Leaves.{LeavesAll, unlock_leaves}
use Rattle.afr_law_client.specs.Removal.RemovalTelling.{HasLed, OnlyUnlocksLeft, RemovalTells, dir_at}
use Rattle.afr_law_client.proofs.Removal.Lines.{led_ask}
use Rattle.afr_law_client.proofs.Removal.Refused.{first_of}

-- what refuses an rmdir by its path
at_led : (p : Plan) (path : List NameId) (g child : Gfid) (w : Work) → HasLed p path g child w
    → refusal p (command.Rmdir path) w ≡ or_else (read_refused w) (or_else (by_area p.shape Names (area_on g (command.Rmdir path)) w) (by_child p (command.Rmdir path) (dir_at g) (dir_at child) w))
at_led p path g child w l =
    ap (λ (x : Path). or_else (read_refused w) (by_path p (command.Rmdir path) x w)) l.place
    ∙ ap (λ (x : Option Reply). or_else (read_refused w) x)
    (at_directory
    ∙ ap (λ (x : Path). or_else (by_area p.shape Names (area_on g (command.Rmdir path)) w) (by_name p (command.Rmdir path) (dir_at g) x w)) l.leads
    ∙ ap (λ (x : Option Reply). or_else (by_area p.shape Names (area_on g (command.Rmdir path)) w) x) at_child)
  where
    at_directory : by_path p (command.Rmdir path) (At (length path - 1) (dir_at g)) w
        ≡ or_else (by_area p.shape Names (area_on g (command.Rmdir path)) w) (by_name p (command.Rmdir path) (dir_at g) (path_by p w) w)
    at_directory = rw (not_below_itself (length path - 1)) refl

    at_child : by_name p (command.Rmdir path) (dir_at g) (At (length path) (dir_at child)) w ≡ by_child p (command.Rmdir path) (dir_at g) (dir_at child) w
    at_child = rw (not_below_itself (length path)) refl

module _ (p : Plan) (path : List NameId) (g child : Gfid) (a : ActorId) (b : BrickId) (area : Area) (told : Told) (took : Bool) (log : List Line) (w : Work) (l : HasLed p path g child w) where
  abbrev cmd : Command
  cmd = command.Rmdir path

  abbrev more : Work
  more = (Ask a b (request.Unlock WorkDomain area) told took, log) ∷ w

  pub led : HasLed p path g child more
  led = led_ask p path g child log w l a b (request.Unlock WorkDomain area) told took refl

  place_same : place_by p cmd more ≡ place_by p cmd w
  place_same = led.place ∙ sym l.place

  both_same : (o : Option Area) (dir of : Gfid) → both_locked o dir of more ≡ both_locked o dir of w
  both_same None dir of = refl
  both_same (Some name) dir of = refl

  area_same : (o : Option Area) → by_area p.shape Names o more ≡ by_area p.shape Names o w
  area_same None = refl
  area_same (Some name) = refl

  all_same : (o : Option Gfid) (s : Option Area) → AsksAll p.shape.n o s w → AsksAll p.shape.n o s more
  all_same o (Some name) k = λ c small. k c small
  all_same (Some h) None k = λ c small. k c small
  all_same None None k = absurd k

  child_same : by_child p cmd (dir_at g) (dir_at child) more ≡ by_child p cmd (dir_at g) (dir_at child) w
  child_same =
      ap (λ (s : List ℕ). first_of (is_majority p.shape.n (among (getting (Name child None)) w)) (suffices p.shape Names (looked_by g w) s) (or_else (by_views p.shape Names (looked_by child w)) (by_list (reading_by p w))))
      (both_same (area_on g cmd) g child)

  refusal_same : refusal p cmd more ≡ refusal p cmd w
  refusal_same =
      at_led p path g child more led
      ∙ ap (λ (x : Option Reply). or_else (read_refused w) (or_else x (by_child p cmd (dir_at g) (dir_at child) more))) (area_same (area_on g cmd))
      ∙ ap (λ (x : Option Reply). or_else (read_refused w) (or_else (by_area p.shape Names (area_on g cmd) w) x)) child_same
      ∙ sym (at_led p path g child w l)

  faulted_same : is_faulted more ≡ is_faulted w
  faulted_same = ap (λ (x : Bool). x || is_faulted w) (and-false (has begins_attempt w))

  takers_same : (h : Gfid) → takers cmd h (path_by p w) more ≡ takers cmd h (path_by p w) w
  takers_same h = ap (λ (x : Path). takers cmd h x more) l.leads ∙ both_same (area_on h cmd) h child ∙ sym (ap (λ (x : Path). takers cmd h x w) l.leads)

  skips_same : SkipsNothing p cmd w → SkipsNothing p cmd more
  skips_same k = record {
    looked = k.looked;
    locked = λ name part asked. let h = k.locked name part asked in record { all = h.all; looked = h.looked };
    child = λ is read d e name place leads found named. let h = k.child is read d e name (sym place_same ∙ place) leads found named in record { all = h.all; looked = h.looked };
    carried = λ change e.
        let h = k.carried change e in
        record { prepared_all = λ c m. h.prepared_all c (subst (λ (s : List ℕ). member s c ≡ true) (takers_same (object_of change)) m); applied_all = h.applied_all; posted_all = h.posted_all };
  }

  caused_same : (said : Reply) → IsCaused p cmd w said → IsCaused p cmd more said
  caused_same said (Refuses e) = Refuses (refusal_same ∙ e)
  caused_same said (Answers none object place e) = Answers (refusal_same ∙ none) object (place_same ∙ place) e
  caused_same said (Stats none other e object place stat) = absurd (cc e)

  pub answered_same : (said : Reply) → IsAnswered p cmd w said → IsAnswered p cmd more said
  answered_same said k = record {
    caused = caused_same said k.caused;
    asked = λ views. subst (λ (x : Path). AsksAll p.shape.n (looks_here cmd x) (area_here cmd x) more) (sym place_same) (all_same (looks_here cmd (place_by p cmd w)) (area_here cmd (place_by p cmd w)) (k.asked views));
    failed = λ e. subst (λ (x : Bool). (has begins_attempt w ≡ true) × (x ≡ true) ⊎ (has refuses_read w ≡ true)) (sym faulted_same) (k.failed e);
    undisturbed = λ begun none. k.undisturbed begun (sym faulted_same ∙ none);
    whole = skips_same k.whole;
  }

-- ---- an unlock of a removal
module _ (p : Plan) (path : List NameId) (m : Removing) (w : Work) (a : ActorId) (chosen : BrickId) (heard : Answer) (took : Bool) (log : List Line) (s : Sound m) (why : RemovalEnding) (k : OnlyUnlocksLeft p path (object_of m.change) m.child.gfid m.register why w) where
  abbrev b : BrickId
  b = record { 0 = brick_at (Closing why) m }

  abbrev area : Area
  area = unlocks m.change m.register m.child

  abbrev q : Register
  q = after_outside m.register b.0 (request.Unlock WorkDomain area) (told_by heard)

  abbrev now : Removing
  now = sets_after (Closing why) b.0 (told_by heard) q m

  abbrev later : Work
  later = (Ask a b (request.Unlock WorkDomain area) (told_by heard) took, log) ∷ w

  left_by : LeavesAll q m.register
  left_by = unlock_leaves m.register b.0 area (told_by heard)

  said_same : (end : RemovalEnding) → reply_of end m.register ≡ reply_of end q
  said_same Counted = rw (left_by.shape_is, left_by.post_is) refl
  said_same NoQuorum = refl
  said_same FewCopies = refl
  said_same (SplitBrain views) = refl
  said_same NotEmpty = refl
  said_same Failed = refl

  over : OnlyUnlocksLeft p path (object_of m.change) m.child.gfid q why later
  over = record {
    led = led p path (object_of m.change) m.child.gfid a b area (told_by heard) took log w k.led;
    answered = subst (λ (x : Reply). IsAnswered p (command.Rmdir path) later x) (said_same why) (answered_same p path (object_of m.change) m.child.gfid a b area (told_by heard) took log w k.led (reply_of why m.register) k.answered);
  }

  pub told_unlock : RemovalTells p path (answered chosen (Closing why) heard (length log) m) later
  told_unlock =
      subst (λ (x : Register). RemovalTells p path (moved chosen (Closing why) b.0 heard x m) later) (sym (noted_is m.register (length log) b.0 (request_at (Closing why) m) (told_by heard) s.base.outside))
      (go (is_nothing (left (Closing why) now)))
    where
      go : (e : Bool) → RemovalTells p path (on_stage (if e then Closing why else Closing why) now) later
      go true = over
      go false = over
