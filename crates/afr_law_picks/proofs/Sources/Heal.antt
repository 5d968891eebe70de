-- One line of a heal keeps it to its source.
use Rattle.std.proofs.Common.{◌≡◌, ◌∙◌, ℕ, Bool, true, false, List, ◌∷◌, Option, None, Some, refl, sym, ap, subst, if◌then◌else◌}
use Rattle.afr_base.specs.declared.ids.ActorId.{ActorId}
use Rattle.afr_base.specs.declared.ids.BrickId.{BrickId}
use Rattle.afr_base.specs.declared.ids.Gfid.{Gfid}
use Rattle.afr_base.specs.declared.ids.Kind.{Kind}
use Rattle.afr_base.specs.declared.ids.Kind.TheVariants.{Attrs, Bytes, Names}
use Rattle.afr_base.specs.declared.ids.Shape.{Shape}
use Rattle.afr_choice.specs.declared.looked.Looked.{Looked}
use Rattle.afr_discipline.specs.Stands.{heal_part_of, seen_as, step_of}
use Rattle.afr_discipline.specs.declared.register.HealPart.{HealPart as Part}
use Rattle.afr_heal.proofs.Parts.{not_both}
use Rattle.afr_heal.specs.Engine.{Ask as Asks, Begins}
use Rattle.afr_law_heal.specs.HealTelling.{HealTells}
use Rattle.afr_lines.specs.Told.{told_by}
use Rattle.afr_lines.specs.Work.{Work}
use Rattle.afr_lines.specs.declared.answer.Answer.{Answer}
use Rattle.afr_lines.specs.declared.answer.Told.{Told}
use Rattle.afr_lines.specs.declared.line.Line.{Line}
use Rattle.afr_lines.specs.declared.line.Line.TheVariants.{Ask, HealBegin}
use Rattle.afr_lines.specs.declared.reply.HealReply.{HealReply}
use Rattle.afr_lines.specs.declared.reply.HealReply.TheVariants as healed
use Rattle.afr_lines.specs.declared.request.Request.{Request}
use Rattle.afr_model.specs.Chosen.{AllKeep, Picks, candidates_of}
use Rattle.afr_model.specs.HealReplies.{by_first, by_moved, by_owner, is_settled, or_else}
use Rattle.afr_model.specs.Healing.{First, busy_after, busy_by, first_by}
use Rattle.afr_model.specs.Moved.{moved_by}
use Rattle.afr_model_moves.specs.Keeps.{keeps_in}
use Rattle.afr_model_moves.specs.Register as exact
use Rattle.afr_model_moves.specs.Register.{is_opening, over}
use Rattle.afr_heal_machine.specs.Healing.{Healing as Heal, IsHealing, answered, begun, coming}
use Rattle.afr_heal_machine.specs.Outcome.{cause, outcome_after, reply_of}
use Rattle.afr_heal_machine.specs.Source.{is_found}
use Rattle.afr_heal_machine.specs.declared.outcome.HealOutcome.{HealOutcome}
use Rattle.afr_heal_machine.specs.declared.outcome.HealOutcome.TheVariants.{Busy, Nothing, Short, Split}
use Rattle.afr_law_picks.proofs.Sources.Coming.{IsOnward, LocksNext, LooksNext, OnwardNext, UnlocksNext, lock_lists, look_lists, unlock_lists}
use Rattle.afr_law_picks.proofs.Sources.Early.{IsEarly, IsEarlyLook, IsQuiet, early_by_lock, early_by_look, found_is, past_over, quiet_by_unlock, unfound}
use Rattle.afr_law_picks.proofs.Sources.Register.{stays_broken}
use Rattle.afr_law_picks.proofs.Sources.Stage.{AtFirstLooks, AtLocks, IsLocking, IsLooking, IsLost, IsPast, Lost, Past, Stage, stage_of}
use Rattle.afr_law_picks.proofs.Sources.Work.{all_keep, is_index, first_same, first_unbegun, not_on, not_on_begun, still_free}
use Rattle.afr_law_picks.specs.Sources.Chosen.{HealsFrom, went_on}
use Rattle.afr_law_picks.specs.Sources.Sources.{has_chosen, has_looked, is_later, picked_by}

-- ---- by whether it has a source
abbrev pub KeptBy : Picks → Shape → Kind → Bool → ℕ → Work → Type 0
KeptBy picks shape kind true s w = picks (candidates_of shape kind (first_by w).looked) s × AllKeep s w
KeptBy picks shape kind false s w = went_on w ≡ false

pub kept_source : (picks : Picks) (shape : Shape) (kind : Kind) (c : Bool) (s : ℕ) (w : Work) → ((kind ≡ Names → ⊥) → KeptBy picks shape kind c s w) → HealsFrom picks shape kind (picked_by kind c s) w
kept_source picks shape Names true s w k = tt
kept_source picks shape Names false s w k = tt
kept_source picks shape Bytes true s w k = k (λ e. cc e)
kept_source picks shape Bytes false s w k = k (λ e. cc e)
kept_source picks shape Attrs true s w k = k (λ e. cc e)
kept_source picks shape Attrs false s w k = k (λ e. cc e)

pub source_kept : (picks : Picks) (shape : Shape) (kind : Kind) (c : Bool) (s : ℕ) (w : Work) → (kind ≡ Names → ⊥) → HealsFrom picks shape kind (picked_by kind c s) w → KeptBy picks shape kind c s w
source_kept picks shape Names c s w never k = absurd (never refl)
source_kept picks shape Bytes true s w never k = k
source_kept picks shape Bytes false s w never k = k
source_kept picks shape Attrs true s w never k = k
source_kept picks shape Attrs false s w never k = k

module _ (picks : Picks) (shape : Shape) (kind : Kind) (s : ℕ) (w : Work) where
  none_kept : (c : Bool) → c ≡ false → KeptBy picks shape kind c s w → went_on w ≡ false
  none_kept false e k = k
  none_kept true e k = absurd (cc e)

  kept_none : (c : Bool) → c ≡ false → went_on w ≡ false → KeptBy picks shape kind c s w
  kept_none false e k = k
  kept_none true e k = absurd (cc e)

  some_kept : (c : Bool) → c ≡ true → KeptBy picks shape kind c s w → picks (candidates_of shape kind (first_by w).looked) s × AllKeep s w
  some_kept true e k = k
  some_kept false e k = absurd (cc e)

  kept_some : (c : Bool) → c ≡ true → picks (candidates_of shape kind (first_by w).looked) s × AllKeep s w → KeptBy picks shape kind c s w
  kept_some true e k = k
  kept_some false e k = absurd (cc e)

-- ---- a heal that its first looks didn't end has no such reply
ends_later : (busy : Option ActorId) (first : Option HealReply) (settled : Bool) (m : Option ℕ) (o : HealOutcome) (seen : Looked) → busy ≡ None → first ≡ None
    → or_else (by_owner busy) (or_else first (Some (if settled then healed.Settled else by_moved m))) ≡ Some (reply_of o seen) → is_later o ≡ true
ends_later (Some x) first settled m o seen e f h = absurd (cc e)
ends_later None (Some r) settled m o seen e f h = absurd (cc f)
ends_later None None true m (Busy owner) seen e f h = absurd (cc h)
ends_later None None true m Short seen e f h = absurd (cc h)
ends_later None None true m Nothing seen e f h = absurd (cc h)
ends_later None None true m Split seen e f h = absurd (cc h)
ends_later None None false None (Busy owner) seen e f h = absurd (cc h)
ends_later None None false None Short seen e f h = absurd (cc h)
ends_later None None false None Nothing seen e f h = absurd (cc h)
ends_later None None false None Split seen e f h = absurd (cc h)
ends_later None None false (Some x) (Busy owner) seen e f h = absurd (cc h)
ends_later None None false (Some x) Short seen e f h = absurd (cc h)
ends_later None None false (Some x) Nothing seen e f h = absurd (cc h)
ends_later None None false (Some x) Split seen e f h = absurd (cc h)
ends_later None None settled m o seen e f h = refl

ended_by : (was now : Bool) (before caused : HealOutcome) → was ≡ false → now ≡ true → outcome_after was now before caused ≡ caused
ended_by false true before caused e f = refl
ended_by false false before caused e f = absurd (cc f)
ended_by true now before caused e f = absurd (cc e)

ended_before : (was now : Bool) (before caused : HealOutcome) → was ≡ true → outcome_after was now before caused ≡ before
ended_before true now before caused e = refl
ended_before false now before caused e = absurd (cc e)

onward_lists : (s : ℕ) (kind : Kind) (part : exact.HealPart) (b : ℕ) (asked : Request) → IsOnward s kind part b asked → is_index asked ≡ false
onward_lists s kind part b asked on = on.lists

-- ---- where a heal stands
abbrev pub StageOf : Heal → Work → Type 0
StageOf h w = Stage h.register.shape (seen_as h.register) h.register.seen h.register.looked h.source.0 h.gfid h.kind h.outcome w

abbrev pub PastOf : Heal → Work → Type 0
PastOf h w = IsPast h.register.shape (seen_as h.register) h.register.seen h.register.looked h.source.0 h.gfid h.kind h.outcome w

pub stage_heal : (h : Heal) (w : Work) → IsHealing h → HealTells h.register h.source.0 h.gfid h.kind h.outcome w → StageOf h w
stage_heal h w sound tells =
    stage_of h.register.shape (seen_as h.register) h.register.seen h.register.looked h.source.0 h.gfid h.kind h.outcome w sound.heals.few
    (record { first_reached = refl; first_views = refl; reached = refl; views = refl; five_first = sound.heals.five.seen; five = sound.heals.five.looked }) sound.heals.standing tells.at

-- a heal asks for no list
pub asks_no_list : (h : Heal) (w : Work) (b : ℕ) (asked : Request) → StageOf h w → coming h ≡ Asks b asked → is_index asked ≡ false
asks_no_list h w b asked (AtLocks k) e = lock_lists k.begins b asked (subst (LocksNext k.begins) e k.next)
asks_no_list h w b asked (AtFirstLooks k) e = look_lists b asked (subst LooksNext e k.next)
asks_no_list h w b asked (Past k) e = onward_lists h.source.0 h.kind (seen_as h.register).part b asked (subst (OnwardNext h.source.0 h.kind (seen_as h.register).part k.begins) e k.next)
asks_no_list h w b asked (Lost k) e = unlock_lists b asked (subst UnlocksNext e k.next)

whole_chosen : (h : Heal) (c : Bool) → h.register.broken ≡ false → has_looked h.register ≡ c → has_chosen h ≡ c
whole_chosen h c whole e = rw whole e

lost_chosen : (h : Heal) (c : Bool) → h.register.broken ≡ true → is_later h.outcome ≡ c → has_chosen h ≡ c
lost_chosen h c lost e = rw lost e

module _ (picks : Picks) (shape : Shape) (h : Heal) (w : Work) (never : h.kind ≡ Names → ⊥) (shape_is : h.register.shape ≡ shape) (stage : StageOf h w) (kept : KeptBy picks shape h.kind (has_chosen h) h.source.0 w) where
  -- ---- a request
  module _ (a : ActorId) (b : ℕ) (asked : Request) (e : coming h ≡ Asks b asked) (answer : Answer) (t : ℕ) (chosen : BrickId) (took : Bool) (log : List Line) where
    abbrev new : Heal
    new = answered h b asked answer t chosen

    abbrev told : Told
    told = told_by answer

    abbrev line : Line
    line = Ask a (record { 0 = b }) asked told took

    abbrev more : Work
    more = (line, log) ∷ w

    module _ (new_shape : new.register.shape ≡ shape) (after : StageOf new more) (picked : is_found h.register.shape.n (seen_as new.register) ≡ true → PastOf new more → picks (candidates_of shape h.kind new.register.seen) chosen.0) where
      abbrev Kept : Type 0
      Kept = KeptBy picks shape h.kind (has_chosen new) new.source.0 more

      -- what the register is while the heal isn't broken, and how it ends
      ended_is : h.register.broken ≡ false → new.register.broken ≡ true → new.outcome ≡ cause h.register.shape h.kind (heal_part_of h.register.part) (heal_part_of new.register.part) h.source.0 new.register.seen new.register.looked asked told
      ended_is whole lost = ended_by h.register.broken new.register.broken h.outcome _ whole lost

      lost_same : h.register.broken ≡ true → new.outcome ≡ h.outcome
      lost_same lost = ended_before h.register.broken new.register.broken h.outcome _ lost

      same_source : is_found h.register.shape.n (seen_as new.register) ≡ false → new.source ≡ h.source
      same_source none = ap (λ (c : Bool). if c then chosen else h.source) none

      -- ---- before there is a source
      module _ (whole : h.register.broken ≡ false) (opening : is_opening (heal_part_of h.register.part) ≡ true) (early : IsEarly a h.register t b told took asked) where
        opening_still : is_opening (heal_part_of new.register.part) ≡ true
        opening_still = ap (λ (part : Part). is_opening (heal_part_of part)) early.part ∙ opening

        lost_early : new.register.broken ≡ true → has_chosen new ≡ false
        lost_early lost = lost_chosen new false lost (ap is_later (ended_is whole lost) ∙ early.ends h.register.shape h.kind (heal_part_of h.register.part) (heal_part_of new.register.part) h.source.0 new.register.seen new.register.looked opening_still)

        kept_early : has_chosen h ≡ false → has_chosen new ≡ false → Kept
        kept_early none still = kept_none picks shape h.kind new.source.0 more (has_chosen new) still (not_on a (record { 0 = b }) asked told took log w early.quiet (none_kept picks shape h.kind h.source.0 w (has_chosen h) none kept))

      by_locks : IsLocking h.register.shape (seen_as h.register) h.register.seen h.register.looked h.source.0 h.gfid h.kind h.outcome w → Kept
      by_locks k = kept_early k.whole k.opening early (whole_chosen h false k.whole k.before) (by after)
        where
          early : IsEarly a h.register t b told took asked
          early = early_by_lock a h.register t b told took asked k.begins k.step (subst (LocksNext k.begins) e k.next)

          by : StageOf new more → has_chosen new ≡ false
          by (AtLocks l) = whole_chosen new false l.whole l.before
          by (AtFirstLooks l) = whole_chosen new false l.whole l.before
          by (Past l) = absurd (not_both (first_by more).begun l.after.begun (first_unbegun (first_by w) a (record { 0 = b }) asked told took k.unbegun))
          by (Lost l) = lost_early k.whole k.opening early l.lost

      by_looks : IsLooking h.register.shape (seen_as h.register) h.register.seen h.register.looked h.source.0 h.gfid h.kind h.outcome w → Kept
      by_looks k = by after
        where
          is_look : IsEarlyLook a h.register t b told took asked
          is_look = early_by_look a h.register t b told took asked k.inside (subst LooksNext e k.next)

          none : has_chosen h ≡ false
          none = whole_chosen h false k.whole k.before

          not_yet : went_on w ≡ false
          not_yet = none_kept picks shape h.kind h.source.0 w (has_chosen h) none kept

          step : (seen_as new.register).step ≡ exact.Looks
          step = ap step_of is_look.step

          opening : is_opening (seen_as new.register).part ≡ true
          opening = opening_still k.whole k.opening is_look.early

          by : StageOf new more → Kept
          by (AtLocks l) = kept_early k.whole k.opening is_look.early none (whole_chosen new false l.whole l.before)
          by (AtFirstLooks l) = kept_early k.whole k.opening is_look.early none (whole_chosen new false l.whole l.before)
          by (Lost l) = kept_early k.whole k.opening is_look.early none (lost_early k.whole k.opening is_look.early l.lost)
          by (Past l) =
              let over_new = past_over new.register.shape.n (seen_as new.register) (keeps_in new.register.shape) step opening l.past in
              let over_here : over h.register.shape.n (seen_as new.register).law.held (seen_as new.register).asked ≡ true =
              subst (λ (shape : Shape). over shape.n (seen_as new.register).law.held (seen_as new.register).asked ≡ true) (new_shape ∙ sym shape_is) over_new in
              let found = found_is h.register.shape.n (seen_as new.register) l.whole step opening over_here in
              let source : new.source ≡ chosen = ap (λ (c : Bool). if c then chosen else h.source) found in
              kept_some picks shape h.kind new.source.0 more (has_chosen new) (whole_chosen new true l.whole l.past) (
                subst (λ (looked : Looked). picks (candidates_of shape h.kind looked) new.source.0) (sym l.after.first) (subst (λ (x : BrickId). picks (candidates_of shape h.kind new.register.seen) x.0) (sym source) (picked found l)),
                all_keep new.source.0 more (not_on a (record { 0 = b }) asked told took log w is_look.early.quiet not_yet),
              )

      -- ---- once there is one
      goes_with : has_chosen h ≡ true → has_chosen new ≡ true → new.source ≡ h.source → (first_by more).looked ≡ (first_by w).looked → AllKeep h.source.0 more → Kept
      goes_with some still same looks keeps =
          let was = some_kept picks shape h.kind h.source.0 w (has_chosen h) some kept in
          kept_some picks shape h.kind new.source.0 more (has_chosen new) still (subst (λ (x : BrickId). picks (candidates_of shape h.kind (first_by more).looked) x.0 × AllKeep x.0 more) (sym same)
          (subst (λ (looked : Looked). picks (candidates_of shape h.kind looked) h.source.0) (sym looks) was.0, keeps))

      by_past : IsPast h.register.shape (seen_as h.register) h.register.seen h.register.looked h.source.0 h.gfid h.kind h.outcome w → Kept
      by_past k = by after
        where
          on : IsOnward h.source.0 h.kind (seen_as h.register).part b asked
          on = subst (OnwardNext h.source.0 h.kind (seen_as h.register).part k.begins) e k.next

          first : first_by more ≡ record (first_by w) { still = false }
          first = first_same (first_by w) a (record { 0 = b }) asked told took k.after.begun (λ look. k.after.still (on.looks look))

          some : has_chosen h ≡ true
          some = whole_chosen h true k.whole k.past

          goes : has_chosen new ≡ true → is_found h.register.shape.n (seen_as new.register) ≡ false → Kept
          goes still none =
              let was = some_kept picks shape h.kind h.source.0 w (has_chosen h) some kept in
              goes_with some still (same_source none) (ap (λ (f : First). f.looked) first) (on.keeps never a told took, was.1)

          same_first : by_first new.register.shape h.kind (first_by more) ≡ None
          same_first = subst (λ (of : Shape). by_first of h.kind (first_by more) ≡ None) (shape_is ∙ sym new_shape) (ap (by_first h.register.shape h.kind) first ∙ k.after.none)

          free : busy_by more ≡ None
          free = ap (busy_after line) k.after.free ∙ still_free a (record { 0 = b }) asked told took on.locks

          by : StageOf new more → Kept
          by (AtLocks l) = absurd (not_both (first_by more).begun (ap (λ (f : First). f.begun) first ∙ k.after.begun) l.unbegun)
          by (AtFirstLooks l) = absurd (not_both (first_by more).still l.still (ap (λ (f : First). f.still) first))
          by (Past l) =
              goes (whole_chosen new true l.whole l.past) (unfound h.register.shape.n (seen_as new.register) (λ whole at opening. not_both (first_by more).still (l.still at opening) (ap (λ (f : First). f.still) first)))
          by (Lost l) = goes (lost_chosen new true l.lost (ends_later (busy_by more) (by_first new.register.shape h.kind (first_by more)) (is_settled more) (moved_by new.register.shape h.gfid h.kind more) new.outcome new.register.seen free same_first l.caused))
              (unfound h.register.shape.n (seen_as new.register) (λ whole at opening. not_both new.register.broken l.lost whole))

      -- ---- in a broken heal
      by_lost : IsLost h.register.shape (seen_as h.register) h.register.seen h.register.looked h.source.0 h.gfid h.kind h.outcome w → Kept
      by_lost k = by (has_chosen h) refl
        where
          quiet : IsQuiet a b told took asked
          quiet = quiet_by_unlock a b told took asked (subst UnlocksNext e k.next)

          lost : new.register.broken ≡ true
          lost = stays_broken h.register t b told asked k.inside k.lost

          same : has_chosen new ≡ has_chosen h
          same = lost_chosen new (has_chosen h) lost (ap is_later (lost_same k.lost) ∙ sym (lost_chosen h (is_later h.outcome) k.lost refl))

          by : (c : Bool) → has_chosen h ≡ c → Kept
          by false none = kept_none picks shape h.kind new.source.0 more (has_chosen new) (same ∙ none) (not_on a (record { 0 = b }) asked told took log w quiet.quiet (none_kept picks shape h.kind h.source.0 w (has_chosen h) none kept))
          by true some =
              let was = some_kept picks shape h.kind h.source.0 w (has_chosen h) some kept in
              goes_with some (same ∙ some) (same_source (unfound h.register.shape.n (seen_as new.register) (λ whole at opening. not_both new.register.broken lost whole)))
              (ap (λ (f : First). f.looked) (quiet.first (first_by w))) (quiet.keeps h.source.0, was.1)

      -- whatever is asked and answered
      pub asks_keep : Kept
      asks_keep = by stage
        where
          by : StageOf h w → Kept
          by (AtLocks k) = by_locks k
          by (AtFirstLooks k) = by_looks k
          by (Past k) = by_past k
          by (Lost k) = by_lost k

  -- ---- a part begins
  module _ (a : ActorId) (g : Gfid) (e : coming h ≡ Begins) (t : ℕ) (log : List Line) (after : StageOf (begun t h) ((HealBegin a g h.kind, log) ∷ w)) where
    abbrev parted : Heal
    parted = begun t h

    abbrev longer : Work
    longer = (HealBegin a g h.kind, log) ∷ w

    pub begins_keep : KeptBy picks shape h.kind (has_chosen parted) h.source.0 longer
    begins_keep = by stage
      where
        first_part : IsLocking h.register.shape (seen_as h.register) h.register.seen h.register.looked h.source.0 h.gfid h.kind h.outcome w → StageOf parted longer → has_chosen parted ≡ false
        first_part k (AtLocks l) = whole_chosen parted false l.whole l.before
        first_part k (AtFirstLooks l) = whole_chosen parted false l.whole l.before
        first_part k (Past l) = absurd (not_both ((seen_as h.register).first_reached l.one.0) l.one.2 (k.unseen l.one.0))
        first_part k (Lost l) = absurd (not_both h.register.broken l.lost k.whole)

        by : StageOf h w → KeptBy picks shape h.kind (has_chosen parted) h.source.0 longer
        by (AtLocks k) = kept_none picks shape h.kind h.source.0 longer (has_chosen parted) (first_part k after)
            (not_on_begun a g h.kind log w k.none (none_kept picks shape h.kind h.source.0 w (has_chosen h) (whole_chosen h false k.whole k.before) kept))
        by (AtFirstLooks k) = absurd (subst LooksNext e k.next)
        by (Past k) =
            let was = some_kept picks shape h.kind h.source.0 w (has_chosen h) (whole_chosen h true k.whole k.past) kept in
            let later = k.parted (subst (OnwardNext h.source.0 h.kind (seen_as h.register).part k.begins) e k.next) in
            kept_some picks shape h.kind h.source.0 longer (has_chosen parted) (whole_chosen parted true k.whole (rw later refl)) (was.0, (tt, was.1))
        by (Lost k) = absurd (subst UnlocksNext e k.next)
