-- Who stands within a work has a task left; and what a line of a command, whichever it is, has to do with one path.
use Rattle.std.proofs.Common.{◌≡◌, ℕ, zero, suc, ◌+◌, ◌-◌, ◌<◌, ◌≤◌, Bool, true, false, refl, sym, subst, arith, List, [], ◌∷◌, length, Some, true≢false}
use Rattle.std.specs.Prelude.{if◌then◌else◌, nat_lt, slice_get, slice_index_or}
use Rattle.std.proofs.lemmas.Bool.{eqb-true}
use Rattle.std.proofs.lemmas.Bool.Decides.{nat_tests}
use Rattle.std.proofs.lemmas.Option.{slice_get_within}
use Rattle.afr_lines.specs.Places.{Within, next_place, place_of}
use Rattle.afr_base.specs.declared.ids.ActorId.{ActorId}
use Rattle.afr_base.specs.declared.ids.Gfid.{Gfid}
use Rattle.afr_base.specs.declared.ids.Kind.{Kind}
use Rattle.afr_base.specs.declared.ids.NameId.{NameId}
use Rattle.afr_lines.specs.Work.{Work, ended, ends_work, is_end, is_of}
use Rattle.afr_lines.specs.declared.line.Line.TheVariants.{Ask, Begin, End, Event, HealBegin, HealEnd}
use Rattle.afr_lines.specs.declared.line.Line.{Line}
use Rattle.afr_lines.specs.declared.reply.HealReply.{HealReply}
use Rattle.afr_law.proofs.Heals.Opening.{ended as after_end}
use Rattle.afr_model.specs.Actors.{IsActor, rounds_of, script_of, works_of}
use Rattle.afr_model.specs.Answered.{IsAbout}
use Rattle.afr_model.specs.Following.{Follows, IsTurnOf, KeepsToCommand, KeepsToTask, ToCommand, ToCrawl, ToItem, ToRound}
use Rattle.afr_model.specs.Keeping.{KeepsTo}
use Rattle.afr_model.specs.Parts.{Part, Walks, Makes, Removes, part_at, the_walk, the_make, the_removal}
use Rattle.afr_model.specs.Renamed.{IsOfPart, KeepsToPart}
use Rattle.afr_model.specs.Replied.{IsOf}
use Rattle.afr_model.specs.Showing.{begins_attempt}
use Rattle.afr_plan.specs.declared.command.Command.{Command}
use Rattle.afr_plan.specs.declared.command.Command.TheVariants as command
use Rattle.afr_plan.specs.declared.plan.Plan.{Plan}

past_end : (xs : List (List Command)) (i : ℕ) → length xs ≤ i → slice_index_or xs i [] ≡ []
past_end [] i high = refl
past_end (x ∷ xs) zero high = absurd (omega (arith, high))
past_end (x ∷ xs) (suc i) high = past_end xs i (omega (arith, high))

-- a healer has no script
pub no_script : (p : Plan) (a k : ℕ) (c : Command) → length p.clients ≤ 16 → 17 ≤ a → slice_get (script_of p a) k ≡ Some c → ⊥
no_script p a k c few high e = (let none : script_of p a ≡ [] = past_end p.clients (a - 1) (omega (arith, few, high)) in let l : slice_get [] k ≡ Some c = subst (λ (s : List Command). slice_get s k ≡ Some c) none e in cc)

-- it is the actor's turn
pub turn_of : (crawl : Bool) (p : Plan) (a : ℕ) (line : Line) (older : List Line) → is_of a line ≡ true → Follows crawl p (line ∷ older) → IsTurnOf crawl p a line older
turn_of crawl p a (Ask x b r told took) older mine f = subst (λ (k : ℕ). IsTurnOf crawl p k (Ask x b r told took) older) (eqb-true x.0 a mine) f.0.1.0
turn_of crawl p a (Begin x change) older mine f = subst (λ (k : ℕ). IsTurnOf crawl p k (Begin x change) older) (eqb-true x.0 a mine) f.0.1.0
turn_of crawl p a (HealBegin x g kind) older mine f = subst (λ (k : ℕ). IsTurnOf crawl p k (HealBegin x g kind) older) (eqb-true x.0 a mine) f.0.1.0
turn_of crawl p a (End x said) older mine f = subst (λ (k : ℕ). IsTurnOf crawl p k (End x said) older) (eqb-true x.0 a mine) f.0.1.0
turn_of crawl p a (HealEnd x g kind said) older mine f = subst (λ (k : ℕ). IsTurnOf crawl p k (HealEnd x g kind said) older) (eqb-true x.0 a mine) f.0.1.0
turn_of crawl p a (Event event) older mine f = absurd (true≢false (sym mine))

-- an actor of the plan, with a task that it hasn't ended
pub record HasTask (p : Plan) (a count : ℕ) : Type 0 where
  pub actor : IsActor p a
  pub left : count < works_of p a

works_cases : (p : Plan) (a : ℕ) (high : Bool) → nat_lt 16 a ≡ high → works_of p a ≡ (if high then length (rounds_of p a) else length (script_of p a))
works_cases p a high e = rw e refl

pub task_here : (p : Plan) (a : ℕ) (line : Line) (older : List Line) → length p.clients ≤ 16 → IsTurnOf false p a line older → HasTask p a (ended a older)
task_here p a line older few t = go t.keeps
  where
    go : KeepsToTask false p a line older → HasTask p a (ended a older)
    go (ToCommand c e k) = record { actor = t.actor; left = low (nat_lt 16 a) refl }
      where
        low : (high : Bool) → nat_lt 16 a ≡ high → ended a older < works_of p a
        low true f = absurd (no_script p a (ended a older) c few (let h : 17 ≤ a = grind (arith, nat_tests, f) in h) e)
        low false f = rw (works_cases p a false f) (slice_get_within (script_of p a) (ended a older) c e)
    go (ToRound plain h b e k) = record { actor = t.actor; left = (let f : nat_lt 16 a ≡ true = grind (arith, nat_tests, h) in rw (works_cases p a true f) (slice_get_within (rounds_of p a) (ended a older) b e)) }
    go (ToCrawl crawls who b e k) = absurd (true≢false (sym crawls))
    go (ToItem crawls h item given k) = absurd (true≢false (sym crawls))

-- a line of another ends no work of the actor
pub other_ends : (a : ℕ) (line : Line) → is_of a line ≡ false → ends_work a line ≡ false
other_ends a (End x said) e = e
other_ends a (Ask x b r told took) e = refl
other_ends a (Begin x change) e = refl
other_ends a (HealBegin x g kind) e = refl
other_ends a (HealEnd x g kind said) e = refl
other_ends a (Event event) e = refl

pub task_of : (p : Plan) (log : List Line) (a : ℕ) → length p.clients ≤ 16 → Follows false p log → place_of a log ≡ Within → HasTask p a (ended a log)
task_of p [] a few f e = absurd (cc e)
task_of p (line ∷ older) a few f e = go (is_of a line) refl e (λ w. task_of p older a few f.1 w)
  where
    go : (mine : Bool) → is_of a line ≡ mine → (if mine then next_place (place_of a older) line else place_of a older) ≡ Within → (place_of a older ≡ Within → HasTask p a (ended a older)) → HasTask p a (if ends_work a line then ended a older + 1 else ended a older)
    go false m w rest = rw (other_ends a line m) (rest w)
    go true m w rest = own line m w (turn_of false p a line older m f)
      where
        own : (l : Line) → is_of a l ≡ true → next_place (place_of a older) l ≡ Within → IsTurnOf false p a l older → HasTask p a (if ends_work a l then ended a older + 1 else ended a older)
        own (End x said) m w t = absurd (after_end (place_of a older) x said w)
        own (Ask x b r told took) m w t = task_here p a (Ask x b r told took) older few t
        own (Begin x change) m w t = task_here p a (Begin x change) older few t
        own (HealBegin x g kind) m w t = task_here p a (HealBegin x g kind) older few t
        own (HealEnd x g kind said) m w t = task_here p a (HealEnd x g kind said) older few t
        own (Event event) m w t = absurd (true≢false (sym m))

-- ---- a line of a command
-- it is about what one path names: the command's, or that of a part of a rename
about_part : (part : Part) (p : Plan) (from to : List NameId) (line : Line) (w : Work) → IsOfPart part p from to line w → (d : Command) × (v : Work) × IsAbout p d line v
about_part Walks p from to line w k = (command.Stat from, the_walk from w, k)
about_part Makes p from to line w k = (command.Create to, the_make from w, k.1)
about_part Removes p from to line w k = (command.Unlink from, the_removal from w, k.2)

pub about_path : (p : Plan) (c : Command) (line : Line) (w : Work) → is_end line ≡ false → IsOf p c line w → (d : Command) × (v : Work) × IsAbout p d line v
about_path p (command.Rename from to) (End x said) w e k = absurd (true≢false e)
about_path p (command.Rename from to) line w e k = about_part (part_at from line w) p from to line w k
about_path p c line w e k = (c, w, k)

-- a line that begins nothing keeps to one path
keeps_part : (part : Part) (p : Plan) (from to : List NameId) (line : Line) (at : ℕ) (w : Work) → begins_attempt line ≡ false → KeepsToPart part p from to line at w → (d : Command) × (v : Work) × KeepsTo p d line at v
keeps_part Walks p from to line at w e k = (command.Stat from, the_walk from w, k)
keeps_part Makes p from to (Begin x change) at w e k = absurd (true≢false e)
keeps_part Makes p from to line at w e k = (command.Create to, the_make from w, k)
keeps_part Removes p from to line at w e k = (command.Unlink from, the_removal from w, k)

pub keeps_path : (p : Plan) (c : Command) (line : Line) (at : ℕ) (w : Work) → begins_attempt line ≡ false → KeepsToCommand p c line at w → (d : Command) × (v : Work) × KeepsTo p d line at v
keeps_path p (command.Rename from to) line at w e k = keeps_part (part_at from line w) p from to line at w e k
keeps_path p c line at w e k = (c, w, k)

-- no command begins a heal or ends one, nor is such a line about what its words name
pub heal_begins_no_command : (p : Plan) (c : Command) (x : ActorId) (g : Gfid) (kind : Kind) (at : ℕ) (w : Work) → KeepsToCommand p c (HealBegin x g kind) at w → ⊥
heal_begins_no_command p c x g kind at w k = (keeps_path p c (HealBegin x g kind) at w refl k).2

pub heal_ends_no_command : (p : Plan) (c : Command) (x : ActorId) (g : Gfid) (kind : Kind) (said : HealReply) (at : ℕ) (w : Work) → KeepsToCommand p c (HealEnd x g kind said) at w → ⊥
heal_ends_no_command p c x g kind said at w k = (keeps_path p c (HealEnd x g kind said) at w refl k).2

pub heal_is_no_command : (p : Plan) (c : Command) (x : ActorId) (g : Gfid) (kind : Kind) (said : HealReply) (w : Work) → IsOf p c (HealEnd x g kind said) w → ⊥
heal_is_no_command p c x g kind said w k = (about_path p c (HealEnd x g kind said) w refl k).2
