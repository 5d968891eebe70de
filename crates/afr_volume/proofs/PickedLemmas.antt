-- The copies that were picked for the clients' reads: what each turn leaves of them.
use Rattle.std.proofs.Common.{◌≡◌, ◌∙◌, ℕ, Bool, zero, suc, ◌+◌, ◌-◌, ◌≤◌, List, [], ◌∷◌, Option, Some, None, refl, sym, ap, arith, length, slice_get, slice_set, replicate, reverse, inl, inr}
use Rattle.afr_base.specs.declared.ids.ActorId.{ActorId}
use Rattle.afr_base.specs.declared.ids.BrickId.{BrickId}
use Rattle.afr_lines.specs.declared.answer.Answer.{Answer}
use Rattle.afr_lines.specs.declared.line.Event.{Event}
use Rattle.afr_lines.specs.declared.line.Heard.TheVariants as heard
use Rattle.afr_lines.specs.declared.line.Line.{Line}
use Rattle.afr_lines.specs.declared.request.Request.{Request}
use Rattle.afr_plan.specs.declared.plan.Plan.{Plan}
use Rattle.afr_rule.specs.Choosing.{Calls}
use Rattle.afr_server.specs.Serving.{Serving}
use Rattle.afr_client_walk.specs.Choosing.{RuleAnswers, reader_of}
use Rattle.afr_client.specs.Work.{choices_of, heard_by}
use Rattle.afr_client.specs.declared.work.WorkMachine.{WorkMachine}
use Rattle.afr_volume.specs.Acting.{HasHeard, Hearing, HearsBy, picked_after, picked_by, picked_of}
use Rattle.afr_volume.specs.Keeping.{IsActing}
use Rattle.afr_volume.specs.Starting.{AreNewActors}
use Rattle.afr_volume.specs.State.{State}
use Rattle.afr_volume.specs.Turning.{KillsIn, ReadiedAt, Readies, StepsAt}
use Rattle.afr_volume.specs.declared.actor.Actor.{Actor}
use Rattle.afr_base.specs.declared.ids.Gfid.{Gfid}
use Rattle.afr_base.specs.declared.ids.What.{What}

-- ---- what was picked is kept beside the work that has heard it
pub heard_so : {F : Type 0} (calls : Calls F) (choose : F) (answer : Answer) (at : ℕ) (met : Bool) (request : Request) (x : Actor) (after : WorkMachine) (now kept : Option BrickId) → RuleAnswers calls choose (choices_of answer at x.work) now → after ≡ heard_by (reader_of now) (heard.Answer answer at) x.work
    → kept ≡ picked_after met request now x.picked → HasHeard (HearsBy calls choose) answer at met request x (record { ended = x.ended; killed = x.killed; visit = x.visit; picked = kept; work = after })
heard_so calls choose answer at met request x after now kept answers value keeps = record {
  after = after;
  picked = now;
  hears = record { answers = answers; value = value };
  becomes = ap (λ (picked : Option BrickId). record { ended = x.ended; killed = x.killed; visit = x.visit; picked = picked; work = after }) keeps;
}

-- ---- lists
pub set_picked : (actors : List Actor) (i : ℕ) (y : Actor) → picked_of (slice_set actors i y) ≡ slice_set (picked_of actors) i (picked_by y)
set_picked [] i y = refl
set_picked (x ∷ actors) zero y = refl
set_picked (x ∷ actors) (suc i) y = ap (λ (rest : List (Option ℕ)). picked_by x ∷ rest) (set_picked actors i y)

-- a client that is put in another's place with the same copy changes none
set_same : (actors : List Actor) (i : ℕ) (x y : Actor) → slice_get actors i ≡ Some x → picked_by y ≡ picked_by x → picked_of (slice_set actors i y) ≡ picked_of actors
set_same [] zero x y is e = refl
set_same [] (suc i) x y is e = refl
set_same (z ∷ actors) zero x y is e = let here : z ≡ x = cc is in ap (λ (picked : Option ℕ). picked ∷ picked_of actors) (e ∙ ap picked_by (sym here))
set_same (z ∷ actors) (suc i) x y is e = ap (λ (rest : List (Option ℕ)). picked_by z ∷ rest) (set_same actors i x y is e)

-- clients that all have the same copy as before
each_same : (old new : List Actor) → length new ≡ length old → ((i : ℕ) (x y : Actor) → slice_get old i ≡ Some x → slice_get new i ≡ Some y → picked_by y ≡ picked_by x) → picked_of new ≡ picked_of old
each_same [] [] many k = refl
each_same [] (y ∷ new) many k = absurd (cc many)
each_same (x ∷ old) [] many k = absurd (cc many)
each_same (x ∷ old) (y ∷ new) many k =
    let here = k zero x y refl refl in
    let rest = each_same old new (cc many) (λ i u v is at. k (suc i) u v is at) in
    λ i. here i ∷ rest i

-- what stands at a client's place
pub picked_at : (actors : List Actor) (i : ℕ) (x : Actor) → slice_get actors i ≡ Some x → slice_get (picked_of actors) i ≡ Some (picked_by x)
picked_at [] i x e = absurd (cc e)
picked_at (z ∷ actors) zero x e = let here : z ≡ x = cc e in ap (λ (y : Actor). Some (picked_by y)) here
picked_at (z ∷ actors) (suc i) x e = picked_at actors i x e

-- ---- a client that is made ready has what was picked for its last work
ready_same : (p : Plan) (a : ℕ) (x z : Actor) → Readies p a x z → picked_by z ≡ picked_by x
ready_same p a x z (inl same) = ap picked_by same
ready_same p a x z (inr r) = ap picked_by r.3

pub readied_picked : (p : Plan) (a : ℕ) (actors readied : List Actor) → ReadiedAt p a actors readied → picked_of readied ≡ picked_of actors
readied_picked p a actors readied r = ap picked_of r.set_is ∙ set_same actors (a - 1) r.before r.after r.was (ready_same p a r.before r.after r.readies)

-- so a volume whose client was made ready and wrote no line is as before
pub unwritten : (crawl : Bool) (tasks : List (Option (Gfid × What))) (p : Plan) (a : ℕ) (items kept : List Line) (sources : List (Option ℕ)) (actors readied now : List Actor) → ReadiedAt p a actors readied → now ≡ readied → kept ≡ items
    → ◌≡◌ {A = State} (record { plan = p; log = reverse kept; sources = sources; picked = picked_of now; crawl = crawl; tasks = tasks })
    (record { plan = p; log = reverse items; sources = sources; picked = picked_of actors; crawl = crawl; tasks = tasks })
unwritten crawl tasks p a items kept sources actors readied now r same none = rw (none, same, readied_picked p a actors readied r) refl

-- ---- a client's line leaves what was picked for the others
pub other_set : (l : List (Option ℕ)) (i j : ℕ) (y : Option ℕ) → (i ≡ j → ⊥) → slice_get (slice_set l j y) i ≡ slice_get l i
other_set [] i zero y other = refl
other_set [] i (suc j) y other = refl
other_set (x ∷ l) zero zero y other = absurd (other refl)
other_set (x ∷ l) zero (suc j) y other = refl
other_set (x ∷ l) (suc i) zero y other = refl
other_set (x ∷ l) (suc i) (suc j) y other = other_set l i j y (λ same. other (ap suc same))

-- what stands at its own place
pub here_set : (l : List (Option ℕ)) (i : ℕ) (y z : Option ℕ) → slice_get (slice_set l i y) i ≡ Some z → y ≡ z
here_set [] zero y z e = absurd (cc e)
here_set [] (suc i) y z e = absurd (cc e)
here_set (x ∷ l) zero y z e = cc e
here_set (x ∷ l) (suc i) y z e = here_set l i y z e

pub client_others : (Hears : Hearing) (p : Plan) (a : ActorId) (at : ℕ) (actors readied new : List Actor) (bricks after : List Serving) (line : Line) → 1 ≤ a.0 → ReadiedAt p a.0 actors readied → StepsAt Hears a at readied new bricks after line
    → (i : ℕ) → (1 + i ≡ a.0 → ⊥) → slice_get (picked_of new) i ≡ slice_get (picked_of actors) i
client_others Hears p a at actors readied new bricks after line low r s i other =
    let set_is : picked_of new ≡ slice_set (picked_of readied) (a.0 - 1) (picked_by s.after) = ap picked_of s.set_is ∙ set_picked readied (a.0 - 1) s.after in
    let apart : (i ≡ a.0 - 1 → ⊥) = λ same. other (omega (arith, low, same)) in
    ap (λ (l : List (Option ℕ)). slice_get l i) set_is ∙ other_set (picked_of readied) i (a.0 - 1) (picked_by s.after) apart ∙ ap (λ (l : List (Option ℕ)). slice_get l i) (readied_picked p a.0 actors readied r)

-- ---- an event leaves them all
pub killed_picked : (event : Event) (old new : List Actor) → KillsIn event old new → picked_of new ≡ picked_of old
killed_picked event old new k = each_same old new k.count (λ i x y is at. ap picked_by (k.each i x y is at))

-- ---- before the first line
none_by : (x : Actor) → x.picked ≡ None → picked_by x ≡ None
none_by x e = rw e refl

all_none : (l : List Actor) → ((i : ℕ) (x : Actor) → slice_get l i ≡ Some x → x.picked ≡ None) → picked_of l ≡ replicate (length l) None
all_none [] each = refl
all_none (x ∷ l) each = rw (none_by x (each 0 x refl)) (ap (λ (rest : List (Option ℕ)). None ∷ rest) (all_none l (λ i y h. each (suc i) y h)))

pub none_picked_first : (p : Plan) (log : List Line) (servers : List Serving) (actors : List Actor) → length actors ≡ length p.clients → ((i : ℕ) (x : Actor) → slice_get actors i ≡ Some x → IsActing p log (i + 1) servers x) → log ≡ []
    → picked_of actors ≡ replicate (length p.clients) None
none_picked_first p log servers actors same each none = rw (← same) (all_none actors (λ i x h. (each i x h).unpicked none))

pub new_picked : (count : ℕ) (actors : List Actor) → AreNewActors count actors → picked_of actors ≡ replicate count None
new_picked count actors k = all_none actors (λ i x h. (k.each i x h).unpicked) ∙ ap (λ (n : ℕ). replicate n None) k.many
