-- What the program's register keeps of the looks after a request of a heal.
use Rattle.std.proofs.Common.{ℕ, ◌≡◌, ◌<◌, ◌≤◌, ◌||◌, ◌∙◌, if◌then◌else◌, Bool, arith, false, nat_lt, refl, subst, sym, true}
use Rattle.std.proofs.lemmas.Bool.Decides.{nat_tests}
use Rattle.afr_base.specs.declared.ids.Gfid.{Gfid}
use Rattle.afr_base.specs.declared.ids.Kind.{Kind}
use Rattle.afr_discipline.specs.Laws.{NotesStand}
use Rattle.afr_discipline.specs.Notes.{broken_by, noted_ask, noted_inside, noted_outside, still_possible}
use Rattle.afr_discipline.specs.Stands.{HasFive, Stands, heal_part_of, seen_as}
use Rattle.afr_discipline.specs.declared.register.Move.TheVariants as move
use Rattle.afr_discipline.specs.declared.register.Register.{Register}
use Rattle.afr_heal.proofs.Allowed.{heal_next_allowed}
use Rattle.afr_heal.proofs.Carried.{self_stands}
use Rattle.afr_heal.proofs.Parts.{both}
use Rattle.afr_heal.proofs.StagesWalk.{first_elim}
use Rattle.afr_heal.specs.Answers.{asked_for}
use Rattle.afr_heal.specs.Carried.{Heals, next_by}
use Rattle.afr_heal.specs.Engine.{Ask, NextOfHeal}
use Rattle.afr_heal.specs.Laws.{allows_next, asks_well}
use Rattle.afr_heal.specs.Standing.{Ending, First, Going, Healing, Looking, Parting, Standing, Viewing, Working}
use Rattle.afr_law_heal.proofs.StageLaws.{looked_next, seen_next}
use Rattle.afr_law_heal.specs.Stages.{IsShown}
use Rattle.afr_lines.specs.declared.answer.Told.{Told}
use Rattle.afr_lines.specs.declared.request.Request.{Request}
use Rattle.afr_lines.specs.declared.request.Request.TheVariants.{Lock, Look, Unlock}
use Rattle.afr_model_moves.specs.Keeps.{keeps_in}
use Rattle.afr_model_moves.specs.Register.{Exact}
use Rattle.afr_model_moves.specs.Rules.{heal_area}
use Rattle.afr_lines.specs.declared.lock.Domain.TheVariants.{Heal, Work}

-- ---- the looks
-- the looks after a request are the ones before with its answer
abbrev pub LooksKept : Register → ℕ → ℕ → Told → Request → Type 0
LooksKept p t b told request = ((noted_ask p t b request told).seen ≡ seen_next request b told (heal_part_of p.part) p.seen) × ((noted_ask p t b request told).looked ≡ looked_next request b told p.looked)

module _ (p : Register) (t b : ℕ) (told : Told) where
  seen_inside : (request : Request) → (noted_inside p t b request told).seen ≡ seen_next request b told (heal_part_of p.part) p.seen
  seen_inside (Look g) = refl
  seen_inside (Lock Heal area) = refl
  seen_inside (Lock Work area) = refl
  seen_inside (Unlock Heal area) = refl
  seen_inside (Unlock Work area) = refl
  seen_inside _ = refl

  looked_inside : (request : Request) → (noted_inside p t b request told).looked ≡ looked_next request b told p.looked
  looked_inside (Look g) = refl
  looked_inside (Lock Heal area) = refl
  looked_inside (Lock Work area) = refl
  looked_inside (Unlock Heal area) = refl
  looked_inside (Unlock Work area) = refl
  looked_inside _ = refl

  -- a request in a heal, or the first Heal lock
  yes : (f : Bool) (one other : Register) → f ≡ true → ((if f then one else other).seen ≡ one.seen) × ((if f then one else other).looked ≡ one.looked)
  yes true one other e = (refl, refl)
  yes false one other e = absurd (cc e)

  no : (f : Bool) (one other : Register) → f ≡ false → ((if f then one else other).seen ≡ other.seen) × ((if f then one else other).looked ≡ other.looked)
  no true one other e = absurd (cc e)
  no false one other e = (refl, refl)

  abbrev inside : Request → Register
  inside request = record (noted_inside p t b request told) { possible = still_possible p b request; broken = p.broken || broken_by p request told }

  in_heal : p.inside ≡ true → (request : Request) → LooksKept p t b told request
  in_heal e request = let w = yes p.inside (inside request) (noted_outside p b request told) e in (w.0 ∙ seen_inside request, w.1 ∙ looked_inside request)

  at_first : p.inside ≡ false → (g : ℕ) → LooksKept p t b told (Lock Heal (heal_area g))
  at_first e g = no p.inside (inside (Lock Heal (heal_area g))) (noted_outside p b (Lock Heal (heal_area g)) told) e

-- so it is at each request that a heal asks next
pub looks_kept : (p : Register) (s : ℕ) (g : Gfid) (kind : Kind) (t b : ℕ) (request : Request) (told : Told) → Heals p s g kind → next_by p s g kind ≡ Ask b request → LooksKept p t b told request
looks_kept p s g kind t b request told k next = by k.standing
  where
    by : Standing p.shape.n (keeps_in p.shape) (seen_as p) s g kind → LooksKept p t b told request
    by (First at) =
        let same : Ask b request ≡ Ask 0 (Lock Heal (heal_area g.0)) = first_elim p.shape.n (keeps_in p.shape) (seen_as p) s g kind at (λ (next : NextOfHeal). next ≡ Ask b request → Ask b request ≡ Ask 0 (Lock Heal (heal_area g.0))) (λ e. sym e) next in
        let is : request ≡ Lock Heal (heal_area g.0) = cc same in
        subst (LooksKept p t b told) (sym is) (at_first p t b told at.outside g.0)
    by (Healing at) = in_heal p t b told at.base.inside request
    by (Working at) = in_heal p t b told at.base.inside request
    by (Looking at) = in_heal p t b told at.base.inside request
    by (Parting at) = in_heal p t b told at.base.inside request
    by (Viewing at) = in_heal p t b told at.base.inside request
    by (Going at) = in_heal p t b told at.base.inside request
    by (Ending at) = in_heal p t b told at.base.inside request

-- ---- the register that is noted stands for the exact one
pub stands_noted : NotesStand → (p : Register) (s : ℕ) (g : Gfid) (kind : Kind) (t b : ℕ) (request : Request) (told : Told) → Heals p s g kind → next_by p s g kind ≡ Ask b request
    → Stands (noted_ask p t b request told) (asked_for p.shape.n (keeps_in p.shape) (seen_as p) t b request told)
stands_noted notes p s g kind t b request told k next =
    notes p (seen_as p) (move.Ask (record { 0 = b }) (record { ref_ptr = (0, 0); now = request })) told t k.few k.five (small b p.shape.n low k.few) (self_stands p)
  where
    asks : asks_well p.shape.n (keeps_in p.shape) (seen_as p) b request ≡ true
    asks = subst (λ (next : NextOfHeal). allows_next p.shape.n (keeps_in p.shape) (seen_as p) g kind next ≡ true) next (heal_next_allowed p.shape.n (keeps_in p.shape) (seen_as p) s g kind k.some k.few k.standing)

    low : nat_lt b p.shape.n ≡ true
    low = (both (nat_lt b p.shape.n) _ asks).0

    small : (b n : ℕ) → nat_lt b n ≡ true → n ≤ 5 → b < 5
    small b n h l = grind (arith, nat_tests, h, l)

-- and its looks are those that the lines show
pub shown_noted : (p : Register) (r : Exact) → Stands p r → HasFive p → IsShown r p.seen p.looked
shown_noted p r k five = record { first_reached = k.first_reached; first_views = k.first_views; reached = k.reached; views = k.views; five_first = five.seen; five = five.looked }
