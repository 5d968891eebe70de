-- Each line of a heal's machine comes nearer to its end.
use Rattle.std.proofs.Common.{◌≡◌, ◌∙◌, ◌<◌, ◌≤◌, ◌+◌, ◌*◌, ◌&&◌, ℕ, Bool, ap, arith, false, not, refl, subst, sym, true, if◌then◌else◌}
use Rattle.afr_base.specs.Bricks.{member}
use Rattle.afr_base.specs.declared.ids.BrickId.{BrickId}
use Rattle.afr_base.specs.declared.ids.Kind.{Kind}
use Rattle.afr_base.specs.declared.ids.Kind.TheVariants.{Attrs, Bytes, Names}
use Rattle.afr_base.specs.declared.ids.Shape.{Shape}
use Rattle.afr_discipline.specs.Laws.{NotesStand, ShapesKept}
use Rattle.afr_discipline.specs.Stands.{Stands, heal_part_of, seen_as, step_of}
use Rattle.afr_discipline.specs.Turns.{candidate}
use Rattle.afr_discipline.specs.declared.register.Move.{Move}
use Rattle.afr_discipline.specs.declared.register.Move.TheVariants as move
use Rattle.afr_discipline.specs.declared.register.Register.{Register}
use Rattle.afr_heal.proofs.Carried.{restyled, restyled_is, self_stands}
use Rattle.afr_heal.proofs.Parts.{both, not_both, pair}
use Rattle.afr_heal.specs.Answers.{PicksOne, asked_for, begun_at, source_after}
use Rattle.afr_heal.specs.Engine.{Ask, NextOfHeal}
use Rattle.afr_law_cost.specs.Laws.{HealComesNearer, HealKeepsEnd, Nearer, StaysRooted}
use Rattle.afr_law_cost.specs.Left.{Rooted, giving, heal_cost, left_at, left_in, lines_left, looking, onward, rest_of, taken}
use Rattle.afr_lines.specs.Told.{told_by}
use Rattle.afr_lines.specs.declared.answer.Answer.{Answer}
use Rattle.afr_lines.specs.declared.answer.Told.{Told}
use Rattle.afr_lines.specs.declared.answer.Told.TheVariants.{Done}
use Rattle.afr_lines.specs.declared.request.Request.{Request}
use Rattle.afr_model_moves.specs.Keeps.{keeps_in}
use Rattle.afr_model_moves.specs.Register.{Exact, HealPart, Looks, Opening, is_opening, over, same_step}
use Rattle.afr_model_moves.specs.Steps.{goes_on, looks_at}
use Rattle.afr_heal_machine.proofs.FoundLemmas.{found_parts, looks_is, opening_is, pick_for, pick_is, picks_for}
use Rattle.afr_law_cost.specs.Round.Laws.{HealAsksNearer, HealAsksRooted, HealBeginsNearer, HealCosts, HealEndLeft}
use Rattle.afr_law_cost.specs.Round.Left.{heal_left}
use Rattle.afr_heal_machine.specs.Laws.{HealAsksLow}
use Rattle.afr_heal_machine.specs.Healing.{CanHear, Healing, IsHealing, answered, begun, coming, register_after}
use Rattle.afr_heal_machine.specs.Source.{IsCandidate, is_found}

-- ---- while the first looks are not over, the source doesn't matter
module _ (n : ℕ) (keeps : ℕ → Kind → Bool) (r : Exact) (s c : ℕ) (kind : Kind) where
  onward_any : (part : HealPart) → part ≡ Opening → onward n r s kind (is_opening part) ≡ onward n r c kind (is_opening part)
  onward_any Opening e = refl
  onward_any _ e = absurd (cc e)

  looking_any : r.part ≡ Opening → (f : Bool) → f ≡ false → looking n keeps r s kind f ≡ looking n keeps r c kind f
  looking_any part true e = absurd (not_both true refl e)
  looking_any part false e = ap (λ (a : ℕ). left_in n (looks_at r r.part) r.asked + a) (onward_any r.part part)

  over_here : (part : HealPart) → part ≡ Opening → over n r.law.held r.asked ≡ false → over n (looks_at r part) r.asked ≡ false
  over_here Opening e h = h
  over_here _ e h = absurd (cc e)

  -- found says that they are over and the heal goes on
  past_by : (whole at part past : Bool) → (whole && at && part && past) ≡ false → whole ≡ true → at ≡ true → part ≡ true → past ≡ false
  past_by true true true past h a b c = h
  past_by false at part past h a b c = absurd (not_both false a refl)
  past_by true false part past h a b c = absurd (not_both false b refl)
  past_by true true false past h a b c = absurd (not_both false c refl)

  lines_any : is_found n r ≡ false → r.step ≡ Looks → r.part ≡ Opening → lines_left n keeps r s kind ≡ lines_left n keeps r c kind
  lines_any unfound at part = go r.broken refl
    where
      go : (f : Bool) → r.broken ≡ f → (if f then giving n r else left_at n keeps r s kind r.step) ≡ (if f then giving n r else left_at n keeps r c kind r.step)
      go true e = refl
      go false e =
          let at_looks : same_step r.step Looks ≡ true = rw at refl in
          let at_part : is_opening r.part ≡ true = rw part refl in
          let whole : not r.broken ≡ true = rw e refl in
          let past = past_by (not r.broken) (same_step r.step Looks) (is_opening r.part) (over n r.law.held r.asked) unfound whole at_looks at_part in
          ap (left_at n keeps r s kind) at ∙ looking_any part (over n (looks_at r r.part) r.asked) (over_here r.part part past) ∙ sym (ap (left_at n keeps r c kind) at)

-- ---- after an answer
-- a request as a move
abbrev move_of : ℕ → Request → Move
move_of b request = move.Ask (record { 0 = b }) (record { ref_ptr = (0, 0); now = request })

module _ (notes : NotesStand) (shapes : ShapesKept) (lows : HealAsksLow) (m : Healing) (b : ℕ) (request : Request) (answer : Answer) (t : ℕ) (k : IsHealing m) (next : coming m ≡ Ask b request) (can : CanHear (Ask b request) answer) where
  abbrev p : Register
  p = m.register

  abbrev q : Register
  q = register_after m b request answer t

  abbrev told : Told
  told = told_by answer

  -- the exact register after it, from what the program's says before
  abbrev r : Exact
  r = asked_for p.shape.n (keeps_in p.shape) (seen_as p) t b request told

  small : b < 5
  small = let w = lows m k b request next in omega (arith, w.0, w.1)

  same : q.shape ≡ p.shape
  same = shapes p (move_of b request) told t

  there : Stands q r
  there = notes p (seen_as p) (move_of b request) told t k.heals.few k.heals.five small (self_stands p)

  rooted_after : StaysRooted → Rooted (seen_as p) → Rooted (seen_as q)
  rooted_after stays h = (let e = restyled_is q r there in subst (λ (r2 : Exact). Rooted r2) e (stays p.shape.n (keeps_in p.shape) (seen_as p) t b request told can.0 h))

  -- the lines by the exact register are those by the program's
  lines_carried : (c : ℕ) → lines_left p.shape.n (keeps_in p.shape) r c m.kind ≡ lines_left p.shape.n (keeps_in p.shape) (seen_as q) c m.kind
  lines_carried c = (let e = restyled_is q r there in ap (λ (r2 : Exact). lines_left p.shape.n (keeps_in p.shape) r2 c m.kind) e)

  module _ (nearer : HealComesNearer) (rooted : Rooted (seen_as p)) where
    near_by : (pick : (ℕ → Bool) → ℕ) → PicksOne p.shape.n pick → lines_left p.shape.n (keeps_in p.shape) r (source_after p.shape.n (keeps_in p.shape) pick r m.source.0) m.kind + taken request told ≤ heal_left m
    near_by pick picks =
        subst (λ (next : NextOfHeal). Nearer p.shape.n (keeps_in p.shape) pick (seen_as p) m.source.0 m.gfid m.kind next) next
        (nearer p.shape.n (keeps_in p.shape) pick (seen_as p) m.source.0 m.gfid m.kind k.heals.some k.heals.few picks k.heals.standing rooted k.short) t told can.0

    -- whether the line was a look of the first part
    abbrev looked : Bool
    looked = same_step r.step Looks && is_opening r.part

    looked_is : looked ≡ (same_step (step_of q.step) Looks && is_opening (heal_part_of q.part))
    looked_is = let e = there.step in let f = there.part in λ i. same_step (e i) Looks && is_opening (f i)

    not_looked : looked ≡ false → is_found p.shape.n (seen_as q) ≡ false
    not_looked h = go (is_found p.shape.n (seen_as q)) refl
      where
        go : (f : Bool) → is_found p.shape.n (seen_as q) ≡ f → f ≡ false
        go false e = refl
        go true e =
            let f = found_parts p.shape.n (seen_as q) e in
            let both_are : (same_step (step_of q.step) Looks && is_opening (heal_part_of q.part)) ≡ true = rw (f.at, f.part) refl in
            absurd (not_both looked (looked_is ∙ both_are) h)

    looked_parts : looked ≡ true → (step_of q.step ≡ Looks) × (heal_part_of q.part ≡ Opening)
    looked_parts h =
        let parts = both (same_step (step_of q.step) Looks) (is_opening (heal_part_of q.part)) (sym looked_is ∙ h) in
        (looks_is (step_of q.step) parts.0, opening_is (heal_part_of q.part) parts.1)

    -- a copy that may be the source by the program's register may be by the exact one
    candidate_back : (c : ℕ) → IsCandidate q c → (c < p.shape.n) × (candidate p.shape.n (keeps_in p.shape) r c ≡ true)
    candidate_back c w =
        let passes : candidate p.shape.n (keeps_in p.shape) (seen_as q) c ≡ true = subst (λ (shape : Shape). candidate shape.n (keeps_in shape) (seen_as q) c ≡ true) same w.passes in
        let over_r : candidate p.shape.n (keeps_in p.shape) (restyled r (member q.possible)) c ≡ true = subst (λ (r2 : Exact). candidate p.shape.n (keeps_in p.shape) r2 c ≡ true) (sym (restyled_is q r there)) passes in
        let parts = both (member q.possible c) (goes_on p.shape.n (keeps_in p.shape) r c) over_r in
        (subst (λ (shape : Shape). c < shape.n) same w.below, pair (r.possible c) (goes_on p.shape.n (keeps_in p.shape) r c) (there.possible c w.below ∙ parts.0) parts.1)

    -- with this source by the exact register
    near_with : (c : ℕ) (pick : (ℕ → Bool) → ℕ) → PicksOne p.shape.n pick → source_after p.shape.n (keeps_in p.shape) pick r m.source.0 ≡ c → lines_left p.shape.n (keeps_in p.shape) (seen_as q) c m.kind + taken request told ≤ heal_left m
    near_with c pick picks e =
        let h = near_by pick picks in
        let i = ap (λ (s : ℕ). lines_left p.shape.n (keeps_in p.shape) r s m.kind) e in
        let j = lines_carried c in
        omega (arith, h, i, j)

    chosen_near : (c : ℕ) → (is_found p.shape.n (seen_as q) ≡ true → IsCandidate q c) → lines_left p.shape.n (keeps_in p.shape) (seen_as q) (if is_found p.shape.n (seen_as q) then c else m.source.0) m.kind + taken request told ≤ heal_left m
    chosen_near c w = go (is_found p.shape.n (seen_as q)) refl looked refl
      where
        go : (f : Bool) → is_found p.shape.n (seen_as q) ≡ f → (l : Bool) → looked ≡ l → lines_left p.shape.n (keeps_in p.shape) (seen_as q) (if f then c else m.source.0) m.kind + taken request told ≤ heal_left m
        go true e true h =
            let back = candidate_back c (w e) in
            let is : source_after p.shape.n (keeps_in p.shape) (pick_for p.shape.n c) r m.source.0 ≡ c = rw h (pick_is p.shape.n c (candidate p.shape.n (keeps_in p.shape) r) back.0 back.1) in
            near_with c (pick_for p.shape.n c) (picks_for p.shape.n c) is
        go true e false h = absurd (not_both (is_found p.shape.n (seen_as q)) e (not_looked h))
        go false e true h =
            let parts = looked_parts h in
            let near = near_with (source_after p.shape.n (keeps_in p.shape) (pick_for p.shape.n 0) r m.source.0) (pick_for p.shape.n 0) (picks_for p.shape.n 0) refl in
            let i = lines_any p.shape.n (keeps_in p.shape) (seen_as q) (source_after p.shape.n (keeps_in p.shape) (pick_for p.shape.n 0) r m.source.0) m.source.0 m.kind e parts.0 parts.1 in
            omega (arith, near, i)
        go false e false h =
            let is : source_after p.shape.n (keeps_in p.shape) (pick_for p.shape.n 0) r m.source.0 ≡ m.source.0 = rw h refl in
            near_with m.source.0 (pick_for p.shape.n 0) (picks_for p.shape.n 0) is

    answered_near : (chosen : BrickId) → (is_found p.shape.n (seen_as q) ≡ true → IsCandidate q chosen.0) → heal_left (answered m b request answer t chosen) + taken request told ≤ heal_left m
    answered_near chosen w =
        subst (λ (shape : Shape). lines_left shape.n (keeps_in shape) (seen_as q) (if is_found p.shape.n (seen_as q) then chosen else m.source).0 m.kind + taken request told ≤ heal_left m) (sym same)
        (subst (λ (s : ℕ). lines_left p.shape.n (keeps_in p.shape) (seen_as q) s m.kind + taken request told ≤ heal_left m) (source_is (is_found p.shape.n (seen_as q))) (chosen_near chosen.0 w))
      where
        source_is : (f : Bool) → (if f then chosen.0 else m.source.0) ≡ (if f then chosen else m.source).0
        source_is true = refl
        source_is false = refl

pub heal_asks_nearer : NotesStand → ShapesKept → HealAsksLow → HealComesNearer → HealAsksNearer
heal_asks_nearer notes shapes lows nearer m b request answer t chosen k rooted next can w = answered_near notes shapes lows m b request answer t k next can nearer rooted chosen w

pub heal_asks_rooted : NotesStand → ShapesKept → HealAsksLow → StaysRooted → HealAsksRooted
heal_asks_rooted notes shapes lows stays m b request answer t chosen k rooted next can = rooted_after notes shapes lows m b request answer t k next can stays rooted

-- ---- where a part begins
module _ (notes : NotesStand) (m : Healing) (t : ℕ) (k : IsHealing m) where
  abbrev o : Register
  o = m.register

  abbrev z : Register
  z = (begun t m).register

  begun_there : Stands z (begun_at o.shape.n (keeps_in o.shape) (seen_as o) t m.gfid m.kind)
  begun_there = notes o (seen_as o) (move.HealBegin m.gfid m.kind) Done t k.heals.few k.heals.five tt (self_stands o)

  begun_near : lines_left o.shape.n (keeps_in o.shape) (begun_at o.shape.n (keeps_in o.shape) (seen_as o) t m.gfid m.kind) m.source.0 m.kind + 1 ≤ heal_left m → heal_left (begun t m) + 1 ≤ heal_left m
  begun_near h = (
      let e = restyled_is z (begun_at o.shape.n (keeps_in o.shape) (seen_as o) t m.gfid m.kind) begun_there in
      let i : lines_left o.shape.n (keeps_in o.shape) (begun_at o.shape.n (keeps_in o.shape) (seen_as o) t m.gfid m.kind) m.source.0 m.kind ≡ lines_left o.shape.n (keeps_in o.shape) (seen_as z) m.source.0 m.kind = ap (λ (r2 : Exact). lines_left o.shape.n (keeps_in o.shape) r2 m.source.0 m.kind) e in
      let j : lines_left o.shape.n (keeps_in o.shape) (seen_as z) m.source.0 m.kind + 1 ≤ heal_left m = omega (arith, h, i) in
      j)

pub heal_begins_nearer : NotesStand → HealComesNearer → HealBeginsNearer
heal_begins_nearer notes nearer m t k rooted next = (
  begun_near notes m t k (subst (λ (next : NextOfHeal). Nearer m.register.shape.n (keeps_in m.register.shape) (pick_for m.register.shape.n 0) (seen_as m.register) m.source.0 m.gfid m.kind next) next
      (nearer m.register.shape.n (keeps_in m.register.shape) (pick_for m.register.shape.n 0) (seen_as m.register) m.source.0 m.gfid m.kind k.heals.some k.heals.few (picks_for m.register.shape.n 0) k.heals.standing rooted k.short) t),
  rooted,
)

pub heal_end_left : HealKeepsEnd → HealEndLeft
heal_end_left end m k = end m.register.shape.n (keeps_in m.register.shape) (seen_as m.register) m.source.0 m.kind k.heals.some

-- ---- at first
pub heal_costs : HealCosts
heal_costs shape g kind = (by_kind kind, λ x held none. not_both false held refl)
  where
    by_kind : (kind : Kind) → shape.n + (2 * shape.n + 1) + rest_of shape.n kind ≤ heal_cost shape.n kind
    by_kind Attrs = omega arith
    by_kind Names = omega arith
    by_kind Bytes = omega arith
