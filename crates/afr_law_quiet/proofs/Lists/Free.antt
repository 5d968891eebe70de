-- In a quiet round nobody else holds a Heal lock.
use Rattle.std.proofs.Common.{◌≡◌, ℕ, suc, ◌<◌, ◌&&◌, ◌||◌, not, ◌==◌, Bool, true, false, ◌⊎◌, inl, inr, refl, sym, ◌∙◌, subst, ap, arith, List, [], ◌∷◌, ◌++◌, length, Option, Some, None, true≢false}
use Rattle.std.specs.Prelude.{if◌then◌else◌}
use Rattle.std.proofs.lemmas.Bool.{eqb-true, or_right}
use Rattle.std.proofs.lemmas.Bool.Decides.{nat_tests}
use Rattle.afr_base.specs.SetLemmas.{below_all}
use Rattle.afr_base.specs.declared.ids.ActorId.{ActorId}
use Rattle.afr_base.specs.declared.ids.BrickId.{BrickId}
use Rattle.afr_lines.specs.declared.fault.Fault.{Fault}
use Rattle.afr_lines.specs.declared.fault.Fault.TheVariants.{Fail, Lost}
use Rattle.afr_lines.specs.Overlap.{overlap}
use Rattle.afr_lines.specs.Places.{Fresh, next_place, place_of}
use Rattle.afr_lines.specs.Work.{is_end, is_killed, is_of, kills, work}
use Rattle.afr_lines.specs.declared.answer.Told.TheVariants.{Granted, Held}
use Rattle.afr_lines.specs.declared.line.Line.{Line}
use Rattle.afr_lines.specs.declared.line.Line.TheVariants.{Ask, Begin, End, Event, HealBegin, HealEnd}
use Rattle.afr_lines.specs.declared.request.Area.{Area}
use Rattle.afr_lines.specs.declared.request.Request.TheVariants.{Lock}
use Rattle.afr_lines.specs.declared.lock.Domain.{Domain}
use Rattle.afr_lines.specs.declared.lock.Domain.TheVariants.{Heal, Work as WorkDomain}
use Rattle.afr_plan.specs.declared.plan.Plan.{Plan}
use Rattle.afr_model.specs.Actors.{IsActor}
use Rattle.afr_model.specs.Honest.{fault_in}
use Rattle.afr_model_moves.proofs.ByPosition.{past_whole}
use Rattle.afr_model_moves.proofs.Places.{place_is}
use Rattle.afr_model_moves.proofs.Tests.{same_self}
use Rattle.afr_model_moves.specs.Honest.{HonestAsk, HonestLine, asked}
use Rattle.afr_model_moves.specs.Lines.{ask_by}
use Rattle.afr_model_moves.specs.Past.{Log, blocks, held, joined, opening, place}
use Rattle.afr_model_moves.specs.Positions.{by_position}
use Rattle.afr_law.proofs.Model.Sessions.{joined_is}
use Rattle.afr_law.proofs.Safety.Locks.{Grant, held_past}
use Rattle.afr_law.proofs.Safety.Sessions.{held_joined, held_line}
use Rattle.afr_law.specs.Beginning.{start_of}
use Rattle.afr_law.specs.Exactly.{name_bound}
use Rattle.afr_law.proofs.Model.Alive.{killed_apart}
use Rattle.afr_law.proofs.Model.Tasks.{turn_of}
use Rattle.afr_law.proofs.Model.Works.{work_more}
use Rattle.afr_law_quiet.proofs.Lists.Cuts.{cut_of}
use Rattle.afr_law_quiet.proofs.Lists.Lone.{lone}
use Rattle.afr_law_quiet.proofs.Lists.Premises.{Sound, sound_before, sound_exactly, sound_honest}
use Rattle.afr_law_quiet.proofs.Lists.Runs.{AreMine}
use Rattle.afr_law_quiet.proofs.Copies.Stretch.{ends_place}

-- ---- actors that are dead, or between works
pub still_killed : (x : ℕ) (ls base : List Line) → is_killed x base ≡ true → is_killed x (ls ++ base) ≡ true
still_killed x [] base e = e
still_killed x (line ∷ ls) base e = or_right (kills x line) (is_killed x (ls ++ base)) (still_killed x ls base e)

-- who is between works stands at the beginning of one
rests_fresh : (x : ℕ) (log : List Line) → work x log ≡ [] → place_of x log ≡ Fresh
rests_fresh x [] e = refl
rests_fresh x (line ∷ older) e = go (is_of x line) refl (λ k. rests_fresh x older k)
  where
    mine : (end : Bool) → is_end line ≡ end → is_of x line ≡ true → next_place (place_of x older) line ≡ Fresh
    mine true f g = ends_place (place_of x older) line f
    mine false f g = absurd (let k = sym (work_more x line older g f) ∙ e in cc k)

    go : (m : Bool) → is_of x line ≡ m → (work x older ≡ [] → place_of x older ≡ Fresh) → (if m then next_place (place_of x older) line else place_of x older) ≡ Fresh
    go true f rest = mine (is_end line) refl f
    go false f rest = rest (let k : work x (line ∷ older) ≡ [] = e in rw f at k)

not_other : (a x : ℕ) (line : Line) → is_of a line ≡ true → (x ≡ a → ⊥) → is_of x line ≡ false
not_other a x line mine apart = go line mine
  where
    differ : (y : ℕ) → (y == a) ≡ true → (y == x) ≡ false
    differ y e = no (y == x) refl
      where
        no : (m : Bool) → (y == x) ≡ m → (y == x) ≡ false
        no true f = absurd (apart (sym (eqb-true y x f) ∙ eqb-true y a e))
        no false f = f

    go : (line : Line) → is_of a line ≡ true → is_of x line ≡ false
    go (Ask y z r told took) e = differ y.0 e
    go (Begin y change) e = differ y.0 e
    go (HealBegin y g kind) e = differ y.0 e
    go (End y said) e = differ y.0 e
    go (HealEnd y g kind said) e = differ y.0 e
    go (Event event) e = absurd (true≢false (sym e))

place_kept : (a x : ℕ) (ls base : List Line) → AreMine a ls → (x ≡ a → ⊥) → place_of x (ls ++ base) ≡ place_of x base
place_kept a x [] base mine apart = refl
place_kept a x (line ∷ ls) base mine apart = rw (not_other a x line mine.0.0 apart) (place_kept a x ls base mine.1 apart)

-- ---- the lock that is in the way
-- what is in the way is held by another in the same domain
blocking : (a x b : ℕ) (domain : Domain) (area e : Area) (took : Bool) → blocks a Heal area (Some (ask_by x b (Lock domain e) Granted took)) ≡ true → (domain ≡ Heal) × (x ≡ a → ⊥)
blocking a x b WorkDomain area e took h = absurd (true≢false (sym h))
blocking a x b Heal area e took h = (refl, λ same. go (x == a) (let k : (x == a) ≡ true = grind (arith, nat_tests, same) in k) h)
  where
    go : (m : Bool) → m ≡ true → (not m && overlap area e) ≡ true → ⊥
    go true k l = true≢false (sym l)
    go false k l = true≢false (sym k)

module _ (p : Plan) (a : ℕ) (ls base : List Line) (mine : AreMine a ls) (alone : (x : ℕ) → IsActor p x → (x ≡ a → ⊥) → (is_killed x base ≡ true) ⊎ (work x base ≡ [])) where
  -- nobody else holds a Heal lock
  nobody : (line : Line) → Sound p (line ∷ (ls ++ base)) → (x b q : ℕ) (area : Area) → b < p.shape.n → (x ≡ a → ⊥) → Grant (by_position (line ∷ (ls ++ base))) q x b Heal area → held (by_position (line ∷ (ls ++ base))) (length (ls ++ base)) b q ≡ true → ⊥
  nobody line s x b q area low apart grant k =
      let L : Log = by_position (line ∷ (ls ++ base)) in
      let whole = past_whole (line ∷ (ls ++ base)) in
      let before = sound_before p line (ls ++ base) s in
      let honest = sound_honest p (line ∷ (ls ++ base)) s in
      let cut = cut_of p L (line ∷ (ls ++ base)) whole s q (ask_by x b (Lock Heal area) Granted grant.took) (let past = held_past L (length (ls ++ base)) b q k in omega (arith, past)) grant.is in
      let actor : IsActor p x = (turn_of false p x (ask_by x b (Lock Heal area) Granted grant.took) cut.older (same_self x) cut.sound.follows).actor in
      let live : joined L (length (ls ++ base)) x b ≡ true = held_joined (start_of p (name_bound p)) (fault_in p.faults) L honest (length (ls ++ base)) x b q Heal area grant k in
      elim (alone x actor apart) [
        | inl dead ↦ true≢false (sym (sym (joined_is L p x b (below_all p.shape.n b s.small low) (ls ++ base) whole.1) ∙ live) ∙ killed_apart false p x b (ls ++ base) before.follows (still_killed x ls base dead))
        | inr rests ↦ (let l = lone p.shape.n (start_of p (name_bound p)) (fault_in p.faults) L honest (sound_exactly p (line ∷ (ls ++ base)) s).moves (length (ls ++ base)) x in
            let at : place L (length (ls ++ base)) x ≡ Fresh = place_is L x (ls ++ base) whole.1 ∙ place_kept a x ls base mine apart ∙ rests_fresh x base rests in
            let w = l.locks b q area grant k in
            true≢false (sym w.healing ∙ l.rest (λ e. cc (at, e)) b w.below))
      ]

  -- so a Heal lock is granted
  pub lock_free : (x : ActorId) (b : BrickId) (area : Area) (owner : ActorId) (took : Bool) → x.0 ≡ a → b.0 < p.shape.n → Sound p (Ask x b (Lock Heal area) (Held owner) took ∷ (ls ++ base)) → ⊥
  lock_free x b area owner took same low s =
      let log : List Line = Ask x b (Lock Heal area) (Held owner) took ∷ (ls ++ base) in
      let L : Log = by_position log in
      let t : ℕ = length (ls ++ base) in
      go (joined L t x.0 b.0 || opening L t x.0 b.0) (fault_in p.faults b.0 (suc (asked L t b.0))) (subst (HonestLine (start_of p (name_bound p)) (fault_in p.faults) L t) (past_whole log).0 (sound_honest p log s t))
    where
      found : (q : ℕ) → held (by_position (Ask x b (Lock Heal area) (Held owner) took ∷ (ls ++ base))) (length (ls ++ base)) b.0 q ≡ true → blocks x.0 Heal area (by_position (Ask x b (Lock Heal area) (Held owner) took ∷ (ls ++ base)) q) ≡ true → ⊥
      found q k block = (
          let w = held_line (by_position (Ask x b (Lock Heal area) (Held owner) took ∷ (ls ++ base))) (length (ls ++ base)) b.0 q k in
          let other = blocking x.0 w.0 b.0 w.1 area w.2 w.3 (ap (blocks x.0 Heal area) (sym w.4) ∙ block) in
          nobody (Ask x b (Lock Heal area) (Held owner) took) s w.0 b.0 q w.2 low (λ e. other.1 (e ∙ sym same)) (record { took = w.3; is = w.4 ∙ ap (λ (d : Domain). Some (ask_by w.0 b.0 (Lock d w.2) Granted w.3)) other.0 }) k
          )

      go : (live : Bool) (fault : Option Fault) → HonestAsk (start_of p (name_bound p)) (by_position (Ask x b (Lock Heal area) (Held owner) took ∷ (ls ++ base))) (length (ls ++ base)) x.0 b.0 (Lock Heal area) (Held owner) took live fault → ⊥
      go false fault h = absurd (let k = h.0 in cc)
      go true (Some Fail) h = absurd (let k = h.0 in cc)
      go true (Some Lost) h = absurd (let k = h.0 in cc)
      go true None h = found (h.0).0 (h.0).1 (h.0).2
