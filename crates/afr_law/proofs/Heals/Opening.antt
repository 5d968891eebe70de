-- The first lock of a heal opens it.
use Rattle.afr_base.specs.declared.ids.ActorId.{ActorId}
use Rattle.afr_base.specs.declared.ids.Gfid.{Gfid}
use Rattle.afr_base.specs.declared.ids.Kind.{Kind}
use Rattle.afr_model_moves.specs.Discipline.{MayExactly, MovesExactly, exact, exact_after, in_force, note, present}
use Rattle.afr_model_moves.specs.Register.{Exact, Untouched}
use Rattle.afr_model_moves.specs.Lines.{ask_by}
use Rattle.afr_law.proofs.Discipline.Projection.{same_actor}
use Rattle.afr_law.proofs.Discipline.Untouched.{moved}
use Rattle.afr_lines.specs.declared.answer.Told.{Told}
use Rattle.afr_lines.specs.declared.line.Line.{Line}
use Rattle.afr_lines.specs.declared.line.Line.TheVariants.{Ask, Begin, End, Event, HealBegin, HealEnd}
use Rattle.afr_lines.specs.declared.reply.HealReply.{HealReply}
use Rattle.afr_lines.specs.declared.reply.Reply.{Reply}
use Rattle.afr_lines.specs.declared.request.Area.{Area}
use Rattle.afr_lines.specs.declared.request.Request.TheVariants.{Lock}
use Rattle.afr_lines.specs.Places.{Between, Fresh, Indexed, Place, Within, next_place}
use Rattle.afr_lines.specs.declared.lock.Domain.TheVariants.{Heal}
use Rattle.std.proofs.Common.{Bool, ap, false, refl, subst, suc, sym, true, true≢false, zero, ℕ, ◌≡◌}
use Rattle.std.specs.Prelude.{None, Option, Some}
use Rattle.afr_model_moves.specs.Rules as weak
use Rattle.afr_model_moves.specs.Past.{Log, is_of, opens, place, place_after}

pub ended : (p : Place) (x : ActorId) (reply : Reply) → next_place p (End x reply) ≡ Within → ⊥
ended Fresh x reply e = cc e
ended Indexed x reply e = cc e
ended Between x reply e = cc e
ended Within x reply e = cc e

healed : (p : Place) (x : ActorId) (g : Gfid) (kind : Kind) (reply : HealReply) → next_place p (HealEnd x g kind reply) ≡ Within → ⊥
healed Fresh x g kind reply e = cc e
healed Indexed x g kind reply e = cc e
healed Between x g kind reply e = cc e
healed Within x g kind reply e = cc e

module _ (n : ℕ) (keeps : ℕ → Kind → Bool) (log : Log) (lawful : MovesExactly n keeps log) where
  own_touched : (t a : ℕ) (r : Exact) (p : Place) (line : Option Line) → is_of a line ≡ true → MayExactly n keeps (λ x. r) line → place_after true p line ≡ Within → (note n keeps r t line).step ≡ Untouched → ⊥
  own_touched t a r p None mine may w e = true≢false (sym mine)
  own_touched t a r p (Some (Ask x b request told took)) mine may w e = moved n keeps r t b.0 request told may.1 e
  own_touched t a r p (Some (Begin x change)) mine may w e = cc e
  own_touched t a r p (Some (HealBegin x g kind)) mine may w e = cc e
  own_touched t a r p (Some (End x reply)) mine may w e = ended p x reply w
  own_touched t a r p (Some (HealEnd x g kind reply)) mine may w e = healed p x g kind reply w
  own_touched t a r p (Some (Event k)) mine may w e = true≢false (sym mine)

  touched : (t a : ℕ) → place log t a ≡ Within → (exact n keeps log t a).step ≡ Untouched → ⊥
  unfolding exact place
  touched zero a w e = cc w
  touched (suc t) a w e = go (touched t a) (is_of a (log t)) refl w e
    where
      go : (place log t a ≡ Within → (exact n keeps log t a).step ≡ Untouched → ⊥) → (mine : Bool) → is_of a (log t) ≡ mine → place_after mine (place log t a) (log t) ≡ Within
          → (exact_after n keeps mine (opens (place log t a) (log t)) (exact n keeps log t a) t (log t)).step ≡ Untouched → ⊥
      go old false f w e = old w e
      go old true f w e = own_touched t a (present n keeps log t a) (place log t a) (log t) f (same_actor n keeps log t a (log t) f (lawful t)) w e

  -- so the first lock of a heal opens it
  pub opens_here : (t a b : ℕ) (area : Area) (told : Told) (took : Bool) → log t ≡ Some (ask_by a b (Lock Heal area) told took) → (present n keeps log t a).step ≡ Untouched → weak.opened log t a ≡ true
  unfolding opens
  opens_here t a b area told took is first = go (place log t a) refl
    where
      at : (p : Place) → (p ≡ Within → ⊥) → opens p (Some (ask_by a b (Lock Heal area) told took)) ≡ true
      at Fresh k = refl
      at Indexed k = refl
      at Between k = refl
      at Within k = absurd (k refl)

      go : (p : Place) → place log t a ≡ p → weak.opened log t a ≡ true
      go p e = rw is (at (place log t a) (λ w. touched t a w (subst (λ (f : Bool). (in_force f (exact n keeps log t a)).step ≡ Untouched) (closed w) first)))
        where
          closed : place log t a ≡ Within → weak.opened log t a ≡ false
          closed w = ap (λ (p : Place). opens p (log t)) w
