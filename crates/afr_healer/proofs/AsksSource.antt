-- After a heal's request its lines show where it stands, whichever good copy is its source.
use Rattle.std.proofs.Common.{◌≡◌, ◌∙◌, ◌⊎◌, ℕ, zero, suc, ◌<◌, ◌≢◌, ◌&&◌, ◌==◌, not, Bool, true, false, List, ◌∷◌, refl, sym, ap, arith, subst, inl, inr, if◌then◌else◌}
use Rattle.std.proofs.lemmas.Bool.Decides.{eqb_tells}
use Rattle.afr_base.specs.declared.ids.ActorId.{ActorId}
use Rattle.afr_base.specs.declared.ids.BrickId.{BrickId}
use Rattle.afr_base.specs.declared.ids.Gfid.{Gfid}
use Rattle.afr_base.specs.declared.ids.Kind.{Kind}
use Rattle.afr_base.specs.declared.ids.Shape.{Shape}
use Rattle.afr_choice.specs.declared.looked.Looked.{Looked}
use Rattle.afr_discipline.specs.Notes.{noted_ask}
use Rattle.afr_discipline.specs.Stands.{Stands, seen_as}
use Rattle.afr_discipline.specs.Turns.{candidate}
use Rattle.afr_discipline.specs.declared.register.Move.TheVariants as move
use Rattle.afr_discipline.specs.declared.register.Register.{Register}
use Rattle.afr_heal.specs.Answers.{PicksOne, asked_for}
use Rattle.afr_heal.specs.Engine.{Ask as Asks}
use Rattle.afr_heal.proofs.Carried.{self_stands}
use Rattle.afr_law_heal.specs.HealLaws.{IsWholeTold, source_next}
use Rattle.afr_law_heal.specs.HealTelling.{HealTells, TellsAt}
use Rattle.afr_lines.specs.Told.{told_by}
use Rattle.afr_lines.specs.Work.{Work}
use Rattle.afr_lines.specs.declared.answer.Answer.{Answer}
use Rattle.afr_lines.specs.declared.answer.Told.{Told}
use Rattle.afr_lines.specs.declared.line.Line.{Line}
use Rattle.afr_lines.specs.declared.line.Line.TheVariants.{Ask}
use Rattle.afr_lines.specs.declared.request.Request.{Request}
use Rattle.afr_model_moves.specs.Keeps.{keeps_in}
use Rattle.afr_model_moves.specs.Register.{Exact, HealPart, Looks, Step, is_opening, same_step}
use Rattle.afr_model_moves.specs.Register as exact
use Rattle.afr_heal_machine.specs.Healing.{Healing as Heal, IsHealing, answered, coming}
use Rattle.afr_heal_machine.specs.Healing as heal
use Rattle.afr_heal_machine.specs.Source.{is_found}
use Rattle.afr_heal_machine.specs.declared.outcome.HealOutcome.{HealOutcome}
use Rattle.afr_healer.proofs.Gathered.{RoundLaws}

-- ---- a rule that picks
-- the highest number below n that passes
abbrev highest : ℕ → (ℕ → Bool) → ℕ
highest zero test = 0
highest (suc n) test = if test n then n else highest n test

highest_more : (n : ℕ) (test : ℕ → Bool) (x : ℕ) → x < suc n → test x ≡ true → (x < n → (highest n test < n) × (test (highest n test) ≡ true)) → (highest (suc n) test < suc n) × (test (highest (suc n) test) ≡ true)
highest_more n test x small e more = by (test n) refl (eqb_tells x n)
  where
    by : (c : Bool) → test n ≡ c → ((x == n) ≡ true) × (x ≡ n) ⊎ ((x == n) ≡ false) × (x ≢ n) → ((if c then n else highest n test) < suc n) × (test (if c then n else highest n test) ≡ true)
    by true k at = (omega (arith), k)
    by false k (inl at) = absurd (cc (sym k ∙ ap test (sym at.1) ∙ e))
    by false k (inr at) =
        let apart = at.1 in
        let rest = more (omega (arith, small, apart)) in
        (omega (arith, rest.0), rest.1)

picks : (n : ℕ) → PicksOne n (highest n)
picks zero test x small e = absurd (omega (arith, small))
picks (suc n) test x small e = highest_more n test x small e (λ below. picks n test x below e)

-- ---- while the first looks are asked no source is chosen
abbrev is_looking : Step → HealPart → Bool
is_looking step part = same_step step Looks && is_opening part

at_any : (broken : Bool) (step : Step) (part : HealPart) (shape : Shape) (r : Exact) (seen looked : Looked) (s t : ℕ) (g : Gfid) (kind : Kind) (o : HealOutcome) (w : Work) → is_looking step part ≡ true
    → TellsAt broken step part shape r seen looked s g kind o w → TellsAt broken step part shape r seen looked t g kind o w
at_any true step part shape r seen looked s t g kind o w e k = k
at_any false Looks exact.Opening shape r seen looked s t g kind o w e k = k
at_any false Looks exact.Piece shape r seen looked s t g kind o w e k = absurd (cc e)
at_any false Looks exact.Finish shape r seen looked s t g kind o w e k = absurd (cc e)
at_any false exact.Untouched part shape r seen looked s t g kind o w e k = absurd (cc e)
at_any false exact.Open part shape r seen looked s t g kind o w e k = absurd (cc e)
at_any false exact.Pres part shape r seen looked s t g kind o w e k = absurd (cc e)
at_any false exact.Applies part shape r seen looked s t g kind o w e k = absurd (cc e)
at_any false exact.Posts part shape r seen looked s t g kind o w e k = absurd (cc e)
at_any false exact.HealLocks part shape r seen looked s t g kind o w e k = absurd (cc e)
at_any false exact.WorkLocks part shape r seen looked s t g kind o w e k = absurd (cc e)
at_any false exact.Reads part shape r seen looked s t g kind o w e k = absurd (cc e)
at_any false exact.HealPres part shape r seen looked s t g kind o w e k = absurd (cc e)
at_any false exact.Mends part shape r seen looked s t g kind o w e k = absurd (cc e)
at_any false exact.Settles part shape r seen looked s t g kind o w e k = absurd (cc e)
at_any false exact.Unlocks part shape r seen looked s t g kind o w e k = absurd (cc e)
at_any false exact.HealUnlocks part shape r seen looked s t g kind o w e k = absurd (cc e)

tells_any : (q : Register) (s t : ℕ) (g : Gfid) (kind : Kind) (o : HealOutcome) (w : Work) → is_looking (seen_as q).step (seen_as q).part ≡ true → HealTells q s g kind o w → HealTells q t g kind o w
tells_any q s t g kind o w e k = record { at = at_any (seen_as q).broken (seen_as q).step (seen_as q).part q.shape (seen_as q) q.seen q.looked s t g kind o w e k.at; will = k.will }

none_found : (broken at opening all : Bool) → (at && opening) ≡ false → (broken && at && opening && all) ≡ false
none_found false at opening all e = refl
none_found true false opening all e = refl
none_found true true false all e = refl
none_found true true true all e = absurd (cc e)

-- ---- the program's register and the exact one are at the same step
module _ (laws : RoundLaws) (h : Heal) (sound : IsHealing h) (b : ℕ) (asked : Request) (e : coming h ≡ Asks b asked) (answer : Answer) (t : ℕ) (chosen : BrickId) where
  abbrev told : Told
  told = told_by answer

  abbrev after : Register
  after = noted_ask h.register t b asked told

  abbrev exactly : Exact
  exactly = asked_for h.register.shape.n (keeps_in h.register.shape) (seen_as h.register) t b asked told

  small : b < 5
  small = (let low = laws.heal.low h sound b asked e in omega (arith, low.0, low.1))

  stands : Stands after exactly
  stands =
      laws.notes_stand h.register (seen_as h.register) (move.Ask (record { 0 = b }) (record { ref_ptr = (0, 0); now = asked })) told t (laws.heal.low h sound b asked e).1 sound.heals.five small
      (self_stands h.register)

  same_looking : is_looking exactly.step exactly.part ≡ is_looking (seen_as after).step (seen_as after).part
  same_looking = rw (stands.step, stands.part) refl

  abbrev source_by_rule : ℕ
  source_by_rule = source_next (highest h.register.shape.n) h.register t b asked told h.source.0

  -- what is told of the source by some rule is told of the heal's source
  told_of_source : (g : Gfid) (kind : Kind) (o : HealOutcome) (w : Work) → HealTells after source_by_rule g kind o w → HealTells after (answered h b asked answer t chosen).source.0 g kind o w
  told_of_source g kind o w k = by (is_looking (seen_as after).step (seen_as after).part) refl
    where
      by : (c : Bool) → is_looking (seen_as after).step (seen_as after).part ≡ c → HealTells after (answered h b asked answer t chosen).source.0 g kind o w
      by true is = tells_any after source_by_rule _ g kind o w is k
      by false is =
          let stays : source_by_rule ≡ h.source.0 =
          ap (λ (c : Bool). if c then highest h.register.shape.n (candidate h.register.shape.n (keeps_in h.register.shape) exactly) else h.source.0) (same_looking ∙ is) in
          let none : is_found h.register.shape.n (seen_as after) ≡ false = none_found (not after.broken) _ _ _ is in
          let kept : (answered h b asked answer t chosen).source ≡ h.source = ap (λ (c : Bool). if c then chosen else h.source) none in
          subst (λ (s : ℕ). HealTells after s g kind o w) (stays ∙ sym (ap (λ (s : BrickId). s.0) kept)) k

  -- one line more of a heal
  pub tells_more : (a : ActorId) (took : Bool) (log : List Line) (w : Work) → IsHealing (answered h b asked answer t chosen) → heal.CanHear (Asks b asked) answer → IsWholeTold told → HealTells h.register h.source.0 h.gfid h.kind h.outcome w
      → HealTells (answered h b asked answer t chosen).register (answered h b asked answer t chosen).source.0 h.gfid h.kind (answered h b asked answer t chosen).outcome ((Ask a (record { 0 = b }) asked told took, log) ∷ w)
  tells_more a took log w stays hears whole k =
      told_of_source h.gfid h.kind (answered h b asked answer t chosen).outcome ((Ask a (record { 0 = b }) asked told took, log) ∷ w)
      (laws.telling.more (highest h.register.shape.n) h.register h.source.0 h.gfid h.kind h.outcome w a b t asked told took log (picks h.register.shape.n) sound.heals (laws.heal.five (answered h b asked answer t chosen) stays) e hears.0 whole k)
