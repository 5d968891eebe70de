-- What the bricks tell a heal: a brick that showed its copy has it still.
use Rattle.afr_base.specs.declared.ids.Kind.{Kind}
use Rattle.afr_lines.specs.declared.fault.Fault.{Fault}
use Rattle.afr_lines.specs.declared.fault.Fault.TheVariants.{Fail, Lost}
use Rattle.afr_model_moves.specs.Note.{fails}
use Rattle.afr_model_moves.specs.Lines.{ask_by, look_at, pre_on}
use Rattle.afr_model_moves.specs.Past.{Beginning, Log, holds, joined, keep, kind_at, opening}
use Rattle.afr_law.proofs.Safety.Touches.{kind_next}
use Rattle.afr_lines.specs.declared.answer.Told.{Told}
use Rattle.afr_lines.specs.declared.answer.Told.TheVariants.{Done, Given, Seen}
use Rattle.afr_lines.specs.declared.request.Request.{Request}
use Rattle.afr_object.specs.declared.entry.View.{View}
use Rattle.std.proofs.Common.{Bool, ap, arith, false, not, refl, subst, suc, sym, true, true≢false, zero, ℕ, ◌+◌, ◌<◌, ◌||◌, ◌∙◌, ◌≡◌}
use Rattle.std.proofs.lemmas.Bool.Decides.{nat_tests}
use Rattle.std.specs.Prelude.{None, Option, Some, ◌-◌, ◌==◌}
use Rattle.afr_model_moves.specs.Honest.{HonestAsk, HonestLine, Honest, Tells, Answers, asked}

-- the tables of a brick keep their objects
holds_next : (files : Beginning) (log : Log) (t b g : ℕ) → holds files log t b g ≡ true → holds files log (suc t) b g ≡ true
holds_next files log t b g h = go (kind_at files log t b g) _ (kind_next files log t b g) h
  where
    go : (k new : ℕ) → kind_at files log (suc t) b g ≡ keep k new → not (k == 0) ≡ true → not (kind_at files log (suc t) b g == 0) ≡ true
    go zero new e h = cc h
    go (suc k) new e h = rw e (some k)
      where
        some : (k : ℕ) → not (suc k == 0) ≡ true
        some k = grind (arith, nat_tests)

pub holds_later : (files : Beginning) (log : Log) (b g l d : ℕ) → holds files log l b g ≡ true → holds files log (d + l) b g ≡ true
holds_later files log b g l zero h = (let same : l ≡ 0 + l = omega arith in subst (λ u. holds files log u b g ≡ true) same h)
holds_later files log b g l (suc d) h = (
    let same : suc (d + l) ≡ suc d + l = omega arith in
    subst (λ u. holds files log u b g ≡ true) same (holds_next files log (d + l) b g (holds_later files log b g l d h))
    )

module _ (files : Beginning) (log : Log) (t a b : ℕ) where
  shown_ask : (g : ℕ) (view : View) (took live : Bool) (fault : Option Fault) → HonestAsk files log t a b (look_at g) (Seen view) took live fault → (took ≡ true) × (holds files log t b g ≡ true)
  shown_ask g view took false fault h = absurd (cc h.0)
  shown_ask g view took true (Some Fail) h = absurd (cc h.0)
  shown_ask g view took true (Some Lost) h = absurd (cc h.0)
  shown_ask g view took true None h = (h.1, go (holds files log t b g) refl h.0)
    where
      go : (found : Bool) → holds files log t b g ≡ found → Tells files log t a b (look_at g) (Seen view) found → holds files log t b g ≡ true
      go true e k = e
      go false e k = absurd (cc k)

  given_ask : (request : Request) (took live : Bool) (fault : Option Fault) → HonestAsk files log t a b request Given took live fault → took ≡ true
  given_ask request took false fault h = absurd (cc h.0)
  given_ask request took true (Some Fail) h = absurd (cc h.0)
  given_ask request took true (Some Lost) h = absurd (cc h.0)
  given_ask request took true None h = h.1

  look_ask : (g : ℕ) (told : Told) (took live : Bool) (fault : Option Fault) → holds files log t b g ≡ true → fails told ≡ false → HonestAsk files log t a b (look_at g) told took live fault → (view : View) × (told ≡ Seen view)
  look_ask g told took false fault there ok h = absurd (true≢false (sym (ap fails h.0) ∙ ok))
  look_ask g told took true (Some Fail) there ok h = absurd (true≢false (sym (ap fails h.0) ∙ ok))
  look_ask g told took true (Some Lost) there ok h = absurd (true≢false (sym (ap fails h.0) ∙ ok))
  look_ask g told took true None there ok h = seen told (subst (Tells files log t a b (look_at g) told) there h.0)
    where
      seen : (d : Told) → Answers files log t a b (look_at g) d → (view : View) × (d ≡ Seen view)
      seen (Seen view) k = (view, refl)
      seen _ k = absurd k

  pre_ask : (g : ℕ) (kind : Kind) (told : Told) (took live : Bool) (fault : Option Fault) → holds files log t b g ≡ true → fails told ≡ false → HonestAsk files log t a b (pre_on g kind) told took live fault → told ≡ Done
  pre_ask g kind told took false fault there ok h = absurd (true≢false (sym (ap fails h.0) ∙ ok))
  pre_ask g kind told took true (Some Fail) there ok h = absurd (true≢false (sym (ap fails h.0) ∙ ok))
  pre_ask g kind told took true (Some Lost) there ok h = absurd (true≢false (sym (ap fails h.0) ∙ ok))
  pre_ask g kind told took true None there ok h = done told (subst (Tells files log t a b (pre_on g kind) told) there h.0)
    where
      done : (d : Told) → Answers files log t a b (pre_on g kind) d → d ≡ Done
      done Done k = refl
      done _ k = absurd k

-- what a heal needs of honest answers
pub record Honestly (log : Log) : Type 0 where
  pub shown : (t a b g : ℕ) (view : View) (took : Bool) → log t ≡ Some (ask_by a b (look_at g) (Seen view) took) → took ≡ true
  pub given : (t a b : ℕ) (request : Request) (took : Bool) → log t ≡ Some (ask_by a b request Given took) → took ≡ true
  -- a brick that showed its copy shows it again, and carries out a Pre on it, or fails
  pub again : (l t a b g : ℕ) (view : View) (told : Told) (took : Bool) → l < t → log l ≡ Some (ask_by a b (look_at g) (Seen view) true) → log t ≡ Some (ask_by a b (look_at g) told took) → fails told ≡ false → (new : View) × (told ≡ Seen new)
  pub carried : (l t a b g : ℕ) (view : View) (kind : Kind) (told : Told) (took : Bool) → l < t → log l ≡ Some (ask_by a b (look_at g) (Seen view) true) → log t ≡ Some (ask_by a b (pre_on g kind) told took) → fails told ≡ false → told ≡ Done

module _ (files : Beginning) (faults : ℕ → ℕ → Option Fault) (log : Log) (honest : Honest files faults log) where
  asked_honestly : (t a b : ℕ) (request : Request) (told : Told) (took : Bool) → log t ≡ Some (ask_by a b request told took)
      → HonestAsk files log t a b request told took (joined log t a b || opening log t a b) (faults b (suc (asked log t b)))
  asked_honestly t a b request told took is = subst (HonestLine files faults log t) is (honest t)

  pub still_there : (l t a b g : ℕ) (view : View) → l < t → log l ≡ Some (ask_by a b (look_at g) (Seen view) true) → holds files log t b g ≡ true
  still_there l t a b g view past is = (
      let was = (shown_ask files log l a b g view true (joined log l a b || opening log l a b) (faults b (suc (asked log l b))) (asked_honestly l a b (look_at g) (Seen view) true is)).1 in
      let d : t ≡ (t - l) + l = omega (arith, past) in
      subst (λ u. holds files log u b g ≡ true) (sym d) (holds_later files log b g l (t - l) was)
      )

  pub honestly : Honestly log
  honestly = record {
    shown = λ t a b g view took is. (shown_ask files log t a b g view took (joined log t a b || opening log t a b) (faults b (suc (asked log t b))) (asked_honestly t a b (look_at g) (Seen view) took is)).0;
    given = λ t a b request took is. given_ask files log t a b request took (joined log t a b || opening log t a b) (faults b (suc (asked log t b))) (asked_honestly t a b request Given took is);
    again = λ l t a b g view told took past was is ok. look_ask files log t a b g told took (joined log t a b || opening log t a b) (faults b (suc (asked log t b))) (still_there l t a b g view past was) ok (asked_honestly t a b (look_at g) told took is);
    carried = λ l t a b g view kind told took past was is ok. pre_ask files log t a b g kind told took (joined log t a b || opening log t a b) (faults b (suc (asked log t b))) (still_there l t a b g view past was) ok (asked_honestly t a b (pre_on g kind) told took is);
  }
