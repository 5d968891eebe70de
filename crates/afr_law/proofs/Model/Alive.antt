-- Who was killed has no session.
use Rattle.std.proofs.Common.{◌≡◌, ℕ, ◌&&◌, ◌||◌, not, Bool, true, false, refl, sym, ◌∙◌, List, [], ◌∷◌, true≢false}
use Rattle.afr_lines.specs.Work.{is_killed, is_of, kills}
use Rattle.afr_lines.specs.declared.line.Event.TheVariants.{Kill}
use Rattle.afr_lines.specs.declared.line.Event.TheVariants as event_of
use Rattle.afr_lines.specs.declared.line.Line.TheVariants.{Ask, Begin, End, Event, HealBegin, HealEnd}
use Rattle.afr_lines.specs.declared.line.Line.{Line}
use Rattle.afr_model.specs.Following.{Follows}
use Rattle.afr_model.specs.Sessions.{ends_session, is_joined, opens_with}
use Rattle.afr_plan.specs.declared.plan.Plan.{Plan}
use Rattle.afr_law.proofs.Model.Tasks.{turn_of}
use Rattle.afr_base.proofs.TestLemmas.{and_not}

kill_ends : (x b : ℕ) (line : Line) → kills x line ≡ true → ends_session x b line ≡ true
kill_ends x b (Event (Kill y)) k = k
kill_ends x b (Event (event_of.Stop y)) k = absurd (true≢false (sym k))
kill_ends x b (Event (event_of.Start y)) k = absurd (true≢false (sym k))
kill_ends x b (Event (event_of.Cut y z)) k = absurd (true≢false (sym k))
kill_ends x b (Event (event_of.Join y z)) k = absurd (true≢false (sym k))
kill_ends x b (Ask y z r told took) k = absurd (true≢false (sym k))
kill_ends x b (Begin y change) k = absurd (true≢false (sym k))
kill_ends x b (HealBegin y g kind) k = absurd (true≢false (sym k))
kill_ends x b (End y said) k = absurd (true≢false (sym k))
kill_ends x b (HealEnd y g kind said) k = absurd (true≢false (sym k))

pub killed_apart : (crawl : Bool) (p : Plan) (x b : ℕ) (log : List Line) → Follows crawl p log → is_killed x log ≡ true → is_joined p x b log ≡ false
killed_apart crawl p x b [] f e = absurd (true≢false (sym e))
killed_apart crawl p x b (line ∷ older) f e = go (kills x line) refl (is_killed x older) refl e (λ k. killed_apart crawl p x b older f.1 k)
  where
    quiet : (was new end : Bool) → was ≡ false → new ≡ false → ((was || new) && not end) ≡ false
    quiet was new end k l = rw (k, l) refl

    unopened : (mine : Bool) → is_of x line ≡ mine → is_killed x older ≡ true → opens_with p x b line older ≡ false
    unopened true g dead = absurd (true≢false (sym dead ∙ (turn_of crawl p x line older g f).alive))
    unopened false g dead = rw g refl

    go : (k : Bool) → kills x line ≡ k → (d : Bool) → is_killed x older ≡ d → (k || d) ≡ true → (is_killed x older ≡ true → is_joined p x b older ≡ false) → is_joined p x b (line ∷ older) ≡ false
    go true k d g h rest = and_not (is_joined p x b older || opens_with p x b line older) (ends_session x b line) (kill_ends x b line k)
    go false k true g h rest = quiet (is_joined p x b older) (opens_with p x b line older) (ends_session x b line) (rest g) (unopened (is_of x line) refl g)
    go false k false g h rest = absurd (true≢false (sym h))

-- so who has one lives
pub joined_alive : (crawl : Bool) (p : Plan) (x b : ℕ) (log : List Line) → Follows crawl p log → is_joined p x b log ≡ true → is_killed x log ≡ false
joined_alive crawl p x b log f e = go (is_killed x log) refl
  where
    go : (d : Bool) → is_killed x log ≡ d → is_killed x log ≡ false
    go true k = absurd (true≢false (sym e ∙ killed_apart crawl p x b log f k))
    go false k = k
