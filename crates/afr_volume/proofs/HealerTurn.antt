-- A healer's whole turn: its premises from what the volume keeps, and what it leaves.
use Rattle.std.proofs.Common.{◌≡◌, ◌∙◌, ℕ, zero, suc, ◌+◌, ◌-◌, ◌<◌, ◌≤◌, true, false, List, [], ◌∷◌, ◌++◌, refl, sym, ap, arith, subst, length, Option, Some, None, slice_get, set, reverse, nat_le, nat_lt, not, Bool, ◌&&◌, ◌||◌, ◌⊎◌, ◌≢◌, ◌==◌, inl, inr}
use Rattle.std.specs.Prelude.{is_some}
use Rattle.std.proofs.lemmas.Bool.Decides.{eqb_tells, nat_tests}
use Rattle.std.proofs.lemmas.List.{length-reverse}
use Rattle.std.proofs.lemmas.Option.{slice_get_within}
use Rattle.std.proofs.lemmas.Bool.{ne_eqb}
use Rattle.afr_base.specs.declared.ids.ActorId.{ActorId}
use Rattle.afr_base.specs.declared.ids.Gfid.{Gfid}
use Rattle.afr_base.specs.declared.ids.What.{What}
use Rattle.afr_heal_round.specs.Rounding.{IsAnswered, IsFed, Rounding}
use Rattle.afr_lines.specs.Work.{ended, is_killed, is_of, work}
use Rattle.afr_lines.specs.declared.line.Line.{Line}
use Rattle.afr_model.specs.Actors.{Client, Healer as ByHealer, IsActor, rounds_of, works_of}
use Rattle.afr_model.specs.Crawl.{CanCrawl}
use Rattle.afr_plan.specs.declared.plan.Plan.{Plan}
use Rattle.afr_healer.specs.Acting.{CanStep, Stepped}
use Rattle.afr_healer.proofs.Fed.{steps_answered}
use Rattle.afr_healer.specs.Keeping.{CarriesIts, IsHealer}
use Rattle.afr_healer.specs.Laws.{IsBeforeRound, IsMadeReady, IsWritten, RoundKeeps}
use Rattle.afr_healer.specs.declared.healer.Healer.{Healer}
use Rattle.afr_rule.specs.Choosing.{Calls}
use Rattle.afr_server.specs.Serving.{Serving}
use Rattle.afr_law_picks.proofs.Sources.HealerTurn.{healer_turn}
use Rattle.afr_law_picks.specs.Sources.Chosen.{AreChosen}
use Rattle.afr_law_picks.specs.Sources.Laws.{LineKeepsSource}
use Rattle.afr_law_picks.specs.Sources.Sources.{picks_of, sources_of}
use Rattle.afr_volume.specs.Keeping.{AreCrawling, AreHealers, CanRun, IsVolume, IsWhole}
use Rattle.afr_volume.specs.Laws.{PaceLaws, RoundLaws}
use Rattle.afr_volume.specs.Lists.{Lists, ListsLine, given_lists, noted}
use Rattle.afr_volume.specs.Pacing.{ArePaced}
use Rattle.afr_volume.specs.State.{State}
use Rattle.afr_volume.specs.Tasks.{is_done_in, tasks_of}
use Rattle.afr_volume.specs.Turning.{ReadiedHealerAt, StepsHealerAt, due_at}
use Rattle.afr_volume.specs.declared.actor.Actor.{Actor}
use Rattle.afr_volume.proofs.Before.{healer_is}
use Rattle.afr_volume.proofs.HealersKeep.{before_round, kept_healer, kept_line, kept_round, ready_healer, round_keeps, round_wrote}
use Rattle.afr_volume.proofs.LineKeeps.{Wrote, other_work, wrote_other, wrote_own}
use Rattle.afr_volume.proofs.PaceHeals.{heal_rises}
use Rattle.afr_volume.proofs.PaceRounds.{ready_rounds, round_paced}
use Rattle.afr_volume.proofs.PaceTurns.{is_of_plan}
use Rattle.afr_volume.proofs.SourceLemmas.{readied_sources}
use Rattle.afr_volume.proofs.LogLemmas.{reverse_push}
use Rattle.afr_volume.proofs.ListLemmas.{given_beside, lists_noted}
use Rattle.afr_volume.proofs.TaskDone.{done_by_plan, done_is, goes_rounds, left_is}
use Rattle.afr_volume.proofs.TaskLemmas.{readied_crawls}
use Rattle.afr_volume.proofs.TaskTurn.{KeepsTasks, keeps_tasks}
use Rattle.afr_volume.proofs.WholeTurn.{ended_le, none_due, settled}

pub above : (a : ℕ) → 17 ≤ a → a ≤ 16 → ⊥
above a low high = absurd (omega (arith, low, high))

got_set : (l : List Healer) (i : ℕ) (y z : Healer) → i < length l → slice_get (set l i y) i ≡ Some z → z ≡ y
got_set [] i y z small e = absurd (omega (arith, small))
got_set (x ∷ l) zero y z small e = sym (cc e)
got_set (x ∷ l) (suc i) y z small e = got_set l i y z (omega (arith, small)) e

module _ {crawl : Bool} (laws : RoundLaws) (paces : PaceLaws) (p : Plan) (a : ActorId) (items : List Line) (actors : List Actor) (healers readied : List Healer) (servers : List Serving) (made : ℕ) (w : IsWhole crawl p (reverse items) servers actors healers made) (healer : 17 ≤ a.0) (actor : IsActor p a.0)
    (room : length items < p.turns) (r : ReadiedHealerAt crawl p a.0 healers readied) where
  pub known : a.0 < 20
  known = (healer_is p a.0 w.kept.runnable (above a.0 healer) actor).2

  some : 0 < p.shape.n
  some = let most = (healer_is p a.0 w.kept.runnable (above a.0 healer) actor).1 in w.kept.runnable.healed (omega (arith, most, healer))

  pub can : crawl ≡ true → CanCrawl p
  can e = (w.crawling e).can

  few : length (reverse items) < p.turns
  few = omega (arith, length-reverse items, room)

  pub ready_whole : IsWhole crawl p (reverse items) servers actors readied made
  ready_whole = record {
    kept = w.kept;
    healing = kept_healer laws p a.0 (reverse items) servers healers readied healer known w.kept.runnable.few (w.kept.runnable.rounds a.0) can w.healing r;
    pacing = ready_rounds paces p a.0 (reverse items) servers actors healers readied w.healing r w.pacing;
    crawling = readied_crawls crawl p a.0 (reverse items) healers readied healer known r w.crawling;
  }

  mine : (x : Healer) → slice_get readied (a.0 - 17) ≡ Some x → IsHealer crawl p (reverse items) a.0 servers x
  mine x is = (let e : 17 + (a.0 - 17) ≡ a.0 = omega (arith, healer) in subst (λ (c : ℕ). IsHealer crawl p (reverse items) c servers x) e (ready_whole.healing.each (a.0 - 17) x is))

  is_after : (x : Healer) → slice_get readied (a.0 - 17) ≡ Some x → x ≡ r.after
  is_after x is = got_set healers (a.0 - 17) r.after x (slice_get_within healers (a.0 - 17) r.before r.was) (rw r.set_is at is)

  pub busy : (x : Healer) → slice_get readied (a.0 - 17) ≡ Some x → (is_some x.round ≡ true) × (x.ended < 4294967295)
  busy x is =
      let k = mine x is in
      let count = k.ended_is in
      (ap (λ (z : Healer). is_some z.round) (is_after x is ∙ r.readies), omega (arith, count, ended_le a.0 (reverse items), w.kept.room, w.kept.runnable.turns))

  made_so : (x : Healer) → slice_get readied (a.0 - 17) ≡ Some x → IsMadeReady x
  made_so x is = ready_healer laws p a.0 (reverse items) servers healers readied healer known w.kept.runnable.few (w.kept.runnable.rounds a.0) can w.healing r x is

  -- what its line needs is there
  pub steps : (at : ℕ) → at ≡ length items → (x : Healer) → slice_get readied (a.0 - 17) ≡ Some x → CanStep a at x servers
  steps at position x is =
      subst (λ (at : ℕ). CanStep a at x servers) (length-reverse items ∙ sym position)
      (laws.can crawl p a (reverse items) servers x (before_round p a (reverse items) servers actors made w.kept healer known some few) (mine x is) (made_so x is))

  -- ---- the turn
  pub record Healed (added : List Line) (new_servers : List Serving) (new_healers : List Healer) (line : Line) : Type 0 where
    pub whole : IsWhole crawl p (reverse added) new_servers actors new_healers made
    pub own : is_of a.0 line ≡ true
    pub log : reverse added ≡ line ∷ reverse items
    pub tasks : KeepsTasks crawl p a.0 (reverse items) healers new_healers line

  pub healed : (at : ℕ) (added : List Line) (new_healers : List Healer) (new_servers : List Serving) (line : Line) → is_killed a.0 (reverse items) ≡ false → due_at p (reverse items) ≡ None → at ≡ length items
      → StepsHealerAt IsAnswered a at readied new_healers servers new_servers line → added ≡ items ++ line ∷ [] → Healed added new_servers new_healers line
  healed at added new_healers new_servers line alive none position s grown = record {
    whole = rw (grown, reverse_push items line, s.set_is) kept;
    own = wrote_own a line wrote;
    log = rw grown (reverse_push items line);
    tasks = tasks;
  }
    where
      stepped : Stepped IsAnswered a (length (reverse items)) s.before s.after servers new_servers line
      stepped = subst (λ (at : ℕ). Stepped IsAnswered a at s.before s.after servers new_servers line) (position ∙ sym (length-reverse items)) s.steps

      wrote : Wrote a line
      wrote = round_wrote laws p a (reverse items) servers new_servers actors readied made line s.before s.after ready_whole healer known some s.was (made_so s.before s.was) few stepped

      same : StepsHealerAt IsAnswered a (length (reverse items)) readied new_healers servers new_servers line
      same = subst (λ (at : ℕ). StepsHealerAt IsAnswered a at readied new_healers servers new_servers line) (position ∙ sym (length-reverse items)) s

      tasks : KeepsTasks crawl p a.0 (reverse items) healers new_healers line
      tasks = keeps_tasks crawl p a (reverse items) servers new_servers healers readied new_healers line healer known w.kept.runnable.clients w.crawling r same (mine same.before same.was)
          (round_keeps laws p a (reverse items) servers new_servers actors readied made line same.before same.after ready_whole healer known some same.was (made_so same.before same.was) few same.steps)
          (λ c apart. other_work a c line (reverse items) wrote (ne_eqb a.0 c apart))

      volume : IsVolume crawl p (line ∷ reverse items) new_servers actors made
      volume = kept_line laws p a (reverse items) servers new_servers actors readied made line s.before s.after ready_whole healer known some s.was (made_so s.before s.was) few stepped actor alive
          (none_due p (reverse items) few none)

      paced : ArePaced p (line ∷ reverse items) actors (set readied (a.0 - 17) s.after)
      paced = round_paced paces p a (reverse items) servers new_servers actors readied made line s.before s.after ready_whole healer known some s.was (made_so s.before s.was) few stepped wrote
          (heal_rises paces p a (reverse items) servers new_servers s.before s.after line (mine s.before s.was) stepped (is_of_plan p (line ∷ reverse items) new_servers actors made volume))

      kept : IsWhole crawl p (line ∷ reverse items) new_servers actors (set readied (a.0 - 17) s.after) made
      kept = kept_round laws p a (reverse items) servers new_servers actors readied made line s.before s.after ready_whole healer known some s.was (made_so s.before s.was) few stepped actor alive
          (none_due p (reverse items) few none) paced (rw s.set_is at tasks.crawling)

  -- what is kept of the lists is what the crawler was given
  pub lists_after : (at : ℕ) (new_healers : List Healer) (new_servers : List Serving) (line : Line) (lists after : Lists) → at ≡ length items → StepsHealerAt IsAnswered a at readied new_healers servers new_servers line → ListsLine crawl a.0 readied servers line lists after
      → (crawl ≡ true → reverse lists ≡ given_lists p (reverse items)) → crawl ≡ true → reverse after ≡ given_lists p (line ∷ reverse items)
  lists_after at new_healers new_servers line lists after position s noting was crawls = ap reverse noting.value ∙ by (eqb_tells a.0 17)
    where
      same : StepsHealerAt IsAnswered a (length (reverse items)) readied new_healers servers new_servers line
      same = subst (λ (at : ℕ). StepsHealerAt IsAnswered a at readied new_healers servers new_servers line) (position ∙ sym (length-reverse items)) s

      keeps : RoundKeeps crawl p a (reverse items) line same.after servers new_servers
      keeps = round_keeps laws p a (reverse items) servers new_servers actors readied made line same.before same.after ready_whole healer known some same.was (made_so same.before same.was) few same.steps

      by : ((a.0 == 17) ≡ true) × (a.0 ≡ 17) ⊎ ((a.0 == 17) ≡ false) × (a.0 ≢ 17) → reverse (noted noting.shown line lists) ≡ given_lists p (line ∷ reverse items)
      by (inl e) =
          let first : a.0 - 17 ≡ 0 = omega (arith, e.1) in
          let there : slice_get readied 0 ≡ Some same.before = subst (λ (i : ℕ). slice_get readied i ≡ Some same.before) first same.was in
          lists_noted p a (reverse items) servers new_servers same.before same.after line lists noting.shown e.1 w.kept.runnable.clients (w.kept.runnable.rounds 17) w.kept.served (subst (λ (goes : Bool). RoundKeeps goes p a (reverse items) line same.after servers new_servers) crawls keeps) same.steps
          (noting.shows same.before same.steps.round (rw (crawls, e.0) refl) there same.steps.present) (was crawls)
      by (inr e) =
          let nothing : noting.shown ≡ None = noting.none (rw (crawls, e.0) refl) in
          subst (λ (o : Option (List (Gfid × What))). reverse (noted o line lists) ≡ given_lists p (line ∷ reverse items)) (sym nothing)
          (was crawls ∙ sym (given_beside p line (reverse items) (wrote_other a 17 line (round_wrote laws p a (reverse items) servers new_servers actors readied made line same.before same.after ready_whole healer known some same.was (made_so same.before same.was) few same.steps) e.0)))

  -- where the turn asks a rule, what that picked is kept
  pub sources_kept : {F : Type 0} (calls : Calls F) (choose : F) → LineKeepsSource calls choose → crawl ≡ false → (at : ℕ) (added : List Line) (new_healers : List Healer) (new_servers : List Serving) (line : Line) → at ≡ length items
      → StepsHealerAt (IsFed calls choose) a at readied new_healers servers new_servers line → added ≡ items ++ line ∷ [] → AreChosen (picks_of calls choose) p (reverse items) (sources_of healers) → AreChosen (picks_of calls choose) p (reverse added) (sources_of new_healers)
  sources_kept calls choose law plain at added new_healers new_servers line position s grown k =
      rw (grown, reverse_push items line)
      (healer_turn calls choose law p a (reverse items) servers new_servers readied new_healers s.before s.after line before s.was (own s.before s.was) (made_so s.before s.was) stepped written s.set_is (rw (← readied_sources p a.0 healers readied r) at k))
    where
      stepped : Stepped (IsFed calls choose) a (length (reverse items)) s.before s.after servers new_servers line
      stepped = subst (λ (at : ℕ). Stepped (IsFed calls choose) a at s.before s.after servers new_servers line) (position ∙ sym (length-reverse items)) s.steps

      before : IsBeforeRound false p a (reverse items) servers
      before = subst (λ (goes : Bool). IsBeforeRound goes p a (reverse items) servers) plain (before_round p a (reverse items) servers actors made w.kept healer known some few)

      own : (x : Healer) → slice_get readied (a.0 - 17) ≡ Some x → IsHealer false p (reverse items) a.0 servers x
      own x is = subst (λ (goes : Bool). IsHealer goes p (reverse items) a.0 servers x) plain (mine x is)

      written : IsWritten a line
      written = (laws.keeps false p a (reverse items) servers new_servers s.before s.after line before (own s.before s.was) (made_so s.before s.was) (steps_answered calls choose a (length (reverse items)) s.before s.after servers new_servers line stepped)).written

-- whatever the rule was, the line is one that a heal may write
pub answered_at : {F : Type 0} (calls : Calls F) (choose : F) (a : ActorId) (at : ℕ) (old new : List Healer) (bricks after : List Serving) (line : Line) → StepsHealerAt (IsFed calls choose) a at old new bricks after line
    → StepsHealerAt IsAnswered a at old new bricks after line
answered_at calls choose a at old new bricks after line s = record {
  before = s.before;
  after = s.after;
  was = s.was;
  steps = steps_answered calls choose a at s.before s.after bricks after line s.steps;
  set_is = s.set_is;
}

some_healer : (healers : List Healer) (i : ℕ) → i < length healers → (x : Healer) × (slice_get healers i ≡ Some x)
some_healer [] i small = absurd (omega (arith, small))
some_healer (x ∷ healers) zero small = (x, refl)
some_healer (x ∷ healers) (suc i) small = some_healer healers i (omega (arith, small))

-- ---- who is done
module _ {crawl : Bool} (p : Plan) (log : List Line) (servers : List Serving) (actors : List Actor) (healers : List Healer) (made : ℕ) (sources picked : List (Option ℕ)) (v : IsWhole crawl p log servers actors healers made) (a : ℕ) (low : 17 ≤ a) where
  abbrev now : State
  now = record { plan = p; log = log; sources = sources; picked = picked; crawl = crawl; tasks = tasks_of crawl healers }

  stands : (x : Healer) → slice_get healers (a - 17) ≡ Some x → IsHealer crawl p log a servers x
  stands x is = let e : 17 + (a - 17) ≡ a = omega (arith, low) in subst (λ (c : ℕ). IsHealer crawl p log c servers x) e (v.healing.each (a - 17) x is)

  pub healer_left : is_done_in a now ≡ false → (x : Healer) → slice_get healers (a - 17) ≡ Some x → x.round ≡ None → x.ended < length (rounds_of p a)
  healer_left left x is none = left_is crawl p log sources picked healers v.crawling a low x is (stands x is).ended_is left none

  pub healer_there : IsActor p a → (x : Healer) × (slice_get healers (a - 17) ≡ Some x)
  healer_there actor = let most = (healer_is p a v.kept.runnable (above a low) actor).1 in some_healer healers (a - 17) (omega (arith, low, most, v.healing.same))

  pub healer_done : IsActor p a → (result : Bool)
      → ((x : Healer) → slice_get healers (a - 17) ≡ Some x → result ≡ (x.killed || (not (crawl && (nat_lt 17 a && is_some x.round)) && nat_le (length (rounds_of p a)) x.ended))) → result ≡ is_done_in a now
  healer_done actor result is =
      let x = healer_there actor in
      let k = stands x.0 x.1 in
      done_is crawl p log sources picked healers v.crawling a low x.0 x.1 k.killed_is k.ended_is result (is x.0 x.1)

-- a healer that has ended all its rounds, and is at no task, has no present one
pub rested : {crawl : Bool} (laws : RoundLaws) (p : Plan) (log : List Line) (servers : List Serving) (sources picked : List (Option ℕ)) (healers : List Healer) → CanRun p → AreHealers crawl p log servers healers → (crawling : crawl ≡ true → AreCrawling p log healers) → (a : ℕ) → 17 ≤ a → IsActor p a
    → is_done_in a (record { plan = p; log = log; sources = sources; picked = picked; crawl = crawl; tasks = tasks_of crawl healers }) ≡ true → is_killed a log ≡ false → work a log ≡ []
rested {crawl = crawl} laws p log servers sources picked healers run k crawling a low actor done alive = by x.0.round refl mine.carries
  where
    bounds : (17 ≤ a) × (a ≤ 16 + length p.healers) × (a < 20)
    bounds = healer_is p a run (above a low) actor

    x : (x : Healer) × (slice_get healers (a - 17) ≡ Some x)
    x = let high = bounds.1 in some_healer healers (a - 17) (omega (arith, low, high, k.same))

    mine : IsHealer crawl p log a servers x.0
    mine = let e : 17 + (a - 17) ≡ a = omega (arith, low) in subst (λ (c : ℕ). IsHealer crawl p log c servers x.0) e (k.each (a - 17) x.0 x.1)

    few : length (rounds_of p a) ≤ ended a log
    few =
        let d : nat_le (works_of p a) (ended a log) ≡ true = rw alive at (done_by_plan a (record { plan = p; log = log; sources = sources; picked = picked; crawl = crawl; tasks = tasks_of crawl healers }) done) in
        let many : nat_lt 16 a ≡ true = grind (arith, nat_tests, low) in
        let m : nat_le (length (rounds_of p a)) (ended a log) ≡ true = rw many at d in
        grind (arith, nat_tests, m)

    by : (round : Option Rounding) → x.0.round ≡ round → CarriesIts crawl p a log x.0.visit.met x.0.visit.epochs servers round → work a log ≡ []
    by None none carries = carries.none
    by (Some m) some carries = laws.ends crawl p a log servers x.0 (goes_rounds crawl p log sources picked healers crawling a low x.0 x.1 done alive m some) few mine

-- nor has a client
pub all_rest : {crawl : Bool} (laws : RoundLaws) (p : Plan) (log : List Line) (servers : List Serving) (actors : List Actor) (healers : List Healer) (made : ℕ) (sources picked : List (Option ℕ)) → IsWhole crawl p log servers actors healers made → (a : ℕ) → IsActor p a
    → is_done_in a (record { plan = p; log = log; sources = sources; picked = picked; crawl = crawl; tasks = tasks_of crawl healers }) ≡ true → is_killed a log ≡ false → work a log ≡ []
all_rest {crawl = crawl} laws p log servers actors healers made sources picked v a (Client one most) done alive =
    settled p log servers actors made v.kept a (omega (arith, most, v.kept.runnable.clients)) (Client one most) (done_by_plan a (record { plan = p; log = log; sources = sources; picked = picked; crawl = crawl; tasks = tasks_of crawl healers }) done) alive
all_rest laws p log servers actors healers made sources picked v a (ByHealer low most) done alive = rested laws p log servers sources picked healers v.kept.runnable v.healing v.crawling a low (ByHealer low most) done alive
