-- What a walk over a log has found of its workers, one line more at a time.
use Rattle.std.proofs.Common.{◌≡◌, ◌∙◌, ℕ, ◌+◌, ◌<◌, ◌||◌, ◌==◌, Bool, true, false, List, [], ◌∷◌, ◌++◌, Option, Some, None, if◌then◌else◌, refl, sym, ap, arith, length, nat_lt, reverse, slice_get, take}
use Rattle.afr_base.specs.declared.ids.ActorId.{ActorId}
use Rattle.afr_base.specs.declared.ids.BrickId.{BrickId}
use Rattle.afr_lines.specs.Work.{ended, ends_work, is_killed, kills}
use Rattle.afr_lines.specs.declared.answer.Told.{Told}
use Rattle.afr_lines.specs.declared.line.Line.{Line}
use Rattle.afr_lines.specs.declared.line.Line.TheVariants.{Ask, Begin, End, Event, HealBegin, HealEnd}
use Rattle.afr_lines.specs.declared.request.Request.{Request}
use Rattle.afr_log.specs.Log.{unasked, unasked_line}
use Rattle.afr_report.specs.Workers.{is_task_heal, is_worker_killed, shown_if, taken_behind, task_heals}
use Rattle.afr_report.proofs.ToldLemmas.{line_there, newest_shown as newest, shown}

-- ---- the line at a position, by what is shown of it
-- where it is shown, what it says is what is shown says
pub shown_says : {A : Type 0} (says : Line → A) (log : List Line) (at : ℕ) (seen line : Line) → Some seen ≡ unasked (slice_get log at) → slice_get log at ≡ Some line → says seen ≡ says line
shown_says says log at seen line e there =
    let same : Some seen ≡ Some line = sym (shown (slice_get log at) seen e) ∙ there in
    let one : seen ≡ line = cc in
    ap says one

-- where none is shown, it is a request
pub unshown_says : {A : Type 0} (says : Line → A) (none : A) → ((x : ActorId) (b : BrickId) (asked : Request) (told : Told) (took : Bool) → says (Ask x b asked told took) ≡ none) → (log : List Line) (at : ℕ) (line : Line)
    → None ≡ unasked (slice_get log at) → slice_get log at ≡ Some line → none ≡ says line
unshown_says says none k log at line e there = by line (e ∙ ap unasked there)
  where
    by : (line : Line) → None ≡ unasked_line line → none ≡ says line
    by (Ask x b asked told took) h = sym (k x b asked told took)
    by (Begin x change) h = absurd (cc h)
    by (HealBegin x g kind) h = absurd (cc h)
    by (End x said) h = absurd (cc h)
    by (HealEnd x g kind said) h = absurd (cc h)
    by (Event event) h = absurd (cc h)

-- ---- works
pub ended_next : (a : ℕ) (log : List Line) (at before more now : ℕ) → at < length log → ((line : Line) → slice_get log at ≡ Some line → more ≡ (if ends_work a line then 1 else 0))
    → before ≡ ended a (reverse (take at log)) → now ≡ before + more → now ≡ ended a (reverse (take (at + 1) log))
ended_next a log at before more now small k was sum =
    let there = line_there log at small in
    sum ∙ by (ends_work a there.0) (k there.0 there.1) ∙ ap (ended a) (sym (newest log at there.0 there.1))
  where
    by : (ends : Bool) → more ≡ (if ends then 1 else 0) → before + more ≡ (if ends then ended a (reverse (take at log)) + 1 else ended a (reverse (take at log)))
    by true e = omega (arith, e, was)
    by false e = omega (arith, e, was)

-- ---- kills
across : (a b c d : Bool) → ((a || b) || (c || d)) ≡ ((a || c) || (b || d))
across true b c d = refl
across false true true d = refl
across false true false d = refl
across false false true d = refl
across false false false d = refl

pub killed_next : (log : List Line) (at : ℕ) (before now : Bool) → at < length log → ((line : Line) → slice_get log at ≡ Some line → now ≡ ((kills 18 line || kills 19 line) || before))
    → before ≡ is_worker_killed (reverse (take at log)) → now ≡ is_worker_killed (reverse (take (at + 1) log))
killed_next log at before now small k was =
    let there = line_there log at small in
    let older = reverse (take at log) in
    k there.0 there.1 ∙ ap (λ (x : Bool). (kills 18 there.0 || kills 19 there.0) || x) was
    ∙ across (kills 18 there.0) (kills 19 there.0) (is_killed 18 older) (is_killed 19 older)
    ∙ ap is_worker_killed (sym (newest log at there.0 there.1))

-- ---- heals
-- one behind others, if there is one
abbrev pub behind_found : Option Line → List Line → List Line
behind_found None lines = lines
behind_found (Some line) lines = lines ++ line ∷ []

found_is_taken : (taken : Bool) (line : Line) (lines : List Line) → behind_found (shown_if taken line) lines ≡ taken_behind taken line lines
found_is_taken true line lines = refl
found_is_taken false line lines = refl

pub heals_next : (all_second all_third : ℕ) (log : List Line) (at second third : ℕ) (found : Option Line) (before now : List Line) → at < length log
    → ((line : Line) → slice_get log at ≡ Some line → found ≡ shown_if (is_task_heal (nat_lt second all_second) (nat_lt third all_third) line) line)
    → second ≡ ended 18 (reverse (take at log)) → third ≡ ended 19 (reverse (take at log)) → before ≡ task_heals all_second all_third (reverse (take at log))
    → now ≡ behind_found found before → now ≡ task_heals all_second all_third (reverse (take (at + 1) log))
heals_next all_second all_third log at second third found before now small k seconds thirds was is =
    let there = line_there log at small in
    let older = reverse (take at log) in
    is ∙ ap (λ (o : Option Line). behind_found o before) (k there.0 there.1) ∙ found_is_taken (is_task_heal (nat_lt second all_second) (nat_lt third all_third) there.0) there.0 before
    ∙ ap (λ (n : ℕ). taken_behind (is_task_heal (nat_lt n all_second) (nat_lt third all_third) there.0) there.0 before) seconds
    ∙ ap (λ (n : ℕ). taken_behind (is_task_heal (nat_lt (ended 18 older) all_second) (nat_lt n all_third) there.0) there.0 before) thirds
    ∙ ap (λ (lines : List Line). taken_behind (is_task_heal (nat_lt (ended 18 older) all_second) (nat_lt (ended 19 older) all_third) there.0) there.0 lines) was
    ∙ ap (task_heals all_second all_third) (sym (newest log at there.0 there.1))
