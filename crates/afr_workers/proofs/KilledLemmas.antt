-- Who was killed, by the lines of a log from its oldest one on.
use Rattle.std.proofs.Common.{◌≡◌, ◌∙◌, ℕ, suc, ◌+◌, ◌<◌, ◌==◌, ◌||◌, ◌++◌, if◌then◌else◌, Bool, true, false, List, [], ◌∷◌, Some, None, refl, sym, ap, arith, length, take, get_or, reverse, slice_get}
use Rattle.std.proofs.Math.Seq.{take-suc}
use Rattle.std.proofs.lemmas.Bool.Decides.{nat_tests}
use Rattle.std.proofs.lemmas.List.{reverse-append}
use Rattle.std.proofs.lemmas.Option.{get_or_from_slice_get, slice_get-get_or, slice_get_within}
use Rattle.afr_lines.specs.Work.{is_killed, kills}
use Rattle.afr_lines.specs.declared.line.Line.{Line}
use Rattle.afr_lines.specs.declared.line.Line.TheVariants.{Ask, Begin, End, Event, HealBegin, HealEnd}
use Rattle.afr_log.specs.Log.{unasked_line}
use Rattle.afr_model.specs.Crawl.{IsWorker}
use Rattle.afr_volume.specs.State.{State}
use Rattle.afr_workers.specs.Crew.{IsPlaced}
use Rattle.afr_workers.specs.declared.crew.Crew.{Crew}

-- of the lines up to a position the one that stands there is the newest
newest : (log : List Line) (at : ℕ) (line : Line) → slice_get log at ≡ Some line → reverse (take (at + 1) log) ≡ line ∷ reverse (take at log)
newest log at line e =
    let next : at + 1 ≡ suc at = omega arith in
    let whole : take (at + 1) log ≡ take at log ++ line ∷ [] =
    ap (λ (n : ℕ). take n log) next ∙ take-suc log at line (slice_get_within log at line e) ∙ ap (λ (x : Line). take at log ++ x ∷ []) (get_or_from_slice_get log at line line e) in
    ap (λ (t : List Line). reverse t) whole ∙ reverse-append (take at log) (line ∷ [])

line_there : (log : List Line) (at : ℕ) → at < length log → (line : Line) × (slice_get log at ≡ Some line)
line_there [] at small = absurd (omega (arith, small))
line_there (x ∷ log) at small = (get_or (x ∷ log) at x, slice_get-get_or (x ∷ log) at x small)

pub killed_next : (a : ℕ) (log : List Line) (at : ℕ) (before now : Bool) → at < length log → ((line : Line) → slice_get log at ≡ Some line → now ≡ (kills a line || before)) → before ≡ is_killed a (reverse (take at log)) → now ≡ is_killed a (reverse (take (at + 1) log))
killed_next a log at before now small k was =
    let there = line_there log at small in
    k there.0 there.1 ∙ ap (λ (x : Bool). kills a there.0 || x) was ∙ ap (is_killed a) (sym (newest log at there.0 there.1))

-- where a line is shown as no request, it is the one that stands there
pub kills_shown : (a : ℕ) (shown line : Line) → Some shown ≡ unasked_line line → kills a shown ≡ kills a line
kills_shown a shown (Ask x b asked told took) e = absurd (cc e)
kills_shown a shown (Begin x change) e = let same : shown ≡ Begin x change = cc e in ap (kills a) same
kills_shown a shown (HealBegin x g kind) e = let same : shown ≡ HealBegin x g kind = cc e in ap (kills a) same
kills_shown a shown (End x said) e = let same : shown ≡ End x said = cc e in ap (kills a) same
kills_shown a shown (HealEnd x g kind said) e = let same : shown ≡ HealEnd x g kind said = cc e in ap (kills a) same
kills_shown a shown (Event event) e = let same : shown ≡ Event event = cc e in ap (kills a) same

-- and where none is shown, it is a request
pub kills_unshown : (a : ℕ) (line : Line) → None ≡ unasked_line line → false ≡ kills a line
kills_unshown a (Ask x b asked told took) e = refl
kills_unshown a (Begin x change) e = absurd (cc e)
kills_unshown a (HealBegin x g kind) e = absurd (cc e)
kills_unshown a (End x said) e = absurd (cc e)
kills_unshown a (HealEnd x g kind said) e = absurd (cc e)
kills_unshown a (Event event) e = absurd (cc e)

-- what is noted of a worker
pub dead_is : (a : ℕ) (s : State) (crew : Crew) → IsWorker a → IsPlaced crew s → (if a == 18 then crew.second_killed else crew.third_killed) ≡ is_killed a s.log
dead_is a s crew worker k = by (a == 18) refl
  where
    by : (second : Bool) → (a == 18) ≡ second → (if second then crew.second_killed else crew.third_killed) ≡ is_killed a s.log
    by true e = let same : a ≡ 18 = grind (arith, nat_tests, e) in k.second ∙ ap (λ (c : ℕ). is_killed c s.log) (sym same)
    by false e =
        let low = worker.0 in
        let high = worker.1 in
        let same : a ≡ 19 = grind (arith, nat_tests, e, low, high) in
        k.third ∙ ap (λ (c : ℕ). is_killed c s.log) (sym same)
