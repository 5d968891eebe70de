-- In an epoch no post-op names the brick that is spared, so nothing that was clear ends in split-brain.
use Rattle.std.proofs.Common.{◌≡◌, ◌⊎◌, ℕ, suc, ◌+◌, ◌-◌, ◌<◌, ◌≤◌, ◌==◌, ◌||◌, ◌++◌, Bool, true, false, inl, inr, refl, sym, ◌∙◌, subst, arith, List, [], ◌∷◌, Some, drop, length, if◌then◌else◌, true≢false}
use Rattle.afr_base.specs.Bricks.{below, member}
use Rattle.afr_base.specs.SetLemmas.{below_all, within_below}
use Rattle.afr_base.specs.declared.ids.ActorId.{ActorId}
use Rattle.afr_base.specs.declared.ids.BrickId.{BrickId}
use Rattle.afr_base.specs.declared.ids.Gfid.{Gfid}
use Rattle.afr_base.specs.declared.ids.Kind.{Kind}
use Rattle.afr_lines.specs.Log.{EachLine, before, from_oldest}
use Rattle.afr_lines.specs.Work.{Work, is_end, is_killed, is_of, work}
use Rattle.afr_lines.specs.declared.line.Line.{Line}
use Rattle.afr_lines.specs.declared.line.Line.TheVariants.{Ask}
use Rattle.afr_lines.specs.declared.request.Request.TheVariants.{Post}
use Rattle.afr_lines.specs.declared.answer.Told.{Told}
use Rattle.afr_plan.specs.declared.plan.Plan.{Plan}
use Rattle.afr_model.specs.Following.{Follows, IsFollowing}
use Rattle.afr_model.specs.Safe.{log_before}
use Rattle.afr_model.specs.Splits.{IsSplit}
use Rattle.afr_model.specs.Sums.{has_object}
use Rattle.afr_law_tables.specs.Clear.{IsClear}
use Rattle.afr_law_tables.specs.TableLaws.{copy_stays}
use Rattle.afr_law_quiet.specs.Undisturbed.{IsEverywhere}
use Rattle.afr_law_quiet.proofs.Lists.Free.{still_killed}
use Rattle.afr_law_promises.specs.Missed.Missed.{AreAllMissed, IsMissed}
use Rattle.afr_law_passes.specs.Rolling.Rolling.{AreIdle, FailsNowhere, IsEpoch, IsSpared, NamesMissers}
use Rattle.afr_law.proofs.Model.Cells.{below_length}

-- ---- places in a log
-- a line since the start, with the lines between
record IsSince (R : Line → List Line → Type 0) (d : ℕ) (start : List Line) (line : Line) : Type 0 where
  mid : List Line
  fact : R line (mid ++ start)
  spared : IsSpared d mid

line_since : (R : Line → List Line → Type 0) (d : ℕ) (newer start : List Line) (k : ℕ) (line : Line) → EachLine R (newer ++ start) → IsSpared d newer → length start ≤ k → from_oldest k (newer ++ start) ≡ Some line → IsSince R d start line
line_since R d [] start k line each spare low e = absurd (let high = below_length start k line e in omega (arith, low, high))
line_since R d (x ∷ newer) start k line each spare low e = go (k == length (newer ++ start)) e (λ f. line_since R d newer start k line each.1 spare.1 low f)
  where
    go : (here : Bool) → (if here then Some x else from_oldest k (newer ++ start)) ≡ Some line → (from_oldest k (newer ++ start) ≡ Some line → IsSince R d start line) → IsSince R d start line
    go true f rest = (let same : x ≡ line = cc f in record { mid = newer; fact = subst (λ (l : Line). R l (newer ++ start)) same each.0; spared = spare.1 })
    go false f rest = rest f

-- ---- works
-- an actor that was between works has told lines of the epoch alone
work_spared : (a d : ℕ) (mid start : List Line) → work a start ≡ [] → IsSpared d mid → FailsNowhere d (work a (mid ++ start))
work_spared a d [] start idle spare = subst (FailsNowhere d) (sym idle) tt
work_spared a d (x ∷ mid) start idle spare = go (is_of a x) (is_end x) (work_spared a d mid start idle spare.1)
  where
    go : (mine ends : Bool) → FailsNowhere d (work a (mid ++ start)) → FailsNowhere d (if mine then (if ends then [] else (x, mid ++ start) ∷ work a (mid ++ start)) else work a (mid ++ start))
    go true true rest = tt
    go true false rest = (spare.0, rest)
    go false ends rest = rest

-- an object that a brick has stays there
pub has_later : (p : Plan) (g : Gfid) (d : ℕ) (m start : List Line) → has_object p start g d ≡ true → has_object p (m ++ start) g d ≡ true
has_later p g d [] start there = there
has_later p g d (y ∷ m) start there = copy_stays p y (m ++ start) d g (has_later p g d m start there)

-- its work began after the start, so a brick that had an object then had it when the work began
began_later : (p : Plan) (g : Gfid) (d a : ℕ) (mid start : List Line) → work a start ≡ [] → has_object p start g d ≡ true → (cur : List Line) → has_object p cur g d ≡ true → has_object p (log_before (work a (mid ++ start)) cur) g d ≡ true
began_later p g d a [] start idle there cur now = subst (λ (w : Work). has_object p (log_before w cur) g d ≡ true) (sym idle) now
began_later p g d a (x ∷ mid) start idle there cur now = go (is_of a x) (is_end x) (began_later p g d a mid start idle there (mid ++ start) (has_later p g d mid start there)) (began_later p g d a mid start idle there cur now)
  where
    go : (mine ends : Bool) → has_object p (log_before (work a (mid ++ start)) (mid ++ start)) g d ≡ true → has_object p (log_before (work a (mid ++ start)) cur) g d ≡ true
        → has_object p (log_before (if mine then (if ends then [] else (x, mid ++ start) ∷ work a (mid ++ start)) else work a (mid ++ start)) cur) g d ≡ true
    go true true mine other = now
    go true false mine other = mine
    go false ends mine other = other

-- ---- the epoch
nothing_newer : (newer start : List Line) → before (length start) (newer ++ start) ≡ start
nothing_newer newer start = subst (λ (k : ℕ). drop k (newer ++ start) ≡ start) (sym (count newer)) (dropped newer)
  where
    longer : (more : List Line) → length (more ++ start) ≡ length more + length start
    longer [] = omega arith
    longer (x ∷ more) = (let e = longer more in omega (arith, e))

    count : (more : List Line) → length (more ++ start) - length start ≡ length more
    count more = (let e = longer more in omega (arith, e))

    dropped : (more : List Line) → drop (length more) (more ++ start) ≡ start
    dropped [] = refl
    dropped (x ∷ more) = dropped more

-- the facts of a line that the epoch needs
abbrev pub Facts : Plan → Line → List Line → Type 0
Facts p line older = IsFollowing false p line older × NamesMissers p line older

pub both_facts : (p : Plan) (log : List Line) → Follows false p log → EachLine (NamesMissers p) log → EachLine (Facts p) log
both_facts p [] f n = tt
both_facts p (line ∷ older) f n = ((f.0, n.0), both_facts p older f.1 n.1)

module _ (p : Plan) (start : List Line) (idle : AreIdle p start) (g : Gfid) (d : ℕ) (low : d < p.shape.n) (there : has_object p start g d ≡ true) where
  unnamed : (mid : List Line) (a : ActorId) (b : BrickId) (attempt : ℕ) (kind : Kind) (missed : List ℕ) (told : Told) → IsSpared d mid → Facts p (Ask a b (Post attempt g kind missed) told true) (mid ++ start) → member missed d ≡ false
  unnamed mid a b attempt kind missed told spare facts = go (idle a.0 facts.0.1.0.actor)
    where
      go : (is_killed a.0 start ≡ true) ⊎ (work a.0 start ≡ []) → member missed d ≡ false
      go (inl dead) = absurd (true≢false (sym (still_killed a.0 mid start dead) ∙ facts.0.1.0.alive))
      go (inr none) = facts.1 d low (began_later p g d a.0 mid start none there (mid ++ start) (has_later p g d mid start there)) (work_spared a.0 d mid start none spare)

-- in an epoch that began between works, what every brick had and was clear isn't in split-brain
pub epoch_unsplit : (p : Plan) (start log : List Line) → p.shape.n ≤ 5 → EachLine (Facts p) log → AreAllMissed p log → AreIdle p start → (e : IsEpoch p start log)
    → (g : Gfid) (kind : Kind) → IsEverywhere p start g → IsClear p start g kind → IsSplit p log (below p.shape.n) g kind → ⊥
epoch_unsplit p start log five facts missed idle e g kind every clear split =
    true≢false (sym m.cause.cause.named ∙ unnamed p start idle g d e.low (every d e.low) at.mid m.cause.cause.actor (record { 0 = m.brick }) m.cause.cause.attempt kind m.cause.cause.missed m.cause.cause.told at.spared at.fact)
  where
    d : ℕ
    d = e.brick

    now : has_object p log g d ≡ true
    now = subst (λ (l : List Line). has_object p l g d ≡ true) (sym e.is) (has_later p g d e.newer start (every d e.low))

    was : before (length start) log ≡ start
    was = subst (λ (l : List Line). before (length start) l ≡ start) (sym e.is) (nothing_newer e.newer start)

    m : IsMissed log (below p.shape.n) (length start) d g kind
    m = missed (length start) (below p.shape.n) (within_below p.shape.n) g kind (subst (λ (l : List Line). IsClear p l g kind) (sym was) clear) split d (below_all p.shape.n d five e.low) now (e.full kind)

    line : Line
    line = Ask m.cause.cause.actor (record { 0 = m.brick }) (Post m.cause.cause.attempt g kind m.cause.cause.missed) m.cause.cause.told true

    at : IsSince (Facts p) d start line
    at = line_since (Facts p) d e.newer start m.cause.cause.position line (subst (EachLine (Facts p)) e.is facts) e.spared m.cause.after (subst (λ (l : List Line). from_oldest m.cause.cause.position l ≡ Some line) e.is m.cause.cause.posted)
