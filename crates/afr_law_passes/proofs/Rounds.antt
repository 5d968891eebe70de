-- What an undisturbed round leaves: what was clear, and each object that every brick has.
use Rattle.std.proofs.Common.{ap, arith, inl, inr, refl, subst, sym, ℕ, ◌<◌, ◌∙◌, ◌≡◌, ◌≤◌, ◌⊎◌, [], ◌∷◌, length}
use Rattle.std.specs.Prelude.{List as Seq, Some, slice_get}
use Rattle.afr_base.specs.declared.ids.ActorId.{ActorId}
use Rattle.afr_base.specs.declared.ids.BrickId.{BrickId}
use Rattle.afr_base.specs.declared.ids.Gfid.{Gfid}
use Rattle.afr_base.specs.declared.ids.Kind.{Kind}
use Rattle.afr_lines.specs.Log.{EachLine}
use Rattle.afr_lines.specs.Work.{Work as Lines, ended, work}
use Rattle.afr_lines.specs.declared.line.Line.{Line}
use Rattle.afr_lines.specs.declared.line.Line.TheVariants.{Ask, Begin, End, Event, HealBegin, HealEnd}
use Rattle.afr_lines.specs.declared.reply.HealReply.{HealReply}
use Rattle.afr_lines.specs.declared.reply.Reply.{Reply}
use Rattle.afr_plan.specs.declared.command.Command.{Command}
use Rattle.afr_plan.specs.declared.plan.Plan.{Plan}
use Rattle.afr_model.specs.Actors.{script_of}
use Rattle.afr_model.specs.Healing.{heal_by}
use Rattle.afr_model.specs.Quiet.{IsQuiet}
use Rattle.afr_model.specs.Safe.{log_before}
use Rattle.afr_model.specs.Splits.{IsSplit}
use Rattle.afr_law_tables.specs.Clear.{IsClear}
use Rattle.afr_base.specs.Bricks.{below}
use Rattle.afr_law_tables.specs.Codes.{kept_by}
use Rattle.afr_model_moves.specs.Discipline.{MayExactly, note, present}
use Rattle.afr_model_moves.specs.Past.{Log}
use Rattle.afr_model_moves.specs.Positions.{by_position}
use Rattle.afr_model_moves.specs.Register.{Exact, untouched}
use Rattle.afr_model_moves.proofs.ByPosition.{IsPast, past_whole}
use Rattle.afr_model_moves.proofs.Places.{place_is}
use Rattle.afr_law_quiet.specs.Undisturbed.{AreQuietWhole, EachHeal, EndsRepaired, IsEverywhere, IsQuietWhole, IsTold, IsWholeRound, begun_after}
use Rattle.afr_law_quiet.proofs.Copies.After.{After, after_fresh}
use Rattle.afr_law_quiet.proofs.Copies.AfterLines.{after_own}
use Rattle.afr_law_quiet.proofs.Copies.Kept.{fresh_now}
use Rattle.afr_law_quiet.proofs.Copies.Premises.{Premises, honest_lines, moves, shorter}
use Rattle.afr_law_quiet.proofs.Copies.Round.{Round, round_fresh, round_own, work_own}
use Rattle.afr_law_quiet.proofs.Copies.Stretch.{Calm, IsTail, Stretch, at_tail, before_tail, count, fresh_before, fresh_work, stretch}
use Rattle.afr_law_quiet.proofs.Copies.Walk.{walk}
use Rattle.afr_law.proofs.Model.Tasks.{no_script}
use Rattle.afr_law_quiet.specs.Rounds.Whole.{QuietRoundsAreWhole, RoundsAreLow}
use Rattle.afr_law_passes.specs.Converged.{IsQuietLeft, IsUnchanged, QuietRoundsLeave}
use Rattle.afr_law_passes.proofs.Lines.{Left, state_own, still_fresh}
use Rattle.afr_law_passes.proofs.Spared.{unchanged_self}
use Rattle.afr_law_passes.proofs.Standing.{BeganSo, Gone, Same, went_open}

-- ---- the moment at which the round began
pub premises_then : (p : Plan) (cur log : Seq Line) → IsTail cur log → Premises p log → Premises p cur
premises_then p cur [] e q = subst (Premises p) (sym e) q
premises_then p cur (line ∷ older) (inl e) q = subst (Premises p) (sym e) q
premises_then p cur (line ∷ older) (inr t) q = premises_then p cur older t (shorter p line older q)

past_then : (L : Log) (cur log : Seq Line) → IsTail cur log → IsPast L log → IsPast L cur
past_then L cur [] e q = subst (IsPast L) (sym e) q
past_then L cur (line ∷ older) (inl e) q = subst (IsPast L) (sym e) q
past_then L cur (line ∷ older) (inr t) q = past_then L cur older t q.1

module _ (p : Plan) (log : Seq Line) (premises : Premises p log) (a : ℕ) (quiet : IsQuiet p a log) (no_command : (k : ℕ) (c : Command) → slice_get (script_of p a) k ≡ Some c → ⊥) where
  abbrev n : ℕ
  n = p.shape.n

  abbrev L : Log
  L = by_position log

  abbrev pub start : Seq Line
  start = log_before (work a log) log

  abbrev lo : ℕ
  lo = length (log_before (work a log) log)

  abbrev now : Seq Line → Exact
  now o = present p.shape.n (kept_by p) (by_position log) (length o) a

  abbrev Tells : Gfid → Kind → HealReply → Seq Line → Type 0
  Tells h k said before = IsTold p h k said (heal_by (work a before))

  abbrev Keeps : Gfid → Kind → HealReply → Seq Line → Type 0
  Keeps h k said before = EndsRepaired p log h k said (heal_by (work a before))

  at_start : now start ≡ untouched
  at_start = fresh_now n (kept_by p) L lo a (place_is L a start (past_then L start log (before_tail a log) (past_whole log)) ∙ fresh_before a log)

  -- what is clear stays clear, whoever has the object
  module _ (g : Gfid) (kind : Kind) (clear : IsClear p (log_before (work a log) log) g kind) where
    abbrev Any : Seq Line → Type 0
    Any o = Unit {0}

    clear_rests : After p g kind Any log (now log)
    clear_rests = walk n (kept_by p) L (moves p log premises) a lo (Premises p) (shorter p) (After p g kind Any) (λ older r none w. after_fresh p g kind Any older w.clear w.kept)
        (λ line older q past calm w may. after_own p L (moves p log premises) a g kind Any (λ line older q s k. tt) (λ older k c e. no_command (ended a older) c e) older line q past calm w may)
        log premises (past_whole log) (stretch a log quiet.together quiet.unfailed)
        (at_tail (λ o. After p g kind Any o (now o)) start log (before_tail a log) (subst (After p g kind Any start) (sym at_start) (after_fresh p g kind Any start clear tt)))
        (let few = count a log in omega (arith, few))

  module _ (told : EachHeal Tells (work a log)) (kept : EachHeal Keeps (work a log)) (g : Gfid) (kind : Kind) (every : IsEverywhere p (log_before (work a log) log) g) where
    before : Premises p start
    before = premises_then p start log (before_tail a log) premises

    -- what is known of the log after each line of the round
    record Facts (o : Seq Line) : Type 0 where
      premises_now : Premises p o
      calm : Stretch a lo o
      tells : lo ≤ length o → EachHeal Tells (work a o)
      holds_on : lo ≤ length o → EachHeal Keeps (work a o)

    fewer : (line : Line) (older : Seq Line) → Facts (line ∷ older) → Facts older
    fewer line older f = record {
      premises_now = shorter p line older f.premises_now;
      calm = f.calm.1;
      tells = λ late. (subst (EachHeal Tells) (work_own a line older (f.calm.0 late)) (f.tells (omega (arith, late)))).1;
      holds_on = λ late. (subst (EachHeal Keeps) (work_own a line older (f.calm.0 late)) (f.holds_on (omega (arith, late)))).1;
    }

    abbrev State : Seq Line → Exact → Type 0
    State o r = (lo ≤ length o) × Round p a o r × Left p a start g kind log o r

    reset : (older : Seq Line) (r : Exact) → heal_by (work a older) ≡ [] → State older r → State older untouched
    reset older r none h = (h.0, round_fresh p a older none, go h.2)
      where
        go : Left p a start g kind log older r → Left p a start g kind log older untouched
        go (inl s) = inl (still_fresh p a start g kind older s.same)
        go (inr (inl w)) = absurd (let k : begun_after [] ≡ Some w.first = subst (λ (l : Lines). begun_after l ≡ Some w.first) none w.is in cc k)
        go (inr (inr gone)) = inr (inr gone)

    own : (line : Line) (older : Seq Line) → Facts (line ∷ older) → IsPast L (line ∷ older) → Calm a line → State older (now older) → MayExactly n (kept_by p) (λ x. now older) (Some line) → State (line ∷ older) (note n (kept_by p) (now older) (length older) (Some line))
    own line older f past calm h may = (
        let late : lo ≤ length (line ∷ older) = (let few = h.0 in omega (arith, few)) in (
          late,
          round_own p L (moves p log premises) (honest_lines p log premises) a older line f.premises_now past calm h.1 may,
          state_own p L (moves p log premises) a start before g kind every log no_command older line f.premises_now past calm (subst (EachHeal Tells) (work_own a line older calm) (f.tells late)).0 (subst (EachHeal Keeps) (work_own a line older calm) (f.holds_on late)).0 h.1 h.2 may,
        )
        )

    nothing_yet : work a start ≡ []
    nothing_yet = fresh_work a start (fresh_before a log)

    begins : State start (now start)
    begins = subst (State start) (sym at_start)
        (omega arith, round_fresh p a start (ap heal_by nothing_yet), inl (still_fresh p a start g kind start same))
      where
        same : Same p a start g kind start
        same = record {
          same = unchanged_self p start g kind;
          begun = λ first e. absurd (let k : begun_after (heal_by []) ≡ Some first = subst (λ (w : Lines). begun_after (heal_by w) ≡ Some first) nothing_yet e in cc k);
          heals = subst (EachHeal (BeganSo p a start g kind)) (sym nothing_yet) tt;
        }

    at_end : State log (now log)
    at_end = walk n (kept_by p) L (moves p log premises) a lo Facts fewer State reset own log
        (record { premises_now = premises; calm = stretch a log quiet.together quiet.unfailed; tells = λ late. told; holds_on = λ late. kept })
        (past_whole log) (stretch a log quiet.together quiet.unfailed) (at_tail (λ o. State o (now o)) start log (before_tail a log) begins) (let few = count a log in omega (arith, few))

-- an undisturbed round leaves an object and kind unchanged, or repairs them where they weren't in split-brain
pub round_leaves : (p : Plan) (x : ActorId) (said : Reply) (older : Seq Line) → Premises p (End x said ∷ older) → length p.clients ≤ 16 → 17 ≤ x.0 → IsQuiet p x.0 older → (b : BrickId) → IsWholeRound p x.0 b older → (g : Gfid) (kind : Kind) → IsEverywhere p (log_before (work x.0 older) older) g
    → Same p x.0 (log_before (work x.0 older) older) g kind older ⊎ Gone p x.0 (log_before (work x.0 older) older) g kind older
round_leaves p x said older q clients high quiet b whole g kind every = go (at_end p older (shorter p (End x said) older q) x.0 quiet no_command whole.told whole.kept g kind every).2
  where
    no_command : (k : ℕ) (c : Command) → slice_get (script_of p x.0) k ≡ Some c → ⊥
    no_command k c e = no_script p x.0 k c clients high e

    go : Left p x.0 (log_before (work x.0 older) older) g kind older older (present p.shape.n (kept_by p) (by_position older) (length older) x.0) → Same p x.0 (log_before (work x.0 older) older) g kind older ⊎ Gone p x.0 (log_before (work x.0 older) older) g kind older
    go (inl s) = inl s.same
    go (inr (inl w)) = absurd (went_open p x.0 (log_before (work x.0 older) older) g kind older no_command older x said refl (q.follows.0).1 w)
    go (inr (inr gone)) = inr gone

-- and leaves clear what was clear
pub round_clears : (p : Plan) (x : ActorId) (older : Seq Line) → Premises p older → length p.clients ≤ 16 → 17 ≤ x.0 → IsQuiet p x.0 older → (g : Gfid) (kind : Kind) → IsClear p (log_before (work x.0 older) older) g kind → IsClear p older g kind
round_clears p x older q clients high quiet g kind clear = (clear_rests p older q x.0 quiet (λ k c e. no_script p x.0 k c clients high e) g kind clear).clear

clear_left : (p : Plan) (a : ℕ) (was log : Seq Line) (g : Gfid) (kind : Kind) → Same p a was g kind log ⊎ Gone p a was g kind log → IsClear p was g kind → IsUnchanged p was log g kind
clear_left p a was log g kind (inl s) clear = s.same
clear_left p a was log g kind (inr gone) clear = absurd (gone.2 clear)

split_left : (p : Plan) (a : ℕ) (was log : Seq Line) (g : Gfid) (kind : Kind) → Same p a was g kind log ⊎ Gone p a was g kind log → IsSplit p was (below p.shape.n) g kind → IsUnchanged p was log g kind
split_left p a was log g kind (inl s) split = s.same
split_left p a was log g kind (inr gone) split = absurd (gone.1 split)

lines_left : (p : Plan) → length p.clients ≤ 16 → RoundsAreLow p → (log : Seq Line) → (0 < p.shape.n → Premises p log) → AreQuietWhole p log → EachLine (IsQuietLeft p) log
lines_left p clients low [] q w = tt
lines_left p clients low (line ∷ older) q w = (go line q w.0, lines_left p clients low older (λ some. shorter p line older (q some)) w.1)
  where
    go : (line : Line) → (0 < p.shape.n → Premises p (line ∷ older)) → IsQuietWhole p line older → IsQuietLeft p line older
    go (End x said) q w = λ high b is quiet g kind. (
        let small = low x.0 (ended x.0 older) b is in
        let sound : Premises p (End x said ∷ older) = q (omega (arith, small)) in
        let left = round_leaves p x said older sound clients high quiet b (w high b is quiet) g kind in
        record {
          clear = round_clears p x older (shorter p (End x said) older sound) clients high quiet g kind;
          still = λ every clear. clear_left p x.0 (log_before (work x.0 older) older) older g kind (left every) clear;
          split = λ every split. split_left p x.0 (log_before (work x.0 older) older) older g kind (left every) split;
        }
        )
    go (Ask x y request told took) q w = tt
    go (Begin x change) q w = tt
    go (HealBegin x h k) q w = tt
    go (HealEnd x h k said) q w = tt
    go (Event event) q w = tt

pub quiet_leave : QuietRoundsAreWhole → QuietRoundsLeave
quiet_leave whole p log five clients short follows honest lawful replied low =
    lines_left p clients low log (λ some. record { five = five; some = some; short = short; follows = follows; honest = honest; lawful = lawful; replied = replied }) (whole p log five clients short follows honest lawful replied low)
