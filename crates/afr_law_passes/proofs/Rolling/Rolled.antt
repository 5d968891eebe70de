-- Epoch after epoch: at each rest all are between works, and what was everywhere and clear still is.
use Rattle.std.proofs.Common.{◌≡◌, ℕ, ◌≤◌, ◌++◌, inl, inr, refl, sym, ap, ◌∙◌, subst, arith, List, [], ◌∷◌, length}
use Rattle.afr_base.specs.Bricks.{below}
use Rattle.afr_base.specs.declared.ids.BrickId.{BrickId}
use Rattle.afr_base.specs.declared.ids.Gfid.{Gfid}
use Rattle.afr_base.specs.declared.ids.Kind.{Kind}
use Rattle.afr_base.specs.declared.ids.What.{What}
use Rattle.afr_lines.specs.Log.{EachLine, EveryPrefix}
use Rattle.afr_lines.specs.Work.{work}
use Rattle.afr_lines.specs.declared.line.Line.{Line}
use Rattle.afr_lines.specs.declared.line.Line.TheVariants.{End}
use Rattle.afr_plan.specs.declared.plan.Plan.{Plan}
use Rattle.afr_model.specs.Honest.{Honest}
use Rattle.afr_model.specs.Safe.{log_before}
use Rattle.afr_model.specs.Splits.{IsSplit}
use Rattle.afr_model.specs.Tables.{holds}
use Rattle.afr_model_moves.proofs.Tests.{same_no, same_self}
use Rattle.afr_law_tables.specs.Clear.{IsClear}
use Rattle.afr_law.specs.Exactly.{IsLawfulExactly}
use Rattle.afr_law.specs.ModelKinds.{Before, ModelOneKind, Now, WasTable}
use Rattle.afr_law_promises.specs.Missed.Missed.{AreAllMissed, ModelExactMissed}
use Rattle.afr_law_quiet.specs.Undisturbed.{IsEverywhere}
use Rattle.afr_law_quiet.proofs.Copies.Stretch.{IsTail, before_tail, now_of}
use Rattle.afr_law_passes.specs.Converged.{AreRounds, HasConverged, IsConverged, IsEverywhereAs, IsKindOf, QuietRoundsConverge}
use Rattle.afr_law_passes.proofs.Spared.{has_some}
use Rattle.afr_law_passes.specs.Reached.Reached.{IsPass}
use Rattle.afr_law_passes.specs.Rolling.Rolling.{AreIdle, HasRolled, Starts, Rolls, IsEpoch, NeverSplits, RollingNeverSplits}
use Rattle.afr_law_passes.proofs.Rolling.Epoch.{Facts, both_facts, epoch_unsplit, has_later}
use Rattle.afr_law_passes.proofs.Rolling.Idle.{idle_pass}
use Rattle.afr_law_passes.proofs.Rolling.Named.{names_missers}
use Rattle.afr_law_passes.proofs.Reached.Names.{everywhere_as}

-- ---- what is known of a log
record Given (p : Plan) (log : List Line) : Type 0 where
  small : p.shape.n ≤ 5
  short : length log ≤ 4000000
  honest : Honest p log
  lawful : IsLawfulExactly p log
  facts : EachLine (Facts p) log
  missed : EveryPrefix (AreAllMissed p) log
  converged : EveryPrefix (HasConverged p) log

given_before : (p : Plan) (line : Line) (older : List Line) → Given p (line ∷ older) → Given p older
given_before p line older k = record {
  small = k.small;
  short = (let s = k.short in omega (arith, s));
  honest = k.honest.1;
  lawful = k.lawful.1;
  facts = k.facts.1;
  missed = k.missed.1;
  converged = k.converged.1;
}

given_start : (p : Plan) (newer start : List Line) → Given p (newer ++ start) → Given p start
given_start p [] start k = k
given_start p (line ∷ newer) start k = given_start p newer start (given_before p line (newer ++ start) k)

-- a table of the start is one of the log's
was_later : (p : Plan) (b : ℕ) (newer start : List Line) → WasTable p (newer ++ start) (holds p start b)
was_later p b [] start = Now b refl
was_later p b (line ∷ newer) start = more (was_later p b newer start)
  where
    more : WasTable p (newer ++ start) (holds p start b) → WasTable p (line ∷ (newer ++ start)) (holds p start b)
    more (Now c e) = Before (length (newer ++ start)) c (omega arith) (e ∙ rw (same_self (length (newer ++ start))) refl)
    more (Before k c low e) = Before k c (omega (arith, low)) (e ∙ rw (same_no k (length (newer ++ start)) low) refl)

-- ---- the lines of a pass
abbrev Longer : List Line → List Line → Type 0
Longer start log = (newer : List Line) × (log ≡ newer ++ start)

one_longer : (line : Line) (start log : List Line) → Longer start log → Longer start (line ∷ log)
one_longer line start log w = (line ∷ w.0, ap (λ (l : List Line). line ∷ l) w.1)

tail_longer : (cur log : List Line) → IsTail cur log → Longer cur log
tail_longer cur [] e = ([], sym e)
tail_longer cur (line ∷ older) (inl e) = ([], sym e)
tail_longer cur (line ∷ older) (inr t) = one_longer line cur older (tail_longer cur older t)

joined : (xs ys start : List Line) → xs ++ (ys ++ start) ≡ (xs ++ ys) ++ start
joined [] ys start = refl
joined (x ∷ xs) ys start = ap (λ (l : List Line). x ∷ l) (joined xs ys start)

longer_on : (first then_ last : List Line) → Longer first then_ → Longer then_ last → Longer first last
longer_on first then_ last a b = (b.0 ++ a.0, b.1 ∙ ap (λ (l : List Line). b.0 ++ l) a.1 ∙ joined b.0 a.0 first)

rounds_longer : (p : Plan) (start : List Line) (bricks : List BrickId) (log : List Line) → AreRounds p start bricks log → Longer start log
rounds_longer p start [] log is = ([], is)
rounds_longer p start (b ∷ more) log (r, rest) = subst (Longer start) (sym r.last) (one_longer (End r.healer r.said) start r.older (longer_on start (log_before (work r.healer.0 r.older) r.older) r.older
    (rounds_longer p start more (log_before (work r.healer.0 r.older) r.older) rest) (tail_longer (log_before (work r.healer.0 r.older) r.older) r.older (before_tail r.healer.0 r.older))))

module _ (p : Plan) (kinds : ModelOneKind) (g : Gfid) (what : What) (kind : Kind) (of : IsKindOf what kind) where
  -- an object stays of its sort
  as_later : (start log : List Line) → Given p log → ((b : ℕ) → WasTable p log (holds p start b)) → IsEverywhere p log g → IsEverywhereAs p start g what → IsEverywhereAs p log g what
  as_later start log given was every then_ b low = (
      let o = has_some p log b g (every b low) in
      let q = then_ b low in
      (o.0, o.1, (kinds p log given.small given.short given.honest given.lawful).copies (holds p log b) (holds p start b) (Now b refl) (was b) g o.0 q.0 o.1 q.1 ∙ q.2)
      )

  record Rests (log : List Line) : Type 0 where
    idle : AreIdle p log
    every : IsEverywhereAs p log g what
    clear : IsClear p log g kind

  over_longer : (was late : List Line) → Given p late → Longer was late → IsEverywhereAs p was g what → IsEverywhereAs p late g what
  over_longer was late given w every = subst (λ (l : List Line). IsEverywhereAs p l g what) (sym w.1)
      (as_later was (w.0 ++ was) (subst (Given p) w.1 given) (λ b. was_later p b w.0 was) (λ b low. has_later p g b w.0 was (everywhere_as p was g what every b low)) every)

  unsplit : (was late : List Line) → Given p late → IsEpoch p was late → Rests was → IsSplit p late (below p.shape.n) g kind → ⊥
  unsplit was late given e rests = epoch_unsplit p was late given.small given.facts (now_of (AreAllMissed p) late given.missed) rests.idle e g kind (everywhere_as p was g what rests.every) rests.clear

  over_pass : (was late log : List Line) → Given p log → Given p late → IsEpoch p was late → IsPass p late log → Rests was → Rests log
  over_pass was late log given then_ e pass rests = record {
    idle = idle_pass p (let low = e.low in omega (arith, low)) late log pass;
    every = over_longer late log given (rounds_longer p late pass.bricks log pass.rounds) held;
    clear = go (now_of (HasConverged p) log given.converged late pass.bricks pass.rounds pass.all g what kind held of);
  }
    where
      held : IsEverywhereAs p late g what
      held = over_longer was late then_ (e.newer, e.is) rests.every

      go : IsConverged p late log g kind → IsClear p log g kind
      go (inl clear) = clear.clear
      go (inr split) = absurd (unsplit was late then_ e rests split.0)

  rolled : (start log : List Line) → Given p log → HasRolled p start log → Rests start → Rests log
  rolled start log given Starts rests = rests
  rolled start log given (Rolls was late _ before_ e pass) rests =
      let w : Longer late log = rounds_longer p late pass.bricks log pass.rounds in
      let then_ : Given p late = given_start p w.0 late (subst (Given p) w.1 given) in
      over_pass was late log given then_ e pass (rolled start was (given_start p e.newer was (subst (Given p) e.is then_)) before_ rests)

never_now : (p : Plan) → ModelOneKind → (log : List Line) → Given p log → NeverSplits p log
never_now p kinds log given start was idle rolls e g what kind every of clear =
    unsplit p kinds g what kind of was log given e (rolled p kinds g what kind of start was (given_start p e.newer was (subst (Given p) e.is given)) rolls (record { idle = idle; every = every; clear = clear }))

each_never : (p : Plan) → ModelOneKind → (log : List Line) → Given p log → EveryPrefix (NeverSplits p) log
each_never p kinds [] given = never_now p kinds [] given
each_never p kinds (line ∷ older) given = (never_now p kinds (line ∷ older) given, each_never p kinds older (given_before p line older given))

-- the law
pub rolling_never_splits : ModelExactMissed → QuietRoundsConverge → ModelOneKind → RollingNeverSplits
rolling_never_splits missed converge kinds p log five clients short follows honest lawful replied blamed low = each_never p kinds log (record {
  small = five;
  short = short;
  honest = honest;
  lawful = lawful;
  facts = both_facts p log follows (names_missers p log honest blamed);
  missed = (missed p log five short honest lawful).1;
  converged = converge p log five clients short follows honest lawful replied low;
})
