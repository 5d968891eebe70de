-- The lines of a client's work are of its command, so its End line answers as it should.
use Rattle.std.proofs.Common.{◌≡◌, ℕ, ◌+◌, ◌==◌, ◌≤◌, Bool, true, false, refl, sym, subst, arith, List, [], ◌∷◌, Some, length, if◌then◌else◌}
use Rattle.std.specs.Prelude.{nat_le, slice_get}
use Rattle.std.proofs.lemmas.Bool.{eqb-true}
use Rattle.std.proofs.lemmas.Bool.Decides.{nat_tests}
use Rattle.afr_base.specs.declared.ids.ActorId.{ActorId}
use Rattle.afr_lines.specs.Work.{Work, ended, is_end, work}
use Rattle.afr_lines.specs.declared.line.Line.{Line}
use Rattle.afr_lines.specs.declared.line.Line.TheVariants.{Ask, Begin, HealBegin, End, HealEnd, Event}
use Rattle.afr_lines.specs.declared.reply.Reply.{Reply}
use Rattle.afr_plan.specs.declared.command.Command.{Command}
use Rattle.afr_plan.specs.declared.command.Command.TheVariants as command
use Rattle.afr_plan.specs.declared.plan.Plan.{Plan}
use Rattle.afr_model.specs.Actors.{script_of}
use Rattle.afr_model.specs.Following.{Follows, IsTurnOf, KeepsToCommand, KeepsToTask, ToCommand, ToCrawl, ToItem, ToRound}
use Rattle.afr_model.specs.Replied.{IsOf, IsOfTask, Replied}
use Rattle.afr_law_promises.specs.Available.Available.{AnswersBorne, ByOk, IsBorne, ModelAnswersBorne, SaysStored}
use Rattle.afr_law_promises.proofs.Available.Parts.{AreLines}
use Rattle.afr_law_promises.proofs.Available.Renames.{rename_available}
use Rattle.afr_law_promises.proofs.Available.Works.{AreAbout, DoKeep, one_available}

-- a client's line keeps to its present command
keeps_of : (crawl : Bool) (p : Plan) (c : Command) (a : ℕ) (line : Line) (older : List Line) → a ≤ 16 → slice_get (script_of p a) (ended a older) ≡ Some c → KeepsToTask crawl p a line older → KeepsToCommand p c line (length older) (work a older)
keeps_of crawl p c a line older low e (ToCommand d f k) = (let same : d ≡ c = cc (e, f) in subst (λ (x : Command). KeepsToCommand p x line (length older) (work a older)) same k)
keeps_of crawl p c a line older low e (ToRound plain high b f k) = absurd (omega (arith, high, low))
keeps_of crawl p c a line older low e (ToCrawl crawls who b f k) = absurd (omega (arith, who, low))
keeps_of crawl p c a line older low e (ToItem crawls high item f k) = absurd (omega (arith, high, low))

-- one line more of an actor's own work
own : (crawl : Bool) (p : Plan) (c : Command) (a : ℕ) (x : ActorId) (line : Line) (older : List Line) → a ≤ 16 → is_end line ≡ false → (x.0 == a) ≡ true → slice_get (script_of p a) (ended a older) ≡ Some c
    → IsTurnOf crawl p x.0 line older → IsOfTask p x line older → AreLines p c (work a older) → AreLines p c ((line, older) ∷ work a older)
own crawl p c a x line older low within hit e turn task rest = (
  subst (λ (k : ℕ). IsOf p c line (work k older)) same (task.command c at),
  subst (λ (k : ℕ). KeepsToCommand p c line (length older) (work k older)) same (keeps_of crawl p c x.0 line older (omega (arith, low, same)) at turn.keeps),
  within,
  rest,
)
  where
    same : x.0 ≡ a
    same = eqb-true x.0 a hit

    at : slice_get (script_of p x.0) (ended x.0 older) ≡ Some c
    at = subst (λ (k : ℕ). slice_get (script_of p k) (ended k older) ≡ Some c) (sym same) e

module _ (crawl : Bool) (p : Plan) (c : Command) (a : ℕ) (low : a ≤ 16) where
  -- a line that ends no work
  one : (x : ActorId) (line : Line) (older : List Line) → is_end line ≡ false → slice_get (script_of p a) (ended a older) ≡ Some c → IsTurnOf crawl p x.0 line older → IsOfTask p x line older → AreLines p c (work a older)
      → AreLines p c (if x.0 == a then (line, older) ∷ work a older else work a older)
  one x line older within e turn task rest = go (x.0 == a) refl
    where
      go : (hit : Bool) → (x.0 == a) ≡ hit → AreLines p c (if hit then (line, older) ∷ work a older else work a older)
      go true f = own crawl p c a x line older low within f e turn task rest
      go false f = rest

  -- a line that ends one
  last : (x : ActorId) (older : List Line) (hit : Bool) → slice_get (script_of p a) (if hit then ended a older + 1 else ended a older) ≡ Some c → (slice_get (script_of p a) (ended a older) ≡ Some c → AreLines p c (work a older)) → AreLines p c (if hit then [] else work a older)
  last x older true e rest = tt
  last x older false e rest = rest e

  works_of : (log : List Line) → Follows crawl p log → Replied p log → slice_get (script_of p a) (ended a log) ≡ Some c → AreLines p c (work a log)
  works_of [] follows replied e = tt
  works_of (Ask x b r told took ∷ older) follows replied e = one x (Ask x b r told took) older refl e follows.0.1.0 replied.0 (works_of older follows.1 replied.1 e)
  works_of (Begin x change ∷ older) follows replied e = one x (Begin x change) older refl e follows.0.1.0 replied.0 (works_of older follows.1 replied.1 e)
  works_of (HealBegin x g kind ∷ older) follows replied e = one x (HealBegin x g kind) older refl e follows.0.1.0 replied.0 (works_of older follows.1 replied.1 e)
  works_of (HealEnd x g kind said ∷ older) follows replied e = one x (HealEnd x g kind said) older refl e follows.0.1.0 replied.0 (works_of older follows.1 replied.1 e)
  works_of (End x said ∷ older) follows replied e = last x older (x.0 == a) e (λ f. works_of older follows.1 replied.1 f)
  works_of (Event x ∷ older) follows replied e = works_of older follows.1 replied.1 e

-- ---- the End line of a client
-- the lines of a command with one path are about it, and keep to it
abbrev DoOne : Plan → Command → Work → Type 0
DoOne p (command.Rename from to) w = Unit {0}
DoOne p c w = AreAbout p c w × DoKeep p c w

do_one : (p : Plan) (c : Command) (w : Work) → AreLines p c w → DoOne p c w
do_one p (command.Rename from to) w h = tt
do_one p c [] h = (tt, tt)
do_one p c (x ∷ w) h = (let rest = do_one p c w h.3 in ((h.0, rest.0), (h.1, rest.1)))

work_available : (p : Plan) (c : Command) (a : ℕ) (older : List Line) (by : ActorId) (said : Reply) → slice_get (script_of p a) (ended a older) ≡ Some c → AreLines p c (work a older) → IsOf p c (End by said) (work a older) → (borne : IsBorne p (work a older))
    → SaysStored p a older borne.change said
work_available p (command.Rename from to) a older by said is lines ended borne = rename_available p from to a older is (work a older) said lines ended borne
work_available p c a older by said is lines ended borne = (let k = do_one p c (work a older) lines in ByOk (one_available p c (work a older) said k.0 k.1 ended borne))

end_available : (crawl : Bool) (p : Plan) (a : ActorId) (said : Reply) (older : List Line) → Follows crawl p older → Replied p older → IsTurnOf crawl p a.0 (End a said) older → IsOfTask p a (End a said) older → AnswersBorne p (End a said) older
end_available crawl p a said older follows replied turn task client borne = go turn.keeps
  where
    low : a.0 ≤ 16
    low = at_most a.0 client
      where
        at_most : (n : ℕ) → nat_le n 16 ≡ true → n ≤ 16
        at_most n h = grind (arith, nat_tests)

    go : KeepsToTask crawl p a.0 (End a said) older → SaysStored p a.0 older borne.change said
    go (ToCommand c e k) = work_available p c a.0 older a said e (works_of crawl p c a.0 low older follows replied e) (task.command c e) borne
    go (ToRound plain high b e k) = absurd (omega (arith, high, low))
    go (ToCrawl crawls who b e k) = absurd (omega (arith, who, low))
    go (ToItem crawls high item e k) = absurd (omega (arith, high, low))

pub available : ModelAnswersBorne
available crawl p [] follows replied = tt
available crawl p (End a said ∷ older) follows replied = (end_available crawl p a said older follows.1 replied.1 follows.0.1.0 replied.0, available crawl p older follows.1 replied.1)
available crawl p (Ask a b r told took ∷ older) follows replied = (tt, available crawl p older follows.1 replied.1)
available crawl p (Begin a change ∷ older) follows replied = (tt, available crawl p older follows.1 replied.1)
available crawl p (HealBegin a g kind ∷ older) follows replied = (tt, available crawl p older follows.1 replied.1)
available crawl p (HealEnd a g kind said ∷ older) follows replied = (tt, available crawl p older follows.1 replied.1)
available crawl p (Event e ∷ older) follows replied = (tt, available crawl p older follows.1 replied.1)
