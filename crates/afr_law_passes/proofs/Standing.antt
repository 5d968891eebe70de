-- How an object and kind stand after some lines of a round: unchanged so far, or in a heal that goes on.
use Rattle.std.proofs.Common.{ap, false, inl, inr, refl, subst, sym, Bool, true, true≢false, ℕ, ◌∙◌, ◌≡◌, ◌⊎◌, [], ◌∷◌}
use Rattle.std.specs.Prelude.{List as Seq, None, Option, Some, if◌then◌else◌, slice_get}
use Rattle.std.proofs.lemmas.Bool.{eqb-true}
use Rattle.afr_base.specs.Bricks.{below}
use Rattle.afr_base.specs.declared.ids.ActorId.{ActorId}
use Rattle.afr_base.specs.declared.ids.BrickId.{BrickId}
use Rattle.afr_base.specs.declared.ids.Gfid.{Gfid}
use Rattle.afr_base.specs.declared.ids.Kind.{Kind}
use Rattle.afr_lines.specs.Work.{Work as Lines, ended, work}
use Rattle.afr_lines.specs.declared.answer.Told.{Told}
use Rattle.afr_lines.specs.declared.line.Line.{Line}
use Rattle.afr_lines.specs.declared.line.Line.TheVariants.{Ask, Begin, End, Event, HealBegin, HealEnd}
use Rattle.afr_lines.specs.declared.reply.HealReply.{HealReply}
use Rattle.afr_lines.specs.declared.reply.Reply.{Reply}
use Rattle.afr_lines.specs.declared.reply.HealReply.TheVariants as healed
use Rattle.afr_lines.specs.declared.request.Request.{Request}
use Rattle.afr_lines.specs.declared.request.Request.TheVariants.{Apply, Index, List, Lock, Look, Mend, Post, Pre, ReadAttr, ReadAttrs, ReadBytes, ReadName, Settle, Unlock}
use Rattle.afr_plan.specs.declared.command.Command.{Command}
use Rattle.afr_plan.specs.declared.plan.Plan.{Plan}
use Rattle.afr_model.specs.Actors.{script_of}
use Rattle.afr_model.specs.Following.{IsDue, KeepsToTask, ToCommand, ToCrawl, ToItem, ToRound}
use Rattle.afr_model.specs.Healing.{heal_by, is_border}
use Rattle.afr_model.specs.Rounds.{KeepsToRound, heal_due}
use Rattle.afr_model.specs.Splits.{IsSplit}
use Rattle.afr_law_tables.specs.Clear.{IsClear}
use Rattle.afr_law_quiet.specs.Undisturbed.{EachHeal, EndsRepaired, IsEverywhere, IsRepaired, IsSplitReply, IsTold, OfHeal, begun_after, if_begin, or_log}
use Rattle.afr_law_quiet.proofs.Copies.Premises.{Premises, shorter}
use Rattle.afr_law_quiet.proofs.Copies.Round.{work_own}
use Rattle.afr_law_quiet.proofs.Copies.Stretch.{Calm}
use Rattle.afr_law_passes.specs.Converged.{IsUnchanged}
use Rattle.afr_law_passes.proofs.Parts.{Spares}
use Rattle.afr_law_passes.proofs.Spared.{spared, unchanged_on}

-- ---- the beginning of a heal
or_cases : (o i : Option (Seq Line)) (first : Seq Line) → or_log o i ≡ Some first → (o ≡ Some first) ⊎ (i ≡ Some first)
or_cases None i first e = inr e
or_cases (Some x) i first e = inl e

or_first : (o i : Option (Seq Line)) (first : Seq Line) → o ≡ Some first → or_log o i ≡ Some first
or_first None i first e = absurd (cc e)
or_first (Some x) i first e = e

if_older : (line : Line) (older first : Seq Line) → if_begin line older ≡ Some first → older ≡ first
if_older (HealBegin x h k) older first e = cc e
if_older (Ask x y request told took) older first e = absurd (cc e)
if_older (Begin x change) older first e = absurd (cc e)
if_older (HealEnd x h k said) older first e = absurd (cc e)
if_older (End x said) older first e = absurd (cc e)
if_older (Event event) older first e = absurd (cc e)

-- a heal that has begun began before, or with this line
begun_cases : (line : Line) (older : Seq Line) (w : Lines) (first : Seq Line) → begun_after (heal_by ((line, older) ∷ w)) ≡ Some first → (begun_after (heal_by w) ≡ Some first) ⊎ (older ≡ first)
begun_cases line older w first = go (is_border line)
  where
    go : (border : Bool) → begun_after (if border then [] else (line, older) ∷ heal_by w) ≡ Some first → (begun_after (heal_by w) ≡ Some first) ⊎ (older ≡ first)
    go true e = absurd (cc e)
    go false e = elim (or_cases (begun_after (heal_by w)) (if_begin line older) first e) [ inl before ↦ inl before | inr now ↦ inr (if_older line older first now) ]

begun_still : (line : Line) (older : Seq Line) (w : Lines) (first : Seq Line) → is_border line ≡ false → begun_after (heal_by w) ≡ Some first → begun_after (heal_by ((line, older) ∷ w)) ≡ Some first
begun_still line older w first plain e = rw plain (or_first (begun_after (heal_by w)) (if_begin line older) first e)

module _ (p : Plan) (a : ℕ) (was : Seq Line) (g : Gfid) (kind : Kind) where
  -- ---- unchanged so far
  -- a moment at which all was as it had been
  pub record Begun (first : Seq Line) : Type 0 where
    pub premises : Premises p first
    pub same : IsUnchanged p was first g kind

  -- a heal of the object and kind began at such a moment
  abbrev pub BeganSo : Gfid → Kind → HealReply → Seq Line → Type 0
  BeganSo h k said before = h ≡ g → k ≡ kind → (first : Seq Line) → begun_after (heal_by (work a before)) ≡ Some first → Begun first

  -- all is unchanged so far, and was so where the present heal began, and where each heal of the object and kind began
  pub record Same (older : Seq Line) : Type 0 where
    pub same : IsUnchanged p was older g kind
    pub begun : (first : Seq Line) → begun_after (heal_by (work a older)) ≡ Some first → Begun first
    pub heals : EachHeal BeganSo (work a older)

  same_heals : (line : Line) (older : Seq Line) → Same older → OfHeal BeganSo line older
  same_heals (HealEnd x h k said) older s = λ o c first e. s.begun first e
  same_heals (Ask x y request told took) older s = tt
  same_heals (Begin x change) older s = tt
  same_heals (HealBegin x h k) older s = tt
  same_heals (End x said) older s = tt
  same_heals (Event event) older s = tt

  pub same_on : (line : Line) (older : Seq Line) → Premises p (line ∷ older) → Calm a line → Spares g kind line → Same older → Same (line ∷ older)
  same_on line older q calm spares s = record {
    same = unchanged_on p was older (line ∷ older) g kind s.same (spared p g kind line older spares);
    begun = λ first e. elim (begun_cases line older (work a older) first (sym (ap (λ (w : Lines). begun_after (heal_by w)) (work_own a line older calm)) ∙ e)) [
      | inl before ↦ s.begun first before
      | inr now ↦ subst Begun now (record { premises = shorter p line older q; same = s.same })
    ];
    heals = subst (EachHeal BeganSo) (sym (work_own a line older calm)) (same_heals line older s, s.heals);
  }

  -- ---- a heal goes on
  -- a heal of the object and kind has begun that will settle: every brick had the object, not all numbers were 0, and it wasn't in split-brain
  pub record Went (older : Seq Line) : Type 0 where
    pub first : Seq Line
    pub is : begun_after (heal_by (work a older)) ≡ Some first
    pub due : heal_due p (work a older) ≡ Some (g, kind)
    pub every : IsEverywhere p first g
    pub unclear : IsClear p first g kind → ⊥
    pub unsplit : IsSplit p first (below p.shape.n) g kind → ⊥
    pub none_was : IsSplit p was (below p.shape.n) g kind → ⊥
    pub unclear_was : IsClear p was g kind → ⊥

  -- at the end of these lines the object is repaired, and it was neither in split-brain nor clear
  abbrev pub Gone : Seq Line → Type 0
  Gone log = IsRepaired p log g kind × (IsSplit p was (below p.shape.n) g kind → ⊥) × (IsClear p was g kind → ⊥)

  ask_stays : (x : ActorId) (y : BrickId) (request : Request) (told : Told) (took : Bool) (older : Seq Line) (w : Lines) → (request ≡ Index → ⊥) → (is_border (Ask x y request told took) ≡ false) × (heal_due p ((Ask x y request told took, older) ∷ w) ≡ heal_due p w)
  ask_stays x y Index told took older w other = absurd (other refl)
  ask_stays x y (Lock domain area) told took older w other = (refl, refl)
  ask_stays x y (Unlock domain area) told took older w other = (refl, refl)
  ask_stays x y (Look i) told took older w other = (refl, refl)
  ask_stays x y (ReadBytes i at len) told took older w other = (refl, refl)
  ask_stays x y (ReadName i name) told took older w other = (refl, refl)
  ask_stays x y (List i) told took older w other = (refl, refl)
  ask_stays x y (ReadAttr i key) told took older w other = (refl, refl)
  ask_stays x y (ReadAttrs i) told took older w other = (refl, refl)
  ask_stays x y (Pre i k) told took older w other = (refl, refl)
  ask_stays x y (Apply i) told took older w other = (refl, refl)
  ask_stays x y (Post i j k missed) told took older w other = (refl, refl)
  ask_stays x y (Mend repair) told took older w other = (refl, refl)
  ask_stays x y (Settle i k less) told took older w other = (refl, refl)

  module _ (line : Line) (older : Seq Line) (calm : Calm a line) where
    own : work a (line ∷ older) ≡ (line, older) ∷ work a older
    own = work_own a line older calm

    went_still : Went older → is_border line ≡ false → heal_due p ((line, older) ∷ work a older) ≡ heal_due p (work a older) → Went (line ∷ older)
    went_still w plain same = record {
      first = w.first;
      is = ap (λ (l : Lines). begun_after (heal_by l)) own ∙ begun_still line older (work a older) w.first plain w.is;
      due = ap (heal_due p) own ∙ same ∙ w.due;
      every = w.every;
      unclear = w.unclear;
      unsplit = w.unsplit;
      none_was = w.none_was;
      unclear_was = w.unclear_was;
    }

  -- its end tells that it settled
  pub went_ends : (log : Seq Line) (h : Gfid) (k : Kind) (said : HealReply) (older : Seq Line) → Went older → heal_due p (work a older) ≡ Some (h, k) → IsTold p h k said (heal_by (work a older)) → EndsRepaired p log h k said (heal_by (work a older)) → Gone log
  went_ends log h k said older w due told kept = (go told.few, w.none_was, w.unclear_was)
    where
      same : Path (Gfid × Kind) (h, k) (g, kind)
      same = cc (sym due ∙ w.due)

      object : h ≡ g
      object = ap (λ (u : Gfid × Kind). u.0) same

      kin : k ≡ kind
      kin = ap (λ (u : Gfid × Kind). u.1) same

      first : told.begun ≡ w.first
      first = cc (sym told.is_begun ∙ w.is)

      go : (said ≡ healed.Nothing) ⊎ ((said ≡ healed.Settled) ⊎ IsSplitReply said) → IsRepaired p log g kind
      go (inl nothing) = absurd (w.unclear (subst (λ l. IsClear p l g kind) first (λ x low. subst (λ (u : Gfid × Kind). IsClear p told.begun u.0 u.1) same (told.nothing.0 nothing) x low)))
      go (inr (inl settled)) = subst (λ (u : Gfid × Kind). IsRepaired p log u.0 u.1) same (kept settled w.first w.is (subst (IsEverywhere p w.first) (sym object) w.every))
      go (inr (inr split)) = absurd (w.unsplit (subst (λ l. IsSplit p l (below p.shape.n) g kind) first (subst (λ (u : Gfid × Kind). IsSplit p told.begun (below p.shape.n) u.0 u.1) same (told.split.0 split))))

  module _ (log : Seq Line) (no_command : (k : ℕ) (c : Command) → slice_get (script_of p a) k ≡ Some c → ⊥) (older : Seq Line) where
    keeps_to : (x : ActorId) (line : Line) → x.0 ≡ a → KeepsToTask false p x.0 line older → (b : BrickId) × KeepsToRound p b line (work a older)
    keeps_to x line mine (ToCommand c e k) = absurd (no_command (ended x.0 older) c (subst (λ o. slice_get (script_of p o) (ended x.0 older) ≡ Some c) mine e))
    keeps_to x line mine (ToRound plain h b e k) = (b, subst (λ o. KeepsToRound p b line (work o older)) mine k)
    keeps_to x line mine (ToCrawl crawls who b e k) = absurd (true≢false (sym crawls))
    keeps_to x line mine (ToItem crawls h item given k) = absurd (true≢false (sym crawls))

    no_begun : (first : Seq Line) → begun_after (heal_by (work a older)) ≡ Some first → work a older ≡ [] → ⊥
    no_begun first e none = (let k : begun_after (heal_by []) ≡ Some first = subst (λ (w : Lines). begun_after (heal_by w) ≡ Some first) none e in cc k)

    -- each line leaves a heal that goes on, or ends it
    pub went_on : (line : Line) → Premises p (line ∷ older) → Calm a line → OfHeal (λ h k said before. IsTold p h k said (heal_by (work a before))) line older → OfHeal (λ h k said before. EndsRepaired p log h k said (heal_by (work a before))) line older → Went older → Went (line ∷ older) ⊎ Gone log
    went_on (Ask x y request told took) q calm t k w = (
        let plain = ask_stays x y request told took older (work a older) no_index in
        inl (went_still (Ask x y request told took) older calm w plain.0 plain.1)
        )
      where
        no_index : request ≡ Index → ⊥
        no_index e = (
            let keeps = keeps_to x (Ask x y request told took) (eqb-true x.0 a calm.mine) (q.follows.0).1.0.keeps in
            no_begun w.first w.is (subst (λ (r : Request). KeepsToRound p keeps.0 (Ask x y r told took) (work a older)) e keeps.1).0
            )
    went_on (HealBegin x h k) q calm t kept w = inl (went_still (HealBegin x h k) older calm w refl refl)
    went_on (HealEnd x h k said) q calm t kept w = inr (went_ends log h k said older w (keeps_to x (HealEnd x h k said) (eqb-true x.0 a calm.mine) (q.follows.0).1.0.keeps).1 t kept)
    went_on (Begin x change) q calm t kept w = absurd ((keeps_to x (Begin x change) (eqb-true x.0 a calm.mine) (q.follows.0).1.0.keeps).1)
    went_on (End x said) q calm t kept w = absurd (true≢false calm.within)
    went_on (Event event) q calm t kept w = absurd (true≢false (sym calm.mine))

    -- a round ends only where no heal goes on
    pub went_open : (x : ActorId) (said : Reply) → x.0 ≡ a → IsDue false p (End x said) older → Went older → ⊥
    went_open x said mine d w = (let ended_all = (keeps_to x (End x said) mine d.0.keeps).1 in let k : None ≡ Some (g, kind) = sym ended_all.done ∙ w.due in cc k)
