-- Round after round: what every brick had is clear at last, or was in split-brain from the start.
use Rattle.std.proofs.Common.{ap, arith, inl, inr, refl, subst, sym, true, ℕ, zero, suc, ◌<◌, ◌∙◌, ◌≡◌, ◌≤◌, ◌⊎◌, [], ◌∷◌}
use Rattle.std.specs.Prelude.{List as Seq, Option, Some, is_some, slice_get}
use Rattle.std.proofs.lemmas.Bool.{cases_lt}
use Rattle.afr_base.specs.Bricks.{below}
use Rattle.afr_base.specs.Keeping.{keeps}
use Rattle.afr_base.specs.declared.ids.ActorId.{ActorId}
use Rattle.afr_base.specs.declared.ids.BrickId.{BrickId}
use Rattle.afr_base.specs.declared.ids.Gfid.{Gfid}
use Rattle.afr_base.specs.declared.ids.Kind.{Kind}
use Rattle.afr_base.specs.declared.ids.What.{What}
use Rattle.afr_object.specs.Tables.{copy_at}
use Rattle.afr_object.specs.Object.{Object}
use Rattle.afr_lines.specs.Log.{EveryPrefix}
use Rattle.afr_lines.specs.Work.{Work as Lines, ended, work}
use Rattle.afr_object.specs.Indexed.{index_of}
use Rattle.afr_lines.specs.declared.line.Line.{Line}
use Rattle.afr_lines.specs.declared.line.Line.TheVariants.{Ask, Begin, End, Event, HealBegin, HealEnd}
use Rattle.afr_lines.specs.declared.reply.Reply.{Reply}
use Rattle.afr_lines.specs.declared.reply.HealReply.{HealReply}
use Rattle.afr_lines.specs.declared.reply.HealReply.TheVariants as replied
use Rattle.afr_plan.specs.declared.plan.Plan.{Plan}
use Rattle.afr_model.specs.Actors.{rounds_of}
use Rattle.afr_model.specs.Quiet.{IsQuiet}
use Rattle.afr_model.specs.Cells.{kind_of_cell}
use Rattle.afr_model.specs.Healing.{heal_by}
use Rattle.afr_model.specs.Rounds.{listed_by}
use Rattle.afr_model.specs.Safe.{log_before}
use Rattle.afr_model.specs.Splits.{IsSplit}
use Rattle.afr_model.specs.Sums.{dirty_of, pending_of}
use Rattle.afr_model.specs.Tables.{holds}
use Rattle.afr_law_tables.specs.Clear.{IsClear, IsClearOn}
use Rattle.afr_law_tables.specs.TableLaws.{copy_stays}
use Rattle.afr_law.specs.ModelAlike.{AreAlike}
use Rattle.afr_law.proofs.Model.Discipline.{exact_alike}
use Rattle.afr_law_quiet.specs.Undisturbed.{AreQuietWhole, EachHeal, EndsRepaired, IsEverywhere, IsListed, IsSplitReply, IsTold, IsWholeRound, begun_after, ended_heals}
use Rattle.afr_law_quiet.proofs.Copies.Premises.{Premises, sums}
use Rattle.afr_law_quiet.proofs.Copies.Stretch.{IsTail, before_tail, now_of, tail_self}
use Rattle.afr_law_quiet.proofs.Lists.Premises.{Sound, sound_before}
use Rattle.afr_law_quiet.specs.Rounds.Whole.{QuietRoundsAreWhole, RoundsAreLow}
use Rattle.afr_law_passes.specs.Converged.{AreAll, AreRounds, IsClearAlike, IsConverged, IsEverywhereAs, IsKindOf, IsUnchanged, QuietRoundsConverge, contents_in, HasConverged}
use Rattle.afr_law_passes.proofs.Heals.{Healed, IsIn, IsOpenOn, healed, heals_have, listed_as, open_marked, round_list}
use Rattle.afr_law_passes.proofs.Rounds.{premises_then, round_clears, round_leaves}
use Rattle.afr_law_passes.proofs.Spared.{clear_still, clear_was, everywhere_still, spared, unchanged_on, unchanged_self}
use Rattle.afr_law_passes.proofs.Splits.{split_was}
use Rattle.afr_law_passes.proofs.Standing.{Begun, Gone, Same}

-- ---- clear or open, brick by brick
-- each number has the one property, or some has the other
each_or : (n : ℕ) (P Q : ℕ → Type 0) → ((x : ℕ) → x < n → P x ⊎ Q x) → ((x : ℕ) → x < n → P x) ⊎ ((x : ℕ) × (x < n) × Q x)
each_or zero P Q h = inl (λ x low. absurd (omega (arith, low)))
each_or (suc n) P Q h = go (each_or n P Q (λ x low. h x (omega (arith, low)))) (h n (omega arith))
  where
    go : ((x : ℕ) → x < n → P x) ⊎ ((x : ℕ) × (x < n) × Q x) → P n ⊎ Q n → ((x : ℕ) → x < suc n → P x) ⊎ ((x : ℕ) × (x < suc n) × Q x)
    go (inr w) last = inr (w.0, (let low = w.1 in omega (arith, low)), w.2)
    go (inl all) (inr q) = inr (n, omega arith, q)
    go (inl all) (inl p) = inl (λ x low. elim (cases_lt x n) [ inl near ↦ all x near | inr far ↦ (let same : n ≡ x = omega (arith, low, far) in subst P same p) ])

zero_or : (n : ℕ) → (n ≡ 0) ⊎ (0 < n)
zero_or zero = inl refl
zero_or (suc n) = inr (omega arith)

clear_or_open : (p : Plan) (log : Seq Line) (g : Gfid) (kind : Kind) (b : ℕ) → IsClearOn p log g kind b ⊎ IsOpenOn p log b g kind
clear_or_open p log g kind b = go (zero_or (dirty_of p log b g kind)) (each_or p.shape.n (λ c. pending_of p log b c g kind ≡ 0) (λ c. 0 < pending_of p log b c g kind) (λ c low. zero_or (pending_of p log b c g kind)))
  where
    go : (dirty_of p log b g kind ≡ 0) ⊎ (0 < dirty_of p log b g kind) → ((c : ℕ) → c < p.shape.n → pending_of p log b c g kind ≡ 0) ⊎ ((c : ℕ) × (c < p.shape.n) × (0 < pending_of p log b c g kind)) → IsClearOn p log g kind b ⊎ IsOpenOn p log b g kind
    go (inr dirty) all = inr (inl dirty)
    go (inl clean) (inl none) = inl (clean, none)
    go (inl clean) (inr some) = inr (inr some)

not_both : (p : Plan) (log : Seq Line) (g : Gfid) (kind : Kind) (b : ℕ) → IsClearOn p log g kind b → IsOpenOn p log b g kind → ⊥
not_both p log g kind b clear (inl dirty) = (let d = clear.0 in omega (arith, d, dirty))
not_both p log g kind b clear (inr w) = (let d = clear.1 w.0 w.1 in let more = w.2 in omega (arith, d, more))

open_still : (p : Plan) (was log : Seq Line) (g : Gfid) (kind : Kind) (b : ℕ) → b < p.shape.n → IsUnchanged p was log g kind → IsOpenOn p was b g kind → IsOpenOn p log b g kind
open_still p was log g kind b low u (inl dirty) = inl (let d = u.dirty b low in omega (arith, d, dirty))
open_still p was log g kind b low u (inr w) = inr (w.0, w.1, (let d = u.pending b w.0 low in let more = w.2 in omega (arith, d, more)))

-- ---- where the object is
everywhere_later : (p : Plan) (g : Gfid) (cur log : Seq Line) → IsTail cur log → IsEverywhere p cur g → IsEverywhere p log g
everywhere_later p g cur [] e h = subst (λ l. IsEverywhere p l g) e h
everywhere_later p g cur (line ∷ older) (inl e) h = subst (λ l. IsEverywhere p l g) e h
everywhere_later p g cur (line ∷ older) (inr t) h = λ b low. copy_stays p line older b g (everywhere_later p g cur older t h b low)

everywhere_as : (p : Plan) (log : Seq Line) (g : Gfid) (what : What) → IsEverywhereAs p log g what → IsEverywhere p log g
everywhere_as p log g what h b low = ap (λ (o : Option Object). is_some o) (h b low).1

as_still : (p : Plan) (was log : Seq Line) (g : Gfid) (kind : Kind) (what : What) → IsUnchanged p was log g kind → IsEverywhereAs p was g what → IsEverywhereAs p log g what
as_still p was log g kind what u h b low = (
    let w = h b low in
    let v = u.parts b low (w.0.what, contents_in kind w.0) (w.0, w.1, refl) in
    (v.0, v.1, ap (λ pair. pair.0) v.2 ∙ w.2)
    )

-- what is known of a log is known of each earlier moment
sound_then : (p : Plan) (cur log : Seq Line) → IsTail cur log → Sound p log → Sound p cur
sound_then p cur [] e s = subst (Sound p) (sym e) s
sound_then p cur (line ∷ older) (inl e) s = subst (Sound p) (sym e) s
sound_then p cur (line ∷ older) (inr t) s = sound_then p cur older t (sound_before p line older s)

-- ---- one round of a pass
module _ (p : Plan) (start : Seq Line) (g : Gfid) (what : What) (kind : Kind) (at_start : Sound p start) (held : IsEverywhereAs p start g what) (of : IsKindOf what kind) where
  -- it was clear at the start, or in split-brain
  abbrev Told : Type 0
  Told = IsClear p start g kind ⊎ IsSplit p start (below p.shape.n) g kind

  -- clear by now, or unchanged; and then a brick that had a round and a number above 0 has told which it was
  abbrev Came : Seq BrickId → Seq Line → Type 0
  Came done log = IsClear p log g kind ⊎ (IsUnchanged p start log g kind × ((b : BrickId) → IsIn b done → IsOpenOn p start b.0 g kind → Told))

  premises_of : (log : Seq Line) → Sound p log → Premises p log
  premises_of log s = record { five = s.small; some = s.some; short = s.short; follows = s.follows; honest = s.honest; lawful = s.lawful; replied = s.replied }

  ended_clear : (x : ActorId) (said : Reply) (older : Seq Line) → IsClear p older g kind → IsClear p (End x said ∷ older) g kind
  ended_clear x said older = clear_still p older (End x said ∷ older) g kind (spared p g kind (End x said) older tt)

  -- the round of healer x at brick b, which the line ends
  module _ (x : ActorId) (said : Reply) (older : Seq Line) (b : BrickId) (s : Sound p (End x said ∷ older)) (high : 17 ≤ x.0) (over : slice_get (rounds_of p x.0) (ended x.0 older) ≡ Some b) (small : b.0 < p.shape.n) (quiet : IsQuiet p x.0 older) (whole : IsWholeRound p x.0 b older) where
    abbrev then_ : Seq Line
    then_ = log_before (work x.0 older) older

    now_premises : Premises p older
    now_premises = premises_of older (sound_before p (End x said) older s)

    then_premises : Premises p then_
    then_premises = premises_then p then_ older (before_tail x.0 older) now_premises

    leaves : IsEverywhere p then_ g → Same p x.0 then_ g kind older ⊎ Gone p x.0 then_ g kind older
    leaves every = round_leaves p x said older (premises_of (End x said ∷ older) s) s.clients high quiet b whole g kind every

    abbrev Fact : Gfid → Kind → HealReply → Seq Line → Type 0
    Fact h k reply before = IsTold p h k reply (heal_by (work x.0 before)) × EndsRepaired p older h k reply (heal_by (work x.0 before)) × (h ≡ g → k ≡ kind → (first : Seq Line) → begun_after (heal_by (work x.0 before)) ≡ Some first → Begun p x.0 then_ g kind first)

    facts : (w : Lines) → EachHeal (λ h k reply before. IsTold p h k reply (heal_by (work x.0 before))) w → EachHeal (λ h k reply before. EndsRepaired p older h k reply (heal_by (work x.0 before))) w → EachHeal (λ h k reply before. h ≡ g → k ≡ kind → (first : Seq Line) → begun_after (heal_by (work x.0 before)) ≡ Some first → Begun p x.0 then_ g kind first) w → EachHeal Fact w
    facts [] t k f = tt
    facts ((HealEnd y h i reply, before) ∷ w) t k f = ((t.0, k.0, f.0), facts w t.1 k.1 f.1)
    facts ((Ask y z request told took, before) ∷ w) t k f = (tt, facts w t.1 k.1 f.1)
    facts ((Begin y change, before) ∷ w) t k f = (tt, facts w t.1 k.1 f.1)
    facts ((HealBegin y h i, before) ∷ w) t k f = (tt, facts w t.1 k.1 f.1)
    facts ((End y reply, before) ∷ w) t k f = (tt, facts w t.1 k.1 f.1)
    facts ((Event event, before) ∷ w) t k f = (tt, facts w t.1 k.1 f.1)

    -- where the brick shows a number of the object, the round has a heal of the kind
    has_heal : IsUnchanged p start then_ g kind → IsOpenOn p then_ b.0 g kind → IsIn (g, kind) (ended_heals (work x.0 older))
    has_heal u open_on = subst (IsIn (g, kind)) (sym whole.both) (heals_have (listed_by p (work x.0 older)) g what kind of (subst (λ l. IsIn (g, what) l) (sym list) (subst (λ z. IsIn (g, z) (index_of (holds p then_ b.0))) copy.2
        (listed_as g (holds p then_ b.0) copy.0 copy.1 (open_marked p then_ (sums p then_ then_premises) then_premises.five b.0 g kind copy.0 copy.1 open_on)))))
      where
        copy : (o : Object) × (copy_at g (holds p then_ b.0) ≡ Some o) × (o.what ≡ what)
        copy = as_still p start then_ g kind what u held b.0 small

        listed : IsListed g (listed_by p (work x.0 older))
        listed = (whole.lists g).1 (record { there = ap (λ (o : Option Object). is_some o) copy.1; kind = kind; above = elim open_on [ inl dirty ↦ inl dirty | inr w ↦ inr (w.0, (let low = w.1 in let five = s.small in omega (arith, low, five)), w.2) ] })

        some : work x.0 older ≡ [] → ⊥
        some e = (let k : slice_get (listed_by p []) listed.0 ≡ Some (g, listed.1) = subst (λ (l : Lines). slice_get (listed_by p l) listed.0 ≡ Some (g, listed.1)) e listed.2 in cc k)

        list : listed_by p (work x.0 older) ≡ index_of (holds p then_ b.0)
        list = round_list p x.0 b older (sound_before p (End x said) older s) high over quiet some

    -- such a heal settled, or tells what stood at the start
    told : IsUnchanged p start then_ g kind → IsEverywhere p then_ g → Same p x.0 then_ g kind older → IsOpenOn p then_ b.0 g kind → IsClear p older g kind ⊎ Told
    told u every same open_on = go heal.fact.0.few
      where
        heal : Healed Fact g kind
        heal = healed Fact g kind (work x.0 older) (facts (work x.0 older) whole.told whole.kept same.heals) (has_heal u open_on)

        tells : IsTold p g kind heal.said (heal_by (work x.0 heal.before))
        tells = heal.fact.0

        begun : Begun p x.0 then_ g kind tells.begun
        begun = heal.fact.2 refl refl tells.begun tells.is_begun

        first : IsUnchanged p start tells.begun g kind
        first = unchanged_on p start then_ tells.begun g kind u begun.same

        go : (heal.said ≡ replied.Nothing) ⊎ ((heal.said ≡ replied.Settled) ⊎ IsSplitReply heal.said) → IsClear p older g kind ⊎ Told
        go (inl nothing) = inr (inl (clear_was p start tells.begun g kind first (tells.nothing.0 nothing)))
        go (inr (inl settled)) = inl (heal.fact.1 settled tells.begun tells.is_begun (everywhere_still p then_ tells.begun g kind begun.same every)).clear
        go (inr (inr split)) = inr (inr (split_was p start tells.begun (sums p start (premises_of start at_start)) (sums p tells.begun begun.premises) s.some s.small g kind (everywhere_as p start g what held) (everywhere_still p then_ tells.begun g kind begun.same every) first (tells.split.0 split)))

    pub comes : (done : Seq BrickId) → IsEverywhere p then_ g → Came done then_ → Came (b ∷ done) (End x said ∷ older)
    comes done every (inl clear) = inl (ended_clear x said older (round_clears p x older now_premises s.clients high quiet g kind clear))
    comes done every (inr (u, tells)) = go (leaves every)
      where
        ended_same : IsUnchanged p then_ older g kind → IsUnchanged p start (End x said ∷ older) g kind
        ended_same same = unchanged_on p start older (End x said ∷ older) g kind (unchanged_on p start then_ older g kind u same) (spared p g kind (End x said) older tt)

        brick_is : (c : BrickId) → Some b ≡ Some c → b ≡ c
        brick_is c e = cc e

        tells_more : (IsOpenOn p start b.0 g kind → Told) → (c : BrickId) → IsIn c (b ∷ done) → IsOpenOn p start c.0 g kind → Told
        tells_more here c (zero, e) open_on = here (subst (λ (z : BrickId). IsOpenOn p start z.0 g kind) (sym (brick_is c e)) open_on)
        tells_more here c (suc i, e) open_on = tells c (i, e) open_on

        by : (same : Same p x.0 then_ g kind older) → IsClearOn p start g kind b.0 ⊎ IsOpenOn p start b.0 g kind → Came (b ∷ done) (End x said ∷ older)
        by same (inl clean) = inr (ended_same same.same, tells_more (λ open_on. absurd (not_both p start g kind b.0 clean open_on)))
        by same (inr open_on) = elim (told u every same (open_still p start then_ g kind b.0 small u open_on)) [
          | inl clear ↦ inl (ended_clear x said older clear)
          | inr was ↦ inr (ended_same same.same, tells_more (λ any_open. was))
        ]

        go : Same p x.0 then_ g kind older ⊎ Gone p x.0 then_ g kind older → Came (b ∷ done) (End x said ∷ older)
        go (inr gone) = inl (ended_clear x said older gone.0.clear)
        go (inl same) = by same (clear_or_open p start g kind b.0)

  -- ---- the pass
  whole_then : (cur log : Seq Line) → IsTail cur log → AreQuietWhole p log → AreQuietWhole p cur
  whole_then cur [] e w = subst (AreQuietWhole p) (sym e) w
  whole_then cur (line ∷ older) (inl e) w = subst (AreQuietWhole p) (sym e) w
  whole_then cur (line ∷ older) (inr t) w = whole_then cur older t w.1

  pub passes : RoundsAreLow p → (done : Seq BrickId) (log : Seq Line) → Sound p log → AreQuietWhole p log → AreRounds p start done log → Came done log × IsEverywhere p log g
  passes low [] log s whole is = subst (λ l. Came [] l × IsEverywhere p l g) (sym is) (inr (unchanged_self p start g kind, λ b none. absurd (let e = none.1 in cc e)), everywhere_as p start g what held)
  passes low (b ∷ done) log s whole (r, before) = subst (λ l. Came (b ∷ done) l × IsEverywhere p l g) (sym r.last) (
      let ended_log : Seq Line = End r.healer r.said ∷ r.older in
      let then_ : Seq Line = log_before (work r.healer.0 r.older) r.older in
      let tail : IsTail then_ r.older = before_tail r.healer.0 r.older in
      let s_end : Sound p ended_log = subst (Sound p) r.last s in
      let w_end : AreQuietWhole p ended_log = subst (AreQuietWhole p) r.last whole in
      let came = passes low done then_ (sound_then p then_ r.older tail (sound_before p (End r.healer r.said) r.older s_end)) (whole_then then_ r.older tail w_end.1) before in (
        comes r.healer r.said r.older b s_end r.high r.over (low r.healer.0 (ended r.healer.0 r.older) b r.over) r.quiet (w_end.0 r.high b r.over r.quiet) done came.1 came.0,
        everywhere_later p g then_ ended_log (inr tail) came.1,
      )
      )

  alike_now : (log : Seq Line) → Sound p log → IsClear p log g kind → IsClearAlike p log g kind
  alike_now log s clear = record {
    clear = clear;
    alike = λ b c low_b low_c keeps_b keeps_c cell o k. now_of (AreAlike p) log (exact_alike p log s.small s.short s.honest s.lawful) cell
        (subst (λ i. IsClear p log i (kind_of_cell cell)) (sym o) (subst (λ i. IsClear p log g i) (sym k) clear)) b c low_b low_c (subst (λ i. keeps p.shape i b ≡ true) (sym k) keeps_b) (subst (λ i. keeps p.shape i c ≡ true) (sym k) keeps_c);
  }

  pub converges : (done : Seq BrickId) (log : Seq Line) → Sound p log → AreAll p done → Came done log → IsConverged p start log g kind
  converges done log s all (inl clear) = inl (alike_now log s clear)
  converges done log s all (inr (u, tells)) = go (each_or p.shape.n (IsClearOn p start g kind) (λ b. IsOpenOn p start b g kind) (λ b low. clear_or_open p start g kind b))
    where
      of_told : Told → IsConverged p start log g kind
      of_told (inl clear) = inl (alike_now log s (clear_still p start log g kind u clear))
      of_told (inr split) = inr (split, u)

      go : IsClear p start g kind ⊎ ((b : ℕ) × (b < p.shape.n) × IsOpenOn p start b g kind) → IsConverged p start log g kind
      go (inl clear) = of_told (inl clear)
      go (inr w) = of_told (tells (record { 0 = w.0 }) (all w.0 w.1) w.2)

-- the start is an earlier moment of the log
start_tail : (p : Plan) (start : Seq Line) (done : Seq BrickId) (log : Seq Line) → AreRounds p start done log → IsTail start log
start_tail p start [] log is = subst (IsTail start) (sym is) (tail_self start)
start_tail p start (b ∷ done) log (r, before) = subst (IsTail start) (sym r.last) (inr (tail_on start (log_before (work r.healer.0 r.older) r.older) r.older (start_tail p start done (log_before (work r.healer.0 r.older) r.older) before) (before_tail r.healer.0 r.older)))
  where
    tail_on : (a b c : Seq Line) → IsTail a b → IsTail b c → IsTail a c
    tail_on a b [] s t = subst (IsTail a) t s
    tail_on a b (line ∷ c) s (inl e) = subst (IsTail a) e s
    tail_on a b (line ∷ c) s (inr t) = inr (tail_on a b c s t)

now : QuietRoundsAreWhole → (p : Plan) (log : Seq Line) → Sound p log → RoundsAreLow p → HasConverged p log
now whole p log s low start bricks rounds all g what kind held of =
    let at_start = sound_then p start log (start_tail p start bricks log rounds) s in
    converges p start g what kind at_start held of bricks log s all (passes p start g what kind at_start held of low bricks log s (whole p log s.small s.clients s.short s.follows s.honest s.lawful s.replied low) rounds).0

moments : QuietRoundsAreWhole → (p : Plan) (log : Seq Line) → Sound p log → RoundsAreLow p → EveryPrefix (HasConverged p) log
moments whole p [] s low = now whole p [] s low
moments whole p (line ∷ older) s low = (now whole p (line ∷ older) s low, moments whole p older (sound_before p line older s) low)

-- a volume without bricks has nothing to differ in
no_brick : (p : Plan) (log : Seq Line) → p.shape.n ≡ 0 → HasConverged p log
no_brick p log none start bricks rounds all g what kind held of = inl (record { clear = λ x low. absurd (omega (arith, low, none)); alike = λ b c low. absurd (omega (arith, low, none)) })

no_moment : (p : Plan) (log : Seq Line) → p.shape.n ≡ 0 → EveryPrefix (HasConverged p) log
no_moment p [] none = no_brick p [] none
no_moment p (line ∷ older) none = (no_brick p (line ∷ older) none, no_moment p older none)

pub quiet_converge : QuietRoundsAreWhole → QuietRoundsConverge
quiet_converge whole p log five clients short follows honest lawful replies low = by p.shape.n refl
  where
    by : (n : ℕ) → p.shape.n ≡ n → EveryPrefix (HasConverged p) log
    by (suc n) many = moments whole p log (record { small = five; some = omega (arith, many); clients = clients; short = short; follows = follows; honest = honest; lawful = lawful; replied = replies }) low
    by zero none = no_moment p log none
