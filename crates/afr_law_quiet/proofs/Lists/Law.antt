-- Quiet rounds are listed: the parts put together.
use Rattle.std.proofs.Common.{◌≡◌, ℕ, zero, suc, ◌≤◌, true, false, ◌⊎◌, sym, ◌∙◌, subst, ap, List, [], ◌∷◌, ◌++◌, Option, Some}
use Rattle.std.specs.Prelude.{slice_get, ◌↔◌}
use Rattle.std.proofs.lemmas.Bool.{eqb-true, or_parts}
use Rattle.afr_base.specs.declared.ids.ActorId.{ActorId}
use Rattle.afr_base.specs.declared.ids.BrickId.{BrickId}
use Rattle.afr_base.specs.declared.ids.Gfid.{Gfid}
use Rattle.afr_base.specs.declared.ids.Kind.{Kind}
use Rattle.afr_base.specs.declared.ids.Kind.TheVariants.{Attrs}
use Rattle.afr_base.specs.declared.ids.What.{What}
use Rattle.afr_object.specs.Indexed.{index_of}
use Rattle.afr_lines.specs.Log.{EachLine}
use Rattle.afr_lines.specs.Work.{Work, ended, is_killed, is_of, work}
use Rattle.afr_lines.specs.declared.answer.Told.TheVariants.{Held}
use Rattle.afr_lines.specs.declared.line.Line.{Line}
use Rattle.afr_lines.specs.declared.line.Line.TheVariants.{Ask, Begin, End, Event, HealBegin, HealEnd}
use Rattle.afr_lines.specs.declared.reply.HealReply.{HealReply}
use Rattle.afr_lines.specs.declared.reply.Reply.{Reply}
use Rattle.afr_lines.specs.declared.request.Request.TheVariants.{Lock}
use Rattle.afr_lines.specs.declared.lock.Domain.TheVariants.{Heal as HealDomain}
use Rattle.afr_plan.specs.declared.plan.Plan.{Plan}
use Rattle.afr_model.specs.Actors.{IsActor, rounds_of}
use Rattle.afr_model.specs.HealReplies.{IsHealAnswered, IsHealing}
use Rattle.afr_model.specs.Healing.{heal_by}
use Rattle.afr_model.specs.Quiet.{IsQuiet, tells_any_fault}
use Rattle.afr_model.specs.Rounds.{IsHealed, KeepsToRound, heals_of, kind_within, listed_by}
use Rattle.afr_model.specs.Safe.{log_before}
use Rattle.afr_model.specs.Showing.{has}
use Rattle.afr_model.specs.Sums.{has_object}
use Rattle.afr_model.specs.Tables.{holds}
use Rattle.afr_model_moves.proofs.Tests.{same_self}
use Rattle.afr_law_tables.specs.Fits.{FitsSums}
use Rattle.afr_law.specs.Exactly.{IsLawfulExactly}
use Rattle.afr_law_quiet.specs.Undisturbed.{EachHeal, IsListed, IsOpenAt, OfHeal, ended_heals}
use Rattle.afr_law_quiet.specs.Lists.Listed.{IsListedRound, IsQuietListed, IsToldOrMoved, QuietRoundsAreListed}
use Rattle.afr_law_quiet.proofs.Lists.Free.{lock_free}
use Rattle.afr_law_quiet.proofs.Lists.Held.{IsHeld, open_held}
use Rattle.afr_law_quiet.proofs.Lists.Index.{listed_marked, marked_listed}
use Rattle.afr_law_quiet.proofs.Lists.Opened.{marked_open, open_marked}
use Rattle.afr_law_quiet.proofs.Lists.Parts.{Heal, append_assoc, heal_of}
use Rattle.afr_law_quiet.proofs.Lists.Premises.{Sound, sound_before, sound_fits}
use Rattle.afr_model.proofs.Rises.{rising}
use Rattle.afr_law_quiet.proofs.Lists.Runs.{AreMine, Run, before_works, ended_same, run, works, works_are}
use Rattle.afr_law_quiet.proofs.Lists.Steps.{AsksBelow, Goes, IsFree, Step, all_ended, due_here, listed_is}
use Rattle.afr_law_quiet.proofs.Lists.Tails.{most_more, stays_more}
use Rattle.afr_law_quiet.proofs.Lists.Tasks.{Round, healing_of, round_of}
use Rattle.afr_law_quiet.proofs.Lists.Told.{heal_told}

brick_is : (x y : BrickId) → Some x ≡ Some y → x ≡ y
brick_is x y e = cc e

asks_below : (p : Plan) (line : Line) (older : List Line) → Sound p (line ∷ older) → AsksBelow p.shape.n line
asks_below p (Ask x y r told took) older s = ((s.lawful.0).1).0
asks_below p (Begin x change) older s = tt
asks_below p (HealBegin x g kind) older s = tt
asks_below p (End x said) older s = tt
asks_below p (HealEnd x g kind said) older s = tt
asks_below p (Event event) older s = tt

-- an entry of a list
abbrev entry : Gfid → What → Option (Gfid × What)
entry g what = Some (g, what)

first_of : (what : What) (u v : Gfid × Kind) → Some u ≡ Some v → entry u.0 what ≡ entry v.0 what
first_of what u v e = (let same : u ≡ v = cc e in ap (λ (w : Gfid × Kind). entry w.0 what) same)

-- the heals of a list are of its objects
in_heals : (list : List (Gfid × What)) (k : ℕ) (g : Gfid) (kind : Kind) → slice_get (heals_of list) k ≡ Some (g, kind) → IsListed g list
in_heals [] k g kind e = absurd (cc e)
in_heals (x ∷ list) zero g kind e = (zero, x.1, first_of x.1 (x.0, Attrs) (g, kind) e)
in_heals (x ∷ list) (suc zero) g kind e = (zero, x.1, first_of x.1 (x.0, kind_within x.1) (g, kind) e)
in_heals (x ∷ list) (suc (suc k)) g kind e = (let w = in_heals list k g kind e in (suc w.0, w.1, w.2))

module _ (p : Plan) (a : ℕ) (high : 17 ≤ a) (b : BrickId) (base : List Line) (rests : work a base ≡ []) (is : slice_get (rounds_of p a) (ended a base) ≡ Some b)
    (alone : (x : ℕ) → IsActor p x → (x ≡ a → ⊥) → (is_killed x base ≡ true) ⊎ (work x base ≡ [])) where
  -- the brick of each line's round is the one of the round
  at_brick : (line : Line) (ls : List Line) → AreMine a ls → Round p a (ls ++ base) line → KeepsToRound p b line (works ls base)
  at_brick line ls mine r =
      let same : r.brick ≡ b = brick_is r.brick b (sym r.is ∙ ap (slice_get (rounds_of p a)) (ended_same a ls base mine) ∙ is) in
      subst (λ (w : Work). KeepsToRound p b line w) (works_are a ls base mine rests) (subst (λ (c : BrickId). KeepsToRound p c line (work a (ls ++ base))) same r.keeps)

  free_of : (line : Line) (ls : List Line) → AreMine a ls → is_of a line ≡ true → Sound p (line ∷ (ls ++ base)) → IsFree line
  free_of (Ask x y (Lock HealDomain area) (Held owner) took) ls mine own s = absurd (lock_free p a ls base mine alone x y area owner took (eqb-true x.0 a own) (asks_below p (Ask x y (Lock HealDomain area) (Held owner) took) (ls ++ base) s) s)
  free_of line ls mine own s = tt

  goes : (ls : List Line) → AreMine a ls → Sound p (ls ++ base) → has tells_any_fault (works ls base) ≡ false → Goes p b ls base
  goes [] mine s ok = tt
  goes (line ∷ ls) mine s ok = (
    record {
      keeps = at_brick line ls mine.1 (round_of p a (ls ++ base) line mine.0.0 s high);
      healing = subst (λ (w : Work). IsHealing p.shape line w) (works_are a ls base mine.1 rests) (healing_of p a (ls ++ base) line mine.0.0 s high);
      honest = s.honest.0;
      unfailed = (or_parts (tells_any_fault line) (has tells_any_fault (works ls base)) ok).0;
      free = free_of line ls mine.1 mine.0.0 s;
      within = asks_below p line (ls ++ base) s;
    },
    goes ls mine.1 (sound_before p line (ls ++ base) s) (or_parts (tells_any_fault line) (has tells_any_fault (works ls base)) ok).1,
  )

  -- ---- each heal
  abbrev Tells : Gfid → Kind → HealReply → List Line → Type 0
  Tells g kind said before = IsToldOrMoved p g kind said (heal_by (work a before))

  heal_tells : (x : ActorId) (g : Gfid) (kind : Kind) (said : HealReply) (ls : List Line) → AreMine a ls → Sound p (ls ++ base) → Goes p b ls base → Step p b (HealEnd x g kind said) (works ls base) (ls ++ base) → IsToldOrMoved p g kind said (heal_by (work a (ls ++ base)))
  heal_tells x g kind said ls mine s g_ls step =
      let h : Heal p g kind ls base = heal_of p b g kind base a ls mine g_ls step.keeps in
      let same : ls ++ base ≡ h.lines ++ (h.rest ++ base) = ap (λ (l : List Line). l ++ base) h.whole ∙ append_assoc h.lines h.rest base in
      let listed : IsListed g (index_of (holds p base b.0)) = in_heals (index_of (holds p base b.0)) _ g kind (due_here p b base ls g_ls (g, kind) step.keeps) in
      let before : Sound p base = below_sound ls s in
      let held : IsHeld p base g = open_held p base before b.0 g (marked_open p base (sound_fits p base before) b.0 g (listed_marked g (holds p base b.0) (rising p base b.0) listed)) in
      let spread : IsHeld p (h.rest ++ base) g = most_more p.shape.n (has_object p base g) (has_object p (h.rest ++ base) g) (λ c low k. stays_more p h.rest base g c k) held in
      let told = heal_told p g kind s.some s.small h.lines (h.rest ++ base) h.parts said (subst (λ (w : Work). IsHealAnswered p.shape g kind w said) h.are step.healing) spread
      (subst (EachLine (FitsSums p)) same (sound_fits p (ls ++ base) s)) (subst (IsLawfulExactly p) same s.lawful) in
      subst (λ (w : Work). IsToldOrMoved p g kind said w) (sym (ap heal_by (works_are a ls base mine rests) ∙ h.are)) told
    where
      below_sound : (ls : List Line) → Sound p (ls ++ base) → Sound p base
      below_sound [] s = s
      below_sound (line ∷ ls) s = below_sound ls (sound_before p line (ls ++ base) s)

  each_told : (ls : List Line) → AreMine a ls → Sound p (ls ++ base) → Goes p b ls base → EachHeal Tells (works ls base)
  each_told [] mine s g = tt
  each_told (line ∷ ls) mine s g = (of_line line g.0, each_told ls mine.1 (sound_before p line (ls ++ base) s) g.1)
    where
      of_line : (line : Line) → Step p b line (works ls base) (ls ++ base) → OfHeal Tells line (ls ++ base)
      of_line (HealEnd x h kind said) step = heal_tells x h kind said ls mine.1 (sound_before p line (ls ++ base) s) g.1 step
      of_line (Ask x y r told took) step = tt
      of_line (Begin x change) step = tt
      of_line (HealBegin x h kind) step = tt
      of_line (End x said) step = tt
      of_line (Event event) step = tt

  -- ---- the whole round
  finish : (ls : List Line) → AreMine a ls → Sound p (ls ++ base) → has tells_any_fault (works ls base) ≡ false → IsHealed (listed_by p (works ls base)) (works ls base) → IsListedRound p a b (ls ++ base)
  finish [] mine s ok ended = absurd (let e = ended.begun in cc e)
  finish (line ∷ ls) mine s ok ended =
      let g : Goes p b (line ∷ ls) base = goes (line ∷ ls) mine s ok in
      let are : work a (line ∷ ls ++ base) ≡ works (line ∷ ls) base = works_are a (line ∷ ls) base mine rests in
      let list : listed_by p (works (line ∷ ls) base) ≡ index_of (holds p base b.0) = listed_is p b line ls base g in
      let before : log_before (works (line ∷ ls) base) (line ∷ ls ++ base) ≡ base = before_works (line ∷ ls) base in
      let fits : EachLine (FitsSums p) base = sound_fits p base (below_sound (line ∷ ls) s) in
      record {
        lists = λ q. subst (λ (w : Work). IsListed q (listed_by p w) ↔ IsOpenAt p (log_before w (line ∷ ls ++ base)) b.0 q) (sym are) (
          (λ listed. subst (λ (l : List Line). IsOpenAt p l b.0 q) (sym before) (marked_open p base fits b.0 q (listed_marked q (holds p base b.0) (rising p base b.0) (subst (IsListed q) list listed)))),
          (λ opened. subst (IsListed q) (sym list) (marked_listed q (holds p base b.0) (open_marked p base fits b.0 q (subst (λ (l : List Line). IsOpenAt p l b.0 q) before opened)))),
        );
        both = subst (λ (w : Work). ended_heals w ≡ heals_of (listed_by p w)) (sym are) (all_ended p b base line ls g ended.done);
        told = subst (EachHeal Tells) (sym are) (each_told (line ∷ ls) mine s g);
      }
    where
      below_sound : (ls : List Line) → Sound p (ls ++ base) → Sound p base
      below_sound [] s = s
      below_sound (line ∷ ls) s = below_sound ls (sound_before p line (ls ++ base) s)

-- the round that the next line ends
ended_round : (p : Plan) (x : ActorId) (said : Reply) (older : List Line) → Sound p (End x said ∷ older) → 17 ≤ x.0 → (b : BrickId) → slice_get (rounds_of p x.0) (ended x.0 older) ≡ Some b → IsQuiet p x.0 older → IsListedRound p x.0 b older
ended_round p x said older s high b is quiet =
    let r : Run x.0 older = run x.0 older quiet.together in
    subst (λ (l : List Line). IsListedRound p x.0 b l) (sym r.whole) (inner r.lines r.base r.mine r.rests (subst (λ (l : List Line). Sound p (End x said ∷ l)) r.whole s) (subst (λ (l : List Line). slice_get (rounds_of p x.0) (ended x.0 l) ≡ Some b) r.whole is) (subst (IsQuiet p x.0) r.whole quiet))
  where
    inner : (ls base : List Line) → AreMine x.0 ls → work x.0 base ≡ [] → Sound p (End x said ∷ (ls ++ base)) → slice_get (rounds_of p x.0) (ended x.0 (ls ++ base)) ≡ Some b → IsQuiet p x.0 (ls ++ base) → IsListedRound p x.0 b (ls ++ base)
    inner ls base mine rests s is quiet =
        let are : work x.0 (ls ++ base) ≡ works ls base = works_are x.0 ls base mine rests in
        let first : slice_get (rounds_of p x.0) (ended x.0 base) ≡ Some b = ap (slice_get (rounds_of p x.0)) (sym (ended_same x.0 ls base mine)) ∙ is in
        let before : log_before (work x.0 (ls ++ base)) (ls ++ base) ≡ base = ap (λ (w : Work). log_before w (ls ++ base)) are ∙ before_works ls base in
        let alone : (y : ℕ) → IsActor p y → (y ≡ x.0 → ⊥) → (is_killed y base ≡ true) ⊎ (work y base ≡ []) = (λ y actor apart. subst (λ (l : List Line). (is_killed y l ≡ true) ⊎ (work y l ≡ [])) before (quiet.alone y actor apart)) in
        let round = round_of p x.0 (ls ++ base) (End x said) (same_self x.0) s high in
        finish p x.0 high b base rests first alone ls mine (sound_before p (End x said) (ls ++ base) s) (subst (λ (w : Work). has tells_any_fault w ≡ false) are quiet.unfailed)
        (at_brick p x.0 high b base rests first alone (End x said) ls mine round)

each_round : (p : Plan) (log : List Line) → Sound p log → EachLine (IsQuietListed p) log
each_round p [] s = tt
each_round p (line ∷ older) s = (of_line line s, each_round p older (sound_before p line older s))
  where
    of_line : (line : Line) → Sound p (line ∷ older) → IsQuietListed p line older
    of_line (End x said) s = λ high b is quiet. ended_round p x said older s high b is quiet
    of_line (Ask x y r told took) s = tt
    of_line (Begin x change) s = tt
    of_line (HealBegin x g kind) s = tt
    of_line (HealEnd x g kind said) s = tt
    of_line (Event event) s = tt

-- the law
pub quiet_listed : QuietRoundsAreListed
quiet_listed p log small some clients short follows honest lawful replied =
    each_round p log (record { small = small; some = some; clients = clients; short = short; follows = follows; honest = honest; lawful = lawful; replied = replied })
