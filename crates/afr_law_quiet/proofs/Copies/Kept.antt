-- A settled heal of an undisturbed round leaves its object repaired, to the round's end.
use Rattle.std.proofs.Common.{ap, arith, false, inl, inr, not, refl, subst, sym, Bool, true, true≢false, ℕ, suc, ◌<◌, ◌∙◌, ◌≡◌, ◌≤◌, ◌⊎◌, [], ◌∷◌, length}
use Rattle.std.specs.Prelude.{List as Seq, None, Option, Some, if◌then◌else◌, nat_lt, slice_get}
use Rattle.std.proofs.lemmas.Bool.{cases_lt, eqb-true, not-false}
use Rattle.std.proofs.lemmas.Bool.Decides.{nat_tests}
use Rattle.afr_base.specs.Bricks.{below, is_nothing, lowest, member, minus}
use Rattle.afr_base.specs.Keeping.{keeps}
use Rattle.afr_base.specs.Majority.{is_majority}
use Rattle.afr_base.specs.SetLemmas.{lowest_left, majority_some, none_left}
use Rattle.afr_base.specs.declared.ids.ActorId.{ActorId}
use Rattle.afr_base.specs.declared.ids.Gfid.{Gfid}
use Rattle.afr_base.specs.declared.ids.Kind.{Kind}
use Rattle.afr_base.specs.declared.ids.Kind.TheVariants.{Attrs, Bytes, Names}
use Rattle.afr_choice.specs.Verdict.{good_copies, holders_of}
use Rattle.afr_object.specs.declared.entry.View.{View}
use Rattle.afr_object.specs.Object.{Object}
use Rattle.afr_object.specs.Tables.{copy_at}
use Rattle.afr_lines.specs.Log.{EachLine, EveryPrefix}
use Rattle.afr_lines.specs.Places.{Fresh, Place}
use Rattle.afr_lines.specs.Work.{Work as Lines, ended, work}
use Rattle.afr_lines.specs.declared.line.Line.{Line}
use Rattle.afr_lines.specs.declared.line.Line.TheVariants.{Ask, Begin, End, Event, HealBegin, HealEnd}
use Rattle.afr_lines.specs.declared.reply.HealReply.{HealReply}
use Rattle.afr_lines.specs.declared.reply.HealReply.TheVariants as healed
use Rattle.afr_plan.specs.declared.plan.Plan.{Plan}
use Rattle.afr_model.specs.Actors.{script_of}
use Rattle.afr_plan.specs.declared.command.Command.{Command}
use Rattle.afr_model.specs.Cells.{Cell, kind_of_cell, object_of_cell, value_of}
use Rattle.afr_model.specs.Following.{KeepsToTask, ToCommand, ToCrawl, ToItem, ToRound}
use Rattle.afr_model.specs.HealReplies.{by_moved, by_owner, heal_reply, is_clean, is_settled, or_else}
use Rattle.afr_model.specs.Healing.{busy_by, first_by, heal_by, holders_in, settled_at}
use Rattle.afr_model.specs.Moved.{moved_by}
use Rattle.afr_model.specs.Quiet.{IsQuiet}
use Rattle.afr_model.specs.Rounds.{heal_due}
use Rattle.afr_model.specs.Safe.{log_before}
use Rattle.afr_model.specs.Showing.{among}
use Rattle.afr_model.specs.Tables.{holds}
use Rattle.afr_law_tables.specs.Clear.{IsClear, IsClearOn}
use Rattle.afr_law_tables.specs.Codes.{kept_by}
use Rattle.afr_law.specs.ModelAlike.{AreAlike}
use Rattle.afr_law.proofs.Heals.Answers.{Honestly}
use Rattle.afr_law.proofs.Heals.Holds.{is_last}
use Rattle.afr_law.proofs.Model.Discipline.{exact_alike}
use Rattle.afr_law.proofs.Model.Tasks.{heal_ends_no_command, heal_is_no_command}
use Rattle.afr_model_moves.specs.Discipline.{MovesExactly, exact, in_force, present}
use Rattle.afr_model_moves.specs.Heal.{MayHealEnd}
use Rattle.afr_model_moves.specs.Past.{Log, opens, place}
use Rattle.afr_model_moves.specs.Positions.{by_position}
use Rattle.afr_model_moves.specs.Register.{Exact, Finish, HealPart, Opening, Piece, holder, rank, untouched}
use Rattle.afr_model_moves.proofs.ByPosition.{IsPast, past_whole}
use Rattle.afr_model_moves.proofs.Places.{place_is}
use Rattle.afr_law_quiet.specs.Undisturbed.{EachHeal, EndsRepaired, IsEverywhere, IsRepaired, OfHeal, begun_after}
use Rattle.afr_law_quiet.specs.Copies.Repaired.{IsQuietKept, IsRoundKept, QuietRoundsAreRepaired}
use Rattle.afr_law_quiet.proofs.Copies.After.{After, Spares, after_fresh, clear_by}
use Rattle.afr_law_quiet.proofs.Copies.AfterLines.{after_own}
use Rattle.afr_law_quiet.proofs.Copies.Lengths.{HasLength, len_on, same_length}
use Rattle.afr_law_quiet.proofs.Copies.Looked.{gfid}
use Rattle.afr_law_quiet.proofs.Copies.Premises.{Premises, honest_lines, moves, shorter}
use Rattle.afr_law_quiet.proofs.Copies.Round.{Round, Whole, round_fresh, round_own, work_own}
use Rattle.afr_law_quiet.proofs.Copies.Stretch.{Calm, IsTail, Starting, Stretch, at_tail, count, fresh_work, now_of, starting, stretch, tail_rest, tail_self, tail_short}
use Rattle.afr_law_quiet.proofs.Copies.Walk.{exact_own, line_may, walk}

-- ---- what the reply Settled rests on
reply_settled : (o : Option ActorId) (few some clean split : Bool) (views : Seq (Option View)) (all : Bool) (moved : Option ℕ)
    → or_else (by_owner o) (or_else (if few then Some healed.Short else (if some then Some healed.Short else (if clean then Some healed.Nothing else (if split then Some (healed.Split views) else None)))) (Some (if all then healed.Settled else by_moved moved))) ≡ Some healed.Settled
    → (some ≡ false) × (all ≡ true)
reply_settled (Some owner) few some clean split views all moved e = absurd (cc e)
reply_settled None true some clean split views all moved e = absurd (cc e)
reply_settled None false true clean split views all moved e = absurd (cc e)
reply_settled None false false true split views all moved e = absurd (cc e)
reply_settled None false false false true views all moved e = absurd (cc e)
reply_settled None false false false false views true moved e = (refl, refl)
reply_settled None false false false false views false None e = absurd (cc e)
reply_settled None false false false false views false (Some x) e = absurd (cc e)

-- some brick settled
some_settled : (p : Plan) (g : Gfid) (kind : Kind) (w : Lines) → heal_reply p.shape g kind w ≡ Some healed.Settled → (z : ℕ) × (member (among settled_at w) z ≡ true)
some_settled p g kind w e = (
    let k = reply_settled (busy_by w) (not (is_majority p.shape.n (minus (below p.shape.n) (first_by w).missing))) (not (is_majority p.shape.n (holders_of (first_by w).looked))) (is_clean kind (first_by w).looked) (is_nothing (good_copies p.shape (first_by w).looked kind)) (first_by w).looked.views (is_settled w) (moved_by p.shape g kind w) e in
    let many : is_majority p.shape.n (holders_in w) ≡ true = not-false (is_majority p.shape.n (holders_in w)) k.0 in
    let there = (lowest_left (holders_in w) [] (majority_some p.shape.n (holders_in w) many)).1 in
    (lowest (minus (holders_in w) []), none_left (holders_in w) (among settled_at w) k.1 (lowest (minus (holders_in w) [])) there)
    )

-- ---- moments of a log

later_stretch : (a lo hi : ℕ) (log : Seq Line) → lo ≤ hi → Stretch a lo log → Stretch a hi log
later_stretch a lo hi [] more h = tt
later_stretch a lo hi (line ∷ older) more h = (λ k. h.0 (omega (arith, more, k)), later_stretch a lo hi older more h.1)

kind_or : (kind : Kind) → (kind ≡ Bytes) ⊎ (kind ≡ Bytes → ⊥)
kind_or Bytes = inl refl
kind_or Attrs = inr (λ e. cc e)
kind_or Names = inr (λ e. cc e)

last_finish : (kind : Kind) (part : HealPart) → kind ≡ Bytes → is_last kind part ≡ true → part ≡ Finish
last_finish Bytes Finish e k = refl
last_finish Bytes Opening e k = absurd (true≢false (sym k))
last_finish Bytes Piece e k = absurd (true≢false (sym k))
last_finish Attrs part e k = absurd (cc e)
last_finish Names part e k = absurd (cc e)

-- all copies of bytes have this length
abbrev pub AreOfLength : Plan → Gfid → Kind → ℕ → Seq Line → Type 0
AreOfLength p g kind m o = kind ≡ Bytes → (x : ℕ) → x < p.shape.n → kept_by p x Bytes ≡ true → HasLength (holds p o x) g m

lengths_on : (p : Plan) (g : Gfid) (kind : Kind) (m : ℕ) (line : Line) (older : Seq Line) → Premises p (line ∷ older) → Spares kind g line → AreOfLength p g kind m older → AreOfLength p g kind m (line ∷ older)
lengths_on p g kind m line older q s h e x low keeps_it = len_on p line older g x m (subst (λ c. Spares c g line) e s) (h e x low keeps_it)

-- the actor's present work is no command
abbrev pub IsNoCommand : Plan → ℕ → Seq Line → Type 0
IsNoCommand p a o = (c : Command) → slice_get (script_of p a) (ended a o) ≡ Some c → ⊥

no_command_on : (p : Plan) (a : ℕ) (g : Gfid) (kind : Kind) (line : Line) (older : Seq Line) → Spares kind g line → IsNoCommand p a older → IsNoCommand p a (line ∷ older)
no_command_on p a g kind (Ask x y request told took) older s h = h
no_command_on p a g kind (Begin x change) older s h = h
no_command_on p a g kind (HealBegin x i k) older s h = h
no_command_on p a g kind (HealEnd x i k said) older s h = h
no_command_on p a g kind (End x said) older s h = absurd s
no_command_on p a g kind (Event e) older s h = h

-- where no line of a work or heal is, the register is untouched
pub fresh_now : (n : ℕ) (keeps : ℕ → Kind → Bool) (L : Log) (t a : ℕ) → place L t a ≡ Fresh → present n keeps L t a ≡ untouched
unfolding opens
fresh_now n keeps L t a e = ap (λ (k : Place). in_force (opens k (L t)) (exact n keeps L t a)) e

module _ (p : Plan) (log : Seq Line) (premises : Premises p log) (a : ℕ) (quiet : IsQuiet p a log) where
  abbrev n : ℕ
  n = p.shape.n

  abbrev L : Log
  L = by_position log

  abbrev lo : ℕ
  lo = length (log_before (work a log) log)

  mv : MovesExactly p.shape.n (kept_by p) (by_position log)
  mv = moves p log premises

  hl : Honestly (by_position log)
  hl = honest_lines p log premises

  abbrev now : Seq Line → Exact
  now o = present p.shape.n (kept_by p) (by_position log) (length o) a

  base_at : (o : Seq Line) → IsPast L o → Starting a lo o → EveryPrefix (λ o. length o ≡ lo → Round p a o (now o)) o
  base_at [] past s = λ e. subst (Round p a []) (sym (fresh_now n (kept_by p) L 0 a (place_is L a [] past ∙ s e))) (round_fresh p a [] refl)
  base_at (line ∷ older) past s = (
    λ e. subst (Round p a (line ∷ older)) (sym (fresh_now n (kept_by p) L (suc (length older)) a (place_is L a (line ∷ older) past ∙ s.0 e))) (round_fresh p a (line ∷ older) (ap heal_by (fresh_work a (line ∷ older) (s.0 e)))),
    base_at older past.1 s.1,
  )

  round_at : (o : Seq Line) → Premises p o → IsPast L o → Stretch a lo o → Starting a lo o → lo ≤ length o → Round p a o (now o)
  round_at o q past st s low = walk n (kept_by p) L mv a lo (Premises p) (shorter p) (Round p a) (λ older r none h. round_fresh p a older none)
      (λ line older q past calm h may. round_own p L mv hl a older line q past calm h may) o q past st (base_at o past s) low

  -- ---- the end of a settled heal
  module _ (x : ActorId) (g : Gfid) (kind : Kind) (said : HealReply) (rest : Seq Line) (q : Premises p (HealEnd x g kind said ∷ rest)) (past : IsPast L (HealEnd x g kind said ∷ rest)) (calm : Calm a (HealEnd x g kind said)) (h : Round p a rest (now rest))
      (tail : IsTail (HealEnd x g kind said ∷ rest) log) (late : lo ≤ length rest) (settled : said ≡ healed.Settled) (begun : Seq Line) (is_begun : begun_after (heal_by (work a rest)) ≡ Some begun) (everywhere : IsEverywhere p begun g) where
    abbrev line : Line
    line = HealEnd x g kind said

    abbrev r : Exact
    r = now rest

    mine : x.0 ≡ a
    mine = eqb-true x.0 a calm.mine

    may : MayHealEnd p.shape.n (now rest)
    may = line_may n (kept_by p) L mv a lo line rest past calm.mine

    -- the round is at this heal
    due : (17 ≤ x.0) × (heal_due p (work a rest) ≡ Some (g, kind))
    due = go (q.follows.0).1.0.keeps
      where
        go : KeepsToTask false p x.0 line rest → (17 ≤ x.0) × (heal_due p (work a rest) ≡ Some (g, kind))
        go (ToCommand c e k) = absurd (heal_ends_no_command p c x g kind said (length rest) (work x.0 rest) k)
        go (ToRound plain i b e k) = (i, subst (λ o. heal_due p (work o rest) ≡ Some (g, kind)) mine k)
        go (ToCrawl crawls who b e k) = absurd (true≢false (sym crawls))
        go (ToItem crawls i item given k) = absurd (true≢false (sym crawls))

    some : (z : ℕ) × (member (among settled_at (heal_by (work a rest))) z ≡ true)
    some = (
        let answered = (q.replied.0).round due.0 in
        some_settled p g kind (heal_by (work a rest)) (subst (λ o. heal_reply p.shape g kind (heal_by (work o rest)) ≡ Some healed.Settled) mine (answered.caused ∙ ap (λ (s : HealReply). Some s) settled))
        )

    done : (r.broken ≡ false) × (11 ≤ rank r.step) × (is_last r.law.kind r.part ≡ true)
    done = h.ended may.inside some.0 some.1

    whole : Whole p a rest (now rest)
    whole = h.whole may.inside done.0

    far : rank r.step ≡ 13
    far = elim may.last [ inl broken ↦ absurd (true≢false (sym broken ∙ done.0)) | inr at ↦ ap rank at ]

    same : Path (Gfid × Kind) (g, kind) (gfid r.law.object, r.law.kind)
    same = cc (sym due.1 ∙ whole.due (λ f low. omega (arith, far, low)))

    object_is : g ≡ gfid r.law.object
    object_is = ap (λ (k : Gfid × Kind). k.0) same

    kind_is : kind ≡ r.law.kind
    kind_is = ap (λ (k : Gfid × Kind). k.1) same

    all_hold : (z : ℕ) → z < n → holder r.first_views z ≡ true
    all_hold = (whole.looks.shown begun is_begun (subst (IsEverywhere p begun) object_is everywhere)).all (inr (omega (arith, far)))

    clear_rest : (z : ℕ) → z < n → IsClearOn p rest g kind z
    clear_rest z low = (
        let c = whole.counts.clear z (whole.counts.over (omega (arith, far)) done.2 z low (all_hold z low)) all_hold in
        subst (λ o. IsClearOn p rest o kind z) (sym object_is) (subst (λ k. IsClearOn p rest (gfid r.law.object) k z) (sym kind_is) c)
        )

    clear_end : (z : ℕ) → z < n → IsClearOn p (line ∷ rest) g kind z
    clear_end = clear_by p g kind rest line (λ z. refl) (λ z c. refl) clear_rest

    level_end : (m : ℕ) × AreOfLength p g kind m (line ∷ rest)
    level_end = elim (kind_or kind) [
      | inr other ↦ (0, λ e. absurd (other e))
      | inl bytes ↦ (
          let w = whole.level.level (last_finish r.law.kind r.part (sym kind_is ∙ bytes) done.2) (omega (arith, far)) in
          (w.0, λ e z low keeps_it. subst (λ o. HasLength (holds p rest z) o w.0) (sym object_is) (w.1 z low keeps_it (all_hold z low)))
          )
    ]

    untouched_end : now (line ∷ rest) ≡ untouched
    untouched_end = ap (in_force (opens (place L (suc (length rest)) a) (L (suc (length rest))))) (exact_own n (kept_by p) L mv a lo line rest past calm.mine) ∙ fresh (opens (place L (suc (length rest)) a) (L (suc (length rest))))
      where
        fresh : (b : Bool) → in_force b untouched ≡ untouched
        fresh true = refl
        fresh false = refl

    -- a heal's end is no line of a command
    no_command : IsNoCommand p a (line ∷ rest)
    no_command = no_command_on p a g kind line rest tt (λ c e. heal_is_no_command p c x g kind said (work x.0 rest) ((q.replied.0).command c (subst (λ o. slice_get (script_of p o) (ended o rest) ≡ Some c) (sym mine) e)))

    abbrev Keeps : Seq Line → Type 0
    Keeps o = AreOfLength p g kind level_end.0 o × IsNoCommand p a o

    rests : After p g kind Keeps log (now log)
    rests = walk n (kept_by p) L mv a (suc (length rest)) (Premises p) (shorter p) (After p g kind Keeps) (λ older r none w. after_fresh p g kind Keeps older w.clear w.kept)
        (λ line older q past calm w may. after_own p L mv a g kind Keeps (λ line older q s k. (lengths_on p g kind level_end.0 line older q s k.0, no_command_on p a g kind line older s k.1)) (λ older k. k.1) older line q past calm w may)
        log premises (past_whole log) (later_stretch a lo (suc (length rest)) log (omega (arith, late)) (stretch a log quiet.together quiet.unfailed))
        (at_tail (λ o. After p g kind Keeps o (now o)) (line ∷ rest) log tail (subst (After p g kind Keeps (line ∷ rest)) (sym untouched_end) (after_fresh p g kind Keeps (line ∷ rest) clear_end (level_end.1, no_command))))
        (tail_short (line ∷ rest) log tail)

    repaired : IsRepaired p log g kind
    repaired = record { clear = rests.clear; equal = λ b c low_b low_c keeps_b keeps_c. record { cells = λ cell o k. alike b c low_b low_c keeps_b keeps_c cell o k; lengths = λ v w e at_b at_c. long b low_b keeps_b v e at_b ∙ sym (long c low_c keeps_c w e at_c) } }
      where
        alike : (b c : ℕ) → b < n → c < n → keeps p.shape kind b ≡ true → keeps p.shape kind c ≡ true → (cell : Cell) → object_of_cell cell ≡ g → kind_of_cell cell ≡ kind → value_of p log b cell ≡ value_of p log c cell
        alike b c low_b low_c keeps_b keeps_c cell o k = now_of (AreAlike p) log (exact_alike p log premises.five premises.short premises.honest premises.lawful) cell
            (subst (λ i. IsClear p log i (kind_of_cell cell)) (sym o) (subst (λ i. IsClear p log g i) (sym k) rests.clear)) b c low_b low_c (subst (λ i. keeps p.shape i b ≡ true) (sym k) keeps_b) (subst (λ i. keeps p.shape i c ≡ true) (sym k) keeps_c)

        long : (b : ℕ) → b < n → keeps p.shape kind b ≡ true → (v : Object) → kind ≡ Bytes → copy_at g (holds p log b) ≡ Some v → length v.content ≡ level_end.0
        long b low keeps_b v e at = (
            let five : nat_lt b 5 ≡ true = (let few = premises.five in let under : b < 5 = omega (arith, low, few) in grind (arith, nat_tests)) in
            let kept : kept_by p b Bytes ≡ true = rw five (subst (λ i. keeps p.shape i b ≡ true) e keeps_b) in
            same_length (holds p log b) g level_end.0 v (rests.kept.0 e b low kept) at
            )

  -- ---- each heal of the round
  abbrev Kept : Gfid → Kind → HealReply → Seq Line → Type 0
  Kept g kind said before = EndsRepaired p log g kind said (heal_by (work a before))

  of_heal : (line : Line) (rest : Seq Line) → Premises p (line ∷ rest) → IsPast L (line ∷ rest) → Calm a line → Round p a rest (now rest) → IsTail (line ∷ rest) log → lo ≤ length rest → OfHeal Kept line rest
  of_heal (HealEnd x g kind said) rest q past calm h tail late = λ settled begun is_begun everywhere. repaired x g kind said rest q past calm h tail late settled begun is_begun everywhere
  of_heal (Ask x y request told took) rest q past calm h tail late = tt
  of_heal (Begin x change) rest q past calm h tail late = tt
  of_heal (HealBegin x g kind) rest q past calm h tail late = tt
  of_heal (End x reply) rest q past calm h tail late = tt
  of_heal (Event e) rest q past calm h tail late = tt

  each : (cur : Seq Line) → Premises p cur → IsPast L cur → Stretch a lo cur → Starting a lo cur → IsTail cur log → lo ≤ length cur → EachHeal Kept (work a cur)
  each [] q past st s tail low = tt
  each (line ∷ rest) q past st s tail low = elim (cases_lt (length rest) lo) [
    | inl early ↦ subst (EachHeal Kept) (sym (fresh_work a (line ∷ rest) (s.0 (omega (arith, early, low))))) tt
    | inr late ↦ subst (EachHeal Kept) (sym (work_own a line rest (st.0 late))) (of_heal line rest q past (st.0 late) (round_at rest (shorter p line rest q) past.1 st.1 s.1 late) tail late, each rest (shorter p line rest q) past.1 st.1 s.1 (tail_rest line rest log tail) late)
  ]

  pub round_kept : IsRoundKept p a log
  round_kept = each log premises (past_whole log) (stretch a log quiet.together quiet.unfailed) (starting a log) (tail_self log) (let few = count a log in omega (arith, few))

quiet_lines : (p : Plan) (log : Seq Line) → Premises p log → EachLine (IsQuietKept p) log
quiet_lines p [] q = tt
quiet_lines p (line ∷ older) q = (go line q, quiet_lines p older (shorter p line older q))
  where
    go : (line : Line) → Premises p (line ∷ older) → IsQuietKept p line older
    go (End a said) q = λ healer b e quiet. round_kept p older (shorter p (End a said) older q) a.0 quiet
    go (Ask x y request told took) q = tt
    go (Begin x change) q = tt
    go (HealBegin x g kind) q = tt
    go (HealEnd x g kind said) q = tt
    go (Event e) q = tt

pub quiet_repaired : QuietRoundsAreRepaired
quiet_repaired p log five some short follows honest lawful replied = quiet_lines p log (record { five = five; some = some; short = short; follows = follows; honest = honest; lawful = lawful; replied = replied })
