-- What a heal of a quiet round tells.
use Rattle.std.proofs.Common.{◌≡◌, ℕ, ◌<◌, ◌≤◌, ◌||◌, not, Bool, true, false, inl, inr, refl, sym, ◌∙◌, subst, ap, List, [], ◌∷◌, ◌++◌, Option, Some, None, true≢false}
use Rattle.std.specs.Prelude.{if◌then◌else◌}
use Rattle.afr_base.specs.Bricks.{below, is_nothing, member, minus}
use Rattle.afr_base.specs.Majority.{IsMajority, is_majority}
use Rattle.afr_base.specs.declared.ids.BrickId.{BrickId}
use Rattle.afr_base.specs.declared.ids.Gfid.{Gfid}
use Rattle.afr_base.specs.declared.ids.Kind.{Kind}
use Rattle.afr_choice.specs.Verdict.{good_copies, holders_of}
use Rattle.afr_choice.specs.declared.looked.Looked.{Looked}
use Rattle.afr_object.specs.declared.entry.View.{View}
use Rattle.afr_lines.specs.Log.{EachLine}
use Rattle.afr_lines.specs.Work.{Work}
use Rattle.afr_lines.specs.declared.line.Line.{Line}
use Rattle.afr_lines.specs.declared.reply.HealReply.{HealReply}
use Rattle.afr_lines.specs.declared.reply.HealReply.TheVariants as healed
use Rattle.afr_plan.specs.declared.plan.Plan.{Plan}
use Rattle.afr_model.specs.HealReplies.{IsHealAnswered, IsHealAsked, by_moved, is_clean, is_settled, or_else}
use Rattle.afr_model.specs.Healing.{First, first_by, heal_getting, whole_of}
use Rattle.afr_model.specs.Moved.{moved_by}
use Rattle.afr_model.specs.Showing.{among}
use Rattle.afr_model.specs.Splits.{IsSplit}
use Rattle.afr_model.specs.Standing.{getting}
use Rattle.afr_model.specs.Sums.{has_object, pending_of}
use Rattle.afr_model_moves.specs.ByList.{IsExactLine}
use Rattle.afr_law.specs.Beginning.{start_of}
use Rattle.afr_law.specs.Exactly.{IsLawfulExactly, name_bound}
use Rattle.afr_law_tables.specs.Clear.{IsClear}
use Rattle.afr_law_tables.specs.Fits.{FitsSums}
use Rattle.afr_law_quiet.specs.Undisturbed.{IsSplitReply}
use Rattle.afr_law_quiet.specs.Lists.Listed.{IsOneOfFour, IsToldOrMoved}
use Rattle.afr_law_quiet.proofs.Lists.Asked.{heal_granted, none_missing, not_busy, not_failed, work_granted}
use Rattle.afr_law_quiet.proofs.Lists.Firsts.{Begun, Firsts, firsts}
use Rattle.afr_law_quiet.proofs.Lists.Judged.{below_most, clean_clear, clean_good, clear_clean, enough, good_split, split_good, whole_most}
use Rattle.afr_law_quiet.proofs.Lists.Parts.{Parts}
use Rattle.afr_law_quiet.proofs.Lists.Runs.{works}
use Rattle.afr_law_quiet.proofs.Lists.Tails.{each_tail, most_more, none_far, stays_more}

-- how the reply of a heal comes about
data RoundOutcome (clean none : Bool) (views : List (Option View)) (said : HealReply) : Type 0 where
  Clean : clean ≡ true → said ≡ healed.Nothing → RoundOutcome clean none views said
  Bad : clean ≡ false → none ≡ true → said ≡ healed.Split views → RoundOutcome clean none views said
  Settled : clean ≡ false → none ≡ false → said ≡ healed.Settled → RoundOutcome clean none views said
  Fails : clean ≡ false → none ≡ false → said ≡ healed.Failed → RoundOutcome clean none views said
  Moved : clean ≡ false → none ≡ false → (x : BrickId) → said ≡ healed.Moved x → RoundOutcome clean none views said

-- the reply where nobody else is at the heal
abbrev ends_with : Bool → Bool → Bool → Bool → Bool → List (Option View) → Option ℕ → Option HealReply
ends_with some most clean none settled views moved =
    or_else (if not some then Some healed.Short else (if not most then Some healed.Short else (if clean then Some healed.Nothing else (if none then Some (healed.Split views) else None))))
    (Some (if settled then healed.Settled else by_moved moved))

some_is : (x y : HealReply) → Some x ≡ Some y → y ≡ x
some_is x y e = cc e

outcome : (some most clean none settled : Bool) (views : List (Option View)) (moved : Option ℕ) (said : HealReply) → some ≡ true → most ≡ true → ends_with some most clean none settled views moved ≡ Some said → RoundOutcome clean none views said
outcome false most clean none settled views moved said e f k = absurd (true≢false (sym e))
outcome true false clean none settled views moved said e f k = absurd (true≢false (sym f))
outcome true true true none settled views moved said e f k = Clean refl (some_is _ said k)
outcome true true false true settled views moved said e f k = Bad refl refl (some_is _ said k)
outcome true true false false true views moved said e f k = Settled refl refl (some_is _ said k)
outcome true true false false false views None said e f k = Fails refl refl (some_is _ said k)
outcome true true false false false views (Some x) said e f k = Moved refl refl (record { 0 = x }) (some_is _ said k)

whole : (l : List ℕ) → minus l [] ≡ l
whole [] = refl
whole (x ∷ l) = ap (λ (t : List ℕ). x ∷ t) (whole l)

module _ (p : Plan) (g : Gfid) (kind : Kind) (some : 0 < p.shape.n) (small : p.shape.n ≤ 5) (lines rest : List Line) (parts : Parts p g kind lines rest) (said : HealReply) (answer : IsHealAnswered p.shape g kind (works lines rest) said)
    (spread : IsMajority p.shape.n (has_object p rest g)) (fits : EachLine (FitsSums p) (lines ++ rest)) (lawful : IsLawfulExactly p (lines ++ rest)) where
  abbrev w : Work
  w = works lines rest

  abbrev s : First
  s = first_by (works lines rest)

  asked : IsHealAsked p.shape g kind (works lines rest)
  asked = answer.asked (not_busy p g kind rest lines parts)

  healing : (b : ℕ) → b < p.shape.n → member (among heal_getting (works lines rest)) b ≡ true
  healing b low = subst (λ (l : List ℕ). member l b ≡ true) (sym (heal_granted p g kind rest lines parts)) (asked.locked b low)

  working : (b : ℕ) → b < p.shape.n → member (among (getting (whole_of g kind)) (works lines rest)) b ≡ true
  working b low = work_granted p g kind rest (whole_of g kind) lines parts b (asked.worked (whole_most p.shape.n (among heal_getting (works lines rest)) some small healing) b (healing b low))

  reached : (b : ℕ) → b < p.shape.n → member (first_by (works lines rest)).looked.reached b ≡ true
  reached b low = (
      let k = asked.looked (whole_most p.shape.n (among (getting (whole_of g kind)) (works lines rest)) some small working) b (working b low) in
      let l : (member (first_by (works lines rest)).looked.reached b || member [] b) ≡ true = subst (λ (m : List ℕ). (member (first_by (works lines rest)).looked.reached b || member m b) ≡ true) (none_missing p g kind rest lines parts) k in
      first (member (first_by (works lines rest)).looked.reached b) l
      )
    where
      first : (x : Bool) → (x || false) ≡ true → x ≡ true
      first true e = refl
      first false e = e

  begun : Begun p g s.still s.looked w (lines ++ rest) rest
  begun = go s.begun (firsts p g kind small rest lines parts)
    where
      go : (x : Bool) → Firsts p g x s.still s.looked w (lines ++ rest) rest → Begun p g s.still s.looked w (lines ++ rest) rest
      go true f = f
      go false f = absurd (true≢false (sym (reached 0 some) ∙ ap (λ (l : Looked). member l.reached 0) f.1))

  spread_then : IsMajority p.shape.n (has_object p begun.begun g)
  spread_then = most_more p.shape.n (has_object p rest g) (has_object p begun.begun g) (λ b low h. subst (λ (l : List Line). has_object p l g b ≡ true) (sym begun.is_above) (stays_more p begun.above rest g b h)) spread

  fits_then : EachLine (FitsSums p) begun.begun
  fits_then = each_tail (FitsSums p) begun.newer begun.begun (subst (EachLine (FitsSums p)) begun.is_newer fits)

  lawful_then : IsLawfulExactly p begun.begun
  lawful_then = each_tail (IsExactLine p.shape.n (start_of p (name_bound p))) begun.newer begun.begun (subst (IsLawfulExactly p) begun.is_newer lawful)

  far : (x c : ℕ) → p.shape.n ≤ c → pending_of p begun.begun x c g kind ≡ 0
  far x c high = none_far p begun.begun lawful_then x c g kind high

  abbrev Told : Type 0
  Told = RoundOutcome (is_clean kind s.looked) (is_nothing (good_copies p.shape s.looked kind)) s.looked.views said

  told_so : Told
  told_so =
      let all_here : is_majority p.shape.n (minus (below p.shape.n) s.missing) ≡ true =
      ap (λ (m : List ℕ). is_majority p.shape.n (minus (below p.shape.n) m)) (none_missing p g kind rest lines parts) ∙ ap (is_majority p.shape.n) (whole (below p.shape.n)) ∙ below_most p.shape.n some small in
      outcome (is_majority p.shape.n (minus (below p.shape.n) s.missing)) (is_majority p.shape.n (holders_of s.looked)) (is_clean kind s.looked) (is_nothing (good_copies p.shape s.looked kind)) (is_settled w) s.looked.views (moved_by p.shape g kind w) said
      all_here (enough p begun.begun g kind s.looked some small begun.shown reached spread_then) (rw (not_busy p g kind rest lines parts) at answer.caused)

  unfailed : said ≡ healed.Failed → ⊥
  unfailed e = true≢false (sym (answer.failed e) ∙ not_failed p g kind rest lines parts)

  few : Told → IsOneOfFour said
  few (Clean c e) = inl e
  few (Bad c n e) = inr (inr (inl (s.looked.views, e)))
  few (Settled c n e) = inr (inl e)
  few (Fails c n e) = absurd (unfailed e)
  few (Moved c n x e) = inr (inr (inr (x, e)))

  to_clear : Told → said ≡ healed.Nothing → IsClear p begun.begun g kind
  to_clear (Clean c e) f = clean_clear p begun.begun g kind s.looked some small begun.shown reached spread_then fits_then far c
  to_clear (Bad c n e) f = absurd (cc (e, f))
  to_clear (Settled c n e) f = absurd (cc (e, f))
  to_clear (Fails c n e) f = absurd (cc (e, f))
  to_clear (Moved c n x e) f = absurd (cc (e, f))

  not_clear : is_clean kind s.looked ≡ false → IsClear p begun.begun g kind → ⊥
  not_clear c clear = true≢false (sym (clear_clean p begun.begun g kind s.looked some small begun.shown reached spread_then fits_then far clear) ∙ c)

  from_clear : Told → IsClear p begun.begun g kind → said ≡ healed.Nothing
  from_clear (Clean c e) clear = e
  from_clear (Bad c n e) clear = absurd (not_clear c clear)
  from_clear (Settled c n e) clear = absurd (not_clear c clear)
  from_clear (Fails c n e) clear = absurd (not_clear c clear)
  from_clear (Moved c n x e) clear = absurd (not_clear c clear)

  to_split : Told → IsSplitReply said → IsSplit p begun.begun (below p.shape.n) g kind
  to_split (Bad c n e) f = good_split p begun.begun g kind s.looked some small begun.shown reached spread_then n
  to_split (Clean c e) f = absurd (let k = f.1 in cc)
  to_split (Settled c n e) f = absurd (let k = f.1 in cc)
  to_split (Fails c n e) f = absurd (let k = f.1 in cc)
  to_split (Moved c n x e) f = absurd (let k = f.1 in cc)

  no_good : IsSplit p begun.begun (below p.shape.n) g kind → is_nothing (good_copies p.shape s.looked kind) ≡ true
  no_good v = split_good p begun.begun g kind s.looked some small begun.shown reached spread_then v

  from_split : Told → IsSplit p begun.begun (below p.shape.n) g kind → IsSplitReply said
  from_split (Bad c n e) v = (s.looked.views, e)
  from_split (Clean c e) v = absurd (true≢false (sym (no_good v) ∙ clean_good p begun.begun g kind s.looked some small begun.shown reached spread_then fits_then far c))
  from_split (Settled c n e) v = absurd (true≢false (sym (no_good v) ∙ n))
  from_split (Fails c n e) v = absurd (true≢false (sym (no_good v) ∙ n))
  from_split (Moved c n x e) v = absurd (true≢false (sym (no_good v) ∙ n))

  pub heal_told : IsToldOrMoved p g kind said (works lines rest)
  heal_told = record { begun = begun.begun; is_begun = begun.is; few = few told_so; nothing = (to_clear told_so, from_clear told_so); split = (to_split told_so, from_split told_so) }
