-- No heal of a round that nothing disturbs ends with a source that moved.
use Rattle.std.proofs.Common.{◌≡◌, ℕ, suc, ◌+◌, ◌<◌, ◌≤◌, Bool, true, false, ◌&&◌, refl, sym, ap, ◌∙◌, subst, arith, List, [], ◌∷◌, length, not, true≢false}
use Rattle.std.specs.Prelude.{Option, None, Some, if◌then◌else◌, ◌==◌, filter, is_some, nat_lt, slice_get, slice_index}
use Rattle.std.proofs.lemmas.Bool.{eq-eqb, eqb-true, or_left, or_right}
use Rattle.std.proofs.lemmas.Bool.Decides.{nat_tests}
use Rattle.afr_base.specs.Bricks.{all_five, and_left, and_right, below, is_nothing, member, minus}
use Rattle.afr_base.specs.Keeping.{keeps}
use Rattle.afr_base.specs.Majority.{is_majority}
use Rattle.afr_base.specs.SetLemmas.{member_minus, none_left}
use Rattle.afr_base.specs.declared.ids.ActorId.{ActorId}
use Rattle.afr_base.specs.declared.ids.BrickId.{BrickId}
use Rattle.afr_base.specs.declared.ids.Gfid.{Gfid}
use Rattle.afr_base.specs.declared.ids.Kind.{Kind}
use Rattle.afr_base.specs.declared.ids.Kind.TheVariants.{Bytes}
use Rattle.afr_base.specs.declared.ids.Shape.{Shape}
use Rattle.afr_choice.specs.Looks.{view_at}
use Rattle.afr_choice.specs.Verdict.{accuses_at, copies_of, good_copies, holders_of, is_copy, shown_missed}
use Rattle.afr_choice.specs.VerdictLemmas.{copies_below, member_copies}
use Rattle.afr_choice.specs.declared.looked.Looked.{Looked}
use Rattle.afr_object.specs.declared.entry.View.{View}
use Rattle.afr_lines.specs.Work.{Work, is_end, is_of, work}
use Rattle.afr_lines.specs.declared.line.Line.{Line}
use Rattle.afr_lines.specs.declared.line.Line.TheVariants.{Ask, Begin, End, Event, HealBegin, HealEnd}
use Rattle.afr_lines.specs.declared.reply.HealReply.{HealReply}
use Rattle.afr_lines.specs.declared.reply.HealReply.TheVariants as healed
use Rattle.afr_model.specs.Following.{Follows, KeepsToTask, ToCommand, ToCrawl, ToItem, ToRound}
use Rattle.afr_model.specs.Healing.{First, busy_by, first_by, heal_by, source_of, whole_of}
use Rattle.afr_model.specs.HealReplies.{by_first, by_moved, by_owner, heal_reply, is_clean, is_settled, or_else}
use Rattle.afr_model.specs.Moved.{accuser, is_whole_by, len_in, moved_by, or_brick, pieces, unlike}
use Rattle.afr_model.specs.Replied.{Replied}
use Rattle.afr_model.specs.Rounds.{heal_due}
use Rattle.afr_model.specs.Safe.{log_before}
use Rattle.afr_model.specs.Showing.{among, looked_by, prepared}
use Rattle.afr_law.proofs.Model.Tasks.{heal_ends_no_command}
use Rattle.afr_law.proofs.Model.Works.{work_more}
use Rattle.afr_model_moves.proofs.Tests.{same_self}
use Rattle.afr_model_moves.specs.Register.{Exact}
use Rattle.afr_plan.specs.declared.plan.Plan.{Plan}
use Rattle.afr_law_quiet.specs.Undisturbed.{EachHeal, OfHeal}
use Rattle.afr_law_quiet.proofs.Moves.Along.{Joined, Premises, earlier, force, in_heal_is, may_own, reg}
use Rattle.afr_law_quiet.proofs.Moves.Shows.{Unmoved, UnmovedIn, source_in}
use Rattle.afr_law_quiet.proofs.Moves.Told.{told_now}
use Rattle.afr_law_quiet.specs.Moves.Moves.{IsUnmoved}

-- ---- no brick shows that the source moved
none_passes : (p : ℕ → Bool) (xs : List ℕ) → ((x : ℕ) → member xs x ≡ true → p x ≡ false) → filter p xs ≡ []
none_passes p [] h = refl
none_passes p (x ∷ xs) h = (
    let off : p x ≡ false = h x (or_left (x == x) (member xs x) (same_self x)) in
    let rest : filter p xs ≡ [] = none_passes p xs (λ y e. h y (or_right (x == y) (member xs y) e)) in
    rw off rest
    )

pub not_below : (k : ℕ) → k ≡ 0 → nat_lt 0 k ≡ false
not_below k e = grind (arith, nat_tests)

more_than : (k : ℕ) → nat_lt 1 k ≡ true → 1 < k
more_than k e = grind (arith, nat_tests)

same_length : (m n : ℕ) → m ≡ n → not (m == n) ≡ false
same_length m n e = ap not (eq-eqb m n e)

module _ (shape : Shape) (object : ℕ) (kind : Kind) (due : Option (Gfid × Kind)) (begun : ℕ) (first looked : Looked) (raised : List ℕ) (whole : Bool) (u : Unmoved shape object kind due begun first raised looked whole) (more : 1 < begun)
    (all : is_nothing (minus first.reached looked.reached) ≡ true) where
  nobody : accuser Bytes (source_in shape first raised) looked ≡ None
  nobody = ap (λ (xs : List ℕ). slice_get xs 0) (none_passes (λ x. accuses_at Bytes x (source_in shape first raised) looked) all_five (λ x e. each x (member looked.reached x) refl))
    where
      clear : (x : ℕ) → member looked.reached x ≡ true → (view : Option View) → view_at x looked ≡ view → shown_missed Bytes (source_in shape first raised) view ≡ false
      clear x m None e = refl
      clear x m (Some v) e = not_below (slice_index v.marks.bytes.pending (source_in shape first raised)) ((u.rows more x m).blames v e)

      each : (x : ℕ) (hit : Bool) → member looked.reached x ≡ hit → (hit && shown_missed Bytes (source_in shape first raised) (view_at x looked)) ≡ false
      each x true m = clear x m (view_at x looked) refl
      each x false m = refl

  reached_again : (x : ℕ) → is_copy shape first Bytes x ≡ true → member looked.reached x ≡ true
  reached_again x e = none_left first.reached looked.reached all x (and_left (member first.reached x) (is_some (view_at x first)) (and_left (member first.reached x && is_some (view_at x first)) (keeps shape Bytes x) e))

  all_alike : whole ≡ true → unlike (source_in shape first raised) (minus (copies_of shape first Bytes) (source_in shape first raised ∷ [])) looked ≡ None
  all_alike at_last = ap (λ (xs : List ℕ). slice_get xs 0) (none_passes (λ x. not (len_in (view_at x looked) == len_in (view_at (source_in shape first raised) looked))) (minus (copies_of shape first Bytes) (source_in shape first raised ∷ [])) each)
    where
      each : (x : ℕ) → member (minus (copies_of shape first Bytes) (source_in shape first raised ∷ [])) x ≡ true → not (len_in (view_at x looked) == len_in (view_at (source_in shape first raised) looked)) ≡ false
      each x e = (
          let listed : member (copies_of shape first Bytes) x ≡ true = and_right (not (member (source_in shape first raised ∷ []) x)) (member (copies_of shape first Bytes) x) (sym (member_minus (copies_of shape first Bytes) (source_in shape first raised ∷ []) x) ∙ e) in
          let copy : is_copy shape first Bytes x ≡ true = sym (member_copies shape first Bytes x (copies_below shape first Bytes x listed)) ∙ listed in
          let row = u.rows more x (reached_again x copy) in
          let mine = u.rows more (source_in shape first raised) (reached_again (source_in shape first raised) row.source) in
          same_length (len_in (view_at x looked)) (len_in (view_at (source_in shape first raised) looked)) (row.length at_last copy ∙ sym (mine.length at_last row.source))
          )

  unmoved : or_brick (accuser Bytes (source_in shape first raised) looked) (if whole then unlike (source_in shape first raised) (minus (copies_of shape first Bytes) (source_in shape first raised ∷ [])) looked else None) ≡ None
  unmoved = rw nobody (go whole refl)
    where
      go : (last : Bool) → whole ≡ last → (if last then unlike (source_in shape first raised) (minus (copies_of shape first Bytes) (source_in shape first raised ∷ [])) looked else None) ≡ None
      go true e = all_alike e
      go false e = refl

-- of the heal that is due
pub none_moved : (p : Plan) (w : Work) (object : ℕ) (kind : Kind) (g : Gfid) (k : Kind) → UnmovedIn p w object kind → heal_due p w ≡ Some (g, k) → moved_by p.shape g k (heal_by w) ≡ None
none_moved p w object kind g k u due = go (nat_lt 1 (pieces (heal_by w))) refl
  where
    go : (more : Bool) → nat_lt 1 (pieces (heal_by w)) ≡ more → moved_by p.shape g k (heal_by w) ≡ None
    go false e = rw e refl
    go true e = subst (λ (x : Gfid × Kind). moved_by p.shape x.0 x.1 (heal_by w) ≡ None) same (rw e (looks (is_nothing (minus (first_by (heal_by w)).looked.reached (looked_by (record { 0 = object }) (heal_by w)).reached)) refl))
      where
        more : 1 < pieces (heal_by w)
        more = more_than (pieces (heal_by w)) e

        pair : Option (Gfid × Kind) → Gfid × Kind
        pair None = (g, k)
        pair (Some x) = x

        mine : Gfid × Kind
        mine = (record { 0 = object }, Bytes)

        found : Gfid × Kind
        found = (g, k)

        same : mine ≡ found
        same = (λ i. (record { 0 = object }, sym (u.bytes more) i)) ∙ ap pair (sym (u.is_due (omega (arith, more))) ∙ due)

        looks : (all : Bool) → is_nothing (minus (first_by (heal_by w)).looked.reached (looked_by (record { 0 = object }) (heal_by w)).reached) ≡ all
            → (if not all then None else or_brick (accuser Bytes (source_of p.shape Bytes (heal_by w)) (looked_by (record { 0 = object }) (heal_by w)))
            (if is_whole_by (whole_of (record { 0 = object }) Bytes) (heal_by w) then unlike (source_of p.shape Bytes (heal_by w)) (minus (copies_of p.shape (first_by (heal_by w)).looked Bytes) (source_of p.shape Bytes (heal_by w) ∷ [])) (looked_by (record { 0 = object }) (heal_by w)) else None)) ≡ None
        looks false f = refl
        looks true f = unmoved p.shape object kind (heal_due p w) (pieces (heal_by w)) (first_by (heal_by w)).looked (looked_by (record { 0 = object }) (heal_by w)) (among prepared (heal_by w)) (is_whole_by (whole_of (record { 0 = object }) Bytes) (heal_by w)) u more f

-- ---- the reply
never_first : (shape : Shape) (kind : Kind) (s : First) (x : BrickId) → by_first shape kind s ≡ Some (healed.Moved x) → ⊥
never_first shape kind s x e = go (not (is_majority shape.n (minus (below shape.n) s.missing))) (not (is_majority shape.n (holders_of s.looked))) (is_clean kind s.looked) (is_nothing (good_copies shape s.looked kind)) s.looked.views e
  where
    go : (a b c d : Bool) (views : List (Option View)) → (if a then Some healed.Short else (if b then Some healed.Short else (if c then Some healed.Nothing else (if d then Some (healed.Split views) else None)))) ≡ Some (healed.Moved x) → ⊥
    go true b c d views f = cc f
    go false true c d views f = cc f
    go false false true d views f = cc f
    go false false false true views f = cc f
    go false false false false views f = cc f

never_moved : (busy : Option ActorId) (first : Option HealReply) (settled : Bool) (x : BrickId) → (first ≡ Some (healed.Moved x) → ⊥) → or_else (by_owner busy) (or_else first (Some (if settled then healed.Settled else healed.Failed))) ≡ Some (healed.Moved x) → ⊥
never_moved (Some owner) first settled x h e = cc e
never_moved None (Some reply) settled x h e = h e
never_moved None None true x h e = cc e
never_moved None None false x h e = cc e

pub reply_unmoved : (shape : Shape) (g : Gfid) (kind : Kind) (w : Work) (x : BrickId) → moved_by shape g kind w ≡ None → heal_reply shape g kind w ≡ Some (healed.Moved x) → ⊥
reply_unmoved shape g kind w x none e = never_moved (busy_by w) (by_first shape kind (first_by w)) (is_settled w) x (never_first shape kind (first_by w) x)
    (subst (λ (m : Option ℕ). or_else (by_owner (busy_by w)) (or_else (by_first shape kind (first_by w)) (Some (if is_settled w then healed.Settled else by_moved m))) ≡ Some (healed.Moved x)) none e)

-- ---- the lines of a work that stand together
counted : (a : ℕ) (log : List Line) → length (log_before (work a log) log) + length (work a log) ≤ length log
counted a [] = omega arith
counted a (line ∷ older) = go (is_of a line) (is_end line) (counted a older)
  where
    skipped : (w : Work) → length (log_before w older) + length w ≤ length older → length (log_before w (line ∷ older)) + length w ≤ suc (length older)
    skipped [] h = omega arith
    skipped (x ∷ w) h = omega (arith, h)

    go : (mine last : Bool) → length (log_before (work a older) older) + length (work a older) ≤ length older
        → length (log_before (if mine then (if last then [] else (line, older) ∷ work a older) else work a older) (line ∷ older)) + length (if mine then (if last then [] else (line, older) ∷ work a older) else work a older) ≤ suc (length older)
    go true true h = omega arith
    go true false h = omega (arith, h)
    go false last h = skipped (work a older) h

pub joined_of : (a : ℕ) (log : List Line) → length (log_before (work a log) log) + length (work a log) ≡ length log → Joined a log
joined_of a [] e = tt
joined_of a (line ∷ older) e = (
  λ mine goes. joined_of a older (let f : length (log_before ((line, older) ∷ work a older) (line ∷ older)) + length ((line, older) ∷ work a older) ≡ suc (length older) = subst (λ (w : Work). length (log_before w (line ∷ older)) + length w ≡ suc (length older)) (work_more a line older mine goes) e in omega (arith, f)),
  λ other. none (work a older) (counted a older) (subst (λ (w : Work). length (log_before w (line ∷ older)) + length w ≡ suc (length older)) (skips other) e),
)
  where
    skips : is_of a line ≡ false → work a (line ∷ older) ≡ work a older
    skips other = rw other refl

    none : (w : Work) → length (log_before w older) + length w ≤ length older → length (log_before w (line ∷ older)) + length w ≡ suc (length older) → w ≡ []
    none [] h f = refl
    none (x ∷ w) h f = absurd (omega (arith, h, f))

-- ---- each heal of the round
module _ (p : Plan) (a : ℕ) (healer : 17 ≤ a) where
  heal_end : (older : List Line) (g : Gfid) (kind : Kind) (said : HealReply) → Premises p (HealEnd (record { 0 = a }) g kind said ∷ older) → Joined a older → Follows false p (HealEnd (record { 0 = a }) g kind said ∷ older) → Replied p (HealEnd (record { 0 = a }) g kind said ∷ older)
      → IsUnmoved g kind said older
  heal_end older g kind said premises joined follows replied x moved = reply_unmoved p.shape g kind (heal_by (work a older)) x (none_moved p (work a older) (reg p a older).law.object (reg p a older).law.kind g kind told due) (caused ∙ ap Some moved)
    where
      line : Line
      line = HealEnd (record { 0 = a }) g kind said

      caused : heal_reply p.shape g kind (heal_by (work a older)) ≡ Some said
      caused = (replied.0.round healer).caused

      due : heal_due p (work a older) ≡ Some (g, kind)
      due = go follows.0.1.0.keeps
        where
          go : KeepsToTask false p a (HealEnd (record { 0 = a }) g kind said) older → heal_due p (work a older) ≡ Some (g, kind)
          go (ToCommand c e k) = absurd (heal_ends_no_command p c (record { 0 = a }) g kind said (length older) (work a older) k)
          go (ToRound plain h q e k) = k
          go (ToCrawl crawls who b e k) = absurd (true≢false (sym crawls))
          go (ToItem crawls h item given k) = absurd (true≢false (sym crawls))

      inside : (force p a line older).law.heal ≡ true
      inside = (may_own p a line older premises (same_self a)).inside

      told : UnmovedIn p (work a older) (reg p a older).law.object (reg p a older).law.kind
      told = told_now p a older (earlier p line older premises) joined follows.1 (ap (λ (r : Exact). r.law.heal) (sym (in_heal_is p a _ (reg p a older) inside)) ∙ inside)

  of_heal : (line : Line) (older : List Line) → is_of a line ≡ true → Premises p (line ∷ older) → Joined a older → Follows false p (line ∷ older) → Replied p (line ∷ older) → OfHeal IsUnmoved line older
  of_heal (HealEnd x g kind said) older mine premises joined follows replied = heal_end older g kind said (subst (λ (l : Line). Premises p (l ∷ older)) is premises) joined (subst (λ (l : Line). Follows false p (l ∷ older)) is follows) (subst (λ (l : Line). Replied p (l ∷ older)) is replied)
    where
      is : HealEnd x g kind said ≡ HealEnd (record { 0 = a }) g kind said
      is = ap (λ (y : ℕ). HealEnd (record { 0 = y }) g kind said) (eqb-true x.0 a mine)
  of_heal (Ask x y request told took) older mine premises joined follows replied = tt
  of_heal (Begin x change) older mine premises joined follows replied = tt
  of_heal (HealBegin x g kind) older mine premises joined follows replied = tt
  of_heal (End x said) older mine premises joined follows replied = tt
  of_heal (Event e) older mine premises joined follows replied = tt

  pub each_heal : (log : List Line) → Premises p log → Joined a log → Follows false p log → Replied p log → EachHeal IsUnmoved (work a log)
  each_heal [] premises joined follows replied = tt
  each_heal (line ∷ older) premises joined follows replied = go (is_of a line) refl (λ more. each_heal older (earlier p line older premises) more follows.1 replied.1)
    where
      own : is_of a line ≡ true → (Joined a older → EachHeal IsUnmoved (work a older)) → (last : Bool) → is_end line ≡ last → EachHeal IsUnmoved (if last then [] else (line, older) ∷ work a older)
      own mine rest true e = tt
      own mine rest false e = (of_heal line older mine premises (joined.0 mine e) follows replied, rest (joined.0 mine e))

      go : (mine : Bool) → is_of a line ≡ mine → (Joined a older → EachHeal IsUnmoved (work a older)) → EachHeal IsUnmoved (if mine then (if is_end line then [] else (line, older) ∷ work a older) else work a older)
      go true e rest = own e rest (is_end line) refl
      go false e rest = subst (EachHeal IsUnmoved) (sym (joined.1 e)) tt
