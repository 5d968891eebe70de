-- What a tally says of the lines since the number, and since the start of the heal.
use Rattle.std.proofs.Common.{◌≡◌, ℕ, suc, ◌<◌, ◌≤◌, Bool, true, false, ◌&&◌, not, ◌⊎◌, inl, inr, refl, sym, ap, ◌∙◌, subst, arith, true≢false}
use Rattle.std.specs.Prelude.{Option, None, Some, ◌==◌, if◌then◌else◌, List as Seq}
use Rattle.afr_base.specs.declared.ids.Kind.{Kind}
use Rattle.afr_lines.specs.declared.fault.Fault.{Fault}
use Rattle.afr_object.specs.declared.entry.View.{View}
use Rattle.afr_object.specs.declared.change.Repair.{Repair}
use Rattle.afr_lines.specs.declared.request.Area.{Area}
use Rattle.afr_lines.specs.declared.request.Request.{Request}
use Rattle.afr_lines.specs.declared.request.Request.TheVariants.{Pre, Post, Mend}
use Rattle.afr_lines.specs.declared.answer.Told.{Told}
use Rattle.afr_model_moves.specs.Sets.{with, without}
use Rattle.afr_model_moves.specs.Cells.{Cell}
use Rattle.afr_model_moves.specs.Past.{Beginning, Log, is_of, is_gone, last, mends}
use Rattle.afr_model_moves.specs.Honest.{Honest}
use Rattle.afr_model_moves.specs.Tally.{Tally, blank, note_tally, in_tally, tally}
use Rattle.afr_model_moves.specs.Rules.{Register, fresh, begun, is_area, locking, note_ask, dropping, note, piece, in_force, register, MayAsk, MayMend, Lawful, opened, present, looked, viewed, busy, second_of, second_freed}
use Rattle.afr_model_moves.specs.Lines.{ask_by, pre_on, post_on}
use Rattle.afr_law.proofs.Safety.Acts.{last_rises}
use Rattle.afr_law.proofs.Safety.Standing.{Noted, noted, Grants, Waits, Frees, Tries, HealGrants, HealWaits, HealFrees, HealTries, Looks, Pres, Applies, Posts, Mends, Settles, Same}
use Rattle.afr_law.proofs.Safety.Registers.{Own, Asks, Begins, HealBegins, Ends, HealEnds, registers_at, MayOf}
use Rattle.afr_law.proofs.Alike.Since.{follows_asked, follows_dropped}
use Rattle.std.proofs.lemmas.Bool.{cases_lt}
use Rattle.afr_model_moves.proofs.Tests.{with_more, with_self, same_self}

-- the tally in force at the line
abbrev pub present_tally : Log → ℕ → ℕ → Tally
present_tally log t a = in_tally (opened log t a) (tally log t a)

-- a request changes the number only to 0, by beginning a transaction or a piece
number_asked : (n : ℕ) (r : Register) (b : ℕ) (request : Request) (told : Told) → ((note_ask n r b request told).number ≡ r.number) ⊎ ((note_ask n r b request told).number ≡ 0)
number_asked n r b request told = go (note_ask n r b request told) (noted n r b request told)
  where
    put : (l k : Register) → l ≡ k → (k.number ≡ r.number) ⊎ (k.number ≡ 0) → (l.number ≡ r.number) ⊎ (l.number ≡ 0)
    put l k e f = subst (λ (q : Register). (q.number ≡ r.number) ⊎ (q.number ≡ 0)) (sym e) f

    locked : (some : Bool) (area : Area) → ((if some then record r { second = second_of r area } else begun r area).number ≡ r.number) ⊎ ((if some then record r { second = second_of r area } else begun r area).number ≡ 0)
    locked true area = inl refl
    locked false area = inr refl

    go : (l : Register) → Noted n r b request told l → (l.number ≡ r.number) ⊎ (l.number ≡ 0)
    go l (Grants area what said e) = put l _ e (pick (busy n r && not (is_area r.area area)))
      where
        pick : (other : Bool) → ((if other then record r { second = Some area; second_held = with r.second_held b } else (let k = locking n r area in record k { held = with k.held b })).number ≡ r.number) ⊎ ((if other then record r { second = Some area; second_held = with r.second_held b } else (let k = locking n r area in record k { held = with k.held b })).number ≡ 0)
        pick true = inl refl
        pick false = locked (busy n r) area
    go l (Waits area what e) = put l _ e (locked (busy n r) area)
    go l (Frees area what said e) = put l _ e (inl (pick (is_area r.area area)))
      where
        pick : (hit : Bool) → (if hit then record r { closed = with r.closed b; held = without r.held b } else record r { second_held = second_freed r area b }).number ≡ r.number
        pick true = refl
        pick false = refl
    go l (Tries area what other e) = put l _ e (inl (pick (is_area r.area area)))
      where
        pick : (hit : Bool) → (if hit then record r { closed = with r.closed b } else r).number ≡ r.number
        pick true = refl
        pick false = refl
    go l (HealGrants area what said e) = put l _ e (inl refl)
    go l (HealWaits area what e) = put l _ e (inl refl)
    go l (HealFrees area what said e) = put l _ e (inl refl)
    go l (HealTries area what other e) = put l _ e (inl refl)
    go l (Looks g view what said e) = put l _ e (inl (look r.heal))
      where
        see : (sure : Bool) (view first : ℕ → Option View) → (if sure then record r { view = view; first = first } else r).number ≡ r.number
        see true v f = refl
        see false v f = refl

        add : (hit : Bool) → (if hit then record r { seen = with r.seen b } else r).number ≡ r.number
        add true = refl
        add false = refl

        look : (heal : Bool) → (if heal then viewed r b g view else looked r b).number ≡ r.number
        look true = see (not (r.number == 0) && r.seen b && not (r.closed b) && (g == r.object) && r.healing b && not (r.settled b)) _ _
        look false = add ((r.number == 0) && r.held b)
    go l (Pres g kind what said e) = put l _ e (inl refl)
    go l (Applies q what said e) = put l _ e (inl refl)
    go l (Posts q g kind missed what said e) = put l _ e (inl refl)
    go l (Mends repair what said e) = put l _ e (inl refl)
    go l (Settles g kind less what said e) = put l _ e (inl refl)
    go l (Same keeps plain e) = put l _ e (inl refl)

number_dropped : (gone : Bool) (b : ℕ) (r : Register) → (dropping gone b r).number ≡ r.number
number_dropped true b r = refl
number_dropped false b r = refl

-- requests keep what a tally has
keeps_posts : (m : ℕ) (k : Tally) (x b : ℕ) (request : Request) (told : Told) (took : Bool) (c : ℕ) → k.posts c ≡ true → (note_tally m k (Some (ask_by x b request told took))).posts c ≡ true
keeps_posts m k x b (Post q g kind missed) told took c e = with_more k.posts b c e
keeps_posts m k x b _ told took c e = e

keeps_raises : (m : ℕ) (k : Tally) (x b : ℕ) (request : Request) (told : Told) (took : Bool) (c : ℕ) → k.raises c ≡ true → (note_tally m k (Some (ask_by x b request told took))).raises c ≡ true
keeps_raises m k x b (Pre g kind) told took c e = with_more k.raises b c e
keeps_raises m k x b _ told took c e = e

keeps_mending : (m : ℕ) (k : Tally) (x b : ℕ) (request : Request) (told : Told) (took : Bool) → k.mending ≡ true → (note_tally m k (Some (ask_by x b request told took))).mending ≡ true
keeps_mending m k x b (Mend repair) told took e = refl
keeps_mending m k x b _ told took e = e

keeps_given : (m : ℕ) (k : Tally) (x b : ℕ) (request : Request) (told : Told) (took : Bool) (cell : Cell) (low : ℕ) → low ≤ m → low ≤ k.given cell → low ≤ (note_tally m k (Some (ask_by x b request told took))).given cell
keeps_given m k x b (Mend repair) told took cell low under e = pick (mends repair cell)
  where
    pick : (hit : Bool) → low ≤ (if hit then m else k.given cell)
    pick true = under
    pick false = e
keeps_given m k x b _ told took cell low under e = e

-- the repair of a piece stays, where each further one is the same
keeps_repair : (m : ℕ) (k : Tally) (x b : ℕ) (request : Request) (told : Told) (took : Bool) (repair : Repair) → ((other : Repair) → request ≡ Mend other → (k.repair ≡ None) ⊎ (k.repair ≡ Some other)) → k.repair ≡ Some repair → (note_tally m k (Some (ask_by x b request told took))).repair ≡ Some repair
keeps_repair m k x b (Mend other) told took repair one e = elim (one other refl) [ inl none ↦ absurd (cc (none, e)) | inr same ↦ sym same ∙ e ]
keeps_repair m k x b _ told took repair one e = e

module _ (n : ℕ) (keeps : ℕ → Kind → Bool) (files : Beginning) (faults : ℕ → ℕ → Option Fault) (log : Log) (honest : Honest files faults log) (lawful : Lawful n keeps log) where
  -- what the lines since the number, and since the start, have put into the tally
  pub record Tallied (t a : ℕ) (r : Register) (k : Tally) : Type 0 where
    pub posts : (p b q g : ℕ) (kind : Kind) (missed : Seq ℕ) (told : Told) (took : Bool) → log p ≡ Some (ask_by a b (post_on q g kind missed) told took) → p < t → (r.number ≡ 0 → ⊥) → r.number ≤ p → k.posts b ≡ true
    pub raises : (p b g : ℕ) (kind : Kind) (told : Told) (took : Bool) → log p ≡ Some (ask_by a b (pre_on g kind) told took) → p < t → (r.start ≡ 0 → ⊥) → r.start ≤ p → k.raises b ≡ true
    pub mends : (u b : ℕ) (repair : Repair) (told : Told) (took : Bool) → log u ≡ Some (ask_by a b (Mend repair) told took) → u < t → (r.start ≡ 0 → ⊥) → r.start ≤ u
        → (k.mending ≡ true) × ((cell : Cell) → Rattle.afr_model_moves.specs.Past.mends repair cell ≡ true → last log u a ≤ k.given cell)
    pub repair : (u b : ℕ) (repair : Repair) (told : Told) (took : Bool) → log u ≡ Some (ask_by a b (Mend repair) told took) → u < t → (r.number ≡ 0 → ⊥) → r.number ≤ u → k.repair ≡ Some repair

  -- nothing to say of a register with neither number nor start
  tallied_idle : (t a : ℕ) (r : Register) (k : Tally) → r.number ≡ 0 → r.start ≡ 0 → Tallied t a r k
  tallied_idle t a r k none idle = record {
    posts = λ p b q g kind missed told took is past some low. absurd (some none);
    raises = λ p b g kind told took is past some low. absurd (some idle);
    mends = λ u b repair told took is past some low. absurd (some idle);
    repair = λ u b repair told took is past some low. absurd (some none);
  }

  tallied_asked : (t a b : ℕ) (request : Request) (told : Told) (took : Bool) (r s : Register) (k : Tally) → log t ≡ Some (ask_by a b request told took)
      → ((other : Repair) → request ≡ Mend other → (k.repair ≡ None) ⊎ (k.repair ≡ Some other)) → (s.number ≡ r.number) ⊎ (s.number ≡ 0) → s.start ≡ r.start → Tallied t a r k → Tallied (suc t) a s (note_tally (last log t a) k (log t))
  tallied_asked t a b request told took r s k is one number start w = record {
    posts = λ p c q g kind missed said carried line past some low. elim (cases_lt p t) [
      | inl early ↦ rw is (keeps_posts (last log t a) k a b request told took c (w.posts p c q g kind missed said carried line early (old some) (omega (arith, low, same some))))
      | inr last_one ↦ (let here : p ≡ t = omega (arith, past, last_one) in let now : log t ≡ Some (ask_by a c (post_on q g kind missed) said carried) = subst (λ j. log j ≡ Some (ask_by a c (post_on q g kind missed) said carried)) here line in rw now (with_self k.posts c))
    ];
    raises = λ p c g kind said carried line past some low. elim (cases_lt p t) [
      | inl early ↦ rw is (keeps_raises (last log t a) k a b request told took c (w.raises p c g kind said carried line early (began some) (omega (arith, low, start))))
      | inr last_one ↦ (let here : p ≡ t = omega (arith, past, last_one) in let now : log t ≡ Some (ask_by a c (pre_on g kind) said carried) = subst (λ j. log j ≡ Some (ask_by a c (pre_on g kind) said carried)) here line in rw now (with_self k.raises c))
    ];
    mends = λ u c repair said carried line past some low. elim (cases_lt u t) [
      | inl early ↦ (
          let v = w.mends u c repair said carried line early (began some) (omega (arith, low, start)) in
          (rw is (keeps_mending (last log t a) k a b request told took v.0), λ cell hit. rw is (keeps_given (last log t a) k a b request told took cell (last log u a) (last_rises log a u t (omega (arith, early))) (v.1 cell hit)))
          )
      | inr last_one ↦ (
          let here : u ≡ t = omega (arith, past, last_one) in
          let now : log t ≡ Some (ask_by a c (Mend repair) said carried) = subst (λ j. log j ≡ Some (ask_by a c (Mend repair) said carried)) here line in
          (rw now refl, λ cell hit. rw (now, hit, here) (omega arith))
          )
    ];
    repair = λ u c repair said carried line past some low. elim (cases_lt u t) [
      | inl early ↦ rw is (keeps_repair (last log t a) k a b request told took repair one (w.repair u c repair said carried line early (old some) (omega (arith, low, same some))))
      | inr last_one ↦ (let here : u ≡ t = omega (arith, past, last_one) in let now : log t ≡ Some (ask_by a c (Mend repair) said carried) = subst (λ j. log j ≡ Some (ask_by a c (Mend repair) said carried)) here line in rw now refl)
    ];
  }
    where
      same : (s.number ≡ 0 → ⊥) → s.number ≡ r.number
      same some = elim number [ inl e ↦ e | inr none ↦ absurd (some none) ]

      old : (s.number ≡ 0 → ⊥) → r.number ≡ 0 → ⊥
      old some none = some (same some ∙ none)

      began : (s.start ≡ 0 → ⊥) → r.start ≡ 0 → ⊥
      began some none = some (start ∙ none)

  -- a line that is no request: what was said stays, but for what a new number ends
  tallied_still : (t a : ℕ) (r s : Register) (k l : Tally) → ((b : ℕ) (request : Request) (told : Told) (took : Bool) → log t ≡ Some (ask_by a b request told took) → ⊥)
      → ((s.number ≡ r.number) × (l.posts ≡ k.posts) × (l.repair ≡ k.repair)) ⊎ (s.number ≡ suc t) → (s.start ≡ r.start) ⊎ (s.start ≡ suc t) → l.raises ≡ k.raises → l.mending ≡ k.mending → l.given ≡ k.given → Tallied t a r k → Tallied (suc t) a s l
  tallied_still t a r s k l other number start raises mending given w = record {
    posts = λ p b q g kind missed told took is past some low. elim number [
      | inl old ↦ ap (λ (f : ℕ → Bool). f b) old.1 ∙ w.posts p b q g kind missed told took is (early p b (post_on q g kind missed) told took is past) (λ none. some (old.0 ∙ none)) (omega (arith, low, old.0))
      | inr new ↦ absurd (omega (arith, new, low, past))
    ];
    raises = λ p b g kind told took is past some low. elim start [
      | inl old ↦ ap (λ (f : ℕ → Bool). f b) raises ∙ w.raises p b g kind told took is (early p b (pre_on g kind) told took is past) (λ none. some (old ∙ none)) (omega (arith, low, old))
      | inr new ↦ absurd (omega (arith, new, low, past))
    ];
    mends = λ u b repair told took is past some low. elim start [
      | inl old ↦ (
          let v = w.mends u b repair told took is (early u b (Mend repair) told took is past) (λ none. some (old ∙ none)) (omega (arith, low, old)) in
          (mending ∙ v.0, λ cell hit. subst (λ (f : Cell → ℕ). last log u a ≤ f cell) (sym given) (v.1 cell hit))
          )
      | inr new ↦ absurd (omega (arith, new, low, past))
    ];
    repair = λ u b repair told took is past some low. elim number [
      | inl old ↦ old.2 ∙ w.repair u b repair told took is (early u b (Mend repair) told took is past) (λ none. some (old.0 ∙ none)) (omega (arith, low, old.0))
      | inr new ↦ absurd (omega (arith, new, low, past))
    ];
  }
    where
      early : (p b : ℕ) (request : Request) (told : Told) (took : Bool) → log p ≡ Some (ask_by a b request told took) → p < suc t → p < t
      early p b request told took is past =
          elim (cases_lt p t) [
            | inl less ↦ less
            | inr last_one ↦ absurd (let here : p ≡ t = omega (arith, past, last_one) in other b request told took (subst (λ j. log j ≡ Some (ask_by a b request told took)) here is))
          ]

  tally_foreign : (t a : ℕ) → is_of a (log t) ≡ false → tally log (suc t) a ≡ tally log t a
  unfolding tally
  tally_foreign t a e = rw e refl

  tally_own : (t a : ℕ) → is_of a (log t) ≡ true → tally log (suc t) a ≡ note_tally (last log t a) (present_tally log t a) (log t)
  unfolding tally
  tally_own t a e = rw e refl

  tallied_force : (t a : ℕ) → Tallied t a (register n log t a) (tally log t a) → Tallied t a (present n log t a) (present_tally log t a)
  tallied_force t a w = go (opened log t a)
    where
      go : (first : Bool) → Tallied t a (in_force first (register n log t a)) (in_tally first (tally log t a))
      go true = tallied_idle t a fresh blank refl refl
      go false = w

  own_is : (t a : ℕ) → Own log t a → is_of a (log t) ≡ true
  own_is t a (Asks b request told took is) = rw is (same_self a)
  own_is t a (Begins change is) = rw is (same_self a)
  own_is t a (HealBegins g kind is) = rw is (same_self a)
  own_is t a (Ends reply is) = rw is (same_self a)
  own_is t a (HealEnds g kind reply is) = rw is (same_self a)

  -- the tally in force at the line of a numbered register is that before it
  tally_now : (t a : ℕ) → ((present n log t a).number ≡ 0 → ⊥) → present_tally log t a ≡ tally log t a
  tally_now t a some = go (opened log t a) some
    where
      go : (first : Bool) → ((in_force first (register n log t a)).number ≡ 0 → ⊥) → in_tally first (tally log t a) ≡ tally log t a
      go true k = absurd (k refl)
      go false k = refl

  tallied_own : (t a : ℕ) → Own log t a → Tallied t a (present n log t a) (present_tally log t a) → MayOf n keeps files faults log honest lawful t a (opened log t a) (present n log t a) (log t)
      → Tallied (suc t) a (note n (present n log t a) t (log t)) (note_tally (last log t a) (present_tally log t a) (log t))
  tallied_own t a (Asks b request told took is) w may =
      let r = present n log t a in
      let s = dropping (is_gone told) b (note_ask n r b request told) in
      let ask : MayAsk n keeps log t a (opened log t a) r b request = (subst (MayOf n keeps files faults log honest lawful t a (opened log t a) r) is may).1 in
      let number : (s.number ≡ r.number) ⊎ (s.number ≡ 0) = subst (λ m. (m ≡ r.number) ⊎ (m ≡ 0)) (sym (number_dropped (is_gone told) b (note_ask n r b request told))) (number_asked n r b request told) in
      let follows = follows_dropped (is_gone told) b r (note_ask n r b request told) (follows_asked n r b request told) in
      subst (λ l. Tallied (suc t) a (note n r t l) (note_tally (last log t a) (present_tally log t a) (log t))) (sym is)
      (tallied_asked t a b request told took r s (present_tally log t a) is (λ other e. (
      let k : MayMend n keeps log t a r b other = subst (MayAsk n keeps log t a (opened log t a) r b) e ask in
      subst (λ (j : Tally). (j.repair ≡ None) ⊎ (j.repair ≡ Some other)) (sym (tally_now t a k.begun_already)) k.one
      )) number follows.start w)
  tallied_own t a (Begins change is) w may =
      subst (λ l. Tallied (suc t) a (note n (present n log t a) t l) (note_tally (last log t a) (present_tally log t a) l)) (sym is)
      (tallied_still t a (present n log t a) (record (present n log t a) { number = suc t }) (present_tally log t a) (record (present_tally log t a) { posts = λ x. false }) (λ b request told took e. cc (is, e)) (inr refl) (inl refl) refl refl refl w)
  tallied_own t a (HealBegins g kind is) w may =
      subst (λ l. Tallied (suc t) a (note n (present n log t a) t l) (note_tally (last log t a) (present_tally log t a) l)) (sym is)
      (tallied_still t a (present n log t a) (piece (present n log t a) t kind) (present_tally log t a) (record (present_tally log t a) { repair = None }) (λ b request told took e. cc (is, e)) (inr refl) (starts ((present n log t a).start == 0)) refl refl refl w)
    where
      starts : (none : Bool) → ((if none then suc t else (present n log t a).start) ≡ (present n log t a).start) ⊎ ((if none then suc t else (present n log t a).start) ≡ suc t)
      starts true = inr refl
      starts false = inl refl
  tallied_own t a (Ends reply is) w may =
      subst (λ l. Tallied (suc t) a (note n (present n log t a) t l) (note_tally (last log t a) (present_tally log t a) l)) (sym is)
      (tallied_still t a (present n log t a) (present n log t a) (present_tally log t a) (present_tally log t a) (λ b request told took e. cc (is, e)) (inl (refl, refl, refl)) (inl refl) refl refl refl w)
  tallied_own t a (HealEnds g kind reply is) w may =
      subst (λ l. Tallied (suc t) a (note n (present n log t a) t l) (note_tally (last log t a) (present_tally log t a) l)) (sym is) (tallied_idle (suc t) a fresh blank refl refl)

  tallied_foreign : (t a : ℕ) (r : Register) (k : Tally) → is_of a (log t) ≡ false → Tallied t a r k → Tallied (suc t) a r k
  tallied_foreign t a r k e w = tallied_still t a r r k k (λ b request told took is. true≢false (sym (own_is t a (Asks b request told took is)) ∙ e)) (inl (refl, refl, refl)) (inl refl) refl refl refl w

  tallied : (t a : ℕ) → Tallied t a (register n log t a) (tally log t a)
  tallied =
      registers_at n keeps files faults log honest lawful (λ t a r. Tallied t a r (tally log t a)) (λ a. tallied_idle 0 a fresh (tally log 0 a) refl refl)
      (λ t a other w. subst (Tallied (suc t) a (register n log t a)) (sym (tally_foreign t a other)) (tallied_foreign t a (register n log t a) (tally log t a) other w))
      (λ t a mine w may. subst (Tallied (suc t) a (note n (present n log t a) t (log t))) (sym (tally_own t a (own_is t a mine))) (tallied_own t a mine (tallied_force t a w) may))

  pub present_tallied : (t a : ℕ) → ((present n log t a).number ≡ 0 → ⊥) → Tallied t a (present n log t a) (tally log t a)
  present_tallied t a some = subst (Tallied t a (present n log t a)) (tally_now t a some) (tallied_force t a (tallied t a))
