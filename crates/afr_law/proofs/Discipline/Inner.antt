-- The bricks that a heal looks at are locked, and its area is open.
use Rattle.afr_base.specs.declared.ids.Kind.{Kind}
use Rattle.afr_base.specs.declared.ids.Kind.TheVariants.{Attrs, Bytes, Names}
use Rattle.afr_law.proofs.Discipline.Asks.{IsQuiet, Less, quiet_after}
use Rattle.afr_model_moves.specs.Note.{answers, breaks, left_in_heal, next_part, put}
use Rattle.afr_model_moves.specs.Register.{Exact, Finish, HealLocks, HealPart, HealPres, HealUnlocks, Looks, Mends, Opening, Piece, Reads, Settles, Step, Unlocks, WorkLocks, all, asked_in, is_finish, is_opening, over, rank, same_step, whole_area}
use Rattle.afr_model_moves.specs.Steps.{after_unlocks, is_lowest, is_next, locks_at, looks_at, may_heal, may_heal_work, other, set_of, turn}
use Rattle.afr_model_moves.specs.Honest.{asked, asks}
use Rattle.afr_model_moves.specs.Lines.{look_at}
use Rattle.afr_model_moves.specs.Past.{held, holds, is_gone}
use Rattle.afr_model_moves.specs.Sets.{any, empty, with, without}
use Rattle.afr_law.proofs.Discipline.Stages.{mend_far, onward_far, settles_far}
use Rattle.afr_lines.specs.declared.answer.Told.{Told}
use Rattle.afr_lines.specs.declared.answer.Told.TheVariants.{Done, Failed, Granted, NotConnected}
use Rattle.afr_lines.specs.declared.request.Area.{Area}
use Rattle.afr_lines.specs.declared.request.Request.{Request}
use Rattle.afr_lines.specs.declared.request.Request.TheVariants.{Apply, Index, List, Lock, Look, Mend, Post, Pre, ReadAttr, ReadAttrs, ReadBytes, ReadName, Settle, Unlock}
use Rattle.afr_lines.specs.Overlap.{same_area}
use Rattle.afr_lines.specs.declared.lock.Domain.TheVariants.{Heal, Work}
use Rattle.std.proofs.Common.{Bool, ap, arith, false, inl, inr, not, refl, suc, sym, true, true≢false, zero, ℕ, ◌&&◌, ◌<◌, ◌||◌, ◌∙◌, ◌≡◌, ◌≤◌, ◌⊎◌}
use Rattle.std.proofs.lemmas.Bool.Decides.{nat_tests}
use Rattle.std.specs.Prelude.{Some, if◌then◌else◌, ◌==◌}
use Rattle.afr_model_moves.specs.Rules as weak
use Rattle.afr_model_moves.specs.Rules.{Register, busy, is_area}
use Rattle.std.proofs.lemmas.Bool.{or_parts, eqb-true, leb-true, not-true}
use Rattle.afr_base.specs.Bricks.{and_left, and_right}
use Rattle.afr_model_moves.proofs.Tests.{work_locks}

-- from the looks to the settling of a heal: it has a number, the area is open, and the bricks of the first looks are locked
pub record Inner (n : ℕ) (step : Step) (heal_part : HealPart) (asked first_reached : ℕ → Bool) (number : ℕ) (held seen closed : ℕ → Bool) : Type 0 where
  pub numbers : 7 ≤ rank step → number ≡ 0 → ⊥
  pub open_still : 7 ≤ rank step → rank step ≤ 11 → (x : ℕ) → closed x ≡ false
  pub within : 7 ≤ rank step → rank step ≤ 11 → (x : ℕ) → held x ≡ true → seen x ≡ true
  pub under : 7 ≤ rank step → rank step ≤ 11 → (x : ℕ) → x < n → first_reached x ≡ true → seen x ≡ true
  pub waits : step ≡ WorkLocks → (heal_part ≡ Opening → ⊥) → (x : ℕ) → x < n → asked x ≡ true → held x ≡ true

-- a step from the looks to the settling
pub inner_on : (n : ℕ) (step next : Step) (heal_part now : HealPart) (asked asks first_reached reached : ℕ → Bool) (w s : Register) → 7 ≤ rank step → rank step ≤ 11 → 7 ≤ rank next → Less w s
    → ((x : ℕ) → x < n → reached x ≡ true → (first_reached x ≡ true) ⊎ (w.held x ≡ true))
    → Inner n step heal_part asked first_reached w.number w.held w.seen w.closed → Inner n next now asks reached s.number s.held s.seen s.closed
inner_on n step next heal_part now asked asks first_reached reached w s far low next_far l new i = record {
  numbers = λ k z. i.numbers far (sym l.number ∙ z);
  open_still = λ k m x. ap (λ (f : ℕ → Bool). f x) l.closed ∙ i.open_still far low x;
  within = λ k m x h. ap (λ (f : ℕ → Bool). f x) l.seen ∙ i.within far low x (l.held x h);
  under = λ k m x below h. ap (λ (f : ℕ → Bool). f x) l.seen ∙ elim (new x below h) [ inl old ↦ i.under far low x below old | inr mine ↦ i.within far low x mine ];
  waits = λ e. absurd (six next next_far (ap rank e));
}
  where
    six : (step : Step) → 7 ≤ rank step → rank step ≡ 6 → ⊥
    six step k e = omega (arith, k, e)

-- the unlocks after it
pub inner_done : (n : ℕ) (step next : Step) (heal_part now : HealPart) (asked asks first_reached reached : ℕ → Bool) (number count : ℕ) (held seen closed holds sees closes : ℕ → Bool) → 7 ≤ rank step → 12 ≤ rank next → count ≡ number
    → Inner n step heal_part asked first_reached number held seen closed → Inner n next now asks reached count holds sees closes
inner_done n step next heal_part now asked asks first_reached reached number count held seen closed holds sees closes far late same i = record {
  numbers = λ k z. i.numbers far (sym same ∙ z);
  open_still = λ k m. absurd (omega (arith, m, late));
  within = λ k m. absurd (omega (arith, m, late));
  under = λ k m. absurd (omega (arith, m, late));
  waits = λ e. absurd (six next late (ap rank e));
}
  where
    six : (step : Step) → 12 ≤ rank step → rank step ≡ 6 → ⊥
    six step k e = omega (arith, k, e)

-- a HealBegin line
all_at : (n : ℕ) (test : ℕ → Bool) (x : ℕ) → x < n → all n test ≡ true → test x ≡ true
all_at zero test x low e = absurd (omega arith)
all_at (suc n) test x low e = go (λ less. all_at n test x less (grind arith)) (x == n) refl
  where
    go : (x < n → test x ≡ true) → (last : Bool) → (x == n) ≡ last → test x ≡ true
    go rest true f = (let same : x ≡ n = grind (arith, nat_tests) in rw same (grind arith))
    go rest false f = (let other : x ≡ n → ⊥ = λ k. grind (arith, nat_tests) in rest (omega (arith, other)))

pub inner_begin : (n : ℕ) (step next : Step) (heal_part : HealPart) (asked locks first_reached : ℕ → Bool) (number t : ℕ) (held seen closed : ℕ → Bool) → rank next ≡ 7 → step ≡ WorkLocks
    → over n locks asked ≡ true → ((heal_part ≡ Opening) ⊎ ((heal_part ≡ Opening → ⊥) × ((x : ℕ) → first_reached x ≡ true → locks x ≡ true))) → (heal_part ≡ Opening → (x : ℕ) → first_reached x ≡ false)
    → Inner n step heal_part asked first_reached number held seen closed → Inner n next heal_part empty first_reached (suc t) held held empty
inner_begin n step next heal_part asked locks first_reached number t held seen closed at is all_asked part none i = record {
  numbers = λ k z. omega (arith, z);
  open_still = λ k m x. refl;
  within = λ k m x h. h;
  under = λ k m x below h. elim part [
    | inl first ↦ absurd (true≢false (sym h ∙ none first x))
    | inr w ↦ i.waits is w.0 x below (asked_it (locks x) (asked x) (w.1 x h) (all_at n (λ y. not (locks y) || asked y) x below all_asked))
  ];
  waits = λ e. absurd (six next at (ap rank e));
}
  where
    six : (step : Step) → rank step ≡ 7 → rank step ≡ 6 → ⊥
    six step k e = omega (arith, k, e)

    asked_it : (a b : Bool) → a ≡ true → (not a || b) ≡ true → b ≡ true
    asked_it a b e f = grind arith

any_false : (n : ℕ) (set : ℕ → Bool) (x : ℕ) → x < n → set x ≡ true → any n set ≡ false → ⊥
any_false zero set x low h e = omega (arith, low)
any_false (suc n) set x low h e = go (λ less. any_false n set x less h (grind arith)) (x == n) refl
  where
    go : (x < n → ⊥) → (last : Bool) → (x == n) ≡ last → ⊥
    go rest true f = (let same : x ≡ n = grind (arith, nat_tests) in true≢false (sym h ∙ rw same (grind arith)))
    go rest false f = (let other : x ≡ n → ⊥ = λ k. grind (arith, nat_tests) in rest (omega (arith, other)))

up_to : (m k : ℕ) → m ≤ k → k ≤ 11 → m ≤ 11
up_to m k low end = omega (arith, low, end)

pub turn_low : (n : ℕ) (keeps : ℕ → Kind → Bool) (r : Exact) (s : ℕ) (step : Step) (b : ℕ) → turn n keeps r s step b ≡ true → rank r.step ≤ rank step
turn_low n keeps r s step b e = leb-true (rank r.step) (rank step) (and_left _ _ (and_left _ _ (and_left _ _ e)))

pub turn_in : (n : ℕ) (keeps : ℕ → Kind → Bool) (r : Exact) (s : ℕ) (step : Step) (b : ℕ) → turn n keeps r s step b ≡ true → set_of n keeps r s step b ≡ true
turn_in n keeps r s step b e = and_right _ _ (and_left _ _ (and_left _ _ e))

module _ (n : ℕ) (keeps : ℕ → Kind → Bool) (r : Exact) (t b : ℕ) (told : Told) (inside : r.law.heal ≡ true) (i : Inner n r.step r.part r.asked r.first_reached r.law.number r.law.held r.law.seen r.law.closed) where
  abbrev pub Now : Request → Register
  Now request = weak.dropping (is_gone told) b (weak.note_ask n r.law b request told)

  abbrev pub InnerAfter : Request → Type 0
  InnerAfter request = Inner n (left_in_heal n r t b request told).step (left_in_heal n r t b request told).part (left_in_heal n r t b request told).asked (left_in_heal n r t b request told).first_reached (Now request).number (Now request).held (Now request).seen (Now request).closed

  plain : (request : Request) (next : Step) (asks : ℕ → Bool) → IsQuiet request → 7 ≤ rank r.step → rank r.step ≤ 11 → 7 ≤ rank next
      → Inner n next r.part asks r.first_reached (Now request).number (Now request).held (Now request).seen (Now request).closed
  plain request next asks q far low next_far = inner_on n r.step next r.part r.part r.asked asks r.first_reached r.first_reached r.law (Now request) far low next_far (quiet_after n r.law b request told inside q) (λ x below h. inl h) i

  freed : (request : Request) (next : Step) (asks : ℕ → Bool) → 7 ≤ rank r.step → 12 ≤ rank next → (Now request).number ≡ r.law.number
      → Inner n next r.part asks r.first_reached (Now request).number (Now request).held (Now request).seen (Now request).closed
  freed request next asks far late same = inner_done n r.step next r.part r.part r.asked asks r.first_reached r.first_reached r.law.number (Now request).number r.law.held r.law.seen r.law.closed (Now request).held (Now request).seen (Now request).closed far late same i

  look_first : (source g : ℕ) → may_heal n keeps r source b (look_at g) ≡ true → (opening : Bool) → is_opening r.part ≡ opening → (x : ℕ) → x < n → (if opening then put r.first_reached b (answers told) else r.first_reached) x ≡ true → (r.first_reached x ≡ true) ⊎ (r.law.held x ≡ true)
  look_first source g e false f x below h = inl h
  look_first source g e true f x below h = go (x == b) refl h
    where
      opening_held : (p : HealPart) → is_opening p ≡ true → looks_at r p b ≡ true → r.law.held b ≡ true
      opening_held Opening k m = m
      opening_held Piece k m = absurd (true≢false (sym k))
      opening_held Finish k m = absurd (true≢false (sym k))

      go : (hit : Bool) → (x == b) ≡ hit → (if hit then answers told else r.first_reached x) ≡ true → (r.first_reached x ≡ true) ⊎ (r.law.held x ≡ true)
      go false k m = inl m
      go true k m = (let same : x ≡ b = grind (arith, nat_tests) in inr (rw same (opening_held r.part f (turn_in n keeps r source Looks b (and_right _ _ (and_left _ _ e))))))

  number_freed : (own : Bool) (area : Area) → (if own then record r.law { closed = with r.law.closed b; held = without r.law.held b } else record r.law { second_held = weak.second_freed r.law area b }).number ≡ r.law.number
  number_freed true area = refl
  number_freed false area = refl

  number_tried : (own : Bool) → (if own then record r.law { closed = with r.law.closed b } else r.law).number ≡ r.law.number
  number_tried true = refl
  number_tried false = refl

  number_dropped : (gone : Bool) (w : Register) → (weak.dropping gone b w).number ≡ w.number
  number_dropped true w = refl
  number_dropped false w = refl

  number_unlock : (area : Area) (d : Told) → (weak.note_ask n r.law b (Unlock Work area) d).number ≡ r.law.number
  number_unlock area Done = number_freed (is_area r.law.area area) area
  number_unlock area _ = number_tried (is_area r.law.area area)

  number_heal_unlock : (area : Area) (d : Told) → (weak.note_ask n r.law b (Unlock Heal area) d).number ≡ r.law.number
  number_heal_unlock area Done = refl
  number_heal_unlock area _ = refl

  pub inner_asked : (request : Request) (source : ℕ) → may_heal n keeps r source b request ≡ true → ((area : Area) → request ≡ Lock Work area → InnerAfter (Lock Work area)) → InnerAfter request
  inner_asked (Lock Work area) source e lock = lock area refl
  inner_asked (Lock Heal area) source e lock = record {
    numbers = λ far. absurd (omega (arith, far));
    open_still = λ far. absurd (omega (arith, far));
    within = λ far. absurd (omega (arith, far));
    under = λ far. absurd (omega (arith, far));
    waits = λ k. absurd (cc k);
  }
  inner_asked (Look g) source e lock = (
      let at : rank r.step ≡ 7 = eqb-true (rank r.step) 7 (and_left _ _ (and_left _ _ e)) in
      inner_on n r.step Looks r.part r.part r.asked (left_in_heal n r t b (Look g) told).asked r.first_reached (left_in_heal n r t b (Look g) told).first_reached r.law (Now (Look g)) (omega (arith, at)) (omega (arith, at)) (omega arith)
      (quiet_after n r.law b (Look g) told inside tt) (look_first source g.0 e (is_opening r.part) refl) i
      )
  inner_asked (ReadBytes g at len) source e lock = plain (ReadBytes g at len) Reads (left_in_heal n r t b (ReadBytes g at len) told).asked tt (onward_far n keeps r source g.0 Bytes (and_left _ _ (and_left _ _ (and_left _ _ e)))) (up_to (rank r.step) 8 (turn_low n keeps r source Reads b (and_right _ _ (and_left _ _ (and_left _ _ e)))) (omega arith)) (omega arith)
  inner_asked (ReadAttrs g) source e lock = plain (ReadAttrs g) Reads (left_in_heal n r t b (ReadAttrs g) told).asked tt (onward_far n keeps r source g.0 Attrs (and_left _ _ e)) (up_to (rank r.step) 8 (turn_low n keeps r source Reads b (and_right _ _ e)) (omega arith)) (omega arith)
  inner_asked (List g) source e lock = plain (List g) Reads (left_in_heal n r t b (List g) told).asked tt (onward_far n keeps r source g.0 Names (and_left _ _ e)) (up_to (rank r.step) 8 (turn_low n keeps r source Reads b (and_right _ _ e)) (omega arith)) (omega arith)
  inner_asked (Pre g kind) source e lock = plain (Pre g kind) HealPres (left_in_heal n r t b (Pre g kind) told).asked tt (onward_far n keeps r source g.0 kind (and_left _ _ (and_left _ _ e))) (up_to (rank r.step) 9 (turn_low n keeps r source HealPres b (and_right _ _ e)) (omega arith)) (omega arith)
  inner_asked (Mend repair) source e lock = plain (Mend repair) Mends (left_in_heal n r t b (Mend repair) told).asked tt (mend_far n keeps r source repair (and_left _ _ (and_left _ _ e))) (up_to (rank r.step) 10 (turn_low n keeps r source Mends b (and_right _ _ e)) (omega arith)) (omega arith)
  inner_asked (Settle g kind less) source e lock = plain (Settle g kind less) Settles (left_in_heal n r t b (Settle g kind less) told).asked tt (onward_far n keeps r source g.0 kind (and_left _ _ (and_left _ _ (and_left _ _ e)))) (up_to (rank r.step) 11 (turn_low n keeps r source Settles b (and_right _ _ (and_left _ _ e))) (omega arith)) (omega arith)
  inner_asked (Unlock Work area) source e lock = freed (Unlock Work area) Unlocks (left_in_heal n r t b (Unlock Work area) told).asked (settles_far n keeps r source (and_right _ _ (and_left _ _ (and_left _ _ e)))) (omega arith) (number_dropped (is_gone told) (weak.note_ask n r.law b (Unlock Work area) told) ∙ number_unlock area told)
  inner_asked (Unlock Heal area) source e lock = freed (Unlock Heal area) HealUnlocks (left_in_heal n r t b (Unlock Heal area) told).asked (settles_far n keeps r source (and_right _ _ (and_left _ _ (and_left _ _ (and_left _ _ (and_left _ _ e)))))) (omega arith) (number_dropped (is_gone told) (weak.note_ask n r.law b (Unlock Heal area) told) ∙ number_heal_unlock area told)
  inner_asked (Apply q) source e lock = absurd (true≢false (sym e))
  inner_asked (Post q g kind missed) source e lock = absurd (true≢false (sym e))
  inner_asked (ReadName g name) source e lock = absurd (true≢false (sym e))
  inner_asked (ReadAttr g key) source e lock = absurd (true≢false (sym e))
  inner_asked Index source e lock = absurd (true≢false (sym e))

-- a Work Lock line of a heal
module _ (n : ℕ) (keeps : ℕ → Kind → Bool) (r : Exact) (b : ℕ) (area : Area) (i : Inner n r.step r.part r.asked r.first_reached r.law.number r.law.held r.law.seen r.law.closed)
    (early : rank r.step ≤ 5 → r.part ≡ Opening) (later : next_part r area ≡ Opening → ⊥) (source : ℕ) (may : may_heal_work n keeps r source b area ≡ true) where
  same_part : r.step ≡ WorkLocks → next_part r area ≡ r.part
  same_part e = ap (λ (s : Step). if same_step s Unlocks then (if same_area (whole_area r.law.object Bytes) area then Finish else Piece) else r.part) e

  part_at_lock : rank r.step ≡ 5 → next_part r area ≡ r.part
  part_at_lock e = ap (λ m. if m == 12 then (if same_area (whole_area r.law.object Bytes) area then Finish else Piece) else r.part) e

  asked_held : (x : ℕ) → x < n → asked_in r WorkLocks x ≡ true → r.law.held x ≡ true
  asked_held x below h = go (same_step r.step WorkLocks) refl h
    where
      go : (at : Bool) → same_step r.step WorkLocks ≡ at → (if at then r.asked else empty) x ≡ true → r.law.held x ≡ true
      go true e k = (let is : r.step ≡ WorkLocks = work_locks r.step e in i.waits is (λ f. later (same_part is ∙ f)) x below k)
      go false e k = absurd (true≢false (sym k))

  own_or_idle : (busy n r.law ≡ false) ⊎ (is_area r.law.area area ≡ true)
  own_or_idle = go (same_step r.step WorkLocks) (same_step r.step HealLocks) refl may
    where
      go : (wait heal : Bool) → same_step r.step HealLocks ≡ heal → (if wait then is_area r.law.area area && is_lowest (locks_at r r.part) r.asked b
          else if heal then is_next n r source area && is_lowest r.law.healing empty b
          else after_unlocks n r area source && not (is_finish r.part) && is_lowest r.first_reached empty b) ≡ true → (busy n r.law ≡ false) ⊎ (is_area r.law.area area ≡ true)
      go true heal f e = inr (and_left _ _ e)
      go false true f e = (let five : rank r.step ≡ 5 = eqb-true (rank r.step) 5 f in absurd (later (part_at_lock five ∙ early (omega (arith, five)))))
      go false false f e = inl (not-true (busy n r.law) (and_right _ _ (and_left _ _ (and_left _ _ (and_left _ _ (and_left _ _ e))))))

  idle_none : (x : ℕ) → x < n → busy n r.law ≡ false → asked_in r WorkLocks x ≡ true → ⊥
  idle_none x below idle h = any_false n r.law.held x below (asked_held x below h) (or_parts (any n r.law.held) (any n r.law.second_held) idle).0

  waiting_held : (x : ℕ) → x < n → (some : Bool) → busy n r.law ≡ some → asked_in r WorkLocks x ≡ true → (if some then record r.law { second = weak.second_of r.law area } else weak.begun r.law area).held x ≡ true
  waiting_held x below true e h = asked_held x below h
  waiting_held x below false e h = absurd (idle_none x below e h)

  granted_held : (x : ℕ) → x < n → (some own : Bool) → busy n r.law ≡ some → is_area r.law.area area ≡ own → with (asked_in r WorkLocks) b x ≡ true
      → (if some && not own then record r.law { second = Some area; second_held = with r.law.second_held b } else (let k = if some then record r.law { second = weak.second_of r.law area } else weak.begun r.law area in record k { held = with k.held b })).held x ≡ true
  granted_held x below true true e f h = more r.law.held (asked_in r WorkLocks) b x (asked_held x below) h
    where
      more : (set other : ℕ → Bool) (b x : ℕ) → (other x ≡ true → set x ≡ true) → with other b x ≡ true → with set b x ≡ true
      more set other b x k h = grind (arith, nat_tests)
  granted_held x below true false e f h = elim own_or_idle [ inl idle ↦ absurd (true≢false (sym e ∙ idle)) | inr own ↦ absurd (true≢false (sym own ∙ f)) ]
  granted_held x below false own e f h = only (asked_in r WorkLocks) b x (λ k. idle_none x below e k) h
    where
      only : (other : ℕ → Bool) (b x : ℕ) → (other x ≡ true → ⊥) → with other b x ≡ true → with empty b x ≡ true
      only other b x k h = grind (arith, nat_tests)

  not_opening : (p : HealPart) → (p ≡ Opening → ⊥) → not (is_opening p) ≡ true
  not_opening Opening k = absurd (k refl)
  not_opening Piece k = refl
  not_opening Finish k = refl

  pub lock_held : (told : Told) → breaks r (Lock Work area) told ≡ false → (x : ℕ) → x < n → (left_in_heal n r 0 b (Lock Work area) told).asked x ≡ true → (weak.dropping (is_gone told) b (weak.note_ask n r.law b (Lock Work area) told)).held x ≡ true
  lock_held Granted whole x below h = granted_held x below (busy n r.law) (is_area r.law.area area) refl refl h
  lock_held NotConnected whole x below h = absurd (true≢false (sym (not_opening (next_part r area) later) ∙ whole))
  lock_held Failed whole x below h = absurd (true≢false (sym (not_opening (next_part r area) later) ∙ whole))
  lock_held _ whole x below h = waiting_held x below (busy n r.law) refl h
