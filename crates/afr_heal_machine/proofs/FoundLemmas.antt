-- The end of the first looks: which case a heal is in then, and that a copy may be its source.
use Rattle.std.proofs.Common.{◌≡◌, ◌∙◌, ◌<◌, ◌&&◌, ◌==◌, ℕ, Bool, None, Option, Some, arith, false, nat_lt, not, refl, subst, sym, true, if◌then◌else◌}
use Rattle.std.proofs.lemmas.Bool.Decides.{nat_tests}
use Rattle.afr_base.specs.declared.ids.Gfid.{Gfid}
use Rattle.afr_base.specs.declared.ids.Kind.{Kind}
use Rattle.afr_discipline.specs.Inside.{allows, is_unlock, may_ask_inside}
use Rattle.afr_discipline.specs.Turns.{find}
use Rattle.afr_heal.proofs.Finding.{find_none, find_some, passed_off}
use Rattle.afr_heal.proofs.Parts.{both, denied, not_both, pair}
use Rattle.afr_heal.proofs.StagesWalk.{first_elim}
use Rattle.afr_heal.specs.Answers.{PicksOne, asked_for}
use Rattle.afr_heal.specs.Engine.{Ask, NextOfHeal, next_of}
use Rattle.afr_heal.specs.Laws.{asks_well}
use Rattle.afr_heal.specs.Standing.{AfterLooks, Ending, First, Going, Healing, Looking, Parting, Standing, Viewing, Working}
use Rattle.afr_lines.specs.declared.answer.Told.{Told}
use Rattle.afr_lines.specs.declared.request.Request.{Request}
use Rattle.afr_lines.specs.declared.request.Request.TheVariants.{List, Lock, Look, Mend, Pre, ReadAttrs, ReadBytes, Settle, Unlock}
use Rattle.afr_model_moves.proofs.Tests.{four_parts, some_yes, three_parts}
use Rattle.afr_model_moves.specs.Register.{Exact, HealPart, Looks, Opening, Step, is_opening, over, same_step}
use Rattle.afr_model_moves.specs.Rules.{heal_area}
use Rattle.afr_model_moves.specs.Sets.{any}
use Rattle.afr_model_moves.specs.Steps.{may_heal, passed, turn}
use Rattle.afr_lines.specs.declared.lock.Domain.TheVariants.{Heal, Work}
use Rattle.afr_heal_machine.specs.Source.{is_found}

-- ---- the parts of the test
pub looks_is : (step : Step) → same_step step Looks ≡ true → step ≡ Looks
looks_is Looks h = refl
looks_is _ h = absurd (cc h)

pub opening_is : (part : HealPart) → is_opening part ≡ true → part ≡ Opening
opening_is Opening h = refl
opening_is _ h = absurd (cc h)

pub record Found (n : ℕ) (r : Exact) : Type 0 where
  pub whole : r.broken ≡ false
  pub at : r.step ≡ Looks
  pub part : r.part ≡ Opening
  pub past : over n r.law.held r.asked ≡ true

pub found_parts : (n : ℕ) (r : Exact) → is_found n r ≡ true → Found n r
found_parts n r h =
    let parts = four_parts (not r.broken) (same_step r.step Looks) (is_opening r.part) (over n r.law.held r.asked) h in
    record { whole = denied r.broken parts.0; at = looks_is r.step parts.1; part = opening_is r.part parts.2; past = parts.3 }

pub found_is : (n : ℕ) (r : Exact) → r.broken ≡ false → r.step ≡ Looks → r.part ≡ Opening → over n r.law.held r.asked ≡ true → is_found n r ≡ true
found_is n r whole at part past = rw (whole, at, part, past) refl

-- ---- by the case
module _ (n : ℕ) (keeps : ℕ → Kind → Bool) (r : Exact) (s : ℕ) (g : Gfid) (kind : Kind) where
  -- the looks of a heal in its first part are over where it goes on from them
  pub looked_over : AfterLooks n keeps r s g kind → r.step ≡ Looks → r.part ≡ Opening → over n r.law.held r.asked ≡ true
  looked_over k at part = rw (at, part) at (both _ (passed n keeps r s Looks) k.looked).1

  pub found_going : Standing n keeps r s g kind → Found n r → AfterLooks n keeps r s g kind
  found_going (First k) f = absurd (cc (sym k.step ∙ f.at))
  found_going (Healing k) f = absurd (cc (sym k.step ∙ f.at))
  found_going (Working k) f = absurd (cc (sym k.step ∙ f.at))
  found_going (Looking k) f = absurd (not_both (over n r.law.held r.asked) f.past k.more)
  found_going (Parting k) f = absurd (cc (sym k.step ∙ f.at))
  found_going (Viewing k) f = absurd (not_both (is_opening r.part) (rw f.part refl) k.part)
  found_going (Going k) f = k
  found_going (Ending k) f = absurd (not_both r.broken k.broken f.whole)

  -- until they are over, no copy is named
  pub unfound : (c : ℕ) → Standing n keeps r s g kind → is_found n r ≡ false → r.step ≡ Looks → r.part ≡ Opening → Standing n keeps r c g kind
  unfound c (First k) f at part = absurd (cc (sym k.step ∙ at))
  unfound c (Healing k) f at part = absurd (cc (sym k.step ∙ at))
  unfound c (Working k) f at part = absurd (cc (sym k.step ∙ at))
  unfound c (Looking k) f at part = Looking k
  unfound c (Parting k) f at part = absurd (cc (sym k.step ∙ at))
  unfound c (Viewing k) f at part = absurd (not_both (is_opening r.part) (rw part refl) k.part)
  unfound c (Going k) f at part = absurd (not_both (is_found n r) (found_is n r k.whole at part (looked_over k at part)) f)
  unfound c (Ending k) f at part = Ending k

  -- at a look of the first part every copy may be the source
  pub every : Standing n keeps r s g kind → r.broken ≡ false → r.step ≡ Looks → r.part ≡ Opening → (b : ℕ) → b < n → turn n keeps r s Looks b ≡ true → (x : ℕ) → x < n → r.possible x ≡ true
  every (First k) whole at part b low t = absurd (cc (sym k.step ∙ at))
  every (Healing k) whole at part b low t = absurd (cc (sym k.step ∙ at))
  every (Working k) whole at part b low t = absurd (cc (sym k.step ∙ at))
  every (Looking k) whole at part b low t = k.every
  every (Parting k) whole at part b low t = absurd (cc (sym k.step ∙ at))
  every (Viewing k) whole at part b low t = absurd (not_both (is_opening r.part) (rw part refl) k.part)
  every (Going k) whole at part b low t = absurd (passed_off n keeps r s Looks (both _ (passed n keeps r s Looks) k.looked).1 b low t)
  every (Ending k) whole at part b low t = absurd (not_both r.broken k.broken whole)

  -- before its first line a heal asks for the Heal lock at brick 0; then its register is that of a heal
  pub inside_or_first : Standing n keeps r s g kind → (r.law.heal ≡ true → ⊥) → next_of n keeps r s g kind ≡ Ask 0 (Lock Heal (heal_area g.0))
  inside_or_first (First k) never = first_elim n keeps r s g kind k (λ (next : NextOfHeal). next ≡ Ask 0 (Lock Heal (heal_area g.0))) refl
  inside_or_first (Healing k) never = absurd (never k.base.inside)
  inside_or_first (Working k) never = absurd (never k.base.inside)
  inside_or_first (Looking k) never = absurd (never k.base.inside)
  inside_or_first (Parting k) never = absurd (never k.base.inside)
  inside_or_first (Viewing k) never = absurd (never k.base.inside)
  inside_or_first (Going k) never = absurd (never k.base.inside)
  inside_or_first (Ending k) never = absurd (never k.base.inside)

-- ---- a rule that picks this brick wherever it passes
abbrev pub lowest_or : Option ℕ → ℕ
lowest_or None = 0
lowest_or (Some b) = b

abbrev pub pick_for : ℕ → ℕ → (ℕ → Bool) → ℕ
pick_for n c p = if nat_lt c n && p c then c else lowest_or (find n p)

pub picks_for : (n c : ℕ) → PicksOne n (pick_for n c)
picks_for n c p x low h = go (nat_lt c n && p c) refl
  where
    found : (o : Option ℕ) → find n p ≡ o → (lowest_or o < n) × (p (lowest_or o) ≡ true)
    found None e = absurd (not_both (p x) h (find_none n p e x low))
    found (Some b) e = find_some n p b e

    go : (f : Bool) → (nat_lt c n && p c) ≡ f → ((if f then c else lowest_or (find n p)) < n) × (p (if f then c else lowest_or (find n p)) ≡ true)
    go true e = let parts = both (nat_lt c n) (p c) e in (let l = parts.0 in grind (arith, nat_tests, l), parts.1)
    go false e = found (find n p) refl

pub pick_is : (n c : ℕ) (p : ℕ → Bool) → c < n → p c ≡ true → pick_for n c p ≡ c
pick_is n c p low h = let l : nat_lt c n ≡ true = grind (arith, nat_tests, low) in rw (l, h) refl

-- ---- after a request, the copies that may be the source
-- the register of a heal
abbrev pub inside : Exact → Exact
inside r = record r { law = record r.law { heal = true } }

pub inside_is : (r : Exact) → r.law.heal ≡ true → r ≡ inside r
inside_is r e = λ i. record r { law = record r.law { heal = e i } }

-- before a heal
abbrev pub outside : Exact → Exact
outside r = record r { law = record r.law { heal = false } }

pub outside_is : (r : Exact) → r.law.heal ≡ false → r ≡ outside r
outside_is r e = λ i. record r { law = record r.law { heal = e i } }

-- some copy allows a request that is no unlock
record Allowing (n : ℕ) (keeps : ℕ → Kind → Bool) (q : Exact) (b : ℕ) (request : Request) : Type 0 where
  whole : q.broken ≡ false
  low : b < n
  copy : ℕ
  allows : (q.possible copy && may_heal n keeps q copy b request) ≡ true

module _ (n : ℕ) (keeps : ℕ → Kind → Bool) (q : Exact) (b : ℕ) where
  allowing : (request : Request) → (nat_lt b n && may_ask_inside n keeps q b request) ≡ true → is_unlock request ≡ false → Allowing n keeps q b request
  allowing request h none = go q.broken refl (is_unlock request) none (both (nat_lt b n) (may_ask_inside n keeps q b request) h).1
    where
      go : (f : Bool) → q.broken ≡ f → (u : Bool) → u ≡ false → (if f then u else any n (allows n keeps q b request)) ≡ true → Allowing n keeps q b request
      go true e true off h2 = absurd (cc off)
      go true e false off h2 = absurd (cc h2)
      go false e u off h2 =
          let w = some_yes n (allows n keeps q b request) h2 in
          let l = (both (nat_lt b n) (may_ask_inside n keeps q b request) h).0 in
          record { whole = e; low = grind (arith, nat_tests, l); copy = w.0; allows = w.2 }

  no_request : (request : Request) → ((s : ℕ) → may_heal n keeps q s b request ≡ false) → Allowing n keeps q b request → ⊥
  no_request request none w = not_both (may_heal n keeps q w.copy b request) (both (q.possible w.copy) (may_heal n keeps q w.copy b request) w.allows).1 (none w.copy)

module _ (n : ℕ) (keeps : ℕ → Kind → Bool) (r : Exact) (s : ℕ) (g : Gfid) (kind : Kind) (k : Standing n keeps (inside r) s g kind) (t b : ℕ) (told : Told) where
  after_look : (h : Gfid) → Allowing n keeps (inside r) b (Look h) → Found n (asked_for n keeps (inside r) t b (Look h) told) → (x : ℕ) → x < n → (asked_for n keeps (inside r) t b (Look h) told).possible x ≡ true
  after_look h w f x low =
      let may = (both (r.possible w.copy) (may_heal n keeps (inside r) w.copy b (Look h)) w.allows).1 in
      let parts = three_parts (same_step r.step Looks) (turn n keeps (inside r) w.copy Looks b) (h.0 == r.law.object) may in
      pair (r.possible x) (may_heal n keeps (inside r) x b (Look h)) (every n keeps (inside r) s g kind k w.whole (looks_is r.step parts.0) f.part b w.low parts.1 x low) may

  inside_every : (request : Request) → (nat_lt b n && may_ask_inside n keeps (inside r) b request) ≡ true → Found n (asked_for n keeps (inside r) t b request told) → (x : ℕ) → x < n → (asked_for n keeps (inside r) t b request told).possible x ≡ true
  inside_every (Look h) asks f x low = after_look h (allowing n keeps (inside r) b (Look h) asks refl) f x low
  inside_every (Lock Heal area) asks f x low = absurd (cc f.at)
  inside_every (Lock Work area) asks f x low = absurd (cc f.at)
  inside_every (Unlock Heal area) asks f x low = absurd (cc f.at)
  inside_every (Unlock Work area) asks f x low = absurd (cc f.at)
  inside_every (ReadBytes h at len) asks f x low = absurd (cc f.at)
  inside_every (ReadAttrs h) asks f x low = absurd (cc f.at)
  inside_every (List h) asks f x low = absurd (cc f.at)
  inside_every (Pre h what) asks f x low = absurd (cc f.at)
  inside_every (Mend repair) asks f x low = absurd (cc f.at)
  inside_every (Settle h what less) asks f x low = absurd (cc f.at)
  inside_every request asks f x low = absurd (no_request n keeps (inside r) b request (λ s. refl) (allowing n keeps (inside r) b request asks refl))

module _ (n : ℕ) (keeps : ℕ → Kind → Bool) (s : ℕ) (g : Gfid) (kind : Kind) (t b : ℕ) (request : Request) (told : Told) where
  abbrev Every : Exact → Type 0
  Every r = Standing n keeps r s g kind → next_of n keeps r s g kind ≡ Ask b request → asks_well n keeps r b request ≡ true → Found n (asked_for n keeps r t b request told) → (x : ℕ) → x < n → (asked_for n keeps r t b request told).possible x ≡ true

  first_every : (r : Exact) → (request : Request) → request ≡ Lock Heal (heal_area g.0) → Found n (asked_for n keeps (outside r) t b request told) → ⊥
  first_every r (Lock Heal area) e f = cc f.at
  first_every r (Lock Work area) e f = cc e
  first_every r request e f = cc e

  -- when the first looks are over, each copy may be the source as far as the lines of the heal tell
  pub found_every : (r : Exact) → Every r
  found_every r = go r.law.heal refl
    where
      go : (f : Bool) → r.law.heal ≡ f → Every r
      go true e = subst Every (sym (inside_is r e)) (λ k next asks f x low. inside_every n keeps r s g kind k t b told request asks f x low)
      go false e =
          subst Every (sym (outside_is r e))
          (λ k next asks f x low. absurd (first_every r request (request_back (sym (inside_or_first n keeps (outside r) s g kind k (λ h. cc h)) ∙ next)) f))
        where
          request_back : Ask 0 (Lock Heal (heal_area g.0)) ≡ Ask b request → request ≡ Lock Heal (heal_area g.0)
          request_back e = cc e
