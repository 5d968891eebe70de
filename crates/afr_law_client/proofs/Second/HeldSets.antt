-- The sets of a transaction after one more brick was asked: who is still to be asked, who did it, and where the locks are held.
use Rattle.std.proofs.Common.{◌≡◌, ◌⊎◌, inl, inr, ℕ, ◌==◌, ◌&&◌, ◌||◌, not, Bool, true, false, List, [], refl, sym, ◌∙◌, subst, Option, if◌then◌else◌}
use Rattle.std.proofs.lemmas.Bool.Decides.{eqb_tells}
use Rattle.afr_base.specs.Bricks.{IsIn, added, added_if, member, minus, removed}
use Rattle.afr_base.specs.SetLemmas.{member_added, member_minus, member_removed}
use Rattle.afr_base.proofs.TestLemmas.{unless_then}
use Rattle.afr_object.specs.declared.entry.View.{View}
use Rattle.afr_choice.specs.Looks.{with_look, without_look}
use Rattle.afr_choice.specs.LooksLemmas.{holder_after_loss, holder_after_other_look, holder_after_other_loss}
use Rattle.afr_choice.specs.Verdict.{holders_of, is_holder}
use Rattle.afr_choice.specs.VerdictLemmas.{holders_below, member_holders}
use Rattle.afr_choice.specs.declared.looked.Looked.{Looked}
use Rattle.afr_law_client.specs.Second.Held.{AreHeld}

-- the locks that are held once brick b has answered, by whether its session has ended
abbrev pub held_after : Bool → ℕ → List ℕ → List ℕ
held_after gone b held = if gone then removed b held else held

-- whoever did it after brick b was asked did it before, or is b, whose session goes on
abbrev pub DoneBy : Bool → ℕ → List ℕ → List ℕ → Type 0
DoneBy gone b before after = (c : ℕ) → member after c ≡ true → (member before c ≡ true) ⊎ (((b == c) ≡ true) × (gone ≡ false))

-- who is asked now is neither b nor was asked before
left_one : (s asked : List ℕ) (b c : ℕ) → member (minus s (added b asked)) c ≡ true → ((b == c) ≡ false) × (member (minus s asked) c ≡ true)
left_one s asked b c h = by (b == c) refl (member asked c) refl (sym (member_minus s (added b asked) c) ∙ h)
  where
    by : (same : Bool) → (b == c) ≡ same → (before : Bool) → member asked c ≡ before → (not (member (added b asked) c) && member s c) ≡ true → ((b == c) ≡ false) × (member (minus s asked) c ≡ true)
    by true e before f k =
        let known : member (added b asked) c ≡ true = member_added b asked c ∙ rw e refl in
        let none : (not true && member s c) ≡ true = rw known at k in
        absurd (cc none)
    by false e true f k =
        let known : member (added b asked) c ≡ true = member_added b asked c ∙ rw (e, f) refl in
        let none : (not true && member s c) ≡ true = rw known at k in
        absurd (cc none)
    by false e false f k =
        let out : member (added b asked) c ≡ false = member_added b asked c ∙ rw (e, f) refl in
        let there : (not false && member s c) ≡ true = rw out at k in
        (e, member_minus s asked c ∙ rw f there)

-- another brick's lock is held as before
stays_held : (gone : Bool) (b c : ℕ) (held : List ℕ) → (b == c) ≡ false → member held c ≡ true → member (held_after gone b held) c ≡ true
stays_held true b c held e h = member_removed b held c ∙ rw (e, h) refl
stays_held false b c held e h = h

pub asked_more : (gone : Bool) (s asked before after held : List ℕ) (b : ℕ) → AreHeld (minus s asked) before held → member (minus s asked) b ≡ true → DoneBy gone b before after
    → AreHeld (minus s (added b asked)) after (held_after gone b held)
asked_more gone s asked before after held b k is_left done = record {
  left_held = λ c h. let one = left_one s asked b c h in stays_held gone b c held one.0 (k.left_held c one.1);
  undone = λ c h. let one = left_one s asked b c h in undone c one.0 one.1 (member after c) refl;
  did_held = λ c h. did_held c (done c h);
}
  where
    undone : (c : ℕ) → (b == c) ≡ false → member (minus s asked) c ≡ true → (did : Bool) → member after c ≡ did → did ≡ false
    undone c e h false f = refl
    undone c e h true f = elim (done c f) [
      | inl old ↦ (let none = k.undone c h in absurd (cc (none, old)))
      | inr new ↦ (let same = new.0 in absurd (cc (e, same)))
    ]

    apart : (c : ℕ) → member before c ≡ true → (b == c) ≡ false
    apart c h = elim (eqb_tells b c) [
      | inl e ↦ (let none : member before c ≡ false = subst (λ (x : ℕ). member before x ≡ false) e.1 (k.undone b is_left) in absurd (cc (none, h)))
      | inr e ↦ e.0
    ]

    here : (c : ℕ) (g : Bool) → gone ≡ g → g ≡ false → b ≡ c → member (held_after g b held) c ≡ true
    here c true e f is = absurd (cc f)
    here c false e f is = subst (λ (x : ℕ). member held x ≡ true) is (k.left_held b is_left)

    did_held : (c : ℕ) → (member before c ≡ true) ⊎ (((b == c) ≡ true) × (gone ≡ false)) → member (held_after gone b held) c ≡ true
    did_held c (inl old) = stays_held gone b c held (apart c old) (k.did_held c old)
    did_held c (inr new) = elim (eqb_tells b c) [
      | inl e ↦ here c gone refl new.1 e.1
      | inr e ↦ (let other = e.0 in let same = new.0 in absurd (cc (other, same)))
    ]

-- the same by sets that are these
pub moved : (s s2 asked asked2 did did2 held held2 : List ℕ) → s2 ≡ s → asked2 ≡ asked → did2 ≡ did → held2 ≡ held → AreHeld (minus s asked) did held → AreHeld (minus s2 asked2) did2 held2
moved s s2 asked asked2 did did2 held held2 es ea ed eh k = rw (es, ea, ed, eh) k

-- nobody has done the next phase
pub next_phase : (did asked later held : List ℕ) → IsIn did held → later ≡ [] → AreHeld (minus did asked) later held
next_phase did asked later held did_held none = record {
  left_held = λ c h. did_held c (among c h);
  undone = λ c h. rw none refl;
  did_held = λ c h. (let nobody : member [] c ≡ true = rw none at h in absurd (cc nobody));
}
  where
    among : (c : ℕ) → member (minus did asked) c ≡ true → member did c ≡ true
    among c h = unless_then (member asked c) (member did c) (sym (member_minus did asked c) ∙ h)

-- ---- what was done
-- a phase that brick b carried out, which it didn't where its session has ended
pub done_one : (flag gone : Bool) (b : ℕ) (before : List ℕ) → (flag ≡ true → gone ≡ false) → DoneBy gone b before (added_if flag b before)
done_one false gone b before stays c h = inl h
done_one true gone b before stays c h = by (b == c) refl (sym (member_added b before c) ∙ h)
  where
    by : (same : Bool) → (b == c) ≡ same → (same || member before c) ≡ true → (member before c ≡ true) ⊎ (((b == c) ≡ true) × (gone ≡ false))
    by true e k = inr (e, stays refl)
    by false e k = inl k

-- a look leaves the copies of the other bricks
pub looked_one : (answers gone : Bool) (b : ℕ) (view : Option View) (looked : Looked) → (answers ≡ true → gone ≡ false)
    → DoneBy gone b (holders_of looked) (holders_of (if answers then with_look b view looked else without_look b looked))
looked_one true gone b view looked stays c h = elim (eqb_tells b c) [
  | inl e ↦ inr (e.0, stays refl)
  | inr e ↦
      (let other = e.1 in
      let small = holders_below (with_look b view looked) c h in
      inl (member_holders looked c small ∙ sym (holder_after_other_look b c view looked (λ f. other (sym f))) ∙ sym (member_holders (with_look b view looked) c small) ∙ h))
]
looked_one false gone b view looked stays c h = elim (eqb_tells b c) [
  | inl e ↦
      (let small = holders_below (without_look b looked) c h in
      let none : member (holders_of (without_look b looked)) c ≡ false = member_holders (without_look b looked) c small ∙ subst (λ (x : ℕ). is_holder (without_look b looked) x ≡ false) e.1 (holder_after_loss b looked) in
      absurd (cc (none, h)))
  | inr e ↦
      (let other = e.1 in
      let small = holders_below (without_look b looked) c h in
      inl (member_holders looked c small ∙ sym (holder_after_other_loss b c looked (λ f. other (sym f))) ∙ sym (member_holders (without_look b looked) c small) ∙ h))
]
