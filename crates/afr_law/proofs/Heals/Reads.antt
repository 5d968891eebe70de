-- The reads of a part of a heal: each was given by a brick since the last HealBegin.
use Rattle.afr_base.specs.declared.ids.Kind.{Kind}
use Rattle.afr_base.specs.declared.ids.Kind.TheVariants.{Attrs, Bytes, Names}
use Rattle.afr_law.proofs.Discipline.AskFields.{frees_heal, frees_work}
use Rattle.afr_model_moves.specs.Discipline.{MovesExactly, present}
use Rattle.afr_model_moves.specs.Note.{breaks, fails, left_in_heal, put, given}
use Rattle.afr_model_moves.specs.Register.{Exact, HealPart, HealPres, HealUnlocks, Mends, Reads, Settles, Step, Unlocks, good, rank}
use Rattle.afr_model_moves.specs.Steps.{may_heal, reads_at}
use Rattle.afr_law.proofs.Heals.Along.{healing_now}
use Rattle.afr_law.proofs.Heals.Holds.{fails_gone, kept_law}
use Rattle.afr_law.proofs.Heals.Conditions.{attrs_onward, attrs_turn, bytes_onward, bytes_turn, heal_unlock_over, list_onward, list_turn, look_step, mend_test, pre_onward, settle_onward, unlock_over}
use Rattle.afr_law.proofs.Discipline.Inner.{turn_in}
use Rattle.afr_model_moves.specs.Lines.{ask_by}
use Rattle.afr_model_moves.specs.Past.{Log, is_gone}
use Rattle.afr_model_moves.specs.Sets.{with}
use Rattle.afr_law.proofs.Discipline.Stages.{mend_far, onward_far, settles_far}
use Rattle.afr_law.proofs.Discipline.Untouched.{newest_now}
use Rattle.afr_lines.specs.declared.answer.Told.{Told}
use Rattle.afr_lines.specs.declared.answer.Told.TheVariants.{Done, Failed, Given, NotConnected}
use Rattle.afr_lines.specs.declared.request.Request.{Request}
use Rattle.afr_lines.specs.declared.request.Request.TheVariants.{Apply, Index, List, Lock, Look, Mend, Post, Pre, ReadAttr, ReadAttrs, ReadBytes, ReadName, Settle, Unlock}
use Rattle.afr_object.specs.declared.entry.View.{View}
use Rattle.afr_lines.specs.declared.lock.Domain.TheVariants.{Heal, Work}
use Rattle.std.proofs.Common.{Bool, arith, false, inl, inr, refl, subst, suc, sym, true, true≢false, ℕ, ◌<◌, ◌≡◌, ◌≤◌}
use Rattle.std.specs.Prelude.{None, Option, Some}
use Rattle.afr_model_moves.specs.Rules as weak
use Rattle.afr_model_moves.specs.Rules.{Register}
use Rattle.afr_model_moves.proofs.Tests.{put_read}

-- the line of a read
pub record ReadLine (n : ℕ) (keeps : ℕ → Kind → Bool) (log : Log) (t a : ℕ) (kind : Kind) (number : ℕ) (first_views : ℕ → Option View) (x p : ℕ) : Type 0 where
  pub below : x < n
  pub past : p < t
  pub since : number ≤ p
  pub request : Request
  pub took : Bool
  pub is : log p ≡ Some (ask_by a x request Given took)
  pub good_copy : kind ≡ Names → good n keeps Names first_views x ≡ true

-- a read is there only once the looks are over
abbrev pub Readings : ℕ → (ℕ → Kind → Bool) → Log → ℕ → ℕ → Step → Kind → ℕ → (ℕ → Option View) → (ℕ → Option ℕ) → Type 0
Readings n keeps log t a step kind number first_views reads = 7 ≤ rank step → (x p : ℕ) → reads x ≡ Some p → (8 ≤ rank step) × ReadLine n keeps log t a kind number first_views x p

-- the same of a register
abbrev pub ReadingsIn : ℕ → (ℕ → Kind → Bool) → Log → ℕ → ℕ → Exact → Register → Type 0
ReadingsIn n keeps log t a r w = Readings n keeps log t a r.step w.kind w.number r.first_views r.reads

read_next : (n : ℕ) (keeps : ℕ → Kind → Bool) (log : Log) (t a : ℕ) (kind : Kind) (number : ℕ) (first_views : ℕ → Option View) (x p : ℕ) → ReadLine n keeps log t a kind number first_views x p → ReadLine n keeps log (suc t) a kind number first_views x p
read_next n keeps log t a kind number first_views x p w = record { below = w.below; past = omega (arith, w.past); since = w.since; request = w.request; took = w.took; is = w.is; good_copy = w.good_copy }

module _ (n : ℕ) (keeps : ℕ → Kind → Bool) (log : Log) (t a b : ℕ) (r : Exact) (below : b < n) (past : r.law.number ≤ t) (h : ReadingsIn n keeps log t a r r.law) where
  abbrev pub ReadingsAfter : Request → Told → Type 0
  ReadingsAfter request told = ReadingsIn n keeps log (suc t) a (left_in_heal n r t b request told) (weak.dropping (is_gone told) b (weak.note_ask n r.law b request told))

  -- a later step
  goes : (next : Step) (w : Register) → 8 ≤ rank next → 7 ≤ rank r.step → w.kind ≡ r.law.kind → w.number ≡ r.law.number → Readings n keeps log (suc t) a next w.kind w.number r.first_views r.reads
  goes next w late far kind number k x p e = (late, subst (λ m. ReadLine n keeps log (suc t) a w.kind m r.first_views x p) (sym number) (subst (λ c. ReadLine n keeps log (suc t) a c r.law.number r.first_views x p) (sym kind) (read_next n keeps log t a r.law.kind r.law.number r.first_views x p (h far x p e).1)))

  -- a read
  reads : (request : Request) (told : Told) (took : Bool) → log t ≡ Some (ask_by a b request told took) → 7 ≤ rank r.step → fails told ≡ false → (r.law.kind ≡ Names → good n keeps Names r.first_views b ≡ true)
      → Readings n keeps log (suc t) a Reads (weak.dropping (is_gone told) b r.law).kind (weak.dropping (is_gone told) b r.law).number r.first_views (put r.reads b (given told t))
  reads request told took is far ok copy = subst (λ (w : Register). Readings n keeps log (suc t) a Reads w.kind w.number r.first_views (put r.reads b (given told t))) (sym (kept_law (is_gone told) b r.law (fails_gone told ok))) (noted told is)
    where
      noted : (d : Told) → log t ≡ Some (ask_by a b request d took) → Readings n keeps log (suc t) a Reads r.law.kind r.law.number r.first_views (put r.reads b (given d t))
      noted Given at k x p e = (
        omega arith,
        elim (put_read r.reads b x p (Some t) e) [
          | inl w ↦ (let same : t ≡ p = cc (w.1) in subst (λ q. ReadLine n keeps log (suc t) a r.law.kind r.law.number r.first_views x q) same
              (subst (λ y. ReadLine n keeps log (suc t) a r.law.kind r.law.number r.first_views y t) (sym w.0) (record { below = below; past = omega arith; since = past; request = request; took = took; is = at; good_copy = copy })))
          | inr old ↦ read_next n keeps log t a r.law.kind r.law.number r.first_views x p (h far x p old).1
        ],
      )
      noted _ at k x p e = (omega arith, elim (put_read r.reads b x p None e) [ inl w ↦ absurd (cc (w.1)) | inr old ↦ read_next n keeps log t a r.law.kind r.law.number r.first_views x p (h far x p old).1 ])

  good_here : (source : ℕ) (kind : Kind) (part : HealPart) → reads_at n keeps r source kind part b ≡ true → kind ≡ Names → good n keeps Names r.first_views b ≡ true
  good_here source Names part e k = e
  good_here source Bytes part e k = absurd (cc k)
  good_here source Attrs part e k = absurd (cc k)

  pub readings_asked : (request : Request) (told : Told) (took : Bool) (source : ℕ) → log t ≡ Some (ask_by a b request told took) → may_heal n keeps r source b request ≡ true → breaks r request told ≡ false → ReadingsAfter request told
  readings_asked (Lock Heal area) told took source is e un = λ far. absurd (omega (arith, far))
  readings_asked (Lock Work area) told took source is e un = λ far. absurd (omega (arith, far))
  readings_asked (Look g) told took source is e un = λ far x p m. (let seven : rank r.step ≡ 7 = look_step n keeps r source b g.0 e in let late : 8 ≤ rank r.step = (h (omega (arith, seven)) x p m).0 in absurd (omega (arith, seven, late)))
  readings_asked (ReadBytes g at len) told took source is e un = reads (ReadBytes g at len) told took is (onward_far n keeps r source g.0 Bytes (bytes_onward n keeps r source b g at len e)) un (good_here source r.law.kind r.part (turn_in n keeps r source Reads b (bytes_turn n keeps r source b g at len e)))
  readings_asked (ReadAttrs g) told took source is e un = reads (ReadAttrs g) told took is (onward_far n keeps r source g.0 Attrs (attrs_onward n keeps r source b g e)) un (good_here source r.law.kind r.part (turn_in n keeps r source Reads b (attrs_turn n keeps r source b g e)))
  readings_asked (List g) told took source is e un = reads (List g) told took is (onward_far n keeps r source g.0 Names (list_onward n keeps r source b g e)) un (good_here source r.law.kind r.part (turn_in n keeps r source Reads b (list_turn n keeps r source b g e)))
  readings_asked (Pre g kind) told took source is e un = pre told un (onward_far n keeps r source g.0 kind (pre_onward n keeps r source b g.0 kind e))
    where
      pre : (d : Told) → fails d ≡ false → 7 ≤ rank r.step → ReadingsAfter (Pre g kind) d
      pre Done k far = goes HealPres (record r.law { pre = with r.law.pre b; raised = with r.law.raised b }) (omega arith) far refl refl
      pre NotConnected k far = absurd (true≢false k)
      pre Failed k far = absurd (true≢false k)
      pre _ k far = goes HealPres r.law (omega arith) far refl refl
  readings_asked (Mend repair) told took source is e un = mend told un (mend_far n keeps r source repair (mend_test n keeps r source b repair e))
    where
      mend : (d : Told) → fails d ≡ false → 7 ≤ rank r.step → ReadingsAfter (Mend repair) d
      mend Done k far = goes Mends (record r.law { mended = weak.mend_cells r.law.mended r.law.number b repair }) (omega arith) far refl refl
      mend NotConnected k far = absurd (true≢false k)
      mend Failed k far = absurd (true≢false k)
      mend _ k far = goes Mends r.law (omega arith) far refl refl
  readings_asked (Settle g kind less) told took source is e un = settle told un (onward_far n keeps r source g.0 kind (settle_onward n keeps r source b g.0 kind less e))
    where
      settle : (d : Told) → fails d ≡ false → 7 ≤ rank r.step → ReadingsAfter (Settle g kind less) d
      settle Done k far = goes Settles (record r.law { settled = with r.law.settled b }) (omega arith) far refl refl
      settle NotConnected k far = absurd (true≢false k)
      settle Failed k far = absurd (true≢false k)
      settle _ k far = goes Settles r.law (omega arith) far refl refl
  readings_asked (Unlock Work area) told took source is e un = (
      let k = (frees_work n r.law b area told).0 in
      let w = weak.note_ask n r.law b (Unlock Work area) told in
      subst (λ (w : Register). Readings n keeps log (suc t) a Unlocks w.kind w.number r.first_views r.reads) (sym (kept_law (is_gone told) b w un)) (goes Unlocks w (omega arith) (settles_far n keeps r source (unlock_over n keeps r source b area e)) k.rest.kind k.number)
      )
  readings_asked (Unlock Heal area) told took source is e un = (
      let k = frees_heal n r.law b area told in
      let w = weak.note_ask n r.law b (Unlock Heal area) told in
      subst (λ (w : Register). Readings n keeps log (suc t) a HealUnlocks w.kind w.number r.first_views r.reads) (sym (kept_law (is_gone told) b w un)) (goes HealUnlocks w (omega arith) (settles_far n keeps r source (heal_unlock_over n keeps r source b area e)) k.rest.kind k.number)
      )
  readings_asked (Apply q) told took source is e un = absurd (true≢false (sym e))
  readings_asked (Post q g kind missed) told took source is e un = absurd (true≢false (sym e))
  readings_asked (ReadName g name) told took source is e un = absurd (true≢false (sym e))
  readings_asked (ReadAttr g key) told took source is e un = absurd (true≢false (sym e))
  readings_asked Index told took source is e un = absurd (true≢false (sym e))

module _ (n : ℕ) (keeps : ℕ → Kind → Bool) (log : Log) (moves : MovesExactly n keeps log) where
  pub readings_now : (t a : ℕ) → (present n keeps log t a).law.heal ≡ true → (present n keeps log t a).broken ≡ false → ReadingsIn n keeps log t a (present n keeps log t a) (present n keeps log t a).law
  readings_now = healing_now n keeps log moves (λ t a r k. ReadingsIn n keeps log t a r r.law)
      (λ t a r k h far x p e. (let w = h far x p e in (w.0, read_next n keeps log t a r.law.kind r.law.number r.first_views x p w.1)))
      (λ t a b g told took is below far. absurd (omega (arith, far)))
      (λ t a b request told took is below m un h. readings_asked n keeps log t a b (present n keeps log t a) below (newest_now n keeps log moves t a).past h request told took m.source is m.allowed un)
      (λ t a g kind is may h far x p e. absurd (cc e))
