-- The reads of a part of a heal are those that this part asks for.
use Rattle.afr_base.specs.declared.ids.Gfid.{Gfid}
use Rattle.afr_base.specs.declared.ids.Kind.{Kind}
use Rattle.afr_base.specs.declared.ids.Kind.TheVariants.{Attrs, Bytes, Names}
use Rattle.afr_model_moves.specs.Discipline.{MovesExactly, present}
use Rattle.afr_model_moves.specs.Note.{breaks, fails, given, left_in_heal, put}
use Rattle.afr_model_moves.specs.Register.{Exact, HealPres, Mends, Reads, Settles, Step, rank, span}
use Rattle.afr_model_moves.specs.Steps.{may_heal}
use Rattle.afr_law.proofs.Heals.Along.{healing_now}
use Rattle.afr_law.proofs.Heals.Holds.{fails_gone, kept_law}
use Rattle.afr_law.proofs.Heals.Reads.{readings_now}
use Rattle.afr_law.proofs.Heals.Conditions.{attrs_onward, attrs_turn, bytes_onward, bytes_turn, list_onward, list_turn, look_step, mend_test, mend_turn, onward_kind, onward_object, pre_onward, pre_turn, settle_onward, settle_turn}
use Rattle.afr_law.proofs.Discipline.Inner.{turn_low}
use Rattle.afr_model_moves.specs.Rules as weak
use Rattle.afr_model_moves.specs.Rules.{Register}
use Rattle.afr_model_moves.specs.Lines.{ask_by}
use Rattle.afr_model_moves.specs.Past.{Log, is_gone}
use Rattle.afr_model_moves.specs.Sets.{with}
use Rattle.afr_law.proofs.Discipline.Stages.{mend_far, onward_far}
use Rattle.afr_lines.specs.declared.answer.Told.{Told}
use Rattle.afr_lines.specs.declared.answer.Told.TheVariants.{Done, Failed, Given, NotConnected}
use Rattle.afr_lines.specs.declared.request.Request.{Request}
use Rattle.afr_lines.specs.declared.request.Request.TheVariants.{Apply, Index, List, Lock, Look, Mend, Post, Pre, ReadAttr, ReadAttrs, ReadBytes, ReadName, Settle, Unlock}
use Rattle.afr_lines.specs.declared.lock.Domain.TheVariants.{Heal, Work}
use Rattle.std.proofs.Common.{Bool, ap, arith, false, inl, inr, refl, subst, sym, true, true≢false, ℕ, ◌∙◌, ◌≡◌, ◌≤◌}
use Rattle.std.specs.Prelude.{None, Option, Some}
use Rattle.std.proofs.lemmas.Bool.{eqb-true}
use Rattle.afr_model_moves.proofs.Tests.{same_kind_yes, put_read}
use Rattle.afr_base.specs.Bricks.{and_left, and_right}

-- what a part of a heal of this kind reads of its object
abbrev pub read_for : ℕ → Kind → ℕ → Request
read_for g Bytes upto = ReadBytes (record { 0 = g }) upto span
read_for g Attrs upto = ReadAttrs (record { 0 = g })
read_for g Names upto = List (record { 0 = g })

-- the line at p is that read of brick x, which gave it
pub record WasRead (log : Log) (a g : ℕ) (kind : Kind) (upto x p : ℕ) : Type 0 where
  pub took : Bool
  pub is : log p ≡ Some (ask_by a x (read_for g kind upto) Given took)

-- from the looks to the settling each read is what this part asks for
abbrev pub Wanted : Log → ℕ → Step → ℕ → Kind → ℕ → (ℕ → Option ℕ) → Type 0
Wanted log a step g kind upto reads = 7 ≤ rank step → rank step ≤ 11 → (x p : ℕ) → reads x ≡ Some p → WasRead log a g kind upto x p

-- the same of a register
abbrev pub WantedIn : Log → ℕ → Exact → Register → Type 0
WantedIn log a r w = Wanted log a r.step w.object w.kind r.upto r.reads

module _ (n : ℕ) (keeps : ℕ → Kind → Bool) (log : Log) (t a b : ℕ) (r : Exact) (h : WantedIn log a r r.law) (none : rank r.step ≡ 7 → (x p : ℕ) → r.reads x ≡ Some p → ⊥) where
  -- and so after the answer to a request
  abbrev pub WantedAfter : Request → Told → Type 0
  WantedAfter request told = WantedIn log a (left_in_heal n r t b request told) (weak.dropping (is_gone told) b (weak.note_ask n r.law b request told))

  -- a later step
  goes : (next : Step) (w : Register) → 7 ≤ rank r.step → rank r.step ≤ 11 → w.object ≡ r.law.object → w.kind ≡ r.law.kind → Wanted log a next w.object w.kind r.upto r.reads
  goes next w far low object kind f l x p e = subst (λ g. WasRead log a g w.kind r.upto x p) (sym object) (subst (λ c. WasRead log a r.law.object c r.upto x p) (sym kind) (h far low x p e))

  -- a read
  reads : (request : Request) (told : Told) (took : Bool) → log t ≡ Some (ask_by a b request told took) → 7 ≤ rank r.step → rank r.step ≤ 8 → fails told ≡ false → request ≡ read_for r.law.object r.law.kind r.upto
      → Wanted log a Reads (weak.dropping (is_gone told) b r.law).object (weak.dropping (is_gone told) b r.law).kind r.upto (put r.reads b (given told t))
  reads request told took is far low ok same = subst (λ (w : Register). Wanted log a Reads w.object w.kind r.upto (put r.reads b (given told t))) (sym (kept_law (is_gone told) b r.law (fails_gone told ok))) (noted told is)
    where
      noted : (d : Told) → log t ≡ Some (ask_by a b request d took) → Wanted log a Reads r.law.object r.law.kind r.upto (put r.reads b (given d t))
      noted Given at f l x p e = elim (put_read r.reads b x p (Some t) e) [
        | inl w ↦ (let now : t ≡ p = cc (w.1) in subst (λ q. WasRead log a r.law.object r.law.kind r.upto x q) now
            (subst (λ y. WasRead log a r.law.object r.law.kind r.upto y t) (sym w.0) (record { took = took; is = at ∙ ap (λ q. Some (ask_by a b q Given took)) same })))
        | inr old ↦ h far (omega (arith, low)) x p old
      ]
      noted _ at f l x p e = elim (put_read r.reads b x p None e) [ inl w ↦ absurd (cc (w.1)) | inr old ↦ h far (omega (arith, low)) x p old ]

  -- a read of the object and kind
  for_kind : (request : Request) (kind : Kind) → kind ≡ r.law.kind → request ≡ read_for r.law.object kind r.upto → request ≡ read_for r.law.object r.law.kind r.upto
  for_kind request kind k e = e ∙ ap (λ c. read_for r.law.object c r.upto) k

  bytes_for : (source : ℕ) (g : Gfid) (at len : ℕ) → may_heal n keeps r source b (ReadBytes g at len) ≡ true → ReadBytes g at len ≡ read_for r.law.object r.law.kind r.upto
  bytes_for source g at len e = (
      let o = bytes_onward n keeps r source b g at len e in
      let object : g.0 ≡ r.law.object = eqb-true g.0 r.law.object (onward_object n keeps r source g.0 Bytes o) in
      let place : at ≡ r.upto = eqb-true at r.upto (and_right _ _ (and_left _ _ e)) in
      let long : len ≡ span = eqb-true len span (and_right _ _ e) in
      for_kind (ReadBytes g at len) Bytes (same_kind_yes Bytes r.law.kind (onward_kind n keeps r source g.0 Bytes o)) (λ i. ReadBytes (record { 0 = object i }) (place i) (long i))
      )

  attrs_for : (source : ℕ) (g : Gfid) → may_heal n keeps r source b (ReadAttrs g) ≡ true → ReadAttrs g ≡ read_for r.law.object r.law.kind r.upto
  attrs_for source g e = (
      let o = attrs_onward n keeps r source b g e in
      let object : g.0 ≡ r.law.object = eqb-true g.0 r.law.object (onward_object n keeps r source g.0 Attrs o) in
      for_kind (ReadAttrs g) Attrs (same_kind_yes Attrs r.law.kind (onward_kind n keeps r source g.0 Attrs o)) (λ i. ReadAttrs (record { 0 = object i }))
      )

  list_for : (source : ℕ) (g : Gfid) → may_heal n keeps r source b (List g) ≡ true → List g ≡ read_for r.law.object r.law.kind r.upto
  list_for source g e = (
      let o = list_onward n keeps r source b g e in
      let object : g.0 ≡ r.law.object = eqb-true g.0 r.law.object (onward_object n keeps r source g.0 Names o) in
      for_kind (List g) Names (same_kind_yes Names r.law.kind (onward_kind n keeps r source g.0 Names o)) (λ i. List (record { 0 = object i }))
      )

  pub wanted_asked : (request : Request) (told : Told) (took : Bool) (source : ℕ) → log t ≡ Some (ask_by a b request told took) → may_heal n keeps r source b request ≡ true → breaks r request told ≡ false → WantedAfter request told
  wanted_asked (Lock Heal area) told took source is e un = λ far. absurd (omega (arith, far))
  wanted_asked (Lock Work area) told took source is e un = λ far. absurd (omega (arith, far))
  wanted_asked (Look g) told took source is e un = λ far low x p m. absurd (none (look_step n keeps r source b g.0 e) x p m)
  wanted_asked (ReadBytes g at len) told took source is e un =
      reads (ReadBytes g at len) told took is (onward_far n keeps r source g.0 Bytes (bytes_onward n keeps r source b g at len e)) (turn_low n keeps r source Reads b (bytes_turn n keeps r source b g at len e)) un (bytes_for source g at len e)
  wanted_asked (ReadAttrs g) told took source is e un = reads (ReadAttrs g) told took is (onward_far n keeps r source g.0 Attrs (attrs_onward n keeps r source b g e)) (turn_low n keeps r source Reads b (attrs_turn n keeps r source b g e)) un (attrs_for source g e)
  wanted_asked (List g) told took source is e un = reads (List g) told took is (onward_far n keeps r source g.0 Names (list_onward n keeps r source b g e)) (turn_low n keeps r source Reads b (list_turn n keeps r source b g e)) un (list_for source g e)
  wanted_asked (Pre g kind) told took source is e un = pre told un (onward_far n keeps r source g.0 kind (pre_onward n keeps r source b g.0 kind e)) (turn_low n keeps r source HealPres b (pre_turn n keeps r source b g.0 kind e))
    where
      pre : (d : Told) → fails d ≡ false → 7 ≤ rank r.step → rank r.step ≤ 9 → WantedAfter (Pre g kind) d
      pre Done k far low = goes HealPres (record r.law { pre = with r.law.pre b; raised = with r.law.raised b }) far (omega (arith, low)) refl refl
      pre NotConnected k far low = absurd (true≢false k)
      pre Failed k far low = absurd (true≢false k)
      pre _ k far low = goes HealPres r.law far (omega (arith, low)) refl refl
  wanted_asked (Mend repair) told took source is e un = mend told un (mend_far n keeps r source repair (mend_test n keeps r source b repair e)) (turn_low n keeps r source Mends b (mend_turn n keeps r source b repair e))
    where
      mend : (d : Told) → fails d ≡ false → 7 ≤ rank r.step → rank r.step ≤ 10 → WantedAfter (Mend repair) d
      mend Done k far low = goes Mends (record r.law { mended = weak.mend_cells r.law.mended r.law.number b repair }) far (omega (arith, low)) refl refl
      mend NotConnected k far low = absurd (true≢false k)
      mend Failed k far low = absurd (true≢false k)
      mend _ k far low = goes Mends r.law far (omega (arith, low)) refl refl
  wanted_asked (Settle g kind less) told took source is e un = settle told un (onward_far n keeps r source g.0 kind (settle_onward n keeps r source b g.0 kind less e)) (turn_low n keeps r source Settles b (settle_turn n keeps r source b g.0 kind less e))
    where
      settle : (d : Told) → fails d ≡ false → 7 ≤ rank r.step → rank r.step ≤ 11 → WantedAfter (Settle g kind less) d
      settle Done k far low = goes Settles (record r.law { settled = with r.law.settled b }) far low refl refl
      settle NotConnected k far low = absurd (true≢false k)
      settle Failed k far low = absurd (true≢false k)
      settle _ k far low = goes Settles r.law far low refl refl
  wanted_asked (Unlock Work area) told took source is e un = λ far low. absurd (omega (arith, low))
  wanted_asked (Unlock Heal area) told took source is e un = λ far low. absurd (omega (arith, low))
  wanted_asked (Apply q) told took source is e un = absurd (true≢false (sym e))
  wanted_asked (Post q g kind missed) told took source is e un = absurd (true≢false (sym e))
  wanted_asked (ReadName g name) told took source is e un = absurd (true≢false (sym e))
  wanted_asked (ReadAttr g key) told took source is e un = absurd (true≢false (sym e))
  wanted_asked Index told took source is e un = absurd (true≢false (sym e))

module _ (n : ℕ) (keeps : ℕ → Kind → Bool) (log : Log) (moves : MovesExactly n keeps log) where
  -- at the looks nothing is read yet
  none_yet : (t a : ℕ) → (present n keeps log t a).law.heal ≡ true → (present n keeps log t a).broken ≡ false → rank (present n keeps log t a).step ≡ 7 → (x p : ℕ) → (present n keeps log t a).reads x ≡ Some p → ⊥
  none_yet t a inside whole seven x p e = (let late : 8 ≤ rank (present n keeps log t a).step = (readings_now n keeps log moves t a inside whole (omega (arith, seven)) x p e).0 in omega (arith, seven, late))

  pub wanted_now : (t a : ℕ) → (present n keeps log t a).law.heal ≡ true → (present n keeps log t a).broken ≡ false → WantedIn log a (present n keeps log t a) (present n keeps log t a).law
  wanted_now = healing_now n keeps log moves (λ t a r k. WantedIn log a r r.law)
      (λ t a r k h. h)
      (λ t a b g told took is below far. absurd (omega (arith, far)))
      (λ t a b request told took is below m un h. wanted_asked n keeps log t a b (present n keeps log t a) h (none_yet t a m.inside m.whole) request told took m.source is m.allowed un)
      (λ t a g kind is may h far low x p e. absurd (cc e))
