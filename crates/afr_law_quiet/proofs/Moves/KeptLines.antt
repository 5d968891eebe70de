-- Each request of a heal of bytes, the Mends aside, keeps what is known of the copies of its object.
use Rattle.std.proofs.Common.{◌≡◌, ℕ, ◌+◌, ◌-◌, ◌≤◌, Bool, true, false, ◌&&◌, ◌⊎◌, inl, inr, refl, sym, ap, ◌∙◌, subst, arith, true≢false, List, ◌∷◌, length, drop, min, take}
use Rattle.std.proofs.lemmas.Bool.{eqb-true}
use Rattle.std.proofs.lemmas.Bool.Decides.{nat_tests}
use Rattle.std.proofs.lemmas.List.{length-drop, length-take}
use Rattle.std.specs.Prelude.{Option, Some, if◌then◌else◌, nat_lt, ◌==◌}
use Rattle.std.specs.Option.{option_map}
use Rattle.afr_base.specs.Bricks.{and_left, and_right}
use Rattle.afr_base.specs.Kinds.{same_kind}
use Rattle.afr_base.specs.Marks.{dirtied, taken_back}
use Rattle.afr_base.specs.declared.ids.Gfid.{Gfid}
use Rattle.afr_base.specs.declared.ids.Kind.{Kind}
use Rattle.afr_base.specs.declared.ids.Kind.TheVariants.{Attrs, Bytes, Names}
use Rattle.afr_base.specs.declared.marks.Marks.{Marks}
use Rattle.afr_object.specs.Tables.{copy_at, view_of as view_of_copy, with_numbers}
use Rattle.afr_object.specs.declared.entry.View.{View}
use Rattle.afr_object.specs.Object.{Object}
use Rattle.afr_lines.specs.Log.{from_oldest}
use Rattle.afr_lines.specs.Overlap.{same_area}
use Rattle.afr_lines.specs.declared.answer.Told.{Told}
use Rattle.afr_lines.specs.declared.answer.Told.TheVariants.{Given, Seen}
use Rattle.afr_lines.specs.declared.line.Line.{Line}
use Rattle.afr_lines.specs.declared.request.Area.{Area}
use Rattle.afr_lines.specs.declared.request.Request.{Request}
use Rattle.afr_lines.specs.declared.request.Request.TheVariants.{List as ListNames, Lock, ReadAttrs, ReadBytes, Unlock}
use Rattle.afr_lines.specs.declared.lock.Domain.TheVariants.{Heal, Work}
use Rattle.afr_model.specs.Honest.{IsHonest}
use Rattle.afr_model.specs.Tables.{bytes_shown, content_in, held_before, holds}
use Rattle.afr_model_moves.proofs.AreaLemmas.{same_area_is}
use Rattle.afr_model_moves.proofs.ByPosition.{newest_at}
use Rattle.afr_model_moves.proofs.Tests.{next_not_opening, same_self}
use Rattle.afr_model_moves.specs.Lines.{ask_by, look_at, pre_on, settle_on}
use Rattle.afr_model_moves.specs.Note.{given, next_part, put, view_of}
use Rattle.afr_model_moves.specs.Register.{Exact, Finish, HealPart, HealPres, HealUnlocks, Looks, Opening, Piece, Reads, Settles, Unlocks, WorkLocks, good, holder, is_finish, is_piece, len_of, piece_area, rank, span, whole_area}
use Rattle.afr_model_moves.specs.Steps.{goes_on, may_heal, mends_over, onward, reads_at, settles_at, turn}
use Rattle.afr_plan.specs.declared.plan.Plan.{Plan}
use Rattle.afr_law_tables.specs.Codes.{kept_by}
use Rattle.afr_law.proofs.Discipline.Inner.{turn_in, turn_low}
use Rattle.afr_law.proofs.Discipline.Transactions.{held_view}
use Rattle.afr_law.proofs.Heals.Areas.{opening_or, piece_apart}
use Rattle.afr_law.proofs.Heals.Conditions.{Resumes, Starts, Waits, WorkPlace, attrs_onward, bytes_onward, bytes_turn, goes_good, heal_unlock_goes, heal_unlock_over, heal_unlock_turn, looks_far, onward_looks, pre_onward, list_onward, look_object, look_step, onward_goes, onward_kind, onward_object, pre_turn, settle_turn, settles_mends, unlock_goes, unlock_over, unlock_turn, work_place}
use Rattle.afr_law.proofs.Model.Dirty.{seen_copy}
use Rattle.afr_law_quiet.proofs.Moves.Copies.{altered, content_kept, copy_of, len_at, unchanged}
use Rattle.afr_law_quiet.proofs.Moves.Kept.{IsCut, IsReadThere, Kept, KeptIn, Sink, carry, early_cut, lens_same, mends_done, numbers_same, read_later}

-- a kind that isn't that of bytes
pub not_attrs : (kind : Kind) → kind ≡ Bytes → same_kind Attrs kind ≡ true → ⊥
not_attrs Bytes e k = true≢false (sym k)
not_attrs Attrs e k = cc e
not_attrs Names e k = cc e

pub not_names : (kind : Kind) → kind ≡ Bytes → same_kind Names kind ≡ true → ⊥
not_names Bytes e k = true≢false (sym k)
not_names Attrs e k = cc e
not_names Names e k = cc e

module _ (p : Plan) (a b : ℕ) (older : List Line) (r : Exact) (told : Told) (took : Bool) (bytes : r.law.kind ≡ Bytes) (k : KeptIn p older r) where
  -- the copies that may still be the source after a request
  abbrev pub still : Request → ℕ → Bool
  still request s = r.possible s && may_heal p.shape.n (kept_by p) r s b request

  pub less : (request : Request) (s : ℕ) → still request s ≡ true → r.possible s ≡ true
  less request s m = and_left (r.possible s) (may_heal p.shape.n (kept_by p) r s b request) m

  pub may_of : (request : Request) (s : ℕ) → still request s ≡ true → may_heal p.shape.n (kept_by p) r s b request ≡ true
  may_of request s m = and_right (r.possible s) (may_heal p.shape.n (kept_by p) r s b request) m

  -- good by the first looks
  pub good_bytes : (s : ℕ) → goes_on p.shape.n (kept_by p) r s ≡ true → good p.shape.n (kept_by p) Bytes r.first_views s ≡ true
  good_bytes s e = subst (λ (kind : Kind). good p.shape.n (kept_by p) kind r.first_views s ≡ true) bytes (goes_good p.shape.n (kept_by p) r s e)

  -- so it showed a copy
  pub source_view : (s : ℕ) → goes_on p.shape.n (kept_by p) r s ≡ true → (v : View) × (r.first_views s ≡ Some v)
  source_view s e = held_view r.first_views s (and_left (holder r.first_views s) (kept_by p s Bytes) (and_left _ _ (good_bytes s e)))

  -- ---- looks
  pub look_later : (g source : ℕ) (asks : ℕ → Bool) → may_heal p.shape.n (kept_by p) r source b (look_at g) ≡ true
      → Kept p (ask_by a b (look_at g) told took ∷ older) r.law.object Looks r.part asks (still (look_at g)) r.first_views r.reads r.upto
  look_later g source asks may = carry p (ask_by a b (look_at g) told took) older r Looks asks (still (look_at g)) r.reads k (less (look_at g)) (lens_same p line older r.law.object same) (numbers_same p line older r Looks k (omega (arith, at)) same)
      (λ s x m sink. early_cut r.step Looks r.part r.asked asks x (omega arith) (λ e. cc e)) (λ e. cc e) (λ e. absurd (omega (arith, e)))
      (λ piece low far s q m e. read_later p line older q r.upto (len_of (r.first_views s)) (k.read piece (omega (arith, at)) (omega (arith, at)) s q (less (look_at g) s m) e))
      (λ c s m. elim c [ inl later ↦ k.fit (inl later) s (less (look_at g) s m) | inr far ↦ absurd (omega (arith, far)) ])
    where
      line : Line
      line = ask_by a b (look_at g) told took

      at : rank r.step ≡ 7
      at = look_step p.shape.n (kept_by p) r source b g may

      same : (x : ℕ) → copy_of p (ask_by a b (look_at g) told took ∷ older) r.law.object x ≡ copy_of p older r.law.object x
      same x = ap (copy_at (record { 0 = r.law.object })) (unchanged took (b == x) (holds p older x))

  -- a look in the opening shows the copy as it is
  pub look_first : (g source : ℕ) (asks : ℕ → Bool) → may_heal p.shape.n (kept_by p) r source b (look_at g) ≡ true → r.part ≡ Opening → IsHonest p (ask_by a b (look_at g) told took) older
      → Kept p (ask_by a b (look_at g) told took ∷ older) r.law.object Looks r.part asks (still (look_at g)) (put r.first_views b (view_of told)) r.reads r.upto
  look_first g source asks may first honest = record {
    numbers = λ low x v e. numbers x v (put_view x v e);
    source = λ s v m e. lens s (less (look_at g) s m) v (put_view s v e);
    cut = λ s x m sink c. absurd (no_cut x c);
    filled = λ later. absurd (later first);
    filling = λ piece. absurd (cc (first, piece));
    late = λ e. absurd (omega (arith, e));
    zero = k.zero;
    ended = λ e. absurd (cc (first, e));
    read = λ piece. absurd (cc (first, piece));
    fit = λ c. elim c [ inl later ↦ absurd (later first) | inr far ↦ absurd (omega (arith, far)) ];
  }
    where
      at : rank r.step ≡ 7
      at = look_step p.shape.n (kept_by p) r source b g may

      object : g ≡ r.law.object
      object = eqb-true g r.law.object (look_object p.shape.n (kept_by p) r source b g may)

      same : (x : ℕ) → copy_of p (ask_by a b (look_at g) told took ∷ older) r.law.object x ≡ copy_of p older r.law.object x
      same x = ap (copy_at (record { 0 = r.law.object })) (unchanged took (b == x) (holds p older x))

      no_cut : (x : ℕ) → IsCut Looks r.part asks x → ⊥
      no_cut x (inl later) = later first
      no_cut x (inr (inl far)) = omega (arith, far)
      no_cut x (inr (inr w)) = cc w.0

      put_view : (x : ℕ) (v : View) → put r.first_views b (view_of told) x ≡ Some v → ((x ≡ b) × (view_of told ≡ Some v)) ⊎ (r.first_views x ≡ Some v)
      put_view x v e = pick (x == b) refl e
        where
          pick : (hit : Bool) → (x == b) ≡ hit → (if hit then view_of told else r.first_views x) ≡ Some v → ((x ≡ b) × (view_of told ≡ Some v)) ⊎ (r.first_views x ≡ Some v)
          pick true h f = inl (eqb-true x b h, f)
          pick false h f = inr f

      told_view : (d : Told) (v : View) → view_of d ≡ Some v → d ≡ Seen v
      told_view (Seen view) v e = ap Seen (cc e)
      told_view _ v e = absurd (cc e)

      shown : (v : View) → view_of told ≡ Some v → (o : Object) × (copy_of p older r.law.object b ≡ Some o) × (v ≡ view_of_copy o)
      shown v e = (
          let said = subst (λ (d : Told). IsHonest p (ask_by a b (look_at g) d took) older) (told_view told v e) honest in
          let w = seen_copy _ _ (copy_at (record { 0 = g }) (holds p older b)) v took said in
          (w.0, ap (λ (h : ℕ). copy_of p older h b) (sym object) ∙ w.1, w.2)
          )

      numbers : (x : ℕ) (v : View) → ((x ≡ b) × (view_of told ≡ Some v)) ⊎ (r.first_views x ≡ Some v) → (o : Object) × (copy_of p (ask_by a b (look_at g) told took ∷ older) r.law.object x ≡ Some o) × (o.marks.bytes.pending ≡ v.marks.bytes.pending)
      numbers x v (inl w) = (let s = shown v w.1 in (s.0, same x ∙ ap (copy_of p older r.law.object) w.0 ∙ s.1, ap (λ (u : View). u.marks.bytes.pending) (sym s.2)))
      numbers x v (inr e) = (let w = k.numbers (λ f. absurd (cc (first, f))) x v e in (w.0, same x ∙ w.1, w.2))

      lens : (s : ℕ) → r.possible s ≡ true → (v : View) → ((s ≡ b) × (view_of told ≡ Some v)) ⊎ (r.first_views s ≡ Some v) → len_at p (ask_by a b (look_at g) told took ∷ older) r.law.object s ≡ v.len
      lens s m v (inl w) = (let q = shown v w.1 in ap (λ (o : Option Object). length (content_in o)) (same s ∙ ap (copy_of p older r.law.object) w.0 ∙ q.1) ∙ ap (λ (u : View). u.len) (sym q.2))
      lens s m v (inr e) = lens_same p (ask_by a b (look_at g) told took) older r.law.object same s ∙ k.source s v m e

  -- ---- reads
  pub read_bytes : (g : Gfid) (at len source : ℕ) (asks : ℕ → Bool) → may_heal p.shape.n (kept_by p) r source b (ReadBytes g at len) ≡ true
      → Kept p (ask_by a b (ReadBytes g at len) told took ∷ older) r.law.object Reads r.part asks (still (ReadBytes g at len)) r.first_views (put r.reads b (given told (length older))) r.upto
  read_bytes g at len source asks may = carry p line older r Reads asks (still (ReadBytes g at len)) (put r.reads b (given told (length older))) k (less (ReadBytes g at len)) (lens_same p line older r.law.object same)
      (numbers_same p line older r Reads k (turn_low p.shape.n (kept_by p) r source Reads b (bytes_turn p.shape.n (kept_by p) r source b g at len may)) same)
      (λ s x m sink. early_cut r.step Reads r.part r.asked asks x (omega arith) (λ e. cc e)) (λ e. cc e) (λ e. absurd (omega (arith, e)))
      (λ piece low far s q m e. read piece s q m e)
      (λ c s m. elim c [ inl later ↦ k.fit (inl later) s (less (ReadBytes g at len) s m) | inr far ↦ absurd (omega (arith, far)) ])
    where
      line : Line
      line = ask_by a b (ReadBytes g at len) told took

      same : (x : ℕ) → copy_of p (ask_by a b (ReadBytes g at len) told took ∷ older) r.law.object x ≡ copy_of p older r.law.object x
      same x = ap (copy_at (record { 0 = r.law.object })) (unchanged took (b == x) (holds p older x))

      here : (s : ℕ) (kind : Kind) (part : HealPart) → kind ≡ Bytes → part ≡ Piece → reads_at p.shape.n (kept_by p) r s kind part b ≡ true → b ≡ s
      here s Bytes Piece e f m = eqb-true b s m
      here s Bytes Opening e f m = absurd (cc f)
      here s Bytes Finish e f m = absurd (cc f)
      here s Attrs part e f m = absurd (cc e)
      here s Names part e f m = absurd (cc e)

      was_given : (d : Told) (q : ℕ) → given d (length older) ≡ Some q → q ≡ length older
      was_given Given q e = cc e
      was_given _ q e = absurd (cc e)

      read : r.part ≡ Piece → (s q : ℕ) → still (ReadBytes g at len) s ≡ true → put r.reads b (given told (length older)) s ≡ Some q → IsReadThere p (ask_by a b (ReadBytes g at len) told took ∷ older) q r.upto (len_of (r.first_views s))
      read piece s q m e = subst (λ (j : ℕ). IsReadThere p (line ∷ older) j r.upto (len_of (r.first_views s))) (sym q_is) (omega arith, shown)
        where
          test : may_heal p.shape.n (kept_by p) r s b (ReadBytes g at len) ≡ true
          test = may_of (ReadBytes g at len) s m

          b_is : b ≡ s
          b_is = here s r.law.kind r.part bytes piece (turn_in p.shape.n (kept_by p) r s Reads b (bytes_turn p.shape.n (kept_by p) r s b g at len test))

          q_is : q ≡ length older
          q_is = was_given told q (there (s == b) refl e)
            where
              there : (hit : Bool) → (s == b) ≡ hit → (if hit then given told (length older) else r.reads s) ≡ Some q → given told (length older) ≡ Some q
              there true h f = f
              there false h f = absurd (true≢false (sym (rw b_is (same_self s)) ∙ h))

          v : (v : View) × (r.first_views s ≡ Some v)
          v = source_view s (onward_goes p.shape.n (kept_by p) r s g.0 Bytes (bytes_onward p.shape.n (kept_by p) r s b g at len test))

          content : List ℕ
          content = content_in (copy_at g (holds p older b))

          long : length content ≡ len_of (r.first_views s)
          long = (λ i. length (content_in (copy_at g (holds p older (b_is i)))))
              ∙ (λ i. length (content_in (copy_of p older (object i) s))) ∙ k.source s v.0 (less (ReadBytes g at len) s m) v.1 ∙ ap len_of (sym v.1)
            where
              object : g.0 ≡ r.law.object
              object = eqb-true g.0 r.law.object (onward_object p.shape.n (kept_by p) r s g.0 Bytes (bytes_onward p.shape.n (kept_by p) r s b g at len test))

          first : Bool
          first = onward p.shape.n (kept_by p) r s g.0 Bytes && turn p.shape.n (kept_by p) r s Reads b

          at_is : at ≡ r.upto
          at_is = eqb-true at r.upto (and_right first (at == r.upto) (and_left (first && (at == r.upto)) (len == span) test))

          len_is : len ≡ 131072
          len_is = eqb-true len span (and_right (first && (at == r.upto)) (len == span) test)

          shown : length (bytes_shown (held_before p (line ∷ older)) (length older) (from_oldest (length older) (line ∷ older))) ≡ min 131072 (len_of (r.first_views s) - r.upto)
          shown = (λ i. length (bytes_shown (held_before p (line ∷ older)) (length older) (newest_at line older i)))
              ∙ (λ i. length (take len (drop at (content_in (copy_at g (if same_self (length older) i then holds p older b else held_before p older (length older) b))))))
              ∙ length-take len (drop at content) ∙ (let d = length-drop at content in omega (arith, d, long, at_is, len_is))

  pub read_attrs : (g : Gfid) (source : ℕ) → may_heal p.shape.n (kept_by p) r source b (ReadAttrs g) ≡ true → ⊥
  read_attrs g source may = not_attrs r.law.kind bytes (onward_kind p.shape.n (kept_by p) r source g.0 Attrs (attrs_onward p.shape.n (kept_by p) r source b g may))

  pub list_names : (g : Gfid) (source : ℕ) → may_heal p.shape.n (kept_by p) r source b (ListNames g) ≡ true → ⊥
  list_names g source may = not_names r.law.kind bytes (onward_kind p.shape.n (kept_by p) r source g.0 Names (list_onward p.shape.n (kept_by p) r source b g may))

  -- ---- a pre-op raises dirty numbers alone
  pub pre : (g : ℕ) (kind : Kind) (source : ℕ) (asks : ℕ → Bool) → may_heal p.shape.n (kept_by p) r source b (pre_on g kind) ≡ true
      → Kept p (ask_by a b (pre_on g kind) told took ∷ older) r.law.object HealPres r.part asks (still (pre_on g kind)) r.first_views r.reads r.upto
  pre g kind source asks may = carry p line older r HealPres asks (still (pre_on g kind)) r.reads k (less (pre_on g kind)) lens (λ low x v e. numbers x v e)
      (λ s x m sink. early_cut r.step HealPres r.part r.asked asks x (omega arith) (λ e. cc e)) (λ e. cc e) (λ e. absurd (omega (arith, e)))
      (λ piece low far s q m e. read_later p line older q r.upto (len_of (r.first_views s)) (k.read piece (omega (arith, under)) (looked s m) s q (less (pre_on g kind) s m) e))
      (λ c s m. elim c [ inl later ↦ k.fit (inl later) s (less (pre_on g kind) s m) | inr far ↦ absurd (omega (arith, far)) ])
    where
      line : Line
      line = ask_by a b (pre_on g kind) told took

      under : rank r.step ≤ 9
      under = turn_low p.shape.n (kept_by p) r source HealPres b (pre_turn p.shape.n (kept_by p) r source b g kind may)

      looked : (s : ℕ) → still (pre_on g kind) s ≡ true → 7 ≤ rank r.step
      looked s m = looks_far p.shape.n (kept_by p) r s (onward_looks p.shape.n (kept_by p) r s g kind (pre_onward p.shape.n (kept_by p) r s b g kind (may_of (pre_on g kind) s m)))

      change : (x : ℕ) → (copy_of p (ask_by a b (pre_on g kind) told took ∷ older) r.law.object x ≡ copy_of p older r.law.object x)
          ⊎ ((took ≡ true) × ((b == x) ≡ true) × (copy_of p (ask_by a b (pre_on g kind) told took ∷ older) r.law.object x ≡ option_map (with_numbers kind dirtied) (copy_of p older r.law.object x)))
      change x = altered (with_numbers kind dirtied) took (b == x) (record { 0 = g }) (record { 0 = r.law.object }) (holds p older x)

      lens : (x : ℕ) → len_at p (ask_by a b (pre_on g kind) told took ∷ older) r.law.object x ≡ len_at p older r.law.object x
      lens x = elim (change x) [
        | inl same ↦ ap (λ (o : Option Object). length (content_in o)) same
        | inr w ↦ ap (λ (o : Option Object). length (content_in o)) w.2 ∙ ap length (content_kept (with_numbers kind dirtied) (λ o. refl) (copy_of p older r.law.object x))
      ]

      pending : (kind : Kind) (o : Object) → (with_numbers kind dirtied o).marks.bytes.pending ≡ o.marks.bytes.pending
      pending Bytes o = refl
      pending Attrs o = refl
      pending Names o = refl

      numbers : (x : ℕ) (v : View) → r.first_views x ≡ Some v → (o : Object) × (copy_of p (ask_by a b (pre_on g kind) told took ∷ older) r.law.object x ≡ Some o) × (o.marks.bytes.pending ≡ v.marks.bytes.pending)
      numbers x v e = (
          let w = k.numbers (λ f. omega (arith, under)) x v e in
          elim (change x) as (λ _. (o : Object) × (copy_of p (ask_by a b (pre_on g kind) told took ∷ older) r.law.object x ≡ Some o) × (o.marks.bytes.pending ≡ v.marks.bytes.pending)) [
            | inl same ↦ (w.0, same ∙ w.1, w.2)
            | inr q ↦ (with_numbers kind dirtied w.0, q.2 ∙ ap (option_map (with_numbers kind dirtied)) w.1, pending kind w.0 ∙ w.2)
          ]
          )

  -- ---- a settling comes in the finish alone
  pub settle : (g : ℕ) (kind : Kind) (down : Marks) (source : ℕ) (asks : ℕ → Bool) → may_heal p.shape.n (kept_by p) r source b (settle_on g kind down) ≡ true
      → Kept p (ask_by a b (settle_on g kind down) told took ∷ older) r.law.object Settles r.part asks (still (settle_on g kind down)) r.first_views r.reads r.upto
  settle g kind down source asks may = carry p line older r Settles asks (still (settle_on g kind down)) r.reads k (less (settle_on g kind down)) lens (λ low. absurd (let l = low finish in omega (arith, l)))
      (λ s x m sink c. inl (λ e. cc (finish, e))) (λ e. cc e) (λ e. finish) (λ piece low. absurd (omega (arith, low)))
      (λ c s m. k.fit (inl (λ e. cc (finish, e))) s (less (settle_on g kind down) s m))
    where
      line : Line
      line = ask_by a b (settle_on g kind down) told took

      last : (kind : Kind) (part : HealPart) → kind ≡ Bytes → settles_at r kind part b ≡ true → part ≡ Finish
      last Bytes Finish e m = refl
      last Bytes Opening e m = absurd (true≢false (sym m))
      last Bytes Piece e m = absurd (true≢false (sym m))
      last Attrs part e m = absurd (cc e)
      last Names part e m = absurd (cc e)

      finish : r.part ≡ Finish
      finish = last r.law.kind r.part bytes (turn_in p.shape.n (kept_by p) r source Settles b (settle_turn p.shape.n (kept_by p) r source b g kind down may))

      lens : (x : ℕ) → len_at p (ask_by a b (settle_on g kind down) told took ∷ older) r.law.object x ≡ len_at p older r.law.object x
      lens x = elim (altered (with_numbers kind (taken_back down)) took (b == x) (record { 0 = g }) (record { 0 = r.law.object }) (holds p older x)) [
        | inl same ↦ ap (λ (o : Option Object). length (content_in o)) same
        | inr w ↦ ap (λ (o : Option Object). length (content_in o)) w.2 ∙ ap length (content_kept (with_numbers kind (taken_back down)) (λ o. refl) (copy_of p older r.law.object x))
      ]

  -- ---- unlocks
  -- where the Mends are over, each sink is cut
  cut_over : (s x : ℕ) → mends_over p.shape.n (kept_by p) r s ≡ true → Sink p r.first_views s x → IsCut r.step r.part r.asked x
  cut_over s x over sink = elim (opening_or r.part) [
    | inl first ↦ inr (mends_done p r s x bytes (λ f. cc (first, f)) over sink)
    | inr later ↦ inl later
  ]

  pub unlock_heal : (area : Area) (source : ℕ) (asks : ℕ → Bool) → may_heal p.shape.n (kept_by p) r source b (Unlock Heal area) ≡ true
      → Kept p (ask_by a b (Unlock Heal area) told took ∷ older) r.law.object HealUnlocks r.part asks (still (Unlock Heal area)) r.first_views r.reads r.upto
  unlock_heal area source asks may = carry p line older r HealUnlocks asks (still (Unlock Heal area)) r.reads k (less (Unlock Heal area)) (lens_same p line older r.law.object same) (numbers_same p line older r HealUnlocks k up same)
      (λ s x m sink c. cut_over s x (settles_mends p.shape.n (kept_by p) r s (heal_unlock_over p.shape.n (kept_by p) r s b area (may_of (Unlock Heal area) s m))) sink) (λ e. cc e) (λ e. absurd (omega (arith, e))) (λ piece low. absurd (omega (arith, low)))
      (λ c s m. good_bytes s (heal_unlock_goes p.shape.n (kept_by p) r s b area (may_of (Unlock Heal area) s m)))
    where
      line : Line
      line = ask_by a b (Unlock Heal area) told took

      up : rank r.step ≤ 13
      up = turn_low p.shape.n (kept_by p) r source HealUnlocks b (heal_unlock_turn p.shape.n (kept_by p) r source b area may)

      same : (x : ℕ) → copy_of p (ask_by a b (Unlock Heal area) told took ∷ older) r.law.object x ≡ copy_of p older r.law.object x
      same x = ap (copy_at (record { 0 = r.law.object })) (unchanged took (b == x) (holds p older x))

  pub unlock_work : (area : Area) (source : ℕ) (asks : ℕ → Bool) → may_heal p.shape.n (kept_by p) r source b (Unlock Work area) ≡ true
      → Kept p (ask_by a b (Unlock Work area) told took ∷ older) r.law.object Unlocks r.part asks (still (Unlock Work area)) r.first_views r.reads (if is_piece r.part && nat_lt (rank r.step) (rank Unlocks) then r.upto + span else r.upto)
  unlock_work area source asks may = go (is_piece r.part && nat_lt (rank r.step) 12) refl
    where
      line : Line
      line = ask_by a b (Unlock Work area) told took

      up : rank r.step ≤ 12
      up = turn_low p.shape.n (kept_by p) r source Unlocks b (unlock_turn p.shape.n (kept_by p) r source b area may)

      same : (x : ℕ) → copy_of p (ask_by a b (Unlock Work area) told took ∷ older) r.law.object x ≡ copy_of p older r.law.object x
      same x = ap (copy_at (record { 0 = r.law.object })) (unchanged took (b == x) (holds p older x))

      lens : (x : ℕ) → len_at p (ask_by a b (Unlock Work area) told took ∷ older) r.law.object x ≡ len_at p older r.law.object x
      lens = lens_same p line older r.law.object same

      over : (s : ℕ) → still (Unlock Work area) s ≡ true → mends_over p.shape.n (kept_by p) r s ≡ true
      over s m = settles_mends p.shape.n (kept_by p) r s (unlock_over p.shape.n (kept_by p) r s b area (may_of (Unlock Work area) s m))

      fit : (s : ℕ) → still (Unlock Work area) s ≡ true → good p.shape.n (kept_by p) Bytes r.first_views s ≡ true
      fit s m = good_bytes s (unlock_goes p.shape.n (kept_by p) r s b area (may_of (Unlock Work area) s m))

      piece_is : (part : HealPart) → is_piece part ≡ true → part ≡ Piece
      piece_is Piece e = refl
      piece_is Opening e = absurd (true≢false (sym e))
      piece_is Finish e = absurd (true≢false (sym e))

      low_is : nat_lt (rank r.step) 12 ≡ true → rank r.step ≤ 11
      low_is e = grind (arith, nat_tests)

      go : (more : Bool) → (is_piece r.part && nat_lt (rank r.step) 12) ≡ more
          → Kept p (ask_by a b (Unlock Work area) told took ∷ older) r.law.object Unlocks r.part asks (still (Unlock Work area)) r.first_views r.reads (if more then r.upto + span else r.upto)
      go false e = carry p line older r Unlocks asks (still (Unlock Work area)) r.reads k (less (Unlock Work area)) lens (numbers_same p line older r Unlocks k up same)
          (λ s x m sink c. cut_over s x (over s m) sink) (λ e. cc e) (λ e. absurd (omega (arith, e))) (λ piece low. absurd (omega (arith, low))) (λ c s m. fit s m)
      go true e = (
          let piece : r.part ≡ Piece = piece_is r.part (and_left (is_piece r.part) (nat_lt (rank r.step) 12) e) in
          let low : rank r.step ≤ 11 = low_is (and_right (is_piece r.part) (nat_lt (rank r.step) 12) e) in
          record {
            numbers = λ f. absurd_or piece f;
            source = λ s v m f. lens s ∙ k.source s v (less (Unlock Work area) s m) f;
            cut = λ s x m sink c. subst (λ (l : ℕ). l ≤ len_of (r.first_views s)) (sym (lens x)) (k.cut s x (less (Unlock Work area) s m) sink (inl (λ f. cc (piece, f))));
            filled = λ later s x m sink. subst (λ (l : ℕ). min (r.upto + span) (len_of (r.first_views s)) ≤ l) (sym (lens x)) (filled_now piece low s x m sink);
            filling = λ f g. absurd (cc g);
            late = λ f. absurd (omega (arith, f));
            zero = λ f. absurd (cc (piece, f));
            ended = λ f. absurd (cc (piece, f));
            read = λ f near. absurd (omega (arith, near));
            fit = λ c s m. fit s m;
          }
          )
        where
          absurd_or : r.part ≡ Piece → (r.part ≡ Finish → rank Unlocks ≤ 10) → (x : ℕ) (v : View) → r.first_views x ≡ Some v → (o : Object) × (copy_of p (ask_by a b (Unlock Work area) told took ∷ older) r.law.object x ≡ Some o) × (o.marks.bytes.pending ≡ v.marks.bytes.pending)
          absurd_or piece f = numbers_same p line older r Unlocks k up same f

          filled_now : r.part ≡ Piece → rank r.step ≤ 11 → (s x : ℕ) → still (Unlock Work area) s ≡ true → Sink p r.first_views s x → min (r.upto + span) (len_of (r.first_views s)) ≤ len_at p older r.law.object x
          filled_now piece low s x m sink = elim (mends_done p r s x bytes (λ f. cc (piece, f)) (over s m) sink) [
            | inl far ↦ absurd (let at : rank r.step ≡ 11 = omega (arith, far, low) in cc (piece, k.late at))
            | inr w ↦ k.filling piece w.0 s x (less (Unlock Work area) s m) sink w.1
          ]

  -- ---- Work locks
  pub lock_work : (area : Area) (source : ℕ) (asks : ℕ → Bool) → may_heal p.shape.n (kept_by p) r source b (Lock Work area) ≡ true
      → Kept p (ask_by a b (Lock Work area) told took ∷ older) r.law.object WorkLocks (next_part r area) asks (still (Lock Work area)) r.first_views r.reads r.upto
  lock_work area source asks may = record {
    numbers = λ low x v e. (let w = k.numbers old_low x v e in (w.0, same x ∙ w.1, w.2));
    source = λ s v m e. lens s ∙ k.source s v (less (Lock Work area) s m) e;
    cut = λ s x m sink c. subst (λ (l : ℕ). l ≤ len_of (r.first_views s)) (sym (lens x)) (k.cut s x (less (Lock Work area) s m) sink (was_cut x c));
    filled = λ later s x m sink. subst (λ (l : ℕ). min r.upto (len_of (r.first_views s)) ≤ l) (sym (lens x)) (filled s x m sink);
    filling = λ f e. absurd (cc e);
    late = λ e. absurd (omega (arith, e));
    zero = zero;
    ended = λ e s m. ended s m (place_of_it s m) e;
    read = λ f low far. absurd (omega (arith, far));
    fit = λ c s m. elim c [ inl later ↦ k.fit (was_far later) s (less (Lock Work area) s m) | inr far ↦ absurd (omega (arith, far)) ];
  }
    where
      place_of_it : (s : ℕ) → still (Lock Work area) s ≡ true → WorkPlace p.shape.n (kept_by p) r s b area
      place_of_it s m = work_place p.shape.n (kept_by p) r s b area (may_of (Lock Work area) s m)

      place : WorkPlace p.shape.n (kept_by p) r source b area
      place = work_place p.shape.n (kept_by p) r source b area may

      same : (x : ℕ) → copy_of p (ask_by a b (Lock Work area) told took ∷ older) r.law.object x ≡ copy_of p older r.law.object x
      same x = ap (copy_at (record { 0 = r.law.object })) (unchanged took (b == x) (holds p older x))

      lens : (x : ℕ) → len_at p (ask_by a b (Lock Work area) told took ∷ older) r.law.object x ≡ len_at p older r.law.object x
      lens = lens_same p (ask_by a b (Lock Work area) told took) older r.law.object same

      no_finish : is_finish r.part ≡ false → r.part ≡ Finish → ⊥
      no_finish e f = true≢false (sym (ap is_finish f) ∙ e)

      by_place : WorkPlace p.shape.n (kept_by p) r source b area → ((rank r.step ≤ 6) × (next_part r area ≡ r.part)) ⊎ ((rank r.step ≡ 12) × (next_part r area ≡ (if same_area (whole_area r.law.object Bytes) area then Finish else Piece)) × (is_finish r.part ≡ false))
      by_place (Waits at unmoved own lock fresh) = inl (omega (arith, ap rank at), unmoved)
      by_place (Starts five unmoved lock) = inl (omega (arith, five), unmoved)
      by_place (Resumes twelve unmoved idle kind unfinished lock next) = inr (twelve, unmoved, unfinished)

      old_low : r.part ≡ Finish → rank r.step ≤ 10
      old_low f = elim (by_place place) [ inl w ↦ (let l = w.0 in omega (arith, l)) | inr w ↦ absurd (no_finish w.2 f) ]

      was_far : (next_part r area ≡ Opening → ⊥) → (r.part ≡ Opening → ⊥) ⊎ (12 ≤ rank r.step)
      was_far later = elim (by_place place) [ inl w ↦ inl (λ e. later (w.1 ∙ e)) | inr w ↦ inr (let l = w.0 in omega (arith, l)) ]

      was_cut : (x : ℕ) → IsCut WorkLocks (next_part r area) asks x → IsCut r.step r.part r.asked x
      was_cut x (inl later) = elim (was_far later) [ inl old ↦ inl old | inr far ↦ inr (inl (omega (arith, far))) ]
      was_cut x (inr (inl far)) = absurd (omega (arith, far))
      was_cut x (inr (inr w)) = absurd (cc w.0)

      filled : (s x : ℕ) → still (Lock Work area) s ≡ true → Sink p r.first_views s x → min r.upto (len_of (r.first_views s)) ≤ len_at p older r.law.object x
      filled s x m sink = elim (opening_or r.part) [
        | inl first ↦ (let z = k.zero first in omega (arith, z))
        | inr later ↦ k.filled later s x (less (Lock Work area) s m) sink
      ]

      zero : next_part r area ≡ Opening → r.upto ≡ 0
      zero e = elim (by_place place) [ inl w ↦ k.zero (sym w.1 ∙ e) | inr w ↦ absurd (next_not_opening (same_area (whole_area r.law.object Bytes) area) (sym w.1 ∙ e)) ]

      ended : (s : ℕ) → still (Lock Work area) s ≡ true → WorkPlace p.shape.n (kept_by p) r s b area → next_part r area ≡ Finish → len_of (r.first_views s) ≤ r.upto
      ended s m (Waits at unmoved own lock fresh) e = k.ended (sym unmoved ∙ e) s (less (Lock Work area) s m)
      ended s m (Starts five unmoved lock) e = k.ended (sym unmoved ∙ e) s (less (Lock Work area) s m)
      ended s m (Resumes twelve unmoved idle kind unfinished lock next) e = test (nat_lt r.upto (len_of (r.first_views s))) refl next
        where
          past_it : nat_lt r.upto (len_of (r.first_views s)) ≡ false → len_of (r.first_views s) ≤ r.upto
          past_it f = grind (arith, nat_tests)

          whole : (hit : Bool) → same_area (whole_area r.law.object Bytes) area ≡ hit → (if hit then Finish else Piece) ≡ Finish → same_area (whole_area r.law.object Bytes) area ≡ true
          whole true h f = h
          whole false h f = absurd (cc f)

          test : (more : Bool) → nat_lt r.upto (len_of (r.first_views s)) ≡ more → (if more then same_area (piece_area r.law.object r.upto) area else same_area (whole_area r.law.object Bytes) area) ≡ true → len_of (r.first_views s) ≤ r.upto
          test true h f = absurd (true≢false (sym (ap (same_area (whole_area r.law.object Bytes)) (same_area_is (piece_area r.law.object r.upto) area f) ∙ whole (same_area (whole_area r.law.object Bytes) area) refl (sym unmoved ∙ e)) ∙ piece_apart r.law.object r.upto))
          test false h f = past_it h
