-- What a later look of a heal of bytes shows: nothing against the source, and at the finish its length.
use Rattle.std.proofs.Common.{◌≡◌, ℕ, ◌<◌, ◌≤◌, Bool, true, false, ◌&&◌, ◌⊎◌, inl, inr, refl, sym, ap, ◌∙◌, subst, arith, true≢false, List, [], ◌∷◌, length, not}
use Rattle.std.specs.Prelude.{Option, None, Some, ◌==◌, is_some, nat_lt, slice_index}
use Rattle.std.proofs.lemmas.Bool.{and_from, eqb-true, not-true}
use Rattle.std.proofs.lemmas.Bool.Decides.{nat_tests}
use Rattle.afr_base.specs.Bricks.{and_left, and_right, is_nothing, lowest, member, minus}
use Rattle.afr_base.specs.Keeping.{keeps}
use Rattle.afr_base.specs.SetLemmas.{lowest_in, member_minus}
use Rattle.afr_base.specs.declared.ids.Kind.{Kind}
use Rattle.afr_base.specs.declared.ids.Kind.TheVariants.{Bytes}
use Rattle.afr_choice.specs.Looks.{view_at}
use Rattle.afr_choice.specs.Verdict.{copies_of, is_copy}
use Rattle.afr_choice.specs.VerdictLemmas.{copies_below, member_copies}
use Rattle.afr_choice.specs.declared.looked.Looked.{Looked}
use Rattle.afr_object.specs.declared.entry.View.{View}
use Rattle.afr_object.specs.Object.{Object}
use Rattle.afr_lines.specs.declared.answer.Told.{Told}
use Rattle.afr_lines.specs.declared.answer.Told.TheVariants.{NoObject, Seen}
use Rattle.afr_lines.specs.declared.line.Line.{Line}
use Rattle.afr_model.specs.Healing.{First}
use Rattle.afr_model.specs.Honest.{IsHonest}
use Rattle.afr_model.specs.Moved.{len_in}
use Rattle.afr_model.specs.Tables.{content_in, holds}
use Rattle.afr_model_moves.proofs.Tests.{all_yes, same_self}
use Rattle.afr_model_moves.specs.Lines.{ask_by, look_at}
use Rattle.afr_model_moves.specs.Register.{Exact, Finish, HealPart, Opening, Piece, accuses, good, holder, len_of, rank, unaccused}
use Rattle.afr_model_moves.specs.Rules.{is_none}
use Rattle.afr_model_moves.specs.Tally.{Tally}
use Rattle.afr_plan.specs.declared.plan.Plan.{Plan}
use Rattle.afr_law_tables.specs.Codes.{kept_by}
use Rattle.afr_law.proofs.Discipline.Transactions.{held_view}
use Rattle.afr_law.proofs.Heals.Raises.{RaisesIn, raise_set}
use Rattle.afr_law.proofs.Model.Dirty.{seen_copy}
use Rattle.afr_law_quiet.proofs.Moves.Absent.{IsAbsent, unseen_copy}
use Rattle.afr_law_quiet.proofs.Moves.Copies.{copy_of, len_at}
use Rattle.afr_law_quiet.proofs.Moves.Kept.{KeptIn, Sink}
use Rattle.afr_law_quiet.proofs.Moves.Shows.{Row, Shows, source_in}

holder_some : (v : Option View) → not (is_none v) ≡ true → is_some v ≡ true
holder_some None e = absurd (true≢false (sym e))
holder_some (Some view) e = refl

some_holder : (v : Option View) → is_some v ≡ true → not (is_none v) ≡ true
some_holder None e = absurd (true≢false (sym e))
some_holder (Some view) e = refl

len_is : (v : Option View) → len_in v ≡ len_of v
len_is None = refl
len_is (Some view) = refl

pub none_against : (k : ℕ) → not (not (k == 0)) ≡ true → k ≡ 0
none_against k e = grind (arith, nat_tests)

module _ (p : Plan) (a : ℕ) (older : List Line) (r : Exact) (t : Tally) (few : p.shape.n ≤ 5) (bytes : r.law.kind ≡ Bytes) (k : KeptIn p older r) (none : IsAbsent p a older r.law.object r.first_reached r.first_views) (raised : RaisesIn p.shape.n (kept_by p) r r.law t)
    (f : First) (begun : ℕ) (prepares : List ℕ) (before : Looked) (whole : Bool) (shows : Shows p.shape.n r.step r.part r.first_views r.law.raised f begun prepares before whole) (later : r.part ≡ Opening → ⊥) (s : ℕ) (below : s < p.shape.n) (possible : r.possible s ≡ true) where
  source_good : good p.shape.n (kept_by p) Bytes r.first_views s ≡ true
  source_good = k.fit (inl later) s possible

  small : (x : ℕ) → x < p.shape.n → x < 5
  small x low = omega (arith, low, few)

  source_holds : holder r.first_views s ≡ true
  source_holds = and_left (holder r.first_views s) (kept_by p s Bytes) (and_left (holder r.first_views s && kept_by p s Bytes) (unaccused p.shape.n Bytes r.first_views s) source_good)

  source_keeps : keeps p.shape Bytes s ≡ true
  source_keeps = and_right (nat_lt s 5) (keeps p.shape Bytes s) (and_right (holder r.first_views s) (kept_by p s Bytes) (and_left (holder r.first_views s && kept_by p s Bytes) (unaccused p.shape.n Bytes r.first_views s) source_good))

  -- what the register has as a holder is one by the first looks
  copy_is : (x : ℕ) → x < p.shape.n → holder r.first_views x ≡ true → keeps p.shape Bytes x ≡ true → is_copy p.shape f.looked Bytes x ≡ true
  copy_is x low holds keep = (
      let shown : is_some (view_at x f.looked) ≡ true = subst (λ (v : Option View). is_some v ≡ true) (sym (shows.viewed x (small x low))) (holder_some (r.first_views x) holds) in
      and_from (member f.looked.reached x && is_some (view_at x f.looked)) (keeps p.shape Bytes x) (and_from (member f.looked.reached x) (is_some (view_at x f.looked)) (shows.seen x (small x low) shown) shown) keep
      )

  -- and the other way round
  copy_holds : (x : ℕ) → is_copy p.shape f.looked Bytes x ≡ true → (x < p.shape.n) × (holder r.first_views x ≡ true) × (keeps p.shape Bytes x ≡ true)
  copy_holds x e = (
      let two = and_left (member f.looked.reached x && is_some (view_at x f.looked)) (keeps p.shape Bytes x) e in
      let low : x < p.shape.n = shows.low x (and_left (member f.looked.reached x) (is_some (view_at x f.looked)) two) in
      (low, some_holder (r.first_views x) (subst (λ (v : Option View). is_some v ≡ true) (shows.viewed x (small x low)) (and_right (member f.looked.reached x) (is_some (view_at x f.looked)) two)), and_right (member f.looked.reached x && is_some (view_at x f.looked)) (keeps p.shape Bytes x) e)
      )

  sink_of : (x : ℕ) → is_copy p.shape f.looked Bytes x ≡ true → (x == s) ≡ false → Sink p r.first_views s x
  sink_of x e apart = (
      let c = copy_holds x e in
      let under : nat_lt x 5 ≡ true = low_test x (small x c.0) in
      (c.0, and_from (holder r.first_views x && not (x == s)) (kept_by p x Bytes) (and_from (holder r.first_views x) (not (x == s)) c.1 (ap not apart)) (and_from (nat_lt x 5) (keeps p.shape Bytes x) under c.2))
      )
    where
      low_test : (x : ℕ) → x < 5 → nat_lt x 5 ≡ true
      low_test x l = grind (arith, nat_tests)

  -- every sink was raised, and the source wasn't
  sink_raised : (x : ℕ) → Sink p r.first_views s x → member prepares x ≡ true
  sink_raised x sink = shows.raises x ∙ raised.all_raised (inl later) s x possible sink.0 (subst (λ (kind : Kind). raise_set (kept_by p) r.first_views s kind x ≡ true) (sym bytes) sink.1)

  source_unraised : member prepares s ≡ false
  source_unraised = go (member prepares s) refl
    where
      apart : raise_set (kept_by p) r.first_views s Bytes s ≡ true → ⊥
      apart e = true≢false (sym (and_right (holder r.first_views s) (not (s == s)) (and_left (holder r.first_views s && not (s == s)) (kept_by p s Bytes) e)) ∙ ap not (same_self s))

      go : (x : Bool) → member prepares s ≡ x → x ≡ false
      go false e = refl
      go true e = absurd (apart (subst (λ (kind : Kind). raise_set (kept_by p) r.first_views s kind s ≡ true) bytes (raised.aside s s (raised.counted s (sym (shows.raises s) ∙ e)) possible)))

  -- so the copy on which no number was raised is the source
  pub source_is : source_in p.shape f.looked prepares ≡ s
  source_is = only (lowest rest) (in_rest (is_nothing rest) refl)
    where
      rest : List ℕ
      rest = minus (copies_of p.shape f.looked Bytes) prepares

      source_in_rest : member rest s ≡ true
      source_in_rest = member_minus (copies_of p.shape f.looked Bytes) prepares s ∙ and_from (not (member prepares s)) (member (copies_of p.shape f.looked Bytes) s) (ap not source_unraised)
          (member_copies p.shape f.looked Bytes s (small s below) ∙ copy_is s below source_holds source_keeps)

      nothing : (xs : List ℕ) → is_nothing xs ≡ true → member xs s ≡ true → ⊥
      nothing [] e m = true≢false (sym m)
      nothing (x ∷ xs) e m = true≢false (sym e)

      in_rest : (empty : Bool) → is_nothing rest ≡ empty → member rest (lowest rest) ≡ true
      in_rest true e = absurd (nothing rest e source_in_rest)
      in_rest false e = lowest_in rest e

      only : (x : ℕ) → member rest x ≡ true → x ≡ s
      only x m = go (x == s) refl
        where
          two : (not (member prepares x) && member (copies_of p.shape f.looked Bytes) x) ≡ true
          two = sym (member_minus (copies_of p.shape f.looked Bytes) prepares x) ∙ m

          listed : member (copies_of p.shape f.looked Bytes) x ≡ true
          listed = and_right (not (member prepares x)) (member (copies_of p.shape f.looked Bytes) x) two

          copy : is_copy p.shape f.looked Bytes x ≡ true
          copy = sym (member_copies p.shape f.looked Bytes x (copies_below p.shape f.looked Bytes x listed)) ∙ listed

          go : (hit : Bool) → (x == s) ≡ hit → x ≡ s
          go true e = eqb-true x s e
          go false e = absurd (true≢false (sym (sink_raised x (sink_of x copy e)) ∙ not-true (member prepares x) (and_left (not (member prepares x)) (member (copies_of p.shape f.looked Bytes) x) two)))

  -- ---- a look at brick b
  module _ (b : ℕ) (low : b < p.shape.n) (told : Told) (took : Bool) (reached : r.first_reached b ≡ true) (unsettled : rank r.step ≤ 10) (honest : IsHonest p (ask_by a b (look_at r.law.object) told took) older) where
    source_view : (v : View) × (r.first_views s ≡ Some v)
    source_view = held_view r.first_views s source_holds

    length_first : len_in (view_at s f.looked) ≡ len_of (r.first_views s)
    length_first = ap len_in (shows.viewed s (small s below)) ∙ len_is (r.first_views s)

    -- its view, where it has a copy
    first_view : (v : View) (u : View) → told ≡ Seen v → r.first_views b ≡ Some u → (v.marks.bytes.pending ≡ u.marks.bytes.pending) × (v.len ≡ len_at p older r.law.object b)
    first_view v u d e = (
        let w = seen_copy _ _ (copy_of p older r.law.object b) v took (subst (λ (x : Told). IsHonest p (ask_by a b (look_at r.law.object) x took) older) d honest) in
        let q = k.numbers (λ g. unsettled) b u e in
        let same : w.0 ≡ q.0 = cc (w.1, q.1) in
        (ap (λ (x : View). x.marks.bytes.pending) w.2 ∙ ap (λ (o : Object). o.marks.bytes.pending) same ∙ q.2, ap (λ (x : View). x.len) w.2 ∙ ap (λ (o : Option Object). length (content_in o)) (sym w.1))
        )

    unblamed : (v : View) → told ≡ Seen v → slice_index v.marks.bytes.pending s ≡ 0
    unblamed v d = go (r.first_views b) refl
      where
        clear : (u : View) → r.first_views b ≡ Some u → slice_index u.marks.bytes.pending s ≡ 0
        clear u e = none_against (slice_index u.marks.bytes.pending s) (ap (λ (o : Option View). not (accuses Bytes o s)) (sym e)
            ∙ all_yes p.shape.n (λ x. not (accuses Bytes (r.first_views x) s)) (and_right (holder r.first_views s && kept_by p s Bytes) (unaccused p.shape.n Bytes r.first_views s) source_good) b low)

        go : (u : Option View) → r.first_views b ≡ u → slice_index v.marks.bytes.pending s ≡ 0
        go (Some u) e = ap (λ (ns : List ℕ). slice_index ns s) (first_view v u d e).0 ∙ clear u e
        go None e = absurd (let w = seen_copy _ _ (copy_of p older r.law.object b) v took (subst (λ (x : Told). IsHonest p (ask_by a b (look_at r.law.object) x took) older) d honest) in cc (none b reached e, w.1))

    -- at the finish a copy is as long as the source
    as_long : r.part ≡ Finish → is_copy p.shape f.looked Bytes b ≡ true → len_at p older r.law.object b ≡ len_of (r.first_views s)
    as_long finish copy = go (b == s) refl
      where
        go : (hit : Bool) → (b == s) ≡ hit → len_at p older r.law.object b ≡ len_of (r.first_views s)
        go true e = ap (len_at p older r.law.object) (eqb-true b s e) ∙ k.source s source_view.0 possible source_view.1 ∙ ap len_of (sym source_view.1)
        go false e = (
            let sink = sink_of b copy e in
            let top = k.cut s b possible sink (inl later) in
            let filled = k.filled later s b possible sink in
            let done = k.ended finish s possible in
            omega (arith, top, filled, done)
            )

    -- what the look shows
    shown_length : (view : Option View) → ((told ≡ NoObject) × (view ≡ None)) ⊎ ((v : View) × (told ≡ Seen v) × (view ≡ Some v)) → r.part ≡ Finish → is_copy p.shape f.looked Bytes b ≡ true → len_in view ≡ len_of (r.first_views s)
    shown_length view (inl w) finish copy = absurd (
        let v = held_view r.first_views b (copy_holds b copy).1 in
        let q = k.numbers (λ g. unsettled) b v.0 v.1 in
        let gone : copy_of p older r.law.object b ≡ None = unseen_copy _ _ (copy_of p older r.law.object b) took (subst (λ (x : Told). IsHonest p (ask_by a b (look_at r.law.object) x took) older) w.0 honest) in
        cc (gone, q.1)
        )
    shown_length view (inr w) finish copy = (
        let v = held_view r.first_views b (copy_holds b copy).1 in
        ap len_in w.2 ∙ (first_view w.0 v.0 w.1 v.1).1 ∙ as_long finish copy
        )

    -- the row of the brick
    pub row_here : (looked : Looked) → ((told ≡ NoObject) × (view_at b looked ≡ None)) ⊎ ((v : View) × (told ≡ Seen v) × (view_at b looked ≡ Some v)) → Row p.shape f.looked prepares looked whole b
    row_here looked shown = record {
      source = subst (λ (x : ℕ). is_copy p.shape f.looked Bytes x ≡ true) (sym source_is) (copy_is s below source_holds source_keeps);
      blames = λ v e. subst (λ (x : ℕ). slice_index v.marks.bytes.pending x ≡ 0) (sym source_is) (unblamed v (elim shown [ inl w ↦ absurd (cc (w.1, e)) | inr w ↦ w.1 ∙ ap Seen (let same : w.0 ≡ v = cc (w.2, e) in same) ]));
      length = λ all copy. shown_length (view_at b looked) shown (finish all) copy ∙ sym length_first ∙ ap (λ (x : ℕ). len_in (view_at x f.looked)) (sym source_is);
    }
      where
        finish : whole ≡ true → r.part ≡ Finish
        finish e = last r.part later (λ piece. true≢false (sym e ∙ shows.piece piece))
          where
            last : (part : HealPart) → (part ≡ Opening → ⊥) → (part ≡ Piece → ⊥) → part ≡ Finish
            last Opening g h = absurd (g refl)
            last Piece g h = absurd (h refl)
            last Finish g h = refl
